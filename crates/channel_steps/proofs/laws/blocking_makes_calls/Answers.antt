-- From its rounds, and from each step of a walk, noted.
use Rattle.channel_calls.specs.Blocks.{Asked, Slept}
use Rattle.channel_calls.specs.Deeds.{Done}
use Rattle.channel_steps.specs.every_run.Bridge.{InCells}
use Rattle.channel_steps.specs.every_run.BridgeBlocks.{Rested}
use Rattle.channel_steps.proofs.every_run.BridgeBlocks.{blocks_in_calls}
use Rattle.channel_steps.proofs.every_run.BridgeWalks.{stands_act, walks_act}
use Rattle.channel_steps.proofs.laws.blocking_makes_calls.Goals as goal

pub returns : goal.returns
returns g c =
    let did = Rested (Done g.C.ChannelCells.did g.S.Wakes.wakes) (Asked g.C.Sleeps.parked) (Slept g.C.Sleeps.slept) in
    record {
      calls = blocks_in_calls (Done g.C.ChannelCells.did g.S.Wakes.wakes) (Asked g.C.Sleeps.parked) (Slept g.C.Sleeps.slept);
      acts = λ view. walks_act did (InCells g.Q.Cells.did view);
      stands = λ view. stands_act did (InCells g.Q.Cells.did view);
    }
