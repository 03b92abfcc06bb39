-- From each step of the walk, noted.
use Rattle.channel_calls.specs.Deeds.{Done}
use Rattle.channel_steps.specs.every_run.Bridge.{InCells}
use Rattle.channel_steps.proofs.every_run.BridgeWalks.{walks_act}
use Rattle.channel_steps.proofs.laws.walks_act.Goals as goal

pub returns : goal.returns
returns g c = record { acts = λ view. walks_act (Done g.C.ChannelCells.did g.S.Wakes.wakes) (InCells g.Q.Cells.did view) }
