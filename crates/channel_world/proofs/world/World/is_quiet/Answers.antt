use Rattle.channel_world.proofs.Lemmas.{subst, TellsQuiet, WorldState, inside_is}
use Rattle.channel_world.proofs.SleepFacts.{tells_quiet}
use Rattle.channel_world.proofs.world.World.is_quiet.Goals as goal

pub returns : goal.returns
returns g c =
    subst (λ (f : WorldState g.row.T.Denot). TellsQuiet f c.is_empty.result) (inside_is c.self.inside.world_state c.args.self.now c.self.view_is)
    (tells_quiet c.self.inside.world_state c.is_empty.result c.is_empty.ensures)
