-- From what is refused of a channel by names.
use Rattle.channel_world.proofs.Lemmas.{◌∙◌, ap, WorldState, world_state_of, inside_is}
use Rattle.channel_world_runs.specs.Refusal as names
use Rattle.channel_world.proofs.Whole.{refused_alike}
use Rattle.channel_world.proofs.world.World.refusal.Goals as goal

pub returns : goal.returns
returns g c =
    c.refusal.ensures
    ∙ (ap (λ (f : WorldState g.row.T.Denot). names.begin_refusal f.name_table c.args.call.now) (inside_is c.self.inside.world_state c.args.self.now c.self.view_is)
    ∙ refused_alike c.a_call_made_alone_is_the_models.ensures.refused (world_state_of c.args.self.now) c.keeps_names.ensures.stands c.requires.quiet c.args.call.now)
