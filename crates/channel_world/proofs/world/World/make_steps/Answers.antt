-- From a run of a channel by names: what stood, stands at its end.
use Rattle.channel_world.proofs.Lemmas.{subst, RanTo, WorldState, inside_is}
use Rattle.channel_world.proofs.world.World.make_steps.Goals as goal

pub invariant_of-self : goal.invariant_of-self
invariant_of-self g c =
    let before = c.self.invariant in
    let ran = c.run_steps.ensures.ran before.configuration before.stands in
    record { configuration = ran.last; stands = ran.stands }

pub returns-clause-ran : goal.returns-clause-ran
returns-clause-ran g c =
    subst (λ (f : WorldState g.row.T.Denot). RanTo c.args.steps.now.items c.run_steps.new.steps.items f c.run_steps.result.trace.items c.run_steps.new.self)
    (inside_is c.self.inside.world_state c.args.self.now c.self.view_is) c.run_steps.ensures.ran

pub returns-clause-stands : goal.returns-clause-stands
returns-clause-stands g c =
    let before = c.self.invariant in
    let ran = c.run_steps.ensures.ran before.configuration before.stands in
    record { configuration = ran.last; stands = ran.stands }
