use Rattle.channel_world.proofs.Lemmas.{arith, subst, name_state_of, StopsAt, ran_leads, all_used_up, place_is, all_made, world_state_of}
use Rattle.channel_world.proofs.HeadlineFacts.{headline, ends_in_front, counted}
use Rattle.channel_world.proofs.world.World.run_steps.Goals as goal

pub returns-clause-headline : goal.returns-clause-headline
returns-clause-headline g c =
    headline c.args.steps.now.items c.make_steps.new.steps.items (world_state_of c.args.self.now) c.make_steps.result.trace.items c.make_steps.result.stopped
    (world_state_of c.make_steps.new.self) c.make_steps.ensures.ran
    (subst (λ n. StopsAt (name_state_of (world_state_of c.make_steps.new.self)) c.make_steps.new.steps.items n c.make_steps.result.stopped)
    c.make_steps.result.trace.ok.0 c.make_steps.ensures.stopped)

pub returns-clause-soon : goal.returns-clause-soon
returns-clause-soon g c =
    λ s stands party free. ends_in_front c.args.steps.now.items _ c.args.self.now _ _ _ s (returns-clause-headline g c s stands) party free

pub returns-clause-the_end : goal.returns-clause-the_end
returns-clause-the_end g c =
    (returns-clause-headline g c c.keeps.ensures.configuration c.keeps.ensures.stands).after_the_end

pub returns-clause-leads : goal.returns-clause-leads
returns-clause-leads g c =
    record {
      on = ran_leads c.args.steps.now.items c.make_steps.new.steps.items (world_state_of c.args.self.now) c.make_steps.result.trace.items (world_state_of c.make_steps.new.self) c.make_steps.ensures.ran;
    }

pub returns-clause-messages : goal.returns-clause-messages
returns-clause-messages g c =
    counted c.args.steps.now.items c.make_steps.new.steps.items (world_state_of c.args.self.now) c.make_steps.result.trace.items (world_state_of c.make_steps.new.self) c.make_steps.ensures.ran
    c.keeps.ensures

pub returns-clause-used_up : goal.returns-clause-used_up
returns-clause-used_up g c =
    λ none.
    all_used_up (name_state_of (world_state_of c.make_steps.new.self)) c.make_steps.new.steps.items _ c.make_steps.result.stopped c.make_steps.ensures.stopped none

pub returns-clause-place : goal.returns-clause-place
returns-clause-place g c =
    place_is (name_state_of (world_state_of c.make_steps.new.self)) c.make_steps.new.steps.items _ c.make_steps.result.stopped c.make_steps.ensures.stopped

pub returns-clause-made : goal.returns-clause-made
returns-clause-made g c =
    let all = all_made c.args.steps.now.items c.make_steps.new.steps.items (world_state_of c.args.self.now) c.make_steps.result.trace.items (world_state_of c.make_steps.new.self) c.make_steps.ensures.ran c.keeps.ensures in
    let count = c.make_steps.result.trace.ok.0 in
    omega (arith, all, count)
