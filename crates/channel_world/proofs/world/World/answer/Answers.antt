-- From the law that a call made alone is the model's.
use Rattle.channel_world.proofs.Lemmas.{◌∙◌, sym, ap, leads_nowhere, stands_led, begin_refusal, WorldState, leads_whatever, world_state_of, inside_is}
use Rattle.channel_world.proofs.Whole.{refused_alike, wakes_few, answers_whatever}
use Rattle.channel_world.proofs.world.World.answer.Goals as goal

pub call_alone-requires-clause-accepted : goal.call_alone-requires-clause-accepted
call_alone-requires-clause-accepted g c =
    ap (λ (f : WorldState g.row.T.Denot). begin_refusal f.name_table c.args.call) (inside_is c.self.inside.world_state c.args.self.now c.self.view_is)
    ∙ (refused_alike c.a_call_made_alone_is_the_models.ensures.refused (world_state_of c.args.self.now) c.keeps_names.ensures.stands c.requires.quiet c.args.call
    ∙ c.requires.accepted)

pub call_alone-requires-clause-room : goal.call_alone-requires-clause-room
call_alone-requires-clause-room g c =
    let laws = c.a_call_made_alone_is_the_models.ensures in
    let k = c.keeps_names.ensures in
    rw (inside_is c.self.inside.world_state c.args.self.now c.self.view_is)
    (wakes_few laws.refused (world_state_of c.args.self.now) k.stands c.requires.quiet c.args.call laws.answered c.requires.accepted c.in-Some.room c.in-Some.ensures)

pub returns-clause-leads : goal.returns-clause-leads
returns-clause-leads g c =
    let a = c.call_alone.ensures in
    let accepted = refused_alike c.a_call_made_alone_is_the_models.ensures.refused (world_state_of c.args.self.now) c.keeps_names.ensures.stands c.requires.quiet c.args.call
    ∙ c.requires.accepted in
    leads_whatever c.args.call (world_state_of c.args.self.now) c.call_alone.new.self c.call_alone.result c.requires.quiet
    accepted (rw (sym (inside_is c.self.inside.world_state c.args.self.now c.self.view_is)) a.ok) (rw (sym (inside_is c.self.inside.world_state c.args.self.now c.self.view_is)) a.err)

pub invariant_of-self : goal.invariant_of-self
invariant_of-self g c = stands_led (world_state_of c.args.self.now) c.call_alone.new.self _ c.keeps_names.ensures.stands (returns-clause-leads g c)

pub returns-clause-ok : goal.returns-clause-ok
returns-clause-ok g c =
    let laws = c.a_call_made_alone_is_the_models.ensures in
    let k = c.keeps_names.ensures in
    answers_whatever laws.refused (world_state_of c.args.self.now) k.stands c.requires.quiet c.args.call laws.answered c.requires.accepted c.call_alone.new.self
    c.call_alone.result c.call_alone.ensures.quiet (rw (sym (inside_is c.self.inside.world_state c.args.self.now c.self.view_is)) c.call_alone.ensures.ok)

pub returns-in_default-clause-leads : goal.returns-in_default-clause-leads
returns-in_default-clause-leads g c = leads_nowhere (world_state_of c.args.self.now)
