use Rattle.std.proofs.Common.{◌≡◌, ◌∙◌, rules, arith, refl, ap, Some}
use Rattle.std.proofs.lemmas.Option.{slice_get_read, get_or_from_slice_get}
use Rattle.channel_calls.specs.Asks.{kept_by}
use Rattle.channel_steps.specs.Configuration.{after_step, left_by}
use Rattle.channel_steps.specs.declared.party.Party.{Party}
use Rattle.channel_steps.proofs.AfterStep.{get-set, remove-set}
use Rattle.channel_steps.proofs.ConfigurationFacts.{ids_after}
use Rattle.channel_steps.proofs.party.step_at.Goals as goal
use Rattle.channel_steps.proofs.party.step_at.Goals.{in-Some, in-None}

pub returns-clause-steps : goal.returns-clause-steps
returns-clause-steps g c known =
    let x = c.index_mut-party.result.now in
    let ps = c.args.parties.now in
    let there = slice_get_read ps.items ps.len c.args.k x (omega (arith, ps.ok.0)) (search rules) c.index_mut-party.ensures.value in
    let next = c.step-reply.new.self in
    let after : c.match-reply.parties.items ≡ after_step ps.items c.args.k next c.step-reply.result =
    elim c.match-reply.branch [ in-Some w ↦ rw (w.in-Some.is, w.parties-is, w.remove.ensures.items) (remove-set ps.items c.args.k _) | in-None w ↦ rw (w.in-None.is, w.parties-is) refl ] in
    let given : c.match-reply.kept ≡ left_by next c.step-reply.result =
    elim c.match-reply.branch [
      | in-Some w ↦ rw (w.in-Some.is, w.kept-is) (ap Some (w.into_kept.ensures ∙ ap (λ (p : Party g.row.T.Denot g.row.W.Denot). kept_by p.call.stage) (w.remove.ensures.value ∙ get_or_from_slice_get _ c.args.k next _ (get-set ps.items c.args.k next x there))))
      | in-None w ↦ rw (w.in-None.is, w.kept-is) refl
    ] in
    rw (c.last_mark-mark.ensures, given, after) (c.step-reply.ensures.steps known ps.items c.args.k there)

pub returns-clause-parties : goal.returns-clause-parties
returns-clause-parties g c =
    let x = c.index_mut-party.result.now in
    let ps = c.args.parties.now in
    let there = slice_get_read ps.items ps.len c.args.k x (omega (arith, ps.ok.0)) (search rules) c.index_mut-party.ensures.value in
    let next = c.step-reply.new.self in
    let after : c.match-reply.parties.items ≡ after_step ps.items c.args.k next c.step-reply.result =
    elim c.match-reply.branch [ in-Some w ↦ rw (w.in-Some.is, w.parties-is, w.remove.ensures.items) (remove-set ps.items c.args.k _) | in-None w ↦ rw (w.in-None.is, w.parties-is) refl ] in
    rw after (ids_after ps.items c.args.k x next there c.step-reply.ensures.id c.step-reply.result)

pub step-reply-requires : goal.step-reply-requires
step-reply-requires g c =
    let x = c.index_mut-party.result.now in
    let ps = c.args.parties.now in
    let there = slice_get_read ps.items ps.len c.args.k x (omega (arith, ps.ok.0)) (search rules) c.index_mut-party.ensures.value in
    record { stands = c.requires.stands x there }
