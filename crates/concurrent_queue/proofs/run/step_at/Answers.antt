use Rattle.std.proofs.Common.{◌≡◌, rules, arith, refl}
use Rattle.std.proofs.lemmas.Option.{slice_get_read}
use Rattle.concurrent_queue.proofs.Bridge.{made_is_step}
use Rattle.concurrent_queue.proofs.PartyFacts.{stepped, remove-set}
use Rattle.concurrent_queue.specs.Effects.{Does}
use Rattle.concurrent_queue.specs.Plain.{contents_of}
use Rattle.concurrent_queue.specs.Parties.{parties_after, party}
use Rattle.concurrent_queue.proofs.run.step_at.Goals as goal
use Rattle.concurrent_queue.proofs.run.step_at.Goals.{in-Some, in-None}

pub returns : goal.returns
returns g c =
    let x = c.index_mut-party.result.now in
    let ps = c.args.parties.now in
    let there = slice_get_read ps.items ps.len c.args.k x (omega (arith, ps.ok.0)) (search rules) c.index_mut-party.ensures.value in
    let after : c.match-reply.parties.items ≡ parties_after ps.items c.args.k (party x.id c.step-reply.new.self) c.step-reply.result =
    elim c.match-reply.branch [
      | in-Some w ↦ rw (w.in-Some.is, w.parties-is, w.leave.ensures) (remove-set ps.items c.args.k _)
      | in-None w ↦ rw (w.in-None.is, w.parties-is) refl
    ] in
    let made = made_is_step (λ d a b. Does d (contents_of a) (contents_of b)) contents_of (λ d a b done. done) c.args.cells.now.form c.args.cells.now x.call c.step-reply.new.cells c.step-reply.new.self c.step-reply.result refl c.step-reply.ensures.deed in
    stepped (contents_of c.args.cells.now) (contents_of c.step-reply.new.cells) ps.items c.match-reply.parties.items c.args.k x c.step-reply.new.self c.step-reply.result c.last_mark-mark.result there made c.last_mark-mark.ensures after
