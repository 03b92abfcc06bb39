use Rattle.std.proofs.Common.{◌≡◌, ap, refl, rules}
use Rattle.concurrent_queue.specs.Walked.{standing}
use Rattle.concurrent_queue.specs.declared.queue_call.CallState.{CallState}
use Rattle.concurrent_queue.proofs.queue_call.fast_path.call_fast.Goals as goal

pub returns-in_default-clause-deeds : goal.returns-in_default-clause-deeds
returns-in_default-clause-deeds g c =
    let form = g.C.Cells.form_of c.args.cells.now in
    let kept : c.going_on.result.state ≡ c.args.call.state = search rules in
    (0, (refl, ap (λ (at : CallState g.row.T.Denot). standing form at) kept))
