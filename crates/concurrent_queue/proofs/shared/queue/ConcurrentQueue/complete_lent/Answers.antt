use Rattle.std.proofs.Common.{◌∙◌}
use Rattle.concurrent_queue.specs.SharedQueue.{form_in}
use Rattle.concurrent_queue.proofs.Traces.{lent_walked, same_after_walk}
use Rattle.concurrent_queue.proofs.shared.queue.ConcurrentQueue.complete_lent.Goals as goal

pub returns-clause-same_reference : goal.returns-clause-same_reference
returns-clause-same_reference g c =
    let made = c.complete_seen-answer.result in
    c.into_trace-trace.ensures.same_reference ∙ same_after_walk g.S.Trace.did (form_in c.args.self.now) c.args.call.state c.args.lent made.1 made.0 c.complete_seen-answer.ensures.walked

pub returns-clause-walked : goal.returns-clause-walked
returns-clause-walked g c =
    let made = c.complete_seen-answer.result in
    rw (c.into_trace-trace.ensures.unchanged) (lent_walked g.S.Trace.did (form_in c.args.self.now) c.args.call.state c.args.lent made.1 made.0 c.complete_seen-answer.ensures.walked)
