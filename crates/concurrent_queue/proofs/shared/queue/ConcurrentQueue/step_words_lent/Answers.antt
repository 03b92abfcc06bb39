use Rattle.std.proofs.Common.{◌∙◌}
use Rattle.concurrent_queue.specs.SharedQueue.{form_in}
use Rattle.concurrent_queue.proofs.Traces.{lent_step, same_after_step}
use Rattle.concurrent_queue.proofs.shared.queue.ConcurrentQueue.step_words_lent.Goals as goal

pub returns-clause-same_reference : goal.returns-clause-same_reference
returns-clause-same_reference g c =
    let made = c.step_words_seen-answer.result in
    c.into_trace-trace.ensures.same_reference ∙ same_after_step g.S.Trace.did (form_in c.args.self.now) c.args.call.now c.step_words_seen-answer.new.call c.args.lent made.1 made.0 c.step_words_seen-answer.ensures.deed

pub returns-clause-deed : goal.returns-clause-deed
returns-clause-deed g c =
    let made = c.step_words_seen-answer.result in
    rw (c.into_trace-trace.ensures.unchanged) (lent_step g.S.Trace.did (form_in c.args.self.now) c.args.call.now c.step_words_seen-answer.new.call c.args.lent made.1 made.0 c.step_words_seen-answer.ensures.deed)
