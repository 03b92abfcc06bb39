use Rattle.std.proofs.Common.{ap, ◌∙◌, refl, subst, sym}
use Rattle.concurrent_queue.specs.Memory.{memory_form}
use Rattle.concurrent_queue.specs.SharedQueue.{form_in}
use Rattle.concurrent_queue.specs.Replies.{MayAnswer}
use Rattle.concurrent_queue.specs.declared.cells.QueueForm.{QueueForm}
use Rattle.concurrent_queue.specs.declared.queue_call.CallState.TheVariants.{Asked}
use Rattle.concurrent_queue.proofs.Traces.{walked_here}
use Rattle.concurrent_queue.proofs.shared.queue.ConcurrentQueue.make_seen.Goals as goal

pub returns-in-Endless-clause-walked : goal.returns-in-Endless-clause-walked
returns-in-Endless-clause-walked g c =
    walked_here g.S.Trace.did (form_in c.args.self.now) _ c.args.trace c.args.trace (sym (ap memory_form c.in-Endless.is) ∙ c.args.self.now.fits) refl (Asked c.args.ask) (c.make.result.0) c.make.result.1 c.make.ensures.walked

pub returns-in-Endless-clause-answers : goal.returns-in-Endless-clause-answers
returns-in-Endless-clause-answers g c =
    subst (λ (f : QueueForm). MayAnswer f c.args.ask c.make.result.0) (sym (ap memory_form c.in-Endless.is) ∙ c.args.self.now.fits) c.make.ensures.answers
