use Rattle.std.proofs.Common.{ap, ◌∙◌, refl, subst, sym}
use Rattle.concurrent_queue.specs.Memory.{memory_form}
use Rattle.concurrent_queue.specs.Replies.{Follows}
use Rattle.concurrent_queue.specs.SharedQueue.{form_in}
use Rattle.concurrent_queue.specs.declared.cells.QueueForm.{QueueForm}
use Rattle.concurrent_queue.proofs.Traces.{step_here}
use Rattle.concurrent_queue.proofs.shared.queue.ConcurrentQueue.step_seen.Goals as goal

pub returns-in-Ruled-clause-deed : goal.returns-in-Ruled-clause-deed
returns-in-Ruled-clause-deed g c =
    step_here g.S.Trace.did (form_in c.args.self.now) _ c.args.trace c.args.trace (sym (ap memory_form c.in-Ruled.is) ∙ c.args.self.now.fits) refl c.args.call.now c.step.new.call c.step.result.0 c.step.result.1 c.step.ensures.deed

pub returns-in-Ruled-clause-answers : goal.returns-in-Ruled-clause-answers
returns-in-Ruled-clause-answers g c =
    subst (λ (f : QueueForm). Follows f c.args.call.now c.step.new.call c.step.result.0) (sym (ap memory_form c.in-Ruled.is) ∙ c.args.self.now.fits) c.step.ensures.answers

pub returns-in-Endless-clause-deed : goal.returns-in-Endless-clause-deed
returns-in-Endless-clause-deed g c =
    step_here g.S.Trace.did (form_in c.args.self.now) _ c.args.trace c.args.trace (sym (ap memory_form c.in-Endless.is) ∙ c.args.self.now.fits) refl c.args.call.now c.step-in-Endless.new.call c.step-in-Endless.result.0 c.step-in-Endless.result.1 c.step-in-Endless.ensures.deed

pub returns-in-Endless-clause-answers : goal.returns-in-Endless-clause-answers
returns-in-Endless-clause-answers g c =
    subst (λ (f : QueueForm). Follows f c.args.call.now c.step-in-Endless.new.call c.step-in-Endless.result.0) (sym (ap memory_form c.in-Endless.is) ∙ c.args.self.now.fits) c.step-in-Endless.ensures.answers
