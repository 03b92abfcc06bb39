use Rattle.std.proofs.Common.{refl, sym, subst}
use Rattle.concurrent_queue.specs.Replies.{Follows}
use Rattle.concurrent_queue.specs.declared.cells.QueueForm.{QueueForm}
use Rattle.channel_calls.proofs.PlainForm.{form_kept, step_is}
use Rattle.channel_calls.proofs.plain.PlainChannelChannelCells.step_queue.Goals as goal

pub returns-clause-deed : goal.returns-clause-deed
returns-clause-deed g c = ((step_is c.args.self.now.cells c.step.new.cells c.args.call.now c.step.new.self c.step.result c.step.ensures.deed, refl), refl)

pub returns-clause-answers : goal.returns-clause-answers
returns-clause-answers g c f is = subst (λ (x : QueueForm). Follows x c.args.call.now c.step.new.self c.step.result) (sym is) c.step.ensures.answers

pub returns-clause-form : goal.returns-clause-form
returns-clause-form g c f is = form_kept f c.args.self.now.cells c.step.new.cells c.args.call.now c.step.new.self c.step.result c.step.ensures.deed is
