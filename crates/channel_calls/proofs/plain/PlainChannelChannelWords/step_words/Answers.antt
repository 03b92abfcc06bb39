use Rattle.std.proofs.Common.{refl}
use Rattle.channel_calls.proofs.PlainForm.{form_kept, step_is}
use Rattle.channel_calls.proofs.plain.PlainChannelChannelWords.step_words.Goals as goal

pub returns-clause-deed : goal.returns-clause-deed
returns-clause-deed g c = (step_is c.args.self.now.cells c.step.new.cells c.args.call.now c.step.new.self c.step.result c.step.ensures.deed, refl)

pub returns-clause-form : goal.returns-clause-form
returns-clause-form g c f is = form_kept f c.args.self.now.cells c.step.new.cells c.args.call.now c.step.new.self c.step.result c.step.ensures.deed is
