use Rattle.async_channel.specs.Handles.{form_of}
use Rattle.async_channel.proofs.Steps.{one_step}
use Rattle.async_channel.proofs.cells.SharedWordsWords.step_told.Goals as goal

pub returns-clause-deed : goal.returns-clause-deed
returns-clause-deed g c =
    one_step g.S.Trace-2.did (form_of c.args.self.now.shared.now) c.args.call.now c.args.trace.now c.step_words_told.new.call c.step_words_told.result c.step_words_told.new.trace c.step_words_told.ensures.deed
