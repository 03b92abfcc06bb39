use Rattle.std.proofs.Common.{sym, ◌∙◌}
use Rattle.async_channel_tests.proofs.beside.cells.BesideChannelWordsU64U32.step_words.Goals as goal

pub returns-clause-answers : goal.returns-clause-answers
returns-clause-answers g c f is = c.step_words.ensures.answers f (is ∙ sym c.before-2.ensures)
