use Rattle.std.proofs.Common.{◌∙◌, sym}
use Rattle.channel_cells.specs.Words.{words_form, words_view}
use Rattle.channel_cells.proofs.Asking.{stands_whole, did_whole}
use Rattle.channel_cells.proofs.questions.CallWordsChannelWords.step_words.Goals as goal

pub complete_question-requires-clause-stands : goal.complete_question-requires-clause-stands
complete_question-requires-clause-stands g c =
    let s = c.args.self.now in
    stands_whole (words_form s) (words_view s) c.args.call.now c.replace-whole.result c.replace-whole.ensures.value c.requires.may

pub returns-clause-deed : goal.returns-clause-deed
returns-clause-deed g c =
    let done = did_whole c.args.self.now.queue c.complete_question.new.cells c.args.call.now c.replace-whole.result c.replace-whole.new.dest c.complete_question.result c.replace-whole.ensures.value c.requires.may c.complete_question.ensures.answers c.complete_question.ensures.walked in
    (done.0, done.1, done.2.0)

pub returns-clause-form : goal.returns-clause-form
returns-clause-form g c f is =
    let done = did_whole c.args.self.now.queue c.complete_question.new.cells c.args.call.now c.replace-whole.result c.replace-whole.new.dest c.complete_question.result c.replace-whole.ensures.value c.requires.may c.complete_question.ensures.answers c.complete_question.ensures.walked in
    is ∙ sym done.1
