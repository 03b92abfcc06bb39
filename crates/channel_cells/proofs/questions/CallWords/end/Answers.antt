use Rattle.channel_history.proofs.CallEnds.{ends_turn}
use Rattle.channel_cells.specs.Words.{words_form, words_view}
use Rattle.channel_cells.proofs.questions.CallWords.end.Goals as goal

pub turn_by-requires : goal.turn_by-requires
turn_by-requires g c =
    let e = c.requires.ended in
    record { next = (e.0, (ends_turn (words_form c.args.self) g.E.Answers.gave (words_view c.args.self) e.0 e.1).0, e.1) }
