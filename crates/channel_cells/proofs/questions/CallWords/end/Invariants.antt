use Rattle.channel_history.specs.CallEnds.{EndsSo}
use Rattle.channel_cells.proofs.questions.CallWords.end.Given as goal

abbrev pub ghosts-turn_by : goal.ghosts-turn_by
ghosts-turn_by g a = record { to = EndsSo a.self.now.seat.me.0.form g.E.Answers.gave }
