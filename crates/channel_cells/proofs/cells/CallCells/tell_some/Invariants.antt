use Rattle.channel_calls.specs.Deeds.{told}
use Rattle.channel_calls.specs.Parts.{told_as_wakes}
use Rattle.channel_history.specs.CallSections.{AnsweredTo}
use Rattle.channel_cells.proofs.cells.CallCells.tell_some.Given as goal
use Rattle.channel_cells.specs.Cells.{form_in}

abbrev pub ghosts-happen : goal.ghosts-happen
ghosts-happen g a = record { to = λ u v. AnsweredTo (form_in a.self.now) a.about.now.0 (λ l. told a.about.now.0 a.about.now.1 (told_as_wakes a.about.now.1 l)) a.and.now.value.lists u v }
