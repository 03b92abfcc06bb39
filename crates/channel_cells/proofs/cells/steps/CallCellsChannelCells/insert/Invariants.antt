use Rattle.channel_calls.specs.Deeds.{inserted}
use Rattle.channel_history.specs.CallSections.{SectionTo}
use Rattle.channel_cells.proofs.cells.steps.CallCellsChannelCells.insert.Given as goal
use Rattle.channel_cells.specs.Cells.{form_in}

abbrev pub ghosts-happen : goal.ghosts-happen
ghosts-happen g a = record { to = λ u v. SectionTo (form_in a.self.now) a.about.now.0 (inserted a.about.now.0 a.about.now.1) a.and.now.value.lists u v }
