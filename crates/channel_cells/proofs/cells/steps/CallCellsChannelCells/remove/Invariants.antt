use Rattle.std.proofs.Common.{true}
use Rattle.event_listener.specs.Lists.{removed_wakes}
use Rattle.channel_calls.specs.Deeds.{taken_off}
use Rattle.channel_history.specs.CallSections.{AnsweredTo}
use Rattle.channel_cells.proofs.cells.steps.CallCellsChannelCells.remove.Given as goal
use Rattle.channel_cells.specs.Cells.{form_in}

abbrev pub ghosts-happen : goal.ghosts-happen
ghosts-happen g a = record { to = λ u v. AnsweredTo (form_in a.self.now) a.about.now.0 (λ l. taken_off a.about.now.0 a.about.now.1 (removed_wakes a.about.now.1 true l)) a.and.now.value.lists u v }
