use Rattle.channel_history.specs.CallSections.{without_lists, lists_alone}
use Rattle.channel_cells.proofs.cells.CallCells.leave.Given as goal

abbrev pub ghosts-part : goal.ghosts-part
ghosts-part g a = record { stays = λ s. without_lists s; goes = λ s. lists_alone s }
