use Rattle.std.specs.Prelude.{[]}
use Rattle.channel_calls.specs.Deeds.{told}
use Rattle.channel_history.specs.Cells.{Did}
use Rattle.channel_cells.proofs.cells.steps.CallCellsChannelCells.tell.Given as goal

abbrev pub ghosts-pass_count : goal.ghosts-pass_count
ghosts-pass_count g a = record { to = λ u v. Did a.self.now.seat.me.0.form (told a._about.now a._and.now []) u v }
