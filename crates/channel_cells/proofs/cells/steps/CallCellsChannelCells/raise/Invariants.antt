use Rattle.std.proofs.Common.{false}
use Rattle.channel_calls.specs.Deeds.{raised}
use Rattle.channel_history.specs.Cells.{Did}
use Rattle.channel_cells.proofs.cells.steps.CallCellsChannelCells.raise.Given as goal

abbrev pub ghosts-turn_by : goal.ghosts-turn_by
ghosts-turn_by g a = record { to = λ u v. Did a.self.now.seat.me.0.form (raised a._about.now a._and.now false) u v }
