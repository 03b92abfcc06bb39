use Rattle.channel_history.specs.CallSections.{RegisteredTo}
use Rattle.channel_cells.proofs.cells.steps.CallCellsChannelCells.register.Given as goal

abbrev pub ghosts-turn_by : goal.ghosts-turn_by
ghosts-turn_by g a = record { to = λ u v. RegisteredTo a.self.now.seat.me.0.form a._about.now.0 a._about.now.1 a._and.now u v }
