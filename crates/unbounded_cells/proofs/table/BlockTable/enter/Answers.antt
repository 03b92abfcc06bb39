use Rattle.unbounded_cells.proofs.Parties.{enters_so}
use Rattle.unbounded_cells.proofs.table.BlockTable.enter.Goals as goal

pub load_new_seat-seat-requires-clause-rule : goal.load_new_seat-seat-requires-clause-rule
load_new_seat-seat-requires-clause-rule g c = enters_so g.P.Machine.keeps g.met.P.BlockMachine.blocks g.P.Machine.admits 24 (g.E.Picks.to g.P.Machine.first) c.requires.enters
