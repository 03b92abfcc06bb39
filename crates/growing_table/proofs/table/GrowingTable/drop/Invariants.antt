use Rattle.std.proofs.Common.{◌≡◌}
use Rattle.growing_table.specs.Ending.{Ending}
use Rattle.growing_table.proofs.table.GrowingTable.drop.Given as goal

abbrev pub invariant-rest : goal.invariant-rest
invariant-rest g l = (l.closed.heap ≡ l.initial.closed.heap) × Ending l.words l.cells l.root.ptr l.top.ptr l.number l.closed.rows

abbrev pub decreases-rest : goal.decreases-rest
decreases-rest g l = l.number
