use Rattle.std.proofs.Common.{◌≡◌, replicate, Some, None, ◌+◌}
use Rattle.atomic_blocks.specs.Cells.{cell}
use Rattle.growing_table.proofs.fresh.zeros.Given as goal

abbrev pub invariant-cells : goal.invariant-cells
invariant-cells g l = (l.row.heap ≡ l.initial.row.heap) × (l.row.at ≡ l.initial.row.at) × (l.row.left + l.i ≡ l.len) × (l.row.cells ≡ replicate l.i (cell 0 l.link.ptr (Some None)))
