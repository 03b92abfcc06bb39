use Rattle.std.proofs.Common.{◌≡◌, map, take, Some, None, ◌+◌, length}
use Rattle.atomic_blocks.specs.Cells.{cell}
use Rattle.growing_table.proofs.fresh.row_of.Given as goal

abbrev pub invariant-cells : goal.invariant-cells
invariant-cells g l = (l.row.heap ≡ l.initial.row.heap) × (l.row.at ≡ l.initial.row.at) × (l.row.left + l.i ≡ length l.words) × (l.row.cells ≡ map (λ x. cell x l.link.ptr (Some None)) (take l.i l.words))
