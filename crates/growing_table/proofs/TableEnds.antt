-- What a table's rows are once no thread shares them.
use Rattle.std.proofs.Common.{◌≡◌, ℕ, sym}
use Rattle.std.specs.Prelude.{Option}
use denote.RawPtr.{Ptr}
use Rattle.atomic_blocks.specs.Cells.{word_of, Final}
use Rattle.growing_table.specs.State.{State}
use Rattle.growing_table.specs.Laid.{Rows, Grown}
use Rattle.growing_table.specs.Ending.{Ending}
use Rattle.growing_table.specs.declared.table.GrowingTable.{GrowingTable}
use Rattle.growing_table.proofs.Ends.{ending}

pub table_ends : {T V K P A : Type 0} (holds : State (Option T) V → Type 0) (t : GrowingTable T V K P A) (rows : Rows (Option T)) → Final (Grown t.rows.key.words t.rows.key.cells t.rows.key.root.ptr t.rows.key.top.ptr holds) rows
    → Ending t.words t.cells t.root.ptr t.top.ptr (word_of rows 1 0) rows
table_ends holds t rows f = Rattle.std.proofs.Common.subst (λ (x : ℕ × ℕ × Ptr × Ptr). Ending x.0 x.1 x.2 x.3 (word_of rows 1 0) rows) (λ i. (t.keyed.0 i, t.keyed.1 i, t.keyed.2 i, t.keyed.3 i)) (ending t.rows.key.words t.rows.key.cells t.rows.key.root.ptr t.rows.key.top.ptr holds rows f).0
