use Rattle.std.proofs.Common.{◌≡◌, ℕ, ◌+◌, ◌-◌, ◌<◌, ◌∙◌, length, refl, sym, ap, subst, arith}
use Rattle.std.specs.Prelude.{Option}
use Rattle.atomic_blocks.specs.Cells.{AllHome}
use Rattle.growing_table.specs.Laid.{Rows}
use Rattle.growing_table.specs.Ending.{Ending}
use Rattle.growing_table.proofs.Ends.{top_there, root_there, root_cells, root_homes, all_gone}
use Rattle.growing_table.proofs.TableEnds.{table_ends}
use Rattle.growing_table.proofs.table.GrowingTable.drop.Goals as goal

pub rest-init : goal.rest-init
rest-init g c = let t = c.args.self in let w = c.word-number.ensures in
    (refl, subst (λ (x : ℕ × Rows (Option g.row.T.Denot)). Ending t.words t.cells t.root.ptr t.top.ptr x.0 x.1) (λ i. (sym w.1 i, (sym w.0 i).rows)) (table_ends (g.P.GrowingRule.holds t.rows.key.about) t c.close-closed.result.rows c.close-closed.ensures.1))

pub free_last-requires-clause-rows : goal.free_last-requires-clause-rows
free_last-requires-clause-rows g c = let t = c.args.self in let h : 0 < c.rest.number = c.rest-test.true in
    (t.words, t.root.ptr, subst (λ (x : ℕ). Ending t.words t.cells t.root.ptr t.top.ptr x c.rest.closed.rows) (let e : c.rest.number ≡ c.rest.number - 1 + 1 = omega arith in e) c.rest.invariant.1)

pub free_last-requires-clause-heap : goal.free_last-requires-clause-heap
free_last-requires-clause-heap g c = let t = c.args.self in (c.rest.invariant.0 ∙ (ap (λ z. z.heap) c.word-number.ensures.0 ∙ (c.close-closed.ensures.0 ∙ t.keyed.4)), t.topped, t.small.3)

pub rest-preserved : goal.rest-preserved
rest-preserved g c = let t = c.args.self in let h : 0 < c.rest.number = c.rest-test.true in (
  c.free_last.ensures.heap ∙ c.rest.invariant.0,
  c.free_last.ensures.rows t.words t.root.ptr (subst (λ (x : ℕ). Ending t.words t.cells t.root.ptr t.top.ptr x c.rest.closed.rows) (let e : c.rest.number ≡ c.rest.number - 1 + 1 = omega arith in e) c.rest.invariant.1),
)

pub take-requires : goal.take-requires
take-requires g c = let t = c.args.self in let none : c.rest.number ≡ 0 = (let h = c.rest-test.false in omega arith) in
    top_there t.words t.cells t.root.ptr t.top.ptr c.rest.closed.rows (subst (λ (x : ℕ). Ending t.words t.cells t.root.ptr t.top.ptr x c.rest.closed.rows) none c.rest.invariant.1)

pub free-requires : goal.free-requires
free-requires g c = let t = c.args.self in let e = c.rest.invariant.1 in let so = c.take.ensures.taken in
    (so.0 ∙ (c.rest.invariant.0 ∙ (ap (λ z. z.heap) c.word-number.ensures.0 ∙ (c.close-closed.ensures.0 ∙ t.keyed.4))), so.1, t.topped, ap length so.2 ∙ e.top_long, so.3, subst AllHome (sym so.2) e.top_home)

pub take-requires-2 : goal.take-requires-2
take-requires-2 g c = let t = c.args.self in let none : c.rest.number ≡ 0 = (let h = c.rest-test.false in omega arith) in
    root_there t.words t.cells t.root.ptr t.top.ptr c.rest.closed.rows (subst (λ (x : ℕ). Ending t.words t.cells t.root.ptr t.top.ptr x c.rest.closed.rows) none c.rest.invariant.1) c.take.new.self.rows c.take.ensures.left.1 t.small.1

pub free-requires-2 : goal.free-requires-2
free-requires-2 g c = let t = c.args.self in let none : c.rest.number ≡ 0 = (let h = c.rest-test.false in omega arith) in let so = c.take-2.ensures.taken in
    let e = subst (λ (x : ℕ). Ending t.words t.cells t.root.ptr t.top.ptr x c.rest.closed.rows) none c.rest.invariant.1 in (
      so.0 ∙ (c.take.ensures.left.0 ∙ (c.rest.invariant.0 ∙ (ap (λ z. z.heap) c.word-number.ensures.0 ∙ (c.close-closed.ensures.0 ∙ t.keyed.4)))),
      so.1,
      t.rooted,
      ap length so.2 ∙ root_cells t.words t.cells t.root.ptr t.top.ptr c.rest.closed.rows e c.take.new.self.rows c.take.ensures.left.1,
      so.3,
      subst AllHome (sym so.2) (root_homes t.words t.cells t.root.ptr t.top.ptr c.rest.closed.rows e c.take.new.self.rows c.take.ensures.left.1),
    )

pub drop-closed-requires : goal.drop-closed-requires
drop-closed-requires g c = let t = c.args.self in let none : c.rest.number ≡ 0 = (let h = c.rest-test.false in omega arith) in
    all_gone t.words t.cells t.root.ptr t.top.ptr c.rest.closed.rows (subst (λ (x : ℕ). Ending t.words t.cells t.root.ptr t.top.ptr x c.rest.closed.rows) none c.rest.invariant.1) c.take.new.self.rows c.take.ensures.left.1 c.take-2.new.self.rows c.take-2.ensures.left.1
