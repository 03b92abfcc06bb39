-- What the rows ask at a step on a word, from what the table asks.
use Rattle.std.proofs.Common.{◌≡◌, ℕ, ◌+◌, ◌-◌, ◌<◌, ◌≤◌, ◌^◌, ◌∙◌, sym, subst, arith}
use Rattle.std.specs.Prelude.{Option}
use denote.RawPtr.{Ptr, InBlock}
use Rattle.atomic_blocks.specs.Cells as cells
use Rattle.growing_table.specs.State.{State, Me, own, within, Allows}
use Rattle.growing_table.specs.Laid.{KitMe, Grown, plain_me}
use Rattle.growing_table.specs.Told.{Stays}
use Rattle.growing_table.specs.Seats.{me_of, number_of, Sits, Finds}
use Rattle.growing_table.specs.declared.seat.GrowingSeat.{GrowingSeat}
use Rattle.growing_table.specs.declared.seat.Place.{Place}
use Rattle.growing_table.specs.declared.table.GrowingTable.{GrowingTable}
use Rattle.growing_table.proofs.Steps.{allows_root, allows_block}

module _ {T V K P A : Type 0} (holds : State (Option T) V → Type 0) (t : GrowingTable T V K P A) (s : GrowingSeat T V A) where
  abbrev Asked : ℕ → Ptr → ℕ → (ℕ → ℕ) → (ℕ → Me (Option T) V → Type 0) → Type 0
  Asked k p i f then = (s.seat.rows ≡ t.rows.id) × (s.seat.heap ≡ t.rows.heap) × InBlock p × (i < 2 ^ 40)
      × cells.Allows (Grown t.rows.key.words t.rows.key.cells t.rows.key.root.ptr t.rows.key.top.ptr holds) s.seat.id s.seat.me k p i f (λ (r : ℕ) (m' : KitMe (Option T) V). Stays s.seat.me m' × then r (plain_me m'))

  pub own_asks : (i : ℕ) → Sits t s × (i < t.words) → (f : ℕ → ℕ) (then : ℕ → Me (Option T) V → Type 0) → Allows holds (number_of s) (me_of s) (own i) f then → Asked 0 t.root.ptr i f then
  own_asks i q f then law = let small : t.words ≤ 549755813888 = t.small.0 in let inside : i < t.words = q.1 in (
    q.0.0,
    q.0.1,
    t.rooted,
    omega arith,
    allows_root t.rows.key.words t.rows.key.cells t.rows.key.root.ptr t.rows.key.top.ptr holds s.seat.id s.seat.me (q.0.2 ∙ sym t.keyed.1) s.holding f then i t.root.ptr t.keyed.2 (subst (λ (x : ℕ). i < x) (sym t.keyed.0) inside) law,
  )

  pub block_asks : (p : Place T) (i : ℕ) → Sits t s × Finds s p × (i < t.cells) → (f : ℕ → ℕ) (then : ℕ → ℕ → Me (Option T) V → Type 0) → Allows holds (number_of s) (me_of s) (within p.number i) f (then p.number)
      → Asked (p.number + 2) p.link.ptr i f (then (p.number + 2 - 2))
  block_asks p i q f then law = let small : t.cells ≤ 549755813888 = t.small.2 in let inside : i < t.cells = q.2 in
      subst (λ (b : ℕ). Asked (p.number + 2) p.link.ptr i f (then b)) (let e : p.number ≡ p.number + 2 - 2 = omega arith in e) (
        q.0.0,
        q.0.1,
        p.placed,
        omega arith,
        allows_block t.rows.key.words t.rows.key.cells t.rows.key.root.ptr t.rows.key.top.ptr holds s.seat.id s.seat.me (q.0.2 ∙ sym t.keyed.1) s.holding f (then p.number) p.number i p.link.ptr (subst (λ (x : ℕ). i < x) (sym t.keyed.1) inside) q.1 law,
      )
