-- What the rows ask where a block is found or made, from what the table asks.
use Rattle.std.proofs.Common.{◌≡◌, ℕ, zero, suc, ◌+◌, ◌-◌, ◌*◌, ◌<◌, ◌≤◌, ◌^◌, ◌∙◌, true, List, [], ◌∷◌, map, length, replicate, sym, refl, ap, subst, arith}
use Rattle.std.specs.Prelude.{Option, Some, None}
use mathlib.Core.Option.{some}
use lib.ListN.{get_elem?}
use denote.RawPtr.{Ptr, InBlock}
use Rattle.atomic_table.proofs.Lists.{set_again}
use Rattle.atomic_blocks.specs.Cells as cells
use Rattle.atomic_blocks.specs.Cells.{Row, Cell, row_at, AllHome}
use Rattle.atomic_blocks.specs.declared.rows.shared.Seat.{Seat}
use Rattle.atomic_blocks.specs.declared.rows.loose.Loose.{Loose}
use Rattle.growing_table.specs.State as plain
use Rattle.growing_table.specs.State.{State, Me, Step, step, count, Allows, Makes}
use Rattle.growing_table.specs.Laid.{KitMe, IsAt, IsNext, Reaches, front, word, home, more_cells, plain_block, plain_me, Holding, Grown}
use Rattle.growing_table.specs.Told.{on_count, on_making, saw_link, wrote_link}
use Rattle.growing_table.specs.declared.sight.Sight.{Sight}
use Rattle.growing_table.specs.declared.table.GrowingTable.{GrowingTable}
use Rattle.growing_table.proofs.Powers.{same_spot}
use Rattle.growing_table.proofs.Links.{first_row, first_at, link_seen, link_entered}
use Rattle.growing_table.proofs.Steps.{allows_count}
use Rattle.growing_table.proofs.NewBlock.{block_joins}

pub there_is : {A : Type 0} (l : List A) (i : ℕ) → i < length l → (a : A) × (get_elem? l i ≡ some a)
there_is [] i h = absurd (omega arith)
there_is (x ∷ xs) zero h = (x, refl)
there_is (x ∷ xs) (suc i) h = there_is xs i (omega arith)

-- the entry of a block that lies after its power of two
second_at : (n number d off : ℕ) (top r : Ptr) (chart : List Ptr) → 2 ^ d + off ≡ number + 1 → number + 1 < 2 * 2 ^ d → (off ≡ 0 → ⊥) → get_elem? chart (2 ^ d + 1) ≡ some r → Reaches n top chart number (2 ^ d + 1) r (n + off)
second_at n number d zero top r chart e h some_off found = absurd (some_off refl)
second_at n number d (suc j) top r chart e h some_off found = (d, suc j, (e, (let q : ℕ = 2 ^ d in let e' : q + suc j ≡ number + 1 = e in let h' : number + 1 < 2 * q = h in let t : suc j < q = omega arith in t)), refl, refl, found)

pub second : (n number d x : ℕ) (top r : Ptr) (chart : List Ptr) → x ≡ 2 ^ d → 2 ^ d ≤ number + 1 → number + 1 < 2 * 2 ^ d → (number + 1 - x ≡ 0 → ⊥) → get_elem? chart (2 ^ d + 1) ≡ some r → Reaches n top chart number (x + 1) r (n + (number + 1 - x))
second n number d x top r chart is low high some_off found = subst (λ (y : ℕ). Reaches n top chart number (y + 1) r (n + (number + 1 - y))) (sym is)
    (second_at n number d (number + 1 - 2 ^ d) top r chart (let q : ℕ = 2 ^ d in let l : q ≤ number + 1 = low in omega arith) high (λ e. some_off (ap (λ (y : ℕ). number + 1 - y) is ∙ e)) found)

-- a link in the top row was read, of a block that the seat knows
pub first_seen : {S V : Type 0} (m m' : KitMe S V) (d : ℕ) (q : Ptr) → 2 ^ d + 1 < length m.view.chart.places → saw_link 1 d m q m' → (get_elem? m.view.chart.places (2 ^ d + 1) ≡ some q) × InBlock q
first_seen m m' d q h told = let t = there_is m.view.chart.places (2 ^ d + 1) h in
    let found : get_elem? m.view.chart.places (suc (suc (2 ^ d - 1))) ≡ some t.0 = ap (get_elem? m.view.chart.places) (first_row d) ∙ t.1 in
    let so = told.1 (2 ^ d - 1) d 0 t.0 found (first_at d) refl refl in (t.1 ∙ ap some (sym so.0), subst InBlock (sym so.0) so.1)

-- the link of a block was read that the seat knows
pub link_found : {S V : Type 0} (m m' : KitMe S V) (top : Ptr) (b k i : ℕ) (p q : Ptr) → suc (suc b) < length m.view.chart.places → Reaches m.view.cells top m.view.chart.places b k p i → saw_link k i m q m' → (get_elem? m.view.chart.places (suc (suc b)) ≡ some q) × InBlock q
link_found m m' top b k i p q h r told = let t = there_is m.view.chart.places (suc (suc b)) h in let so = told.1 b r.0 r.1 t.0 t.1 r.2 r.3 r.4 in (t.1 ∙ ap some (sym so.0), subst InBlock (sym so.0) so.1)

module _ {S : Type 0} where
  front_zeros : (n k : ℕ) (c : S) → front (replicate (n + k) c) n ≡ replicate n c
  front_zeros zero zero c = refl
  front_zeros zero (suc k) c = subst (λ (x : ℕ). front (replicate x c) 0 ≡ []) (let e : suc k ≡ 0 + suc k = omega arith in e) refl
  front_zeros (suc n) k c = subst (λ (x : ℕ). front (replicate x c) (suc n) ≡ c ∷ replicate n c) (let e : suc (n + k) ≡ suc n + k = omega arith in e) (ap (λ (l : List S). c ∷ l) (front_zeros n k c))

  map_zeros : {B : Type 0} (f : S → B) (n : ℕ) (c : S) → map f (replicate n c) ≡ replicate n (f c)
  map_zeros f zero c = refl
  map_zeros f (suc n) c = ap (λ (l : List _). f c ∷ l) (map_zeros f n c)

  long_zeros : (n : ℕ) (c : S) → length (replicate n c) ≡ n
  long_zeros zero c = refl
  long_zeros (suc n) c = ap suc (long_zeros n c)

pub home_zeros : {S : Type 0} (n : ℕ) (c : Cell S) (y : S) → c.home ≡ Some y → AllHome (replicate n c)
home_zeros zero c y e = tt
home_zeros (suc n) c y e = ((y, e), home_zeros n c y e)

-- a step at which the client does nothing
pub still : {S V : Type 0} (holds : State S V → Type 0) (id : ℕ) (m : Me S V) → Allows holds id m count (λ (r : ℕ). r) (λ (_ : ℕ) (m' : Me S V). m' ≡ m)
still {S} {V} holds id m s good here has small = (m.view, plain.keeps, tt, subst (λ (vs : List V). holds (plain.state s.words s.blocks vs)) (sym (set_again s.views id m.view here)) good, refl)

module _ {T V K P A : Type 0} (holds : State (Option T) V → Type 0) (t : GrowingTable T V K P A) (s : Seat (Option T) (Sight V) A) (sits : (s.rows ≡ t.rows.id) × (s.heap ≡ t.rows.heap) × (s.me.view.cells ≡ t.cells)) where
  abbrev G : cells.State (Option T) (Sight V) → Type 0
  G = Grown t.rows.key.words t.rows.key.cells t.rows.key.root.ptr t.rows.key.top.ptr holds

  sized : s.me.view.cells ≡ t.rows.key.cells
  sized = sits.2 ∙ sym t.keyed.1

  keyed : (b k i : ℕ) (p : Ptr) → Reaches t.cells t.top.ptr s.me.view.chart.places b k p i → Reaches t.rows.key.cells t.rows.key.top.ptr s.me.view.chart.places b k p i
  keyed b k i p = subst (λ (x : ℕ × Ptr). Reaches t.cells t.top.ptr s.me.view.chart.places b k p i → Reaches x.0 x.1 s.me.view.chart.places b k p i) (λ j. (sym t.keyed.1 j, sym t.keyed.3 j)) (λ r. r)

  pub link_asks : (b k i : ℕ) (p : Ptr) → Reaches t.cells t.top.ptr s.me.view.chart.places b k p i → InBlock p → i < 2 ^ 40
      → (s.rows ≡ t.rows.id) × (s.heap ≡ t.rows.heap) × InBlock p × (i < 2 ^ 40) × cells.AllowsLink G s.id s.me k p i (λ (q : Ptr). q) (saw_link k i s.me)
  link_asks b k i p r placed small = (sits.0, sits.1, placed, small, link_seen t.rows.key.words t.rows.key.cells t.rows.key.root.ptr t.rows.key.top.ptr holds s.id s.me sized b k i p (keyed b k i p r))

  pub entry_asks : (b k i : ℕ) (p q : Ptr) → Reaches t.cells t.top.ptr s.me.view.chart.places b k p i → InBlock p → i < 2 ^ 40 → s.me.view.maker ≡ true → s.me.view.made ≡ b
      → (s.rows ≡ t.rows.id) × (s.heap ≡ t.rows.heap) × InBlock p × (i < 2 ^ 40) × cells.AllowsLink G s.id s.me k p i (λ (_ : Ptr). q) (λ (_ : Ptr). wrote_link k i s.me q)
  entry_asks b k i p q r placed small is_maker made = (sits.0, sits.1, placed, small, link_entered t.rows.key.words t.rows.key.cells t.rows.key.root.ptr t.rows.key.top.ptr holds s.id s.me sized b k i p q is_maker made (keyed b k i p r))

  pub count_asks : Holding s.me → (then : Step → Me (Option T) V → ℕ → Me (Option T) V → Type 0) → Allows holds s.id (plain_me s.me) count (λ (r : ℕ). r) (then (step count 0 0) (plain_me s.me))
      → (s.rows ≡ t.rows.id) × (s.heap ≡ t.rows.heap) × InBlock t.top.ptr × (0 < 2 ^ 40) × cells.Allows G s.id s.me 1 t.top.ptr 0 (λ (r : ℕ). r) (on_count then (cells.step 1 t.top.ptr 0 0 0) s.me)
  count_asks holding then law = (
    sits.0,
    sits.1,
    t.topped,
    omega arith,
    subst (λ (p : Ptr). cells.Allows G s.id s.me 1 p 0 (λ (r : ℕ). r) (on_count then (cells.step 1 p 0 0 0) s.me)) t.keyed.3
        (allows_count t.rows.key.words t.rows.key.cells t.rows.key.root.ptr t.rows.key.top.ptr holds s.id s.me sized holding (then (step count 0 0) (plain_me s.me)) law),
  )

  -- the seat carries the block
  module _ (holding : Holding s.me) (block : Loose (Option T) A) (number : ℕ) (next : (s.me.view.maker ≡ true) × (s.me.view.made ≡ number) × (number + 3 ≤ 2 ^ 39)) (placed : InBlock block.at) (planned : s.me.view.plan.places ≡ block.at ∷ [])
      (cs : IsNext t.cells number block.at block.cells) (then : Step → Me (Option T) V → ℕ → Me (Option T) V → Type 0) (law : Makes holds t.cells None s.id (plain_me s.me) (then (step count 0 0) (plain_me s.me))) where
    abbrev r : Row (Option T)
    r = row_at block.at block.cells

    abbrev n : ℕ
    n = t.rows.key.cells

    abbrev carrying : KitMe (Option T) V
    carrying = cells.me s.me.view s.me.hand (Some r)

    abbrev c : Cell (Option T)
    c = cells.cell 0 block.at (Some None)

    zeros : block.cells ≡ replicate (n + more_cells cs.0 cs.1) c
    zeros = cs.3 ∙ ap (λ (x : ℕ). replicate (x + more_cells cs.0 cs.1) c) (sym t.keyed.1)

    fresh : plain_block n r ≡ plain.blank n None
    fresh = ap (λ (l : List (Cell (Option T))). plain.block_of (map word (front l n)) (map home (front l n))) zeros ∙ (ap (λ (l : List (Cell (Option T))). plain.block_of (map word l) (map home l)) (front_zeros n (more_cells cs.0 cs.1) c)
        ∙ (λ i. plain.block_of {S = Option T} (map_zeros (word {S = Option T}) n c i) (map_zeros (home {S = Option T}) n c i)))

    long : (d j : ℕ) → IsAt number d j → length r.cells ≡ n + more_cells d j
    long d j at = let spot = same_spot number cs.0 cs.1 d j cs.2 at in (ap (λ (l : List (Cell (Option T))). length l) zeros ∙ long_zeros (n + more_cells cs.0 cs.1) c) ∙ (λ i. n + more_cells (spot.0 i) (spot.1 i))

    abbrev Goal : KitMe (Option T) V → ℕ → Ptr → Type 0
    Goal m id p = cells.Allows G id m 1 p 0 (λ (_ : ℕ). number + 1) (λ (_ : ℕ). on_making then (cells.step 1 p 0 (number + 1) 0) m (number + 1))

    joined : Goal carrying s.id t.rows.key.top.ptr
    joined = block_joins t.rows.key.words n t.rows.key.root.ptr t.rows.key.top.ptr holds s.id carrying sized holding number r None refl next.0 next.1 planned placed long fresh next.2 (then (step count 0 0) (plain_me s.me))
        (subst (λ (x : ℕ). Makes holds x None s.id (plain_me s.me) (then (step count 0 0) (plain_me s.me))) (sym t.keyed.1) law)

    pub making_asks : (s' : Seat (Option T) (Sight V) A) → (s'.rows ≡ s.rows) × (s'.heap ≡ s.heap) × (s'.id ≡ s.id) × (s'.me ≡ carrying)
        → (s'.rows ≡ t.rows.id) × (s'.heap ≡ t.rows.heap) × InBlock t.top.ptr × (0 < 2 ^ 40)
        × cells.Allows G s'.id s'.me 1 t.top.ptr 0 (λ (_ : ℕ). number + 1) (λ (_ : ℕ). on_making then (cells.step 1 t.top.ptr 0 (number + 1) 0) s'.me (number + 1))
    making_asks s' e = (
      e.0 ∙ sits.0,
      e.1 ∙ sits.1,
      t.topped,
      omega arith,
      subst (λ (x : KitMe (Option T) V × ℕ × Ptr). cells.Allows G x.1 x.0 1 x.2 0 (λ (_ : ℕ). number + 1) (λ (_ : ℕ). on_making then (cells.step 1 x.2 0 (number + 1) 0) x.0 (number + 1))) (λ i. (sym e.3 i, sym e.2 i, t.keyed.3 i)) joined,
    )
