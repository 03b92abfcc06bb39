-- What the rows ask where a seat comes, parts, joins or reads its slot, and where they begin, from what the table asks.
use Rattle.std.proofs.Common.{◌≡◌, ℕ, zero, suc, ◌<◌, ◌≤◌, ◌^◌, ◌∙◌, is_some, true≢false, false, List, [], ◌∷◌, map, length, replicate, sym, refl, ap, subst, arith}
use Rattle.std.specs.Prelude.{Option, Some, None}
use denote.RawPtr.{Ptr, InBlock}
use Rattle.atomic_blocks.specs.Cells as cells
use Rattle.atomic_blocks.specs.Cells.{Cell, Row, row_at, cell_in, AllHome}
use Rattle.growing_table.specs.State as plain
use Rattle.growing_table.specs.State.{State, Me, Step, step, own, state, Enters, Splits, Joins}
use Rattle.growing_table.specs.Laid.{word, hand_of, Grown, maker}
use Rattle.growing_table.specs.Told.{on_entry, with_client, new_seat, joined, over}
use Rattle.growing_table.specs.Seats.{me_of, Sits}
use Rattle.growing_table.specs.declared.sight.Sight.{Sight}
use Rattle.growing_table.specs.declared.seat.GrowingSeat.{GrowingSeat}
use Rattle.growing_table.specs.declared.table.GrowingTable.{GrowingTable}
use Rattle.growing_table.proofs.Seating as seating

some_none : {A : Type 0} (y : A) → Some y ≡ None → ⊥
some_none y e = true≢false (ap is_some e)

empty_hand : {S : Type 0} (n : ℕ) (h : Option (Ptr × ℕ × S)) → hand_of n h ≡ None → h ≡ None
empty_hand n None e = refl
empty_hand n (Some h) e = absurd (some_none (n, h.1, h.2) e)

module _ {T V K P A : Type 0} (holds : State (Option T) V → Type 0) (t : GrowingTable T V K P A) where
  abbrev G : cells.State (Option T) (Sight V) → Type 0
  G = Grown t.rows.key.words t.rows.key.cells t.rows.key.root.ptr t.rows.key.top.ptr holds

  pub entry_asks : (first : V) (i : ℕ) → i < t.words → (then : Step → Me (Option T) V → ℕ → Me (Option T) V → Type 0) → Enters holds i (λ (r : ℕ) (w : V). then (step (own i) 0 0) (plain.me first None) r (plain.me w None))
      → InBlock t.root.ptr × (i < 2 ^ 40) × cells.Enters G 0 t.root.ptr i (λ (r : ℕ) (u : Sight V). on_entry then (cells.step 0 t.root.ptr i 0 0) (cells.me (maker t.rows.key.cells [] 0 first) None None) r (cells.me u None None))
  entry_asks first i inside then law = let small : t.words ≤ 549755813888 = t.small.0 in (
    t.rooted,
    omega arith,
    subst (λ (p : Ptr). cells.Enters G 0 p i (λ (r : ℕ) (u : Sight V). on_entry then (cells.step 0 p i 0 0) (cells.me (maker t.rows.key.cells [] 0 first) None None) r (cells.me u None None))) t.keyed.2
        (seating.enters t.rows.key.words t.rows.key.cells t.rows.key.root.ptr t.rows.key.top.ptr holds i first (λ (r : ℕ) (w : V). then (step (own i) 0 0) (plain.me first None) r (plain.me w None)) (subst (λ (x : ℕ). i < x) (sym t.keyed.0) inside) law),
  )

  module _ (s : GrowingSeat T V A) (sits : Sits t s) where
    abbrev v : Sight V
    v = s.seat.me.view

    pub split_asks : (left right : V) → Splits holds s.seat.id v.client left right
        → (s.seat.rows ≡ t.rows.id) × (s.seat.heap ≡ t.rows.heap) × InBlock t.top.ptr × cells.Splits G 1 t.top.ptr s.seat.id v (with_client v v.maker left) (new_seat v false right)
    split_asks left right law = (
      sits.0,
      sits.1,
      t.topped,
      subst (λ (p : Ptr). cells.Splits G 1 p s.seat.id v (with_client v v.maker left) (new_seat v false right)) t.keyed.3
          (seating.parts t.rows.key.words t.rows.key.cells t.rows.key.root.ptr t.rows.key.top.ptr holds s.seat.id v left right law),
    )

    pub hand_asks : (left right : V) → Splits holds s.seat.id v.client left right
        → (s.seat.rows ≡ t.rows.id) × (s.seat.heap ≡ t.rows.heap) × InBlock t.top.ptr × cells.Splits G 1 t.top.ptr s.seat.id v (with_client v false left) (new_seat v v.maker right)
    hand_asks left right law = (
      sits.0,
      sits.1,
      t.topped,
      subst (λ (p : Ptr). cells.Splits G 1 p s.seat.id v (with_client v false left) (new_seat v v.maker right)) t.keyed.3
          (seating.hands t.rows.key.words t.rows.key.cells t.rows.key.root.ptr t.rows.key.top.ptr holds s.seat.id v left right law),
    )

    pub join_asks : (o : GrowingSeat T V A) → Sits t o → (me_of o).hand ≡ None → (both spent : V) → Joins holds s.seat.id v.client o.seat.id o.seat.me.view.client both spent
        → (s.seat.rows ≡ t.rows.id) × (s.seat.heap ≡ t.rows.heap) × (o.seat.rows ≡ t.rows.id) × (o.seat.heap ≡ t.rows.heap) × (o.seat.me.hand ≡ None) × (o.seat.me.spare ≡ None) × InBlock t.top.ptr
        × cells.Joins G 1 t.top.ptr s.seat.id v o.seat.id o.seat.me.view (joined v o.seat.me.view both) (over spent)
    join_asks o sits' free both spent law = (
      sits.0,
      sits.1,
      sits'.0,
      sits'.1,
      empty_hand o.seat.me.view.at o.seat.me.hand free,
      o.bare,
      t.topped,
      subst (λ (p : Ptr). cells.Joins G 1 p s.seat.id v o.seat.id o.seat.me.view (joined v o.seat.me.view both) (over spent)) t.keyed.3
          (seating.joins t.rows.key.words t.rows.key.cells t.rows.key.root.ptr t.rows.key.top.ptr holds s.seat.id v o.seat.id o.seat.me.view both spent (sits.2 ∙ sym t.keyed.1) law),
    )

-- ---- the first rows
pub home_words : {S : Type 0} (ws : List ℕ) (p : Ptr) (y : S) → AllHome (map (λ (x : ℕ). cells.cell x p (Some y)) ws)
home_words [] p y = tt
home_words (x ∷ ws) p y = ((y, refl), home_words ws p y)

words_back : {S : Type 0} (ws : List ℕ) (p : Ptr) (y : S) → map word (map (λ (x : ℕ). cells.cell x p (Some y)) ws) ≡ ws
words_back [] p y = refl
words_back (x ∷ ws) p y = ap (λ (l : List ℕ). x ∷ l) (words_back ws p y)

pub words_long : {S : Type 0} (ws : List ℕ) (p : Ptr) (y : S) → length (map (λ (x : ℕ). cells.cell x p (Some y)) ws) ≡ length ws
words_long [] p y = refl
words_long (x ∷ ws) p y = ap suc (words_long ws p y)

first_word : {S : Type 0} (n : ℕ) (p : Ptr) (y : S) → (cell_in (replicate n (cells.cell 0 p (Some y))) 0).word ≡ 0
first_word zero p y = refl
first_word (suc n) p y = refl

long_zeros : {S : Type 0} (n : ℕ) (c : Cell S) → length (replicate n c) ≡ n
long_zeros zero c = refl
long_zeros (suc n) c = ap suc (long_zeros n c)

pub begins : {S V : Type 0} (holds : State S V → Type 0) (ws : List ℕ) (n : ℕ) (p q p' q' : Ptr) (cs ds : List (Cell S)) (y : S) (first : V) → (length ws ≤ 2 ^ 39) × (n ≤ 2 ^ 39) → p' ≡ p → q' ≡ q → cs ≡ map (λ (x : ℕ). cells.cell x p (Some y)) ws → ds ≡ replicate 64 (cells.cell 0 q (Some y))
    → holds (state ws [] (first ∷ [])) → Grown (length ws) n p q holds record { rows = row_at p' cs ∷ row_at q' ds ∷ []; views = maker n [] 0 first ∷ [] }
begins {S} {V} holds ws n p q p' q' cs ds y first small ep eq ec ed good = let ks : List (Cell S) = map (λ (x : ℕ). cells.cell x p (Some y)) ws in let zs : List (Cell S) = replicate 64 (cells.cell 0 q (Some y)) in
    subst (λ (x : Ptr × Ptr × List (Cell S) × List (Cell S)). Grown (length ws) n p q holds record { rows = row_at x.0 x.2 ∷ row_at x.1 x.3 ∷ []; views = maker n [] 0 first ∷ [] }) (λ i. (sym ep i, sym eq i, sym ec i, sym ed i))
    (seating.begins (length ws) n p q holds ks zs first small (words_long ws p y) (long_zeros 64 (cells.cell 0 q (Some y))) (first_word 64 q y) (subst (λ (us : List ℕ). holds (state us [] (first ∷ []))) (sym (words_back ws p y)) good))
