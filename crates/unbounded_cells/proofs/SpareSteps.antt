-- Each step on the list of spare blocks as the owner of its lock makes it, and what is left of its seat.
use Rattle.std.proofs.Common.{◌≡◌, ℕ, ◌+◌, ◌<◌, ◌≤◌, ⊎_elim, true, false, List, [], ◌∷◌, length, refl, sym, ap, ◌∙◌, subst, arith}
use Rattle.std.proofs.lemmas.Bool.{cases_lt}
use Rattle.std.specs.Prelude.{Option, None, Some, Ok, Err, slice_index_or}
use lib.ListN.{get_elem?}
use Rattle.atomic_table.proofs.Lists.{set_again}
use Rattle.growing_table.specs.State as state
use Rattle.growing_table.specs.State.{Me, me, keeps, own, within, count, Spot, Allows}
use Rattle.concurrent_queue.specs.Bridge.{Event, does}
use Rattle.concurrent_queue.specs.Contents.{Contents}
use Rattle.concurrent_queue.specs.Deeds.{Deed, spared, retired}
use Rattle.concurrent_queue.specs.declared.cells.QueueForm.{QueueForm}
use Rattle.concurrent_queue.specs.declared.cells.QueueForm.TheVariants.{Unbounded}
use Rattle.concurrent_queue.specs.declared.history.rule.Counter.{Counter}
use Rattle.concurrent_queue.specs.declared.history.rule.CountStep.{CountStep}
use Rattle.concurrent_queue.specs.declared.history.rule.View.{View}
use Rattle.concurrent_queue.specs.history.Keeps.{HistoryOf, KeepsHistory, Tally}
use Rattle.unbounded_cells.specs.Laws.{KeepsBlocks}
use Rattle.unbounded_cells.specs.Rule.{Blocks, TableState, Chain, IsKept, IsRuled}
use Rattle.unbounded_cells.specs.SpareTold.{at_top, by_hand, Leaves}
use Rattle.unbounded_cells.specs.Told.{Does, on_with}
use Rattle.unbounded_cells.specs.declared.rule.BlockView.{BlockView}
use Rattle.unbounded_cells.proofs.WordSteps.{happens}
use Rattle.unbounded_cells.proofs.SpareList as spares
use Rattle.unbounded_cells.proofs.Steps.{seen_as}

-- the first spare block is one of the table's
first_there : {T : Type 0} → (bs : Blocks T) (top n : ℕ) (sp : List ℕ) → top ≡ n + 1 → Chain bs top sp → n < length bs
first_there bs top n [] e c = (let e' : top ≡ n + 1 = e in let c' : top ≡ 0 = c in absurd (omega arith))
first_there bs top n (b ∷ sp) e c = (let l : ℕ = length bs in let e' : top ≡ n + 1 = e in let c' : top ≡ b + 1 = c.0 in let h : b < l = c.1 in let z : n < l = omega arith in z)

-- the operation is made, and the list begins with this
module _ {T A : Type 0} (moves : QueueForm → A → Event T → A → Type 0) where
  leaves_by : (d : Deed T) (top : ℕ) (m n : Me (Option T) (BlockView T A)) (a : A) → moves Unbounded m.view.party.state (does (Some d)) a → n ≡ seen_as m (at_top (on_with m.view a) top) → Leaves moves d top m n
  leaves_by d top m n a made e = (
    subst (λ (y : Me (Option T) (BlockView T A)). moves Unbounded m.view.party.state (does (Some d)) y.view.party.state) (sym e) made,
    e ∙ ap (λ (z : A). me (at_top (on_with m.view z) top) m.hand) (sym (ap (λ (y : Me (Option T) (BlockView T A)). y.view.party.state) e)),
  )

module _ {T A : Type 0} {moves : QueueForm → A → Event T → A → Type 0} {enters : QueueForm → A → Type 0} {turns : QueueForm → A → A → Type 0} {counts : QueueForm → A → A → Counter → CountStep → ℕ → Type 0} {both : A → A → A} {left : A → A} {parts : QueueForm → A → A → A → Type 0} {opened : A} {counted : ℕ} {is_history : HistoryOf T A} (laws : KeepsHistory moves enters turns counts both left parts opened counted is_history)
    {sized : ℕ → List (View T A) → Contents T → Tally → Type 0} (machine : KeepsBlocks moves is_history sized) (admits : Type 0) where
  abbrev Ruled : TableState T A → Type 0
  Ruled = IsRuled moves is_history sized admits

  abbrev Seat : Type 0
  Seat = Me (Option T) (BlockView T A)

  -- a step that tells this tells that too
  tells : (id : ℕ) (m : Seat) (x : Spot) (f : ℕ → ℕ) (P Q : ℕ → Seat → Type 0) → ((k : ℕ) (m' : Seat) → P k m' → Q k m') → Allows Ruled id m x f P → Allows Ruled id m x f Q
  tells id m x f P Q go h s r at has small = (let g = h s r at has small in (g.0, g.1, g.2, g.3, go _ _ g.4))

  -- THE FIRST SPARE BLOCK IS LOOKED FOR: it is there, unless the history is as long as there are positions
  pub finds_spare : (id n : ℕ) (m : Seat) → m.view.keeper ≡ true → m.view.party.spent ≡ false → m.view.top ≡ n + 1 → ((a : A) × moves Unbounded m.view.party.state (does (Some (spared (Err (record {}))))) a)
      → Allows Ruled id m count (λ x. x) (λ x m'. (x < m.view.top → Does moves (spared (Err (record {}))) m m') × (m.view.top ≤ x → m' ≡ m))
  finds_spare id n m keeper live top fits s r at has small = ⊎_elim
      (λ (l : n < length s.blocks). (
        m.view,
        keeps,
        tt,
        subst (λ (vs : List (BlockView T A)). Ruled (state.state s.words s.blocks vs)) (sym (set_again s.views id m.view at)) r,
        ((λ g. absurd (let x : ℕ = length s.blocks in let t : ℕ = m.view.top in let e : t ≡ n + 1 = top in let l' : n < x = l in let g' : x < t = g in omega arith)), λ _. refl),
      ))
      (λ (g : length s.blocks ≤ n). (
        on_with m.view fits.0,
        keeps,
        tt,
        happens laws machine admits s r id m.view (spared (Err (record {}))) fits.0 at live fits.1
            (λ q.
            let there = first_there s.blocks (slice_index_or s.words 25 0) n q.contents.spares ((r.spares id m.view at keeper).top ∙ top) q.shown.chain in
            absurd (let x : ℕ = length s.blocks in let h : n < x = there in let g' : x ≤ n = g in omega arith)),
        ((λ _. (fits.1, refl)), λ l. absurd (let x : ℕ = length s.blocks in let t : ℕ = m.view.top in let e : t ≡ n + 1 = top in let l' : t ≤ x = l in let g' : x ≤ n = g in omega arith)),
      ))
      (cases_lt n (length s.blocks))

  -- the link of a block that is given back is set to what the list began with
  pub writes_link_so : (id n top : ℕ) (m : Seat) → m.view.top ≡ top → m.view.keeper ≡ true → m.view.party.spent ≡ false → ((a : A) × moves Unbounded m.view.party.state (does (Some (retired n))) a)
      → Allows Ruled id m (within n 34) (λ _. top) (λ _ m'. m' ≡ me (by_hand m.view (Some (n, top)) m.view.cleared) m.hand)
  writes_link_so id n top m is keeper live fits =
      subst (λ (t : ℕ). Allows Ruled id m (within n 34) (λ _. t) (λ _ m'. m' ≡ me (by_hand m.view (Some (n, t)) m.view.cleared) m.hand)) is (spares.writes_link laws machine admits id n m fits.0 keeper live fits.1)

  pub takes_spare_so : (id b n : ℕ) (m : Seat) → m.view.keeper ≡ true → m.view.party.spent ≡ false → m.view.top ≡ b + 1 → m.view.link ≡ Some (b, n) → m.view.cleared ≡ 3 → ((a : A) × moves Unbounded m.view.party.state (does (Some (spared (Ok b)))) a)
      → Allows Ruled id m (own 25) (λ _. n) (λ _ m'. (k : ℕ) × (m.view.top ≡ k + 1) × Leaves moves (spared (Ok k)) n m m')
  takes_spare_so id b n m keeper live top linked clear fits =
      tells id m (own 25) (λ _. n) (λ _ m'. m' ≡ seen_as m (at_top (on_with m.view fits.0) n)) (λ _ m'. (k : ℕ) × (m.view.top ≡ k + 1) × Leaves moves (spared (Ok k)) n m m')
      (λ _ m' e. (b, top, leaves_by moves (spared (Ok b)) n m m' fits.0 fits.1 e))
      (spares.takes_spare laws machine admits id b n m keeper top linked (let k : ℕ = m.view.cleared in let c : k ≡ 3 = clear in let z : 3 ≤ k = omega arith in z) fits.0 live fits.1)

  pub refuses_so : (id : ℕ) (m : Seat) → m.view.keeper ≡ true → m.view.party.spent ≡ false → m.view.top ≡ 0 → ((a : A) × moves Unbounded m.view.party.state (does (Some (spared (Err (record {}))))) a)
      → Allows Ruled id m (own 25) (λ x. x) (λ _ m'. Leaves moves (spared (Err (record {}))) 0 m m')
  refuses_so id m keeper live top fits =
      tells id m (own 25) (λ x. x) (λ _ m'. m' ≡ seen_as m (at_top (on_with m.view fits.0) 0)) (λ _ m'. Leaves moves (spared (Err (record {}))) 0 m m')
      (λ _ m' e. leaves_by moves (spared (Err (record {}))) 0 m m' fits.0 fits.1 e)
      (spares.refuses_spare laws machine admits id m (record {}) fits.0 keeper live top fits.1)

  pub retires_one : (id b : ℕ) (m : Seat) → m.view.keeper ≡ true → m.view.party.spent ≡ false → m.view.link ≡ Some (b, m.view.top) → ((a : A) × moves Unbounded m.view.party.state (does (Some (retired b))) a)
      → Allows Ruled id m (own 25) (λ _. b + 1) (λ _ m'. (k : ℕ) × (b + 1 ≡ k + 1) × Leaves moves (retired k) (b + 1) m m')
  retires_one id b m keeper live linked fits =
      tells id m (own 25) (λ _. b + 1) (λ _ m'. m' ≡ seen_as m (at_top (on_with m.view fits.0) (b + 1))) (λ _ m'. (k : ℕ) × (b + 1 ≡ k + 1) × Leaves moves (retired k) (b + 1) m m')
      (λ _ m' e. (b, refl, leaves_by moves (retired b) (b + 1) m m' fits.0 fits.1 e))
      (spares.retires_so laws machine admits id b m fits.0 keeper live linked fits.1)
