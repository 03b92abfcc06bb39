-- Operations on words and slots that no unbounded queue has leave all cells as they are.
use Rattle.std.proofs.Common.{◌≡◌, ℕ, zero, suc, ◌<◌, ◌≤◌, ⊎_elim, Bool, false, if◌then◌else◌, eq-eqb, ne_eqb, List, [], ◌∷◌, length, set, refl, sym, ap, ◌∙◌, subst, arith}
use Rattle.std.proofs.lemmas.Bool.{cases_lt}
use Rattle.std.proofs.lemmas.List.{set-get_or}
use Rattle.std.specs.Prelude.{Option, None, Some, Ok, Err, MatchResult, slice_index, slice_index_or, slice_get}
use mathlib.Core.Logic.{dite}
use native.Mathlib.Decide.{ℕ_discrete}
use Rattle.concurrent_queue.specs.Contents.{Contents, BlockCells, block_in, no_block, read, write, slot_at, write_slot, can_put, is_vacant}
use Rattle.concurrent_queue.specs.Deeds.{loaded, stored, exchanged, added, bits_set, bits_kept, did_put, did_take}
use Rattle.concurrent_queue.specs.declared.cells.Slot.{Slot}
use Rattle.concurrent_queue.specs.declared.cells.Slot.TheVariants.{At, In}
use Rattle.concurrent_queue.specs.declared.cells.Word.{Word}
use Rattle.concurrent_queue.specs.declared.cells.Word.TheVariants as word
use Rattle.concurrent_queue.specs.history.Shared.{answer}
use Rattle.unbounded_cells.specs.Rule.{Blocks, IsShown}
use Rattle.unbounded_cells.specs.Words.{IsNowhere, IsNoSlot, LeavesAll}
use Rattle.unbounded_cells.proofs.Blocks.{past}

unset : {X : Type 0} → (l : List X) (i : ℕ) (x : X) → length l ≤ i → set l i x ≡ l
unset [] i x h = refl
unset (y ∷ ys) zero x h = absurd (omega arith)
unset (y ∷ ys) (suc i) x h = ap (λ (l : List _). y ∷ l) (unset ys i x (omega arith))

get_past : {X : Type 0} → (l : List X) (i : ℕ) → length l ≤ i → slice_get l i ≡ None
get_past [] i h = refl
get_past (y ∷ ys) zero h = absurd (omega arith)
get_past (y ∷ ys) (suc i) h = get_past ys i (omega arith)

module _ {T : Type 0} where
  -- no block has more than 31 flags and slots
  short : (ws : List ℕ) (bs : Blocks T) (c : Contents T) → IsShown ws bs c → (b i : ℕ) → 31 ≤ i → (length (block_in c.blocks b).written ≤ i) × (length (block_in c.blocks b).slots ≤ i)
  short ws bs c q b i far = ⊎_elim
      (λ (l : b < length bs).
      let s = q.blocks.slots b l in
      let f : ℕ = length (block_in c.blocks b).written in
      let w : ℕ = length (block_in c.blocks b).slots in
      let f' : f ≡ 31 = s.flags in
      let w' : w ≡ 31 = s.wide in
      let x : f ≤ i = omega arith in
      let y : w ≤ i = omega arith in
      (x, y))
      (λ (g : length bs ≤ b). subst (λ (x : BlockCells T). (length x.written ≤ i) × (length x.slots ≤ i)) (sym (past c.blocks b no_block (subst (λ (k : ℕ). k ≤ b) (sym q.blocks.made) g))) (omega arith, omega arith))
      (cases_lt b (length bs))

  module _ (ws : List ℕ) (bs : Blocks T) (c : Contents T) (q : IsShown ws bs c) where
    reads_none : (w : Word) → IsNowhere w → 0 ≡ read c w
    reads_none (word.Stamp i) h = ap (λ (l : List ℕ). slice_index l i) (sym q.none.0)
    reads_none (word.Written b i) h = sym (past (block_in c.blocks b).written i 0 (short ws bs c q b i h).0)
    reads_none word.State h = absurd h
    reads_none word.Head h = absurd h
    reads_none word.Tail h = absurd h
    reads_none word.HeadBlock h = absurd h
    reads_none word.TailBlock h = absurd h
    reads_none (word.Next b) h = absurd h
    reads_none (word.Reads b) h = absurd h

    writes_none : (w : Word) (x : ℕ) → IsNowhere w → c ≡ write c w x
    writes_none (word.Stamp i) x h = ap (λ (l : List ℕ). record c { stamps = l }) (q.none.0 ∙ ap (λ (l : List ℕ). set l i x) (sym q.none.0))
    writes_none (word.Written b i) x h =
        ap (λ (l : List (BlockCells T)). record c { blocks = l })
        (sym (ap (λ (l : List ℕ). set c.blocks b (record (block_in c.blocks b) { written = l })) (unset (block_in c.blocks b).written i x (short ws bs c q b i h).0) ∙ set-get_or c.blocks b no_block))
    writes_none word.State x h = absurd h
    writes_none word.Head x h = absurd h
    writes_none word.Tail x h = absurd h
    writes_none word.HeadBlock x h = absurd h
    writes_none word.TailBlock x h = absurd h
    writes_none (word.Next b) x h = absurd h
    writes_none (word.Reads b) x h = absurd h

    takes_none : (at : Slot) → IsNoSlot at → None ≡ slot_at c at
    takes_none (At i) h = ap (λ (l : List (Option T)). slice_index_or l i None) (sym q.none.1)
    takes_none (In b i) h = sym (past (block_in c.blocks b).slots i None (short ws bs c q b i h).1)

    leaves_slots : (at : Slot) → IsNoSlot at → c ≡ write_slot c at None
    leaves_slots (At i) h = ap (λ (l : List (Option T)). record c { slots = l }) (q.none.1 ∙ ap (λ (l : List (Option T)). set l i None) (sym q.none.1))
    leaves_slots (In b i) h =
        ap (λ (l : List (BlockCells T)). record c { blocks = l })
        (sym (ap (λ (l : List (Option T)). set c.blocks b (record (block_in c.blocks b) { slots = l })) (unset (block_in c.blocks b).slots i None (short ws bs c q b i h).1) ∙ set-get_or c.blocks b no_block))

    puts_none : (at : Slot) → IsNoSlot at → can_put c at ≡ false
    puts_none (At i) h = ap (λ (l : List (Option T)). is_vacant (slice_get l i)) q.none.1
    puts_none (In b i) h = ap is_vacant (get_past (block_in c.blocks b).slots i (short ws bs c q b i h).1)

  pub none_taken : (at : Slot) → IsNoSlot at → LeavesAll {T = T} (did_take at None)
  none_taken at h ws bs c q = (takes_none ws bs c q at h, leaves_slots ws bs c q at h)

  pub none_put : (at : Slot) (v : T) → IsNoSlot at → LeavesAll (did_put at v (Err v))
  none_put at v h ws bs c q = (puts_none ws bs c q at h, refl, refl)

  module _ (w : Word) (h : IsNowhere w) where
    pub absent_load : LeavesAll {T = T} (loaded w 0)
    absent_load ws bs c q = (reads_none ws bs c q w h, refl)

    pub absent_store : (x : ℕ) → LeavesAll {T = T} (stored w x)
    absent_store x ws bs c q = writes_none ws bs c q w x h

    pub absent_add : (x : ℕ) → LeavesAll {T = T} (added w x 0)
    absent_add x ws bs c q = (reads_none ws bs c q w h, writes_none ws bs c q w _ h)

    pub absent_set : (x : ℕ) → LeavesAll {T = T} (bits_set w x 0)
    absent_set x ws bs c q = (reads_none ws bs c q w h, writes_none ws bs c q w _ h)

    pub absent_keep : (x : ℕ) → LeavesAll {T = T} (bits_kept w x 0)
    absent_keep x ws bs c q = (reads_none ws bs c q w h, writes_none ws bs c q w _ h)

    abbrev Answers : ℕ → ℕ → Contents T → Bool → Type 0
    Answers x y c b = MatchResult (if b then Ok 0 else Err 0) (λ v. (v ≡ x) × (read c w ≡ x) × (c ≡ write c w y)) (λ v. (v ≡ read c w) × (¬ (v ≡ x)) × (c ≡ c))

    pub absent_exchange : (x y : ℕ) → LeavesAll {T = T} (exchanged w x y (answer 0 x))
    absent_exchange x y ws bs c q = dite (ℕ_discrete 0 x)
        (λ e. subst (Answers x y c) (sym (eq-eqb 0 x e)) (e, sym (reads_none ws bs c q w h) ∙ e, writes_none ws bs c q w y h))
        (λ ne. subst (Answers x y c) (sym (ne_eqb 0 x ne)) (reads_none ws bs c q w h, ne, refl))
