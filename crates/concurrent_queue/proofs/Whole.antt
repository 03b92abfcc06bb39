-- A push made whole at its first step is no run of a ring: it would change a slot and a word.
use Rattle.std.proofs.Common.{◌≡◌, ℕ, zero, suc, List, [], ◌∷◌, ◌++◌, length, Option, None, Some, slice_get, slice_index_or, ⊎_elim, inl, inr, refl, sym, ap, ◌∙◌, subst, arith}
use lib.Count.{count_leading_zeros}
use Rattle.concurrent_queue.specs.Contents.{Contents, write, write_slot, slot_at, without_spare, with_retired}
use Rattle.concurrent_queue.specs.Queue.{Queue}
use Rattle.concurrent_queue.specs.Scene.{CallUnderWay, IsBroughtBy}
use Rattle.concurrent_queue.specs.Step.{OneCell, length_in, slot_in}
use Rattle.concurrent_queue.specs.Run.{Ran}
use Rattle.concurrent_queue.specs.Made.{new_cells}
use Rattle.concurrent_queue.specs.machine.RingWords.{ring_mark}
use Rattle.concurrent_queue.specs.Whole.{pushing, at_once}
use Rattle.concurrent_queue.specs.declared.call.QueueAsk.TheVariants as ask
use Rattle.concurrent_queue.specs.declared.cells.QueueForm.TheVariants.{Bounded}
use Rattle.concurrent_queue.specs.declared.cells.Word.TheVariants.{State, Head, Tail, Stamp, HeadBlock, TailBlock, Next, Reads, Written}
use Rattle.concurrent_queue.specs.declared.cells.Word.{Word}
use Rattle.concurrent_queue.specs.declared.cells.Slot.{Slot}
use Rattle.concurrent_queue.specs.declared.cells.Slot.TheVariants.{At, In}

module _ {T : Type 0} where
  -- a ring of two whose words are those of a new one holds nothing
  none_held : (d : Contents T) → d.form ≡ Bounded 2 → d.head ≡ 0 → d.tail ≡ 0 → length_in d ≡ 0
  unfolding length_in ring_mark count_leading_zeros
  none_held d f h t = rw (f, h, t) refl

  -- one whose slots are empty has no message in the slot that the words name
  no_message : (i : ℕ) (v : T) → slice_index_or (None ∷ None ∷ []) i None ≡ Some v → ⊥
  no_message zero v e = absurd cc
  no_message (suc zero) v e = absurd cc
  no_message (suc (suc i)) v e = absurd cc

  none_there : (chain : List ℕ) (d : Contents T) (v : T) → d.form ≡ Bounded 2 → d.slots ≡ None ∷ None ∷ [] → slot_at d (slot_in chain d 0) ≡ Some v → ⊥
  unfolding slot_in
  none_there chain d v f s e = no_message _ v (rw (f, s) at e)

  -- the cells after one step of a new ring can't hold a message both by the words and in its slot
  abbrev IsShort : Contents T → Type 0
  IsShort d = (chain : List ℕ) (v : T) → length_in d ≡ 1 → slot_at d (slot_in chain d 0) ≡ Some v → ⊥

  by_words : (d : Contents T) → d.form ≡ Bounded 2 → d.head ≡ 0 → d.tail ≡ 0 → IsShort d
  by_words d f h t chain v long there = absurd (let e = none_held d f h t in omega arith)

  by_slots : (d : Contents T) → d.form ≡ Bounded 2 → d.slots ≡ None ∷ None ∷ [] → IsShort d
  by_slots d f s chain v long there = none_there chain d v f s there

  abbrev new : Contents T
  new = new_cells (Bounded 2)

  one_word : (w : Word) (x : ℕ) → IsShort (write new w x)
  one_word State x = by_slots (write new State x) refl refl
  one_word Head x = by_slots (write new Head x) refl refl
  one_word Tail x = by_slots (write new Tail x) refl refl
  one_word (Stamp i) x = by_slots (write new (Stamp i) x) refl refl
  one_word HeadBlock x = by_slots (write new HeadBlock x) refl refl
  one_word TailBlock x = by_slots (write new TailBlock x) refl refl
  one_word (Next b) x = by_slots (write new (Next b) x) refl refl
  one_word (Reads b) x = by_slots (write new (Reads b) x) refl refl
  one_word (Written b i) x = by_slots (write new (Written b i) x) refl refl

  one_slot : (s : Slot) (o : Option T) → IsShort (write_slot new s o)
  one_slot (At i) o = by_words (write_slot new (At i) o) refl refl refl
  one_slot (In b i) o = by_words (write_slot new (In b i) o) refl refl refl

  one_step : (d : Contents T) → OneCell new d → IsShort d
  unfolding OneCell
  one_step d (inl e) = subst (λ (x : Contents T). IsShort x) (sym e) (by_words new refl refl refl)
  one_step d (inr (inl (w, x, e))) = subst (λ (y : Contents T). IsShort y) (sym e) (one_word w x)
  one_step d (inr (inr (inl (s, o, e)))) = subst (λ (y : Contents T). IsShort y) (sym e) (one_slot s o)
  one_step d (inr (inr (inr (inl e)))) = subst (λ (x : Contents T). IsShort x) (sym e) (by_words (without_spare new) refl refl refl)
  one_step d (inr (inr (inr (inr (b, e))))) = subst (λ (x : Contents T). IsShort x) (sym e) (by_words (with_retired new b) refl refl refl)

  -- the only call under way is the one that steps
  pub record IsAlone (u : CallUnderWay T) (before : List (CallUnderWay T)) (mine : CallUnderWay T) (behind : List (CallUnderWay T)) : Type 0 where
    pub none_before : before ≡ []
    pub is_mine : mine ≡ u
    pub none_behind : behind ≡ []

  alone : (u : CallUnderWay T) (before : List (CallUnderWay T)) (mine : CallUnderWay T) (behind : List (CallUnderWay T)) → u ∷ [] ≡ before ++ mine ∷ behind → IsAlone u before mine behind
  alone u [] mine behind e = record { none_before = refl; is_mine = cc; none_behind = cc }
  alone u (x ∷ []) mine behind e = absurd cc
  alone u (x ∷ y ∷ xs) mine behind e = absurd cc

  pub never_whole : (p : ℕ) (v : T) → Ran (Bounded 2) (pushing p v) [] at_once None → ⊥
  never_whole p v r =
      let begun = r.run.1 in
      let m = r.run.0 in
      let rest = r.run.3 in
      let d = rest.0 in
      let s = rest.1.0 in
      let reads = rest.2 in
      let one = alone _ s.before s.mine s.behind (sym begun.0.under_way ∙ s.there) in
      let asks : s.mine.ask ≡ ask.Push v = ap (λ (u : CallUnderWay T). u.ask) one.is_mine in
      let nobody : d.scene.under_way ≡ [] = s.under_way ∙ rw (one.none_before, one.none_behind) refl in
      let items : d.scene.now.items ≡ v ∷ [] = ap (λ (q : Queue T). q.items) s.now ∙ (rw (asks, begun.0.now) refl) in
      let long : length_in d.cells ≡ 1 = reads.long ∙ ap (λ (xs : List T). length xs) items in
      let cell : OneCell new d.cells = subst (λ (c : Contents T). OneCell c d.cells) begun.1 rest.1.1 in
      let first : slice_get d.scene.now.items 0 ≡ Some v = ap (λ (xs : List T). slice_get xs 0) items in
      ⊎_elim (λ h. one_step d.cells cell d.chain v long h)
      (λ h. absurd (subst (λ (us : List (CallUnderWay T)). IsBroughtBy us v) nobody h)) (reads.lies.there 0 v first)
