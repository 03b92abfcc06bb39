-- What the word and the slot show of a queue of one slot.
use Rattle.std.proofs.Common.{◌≡◌, ℕ, zero, suc, ◌<◌, ◌≤◌, Bool, true, false, not, List, [], ◌∷◌, length, Option, None, Some, is_some, option_to_list, slice_get, if◌then◌else◌, refl, sym, ap, ◌∙◌, subst, inl, inr, ◌⊎◌, ⊎_elim, arith}
use Rattle.concurrent_queue.specs.Contents.{Contents, slot_at}
use Rattle.concurrent_queue.specs.Queue.{Queue, Stage, appended, Phase, message}
use Rattle.concurrent_queue.specs.machine.Places.{Place, Each}
use Rattle.concurrent_queue.specs.machine.Single.{clear}
use Rattle.concurrent_queue.specs.machine.SingleState.{word_of, holds, holders, KnowsSingle, Means, SingleMeans, single_rank}
use Rattle.concurrent_queue.specs.Step.{HasBrought, IsBrought, single_closed, single_length}
use Rattle.concurrent_queue.specs.machine.Forms.{place_phases, FormShows, FormLies}
use Rattle.concurrent_queue.specs.declared.call.QueueAsk.{QueueAsk}
use Rattle.concurrent_queue.specs.declared.cells.Slot.TheVariants.{At}
use Rattle.concurrent_queue.specs.declared.single.SingleAction.{SingleAction}
use Rattle.concurrent_queue.specs.declared.single.SingleAction.TheVariants.{Push, PushPut, PushUnlock, Force, ForceTake, ForcePut, ForceUnlock, Pop, PopTake, PopUnlock, Close, IsClosed, IsEmpty, IsFull, Len, Capacity, Finished}

shown_bits : (locked pushed closed : Bool) → (not (clear (word_of locked pushed closed) 4) ≡ closed) × (clear (word_of locked pushed closed) 2 ≡ not pushed)
shown_bits false false false = (refl, refl)
shown_bits false false true = (refl, refl)
shown_bits false true false = (refl, refl)
shown_bits false true true = (refl, refl)
shown_bits true false false = (refl, refl)
shown_bits true false true = (refl, refl)
shown_bits true true false = (refl, refl)
shown_bits true true true = (refl, refl)

long_of : {T : Type 0} (item : Option T) → (if not (is_some item) then 0 else 1) ≡ length (option_to_list item)
long_of None = refl
long_of (Some v) = refl

at_most_one : {T : Type 0} (item : Option T) → length (option_to_list item) ≤ 1
at_most_one None = omega arith
at_most_one (Some v) = omega arith

only_one : {T : Type 0} (item : Option T) (i j : ℕ) → i < length (option_to_list item) → j < length (option_to_list item) → i ≡ j
only_one item i j h g = let m = at_most_one item in omega arith

item_of : {T : Type 0} (item : Option T) (i : ℕ) (v : T) → slice_get (option_to_list item) i ≡ Some v → item ≡ Some v
item_of None i v e = absurd cc
item_of (Some x) zero v e = e
item_of (Some x) (suc i) v e = absurd cc

some_same : {T : Type 0} {x y : T} → Some x ≡ Some y → x ≡ y
some_same e = cc

module _ {T : Type 0} (slot : Option T) (v : T) where
  IsPlaced : Phase T → Type 0
  IsPlaced p = (slot ≡ Some v) ⊎ ((message p.ask ≡ v ∷ []) × HasBrought p.stage)

  brought : (p : Phase T) (k : QueueAsk T) (w : T) (o : Option T) → message k ≡ w ∷ [] → p.ask ≡ k → p.stage ≡ appended o → Some v ≡ Some w → IsPlaced p
  unfolding IsPlaced
  brought p k w o m e f g =
      let same : w ≡ v = sym (some_same g) in
      inr (ap message e ∙ m ∙ ap (λ (x : T). x ∷ []) same, subst (λ (s : Stage T). HasBrought s) (sym f) tt)

  stored : (p : Phase T) (w : T) → slot ≡ Some w → Some v ≡ Some w → IsPlaced p
  unfolding IsPlaced
  stored p w f e = inl (f ∙ sym e)

  placed : (a : SingleAction T) (p : Phase T) → KnowsSingle slot (Some v) a p → (holds a ≡ 0) ⊎ IsPlaced p
  placed (Push x) p f = inl refl
  placed (PushPut x) p f = inr (brought p _ x _ refl f.0.0 f.0.1 f.2)
  placed PushUnlock p f = inr (stored p f.0 f.2 f.3)
  placed (Force x y) p f = inl refl
  placed (ForceTake x) p f = inr (brought p _ x _ refl f.1.0 f.1.1 f.3)
  placed (ForcePut x d) p f = inr (brought p _ x _ refl f.0.0 f.0.1 f.2)
  placed (ForceUnlock d) p f = inr (stored p f.0 f.2 f.3)
  placed (Pop x) p f = inl refl
  placed PopTake p f = absurd cc
  placed (PopUnlock d) p f = absurd cc
  placed Close p f = inl refl
  placed IsClosed p f = inl refl
  placed IsEmpty p f = inl refl
  placed IsFull p f = inl refl
  placed Len p f = inl refl
  placed Capacity p f = inl refl
  placed Finished p f = absurd f

  -- where a call holds the slot, the message lies there or is with that call
  lies_among : (ps : List (Place (SingleAction T) T)) → 1 ≤ holders ps → Each (λ (x : Place (SingleAction T) T). KnowsSingle slot (Some v) x.action x.phase) ps → (slot ≡ Some v) ⊎ IsBrought (place_phases ps) v
  unfolding IsPlaced
  lies_among [] h all = absurd (omega arith)
  lies_among (x ∷ ps) h all = ⊎_elim
      (λ e. ⊎_elim (λ g. inl g) (λ g. inr (inr g)) (lies_among ps (omega (arith, e)) all.1))
      (λ e. ⊎_elim (λ g. inl g) (λ g. inr (inl g)) e)
      (placed x.action x.phase all.0)

module _ {T : Type 0} (c : Contents T) (q : Queue T) (ps : List (Place (SingleAction T) T)) where
  lies_of : (locked : Bool) (item slot : Option T) → Means c q ps locked item slot → (v : T) → item ≡ Some v → (slot ≡ Some v) ⊎ IsBrought (place_phases ps) v
  lies_of false item slot m v e = inl (sym (m.at_rest refl) ∙ e)
  lies_of true item slot m v e =
      lies_among slot v ps (omega (arith, m.one_holder)) (subst (λ (i : Option T). Each (λ (x : Place (SingleAction T) T). KnowsSingle slot i x.action x.phase) ps) e m.calls)

  in_slot : (slot : Option T) (v : T) → c.slots ≡ slot ∷ [] → (slot ≡ Some v) ⊎ IsBrought (place_phases ps) v → (slot_at c (At 0) ≡ Some v) ⊎ IsBrought (place_phases ps) v
  in_slot slot v e (inl h) = inl (rw e h)
  in_slot slot v e (inr h) = inr h

  unlocked_at_rest : (l : Bool) → holders ps ≡ (if l then 1 else 0) → place_phases ps ≡ [] → l ≡ false
  unlocked_at_rest false h e = refl
  unlocked_at_rest true h e = absurd (omega (arith, none ps e, h))
    where
      none : (xs : List (Place (SingleAction T) T)) → place_phases xs ≡ [] → holders xs ≡ 0
      none [] e = refl
      none (x ∷ xs) e = absurd cc

pub single_shows : {T : Type 0} → FormShows {A = SingleAction T} {T = T} SingleMeans single_rank (Some 1) single_closed single_length (λ c. 0) (λ c. option_to_list (slot_at c (At 0)))
single_shows {T} c q ps (locked, item, slot, m) =
    let bits = shown_bits locked (is_some item) q.closed in
    record {
      limit = m.limit;
      flag = rw m.state bits.0;
      long = rw (m.state, m.items, bits.1) (long_of item);
      within = λ cap e. (let same : Some cap ≡ Some 1 = sym e ∙ m.limit in let k : cap ≡ 1 = cc in rw (m.items, k) (at_most_one item));
      balance = m.counts;
      numbered = inl (m.limit, refl);
      at_rest = λ e.
          (let l = unlocked_at_rest c q ps locked m.one_holder e in
          (m.items ∙ ap (λ (o : Option T). option_to_list o) (m.at_rest l) ∙ rw m.slots refl, m.coming));
    }

pub single_lies : {T : Type 0} → FormLies {A = SingleAction T} {T = T} SingleMeans single_rank (λ c i. At 0)
single_lies {T} c q ps (locked, item, slot, m) =
    record {
      apart = λ i j h g e. only_one item i j (rw (← m.items) h) (rw (← m.items) g);
      there = λ i v e. in_slot c q ps slot v m.slots (lies_of c q ps locked item slot m v (item_of item i v (rw (← m.items) e)));
    }
