-- A slot that a call is about to put into or take from is its own: else two would hold one place.
use Rattle.std.proofs.Common.{◌≡◌, ℕ, ◌+◌, ◌*◌, ◌%◌, ◌<◌, ◌≤◌, Bool, List, [], ◌∷◌, ◌++◌, map, inl, inr, Option, None, Some, slice_get, slice_index_or, if◌then◌else◌, refl, sym, ap, ◌∙◌, subst, arith}
use Rattle.std.proofs.lemmas.Nat.{mod_below}
use Rattle.concurrent_queue.specs.Contents.{Contents, is_vacant}
use Rattle.concurrent_queue.specs.Queue.{Queue, Phase}
use Rattle.concurrent_queue.specs.Step.{ActiveQueueCall, seat, FitsAt, FitsForm, FitsSlot, FitsRing, IsAtSingle, IsAtRing}
use Rattle.concurrent_queue.specs.Touched.{target, on_slot, IsServed, target_at, served_at, next_target, SlotsAreTouchedAlone, SlotsAreAsExpected}
use Rattle.concurrent_queue.specs.Walked.{standing}
use Rattle.concurrent_queue.specs.machine.Places.{Place, Each, sum}
use Rattle.concurrent_queue.specs.machine.Positions.{pos}
use Rattle.concurrent_queue.specs.machine.RingCalls as calls
use Rattle.concurrent_queue.specs.machine.RingCalls.{hold, held, owes, owed, placed, KnowsRing}
use Rattle.concurrent_queue.specs.machine.RingMeans.{Denotes, RingMeans, place_at}
use Rattle.concurrent_queue.specs.machine.RingMoves.{ring_moves}
use Rattle.concurrent_queue.specs.machine.RingState.{Ring, busy}
use Rattle.concurrent_queue.specs.machine.RingWords.{index, ring_mark}
use Rattle.concurrent_queue.specs.machine.Single.{single_moves}
use Rattle.concurrent_queue.specs.machine.SingleState.{holds, KnowsSingle, SingleMeans}
use Rattle.concurrent_queue.specs.declared.bounded.RingAction.{RingAction}
use Rattle.concurrent_queue.specs.declared.bounded.RingAction.TheVariants as many
use Rattle.concurrent_queue.specs.declared.cells.QueueForm.{QueueForm}
use Rattle.concurrent_queue.specs.declared.cells.QueueForm.TheVariants.{Bounded, Unbounded}
use Rattle.concurrent_queue.specs.declared.cells.Slot.{Slot}
use Rattle.concurrent_queue.specs.declared.cells.Slot.TheVariants.{At}
use Rattle.concurrent_queue.specs.declared.queue_call.QueueCall.{QueueCall}
use Rattle.concurrent_queue.specs.declared.single.SingleAction.{SingleAction}
use Rattle.concurrent_queue.specs.declared.single.SingleAction.TheVariants as one
use Rattle.concurrent_queue.proofs.BlocksSlots.{blocks_served_at, blocks_apart}
use Rattle.concurrent_queue.proofs.BlocksYields.{index_or_get}
use Rattle.concurrent_queue.proofs.Callers.{same_as}
use Rattle.concurrent_queue.proofs.Places.{sum_at, each_at}
use Rattle.concurrent_queue.proofs.RingDenotes.{one_if, index_is}
use Rattle.concurrent_queue.proofs.RingShape.{IsMark, mark_is}
use Rattle.concurrent_queue.proofs.RingTheorem.{CutAt, cut_at, map_joined}
use Rattle.concurrent_queue.proofs.StepFacts.{Parted, part, join}
use Rattle.concurrent_queue.proofs.Targets.{none_some, some_is, the_slot, single_target, single_served, ring_target, ring_served, each_seat}

at_index : Slot → ℕ
at_index (At i) = i
at_index _ = 0

same_index : (i j : ℕ) → At i ≡ At j → i ≡ j
unfolding at_index
same_index i j e = ap at_index e

module _ {T : Type 0} where
  -- ---- one slot: a call that is at it holds it, and one does at most

  single_holds : (a : SingleAction T) (at : Slot) → the_slot (target (single_moves a)) ≡ Some at → 1 ≤ holds a
  single_holds (one.PushPut v) at e = omega arith
  single_holds (one.ForceTake v) at e = omega arith
  single_holds (one.ForcePut v d) at e = omega arith
  single_holds one.PopTake at e = omega arith
  single_holds a at e = absurd (none_some e)

  single_others : (at : Slot) (n : ℕ) → 1 ≤ n → (ps : List (Place (SingleAction T) T)) → sum (λ a. holds a) ps + n ≤ 1
      → Each (λ (x : Place (SingleAction T) T). the_slot (target (single_moves x.action)) ≡ Some at → ⊥) ps
  single_others at n some [] most = tt
  single_others at n some (x ∷ xs) most =
      (λ e. absurd (let h = single_holds x.action at e in omega arith), single_others at n some xs (omega arith))

  single_serves : (c : Contents T) (slot item : Option T) → c.slots ≡ slot ∷ [] → (a : SingleAction T) (p : Phase T) → KnowsSingle slot item a p → IsServed c (single_moves a)
  single_serves c slot item is (one.PushPut v) p k = ap (λ (xs : List (Option T)). is_vacant (slice_get xs 0)) is ∙ ap (λ (o : Option T). is_vacant (Some o)) k.1
  single_serves c slot item is (one.ForceTake v) p k = (k.0, ap (λ (xs : List (Option T)). slice_index_or xs 0 None) is ∙ k.2)
  single_serves c slot item is (one.ForcePut v d) p k = ap (λ (xs : List (Option T)). is_vacant (slice_get xs 0)) is ∙ ap (λ (o : Option T). is_vacant (Some o)) k.1
  single_serves c slot item is one.PopTake p k = (k.0, ap (λ (xs : List (Option T)). slice_index_or xs 0 None) is ∙ k.2)
  single_serves c slot item is a p k = tt

  module _ (c : Contents T) (q : Queue T) (l r : List (ActiveQueueCall T)) (call : QueueCall T) (p : Phase T) (cap : ℕ) (f : FitsSlot cap c q (l ++ seat call p ∷ r)) where
    abbrev s : Parted IsAtSingle l r (seat call p) f.calls.0
    s = part IsAtSingle l r (seat call p) f.calls.0 f.calls.1

    abbrev means : SingleMeans c q (s.left ++ s.mine ∷ s.right)
    means = subst (λ (ps : List (Place (SingleAction T) T)). SingleMeans c q ps) s.there f.calls.2

    single_is_served : served_at (Bounded cap) c (standing (Bounded cap) call.state)
    single_is_served =
        let h = means.3 in
        single_served cap f.one c call.state s.mine.action s.stands
        (single_serves c means.2 means.1 h.slots s.mine.action s.mine.phase
        (each_at (λ (x : Place (SingleAction T) T). KnowsSingle means.2 means.1 x.action x.phase) s.left s.right s.mine h.calls))

    single_apart : (at : Slot) → target_at (Bounded cap) (standing (Bounded cap) call.state) ≡ on_slot at
        → Each (λ (x : ActiveQueueCall T). target_at (Bounded cap) (standing (Bounded cap) x.call.state) ≡ on_slot at → ⊥) (l ++ r)
    single_apart at e =
        let h = means.3 in
        let mine : 1 ≤ holds s.mine.action = single_holds s.mine.action at (ap the_slot (sym (single_target cap f.one call.state s.mine.action s.stands) ∙ e)) in
        let most : sum (λ a. holds a) (s.left ++ s.right) + holds s.mine.action ≤ 1 =
        omega (arith, sum_at (λ a. holds a) s.left s.right s.mine, h.one_holder, one_if means.0 1) in
        each_seat IsAtSingle (λ (x : Place (SingleAction T) T). the_slot (target (single_moves x.action)) ≡ Some at → ⊥)
        (λ (x : ActiveQueueCall T). target_at (Bounded cap) (standing (Bounded cap) x.call.state) ≡ on_slot at → ⊥)
        (λ x y here no_one g. no_one (ap the_slot (sym (single_target cap f.one x.call.state y.action here) ∙ g))) (l ++ r) (s.left ++ s.right) (join IsAtSingle l r s.left s.right s.lefts s.rights)
        (single_others at (holds s.mine.action) mine (s.left ++ s.right) most)

module _ {T : Type 0} (cap m : ℕ) (some : 0 < cap) (mark : IsMark cap m) where
  -- ---- a ring: a call that is at a slot holds its place, and each place is held by one at most

  HeldAt : RingAction T → Slot → Type 0
  HeldAt a at = (n : ℕ) × (held a ≡ Some n) × (at ≡ At (index m (pos cap (2 * m) n)))

  ring_holds : (a : RingAction T) (at : Slot) → the_slot (target (ring_moves cap m (placed (pos cap (2 * m)) a))) ≡ Some at → HeldAt a at
  unfolding HeldAt
  ring_holds (many.PushPut k v n) at e = (n, refl, sym (some_is e))
  ring_holds (many.ForceTake v n) at e = (n, refl, sym (some_is e))
  ring_holds (many.ForcePut v n d) at e = (n, refl, sym (some_is e))
  ring_holds (many.PopTake n) at e = (n, refl, sym (some_is e))
  ring_holds a at e = absurd (none_some e)

  -- so it owes the place of the slot's index
  ring_owes : (a : RingAction T) (at : Slot) (i : ℕ) → HeldAt a at → at ≡ At i → owes cap a (hold i) ≡ 1
  unfolding HeldAt
  ring_owes a at i (n, is, there) e =
      let f : n % cap ≡ i = sym (index_is cap m some mark n) ∙ same_index (index m (pos cap (2 * m) n)) i (sym there ∙ e) in
      let g = same_as (n % cap) i f in
      ap (λ (o : Option ℕ). calls.holds cap i o) is ∙ ap (λ (b : Bool). if b then 1 else 0) g

  its_index : (a : RingAction T) (at : Slot) → HeldAt a at → (i : ℕ) × (i < cap) × (at ≡ At i)
  unfolding HeldAt
  its_index a at (n, is, there) = (n % cap, mod_below n cap some, there ∙ ap At (index_is cap m some mark n))

  ring_others : (at : Slot) (i : ℕ) → at ≡ At i → (xs : List (Place (RingAction T) T)) → sum (λ a. owes cap a (hold i)) xs + 1 ≤ 1
      → Each (λ (x : Place (RingAction T) T). the_slot (target (ring_moves cap m x.action)) ≡ Some at → ⊥) (map (place_at (pos cap (2 * m))) xs)
  ring_others at i is [] most = tt
  ring_others at i is (x ∷ xs) most =
      (λ e. absurd (let h = ring_owes x.action at i (ring_holds x.action at e) is in omega arith), ring_others at i is xs (omega arith))

  ring_serves : (c : Contents T) (r : Ring T) → Denotes cap m c r → (a : RingAction T) (p : Phase T) → KnowsRing cap r a p → IsServed c (ring_moves cap m (placed (pos cap (2 * m)) a))
  ring_serves c r d (many.PushPut k v n) p h =
      ap (λ (i : ℕ). is_vacant (slice_get c.slots i)) (index_is cap m some mark n) ∙ ap is_vacant (d.slots (n % cap) (mod_below n cap some)) ∙ ap (λ (o : Option T). is_vacant (Some o)) h.1.2
  ring_serves c r d (many.ForceTake v n) p h =
      (h.0, ap (λ (i : ℕ). slice_index_or c.slots i None) (index_is cap m some mark n) ∙ index_or_get c.slots (n % cap) _ None (d.slots (n % cap) (mod_below n cap some)) ∙ h.2.2)
  ring_serves c r d (many.ForcePut v n w) p h =
      ap (λ (i : ℕ). is_vacant (slice_get c.slots i)) (index_is cap m some mark n) ∙ ap is_vacant (d.slots (n % cap) (mod_below n cap some)) ∙ ap (λ (o : Option T). is_vacant (Some o)) h.1.2
  ring_serves c r d (many.PopTake n) p h =
      (h.0, ap (λ (i : ℕ). slice_index_or c.slots i None) (index_is cap m some mark n) ∙ index_or_get c.slots (n % cap) _ None (d.slots (n % cap) (mod_below n cap some)) ∙ h.2.2)
  ring_serves c r d a p h = tt

some_of : (cap : ℕ) → 2 ≤ cap → 0 < cap
some_of cap two = omega arith

module _ {T : Type 0} (c : Contents T) (q : Queue T) (l r : List (ActiveQueueCall T)) (call : QueueCall T) (p : Phase T) (cap : ℕ) (f : FitsRing cap c q (l ++ seat call p ∷ r)) where
  abbrev some : 0 < cap
  some = some_of cap f.two

  abbrev mark : IsMark cap (ring_mark cap)
  mark = mark_is cap some f.most

  abbrev parted : Parted IsAtRing l r (seat call p) f.calls.0
  parted = part IsAtRing l r (seat call p) f.calls.0 f.calls.1

  abbrev ring_means : RingMeans cap (ring_mark cap) c q f.calls.0
  ring_means = f.calls.2

  abbrev cut : CutAt (place_at (pos cap (2 * (ring_mark cap)))) parted.left parted.right parted.mine ring_means.calls
  cut = cut_at (place_at (pos cap (2 * (ring_mark cap)))) parted.left parted.right parted.mine ring_means.calls (sym parted.there ∙ ring_means.positions)

  ring_is_served : served_at (Bounded cap) c (standing (Bounded cap) call.state)
  ring_is_served =
      let h = ring_means in
      let k = cut in
      let knows : KnowsRing cap h.ring k.mine.action k.mine.phase =
      each_at (λ (x : Place (RingAction T) T). KnowsRing cap h.ring x.action x.phase) k.left k.right k.mine
      (subst (λ (xs : List (Place (RingAction T) T)). Each (λ (x : Place (RingAction T) T). KnowsRing cap h.ring x.action x.phase) xs) k.there h.knows) in
      ring_served cap f.two f.most c call.state parted.mine.action parted.stands
      (subst (λ (x : Place (RingAction T) T). IsServed c (ring_moves cap (ring_mark cap) x.action)) (sym k.is) (ring_serves cap (ring_mark cap) some mark c h.ring h.denotes k.mine.action k.mine.phase knows))

  ring_apart : (at : Slot) → target_at (Bounded cap) (standing (Bounded cap) call.state) ≡ on_slot at
      → Each (λ (x : ActiveQueueCall T). target_at (Bounded cap) (standing (Bounded cap) x.call.state) ≡ on_slot at → ⊥) (l ++ r)
  ring_apart at e =
      let h = ring_means in
      let k = cut in
      let mine : HeldAt {T = T} cap (ring_mark cap) some mark k.mine.action at =
      ring_holds cap (ring_mark cap) some mark k.mine.action at
      (ap (λ (x : Place (RingAction T) T). the_slot (target (ring_moves cap (ring_mark cap) x.action))) (sym k.is) ∙ ap the_slot (sym (ring_target cap f.two f.most call.state parted.mine.action parted.stands) ∙ e)) in
      let i = its_index cap (ring_mark cap) some mark k.mine.action at mine in
      let owing = ring_owes cap (ring_mark cap) some mark k.mine.action at i.0 mine i.2 in
      let all = h.owners (hold i.0) i.1 in
      let there = ap (λ (xs : List (Place (RingAction T) T)). sum (λ a. owes cap a (hold i.0)) xs) k.there in
      let apart = sum_at (λ a. owes cap a (hold i.0)) k.left k.right k.mine in
      let one_at_most = one_if (busy h.ring i.0) 1 in
      let most : sum (λ a. owes cap a (hold i.0)) (k.left ++ k.right) + 1 ≤ 1 = omega arith in
      let places : map (place_at (pos cap (2 * (ring_mark cap)))) (k.left ++ k.right) ≡ parted.left ++ parted.right = map_joined (place_at (pos cap (2 * (ring_mark cap)))) k.left k.right
      ∙ ap (λ (xs : List (Place (RingAction T) T)). xs ++ map (place_at (pos cap (2 * (ring_mark cap)))) k.right) (sym k.lefts) ∙ ap (λ (xs : List (Place (RingAction T) T)). parted.left ++ xs) (sym k.rights) in
      each_seat IsAtRing (λ (x : Place (RingAction T) T). the_slot (target (ring_moves cap (ring_mark cap) x.action)) ≡ Some at → ⊥)
      (λ (x : ActiveQueueCall T). target_at (Bounded cap) (standing (Bounded cap) x.call.state) ≡ on_slot at → ⊥)
      (λ x y here no_one g. no_one (ap the_slot (sym (ring_target cap f.two f.most x.call.state y.action here) ∙ g))) (l ++ r) (parted.left ++ parted.right)
      (join IsAtRing l r parted.left parted.right parted.lefts parted.rights)
      (subst (λ (xs : List (Place (RingAction T) T)). Each (λ (x : Place (RingAction T) T). the_slot (target (ring_moves cap (ring_mark cap) x.action)) ≡ Some at → ⊥) xs) places
      (ring_others cap (ring_mark cap) some mark at i.0 i.2 (k.left ++ k.right) most))

-- ---- by the form of the queue

module _ {T : Type 0} (chain : List ℕ) (c : Contents T) (q : Queue T) (l r : List (ActiveQueueCall T)) (call : QueueCall T) (p : Phase T) where
  served_by : (f : QueueForm) → FitsForm f chain c q (l ++ seat call p ∷ r) → served_at f c (standing f call.state)
  served_by (Bounded cap) (inl h) = single_is_served c q l r call p cap h
  served_by (Bounded cap) (inr h) = ring_is_served c q l r call p cap h
  served_by Unbounded h = blocks_served_at chain c q l r call p h

  apart_by : (at : Slot) (f : QueueForm) → FitsForm f chain c q (l ++ seat call p ∷ r) → target_at f (standing f call.state) ≡ on_slot at
      → Each (λ (x : ActiveQueueCall T). target_at f (standing f x.call.state) ≡ on_slot at → ⊥) (l ++ r)
  apart_by at (Bounded cap) (inl h) e = single_apart c q l r call p cap h at e
  apart_by at (Bounded cap) (inr h) e = ring_apart c q l r call p cap h at e
  apart_by at Unbounded h e = blocks_apart chain c q l r call p h at e

module _ {T : Type 0} where
  pub slots_are_touched_alone : SlotsAreTouchedAlone T
  unfolding FitsAt
  slots_are_touched_alone c call others at h e =
      subst (λ (ss : List (ActiveQueueCall T)). Each (λ (x : ActiveQueueCall T). next_target c.form x.call ≡ on_slot at → ⊥) ss) (sym h.others_are)
      (apart_by h.chain c h.queue h.before h.behind call h.phase at c.form h.fits e)

  pub slots_are_as_expected : SlotsAreAsExpected T
  unfolding FitsAt
  slots_are_as_expected c call others h = served_by h.chain c h.queue h.before h.behind call h.phase c.form h.fits
