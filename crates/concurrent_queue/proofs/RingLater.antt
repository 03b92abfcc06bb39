-- What a call knows outlasts a step of another.
use Rattle.std.proofs.Common.{◌≡◌, ℕ, ◌+◌, ◌%◌, ◌<◌, ◌≤◌, ⊎_elim, Bool, true, false, if◌then◌else◌, ◌==◌, Option, None, Some, refl, sym, ◌∙◌, subst, inl, inr, arith}
use Rattle.std.proofs.lemmas.Nat.{mod_below}
use Rattle.std.proofs.lemmas.Bool.Decides.{nat_tests}
use Rattle.concurrent_queue.specs.Queue.{Phase}
use Rattle.concurrent_queue.specs.machine.RingState.{SlotState, Ring, busy}
use Rattle.concurrent_queue.specs.machine.RingCalls.{Duty, hold, bring, IsDuty, StandsRing, IsItem, Reached, Saw, KnowsRing, held, owes, owed}
use Rattle.concurrent_queue.specs.machine.RingMeans.{Later}
use Rattle.concurrent_queue.specs.declared.bounded.RingAction.{RingAction}
use Rattle.concurrent_queue.specs.declared.bounded.RingAction.TheVariants as act

pub eq_self : (i : ℕ) → (i == i) ≡ true
eq_self i = grind (arith, nat_tests)

at_most_one : (b : Bool) → (if b then 1 else 0) ≤ 1
at_most_one false = omega arith
at_most_one true = omega arith

one_each : (x y z : ℕ) → x + y ≤ z → z ≤ 1 → x ≡ 1 → y ≡ 0
one_each x y z h g e = omega arith

module _ {T : Type 0} (cap : ℕ) (some : 0 < cap) (r : Ring T) (a : RingAction T) (r' : Ring T) (l : Later cap r a r') where
  saw_later : (n : ℕ) (seen : Bool) → Saw cap r n seen → Saw cap r' n seen
  saw_later n seen s = (let t = l.tail in omega (arith, s.0), ⊎_elim (λ h. inl h) (λ h. inr (let t = l.head in omega arith)) s.1)

  reached_later : (n : ℕ) → Reached cap r n → Reached cap r' n
  reached_later n s = (
    let g = l.round (n % cap) in omega (arith, s.0),
    λ e. (let g = l.round (n % cap) in
        let was : (r.at (n % cap)).round ≡ n = omega (arith, s.0) in
        l.written (n % cap) (e ∙ sym was) (s.1 was)),
  )

  -- a call that holds its place finds it as it left it
  module _ (q : RingAction T) (apart : (d : Duty) → IsDuty cap d → owes cap q d + owes cap a d ≤ owed r d) where
    mine : (n : ℕ) → held q ≡ Some n → owes cap a (hold (n % cap)) ≡ 0
    mine n e =
        let his : owes cap q (hold (n % cap)) ≡ 1 = rw e (rw (eq_self (n % cap)) refl) in
        one_each _ _ _ (apart (hold (n % cap)) (mod_below n cap some)) (at_most_one (busy r (n % cap))) his

    stands_later : (n : ℕ) (w : Bool) (slot : Option T) → held q ≡ Some n → StandsRing cap r n w slot → StandsRing cap r' n w slot
    stands_later n w slot e s = subst (λ (x : SlotState T). (x.round ≡ n) × (x.written ≡ w) × (x.slot ≡ slot)) (sym (l.place (n % cap) (mine n e))) s

    item_later : (n : ℕ) (v : T) → IsItem r n v → IsItem r' n v
    item_later n v s = (let t = l.tail in omega (arith, s.0), l.all n v s.1)

    below_later : (n : ℕ) → n < r.head → n < r'.head
    below_later n h = let t = l.head in omega arith

    bringing : (x : ℕ) → x ≡ owes cap q bring → x ≡ 1 → owes cap a bring ≡ 0
    bringing x e f = one_each _ _ _ (apart bring tt) (at_most_one r.coming) (sym e ∙ f)

  pub later_keeps : (q : RingAction T) (p : Phase T) → ((d : Duty) → IsDuty cap d → owes cap q d + owes cap a d ≤ owed r d) → KnowsRing cap r q p → KnowsRing cap r' q p
  later_keeps (act.Push k v) p apart s = s
  later_keeps (act.PushShut k v) p apart s = s
  later_keeps (act.PushStamp k v n) p apart s = (s.0, s.1, saw_later n s.0 s.2)
  later_keeps (act.PushSwap k v n) p apart s = (s.0, s.1, let g = l.round (n % cap) in omega (arith, s.2))
  later_keeps (act.PushPut k v n) p apart s = (s.0, stands_later (act.PushPut k v n) apart n false None refl s.1, item_later (act.PushPut k v n) apart n v s.2)
  later_keeps (act.PushStore k n) p apart s = (s.0, s.1, stands_later (act.PushStore k n) apart n false (Some s.0) refl s.2, item_later (act.PushStore k n) apart n s.0 s.3)
  later_keeps (act.PushHead v c) p apart s = (s.0, s.1, saw_later (c + cap) s.0 s.2)
  later_keeps (act.ForceHead v c) p apart s = (s.0, s.1, saw_later (c + cap) s.0 s.2, reached_later c s.3)
  later_keeps (act.ForceAdd v c) p apart s =
      let f = l.coming (bringing (act.ForceAdd v c) apart 1 refl refl) s.5 in
      (s.0, s.1, stands_later (act.ForceAdd v c) apart c true (Some s.0) refl s.2, below_later (act.ForceAdd v c) apart c s.3, f.1 ∙ s.4, f.0)
  later_keeps (act.ForceTake v c) p apart s =
      (s.0, s.1, stands_later (act.ForceTake v c) apart c true (Some s.0) refl s.2, below_later (act.ForceTake v c) apart c s.3, item_later (act.ForceTake v c) apart (c + cap) v s.4)
  later_keeps (act.ForcePut v c d) p apart s =
      (s.0, stands_later (act.ForcePut v c d) apart c true None refl s.1, below_later (act.ForcePut v c d) apart c s.2, item_later (act.ForcePut v c d) apart (c + cap) v s.3)
  later_keeps (act.ForceStore c d) p apart s =
      (s.0, s.1, stands_later (act.ForceStore c d) apart c true (Some s.0) refl s.2, below_later (act.ForceStore c d) apart c s.3, item_later (act.ForceStore c d) apart (c + cap) s.0 s.4)
  later_keeps act.Pop p apart s = s
  later_keeps (act.PopStamp n) p apart s = (s.0, s.1, let t = l.head in omega (arith, s.2))
  later_keeps (act.PopSwap n) p apart s = (s.0, s.1, reached_later n s.2)
  later_keeps (act.PopTail n) p apart s = (s.0, s.1, let t = l.head in omega (arith, s.2), let g = l.round (n % cap) in omega (arith, s.3))
  later_keeps (act.PopTake n) p apart s =
      (s.0, s.1, stands_later (act.PopTake n) apart n true (Some s.0) refl s.2, below_later (act.PopTake n) apart n s.3, l.behind n (mine (act.PopTake n) apart n refl) s.2.0 s.3 s.4)
  later_keeps (act.PopStore n d) p apart s =
      (s.0, stands_later (act.PopStore n d) apart n true None refl s.1, below_later (act.PopStore n d) apart n s.2, l.behind n (mine (act.PopStore n d) apart n refl) s.1.0 s.2 s.3)
  later_keeps act.Close p apart s = s
  later_keeps act.IsClosed p apart s = s
  later_keeps act.IsEmpty p apart s = s
  later_keeps (act.IsEmptyTail n) p apart s = (s.0, let t = l.head in omega (arith, s.1))
  later_keeps act.IsFull p apart s = s
  later_keeps (act.IsFullHead n) p apart s = (s.0, let t = l.tail in omega (arith, s.1))
  later_keeps act.Len p apart s = s
  later_keeps (act.LenHead n b) p apart s = (s.0, let t = l.tail in omega (arith, s.1))
  later_keeps (act.LenTail n b h) p apart s = (s.0, s.1, let t = l.tail in omega (arith, s.2), let t = l.head in omega (arith, s.3), λ e. s.4 (let t = l.tail in omega (arith, s.2)))
  later_keeps act.Capacity p apart s = s
  later_keeps act.Finished p apart s = s
