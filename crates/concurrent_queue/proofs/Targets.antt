-- A call's next operation is that of the place at which it stands, by the form of its queue.
use Rattle.std.proofs.Common.{◌≡◌, ℕ, ◌≤◌, ◌^◌, ◌==◌, Bool, true, false, List, [], ◌∷◌, Option, None, Some, refl, sym, ap, ◌∙◌, subst, arith}
use Rattle.std.proofs.lemmas.Bool.Decides.{nat_tests}
use Rattle.concurrent_queue.specs.Contents.{Contents}
use Rattle.concurrent_queue.specs.Step.{ActiveQueueCall, AreAt, IsAtSingle, IsAtRing, IsAtBlocks}
use Rattle.concurrent_queue.specs.Touched.{Target, target, on_slot, touched_block, IsServed, target_at, served_at}
use Rattle.concurrent_queue.specs.Walked.{standing, first_bounded}
use Rattle.concurrent_queue.specs.machine.BlocksMakes.{blocks_moves}
use Rattle.concurrent_queue.specs.machine.Places.{Place, Each}
use Rattle.concurrent_queue.specs.machine.RingMoves.{ring_moves}
use Rattle.concurrent_queue.specs.machine.RingWords.{cap_of, ring_mark, ring_start}
use Rattle.concurrent_queue.specs.machine.Single.{single_moves}
use Rattle.concurrent_queue.specs.declared.bounded.RingAction.{RingAction}
use Rattle.concurrent_queue.specs.declared.bounded.RingAction.TheVariants as many
use Rattle.concurrent_queue.specs.declared.cells.QueueForm.TheVariants.{Bounded, Unbounded}
use Rattle.concurrent_queue.specs.declared.cells.Slot.{Slot}
use Rattle.concurrent_queue.specs.declared.queue_call.CallState.{CallState}
use Rattle.concurrent_queue.specs.declared.queue_call.CallState.TheVariants.{Asked, Single, Ring, Blocks, Finished}
use Rattle.concurrent_queue.specs.declared.single.SingleAction.{SingleAction}
use Rattle.concurrent_queue.specs.declared.single.SingleAction.TheVariants as one
use Rattle.concurrent_queue.specs.declared.unbounded.action.UnboundedCall.{UnboundedCall}
use Rattle.concurrent_queue.proofs.FitsFacts.{cap_same}

-- the slot that is touched, if one is
abbrev pub the_slot : Target → Option Slot
the_slot (on_slot at) = Some at
the_slot _ = None

pub none_some : {A : Type 0} {x : A} → None ≡ Some x → ⊥
none_some e = absurd cc

pub some_is : {A : Type 0} {x y : A} → Some x ≡ Some y → x ≡ y
some_is e = cc

is_one : (cap : ℕ) → cap ≡ 1 → (cap == 1) ≡ true
is_one cap e = grind (arith, nat_tests)

not_one : (cap : ℕ) → 2 ≤ cap → (cap == 1) ≡ false
not_one cap h = grind (arith, nat_tests)

module _ {T : Type 0} where
  -- ---- one slot

  pub single_target : (cap : ℕ) → cap ≡ 1 → (s : CallState T) (x : SingleAction T) → IsAtSingle s x → target_at (Bounded cap) (standing (Bounded cap) s) ≡ target (single_moves x)
  single_target cap is (Asked a) x e =
      ap (λ (b : Bool). target_at (Bounded cap) (first_bounded b a)) (is_one cap is) ∙ ap (λ (y : SingleAction T). target (single_moves y)) (sym e)
  single_target cap is (Single y) x e = ap (λ (z : SingleAction T). target (single_moves z)) (sym e)
  single_target cap is (Ring y) x e = absurd e
  single_target cap is (Blocks y) x e = absurd e
  single_target cap is Finished x e = absurd e

  pub single_served : (cap : ℕ) → cap ≡ 1 → (c : Contents T) (s : CallState T) (x : SingleAction T) → IsAtSingle s x → IsServed c (single_moves x) → served_at (Bounded cap) c (standing (Bounded cap) s)
  single_served cap is c (Asked a) x e h =
      subst (λ (b : Bool). served_at (Bounded cap) c (first_bounded b a)) (sym (is_one cap is)) (subst (λ (y : SingleAction T). IsServed c (single_moves y)) e h)
  single_served cap is c (Single y) x e h = subst (λ (z : SingleAction T). IsServed c (single_moves z)) e h
  single_served cap is c (Ring y) x e h = absurd e
  single_served cap is c (Blocks y) x e h = absurd e
  single_served cap is c Finished x e h = absurd e

  pub single_block : (a : SingleAction T) → touched_block (target (single_moves a)) ≡ None
  single_block (one.PushPut v) = refl
  single_block a = refl

  -- ---- a ring

  pub ring_target : (cap : ℕ) → 2 ≤ cap → cap ≤ 2 ^ 58 → (s : CallState T) (x : RingAction T) → IsAtRing s x
      → target_at (Bounded cap) (standing (Bounded cap) s) ≡ target (ring_moves cap (ring_mark cap) x)
  ring_target cap two most (Asked a) x e =
      ap (λ (b : Bool). target_at (Bounded cap) (first_bounded b a)) (not_one cap two)
      ∙ ap (λ (y : RingAction T). target (ring_moves (cap_of cap) (ring_mark (cap_of cap)) y)) (sym e)
      ∙ ap (λ (n : ℕ). target (ring_moves n (ring_mark n) x)) (cap_same cap most)
  ring_target cap two most (Ring y) x e =
      ap (λ (z : RingAction T). target (ring_moves (cap_of cap) (ring_mark (cap_of cap)) z)) (sym e)
      ∙ ap (λ (n : ℕ). target (ring_moves n (ring_mark n) x)) (cap_same cap most)
  ring_target cap two most (Single y) x e = absurd e
  ring_target cap two most (Blocks y) x e = absurd e
  ring_target cap two most Finished x e = absurd e

  pub ring_served : (cap : ℕ) → 2 ≤ cap → cap ≤ 2 ^ 58 → (c : Contents T) (s : CallState T) (x : RingAction T) → IsAtRing s x
      → IsServed c (ring_moves cap (ring_mark cap) x) → served_at (Bounded cap) c (standing (Bounded cap) s)
  ring_served cap two most c (Asked a) x e h =
      subst (λ (b : Bool). served_at (Bounded cap) c (first_bounded b a)) (sym (not_one cap two))
      (subst (λ (n : ℕ). IsServed c (ring_moves n (ring_mark n) (ring_start a))) (sym (cap_same cap most))
      (subst (λ (y : RingAction T). IsServed c (ring_moves cap (ring_mark cap) y)) e h))
  ring_served cap two most c (Ring y) x e h =
      subst (λ (n : ℕ). IsServed c (ring_moves n (ring_mark n) y)) (sym (cap_same cap most)) (subst (λ (z : RingAction T). IsServed c (ring_moves cap (ring_mark cap) z)) e h)
  ring_served cap two most c (Single y) x e h = absurd e
  ring_served cap two most c (Blocks y) x e h = absurd e
  ring_served cap two most c Finished x e h = absurd e

  pub ring_block : (cap m : ℕ) (a : RingAction T) → touched_block (target (ring_moves cap m a)) ≡ None
  ring_block cap m (many.PushPut k v t) = refl
  ring_block cap m a = refl

  -- ---- blocks

  pub blocks_target : (s : CallState T) (x : UnboundedCall T) → IsAtBlocks s x → target_at Unbounded (standing Unbounded s) ≡ target (blocks_moves x.action)
  blocks_target (Asked a) x e = ap (λ (y : UnboundedCall T). target (blocks_moves y.action)) (sym e)
  blocks_target (Blocks y) x e = ap (λ (z : UnboundedCall T). target (blocks_moves z.action)) (sym e)
  blocks_target (Single a) x e = absurd e
  blocks_target (Ring a) x e = absurd e
  blocks_target Finished x e = absurd e

  pub blocks_served : (c : Contents T) (s : CallState T) (x : UnboundedCall T) → IsAtBlocks s x → IsServed c (blocks_moves x.action) → served_at Unbounded c (standing Unbounded s)
  blocks_served c (Asked a) x e h = subst (λ (y : UnboundedCall T). IsServed c (blocks_moves y.action)) e h
  blocks_served c (Blocks y) x e h = subst (λ (z : UnboundedCall T). IsServed c (blocks_moves z.action)) e h
  blocks_served c (Single a) x e h = absurd e
  blocks_served c (Ring a) x e h = absurd e
  blocks_served c Finished x e h = absurd e

-- ---- what holds of each place holds of each seat

module _ {A T : Type 0} (at : CallState T → A → Type 0) (P : Place A T → Type 0) (Q : ActiveQueueCall T → Type 0) (carries : (s : ActiveQueueCall T) (x : Place A T) → at s.call.state x.action → P x → Q s) where
  pub each_seat : (ss : List (ActiveQueueCall T)) (xs : List (Place A T)) → AreAt at ss xs → Each P xs → Each Q ss
  each_seat [] [] h all = tt
  each_seat [] (x ∷ xs) h all = absurd h
  each_seat (s ∷ ss) [] h all = absurd h
  each_seat (s ∷ ss) (x ∷ xs) h all = (carries s x h.0.0 all.0, each_seat ss xs h.1 all.1)
