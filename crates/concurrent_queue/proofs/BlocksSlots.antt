-- A slot of a block that a call is about to put into or take from is its own: a place is filled by one, and taken from by one.
use Rattle.std.proofs.Common.{◌≡◌, ℕ, ◌+◌, ◌*◌, ◌/◌, ◌%◌, ◌≤◌, ◌&&◌, true, false, not, List, [], ◌∷◌, ◌++◌, map, Option, None, Some, nat_lt, slice_get, slice_index_or, sym, ap, ◌∙◌, subst, arith}
use Rattle.std.proofs.lemmas.Nat.{div-add-mod'}
use Rattle.concurrent_queue.specs.Contents.{Contents, is_vacant, block_at}
use Rattle.concurrent_queue.specs.Queue.{Queue, Phase}
use Rattle.concurrent_queue.specs.Step.{ActiveQueueCall, seat, FitsBy, IsAtBlocks}
use Rattle.concurrent_queue.specs.Touched.{target, on_slot, IsServed, target_at, served_at}
use Rattle.concurrent_queue.specs.Walked.{standing}
use Rattle.concurrent_queue.specs.machine.BlocksCalls.{Act, KnowsBlocks, IsBlockOf, owes}
use Rattle.concurrent_queue.specs.machine.BlocksDenotes.{Denotes, act_of, IsProper}
use Rattle.concurrent_queue.specs.machine.BlocksForm.{seat_of, IsFit, UnboundedMeans}
use Rattle.concurrent_queue.specs.machine.BlocksMakes.{blocks_moves}
use Rattle.concurrent_queue.specs.machine.BlocksMoves.{BlocksSeat, owners}
use Rattle.concurrent_queue.specs.machine.BlocksState.{Blocks, SoundBlocks, Duty, fill, take, is_none, owed, number}
use Rattle.concurrent_queue.specs.machine.Places.{Place, Each}
use Rattle.concurrent_queue.specs.declared.cells.QueueForm.TheVariants.{Unbounded}
use Rattle.concurrent_queue.specs.declared.cells.Slot.{Slot}
use Rattle.concurrent_queue.specs.declared.cells.Slot.TheVariants.{In}
use Rattle.concurrent_queue.specs.declared.queue_call.QueueCall.{QueueCall}
use Rattle.concurrent_queue.specs.declared.unbounded.action.UnboundedAction.{UnboundedAction}
use Rattle.concurrent_queue.specs.declared.unbounded.action.UnboundedAction.TheVariants as act
use Rattle.concurrent_queue.specs.declared.unbounded.action.UnboundedCall.{UnboundedCall}
use Rattle.concurrent_queue.proofs.BlocksAmong.{amid}
use Rattle.concurrent_queue.proofs.BlocksOthers.{at_most_one}
use Rattle.concurrent_queue.proofs.BlocksTouched.{chained_at, emptied, filled, not_read, one_owed, one_owes, same_used, true_false}
use Rattle.concurrent_queue.proofs.BlocksYields.{head_offset, head_place, index_or_get, tail_offset, tail_place}
use Rattle.concurrent_queue.proofs.Targets.{none_some, some_is, the_slot, blocks_target, blocks_served, each_seat}

block_in : Slot → ℕ
block_in (In b i) = b
block_in _ = 0

place_in : Slot → ℕ
place_in (In b i) = i
place_in _ = 0

same_block : (b c i j : ℕ) → In b i ≡ In c j → b ≡ c
unfolding block_in
same_block b c i j e = ap block_in e

same_place : (b c i j : ℕ) → In b i ≡ In c j → i ≡ j
unfolding place_in
same_place b c i j e = ap place_in e

-- what a call that is about to touch a slot knows and owes: it is to fill the place of an item, or to take the item
data SlotClaim {T : Type 0} (r : Blocks T) (a : Act T) (at : Slot) : Type 0 where
  fills : (n b : ℕ) → at ≡ In b (n % 31) → IsBlockOf r n b → ((r.block (n / 31)).reads ≡ 31 → ⊥) → (r.cell n).written ≡ false → 1 ≤ owes a (fill n) → SlotClaim r a at
  takes : (n b : ℕ) → at ≡ In b (n % 31) → IsBlockOf r n b → ((r.block (n / 31)).reads ≡ 31 → ⊥) → (r.cell n).written ≡ true → 1 ≤ owes a (take n) → SlotClaim r a at

module _ {T : Type 0} (r : Blocks T) (items : List T) (s : SoundBlocks r items) where
  slot_claims : (a : UnboundedAction T) (p : Phase T) (at : Slot) → IsProper a → KnowsBlocks r (act_of a) p → ((d : Duty) → owes (act_of a) d ≤ owed r d)
      → the_slot (target (blocks_moves a)) ≡ Some at → SlotClaim r (act_of a) at
  slot_claims (act.PushPut v t b h) p at w k o e =
      let n = number (t / 2) in
      fills n b (sym (some_is e) ∙ ap (λ (i : ℕ). In b i) (sym (tail_offset t w))) k.0.4 (filled r items s n (one_owed n _ (o (fill n)))) k.0.5 (one_owes n)
  slot_claims (act.PopTake t b) p at w k o e =
      let n = number t in
      takes n b (sym (some_is e) ∙ ap (λ (i : ℕ). In b i) (sym (head_offset t w))) k.1.4 (emptied r items s n (one_owed n _ (o (take n)))) k.2 (one_owes n)
  slot_claims a p at w k o e = absurd (none_some e)

  -- the same slot is the place of the same item
  same_item : (n m b c : ℕ) (at : Slot) → at ≡ In b (n % 31) → at ≡ In c (m % 31) → IsBlockOf r n b → IsBlockOf r m c → ((r.block (n / 31)).reads ≡ 31 → ⊥) → ((r.block (m / 31)).reads ≡ 31 → ⊥) → m ≡ n
  same_item n m b c at e f is on unread unread' =
      let here = chained_at r items s n b is (not_read r items s (n / 31) unread) in
      let there = chained_at r items s m c on (not_read r items s (m / 31) unread') in
      let blocks : c ≡ b = same_block c b (m % 31) (n % 31) (sym f ∙ e) in
      let ordinals : m / 31 ≡ n / 31 = same_used (m / 31) (n / 31) (sym there ∙ ap r.spot blocks ∙ here) in
      let places : m % 31 ≡ n % 31 = same_place c b (m % 31) (n % 31) (sym f ∙ e) in
      sym (div-add-mod' m 31) ∙ ap (λ (x : ℕ). x * 31 + m % 31) ordinals ∙ ap (λ (x : ℕ). n / 31 * 31 + x) places ∙ div-add-mod' n 31

  slots_alone : (a o : Act T) (at : Slot) → ((d : Duty) → owes o d + owes a d ≤ owed r d) → SlotClaim r a at → SlotClaim r o at → ⊥
  slots_alone a o at two (fills n b e is unread w owing) (fills m c f on unread' w' owing') =
      let theirs = subst (λ (x : ℕ). 1 ≤ owes o (fill x)) (same_item n m b c at e f is on unread unread') owing' in
      let h = two (fill n) in
      let most = at_most_one (nat_lt n r.tail && not (r.cell n).written) in
      absurd (omega arith)
  slots_alone a o at two (fills n b e is unread w owing) (takes m c f on unread' w' owing') =
      true_false (sym w' ∙ ap (λ (x : ℕ). (r.cell x).written) (same_item n m b c at e f is on unread unread') ∙ w)
  slots_alone a o at two (takes n b e is unread w owing) (fills m c f on unread' w' owing') =
      true_false (sym w ∙ ap (λ (x : ℕ). (r.cell x).written) (sym (same_item n m b c at e f is on unread unread')) ∙ w')
  slots_alone a o at two (takes n b e is unread w owing) (takes m c f on unread' w' owing') =
      let theirs = subst (λ (x : ℕ). 1 ≤ owes o (take x)) (same_item n m b c at e f is on unread unread') owing' in
      let h = two (take n) in
      let most = at_most_one (nat_lt n r.head && not ((r.cell n).written && is_none (r.cell n).slot)) in
      absurd (omega arith)

  -- the slot is as the call has to find it
  blocks_serves : (c : Contents T) (den : Denotes c r) (a : UnboundedAction T) (p : Phase T) → IsProper a → KnowsBlocks r (act_of a) p → ((d : Duty) → owes (act_of a) d ≤ owed r d) → IsServed c (blocks_moves a)
  blocks_serves c den (act.PushPut v t b h) p w k o =
      let n = number (t / 2) in
      let alive = not_read r items s (n / 31) (filled r items s n (one_owed n _ (o (fill n)))) in
      let x = (den.used (n / 31) k.0.4.0 alive).slots (t / 2 % 32) w.1 in
      ap (λ (z : ℕ). is_vacant (slice_get (block_at c z).slots (t / 2 % 32))) k.0.4.1
      ∙ ap is_vacant x ∙ ap (λ (m : ℕ). is_vacant (Some (r.cell m).slot)) (tail_place t w) ∙ ap (λ (z : Option T). is_vacant (Some z)) k.0.6
  blocks_serves c den (act.PopTake t b) p w k o =
      let n = number t in
      let alive = not_read r items s (n / 31) (emptied r items s n (one_owed n _ (o (take n)))) in
      let x = (den.used (n / 31) k.1.4.0 alive).slots (t % 32) w in (
        k.0,
        ap (λ (z : ℕ). slice_index_or (block_at c z).slots (t % 32) None) k.1.4.1
            ∙ index_or_get (block_at c (r.num (n / 31))).slots (t % 32) _ None x ∙ ap (λ (m : ℕ). (r.cell m).slot) (head_place t w) ∙ k.1.5 k.2,
      )
  blocks_serves c den a p w k o = tt

-- ---- one call among others

module _ {T : Type 0} where
  -- each of which owes with this call no more than all owe
  slots_of_others : (r : Blocks T) (items : List T) (s : SoundBlocks r items) (a : Act T) (at : Slot) → SlotClaim r a at → (ps : List (Place (UnboundedCall T) T)) → Each IsFit ps
      → ((d : Duty) → owners d (map seat_of ps) + owes a d ≤ owed r d) → Each (λ (x : BlocksSeat T). KnowsBlocks r x.act x.phase) (map seat_of ps)
      → Each (λ (x : Place (UnboundedCall T) T). the_slot (target (blocks_moves x.action.action)) ≡ Some at → ⊥) ps
  slots_of_others r items s a at mine [] fit most all = tt
  slots_of_others r items s a at mine (x ∷ xs) fit most all =
      let two : (d : Duty) → owes (act_of x.action.action) d + owes a d ≤ owed r d = λ d. (let h = most d in omega arith) in (
        λ e. slots_alone r items s a (act_of x.action.action) at two mine
            (slot_claims r items s x.action.action x.phase at fit.0.0 all.0 (λ d. (let h = two d in omega arith)) e),
        slots_of_others r items s a at mine xs fit.1 (λ d. (let h = most d in omega arith)) all.1,
      )

  module _ (chain : List ℕ) (c : Contents T) (q : Queue T) (l r : List (ActiveQueueCall T)) (call : QueueCall T) (p : Phase T) (f : FitsBy IsAtBlocks (UnboundedMeans chain c q) (l ++ seat call p ∷ r)) where
    pub blocks_served_at : served_at Unbounded c (standing Unbounded call.state)
    blocks_served_at =
        let x = amid chain c q l r call p f in
        blocks_served c call.state x.mine.action x.stands
        (blocks_serves x.blocks q.items x.sound c x.denotes x.mine.action.action x.mine.phase x.fit.0 x.knows (λ d. (let h = x.most d in omega arith)))

    pub blocks_apart : (at : Slot) → target_at Unbounded (standing Unbounded call.state) ≡ on_slot at
        → Each (λ (x : ActiveQueueCall T). target_at Unbounded (standing Unbounded x.call.state) ≡ on_slot at → ⊥) (l ++ r)
    blocks_apart at e =
        let x = amid chain c q l r call p f in
        let a = x.mine.action.action in
        let mine : SlotClaim x.blocks (act_of a) at =
        slot_claims x.blocks q.items x.sound a x.mine.phase at x.fit.0 x.knows (λ d. (let h = x.most d in omega arith)) (ap the_slot (sym (blocks_target call.state x.mine.action x.stands) ∙ e)) in
        each_seat IsAtBlocks (λ (y : Place (UnboundedCall T) T). the_slot (target (blocks_moves y.action.action)) ≡ Some at → ⊥)
        (λ (y : ActiveQueueCall T). target_at Unbounded (standing Unbounded y.call.state) ≡ on_slot at → ⊥)
        (λ y z here no_one g. no_one (ap the_slot (sym (blocks_target y.call.state z.action here) ∙ g))) (l ++ r) x.theirs x.stand
        (slots_of_others x.blocks q.items x.sound (act_of a) at mine x.theirs x.all_fit x.most x.all_know)
