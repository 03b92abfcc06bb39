-- A block that a call is about to touch is in use: else all of it was written, taken and counted, and nobody would owe that any more.
use Rattle.std.proofs.Common.{◌≡◌, ℕ, ◌+◌, ◌/◌, ◌%◌, ◌<◌, ◌≤◌, ◌==◌, ◌&&◌, Bool, true, false, not, List, [], ◌∷◌, ◌++◌, length, map, ◌⊎◌, inl, inr, ⊎_elim, Option, None, Some, nat_lt, if◌then◌else◌, refl, sym, ap, ◌∙◌, subst, arith}
use Rattle.std.proofs.lemmas.Bool.{cases_lt}
use Rattle.std.proofs.lemmas.Bool.Decides.{nat_tests}
use Rattle.concurrent_queue.specs.Contents.{Contents}
use Rattle.concurrent_queue.specs.Queue.{Queue, Phase}
use Rattle.concurrent_queue.specs.Step.{ActiveQueueCall, seat, FitsAt, FitsForm, FitsSlot, FitsRing, IsAtSingle, IsAtRing, IsAtBlocks, FitsBy}
use Rattle.concurrent_queue.specs.Touched.{Target, target, touched_block, on_block, target_at, next_target, TouchedBlocksAreInUse, BlocksAreGivenBackAlone}
use Rattle.concurrent_queue.specs.Walked.{standing}
use Rattle.concurrent_queue.specs.machine.BlocksCalls as call
use Rattle.concurrent_queue.specs.machine.BlocksCalls.{Act, KnowsBlocks, IsBlockOf, same, owes}
use Rattle.concurrent_queue.specs.machine.BlocksDenotes.{Denotes, act_of, times, is_spare}
use Rattle.concurrent_queue.specs.machine.BlocksForm.{seat_of, UnboundedMeans}
use Rattle.concurrent_queue.specs.machine.BlocksMakes.{blocks_moves}
use Rattle.concurrent_queue.specs.machine.BlocksMoves.{BlocksSeat, owners}
use Rattle.concurrent_queue.specs.machine.BlocksState.{Blocks, SoundBlocks, Duty, Spot, unmade, spare, held, used, fill, take, count, retire, keep, one_if, is_none, is_held, taken_in, owed, number}
use Rattle.concurrent_queue.specs.machine.Places.{Place, Each}
use Rattle.concurrent_queue.specs.declared.cells.QueueForm.{QueueForm}
use Rattle.concurrent_queue.specs.declared.cells.QueueForm.TheVariants.{Bounded, Unbounded}
use Rattle.concurrent_queue.specs.declared.queue_call.QueueCall.{QueueCall}
use Rattle.concurrent_queue.specs.declared.unbounded.action.UnboundedAction.{UnboundedAction}
use Rattle.concurrent_queue.specs.declared.unbounded.action.UnboundedAction.TheVariants as act
use Rattle.concurrent_queue.specs.declared.unbounded.action.UnboundedCall.{UnboundedCall}
use Rattle.concurrent_queue.proofs.BlocksAmong.{amid}
use Rattle.concurrent_queue.proofs.BlocksOthers.{same_self, at_most_one}
use Rattle.concurrent_queue.proofs.StepFacts.{part}
use Rattle.concurrent_queue.proofs.Targets.{none_some, some_is, single_target, single_block, ring_target, ring_block, blocks_target, each_seat}
use Rattle.concurrent_queue.specs.machine.RingWords.{ring_mark}

one_is : (b : Bool) → 1 ≤ one_if b → b ≡ true
one_is true h = refl
one_is false h = absurd (omega arith)

both_true : (a b : Bool) → (a && b) ≡ true → (a ≡ true) × (b ≡ true)
both_true true b e = (refl, e)
both_true false b e = absurd cc

not_true : (b : Bool) → not b ≡ true → b ≡ false
not_true false e = refl
not_true true e = absurd cc

not_so : (b : Bool) → (b ≡ true → ⊥) → b ≡ false
not_so false h = refl
not_so true h = absurd (h refl)

pub true_false : true ≡ false → ⊥
true_false e = absurd cc

at_most_31 : (h k : ℕ) → taken_in h k ≤ 31
at_most_31 h k = by_test (nat_lt k (h / 31)) (k == h / 31)
  where
    by_test : (a b : Bool) → (if a then 31 else (if b then h % 31 else 0)) ≤ 31
    by_test true b = omega arith
    by_test false true = omega arith
    by_test false false = omega arith

is_held_spot : (x : Spot) → is_held x ≡ true → x ≡ held
is_held_spot held e = refl
is_held_spot unmade e = absurd cc
is_held_spot spare e = absurd cc
is_held_spot (used k) e = absurd cc

ordinal : Spot → ℕ
ordinal (used k) = k
ordinal _ = 0

pub same_used : (j k : ℕ) → used j ≡ used k → j ≡ k
unfolding ordinal
same_used j k e = ap ordinal e

used_held : (k : ℕ) → used k ≡ held → ⊥
used_held k e = absurd cc

pub one_owed : (n k : ℕ) → same n n ≤ k → 1 ≤ k
one_owed n k h = subst (λ (x : ℕ). x ≤ k) (same_self n) h

pub one_owes : (n : ℕ) → 1 ≤ same n n
one_owes n = subst (λ (x : ℕ). 1 ≤ x) (sym (same_self n)) (omega arith)

-- what a call knows and owes of a block that it is about to touch: it works on one that was not read whole, is to give back one that
-- was, or holds one that is in no chain
data Claim {T : Type 0} (r : Blocks T) (a : Act T) (b : ℕ) : Type 0 where
  works : (n : ℕ) → IsBlockOf r n b → ((r.block (n / 31)).reads ≡ 31 → ⊥) → Claim r a b
  ends : (n : ℕ) → IsBlockOf r n b → 1 ≤ owes a (retire (n / 31)) → Claim r a b
  holds : 1 ≤ owes a (keep b) → Claim r a b

-- where a block is that is touched
data IsInUse (x : Spot) : Type 0 where
  is_used : (k : ℕ) → x ≡ used k → IsInUse x
  is_kept : x ≡ held → IsInUse x

-- the block that is given back
abbrev given_back : Target → Option ℕ
given_back (on_block b) = Some b
given_back _ = None

module _ {T : Type 0} (r : Blocks T) (items : List T) (s : SoundBlocks r items) where
  -- what is owed for an item or a block of which all was read
  pub filled : (n : ℕ) → 1 ≤ owed r (fill n) → (r.block (n / 31)).reads ≡ 31 → ⊥
  filled n h e = true_false (sym (s.done n e).0 ∙ not_true (r.cell n).written (both_true (nat_lt n r.tail) (not (r.cell n).written) (one_is (nat_lt n r.tail && not (r.cell n).written) h)).1)

  pub emptied : (n : ℕ) → 1 ≤ owed r (take n) → (r.block (n / 31)).reads ≡ 31 → ⊥
  emptied n h e =
      let c = r.cell n in
      let f : (c.written && is_none c.slot) ≡ false = not_true _ (both_true (nat_lt n r.head) (not (c.written && is_none c.slot)) (one_is _ h)).1 in
      let g : (c.written && is_none c.slot) ≡ true = ap (λ (b : Bool). b && is_none c.slot) (s.done n e).0 ∙ ap (λ (o : Option T). is_none o) (s.done n e).1 in
      true_false (sym g ∙ f)

  counted : (n : ℕ) → 1 ≤ owed r (count (n / 31)) → (r.block (n / 31)).reads ≡ 31 → ⊥
  counted n h e = let l = at_most_31 r.head (n / 31) in absurd (omega arith)

  due : (k : ℕ) → 1 ≤ owed r (retire k) → ((r.block k).reads ≡ 31) × ((r.block k).retired ≡ false)
  due k h =
      let b = both_true ((r.block k).reads == 31) (not (r.block k).retired) (one_is _ h) in
      (grind (arith, nat_tests, b.0), not_true (r.block k).retired b.1)

  pub chained_at : (n b : ℕ) → IsBlockOf r n b → (r.block (n / 31)).retired ≡ false → r.spot b ≡ used (n / 31)
  chained_at n b is alive = ap r.spot is.1 ∙ s.live (n / 31) is.0 alive

  pub not_read : (k : ℕ) → ((r.block k).reads ≡ 31 → ⊥) → (r.block k).retired ≡ false
  not_read k h = not_so (r.block k).retired (λ e. h (s.retired k e))

  abbrev OwesNoMore : Act T → Type 0
  OwesNoMore a = (d : Duty) → owes a d ≤ owed r d

  -- a call that is about to touch a block has such a claim
  claims : (a : UnboundedAction T) (p : Phase T) (b : ℕ) → KnowsBlocks r (act_of a) p → OwesNoMore (act_of a) → touched_block (target (blocks_moves a)) ≡ Some b → Claim r (act_of a) b
  claims (act.PushReturn v h) p b k o e = subst (λ (x : ℕ). Claim r (call.push_return v h) x) (some_is e) (holds (one_owes h))
  claims (act.PushGive h) p b k o e = subst (λ (x : ℕ). Claim r (call.push_give h) x) (some_is e) (holds (one_owes h))
  claims (act.PushLink v t b' h) p b k o e =
      let n = number (t / 2) in subst (λ (x : ℕ). Claim r (call.push_link v n b' h) x) (some_is e) (works n k.0.4 (filled n (one_owed n _ (o (fill n)))))
  claims (act.PushPut v t b' h) p b k o e =
      let n = number (t / 2) in subst (λ (x : ℕ). Claim r (call.push_put v n b' h) x) (some_is e) (works n k.0.4 (filled n (one_owed n _ (o (fill n)))))
  claims (act.PushStore t b' h) p b k o e =
      let n = number (t / 2) in subst (λ (x : ℕ). Claim r (call.push_store n b' h) x) (some_is e) (works n k.1.4 (filled n (one_owed n _ (o (fill n)))))
  claims (act.PopNext t b') p b k o e =
      let n = number t in subst (λ (x : ℕ). Claim r (call.pop_next n b') x) (some_is e) (works n k.1.4 (emptied n (one_owed n _ (o (take n)))))
  claims (act.PopWait t b') p b k o e =
      let n = number t in subst (λ (x : ℕ). Claim r (call.pop_wait n b') x) (some_is e) (works n k.1.4 (emptied n (one_owed n _ (o (take n)))))
  claims (act.PopTake t b') p b k o e =
      let n = number t in subst (λ (x : ℕ). Claim r (call.pop_take n b') x) (some_is e) (works n k.1.4 (emptied n (one_owed n _ (o (take n)))))
  claims (act.PopCount t b' v) p b k o e =
      let n = number t in subst (λ (x : ℕ). Claim r (call.pop_count n b' v) x) (some_is e) (works n k.3 (counted n (one_owed (n / 31) _ (o (count (n / 31))))))
  claims (act.PopRetire t b' v) p b k o e =
      let n = number t in subst (λ (x : ℕ). Claim r (call.pop_retire n b' v) x) (some_is e) (ends n k.3 (one_owes (n / 31)))
  claims a p b k o e = absurd (none_some e)

  spot_of : (a : Act T) (b : ℕ) → OwesNoMore a → Claim r a b → IsInUse (r.spot b)
  spot_of a b o (works n is unread) = is_used (n / 31) (chained_at n b is (not_read (n / 31) unread))
  spot_of a b o (ends n is owing) = is_used (n / 31) (chained_at n b is (due (n / 31) (let h = o (retire (n / 31)) in omega arith)).1)
  spot_of a b o (holds owing) = is_kept (is_held_spot (r.spot b) (one_is (is_held (r.spot b)) (let h = o (keep b) in omega arith)))

  -- what a call has that is to give a block back
  GivesBack : Act T → ℕ → Type 0
  GivesBack a b = ((n : ℕ) × IsBlockOf r n b × (1 ≤ owes a (retire (n / 31)))) ⊎ (1 ≤ owes a (keep b))

  gives : (a : UnboundedAction T) (p : Phase T) (b : ℕ) → KnowsBlocks r (act_of a) p → given_back (target (blocks_moves a)) ≡ Some b → GivesBack (act_of a) b
  unfolding GivesBack
  gives (act.PushReturn v h) p b k e = subst (λ (x : ℕ). GivesBack (call.push_return v h) x) (some_is e) (inr (one_owes h))
  gives (act.PushGive h) p b k e = subst (λ (x : ℕ). GivesBack (call.push_give h) x) (some_is e) (inr (one_owes h))
  gives (act.PopRetire t b' v) p b k e = let n = number t in subst (λ (x : ℕ). GivesBack (call.pop_retire n b' v) x) (some_is e) (inl (n, k.3, one_owes (n / 31)))
  gives a p b k e = absurd (none_some e)

  -- no other has a claim on it
  module _ (a o : Act T) (b : ℕ) (two : (d : Duty) → owes o d + owes a d ≤ owed r d) where
    mine_owes : OwesNoMore a
    mine_owes d = let h = two d in omega arith

    theirs_owes : OwesNoMore o
    theirs_owes d = let h = two d in omega arith

    to_retire : (n : ℕ) → IsBlockOf r n b → 1 ≤ owes a (retire (n / 31)) → ((r.block (n / 31)).reads ≡ 31) × (r.spot b ≡ used (n / 31))
    to_retire n is owing =
        let d = due (n / 31) (let h = mine_owes (retire (n / 31)) in omega arith) in
        (d.0, chained_at n b is d.1)

    kept : 1 ≤ owes a (keep b) → r.spot b ≡ held
    kept owing = is_held_spot (r.spot b) (one_is (is_held (r.spot b)) (let h = mine_owes (keep b) in omega arith))

    alone : GivesBack a b → Claim r o b → ⊥
    unfolding GivesBack
    alone (inl (n, is, owing)) (works m on unread) =
        let d = to_retire n is owing in
        let here : n / 31 ≡ m / 31 = same_used (n / 31) (m / 31) (sym d.1 ∙ chained_at m b on (not_read (m / 31) unread)) in
        unread (ap (λ (k : ℕ). (r.block k).reads) (sym here) ∙ d.0)
    alone (inl (n, is, owing)) (ends m on theirs) =
        let d = to_retire n is owing in
        let there = due (m / 31) (let h = theirs_owes (retire (m / 31)) in omega arith) in
        let here : m / 31 ≡ n / 31 = same_used (m / 31) (n / 31) (sym (chained_at m b on there.1) ∙ d.1) in
        let owing' = subst (λ (k : ℕ). 1 ≤ owes o (retire k)) here theirs in
        let h = two (retire (n / 31)) in
        let most = at_most_one ((r.block (n / 31)).reads == 31 && not (r.block (n / 31)).retired) in
        absurd (omega arith)
    alone (inl (n, is, owing)) (holds theirs) =
        let d = to_retire n is owing in
        used_held (n / 31) (sym d.1 ∙ is_held_spot (r.spot b) (one_is (is_held (r.spot b)) (let h = theirs_owes (keep b) in omega arith)))
    alone (inr owing) (works m on unread) = used_held (m / 31) (sym (chained_at m b on (not_read (m / 31) unread)) ∙ kept owing)
    alone (inr owing) (ends m on theirs) =
        let there = due (m / 31) (let h = theirs_owes (retire (m / 31)) in omega arith) in
        used_held (m / 31) (sym (chained_at m b on there.1) ∙ kept owing)
    alone (inr owing) (holds theirs) =
        let h = two (keep b) in
        let most = at_most_one (is_held (r.spot b)) in
        absurd (omega arith)

-- ---- by the cells

module _ where
  spare_not : (x : Spot) → IsInUse x → one_if (is_spare x) ≡ 0
  spare_not x (is_used k e) = ap (λ (y : Spot). one_if (is_spare y)) e
  spare_not x (is_kept e) = ap (λ (y : Spot). one_if (is_spare y)) e

  unmade_not : (x : Spot) → IsInUse x → x ≡ unmade → ⊥
  unmade_not x (is_used k e) f = absurd (let g : used k ≡ unmade = sym e ∙ f in cc)
  unmade_not x (is_kept e) f = absurd (let g : held ≡ unmade = sym e ∙ f in cc)

module _ {T : Type 0} where
  in_use : (c : Contents T) (r : Blocks T) (b : ℕ) → Denotes c r → IsInUse (r.spot b) → (b < length c.blocks) × (times b c.spares ≡ 0)
  in_use c r b d u = (
    ⊎_elim (λ h. h) (λ h. absurd (unmade_not (r.spot b) u (d.made b h))) (cases_lt b (length c.blocks)),
    d.spares b ∙ spare_not (r.spot b) u,
  )

  -- ---- one call among others

  -- the others, each of which owes with this call no more than all owe
  others_alone : (r : Blocks T) (items : List T) (s : SoundBlocks r items) (a : Act T) (b : ℕ) → GivesBack r items s a b → (ps : List (Place (UnboundedCall T) T))
      → ((d : Duty) → owners d (map seat_of ps) + owes a d ≤ owed r d) → Each (λ (x : BlocksSeat T). KnowsBlocks r x.act x.phase) (map seat_of ps)
      → Each (λ (x : Place (UnboundedCall T) T). touched_block (target (blocks_moves x.action.action)) ≡ Some b → ⊥) ps
  others_alone r items s a b mine [] most all = tt
  others_alone r items s a b mine (x ∷ xs) most all =
      let two : (d : Duty) → owes (act_of x.action.action) d + owes a d ≤ owed r d = λ d. (let h = most d in omega arith) in (
        λ e. alone r items s a (act_of x.action.action) b two mine (claims r items s x.action.action x.phase b all.0 (λ d. (let h = two d in omega arith)) e),
        others_alone r items s a b mine xs (λ d. (let h = most d in omega arith)) all.1,
      )

  apart : (b : ℕ) (x : ActiveQueueCall T) (y : Place (UnboundedCall T) T) → IsAtBlocks x.call.state y.action → (touched_block (target (blocks_moves y.action.action)) ≡ Some b → ⊥)
      → touched_block (target_at Unbounded (standing Unbounded x.call.state)) ≡ Some b → ⊥
  apart b x y at no_one e = no_one (sym (ap touched_block (blocks_target x.call.state y.action at)) ∙ e)

  module _ (chain : List ℕ) (c : Contents T) (q : Queue T) (l r : List (ActiveQueueCall T)) (call : QueueCall T) (p : Phase T) (b : ℕ) where
    blocks_in_use : FitsBy IsAtBlocks (UnboundedMeans chain c q) (l ++ seat call p ∷ r) → touched_block (target_at Unbounded (standing Unbounded call.state)) ≡ Some b → (b < length c.blocks) × (times b c.spares ≡ 0)
    blocks_in_use f e =
        let x = amid chain c q l r call p f in
        let a = x.mine.action.action in
        let most : (d : Duty) → owes (act_of a) d ≤ owed x.blocks d = λ d. (let h = x.most d in omega arith) in
        in_use c x.blocks b x.denotes
        (spot_of x.blocks q.items x.sound (act_of a) b most
        (claims x.blocks q.items x.sound a x.mine.phase b x.knows most (sym (ap touched_block (blocks_target call.state x.mine.action x.stands)) ∙ e)))

    blocks_alone : FitsBy IsAtBlocks (UnboundedMeans chain c q) (l ++ seat call p ∷ r) → target_at Unbounded (standing Unbounded call.state) ≡ on_block b
        → Each (λ (x : ActiveQueueCall T). touched_block (target_at Unbounded (standing Unbounded x.call.state)) ≡ Some b → ⊥) (l ++ r)
    blocks_alone f e =
        let x = amid chain c q l r call p f in
        let a = x.mine.action.action in
        let gave : GivesBack x.blocks q.items x.sound (act_of a) b =
        gives x.blocks q.items x.sound a x.mine.phase b x.knows (sym (ap given_back (blocks_target call.state x.mine.action x.stands)) ∙ ap given_back e) in
        each_seat IsAtBlocks (λ (y : Place (UnboundedCall T) T). touched_block (target (blocks_moves y.action.action)) ≡ Some b → ⊥)
        (λ (y : ActiveQueueCall T). touched_block (target_at Unbounded (standing Unbounded y.call.state)) ≡ Some b → ⊥)
        (λ y z here no_one. apart b y z here no_one) (l ++ r) x.theirs x.stand
        (others_alone x.blocks q.items x.sound (act_of a) b gave x.theirs x.most x.all_know)

    no_block : (o : Option ℕ) → o ≡ None → o ≡ Some b → ⊥
    no_block o e f = none_some (sym e ∙ f)

    -- a queue with a bound has no blocks
    no_slot_block : (cap : ℕ) → FitsSlot cap c q (l ++ seat call p ∷ r) → touched_block (target_at (Bounded cap) (standing (Bounded cap) call.state)) ≡ None
    no_slot_block cap f =
        let s = part IsAtSingle l r (seat call p) f.calls.0 f.calls.1 in
        ap touched_block (single_target cap f.one call.state s.mine.action s.stands) ∙ single_block s.mine.action

    no_ring_block : (cap : ℕ) → FitsRing cap c q (l ++ seat call p ∷ r) → touched_block (target_at (Bounded cap) (standing (Bounded cap) call.state)) ≡ None
    no_ring_block cap f =
        let s = part IsAtRing l r (seat call p) f.calls.0 f.calls.1 in
        ap touched_block (ring_target cap f.two f.most call.state s.mine.action s.stands) ∙ ring_block cap (ring_mark cap) s.mine.action

    in_use_by : (f : QueueForm) → FitsForm f chain c q (l ++ seat call p ∷ r) → touched_block (target_at f (standing f call.state)) ≡ Some b → (b < length c.blocks) × (times b c.spares ≡ 0)
    in_use_by (Bounded cap) (inl h) e = absurd (no_block _ (no_slot_block cap h) e)
    in_use_by (Bounded cap) (inr h) e = absurd (no_block _ (no_ring_block cap h) e)
    in_use_by Unbounded h e = blocks_in_use h e

    alone_by : (f : QueueForm) → FitsForm f chain c q (l ++ seat call p ∷ r) → target_at f (standing f call.state) ≡ on_block b
        → Each (λ (x : ActiveQueueCall T). touched_block (target_at f (standing f x.call.state)) ≡ Some b → ⊥) (l ++ r)
    alone_by (Bounded cap) (inl h) e = absurd (no_block _ (no_slot_block cap h) (ap touched_block e))
    alone_by (Bounded cap) (inr h) e = absurd (no_block _ (no_ring_block cap h) (ap touched_block e))
    alone_by Unbounded h e = blocks_alone h e

  pub touched_blocks_are_in_use : TouchedBlocksAreInUse T
  unfolding FitsAt
  touched_blocks_are_in_use c call others b h e = in_use_by h.chain c h.queue h.before h.behind call h.phase b c.form h.fits e

  pub blocks_are_given_back_alone : BlocksAreGivenBackAlone T
  unfolding FitsAt
  blocks_are_given_back_alone c call others b h e =
      subst (λ (ss : List (ActiveQueueCall T)). Each (λ (x : ActiveQueueCall T). touched_block (next_target c.form x.call) ≡ Some b → ⊥) ss) (sym h.others_are)
      (alone_by h.chain c h.queue h.before h.behind call h.phase b c.form h.fits e)
