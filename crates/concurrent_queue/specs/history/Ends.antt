-- A step that answers leaves the call where no operation follows, of one slot and of a ring.
use Rattle.std.specs.Prelude.{◌≡◌, ℕ, ◌+◌, ◌-◌, ◌*◌, ◌%◌, ◌^◌, ◌&&◌, ◌==◌, nat_le, not, Bool, true, false, Option, None, Some, Result, Ok, Err, MatchOption, if◌then◌else◌, refl}
use Rattle.std.proofs.Common.{sym, subst}
use Rattle.concurrent_queue.specs.Deeds.{Deed, Notes}
use Rattle.concurrent_queue.specs.machine.RingMoves as ring_machine
use Rattle.concurrent_queue.specs.machine.RingMoves.{RingMakes}
use Rattle.concurrent_queue.specs.machine.RingWords as ring_words
use Rattle.concurrent_queue.specs.machine.Single.{clear, SingleMakes, after_push, after_force, after_pop, after_put, after_take}
use Rattle.concurrent_queue.specs.declared.bounded.RingAction.{RingAction}
use Rattle.concurrent_queue.specs.declared.bounded.RingAction.TheVariants as ring
use Rattle.concurrent_queue.specs.declared.bounded.WhenFull.{WhenFull}
use Rattle.concurrent_queue.specs.history.StepTypes.{SingleStep, RingStep}
use Rattle.concurrent_queue.specs.declared.call.QueueReply.TheVariants as reply
use Rattle.concurrent_queue.specs.declared.error.PopError.TheVariants as pop_error
use Rattle.concurrent_queue.specs.declared.single.SingleAction.{SingleAction}
use Rattle.concurrent_queue.specs.declared.single.SingleAction.TheVariants as single

module _ {T : Type 0} where
  -- if this step answers it leaves an action that no operation follows
  abbrev pub SingleEnds : SingleStep T → Type 0
  SingleEnds x = MatchOption x.reply (Unit {0}) (λ _. x.action ≡ single.Finished)

  abbrev pub RingEnds : RingStep T → Type 0
  RingEnds x = MatchOption x.reply (Unit {0}) (λ _. x.action ≡ ring.Finished)

  is1 : (x y : SingleStep T) → x ≡ y → SingleEnds y → SingleEnds x
  is1 x y e h = subst (λ (z : SingleStep T). SingleEnds z) (sym e) h

  either1 : (b : Bool) (x y : SingleStep T) → SingleEnds x → SingleEnds y → SingleEnds (if b then x else y)
  either1 true x y h g = h
  either1 false x y h g = g

  is2 : (x y : RingStep T) → x ≡ y → RingEnds y → RingEnds x
  is2 x y e h = subst (λ (z : RingStep T). RingEnds z) (sym e) h

  either2 : (b : Bool) (x y : RingStep T) → RingEnds x → RingEnds y → RingEnds (if b then x else y)
  either2 true x y h g = h
  either2 false x y h g = g

  push_ends : (v : T) (o : Result ℕ ℕ) → SingleEnds (after_push v o)
  push_ends v (Ok w) = tt
  push_ends v (Err w) = either1 (not (clear w 4)) _ _ refl (either1 (not (clear w 2)) _ _ refl tt)

  force_ends : (v : T) (x : ℕ) (o : Result ℕ ℕ) → SingleEnds (after_force v x o)
  force_ends v x (Ok w) = either1 (x == 0) _ _ tt tt
  force_ends v x (Err w) = either1 (not (clear w 4)) _ _ refl tt

  pop_ends : (x : SingleStep T) (o : Result ℕ ℕ) → x ≡ after_pop o → SingleEnds x
  pop_ends x (Ok w) e = is1 x _ e tt
  pop_ends x (Err w) e = is1 x _ e (either1 (not (clear w 2)) _ _ tt refl)

  put_ends : (next : SingleAction T) (again : T → SingleAction T) (o : Result Unit T) → SingleEnds (after_put next again o)
  put_ends next again (Ok u) = tt
  put_ends next again (Err v) = tt

  take_ends : (next : T → SingleAction T) (again : SingleAction T) (o : Option T) → SingleEnds (after_take next again o)
  take_ends next again (Some v) = tt
  take_ends next again None = tt

  pub single_ends : (a : SingleAction T) (d : Option (Deed T)) (x : SingleStep T) → SingleMakes Notes None a d x → SingleEnds x
  single_ends (single.Push v) d x (o, n, e) = is1 x _ e (push_ends v o)
  single_ends (single.PushPut v) d x (o, n, e) = is1 x _ e (put_ends _ _ o)
  single_ends single.PushUnlock d x (o, n, e) = is1 x _ e refl
  single_ends (single.Force v y) d x (o, n, e) = is1 x _ e (force_ends v y o)
  single_ends (single.ForceTake v) d x (o, n, e) = is1 x _ e (take_ends _ _ o)
  single_ends (single.ForcePut v old) d x (o, n, e) = is1 x _ e (put_ends _ _ o)
  single_ends (single.ForceUnlock old) d x (o, n, e) = is1 x _ e refl
  single_ends (single.Pop y) d x (o, n, e) = pop_ends x o e
  single_ends single.PopTake d x (o, n, e) = is1 x _ e (take_ends _ _ o)
  single_ends (single.PopUnlock v) d x (o, n, e) = is1 x _ e refl
  single_ends single.Close d x (o, n, e) = is1 x _ e (either1 (clear o 4) _ _ refl refl)
  single_ends single.IsClosed d x (o, n, e) = is1 x _ e refl
  single_ends single.IsEmpty d x (o, n, e) = is1 x _ e refl
  single_ends single.IsFull d x (o, n, e) = is1 x _ e refl
  single_ends single.Len d x (o, n, e) = is1 x _ e refl
  single_ends single.Capacity d x (n, e) = is1 x _ e refl
  single_ends single.Finished d x (n, e) = is1 x _ e tt

module _ {T : Type 0} (cap m : ℕ) where
  won_ends : (on back : RingAction T) (mark : _) (o : Result ℕ ℕ) → RingEnds (ring_machine.won (ring_words.marks on mark) (ring_words.stays back) o)
  won_ends on back mark (Ok w) = tt
  won_ends on back mark (Err w) = tt

  filled_ends : (next : RingAction T) (again : T → RingAction T) (o : Result Unit T) → RingEnds (ring_machine.filled next again o)
  filled_ends next again (Ok u) = tt
  filled_ends next again (Err v) = tt

  emptied_ends : (next : T → RingAction T) (again : RingAction T) (o : Option T) → RingEnds (ring_machine.emptied next again o)
  emptied_ends next again (Some v) = tt
  emptied_ends next again None = tt

  tail_ends : (k : WhenFull) (v : T) (t : ℕ) → RingEnds (ring_machine.after_tail cap m k v t)
  tail_ends k v t = either2 (ring_words.is_marked m t) _ _ refl (either2 (nat_le (2 ^ 64 - 2 * m) t) _ _ tt tt)

  stamp_ends : (k : WhenFull) (v : T) (t s : ℕ) → RingEnds (ring_machine.after_stamp cap m k v t s)
  stamp_ends k v t s = either2 (s == t) _ _ tt (either2 (nat_le (2 * m) t && s == t - 2 * m + 1) _ _ tt tt)

  look_ends : (x : RingStep T) (h s : ℕ) → x ≡ ring_machine.after_look cap m h s → RingEnds x
  look_ends x h s e = is2 x _ e
      (either2 (s == (h + 1) % 2 ^ 64) (ring_words.stays (ring.PopSwap h)) (if s == h then ring_words.stays (ring.PopTail h) else ring_words.stays ring.Pop) tt (either2 (s == h) (ring_words.stays (ring.PopTail h)) (ring_words.stays ring.Pop) tt tt))

  pub ring_ends : (a : RingAction T) (d : Option (Deed T)) (x : RingStep T) → RingMakes cap m Notes None a d x → RingEnds x
  ring_ends (ring.Push k v) d x (o, n, e) = is2 x _ e (tail_ends k v o)
  ring_ends (ring.PushShut k v) d x (o, n, e) = is2 x _ e (either2 (ring_words.is_marked m o) _ _ refl refl)
  ring_ends (ring.PushStamp k v t) d x (o, n, e) = is2 x _ e (stamp_ends k v t o)
  ring_ends (ring.PushSwap k v t) d x (o, n, e) = is2 x _ e (won_ends _ _ _ o)
  ring_ends (ring.PushPut k v t) d x (o, n, e) = is2 x _ e (filled_ends _ _ o)
  ring_ends (ring.PushStore k t) d x (n, e) = is2 x _ e refl
  ring_ends (ring.PushHead v h) d x (o, n, e) = is2 x _ e (either2 (o == h) _ _ refl tt)
  ring_ends (ring.ForceHead v h) d x (o, n, e) = is2 x _ e (won_ends _ _ _ o)
  ring_ends (ring.ForceAdd v h) d x (o, n, e) = is2 x _ e tt
  ring_ends (ring.ForceTake v h) d x (o, n, e) = is2 x _ e (emptied_ends _ _ o)
  ring_ends (ring.ForcePut v h old) d x (o, n, e) = is2 x _ e (filled_ends _ _ o)
  ring_ends (ring.ForceStore h old) d x (n, e) = is2 x _ e refl
  ring_ends ring.Pop d x (o, n, e) = is2 x _ e tt
  ring_ends (ring.PopStamp h) d x (o, n, e) = look_ends x h o e
  ring_ends (ring.PopSwap h) d x (o, n, e) = is2 x _ e (won_ends _ _ _ o)
  ring_ends (ring.PopTail h) d x (o, n, e) = is2 x _ e (either2 (ring_words.unmarked m o == h) (ring_words.finishes (reply.Pop (Err (if ring_words.is_marked m o then pop_error.Closed else pop_error.Empty)))) (ring_words.stays ring.Pop) refl tt)
  ring_ends (ring.PopTake h) d x (o, n, e) = is2 x _ e (emptied_ends _ _ o)
  ring_ends (ring.PopStore h v) d x (n, e) = is2 x _ e refl
  ring_ends ring.Close d x (o, n, e) = is2 x _ e (either2 (ring_words.is_marked m o) _ _ refl refl)
  ring_ends ring.IsClosed d x (o, n, e) = is2 x _ e refl
  ring_ends ring.IsEmpty d x (o, n, e) = is2 x _ e tt
  ring_ends (ring.IsEmptyTail h) d x (o, n, e) = is2 x _ e refl
  ring_ends ring.IsFull d x (o, n, e) = is2 x _ e tt
  ring_ends (ring.IsFullHead t) d x (o, n, e) = is2 x _ e refl
  ring_ends ring.Len d x (o, n, e) = is2 x _ e tt
  ring_ends (ring.LenHead t b) d x (o, n, e) = is2 x _ e tt
  ring_ends (ring.LenTail t b h) d x (o, n, e) = is2 x _ e (either2 (o == (if b then (t + m) % 2 ^ 64 else t)) (ring_words.finishes (reply.Count (ring_words.between cap m h t))) (ring_words.stays ring.Len) refl tt)
  ring_ends ring.Capacity d x (n, e) = is2 x _ e refl
  ring_ends ring.Finished d x (n, e) = is2 x _ e tt
