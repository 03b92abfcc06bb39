-- A call that was walked to its answer has ended in its party's view, with that reply.
use Rattle.std.proofs.Common.{◌≡◌, ℕ, zero, suc, ◌⊎◌, inl, inr, ⊎_elim, List, [], ◌∷◌, ◌++◌, Bool, true, false, refl, sym, ap, ◌∙◌, subst, append-nil}
use Rattle.std.specs.Prelude.{Option, None, Some, ◌==◌}
use Rattle.concurrent_queue.specs.Bridge.{asking, does}
use Rattle.concurrent_queue.specs.Deeds.{Deed, Notes, Move, Makes, loads, stores, exchanges, adds, sets_bits, keeps_bits, puts, takes, spares, retires, rests, loaded, stored, exchanged, added, bits_set, bits_kept, did_put, did_take, spared, retired}
use Rattle.concurrent_queue.specs.Replies.{MayAnswer, MayCall}
use Rattle.concurrent_queue.specs.Tracked.{one_state}
use Rattle.concurrent_queue.specs.Walked.{first_bounded, first_of, standing, MakesBounded, MakesFirst, StateMakes, Walked}
use Rattle.concurrent_queue.specs.machine.Dispatch.{ring_cap, in_single, in_ring}
use Rattle.concurrent_queue.specs.machine.FastPath.{Leads}
use Rattle.concurrent_queue.specs.machine.RingMoves.{RingMakes, ring_moves}
use Rattle.concurrent_queue.specs.machine.RingWords.{cap_of, ring_mark}
use Rattle.concurrent_queue.specs.machine.Single.{SingleMakes, single_moves}
use Rattle.concurrent_queue.specs.declared.bounded.RingAction.{RingAction}
use Rattle.concurrent_queue.specs.declared.bounded.RingAction.TheVariants as ring
use Rattle.concurrent_queue.specs.declared.call.QueueAsk.{QueueAsk}
use Rattle.concurrent_queue.specs.declared.call.QueueAsk.TheVariants as ask
use Rattle.concurrent_queue.specs.declared.call.QueueReply.{QueueReply}
use Rattle.concurrent_queue.specs.declared.call.QueueReply.TheVariants.{Cap}
use Rattle.concurrent_queue.specs.history.StepTypes.{SingleStep, RingStep, CallStep}
use Rattle.concurrent_queue.specs.declared.cells.QueueForm.{QueueForm}
use Rattle.concurrent_queue.specs.declared.cells.QueueForm.TheVariants.{Bounded, Unbounded}
use Rattle.concurrent_queue.specs.declared.queue_call.CallState.{CallState}
use Rattle.concurrent_queue.specs.declared.queue_call.CallState.TheVariants.{Asked, Single, Ring, Blocks, Finished}
use Rattle.concurrent_queue.specs.declared.queue_call.QueueCall.{QueueCall}
use Rattle.concurrent_queue.specs.declared.single.SingleAction.{SingleAction}
use Rattle.concurrent_queue.specs.declared.single.SingleAction.TheVariants as single
use Rattle.concurrent_queue.specs.history.Calls.{on_cell, HasNoBlocks, AsksCells, HasMade, refused_stays, still_none}
use Rattle.concurrent_queue.specs.history.OnCells.{IsRefused}
use Rattle.concurrent_queue.specs.history.Runs.{moves, begun, after_step}
use Rattle.concurrent_queue.specs.declared.history.cells.HistoryCells.{HistoryCells}
use Rattle.concurrent_queue.specs.declared.history.party.OfQueue.{OfQueue}
use Rattle.concurrent_queue.specs.declared.history.party.Standing.{Standing}

module _ {T : Type 0} where
  no_deed : (d : Deed T) → None ≡ Some d → ⊥
  no_deed d e = cc

  -- the answer of the question for the capacity, whose step touches no cell
  abbrev pub IsCapacity : QueueReply T → Type 0
  IsCapacity r = (o : Option ℕ) × (r ≡ Cap o)

  -- ---- a step is an operation, or touches nothing

  abbrev Parts : {A S : Type 0} → (Deed T → S → S → Type 0) → Move T A → S → A → S → Type 0
  Parts did m s r t = ((d : Deed T) × did d s t × Makes Notes m None r (Some d)) ⊎ ((t ≡ s) × Makes Notes m None r None)

  parts : {A S : Type 0} (did : Deed T → S → S → Type 0) (m : Move T A) (s : S) (r : A) (t : S) → Makes did m s r t → Parts did m s r t
  parts did (loads w k) s r t (o, h, e) = inl (loaded w o, h, (o, refl, e))
  parts did (stores w x a) s r t (h, e) = inl (stored w x, h, (refl, e))
  parts did (exchanges w x y k) s r t (o, h, e) = inl (exchanged w x y o, h, (o, refl, e))
  parts did (adds w x k) s r t (o, h, e) = inl (added w x o, h, (o, refl, e))
  parts did (sets_bits w x k) s r t (o, h, e) = inl (bits_set w x o, h, (o, refl, e))
  parts did (keeps_bits w x k) s r t (o, h, e) = inl (bits_kept w x o, h, (o, refl, e))
  parts did (puts at v k) s r t (o, h, e) = inl (did_put at v o, h, (o, refl, e))
  parts did (takes at k) s r t (o, h, e) = inl (did_take at o, h, (o, refl, e))
  parts did (spares k) s r t (o, h, e) = inl (spared o, h, (o, refl, e))
  parts did (retires b a) s r t (h, e) = inl (retired b, h, (refl, e))
  parts did (rests a) s r t (h, e) = inr (h, (refl, e))

  -- a step that touches nothing is the answer of the capacity, or leaves the call where it is
  abbrev RestsAt : {A : Type 0} → A → A → Option (QueueReply T) → Type 0
  RestsAt at after reply = ((reply ≡ None) × (after ≡ at)) ⊎ ((o : Option ℕ) × (reply ≡ Some (Cap o)))

  single_rests : (a : SingleAction T) (x : SingleStep T) → SingleMakes Notes None a None x → RestsAt a x.action x.reply
  single_rests (single.Push v) x (o, n, e) = absurd (no_deed _ n)
  single_rests (single.PushPut v) x (o, n, e) = absurd (no_deed _ n)
  single_rests single.PushUnlock x (o, n, e) = absurd (no_deed _ n)
  single_rests (single.Force v y) x (o, n, e) = absurd (no_deed _ n)
  single_rests (single.ForceTake v) x (o, n, e) = absurd (no_deed _ n)
  single_rests (single.ForcePut v old) x (o, n, e) = absurd (no_deed _ n)
  single_rests (single.ForceUnlock old) x (o, n, e) = absurd (no_deed _ n)
  single_rests (single.Pop y) x (o, n, e) = absurd (no_deed _ n)
  single_rests single.PopTake x (o, n, e) = absurd (no_deed _ n)
  single_rests (single.PopUnlock v) x (o, n, e) = absurd (no_deed _ n)
  single_rests single.Close x (o, n, e) = absurd (no_deed _ n)
  single_rests single.IsClosed x (o, n, e) = absurd (no_deed _ n)
  single_rests single.IsEmpty x (o, n, e) = absurd (no_deed _ n)
  single_rests single.IsFull x (o, n, e) = absurd (no_deed _ n)
  single_rests single.Len x (o, n, e) = absurd (no_deed _ n)
  single_rests single.Capacity x (n, e) = inr (Some 1, ap (λ (z : SingleStep T). z.reply) e)
  single_rests single.Finished x (n, e) = inl (ap (λ (z : SingleStep T). z.reply) e, ap (λ (z : SingleStep T). z.action) e)

  ring_rests : (most m : ℕ) (a : RingAction T) (x : RingStep T) → RingMakes most m Notes None a None x → RestsAt a x.action x.reply
  ring_rests most m (ring.Push k v) x (o, n, e) = absurd (no_deed _ n)
  ring_rests most m (ring.PushShut k v) x (o, n, e) = absurd (no_deed _ n)
  ring_rests most m (ring.PushStamp k v t) x (o, n, e) = absurd (no_deed _ n)
  ring_rests most m (ring.PushSwap k v t) x (o, n, e) = absurd (no_deed _ n)
  ring_rests most m (ring.PushPut k v t) x (o, n, e) = absurd (no_deed _ n)
  ring_rests most m (ring.PushStore k t) x (n, e) = absurd (no_deed _ n)
  ring_rests most m (ring.PushHead v h) x (o, n, e) = absurd (no_deed _ n)
  ring_rests most m (ring.ForceHead v h) x (o, n, e) = absurd (no_deed _ n)
  ring_rests most m (ring.ForceAdd v h) x (o, n, e) = absurd (no_deed _ n)
  ring_rests most m (ring.ForceTake v h) x (o, n, e) = absurd (no_deed _ n)
  ring_rests most m (ring.ForcePut v h old) x (o, n, e) = absurd (no_deed _ n)
  ring_rests most m (ring.ForceStore h old) x (n, e) = absurd (no_deed _ n)
  ring_rests most m ring.Pop x (o, n, e) = absurd (no_deed _ n)
  ring_rests most m (ring.PopStamp h) x (o, n, e) = absurd (no_deed _ n)
  ring_rests most m (ring.PopSwap h) x (o, n, e) = absurd (no_deed _ n)
  ring_rests most m (ring.PopTail h) x (o, n, e) = absurd (no_deed _ n)
  ring_rests most m (ring.PopTake h) x (o, n, e) = absurd (no_deed _ n)
  ring_rests most m (ring.PopStore h v) x (n, e) = absurd (no_deed _ n)
  ring_rests most m ring.Close x (o, n, e) = absurd (no_deed _ n)
  ring_rests most m ring.IsClosed x (o, n, e) = absurd (no_deed _ n)
  ring_rests most m ring.IsEmpty x (o, n, e) = absurd (no_deed _ n)
  ring_rests most m (ring.IsEmptyTail h) x (o, n, e) = absurd (no_deed _ n)
  ring_rests most m ring.IsFull x (o, n, e) = absurd (no_deed _ n)
  ring_rests most m (ring.IsFullHead t) x (o, n, e) = absurd (no_deed _ n)
  ring_rests most m ring.Len x (o, n, e) = absurd (no_deed _ n)
  ring_rests most m (ring.LenHead t b) x (o, n, e) = absurd (no_deed _ n)
  ring_rests most m (ring.LenTail t b h) x (o, n, e) = absurd (no_deed _ n)
  ring_rests most m ring.Capacity x (n, e) = inr (Some most, ap (λ (z : RingStep T). z.reply) e)
  ring_rests most m ring.Finished x (n, e) = inl (ap (λ (z : RingStep T). z.reply) e, ap (λ (z : RingStep T). z.action) e)

  rests_single : (a : SingleAction T) (x : SingleStep T) (r : CallStep T) → r ≡ in_single x → RestsAt a x.action x.reply → RestsAt (Single a) r.action r.reply
  rests_single a x r e (inl (n, h)) = inl (ap (λ (z : CallStep T). z.reply) e ∙ n, ap (λ (z : CallStep T). z.action) e ∙ ap (λ (z : SingleAction T). Single z) h)
  rests_single a x r e (inr (o, n)) = inr (o, ap (λ (z : CallStep T). z.reply) e ∙ n)

  rests_ring : (a : RingAction T) (x : RingStep T) (r : CallStep T) → r ≡ in_ring x → RestsAt a x.action x.reply → RestsAt (Ring a) r.action r.reply
  rests_ring a x r e (inl (n, h)) = inl (ap (λ (z : CallStep T). z.reply) e ∙ n, ap (λ (z : CallStep T). z.action) e ∙ ap (λ (z : RingAction T). Ring z) h)
  rests_ring a x r e (inr (o, n)) = inr (o, ap (λ (z : CallStep T). z.reply) e ∙ n)

  -- ---- what a call does that has made no step is what it does at its first action

  module _ {S : Type 0} (did : Deed T → S → S → Type 0) where
    bounded_first : (b : Bool) (most : ℕ) (a : QueueAsk T) (s t : S) (r : CallStep T) → MakesBounded did b (cap_of most) s a t r → StateMakes did (Bounded most) s (first_bounded b a) t r
    bounded_first true most a s t r h = h
    bounded_first false most a s t r h = h

    at_first : (form : QueueForm) (a : QueueAsk T) (s t : S) (r : CallStep T) → MakesFirst did form s a t r → StateMakes did form s (first_of form a) t r
    at_first (Bounded most) a s t r h = bounded_first (most == 1) most a s t r h
    at_first Unbounded a s t r h = h

    at_standing : (form : QueueForm) (at : CallState T) (s t : S) (r : CallStep T) → StateMakes did form s at t r → StateMakes did form s (standing form at) t r
    at_standing form (Asked a) s t r h = at_first form a s t r h
    at_standing form (Single a) s t r h = h
    at_standing form (Ring a) s t r h = h
    at_standing form (Blocks a) s t r h = h
    at_standing form Finished s t r h = h

    -- a step is an operation that the machine notes, or none
    abbrev StateParts : QueueForm → CallState T → S → (CallStep T) → S → Type 0
    StateParts form at s r t = ((d : Deed T) × did d s t × StateMakes Notes form None at (Some d) r) ⊎ ((t ≡ s) × RestsAt at r.action r.reply)

    state_parts : (form : QueueForm) (at : CallState T) (s t : S) (r : CallStep T) → HasNoBlocks at → StateMakes did form s at t r → StateParts form at s r t
    state_parts form (Asked a) s t r b h = absurd b
    state_parts form (Single a) s t r b (x, made, e) = ⊎_elim
        (λ (p : (d : Deed T) × did d s t × Makes Notes (single_moves a) None x (Some d)). inl (p.0, p.1, (x, p.2, e)))
        (λ (p : (t ≡ s) × Makes Notes (single_moves a) None x None). inr (p.0, rests_single a x r e (single_rests a x p.1)))
        (parts did (single_moves a) s x t made)
    state_parts form (Ring a) s t r b (x, made, e) = ⊎_elim
        (λ (p : (d : Deed T) × did d s t × Makes Notes (ring_moves (ring_cap form) (ring_mark (ring_cap form)) a) None x (Some d)). inl (p.0, p.1, (x, p.2, e)))
        (λ (p : (t ≡ s) × Makes Notes (ring_moves (ring_cap form) (ring_mark (ring_cap form)) a) None x None). inr (p.0, rests_ring a x r e (ring_rests (ring_cap form) (ring_mark (ring_cap form)) a x p.1)))
        (parts did (ring_moves (ring_cap form) (ring_mark (ring_cap form)) a) s x t made)
    state_parts form (Blocks a) s t r b h = absurd b
    state_parts form Finished s t r b (h, e) = inr (h, inl (ap (λ (z : CallStep T). z.reply) e, ap (λ (z : CallStep T). z.action) e))

module _ {T S : Type 0} (form_of : S → QueueForm) (of : S → Standing T) (Same : S → S → Type 0) where
  -- the call has ended with this reply
  abbrev pub EndedWith : S → S → QueueReply T → Type 0
  EndedWith s t r = (form_of t ≡ form_of s) × Same s t × ((of t).call ≡ None) × ((of t).asked ≡ (of s).asked) × ((of t).replies ≡ (of s).replies ++ r ∷ [])

module _ {T S : Type 0} (form_of : S → QueueForm) (of : S → Standing T) (Same : S → S → Type 0) (stays : (s : S) → Same s s) (joins : (s t u : S) → Same s t → Same t u → Same s u) (form : QueueForm) where
  abbrev did : Deed T → S → S → Type 0
  did = HasMade moves form_of of Same

  -- the party's call is under way at this action
  abbrev AtWalk : S → CallState T → Type 0
  AtWalk s at = (form_of s ≡ form) × HasNoBlocks at × ((call : QueueCall T) × ((of s).call ≡ Some call) × (standing form call.state ≡ at))

  abbrev Went : S → S → Type 0
  Went s t = (form_of t ≡ form_of s) × Same s t × ((of t).asked ≡ (of s).asked) × ((of t).replies ≡ (of s).replies)

  abbrev After : S → S → CallState T → Option (QueueReply T) → Type 0
  After s t at None = Went s t × AtWalk t (standing form at)
  After s t at (Some r) = EndedWith form_of of Same s t r ⊎ IsCapacity r

  or_that : QueueCall T → Option (QueueCall T) → QueueCall T
  or_that c (Some x) = x
  or_that c None = c

  same_call : (x y : QueueCall T) → Some x ≡ Some y → x ≡ y
  unfolding or_that
  same_call x y e = ap (or_that x) e

  settled : (at : CallState T) → HasNoBlocks at → standing form at ≡ at
  settled (Asked a) b = absurd b
  settled (Single a) b = refl
  settled (Ring a) b = refl
  settled (Blocks a) b = absurd b
  settled Finished b = refl

  by_deed : (s t : S) (at : CallState T) (d : Deed T) (next : QueueCall T) (reply : Option (QueueReply T)) → AtWalk s at → (form_of t ≡ form_of s) × Same s t → of t ≡ after_step (of s) next reply → HasNoBlocks next.state → After s t next.state reply
  by_deed s t at d next None w k is b = (
    (k.0, k.1, ap (λ (z : Standing T). z.asked) is, ap (λ (z : Standing T). z.replies) is ∙ append-nil (of s).replies),
    (
      k.0 ∙ w.0,
      subst (λ (z : CallState T). HasNoBlocks z) (sym (settled next.state b)) b,
      (next, ap (λ (z : Standing T). z.call) is, refl),
    ),
  )
  by_deed s t at d next (Some r) w k is b = inl (k.0, k.1, ap (λ (z : Standing T). z.call) is, ap (λ (z : Standing T). z.asked) is, ap (λ (z : Standing T). z.replies) is)

  deed_made : (s t : S) (at : CallState T) (d : Deed T) (r : CallStep T) → AtWalk s at → moves (form_of s) (of s) (does (Some d)) (of t) → (form_of t ≡ form_of s) × Same s t → StateMakes Notes form None at (Some d) r → After s t r.action r.reply
  deed_made s t at d r w (call, next, reply, was, made, is) kept n =
      let x : CallStep T = record { action = next.state; mark = next.mark; reply = reply } in
      let mine_call = w.2 in
      let same : call ≡ mine_call.0 = same_call call mine_call.0 (sym was ∙ mine_call.1) in
      let mine : StateMakes Notes form None mine_call.0.state (Some d) x =
      subst (λ (f : QueueForm). StateMakes Notes f None mine_call.0.state (Some d) x) w.0 (subst (λ (c : QueueCall T). StateMakes Notes (form_of s) None c.state (Some d) x) same made) in
      let there : StateMakes Notes form None at (Some d) x =
      subst (λ (z : CallState T). StateMakes Notes form None z (Some d) x) mine_call.2 (at_standing Notes form mine_call.0.state None (Some d) x mine) in
      let one : x ≡ r = one_state form at (Some d) r x n there in
      subst (λ (z : CallStep T). After s t z.action z.reply) one
      (by_deed s t at d next reply w kept is (still_none form at d x w.1 there))

  refused_so : (s t : S) (at : CallState T) (d : Deed T) (r : CallStep T) → AtWalk s at → IsRefused d × (of t ≡ of s) → (form_of t ≡ form_of s) × Same s t → StateMakes Notes form None at (Some d) r → After s t r.action r.reply
  refused_so s t at d r w (turned, is) kept n =
      let stays : (r.action ≡ at) × (r.reply ≡ None) = refused_stays form at d r w.1 turned n in
      subst (λ (o : Option (QueueReply T)). After s t r.action o) (sym stays.1)
      (subst (λ (z : CallState T). After s t z None) (sym stays.0) (
        (kept.0, kept.1, ap (λ (z : Standing T). z.asked) is, ap (λ (z : Standing T). z.replies) is),
        subst (λ (z : CallState T). AtWalk t z) (sym (settled at w.1)) (kept.0 ∙ w.0, w.1, (w.2.0, ap (λ (z : Standing T). z.call) is ∙ w.2.1, w.2.2)),
      ))

  deed_so : (s t : S) (at : CallState T) (d : Deed T) (r : CallStep T) → AtWalk s at → did d s t → StateMakes Notes form None at (Some d) r → After s t r.action r.reply
  deed_so s t at d r w (made, kept, same_party) n = ⊎_elim
      (λ (moved : moves (form_of s) (of s) (does (Some d)) (of t)). deed_made s t at d r w moved (kept, same_party) n)
      (λ (refused : IsRefused d × (of t ≡ of s)). refused_so s t at d r w refused (kept, same_party) n)
      (made (on_cell form at d r w.1 n))

  rest_so : (s t : S) (at : CallState T) (r : CallStep T) → AtWalk s at → t ≡ s → RestsAt at r.action r.reply → After s t r.action r.reply
  rest_so s t at r w e (inl (none, stands)) =
      subst (λ (u : S). After s u r.action r.reply) (sym e)
      (subst (λ (o : Option (QueueReply T)). After s s r.action o) (sym none)
      ((refl, stays s, refl, refl), subst (λ (z : CallState T). AtWalk s z) (sym (ap (λ (z : CallState T). standing form z) stands ∙ settled at w.1)) w))
  rest_so s t at r w e (inr (o, most)) = subst (λ (a : Option (QueueReply T)). After s t r.action a) (sym most) (inr (o, refl))

  step_so : (s t : S) (at : CallState T) (r : CallStep T) → AtWalk s (standing form at) → StateMakes did form s at t r → After s t r.action r.reply
  step_so s t at r w h = ⊎_elim
      (λ (p : (d : Deed T) × did d s t × StateMakes Notes form None (standing form at) (Some d) r). deed_so s t (standing form at) p.0 r w p.1 p.2)
      (λ (p : (t ≡ s) × RestsAt (standing form at) r.action r.reply). rest_so s t (standing form at) r w p.0 p.1)
      (state_parts did form (standing form at) s t r w.1 (at_standing did form at s t r h))

  went : (s t u : S) → Went s t → Went t u → Went s u
  went s t u a b = (b.0 ∙ a.0, joins s t u a.1 b.1, b.2 ∙ a.2, b.3 ∙ a.3)

  leads_so : (n : ℕ) (s t : S) (at b : CallState T) → AtWalk s (standing form at) → Leads (StateMakes did form) n s at t b → Went s t × AtWalk t (standing form b)
  leads_so zero s t at b w (e, f) =
      subst (λ (u : S). Went s u × AtWalk u (standing form b)) (sym e) ((refl, stays s, refl, refl), subst (λ (z : CallState T). AtWalk s (standing form z)) (sym f) w)
  leads_so (suc n) s t at b w (x, y, (m, h), l) =
      let one = step_so s x at (record { action = y; mark = m; reply = None }) w h in
      let more = leads_so n x t y b one.1 l in
      (went s x t one.0 more.0, more.1)

  -- WHAT A WALK LEAVES
  pub walked_ends : (call : QueueCall T) (s t : S) (r : QueueReply T) → form_of s ≡ form → HasNoBlocks (standing form call.state) → ((mine : QueueCall T) × ((of s).call ≡ Some mine) × (standing form mine.state ≡ standing form call.state))
      → Walked did form call s r t → EndedWith form_of of Same s t r ⊎ IsCapacity r
  walked_ends call s t r f b under (n, (x, y, z, m, l, h)) =
      let led = leads_so n s x call.state y (f, b, under) l in
      let k = led.0 in
      ⊎_elim
      (λ (e : EndedWith form_of of Same x t r). inl (e.0 ∙ k.0, joins s x t k.1 e.1, e.2, e.3 ∙ k.2, e.4 ∙ ap (λ (l : List (QueueReply T)). l ++ r ∷ []) k.3))
      (λ (c : IsCapacity r). inr c)
      (step_so x t y (record { action = z; mark = m; reply = Some r }) led.1 h)

-- ---- a whole call

module _ {T : Type 0} where
  asks_few : (most : ℕ) (a : QueueAsk T) → HasNoBlocks (first_of (Bounded most) a)
  asks_few most a = first_few (most == 1) a
    where
      first_few : (b : Bool) (a : QueueAsk T) → HasNoBlocks (first_bounded b a)
      first_few true a = tt
      first_few false a = tt

  never_capacity : (of : QueueForm) (a : QueueAsk T) (r : QueueReply T) → AsksCells a → MayAnswer of a r → IsCapacity r → ⊥
  never_capacity of (ask.Push v) r h m (o, e) = subst (λ (x : QueueReply T). MayAnswer of (ask.Push v) x) e m
  never_capacity of (ask.ForcePush v) r h m (o, e) = subst (λ (x : QueueReply T). MayAnswer of (ask.ForcePush v) x) e m
  never_capacity of ask.Pop r h m (o, e) = subst (λ (x : QueueReply T). MayAnswer of ask.Pop x) e m
  never_capacity of ask.Close r h m (o, e) = subst (λ (x : QueueReply T). MayAnswer of ask.Close x) e m
  never_capacity of ask.IsClosed r h m (o, e) = subst (λ (x : QueueReply T). MayAnswer of ask.IsClosed x) e m
  never_capacity of ask.IsEmpty r h m (o, e) = subst (λ (x : QueueReply T). MayAnswer of ask.IsEmpty x) e m
  never_capacity of ask.IsFull r h m (o, e) = subst (λ (x : QueueReply T). MayAnswer of ask.IsFull x) e m
  never_capacity of ask.Len r h m (o, e) = subst (λ (x : QueueReply T). MayAnswer of ask.Len x) e m
  never_capacity of ask.Capacity r h m c = absurd h

module _ {T S : Type 0} (form_of : S → QueueForm) (of : S → Standing T) (Same : S → S → Type 0) (stays : (s : S) → Same s s) (joins : (s t u : S) → Same s t → Same t u → Same s u) where
  -- a call that begins with this question, and is walked to its answer
  pub call_ends : (most : ℕ) (a : QueueAsk T) → AsksCells a → (call : QueueCall T) → call.state ≡ Asked a → (p : Standing T) (s t : S) (r : QueueReply T) → form_of s ≡ Bounded most → of s ≡ begun a p
      → Walked (HasMade moves form_of of Same) (form_of s) call s r t → MayCall (form_of s) call.state r
      → (form_of t ≡ form_of s) × Same s t × ((of t).call ≡ None) × ((of t).asked ≡ p.asked ++ a ∷ []) × ((of t).replies ≡ p.replies ++ r ∷ [])
  call_ends most a h call asks p s t r f b walked may =
      let form : QueueForm = Bounded most in
      let few : HasNoBlocks (standing form call.state) = subst (λ (z : CallState T). HasNoBlocks (standing form z)) (sym asks) (asks_few most a) in
      let under : (mine : QueueCall T) × ((of s).call ≡ Some mine) × (standing form mine.state ≡ standing form call.state) = (asking a, ap (λ (z : Standing T). z.call) b, ap (λ (z : CallState T). standing form z) (sym asks)) in
      let m : MayAnswer (form_of s) a r = subst (λ (z : CallState T). MayCall (form_of s) z r) asks may in
      ⊎_elim
      (λ (e : EndedWith form_of of Same s t r). (e.0, e.1, e.2, e.3 ∙ ap (λ (z : Standing T). z.asked) b, e.4 ∙ ap (λ (z : Standing T). z.replies ++ r ∷ []) b))
      (λ (c : IsCapacity r). absurd (never_capacity (form_of s) a r h m c))
      (walked_ends form_of of Same stays joins form call s t r f few under (subst (λ (q : QueueForm). Walked (HasMade moves form_of of Same) q call s r t) f walked))

-- the same over the cells of a call's seat; its view keeps the parties that were joined in
abbrev pub SameParty : {T : Type 0} → HistoryCells T (Standing T) OfQueue → HistoryCells T (Standing T) OfQueue → Type 0
SameParty s t = (t.seat.seat.table_id ≡ s.seat.seat.table_id) × (t.seat.seat.me.0.who ≡ s.seat.seat.me.0.who) × (t.seat.seat.me.0.over ≡ s.seat.seat.me.0.over)

pub cells_call_ends : {T : Type 0} (most : ℕ) (a : QueueAsk T) → AsksCells a → (call : QueueCall T) → call.state ≡ Asked a → (p : Standing T) (s t : HistoryCells T (Standing T) OfQueue) (r : QueueReply T) → s.seat.seat.me.0.form ≡ Bounded most → s.seat.seat.me.0.state ≡ begun a p
    → Walked (HasMade moves (λ (x : HistoryCells T (Standing T) OfQueue). x.seat.seat.me.0.form) (λ x. x.seat.seat.me.0.state) SameParty) s.seat.seat.me.0.form call s r t → MayCall s.seat.seat.me.0.form call.state r
    → (t.seat.seat.me.0.form ≡ s.seat.seat.me.0.form) × SameParty s t × (t.seat.seat.me.0.state.call ≡ None) × (t.seat.seat.me.0.state.asked ≡ p.asked ++ a ∷ []) × (t.seat.seat.me.0.state.replies ≡ p.replies ++ r ∷ [])
cells_call_ends {T} most a =
    call_ends (λ (x : HistoryCells T (Standing T) OfQueue). x.seat.seat.me.0.form) (λ x. x.seat.seat.me.0.state) SameParty (λ s. (refl, refl, refl)) (λ s t u p q. (q.0 ∙ p.0, q.1 ∙ p.1, q.2 ∙ p.2)) most a
