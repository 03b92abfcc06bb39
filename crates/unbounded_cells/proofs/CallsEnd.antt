-- A call of an unbounded queue that was walked to its answer has ended in its party's view, with that reply.
use Rattle.std.proofs.Common.{◌≡◌, ℕ, zero, suc, ◌+◌, ◌-◌, ◌/◌, ◌%◌, ◌⊎◌, inl, inr, ⊎_elim, nat_le, List, [], ◌∷◌, ◌++◌, Bool, true, false, refl, sym, ap, ◌∙◌, subst, append-nil}
use Rattle.std.specs.Prelude.{Option, None, Some, Result, Ok, Err, ◌==◌, if◌then◌else◌}
use Rattle.concurrent_queue.specs.Bridge.{asking, does}
use Rattle.concurrent_queue.specs.Deeds.{Deed, Notes, Move, Makes, loads, stores, exchanges, adds, sets_bits, keeps_bits, puts, takes, spares, retires, rests, loaded, stored, exchanged, added, bits_set, bits_kept, did_put, did_take, spared, retired}
use Rattle.concurrent_queue.specs.Tracked.{one_state}
use Rattle.concurrent_queue.specs.Walked.{standing, StateMakes, Walked}
use Rattle.concurrent_queue.specs.machine.BlocksMakes.{won, obtained, filled, blocks_moves}
use Rattle.concurrent_queue.specs.machine.BlocksState.{number}
use Rattle.concurrent_queue.specs.machine.BlocksWords.{stays, when_shut, look_first, look_with, after_swap, after_store, after_take, begin, reply_of}
use Rattle.concurrent_queue.specs.machine.FastPath.{Leads}
use Rattle.concurrent_queue.specs.declared.call.QueueAsk.{QueueAsk}
use Rattle.concurrent_queue.specs.declared.call.QueueAsk.TheVariants as ask
use Rattle.concurrent_queue.specs.declared.call.QueueMark.{QueueMark}
use Rattle.concurrent_queue.specs.declared.call.QueueMark.TheVariants as mark
use Rattle.concurrent_queue.specs.declared.call.QueueReply.{QueueReply}
use Rattle.concurrent_queue.specs.declared.cells.QueueForm.{QueueForm}
use Rattle.concurrent_queue.specs.declared.cells.QueueForm.TheVariants.{Unbounded}
use Rattle.concurrent_queue.specs.declared.error.NoMemory.{NoMemory}
use Rattle.concurrent_queue.specs.declared.history.party.OfQueue.{OfQueue}
use Rattle.concurrent_queue.specs.declared.history.party.Standing.{Standing}
use Rattle.concurrent_queue.specs.declared.queue_call.CallState.{CallState}
use Rattle.concurrent_queue.specs.declared.queue_call.CallState.TheVariants.{Asked, Single, Ring, Blocks, Finished}
use Rattle.concurrent_queue.specs.declared.queue_call.QueueCall.{QueueCall}
use Rattle.concurrent_queue.specs.declared.unbounded.action.UnboundedAction.{UnboundedAction}
use Rattle.concurrent_queue.specs.declared.unbounded.action.UnboundedAction.TheVariants as act
use Rattle.concurrent_queue.specs.history.OnCells.{IsRefused}
use Rattle.concurrent_queue.specs.history.Runs.{moves, calls, begun, after_step}
use Rattle.concurrent_queue.specs.history.StepTypes.{CallStep}
use Rattle.unbounded_cells.specs.Calls.{Progress, HasBlocks, AsksBlocks, HasMade, StandsAt, left_so, blocks_left, refused_stays}
use Rattle.unbounded_cells.specs.Seated.{party_of, SameTable}
use Rattle.unbounded_cells.specs.declared.cells.BlockCells.{BlockCells}

module _ {T : Type 0} where
  no_deed : (d : Deed T) → None ≡ Some d → ⊥
  no_deed d e = cc

  -- an action that makes an operation, or that nothing follows
  abbrev Touches : UnboundedAction T → Type 0
  Touches act.AskFull = ⊥
  Touches act.AskCapacity = ⊥
  Touches _ = Unit {0}

  goes_so : (x y : Progress T) → x ≡ y → Touches y.action → Touches x.action
  goes_so x y e h = subst (λ (z : Progress T). Touches z.action) (sym e) h

  either_goes : (b : Bool) (x y : Progress T) → Touches x.action → Touches y.action → Touches (if b then x else y).action
  either_goes true x y h g = h
  either_goes false x y h g = g

  either_act : (b : Bool) (x y : UnboundedAction T) → Touches x → Touches y → Touches (if b then x else y)
  either_act true x y h g = h
  either_act false x y h g = g

  shut_goes : (v : T) (h : Option ℕ) → Touches (when_shut v h).action
  shut_goes v None = tt
  shut_goes v (Some h) = tt

  closing_goes : (v : T) (h : Option ℕ) (k : QueueMark) → Touches (record (when_shut v h) { mark = k }).action
  closing_goes v None k = tt
  closing_goes v (Some h) k = tt

  with_goes : (v : T) (t b : ℕ) (h : Option ℕ) → Touches (look_with v t b h).action
  with_goes v t b (Some h) = tt
  with_goes v t b None = either_goes (t / 2 % 32 == 30) _ _ tt tt

  first_goes : (v : T) (t : ℕ) (h : Option ℕ) → Touches (look_first v t h).action
  first_goes v t (Some h) = tt
  first_goes v t None = tt

  swap_goes : (v : T) (t b : ℕ) (h : Option ℕ) → Touches (after_swap v t b h)
  swap_goes v t b None = tt
  swap_goes v t b (Some h) = either_act (t / 2 % 32 == 30) _ _ tt tt

  take_goes : (p b : ℕ) (o : Option T) → Touches (after_take p b o)
  take_goes p b None = tt
  take_goes p b (Some d) = tt

  won_goes : (next back : UnboundedAction T) (k : QueueMark) (o : Result ℕ ℕ) → Touches next → Touches back → Touches (won next k back o).action
  won_goes next back k (Ok w) h g = h
  won_goes next back k (Err w) h g = g

  obtained_goes : (v : T) (next : ℕ → UnboundedAction T) → ((h : ℕ) → Touches (next h)) → (o : Result ℕ NoMemory) → Touches (obtained v next o).action
  obtained_goes v next h (Ok b) = h b
  obtained_goes v next h (Err e) = tt

  filled_goes : (next : UnboundedAction T) (again : T → UnboundedAction T) (o : Result Unit T) → Touches next → ((v : T) → Touches (again v)) → Touches (filled next again o).action
  filled_goes next again (Ok u) h g = h
  filled_goes next again (Err v) h g = g v

  still_goes : (a : UnboundedAction T) (d : Deed T) (p : Progress T) → Touches a → Makes Notes (blocks_moves a) None p (Some d) → Touches p.action
  still_goes (act.Push v h) d p w (o, n, e) = goes_so p _ e (either_goes (o % 2 == 1) _ _ (shut_goes v h) (either_goes (nat_le 9223372036854775744 (o / 2)) _ _ tt (either_goes (o / 2 % 32 == 31) _ _ tt tt)))
  still_goes (act.PushShut v h) d p w (o, n, e) = goes_so p _ e (either_goes (o % 2 == 1) _ _ (shut_goes v h) (closing_goes v h mark.Close))
  still_goes (act.PushReturn v h) d p w (n, e) = goes_so p _ e tt
  still_goes (act.PushLook v t h) d p w (o, n, e) = goes_so p _ e (either_goes (o == 0) _ _ (first_goes v t h) (with_goes v t (o - 1) h))
  still_goes (act.PushMake v t) d p w (o, n, e) = goes_so p _ e (obtained_goes v _ (λ _. tt) o)
  still_goes (act.PushFirst v t h) d p w (o, n, e) = goes_so p _ e (won_goes _ _ _ o tt tt)
  still_goes (act.PushStart v t b) d p w (n, e) = goes_so p _ e (with_goes v t b None)
  still_goes (act.PushMore v t b) d p w (o, n, e) = goes_so p _ e (obtained_goes v _ (λ _. tt) o)
  still_goes (act.PushSwap v t b h) d p w (o, n, e) = goes_so p _ e (won_goes _ _ _ o (swap_goes v t b h) tt)
  still_goes (act.PushTurn v t b h) d p w (n, e) = goes_so p _ e tt
  still_goes (act.PushAdd v t b h) d p w (o, n, e) = goes_so p _ e tt
  still_goes (act.PushLink v t b h) d p w (n, e) = goes_so p _ e tt
  still_goes (act.PushPut v t b h) d p w (o, n, e) = goes_so p _ e (filled_goes _ _ o tt (λ _. tt))
  still_goes (act.PushStore t b None) d p w (n, e) = goes_so p _ e tt
  still_goes (act.PushStore t b (Some h)) d p w (n, e) = goes_so p _ e tt
  still_goes (act.PushGive h) d p w (n, e) = goes_so p _ e tt
  still_goes act.Pop d p w (o, n, e) = goes_so p _ e (either_goes (o % 32 == 31) _ _ tt tt)
  still_goes (act.PopLook t) d p w (o, n, e) = goes_so p _ e tt
  still_goes (act.PopTail t b) d p w (o, n, e) = goes_so p _ e (either_goes (number (o / 2) == number t) _ _ (either_goes (o % 2 == 1) _ _ tt tt) (either_goes (b == 0) _ _ tt tt))
  still_goes (act.PopSwap t b) d p w (o, n, e) = goes_so p _ e (won_goes _ _ _ o (either_act (t % 32 == 30) _ _ tt tt) tt)
  still_goes (act.PopNext t b) d p w (o, n, e) = goes_so p _ e (either_goes (o == 0) _ _ tt tt)
  still_goes (act.PopBlock t b x) d p w (n, e) = goes_so p _ e tt
  still_goes (act.PopHead t b) d p w (n, e) = goes_so p _ e tt
  still_goes (act.PopWait t b) d p w (o, n, e) = goes_so p _ e (either_goes (o == 1) _ _ tt tt)
  still_goes (act.PopTake t b) d p w (o, n, e) = goes_so p _ e (take_goes t b o)
  still_goes (act.PopCount t b x) d p w (o, n, e) = goes_so p _ e (either_goes (o == 30) _ _ tt tt)
  still_goes (act.PopRetire t b x) d p w (n, e) = goes_so p _ e tt
  still_goes act.Close d p w (o, n, e) = goes_so p _ e (either_goes (o % 2 == 1) _ _ tt tt)
  still_goes act.AskClosed d p w (o, n, e) = goes_so p _ e tt
  still_goes act.AskEmpty d p w (o, n, e) = goes_so p _ e tt
  still_goes (act.EmptyTail t) d p w (o, n, e) = goes_so p _ e tt
  still_goes act.AskFull d p w h = absurd w
  still_goes act.AskLen d p w (o, n, e) = goes_so p _ e tt
  still_goes (act.LenHead t) d p w (o, n, e) = goes_so p _ e tt
  still_goes (act.LenTail t h) d p w (o, n, e) = goes_so p _ e (either_goes (o == t) _ _ tt tt)
  still_goes act.AskCapacity d p w h = absurd w
  still_goes act.Finished d p w (n, e) = absurd (no_deed d (sym n))

  -- a step that touches nothing leaves the call where it is
  rests_there : (a : UnboundedAction T) (p : Progress T) → Touches a → Makes Notes (blocks_moves a) None p None → (p.ending ≡ None) × (p.action ≡ a)
  rests_there (act.Push v h) p w (o, n, e) = absurd (no_deed _ n)
  rests_there (act.PushShut v h) p w (o, n, e) = absurd (no_deed _ n)
  rests_there (act.PushReturn v h) p w (n, e) = absurd (no_deed _ n)
  rests_there (act.PushLook v t h) p w (o, n, e) = absurd (no_deed _ n)
  rests_there (act.PushMake v t) p w (o, n, e) = absurd (no_deed _ n)
  rests_there (act.PushFirst v t h) p w (o, n, e) = absurd (no_deed _ n)
  rests_there (act.PushStart v t b) p w (n, e) = absurd (no_deed _ n)
  rests_there (act.PushMore v t b) p w (o, n, e) = absurd (no_deed _ n)
  rests_there (act.PushSwap v t b h) p w (o, n, e) = absurd (no_deed _ n)
  rests_there (act.PushTurn v t b h) p w (n, e) = absurd (no_deed _ n)
  rests_there (act.PushAdd v t b h) p w (o, n, e) = absurd (no_deed _ n)
  rests_there (act.PushLink v t b h) p w (n, e) = absurd (no_deed _ n)
  rests_there (act.PushPut v t b h) p w (o, n, e) = absurd (no_deed _ n)
  rests_there (act.PushStore t b h) p w (n, e) = absurd (no_deed _ n)
  rests_there (act.PushGive h) p w (n, e) = absurd (no_deed _ n)
  rests_there act.Pop p w (o, n, e) = absurd (no_deed _ n)
  rests_there (act.PopLook t) p w (o, n, e) = absurd (no_deed _ n)
  rests_there (act.PopTail t b) p w (o, n, e) = absurd (no_deed _ n)
  rests_there (act.PopSwap t b) p w (o, n, e) = absurd (no_deed _ n)
  rests_there (act.PopNext t b) p w (o, n, e) = absurd (no_deed _ n)
  rests_there (act.PopBlock t b x) p w (n, e) = absurd (no_deed _ n)
  rests_there (act.PopHead t b) p w (n, e) = absurd (no_deed _ n)
  rests_there (act.PopWait t b) p w (o, n, e) = absurd (no_deed _ n)
  rests_there (act.PopTake t b) p w (o, n, e) = absurd (no_deed _ n)
  rests_there (act.PopCount t b x) p w (o, n, e) = absurd (no_deed _ n)
  rests_there (act.PopRetire t b x) p w (n, e) = absurd (no_deed _ n)
  rests_there act.Close p w (o, n, e) = absurd (no_deed _ n)
  rests_there act.AskClosed p w (o, n, e) = absurd (no_deed _ n)
  rests_there act.AskEmpty p w (o, n, e) = absurd (no_deed _ n)
  rests_there (act.EmptyTail t) p w (o, n, e) = absurd (no_deed _ n)
  rests_there act.AskFull p w h = absurd w
  rests_there act.AskLen p w (o, n, e) = absurd (no_deed _ n)
  rests_there (act.LenHead t) p w (o, n, e) = absurd (no_deed _ n)
  rests_there (act.LenTail t h) p w (o, n, e) = absurd (no_deed _ n)
  rests_there act.AskCapacity p w h = absurd w
  rests_there act.Finished p w (n, e) = (ap (λ (q : Progress T). q.ending) e, ap (λ (q : Progress T). q.action) e)

  -- ---- a step is an operation, or touches nothing

  abbrev Parts : {A S : Type 0} → (Deed T → S → S → Type 0) → Move T A → S → A → S → Type 0
  Parts did m s r t = ((d : Deed T) × did d s t × Makes Notes m None r (Some d)) ⊎ ((t ≡ s) × Makes Notes m None r None)

  parts : {A S : Type 0} (did : Deed T → S → S → Type 0) (m : Move T A) (s : S) (r : A) (t : S) → Makes did m s r t → Parts did m s r t
  parts did (loads w k) s r t (o, h, e) = inl (loaded w o, h, (o, refl, e))
  parts did (stores w x a) s r t (h, e) = inl (stored w x, h, (refl, e))
  parts did (exchanges w x y k) s r t (o, h, e) = inl (exchanged w x y o, h, (o, refl, e))
  parts did (adds w x k) s r t (o, h, e) = inl (added w x o, h, (o, refl, e))
  parts did (sets_bits w x k) s r t (o, h, e) = inl (bits_set w x o, h, (o, refl, e))
  parts did (keeps_bits w x k) s r t (o, h, e) = inl (bits_kept w x o, h, (o, refl, e))
  parts did (puts at v k) s r t (o, h, e) = inl (did_put at v o, h, (o, refl, e))
  parts did (takes at k) s r t (o, h, e) = inl (did_take at o, h, (o, refl, e))
  parts did (spares k) s r t (o, h, e) = inl (spared o, h, (o, refl, e))
  parts did (retires b a) s r t (h, e) = inl (retired b, h, (refl, e))
  parts did (rests a) s r t (h, e) = inr (h, (refl, e))

  abbrev Goes : CallState T → Type 0
  Goes (Asked a) = ⊥
  Goes (Single a) = ⊥
  Goes (Ring a) = ⊥
  Goes (Blocks a) = Touches a.action
  Goes Finished = Unit {0}

  goes_blocks : (at : CallState T) → Goes at → HasBlocks at
  goes_blocks (Asked a) g = absurd g
  goes_blocks (Single a) g = absurd g
  goes_blocks (Ring a) g = absurd g
  goes_blocks (Blocks a) g = tt
  goes_blocks Finished g = tt

  abbrev RestsAt : CallState T → CallState T → Option (QueueReply T) → Type 0
  RestsAt at after reply = (reply ≡ None) × (after ≡ at)

  still_so : (at : CallState T) (d : Deed T) (r : CallStep T) → Goes at → StateMakes Notes Unbounded None at (Some d) r → Goes r.action
  still_so (Asked a) d r g n = absurd g
  still_so (Single a) d r g n = absurd g
  still_so (Ring a) d r g n = absurd g
  still_so (Blocks a) d r g (x, (p, made, is), e) = subst (λ (z : CallStep T). Goes z.action) (sym e) (subst (λ z. Touches z.action.action) (sym is) (still_goes a.action d p g made))
  still_so Finished d r g n = absurd (no_deed d (sym n.0))

  silent_so : (at : CallState T) (d : Deed T) (r : CallStep T) → Goes at → IsRefused d → StateMakes Notes Unbounded None at (Some d) r → r.reply ≡ None
  silent_so (Asked a) d r g turned n = absurd g
  silent_so (Single a) d r g turned n = absurd g
  silent_so (Ring a) d r g turned n = absurd g
  silent_so (Blocks a) d r g turned (x, (p, made, is), e) =
      let same : p ≡ stays a.action = left_so d turned (blocks_moves a.action) p (stays a.action) (blocks_left a.action) made in
      ap (λ (z : CallStep T). z.reply) e ∙ (ap (λ z. z.reply) is ∙ ap (λ (q : Progress T). reply_of a.displacing q.ending) same)
  silent_so Finished d r g turned n = absurd (no_deed d (sym n.0))

  -- ---- what a call does that has made no step is what it does at its first action

  module _ {S : Type 0} (did : Deed T → S → S → Type 0) where
    at_standing : (at : CallState T) (s t : S) (r : CallStep T) → StateMakes did Unbounded s at t r → StateMakes did Unbounded s (standing Unbounded at) t r
    at_standing (Asked a) s t r h = h
    at_standing (Single a) s t r h = h
    at_standing (Ring a) s t r h = h
    at_standing (Blocks a) s t r h = h
    at_standing Finished s t r h = h

    -- a step is an operation that the machine notes, or none
    abbrev StateParts : CallState T → S → CallStep T → S → Type 0
    StateParts at s r t = ((d : Deed T) × did d s t × StateMakes Notes Unbounded None at (Some d) r) ⊎ ((t ≡ s) × RestsAt at r.action r.reply)

    state_parts : (at : CallState T) (s t : S) (r : CallStep T) → Goes at → StateMakes did Unbounded s at t r → StateParts at s r t
    state_parts (Asked a) s t r g h = absurd g
    state_parts (Single a) s t r g h = absurd g
    state_parts (Ring a) s t r g h = absurd g
    state_parts (Blocks a) s t r g (x, (p, made, is), e) = ⊎_elim
        (λ (q : (d : Deed T) × did d s t × Makes Notes (blocks_moves a.action) None p (Some d)). inl (q.0, q.1, (x, (p, q.2, is), e)))
        (λ (q : (t ≡ s) × Makes Notes (blocks_moves a.action) None p None).
        let there = rests_there a.action p g q.1 in
        inr (
          q.0,
          (
            ap (λ (z : CallStep T). z.reply) e ∙ (ap (λ z. z.reply) is ∙ ap (λ o. reply_of a.displacing o) there.0),
            ap (λ (z : CallStep T). z.action) e ∙ (ap (λ z. Blocks z.action) is ∙ ap (λ (y : UnboundedAction T). Blocks (record { displacing = a.displacing; action = y })) there.1),
          ),
        ))
        (parts did (blocks_moves a.action) s p t made)
    state_parts Finished s t r g (h, e) = inr (h, (ap (λ (z : CallStep T). z.reply) e, ap (λ (z : CallStep T). z.action) e))

module _ {T S : Type 0} (form_of : S → QueueForm) (of : S → Standing T) (Same : S → S → Type 0) where
  -- the call has ended with this reply
  abbrev pub EndedWith : S → S → QueueReply T → Type 0
  EndedWith s t r = (form_of t ≡ form_of s) × Same s t × ((of t).call ≡ None) × ((of t).asked ≡ (of s).asked) × ((of t).replies ≡ (of s).replies ++ r ∷ [])

module _ {T S : Type 0} (form_of : S → QueueForm) (of : S → Standing T) (Same : S → S → Type 0) (stays : (s : S) → Same s s) (joins : (s t u : S) → Same s t → Same t u → Same s u) where
  abbrev did : Deed T → S → S → Type 0
  did = HasMade moves form_of of Same

  -- the party's call is under way at this action
  abbrev AtWalk : S → CallState T → Type 0
  AtWalk s at = (form_of s ≡ Unbounded) × Goes at × ((call : QueueCall T) × ((of s).call ≡ Some call) × (standing Unbounded call.state ≡ at))

  abbrev Went : S → S → Type 0
  Went s t = (form_of t ≡ form_of s) × Same s t × ((of t).asked ≡ (of s).asked) × ((of t).replies ≡ (of s).replies)

  abbrev After : S → S → CallState T → Option (QueueReply T) → Type 0
  After s t at None = Went s t × AtWalk t (standing Unbounded at)
  After s t at (Some r) = EndedWith form_of of Same s t r

  or_that : QueueCall T → Option (QueueCall T) → QueueCall T
  or_that c (Some x) = x
  or_that c None = c

  same_call : (x y : QueueCall T) → Some x ≡ Some y → x ≡ y
  unfolding or_that
  same_call x y e = ap (or_that x) e

  settled : (at : CallState T) → Goes at → standing Unbounded at ≡ at
  settled (Asked a) b = absurd b
  settled (Single a) b = absurd b
  settled (Ring a) b = absurd b
  settled (Blocks a) b = refl
  settled Finished b = refl

  by_deed : (s t : S) (at : CallState T) (d : Deed T) (next : QueueCall T) (reply : Option (QueueReply T)) → AtWalk s at → (form_of t ≡ form_of s) × Same s t → of t ≡ after_step (of s) next reply → Goes next.state → After s t next.state reply
  by_deed s t at d next None w k is b = (
    (k.0, k.1, ap (λ (z : Standing T). z.asked) is, ap (λ (z : Standing T). z.replies) is ∙ append-nil (of s).replies),
    (
      k.0 ∙ w.0,
      subst (λ (z : CallState T). Goes z) (sym (settled next.state b)) b,
      (next, ap (λ (z : Standing T). z.call) is, refl),
    ),
  )
  by_deed s t at d next (Some r) w k is b = (k.0, k.1, ap (λ (z : Standing T). z.call) is, ap (λ (z : Standing T). z.asked) is, ap (λ (z : Standing T). z.replies) is)

  deed_made : (s t : S) (at : CallState T) (d : Deed T) (r : CallStep T) → AtWalk s at → moves (form_of s) (of s) (does (Some d)) (of t) → (form_of t ≡ form_of s) × Same s t → StateMakes Notes Unbounded None at (Some d) r → After s t r.action r.reply
  deed_made s t at d r w (call, next, reply, was, made, is) kept n =
      let x : CallStep T = record { action = next.state; mark = next.mark; reply = reply } in
      let mine_call = w.2 in
      let same : call ≡ mine_call.0 = same_call call mine_call.0 (sym was ∙ mine_call.1) in
      let mine : StateMakes Notes Unbounded None mine_call.0.state (Some d) x =
      subst (λ (f : QueueForm). StateMakes Notes f None mine_call.0.state (Some d) x) w.0 (subst (λ (c : QueueCall T). StateMakes Notes (form_of s) None c.state (Some d) x) same made) in
      let there : StateMakes Notes Unbounded None at (Some d) x =
      subst (λ (z : CallState T). StateMakes Notes Unbounded None z (Some d) x) mine_call.2 (at_standing Notes mine_call.0.state None (Some d) x mine) in
      let one : x ≡ r = one_state Unbounded at (Some d) r x n there in
      subst (λ (z : CallStep T). After s t z.action z.reply) one
      (by_deed s t at d next reply w kept is (still_so at d x w.1 there))

  refused_so : (s t : S) (at : CallState T) (d : Deed T) (r : CallStep T) → AtWalk s at → IsRefused d × (of t ≡ of s) → (form_of t ≡ form_of s) × Same s t → StateMakes Notes Unbounded None at (Some d) r → After s t r.action r.reply
  refused_so s t at d r w (turned, is) kept n =
      let stays : (r.action ≡ at) × (r.reply ≡ None) = (refused_stays Unbounded at d r (goes_blocks at w.1) turned n, silent_so at d r w.1 turned n) in
      subst (λ (o : Option (QueueReply T)). After s t r.action o) (sym stays.1)
      (subst (λ (z : CallState T). After s t z None) (sym stays.0) (
        (kept.0, kept.1, ap (λ (z : Standing T). z.asked) is, ap (λ (z : Standing T). z.replies) is),
        subst (λ (z : CallState T). AtWalk t z) (sym (settled at w.1)) (kept.0 ∙ w.0, w.1, (w.2.0, ap (λ (z : Standing T). z.call) is ∙ w.2.1, w.2.2)),
      ))

  deed_so : (s t : S) (at : CallState T) (d : Deed T) (r : CallStep T) → AtWalk s at → did d s t → StateMakes Notes Unbounded None at (Some d) r → After s t r.action r.reply
  deed_so s t at d r w (made, kept, same_party) n = ⊎_elim
      (λ (moved : moves (form_of s) (of s) (does (Some d)) (of t)). deed_made s t at d r w moved (kept, same_party) n)
      (λ (refused : IsRefused d × (of t ≡ of s)). refused_so s t at d r w refused (kept, same_party) n)
      made

  rest_so : (s t : S) (at : CallState T) (r : CallStep T) → AtWalk s at → t ≡ s → RestsAt at r.action r.reply → After s t r.action r.reply
  rest_so s t at r w e (none, stands) =
      subst (λ (u : S). After s u r.action r.reply) (sym e)
      (subst (λ (o : Option (QueueReply T)). After s s r.action o) (sym none)
      ((refl, stays s, refl, refl), subst (λ (z : CallState T). AtWalk s z) (sym (ap (λ (z : CallState T). standing Unbounded z) stands ∙ settled at w.1)) w))

  step_so : (s t : S) (at : CallState T) (r : CallStep T) → AtWalk s (standing Unbounded at) → StateMakes did Unbounded s at t r → After s t r.action r.reply
  step_so s t at r w h = ⊎_elim
      (λ (p : (d : Deed T) × did d s t × StateMakes Notes Unbounded None (standing Unbounded at) (Some d) r). deed_so s t (standing Unbounded at) p.0 r w p.1 p.2)
      (λ (p : (t ≡ s) × RestsAt (standing Unbounded at) r.action r.reply). rest_so s t (standing Unbounded at) r w p.0 p.1)
      (state_parts did (standing Unbounded at) s t r w.1 (at_standing did at s t r h))

  went : (s t u : S) → Went s t → Went t u → Went s u
  went s t u a b = (b.0 ∙ a.0, joins s t u a.1 b.1, b.2 ∙ a.2, b.3 ∙ a.3)

  leads_so : (n : ℕ) (s t : S) (at b : CallState T) → AtWalk s (standing Unbounded at) → Leads (StateMakes did Unbounded) n s at t b → Went s t × AtWalk t (standing Unbounded b)
  leads_so zero s t at b w (e, f) =
      subst (λ (u : S). Went s u × AtWalk u (standing Unbounded b)) (sym e) ((refl, stays s, refl, refl), subst (λ (z : CallState T). AtWalk s (standing Unbounded z)) (sym f) w)
  leads_so (suc n) s t at b w (x, y, (m, h), l) =
      let one = step_so s x at (record { action = y; mark = m; reply = None }) w h in
      let more = leads_so n x t y b one.1 l in
      (went s x t one.0 more.0, more.1)

  -- WHAT A WALK LEAVES
  pub walked_ends : (call : QueueCall T) (s t : S) (r : QueueReply T) → form_of s ≡ Unbounded → Goes (standing Unbounded call.state) → ((mine : QueueCall T) × ((of s).call ≡ Some mine) × (standing Unbounded mine.state ≡ standing Unbounded call.state))
      → Walked did Unbounded call s r t → EndedWith form_of of Same s t r
  walked_ends call s t r f b under (n, (x, y, z, m, l, h)) =
      let led = leads_so n s x call.state y (f, b, under) l in
      let k = led.0 in
      let e = step_so x t y (record { action = z; mark = m; reply = Some r }) led.1 h in
      (e.0 ∙ k.0, joins s x t k.1 e.1, e.2, e.3 ∙ k.2, e.4 ∙ ap (λ (l : List (QueueReply T)). l ++ r ∷ []) k.3)

-- ---- a whole call

module _ {T : Type 0} where
  asks_goes : (a : QueueAsk T) → AsksBlocks a → Goes (standing Unbounded (Asked a))
  asks_goes (ask.Push v) h = tt
  asks_goes (ask.ForcePush v) h = tt
  asks_goes ask.Pop h = tt
  asks_goes ask.Close h = tt
  asks_goes ask.IsClosed h = tt
  asks_goes ask.IsEmpty h = tt
  asks_goes ask.IsFull h = absurd h
  asks_goes ask.Len h = tt
  asks_goes ask.Capacity h = absurd h

module _ {T S : Type 0} (form_of : S → QueueForm) (of : S → Standing T) (Same : S → S → Type 0) (stays : (s : S) → Same s s) (joins : (s t u : S) → Same s t → Same t u → Same s u) where
  -- a call that begins with this question, and is walked to its answer
  pub call_ends : (a : QueueAsk T) → AsksBlocks a → (call : QueueCall T) → call.state ≡ Asked a → (p : Standing T) (s t : S) (r : QueueReply T) → form_of s ≡ Unbounded → of s ≡ begun a p
      → Walked (HasMade moves form_of of Same) (form_of s) call s r t
      → (form_of t ≡ form_of s) × Same s t × ((of t).call ≡ None) × ((of t).asked ≡ p.asked ++ a ∷ []) × ((of t).replies ≡ p.replies ++ r ∷ [])
  call_ends a h call asks p s t r f b walked =
      let goes : Goes (standing Unbounded call.state) = subst (λ (z : CallState T). Goes (standing Unbounded z)) (sym asks) (asks_goes a h) in
      let under : (mine : QueueCall T) × ((of s).call ≡ Some mine) × (standing Unbounded mine.state ≡ standing Unbounded call.state) = (asking a, ap (λ (z : Standing T). z.call) b, ap (λ (z : CallState T). standing Unbounded z) (sym asks)) in
      let e = walked_ends form_of of Same stays joins call s t r f goes under (subst (λ (q : QueueForm). Walked (HasMade moves form_of of Same) q call s r t) f walked) in
      (e.0, e.1, e.2, e.3 ∙ ap (λ (z : Standing T). z.asked) b, e.4 ∙ ap (λ (z : Standing T). z.replies ++ r ∷ []) b)

-- the same over the cells of a call's seat; its view keeps the parties that were joined in
module _ {T R : Type 0} where
  abbrev pub SameParty : BlockCells T (Standing T) OfQueue R → BlockCells T (Standing T) OfQueue R → Type 0
  SameParty s t = SameTable s.seat.seat t.seat.seat × ((party_of t.seat.seat).who ≡ (party_of s.seat.seat).who) × ((party_of t.seat.seat).over ≡ (party_of s.seat.seat).over)

  pub cells_call_ends : (a : QueueAsk T) → AsksBlocks a → (call : QueueCall T) → call.state ≡ Asked a → (p : Standing T) (s t : BlockCells T (Standing T) OfQueue R) (r : QueueReply T) → (party_of s.seat.seat).form ≡ Unbounded → (party_of s.seat.seat).state ≡ begun a p
      → Walked (HasMade moves (λ (x : BlockCells T (Standing T) OfQueue R). (party_of x.seat.seat).form) (λ x. (party_of x.seat.seat).state) SameParty) (party_of s.seat.seat).form call s r t
      → ((party_of t.seat.seat).form ≡ (party_of s.seat.seat).form) × SameParty s t × ((party_of t.seat.seat).state.call ≡ None) × ((party_of t.seat.seat).state.asked ≡ p.asked ++ a ∷ []) × ((party_of t.seat.seat).state.replies ≡ p.replies ++ r ∷ [])
  cells_call_ends a =
      call_ends (λ (x : BlockCells T (Standing T) OfQueue R). (party_of x.seat.seat).form) (λ x. (party_of x.seat.seat).state) SameParty (λ s. ((refl, refl, refl), refl, refl))
      (λ s t u p q. ((q.0.0 ∙ p.0.0, q.0.1 ∙ p.0.1, q.0.2 ∙ p.0.2), q.1 ∙ p.1, q.2 ∙ p.2)) a

module _ {T : Type 0} where
  -- where a call stands that has just begun
  pub begun_stands : (f : QueueForm) (s : Standing T) (a : QueueAsk T) (p : Standing T) → f ≡ Unbounded → s ≡ begun a p → (at : CallState T) → at ≡ Asked a → StandsAt moves calls f s (standing f at)
  begun_stands f s a p is begins at asks =
      subst (λ (x : CallState T). StandsAt moves calls f s (standing f x)) (sym asks)
      (subst (λ (z : Standing T). StandsAt moves calls f z (standing f (Asked a))) (sym begins)
      (subst (λ (g : QueueForm). StandsAt moves calls g (begun a p) (standing g (Asked a))) (sym is) (tt, inl (asking a, refl, refl))))
