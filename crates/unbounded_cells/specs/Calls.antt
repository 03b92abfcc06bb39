-- Where a call of an unbounded queue stands whose party a view of the rule follows, whatever its machine, and the laws that `Cells` asks of
-- cells that go by it. They are proved here, and not beside the other proofs, since the laws of an impl can cite no proof of their own crate.
use Rattle.std.specs.Prelude.{◌≡◌, ◌⊎◌, ℕ, ◌+◌, ◌-◌, ◌/◌, ◌%◌, ◌^◌, ◌==◌, nat_le, Bool, true, false, Option, None, Some, Result, Ok, Err, MatchOption, if◌then◌else◌, refl}
use Rattle.std.proofs.Common.{inl, inr, sym, ap, ◌∙◌, subst, ⊎_elim}
use Rattle.concurrent_queue.specs.Bridge.{Event, does}
use Rattle.concurrent_queue.specs.Deeds.{Deed, Notes, Move, Makes, loaded, stored, exchanged, added, bits_set, bits_kept, did_put, did_take, spared, retired, loads, stores, exchanges, adds, sets_bits, keeps_bits, puts, takes, spares, retires, rests}
use Rattle.concurrent_queue.specs.Stands.{Next, MayGoOn, GoesOn}
use Rattle.concurrent_queue.specs.Tracked as tracked
use Rattle.concurrent_queue.specs.Walked.{first_of, standing, MakesFirst, StateMakes, CallMakes}
use Rattle.concurrent_queue.specs.history.Calls.{Can, CallsMayMove, CallsAreLed}
use Rattle.concurrent_queue.specs.history.OnCells.{IsRefused}
use Rattle.concurrent_queue.specs.history.StepTypes.{CallStep}
use Rattle.concurrent_queue.specs.machine.BlocksMakes.{won, obtained, filled, blocks_moves}
use Rattle.concurrent_queue.specs.machine.BlocksState.{number}
use Rattle.concurrent_queue.specs.machine.BlocksWords.{stays, when_shut, after_tail, after_shut, look_first, look_with, after_tail_block, after_swap, after_store, after_head, after_pop_tail, after_pop_swap, after_next, after_written, after_read, after_close, after_len, begin, answered as answered_as, reply_of}
use Rattle.concurrent_queue.specs.declared.call.QueueAsk.{QueueAsk}
use Rattle.concurrent_queue.specs.declared.call.QueueAsk.TheVariants as ask
use Rattle.concurrent_queue.specs.declared.call.QueueMark.{QueueMark}
use Rattle.concurrent_queue.specs.declared.call.QueueMark.TheVariants as mark
use Rattle.concurrent_queue.specs.declared.call.QueueReply.{QueueReply}
use Rattle.concurrent_queue.specs.declared.cells.QueueForm.{QueueForm}
use Rattle.concurrent_queue.specs.declared.cells.QueueForm.TheVariants.{Bounded, Unbounded}
use Rattle.concurrent_queue.specs.declared.error.NoMemory.{NoMemory}
use Rattle.concurrent_queue.specs.declared.queue_call.CallState.{CallState}
use Rattle.concurrent_queue.specs.declared.queue_call.CallState.TheVariants.{Asked, Single, Ring, Blocks, Finished}
use Rattle.concurrent_queue.specs.declared.queue_call.QueueCall.{QueueCall}
use Rattle.concurrent_queue.specs.declared.unbounded.action.UnboundedAction.{UnboundedAction}
use Rattle.concurrent_queue.specs.declared.unbounded.action.UnboundedAction.TheVariants as act

abbrev TypeOf : {A : Type 0} → A → Type 0
TypeOf {A} x = A

-- what a step of such a call leaves
abbrev pub Progress : Type 0 → Type 0
Progress T = TypeOf (stays {T = T} act.Finished)

abbrev Endings : Type 0 → Type 0
Endings T = TypeOf (stays {T = T} act.Finished).ending

module _ {T : Type 0} where
  -- an action of a call of an unbounded queue
  abbrev pub HasBlocks : CallState T → Type 0
  HasBlocks (Asked a) = ⊥
  HasBlocks (Single a) = ⊥
  HasBlocks (Ring a) = ⊥
  HasBlocks (Blocks a) = Unit {0}
  HasBlocks Finished = Unit {0}

  -- a question that the cells answer: that there is no bound is known without them
  abbrev pub AsksBlocks : QueueAsk T → Type 0
  AsksBlocks ask.IsFull = ⊥
  AsksBlocks ask.Capacity = ⊥
  AsksBlocks _ = Unit {0}

  -- no operation is made from there
  abbrev pub Rests : QueueForm → CallState T → Type 0
  Rests form at = (d : Deed T) (r : CallStep T) → Next form at d r → ⊥

  or_that : Deed T → Option (Deed T) → Deed T
  or_that d (Some x) = x
  or_that d None = d

  same_deed : (d x : Deed T) → Some d ≡ Some x → d ≡ x
  unfolding or_that
  same_deed d x e = ap (or_that d) e

  no_deed : (d : Deed T) → Some d ≡ None → ⊥
  no_deed d e = cc

  -- ---- a slot that wasn't ready: the machine makes the same operation again

  abbrev LeftBy : {A : Type 0} → Move T A → A → Type 0
  LeftBy (puts at v k) y = k (Err v) ≡ y
  LeftBy (takes at k) y = k None ≡ y
  LeftBy _ y = Unit {0}

  module _ (d : Deed T) (turned : IsRefused d) where
    refusal : (e : Deed T) → Some d ≡ Some e → IsRefused e
    refusal e n = subst (λ (y : Deed T). IsRefused y) (same_deed d e n) turned

    pub left_so : {A : Type 0} (m : Move T A) (x y : A) → LeftBy m y → Makes Notes m None x (Some d) → x ≡ y
    left_so (loads w k) x y h (o, n, e) = absurd (refusal (loaded w o) n)
    left_so (stores w z a) x y h (n, e) = absurd (refusal (stored w z) n)
    left_so (exchanges w z u k) x y h (o, n, e) = absurd (refusal (exchanged w z u o) n)
    left_so (adds w z k) x y h (o, n, e) = absurd (refusal (added w z o) n)
    left_so (sets_bits w z k) x y h (o, n, e) = absurd (refusal (bits_set w z o) n)
    left_so (keeps_bits w z k) x y h (o, n, e) = absurd (refusal (bits_kept w z o) n)
    left_so (puts at v k) x y h (o, n, e) = e ∙ (ap k (refusal (did_put at v o) n) ∙ h)
    left_so (takes at k) x y h (o, n, e) = e ∙ (ap k (refusal (did_take at o) n) ∙ h)
    left_so (spares k) x y h (o, n, e) = absurd (refusal (spared o) n)
    left_so (retires b a) x y h (n, e) = absurd (refusal (retired b) n)
    left_so (rests a) x y h (n, e) = absurd (no_deed d n)

  pub blocks_left : (a : UnboundedAction T) → LeftBy (blocks_moves a) (stays a)
  blocks_left (act.Push v h) = tt
  blocks_left (act.PushShut v h) = tt
  blocks_left (act.PushReturn v h) = tt
  blocks_left (act.PushLook v t h) = tt
  blocks_left (act.PushMake v t) = tt
  blocks_left (act.PushFirst v t h) = tt
  blocks_left (act.PushStart v t b) = tt
  blocks_left (act.PushMore v t b) = tt
  blocks_left (act.PushSwap v t b h) = tt
  blocks_left (act.PushTurn v t b h) = tt
  blocks_left (act.PushAdd v t b h) = tt
  blocks_left (act.PushLink v t b h) = tt
  blocks_left (act.PushPut v t b h) = refl
  blocks_left (act.PushStore t b h) = tt
  blocks_left (act.PushGive h) = tt
  blocks_left act.Pop = tt
  blocks_left (act.PopLook p) = tt
  blocks_left (act.PopTail p b) = tt
  blocks_left (act.PopSwap p b) = tt
  blocks_left (act.PopNext p b) = tt
  blocks_left (act.PopBlock p b n) = tt
  blocks_left (act.PopHead p b) = tt
  blocks_left (act.PopWait p b) = tt
  blocks_left (act.PopTake p b) = refl
  blocks_left (act.PopCount p b x) = tt
  blocks_left (act.PopRetire p b x) = tt
  blocks_left act.Close = tt
  blocks_left act.AskClosed = tt
  blocks_left act.AskEmpty = tt
  blocks_left (act.EmptyTail p) = tt
  blocks_left act.AskFull = tt
  blocks_left act.AskLen = tt
  blocks_left (act.LenHead t) = tt
  blocks_left (act.LenTail t p) = tt
  blocks_left act.AskCapacity = tt
  blocks_left act.Finished = tt

  -- ---- a step that answers leaves the call where no operation follows

  abbrev Ends : Progress T → Type 0
  Ends p = MatchOption p.ending (Unit {0}) (λ _. p.action ≡ act.Finished)

  is_so : (x y : Progress T) → x ≡ y → Ends y → Ends x
  is_so x y e h = subst (λ (z : Progress T). Ends z) (sym e) h

  either_so : (b : Bool) (x y : Progress T) → Ends x → Ends y → Ends (if b then x else y)
  either_so true x y h g = h
  either_so false x y h g = g

  shut_ends : (v : T) (h : Option ℕ) → Ends (when_shut v h)
  shut_ends v None = refl
  shut_ends v (Some h) = tt

  closing_ends : (v : T) (h : Option ℕ) (k : QueueMark) → Ends (record (when_shut v h) { mark = k })
  closing_ends v None k = refl
  closing_ends v (Some h) k = tt

  with_ends : (v : T) (t b : ℕ) (h : Option ℕ) → Ends (look_with v t b h)
  with_ends v t b (Some h) = tt
  with_ends v t b None = either_so (t / 2 % 32 == 30) _ _ tt tt

  first_ends : (v : T) (t : ℕ) (h : Option ℕ) → Ends (look_first v t h)
  first_ends v t (Some h) = tt
  first_ends v t None = tt

  won_ends : (next back : UnboundedAction T) (k : QueueMark) (o : Result ℕ ℕ) → Ends (won next k back o)
  won_ends next back k (Ok w) = tt
  won_ends next back k (Err w) = tt

  obtained_ends : (v : T) (next : ℕ → UnboundedAction T) (o : Result ℕ NoMemory) → Ends (obtained v next o)
  obtained_ends v next (Ok h) = tt
  obtained_ends v next (Err e) = refl

  filled_ends : (next : UnboundedAction T) (again : T → UnboundedAction T) (o : Result Unit T) → Ends (filled next again o)
  filled_ends next again (Ok u) = tt
  filled_ends next again (Err v) = tt

  blocks_ends : (a : UnboundedAction T) (d : Option (Deed T)) (p : Progress T) → Makes Notes (blocks_moves a) None p d → Ends p
  blocks_ends (act.Push v h) d p (t, n, e) = is_so p _ e (either_so (t % 2 == 1) _ _ (shut_ends v h) (either_so (nat_le 9223372036854775744 (t / 2)) _ _ tt (either_so (t / 2 % 32 == 31) _ _ tt tt)))
  blocks_ends (act.PushShut v h) d p (t, n, e) = is_so p _ e (either_so (t % 2 == 1) _ _ (shut_ends v h) (closing_ends v h mark.Close))
  blocks_ends (act.PushReturn v h) d p (n, e) = is_so p _ e refl
  blocks_ends (act.PushLook v t h) d p (w, n, e) = is_so p _ e (either_so (w == 0) _ _ (first_ends v t h) (with_ends v t (w - 1) h))
  blocks_ends (act.PushMake v t) d p (o, n, e) = is_so p _ e (obtained_ends v _ o)
  blocks_ends (act.PushFirst v t h) d p (o, n, e) = is_so p _ e (won_ends _ _ _ o)
  blocks_ends (act.PushStart v t b) d p (n, e) = is_so p _ e (with_ends v t b None)
  blocks_ends (act.PushMore v t b) d p (o, n, e) = is_so p _ e (obtained_ends v _ o)
  blocks_ends (act.PushSwap v t b h) d p (o, n, e) = is_so p _ e (won_ends _ _ _ o)
  blocks_ends (act.PushTurn v t b h) d p (n, e) = is_so p _ e tt
  blocks_ends (act.PushAdd v t b h) d p (o, n, e) = is_so p _ e tt
  blocks_ends (act.PushLink v t b h) d p (n, e) = is_so p _ e tt
  blocks_ends (act.PushPut v t b h) d p (o, n, e) = is_so p _ e (filled_ends _ _ o)
  blocks_ends (act.PushStore t b None) d p (n, e) = is_so p _ e refl
  blocks_ends (act.PushStore t b (Some h)) d p (n, e) = is_so p _ e tt
  blocks_ends (act.PushGive h) d p (n, e) = is_so p _ e refl
  blocks_ends act.Pop d p (o, n, e) = is_so p _ e (either_so (o % 32 == 31) _ _ tt tt)
  blocks_ends (act.PopLook t) d p (o, n, e) = is_so p _ e tt
  blocks_ends (act.PopTail t b) d p (o, n, e) = is_so p _ e (either_so (number (o / 2) == number t) _ _ (either_so (o % 2 == 1) _ _ refl refl) (either_so (b == 0) _ _ tt tt))
  blocks_ends (act.PopSwap t b) d p (o, n, e) = is_so p _ e (won_ends _ _ _ o)
  blocks_ends (act.PopNext t b) d p (o, n, e) = is_so p _ e (either_so (o == 0) _ _ tt tt)
  blocks_ends (act.PopBlock t b x) d p (n, e) = is_so p _ e tt
  blocks_ends (act.PopHead t b) d p (n, e) = is_so p _ e tt
  blocks_ends (act.PopWait t b) d p (o, n, e) = is_so p _ e (either_so (o == 1) _ _ tt tt)
  blocks_ends (act.PopTake t b) d p (o, n, e) = is_so p _ e tt
  blocks_ends (act.PopCount t b x) d p (o, n, e) = is_so p _ e (either_so (o == 30) _ _ tt refl)
  blocks_ends (act.PopRetire t b x) d p (n, e) = is_so p _ e refl
  blocks_ends act.Close d p (o, n, e) = is_so p _ e (either_so (o % 2 == 1) _ _ refl refl)
  blocks_ends act.AskClosed d p (o, n, e) = is_so p _ e refl
  blocks_ends act.AskEmpty d p (o, n, e) = is_so p _ e tt
  blocks_ends (act.EmptyTail t) d p (o, n, e) = is_so p _ e refl
  blocks_ends act.AskFull d p (n, e) = is_so p _ e refl
  blocks_ends act.AskLen d p (o, n, e) = is_so p _ e tt
  blocks_ends (act.LenHead t) d p (o, n, e) = is_so p _ e tt
  blocks_ends (act.LenTail t h) d p (o, n, e) = is_so p _ e (either_so (o == t) _ _ refl tt)
  blocks_ends act.AskCapacity d p (n, e) = is_so p _ e refl
  blocks_ends act.Finished d p (n, e) = is_so p _ e tt

  -- ---- a call of such a queue

  abbrev IsOver : CallState T → Type 0
  IsOver (Blocks a) = a.action ≡ act.Finished
  IsOver Finished = Unit {0}
  IsOver _ = ⊥

  over_rests : (form : QueueForm) (at : CallState T) → IsOver at → Rests form at
  over_rests form (Asked a) e d r n = absurd e
  over_rests form (Single a) e d r n = absurd e
  over_rests form (Ring a) e d r n = absurd e
  over_rests form (Blocks a) e d r (x, (p, made, is), f) = no_deed d ((subst (λ b. Makes Notes (blocks_moves b) None p (Some d)) e made).0)
  over_rests form Finished e d r n = no_deed d n.0

  abbrev Answers : CallState T → Option (QueueReply T) → Type 0
  Answers at reply = MatchOption reply (Unit {0}) (λ _. IsOver at)

  ended_by : (b : Bool) (a : UnboundedAction T) (o : Endings T) → MatchOption o (Unit {0}) (λ _. a ≡ act.Finished) → MatchOption (reply_of b o) (Unit {0}) (λ _. a ≡ act.Finished)
  ended_by b a None h = tt
  ended_by b a (Some y) h = h

  ended_so : (b : Bool) (p : Progress T) → Ends p → Answers (Blocks (answered_as b p).action) (answered_as b p).reply
  ended_so b p h = ended_by b p.action p.ending h

  module _ (form : QueueForm) where
    answered : (at : CallState T) (d : Deed T) (r : CallStep T) → HasBlocks at → Next form at d r → Answers r.action r.reply
    answered (Asked a) d r b n = absurd b
    answered (Single a) d r b n = absurd b
    answered (Ring a) d r b n = absurd b
    answered (Blocks a) d r b (x, (p, made, is), e) =
        subst (λ (z : CallStep T). Answers z.action z.reply) (sym e)
        (subst (λ z. Answers (Blocks z.action) z.reply) (sym is) (ended_so a.displacing p (blocks_ends a.action (Some d) p made)))
    answered Finished d r b n = absurd (no_deed d n.0)

    over_stands : (at : CallState T) → IsOver at → standing form at ≡ at
    over_stands (Asked a) o = absurd o
    over_stands (Single a) o = absurd o
    over_stands (Ring a) o = absurd o
    over_stands (Blocks a) o = refl
    over_stands Finished o = refl

    still_blocks : (at : CallState T) (d : Deed T) (r : CallStep T) → HasBlocks at → Next form at d r → HasBlocks r.action
    still_blocks (Asked a) d r b n = absurd b
    still_blocks (Single a) d r b n = absurd b
    still_blocks (Ring a) d r b n = absurd b
    still_blocks (Blocks a) d r b (x, made, e) = subst (λ (z : CallStep T). HasBlocks z.action) (sym e) tt
    still_blocks Finished d r b n = absurd (no_deed d n.0)

    -- a slot refused its operation, so the call stands where it stood
    pub refused_stays : (at : CallState T) (d : Deed T) (r : CallStep T) → HasBlocks at → IsRefused d → Next form at d r → r.action ≡ at
    refused_stays (Asked a) d r b turned n = absurd b
    refused_stays (Single a) d r b turned n = absurd b
    refused_stays (Ring a) d r b turned n = absurd b
    refused_stays (Blocks a) d r b turned (x, (p, made, is), e) =
        let same : p ≡ stays a.action = left_so d turned (blocks_moves a.action) p (stays a.action) (blocks_left a.action) made in
        ap (λ (z : CallStep T). z.action) e ∙ (ap (λ z. Blocks z.action) is ∙ ap (λ (q : Progress T). Blocks (record { displacing = a.displacing; action = q.action })) same)
    refused_stays Finished d r b turned n = absurd (no_deed d n.0)

-- ---- a machine whose parties make calls of a queue

module _ {T A : Type 0} (moves : QueueForm → A → Event T → A → Type 0) (calls : QueueForm → A → QueueCall T → Type 0) where
  -- the party's call is under way at this action, or no operation is made from there, as where the call is over
  abbrev pub StandsAt : QueueForm → A → CallState T → Type 0
  StandsAt form a at = HasBlocks at × (((call : QueueCall T) × calls form a call × (standing form call.state ≡ at)) ⊎ Rests form at)

-- ---- cells that go by a view

module _ {T A S : Type 0} (moves : QueueForm → A → Event T → A → Type 0) (form_of : S → QueueForm) (of : S → A) where
  abbrev pub MayMake : Deed T → S → Type 0
  MayMake d s = Can moves (form_of s) (of s) d

  -- the operation was made, or a slot refused it and it is no event, by the same party on the same cells
  abbrev pub HasMade : (S → S → Type 0) → Deed T → S → S → Type 0
  HasMade Same d s t = (moves (form_of s) (of s) (does (Some d)) (of t) ⊎ (IsRefused d × (of t ≡ of s))) × (form_of t ≡ form_of s) × Same s t

  module _ (calls : QueueForm → A → QueueCall T → Type 0) where
    abbrev pub Stands : CallState T → S → Type 0
    Stands at s = StandsAt moves calls (form_of s) (of s) at

    abbrev Under : CallState T → S → Type 0
    Under at s = (call : QueueCall T) × calls (form_of s) (of s) call × (standing (form_of s) call.state ≡ at)

    pub ready : CallsMayMove moves calls → MayGoOn Stands form_of MayMake
    ready may at s d r st n =
        ⊎_elim (λ (u : Under at s).
        let form : QueueForm = form_of s in
        let so : (next : QueueCall T) × tracked.Moves form u.0 d next =
        tracked.tracked_may (λ (c : QueueCall T). form) (λ (c : QueueCall T). c) (λ (x : Deed T) (c : QueueCall T). (next : QueueCall T) × tracked.Moves form c x next) (λ c x next m. (next, m)) at u.0 d r u.2 n in
        may form (of s) u.0 so.0 d so.1.0 u.1 so.1.1) (λ (rests : Rests (form_of s) at). absurd (rests d r n)) st.1

    -- a call that may have made no step answers likewise
    made_answers : (form : QueueForm) (at : CallState T) (d : Deed T) (r : CallStep T) → HasBlocks (standing form at) → StateMakes Notes form None at (Some d) r → Answers r.action r.reply
    made_answers form (Asked a) d r b n = first_answers form a d r b n
      where
        first_answers : (of : QueueForm) (a : QueueAsk T) (d : Deed T) (r : CallStep T) → HasBlocks (first_of of a) → MakesFirst Notes of None a (Some d) r → Answers r.action r.reply
        first_answers (Bounded cap) a d r b made = absurd (no_first (cap == 1) a b)
          where
            no_first : (o : Bool) (a : QueueAsk T) → HasBlocks (Rattle.concurrent_queue.specs.Walked.first_bounded o a) → ⊥
            no_first true a b = b
            no_first false a b = b
        first_answers Unbounded a d r b made = answered Unbounded (Blocks (begin a)) d r tt made
    made_answers form (Single a) d r b n = absurd b
    made_answers form (Ring a) d r b n = absurd b
    made_answers form (Blocks a) d r b n = answered form (Blocks a) d r tt n
    made_answers form Finished d r b n = absurd (no_deed d n.0)

    -- where its operation leads it
    led_on : CallsAreLed moves calls → (form : QueueForm) (at : CallState T) (a b : A) (d : Deed T) (r : CallStep T) (call : QueueCall T) → HasBlocks at → calls form a call → standing form call.state ≡ at → moves form a (does (Some d)) b
        → Next form at d r → StandsAt moves calls form b r.action
    led_on led form at a b d r call free under e made n =
        let so = led form a b call d under made in
        let on : standing form so.0.state ≡ r.action =
        tracked.tracked_goes (λ (c : QueueCall T). form) (λ (c : QueueCall T). c) (λ (x : Deed T) (c f : QueueCall T). tracked.Moves form c x f) (λ c f x m. m) (λ c f x m. refl) at call so.0 d r e (so.1, so.2) n in (
          still_blocks form at d r free n,
          rests_after so.1 so.0 so.3 (made_answers form call.state d _ (subst (λ (z : CallState T). HasBlocks z) (sym e) free) so.2) on,
        )
      where
        rests_after : (reply : Option (QueueReply T)) (next : QueueCall T) → (reply ≡ None → calls form b next) → Answers next.state reply → standing form next.state ≡ r.action
            → ((c : QueueCall T) × calls form b c × (standing form c.state ≡ r.action)) ⊎ Rests form r.action
        rests_after None next goes over on = inl (next, goes refl, on)
        rests_after (Some x) next goes over on = inr (over_rests form r.action (subst (λ (z : CallState T). IsOver z) (sym (over_stands form next.state over) ∙ on) over))

    module _ (Same : S → S → Type 0) where
      leads_by : CallsAreLed moves calls → (at : CallState T) (s t : S) (d : Deed T) (r : CallStep T) → Stands at s → moves (form_of s) (of s) (does (Some d)) (of t) → form_of t ≡ form_of s → Next (form_of s) at d r → Stands r.action t
      leads_by led at s t d r st made same n =
          subst (λ (f : QueueForm). StandsAt moves calls f (of t) r.action) (sym same)
          (⊎_elim (λ (u : Under at s). led_on led (form_of s) at (of s) (of t) d r u.0 st.0 u.1 u.2 made n) (λ (rests : Rests (form_of s) at). absurd (rests d r n)) st.1)

      stays_by : (at : CallState T) (s t : S) (d : Deed T) (r : CallStep T) → Stands at s → IsRefused d × (of t ≡ of s) → form_of t ≡ form_of s → Next (form_of s) at d r → Stands r.action t
      stays_by at s t d r st (turned, kept) same n =
          subst (λ (f : QueueForm). StandsAt moves calls f (of t) r.action) (sym same)
          (subst (λ (z : A). StandsAt moves calls (form_of s) z r.action) (sym kept)
          (subst (λ (x : CallState T). StandsAt moves calls (form_of s) (of s) x) (sym (refused_stays (form_of s) at d r st.0 turned n)) st))

      pub leads : CallsAreLed moves calls → GoesOn Stands form_of (HasMade Same)
      leads led at s t d r st made n = ⊎_elim
          (λ (moved : moves (form_of s) (of s) (does (Some d)) (of t)). leads_by led at s t d r st moved made.1 n)
          (λ (refused : IsRefused d × (of t ≡ of s)). stays_by at s t d r st refused made.1 n)
          made.0
