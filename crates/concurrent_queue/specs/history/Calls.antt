-- Where a call stands whose party a view of the rule follows, whatever its machine, and the laws that `Cells` asks of cells that go by it.
-- They are proved here, and not beside the other proofs, since the laws of an impl can cite no proof of their own crate.
use Rattle.std.specs.Prelude.{◌≡◌, ◌⊎◌, ℕ, ◌==◌, Bool, true, false, Option, None, Some, MatchOption, refl}
use Rattle.std.proofs.Common.{inl, inr, sym, ap, ◌∙◌, subst, ⊎_elim}
use Rattle.concurrent_queue.specs.Bridge.{Event, does}
use Rattle.concurrent_queue.specs.Deeds.{Deed, Notes}
use Rattle.concurrent_queue.specs.Stands.{Next, MayGoOn, GoesOn}
use Rattle.concurrent_queue.specs.Tracked as tracked
use Rattle.concurrent_queue.specs.Walked.{first_of, standing, MakesBounded, MakesFirst, StateMakes, CallMakes}
use Rattle.concurrent_queue.specs.machine.Dispatch.{ring_cap, in_single, in_ring}
use Rattle.concurrent_queue.specs.machine.RingWords.{cap_of, ring_mark, ring_start}
use Rattle.concurrent_queue.specs.machine.Single.{start}
use Rattle.concurrent_queue.specs.declared.bounded.RingAction.TheVariants as ring
use Rattle.concurrent_queue.specs.declared.call.QueueAsk.{QueueAsk}
use Rattle.concurrent_queue.specs.declared.call.QueueAsk.TheVariants.{Capacity}
use Rattle.concurrent_queue.specs.declared.call.QueueReply.{QueueReply}
use Rattle.concurrent_queue.specs.history.StepTypes.{SingleStep, RingStep, CallStep}
use Rattle.concurrent_queue.specs.declared.cells.QueueForm.{QueueForm}
use Rattle.concurrent_queue.specs.declared.cells.QueueForm.TheVariants.{Bounded, Unbounded}
use Rattle.concurrent_queue.specs.declared.queue_call.CallState.{CallState}
use Rattle.concurrent_queue.specs.declared.queue_call.CallState.TheVariants.{Asked, Single, Ring, Blocks, Finished}
use Rattle.concurrent_queue.specs.declared.queue_call.QueueCall.{QueueCall}
use Rattle.concurrent_queue.specs.declared.single.SingleAction.TheVariants as single
use Rattle.concurrent_queue.specs.history.Ends.{SingleEnds, RingEnds, single_ends, ring_ends}
use Rattle.concurrent_queue.specs.history.OnCells as cells
use Rattle.concurrent_queue.specs.history.OnCells.{IsOnCell, IsRefused}

module _ {T : Type 0} where
  -- an action of a call of one slot or of a ring
  abbrev pub HasNoBlocks : CallState T → Type 0
  HasNoBlocks (Asked a) = ⊥
  HasNoBlocks (Single a) = Unit {0}
  HasNoBlocks (Ring a) = Unit {0}
  HasNoBlocks (Blocks a) = ⊥
  HasNoBlocks Finished = Unit {0}

  -- a question that the cells answer; how many messages fit is known without them
  abbrev pub AsksCells : QueueAsk T → Type 0
  AsksCells Capacity = ⊥
  AsksCells _ = Unit {0}

  -- no operation is made from there
  abbrev pub Rests : QueueForm → CallState T → Type 0
  Rests form at = (d : Deed T) (r : CallStep T) → Next form at d r → ⊥

  -- ---- if a step has answered no operation follows

  abbrev IsOver : CallState T → Type 0
  IsOver (Asked a) = ⊥
  IsOver (Single a) = a ≡ single.Finished
  IsOver (Ring a) = a ≡ ring.Finished
  IsOver (Blocks a) = ⊥
  IsOver Finished = Unit {0}

  no_deed : (d : Deed T) → Some d ≡ None → ⊥
  no_deed d e = cc

  over_rests : (form : QueueForm) (at : CallState T) → IsOver at → Rests form at
  over_rests form (Asked a) e d r n = absurd e
  over_rests form (Single a) e d r n = no_deed d ((subst (λ b. Next form (Single b) d r) e n).1.0)
  over_rests form (Ring a) e d r n = no_deed d ((subst (λ b. Next form (Ring b) d r) e n).1.0)
  over_rests form (Blocks a) e d r n = absurd e
  over_rests form Finished e d r n = no_deed d n.0

  abbrev Answers : CallState T → Option (QueueReply T) → Type 0
  Answers at reply = MatchOption reply (Unit {0}) (λ _. IsOver at)

  from_single : (r : CallStep T) (x : SingleStep T) → r ≡ in_single x → SingleEnds x → Answers r.action r.reply
  from_single r x e h = subst (λ (z : CallStep T). Answers z.action z.reply) (sym e) h

  from_ring : (r : CallStep T) (x : RingStep T) → r ≡ in_ring x → RingEnds x → Answers r.action r.reply
  from_ring r x e h = subst (λ (z : CallStep T). Answers z.action z.reply) (sym e) h

  module _ (form : QueueForm) where
    answered : (at : CallState T) (d : Deed T) (r : CallStep T) → HasNoBlocks at → Next form at d r → Answers r.action r.reply
    answered (Asked a) d r b n = absurd b
    answered (Single a) d r b (x, made, e) = from_single r x e (single_ends a (Some d) x made)
    answered (Ring a) d r b (x, made, e) = from_ring r x e (ring_ends (ring_cap form) (ring_mark (ring_cap form)) a (Some d) x made)
    answered (Blocks a) d r b n = absurd b
    answered Finished d r b n = absurd (no_deed d n.0)

    bounded_answers : (b : Bool) (cap : ℕ) (a : QueueAsk T) (d : Deed T) (r : CallStep T) → MakesBounded Notes b cap None a (Some d) r → Answers r.action r.reply
    bounded_answers true cap a d r (x, made, e) = from_single r x e (single_ends (start a) (Some d) x made)
    bounded_answers false cap a d r (x, made, e) = from_ring r x e (ring_ends cap (ring_mark cap) (ring_start a) (Some d) x made)

    first_answers : (of : QueueForm) (a : QueueAsk T) (d : Deed T) (r : CallStep T) → HasNoBlocks (first_of of a) → MakesFirst Notes of None a (Some d) r → Answers r.action r.reply
    first_answers (Bounded cap) a d r b made = bounded_answers (cap == 1) (cap_of cap) a d r made
    first_answers Unbounded a d r b made = absurd b

    -- the same of a call that may have made no step
    made_answers : (at : CallState T) (d : Deed T) (r : CallStep T) → HasNoBlocks (standing form at) → StateMakes Notes form None at (Some d) r → Answers r.action r.reply
    made_answers (Asked a) d r b n = first_answers form a d r b n
    made_answers (Single a) d r b n = answered (Single a) d r tt n
    made_answers (Ring a) d r b n = answered (Ring a) d r tt n
    made_answers (Blocks a) d r b n = absurd b
    made_answers Finished d r b n = absurd (no_deed d n.0)

    over_stands : (at : CallState T) → IsOver at → standing form at ≡ at
    over_stands (Asked a) o = absurd o
    over_stands (Single a) o = refl
    over_stands (Ring a) o = refl
    over_stands (Blocks a) o = absurd o
    over_stands Finished o = refl

    pub on_cell : (at : CallState T) (d : Deed T) (r : CallStep T) → HasNoBlocks at → Next form at d r → IsOnCell d
    on_cell (Asked a) d r b n = absurd b
    on_cell (Single a) d r b (x, made, e) = cells.single_on_cell a d x made
    on_cell (Ring a) d r b (x, made, e) = cells.ring_on_cell (ring_cap form) (ring_mark (ring_cap form)) a d x made
    on_cell (Blocks a) d r b n = absurd b
    on_cell Finished d r b n = absurd (no_deed d n.0)

    no_blocks_so : (r x : CallStep T) → r ≡ x → HasNoBlocks x.action → HasNoBlocks r.action
    no_blocks_so r x e h = subst (λ (z : CallStep T). HasNoBlocks z.action) (sym e) h

    pub still_none : (at : CallState T) (d : Deed T) (r : CallStep T) → HasNoBlocks at → Next form at d r → HasNoBlocks r.action
    still_none (Asked a) d r b n = absurd b
    still_none (Single a) d r b (x, made, e) = no_blocks_so r (in_single x) e tt
    still_none (Ring a) d r b (x, made, e) = no_blocks_so r (in_ring x) e tt
    still_none (Blocks a) d r b n = absurd b
    still_none Finished d r b n = absurd (no_deed d n.0)

    -- ---- a slot refused its operation, so the call stands where it stood

    stays_so : (at : CallState T) (r x : CallStep T) → r ≡ x → x.action ≡ at → x.reply ≡ None → (r.action ≡ at) × (r.reply ≡ None)
    stays_so at r x e a n = (ap (λ (z : CallStep T). z.action) e ∙ a, ap (λ (z : CallStep T). z.reply) e ∙ n)

    pub refused_stays : (at : CallState T) (d : Deed T) (r : CallStep T) → HasNoBlocks at → IsRefused d → Next form at d r → (r.action ≡ at) × (r.reply ≡ None)
    refused_stays (Asked a) d r b turned n = absurd b
    refused_stays (Single a) d r b turned (x, made, e) = stays_so (Single a) r _ (e ∙ ap in_single (cells.single_refused a d turned x made)) refl refl
    refused_stays (Ring a) d r b turned (x, made, e) = stays_so (Ring a) r _ (e ∙ ap in_ring (cells.ring_refused (ring_cap form) (ring_mark (ring_cap form)) a d turned x made)) refl refl
    refused_stays (Blocks a) d r b turned n = absurd b
    refused_stays Finished d r b turned n = absurd (no_deed d n.0)

-- ---- a machine whose parties make calls of a queue

module _ {T A : Type 0} (moves : QueueForm → A → Event T → A → Type 0) where
  -- this operation with this answer is the party's next
  abbrev pub Can : QueueForm → A → Deed T → Type 0
  Can form a d = (b : A) × moves form a (does (Some d)) b

  module _ (calls : QueueForm → A → QueueCall T → Type 0) where
    -- the party's call is under way at this action, or no operation is made from there, as where the call is over
    abbrev pub StandsAt : QueueForm → A → CallState T → Type 0
    StandsAt form a at = HasNoBlocks at × (((call : QueueCall T) × calls form a call × (standing form call.state ≡ at)) ⊎ Rests form at)

    -- a party that makes this call may make the call's next operation; and by an operation that it makes its call is led on
    abbrev pub CallsMayMove : Type 0
    CallsMayMove = (form : QueueForm) (a : A) (call next : QueueCall T) (d : Deed T) (reply : Option (QueueReply T)) → calls form a call → CallMakes Notes form None call (Some d) next reply → Can form a d

    abbrev pub CallsAreLed : Type 0
    CallsAreLed =
        (form : QueueForm) (a b : A) (call : QueueCall T) (d : Deed T) → calls form a call → moves form a (does (Some d)) b
        → (next : QueueCall T) × (reply : Option (QueueReply T)) × CallMakes Notes form None call (Some d) next reply × (reply ≡ None → calls form b next)

-- ---- cells that go by a view. Of operations on other cells, which no such call makes, they ask nothing and say nothing

module _ {T A S : Type 0} (moves : QueueForm → A → Event T → A → Type 0) (form_of : S → QueueForm) (of : S → A) where
  abbrev pub MayMake : Deed T → S → Type 0
  MayMake d s = IsOnCell d → Can moves (form_of s) (of s) d

  -- the operation was made, or a slot refused it and it is no event, by the same party on the same cells
  abbrev pub HasMade : (S → S → Type 0) → Deed T → S → S → Type 0
  HasMade Same d s t = (IsOnCell d → moves (form_of s) (of s) (does (Some d)) (of t) ⊎ (IsRefused d × (of t ≡ of s))) × (form_of t ≡ form_of s) × Same s t

  module _ (calls : QueueForm → A → QueueCall T → Type 0) where
    abbrev pub Stands : CallState T → S → Type 0
    Stands at s = StandsAt moves calls (form_of s) (of s) at

    abbrev Under : CallState T → S → Type 0
    Under at s = (call : QueueCall T) × calls (form_of s) (of s) call × (standing (form_of s) call.state ≡ at)

    may_go : CallsMayMove moves calls → (at : CallState T) (s : S) (d : Deed T) (r : CallStep T) → Stands at s → Next (form_of s) at d r → Can moves (form_of s) (of s) d
    may_go may at s d r st n =
        ⊎_elim (λ (u : Under at s).
        let form : QueueForm = form_of s in
        let so : (next : QueueCall T) × tracked.Moves form u.0 d next =
        tracked.tracked_may (λ (c : QueueCall T). form) (λ (c : QueueCall T). c) (λ (x : Deed T) (c : QueueCall T). (next : QueueCall T) × tracked.Moves form c x next) (λ c x next m. (next, m)) at u.0 d r u.2 n in
        may form (of s) u.0 so.0 d so.1.0 u.1 so.1.1) (λ (rests : Rests (form_of s) at). absurd (rests d r n)) st.1

    pub ready : CallsMayMove moves calls → MayGoOn Stands form_of MayMake
    ready may at s d r st n = λ _. may_go may at s d r st n

    -- where its operation leads it
    led_on : CallsAreLed moves calls → (form : QueueForm) (at : CallState T) (a b : A) (d : Deed T) (r : CallStep T) (call : QueueCall T) → HasNoBlocks at → calls form a call → standing form call.state ≡ at → moves form a (does (Some d)) b
        → Next form at d r → StandsAt moves calls form b r.action
    led_on led form at a b d r call free under e made n =
        let so = led form a b call d under made in
        let on : standing form so.0.state ≡ r.action =
        tracked.tracked_goes (λ (c : QueueCall T). form) (λ (c : QueueCall T). c) (λ (x : Deed T) (c f : QueueCall T). tracked.Moves form c x f) (λ c f x m. m) (λ c f x m. refl) at call so.0 d r e (so.1, so.2) n in (
          still_none form at d r free n,
          rests_after so.1 so.0 so.3 (made_answers form call.state d _ (subst (λ (z : CallState T). HasNoBlocks z) (sym e) free) so.2) on,
        )
      where
        rests_after : (reply : Option (QueueReply T)) (next : QueueCall T) → (reply ≡ None → calls form b next) → Answers next.state reply → standing form next.state ≡ r.action
            → ((c : QueueCall T) × calls form b c × (standing form c.state ≡ r.action)) ⊎ Rests form r.action
        rests_after None next goes over on = inl (next, goes refl, on)
        rests_after (Some x) next goes over on = inr (over_rests form r.action (subst (λ (z : CallState T). IsOver z) (sym (over_stands form next.state over) ∙ on) over))

    module _ (Same : S → S → Type 0) where
      leads_by : CallsAreLed moves calls → (at : CallState T) (s t : S) (d : Deed T) (r : CallStep T) → Stands at s → moves (form_of s) (of s) (does (Some d)) (of t) → form_of t ≡ form_of s → Next (form_of s) at d r → Stands r.action t
      leads_by led at s t d r st made same n =
          subst (λ (f : QueueForm). StandsAt moves calls f (of t) r.action) (sym same)
          (⊎_elim (λ (u : Under at s). led_on led (form_of s) at (of s) (of t) d r u.0 st.0 u.1 u.2 made n) (λ (rests : Rests (form_of s) at). absurd (rests d r n)) st.1)

      stays_by : (at : CallState T) (s t : S) (d : Deed T) (r : CallStep T) → Stands at s → IsRefused d × (of t ≡ of s) → form_of t ≡ form_of s → Next (form_of s) at d r → Stands r.action t
      stays_by at s t d r st (turned, kept) same n =
          subst (λ (f : QueueForm). StandsAt moves calls f (of t) r.action) (sym same)
          (subst (λ (z : A). StandsAt moves calls (form_of s) z r.action) (sym kept)
          (subst (λ (x : CallState T). StandsAt moves calls (form_of s) (of s) x) (sym (refused_stays (form_of s) at d r st.0 turned n).0) st))

      pub leads : CallsAreLed moves calls → GoesOn Stands form_of (HasMade Same)
      leads led at s t d r st made n = ⊎_elim
          (λ (moved : moves (form_of s) (of s) (does (Some d)) (of t)). leads_by led at s t d r st moved made.1 n)
          (λ (refused : IsRefused d × (of t ≡ of s)). stays_by at s t d r st refused made.1 n)
          (made.0 (on_cell (form_of s) at d r st.0 n))
