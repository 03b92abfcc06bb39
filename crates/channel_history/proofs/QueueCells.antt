-- A call of the queue within a call of the channel, by the view of its seat.
use Rattle.std.proofs.Common.{◌≡◌, ◌⊎◌, inl, inr, ⊎_elim, ℕ, zero, suc, ◌==◌, Bool, true, false, [], ◌∷◌, refl, sym, ap, ◌∙◌, subst}
use Rattle.std.specs.Prelude.{Option, None, Some}
use Rattle.concurrent_queue.specs.Bridge.{does, Along}
use Rattle.concurrent_queue.specs.Deeds as cell
use Rattle.concurrent_queue.specs.Replies.{is_bounded, IsAsking, MayAnswer, MayCall}
use Rattle.concurrent_queue.specs.Step.{mark_of}
use Rattle.concurrent_queue.specs.Tracked.{one_state}
use Rattle.concurrent_queue.specs.Walked.{first_bounded, first_of, standing, MakesBounded, MakesFirst, StateMakes, CallMakes, Walked}
use Rattle.concurrent_queue.specs.machine.Dispatch.{ring_cap, in_single, in_ring}
use Rattle.concurrent_queue.specs.machine.FastPath.{Leads}
use Rattle.concurrent_queue.specs.machine.RingMoves.{RingMakes}
use Rattle.concurrent_queue.specs.machine.RingWords.{cap_of, ring_mark}
use Rattle.concurrent_queue.specs.machine.Single.{SingleMakes}
use Rattle.concurrent_queue.specs.declared.bounded.RingAction.{RingAction}
use Rattle.concurrent_queue.specs.declared.bounded.RingAction.TheVariants as ring
use Rattle.concurrent_queue.specs.declared.call.QueueAsk.{QueueAsk}
use Rattle.concurrent_queue.specs.declared.call.QueueAsk.TheVariants as ask
use Rattle.concurrent_queue.specs.declared.call.QueueReply.{QueueReply}
use Rattle.concurrent_queue.specs.declared.call.QueueReply.TheVariants.{Cap}
use Rattle.concurrent_queue.specs.declared.cells.QueueForm.{QueueForm}
use Rattle.concurrent_queue.specs.declared.cells.QueueForm.TheVariants.{Bounded, Unbounded}
use Rattle.concurrent_queue.specs.declared.queue_call.CallState.{CallState}
use Rattle.concurrent_queue.specs.declared.queue_call.CallState.TheVariants.{Asked, Single, Ring, Blocks, Finished}
use Rattle.concurrent_queue.specs.declared.queue_call.QueueCall.{QueueCall}
use Rattle.concurrent_queue.specs.declared.single.SingleAction.{SingleAction}
use Rattle.concurrent_queue.specs.declared.single.SingleAction.TheVariants as single
use Rattle.concurrent_queue.specs.history.Calls.{on_cell, HasNoBlocks, AsksCells, refused_stays, still_none}
use Rattle.concurrent_queue.specs.history.OnCells.{IsRefused}
use Rattle.concurrent_queue.specs.history.StepTypes.{SingleStep, RingStep, CallStep}
use Rattle.concurrent_queue.proofs.Noted.{note_state}
use Rattle.channel_calls.specs.Answered.{answered_next}
use Rattle.channel_calls.specs.Deeds.{stepped as queue_stepped}
use Rattle.channel_calls.specs.Marks.{mark_of_queue}
use Rattle.channel_calls.specs.Tracked.{at_state, unmarked}
use Rattle.channel_calls.specs.Walks.{Takes, Heard, ChannelMakes}
use Rattle.channel_calls.specs.declared.reply.Reply.{Reply}
use Rattle.channel_calls.specs.declared.stage.Purpose.{Purpose}
use Rattle.channel_calls.specs.declared.stage.Stage.{Stage}
use Rattle.channel_calls.specs.declared.stage.Stage.TheVariants as stage
use Rattle.channel_calls.specs.declared.stage.Stage.TheVariants.{Trying, Working}
use Rattle.channel_steps.specs.every_run.Bridge.{on_queue, on_nothing, Notes}
use Rattle.channel_history.specs.Cells.{StandsAt, Owns, Stands, May, own_after, Did}
use Rattle.channel_history.specs.InHand.{IsOfKind, by_purpose, in_hand, in_hand_after, handles_at, handles_after, CallsHoldTheirOwn}
use Rattle.channel_history.specs.Party.{with_own, Makes}
use Rattle.channel_history.specs.QueueCells.{StandsWithin, calls, Operates, moves, MovesView, QueueCallsMove, QueueCallsAreDeeds}
use Rattle.channel_history.specs.Steps.{stepped}
use Rattle.channel_history.specs.declared.party.Belongings.{Belongings}
use Rattle.channel_history.specs.declared.party.Standing.{Standing}
use Rattle.channel_history.proofs.Acting.{staged, stepped_again, stepped_own, comes, acts_on, same_hand}
use Rattle.channel_history.proofs.InHand.{calls_hold_their_own}
use Rattle.channel_history.proofs.Stages.{one_call, steps_at, trying_acts}
use Rattle.channel_history.proofs.Turns.{takes_some}

module _ {T : Type 0} where
  -- ---- what a call does that has made no step is what it does at its first action

  module _ {S : Type 0} (did : cell.Deed T → S → S → Type 0) where
    bounded_first : (b : Bool) (most : ℕ) (a : QueueAsk T) (s t : S) (r : CallStep T) → MakesBounded did b (cap_of most) s a t r → StateMakes did (Bounded most) s (first_bounded b a) t r
    bounded_first true most a s t r h = h
    bounded_first false most a s t r h = h

    at_first : (form : QueueForm) (a : QueueAsk T) (s t : S) (r : CallStep T) → MakesFirst did form s a t r → StateMakes did form s (first_of form a) t r
    at_first (Bounded most) a s t r h = bounded_first (most == 1) most a s t r h
    at_first Unbounded a s t r h = h

    at_standing : (form : QueueForm) (at : CallState T) (s t : S) (r : CallStep T) → StateMakes did form s at t r → StateMakes did form s (standing form at) t r
    at_standing form (Asked a) s t r h = at_first form a s t r h
    at_standing form at s t r h = h

  settled : (form : QueueForm) (at : CallState T) → HasNoBlocks at → standing form at ≡ at
  settled form (Asked a) b = absurd b
  settled form at b = refl

  few : (form : QueueForm) (a : QueueAsk T) → is_bounded form ≡ true → HasNoBlocks (first_of form a)
  few (Bounded most) a bounded = by (most == 1) where
    by : (b : Bool) → HasNoBlocks (first_bounded b a)
    by true = tt
    by false = tt
  few Unbounded a bounded = absurd cc

  -- ---- a step that touches nothing answers the capacity, or leaves the call where it is

  no_deed : (d : cell.Deed T) → None ≡ Some d → ⊥
  no_deed d e = cc

  abbrev RestsAt : CallState T → CallStep T → Type 0
  RestsAt at r = ((r.reply ≡ None) × (r.action ≡ at)) ⊎ ((o : Option ℕ) × (r.reply ≡ Some (Cap o)))

  single_rests : (a : SingleAction T) (x : SingleStep T) (r : CallStep T) → r ≡ in_single x → SingleMakes cell.Notes None a None x → RestsAt (Single a) r
  single_rests single.Capacity x r e (n, f) = inr (Some 1, ap (λ (z : CallStep T). z.reply) e ∙ ap (λ (z : SingleStep T). z.reply) f)
  single_rests single.Finished x r e (n, f) = inl (ap (λ (z : CallStep T). z.reply) e ∙ ap (λ (z : SingleStep T). z.reply) f, ap (λ (z : CallStep T). z.action) e ∙ ap (λ (z : SingleStep T). Single z.action) f)
  single_rests a x r e h = absurd (no_deed _ h.1)

  ring_rests : (most m : ℕ) (a : RingAction T) (x : RingStep T) (r : CallStep T) → r ≡ in_ring x → RingMakes most m cell.Notes None a None x → RestsAt (Ring a) r
  ring_rests most m ring.Capacity x r e (n, f) = inr (Some most, ap (λ (z : CallStep T). z.reply) e ∙ ap (λ (z : RingStep T). z.reply) f)
  ring_rests most m ring.Finished x r e (n, f) = inl (ap (λ (z : CallStep T). z.reply) e ∙ ap (λ (z : RingStep T). z.reply) f, ap (λ (z : CallStep T). z.action) e ∙ ap (λ (z : RingStep T). Ring z.action) f)
  ring_rests most m (ring.PushStore k t) x r e h = absurd (no_deed _ h.0)
  ring_rests most m (ring.ForceStore h old) x r e g = absurd (no_deed _ g.0)
  ring_rests most m (ring.PopStore h v) x r e g = absurd (no_deed _ g.0)
  ring_rests most m a x r e h = absurd (no_deed _ h.1)

  state_rests : (form : QueueForm) (at : CallState T) (r : CallStep T) → HasNoBlocks at → StateMakes cell.Notes form None at None r → RestsAt at r
  state_rests form (Asked a) r b h = absurd b
  state_rests form (Single a) r b (x, made, e) = single_rests a x r e made
  state_rests form (Ring a) r b (x, made, e) = ring_rests (ring_cap form) (ring_mark (ring_cap form)) a x r e made
  state_rests form (Blocks a) r b h = absurd b
  state_rests form Finished r b (n, e) = inl (ap (λ (z : CallStep T). z.reply) e, ap (λ (z : CallStep T). z.action) e)

  abbrev next_of : QueueCall T → Option (QueueReply T) → CallStep T
  next_of after reply = record { action = after.state; mark = after.mark; reply = reply }

  -- whatever else is asked is answered otherwise
  other_answer : (form : QueueForm) (a : QueueAsk T) (o : Option ℕ) → AsksCells a → MayAnswer form a (Cap o) → ⊥
  other_answer form ask.Capacity o h m = absurd h
  other_answer form a o h m = m

-- ---- one operation

module _ {T W : Type 0} (form : QueueForm) where
  begins_within : (s : Standing T W) (call : QueueCall T) (p : Purpose T W) → Stands form (Trying call p) s → StandsWithin form call p s
  begins_within s call p (bounded, stands, owns, (a, asks, cells, kind)) =
      (stands, owns, subst (λ (z : CallState T). HasNoBlocks (standing form z)) (sym asks) (few form a bounded))

  hears : (p : Purpose T W) (after : QueueCall T) (o : Option (QueueReply T)) → (next : Stage (QueueCall T) T W) × (answer : Option (Reply T)) × Heard p after o next answer
  hears p after None = (Trying after p, None, (refl, refl))
  hears p after (Some x) = takes_some T W form (answered_next p x)

  may_move : (s : Standing T W) (call next : QueueCall T) (d : cell.Deed T) (reply : Option (QueueReply T)) → calls form s call → CallMakes cell.Notes form None call (Some d) next reply
      → (t : Standing T W) × moves form s (does (Some d)) t
  may_move s call next d reply (p, stands) makes =
      let h = hears p next reply in
      (stepped s h.0 h.1, record { call = call; after = next; purpose = p; reply = reply; next = h.0; answer = h.1; stands = stands; makes = makes; heard = h.2; left = refl })

  -- its own operation, seen from any call within which it stands
  abbrev pub MadeBy : QueueCall T → Purpose T W → (s t : Standing T W) (d : cell.Deed T) → Operates form d s t → Type 0
  MadeBy call p s t d h = CallMakes cell.Notes form None call (Some d) h.after h.reply × (h.purpose ≡ p)

  made_by : (s t : Standing T W) (call : QueueCall T) (p : Purpose T W) (d : cell.Deed T) → StandsAt s (Trying call p) → (h : Operates form d s t) → MadeBy call p s t d h
  made_by s t call p d stands h =
      let one = one_call s call h.call p h.purpose stands (h.stands).0 in
      (subst (λ (z : CallState T). StateMakes cell.Notes form None z (Some d) (record { action = (h.after).state; mark = (h.after).mark; reply = h.reply })) one.0 h.makes, one.1)

  -- within a call of the queue it has in hand what that call was made for
  hands : (s : Standing T W) (call : QueueCall T) (p : Purpose T W) → StandsWithin form call p s → (s.own.listeners ≡ by_purpose p) × (s.own.handles ≡ [])
  hands s call p (inl (kept, e), owns, none) = absurd cc
  hands s call p (inr (v, e, k), owns, none) =
      let hand = same_hand s (Trying call p) (Trying call p) (queue_stepped call call None) v (inr (v, e, k)) (trying_acts call p) e in
      let has = owns.1 v e in
      (has.0 ∙ hand.0, has.1 ∙ hand.1)

  owns_staged : (s : Standing T W) (after : QueueCall T) (p : Purpose T W) → s.own.lists ≡ [] → (s.own.listeners ≡ by_purpose p) × (s.own.handles ≡ []) → Owns (staged s (Trying after p))
  owns_staged s after p none has = (
    none,
    λ shown e.
        let same : Trying after p ≡ shown = cc in
        (has.0 ∙ ap (λ (z : Stage (QueueCall T) T W). in_hand z) same, has.1 ∙ ap (λ (z : Stage (QueueCall T) T W). handles_at z) same),
  )

  goes_within : (s t : Standing T W) (call : QueueCall T) (p : Purpose T W) (d : cell.Deed T) → StandsWithin form call p s → (h : Operates form d s t) → h.reply ≡ None
      → StandsWithin form h.after p t × (t ≡ staged s (Trying h.after p))
  goes_within s t call p d within h goes =
      let by = made_by s t call p d within.0 h in
      let heard : Heard p h.after None h.next h.answer = subst (λ (z : Purpose T W). Heard z h.after None h.next h.answer) by.1 (subst (λ (z : Option (QueueReply T)). Heard h.purpose h.after z h.next h.answer) goes h.heard) in
      let is : t ≡ staged s (Trying h.after p) =
      h.left ∙ (ap (λ (z : Option (Reply T)). stepped s h.next z) heard.1 ∙ ap (λ (z : Stage (QueueCall T) T W). staged s z) heard.0) in
      let acts = at_standing cell.Notes form call.state None (Some d) (next_of h.after h.reply) by.0 in
      let left : HasNoBlocks (h.after).state = still_none form (standing form call.state) d (next_of h.after h.reply) within.2 acts in
      let owns = within.1 in (
        subst (λ (z : Standing T W). StandsWithin form h.after p z) (sym is) (
          inr (Trying h.after p, refl, inl refl),
          owns_staged s h.after p owns.0 (hands s call p within),
          subst (λ (z : CallState T). HasNoBlocks z) (sym (settled form (h.after).state left)) left,
        ),
        is,
      )

  led_on : (s t : Standing T W) (call : QueueCall T) (d : cell.Deed T) → calls form s call → moves form s (does (Some d)) t
      → (next : QueueCall T) × (reply : Option (QueueReply T)) × CallMakes cell.Notes form None call (Some d) next reply × (reply ≡ None → calls form t next)
  led_on s t call d (p, within) h = (h.after, h.reply, (made_by s t call p d within.0 h).0, λ goes. (p, (goes_within s t call p d within h goes).0))

  -- it is its party's next act
  at_purpose : (call : QueueCall T) (p : Purpose T W) (to : Stage (QueueCall T) T W) → unmarked (Trying call p) ≡ unmarked to → (other : QueueCall T) × (to ≡ Trying other p) × (other.state ≡ call.state)
  at_purpose call p (Trying other q) e =
      let purposes : q ≡ p = cc in
      let calls : at_state other.state ≡ at_state call.state = cc in
      (other, ap (λ (z : Purpose T W). Trying other z) purposes, ap (λ (z : QueueCall T). z.state) calls)
  at_purpose call p (Working w) e = absurd cc
  at_purpose call p (stage.Finished kept) e = absurd cc

  acts : (s t : Standing T W) (d : cell.Deed T) → Operates form d s t → Makes form s (on_queue (Some d)) t × (t.own ≡ s.own)
  acts s t d h =
      let there = comes form s (Trying h.call h.purpose) (Trying h.call h.purpose) (queue_stepped h.call h.call None) (h.stands).0 (trying_acts h.call h.purpose) in
      let here = at_purpose h.call h.purpose there.0 there.1 in
      let made : CallMakes cell.Notes form None here.0 (Some d) h.after h.reply = subst (λ (z : CallState T). StateMakes cell.Notes form None z (Some d) (next_of h.after h.reply)) (sym here.2) h.makes in
      let makes : ChannelMakes (Notes form) (Trying here.0 h.purpose) on_nothing (on_queue (Some d)) (mark_of_queue (mark_of h.after)) h.next h.answer = (h.after, h.reply, (Some d, made, refl), refl, h.heard) in (
        subst (λ (z : Standing T W). Makes form s (on_queue (Some d)) z) (sym h.left)
            (acts_on form s there.0 h.next (on_queue (Some d)) (mark_of_queue (mark_of h.after)) h.answer there.2
            (subst (λ (z : Stage (QueueCall T) T W). ChannelMakes (Notes form) z on_nothing (on_queue (Some d)) (mark_of_queue (mark_of h.after)) h.next h.answer) (sym here.1) makes)),
        ap (λ (z : Standing T W). z.own) h.left ∙ stepped_own s h.next h.answer,
      )

  allowed : (s : Standing T W) (call after : QueueCall T) (o : Option (QueueReply T)) → May form (queue_stepped call after o) s → (p : Purpose T W) × Stands form (Trying call p) s
  allowed s call after o (at, next, stands, (m, r, makes)) =
      let tries = steps_at at next call after o m r makes in
      (tries.0, subst (λ (z : Stage (QueueCall T) T W). Stands form z s) tries.1 stands)

pub queue_calls_move : (T W : Type 0) → QueueCallsMove T W
queue_calls_move T W = record {
  allowed = λ form s call after o may. allowed form s call after o may;
  within = λ form s call p stands. (p, begins_within form s call p stands);
  may = λ form s call next d reply within makes. may_move form s call next d reply within makes;
  led = λ form s t call d within move. led_on form s t call d within move;
  acts = λ form s t d move. acts form s t d move;
}

module _ {T W : Type 0} where
  same_own : (s : Standing T W) (at next : Stage (QueueCall T) T W) (answer : Option (Reply T)) → s.own.lists ≡ [] → s.own.listeners ≡ in_hand_after next answer → s.own.handles ≡ handles_after at next answer
      → stepped s next answer ≡ with_own (own_after at next answer) (stepped s next answer)
  same_own s at next answer lists listeners handles =
      let own : Belongings W = s.own in
      let is : own ≡ own_after at next answer =
      ap (λ (z : _). record own { lists = z }) lists
      ∙ (ap (λ (z : _). record { lists = []; handles = own.handles; listeners = z }) listeners ∙ ap (λ (z : _). record { lists = []; handles = z; listeners = in_hand_after next answer }) handles) in
      by answer is
    where
      by : (o : Option (Reply T)) → s.own ≡ own_after at next answer → stepped s next o ≡ with_own (own_after at next answer) (stepped s next o)
      by None is = ap (λ (z : Belongings W). with_own z (stepped s next None)) is
      by (Some r) is = ap (λ (z : Belongings W). with_own z (stepped s next (Some r))) is

  restaged : (s : Standing T W) (v : Stage (QueueCall T) T W) → s.stage ≡ Some v → s ≡ staged s v
  restaged s v is = ap (λ (z : Option (Stage (QueueCall T) T W)). record s { stage = z }) is

-- ---- all operations of a call

module _ {T W C : Type 0} (form : QueueForm) (of : C → Standing T W) (Good : C → Type 0) (did : cell.Deed T → C → C → Type 0) (moved : (d : cell.Deed T) (a b : C) → Good a → did d a b → MovesView form of d a b × Good b) (first : C) (p : Purpose T W) where
  -- the call of the channel stands within its call of the queue, which stands at this action; since the first operation nothing else of it
  -- has changed
  abbrev AtWalk : C → CallState T → Type 0
  AtWalk c at = (call : QueueCall T) × StandsWithin form call p (of c) × (standing form call.state ≡ at) × (v : Stage (QueueCall T) T W) × (of c ≡ staged (of first) v)

  -- by its last operation it heard this
  abbrev Heeds : C → QueueReply T → Type 0
  Heeds e x =
      (after : QueueCall T) × (call : QueueCall T) × (d : cell.Deed T) × (next : Stage (QueueCall T) T W) × (answer : Option (Reply T))
      × CallMakes cell.Notes form None call (Some d) after (Some x) × Takes (answered_next p x) next answer × (of e ≡ stepped (of first) next answer)

  abbrev After : C → CallState T → Option (QueueReply T) → Type 0
  After e at None = AtWalk e (standing form at)
  After e at (Some x) = Heeds e x ⊎ ((o : Option ℕ) × (x ≡ Cap o))

  heeded : (c e : C) (call : QueueCall T) (v : Stage (QueueCall T) T W) (d : cell.Deed T) (x : QueueReply T) → StandsWithin form call p (of c) → of c ≡ staged (of first) v → (h : Operates form d (of c) (of e)) → h.reply ≡ Some x → Heeds e x
  heeded c e call v d x within since h answers =
      let by = made_by form (of c) (of e) call p d within.0 h in (
        h.after,
        call,
        d,
        h.next,
        h.answer,
        subst (λ (z : Option (QueueReply T)). CallMakes cell.Notes form None call (Some d) h.after z) answers by.0,
        subst (λ (z : Purpose T W). Heard z h.after (Some x) h.next h.answer) by.1 (subst (λ (z : Option (QueueReply T)). Heard h.purpose h.after z h.next h.answer) answers h.heard),
        h.left ∙ (ap (λ (z : Standing T W). stepped z h.next h.answer) since ∙ stepped_again (of first) v h.next h.answer),
      )

  by_deed : (c e : C) (at : CallState T) (d : cell.Deed T) (r : CallStep T) → AtWalk c at → Operates form d (of c) (of e) → StateMakes cell.Notes form None at (Some d) r → After e r.action r.reply
  by_deed c e at d r (call, within, stands, v, since) h n =
      let by = made_by form (of c) (of e) call p d within.0 h in
      let there : StateMakes cell.Notes form None at (Some d) (next_of h.after h.reply) =
      subst (λ (z : CallState T). StateMakes cell.Notes form None z (Some d) (next_of h.after h.reply)) stands (at_standing cell.Notes form call.state None (Some d) (next_of h.after h.reply) by.0) in
      let one : next_of h.after h.reply ≡ r = one_state form at (Some d) r (next_of h.after h.reply) n there in
      subst (λ (z : CallStep T). After e z.action z.reply) one (go h.reply refl)
    where
      go : (o : Option (QueueReply T)) → h.reply ≡ o → After e (h.after).state o
      go None goes =
          let w = goes_within form (of c) (of e) call p d within h goes in
          (h.after, w.0, refl, Trying h.after p, w.1 ∙ ap (λ (z : Standing T W). staged z (Trying h.after p)) since)
      go (Some x) answers = inl (heeded c e call v d x within since h answers)

  refused : (c e : C) (at : CallState T) (d : cell.Deed T) (r : CallStep T) → HasNoBlocks at → AtWalk c at → IsRefused d × (of e ≡ of c) → StateMakes cell.Notes form None at (Some d) r → After e r.action r.reply
  refused c e at d r none (call, within, stands, v, since) (turned, is) n =
      let stays : (r.action ≡ at) × (r.reply ≡ None) = refused_stays form at d r none turned n in
      subst (λ (o : Option (QueueReply T)). After e r.action o) (sym stays.1)
      (subst (λ (z : CallState T). After e z None) (sym stays.0)
      (call, subst (λ (z : Standing T W). StandsWithin form call p z) (sym is) within, stands ∙ sym (settled form at none), v, is ∙ since))

  deed_made : (c e : C) (at : CallState T) (d : cell.Deed T) (r : CallStep T) → HasNoBlocks at → AtWalk c at → MovesView form of d c e → StateMakes cell.Notes form None at (Some d) r → After e r.action r.reply
  deed_made c e at d r none w made n = ⊎_elim
      (λ (h : moves form (of c) (does (Some d)) (of e)). by_deed c e at d r w h n)
      (λ (h : IsRefused d × (of e ≡ of c)). refused c e at d r none w h n)
      (made (on_cell form at d r none n))

  rested : (c : C) (at : CallState T) (r : CallStep T) → HasNoBlocks at → AtWalk c at → RestsAt at r → After c r.action r.reply
  rested c at r none w (inl (goes, stays)) =
      subst (λ (o : Option (QueueReply T)). After c r.action o) (sym goes) (subst (λ (z : CallState T). AtWalk c z) (sym (ap (λ (z : CallState T). standing form z) stays ∙ settled form at none)) w)
  rested c at r none w (inr (o, answers)) = subst (λ (x : Option (QueueReply T)). After c r.action x) (sym answers) (inr (o, refl))

  none_at : (c : C) (at : CallState T) → AtWalk c at → HasNoBlocks at
  none_at c at (call, within, stands, v, since) = subst (λ (z : CallState T). HasNoBlocks z) stands within.2

  step : (c e : C) (at : CallState T) (r : CallStep T) → Good c → AtWalk c (standing form at) → StateMakes did form c at e r → After e r.action r.reply × Good e
  step c e at r good w h =
      let noted = note_state did form c (standing form at) e r (at_standing did form at c e r h) in
      by noted.0 noted.1 noted.2
    where
      by : (o : Option (cell.Deed T)) → StateMakes cell.Notes form None (standing form at) o r → Along did (o ∷ []) c e → After e r.action r.reply × Good e
      by None n same =
          let none = none_at c (standing form at) w in
          subst (λ (z : C). After z r.action r.reply × Good z) (sym same) (rested c (standing form at) r none w (state_rests form (standing form at) r none n), good)
      by (Some d) n (m, made, same) =
          let on = moved d c e good (subst (λ (z : C). did d c z) (sym same) made) in
          (deed_made c e (standing form at) d r (none_at c (standing form at) w) w on.0 n, on.1)

  walk : (n : ℕ) (c e : C) (at to : CallState T) → Good c → AtWalk c (standing form at) → Leads (StateMakes did form) n c at e to → AtWalk e (standing form to) × Good e
  walk zero c e at to good w (same, stays) = subst (λ (z : C). AtWalk z (standing form to) × Good z) (sym same) (subst (λ (z : CallState T). AtWalk c (standing form z)) (sym stays) w, good)
  walk (suc n) c e at to good w (x, y, (m, h), l) =
      let one = step c x at (record { action = y; mark = m; reply = None }) good w h in
      walk n x e y to one.1 one.0 l

  heard_last : (call : QueueCall T) (e : C) (x : QueueReply T) → Good first → AtWalk first (standing form call.state) → Walked did form call first x e → (Heeds e x ⊎ ((o : Option ℕ) × (x ≡ Cap o))) × Good e
  heard_last call e x good w (n, (y, at, z, m, l, h)) =
      let before = walk n first y call.state at good w l in
      step y e at (record { action = z; mark = m; reply = Some x }) before.1 before.0 h

  -- ---- is one deed of the channel's call

  did_whole : (call after : QueueCall T) (x : QueueReply T) (e : C) → Stands form (Trying call p) (of first) → MayCall form call.state x → Heeds e x → Did form (queue_stepped call after (Some x)) (of first) (of e)
  did_whole call after x e stands may (then, other, d, next, answer, makes, takes, is) = record {
    at = Trying call p;
    next = next;
    mark = mark_of_queue (mark_of after);
    answer = answer;
    stands = stands;
    makes = (after, Some x, refl, refl, takes);
    completes = (x, refl, may);
    left = is ∙ same_own (of first) (Trying call p) next answer (within.1).0 (sym listeners) (sym handles);
  }
    where
      within : StandsWithin form call p (of first)
      within = begins_within form (of first) call p stands

      hold : CallsHoldTheirOwn T W
      hold = calls_hold_their_own T W

      sound : (a : QueueAsk T) × IsAsking call a × AsksCells a × ((y : QueueReply T) → MayCall form call.state y → IsOfKind p y)
      sound = stands.3

      listeners : in_hand_after next answer ≡ (of first).own.listeners
      listeners = hold.answers p x next answer takes (sound.3 x may) ∙ sym (hands form (of first) call p within).0

      handles : handles_after (Trying call p) next answer ≡ (of first).own.handles
      handles =
          (hold.steps form (Trying other p) (on_queue (Some d)) (mark_of_queue (mark_of then)) next answer (then, Some x, (Some d, makes, refl), refl, takes)).1
          ∙ sym (hands form (of first) call p within).1

  -- A CALL OF THE QUEUE that is made whole
  pub queue_call_done : (call after : QueueCall T) (x : QueueReply T) (e : C) → Good first → Stands form (Trying call p) (of first) → MayCall form call.state x → Walked did form call first x e
      → Did form (queue_stepped call after (Some x)) (of first) (of e) × Good e
  queue_call_done call after x e good stands may walked =
      let last = heard_last call e x good start walked in
      (⊎_elim (λ (h : Heeds e x). did_whole call after x e stands may h) (λ (h : (o : Option ℕ) × (x ≡ Cap o)). absurd (never h.0 h.1)) last.0, last.1)
    where
      sound : (a : QueueAsk T) × IsAsking call a × AsksCells a × ((y : QueueReply T) → MayCall form call.state y → IsOfKind p y)
      sound = stands.3

      never : (o : Option ℕ) → x ≡ Cap o → ⊥
      never o is = other_answer form sound.0 o sound.2 (subst (λ (y : QueueReply T). MayAnswer form sound.0 y) is (subst (λ (z : CallState T). MayCall form z x) sound.1 may))

      start : AtWalk first (standing form call.state)
      start = let v = shown stands.1 in (call, begins_within form (of first) call p stands, refl, v.0, v.1) where
        shown : StandsAt (of first) (Trying call p) → (v : Stage (QueueCall T) T W) × (of first ≡ staged (of first) v)
        shown (inl (kept, e)) = absurd cc
        shown (inr (v, is, k)) = (v, restaged (of first) v is)

pub queue_calls_are_deeds : (T W C : Type 0) → QueueCallsAreDeeds T W C
queue_calls_are_deeds T W C form of call after p x a b stands may walked = (queue_call_done form of (λ z. Unit {0}) (λ d c e. MovesView form of d c e) (λ d c e good h. (h, tt)) a p call after x b tt stands may walked).0

-- ---- of cells of the queue with such a view

module _ {T W C : Type 0} (form_of : C → QueueForm) (of : C → Standing T W) (Same : C → C → Type 0) (stays : (c : C) → Same c c) (joins : (c d e : C) → Same c d → Same d e → Same c e) (did : cell.Deed T → C → C → Type 0) where
  -- each operation moves the view on or was refused, on the same cells, of the same form
  abbrev pub CellsMove : Type 0
  CellsMove = (d : cell.Deed T) (a b : C) → did d a b → MovesView (form_of a) of d a b × (form_of b ≡ form_of a) × Same a b

  pub cells_call_done : CellsMove → (call after : QueueCall T) (p : Purpose T W) (x : QueueReply T) (a b : C) → Stands (form_of a) (Trying call p) (of a) → MayCall (form_of a) call.state x → Walked did (form_of a) call a x b
      → Did (form_of a) (queue_stepped call after (Some x)) (of a) (of b) × (form_of b ≡ form_of a) × Same a b
  cells_call_done moved call after p x a b stands may walked =
      let done = queue_call_done (form_of a) of (λ z. (form_of z ≡ form_of a) × Same a z) did by a p call after x b (refl, stays a) stands may walked in
      (done.0, (done.1).0, (done.1).1)
    where
      by : (d : cell.Deed T) (c e : C) → (form_of c ≡ form_of a) × Same a c → did d c e → MovesView (form_of a) of d c e × ((form_of e ≡ form_of a) × Same a e)
      by d c e still made =
          let on = moved d c e made in
          (subst (λ (f : QueueForm). MovesView f of d c e) still.0 on.0, (on.1 ∙ still.0, joins a c e still.1 on.2))
