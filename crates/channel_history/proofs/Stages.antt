-- Where a call does its next deed whose seat's view shows a stage, and where the deed leads.
use Rattle.std.proofs.Common.{◌≡◌, ◌⊎◌, inl, inr, ⊎_elim, ℕ, zero, suc, refl, sym, ap, ◌∙◌, subst}
use Rattle.std.specs.Prelude.{Option, None, Some}
use Rattle.concurrent_queue.specs.declared.call.QueueAsk.TheVariants as ask
use Rattle.concurrent_queue.specs.declared.call.QueueReply.{QueueReply}
use Rattle.concurrent_queue.specs.declared.cells.QueueForm.TheVariants.{Unbounded}
use Rattle.concurrent_queue.specs.declared.queue_call.CallState.{CallState}
use Rattle.concurrent_queue.specs.declared.queue_call.CallState.TheVariants.{Asked}
use Rattle.concurrent_queue.specs.declared.queue_call.QueueCall.{QueueCall}
use Rattle.channel_calls.specs.Answered.{answered_next}
use Rattle.channel_calls.specs.Asks.{kept_by}
use Rattle.channel_calls.specs.Deeds.{Deed, stepped as queue_stepped}
use Rattle.channel_calls.specs.Marks.{mark_of_queue}
use Rattle.channel_calls.specs.Several.{gathering}
use Rattle.channel_calls.specs.Stands.{NotesDeed, NextDeed, NoDeed}
use Rattle.channel_calls.specs.Tracked.{at_state, unmarked, SeenAt, one_place}
use Rattle.channel_calls.specs.Turns.{leaving, nothing_kept, room_next, TakesRoom, inserted_next, registered_next, lowered_next, loaded_next, raised_next}
use Rattle.channel_calls.specs.Walks.{Takes, Heard, Leaves, WorkMakes, ChannelMakes}
use Rattle.concurrent_queue.specs.Step.{mark_of}
use Rattle.channel_calls.specs.declared.mark.Mark.{Mark}
use Rattle.channel_calls.specs.declared.reply.Reply.{Reply}
use Rattle.channel_calls.specs.declared.reply.Reply.TheVariants as reply
use Rattle.channel_calls.specs.declared.stage.ListStep.{ListStep}
use Rattle.channel_calls.specs.declared.stage.ListStep.TheVariants.{TellReceive, TellStreams, TellSend, TellSends, TakeRoom, TellAll, Insert, Register, Leave, Lower, Count, Load, Raise}
use Rattle.channel_calls.specs.declared.stage.ListenerRef.{ListenerRef}
use Rattle.channel_calls.specs.declared.stage.NextStep.{NextStep}
use Rattle.channel_calls.specs.declared.stage.NextStep.TheVariants.{Tries, Works, Ends}
use Rattle.channel_calls.specs.declared.stage.Purpose.{Purpose}
use Rattle.channel_calls.specs.declared.stage.Purpose.TheVariants as purpose
use Rattle.channel_calls.specs.declared.stage.Stage.{Stage}
use Rattle.channel_calls.specs.declared.stage.Stage.TheVariants.{Trying, Working, Finished}
use Rattle.channel_history.specs.Cells.{HasEnded, MayStand, StandsAt}
use Rattle.channel_history.specs.declared.party.Standing.{Standing}
use Rattle.channel_history.proofs.Turns.{WorkTurns, work_turns}

module _ {T W : Type 0} where
  -- ---- a turn leads to one stage, but for a mark, and to one answer

  abbrev pub Alike : Stage (QueueCall T) T W → Option (Reply T) → Stage (QueueCall T) T W → Option (Reply T) → Type 0
  Alike a r b s = (unmarked b ≡ unmarked a) × (s ≡ r)

  pub same_taken : (turn : NextStep T W) (a b : Stage (QueueCall T) T W) (r s : Option (Reply T)) → Takes turn a r → Takes turn b s → Alike a r b s
  same_taken (Tries x p) a b r s (call, starts, asks, none, e) (other, begins, asked, nil, f) =
      (ap (λ z. unmarked z) f ∙ (ap (λ (z : CallState T). Trying (at_state z) p) (asked ∙ sym asks) ∙ sym (ap (λ z. unmarked z) e)), nil ∙ sym none)
  same_taken (Works w) a b r s (none, e) (nil, f) = (ap (λ z. unmarked z) (f ∙ sym e), nil ∙ sym none)
  same_taken (Ends x kept) a b r s (some, e) (too, f) = (ap (λ z. unmarked z) (f ∙ sym e), too ∙ sym some)

  taken_as : (turn other : NextStep T W) (a b : Stage (QueueCall T) T W) (r s : Option (Reply T)) → other ≡ turn → Takes turn a r → Takes other b s → Alike a r b s
  taken_as turn other a b r s e h k = same_taken turn a b r s h (subst (λ (z : NextStep T W). Takes z b s) e k)

  same_heard : (p : Purpose T W) (after : QueueCall T) (o : Option (QueueReply T)) (a b : Stage (QueueCall T) T W) (r s : Option (Reply T)) → Heard p after o a r → Heard p after o b s → Alike a r b s
  same_heard p after None a b r s (e, none) (f, nil) = (ap (λ z. unmarked z) (f ∙ sym e), nil ∙ sym none)
  same_heard p after (Some x) a b r s h k = same_taken (answered_next p x) a b r s h k

  same_work : (w : ListStep T W) (d : Deed T W) (m o : Mark) (a b : Stage (QueueCall T) T W) (r s : Option (Reply T)) → WorkMakes NotesDeed w None (Some d) m a r → WorkMakes NotesDeed w None (Some d) o b s → Alike a r b s
  same_work (TellReceive e) d m o a b r s (x, h, (i, t)) (y, k, (j, u)) = same_taken (Works (TellStreams e)) a b r s t u
  same_work (TellStreams e) d m o a b r s (x, h, (i, t)) (y, k, (j, u)) = same_taken _ a b r s t u
  same_work (TellSend e) d m o a b r s (x, h, (i, t)) (y, k, (j, u)) = same_taken _ a b r s t u
  same_work (TellSends n e) d m o a b r s (x, h, (i, t)) (y, k, (j, u)) = same_taken _ a b r s t u
  same_work (TakeRoom n) d m o a b r s (x, h, i, t) (y, k, j, u) = absurd cc
  same_work (TellAll line c) d m o a b r s (x, h, (i, t)) (y, k, (j, u)) = same_taken _ a b r s t u
  same_work (Insert w task) d m o a b r s (x, h, (i, t)) (y, k, (j, u)) = let e : y ≡ x = cc in taken_as _ _ a b r s (ap (λ z. inserted_next w task z) e) t u
  same_work (Register w key task) d m o a b r s (x, h, (i, t)) (y, k, (j, u)) = let e : y ≡ x = cc in taken_as _ _ a b r s (ap (λ z. registered_next w key z) e) t u
  same_work (Leave e) d m o a b r s (h, (i, t)) (k, (j, u)) = same_taken (Ends e.reply (leaving None e.message)) a b r s t u
  same_work (Lower side key) d m o a b r s (x, h, (i, t)) (y, k, (j, u)) = let e : y ≡ x = cc in taken_as _ _ a b r s (ap (λ z. lowered_next side key z) e) t u
  same_work (Count side) d m o a b r s (x, h, (i, t)) (y, k, (j, u)) = let e : y ≡ x = cc in taken_as _ _ a b r s (ap (λ (n : ℕ). Ends (reply.Count n) nothing_kept) e) t u
  same_work (Load side making) d m o a b r s (x, h, (i, t)) (y, k, (j, u)) = let e : y ≡ x = cc in taken_as _ _ a b r s (ap (λ z. loaded_next side making z) e) t u
  same_work (Raise side n making) d m o a b r s (x, h, (i, t)) (y, k, (j, u)) = let e : y ≡ x = cc in taken_as _ _ a b r s (ap (λ z. raised_next side making z) e) t u

  abbrev pub Makes : Stage (QueueCall T) T W → Option (Deed T W) → Mark → Stage (QueueCall T) T W → Option (Reply T) → Type 0
  Makes at o m next r = ChannelMakes NotesDeed at None o m next r

  -- a deed leads to one stage, but for a mark, and to one answer
  pub same_step : (at to : Stage (QueueCall T) T W) (d : Deed T W) (m n : Mark) (a b : Stage (QueueCall T) T W) (r s : Option (Reply T)) → unmarked at ≡ unmarked to
      → Makes at (Some d) m a r → Makes to (Some d) n b s → Alike a r b s
  same_step (Trying call p) (Trying other q) d m n a b r s e (after, o, h, i, t) (then, y, k, j, u) =
      let purposes : q ≡ p = cc in
      let calls : then ≡ after = cc in
      let answers : y ≡ o = cc in
      same_heard p after o a b r s t (subst (λ (z : Option (QueueReply T)). Heard p after z b s) answers (subst (λ (z : QueueCall T). Heard p z y b s) calls (subst (λ (z : Purpose T W). Heard z then y b s) purposes u)))
  same_step (Working w) (Working v) d m n a b r s e h k =
      let same : v ≡ w = cc in
      same_work w d m n a b r s h (subst (λ (z : ListStep T W). WorkMakes NotesDeed z None (Some d) n b s) same k)
  same_step (Finished kept) to d m n a b r s e (h, i, j, k) l = absurd cc
  same_step at (Finished kept) d m n a b r s e l (h, i, j, k) = absurd cc
  same_step (Trying call p) (Working w) d m n a b r s e h k = absurd cc
  same_step (Working w) (Trying call p) d m n a b r s e h k = absurd cc

  -- ---- a step is a deed, or none

  abbrev pub IsNoted : {X : Type 0} → (Deed T W → X → X → Type 0) → Stage (QueueCall T) T W → X → X → Mark → Stage (QueueCall T) T W → Option (Reply T) → Type 0
  IsNoted did at s t m next r = ((d : Deed T W) × did d s t × Makes at (Some d) m next r) ⊎ ((t ≡ s) × Makes at None m next r)

  module _ {X : Type 0} (did : Deed T W → X → X → Type 0) where
    left_noted : (held : Option ListenerRef) (s t : X) → Leaves did held s t → ((d : Deed T W) × did d s t × Leaves NotesDeed held None (Some d)) ⊎ ((t ≡ s) × Leaves (NotesDeed {T = T} {W = W}) held None None)
    left_noted None s t e = inr (e, refl)
    left_noted (Some held) s t (names, h) = inl (_, h, (names, refl))

    work_noted : (w : ListStep T W) (s t : X) (m : Mark) (next : Stage (QueueCall T) T W) (r : Option (Reply T)) → WorkMakes did w s t m next r → IsNoted did (Working w) s t m next r
    work_noted (TellReceive e) s t m next r (names, h, k) = inl (_, h, (names, refl, k))
    work_noted (TellStreams e) s t m next r (names, h, k) = inl (_, h, (names, refl, k))
    work_noted (TellSend e) s t m next r (names, h, k) = inl (_, h, (names, refl, k))
    work_noted (TellSends n e) s t m next r (names, h, k) = inl (_, h, (names, refl, k))
    work_noted (TakeRoom n) s t m next r (turn, is, room, k) = inr (is, (turn, refl, room, k))
    work_noted (TellAll line c) s t m next r (names, h, k) = inl (_, h, (names, refl, k))
    work_noted (Insert w task) s t m next r (o, h, k) = inl (_, h, (o, refl, k))
    work_noted (Register w key task) s t m next r (o, h, k) = inl (_, h, (o, refl, k))
    work_noted (Leave e) s t m next r (h, k) = ⊎_elim (λ p. inl (p.0, p.1, (p.2, k))) (λ p. inr (p.0, (p.1, k))) (left_noted e.held s t h)
    work_noted (Lower side key) s t m next r (n, h, k) = inl (_, h, (n, refl, k))
    work_noted (Count side) s t m next r (n, h, k) = inl (_, h, (n, refl, k))
    work_noted (Load side making) s t m next r (n, h, k) = inl (_, h, (n, refl, k))
    work_noted (Raise side n making) s t m next r (b, h, k) = inl (_, h, (b, refl, k))

    pub step_noted : (at : Stage (QueueCall T) T W) (s t : X) (m : Mark) (next : Stage (QueueCall T) T W) (r : Option (Reply T)) → ChannelMakes did at s t m next r → IsNoted did at s t m next r
    step_noted (Trying call p) s t m next r (after, o, h, k, g) = inl (_, h, (after, o, refl, k, g))
    step_noted (Working w) s t m next r h = work_noted w s t m next r h
    step_noted (Finished kept) s t m next r (e, i, j, k) = inr (e, (refl, i, j, k))

  -- ---- where it stands

  abbrev pub in_room : ℕ → Stage (QueueCall T) T W
  in_room n = Trying (at_state (Asked ask.Pop)) (purpose.RecvMany (gathering n))

  turned_end : (turn : NextStep T W) (x : Reply T) (kept : _) (at : Stage (QueueCall T) T W) (r : Option (Reply T)) → turn ≡ Ends x kept → Takes turn at r → HasEnded at
  turned_end turn x kept at r e takes = (kept, (subst (λ (z : NextStep T W). Takes z at r) e takes).1)

  abbrev Rested : Stage (QueueCall T) T W → Stage (QueueCall T) T W → Type 0
  Rested v at = ((n : ℕ) × (v ≡ Working (TakeRoom (suc n))) × (unmarked at ≡ in_room n)) ⊎ HasEnded at

  rested_room : (n : ℕ) (turn : NextStep T W) (at : Stage (QueueCall T) T W) (r : Option (Reply T)) → TakesRoom n turn → Takes turn at r → Rested (Working (TakeRoom n)) at
  rested_room zero turn at r (inl e) takes = inr (turned_end turn _ _ at r e takes)
  rested_room (suc n) turn at r (inl e) takes =
      let so : Takes (room_next (suc n)) at r = subst (λ (z : NextStep T W). Takes z at r) e takes in
      inl (n, refl, ap (λ z. unmarked z) so.4 ∙ ap (λ (z : CallState T). Trying (at_state z) (purpose.RecvMany (gathering n))) so.2)
  rested_room n turn at r (inr (some, e)) takes = inr (turned_end turn _ _ at r e takes)

  rested_work : (w : ListStep T W) (at : Stage (QueueCall T) T W) (m : Mark) (r : Option (Reply T)) → WorkMakes NotesDeed w None None m at r → Rested (Working w) at
  rested_work (TellReceive e) at m r (names, h, k) = absurd cc
  rested_work (TellStreams e) at m r (names, h, k) = absurd cc
  rested_work (TellSend e) at m r (names, h, k) = absurd cc
  rested_work (TellSends n e) at m r (names, h, k) = absurd cc
  rested_work (TakeRoom n) at m r (turn, same, room, (e, takes)) = rested_room n turn at r room takes
  rested_work (TellAll line c) at m r (names, h, k) = absurd cc
  rested_work (Insert w task) at m r (x, h, k) = absurd cc
  rested_work (Register w key task) at m r (x, h, k) = absurd cc
  rested_work (Leave e) at m r (h, (k, (some, is))) = inr (_, is)
  rested_work (Lower side key) at m r (n, h, k) = absurd cc
  rested_work (Count side) at m r (n, h, k) = absurd cc
  rested_work (Load side making) at m r (n, h, k) = absurd cc
  rested_work (Raise side n making) at m r (x, h, k) = absurd cc

  -- a step that does nothing takes room, or ends the call
  pub rested : (v at : Stage (QueueCall T) T W) → NoDeed v at → Rested v at
  rested (Trying call p) at (m, r, (after, o, e, i, k)) = absurd cc
  rested (Working w) at (m, r, h) = rested_work w at m r h
  rested (Finished kept) at (m, r, (same, none, e, left)) = inr (kept, e)

  pub ended_still : (at next : Stage (QueueCall T) T W) (d : Deed T W) (m : Mark) (r : Option (Reply T)) → Makes at (Some d) m next r → HasEnded at → ⊥
  ended_still (Trying call p) next d m r h (kept, is) = cc
  ended_still (Working w) next d m r h (kept, is) = cc
  ended_still (Finished left) next d m r (e, i, j, k) (kept, is) = cc

  pub ended_rests : (at next : Stage (QueueCall T) T W) → NoDeed at next → HasEnded at → HasEnded next
  ended_rests (Trying call p) next h (kept, is) = absurd cc
  ended_rests (Working w) next h (kept, is) = absurd cc
  ended_rests (Finished left) next (m, r, (e, i, j, k)) ended = (left, j)

  -- what does a deed stands where the view shows, or has taken its room
  pub place : (v at next : Stage (QueueCall T) T W) (d : Deed T W) (m : Mark) (r : Option (Reply T)) → MayStand v at → Makes at (Some d) m next r
      → (unmarked at ≡ unmarked v) ⊎ ((n : ℕ) × (v ≡ Working (TakeRoom (suc n))) × (unmarked at ≡ in_room n))
  place v at next d m r (inl e) h = inl e
  place v at next d m r (inr rest) h = ⊎_elim (λ room. inr room) (λ ended. absurd (ended_still at next d m r h ended)) (rested v at rest)

  -- a call that has its room does a deed next
  pub in_room_acts : (n : ℕ) (at next : Stage (QueueCall T) T W) → unmarked at ≡ in_room n → NoDeed at next → ⊥
  in_room_acts n (Trying call p) next e (m, r, (after, o, i, j, k)) = absurd cc
  in_room_acts n (Working w) next e h = absurd cc
  in_room_acts n (Finished kept) next e h = absurd cc

  pub shown_work : (v : Stage (QueueCall T) T W) (w : ListStep T W) → unmarked (Working w) ≡ unmarked v → v ≡ Working w
  shown_work (Trying call p) w e = absurd cc
  shown_work (Working u) w e = sym e
  shown_work (Finished kept) w e = absurd cc

  seen : (v x : Stage (QueueCall T) T W) → MayStand v x → SeenAt v x
  seen v x (inl same) = (1, (v, refl, inl same))
  seen v x (inr rest) = (1, (v, refl, inr (inl rest)))

  -- of one view there is one stage, but for a mark, at which a call may do a deed
  pub one_stage : (s : Standing T W) (at to a b : Stage (QueueCall T) T W) (d e : Deed T W) → StandsAt s at → StandsAt s to → NextDeed at d a → NextDeed to e b → unmarked at ≡ unmarked to
  one_stage s at to a b d e (inl ended) k (m, r, h) g = absurd (ended_still at a d m r h ended)
  one_stage s at to a b d e k (inl ended) h (m, r, g) = absurd (ended_still to b e m r g ended)
  one_stage s at to a b d e (inr (v, is, stands)) (inr (u, are, stand)) h g =
      let same : u ≡ v = cc in
      one_place v at to a b d e (seen v at stands) (seen v to (subst (λ (z : Stage (QueueCall T) T W). MayStand z to) same stand)) h g

  no_step : (w : ListStep T W) (next : Stage (QueueCall T) T W) (call after : QueueCall T) (o : Option (QueueReply T)) (m : Mark) (r : Option (Reply T)) → WorkMakes NotesDeed w None (Some (queue_stepped call after o)) m next r → ⊥
  no_step (TellReceive e) next call after o m r (names, h, k) = cc
  no_step (TellStreams e) next call after o m r (names, h, k) = cc
  no_step (TellSend e) next call after o m r (names, h, k) = cc
  no_step (TellSends n e) next call after o m r (names, h, k) = cc
  no_step (TakeRoom n) next call after o m r (turn, h, room, k) = cc
  no_step (TellAll line c) next call after o m r (names, h, k) = cc
  no_step (Insert w task) next call after o m r (x, h, k) = cc
  no_step (Register w key task) next call after o m r (x, h, k) = cc
  no_step (Leave e) next call after o m r (h, k) = by e.held h where
    by : (held : Option ListenerRef) → Leaves (NotesDeed {T = T} {W = W}) held None (Some (queue_stepped call after o)) → ⊥
    by None h = cc
    by (Some held) (names, h) = cc
  no_step (Lower side key) next call after o m r (n, h, k) = cc
  no_step (Count side) next call after o m r (n, h, k) = cc
  no_step (Load side making) next call after o m r (n, h, k) = cc
  no_step (Raise side n making) next call after o m r (b, h, k) = cc

  -- only who tries does a step of the queue's call
  pub steps_at : (at next : Stage (QueueCall T) T W) (call after : QueueCall T) (o : Option (QueueReply T)) (m : Mark) (r : Option (Reply T)) → Makes at (Some (queue_stepped call after o)) m next r
      → (p : Purpose T W) × (at ≡ Trying call p)
  steps_at (Trying other p) next call after o m r (then, x, e, k, h) = let same : other ≡ call = cc in (p, ap (λ (z : QueueCall T). Trying z p) same)
  steps_at (Working w) next call after o m r h = absurd (no_step w next call after o m r h)
  steps_at (Finished kept) next call after o m r (e, i, j, k) = absurd cc

  pub trying_acts : (call : QueueCall T) (p : Purpose T W) → NextDeed (Trying call p) (queue_stepped call call None) (Trying call p)
  trying_acts call p = (mark_of_queue (mark_of call), None, (call, None, refl, refl, (refl, refl)))

  -- a view within a call of the queue knows its action, and what it was made for
  pub one_call : (s : Standing T W) (call other : QueueCall T) (p q : Purpose T W) → StandsAt s (Trying call p) → StandsAt s (Trying other q) → (other.state ≡ call.state) × (q ≡ p)
  one_call s call other p q h g =
      let e : unmarked (Trying other q) ≡ unmarked (Trying call p) = one_stage s (Trying other q) (Trying call p) _ _ _ _ g h (trying_acts other q) (trying_acts call p) in
      let calls : at_state other.state ≡ at_state call.state = cc in
      (ap (λ (z : QueueCall T). z.state) calls, cc)

  -- a call that has answered has ended
  taken_end : (turn : NextStep T W) (next : Stage (QueueCall T) T W) (x : Reply T) → Takes turn next (Some x) → HasEnded next
  taken_end (Tries a p) next x (call, starts, asks, none, is) = absurd cc
  taken_end (Works w) next x (none, is) = absurd cc
  taken_end (Ends r kept) next x (some, is) = (kept, is)

  heard_end : (p : Purpose T W) (after : QueueCall T) (o : Option (QueueReply T)) (next : Stage (QueueCall T) T W) (x : Reply T) → Heard p after o next (Some x) → HasEnded next
  heard_end p after None next x (is, none) = absurd cc
  heard_end p after (Some y) next x h = taken_end (answered_next p y) next x h

  work_end : (w : ListStep T W) (next : Stage (QueueCall T) T W) (x : Reply T) → WorkTurns T W Unbounded w next (Some x) → HasEnded next
  work_end w next x (inl (turn, on, takes)) = taken_end turn next x takes
  work_end w next x (inr (side, n, making, same, made, is)) = (_, is)

  pub answered_end : (at : Stage (QueueCall T) T W) (o : Option (Deed T W)) (m : Mark) (next : Stage (QueueCall T) T W) (x : Reply T) → Makes at o m next (Some x) → HasEnded next
  answered_end (Trying call p) o m next x (after, y, e, i, h) = heard_end p after y next x h
  answered_end (Working w) o m next x h = work_end w next x (work_turns T W Unbounded w o m next (Some x) h)
  answered_end (Finished kept) o m next x (e, i, j, k) = absurd cc

  pub kept_alike : (a b : Stage (QueueCall T) T W) → unmarked b ≡ unmarked a → kept_by b ≡ kept_by a
  kept_alike a b e = sym (bare b) ∙ (ap (λ (z : Stage (QueueCall T) T W). kept_by z) e ∙ bare a) where
    bare : (z : Stage (QueueCall T) T W) → kept_by (unmarked z) ≡ kept_by z
    bare (Trying call p) = refl
    bare (Working w) = refl
    bare (Finished kept) = refl
