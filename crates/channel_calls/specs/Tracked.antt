-- Cells that know where the call stands whose cells they are, as a view of a shared table's rule does, and that allow just its next deed, keep
-- what `ChannelCells` asks. It is proved here, and not beside the other proofs, since the laws of an impl can cite no proof of their own
-- crate.
use Rattle.std.specs.Prelude.{◌≡◌, ◌⊎◌, ℕ, zero, suc, Option, None, Some, refl}
use Rattle.std.proofs.Common.{inl, inr, sym, ap, ◌∙◌, subst}
use Rattle.concurrent_queue.specs.Replies.{IsAsking}
use Rattle.concurrent_queue.specs.declared.call.QueueAsk.TheVariants as ask
use Rattle.concurrent_queue.specs.declared.call.QueueMark.TheVariants as queue_mark
use Rattle.concurrent_queue.specs.declared.call.QueueReply.{QueueReply}
use Rattle.concurrent_queue.specs.declared.call.QueueReply.TheVariants.{Cap}
use Rattle.concurrent_queue.specs.declared.queue_call.CallState.{CallState}
use Rattle.concurrent_queue.specs.declared.queue_call.CallState.TheVariants.{Asked}
use Rattle.concurrent_queue.specs.declared.queue_call.QueueCall.{QueueCall}
use Rattle.channel_calls.specs.Answered.{answered_next}
use Rattle.channel_calls.specs.Deeds.{Deed, stepped}
use Rattle.channel_calls.specs.Several.{gathering}
use Rattle.channel_calls.specs.Stands.{NotesDeed, NextDeed, NoDeed, BeginsHere, MayGoOn, GoesOn, StaysOn}
use Rattle.channel_calls.specs.Turns.{nothing_kept, room_next, TakesRoom, inserted_next, registered_next, lowered_next, loaded_next, raised_next}
use Rattle.channel_calls.specs.Walks.{Takes, Heard, Leaves, WorkMakes}
use Rattle.channel_calls.specs.declared.mark.Mark.{Mark}
use Rattle.channel_calls.specs.declared.reply.Reply.{Reply}
use Rattle.channel_calls.specs.declared.stage.ListStep.{ListStep}
use Rattle.channel_calls.specs.declared.stage.ListStep.TheVariants.{TellReceive, TellStreams, TellSend, TellSends, TakeRoom, TellAll, Insert, Register, Leave, Lower, Count, Load, Raise}
use Rattle.channel_calls.specs.declared.stage.ListenerRef.{ListenerRef}
use Rattle.channel_calls.specs.declared.stage.NextStep.{NextStep}
use Rattle.channel_calls.specs.declared.stage.NextStep.TheVariants.{Tries, Works, Ends}
use Rattle.channel_calls.specs.declared.stage.Purpose.{Purpose}
use Rattle.channel_calls.specs.declared.stage.Purpose.TheVariants as purpose
use Rattle.channel_calls.specs.declared.stage.Returned.{Returned}
use Rattle.channel_calls.specs.declared.stage.Stage.{Stage}
use Rattle.channel_calls.specs.declared.stage.Stage.TheVariants.{Trying, Working, Finished}
use Rattle.event_listener.specs.declared.key.Key.{Key}
use Rattle.channel_calls.specs.declared.stage.WaitList.{WaitList}
use Rattle.channel_calls.specs.declared.stage.WaitList.TheVariants.{Sends, Receives, Streams, Closings}

-- a call of the queue at this state, which has made no mark
abbrev pub at_state : {T : Type 0} → CallState T → QueueCall T
at_state s = record { state = s; mark = queue_mark.Nothing }

module _ {T W : Type 0} where
  -- the stage but for the mark of the queue's call, by which no step goes: a turn leaves the mark of a new call open
  abbrev pub unmarked : Stage (QueueCall T) T W → Stage (QueueCall T) T W
  unmarked (Trying call p) = Trying (at_state call.state) p
  unmarked (Working w) = Working w
  unmarked (Finished kept) = Finished kept

  -- The question for the capacity touches no cell, though it is a step of the queue's call: the form answers it. Cells that go by a view
  -- can't change the view then, so they count it with the steps that do no deed.
  abbrev pub TouchesNothing : Deed T W → Type 0
  TouchesNothing d = (call after : QueueCall T) × (room : Option ℕ) × IsAsking call ask.Capacity × (d ≡ stepped call after (Some (Cap room)))

  -- the call goes on, and no cell sees it
  abbrev pub Unseen : Stage (QueueCall T) T W → Stage (QueueCall T) T W → Type 0
  Unseen a b = (unmarked b ≡ unmarked a) ⊎ (NoDeed a b ⊎ ((d : Deed T W) × TouchesNothing d × NextDeed a d b))

  abbrev pub SoManyUnseen : ℕ → Stage (QueueCall T) T W → Stage (QueueCall T) T W → Type 0
  SoManyUnseen zero a b = b ≡ a
  SoManyUnseen (suc n) a b = (c : Stage (QueueCall T) T W) × SoManyUnseen n a c × Unseen c b

  -- a call that was seen at v may be here
  abbrev pub SeenAt : Stage (QueueCall T) T W → Stage (QueueCall T) T W → Type 0
  SeenAt v at = (n : ℕ) × SoManyUnseen n v at

  -- a call that was seen at v does this deed next
  abbrev pub Can : Stage (QueueCall T) T W → Deed T W → Type 0
  Can v d = (at next : Stage (QueueCall T) T W) × SeenAt v at × NextDeed at d next

  -- and is seen at w then
  abbrev pub MovesOn : Stage (QueueCall T) T W → Deed T W → Stage (QueueCall T) T W → Type 0
  MovesOn v d w = (TouchesNothing d × (w ≡ v)) ⊎ ((at : Stage (QueueCall T) T W) × SeenAt v at × NextDeed at d w)

  -- ---- it does its next deed at one place alone

  -- where a call does its next deed that is seen here
  abbrev room_taken : ℕ → Stage (QueueCall T) T W
  room_taken zero = Finished nothing_kept
  room_taken (suc n) = Trying (at_state (Asked ask.Pop)) (purpose.RecvMany (gathering n))

  abbrev started : Stage (QueueCall T) T W → Stage (QueueCall T) T W
  started (Working (TakeRoom n)) = room_taken n
  started at = at

  abbrev HasEnded : Stage (QueueCall T) T W → Type 0
  HasEnded at = (kept : Returned T) × (at ≡ Finished kept)

  -- one turn leads to one stage, but for a mark
  same_taken : (turn : NextStep T W) (a b : Stage (QueueCall T) T W) (r s : Option (Reply T)) → Takes turn a r → Takes turn b s → unmarked b ≡ unmarked a
  same_taken (Tries x p) a b r s (call, starts, asks, none, e) (other, begins, asked, nil, f) =
      ap (λ z. unmarked z) f ∙ (ap (λ (z : CallState T). Trying (at_state z) p) (asked ∙ sym asks) ∙ sym (ap (λ z. unmarked z) e))
  same_taken (Works w) a b r s (none, e) (none_too, f) = ap (λ z. unmarked z) (f ∙ sym e)
  same_taken (Ends x kept) a b r s (some, e) (too, f) = ap (λ z. unmarked z) (f ∙ sym e)

  taken_as : (turn other : NextStep T W) (a b : Stage (QueueCall T) T W) (r s : Option (Reply T)) → other ≡ turn → Takes turn a r → Takes other b s → unmarked b ≡ unmarked a
  taken_as turn other a b r s e h k = same_taken turn a b r s h (subst (λ (z : NextStep T W). Takes z b s) e k)

  same_heard : (p : Purpose T W) (after : QueueCall T) (o : Option (QueueReply T)) (a b : Stage (QueueCall T) T W) (r s : Option (Reply T)) → Heard p after o a r → Heard p after o b s → unmarked b ≡ unmarked a
  same_heard p after None a b r s (e, none) (f, none_too) = ap (λ z. unmarked z) (f ∙ sym e)
  same_heard p after (Some x) a b r s h k = same_taken (answered_next p x) a b r s h k

  -- the question for the capacity is a call's last one
  capped_poll : (line : WaitList) (key : Option Key) (task : W) (room : Option ℕ) (b : Stage (QueueCall T) T W) (r : Option (Reply T)) → Takes (answered_next (purpose.Poll line key task) (Cap room)) b r → HasEnded b
  capped_poll Sends key task room b r h = (nothing_kept, h.1)
  capped_poll Receives key task room b r h = (nothing_kept, h.1)
  capped_poll Streams key task room b r h = (nothing_kept, h.1)
  capped_poll Closings key task room b r h = (nothing_kept, h.1)

  capped : (p : Purpose T W) (room : Option ℕ) (b : Stage (QueueCall T) T W) (r : Option (Reply T)) → Takes (answered_next p (Cap room)) b r → HasEnded b
  capped purpose.TrySend room b r h = (nothing_kept, h.1)
  capped purpose.ForceSend room b r h = (nothing_kept, h.1)
  capped purpose.TryRecv room b r h = (nothing_kept, h.1)
  capped (purpose.RecvMany g) room b r h = (nothing_kept, h.1)
  capped (purpose.Poll line key task) room b r h = capped_poll line key task room b r h
  capped (purpose.Close c) room b r h = (nothing_kept, h.1)
  capped purpose.Ask room b r h = (nothing_kept, h.1)
  capped purpose.IsTerminated room b r h = (nothing_kept, h.1)
  capped (purpose.Upgrade side) room b r h = (nothing_kept, h.1)

  held_off : (held : Option ListenerRef) (d : Deed T W) → Leaves NotesDeed held None (Some d) → (call after : QueueCall T) (o : Option (QueueReply T)) → d ≡ stepped call after o → ⊥
  held_off None d h call after o e = cc
  held_off (Some held) d (names, h) call after o e = cc

  -- no other deed is a step of the queue's call
  no_step : (w : ListStep T W) (b : Stage (QueueCall T) T W) (m : Mark) (r : Option (Reply T)) (d : Deed T W) → WorkMakes NotesDeed w None (Some d) m b r → (call after : QueueCall T) (o : Option (QueueReply T)) → d ≡ stepped call after o → ⊥
  no_step (TellReceive e) b m r d (names, h, k) call after o is = cc
  no_step (TellStreams e) b m r d (names, h, k) call after o is = cc
  no_step (TellSend e) b m r d (names, h, k) call after o is = cc
  no_step (TellSends n e) b m r d (names, h, k) call after o is = cc
  no_step (TakeRoom n) b m r d (turn, h, room, k) call after o is = cc
  no_step (TellAll line c) b m r d (names, h, k) call after o is = cc
  no_step (Insert w task) b m r d (x, h, k) call after o is = cc
  no_step (Register w key task) b m r d (x, h, k) call after o is = cc
  no_step (Leave e) b m r d (h, k) call after o is = held_off e.held d h call after o is
  no_step (Lower side key) b m r d (n, h, k) call after o is = cc
  no_step (Count side) b m r d (n, h, k) call after o is = cc
  no_step (Load side making) b m r d (n, h, k) call after o is = cc
  no_step (Raise side n making) b m r d (x, h, k) call after o is = cc

  room_asked : (a b : Stage (QueueCall T) T W) (d : Deed T W) → TouchesNothing d → NextDeed a d b → HasEnded b
  room_asked (Trying at p) b d (call, after, room, asks, is) (m, r, (then, o, e, marked, heard)) =
      let same : o ≡ Some (Cap room) = cc in
      capped p room b r (subst (λ (z : Option (QueueReply T)). Heard p then z b r) same heard)
  room_asked (Working w) b d (call, after, room, asks, is) (m, r, h) = absurd (no_step w b m r d h call after (Some (Cap room)) is)
  room_asked (Finished kept) b d none (m, r, (e, i, j, k)) = absurd cc

  -- room is taken, or there is none
  roomed : (n : ℕ) (turn : NextStep T W) (b : Stage (QueueCall T) T W) (r : Option (Reply T)) → TakesRoom n turn → Takes turn b r → (unmarked b ≡ unmarked (room_taken n)) ⊎ HasEnded b
  roomed zero turn b r (inl e) h = inr (nothing_kept, (subst (λ (z : NextStep T W). Takes z b r) e h).1)
  roomed (suc n) turn b r (inl e) h =
      let takes : Takes (room_next (suc n)) b r = subst (λ (z : NextStep T W). Takes z b r) e h in
      inl (ap (λ z. unmarked z) takes.4 ∙ ap (λ (z : CallState T). Trying (at_state z) (purpose.RecvMany (gathering n))) takes.2)
  roomed n turn b r (inr (some, e)) h = inr (nothing_kept, (subst (λ (z : NextStep T W). Takes z b r) e h).1)

  rested_work : (w : ListStep T W) (b : Stage (QueueCall T) T W) (m : Mark) (r : Option (Reply T)) → WorkMakes NotesDeed w None None m b r → (unmarked b ≡ unmarked (started (Working w))) ⊎ HasEnded b
  rested_work (TellReceive e) b m r (names, h, k) = absurd cc
  rested_work (TellStreams e) b m r (names, h, k) = absurd cc
  rested_work (TellSend e) b m r (names, h, k) = absurd cc
  rested_work (TellSends n e) b m r (names, h, k) = absurd cc
  rested_work (TakeRoom n) b m r (turn, same, room, (e, takes)) = roomed n turn b r room takes
  rested_work (TellAll line c) b m r (names, h, k) = absurd cc
  rested_work (Insert w task) b m r (x, h, k) = absurd cc
  rested_work (Register w key task) b m r (x, h, k) = absurd cc
  rested_work (Leave e) b m r (h, (k, (some, is))) = inr (_, is)
  rested_work (Lower side key) b m r (n, h, k) = absurd cc
  rested_work (Count side) b m r (n, h, k) = absurd cc
  rested_work (Load side making) b m r (n, h, k) = absurd cc
  rested_work (Raise side n making) b m r (x, h, k) = absurd cc

  rested : (a b : Stage (QueueCall T) T W) → NoDeed a b → (unmarked b ≡ unmarked (started a)) ⊎ HasEnded b
  rested (Trying call p) b (m, r, (after, o, e, i, k)) = absurd cc
  rested (Working w) b (m, r, h) = rested_work w b m r h
  rested (Finished kept) b (m, r, (same, none, e, left)) = inr (kept, e)

  abbrev Among : Stage (QueueCall T) T W → Stage (QueueCall T) T W → Type 0
  Among v at = (unmarked at ≡ unmarked v) ⊎ ((unmarked at ≡ unmarked (started v)) ⊎ HasEnded at)

  unseen_to : (a b : Stage (QueueCall T) T W) → Unseen a b → Among a b
  unseen_to a b (inl e) = inl e
  unseen_to a b (inr (inl h)) = inr (rested a b h)
  unseen_to a b (inr (inr (d, nothing, h))) = inr (inr (room_asked a b d nothing h))

  start_of : (a : Stage (QueueCall T) T W) → unmarked (started a) ≡ unmarked (started (unmarked a))
  start_of (Trying call p) = refl
  start_of (Working w) = refl
  start_of (Finished kept) = refl

  same_start : (a b : Stage (QueueCall T) T W) → unmarked a ≡ unmarked b → unmarked (started a) ≡ unmarked (started b)
  same_start a b e = start_of a ∙ (ap (λ z. unmarked (started z)) e ∙ sym (start_of b))

  room_twice : (n : ℕ) → started (room_taken n) ≡ room_taken n
  room_twice zero = refl
  room_twice (suc n) = refl

  work_twice : (w : ListStep T W) → started (started (Working w)) ≡ started (Working w)
  work_twice (TakeRoom n) = room_twice n
  work_twice w = refl

  start_twice : (a : Stage (QueueCall T) T W) → started (started a) ≡ started a
  start_twice (Trying call p) = refl
  start_twice (Working w) = work_twice w
  start_twice (Finished kept) = refl

  ended_so : (a b : Stage (QueueCall T) T W) → unmarked b ≡ unmarked a → HasEnded a → HasEnded b
  ended_so a (Trying call p) e (kept, is) = absurd cc
  ended_so a (Working w) e (kept, is) = absurd cc
  ended_so a (Finished left) e (kept, is) = (left, refl)

  among_on : (v c b : Stage (QueueCall T) T W) → Among v c → Among c b → Among v b
  among_on v c b (inl h) (inl e) = inl (e ∙ h)
  among_on v c b (inr (inl h)) (inl e) = inr (inl (e ∙ h))
  among_on v c b (inr (inr ended)) (inl e) = inr (inr (ended_so c b e ended))
  among_on v c b (inl h) (inr (inl e)) = inr (inl (e ∙ same_start c v h))
  among_on v c b (inr (inl h)) (inr (inl e)) = inr (inl (e ∙ (same_start c (started v) h ∙ ap (λ z. unmarked z) (start_twice v))))
  among_on v c b (inr (inr (kept, is))) (inr (inl e)) = inr (inr (ended_so (Finished kept) b (e ∙ ap (λ z. unmarked (started z)) is) (kept, refl)))
  among_on v c b h (inr (inr ended)) = inr (inr ended)

  among : (n : ℕ) (v at : Stage (QueueCall T) T W) → SoManyUnseen n v at → Among v at
  among zero v at e = inl (ap (λ z. unmarked z) e)
  among (suc n) v at (c, path, step) = among_on v c at (among n v c path) (unseen_to c at step)

  -- a call that does a deed has its room, and has not answered
  work_started : (w : ListStep T W) (d : Deed T W) (m : Mark) (b : Stage (QueueCall T) T W) (r : Option (Reply T)) → WorkMakes NotesDeed w None (Some d) m b r → started (Working w) ≡ Working w
  work_started (TakeRoom n) d m b r (turn, h, room, k) = absurd cc
  work_started w d m b r h = refl

  has_started : (at b : Stage (QueueCall T) T W) (d : Deed T W) → NextDeed at d b → started at ≡ at
  has_started (Trying call p) b d h = refl
  has_started (Working w) b d (m, r, h) = work_started w d m b r h
  has_started (Finished kept) b d h = refl

  has_not_ended : (at b : Stage (QueueCall T) T W) (d : Deed T W) → NextDeed at d b → HasEnded at → ⊥
  has_not_ended (Trying call p) b d h (kept, is) = cc
  has_not_ended (Working w) b d h (kept, is) = cc
  has_not_ended (Finished left) b d (m, r, (e, i, j, k)) (kept, is) = cc

  at_start : (v at b : Stage (QueueCall T) T W) (d : Deed T W) → Among v at → NextDeed at d b → unmarked at ≡ unmarked (started v)
  at_start v at b d (inl e) h = ap (λ z. unmarked z) (sym (has_started at b d h)) ∙ same_start at v e
  at_start v at b d (inr (inl e)) h = e
  at_start v at b d (inr (inr ended)) h = absurd (has_not_ended at b d h ended)

  -- ---- where a deed leads

  same_work : (w : ListStep T W) (d : Deed T W) (m o : Mark) (a b : Stage (QueueCall T) T W) (r s : Option (Reply T)) → WorkMakes NotesDeed w None (Some d) m a r → WorkMakes NotesDeed w None (Some d) o b s → unmarked b ≡ unmarked a
  same_work (TellReceive e) d m o a b r s (x, h, (i, t)) (y, k, (j, u)) = ap (λ z. unmarked z) (u.1 ∙ sym t.1)
  same_work (TellStreams e) d m o a b r s (x, h, (i, t)) (y, k, (j, u)) = same_taken _ a b r s t u
  same_work (TellSend e) d m o a b r s (x, h, (i, t)) (y, k, (j, u)) = same_taken _ a b r s t u
  same_work (TellSends n e) d m o a b r s (x, h, (i, t)) (y, k, (j, u)) = same_taken _ a b r s t u
  same_work (TakeRoom n) d m o a b r s (x, h, i, t) (y, k, j, u) = absurd cc
  same_work (TellAll line c) d m o a b r s (x, h, (i, t)) (y, k, (j, u)) = same_taken _ a b r s t u
  same_work (Insert w task) d m o a b r s (x, h, (i, t)) (y, k, (j, u)) = let e : y ≡ x = cc in taken_as _ _ a b r s (ap (λ z. inserted_next w task z) e) t u
  same_work (Register w key task) d m o a b r s (x, h, (i, t)) (y, k, (j, u)) = let e : y ≡ x = cc in taken_as _ _ a b r s (ap (λ z. registered_next w key z) e) t u
  same_work (Leave e) d m o a b r s (h, (i, t)) (k, (j, u)) = ap (λ z. unmarked z) (u.1 ∙ sym t.1)
  same_work (Lower side key) d m o a b r s (x, h, (i, t)) (y, k, (j, u)) = let e : y ≡ x = cc in taken_as _ _ a b r s (ap (λ z. lowered_next side key z) e) t u
  same_work (Count side) d m o a b r s (x, h, (i, t)) (y, k, (j, u)) = ap (λ z. unmarked z) (u.1 ∙ sym t.1)
  same_work (Load side making) d m o a b r s (x, h, (i, t)) (y, k, (j, u)) = let e : y ≡ x = cc in taken_as _ _ a b r s (ap (λ z. loaded_next side making z) e) t u
  same_work (Raise side n making) d m o a b r s (x, h, (i, t)) (y, k, (j, u)) = let e : y ≡ x = cc in taken_as _ _ a b r s (ap (λ z. raised_next side making z) e) t u

  same_next : (at to : Stage (QueueCall T) T W) (d : Deed T W) (a b : Stage (QueueCall T) T W) → unmarked at ≡ unmarked to → NextDeed at d a → NextDeed to d b → unmarked b ≡ unmarked a
  same_next (Trying call p) (Trying other q) d a b e (m, r, (after, o, h, i, t)) (n, s, (then, y, k, j, u)) =
      let purposes : q ≡ p = cc in
      let calls : then ≡ after = cc in
      let answers : y ≡ o = cc in
      same_heard p after o a b r s t (subst (λ (z : Option (QueueReply T)). Heard p after z b s) answers (subst (λ (z : QueueCall T). Heard p z y b s) calls (subst (λ (z : Purpose T W). Heard z then y b s) purposes u)))
  same_next (Working w) (Working v) d a b e (m, r, h) (n, s, k) =
      let same : v ≡ w = cc in
      same_work w d m n a b r s h (subst (λ (z : ListStep T W). WorkMakes NotesDeed z None (Some d) n b s) same k)
  same_next (Finished kept) to d a b e (m, r, (h, i, j, k)) l = absurd cc
  same_next at (Finished kept) d a b e l (m, r, (h, i, j, k)) = absurd cc
  same_next (Trying call p) (Working w) d a b e h k = absurd cc
  same_next (Working w) (Trying call p) d a b e h k = absurd cc

  -- the stage at which a call that was seen here does a deed is unique, but for a mark
  pub one_place : (v at to a b : Stage (QueueCall T) T W) (d e : Deed T W) → SeenAt v at → SeenAt v to → NextDeed at d a → NextDeed to e b → unmarked at ≡ unmarked to
  one_place v at to a b d e (n, path) (k, way) h j = at_start v at a d (among n v at path) h ∙ sym (at_start v to b e (among k v to way) j)

  -- so its deed leads to where it is seen then
  led : (v w at next : Stage (QueueCall T) T W) (d : Deed T W) → SeenAt v at → NextDeed at d next → MovesOn v d w → SeenAt w next
  led v w at next d (n, path) h (inl (nothing, same)) =
      subst (λ (z : Stage (QueueCall T) T W). SeenAt z next) (sym same) (suc n, (at, path, inr (inr (d, nothing, h))))
  led v w at next d seen h (inr (to, there, h')) =
      (1, (w, refl, inl (same_next to at d w next (one_place v to at w next d d there seen h' h) h' h)))

module _ {T W S : Type 0} (view : S → Stage (QueueCall T) T W) where
  abbrev pub StandsAt : Stage (QueueCall T) T W → S → Type 0
  StandsAt at s = SeenAt (view s) at

  -- where each deed that the call can do may be done
  pub tracked_ready : (may : Deed T W → S → Type 0) → ((s : S) (d : Deed T W) → Can (view s) d → may d s) → MayGoOn StandsAt may
  tracked_ready may lets at next s d seen h = lets s d (at, next, seen, h)

  -- where each deed that is done moves it on
  pub tracked_leads : (did : Deed T W → S → S → Type 0) → ((s t : S) (d : Deed T W) → did d s t → MovesOn (view s) d (view t)) → GoesOn StandsAt did
  tracked_leads did moves at next s t d seen made h = led (view s) (view t) at next d seen h (moves s t d made)

  -- a call that is seen where it begins may be wherever its first turn leads
  pub tracked_begins : (turn : NextStep T W) (s : S) → Takes turn (view s) None → BeginsHere StandsAt turn s
  tracked_begins turn s h at k = (1, (view s, refl, inl (same_taken turn (view s) at None None h k)))

  pub tracked_rests : StaysOn StandsAt
  tracked_rests at next s (n, path) h = (suc n, (at, path, inr (inl h)))

-- of the stages themselves: cells that allow just what a call does next, and do it, keep what `ChannelCells` requires; a party that is seen
-- where a call begins may begin it; and what comes next is one step of one stage
abbrev pub CallsKeepWhatCellsAsk : Type 0 → Type 0 → Type 0
CallsKeepWhatCellsAsk T W =
    let seen : Stage (QueueCall T) T W → Stage (QueueCall T) T W = λ v. v in
    MayGoOn (StandsAt seen) (λ (d : Deed T W) (v : Stage (QueueCall T) T W). Can v d)
    × GoesOn (StandsAt seen) (λ (d : Deed T W) (v w : Stage (QueueCall T) T W). MovesOn v d w)
    × StaysOn (StandsAt seen)
    × ((turn : NextStep T W) (v : Stage (QueueCall T) T W) → Takes turn v None → BeginsHere (StandsAt seen) turn v)
    × ((v at to a b : Stage (QueueCall T) T W) (d e : Deed T W) → SeenAt v at → SeenAt v to → NextDeed at d a → NextDeed to e b → unmarked at ≡ unmarked to)
