-- Each step of a call leaves with its seat what the call then has in hand.
use Rattle.std.proofs.Common.{◌≡◌, ◌≢◌, ◌⊎◌, inl, inr, ⊎_elim, ℕ, zero, suc, ◌==◌, nat_lt, Bool, true, false, List, [], ◌∷◌, if◌then◌else◌, option_to_list, refl, sym, ap, ◌∙◌, subst}
use Rattle.std.specs.Prelude.{Option, None, Some, Result, Ok, Err}
use Rattle.concurrent_queue.specs.declared.call.QueueAsk.TheVariants as queue_ask
use Rattle.concurrent_queue.specs.declared.call.QueueReply.{QueueReply}
use Rattle.concurrent_queue.specs.declared.call.QueueReply.TheVariants.{Push, Force, Pop, Close, Flag, Count, Cap}
use Rattle.concurrent_queue.specs.declared.cells.QueueForm.{QueueForm}
use Rattle.concurrent_queue.specs.declared.error.ForcePushError.TheVariants as force_error
use Rattle.concurrent_queue.specs.declared.error.PopError.TheVariants as pop_error
use Rattle.concurrent_queue.specs.declared.error.PushError.TheVariants as push_error
use Rattle.concurrent_queue.specs.declared.queue_call.QueueCall.{QueueCall}
use Rattle.event_listener.specs.declared.error.ListenError.{ListenError}
use Rattle.event_listener.specs.declared.key.Key.{Key}
use Rattle.channel_calls.specs.Answered.{lost, answered_next, gathered_next, short_next}
use Rattle.channel_calls.specs.Asks.{first, kept_by, asks_listener, begins}
use Rattle.channel_calls.specs.Deeds.{Deed, inserted, registered, taken_off, told, counted, lowered, raised}
use Rattle.channel_calls.specs.Several.{Gathered, with_one}
use Rattle.channel_calls.specs.Turns.{most, line_of, leaving, dropper, closer_ending, ends_by, refused_next, told_all_next, TakesRoom, room_next, lowered_next, counted_next, loaded_next, raised_next, inserted_next, registered_next, pends_by, again}
use Rattle.channel_calls.specs.Walks.{Takes, Heard, Leaves, WorkMakes, ChannelMakes}
use Rattle.channel_calls.specs.declared.ask.ChannelAsk.{ChannelAsk}
use Rattle.channel_calls.specs.declared.ask.ChannelAsk.TheVariants as ask
use Rattle.channel_calls.specs.declared.ask.Loan.{Loan}
use Rattle.channel_calls.specs.declared.error.TryRecvError.{TryRecvError}
use Rattle.channel_calls.specs.declared.mark.Mark.{Mark}
use Rattle.channel_calls.specs.declared.reply.Reply.{Reply}
use Rattle.channel_calls.specs.declared.reply.Reply.TheVariants as reply
use Rattle.channel_calls.specs.declared.stage.Closer.{Closer}
use Rattle.channel_calls.specs.declared.stage.Closer.TheVariants as closer
use Rattle.channel_calls.specs.declared.stage.Ending.{Ending}
use Rattle.channel_calls.specs.declared.stage.ListenerRef.{ListenerRef}
use Rattle.channel_calls.specs.declared.stage.ListStep.{ListStep}
use Rattle.channel_calls.specs.declared.stage.ListStep.TheVariants as work
use Rattle.channel_calls.specs.declared.stage.Making.{Making}
use Rattle.channel_calls.specs.declared.stage.Making.TheVariants.{Clone, Upgrade}
use Rattle.channel_calls.specs.declared.stage.NextStep.{NextStep}
use Rattle.channel_calls.specs.declared.stage.NextStep.TheVariants.{Tries, Works, Ends}
use Rattle.channel_calls.specs.declared.stage.Purpose.{Purpose}
use Rattle.channel_calls.specs.declared.stage.Purpose.TheVariants as purpose
use Rattle.channel_calls.specs.declared.stage.Side.{Side}
use Rattle.channel_calls.specs.declared.stage.Stage.{Stage}
use Rattle.channel_calls.specs.declared.stage.Stage.TheVariants.{Trying, Working, Finished}
use Rattle.channel_calls.specs.declared.stage.WaitList.{WaitList}
use Rattle.channel_calls.specs.declared.stage.WaitList.TheVariants.{Sends, Receives, Streams, Closings}
use Rattle.channel_calls.specs.declared.stage.Waiting.{Waiting}
use Rattle.channel_calls.specs.declared.stage.Waiting.TheVariants as waiting
use Rattle.channel_steps.specs.every_run.Bridge.{Act, on_wait_lists, on_nothing, Notes}
use Rattle.channel_history.specs.InHand.{listed_on, by_closer, kept_on, lent_by, by_purpose, by_work, in_hand, in_hand_after, ActLeaves, IsOfKind, IsLost, handles_lent, handles_at, handles_next, handles_made, handles_after, ActLeavesHandles, CallsHoldTheirOwn}
use Rattle.channel_history.specs.Keeps.{LeavesHandles, LeavesListeners}

some_listener : (ls : List ListenerRef) → (ls ≡ []) ⊎ (ls ≢ [])
some_listener [] = inl refl
some_listener (x ∷ xs) = inr (λ e. absurd (cc))

module _ (T : Type 0) where
  closer_holds : (c : Closer) (b : Bool) → option_to_list (closer_ending {T = T} c b).held ≡ by_closer c
  closer_holds closer.Call b = refl
  closer_holds closer.Sender b = refl
  closer_holds (closer.Receiver key) b = refl

module _ (T W : Type 0) where
  -- ---- a turn

  abbrev Own : Type 0
  Own = List ListenerRef × List Side

  abbrev own_after : Stage (QueueCall T) T W → Option (Reply T) → Own
  own_after next answer = (in_hand_after next answer, handles_next next answer)

  abbrev own_turn : NextStep T W → Own
  own_turn (Tries x p) = (by_purpose p, [])
  own_turn (Works w) = (by_work w, handles_at (Working w))
  own_turn (Ends r kept) = (kept_on r kept.key, [])

  taken : (turn : NextStep T W) (next : Stage (QueueCall T) T W) (answer : Option (Reply T)) → Takes turn next answer → own_after next answer ≡ own_turn turn
  taken (Tries x p) next answer (call, starts, asks, none, is) =
      ap (λ (r : Option (Reply T)). own_after next r) none ∙ ap (λ (s : Stage (QueueCall T) T W). own_after s None) is
  taken (Works w) next answer (none, is) = ap (λ (r : Option (Reply T)). own_after next r) none ∙ ap (λ (s : Stage (QueueCall T) T W). own_after s None) is
  taken (Ends r kept) next answer (some, is) =
      ap (λ (x : Option (Reply T)). own_after next x) some ∙ ap (λ (s : Stage (QueueCall T) T W). own_after s (Some r)) is

  ends_hold : (e : Ending T) → own_turn (ends_by e) ≡ (option_to_list e.held, [])
  ends_hold e = by e.held refl where
    by : (o : Option ListenerRef) → e.held ≡ o → own_turn (elim o [ None ↦ Ends e.reply (leaving None e.message) | Some held ↦ Works (work.Leave e) ]) ≡ (option_to_list o, [])
    by None is = refl
    by (Some held) is = ap (λ (o : Option ListenerRef). (option_to_list o, [])) is

  closing_ends : (c : Closer) (b : Bool) → own_turn (ends_by (closer_ending c b)) ≡ (by_closer c, [])
  closing_ends c b = ends_hold (closer_ending c b) ∙ ap (λ (l : List ListenerRef). (l, [])) (closer_holds T c b)

  refused_hold : (w : Waiting T) (key : Option Key) (task : W) → own_turn (refused_next w key task) ≡ (listed_on (line_of w) key, [])
  refused_hold w None task = refl
  refused_hold w (Some key) task = refl

  -- ---- after an answer of the queue

  gathers_none : (r : Result (Gathered T) (List T)) → own_turn (gathered_next r) ≡ ([], [])
  gathers_none (Ok g) = refl
  gathers_none (Err vs) = refl

  short_none : (vs : List T) (e : TryRecvError) → own_turn (short_next vs e) ≡ ([], [])
  short_none [] e = refl
  short_none (v ∷ vs) e = refl

  abbrev Heeds : Purpose T W → QueueReply T → Type 0
  Heeds p x = (own_turn (answered_next p x) ≡ (by_purpose p, [])) ⊎ ((answered_next p x ≡ lost) × (IsOfKind p x → ⊥))

  polled : (line : WaitList) (key : Option Key) (task : W) (x : QueueReply T) → Heeds (purpose.Poll line key task) x
  polled Sends key task (Push (Ok u)) = inl refl
  polled Sends key task (Push (Err (push_error.Full m))) = inl (refused_hold (waiting.Send m) key task)
  polled Sends key task (Push (Err (push_error.Closed m))) = inl (ends_hold _)
  polled Sends key task (Push (Err (push_error.NoMemory m))) = inl (ends_hold _)
  polled Sends key task x = inr (refl, λ k. k)
  polled Receives key task (Pop (Ok m)) = inl refl
  polled Receives key task (Pop (Err pop_error.Empty)) = inl (refused_hold waiting.Receive key task)
  polled Receives key task (Pop (Err pop_error.Closed)) = inl (ends_hold _)
  polled Receives key task x = inr (refl, λ k. k)
  polled Streams key task (Pop (Ok m)) = inl refl
  polled Streams key task (Pop (Err pop_error.Empty)) = inl (refused_hold waiting.Stream key task)
  polled Streams key task (Pop (Err pop_error.Closed)) = inl (ends_hold _)
  polled Streams key task x = inr (refl, λ k. k)
  polled Closings key task (Flag true) = inl (ends_hold _)
  polled Closings key task (Flag false) = inl (refused_hold waiting.Closing key task)
  polled Closings key task x = inr (refl, λ k. k)

  heeds : (p : Purpose T W) (x : QueueReply T) → Heeds p x
  heeds purpose.TrySend (Push (Ok u)) = inl refl
  heeds purpose.TrySend (Push (Err (push_error.Full m))) = inl refl
  heeds purpose.TrySend (Push (Err (push_error.Closed m))) = inl refl
  heeds purpose.TrySend (Push (Err (push_error.NoMemory m))) = inl refl
  heeds purpose.TrySend x = inl refl
  heeds purpose.ForceSend (Force (Ok d)) = inl refl
  heeds purpose.ForceSend (Force (Err (force_error.Closed m))) = inl refl
  heeds purpose.ForceSend (Force (Err (force_error.NoMemory m))) = inl refl
  heeds purpose.ForceSend x = inl refl
  heeds purpose.TryRecv (Pop (Ok m)) = inl refl
  heeds purpose.TryRecv (Pop (Err pop_error.Empty)) = inl refl
  heeds purpose.TryRecv (Pop (Err pop_error.Closed)) = inl refl
  heeds purpose.TryRecv x = inl refl
  heeds (purpose.RecvMany g) (Pop (Ok m)) = inl (gathers_none (with_one g m))
  heeds (purpose.RecvMany g) (Pop (Err pop_error.Empty)) = inl (short_none g.taken _)
  heeds (purpose.RecvMany g) (Pop (Err pop_error.Closed)) = inl (short_none g.taken _)
  heeds (purpose.RecvMany g) x = inl refl
  heeds (purpose.Poll line key task) x = polled line key task x
  heeds (purpose.Close c) (Close true) = inl refl
  heeds (purpose.Close c) (Close false) = inl (closing_ends c false)
  heeds (purpose.Close c) x = inr (refl, λ k. k)
  heeds purpose.Ask (Flag b) = inl refl
  heeds purpose.Ask (Count n) = inl refl
  heeds purpose.Ask (Cap c) = inl refl
  heeds purpose.Ask x = inl refl
  heeds purpose.IsTerminated (Flag true) = inl refl
  heeds purpose.IsTerminated (Flag false) = inl refl
  heeds purpose.IsTerminated x = inl refl
  heeds (purpose.Upgrade side) (Flag true) = inl refl
  heeds (purpose.Upgrade side) (Flag false) = inl refl
  heeds (purpose.Upgrade side) x = inl refl

  abbrev HearsSo : Purpose T W → QueueCall T → Stage (QueueCall T) T W → Option (Reply T) → Type 0
  HearsSo p call next answer = ((in_hand_after next answer ≡ by_purpose p) ⊎ IsLost (Trying call p) answer) × (handles_next next answer ≡ [])

  heard : (p : Purpose T W) (call after : QueueCall T) (o : Option (QueueReply T)) (next : Stage (QueueCall T) T W) (answer : Option (Reply T)) → Heard p after o next answer → HearsSo p call next answer
  heard p call after None next answer h =
      let e = ap (λ (r : Option (Reply T)). own_after next r) h.1 ∙ ap (λ (s : Stage (QueueCall T) T W). own_after s None) h.0 in
      (inl (ap (λ (x : Own). x.0) e), ap (λ (x : Own). x.1) e)
  heard p call after (Some x) next answer h =
      ⊎_elim (λ e. so (taken (answered_next p x) next answer h ∙ e)) (λ e. gone e.0 (some_listener (by_purpose p))) (heeds p x)
    where
      so : own_after next answer ≡ (by_purpose p, []) → HearsSo p call next answer
      so e = (inl (ap (λ (y : Own). y.0) e), ap (λ (y : Own). y.1) e)

      gone : answered_next p x ≡ lost → (by_purpose p ≡ []) ⊎ (by_purpose p ≢ []) → HearsSo p call next answer
      gone e none = (by none, ap (λ (y : Own). y.1) left) where
        left : own_after next answer ≡ ([], [])
        left = taken (answered_next p x) next answer h ∙ ap (λ (t : NextStep T W). own_turn t) e

        by : (by_purpose p ≡ []) ⊎ (by_purpose p ≢ []) → (in_hand_after next answer ≡ by_purpose p) ⊎ IsLost (Trying call p) answer
        by (inl none) = inl (ap (λ (y : Own). y.0) left ∙ sym none)
        by (inr some) = inr ((subst (λ (t : NextStep T W). Takes t next answer) e h).0, some)

  of_kind : (p : Purpose T W) (x : QueueReply T) (next : Stage (QueueCall T) T W) (answer : Option (Reply T)) → Takes (answered_next p x) next answer → IsOfKind p x → in_hand_after next answer ≡ by_purpose p
  of_kind p x next answer takes kind =
      ap (λ (y : Own). y.0) (taken (answered_next p x) next answer takes) ∙ ⊎_elim (λ e. ap (λ (y : Own). y.0) e) (λ e. absurd (e.1 kind)) (heeds p x)

  -- ---- a step on a list or a count

  -- of the handles, where none is made
  abbrev Leave : Act T W → Own → Own → Type 0
  Leave o has left = ActLeaves o has.0 left.0 × ActLeavesHandles o has.1 left.1

  acts : (d : Deed T W) (o : Act T W) (turn : NextStep T W) (next : Stage (QueueCall T) T W) (answer : Option (Reply T)) (has : Own)
      → o ≡ on_wait_lists d → Takes turn next answer → LeavesListeners d has.0 (own_turn turn).0 → LeavesHandles d has.1 (own_turn turn).1 → Leave o has (own_after next answer)
  acts d o turn next answer has is takes h k =
      subst (λ (l : Own). Leave o has l) (sym (taken turn next answer takes)) (subst (λ (x : Act T W). Leave x has (own_turn turn)) (sym is) (h, k))

  idles : (o : Act T W) (turn : NextStep T W) (next : Stage (QueueCall T) T W) (answer : Option (Reply T)) (has : Own)
      → o ≡ on_nothing → Takes turn next answer → own_turn turn ≡ has → Leave o has (own_after next answer)
  idles o turn next answer has is takes h =
      let e = taken turn next answer takes ∙ h in
      subst (λ (x : Act T W). Leave x has (own_after next answer)) (sym is) (ap (λ (x : Own). x.0) e, ap (λ (x : Own). x.1) e)

  all_told : (line : WaitList) (c : Closer) → own_turn (told_all_next line c) ≡ (by_closer c, [])
  all_told Sends c = refl
  all_told Receives c = refl
  all_told Streams c = refl
  all_told Closings c = closing_ends c true

  room_none : (n : ℕ) (turn : NextStep T W) → TakesRoom n turn → own_turn turn ≡ ([], [])
  room_none n turn (inl e) = ap (λ (t : NextStep T W). own_turn t) e ∙ by n where
    by : (k : ℕ) → own_turn (room_next k) ≡ ([], [])
    by zero = refl
    by (suc k) = refl
  room_none n turn (inr e) = ap (λ (t : NextStep T W). own_turn t) e.1

  lowered_holds : (side : Side) (key : Option Key) (n : ℕ) → own_turn (lowered_next side key n) ≡ (by_closer (dropper side key), [])
  lowered_holds side key n = by (n == 1) where
    by : (b : Bool) → own_turn (if b then Tries queue_ask.Close (purpose.Close (dropper side key)) else ends_by (closer_ending (dropper side key) false)) ≡ (by_closer (dropper side key), [])
    by true = refl
    by false = closing_ends (dropper side key) false

  counted_none : (side : Side) (making : Making) (n : ℕ) → own_turn (counted_next side making n) ≡ ([], [])
  counted_none side making n = by (nat_lt most n) where
    by : (b : Bool) → own_turn (if b then Ends reply.TooMany (leaving None None) else Works (work.Raise side n making)) ≡ ([], [])
    by true = refl
    by false = refl

  loaded_none : (side : Side) (making : Making) (n : ℕ) → own_turn (loaded_next side making n) ≡ ([], [])
  loaded_none side Clone n = counted_none side Clone n
  loaded_none side Upgrade n = by (n == 0) where
    by : (b : Bool) → own_turn (if b then Ends reply.NotMade (leaving None None) else counted_next side Upgrade n) ≡ ([], [])
    by true = refl
    by false = counted_none side Upgrade n

  inserts : (w : Waiting T) (task : W) (r : Result Key ListenError)
      → LeavesListeners {T = T} {W = W} (inserted (line_of w) r) [] (own_turn (inserted_next w task r)).0 × ((own_turn (inserted_next w task r)).1 ≡ [])
  inserts w task (Ok key) = (refl, refl)
  inserts w task (Err e) = (refl, refl)

  pends : (w : Waiting T) (key : Key) → (own_turn (pends_by w key)).0 ≡ listed_on (line_of w) (Some key)
  pends (waiting.Send m) key = refl
  pends waiting.Receive key = refl
  pends waiting.Stream key = refl
  pends waiting.Closing key = refl

  registers : (w : Waiting T) (key : Key) (task : W) (r : Option W)
      → LeavesListeners {T = T} {W = W} (registered (line_of w) key task r) (listed_on (line_of w) (Some key)) (own_turn (registered_next w key r)).0 × ((own_turn (registered_next w key r)).1 ≡ [])
  registers w key task None = ((pends w key, [], refl), refl)
  registers w key task (Some back) = (refl, refl)

  gives_back : (form : QueueForm) (o : Act T W) (next : Stage (QueueCall T) T W) (answer : Option (Reply T)) (r : Reply T) (message : Option T) → Takes {W = W} (Ends r (leaving None message)) next answer
      → (held : Option ListenerRef) → Leaves (Notes form) held on_nothing o → Leave o (option_to_list held, []) (own_after next answer)
  gives_back form o next answer r message takes None is = idles o (Ends r (leaving None message)) next answer ([], []) is takes refl
  gives_back form o next answer r message takes (Some held) (names, is) =
      acts (taken_off held.line held.key names) o (Ends r (leaving None message)) next answer (held ∷ [], []) is takes refl refl

  -- a count that was raised leaves a handle, and one that was not, nothing
  makes : (side : Side) (n : ℕ) (making : Making) (b : Bool) (o : Act T W) (next : Stage (QueueCall T) T W) (answer : Option (Reply T)) → o ≡ on_wait_lists (raised side n b) → Takes (raised_next side making b) next answer
      → ActLeaves o [] (in_hand_after next answer) × ActLeavesHandles o [] (handles_made side next answer)
  makes side n making true o next answer is (some, at) =
      subst (λ (x : Act T W). ActLeaves x [] (in_hand_after next answer) × ActLeavesHandles x [] (handles_made side next answer)) (sym is)
      (subst (λ (x : Option (Reply T)). (in_hand_after next x ≡ []) × (handles_made side next x ≡ side ∷ [])) (sym some) (ap (λ (s : Stage (QueueCall T) T W). kept_on {T = T} reply.Made (kept_by s).key) at, refl))
  makes side n making false o next answer is (none, at) =
      subst (λ (x : Act T W). ActLeaves x [] (in_hand_after next answer) × ActLeavesHandles x [] (handles_made side next answer)) (sym is)
      (subst (λ (x : Option (Reply T)). (in_hand_after next x ≡ []) × (handles_made side next x ≡ [])) (sym none)
      (ap (λ (s : Stage (QueueCall T) T W). in_hand s) at, ap (λ (s : Stage (QueueCall T) T W). handles_at s) at))

  -- what it had in hand, where it does so, and no handle
  keeps : (d : Deed T W) (o : Act T W) (turn : NextStep T W) (next : Stage (QueueCall T) T W) (answer : Option (Reply T)) (has : List ListenerRef) → o ≡ on_wait_lists d → Takes turn next answer
      → ((l : List ListenerRef) → l ≡ has → LeavesListeners d has l) → ((l : List Side) → l ≡ [] → LeavesHandles d [] l) → own_turn turn ≡ (has, []) → Leave o (has, []) (own_after next answer)
  keeps d o turn next answer has is takes f g e = acts d o turn next answer (has, []) is takes (f _ (ap (λ (x : Own). x.0) e)) (g _ (ap (λ (x : Own). x.1) e))

  works : (form : QueueForm) (w : ListStep T W) (o : Act T W) (m : Mark) (next : Stage (QueueCall T) T W) (answer : Option (Reply T)) → WorkMakes (Notes form) w on_nothing o m next answer
      → ActLeaves o (by_work w) (in_hand_after next answer) × ActLeavesHandles o (handles_at (Working w)) (handles_after (Working w) next answer)
  works form (work.TellReceive e) o m next answer (names, is, marked) =
      acts (told Receives _ names) o (Works (work.TellStreams e)) next answer (option_to_list e.held, []) is marked.1 refl refl
  works form (work.TellStreams e) o m next answer (names, is, marked) = keeps (told Streams _ names) o (ends_by e) next answer _ is marked.1 (λ l h. h) (λ l h. h) (ends_hold e)
  works form (work.TellSend e) o m next answer (names, is, marked) = keeps (told Sends _ names) o (ends_by e) next answer _ is marked.1 (λ l h. h) (λ l h. h) (ends_hold e)
  works form (work.TellSends n e) o m next answer (names, is, marked) = keeps (told Sends _ names) o (ends_by e) next answer _ is marked.1 (λ l h. h) (λ l h. h) (ends_hold e)
  works form (work.TakeRoom n) o m next answer (turn, is, room, marked) = idles o turn next answer ([], []) is marked.1 (room_none n turn room)
  works form (work.TellAll line c) o m next answer (names, is, marked) = keeps (told line _ names) o (told_all_next line c) next answer _ is marked.1 (λ l h. h) (λ l h. h) (all_told line c)
  works form (work.Insert w task) o m next answer (r, is, marked) =
      let own = inserts w task r in acts (inserted (line_of w) r) o (inserted_next w task r) next answer ([], []) is marked.1 own.0 own.1
  works form (work.Register w key task) o m next answer (r, is, marked) =
      let own = registers w key task r in acts (registered (line_of w) key task r) o (registered_next w key r) next answer (listed_on (line_of w) (Some key), []) is marked.1 own.0 own.1
  works form (work.Leave e) o m next answer (leaves, marked) = gives_back form o next answer e.reply e.message marked.1 e.held leaves
  works form (work.Lower side key) o m next answer (n, is, marked) =
      let e = lowered_holds side key n in
      acts (lowered side n) o (lowered_next side key n) next answer (by_closer (dropper side key), side ∷ []) is marked.1
      (ap (λ (x : Own). x.0) e) (ap (λ (l : List Side). side ∷ l) (sym (ap (λ (x : Own). x.1) e)))
  works form (work.Count side) o m next answer (n, is, marked) = acts (counted side n) o (Ends (reply.Count n) (leaving None None)) next answer ([], []) is marked.1 refl refl
  works form (work.Load side making) o m next answer (n, is, marked) = keeps (counted side n) o (loaded_next side making n) next answer _ is marked.1 (λ l h. h) (λ l h. h) (loaded_none side making n)
  works form (work.Raise side n making) o m next answer (b, is, marked) = makes side n making b o next answer is marked.1

  steps_hold : (form : QueueForm) (at : Stage (QueueCall T) T W) (o : Act T W) (m : Mark) (next : Stage (QueueCall T) T W) (answer : Option (Reply T)) → ChannelMakes (Notes form) at on_nothing o m next answer
      → (ActLeaves o (in_hand at) (in_hand_after next answer) ⊎ IsLost at answer) × ActLeavesHandles o (handles_at at) (handles_after at next answer)
  steps_hold form (Trying call p) o m next answer (after, x, (d, makes, is), marked, goes) =
      let h = heard p call after x next answer goes in
      subst (λ (y : Act T W). (ActLeaves y (by_purpose p) (in_hand_after next answer) ⊎ IsLost (Trying call p) answer) × ActLeavesHandles y [] (handles_next next answer)) (sym is) h
  steps_hold form (Working w) o m next answer h = let own = works form w o m next answer h in (inl own.0, own.1)
  steps_hold form (Finished kept) o m next answer (is, nothing, same, none) =
      let e = ap (λ (r : Option (Reply T)). own_after next r) none ∙ ap (λ (s : Stage (QueueCall T) T W). own_after s None) same in
      subst (λ (y : Act T W). (ActLeaves y [] (in_hand_after next answer) ⊎ ⊥) × ActLeavesHandles y [] (handles_next next answer)) (sym is)
      (inl (ap (λ (x : Own). x.0) e), ap (λ (x : Own). x.1) e)

  -- ---- a beginning

  asks_holds : (w : Waiting T) (key : Option Key) (task : W) → own_turn (asks_listener w key task) ≡ (listed_on (line_of w) key, [])
  asks_holds w None task = refl
  asks_holds w (Some key) task = refl

  begins_hold : (w : Waiting T) (l : Loan) (task : W) → own_turn (begins w l task) ≡ (listed_on (line_of w) l.key, [])
  begins_hold w l task = by l.asks_first where
    by : (b : Bool) → own_turn (if b then asks_listener w l.key task else again w l.key task) ≡ (listed_on (line_of w) l.key, [])
    by true = asks_holds w l.key task
    by false = refl

  first_holds : (a : ChannelAsk T W) → own_turn (first a) ≡ (lent_by a, handles_lent a)
  first_holds (ask.PollSend m l task) = begins_hold (waiting.Send m) l task
  first_holds (ask.PollRecv l task) = begins_hold waiting.Receive l task
  first_holds (ask.PollNext key task) = asks_holds waiting.Stream key task
  first_holds a = refl

pub calls_hold_their_own : (T W : Type 0) → CallsHoldTheirOwn T W
calls_hold_their_own T W = record {
  begins = λ a at takes.
      let e = taken T W (first a) at None takes ∙ first_holds T W a in
      (ap (λ (x : List ListenerRef × List Side). x.0) e, ap (λ (x : List ListenerRef × List Side). x.1) e);
  steps = steps_hold T W;
  answers = of_kind T W;
}
