-- Where a call stands over cells that ask each deed to be the next one: what it may do there, and where its steps lead.
use Rattle.std.proofs.Common.{◌≡◌, ℕ, zero, suc, Bool, false, if◌then◌else◌, nat_lt, List, length, Option, None, Some, Result, Ok, Err, refl, sym, subst}
use Rattle.concurrent_queue.proofs.FitsFacts.{starts}
use Rattle.concurrent_queue.specs.Replies.{IsAsking}
use Rattle.concurrent_queue.specs.Step.{Starts, mark_of}
use Rattle.concurrent_queue.specs.declared.call.QueueAsk.{QueueAsk}
use Rattle.concurrent_queue.specs.declared.call.QueueMark.TheVariants as queue_mark
use Rattle.concurrent_queue.specs.declared.call.QueueReply.{QueueReply}
use Rattle.concurrent_queue.specs.declared.queue_call.CallState.TheVariants.{Asked}
use Rattle.concurrent_queue.specs.declared.queue_call.QueueCall.{QueueCall}
use Rattle.event_listener.specs.declared.error.ListenError.{ListenError}
use Rattle.event_listener.specs.declared.key.Key.{Key}
use Rattle.channel_calls.proofs.Gathering.{Gathers, with_these}
use Rattle.channel_calls.specs.Answered.{answered_next, several_next, hands_out}
use Rattle.channel_calls.specs.Deeds.{Deed, Done, stepped, inserted, registered, taken_off, told, counted, lowered, raised}
use Rattle.channel_calls.specs.Marks.{mark_of_queue, down}
use Rattle.channel_calls.specs.Stands.{NotesDeed, BeginsHere, MayGoOn, GoesOn, StaysOn}
use Rattle.channel_calls.specs.Tried.{Comes}
use Rattle.channel_calls.specs.Several.{Gathered}
use Rattle.channel_calls.specs.Turns.{most, says, nothing_kept, line_of, leaving, ends_by, inserted_next, registered_next, told_all_next, lowered_next, loaded_next, raised_next}
use Rattle.channel_calls.specs.Walks.{Takes, Leaves, WorkMakes, ChannelMakes, Leads, WalkedOn, raised_mark}
use Rattle.channel_calls.specs.declared.call.ChannelCall.{ChannelCall}
use Rattle.channel_calls.specs.declared.mark.Mark.{Mark}
use Rattle.channel_calls.specs.declared.mark.Mark.TheVariants.{Nothing}
use Rattle.channel_calls.specs.declared.reply.Reply.{Reply}
use Rattle.channel_calls.specs.declared.reply.Reply.TheVariants as reply
use Rattle.channel_calls.specs.declared.stage.Closer.{Closer}
use Rattle.channel_calls.specs.declared.stage.Ending.{Ending}
use Rattle.channel_calls.specs.declared.stage.ListenerRef.{ListenerRef}
use Rattle.channel_calls.specs.declared.stage.ListStep.{ListStep}
use Rattle.channel_calls.specs.declared.stage.ListStep.TheVariants.{TellReceive, TellStreams, TellSend, TellSends, TakeRoom, TellAll, Insert, Register, Leave, Lower, Count, Load, Raise}
use Rattle.channel_calls.specs.declared.stage.Making.{Making}
use Rattle.channel_calls.specs.declared.stage.Making.TheVariants.{Clone}
use Rattle.channel_calls.specs.declared.stage.NextStep.{NextStep}
use Rattle.channel_calls.specs.declared.stage.NextStep.TheVariants.{Tries, Works, Ends}
use Rattle.channel_calls.specs.declared.stage.Purpose.{Purpose}
use Rattle.channel_calls.specs.declared.stage.Purpose.TheVariants.{RecvMany}
use Rattle.channel_calls.specs.declared.stage.Side.{Side}
use Rattle.channel_calls.specs.declared.stage.Stage.{Stage}
use Rattle.channel_calls.specs.declared.stage.Stage.TheVariants.{Trying, Working, Finished}
use Rattle.channel_calls.specs.declared.stage.Telling.TheVariants.{One, More, All}
use Rattle.channel_calls.specs.declared.stage.WaitList.{WaitList}
use Rattle.channel_calls.specs.declared.stage.WaitList.TheVariants.{Sends, Receives, Streams}
use Rattle.channel_calls.specs.declared.stage.Waiting.{Waiting}

module _ {T W : Type 0} where
  -- each turn can be taken
  taken : (turn : NextStep T W) → (next : Stage (QueueCall T) T W) × (r : Option (Reply T)) × Takes turn next r
  taken (Tries x purpose) =
      let call : QueueCall T = record { state = Asked x; mark = queue_mark.Nothing } in
      (Trying call purpose, None, (call, starts x queue_mark.Nothing, refl, refl, refl))
  taken (Works w) = (Working w, None, (refl, refl))
  taken (Ends x kept) = (Finished kept, Some x, (refl, refl))

-- ---- what comes next may be done, whatever it answers

module _ {T W S : Type 0} (stands : Stage (QueueCall T) T W → S → Type 0) (may : Deed T W → S → Type 0) (ready : MayGoOn stands may) (s : S) where
  pub step_ready : (call : QueueCall T) (purpose : Purpose T W) → stands (Trying call purpose) s → (after : QueueCall T) (o : Option (QueueReply T)) → may (stepped call after o) s
  step_ready call purpose h after None =
      ready (Trying call purpose) (Trying after purpose) s (stepped call after None) h (mark_of_queue (mark_of after), None, (after, None, refl, refl, (refl, refl)))
  step_ready call purpose h after (Some x) =
      let t = taken (answered_next purpose x) in
      ready (Trying call purpose) t.0 s (stepped call after (Some x)) h (mark_of_queue (mark_of after), t.1, (after, Some x, refl, refl, t.2))

  pub begun_ready : (x : QueueAsk T) (purpose : Purpose T W) → BeginsHere stands (Tries x purpose) s → (call : QueueCall T) → Starts call x → IsAsking call x → (after : QueueCall T) (o : Option (QueueReply T)) → may (stepped call after o) s
  begun_ready x purpose begins call begun asks after o = step_ready call purpose (begins (Trying call purpose) (call, begun, asks, refl, refl)) after o

  pub tell_receive_ready : (e : Ending T) → stands (Working (TellReceive e)) s → (names : List W) → may (told Receives One names) s
  tell_receive_ready e h names = ready (Working (TellReceive e)) (Working (TellStreams e)) s (told Receives One names) h (Nothing, None, (names, refl, (refl, (refl, refl))))

  pub tell_streams_ready : (e : Ending T) → stands (Working (TellStreams e)) s → (names : List W) → may (told Streams All names) s
  tell_streams_ready e h names = let t = taken (ends_by e) in ready (Working (TellStreams e)) t.0 s (told Streams All names) h (Nothing, t.1, (names, refl, (refl, t.2)))

  pub tell_send_ready : (e : Ending T) → stands (Working (TellSend e)) s → (names : List W) → may (told Sends One names) s
  tell_send_ready e h names = let t = taken (ends_by e) in ready (Working (TellSend e)) t.0 s (told Sends One names) h (Nothing, t.1, (names, refl, (refl, t.2)))

  pub tell_sends_ready : (n : ℕ) (e : Ending T) → stands (Working (TellSends n e)) s → (names : List W) → may (told Sends (More n) names) s
  tell_sends_ready n e h names = let t = taken (ends_by e) in ready (Working (TellSends n e)) t.0 s (told Sends (More n) names) h (Nothing, t.1, (names, refl, (refl, t.2)))

  pub tell_all_ready : (line : WaitList) (c : Closer) → stands (Working (TellAll line c)) s → (names : List W) → may (told line All names) s
  tell_all_ready line c h names = let t = taken (told_all_next line c) in ready (Working (TellAll line c)) t.0 s (told line All names) h (Nothing, t.1, (names, refl, (refl, t.2)))

  pub insert_ready : (w : Waiting T) (task : W) → stands (Working (Insert w task)) s → (o : Result Key ListenError) → may (inserted (line_of w) o) s
  insert_ready w task h o = let t = taken (inserted_next w task o) in ready (Working (Insert w task)) t.0 s (inserted (line_of w) o) h (Nothing, t.1, (o, refl, (refl, t.2)))

  pub register_ready : (w : Waiting T) (key : Key) (task : W) → stands (Working (Register w key task)) s → (o : Option W) → may (registered (line_of w) key task o) s
  register_ready w key task h o = let t = taken (registered_next w key o) in ready (Working (Register w key task)) t.0 s (registered (line_of w) key task o) h (Nothing, t.1, (o, refl, (refl, t.2)))

  pub leave_ready : (e : Ending T) (held : ListenerRef) → e.held ≡ Some held → stands (Working (Leave e)) s → (names : List W) → may (taken_off held.line held.key names) s
  leave_ready e held is h names =
      let d : Deed T W = taken_off held.line held.key names in
      let off : Leaves NotesDeed e.held None (Some d) = subst (λ (x : Option ListenerRef). Leaves NotesDeed x None (Some d)) (sym is) (names, refl) in
      ready (Working (Leave e)) (Finished (leaving None e.message)) s d h (Nothing, Some e.reply, (off, (refl, (refl, refl))))

  pub lower_ready : (side : Side) (key : Option Key) → stands (Working (Lower side key)) s → (n : ℕ) → may (lowered side n) s
  lower_ready side key h n = let t = taken (lowered_next side key n) in ready (Working (Lower side key)) t.0 s (lowered side n) h (down side, t.1, (n, refl, (refl, t.2)))

  pub count_ready : (side : Side) → stands (Working (Count side)) s → (n : ℕ) → may (counted side n) s
  count_ready side h n = ready (Working (Count side)) _ s (counted side n) h (Nothing, _, (n, refl, (refl, (refl, refl))))

  pub load_ready : (side : Side) (making : Making) → stands (Working (Load side making)) s → (n : ℕ) → may (counted side n) s
  load_ready side making h n = let t = taken (loaded_next side making n) in ready (Working (Load side making)) t.0 s (counted side n) h (Nothing, t.1, (n, refl, (refl, t.2)))

  pub raise_ready : (side : Side) (n : ℕ) (making : Making) → stands (Working (Raise side n making)) s → (b : Bool) → may (raised side n b) s
  raise_ready side n making h b = let t = taken (raised_next side making b) in ready (Working (Raise side n making)) t.0 s (raised side n b) h (raised_mark side b, t.1, (b, refl, (refl, t.2)))

-- ---- where a step leads

module _ {T W X : Type 0} (stands : Stage (QueueCall T) T W → X → Type 0) (did : Deed T W → X → X → Type 0) (leads : GoesOn stands did) (rests : StaysOn stands) where
  module _ (s t : X) (m : Mark) (next : Stage (QueueCall T) T W) (r : Option (Reply T)) where
    left_on : (e : Ending T) (held : Option ListenerRef) → e.held ≡ held → stands (Working (Leave e)) s → Leaves did held s t → (m ≡ Nothing) × Takes (Ends e.reply (leaving None e.message)) next r → stands next t
    left_on e None is h same k =
        let no : Leaves {T = T} {W = W} NotesDeed e.held None None = subst (λ (x : Option ListenerRef). Leaves {T = T} {W = W} NotesDeed x None None) (sym is) refl in
        subst (λ (x : X). stands next x) (sym same) (rests (Working (Leave e)) next s h (m, r, (no, k)))
    left_on e (Some held) is h (names, deed) k =
        let d : Deed T W = taken_off held.line held.key names in
        let off : Leaves NotesDeed e.held None (Some d) = subst (λ (x : Option ListenerRef). Leaves NotesDeed x None (Some d)) (sym is) (names, refl) in
        leads (Working (Leave e)) next s t d h deed (m, r, (off, k))

    worked_on : (w : ListStep T W) → stands (Working w) s → WorkMakes did w s t m next r → stands next t
    worked_on (TellReceive e) h (names, d, k) = leads (Working (TellReceive e)) next s t (told Receives One names) h d (m, r, (names, refl, k))
    worked_on (TellStreams e) h (names, d, k) = leads (Working (TellStreams e)) next s t (told Streams All names) h d (m, r, (names, refl, k))
    worked_on (TellSend e) h (names, d, k) = leads (Working (TellSend e)) next s t (told Sends One names) h d (m, r, (names, refl, k))
    worked_on (TellSends n e) h (names, d, k) = leads (Working (TellSends n e)) next s t (told Sends (More n) names) h d (m, r, (names, refl, k))
    worked_on (TakeRoom n) h (turn, same, room, k) = subst (λ (x : X). stands next x) (sym same) (rests (Working (TakeRoom n)) next s h (m, r, (turn, refl, room, k)))
    worked_on (TellAll line c) h (names, d, k) = leads (Working (TellAll line c)) next s t (told line All names) h d (m, r, (names, refl, k))
    worked_on (Insert w task) h (o, d, k) = leads (Working (Insert w task)) next s t (inserted (line_of w) o) h d (m, r, (o, refl, k))
    worked_on (Register w key task) h (o, d, k) = leads (Working (Register w key task)) next s t (registered (line_of w) key task o) h d (m, r, (o, refl, k))
    worked_on (Leave e) h (l, k) = left_on e e.held refl h l k
    worked_on (Lower side key) h (n, d, k) = leads (Working (Lower side key)) next s t (lowered side n) h d (m, r, (n, refl, k))
    worked_on (Count side) h (n, d, k) = leads (Working (Count side)) next s t (counted side n) h d (m, r, (n, refl, k))
    worked_on (Load side making) h (n, d, k) = leads (Working (Load side making)) next s t (counted side n) h d (m, r, (n, refl, k))
    worked_on (Raise side n making) h (b, d, k) = leads (Working (Raise side n making)) next s t (raised side n b) h d (m, r, (b, refl, k))

    -- A STEP leaves the call where its machine goes
    pub stands_on : (at : Stage (QueueCall T) T W) → stands at s → ChannelMakes did at s t m next r → stands next t
    stands_on (Trying call purpose) h (after, o, d, marked, k) = leads (Trying call purpose) next s t (stepped call after o) h d (m, r, (after, o, refl, marked, k))
    stands_on (Working w) h k = worked_on w h k
    stands_on (Finished kept) h (same, marked, e, none) = subst (λ (x : X). stands next x) (sym same) (rests (Finished kept) next s h (m, r, (refl, marked, e, none)))

  -- so does a call of the queue that was asked here, and has answered
  pub asked_on : (s t : X) (x : QueueAsk T) (purpose : Purpose T W) → BeginsHere stands (Tries x purpose) s → (one after : QueueCall T) → Starts one x → IsAsking one x → (o : Option (QueueReply T)) → did (stepped one after o) s t
      → (y : QueueReply T) → o ≡ Some y → (next : Stage (QueueCall T) T W) (r : Option (Reply T)) → Takes (answered_next purpose y) next r → stands next t
  asked_on s t x purpose begins one after begun asks o deed y is next r takes =
      let d : did (stepped one after (Some y)) s t = subst (λ (z : Option (QueueReply T)). did (stepped one after z) s t) is deed in
      leads (Trying one purpose) next s t (stepped one after (Some y)) (begins (Trying one purpose) (one, begun, asks, refl, refl)) d (mark_of_queue (mark_of after), r, (after, Some y, refl, refl, takes))

  -- or has not
  pub asks_on : (s t : X) (x : QueueAsk T) (purpose : Purpose T W) → BeginsHere stands (Tries x purpose) s → (one after : QueueCall T) → Starts one x → IsAsking one x → did (stepped one after None) s t → stands (Trying after purpose) t
  asks_on s t x purpose begins one after begun asks deed =
      leads (Trying one purpose) (Trying after purpose) s t (stepped one after None) (begins (Trying one purpose) (one, begun, asks, refl, refl)) deed
      (mark_of_queue (mark_of after), None, (after, None, refl, refl, (refl, refl)))

  -- several messages are handed out
  pub hands_on : (s t : X) (call after : QueueCall T) (g : Gathered T) → stands (Trying call (RecvMany g)) s → (y : QueueReply T) → did (stepped call after (Some y)) s t
      → (vs : List T) → several_next y g ≡ hands_out {W = W} vs → (n : ℕ) → n ≡ length vs → (e : Ending T) × stands (Working (TellSends n e)) t
  hands_on s t call after g h y deed vs is n number =
      let ending : Ending T = says (reply.RecvMany (Ok vs)) in
      let tells : Stage (QueueCall T) T W = Working (TellSends (length vs) (says (reply.RecvMany (Ok vs)))) in
      let turn : Takes (several_next y g) tells None = subst (λ (z : NextStep T W). Takes z tells None) (sym is) (refl, refl) in
      let told = leads (Trying call (RecvMany g)) tells s t (stepped call after (Some y)) h deed (mark_of_queue (mark_of after), None, (after, Some y, refl, refl, turn)) in
      (ending, subst (λ (k : ℕ). stands (Working (TellSends k ending)) t) (sym number) told)

  -- a count was read to be raised, and was not raised
  pub reads_on : (s t : X) (side : Side) (n : ℕ) → stands (Working (Load side Clone)) s → did (counted side n) s t → nat_lt most n ≡ false → stands (Working (Raise side n Clone)) t
  reads_on s t side n h deed fits =
      let next : Stage (QueueCall T) T W = Working (Raise side n Clone) in
      let turn : Takes (loaded_next side Clone n) next None = subst (λ (b : Bool). Takes {T = T} {W = W} (if b then Ends reply.TooMany nothing_kept else Works (Raise side n Clone)) next None) (sym fits) (refl, refl) in
      leads (Working (Load side Clone)) next s t (counted side n) h deed (Nothing, None, (n, refl, (refl, turn)))

  pub raises_on : (s t : X) (side : Side) (n : ℕ) → stands (Working (Raise side n Clone)) s → did (raised side n false) s t → stands (Working (Load side Clone)) t
  raises_on s t side n h deed = leads (Working (Raise side n Clone)) (Working (Load side Clone)) s t (raised side n false) h deed (Nothing, None, (false, refl, (refl, (refl, refl))))

  -- a count was lowered
  pub lowers_on : (s t : X) (side : Side) (key : Option Key) (n : ℕ) → stands (Working (Lower side key)) s → did (lowered side n) s t → (turn : NextStep T W) → turn ≡ lowered_next side key n → (next : Stage (QueueCall T) T W) → Takes turn next None
      → stands next t
  lowers_on s t side key n h deed turn is next takes =
      leads (Working (Lower side key)) next s t (lowered side n) h deed (down side, None, (n, refl, (refl, subst (λ (z : NextStep T W). Takes z next None) is takes)))

  -- a receive was told
  pub told_on : (s t : X) (e : Ending T) → stands (Working (TellReceive e)) s → (names : List W) → did (told Receives One names) s t → stands (Working (TellStreams e)) t
  told_on s t e h names deed = leads (Working (TellReceive e)) (Working (TellStreams e)) s t (told Receives One names) h deed (Nothing, None, (names, refl, (refl, (refl, refl))))

  -- so do several steps one after another
  pub led_to : (n : ℕ) (s : X) (a : Stage (QueueCall T) T W) (t : X) (b : Stage (QueueCall T) T W) → stands a s → Leads did n s a t b → stands b t
  led_to zero s a t b h (e, f) = subst (λ (z : Stage (QueueCall T) T W). stands z t) (sym f) (subst (λ (z : X). stands a z) (sym e) h)
  led_to (suc n) s a t b h (x, y, m, step, path) = led_to n x y t b (stands_on s x m y None a h step) path

  pub comes_to : (turn : NextStep T W) (s : X) (later : NextStep T W) (t : X) → BeginsHere stands turn s → Comes did turn s later t → BeginsHere stands later t
  comes_to turn s later t begins (a, takes, n, x, b, m, path, last) at takes_on = stands_on x t m at None b (led_to n s a x b (begins a takes) path) (last at None takes_on)

  pub handed_to : (turn : NextStep T W) (s t : X) (call : ChannelCall T W) → BeginsHere stands turn s → WalkedOn did turn s (Err call) t → stands call.stage t
  handed_to turn s t call begins (a, takes, n, path) = led_to n s a t call.stage (begins a takes) path

-- ---- of cells beside a sink

module _ {T W C S : Type 0} (stands : Stage (QueueCall T) T W → C → Type 0) (did : Deed T W → C → C → Type 0) (leads : GoesOn stands did) (rests : StaysOn stands) (wakes : S → W → S → Type 0) where
  abbrev pub beside : Stage (QueueCall T) T W → C × S → Type 0
  beside at x = stands at x.0

  pub leads_beside : GoesOn beside (Done did wakes)
  leads_beside at next s t d h done n = leads at next s.0 t.0 d h done.0 n

  pub rests_beside : StaysOn beside
  rests_beside at next s h n = rests at next s.0 h n

  pub made_on : (s t : C × S) (m : Mark) (next : Stage (QueueCall T) T W) (r : Option (Reply T)) (at : Stage (QueueCall T) T W) → stands at s.0 → ChannelMakes (Done did wakes) at s t m next r → stands next t.0
  made_on s t m next r at h step = stands_on beside (Done did wakes) leads_beside rests_beside s t m next r at h step

  pub handed_over : (turn : NextStep T W) (s t : C × S) (call : ChannelCall T W) → BeginsHere stands turn s.0 → WalkedOn (Done did wakes) turn s (Err call) t → stands call.stage t.0
  handed_over turn s t call begins walk = handed_to beside (Done did wakes) leads_beside rests_beside turn s t call begins walk

  -- the steps of a receive of several so far, from where it took its room
  pub gathers_at : (room : ℕ) (s : C × S) (call : QueueCall T) (taken : List T) (more : ℕ) (t : C × S) → BeginsHere stands (Works (TakeRoom room)) s.0 → Gathers (Done did wakes) room s call taken more t
      → stands (Trying call (RecvMany (with_these taken more))) t.0
  gathers_at room s call taken more t begins (n, path) =
      led_to beside (Done did wakes) leads_beside rests_beside n s (Working (TakeRoom room)) t (Trying call (RecvMany (with_these taken more))) (begins (Working (TakeRoom room)) (refl, refl)) path
