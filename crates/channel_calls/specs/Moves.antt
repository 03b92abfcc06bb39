-- What one step of a channel's call does, whatever other calls are under way.
use Rattle.std.specs.Prelude.{◌≡◌, ℕ, ◌+◌, ◌-◌, ◌<◌, true, if◌then◌else◌, List, [], ◌∷◌, ◌++◌, Option, None, Some, ◌⊎◌}
use Rattle.concurrent_queue.specs.Contents.{Contents}
use Rattle.concurrent_queue.specs.Queue.{Queue, Phase, opened, after, asked, Continues, Answers, IsInRange}
use Rattle.concurrent_queue.specs.Step.{ActiveQueueCall, seat, FitsAt, chain_after, Starts, OneCell, PhasesQuiet, phases, rank}
use Rattle.concurrent_queue.specs.declared.queue_call.QueueCall.{QueueCall}
use Rattle.concurrent_queue.specs.declared.call.QueueMark.{QueueMark}
use Rattle.concurrent_queue.specs.declared.call.QueueReply.{QueueReply}
use Rattle.event_listener.specs.Lists.{kind_of, listened, registration, removed, removed_wakes}
use Rattle.event_listener.specs.Notices.{Woken}
use Rattle.event_listener.specs.declared.key.Key.{Key}
use Rattle.event_listener.specs.declared.error.ListenError.{ListenError}
use Rattle.channel_calls.specs.declared.call.ChannelCall.{ChannelCall}
use Rattle.channel_calls.specs.declared.mark.Mark.{Mark}
use Rattle.channel_calls.specs.declared.mark.Mark.TheVariants as mark
use Rattle.channel_calls.specs.declared.reply.Reply.{Reply}
use Rattle.channel_calls.specs.declared.reply.Reply.TheVariants as reply
use Rattle.channel_calls.specs.declared.stage.Purpose.{Purpose}
use Rattle.channel_calls.specs.declared.stage.ListenerRef.{ListenerRef}
use Rattle.channel_calls.specs.declared.stage.WaitList.{WaitList}
use Rattle.channel_calls.specs.declared.stage.WaitList.TheVariants.{Sends, Receives, Streams}
use Rattle.channel_calls.specs.declared.stage.Side.{Side}
use Rattle.channel_calls.specs.declared.stage.Stage.{Stage}
use Rattle.channel_calls.specs.declared.stage.Stage.TheVariants.{Trying, Working, Finished}
use Rattle.channel_calls.specs.declared.stage.NextStep.{NextStep}
use Rattle.channel_calls.specs.declared.stage.NextStep.TheVariants.{Tries, Works, Ends}
use Rattle.channel_calls.specs.declared.stage.Waiting.{Waiting}
use Rattle.channel_calls.specs.declared.stage.ListStep.{ListStep}
use Rattle.channel_calls.specs.declared.stage.ListStep.TheVariants.{TellReceive, TellStreams, TellSend, TellSends, TakeRoom, TellAll, Insert, Register, Leave, Lower, Count, Load, Raise}
use Rattle.channel_calls.specs.Marks.{mark_of_queue, up, down}
use Rattle.channel_calls.specs.Parts.{Parts, WaitLists, Listeners, new_wait_lists, with_cells, with_wait_lists, listeners, with_listeners, count, with_count, is_raised, told_one, told_one_wakes, told_more, told_more_wakes, told_all, told_all_wakes, waits}
use Rattle.channel_calls.specs.Turns.{line_of, leaving, nothing_kept, ends_by, again, pends_by, unlistened, told_all_next, room_next, roomless, lowered_next, loaded_next, raised_next}
use Rattle.channel_calls.specs.Answered.{answered_next}

-- a channel at one moment: its queue, its lists of listeners and its counts of handles
pub record Channel (T W : Type 0) : Type 0 where
  pub queue : Queue T
  pub wait_lists : WaitLists W

-- what a step did: the channel after it, its mark, and the tasks that it woke in order
pub record Effect (T W : Type 0) : Type 0 where
  pub channel : Channel T W
  pub mark : Mark
  pub woken : List W

module _ {T W : Type 0} where
  abbrev pub channel : Queue T → Parts T W → Channel T W
  channel q p = record { queue = q; wait_lists = p.wait_lists }

  -- a channel that was just opened
  abbrev pub new_channel : Option ℕ → Channel T W
  new_channel cap = record { queue = opened cap; wait_lists = new_wait_lists }

  -- ---- the effects that a step may have

  -- on the queue
  abbrev pub queued : Phase T → QueueMark → Channel T W → Effect T W
  queued f m c = record { channel = record c { queue = after f m c.queue }; mark = mark_of_queue m; woken = [] }

  -- none
  abbrev pub untouched : Channel T W → Effect T W
  untouched c = record { channel = c; mark = mark.Nothing; woken = [] }

  -- on one list, which wakes these
  abbrev pub on_line : WaitList → Listeners W → List W → Channel T W → Effect T W
  on_line line l names c = record { channel = record c { wait_lists = with_listeners line l c.wait_lists }; mark = mark.Nothing; woken = names }

  -- on one count, with this mark
  abbrev pub on_count : Side → ℕ → Mark → Channel T W → Effect T W
  on_count side n m c = record { channel = record c { wait_lists = with_count side n c.wait_lists }; mark = m; woken = [] }

  abbrev pub tells_one : WaitList → Channel T W → Effect T W
  tells_one line c = on_line line (told_one (listeners line c.wait_lists)) (told_one_wakes (listeners line c.wait_lists)) c

  abbrev pub tells_more : ℕ → WaitList → Channel T W → Effect T W
  tells_more n line c = on_line line (told_more n (listeners line c.wait_lists)) (told_more_wakes n (listeners line c.wait_lists)) c

  abbrev pub tells_all : WaitList → Channel T W → Effect T W
  tells_all line c = on_line line (told_all (listeners line c.wait_lists)) (told_all_wakes (listeners line c.wait_lists)) c

  abbrev pub listens : WaitList → Key → Channel T W → Effect T W
  listens line key c = on_line line (listened key (listeners line c.wait_lists)) [] c

  abbrev pub registers : WaitList → Key → W → Channel T W → Effect T W
  registers line key task c = on_line line (registration key task (listeners line c.wait_lists)) [] c

  -- a listener leaves, and passes on the notification that it was told
  abbrev pub removes : ListenerRef → Channel T W → Effect T W
  removes h c = on_line h.line (removed h.key true (listeners h.line c.wait_lists)) (removed_wakes h.key true (listeners h.line c.wait_lists)) c

  abbrev pub leaves : Option ListenerRef → Channel T W → Effect T W
  leaves None c = untouched c
  leaves (Some h) c = removes h c

  abbrev pub lowers : Side → Channel T W → Effect T W
  lowers side c = on_count side (count side c.wait_lists - 1) (down side) c

  abbrev pub raises : Side → ℕ → Channel T W → Effect T W
  raises side n c = if is_raised side n c.wait_lists then on_count side (n + 1) (up side) c else untouched c

  -- ---- what comes after

  -- the turn is taken: a new call of the queue begins, or a list or a count comes next, or the call answers
  abbrev pub Turned : NextStep T W → Option (Reply T) → Stage (Phase T) T W → Type 0
  Turned (Tries x purpose) r s = (r ≡ None) × (s ≡ Trying (asked x) purpose)
  Turned (Works w) r s = (r ≡ None) × (s ≡ Working w)
  Turned (Ends x kept) r s = (r ≡ Some x) × (s ≡ Finished kept)

  -- a step of the queue's call: it goes on, or it answers and the turn is taken that its purpose gives
  pub record Tried (c : Channel T W) (f : Phase T) (purpose : Purpose T W) (e : Effect T W) (r : Option (Reply T)) (s : Stage (Phase T) T W) : Type 0 where
    pub mark : QueueMark
    pub effect : e ≡ queued f mark c
    pub how :
        ((f' : Phase T) × Continues c.queue f mark f' × (r ≡ None) × (s ≡ Trying f' purpose))
        ⊎ ((x : QueueReply T) × Answers c.queue f mark x × Turned (answered_next purpose x) r s)

  -- a listener comes in, under a key that is not listed, and the poll tries again; or it is refused
  abbrev pub Inserts : Waiting T → W → Channel T W → Effect T W → Option (Reply T) → Stage (Phase T) T W → Type 0
  Inserts w task c e r s =
      ((key : Key) × (kind_of (listeners (line_of w) c.wait_lists) key ≡ None) × (e ≡ listens (line_of w) key c) × Turned (again w (Some key) task) r s)
      ⊎ ((error : ListenError) × (e ≡ untouched c) × Turned (unlistened w error) r s)

  -- room for so many messages at most is taken, or refused
  abbrev pub TakesRoomFor : ℕ → Option (Reply T) → Stage (Phase T) T W → Type 0
  TakesRoomFor n r s = Turned (room_next n) r s ⊎ ((0 < n) × Turned roomless r s)

  -- a step on a list or a count: what it does, and what comes after
  abbrev pub Worked : Channel T W → ListStep T W → Effect T W → Option (Reply T) → Stage (Phase T) T W → Type 0
  Worked c (TellReceive x) e r s = (e ≡ tells_one Receives c) × Turned (Works (TellStreams x)) r s
  Worked c (TellStreams x) e r s = (e ≡ tells_all Streams c) × Turned (ends_by x) r s
  Worked c (TellSend x) e r s = (e ≡ tells_one Sends c) × Turned (ends_by x) r s
  Worked c (TellSends n x) e r s = (e ≡ tells_more n Sends c) × Turned (ends_by x) r s
  Worked c (TakeRoom n) e r s = (e ≡ untouched c) × TakesRoomFor n r s
  Worked c (TellAll line closer) e r s = (e ≡ tells_all line c) × Turned (told_all_next line closer) r s
  Worked c (Insert w task) e r s = Inserts w task c e r s
  Worked c (Register w key task) e r s =
      (e ≡ registers (line_of w) key task c)
      × Turned (if waits key (listeners (line_of w) c.wait_lists) then pends_by w key else again w None task) r s
  Worked c (Leave x) e r s = (e ≡ leaves x.held c) × Turned (Ends x.reply (leaving None x.message)) r s
  Worked c (Lower side key) e r s = (e ≡ lowers side c) × Turned (lowered_next side key (count side c.wait_lists)) r s
  Worked c (Count side) e r s = (e ≡ untouched c) × Turned (Ends (reply.Count (count side c.wait_lists)) nothing_kept) r s
  Worked c (Load side making) e r s = (e ≡ untouched c) × Turned (loaded_next side making (count side c.wait_lists)) r s
  Worked c (Raise side n making) e r s = (e ≡ raises side n c) × Turned (raised_next side making (is_raised side n c.wait_lists)) r s

  -- one step of a call at this stage; one that has answered does nothing
  abbrev pub Moves : Channel T W → Stage (Phase T) T W → Effect T W → Option (Reply T) → Stage (Phase T) T W → Type 0
  Moves c (Trying f purpose) e r s = Tried c f purpose e r s
  Moves c (Working w) e r s = Worked c w e r s
  Moves c (Finished kept) e r s = (e ≡ untouched c) × (r ≡ None) × (s ≡ Finished kept)

  -- ---- the code's stages

  -- the calls of the queue that a call of the channel has under way
  abbrev pub seats : Phase T → Stage (QueueCall T) T W → List (ActiveQueueCall T)
  seats f (Trying call purpose) = seat call f ∷ []
  seats f (Working w) = []
  seats f (Finished kept) = []

  -- a stage, with its queue's phase in the place of its queue's call
  abbrev pub phase : Phase T → Stage (QueueCall T) T W → Stage (Phase T) T W
  phase f (Trying call purpose) = Trying f purpose
  phase f (Working w) = Working w
  phase f (Finished kept) = Finished kept

  -- at most one cell of the queue differs, or one list, or one count
  abbrev pub OnePlace : Parts T W → Parts T W → Type 0
  OnePlace parts parts' =
      ((parts' ≡ with_cells parts'.cells parts) × OneCell parts.cells parts'.cells)
      ⊎ (((line : WaitList) × (l : Listeners W) × (parts' ≡ with_wait_lists (with_listeners line l parts.wait_lists) parts))
      ⊎ ((side : Side) × (n : ℕ) × (parts' ≡ with_wait_lists (with_count side n parts.wait_lists) parts)))

  -- the code has taken the turn: where the queue is asked, by a call that may come in among any others
  abbrev pub IsTaken : NextStep T W → Option (Reply T) → Stage (QueueCall T) T W → Type 0
  IsTaken (Tries x purpose) r s = (call : QueueCall T) × Starts call x × (r ≡ None) × (s ≡ Trying call purpose)
  IsTaken (Works w) r s = (r ≡ None) × (s ≡ Working w)
  IsTaken (Ends x kept) r s = (r ≡ Some x) × (s ≡ Finished kept)

  -- if the others are quiet, a call of the queue needs fewer steps after this one, or it answers
  abbrev pub Hastens : Contents T → Queue T → Phase T → Stage (QueueCall T) T W → Contents T → Option (Reply T) → Stage (QueueCall T) T W → Type 0
  Hastens c q f (Trying call purpose) d r stage' =
      ((call' : QueueCall T) × (stage' ≡ Trying call' purpose) × (rank d call' < rank c call))
      ⊎ ((x : QueueReply T) × (m : QueueMark) × Answers q f m x × IsTaken (answered_next purpose x) r stage')
  Hastens c q f _ d r stage' = Unit {0}

  -- one step over the queue q, which has used these blocks, beside any other calls of the queue
  pub record Made (parts : Parts T W) (stage : Stage (QueueCall T) T W) (names : List W) (parts' : Parts T W) (stage' : Stage (QueueCall T) T W) (m : Mark) (r : Option (Reply T)) (blocks : List ℕ) (q : Queue T) (f : Phase T) (left right : List (ActiveQueueCall T)) : Type 0 where
    pub queue : Queue T
    pub phase_now : Phase T
    pub one_place : OnePlace parts parts'
    pub fits : FitsAt (chain_after blocks parts.cells parts'.cells) parts'.cells queue (left ++ (seats phase_now stage' ++ right))
    pub ends : PhasesQuiet q (phases (left ++ right)) → Hastens parts.cells q f stage parts'.cells r stage'
    pub moves : Moves (channel q parts) (phase f stage) (record { channel = channel queue parts'; mark = m; woken = names }) r (phase phase_now stage')

  -- for every queue, its blocks, phase, and other calls of the queue that the cells may stand for
  abbrev pub IsStepOver : Parts T W → Stage (QueueCall T) T W → List W → Parts T W → Stage (QueueCall T) T W → Mark → Option (Reply T) → Type 0
  IsStepOver parts stage names parts' stage' m r =
      (blocks : List ℕ) (q : Queue T) (f : Phase T) (left right : List (ActiveQueueCall T)) → IsInRange q
      → FitsAt blocks parts.cells q (left ++ (seats f stage ++ right)) → Made parts stage names parts' stage' m r blocks q f left right

  -- the same, with the tasks woken
  abbrev pub IsChannelStep : {S : Type 0} → (S → W → S → Type 0) → Parts T W → Stage (QueueCall T) T W → S → Parts T W → Stage (QueueCall T) T W → Mark → Option (Reply T) → S → Type 0
  IsChannelStep wakes parts stage sink parts' stage' m r sink' =
      (names : List W) × Woken wakes sink names sink' × IsStepOver parts stage names parts' stage' m r

  -- ---- a call's beginning

  -- a call that has made no step, and has only taken this turn
  abbrev pub IsNewCall : ChannelCall T W → NextStep T W → Type 0
  IsNewCall call turn = (r : Option (Reply T)) × IsTaken turn r call.stage
