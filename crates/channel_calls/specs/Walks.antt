-- The machine of a channel's calls: the deed that each stage does and what follows its answer; and calls walked on by it. It speaks of any
-- cells, whatever they hold, and of any relation `did` between two of their states, of which nothing is known: a body that shows that a
-- call was walked has done these deeds in this order, and no others, and has gone by their answers.
use Rattle.std.specs.Prelude.{◌≡◌, ℕ, zero, suc, Bool, true, false, List, Option, None, Some, Result, Ok, Err}
use Rattle.concurrent_queue.specs.Replies.{IsAsking}
use Rattle.concurrent_queue.specs.Step.{Starts, mark_of}
use Rattle.concurrent_queue.specs.declared.queue_call.QueueCall.{QueueCall}
use Rattle.concurrent_queue.specs.declared.call.QueueReply.{QueueReply}
use Rattle.event_listener.specs.declared.key.Key.{Key}
use Rattle.event_listener.specs.declared.error.ListenError.{ListenError}
use Rattle.channel_calls.specs.Deeds.{Deed, stepped, inserted, registered, taken_off, told, counted, lowered, raised}
use Rattle.channel_calls.specs.Answered.{answered_next}
use Rattle.channel_calls.specs.Asks.{kept_by}
use Rattle.channel_calls.specs.Marks.{mark_of_queue, up, down}
use Rattle.channel_calls.specs.Turns.{line_of, leaving, nothing_kept, ends_by, inserted_next, registered_next, told_all_next, TakesRoom, lowered_next, loaded_next, raised_next}
use Rattle.channel_calls.specs.declared.call.ChannelCall.{ChannelCall}
use Rattle.channel_calls.specs.declared.mark.Mark.{Mark}
use Rattle.channel_calls.specs.declared.mark.Mark.TheVariants.{Nothing}
use Rattle.channel_calls.specs.declared.reply.Reply.{Reply}
use Rattle.channel_calls.specs.declared.reply.Reply.TheVariants as reply
use Rattle.channel_calls.specs.declared.stage.Purpose.{Purpose}
use Rattle.channel_calls.specs.declared.stage.ListenerRef.{ListenerRef}
use Rattle.channel_calls.specs.declared.stage.Returned.{Returned}
use Rattle.channel_calls.specs.declared.stage.Telling.TheVariants.{One, More, All}
use Rattle.channel_calls.specs.declared.stage.WaitList.TheVariants.{Sends, Receives, Streams}
use Rattle.channel_calls.specs.declared.stage.Side.{Side}
use Rattle.channel_calls.specs.declared.stage.Stage.{Stage}
use Rattle.channel_calls.specs.declared.stage.Stage.TheVariants.{Trying, Working, Finished}
use Rattle.channel_calls.specs.declared.stage.NextStep.{NextStep}
use Rattle.channel_calls.specs.declared.stage.NextStep.TheVariants.{Tries, Works, Ends}
use Rattle.channel_calls.specs.declared.stage.ListStep.{ListStep}
use Rattle.channel_calls.specs.declared.stage.ListStep.TheVariants.{TellReceive, TellStreams, TellSend, TellSends, TakeRoom, TellAll, Insert, Register, Leave, Lower, Count, Load, Raise}
use Rattle.channel_calls.specs.declared.whole.Completed.{Completed}

-- a count that was raised is marked
abbrev pub raised_mark : Side → Bool → Mark
raised_mark side true = up side
raised_mark side false = Nothing

module _ {T W : Type 0} where
  -- the turn is taken: the queue is asked by a call that has made no step, or a list or a count comes next, or this is the answer
  abbrev pub Takes : NextStep T W → Stage (QueueCall T) T W → Option (Reply T) → Type 0
  Takes (Tries x purpose) next r = (call : QueueCall T) × Starts call x × IsAsking call x × (r ≡ None) × (next ≡ Trying call purpose)
  Takes (Works w) next r = (r ≡ None) × (next ≡ Working w)
  Takes (Ends x kept) next r = (r ≡ Some x) × (next ≡ Finished kept)

  -- after a step that has this mark
  abbrev pub Marked : Mark → NextStep T W → Mark → Stage (QueueCall T) T W → Option (Reply T) → Type 0
  Marked m0 turn m next r = (m ≡ m0) × Takes turn next r

  -- the queue's call goes on, or has answered
  abbrev pub Heard : Purpose T W → QueueCall T → Option (QueueReply T) → Stage (QueueCall T) T W → Option (Reply T) → Type 0
  Heard purpose after None next r = (next ≡ Trying after purpose) × (r ≡ None)
  Heard purpose after (Some x) next r = Takes (answered_next purpose x) next r

module _ {T W X : Type 0} (did : Deed T W → X → X → Type 0) where
  -- a listener is taken off, if one is held
  abbrev pub Leaves : Option ListenerRef → X → X → Type 0
  Leaves None s t = t ≡ s
  Leaves (Some held) s t = (names : List W) × did (taken_off held.line held.key names) s t

  -- a step on a list or on a count
  abbrev pub WorkMakes : ListStep T W → X → X → Mark → Stage (QueueCall T) T W → Option (Reply T) → Type 0
  WorkMakes (TellReceive e) s t m next r = (names : List W) × did (told Receives One names) s t × Marked Nothing (Works (TellStreams e)) m next r
  WorkMakes (TellStreams e) s t m next r = (names : List W) × did (told Streams All names) s t × Marked Nothing (ends_by e) m next r
  WorkMakes (TellSend e) s t m next r = (names : List W) × did (told Sends One names) s t × Marked Nothing (ends_by e) m next r
  WorkMakes (TellSends n e) s t m next r = (names : List W) × did (told Sends (More n) names) s t × Marked Nothing (ends_by e) m next r
  WorkMakes (TakeRoom n) s t m next r = (turn : NextStep T W) × (t ≡ s) × TakesRoom n turn × Marked Nothing turn m next r
  WorkMakes (TellAll line c) s t m next r = (names : List W) × did (told line All names) s t × Marked Nothing (told_all_next line c) m next r
  WorkMakes (Insert w task) s t m next r =
      (o : Result Key ListenError) × did (inserted (line_of w) o) s t × Marked Nothing (inserted_next w task o) m next r
  WorkMakes (Register w key task) s t m next r =
      (o : Option W) × did (registered (line_of w) key task o) s t × Marked Nothing (registered_next w key o) m next r
  WorkMakes (Leave e) s t m next r = Leaves e.held s t × Marked Nothing (Ends e.reply (leaving None e.message)) m next r
  WorkMakes (Lower side key) s t m next r = (n : ℕ) × did (lowered side n) s t × Marked (down side) (lowered_next side key n) m next r
  WorkMakes (Count side) s t m next r = (n : ℕ) × did (counted side n) s t × Marked Nothing (Ends (reply.Count n) nothing_kept) m next r
  WorkMakes (Load side making) s t m next r = (n : ℕ) × did (counted side n) s t × Marked Nothing (loaded_next side making n) m next r
  WorkMakes (Raise side n making) s t m next r =
      (b : Bool) × did (raised side n b) s t × Marked (raised_mark side b) (raised_next side making b) m next r

  -- one step of a call at this stage; one that has answered does nothing
  abbrev pub ChannelMakes : Stage (QueueCall T) T W → X → X → Mark → Stage (QueueCall T) T W → Option (Reply T) → Type 0
  ChannelMakes (Trying call purpose) s t m next r =
      (after : QueueCall T) × (o : Option (QueueReply T)) × did (stepped call after o) s t × (m ≡ mark_of_queue (mark_of after)) × Heard purpose after o next r
  ChannelMakes (Working w) s t m next r = WorkMakes w s t m next r
  ChannelMakes (Finished kept) s t m next r = (t ≡ s) × (m ≡ Nothing) × (next ≡ Finished kept) × (r ≡ None)

  -- so many steps, none of which answers
  abbrev pub Leads : ℕ → X → Stage (QueueCall T) T W → X → Stage (QueueCall T) T W → Type 0
  Leads zero s a t b = (t ≡ s) × (b ≡ a)
  Leads (suc n) s a t b = (x : X) × (y : Stage (QueueCall T) T W) × (m : Mark) × ChannelMakes a s x m y None × Leads n x y t b

  -- steps of a call from this stage lead to this answer, with this left to the call's operation
  abbrev pub Walked : Stage (QueueCall T) T W → X → Reply T → Returned T → X → Type 0
  Walked a s r kept t =
      (n : ℕ) × (x : X) × (b : Stage (QueueCall T) T W) × (m : Mark) × (c : Stage (QueueCall T) T W)
      × Leads n s a x b × ChannelMakes b x t m c (Some r) × (kept ≡ kept_by c)

  -- the same of a call that begins with this turn
  abbrev pub WalkedFrom : NextStep T W → X → Reply T → Returned T → X → Type 0
  WalkedFrom turn s r kept t = (a : Stage (QueueCall T) T W) × Takes turn a None × Walked a s r kept t

  -- and of one that no operation makes, whatever it leaves
  abbrev pub WalkedTo : NextStep T W → X → Reply T → X → Type 0
  WalkedTo turn s r t = (kept : Returned T) × WalkedFrom turn s r kept t

  -- and of one that hands on the call that is to be stepped on, or leaves nothing to an operation
  abbrev pub WalkedOn : NextStep T W → X → Result (Reply T) (ChannelCall T W) → X → Type 0
  WalkedOn turn s (Ok r) t = WalkedFrom turn s r nothing_kept t
  WalkedOn turn s (Err call) t = (a : Stage (QueueCall T) T W) × Takes turn a None × (n : ℕ) × Leads n s a t call.stage

  -- and of a poll that is over, or hands on the call that is to be stepped on
  abbrev pub WalkedOver : NextStep T W → X → Result (Completed T) (ChannelCall T W) → X → Type 0
  WalkedOver turn s (Ok over) t = WalkedFrom turn s over.reply over.kept t
  WalkedOver turn s (Err call) t = WalkedOn turn s (Err call) t
