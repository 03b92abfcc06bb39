-- A call that blocks its thread, as the calls that it makes one after another: some that don't wait, a first poll, and polls that ask
-- their listener first. Between them it asks for a task and sleeps, which touches nothing of the channel.
use Rattle.std.specs.Prelude.{◌≡◌, ◌⊎◌, ℕ, zero, suc, Option, None, Some}
use Rattle.concurrent_queue.specs.declared.queue_call.QueueCall.{QueueCall}
use Rattle.event_listener.specs.declared.key.Key.{Key}
use Rattle.channel_calls.specs.Asks.{first, lent}
use Rattle.channel_calls.specs.Blocks.{waiting_of, poll_woken, still_waits, Looks, Blocks}
use Rattle.channel_calls.specs.Deeds.{Deed, registered, taken_off}
use Rattle.channel_calls.specs.Turns.{line_of, message_of}
use Rattle.channel_calls.specs.Walks.{Takes, Leads, WalkedFrom}
use Rattle.channel_calls.specs.declared.ask.ChannelAsk.{ChannelAsk}
use Rattle.channel_calls.specs.declared.ask.ChannelAsk.TheVariants.{PollSend, PollRecv, RefusePoll}
use Rattle.channel_calls.specs.declared.blocked.Blocked.{Blocked}
use Rattle.channel_calls.specs.declared.blocked.Blocked.TheVariants.{Send, Receive}
use Rattle.channel_calls.specs.declared.reply.Reply.{Reply}
use Rattle.channel_calls.specs.declared.stage.Returned.{Returned}
use Rattle.channel_calls.specs.declared.stage.Stage.{Stage}
use Rattle.channel_calls.specs.declared.stage.Stage.TheVariants.{Working}
use Rattle.channel_calls.specs.declared.stage.ListStep.TheVariants.{Register}

module _ {T W : Type 0} where
  -- its first poll, which tries first and has no listener yet
  abbrev pub first_poll : Blocked T → W → ChannelAsk T W
  first_poll (Send m) task = PollSend m (lent None) task
  first_poll Receive task = PollRecv (lent None) task

  -- the poll that is refused its task, and drops this listener
  abbrev pub poll_refused : Blocked T → Key → ChannelAsk T W
  poll_refused b key = RefusePoll (line_of (waiting_of b)) (message_of (waiting_of b)) (Some key)

  -- what it may ask next, its poll having left this listener
  abbrev pub MayAskNext : Blocked T → Key → ChannelAsk T W → Type 0
  MayAskNext b key ask = ((task : W) × (ask ≡ poll_woken b key task)) ⊎ (ask ≡ poll_refused b key)

module _ {T W X : Type 0} (did : Deed T W → X → X → Type 0) where
  -- polls one after another, the first of which asks this. Each but the last waits, and leaves its listener to the next one
  abbrev pub PollsInTurn : ℕ → ChannelAsk T W → Blocked T → X → Reply T → Returned T → X → Type 0
  PollsInTurn zero ask b s r kept t = WalkedFrom did (first ask) s r kept t
  PollsInTurn (suc n) ask b s r kept t =
      (key : Key) × (x : X) × WalkedFrom did (first ask) s (still_waits b key).reply (still_waits b key).kept x
      × (next : ChannelAsk T W) × MayAskNext b key next × PollsInTurn n next b x r kept t

  -- calls that don't wait, and polls from the first one to that which answers
  abbrev pub InCalls : Blocked T → X → Reply T → Returned T → X → Type 0
  InCalls b s r kept t = (n : ℕ) × (x : X) × Looks did n b s x × (task : W) × (m : ℕ) × PollsInTurn m (first_poll b task) b x r kept t

  -- It was refused its task before it ever slept: its first poll stands for ever where it was to register this listener, and beside
  -- it a poll is made that is refused its task, as by another party.
  abbrev pub IsLeft : Blocked T → X → Reply T → Returned T → X → Type 0
  IsLeft b s r kept t =
      (n : ℕ) × (x : X) × Looks did n b s x × (task : W) × (key : Key) × (at : Stage (QueueCall T) T W) × Takes (first (first_poll b task)) at None
      × (m : ℕ) × (y : X) × Leads did m x at y (Working (Register (waiting_of b) key task)) × WalkedFrom did (first (poll_refused b key)) y r kept t

module _ {T W X : Type 0} (did : Deed T W → X → X → Type 0) (asked : Option W → X → X → Type 0) (slept : X → X → Type 0) where
  -- the thread asks for a task or sleeps, so many times
  abbrev pub Rests : ℕ → X → X → Type 0
  Rests zero s t = t ≡ s
  Rests (suc n) s t = (x : X) × (((o : Option W) × asked o s x) ⊎ slept s x) × Rests n x t

  -- a deed before which it may have rested, if it registers or removes a listener
  abbrev pub Rested : Deed T W → X → X → Type 0
  Rested (registered line key task o) s t = (n : ℕ) × (x : X) × Rests n s x × did (registered line key task o) x t
  Rested (taken_off line key names) s t = (n : ℕ) × (x : X) × Rests n s x × did (taken_off line key names) x t
  Rested d s t = did d s t

-- what a call that blocks has done is what these calls do, its rests aside; a call without a task of its own may take any for the first
-- poll
abbrev pub BlocksInCalls : {T W X : Type 0} → (Deed T W → X → X → Type 0) → (Option W → X → X → Type 0) → (X → X → Type 0) → Type 0
BlocksInCalls {T} {W} {X} did asked slept =
    (b : Blocked T) (task : W) (s : X) (r : Reply T) (kept : Returned T) (t : X) → Blocks did asked slept b s r kept t
    → InCalls (Rested did asked slept) b s r kept t ⊎ IsLeft (Rested did asked slept) b s r kept t
