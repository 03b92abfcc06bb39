-- A call that blocks its thread: rounds of polls of the machine, over any cells, whatever they hold. Between two rounds it sleeps.
use Rattle.std.specs.Prelude.{◌≡◌, ◌⊎◌, ℕ, zero, suc, false, Option, None, Some, Err}
use Rattle.concurrent_queue.specs.declared.queue_call.QueueCall.{QueueCall}
use Rattle.event_listener.specs.declared.key.Key.{Key}
use Rattle.channel_calls.specs.Asks.{first, woken}
use Rattle.channel_calls.specs.Deeds.{Deed}
use Rattle.channel_calls.specs.Listed.{pends}
use Rattle.channel_calls.specs.Turns.{again, line_of, message_of, leaving, pending_reply}
use Rattle.channel_calls.specs.Walks.{Takes, Leads, WalkedFrom, WalkedTo}
use Rattle.channel_calls.specs.declared.ask.ChannelAsk.{ChannelAsk}
use Rattle.channel_calls.specs.declared.ask.ChannelAsk.TheVariants.{TrySend, TryRecv, PollSend, PollRecv, RefusePoll}
use Rattle.channel_calls.specs.declared.blocked.Blocked.{Blocked}
use Rattle.channel_calls.specs.declared.blocked.Blocked.TheVariants.{Send, Receive}
use Rattle.channel_calls.specs.declared.error.Refused.TheVariants.{Plain}
use Rattle.channel_calls.specs.declared.error.TryRecvError.TheVariants.{Empty}
use Rattle.channel_calls.specs.declared.error.TrySendError.TheVariants.{Full}
use Rattle.channel_calls.specs.declared.reply.Reply.{Reply}
use Rattle.channel_calls.specs.declared.reply.Reply.TheVariants as reply
use Rattle.channel_calls.specs.declared.stage.Returned.{Returned}
use Rattle.channel_calls.specs.declared.stage.Stage.{Stage}
use Rattle.channel_calls.specs.declared.stage.Stage.TheVariants.{Working}
use Rattle.channel_calls.specs.declared.stage.Waiting.{Waiting}
use Rattle.channel_calls.specs.declared.stage.Waiting.TheVariants as waiting
use Rattle.channel_calls.specs.declared.stage.ListStep.TheVariants.{Register}
use Rattle.channel_calls.specs.declared.whole.Completed.{Completed}

module _ {T : Type 0} where
  -- the operation whose polls it makes
  abbrev pub waiting_of : Blocked T → Waiting T
  waiting_of (Send m) = waiting.Send m
  waiting_of Receive = waiting.Receive

  -- the call that tries once, and what it answers if there is no place or no message
  abbrev pub at_once : {W : Type 0} → Blocked T → ChannelAsk T W
  at_once (Send m) = TrySend m
  at_once Receive = TryRecv

  abbrev pub not_yet : Blocked T → Reply T
  not_yet (Send m) = reply.TrySend (Err (Plain (Full m)))
  not_yet Receive = reply.TryRecv (Err Empty)

  -- the poll that it makes once it has listened and slept, which asks its listener first
  abbrev pub poll_woken : {W : Type 0} → Blocked T → Key → W → ChannelAsk T W
  poll_woken (Send m) key task = PollSend m (woken key) task
  poll_woken Receive key task = PollRecv (woken key) task

  -- a poll of it waits, and this is its listener
  abbrev pub still_waits : Blocked T → Key → Completed T
  still_waits b key = record { reply = pending_reply (line_of (waiting_of b)); kept = leaving (Some key) (message_of (waiting_of b)) }

-- a task was asked for, or the thread slept; nobody was woken
abbrev pub Asked : {W C S : Type 0} → (Option W → C → C → Type 0) → Option W → C × S → C × S → Type 0
Asked parked o before now = parked o before.0 now.0 × (now.1 ≡ before.1)

abbrev pub Slept : {C S : Type 0} → (C → C → Type 0) → C × S → C × S → Type 0
Slept slept before now = slept before.0 now.0 × (now.1 ≡ before.1)

module _ {T W X : Type 0} (did : Deed T W → X → X → Type 0) where
  -- it looks so many times: each time a call that doesn't wait finds no place or no message
  abbrev pub Looks : ℕ → Blocked T → X → X → Type 0
  Looks zero b s t = t ≡ s
  Looks (suc n) b s t = (x : X) × Looks n b s x × WalkedTo did (first (at_once b)) x (not_yet b) t

  -- a first poll of it, whichever its task, comes to this answer
  abbrev pub AnswersAtFirst : Blocked T → X → Reply T → Returned T → X → Type 0
  AnswersAtFirst b s r kept t = (task : W) → WalkedFrom did (again (waiting_of b) None task) s r kept t

  -- or comes to where it is next to register this listener
  abbrev pub Listens : Blocked T → X → Key → X → Type 0
  Listens b s key t =
      (task : W) → (a : Stage (QueueCall T) T W) × Takes (again (waiting_of b) None task) a None
      × (n : ℕ) × Leads did n s a t (Working (Register (waiting_of b) key task))

module _ {T W X : Type 0} (did : Deed T W → X → X → Type 0) (asked : Option W → X → X → Type 0) (slept : X → X → Type 0) where
  -- it is next to register this listener. It asks for a task; the poll that registers with it waits; the call sleeps, and is then next
  -- to register the listener that this poll left
  abbrev pub Round : Blocked T → Key → X → Key → X → Type 0
  Round b key s next t =
      (task : W) × (x y : X) × asked (Some task) s x
      × WalkedFrom did (first (poll_woken b key task)) x (still_waits b next).reply (still_waits b next).kept y × slept y t

  abbrev pub Rounds : ℕ → Blocked T → Key → X → Key → X → Type 0
  Rounds zero b key s next t = (next ≡ key) × (t ≡ s)
  Rounds (suc n) b key s next t = (k : Key) × (x : X) × Rounds n b key s k x × Round b k x next t

  -- at last it gets no task, and its listener leaves; or the poll that registers is over
  abbrev pub Wakens : Blocked T → Key → X → Reply T → Returned T → X → Type 0
  Wakens b key s r kept t =
      ((x : X) × asked None s x × WalkedFrom did (first (RefusePoll (line_of (waiting_of b)) (message_of (waiting_of b)) (Some key))) x r kept t)
      ⊎ ((task : W) × (x : X) × asked (Some task) s x × WalkedFrom did (first (poll_woken b key task)) x r kept t × (pends r ≡ false))

  abbrev pub SleepsOn : Blocked T → Key → X → Reply T → Returned T → X → Type 0
  SleepsOn b key s r kept t = (n : ℕ) × (k : Key) × (x : X) × Rounds n b key s k x × Wakens b k x r kept t

  -- it looks some times, and begins; if its first poll listens, it sleeps
  abbrev pub Blocks : Blocked T → X → Reply T → Returned T → X → Type 0
  Blocks b s r kept t =
      (n : ℕ) × (x : X) × Looks did n b s x
      × (AnswersAtFirst did b x r kept t ⊎ ((key : Key) × (y : X) × Listens did b x key y × SleepsOn b key y r kept t))
