-- A receive of several messages into room that its caller has, over any cells, whatever they hold.
use Rattle.std.specs.Prelude.{◌≡◌, ℕ, ◌-◌, List, [], ◌++◌, length, Result, Ok, Err}
use Rattle.std.specs.Global.{Vec}
use Rattle.std.specs.Vec.{vec_len, vec_capacity}
use Rattle.concurrent_queue.specs.declared.call.QueueReply.{QueueReply}
use Rattle.concurrent_queue.specs.declared.call.QueueReply.TheVariants.{Pop}
use Rattle.concurrent_queue.specs.declared.error.PopError.TheVariants as pop_error
use Rattle.channel_calls.specs.Asks.{first}
use Rattle.channel_calls.specs.Deeds.{Deed}
use Rattle.channel_calls.specs.Walks.{WalkedTo}
use Rattle.channel_calls.specs.declared.ask.ChannelAsk.TheVariants as ask
use Rattle.channel_calls.specs.declared.error.Refused.TheVariants.{Plain}
use Rattle.channel_calls.specs.declared.error.TryRecvError.{TryRecvError}
use Rattle.channel_calls.specs.declared.error.TryRecvError.TheVariants as try_recv_error
use Rattle.channel_calls.specs.declared.reply.Reply.TheVariants as reply

-- how many more messages fit
abbrev pub room_in : {T : Type 0} → Vec T → ℕ
room_in v = vec_capacity v - vec_len v

-- what the queue has answered
abbrev pub popped_as : {T : Type 0} → Result T TryRecvError → QueueReply T
popped_as (Ok v) = Pop (Ok v)
popped_as (Err try_recv_error.Empty) = Pop (Err pop_error.Empty)
popped_as (Err try_recv_error.Closed) = Pop (Err pop_error.Closed)

-- what was taken stands behind what was there, and their number is the answer; or nothing was
abbrev pub StandsBehind : {T : Type 0} → List T → Result ℕ TryRecvError → List T → Type 0
StandsBehind {T} before (Ok n) after = (taken : List T) × (after ≡ before ++ taken) × (n ≡ length taken)
StandsBehind before (Err e) after = after ≡ before

module _ {T W X : Type 0} (did : Deed T W → X → X → Type 0) where
  -- a receive of at most so many took these, their number being the answer; or none, and this is why
  abbrev pub TookAtMost : ℕ → X → Result ℕ TryRecvError → List T → X → Type 0
  TookAtMost room s (Ok n) taken t = (n ≡ length taken) × WalkedTo did (first (ask.RecvMany room)) s (reply.RecvMany (Ok taken)) t
  TookAtMost room s (Err e) taken t = (taken ≡ []) × WalkedTo did (first (ask.RecvMany room)) s (reply.RecvMany (Err (Plain e))) t

  -- what it took stands behind what was there
  abbrev pub Fills : ℕ → List T → X → Result ℕ TryRecvError → List T → X → Type 0
  Fills room before s r after t = (taken : List T) × (after ≡ before ++ taken) × TookAtMost room s r taken t
