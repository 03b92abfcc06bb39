-- A walk that waits for the messages of a channel: the receives that give its items, over any cells, whatever they hold.
use Rattle.std.specs.Prelude.{◌≡◌, Bool, true, false, Option, None, Some, Result, Ok, Err}
use Rattle.event_listener.specs.declared.error.ListenError.{ListenError}
use Rattle.futures.specs.declared.task.Poll.TheVariants.{Ready}
use Rattle.channel_calls.specs.Blocks.{Blocks}
use Rattle.channel_calls.specs.Deeds.{Deed}
use Rattle.channel_calls.specs.Turns.{want, nothing_kept}
use Rattle.channel_calls.specs.declared.blocked.Blocked.TheVariants.{Receive}
use Rattle.channel_calls.specs.declared.error.RecvError.{RecvError}
use Rattle.channel_calls.specs.declared.error.Refused.{Refused}
use Rattle.channel_calls.specs.declared.error.Refused.TheVariants.{Plain}
use Rattle.channel_calls.specs.declared.reply.Reply.TheVariants as reply

-- what a receive that blocks has answered where the walk gives this: only a closed and empty channel ends it
abbrev pub waited_for : {T : Type 0} → Option (Result T ListenError) → Result T (Refused RecvError Unit)
waited_for (Some (Ok v)) = Ok v
waited_for (Some (Err e)) = Err (want e)
waited_for None = Err (Plain (record {}))

-- what has ended gives nothing and does nothing; else the next item is what one receive that blocks answers
module _ {T W X : Type 0} (did : Deed T W → X → X → Type 0) (asked : Option W → X → X → Type 0) (slept : X → X → Type 0) where
  abbrev pub WaitsForNext : Bool → X → Option (Result T ListenError) → X → Type 0
  WaitsForNext true s item t = (item ≡ None) × (t ≡ s)
  WaitsForNext false s item t = Blocks did asked slept Receive s (reply.RecvPoll (Ready (waited_for item))) nothing_kept t

-- whether a walk has ended before and after it gave this: it ends where it gives nothing, and then gives nothing more
abbrev pub IsNext : {A : Type 0} → Bool → Option A → Bool → Type 0
IsNext true item ended = (item ≡ None) × (ended ≡ true)
IsNext false (Some v) ended = ended ≡ false
IsNext false None ended = ended ≡ true
