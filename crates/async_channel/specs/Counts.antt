-- What a clone, an upgrade and a drop of a strong handle do, by what they answer.
use Rattle.std.specs.Prelude.{◌≡◌, Option, None, Some, Result, Ok, Err}
use Rattle.channel_calls.specs.Asks.{first}
use Rattle.channel_calls.specs.Calls.{made_answer, upgraded_answer}
use Rattle.channel_calls.specs.Deeds.{Deed}
use Rattle.channel_calls.specs.Walks.{WalkedTo}
use Rattle.channel_calls.specs.declared.ask.ChannelAsk.{ChannelAsk}
use Rattle.channel_calls.specs.declared.ask.ChannelAsk.TheVariants.{CloneHandle, Upgrade}
use Rattle.channel_calls.specs.declared.error.HandleError.{HandleError}
use Rattle.channel_calls.specs.declared.error.HandleError.TheVariants.{NoMemory, TooMany}
use Rattle.channel_calls.specs.declared.reply.Reply.{Reply}
use Rattle.channel_calls.specs.declared.reply.Reply.TheVariants as reply
use Rattle.channel_calls.specs.declared.stage.Side.{Side}

module _ {T W X : Type 0} (did : Deed T W → X → X → Type 0) where
  -- too many live; or memory was refused, and nothing was done
  abbrev pub CloneRefused : Side → X → HandleError → X → Type 0
  CloneRefused side s TooMany t = (r : Reply T) × (made_answer r ≡ Err TooMany) × WalkedTo did (first (CloneHandle side)) s r t
  CloneRefused side s NoMemory t = t ≡ s

  abbrev pub UpgradeRefused : Side → X → HandleError → X → Type 0
  UpgradeRefused side s TooMany t = (r : Reply T) × (upgraded_answer r ≡ Err TooMany) × WalkedTo did (first (Upgrade side)) s r t
  UpgradeRefused side s NoMemory t = t ≡ s

  -- a handle is made where it was counted
  abbrev pub Clones : {A : Type 0} → Side → X → Result A HandleError → X → Type 0
  Clones side s (Ok a) t = WalkedTo did (first (CloneHandle side)) s reply.Made t
  Clones side s (Err e) t = CloneRefused side s e t

  abbrev pub Upgrades : {A : Type 0} → Side → X → Result (Option A) HandleError → X → Type 0
  Upgrades side s (Ok (Some a)) t = WalkedTo did (first (Upgrade side)) s reply.Made t
  Upgrades side s (Ok None) t = WalkedTo did (first (Upgrade side)) s reply.NotMade t
  Upgrades side s (Err e) t = UpgradeRefused side s e t

  -- whatever a drop answers, which nobody hears
  abbrev pub Drops : ChannelAsk T W → X → Unit {0} → X → Type 0
  Drops ask s u t = (r : Reply T) × WalkedTo did (first ask) s r t
