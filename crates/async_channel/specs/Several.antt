-- What a receive of several messages into a list of its own does, by what it answers.
use Rattle.std.specs.Prelude.{ℕ, Result, Ok, Err, MatchResult}
use Rattle.std.specs.Global.{Vec}
use Rattle.channel_calls.specs.Asks.{first}
use Rattle.channel_calls.specs.Deeds.{Deed}
use Rattle.channel_calls.specs.Walks.{WalkedTo}
use Rattle.channel_calls.specs.declared.ask.ChannelAsk.TheVariants as ask
use Rattle.channel_calls.specs.declared.error.Refused.{Refused}
use Rattle.channel_calls.specs.declared.error.TryRecvError.{TryRecvError}
use Rattle.channel_calls.specs.declared.reply.Reply.TheVariants as reply

module _ {T W X : Type 0} (did : Deed T W → X → X → Type 0) where
  -- of at most so many: the machine's call answered these messages in order, or this refusal
  abbrev pub ReceivesMany : ℕ → X → Result (Vec T) (Refused TryRecvError Unit) → X → Type 0
  ReceivesMany limit s r t =
      MatchResult r (λ messages. WalkedTo did (first (ask.RecvMany limit)) s (reply.RecvMany (Ok messages.items)) t) (λ e. WalkedTo did (first (ask.RecvMany limit)) s (reply.RecvMany (Err e)) t)
