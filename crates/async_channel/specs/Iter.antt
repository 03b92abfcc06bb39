-- What a walk over a receiver's messages gives next, as the trace that its channel is watched by was shown, and how often it may still be
-- asked.
use Rattle.std.specs.Prelude.{ℕ, Bool, Option, Result, Ok, Err, MatchOption}
use Rattle.concurrent_queue.specs.Deeds as cell
use Rattle.event_listener.specs.declared.error.ListenError.{ListenError}
use Rattle.channel_calls.specs.Deeds.{Deed}
use Rattle.channel_calls.specs.Taking.{IsNext, WaitsForNext}
use Rattle.channel_calls.specs.declared.ask.ChannelAsk.TheVariants as ask
use Rattle.channel_calls.specs.declared.error.TryRecvError.{TryRecvError}
use Rattle.channel_calls.specs.declared.reply.Reply.TheVariants as reply
use Rattle.event_listener.specs.declared.waking.Task.{Task}
use Rattle.async_channel.specs.Called.{GaveNext, WasMade}
use Rattle.async_channel.specs.Handles.{Handle}
use Rattle.async_channel.specs.Parties.{Seat}
use Rattle.async_channel.specs.Watched.{WasSeen}
use Rattle.async_channel.specs.declared.handles.turns.Turns.{Turns}

abbrev pub turns_left : Turns → ℕ
turns_left t = t.left

module _ {T X : Type 0} (did : cell.Deed T → X → X → Type 0) (shown : Deed T Task → X → X → Type 0) (entered : ℕ → X → X → Type 0) (called : Seat T → Type 0) where
  -- of a walk that waits, which had ended or not: what one receive that blocks answered, and after the end nothing
  abbrev pub GivesNext : (Option Task → X → X → Type 0) → (X → X → Type 0) → Handle → Bool → Option (Result T ListenError) → Type 0
  GivesNext parked slept channel ended item =
      MatchOption channel.table (WasSeen did shown entered channel (λ saw. WaitsForNext saw parked slept ended) item) (λ table. GaveNext called table ended item)

  -- it has ended then where it gave nothing
  abbrev pub WaitsOnce : (Option Task → X → X → Type 0) → (X → X → Type 0) → Handle → Bool → Option (Result T ListenError) → Bool → Type 0
  WaitsOnce parked slept channel ended item after = GivesNext parked slept channel ended item × IsNext ended item after

  -- of a walk that doesn't wait: what one receive answered. It was refused if there is no item, whatever came before
  abbrev pub TriesOnce : Handle → Option T → Type 0
  TriesOnce channel item =
      MatchOption item ((e : TryRecvError) × WasMade did shown entered called channel ask.TryRecv (reply.TryRecv (Err e))) (λ message. WasMade did shown entered called channel ask.TryRecv (reply.TryRecv (Ok message)))
