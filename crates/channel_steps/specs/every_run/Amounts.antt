-- One that waits on a list: what the calls under way count for is enough, or one of them has the listener in hand.
use Rattle.std.specs.Prelude.{◌≡◌, ℕ, ◌+◌, List, [], ◌∷◌, None, Some, ◌⊎◌}
use Rattle.concurrent_queue.specs.Queue.{Phase, Stage, trying}
use Rattle.event_listener.specs.declared.key.Key.{Key}
use Rattle.channel_calls.specs.Moves.{Channel}
use Rattle.channel_calls.specs.declared.ask.ChannelAsk.{ChannelAsk}
use Rattle.channel_calls.specs.declared.stage.Purpose.TheVariants as purpose
use Rattle.channel_calls.specs.declared.stage.WaitList.{WaitList}
use Rattle.channel_calls.specs.declared.stage.Stage as stage
use Rattle.channel_calls.specs.declared.stage.Stage.TheVariants.{Trying, Working}
use Rattle.channel_calls.specs.declared.stage.ListStep.TheVariants.{TellReceive, TellStreams, TellSend, Leave}
use Rattle.channel_steps.specs.Configuration.{ActiveCall, Configuration}
use Rattle.channel_steps.specs.every_run.Ends.{Each}
use Rattle.channel_steps.specs.every_run.Waits.{Waits, Any}

module _ {T : Type 0} where
  -- 1 for a call of the queue that has no mark yet
  abbrev pub is_trying : Stage T → ℕ
  is_trying (trying seen) = 1
  is_trying s = 0

module _ {T W : Type 0} where
  -- 1 for a poll that tries with no listener in hand: it has none yet, or its listener was told and is used up
  abbrev pub is_trying_anew : stage.Stage (Phase T) T W → ℕ
  is_trying_anew (Trying f (purpose.Poll line None task)) = is_trying f.stage
  is_trying_anew at = 0

  -- what these calls count for together, where each counts for so much by what it asks and how far it has come
  abbrev pub total : (ChannelAsk T W → stage.Stage (Phase T) T W → ℕ) → List (ActiveCall T W) → ℕ
  total weigh [] = 0
  total weigh (u ∷ us) = weigh u.ask u.at + total weigh us

  -- the poll that listens on this list under this key tries again, or it has its answer and leaves the list at its end
  abbrev pub HoldsListener : WaitList → Key → stage.Stage (Phase T) T W → Type 0
  HoldsListener line key (Trying f (purpose.Poll at (Some k) task)) = (at ≡ line) × (k ≡ key)
  HoldsListener line key (Working (TellReceive x)) = x.held ≡ Some (record { line = line; key = key })
  HoldsListener line key (Working (TellStreams x)) = x.held ≡ Some (record { line = line; key = key })
  HoldsListener line key (Working (TellSend x)) = x.held ≡ Some (record { line = line; key = key })
  HoldsListener line key (Working (Leave x)) = x.held ≡ Some (record { line = line; key = key })
  HoldsListener line key at = ⊥

  module _ (line : WaitList) (Enough : Channel T W → ℕ → Type 0) (weigh : ChannelAsk T W → stage.Stage (Phase T) T W → ℕ) (Holds : Key → stage.Stage (Phase T) T W → Type 0) where
    -- if one waits on this list, what the calls under way count for is enough, or a call has its listener in hand
    abbrev pub AreOwed : Configuration T W → Type 0
    AreOwed s =
        (key : Key) → Waits line key s.now → Enough s.now (total weigh s.under_way) ⊎ Any (λ u. Holds key u.at) s.under_way

    -- one whose listener no call under way has in hand, as where its poll ended pending: it is enough
    abbrev pub PendingAreOwed : Configuration T W → Type 0
    PendingAreOwed s =
        (key : Key) → Waits line key s.now → Each (λ u. Holds key u.at → ⊥) s.under_way → Enough s.now (total weigh s.under_way)
