-- What a look tells to whoever was told that no message will come any more.
use Rattle.std.specs.Prelude.{◌≡◌, List, ◌∷◌, ◌++◌, length}
use Rattle.concurrent_queue.specs.declared.history.rule.View.{View}
use Rattle.event_listener.specs.declared.key.Key.{Key}
use Rattle.channel_calls.specs.declared.stage.WaitList.{WaitList}
use Rattle.channel_calls.specs.declared.whole.Completed.{Completed}
use Rattle.channel_steps.specs.Configuration.{Configuration}
use Rattle.channel_steps.specs.Moments.{Spent}
use Rattle.channel_steps.specs.every_run.Bridge.{LastsFor}
use Rattle.channel_steps.specs.every_run.Closings.{HasClosed, HasToTell, LooksAgain}
use Rattle.channel_steps.specs.every_run.Ends.{Each, SaysTheEnd}
use Rattle.channel_steps.specs.every_run.Waits.{Any, Waits}
use Rattle.channel_history.specs.Machine.{states}
use Rattle.channel_history.specs.Says.{configuration_of}
use Rattle.channel_history.specs.declared.party.Standing.{Standing}
use Rattle.channel_cells.specs.Look.{IsTold}

module _ {T W : Type 0} where
  -- a party was given a reply that no message will come any more
  pub record WasToldTheEnd (s : Standing T W) : Type 0 where
    pub earlier : List (Completed T)
    pub completed : Completed T
    pub later : List (Completed T)
    pub given : s.given ≡ earlier ++ completed ∷ later
    pub end : SaysTheEnd completed.reply

  -- a channel at its end
  pub record OverSays (s : Configuration T W) : Type 0 where
    -- it is closed, with nothing there and nothing in flight
    pub spent : Spent s.now
    -- all that was accepted was taken, in order
    pub all_taken : s.came ≡ s.gone
    -- who waits on a list, and whose listener no call has in hand, is yet to be notified by the call that closed the channel
    pub owed : (line : WaitList) (key : Key) → Waits line key s.now → Each (λ u. LooksAgain line key u.at → ⊥) s.under_way
        → Any (λ u. HasClosed u.marks × HasToTell line u.at) s.under_way

  -- what a look tells; and as long as positions last, that the channel is at its end
  pub record IsOver (v : View T (Standing T W)) : Type 0 where
    pub told : IsTold v
    pub over : (lasts : LastsFor (length told.history.events) v.form)
        → OverSays (configuration_of v.form (states told.views) told.cells told.senders told.receivers told.history (told.run lasts).says)
