-- What a look at a channel tells, at any moment and whatever other threads are in the midst of.
use Rattle.std.specs.Prelude.{◌≡◌, ◌⊎◌, ℕ, List, ◌∷◌, length}
use mathlib.Core.Option.{some}
use lib.ListN.{get_elem?}
use Rattle.concurrent_queue.specs.Contents.{Contents}
use Rattle.concurrent_queue.specs.history.Joined.{AllStood, EachOnce}
use Rattle.concurrent_queue.specs.declared.cells.QueueForm.{QueueForm}
use Rattle.concurrent_queue.specs.declared.history.rule.View.{View}
use Rattle.event_listener.specs.declared.key.Key.{Key}
use Rattle.channel_calls.specs.declared.stage.Side.{Side}
use Rattle.channel_calls.specs.declared.stage.WaitList.{WaitList}
use Rattle.channel_steps.specs.Moments.{Shut}
use Rattle.channel_steps.specs.every_run.Bridge.{LastsFor}
use Rattle.channel_steps.specs.every_run.Waits.{Any}
use Rattle.channel_history.specs.Accounts.{Accounts}
use Rattle.channel_history.specs.Handles.{CountSays}
use Rattle.channel_history.specs.History.{IsChannelHistory, count_of}
use Rattle.channel_history.specs.Machine.{states}
use Rattle.channel_history.specs.Registrations.{ListenerSays}
use Rattle.channel_history.specs.Party.{standing_of as party_in}
use Rattle.channel_history.specs.Says.{HistorySays, MomentSays, AtRest, RestSays, configuration_of}
use Rattle.channel_history.specs.declared.party.Standing.{Standing}
use Rattle.channel_cells.specs.LastHandle.{ClosesNext}

module _ {T W : Type 0} where
  -- a history is a run of the channel, of which the headline holds: each message in order and once, each reply at moments of its call, and
  -- no pending waiter was missed
  pub record RunSays (form : QueueForm) (views : List (Standing T W)) (cells : Contents T) (senders receivers : ℕ) (history : IsChannelHistory form views cells senders receivers) : Type 0 where
    pub says : HistorySays form views cells senders receivers history
    pub moment : MomentSays form views cells senders receivers history says
    -- each message that came in or left is a party's, by what its calls asked and were given
    pub accounts : Accounts (λ p. (party_in views p).asked) (λ p. (party_in views p).given) (configuration_of form views cells senders receivers history says)
    -- if no handle of a kind lives the channel is closed, or a call under way closes it by its next step
    pub last : (side : Side) → count_of side senders receivers ≡ 0
        → Shut (configuration_of form views cells senders receivers history says).now ⊎ Any (λ u. ClosesNext side u.at) (configuration_of form views cells senders receivers history says).under_way
    -- and if no call is under way nobody is missed
    pub rest : AtRest form views cells senders receivers history → RestSays form views cells senders receivers history says

  -- there is one history of what all parties did, in which the party of this view stands where it says, and so does each that was joined in
  pub record IsTold (v : View T (Standing T W)) : Type 0 where
    pub views : List (View T (Standing T W))
    pub cells : Contents T
    pub senders : ℕ
    pub receivers : ℕ
    pub history : IsChannelHistory v.form (states views) cells senders receivers
    pub here : get_elem? views v.who ≡ some v
    pub stood : AllStood views v.over
    pub once : EachOnce ((v.who, v.state) ∷ v.over)
    -- each count is the number of handles
    pub counts : (side : Side) → CountSays (states views) side (count_of side senders receivers)
    -- each listener of an operation is on its list, and each on a list is one operation's
    pub listeners : (line : WaitList) (key : Key) → ListenerSays (states views) line key (history.listening line)
    -- and as long as positions last it is a run of the channel
    pub run : LastsFor (length history.events) v.form → RunSays v.form (states views) cells senders receivers history
