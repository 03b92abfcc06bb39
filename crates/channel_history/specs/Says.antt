-- What a history of a channel says at its moment: it is a run of the channel, in which each party stands where its view says.
use Rattle.std.specs.Prelude.{◌≡◌, ℕ, ◌+◌, ◌-◌, ◌≤◌, true, false, List, [], ◌∷◌, ◌++◌, ◌⊎◌, length, if◌then◌else◌, None, Some}
use Rattle.concurrent_queue.specs.Bridge.{HasCells}
use Rattle.concurrent_queue.specs.Capacity.{capacity_of}
use Rattle.concurrent_queue.specs.Contents.{Contents}
use Rattle.concurrent_queue.specs.Step.{closed_in, items_in}
use Rattle.concurrent_queue.specs.Queue.{Phase}
use Rattle.concurrent_queue.specs.declared.cells.QueueForm.{QueueForm}
use Rattle.concurrent_queue.specs.declared.queue_call.QueueCall.{QueueCall}
use Rattle.event_listener.specs.declared.key.Key.{Key}
use Rattle.channel_calls.specs.Deeds.{lowered, raised}
use Rattle.channel_calls.specs.Moves.{phase}
use Rattle.channel_calls.specs.Parts.{count}
use Rattle.channel_calls.specs.declared.ask.ChannelAsk.{ChannelAsk}
use Rattle.channel_calls.specs.declared.stage.Side.{Side}
use Rattle.channel_calls.specs.declared.whole.Completed.{Completed}
use Rattle.channel_calls.specs.declared.stage.Stage.{Stage}
use Rattle.channel_calls.specs.declared.stage.WaitList.{WaitList}
use Rattle.channel_calls.specs.declared.stage.WaitList.TheVariants.{Sends, Receives, Streams}
use Rattle.channel_steps.specs.Configuration.{ActiveCall, Configuration}
use Rattle.channel_steps.specs.Configuration.{does as goes_on}
use Rattle.channel_steps.specs.Moments.{Spent}
use Rattle.channel_steps.specs.declared.party.Entry.{Entry}
use Rattle.channel_steps.specs.declared.run.Step.{Step}
use Rattle.channel_steps.specs.declared.run.Step.TheVariants as step
use Rattle.channel_steps.specs.every_run.Bounds.{IsWithinBound}
use Rattle.channel_steps.specs.every_run.Bridge.{Event, does, on_wait_lists, Happening, MergeMoment, just_opened, steps_of, stage_at, LastsFor}
use Rattle.channel_steps.specs.every_run.BridgeHeadline.{KeepsTheHeadline}
use Rattle.channel_steps.specs.every_run.Closings.{PendingIsOwedTheClosing}
use Rattle.channel_steps.specs.every_run.EndSays.{EndSays}
use Rattle.channel_steps.specs.every_run.Ends.{Each, SaysTheEnd}
use Rattle.channel_steps.specs.every_run.Receives.{PendingReceivesAreOwed}
use Rattle.channel_steps.specs.every_run.Sends.{HasPlaces, PendingSendsAreOwed}
use Rattle.channel_steps.specs.every_run.Streams.{PendingStreamsAreOwed}
use Rattle.channel_steps.specs.every_run.Waits.{Any, IsIn}
use Rattle.channel_steps.specs.every_run.Words.{WordsSay}
use Rattle.channel_history.specs.History.{appends, is_side, parts_of, IsChannelHistory}
use Rattle.channel_history.specs.Party.{standing_of}
use Rattle.channel_history.specs.declared.party.Standing.{Standing}

module _ {T W : Type 0} where
  -- how many handles of a kind are counted after these events, of so many before them: each raise is one more, each lowering one less
  abbrev pub counted_on : Side → Event T W → ℕ → ℕ
  counted_on side (does (on_wait_lists (raised x k true))) n = if is_side side x then n + 1 else n
  counted_on side (does (on_wait_lists (lowered x k))) n = if is_side side x then n - 1 else n
  counted_on side e n = n

  abbrev pub counted_by : Side → List (Happening T W) → ℕ → ℕ
  counted_by side [] n = n
  counted_by side (x ∷ xs) n = counted_by side xs (counted_on side x.event n)

  -- a call under way that stands there, whatever its queue's call has found
  abbrev pub IsAtStage : Stage (QueueCall T) T W → ActiveCall T W → Type 0
  IsAtStage at u = (f : Phase T) × (u.at ≡ phase f at)

  -- it stands where its party's view says, and asks what that party asked last
  pub record StandsByView (views : List (Standing T W)) (u : ActiveCall T W) : Type 0 where
    pub at : Stage (QueueCall T) T W
    pub stage : (standing_of views u.party).stage ≡ Some at
    pub here : IsAtStage at u
    pub before : List (ChannelAsk T W)
    pub asked : (standing_of views u.party).asked ≡ before ++ u.ask ∷ []

  -- a call of this party, which was under way at the one moment and gave this by the step to the other: the row of its reply holds of its
  -- marks and moments
  abbrev pub EndsAs : ℕ → Completed T → MergeMoment T W (List W) → Entry T → MergeMoment T W (List W) → ActiveCall T W → Type 0
  EndsAs p c m e n u =
      (u.party ≡ p) × (at : Stage (Phase T) T W) × EndSays (goes_on u at e.mark m.configuration.now n.configuration.now) c.reply (Some c.kept)

  -- this step of a run ended such a call
  pub record EndsSo (p : ℕ) (c : Completed T) (m : MergeMoment T W (List W)) (x : Step T W) (e : Entry T) (n : MergeMoment T W (List W)) : Type 0 where
    pub step : x ≡ step.Step p
    pub reply : e.reply ≡ Some c.reply
    pub row : Any (λ u. EndsAs p c m e n u) m.configuration.under_way

  -- one of these steps did
  abbrev pub HasEnded : ℕ → Completed T → MergeMoment T W (List W) → List (Step T W) → List (Entry T) → List (MergeMoment T W (List W)) → Type 0
  HasEnded p c m (x ∷ xs) (e ∷ es) (n ∷ ns) = EndsSo p c m x e n ⊎ HasEnded p c n xs es ns
  HasEnded p c m _ _ _ = ⊥

  abbrev pub HaveEnded : ℕ → List (Completed T) → MergeMoment T W (List W) → List (Step T W) → List (Entry T) → List (MergeMoment T W (List W)) → Type 0
  HaveEnded p [] m xs es ns = Unit {0}
  HaveEnded p (c ∷ cs) m xs es ns = HasEnded p c m xs es ns × HaveEnded p cs m xs es ns

-- ---- a moment

module _ {T W : Type 0} (form : QueueForm) (views : List (Standing T W)) (cells : Contents T) (senders receivers : ℕ) (h : IsChannelHistory form views cells senders receivers) where
  -- it is a run of the channel, of which the headline holds. It leads to this moment, and has given each party what its view says
  abbrev pub IsHeadlineRun : Type 0
  IsHeadlineRun = KeepsTheHeadline appends form h.events (λ p. (standing_of views p).given) [] (parts_of cells h.listening senders receivers) h.woken

  pub record HistorySays : Type 0 where
    pub keeps : IsHeadlineRun
    -- at its end each party's call stands where its view says
    pub stands : (p : ℕ) → stage_at p keeps.is.parties ≡ (standing_of views p).stage
    -- each reply that a view says was given ended a call of its party in a step of the run, as its row says
    pub replies : (p : ℕ) → HaveEnded p (standing_of views p).given (just_opened form []) (steps_of h.events) keeps.is.trace keeps.is.run.moments

  -- where the run has led to
  abbrev pub configuration_of : HistorySays → Configuration T W
  configuration_of says = let keeps = says.keeps in let run = keeps.is in run.configuration

  -- what is said of this moment
  pub record MomentSays (says : HistorySays) : Type 0 where
    -- its lists are those that lie with seats, by their views, and its counts those of the words; and these are what raises and lowerings
    -- made of one handle of each kind
    pub lists : (configuration_of says).now.wait_lists ≡ (parts_of cells h.listening senders receivers).wait_lists
    pub counts : (side : Side) → count side (configuration_of says).now.wait_lists ≡ counted_by side h.events 1
    pub capacity : (configuration_of says).now.queue.capacity ≡ capacity_of form
    -- its calls under way are those that the views say, and stand where these say
    pub calls : Each (λ u. StandsByView views u) (configuration_of says).under_way
    pub all_calls : (p : ℕ) (at : Stage (QueueCall T) T W) → (standing_of views p).stage ≡ Some at → Any (λ u. (u.party ≡ p) × IsAtStage at u) (configuration_of says).under_way
    -- what left the channel, followed by what it holds, is what came into it, in order, and it is no more than fit
    pub in_order : (configuration_of says).gone ++ (configuration_of says).now.queue.items ≡ (configuration_of says).came
    pub fits : IsWithinBound (configuration_of says).now
    -- and so the cells say it
    pub words : WordsSay cells says.keeps.is.parties (configuration_of says)
    -- beside one that is pending and was not told, whose listener no call has in hand, there is no message, no free place and no
    -- closing for which no told one and no call under way is responsible
    pub receives : PendingReceivesAreOwed (configuration_of says)
    pub sends : PendingSendsAreOwed (configuration_of says)
    pub streams : PendingStreamsAreOwed (configuration_of says)
    pub closing : PendingIsOwedTheClosing (configuration_of says)
    -- once a party was given a reply that no message will come any more, the channel is closed, with nothing there and nothing on its way
    pub over : (p : ℕ) (earlier later : List (Completed T)) (c : Completed T) → (standing_of views p).given ≡ earlier ++ c ∷ later → SaysTheEnd c.reply
        → Spent (configuration_of says).now

  -- ---- at rest: no party has a call under way

  abbrev pub AtRest : Type 0
  AtRest = (p : ℕ) → (standing_of views p).stage ≡ None

  pub record RestSays (says : HistorySays) : Type 0 where
    -- no call is under way
    pub nobody : (configuration_of says).under_way ≡ []
    -- what was accepted is what was taken, followed by what the cells hold, in order
    pub account : (configuration_of says).came ≡ (configuration_of says).gone ++ items_in cells
    -- if a receive waits, each message has a receive that was told
    pub receives : (key : Key) → IsIn key (h.listening Receives).waiting → length (items_in cells) ≤ length (h.listening Receives).told
    -- if a send waits there is a bound, and each place has a message or a send that was told
    pub sends : (key : Key) → IsIn key (h.listening Sends).waiting → HasPlaces (capacity_of form) (length (items_in cells) + length (h.listening Sends).told)
    -- if a stream waits there is no message
    pub streams : (key : Key) → IsIn key (h.listening Streams).waiting → items_in cells ≡ []
    -- if anybody waits the channel is open
    pub closing : (line : WaitList) (key : Key) → IsIn key (h.listening line).waiting → closed_in cells ≡ false

-- ---- the laws

module _ (T W : Type 0) where
  -- as long as positions last, a history is such a run
  abbrev pub HistoriesAreRuns : Type 0
  HistoriesAreRuns =
      (form : QueueForm) (views : List (Standing T W)) (cells : Contents T) (senders receivers : ℕ) → HasCells form
      → (h : IsChannelHistory form views cells senders receivers) → LastsFor (length h.events) form → HistorySays form views cells senders receivers h

  abbrev pub EachMomentIsSaid : Type 0
  EachMomentIsSaid =
      (form : QueueForm) (views : List (Standing T W)) (cells : Contents T) (senders receivers : ℕ) (h : IsChannelHistory form views cells senders receivers)
      (says : HistorySays form views cells senders receivers h) → MomentSays form views cells senders receivers h says

  abbrev pub NobodyIsMissedAtRest : Type 0
  NobodyIsMissedAtRest =
      (form : QueueForm) (views : List (Standing T W)) (cells : Contents T) (senders receivers : ℕ) (h : IsChannelHistory form views cells senders receivers)
      (says : HistorySays form views cells senders receivers h) → AtRest form views cells senders receivers h → RestSays form views cells senders receivers h says
