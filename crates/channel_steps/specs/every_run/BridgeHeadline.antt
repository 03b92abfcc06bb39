-- The headline, of calls of any number of parties whose deeds come in one order. Its sentences are those of the headline of a
-- world by names, but what speaks of names.
use Rattle.std.specs.Prelude.{◌≡◌, ℕ, ◌<◌, List, [], ◌∷◌, ◌++◌, length, map, None, IfSome}
use Rattle.concurrent_queue.specs.Bridge.{HasCells}
use Rattle.concurrent_queue.specs.Queue.{Phase}
use Rattle.concurrent_queue.specs.declared.cells.QueueForm.{QueueForm}
use Rattle.event_listener.specs.Notices.{Woken}
use Rattle.channel_calls.specs.Moves.{OnePlace}
use Rattle.channel_calls.specs.Parts.{Parts}
use Rattle.channel_calls.specs.declared.ask.ChannelAsk.{ChannelAsk}
use Rattle.channel_calls.specs.declared.mark.Mark.TheVariants.{Nothing}
use Rattle.channel_calls.specs.declared.stage.Stage.{Stage}
use Rattle.channel_steps.specs.Known.{IsQuick}
use Rattle.channel_steps.specs.Moments.{Shut, Spent}
use Rattle.channel_steps.specs.Run.{EachStep, Next, call_begun}
use Rattle.channel_steps.specs.Configuration.{ActiveCall, Represents, EndsInTime, OthersQuiet, brought, does, gone_by, sees, unless_ended, blocks_after}
use Rattle.channel_steps.specs.Tellings.{telling, dropping, WokenBy}
use Rattle.channel_steps.specs.declared.party.Entry.{Entry}
use Rattle.channel_steps.specs.declared.run.Step.{Step}
use Rattle.channel_steps.specs.declared.run.Step.TheVariants as step
use Rattle.channel_steps.specs.every_run.Bounds.{IsWithinBound}
use Rattle.channel_calls.specs.declared.whole.Completed.{Completed}
use Rattle.channel_steps.specs.every_run.Bridge.{MergeMoment, just_opened, Happening, Acts, own, steps_of, opened_parts, InOneOrder, IsRunOf, LastsFor}
use Rattle.channel_steps.specs.every_run.BridgeEnd.{NoMessageAfter}
use Rattle.channel_steps.specs.every_run.BridgeMoments.{FewStepsLeft, MergeEndsInARow, left_to}
use Rattle.channel_steps.specs.every_run.Closings.{PendingIsOwedTheClosing}
use Rattle.channel_steps.specs.every_run.EndSays.{EndSays}
use Rattle.channel_steps.specs.every_run.Ends.{Each, IsIdle, IsStill, GivesMessage, SaysTheEnd, Replies}
use Rattle.channel_steps.specs.every_run.Marked.{AddUp, brought_by, plain, marked}
use Rattle.channel_steps.specs.every_run.Marks.{BeginsItsMarks}
use Rattle.channel_steps.specs.every_run.Over.{AllSpent}
use Rattle.channel_steps.specs.every_run.Receives.{PendingReceivesAreOwed}
use Rattle.channel_steps.specs.every_run.Sends.{PendingSendsAreOwed}
use Rattle.channel_steps.specs.every_run.Streams.{PendingStreamsAreOwed}
use Rattle.channel_steps.specs.every_run.Words.{WordsSay}

module _ {T W S : Type 0} where
  -- ---- a moment

  pub record MergeMomentSays (m : MergeMoment T W S) : Type 0 where
    -- the cells and the parties show its configuration
    pub shows : Represents m.parts m.parties m.configuration
    -- what left the channel, followed by what it holds, is what came into it, in order, and no more than fit
    pub in_order : m.configuration.gone ++ m.configuration.now.queue.items ≡ m.configuration.came
    pub fits : IsWithinBound m.configuration.now
    -- of each call under way, the marks are the first of those that a call which asks this makes
    pub begun : Each (λ u. BeginsItsMarks u) m.configuration.under_way
    -- beside one that is pending and was not told, whose listener no call has in hand, there is no message, no free place and no
    -- closing for which no told one and no call under way is responsible
    pub receives : PendingReceivesAreOwed m.configuration
    pub sends : PendingSendsAreOwed m.configuration
    pub streams : PendingStreamsAreOwed m.configuration
    pub closing : PendingIsOwedTheClosing m.configuration
    -- the channel is closed or not and holds so many messages as its queue's words say; and each message lies in the slot that
    -- they name for it alone, without a bound by the blocks that the queue has used, or is with the call that is yet to put it there
    pub words : WordsSay m.parts.cells m.parties m.configuration
    -- no call has more steps left than these, by how many messages a receive of several may take, if the others are quiet
    pub few : FewStepsLeft m

  -- ---- the beginning of a call

  pub record MergeBeginSays (m : MergeMoment T W S) (p : ℕ) (ask : ChannelAsk T W) (e : Entry T) (n : MergeMoment T W S) : Type 0 where
    -- its party has no call under way
    pub idle : IsIdle p m.configuration
    -- it has no mark and wakes nobody, and touches nothing
    pub mark : e.mark ≡ Nothing
    pub reply : e.reply ≡ None
    pub woken : n.sink ≡ m.sink
    pub parts : n.parts ≡ m.parts
    pub now : n.configuration.now ≡ m.configuration.now
    -- a call of this party is under way from now on, whose only moment is the present one, with no mark and nothing told
    pub at_first : Stage (Phase T) T W
    pub under_way : n.configuration.under_way ≡ m.configuration.under_way ++ call_begun p ask at_first m.configuration.now ∷ []

module _ {T W S : Type 0} (wakes : S → W → S → Type 0) where
  -- ---- a step of a call

  -- what the step does, which wakes these, of a call that is `call` before it and `after` after it
  pub record StepDoes (m : MergeMoment T W S) (e : Entry T) (n : MergeMoment T W S) (names : List W) (call after : ActiveCall T W) : Type 0 where
    -- to the plain channel what its mark says, by touching one cell, one list or one count at most
    pub effect : plain n.configuration.now ≡ marked e.mark (brought call.ask) (plain m.configuration.now)
    pub touches : OnePlace m.parts n.parts
    -- it takes out the oldest message and brings in the call's own where its mark says so
    pub accounts : AddUp m.configuration (gone_by e.mark m.configuration.now.queue.items) (brought_by e.mark (brought call.ask)) n.configuration
    -- it wakes those that its one notification finds waiting, in order, or the one to which a listener of its own that it drops passes its
    -- notification on, and nobody else
    pub told : WokenBy (telling call.at) (dropping call.at) m.configuration.now names
    -- if it ends its call
    pub ends : IfSome e.reply (λ r. EndSays after r e.kept)
    -- closing, dropping, giving up, refused polls and the questions but the length end within eight steps of their own, whatever
    -- others do
    pub in_time : IsQuick call.ask → EndsInTime call.made e.reply
    -- a call that began when the end was said gives no message
    pub late : AllSpent call.seen → Replies GivesMessage e.reply → ⊥

  pub record MergeWorkSays (m : MergeMoment T W S) (p : ℕ) (e : Entry T) (n : MergeMoment T W S) (names : List W) : Type 0 where
    -- the party's call, among those under way
    pub before : List (ActiveCall T W)
    pub call : ActiveCall T W
    pub behind : List (ActiveCall T W)
    pub under_way : m.configuration.under_way ≡ before ++ (call ∷ behind)
    pub party : call.party ≡ p
    -- the same call after the step: one moment more, the step's mark, and what the step told. It is under way no more if it has
    -- answered; to all others the step is one more moment
    pub at_now : Stage (Phase T) T W
    pub after : ActiveCall T W
    pub is : after ≡ does call at_now e.mark m.configuration.now n.configuration.now
    pub goes_on : n.configuration.under_way ≡ map (sees n.configuration.now) before ++ (unless_ended after e.reply ++ map (sees n.configuration.now) behind)
    pub work : StepDoes m e n names call after
    -- if the others are quiet, a step that does not end its call leaves it fewer steps
    pub nearer : e.reply ≡ None → OthersQuiet m.configuration.now (before ++ behind) → left_to (length before) n < left_to (length before) m

  -- ---- a step of a run

  -- the party begins a call, or makes a step of the one that it has under way
  abbrev pub MergeCallSays : MergeMoment T W S → Step T W → Entry T → MergeMoment T W S → List W → Type 0
  MergeCallSays m (step.Begin p ask) e n names = MergeBeginSays m p ask e n
  MergeCallSays m (step.Step p) e n names = MergeWorkSays m p e n names

  pub record MergeStepSays (m : MergeMoment T W S) (x : Step T W) (e : Entry T) (n : MergeMoment T W S) : Type 0 where
    -- it is what the machine of the party's call does next, and these are woken by it, in order
    pub names : List W
    pub next : Next m.configuration x e names n.configuration
    pub woken : Woken wakes m.sink names n.sink
    pub call : MergeCallSays m x e n names
    -- the queue has used the blocks that it had used before, and one more, at the end, where its tail's word then names another
    pub blocks : n.configuration.blocks ≡ blocks_after n.parts.cells.form m.configuration.blocks m.parts.cells n.parts.cells
    -- what is closed stays closed; what is over, closed with nothing there and nothing on its way, stays over, and no message comes
    -- or leaves; and a reply that says the end found it over
    pub closed : Shut m.configuration.now → Shut n.configuration.now
    pub over : Spent m.configuration.now → Spent n.configuration.now × IsStill e.mark
    pub the_end : Replies SaysTheEnd e.reply → Spent n.configuration.now
    pub after : MergeMomentSays n

  -- ---- a run

  -- What these events are is a run; and each of its moments and of its steps says what the headline says.
  pub record KeepsTheHeadline (form : QueueForm) (events : List (Happening T W)) (given : ℕ → List (Completed T)) (sink : S) (last : Parts T W) (woken : S) : Type 0 where
    pub is : IsRunOf wakes form events given sink last woken
    -- what is said of a moment is said of the first one; and what is said of a step, and of the moment after it, of each step
    pub at_first : MergeMomentSays (just_opened {T = T} {W = W} form sink)
    pub each : EachStep MergeStepSays (just_opened form sink) (steps_of events) is.trace is.run.moments
    -- once a receive answered closed, or a stream ended, no call that begins later gives a message
    pub after_the_end : NoMessageAfter (steps_of events) is.trace
    -- if the others are quiet (no other call under way has a mark but Nothing, and an unbounded channel has had its first taking or
    -- there is no other call), a call makes no more steps than it has left at most before the one that ends it, if its are the next
    pub ends_soon : MergeEndsInARow (just_opened form sink) (steps_of events) is.trace is.run.moments

-- whatever parties do to a new channel, each by the machine and all in one order, as long as its positions last
abbrev pub MergesKeepTheHeadline : (T W S : Type 0) → (S → W → S → Type 0) → Type 0
MergesKeepTheHeadline T W S wakes =
    (form : QueueForm) (events : List (Happening T W)) (given : ℕ → List (Completed T)) (sink : S) (last : Parts T W) (woken : S)
    → HasCells form → LastsFor (length events) form → ((p : ℕ) → Acts form None (own p events) (given p))
    → InOneOrder wakes events (opened_parts form, sink) (last, woken) → KeepsTheHeadline wakes form events given sink last woken
