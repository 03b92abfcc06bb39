-- The sentences of the headline: what is said of each moment of a run, and of each step, from the moment m before it to the
-- moment n after it.
use Rattle.std.specs.Prelude.{◌≡◌, ◌<◌, ◌≤◌, ◌∷◌, ◌++◌}
use Rattle.channel_world.specs.Words.{ℕ, false, List, [], map, Option, None, IfSome, Returned, Each, IsStill, SaysTheEnd, GivesMessage, Replies, Call, Waiter, most_left, Shut, Spent, call_begun, ActiveCall, blocks_after, EndsInTime, brought, does, sees, unless_ended, asks, wanted_of, Owed, step_refusal, IsNameStateAfter, Moment, observation_at, Entry, PartyId, Step, plain, marked}
use Rattle.concurrent_queue.specs.Queue.{Phase}
use Rattle.channel_calls.specs.Moves.{OnePlace}
use Rattle.channel_calls.specs.declared.mark.Mark.TheVariants.{Nothing}
use Rattle.channel_calls.specs.declared.stage.Stage.{Stage}
use Rattle.channel_steps.specs.every_run.Over.{AllSpent}
use Rattle.channel_steps.specs.Answers.{asks_first}
use Rattle.channel_steps.specs.Known.{IsQuick}
use Rattle.channel_steps.specs.Tellings.{telling, dropping, WokenBy}
use Rattle.channel_steps.specs.every_run.EndSays.{EndSays}
use Rattle.channel_steps.specs.every_run.Marks.{BeginsItsMarks}
use Rattle.channel_world.specs.StepsLeft.{OthersQuietOf}
use Rattle.channel_steps.specs.every_run.Words.{WordsSay}
use Rattle.channel_world.specs.View.{active_calls, moment_of, StandsIn, WorldView}

module _ {T : Type 0} where
  -- ---- a moment

  pub record MomentSays (m : Moment T) : Type 0 where
    -- it is a moment of this world, which stands in its configuration
    pub world : WorldView T
    pub is : m ≡ moment_of world m.configuration
    pub stands : StandsIn world m.configuration
    -- of each call under way, the marks are the first of those that a call which asks this makes
    pub begun : Each (λ u. BeginsItsMarks u) m.configuration.under_way
    -- beside one that is pending and was not woken, there is no message, free place or closing for which no woken one and no call under way
    -- is responsible
    pub owed : Owed (observation_at m.name_state m.configuration)
    -- the channel is closed or not and holds so many messages as its queue's words say; and each message lies in the slot that
    -- they name for it alone, without a bound by the blocks that the queue has used, or is with the call that is yet to put it there
    pub words : WordsSay m.parts.cells (active_calls world) m.configuration
    -- no call has more steps left than these, by how many messages a receive of several may take, if the others are quiet
    pub few : (party : ℕ) → m.left party ≤ most_left (wanted_of party m.configuration.under_way)

  -- ---- the beginning of a call

  pub record BeginSays (m : Moment T) (p : PartyId) (c : Call T) (e : Entry T) (n : Moment T) : Type 0 where
    -- it has no mark and wakes nobody, and touches nothing
    pub mark : e.mark ≡ Nothing
    pub reply : e.reply ≡ None
    pub woken : e.woken.items ≡ []
    pub parts : n.parts ≡ m.parts
    pub now : n.configuration.now ≡ m.configuration.now
    -- a call of this party is under way from now on, whose only moment is the present one, with no mark and nothing told
    pub at_first : Stage (Phase T) T Waiter
    pub under_way : n.configuration.under_way ≡ m.configuration.under_way ++ call_begun p.0 (asks m.name_state.name_table c) at_first m.configuration.now ∷ []
    pub name_state : IsNameStateAfter (Step.Begin p c) e None m.name_state n.name_state

  -- ---- a step of a call

  -- what it does, while the party's call is this one
  pub record WorkDoes (m : Moment T) (call : ActiveCall T Waiter) (e : Entry T) (n : Moment T) : Type 0 where
    -- it asks no listener before it tries, but a stream's
    pub tries : asks_first call.ask ≡ false
    -- to the plain channel it does what its mark says, by touching one cell, one list or one count at most
    pub effect : plain n.configuration.now ≡ marked e.mark (brought call.ask) (plain m.configuration.now)
    pub touches : OnePlace m.parts n.parts
    -- it wakes those that its one notification finds waiting, in order, or the one to which a listener of its own that it drops passes its
    -- notification on, and nobody else
    pub wakes : WokenBy (telling call.at) (dropping call.at) m.configuration.now e.woken.items

  pub record WorkSays (m : Moment T) (p : PartyId) (e : Entry T) (n : Moment T) : Type 0 where
    -- the party's call, among those under way
    pub before : List (ActiveCall T Waiter)
    pub call : ActiveCall T Waiter
    pub behind : List (ActiveCall T Waiter)
    pub under_way : m.configuration.under_way ≡ before ++ (call ∷ behind)
    pub party : call.party ≡ p.0
    -- the same call after the step: one moment more, the step's mark, and what the step told. It is under way no more if it has
    -- answered; to all others the step is one more moment
    pub at_now : Stage (Phase T) T Waiter
    pub after : ActiveCall T Waiter
    pub is : after ≡ does call at_now e.mark m.configuration.now n.configuration.now
    pub goes_on : n.configuration.under_way ≡ map (sees n.configuration.now) before ++ (unless_ended after e.reply ++ map (sees n.configuration.now) behind)
    pub work : WorkDoes m call e n
    -- if it ends its call; what the call leaves is what the names get back
    pub left : Option (Returned T)
    pub ends : IfSome e.reply (λ r. EndSays after r left)
    pub name_state : IsNameStateAfter (Step.Step p) e left m.name_state n.name_state
    -- a short call ends within eight steps of its own, whatever others do
    pub in_time : IsQuick call.ask → EndsInTime call.made e.reply
    -- if the others are quiet, a step that does not end its call leaves it fewer steps
    pub nearer : e.reply ≡ None → OthersQuietOf p.0 m.configuration → n.left p.0 < m.left p.0
    -- a call that began when the end was said gives no message
    pub late : AllSpent call.seen → Replies GivesMessage e.reply → ⊥

  -- ---- a step of a run

  -- the party begins a call, or makes a step of the one that it has under way
  abbrev pub CallSays : Moment T → Step T → Entry T → Moment T → Type 0
  CallSays m (Step.Begin p c) e n = BeginSays m p c e n
  CallSays m (Step.Step p) e n = WorkSays m p e n

  pub record StepSays (m : Moment T) (x : Step T) (e : Entry T) (n : Moment T) : Type 0 where
    -- none of the seven reasons refuses it
    pub accepted : step_refusal m.name_state.name_table m.name_state.agents x ≡ None
    pub call : CallSays m x e n
    -- the queue has used the blocks that it had used before, and one more, at the end, where its tail's word then names another
    pub blocks : n.configuration.blocks ≡ blocks_after n.parts.cells.form m.configuration.blocks m.parts.cells n.parts.cells
    -- what is closed stays closed; what is over, closed with nothing there and nothing on its way, stays over, and no message comes
    -- or leaves; and a reply that says the end found it over
    pub closed : Shut m.configuration.now → Shut n.configuration.now
    pub over : Spent m.configuration.now → Spent n.configuration.now × IsStill e.mark
    pub the_end : Replies SaysTheEnd e.reply → Spent n.configuration.now
    pub after : MomentSays n
