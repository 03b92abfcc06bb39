-- A call of a channel from its beginning to its end, over cells that go by the view of its seat.
use Rattle.std.specs.Prelude.{◌≡◌, ◌≢◌, ℕ, true, List, [], ◌∷◌, ◌++◌, None}
use Rattle.concurrent_queue.specs.Bridge.{asking}
use Rattle.concurrent_queue.specs.Replies.{is_bounded}
use Rattle.concurrent_queue.specs.declared.cells.QueueForm.{QueueForm}
use Rattle.concurrent_queue.specs.declared.queue_call.QueueCall.{QueueCall}
use Rattle.channel_calls.specs.Asks.{first}
use Rattle.channel_calls.specs.Deeds.{Deed}
use Rattle.channel_calls.specs.Stands.{BeginsHere}
use Rattle.channel_calls.specs.Walks.{Takes, Leads, Walked}
use Rattle.channel_calls.specs.declared.ask.ChannelAsk.{ChannelAsk}
use Rattle.channel_calls.specs.declared.ask.ChannelAsk.TheVariants as ask
use Rattle.channel_calls.specs.declared.reply.Reply.{Reply}
use Rattle.channel_calls.specs.declared.reply.Reply.TheVariants as reply
use Rattle.channel_calls.specs.declared.stage.ListStep.{ListStep}
use Rattle.channel_calls.specs.declared.stage.ListStep.TheVariants as work
use Rattle.channel_calls.specs.declared.stage.NextStep.{NextStep}
use Rattle.channel_calls.specs.declared.stage.NextStep.TheVariants.{Tries, Works, Ends as Answers}
use Rattle.channel_calls.specs.declared.stage.Purpose.{Purpose}
use Rattle.channel_calls.specs.declared.stage.Purpose.TheVariants as purpose
use Rattle.channel_calls.specs.declared.stage.Returned.{Returned}
use Rattle.channel_calls.specs.declared.stage.Side.{Side}
use Rattle.channel_calls.specs.declared.stage.Stage.{Stage}
use Rattle.channel_calls.specs.declared.stage.Stage.TheVariants.{Trying, Working, Finished}
use Rattle.channel_history.specs.Cells.{Stands, Did}
use Rattle.channel_history.specs.InHand.{kept_on, lent_by, handles_lent}
use Rattle.channel_history.specs.Party.{Begins, Ends}
use Rattle.channel_history.specs.Steps.{begun}
use Rattle.channel_history.specs.declared.party.Standing.{Standing}

-- these handles, if it is answered that one was made
abbrev pub if_made : {T : Type 0} → Reply T → List Side → List Side
if_made reply.Made sides = sides
if_made r sides = []

module _ {T W : Type 0} where
  -- where a call stands that has just taken this turn
  abbrev pub stage_of : NextStep T W → Stage (QueueCall T) T W
  stage_of (Tries a purpose) = Trying (asking a) purpose
  stage_of (Works w) = Working w
  stage_of (Answers r kept) = Finished kept

  -- the party of this seat may ask this: it has no call under way, and its seat has what the call is lent. The question for
  -- the capacity touches no cell, and is no call of a history
  pub record MayAsk (form : QueueForm) (s : Standing T W) (a : ChannelAsk T W) : Type 0 where
    pub bounded : is_bounded form ≡ true
    pub asks : a ≢ ask.Capacity
    pub idle : s.stage ≡ None
    pub lists : s.own.lists ≡ []
    pub listeners : s.own.listeners ≡ lent_by a
    pub handles : s.own.handles ≡ handles_lent a

  -- and so it begins
  abbrev pub asked_by : Standing T W → ChannelAsk T W → Standing T W
  asked_by s a = begun s a (stage_of (first a))

  pub record BeginsSo (form : QueueForm) (s : Standing T W) (a : ChannelAsk T W) : Type 0 where
    pub takes : Takes (first a) (stage_of (first a)) None
    pub begins : Begins form s a (asked_by s a)
    pub stands : BeginsHere (Stands form) (first a) (asked_by s a)

  -- the handle that a call is to make which asks this
  abbrev pub handle_wanted : ChannelAsk T W → List Side
  handle_wanted (ask.CloneHandle side) = side ∷ []
  handle_wanted (ask.Upgrade side) = side ∷ []
  handle_wanted a = []

  -- and that a call at this stage is still to make
  abbrev pub wanted_by : Purpose T W → List Side
  wanted_by (purpose.Upgrade side) = side ∷ []
  wanted_by p = []

  abbrev pub wanted_at : ListStep T W → List Side
  wanted_at (work.Load side making) = side ∷ []
  wanted_at (work.Raise side n making) = side ∷ []
  wanted_at w = []

  abbrev pub wanted : Stage (QueueCall T) T W → List Side
  wanted (Trying call p) = wanted_by p
  wanted (Working w) = wanted_at w
  wanted (Finished kept) = []

  -- a party that stood so has asked this and was answered so, and stands so since: it has ended its call, or ends it by a step that does
  -- nothing. With its seat lies what the call left to its operation, and what it made
  pub record HasAnswered (form : QueueForm) (s : Standing T W) (a : ChannelAsk T W) (r : Reply T) (kept : Returned T) (now : Standing T W) : Type 0 where
    pub rests : Standing T W
    pub ends : Ends form now rests
    pub own : rests.own ≡ now.own
    pub asked : rests.asked ≡ s.asked ++ a ∷ []
    pub given : rests.given ≡ s.given ++ record { reply = r; kept = kept } ∷ []
    pub lists : rests.own.lists ≡ []
    pub listeners : rests.own.listeners ≡ kept_on r kept.key
    pub handles : rests.own.handles ≡ if_made r (handle_wanted a)

  -- it has asked this and wasn't answered yet: its call stands at this stage, and is still to make the handle that it wants
  pub record HasAsked (form : QueueForm) (s : Standing T W) (a : ChannelAsk T W) (at : Stage (QueueCall T) T W) (now : Standing T W) : Type 0 where
    pub stands : Stands form at now
    pub asked : now.asked ≡ s.asked ++ a ∷ []
    pub given : now.given ≡ s.given
    pub wants : wanted at ≡ handle_wanted a

-- a deed was done to this by its view
abbrev pub ByView : {T W X : Type 0} → QueueForm → (X → Standing T W) → Deed T W → X → X → Type 0
ByView form of d a b = Did form d (of a) (of b)

-- a call begins, is walked so far, and is walked to its answer: over anything by whose view its deeds are done
pub record CallsGoByTheirViews (T W X : Type 0) : Type 0 where
  pub begins : (form : QueueForm) (s : Standing T W) (a : ChannelAsk T W) → MayAsk form s a → BeginsSo form s a
  pub asked : (form : QueueForm) (s : Standing T W) (a : ChannelAsk T W) (at : Stage (QueueCall T) T W) → MayAsk form s a → Takes (first a) at None → HasAsked form s a at (asked_by s a)
  pub led : (form : QueueForm) (of : X → Standing T W) (s : Standing T W) (a : ChannelAsk T W) (x y : X) (n : ℕ) (at next : Stage (QueueCall T) T W)
      → HasAsked form s a at (of x) → Leads (ByView form of) n x at y next → HasAsked form s a next (of y)
  pub ends : (form : QueueForm) (of : X → Standing T W) (s : Standing T W) (a : ChannelAsk T W) (x y : X) (at : Stage (QueueCall T) T W) (r : Reply T) (kept : Returned T)
      → HasAsked form s a at (of x) → Walked (ByView form of) at x r kept y → HasAnswered form s a r kept (of y)
