-- How the party of a call that its machine has answered stands once the call is over, and what is said of it then; and how one stands that
-- may ask.
use Rattle.std.specs.Prelude.{◌≡◌, List, [], ◌∷◌, ◌++◌, Option, None, Some}
use Rattle.concurrent_queue.specs.declared.cells.QueueForm.{QueueForm}
use Rattle.concurrent_queue.specs.declared.queue_call.QueueCall.{QueueCall}
use Rattle.channel_calls.specs.declared.ask.ChannelAsk.{ChannelAsk}
use Rattle.channel_calls.specs.declared.ask.ChannelAsk.TheVariants.{Capacity}
use Rattle.channel_calls.specs.declared.reply.Reply.{Reply}
use Rattle.channel_calls.specs.declared.stage.ListenerRef.{ListenerRef}
use Rattle.channel_calls.specs.declared.stage.Returned.{Returned}
use Rattle.channel_calls.specs.declared.stage.Side.{Side}
use Rattle.channel_calls.specs.declared.stage.Stage.{Stage}
use Rattle.channel_calls.specs.declared.whole.Completed.{Completed}
use Rattle.channel_history.specs.InHand.{kept_on, lent_by, handles_lent}
use Rattle.channel_history.specs.Party.{Ends}
use Rattle.channel_history.specs.WholeCalls.{if_made, handle_wanted}
use Rattle.channel_history.specs.declared.party.Standing.{Standing}

module _ {T W : Type 0} where
  -- what a party has been given once its call is over that gives this: nothing more where the call has answered already
  abbrev pub given_then : Option (Stage (QueueCall T) T W) → List (Completed T) → Completed T → List (Completed T)
  given_then None given c = given
  given_then (Some at) given c = given ++ c ∷ []

  -- a party's call ends here: what lies with its seat stays, and it gave something like this
  pub record EndsSo (form : QueueForm) (gave : Completed T → Type 0) (s t : Standing T W) : Type 0 where
    pub ends : Ends form s t
    pub own : t.own ≡ s.own
    pub asked : t.asked ≡ s.asked
    pub completed : Completed T
    pub gives : gave completed
    pub given : t.given ≡ given_then s.stage s.given completed

  abbrev pub HasEnded : QueueForm → (Completed T → Type 0) → Standing T W → Type 0
  HasEnded form gave s = (t : Standing T W) × EndsSo form gave s t

  -- a party that stood so has asked this and was given something like this, and has no call under way. With its seat lies what the call left
  -- that was answered so, and what it made
  pub record HasGiven (gave : Completed T → Type 0) (s : Standing T W) (a : ChannelAsk T W) (r : Reply T) (kept : Returned T) (t : Standing T W) : Type 0 where
    pub idle : t.stage ≡ None
    pub asked : t.asked ≡ s.asked ++ a ∷ []
    pub completed : Completed T
    pub gives : gave completed
    pub given : t.given ≡ s.given ++ completed ∷ []
    pub lists : t.own.lists ≡ []
    pub listeners : t.own.listeners ≡ kept_on r kept.key
    pub handles : t.own.handles ≡ if_made r (handle_wanted a)

  -- ---- who may ask

  -- every question begins a call of a history but that for the capacity, which touches no cell
  abbrev pub IsCall : ChannelAsk T W → Type 0
  IsCall Capacity = ⊥
  IsCall a = Unit {0}

  -- one that nothing is lent to, so that a new party may ask it
  abbrev pub LendsNothing : ChannelAsk T W → Type 0
  LendsNothing a = IsCall a × (lent_by a ≡ []) × (handles_lent a ≡ [])

  -- a party has no call under way, and with its seat lie these handles and listeners, and no list
  abbrev pub Rests : List Side → List ListenerRef → Standing T W → Type 0
  Rests handles listeners s = (s.stage ≡ None) × (s.own ≡ record { lists = []; handles = handles; listeners = listeners })
