-- What the words of a channel's queue say of its messages, at a moment at which calls are under way.
use Rattle.std.specs.Prelude.{◌≡◌, ℕ, ◌<◌, List, [], ◌∷◌, length, Some, slice_get, ◌⊎◌}
use Rattle.concurrent_queue.specs.Contents.{Contents, slot_at}
use Rattle.concurrent_queue.specs.Queue.{Phase}
use Rattle.concurrent_queue.specs.Step.{closed_in, length_in, items_in, slot_in}
use Rattle.concurrent_queue.specs.declared.cells.QueueForm.{QueueForm}
use Rattle.concurrent_queue.specs.declared.cells.Slot.{Slot}
use Rattle.channel_calls.specs.declared.mark.Mark.TheVariants.{Append, Replace}
use Rattle.channel_calls.specs.declared.stage.Stage.{Stage}
use Rattle.channel_calls.specs.declared.stage.Stage.TheVariants.{Trying}
use Rattle.channel_steps.specs.every_run.Ends.{Each}
use Rattle.channel_steps.specs.Moments.{MarkedMoment}
use Rattle.channel_steps.specs.Configuration.{ActiveCall, Configuration, brought}
use Rattle.channel_steps.specs.declared.party.Party.{Party}
use Rattle.channel_steps.specs.every_run.Chained.{AreChained}
use Rattle.channel_steps.specs.every_run.Put.{yet_to_put}

module _ {T W : Type 0} where
  -- the queue has the next step of a call at this stage
  abbrev pub IsAtQueue : Stage (Phase T) T W → Type 0
  IsAtQueue (Trying f purpose) = Unit {0}
  IsAtQueue stage = ⊥

  -- one of these marks let a message in
  abbrev pub HasLetIn : List (MarkedMoment T W) → Type 0
  HasLetIn [] = ⊥
  HasLetIn (d ∷ ds) = ((d.mark ≡ Append) ⊎ (d.mark ≡ Replace)) ⊎ HasLetIn ds

  -- This message is with this call, whose code is at this stage: the call brings it, a mark of the call let it in, nobody was told of
  -- it, and what the call's next actions put is this message, into this very slot. So of two messages of one value each is with the
  -- call that has its place.
  pub record IsWith (form : QueueForm) (at : Slot) (v : T) (code : Party T W) (u : ActiveCall T W) : Type 0 where
    pub party : code.id ≡ u.party
    pub brings : brought u.ask ≡ v ∷ []
    pub let_in : HasLetIn u.marks
    pub untold : u.told ≡ []
    pub puts : yet_to_put form code.call.stage ≡ Some (at, v)

  -- it is with one of these, in the order in which they began
  abbrev pub IsWithOne : QueueForm → Slot → T → List (Party T W) → List (ActiveCall T W) → Type 0
  IsWithOne form at v (code ∷ codes) (u ∷ us) = IsWith form at v code u ⊎ IsWithOne form at v codes us
  IsWithOne form at v _ _ = ⊥

  -- By its words the channel is closed or not and holds so many messages, and each of them lies in the slot that the words name
  -- for it, which is no other's, or is with the call that is yet to put it into that slot. A queue with a bound names its slots by
  -- its words alone. One without names them by the blocks of the configuration: from the one with the oldest message on they follow one
  -- another, by the words that are stored and those that calls under way are yet to store. While the queue has the next step of no
  -- call, the words lead through just these messages, in order, from the head on.
  pub record WordsSay (c : Contents T) (codes : List (Party T W)) (s : Configuration T W) : Type 0 where
    pub flag : closed_in c ≡ s.now.queue.closed
    pub long : length_in c ≡ length s.now.queue.items
    pub chained : AreChained c codes s.blocks
    pub apart : (i j : ℕ) → i < length s.now.queue.items → j < length s.now.queue.items → slot_in s.blocks c i ≡ slot_in s.blocks c j → i ≡ j
    pub lies : (i : ℕ) (v : T) → slice_get s.now.queue.items i ≡ Some v
        → (slot_at c (slot_in s.blocks c i) ≡ Some v) ⊎ IsWithOne c.form (slot_in s.blocks c i) v codes s.under_way
    pub at_rest : Each (λ (u : ActiveCall T W). IsAtQueue u.at → ⊥) s.under_way → s.now.queue.items ≡ items_in c
