-- Which blocks the messages of a channel without a bound lie in: what its words name, and what its calls under way are yet to store
-- in them.
use Rattle.std.specs.Prelude.{◌≡◌, ℕ, ◌+◌, ◌-◌, ◌/◌, ◌%◌, ◌<◌, ◌≤◌, Bool, true, false, List, [], ◌∷◌, length, Option, None, Some, slice_get, ◌⊎◌}
use Rattle.concurrent_queue.specs.Contents.{Contents, block_at}
use Rattle.concurrent_queue.specs.machine.BlocksState.{number}
use Rattle.concurrent_queue.specs.declared.cells.QueueForm.{QueueForm}
use Rattle.concurrent_queue.specs.declared.cells.QueueForm.TheVariants.{Bounded, Unbounded}
use Rattle.concurrent_queue.specs.declared.queue_call.CallState.{CallState}
use Rattle.concurrent_queue.specs.declared.queue_call.CallState.TheVariants.{Blocks}
use Rattle.concurrent_queue.specs.declared.queue_call.QueueCall.{QueueCall}
use Rattle.concurrent_queue.specs.declared.unbounded.action.UnboundedAction.{UnboundedAction}
use Rattle.concurrent_queue.specs.declared.unbounded.action.UnboundedAction.TheVariants as blocks
use Rattle.channel_calls.specs.declared.stage.Stage.{Stage}
use Rattle.channel_calls.specs.declared.stage.Stage.TheVariants.{Trying}
use Rattle.channel_steps.specs.declared.party.Party.{Party}

module _ {T : Type 0} where
  -- the block that a call is yet to name as the head's: the first of all
  abbrev pub first_named : UnboundedAction T → Option ℕ
  first_named (blocks.PushStart v tail block) = Some block
  first_named _ = None

  -- the two blocks that a call is yet to link
  abbrev pub pair_linked : UnboundedAction T → Option (ℕ × ℕ)
  pair_linked (blocks.PushAdd v tail block next) = Some (block, next)
  pair_linked (blocks.PushLink v tail block next) = Some (block, next)
  pair_linked _ = None

  -- a taking call that turns the head's page is yet to store the next block in the head's word, or has stored it and is yet to move
  -- the head
  abbrev pub TurnsTheHead : Bool → UnboundedAction T → Type 0
  TurnsTheHead false (blocks.PopNext head block) = Unit {0}
  TurnsTheHead false (blocks.PopBlock head block next) = Unit {0}
  TurnsTheHead true (blocks.PopHead head block) = Unit {0}
  TurnsTheHead stored a = ⊥

  abbrev pub Turns : Bool → CallState T → Type 0
  Turns stored (Blocks a) = TurnsTheHead stored a.action
  Turns stored state = ⊥

  abbrev pub NamesTheHead : ℕ → CallState T → Type 0
  NamesTheHead b (Blocks a) = first_named a.action ≡ Some b
  NamesTheHead b state = ⊥

  abbrev pub Links : ℕ → ℕ → CallState T → Type 0
  Links b d (Blocks a) = pair_linked a.action ≡ Some (b, d)
  Links b d state = ⊥

  -- Some call under way is so: by which list of them, is left open here.
  module _ (some_call : (CallState T → Type 0) → Type 0) where
    -- The head's block is that of the head's position. While a call turns the head's page, which the position tells, it is the one
    -- before, until that call has stored the next one.
    abbrev pub IsHeadAt : Contents T → ℕ → Type 0
    IsHeadAt c first =
        ((c.head % 32 < 31) × (number c.head / 31 ≡ first))
        ⊎ (((c.head % 32 ≡ 31) × (number c.head / 31 ≡ first) × some_call (Turns true))
        ⊎ ((c.head % 32 ≡ 31) × (number c.head / 31 ≡ first + 1) × some_call (Turns false)))

    -- From the block that the head's word names on these follow one another, each named by the link of the one before it, up to the
    -- one that the tail's word names. What a word doesn't name yet, a call under way is yet to store there.
    pub record AreBlocks (c : Contents T) (chain : List ℕ) : Type 0 where
      pub first : ℕ
      pub place : IsHeadAt c first
      pub named : (b : ℕ) → slice_get chain first ≡ Some b → (c.head_block ≡ b + 1) ⊎ ((c.head_block ≡ 0) × some_call (NamesTheHead b))
      pub linked : (k b d : ℕ) → first ≤ k → slice_get chain k ≡ Some b → slice_get chain (k + 1) ≡ Some d
          → ((block_at c b).next ≡ d + 1) ⊎ some_call (Links b d)
      pub last : ((chain ≡ []) × (c.tail_block ≡ 0)) ⊎ ((b : ℕ) × (slice_get chain (length chain - 1) ≡ Some b) × (c.tail_block ≡ b + 1))

    -- a queue with a bound has none
    abbrev pub ChainBy : QueueForm → Contents T → List ℕ → Type 0
    ChainBy (Bounded capacity) c chain = chain ≡ []
    ChainBy Unbounded c chain = AreBlocks c chain

module _ {T W : Type 0} where
  abbrev pub IsInState : Stage (QueueCall T) T W → (CallState T → Type 0) → Type 0
  IsInState (Trying call purpose) P = P call.state
  IsInState stage P = ⊥

  -- the call of the queue of one of these calls is so
  abbrev pub SomeCall : List (Party T W) → (CallState T → Type 0) → Type 0
  SomeCall [] P = ⊥
  SomeCall (code ∷ codes) P = IsInState code.call.stage P ⊎ SomeCall codes P

  -- These are the blocks of the channel's queue, oldest first, so far as the words and the calls under way give them: the block of
  -- each message that is there, and those before it that were given back. A queue with a bound has none.
  unfoldable pub AreChained : Contents T → List (Party T W) → List ℕ → Type 0
  AreChained c codes blocks = ChainBy (SomeCall codes) c.form c blocks
