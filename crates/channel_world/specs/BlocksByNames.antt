-- The polls that a call makes which blocks, as those of an operation by name. Their task is the name.
use Rattle.std.specs.Prelude.{◌≡◌}
use Rattle.channel_world.specs.Words.{Some, Op, IsOrListens, asks, NameTable}
use Rattle.event_listener.specs.declared.key.Key.{Key}
use Rattle.channel_calls.specs.Blocks.{poll_woken}
use Rattle.channel_calls.specs.declared.blocked.Blocked.{Blocked}
use Rattle.channel_steps.specs.every_run.BridgeBlocks.{first_poll, poll_refused}
use Rattle.channel_world_model.specs.Names.{at}
use Rattle.channel_world_model.specs.declared.call.Call.TheVariants.{Poll, PollRefused}
use Rattle.channel_world_model.specs.declared.name.HandleId.{HandleId}
use Rattle.channel_world_model.specs.declared.name.OpId.{OpId}
use Rattle.channel_world_model.specs.declared.name.Operation.{Operation}
use Rattle.channel_world_runs.specs.declared.names.PollState.{PollState}
use Rattle.channel_world_runs.specs.declared.names.PollState.TheVariants.{Rests, Waits}

module _ {T : Type 0} where
  -- the operation of a call that blocks
  abbrev pub operation_for : Blocked T → HandleId → Operation T
  operation_for (Blocked.Send m) handle = Operation.Send handle (Some m)
  operation_for Blocked.Receive handle = Operation.Receive handle

  -- it lives under this name, and stands so
  pub record StandsFor (b : Blocked T) (poll_state : PollState) (op : OpId) (r : NameTable T) : Type 0 where
    pub handle : HandleId
    pub lives : at op.0 r.operations ≡ Some (record { operation = operation_for b handle; poll_state = poll_state })

-- If the operation isn't pending its poll is the call's first poll. If it is pending, its poll is the one that the
-- call makes when it has woken, but that this asks the listener first; and so is the poll that is refused its task.
pub record PollsByName (T : Type 0) : Type 0 where
  pub first : (b : Blocked T) (op : OpId) (r : NameTable T) → StandsFor b Rests op r → asks r (Poll op) ≡ first_poll b (Op op)
  pub next : (b : Blocked T) (op : OpId) (r : NameTable T) (key : Key) → StandsFor b (Waits key) op r
      → IsOrListens (asks r (Poll op)) (poll_woken b key (Op op))
  pub refused : (b : Blocked T) (op : OpId) (r : NameTable T) (key : Key) → StandsFor b (Waits key) op r
      → asks r (PollRefused op) ≡ poll_refused b key
