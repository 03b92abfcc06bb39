-- Which steps are refused, and why. Room for memory is another matter: see `Run`.
use Rattle.std.specs.Prelude.{if◌then◌else◌}
use Rattle.channel_world_runs.specs.Words.{nat_lt, List, Bool, false, Option, None, Some, option_map, option_map_or, at, is_taken, plan_of, UnderWay, refusal_beside, Call, Handle, HandleId, OpId, Operation, Op, Stream, Plan, WorldRefusal, Busy, Idle, HandleEntry, OperationEntry, NameTable, Step}
use Rattle.channel_world_runs.specs.NameTable.{is_polled, names_of, is_at_work}
use Rattle.channel_world_runs.specs.Calls.{Agent}

module _ {T : Type 0} where
  -- whose poll is under way, and which handles calls under way use
  abbrev pub under_way_in : NameTable T → UnderWay
  under_way_in r = record {
    polled = λ w. elim w [
      | Op op ↦ option_map_or (λ (o : OperationEntry T). is_polled o.poll_state) (at op.0 r.operations) false
      | Stream handle ↦ option_map_or (λ (h : HandleEntry). is_polled h.poll_state) (at handle.0 r.handles) false
    ];
    used = λ handle. option_map_or (λ (h : HandleEntry). nat_lt 0 h.users) (at handle.0 r.handles) false;
  }

  -- ---- one look at each name

  -- the handle under a name, as its entry has it
  abbrev pub handle_at : HandleId → NameTable T → Option Handle
  handle_at handle r = option_map (λ (h : HandleEntry). h.handle) (at handle.0 r.handles)

  -- the operation
  abbrev pub operation_at : OpId → NameTable T → Option (Operation T)
  operation_at op r = option_map (λ (o : OperationEntry T). o.operation) (at op.0 r.operations)

  -- ---- refusals

  -- why a call is not begun beside those under way
  abbrev pub begin_refusal : NameTable T → Call T → Option WorldRefusal
  begin_refusal r c = refusal_beside (under_way_in r) (names_of r) c

  -- why a step is refused
  abbrev pub step_refusal : NameTable T → List (Agent T) → Step T → Option WorldRefusal
  step_refusal r agents (Step.Begin p c) = if is_at_work p.0 agents then Some Busy else begin_refusal r c
  step_refusal r agents (Step.Step p) = if is_at_work p.0 agents then None else Some Idle

  -- a new name that was taken before
  abbrev pub again_planned : NameTable T → Plan → Bool
  again_planned r (Plan.Makes wanted handle op kind) = is_taken op.0 r.operations
  again_planned r (Plan.Mints wanted from new to) = is_taken new.0 r.handles
  again_planned r p = false

  abbrev pub takes_again : NameTable T → Call T → Bool
  takes_again r c = again_planned r (plan_of c)
