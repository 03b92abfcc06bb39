-- How many are pending on which line, and how many messages calls under way have taken: numbers that a world tells.
use Rattle.std.specs.Prelude.{◌+◌, ◌∷◌, ◌++◌}
use Rattle.channel_world.specs.Words.{ℕ, Bool, false, List, [], map, Option, Some, count_by, WaitList, same_line, Waiter, Op, Stream, NameStatus, waits, status_by, operation_status, stream_status, status, NameTable}
use Rattle.std.specs.Map.{keys_of}
use Rattle.channel_world_runs.specs.declared.calls.CallUnderWay.{CallUnderWay}
use Rattle.channel_world_runs.specs.declared.names.HandleEntry.{HandleEntry}
use Rattle.channel_world_runs.specs.declared.names.OperationEntry.{OperationEntry}

-- whether one that stands so is pending on this line
abbrev pub is_pending_on : WaitList → NameStatus → Bool
is_pending_on line (waits h) = same_line line h.line
is_pending_on line other = false

-- how a receiver's stream stands under a name that was taken
abbrev pub stream_stance : Option HandleEntry → NameStatus
stream_stance o = status_by (λ (x : HandleEntry). stream_status x.handle.kind x.poll_state) (Some o)

module _ {T : Type 0} where
  -- the messages that these calls have taken
  abbrev pub takings_of : List (CallUnderWay T) → ℕ
  takings_of [] = 0
  takings_of (c ∷ cs) = c.activity.taken + takings_of cs

  -- how an operation stands
  abbrev pub operation_stance : Option (OperationEntry T) → NameStatus
  operation_stance o = status_by (λ (x : OperationEntry T). operation_status x.operation x.poll_state) (Some o)

  -- the names that were ever taken
  abbrev pub all_names : NameTable T → List Waiter
  all_names r = map (λ n. Op (record { 0 = n })) (keys_of r.operations) ++ map (λ n. Stream (record { 0 = n })) (keys_of r.handles)

  -- how many are pending on this line
  abbrev pub pending_on_line : WaitList → NameTable T → ℕ
  pending_on_line line r = count_by (λ w. is_pending_on line (status r w)) (all_names r)
