-- How many of those that live are pending.
use Rattle.std.specs.Prelude.{◌+◌}
use Rattle.channel_world_runs.specs.Words.{ℕ, Bool, false, Option, is_some, count_by, option_map_or, HandleEntry, OperationEntry, PollState, NameTable}
use Rattle.channel_world_runs.specs.NameTable.{key_of}

-- one that is pending holds a listener
abbrev pub stands_pending : PollState → Bool
stands_pending s = is_some (key_of s)

-- whether a handle lives there that stands so as a stream
abbrev pub stream_stands : (PollState → Bool) → Option HandleEntry → Bool
stream_stands test x = option_map_or (λ (h : HandleEntry). test h.poll_state) x false

module _ {T : Type 0} where
  -- whether an operation lives there that stands so
  abbrev pub operation_stands : (PollState → Bool) → Option (OperationEntry T) → Bool
  operation_stands test x = option_map_or (λ (o : OperationEntry T). test o.poll_state) x false

  -- how many operations and streams stand so, under all names that were ever taken
  abbrev pub how_many : (PollState → Bool) → NameTable T → ℕ
  how_many test r = count_by (λ e. operation_stands test e.1) r.operations + count_by (λ e. stream_stands test e.1) r.handles
