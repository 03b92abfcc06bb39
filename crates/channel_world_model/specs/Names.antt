-- The names of handles and operations: which were ever taken, which live, what each is and what it borrows.
use Rattle.std.specs.Prelude.{◌+◌, ◌-◌, ◌∷◌}
use Rattle.channel_world_model.specs.Words.{ℕ, List, nat_eq, Bool, Option, None, Some, is_some, option_map_or, lookup, set_value, HandleId, OpId, Handle, Operation, OperationKind, WaitList, Sends, Receives, Closings}

-- The names of one sort that were ever taken, the latest first: each with what lives under it, or with None where that
-- lives no more.
abbrev pub Directory : Type 0 → Type 0
Directory X = List (ℕ × Option X)

-- what lives under the name
abbrev pub at : {X : Type 0} → ℕ → Directory X → Option X
at name directory = option_map_or (λ (x : Option _). x) (lookup (nat_eq name) directory) None

-- whether the name was ever taken
abbrev pub is_taken : {X : Type 0} → ℕ → Directory X → Bool
is_taken name directory = is_some (lookup (nat_eq name) directory)

-- x lives under a name that is new
abbrev pub with_new : {X : Type 0} → ℕ → X → Directory X → Directory X
with_new name x directory = (name, Some x) ∷ directory

-- the name is taken from now on, and nothing ever lives under it
abbrev pub with_spent : {X : Type 0} → ℕ → Directory X → Directory X
with_spent name directory = (name, None) ∷ directory

-- what lives under the name is x from now on
abbrev pub with_changed : {X : Type 0} → ℕ → X → Directory X → Directory X
with_changed name x directory = set_value (nat_eq name) directory (Some x)

-- what lived under the name lives no more; the name stays taken
abbrev pub without_name : {X : Type 0} → ℕ → Directory X → Directory X
without_name name directory = set_value (nat_eq name) directory None

-- ---- an operation

-- the handle that it borrows
abbrev pub borrowed_by : {T : Type 0} → Operation T → HandleId
borrowed_by (Operation.Send handle message) = handle
borrowed_by (Operation.Receive handle) = handle
borrowed_by (Operation.Closing handle) = handle

-- the message of an unfinished send
abbrev pub own_message : {T : Type 0} → Operation T → Option T
own_message (Operation.Send handle message) = message
own_message (Operation.Receive handle) = None
own_message (Operation.Closing handle) = None

-- the same, where it is a send with this message, or with none
abbrev pub with_message : {T : Type 0} → Option T → Operation T → Operation T
with_message message (Operation.Send handle before) = Operation.Send handle message
with_message message (Operation.Receive handle) = Operation.Receive handle
with_message message (Operation.Closing handle) = Operation.Closing handle

-- the line in which it waits
abbrev pub waits_in : {T : Type 0} → Operation T → WaitList
waits_in (Operation.Send handle message) = Sends
waits_in (Operation.Receive handle) = Receives
waits_in (Operation.Closing handle) = Closings

-- a new one of this kind, which borrows the handle; a send has this message
abbrev pub new_operation : {T : Type 0} → OperationKind → HandleId → Option T → Operation T
new_operation OperationKind.Send handle message = Operation.Send handle message
new_operation OperationKind.Receive handle message = Operation.Receive handle
new_operation OperationKind.Closing handle message = Operation.Closing handle

-- ---- all names

-- one more live operation borrows the handle, or one less
abbrev pub lent_once_more : HandleId → Directory Handle → Directory Handle
lent_once_more handle directory = option_map_or (λ (h : Handle). with_changed handle.0 (record h { borrowers = h.borrowers + 1 }) directory) (at handle.0 directory) directory

abbrev pub used_once_less : HandleId → Directory Handle → Directory Handle
used_once_less handle directory = option_map_or (λ (h : Handle). with_changed handle.0 (record h { borrowers = h.borrowers - 1 }) directory) (at handle.0 directory) directory

pub record Names (T : Type 0) : Type 0 where
  pub handles : Directory Handle
  pub operations : Directory (Operation T)

-- a new operation, which borrows its handle as long as it lives
abbrev pub with_new_operation : {T : Type 0} → OpId → Operation T → Names T → Names T
with_new_operation op operation names = record {
  handles = lent_once_more (borrowed_by operation) names.handles;
  operations = with_new op.0 operation names.operations;
}

-- the operation is another from now on, over the same handle
abbrev pub with_operation_changed : {T : Type 0} → OpId → Operation T → Names T → Names T
with_operation_changed op operation names = record names { operations = with_changed op.0 operation names.operations }

-- the operation lives no more
abbrev pub without_operation : {T : Type 0} → OpId → Operation T → Names T → Names T
without_operation op operation names = record {
  handles = used_once_less (borrowed_by operation) names.handles;
  operations = without_name op.0 names.operations;
}

-- the handles are these from now on
abbrev pub with_handles : {T : Type 0} → Directory Handle → Names T → Names T
with_handles handles names = record names { handles = handles }
