-- The names that a command uses and gives, and the call that it makes.
use Rattle.std.specs.Prelude.{ℕ, List, [], ◌∷◌, ◌++◌, length, Bool, false, Option, None, Some, is_some, option_and_then}
use Rattle.std.specs.Option.{option_map, option_map_or}
use Rattle.channel_world_model.specs.Names.{Names, at}
use Rattle.channel_world_model.specs.declared.call.Call.{Call}
use Rattle.channel_world_language.specs.Words.{Name}
use Rattle.channel_world_language.specs.Command.{Command, message, recv_many, send, new, one, same_channel, settle}
use Rattle.channel_world_language.specs.declared.command.Doing.{Doing}
use Rattle.channel_world_language.specs.declared.command.Making.{Making}
use Rattle.channel_world_language.specs.declared.command.Question.{Question}
use Rattle.channel_world_language.specs.declared.command.Sending.{Sending}
use Rattle.channel_world_language.specs.Table.{Table, named_in, number_in}
use Rattle.channel_world_language.specs.declared.table.Sort.{Sort}
use Rattle.channel_world_language.specs.declared.table.Named.{Named}
use Rattle.channel_world_model.specs.declared.name.HandleId.{HandleId}
use Rattle.channel_world_model.specs.declared.name.OpId.{OpId}

-- ---- names

-- the names that a command uses
abbrev pub used : Command → List Name
used (message how s m) = s ∷ []
used (recv_many r n) = r ∷ []
used (send o s m) = s ∷ []
used (new what n h) = h ∷ []
used (one what x) = x ∷ []
used (same_channel a b) = a ∷ b ∷ []
used settle = []

-- what is made under a new name
abbrev pub sort_of : Making → Sort
sort_of Making.Recv = Sort.Op
sort_of Making.Closed = Sort.Op
sort_of what = Sort.Handle

-- the new name that a command gives, if it gives one, and what to
abbrev pub given : Command → Option (Name × Sort)
given (send o s m) = Some (o, Sort.Op)
given (new what n h) = Some (n, sort_of what)
given command = None

-- whether what the name names lives
abbrev pub lives : {T : Type 0} → Names T → Named → Bool
lives names (Named.Handle handle) = is_some (at handle.0 names.handles)
lives names (Named.Op op) = is_some (at op.0 names.operations)

-- whether the name was given to what lives
abbrev pub is_known : {T : Type 0} → Names T → Table → Name → Bool
is_known names table name = option_map_or (lives names) (named_in table name) false

-- whether the name that a command gives was given before
abbrev pub is_given_before : Table → Command → Bool
is_given_before table command = option_map_or (λ n. is_some (number_in table n.0)) (given command) false

-- the table after an accepted command
abbrev pub with_given : Table → Command → Table
with_given table command = option_map_or (λ n. table ++ n ∷ []) (given command) table

-- ---- calls

abbrev pub handle_of : Named → Option HandleId
handle_of (Named.Handle handle) = Some handle
handle_of (Named.Op op) = None

-- a call of the handle of this name; None where the name is no handle's
abbrev pub of_handle : Table → Name → (HandleId → Call ℕ) → Option (Call ℕ)
of_handle table name call_by = option_map call_by (option_and_then handle_of (named_in table name))

abbrev pub sending_call : Sending → HandleId → ℕ → Call ℕ
sending_call Sending.Try sender m = Call.TrySend sender m
sending_call Sending.Force sender m = Call.ForceSend sender m

-- what is made through a handle has this number
abbrev pub making_call : Making → ℕ → HandleId → Call ℕ
making_call Making.Recv n h = Call.NewRecv (record { 0 = n }) h
making_call Making.Closed n h = Call.NewClosed (record { 0 = n }) h
making_call Making.Clone n h = Call.TryClone h (record { 0 = n })
making_call Making.Downgrade n h = Call.Downgrade h (record { 0 = n })
making_call Making.Upgrade n h = Call.Upgrade h (record { 0 = n })

abbrev pub question_call : Question → HandleId → Call ℕ
question_call Question.IsClosed h = Call.IsClosed h
question_call Question.IsEmpty h = Call.IsEmpty h
question_call Question.IsFull h = Call.IsFull h
question_call Question.Len h = Call.Len h
question_call Question.Capacity h = Call.Capacity h
question_call Question.SenderCount h = Call.SenderCount h
question_call Question.ReceiverCount h = Call.ReceiverCount h

-- what is done to a handle or an operation; None if it can only be done to the other sort
abbrev pub doing_call : Doing → Named → Option (Call ℕ)
doing_call Doing.TryRecv (Named.Handle h) = Some (Call.TryRecv h)
doing_call Doing.Next (Named.Handle h) = Some (Call.PollNext h)
doing_call Doing.Poll (Named.Op op) = Some (Call.Poll op)
doing_call Doing.Drop (Named.Handle h) = Some (Call.Drop h)
doing_call Doing.Drop (Named.Op op) = Some (Call.GiveUp op)
doing_call Doing.Close (Named.Handle h) = Some (Call.Close h)
doing_call Doing.IsTerminated (Named.Handle h) = Some (Call.StreamIsTerminated h)
doing_call Doing.IsTerminated (Named.Op op) = Some (Call.SendIsTerminated op)
doing_call (Doing.Ask question) (Named.Handle h) = Some (question_call question h)
doing_call what named = None

-- the call of a command, under whose new name stands the next number; None where a name is of the other sort
abbrev pub call_of : Table → Command → Option (Call ℕ)
call_of t (message how s m) = of_handle t s (λ h. sending_call how h m)
call_of t (recv_many r n) = of_handle t r (λ h. Call.RecvMany h n)
call_of t (send o s m) = of_handle t s (λ h. Call.NewSend (record { 0 = length t }) h m)
call_of t (new what n h) = of_handle t h (making_call what (length t))
call_of t (one what x) = option_and_then (doing_call what) (named_in t x)
call_of t (same_channel a b) = option_and_then (λ x. of_handle t b (λ y. Call.SameChannel x y)) (option_and_then handle_of (named_in t a))
call_of t settle = None
