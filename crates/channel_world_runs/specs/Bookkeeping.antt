-- What a call asks as it begins, what it does to the names then, and what it writes back at its end.
use Rattle.std.specs.Prelude.{◌≡◌}
use Rattle.channel_world_runs.specs.Words.{Bool, true, false, is_some, Option, None, Some, option_map_or, ChannelAsk, Reply, Returned, asked, clone_asked, upgrade_asked, at, borrowed_by, own_message, with_message, new_operation, with_spent, with_changed, without_name, Call, Handle, HandleId, HandleKind, OpId, Operation, Waiter, kin, plan_of, Begun, OnReturn, OperationEntry, Rests, IsPolled, NameTable, Plan}
use Rattle.channel_world_runs.specs.NameTable.{poll_state_with, is_done, unused, names_of, held_of, with_lent, with_given_back, with_borrowed, with_handed_over, with_poll_state}
use Rattle.channel_world_runs.specs.declared.names.OnReturn.TheVariants.{Nothing, Leave, LeaveBoth, Make, Poll, PollNext, New}
use Rattle.channel_world_model.specs.declared.plan.Kinship.{Kinship}

-- whether a call of this plan brings nothing but names of what lives
abbrev pub is_named : Plan → Bool
is_named (Plan.Through wanted handle) = false
is_named (Plan.Makes wanted handle op kind) = false
is_named (Plan.Mints wanted from new to) = false
is_named p = true

module _ {T : Type 0} where
  -- ---- the beginning

  -- what a call asks when it is alone; but a send whose message is with a poll under way has not finished
  abbrev pub asks : NameTable T → Call T → ChannelAsk T Waiter
  asks r (Call.SendIsTerminated op) = ChannelAsk.SendIsTerminated (option_map_or is_done (at op.0 r.operations) false)
  asks r c = asked (held_of r) (names_of r) c

  -- an operation that was never polled
  abbrev pub unpolled : Operation T → OperationEntry T
  unpolled operation = record { operation = operation; poll_state = Rests }

  -- the handle of an operation is used no more
  abbrev pub leave_handle_of : Option (OperationEntry T) → OnReturn T
  leave_handle_of None = Nothing
  leave_handle_of (Some o) = Leave (borrowed_by o.operation)

  -- a handle is used no more; one of a kind that follows from its own lives, if it was made
  abbrev pub new_from : HandleId → HandleId → (HandleKind → HandleKind) → Option Handle → OnReturn T
  new_from from new kind None = Nothing
  new_from from new kind (Some h) = New from new (kind h.kind)

  -- the message of a new send
  abbrev pub new_message : Call T → Option T
  new_message (Call.NewSend op sender msg) = Some msg
  new_message c = None

  -- what a call of this plan has to write back; a new operation has this message
  abbrev pub returns : NameTable T → Option T → Plan → OnReturn T
  returns r m (Plan.Through wanted handle) = Leave handle
  returns r m (Plan.ThroughBoth a b) = LeaveBoth a b
  returns r m (Plan.Makes wanted handle op kind) = Make op (unpolled (new_operation kind handle m))
  returns r m (Plan.Polls op) = Poll op
  returns r m (Plan.GivesUp op) = leave_handle_of (at op.0 r.operations)
  returns r m (Plan.Asks op) = leave_handle_of (at op.0 r.operations)
  returns r m (Plan.Streams receiver) = PollNext receiver
  returns r m (Plan.Drops handle) = Nothing
  returns r m (Plan.Mints wanted from new to) = new_from from new (kin to) (at from.0 (names_of r).handles)

  -- what a call has to write back
  abbrev pub on_return_of : NameTable T → Call T → OnReturn T
  on_return_of r c = returns r (new_message c) (plan_of c)

  -- a new name is taken, and nothing lives under it yet
  abbrev pub operation_named : OpId → NameTable T → NameTable T
  operation_named op r = record r { operations = with_spent op.0 r.operations }

  abbrev pub handle_named : HandleId → NameTable T → NameTable T
  handle_named new r = record r { handles = with_spent new.0 r.handles }

  -- a poll has what the operation had
  abbrev pub lent_to_poll : OperationEntry T → OperationEntry T
  lent_to_poll o = record { operation = with_message None o.operation; poll_state = IsPolled (is_some (own_message o.operation)) }

  -- what lives under the operation's name is changed so, where something lives
  abbrev pub with_operation : (OperationEntry T → OperationEntry T) → OpId → NameTable T → NameTable T
  with_operation change op r = record r { operations = option_map_or (λ (o : OperationEntry T). with_changed op.0 (change o) r.operations) (at op.0 r.operations) r.operations }

  -- a call uses the handle of this operation
  abbrev pub lent_by : Option (OperationEntry T) → NameTable T → NameTable T
  lent_by None r = r
  lent_by (Some o) r = with_lent (borrowed_by o.operation) r

  -- the handle of this operation goes over to the call that gives it up
  abbrev pub handed_over_by : Option (OperationEntry T) → NameTable T → NameTable T
  handed_over_by None r = r
  handed_over_by (Some o) r = with_handed_over (borrowed_by o.operation) r

  -- the names once a call of this plan has begun: what it makes has its name, and an operation borrows its handle, what it polls is
  -- lent to it, what it gives up or drops lives no more, and the handles that it goes through are in use
  abbrev pub names_planned : Plan → NameTable T → NameTable T
  names_planned (Plan.Through wanted handle) r = with_lent handle r
  names_planned (Plan.ThroughBoth a b) r = with_lent b (with_lent a r)
  names_planned (Plan.Makes wanted handle op kind) r = with_borrowed handle (operation_named op r)
  names_planned (Plan.Polls op) r = with_operation lent_to_poll op r
  names_planned (Plan.GivesUp op) r = handed_over_by (at op.0 r.operations) (record r { operations = without_name op.0 r.operations })
  names_planned (Plan.Asks op) r = lent_by (at op.0 r.operations) r
  names_planned (Plan.Streams receiver) r = with_lent receiver (with_poll_state (IsPolled false) receiver r)
  names_planned (Plan.Drops handle) r = record r { handles = without_name handle.0 r.handles }
  names_planned (Plan.Mints wanted from new to) r = with_lent from (handle_named new r)

  -- once a call has begun
  abbrev pub names_begun : NameTable T → Call T → NameTable T
  names_begun r c = names_planned (plan_of c) r

  -- ---- the code of a beginning

  -- a call has begun that asks this, has this to write back, and leaves these names
  abbrev pub Starts : ChannelAsk T Waiter → OnReturn T → NameTable T → Begun T → NameTable T → Type 0
  Starts a on_return names begun new = (begun.ask ≡ a) × (begun.on_return ≡ on_return) × (new ≡ names)

  -- what the making of a handle from another asks; a weak one is not counted
  abbrev pub mint_asked : Kinship → Option Handle → ChannelAsk T Waiter
  mint_asked Kinship.Own h = clone_asked h
  mint_asked Kinship.Weak h = ChannelAsk.Make
  mint_asked Kinship.Strong h = upgrade_asked h

  -- a call has begun
  pub record BeginsByName (old : NameTable T) (c : Call T) (begun : Begun T) (new : NameTable T) : Type 0 where
    pub ask : begun.ask ≡ asks old c
    pub on_return : begun.on_return ≡ on_return_of old c
    pub names : new ≡ names_begun old c

  -- ---- the end

  -- an operation has what its poll left to it
  abbrev pub restored : Returned T → OperationEntry T → OperationEntry T
  restored kept o = record { operation = with_message kept.message o.operation; poll_state = poll_state_with kept.key }

  -- a handle of this kind lives under the name, if the reply says that it was made
  abbrev pub installed : HandleId → HandleKind → Reply T → NameTable T → NameTable T
  installed new kind Reply.Made r = record r { handles = with_changed new.0 (unused kind) r.handles }
  installed new kind x r = r

  -- the names after a call that gave this reply and left this
  abbrev pub written_back : OnReturn T → Reply T → Returned T → NameTable T → NameTable T
  written_back Nothing x kept r = r
  written_back (Leave handle) x kept r = with_given_back handle r
  written_back (LeaveBoth a b) x kept r = with_given_back b (with_given_back a r)
  written_back (Make op operation) x kept r = record r { operations = with_changed op.0 operation r.operations }
  written_back (Poll op) x kept r = with_operation (restored kept) op r
  written_back (PollNext receiver) x kept r = with_given_back receiver (with_poll_state (poll_state_with kept.key) receiver r)
  written_back (New from new kind) x kept r = installed new kind x (with_given_back from r)
