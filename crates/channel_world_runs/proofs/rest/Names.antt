-- The line and the listener of a name that is pending, as one call at a time sees them.
use Rattle.std.specs.Prelude.{◌≡◌, ◌⊎◌}
use Rattle.channel_world_runs.proofs.Words.{nat_eq, Option, None, Some, inl, inr, refl, ap, ◌∙◌, lookup, option_map, option_map_or, Key, ListenerRef, WaitList, Sends, Receives, Streams, Closings, at_seen, line_at, line_of_operation, HandleId, HandleKind, Waiter, Op, Stream, NameStatus, free, retired, invalid, rests, waits, polled, status_on, no_stream_status, stream_status, status_by, send_status, operation_status, status, key_of, names_of, held_of, HandleEntry, OperationEntry, PollState, Rests, Waits, IsPolled, NameTable, Operation}
use Rattle.channel_world_runs.proofs.OwnerNames.{op_status, handle_entry_status}

abbrev pub on : WaitList → Key → ListenerRef
on line key = record { line = line; key = key }

pub same_held : (h k : ListenerRef) → waits h ≡ waits k → h ≡ k
same_held h k e = cc e

-- ---- what is pending

-- its listener is this, on this list
abbrev Is : Option Key → WaitList → ListenerRef → Type 0
Is key line h = (key ≡ Some h.key) × (line ≡ h.line)

on_is : (line : WaitList) (s : PollState) (h : ListenerRef) → status_on line s ≡ waits h → Is (key_of s) line h
on_is line Rests h e = absurd (let no : rests line ≡ waits h = e in cc)
on_is line (Waits key) h e =
    let same : on line key ≡ h = same_held (on line key) h e in
    (ap (λ (x : ListenerRef). let o : Option Key = Some x.key in o) same, ap (λ (x : ListenerRef). x.line) same)
on_is line (IsPolled brings) h e = absurd (let no : polled line ≡ waits h = e in cc)

off_is : (s : PollState) (h : ListenerRef) → no_stream_status s ≡ waits h → ⊥
off_is Rests h e = let no : rests Streams ≡ waits h = e in cc
off_is s h e = let no : invalid ≡ waits h = e in cc

stream_is : (k : HandleKind) (s : PollState) (h : ListenerRef) → stream_status k s ≡ waits h → Is (key_of s) Streams h
stream_is HandleKind.Receiver s h e = on_is Streams s h e
stream_is k s h e = absurd (off_is s h e)

-- ---- what holds a listener

-- what holds this listener is amiss, which never is, or pending
abbrev pub Pends : NameStatus → Key → Type 0
Pends p key = (p ≡ invalid) ⊎ ((line : WaitList) × (p ≡ waits (on line key)))

on_pends : (line : WaitList) (s : PollState) (key : Key) → key_of s ≡ Some key → Pends (status_on line s) key
on_pends line (Waits k) key e = let same : k ≡ key = cc e in inr (line, ap (λ (x : Key). waits (on line x)) same)
on_pends line s key e = absurd (let no : None ≡ Some key = e in cc)

off_pends : (s : PollState) (key : Key) → key_of s ≡ Some key → Pends (no_stream_status s) key
off_pends (Waits k) key e = inl refl
off_pends s key e = absurd (let no : None ≡ Some key = e in cc)

stream_pends : (k : HandleKind) (s : PollState) (key : Key) → key_of s ≡ Some key → Pends (stream_status k s) key
stream_pends HandleKind.Receiver s key e = on_pends Streams s key e
stream_pends k s key e = off_pends s key e

in_line : (key : Option Key) (line : WaitList) (h : ListenerRef) → Is key line h → (key ≡ Some h.key) × (Some line ≡ Some h.line)
in_line key line h i = (i.0, ap (λ (x : WaitList). let o : Option WaitList = Some x in o) i.1)

abbrev lives : {X : Type 0} → Option (Option X) → Option X
lives o = option_map_or (λ (x : Option _). x) o None

abbrev handle_entry_key : Option (Option HandleEntry) → Option Key
handle_entry_key o = option_map_or (λ (x : HandleEntry). key_of x.poll_state) (lives o) None

hold_at : (o : Option (Option HandleEntry)) (h : ListenerRef) → status_by handle_entry_status o ≡ waits h → Is (handle_entry_key o) Streams h
hold_at None h e = absurd (let no : free ≡ waits h = e in cc)
hold_at (Some None) h e = absurd (let no : retired ≡ waits h = e in cc)
hold_at (Some (Some x)) h e = stream_is x.handle.kind x.poll_state h e

handle_entry_pends : (o : Option (Option HandleEntry)) (key : Key) → handle_entry_key o ≡ Some key → Pends (status_by handle_entry_status o) key
handle_entry_pends (Some (Some x)) key e = stream_pends x.handle.kind x.poll_state key e
handle_entry_pends o key e = absurd (let no : None ≡ Some key = e in cc)

module _ {T : Type 0} where
  -- the line of what is pending
  abbrev InLine : Option Key → Option (Operation T) → ListenerRef → Type 0
  InLine key o h = (key ≡ Some h.key) × (line_of_operation o ≡ Some h.line)

  send_is : (handle : HandleId) (m : Option T) (s : PollState) (h : ListenerRef) → send_status m s ≡ waits h
      → InLine (key_of s) (Some (Operation.Send handle m)) h
  send_is handle None Rests h e = absurd (let no : rests Sends ≡ waits h = e in cc)
  send_is handle None (Waits key) h e = absurd (let no : invalid ≡ waits h = e in cc)
  send_is handle None (IsPolled brings) h e = absurd (let no : polled Sends ≡ waits h = e in cc)
  send_is handle (Some m) s h e = in_line (key_of s) Sends h (on_is Sends s h e)

  operation_is : (x : Operation T) (s : PollState) (h : ListenerRef) → operation_status x s ≡ waits h → InLine (key_of s) (Some x) h
  operation_is (Operation.Send handle m) s h e = send_is handle m s h e
  operation_is (Operation.Receive handle) s h e = in_line (key_of s) Receives h (on_is Receives s h e)
  operation_is (Operation.Closing handle) s h e = in_line (key_of s) Closings h (on_is Closings s h e)

  send_pends : (m : Option T) (s : PollState) (key : Key) → key_of s ≡ Some key → Pends (send_status m s) key
  send_pends None (Waits k) key e = inl refl
  send_pends (Some m) s key e = on_pends Sends s key e
  send_pends m s key e = absurd (let no : None ≡ Some key = e in cc)

  operation_pends : (x : Operation T) (s : PollState) (key : Key) → key_of s ≡ Some key → Pends (operation_status x s) key
  operation_pends (Operation.Send handle m) s key e = send_pends m s key e
  operation_pends (Operation.Receive handle) s key e = on_pends Receives s key e
  operation_pends (Operation.Closing handle) s key e = on_pends Closings s key e

  -- ---- by their names

  abbrev op_key : Option (Option (OperationEntry T)) → Option Key
  op_key o = option_map_or (λ (x : OperationEntry T). key_of x.poll_state) (lives o) None

  op_at : (o : Option (Option (OperationEntry T))) (h : ListenerRef) → status_by op_status o ≡ waits h
      → InLine (op_key o) (option_map (λ (x : OperationEntry T). x.operation) (lives o)) h
  op_at None h e = absurd (let no : free ≡ waits h = e in cc)
  op_at (Some None) h e = absurd (let no : retired ≡ waits h = e in cc)
  op_at (Some (Some o)) h e = operation_is o.operation o.poll_state h e

  op_pends : (o : Option (Option (OperationEntry T))) (key : Key) → op_key o ≡ Some key → Pends (status_by op_status o) key
  op_pends (Some (Some o)) key e = operation_pends o.operation o.poll_state key e
  op_pends o key e = absurd (let no : None ≡ Some key = e in cc)

  module _ (r : NameTable T) where
    -- the line of a pending name is that of its listener
    pub line_is : (w : Waiter) (h : ListenerRef) → status r w ≡ waits h → line_at (names_of r) w ≡ Some h.line
    line_is (Op op) h e =
        ap (λ (o : Option (Operation T)). line_of_operation o) (at_seen (λ (x : OperationEntry T). x.operation) op.0 r.operations) ∙
        (op_at (lookup (nat_eq op.0) r.operations) h e).1
    line_is (Stream handle) h e =
        ap (λ (x : WaitList). let o : Option WaitList = Some x in o) (hold_at (lookup (nat_eq handle.0) r.handles) h e).1

    -- it holds that listener
    pub holds_it : (w : Waiter) (h : ListenerRef) → status r w ≡ waits h → held_of r w ≡ Some h.key
    holds_it (Op op) h e = (op_at (lookup (nat_eq op.0) r.operations) h e).0
    holds_it (Stream handle) h e = (hold_at (lookup (nat_eq handle.0) r.handles) h e).0

    -- only one that is pending holds one
    pub pends : (w : Waiter) (key : Key) → held_of r w ≡ Some key → Pends (status r w) key
    pends (Op op) key e = op_pends (lookup (nat_eq op.0) r.operations) key e
    pends (Stream handle) key e = handle_entry_pends (lookup (nat_eq handle.0) r.handles) key e
