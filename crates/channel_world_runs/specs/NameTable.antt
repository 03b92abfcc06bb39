-- What lives under which name.
use Rattle.std.specs.Prelude.{◌+◌, ◌-◌, ◌^◌, ◌∷◌}
use Rattle.channel_world_runs.specs.Words.{ℕ, min, Bool, true, false, not, nat_eq, List, [], map, Option, None, Some, is_some, list_any, option_map, option_map_or, Key, KeysHeld, Directory, Names, at, with_changed, HandleId, HandleKind, Operation, Waiter, Op, Stream, HandleEntry, OperationEntry, PollState, Rests, Waits, IsPolled, NameTable}
use Rattle.channel_world_runs.specs.Calls.{Agent}

-- ---- standings

-- the listener of one that is pending
abbrev pub key_of : PollState → Option Key
key_of (Waits key) = Some key
key_of s = None

-- after a poll that left this listener, or none
abbrev pub poll_state_with : Option Key → PollState
poll_state_with None = Rests
poll_state_with (Some key) = Waits key

abbrev pub is_polled : PollState → Bool
is_polled Rests = false
is_polled (Waits key) = false
is_polled (IsPolled brings) = true

-- ---- operations

-- whether a poll under way has the message
abbrev pub is_lent : PollState → Bool
is_lent (IsPolled brings) = brings
is_lent s = false

module _ {T : Type 0} where
  -- a send is finished whose message is gone, and that no poll under way has
  abbrev pub has_finished : Operation T → PollState → Bool
  has_finished (Operation.Send handle None) s = not (is_lent s)
  has_finished operation s = false

  abbrev pub is_done : OperationEntry T → Bool
  is_done o = has_finished o.operation o.poll_state

-- ---- all names

-- handle 0 is the first sender, handle 1 the first receiver; nobody uses them
abbrev pub unused : HandleKind → HandleEntry
unused kind = record { handle = record { kind = kind; borrowers = 0 }; users = 0; poll_state = Rests }

abbrev pub first_handles : Directory HandleEntry
first_handles = (1, Some (unused HandleKind.Receiver)) ∷ (0, Some (unused HandleKind.Sender)) ∷ []

-- one more call under way uses it, or one fewer
abbrev pub used_more : HandleEntry → HandleEntry
used_more h = record h { users = min (h.users + 1) (2 ^ 64 - 1) }

abbrev pub used_less : HandleEntry → HandleEntry
used_less h = record h { users = h.users - 1 }

-- one more operation borrows it
abbrev pub borrowed_more : HandleEntry → HandleEntry
borrowed_more h = record h { handle = record h.handle { borrowers = h.handle.borrowers + 1 } }

-- an operation borrows it no more, and the call that gives this up uses it
abbrev pub handed_over : HandleEntry → HandleEntry
handed_over h = record h { handle = record h.handle { borrowers = h.handle.borrowers - 1 }; users = min (h.users + 1) (2 ^ 64 - 1) }

module _ {T : Type 0} where
  abbrev pub first_name_table : NameTable T
  first_name_table = record { handles = first_handles; operations = [] }

  -- all that lives, as one call at a time sees it
  abbrev pub names_of : NameTable T → Names T
  names_of r = record {
    handles = map (λ e. (e.0, option_map (λ (h : HandleEntry). h.handle) e.1)) r.handles;
    operations = map (λ e. (e.0, option_map (λ (o : OperationEntry T). o.operation) e.1)) r.operations;
  }

  -- the listener that each holds that is pending
  abbrev pub held_of : NameTable T → KeysHeld
  held_of r = λ w. elim w [
    | Op op ↦ option_map_or (λ (o : OperationEntry T). key_of o.poll_state) (at op.0 r.operations) None
    | Stream handle ↦ option_map_or (λ (h : HandleEntry). key_of h.poll_state) (at handle.0 r.handles) None
  ]

  abbrev pub is_name_pending : NameTable T → Waiter → Bool
  is_name_pending r w = is_some (held_of r w)

  -- what lives under the handle's name is changed so, where something lives
  abbrev pub with_handle : (HandleEntry → HandleEntry) → HandleId → NameTable T → NameTable T
  with_handle change handle r = record r { handles = option_map_or (λ (h : HandleEntry). with_changed handle.0 (change h) r.handles) (at handle.0 r.handles) r.handles }

  abbrev pub with_lent : HandleId → NameTable T → NameTable T
  with_lent handle r = with_handle used_more handle r

  abbrev pub with_given_back : HandleId → NameTable T → NameTable T
  with_given_back handle r = with_handle used_less handle r

  abbrev pub with_borrowed : HandleId → NameTable T → NameTable T
  with_borrowed handle r = with_handle borrowed_more handle r

  abbrev pub with_handed_over : HandleId → NameTable T → NameTable T
  with_handed_over handle r = with_handle handed_over handle r

  -- the receiver's stream stands so
  abbrev pub with_poll_state : PollState → HandleId → NameTable T → NameTable T
  with_poll_state poll_state handle r = with_handle (λ (h : HandleEntry). record h { poll_state = poll_state }) handle r

  -- ---- parties

  -- whether a party has a call under way
  abbrev pub is_at_work : ℕ → List (Agent T) → Bool
  is_at_work party agents = list_any (λ (a : Agent T). nat_eq a.party party) agents
