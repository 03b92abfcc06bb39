-- What the parts of a call do to the names, as one call at a time sees them.
use Rattle.std.specs.Prelude.{◌≡◌, ◌+◌, ◌-◌}
use Rattle.channel_world_runs.proofs.Lemmas.{Option, None, refl, ap, Directory, Names, lent_once_more, used_once_less, Handle, HandleId, OpId, Returned, lent_to_poll, restored, with_operation, used_more, used_less, borrowed_more, handed_over, names_of, with_handle, with_lent, with_given_back, with_borrowed, with_handed_over, with_poll_state, HandleEntry, OperationEntry, PollState, NameTable, Operation, with_message, changed_at, views_changed, views_kept}
use Rattle.channel_world_model.specs.Names as model

-- ---- handles

abbrev pub handle_of : HandleEntry → Handle
handle_of h = h.handle

-- one more operation borrows it, or one fewer
abbrev pub one_more : Handle → Handle
one_more h = record h { borrowers = h.borrowers + 1 }

abbrev pub one_less : Handle → Handle
one_less h = record h { borrowers = h.borrowers - 1 }

-- ---- operations

module _ {T : Type 0} where
  -- an operation as one call at a time sees it
  abbrev pub operation_in : OperationEntry T → Operation T
  operation_in o = o.operation

  -- the last of two messages stays
  pub put_twice : (first last : Option T) (x : Operation T) → with_message last (with_message first x) ≡ with_message last x
  put_twice first last (Operation.Send handle msg) = refl
  put_twice first last x = refl

  -- ---- all names

  abbrev pub left_names : Option T → OpId → Names T → Names T
  left_names left op n = record n { operations = changed_at (with_message left) op.0 n.operations }

  abbrev pub with_operations : Directory (Operation T) → Names T → Names T
  with_operations d n = record n { operations = d }

  -- calls that use a handle, and how it stands as a stream, are not seen
  pub seen_handle : (r : NameTable T) (change : HandleEntry → HandleEntry) → ((h : HandleEntry) → (change h).handle ≡ h.handle) → (handle : HandleId)
      → names_of (with_handle change handle r) ≡ names_of r
  seen_handle r change same handle =
      ap (λ (d : Directory Handle). model.with_handles d (names_of r)) (views_kept handle_of change same handle.0 r.handles)

  pub seen_lent : (r : NameTable T) (handle : HandleId) → names_of (with_lent handle r) ≡ names_of r
  seen_lent r handle = seen_handle r used_more (λ h. refl) handle

  pub seen_back : (r : NameTable T) (handle : HandleId) → names_of (with_given_back handle r) ≡ names_of r
  seen_back r handle = seen_handle r used_less (λ h. refl) handle

  pub seen_poll_state : (r : NameTable T) (poll_state : PollState) (handle : HandleId) → names_of (with_poll_state poll_state handle r) ≡ names_of r
  seen_poll_state r poll_state handle = seen_handle r (λ (h : HandleEntry). record h { poll_state = poll_state }) (λ h. refl) handle

  -- operations that borrow it are
  pub seen_borrowed : (r : NameTable T) (handle : HandleId)
      → names_of (with_borrowed handle r) ≡ model.with_handles (lent_once_more handle (names_of r).handles) (names_of r)
  seen_borrowed r handle =
      ap (λ (d : Directory Handle). model.with_handles d (names_of r))
      (views_changed handle_of borrowed_more one_more (λ h. refl) handle.0 r.handles)

  pub seen_handed_over : (r : NameTable T) (handle : HandleId)
      → names_of (with_handed_over handle r) ≡ model.with_handles (used_once_less handle (names_of r).handles) (names_of r)
  seen_handed_over r handle =
      ap (λ (d : Directory Handle). model.with_handles d (names_of r))
      (views_changed handle_of handed_over one_less (λ h. refl) handle.0 r.handles)

  pub seen_to_poll : (r : NameTable T) (op : OpId)
      → names_of (with_operation lent_to_poll op r) ≡ left_names None op (names_of r)
  seen_to_poll r op =
      ap (λ (d : Directory (Operation T)). with_operations d (names_of r))
      (views_changed operation_in lent_to_poll (with_message None) (λ o. refl) op.0 r.operations)

  pub seen_restored : (r : NameTable T) (kept : Returned T) (op : OpId)
      → names_of (with_operation (restored kept) op r) ≡ left_names kept.message op (names_of r)
  seen_restored r kept op =
      ap (λ (d : Directory (Operation T)). with_operations d (names_of r))
      (views_changed operation_in (restored kept) (with_message kept.message) (λ o. refl) op.0 r.operations)
