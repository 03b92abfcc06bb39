-- A call that was made alone leaves the names that the model leaves.
use Rattle.std.specs.Prelude.{◌≡◌}
use Rattle.channel_world_runs.proofs.Lemmas.{ℕ, nat_eq, true, false, Option, None, Some, refl, sym, ap, ◌∙◌, nat_eq_equiv, option_map, Channel, Reply, Returned, Outcome, Alone, at_seen, nothing_to_end, weak_of, strong_of, poll_asked, Directory, Names, at, with_spent, with_new, with_changed, State, Call, Handle, HandleId, HandleKind, OpId, Waiter, polled_names, refused_names, given_up_names, made_names, kind_at, names_after, asks, unpolled, leave_handle_of, new_from, lent_by, handed_over_by, operation_named, handle_named, lent_to_poll, installed, written_back, with_operation, names_of, held_of, unused, with_lent, with_borrowed, with_handed_over, with_poll_state, with_given_back, poll_state_with, OnReturn, OperationEntry, IsPolled, NameTable, names_alone, Operation, borrowed_by, with_message, Op, plan_of, handle_through, views_set, changed_some, changed_none, changed_twice, same_put_back}
use Rattle.channel_world_model.specs.Names as model
use Rattle.channel_world_runs.proofs.rest.LoneSeen.{handle_of, operation_in, put_twice, left_names, with_operations, seen_lent, seen_back, seen_poll_state, seen_borrowed, seen_handed_over, seen_to_poll, seen_restored}

own : (n : ℕ) → nat_eq n n ≡ true
own n = nat_eq_equiv.refl n

set_first : {X : Type 0} (n : ℕ) (x : X) (d : Directory X) → with_changed n x (with_spent n d) ≡ with_new n x d
set_first n x d = rw (own n) refl

kinds : (to : HandleKind → HandleKind) (o : Option Handle)
    → option_map to (option_map (λ (h : Handle). h.kind) o) ≡ option_map (λ (h : Handle). to h.kind) o
kinds to None = refl
kinds to (Some h) = refl

module _ {T : Type 0} where
  -- ---- what a call writes back, as one call at a time sees it

  abbrev installed_names : HandleId → HandleKind → Reply T → Names T → Names T
  installed_names new k Reply.Made n =
      model.with_handles (with_changed new.0 (record { kind = k; borrowers = 0 }) n.handles) n
  installed_names new k x n = n

  abbrev settled_names : OnReturn T → Reply T → Returned T → Names T → Names T
  settled_names (OnReturn.Make op operation) x kept n =
      with_operations (with_changed op.0 operation.operation n.operations) n
  settled_names (OnReturn.Poll op) x kept n = left_names kept.message op n
  settled_names (OnReturn.New from new k) x kept n = installed_names new k x n
  settled_names y x kept n = n

  seen_installed : (new : HandleId) (k : HandleKind) (x : Reply T) (r : NameTable T)
      → names_of (installed new k x r) ≡ installed_names new k x (names_of r)
  seen_installed new k Reply.Made r =
      ap (λ (d : Directory Handle). model.with_handles d (names_of r))
      (views_set handle_of new.0 r.handles (Some (unused k)))
  seen_installed new k x r = refl

  seen_settled : (e : OnReturn T) (x : Reply T) (kept : Returned T) (r : NameTable T)
      → names_of (written_back e x kept r) ≡ settled_names e x kept (names_of r)
  seen_settled OnReturn.Nothing x kept r = refl
  seen_settled (OnReturn.Leave handle) x kept r = seen_back r handle
  seen_settled (OnReturn.LeaveBoth a b) x kept r = seen_back (with_given_back a r) b ∙ seen_back r a
  seen_settled (OnReturn.Make op operation) x kept r =
      ap (λ (d : Directory (Operation T)). with_operations d (names_of r))
      (views_set operation_in op.0 r.operations (Some operation))
  seen_settled (OnReturn.Poll op) x kept r = seen_restored r kept op
  seen_settled (OnReturn.PollNext receiver) x kept r =
      seen_back (with_poll_state (poll_state_with kept.key) receiver r) receiver ∙ seen_poll_state r (poll_state_with kept.key) receiver
  seen_settled (OnReturn.New from new k) x kept r =
      seen_installed new k x (with_given_back from r) ∙ ap (installed_names new k x) (seen_back r from)

  ends_so : (e : OnReturn T) (x : Reply T) (kept : Returned T) (r : NameTable T) (n : Names T) → names_of r ≡ n
      → names_of (written_back e x kept r) ≡ settled_names e x kept n
  ends_so e x kept r n same = seen_settled e x kept r ∙ ap (settled_names e x kept) same

  module _ (r : NameTable T) where
    abbrev handles : Directory Handle
    handles = (names_of r).handles

    abbrev operations : Directory (Operation T)
    operations = (names_of r).operations

    -- a new handle is as one call at a time makes it, or doesn't
    installed_is : (new : HandleId) (k : HandleKind) (x : Reply T)
        → installed_names new k x (model.with_handles (with_spent new.0 handles) (names_of r))
        ≡ made_names new (Some k) x (names_of r)
    installed_is new k Reply.Made =
        ap (λ (d : Directory Handle). model.with_handles d (names_of r))
        (set_first new.0 (record { kind = k; borrowers = 0 }) handles)
    installed_is new k x = refl

    -- ---- polls

    -- an operation has what its poll left to it
    polls : (op : OpId) (x : Reply T) (kept : Returned T)
        → names_of (written_back (OnReturn.Poll op) x kept (with_operation lent_to_poll op r))
        ≡ left_names kept.message op (names_of r)
    polls op x kept =
        ends_so (OnReturn.Poll op) x kept (with_operation lent_to_poll op r) (left_names None op (names_of r))
        (seen_to_poll r op)
        ∙ ap (λ (d : Directory (Operation T)). with_operations d (names_of r))
        (changed_twice (with_message None) (with_message kept.message) (with_message kept.message)
        (put_twice None kept.message) op.0 operations)

    changed : (op : OpId) (left : Option T) (y : Operation T) → at op.0 operations ≡ Some y
        → left_names left op (names_of r) ≡ model.with_operation_changed op (with_message left y) (names_of r)
    changed op left y e =
        ap (λ (d : Directory (Operation T)). with_operations d (names_of r))
        (changed_some (with_message left) op.0 operations y e)

    unchanged : (op : OpId) (left : Option T) (y : Operation T) → at op.0 operations ≡ Some y → with_message left y ≡ y
        → left_names left op (names_of r) ≡ names_of r
    unchanged op left y e same =
        changed op left y e ∙ ap (λ (d : Directory (Operation T)). with_operations d (names_of r))
        (ap (λ (z : Operation T). with_changed op.0 z operations) same ∙ same_put_back op.0 operations y e)

    nothing : (op : OpId) (left : Option T) → at op.0 operations ≡ None → left_names left op (names_of r) ≡ names_of r
    nothing op left e =
        ap (λ (d : Directory (Operation T)). with_operations d (names_of r))
        (changed_none (with_message left) op.0 operations e)

    -- only an unfinished send is changed by it
    polled_is : (op : OpId) (y : Option (Operation T)) (channel : Channel T Waiter) (o : Outcome T Waiter)
        → at op.0 operations ≡ y → Alone (poll_asked (held_of r (Op op)) op y) channel o
        → left_names o.kept.message op (names_of r) ≡ polled_names op y o.kept.message (names_of r)
    polled_is op (Some (Operation.Send handle (Some m))) channel o e alone = changed op o.kept.message _ e
    polled_is op (Some (Operation.Send handle None)) channel o e alone =
        unchanged op o.kept.message _ e (ap (λ (p : Outcome T Waiter). Operation.Send handle p.kept.message) alone)
    polled_is op None channel o e alone = nothing op o.kept.message e
    polled_is op x channel o e alone = unchanged op o.kept.message _ e refl

    refused_is : (op : OpId) (y : Option (Operation T)) (left : Option T) → at op.0 operations ≡ y
        → left_names left op (names_of r) ≡ refused_names op y left (names_of r)
    refused_is op (Some (Operation.Send handle msg)) left e = changed op left _ e
    refused_is op None left e = nothing op left e
    refused_is op y left e = unchanged op left _ e refl

    -- ---- what lives no more

    abbrev without : OpId → NameTable T
    without op = record r { operations = model.without_name op.0 r.operations }

    gone : (op : OpId) → names_of (without op) ≡ with_operations (model.without_name op.0 operations) (names_of r)
    gone op =
        ap (λ (d : Directory (Operation T)). with_operations d (names_of r)) (views_set operation_in op.0 r.operations None)

    gives_up : (op : OpId) (y : Option (OperationEntry T)) (x : Reply T) (kept : Returned T) → at op.0 r.operations ≡ y
        → names_of (written_back (leave_handle_of y) x kept (handed_over_by y (without op)))
        ≡ given_up_names op (option_map operation_in y) (names_of r)
    gives_up op None x kept e =
        ends_so OnReturn.Nothing x kept (without op) (names_of r)
        (gone op ∙ ap (λ (d : Directory (Operation T)). with_operations d (names_of r))
        (nothing_to_end op.0 operations (at_seen operation_in op.0 r.operations ∙ ap (option_map operation_in) e)))
    gives_up op (Some y) x kept e =
        let handle = borrowed_by y.operation in
        ends_so (OnReturn.Leave handle) x kept (with_handed_over handle (without op)) _
        (seen_handed_over (without op) handle
        ∙ ap (λ (n : Names T). model.with_handles (model.used_once_less handle n.handles) n) (gone op))

    drops : (handle : HandleId) (x : Reply T) (kept : Returned T)
        → names_of (written_back OnReturn.Nothing x kept (record r { handles = model.without_name handle.0 r.handles }))
        ≡ model.with_handles (model.without_name handle.0 handles) (names_of r)
    drops handle x kept =
        ends_so OnReturn.Nothing x kept (record r { handles = model.without_name handle.0 r.handles }) _
        (ap (λ (d : Directory Handle). model.with_handles d (names_of r)) (views_set handle_of handle.0 r.handles None))

  -- ---- calls through handles

  module _ (r : NameTable T) where
    through : (handle : HandleId) (x : Reply T) (kept : Returned T)
        → names_of (written_back (OnReturn.Leave handle) x kept (with_lent handle r)) ≡ names_of r
    through handle x kept = ends_so (OnReturn.Leave handle) x kept (with_lent handle r) (names_of r) (seen_lent r handle)

    through_both : (a b : HandleId) (x : Reply T) (kept : Returned T)
        → names_of (written_back (OnReturn.LeaveBoth a b) x kept (with_lent b (with_lent a r))) ≡ names_of r
    through_both a b x kept =
        ends_so (OnReturn.LeaveBoth a b) x kept (with_lent b (with_lent a r)) (names_of r)
        (seen_lent (with_lent a r) b ∙ seen_lent r a)

    streamed : (receiver : HandleId) (x : Reply T) (kept : Returned T)
        → names_of (written_back (OnReturn.PollNext receiver) x kept
        (with_lent receiver (with_poll_state (IsPolled false) receiver r))) ≡ names_of r
    streamed receiver x kept =
        ends_so (OnReturn.PollNext receiver) x kept (with_lent receiver (with_poll_state (IsPolled false) receiver r)) (names_of r)
        (seen_lent (with_poll_state (IsPolled false) receiver r) receiver ∙ seen_poll_state r (IsPolled false) receiver)

    -- a call through the handle of an operation
    through_of : (o : Option (OperationEntry T)) (x : Reply T) (kept : Returned T)
        → names_of (written_back (leave_handle_of o) x kept (lent_by o r)) ≡ names_of r
    through_of None x kept = ends_so OnReturn.Nothing x kept r (names_of r) refl
    through_of (Some o) x kept = through (borrowed_by o.operation) x kept

    -- ---- new operations

    made : (op : OpId) (operation : Operation T) (x : Reply T) (kept : Returned T)
        → names_of (written_back (OnReturn.Make op (unpolled operation)) x kept (with_borrowed (borrowed_by operation) (operation_named op r)))
        ≡ model.with_new_operation op operation (names_of r)
    made op operation x kept =
        let handle = borrowed_by operation in
        ends_so (OnReturn.Make op (unpolled operation)) x kept (with_borrowed handle (operation_named op r)) _
        (seen_borrowed (operation_named op r) handle)
        ∙ ap (λ (d : Directory (Operation T)). let n : Names T =
        record { handles = model.lent_once_more handle (handles r); operations = d } in n)
        (set_first op.0 operation (operations r))

    -- ---- new handles

    newly : (from new : HandleId) (to : HandleKind → HandleKind) (o : Option Handle) (x : Reply T) (kept : Returned T)
        → names_of (written_back (new_from from new to o) x kept (with_lent from (handle_named new r)))
        ≡ made_names new (option_map (λ (h : Handle). to h.kind) o) x (names_of r)
    newly from new to None x kept =
        ends_so OnReturn.Nothing x kept (with_lent from (handle_named new r)) _ (seen_lent (handle_named new r) from)
    newly from new to (Some h) x kept =
        ends_so (OnReturn.New from new (to h.kind)) x kept (with_lent from (handle_named new r)) _
        (seen_lent (handle_named new r) from)
        ∙ installed_is r new (to h.kind) x

  module _ (r : NameTable T) (s : State T) (same : s.names ≡ names_of r) (channel : Channel T Waiter) (o : Outcome T Waiter) where
    -- what holds of these names
    follow : (f : Names T → Names T) (n : Names T) → n ≡ f (names_of r) → n ≡ f s.names
    follow f n h = h ∙ sym (ap f same)

    begins : (op : OpId) (operation : Operation T)
        → names_of (written_back (OnReturn.Make op (unpolled operation)) o.reply o.kept
        (with_borrowed (borrowed_by operation) (operation_named op r))) ≡ model.with_new_operation op operation s.names
    begins op operation = follow (λ n. model.with_new_operation op operation n) _ (made r op operation o.reply o.kept)

    renewed : (from new : HandleId) (to : HandleKind → HandleKind)
        → names_of (written_back (new_from from new to (at from.0 (handles r))) o.reply o.kept (with_lent from (handle_named new r)))
        ≡ made_names new (option_map to (kind_at from (names_of r))) o.reply (names_of r)
    renewed from new to =
        newly r from new to (at from.0 (handles r)) o.reply o.kept
        ∙ ap (λ k. made_names new k o.reply (names_of r)) (sym (kinds to (at from.0 (handles r))))

    -- a call made alone leaves just the names that the model leaves; one that goes through a handle leaves them as they were
    pub names_follow : (c : Call T) → Alone (asks r c) channel o
        → names_of (names_alone r c o.reply o.kept) ≡ names_after s c o
    names_follow (Call.NewSend op sender msg) alone = begins op (Operation.Send sender (Some msg))
    names_follow (Call.NewRecv op receiver) alone = begins op (Operation.Receive receiver)
    names_follow (Call.NewClosed op sender) alone = begins op (Operation.Closing sender)
    names_follow (Call.Poll op) alone =
        follow (λ n. polled_names op (at op.0 n.operations) o.kept.message n) _
        (polls r op o.reply o.kept ∙ polled_is r op (at op.0 (operations r)) channel o refl alone)
    names_follow (Call.PollRefused op) alone =
        follow (λ n. refused_names op (at op.0 n.operations) o.kept.message n) _
        (polls r op o.reply o.kept ∙ refused_is r op (at op.0 (operations r)) o.kept.message refl)
    names_follow (Call.GiveUp op) alone =
        follow (λ n. given_up_names op (at op.0 n.operations) n) _
        (gives_up r op (at op.0 r.operations) o.reply o.kept refl
        ∙ ap (λ y. given_up_names op y (names_of r)) (sym (at_seen operation_in op.0 r.operations)))
    names_follow (Call.SendIsTerminated op) alone =
        follow (λ n. n) _ (through_of r (at op.0 r.operations) o.reply o.kept)
    names_follow (Call.PollNext receiver) alone = follow (λ n. n) _ (streamed r receiver o.reply o.kept)
    names_follow (Call.Drop handle) alone =
        follow (λ n. model.with_handles (model.without_name handle.0 n.handles) n) _ (drops r handle o.reply o.kept)
    names_follow (Call.TryClone handle new) alone =
        follow (λ n. made_names new (kind_at handle n) o.reply n) _
        (newly r handle new (λ k. k) (at handle.0 (handles r)) o.reply o.kept)
    names_follow (Call.Downgrade handle new) alone =
        follow (λ n. made_names new (option_map weak_of (kind_at handle n)) o.reply n) _ (renewed handle new weak_of)
    names_follow (Call.Upgrade weak new) alone =
        follow (λ n. made_names new (option_map strong_of (kind_at weak n)) o.reply n) _ (renewed weak new strong_of)
    names_follow (Call.SameChannel a b) alone = follow (λ n. n) _ (through_both r a b o.reply o.kept)
    names_follow c alone = follow (λ n. n) _ (through r (handle_through (plan_of c)) o.reply o.kept)
