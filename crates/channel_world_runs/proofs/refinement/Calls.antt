-- The calls, one by one.
use Rattle.std.specs.Prelude.{◌≡◌, ◌⊎◌, ◌&&◌, ◌==◌}
use Rattle.channel_world_runs.proofs.Lemmas.{ℕ, List, [], length, Bool, true, Option, None, Some, Err, refl, sym, ap, ◌∙◌, inl, inr, option_map, is_filled, is_refused, Channel, says, refused_reply, WaitList, Sends, Receives, Closings, Senders, Receivers, Outcome, Alone, MayLackRoom, ends, sends, force_sends, says_only, replying, after_leaving, is_finished, poll_refused_answer, made, dropped, clone_answer, downgrade_answer, upgrade_answer, drop_answer, weak_of, strong_of, AwakeIn, line_at, line_of_operation, Operation, at, State, Call, Handle, HandleId, HandleKind, Sender, Receiver, WeakSender, WeakReceiver, OpId, Waiter, Op, Stream, Nothing, second_reason, untaken, poll_asked, refusal_asked, giving_up_asked, drop_asked, clone_asked, upgrade_asked, stream_of, KeysHeld, asked_in, Matches, CallsAreOver, refused_names, made_names, Refines, list_of, refusal, ListenError, Refused, Reply, renames, clones_so, upgrades_so}
use Rattle.channel_world_runs.proofs.refinement.ClosingPolls.{poll_closing}
use Rattle.channel_world_runs.proofs.refinement.Dropping.{drop_sender, drop_receiver}
use Rattle.channel_world_runs.proofs.refinement.Ends.{ends_so}
use Rattle.channel_world_runs.proofs.refinement.NewOperations.{new_operation, poll_finished}
use Rattle.channel_world_runs.proofs.refinement.Operations.{give_up}
use Rattle.channel_world_runs.proofs.refinement.Receiving.{poll_recv}
use Rattle.channel_world_runs.proofs.refinement.Sending.{poll_send}
use Rattle.channel_world_runs.proofs.refinement.Streams.{poll_next}
use Rattle.channel_world_runs.proofs.refinement.Told.{same_names}
use Rattle.channel_world_runs.proofs.refinement.Trying.{filled_is, only_answers, try_send, try_send_lacks, force_send, force_send_lacks, try_recv, recv_many, close}

module _ {T : Type 0} (held : KeysHeld) (c : Channel T Waiter) (s : State T) (h : Refines held c s) (awake : AwakeIn s) (o : Outcome T Waiter) where
  -- ---- calls that do not wait

  tried : (sender : HandleId) (m : T) → MayLackRoom (says (Reply.TrySend (Err (Refused.NoMemory m)))) c o ⊎ (o ≡ sends m c) → Matches held s (Call.TrySend sender m) o
  tried sender m (inr e) = try_send held c s h awake sender m o e
  tried sender m (inl lack) = try_send_lacks held c s h awake sender m o lack

  forced : (sender : HandleId) (m : T) → MayLackRoom (says (Reply.ForceSend (Err (Refused.NoMemory m)))) c o ⊎ (o ≡ force_sends m c) → Matches held s (Call.ForceSend sender m) o
  forced sender m (inr e) = force_send held c s h awake sender m o e
  forced sender m (inl lack) = force_send_lacks held c s h awake sender m o lack

  -- ---- operations

  polled : (op : OpId) (x : Option (Operation T)) → at op.0 s.names.operations ≡ x → refusal s (Call.Poll op) ≡ None → Alone (poll_asked (held (Op op)) op x) c o → Matches held s (Call.Poll op) o
  polled op (Some (Operation.Send handle (Some m))) there ok does = poll_send held c s h awake op handle m there o does
  polled op (Some (Operation.Send handle None)) there ok does = poll_finished held c s h awake op handle o there does
  polled op (Some (Operation.Receive handle)) there ok does = poll_recv held c s h awake op handle there o does
  polled op (Some (Operation.Closing handle)) there ok does = poll_closing held c s h awake op handle there o does
  polled op None there ok does = cc (rw there at ok)

  -- an operation that got no copy of its waker
  refused_as : (op : OpId) (x : Operation T) (line : WaitList) (msg : Option T) → at op.0 s.names.operations ≡ Some x → (line_at s.names (Op op) ≡ Some line) ⊎ (line_at s.names (Op op) ≡ None)
      → poll_refused_answer s op (Some x) ≡ after_leaving Nothing line (Op op) s (refused_reply (list_of line) ListenError.NoMemory) → s.names ≡ refused_names op (Some x) msg s.names
      → o ≡ ends [] (is_refused (list_of line) msg (held (Op op))) c → Matches held s (Call.PollRefused op) o
  refused_as op x line msg there k answer_is names e =
      ends_so held c s h awake (Call.PollRefused op) line (Op op) (refused_reply (list_of line) ListenError.NoMemory) msg o refl k
      (inl (sym answer_is ∙ ap (λ (y : Option (Operation T)). poll_refused_answer s op y) (sym there)))
      (names ∙ ap (λ (y : Option (Operation T)). refused_names op y msg s.names) (sym there)) e

  kind_is : (op : OpId) (x : Operation T) → at op.0 s.names.operations ≡ Some x → line_at s.names (Op op) ≡ line_of_operation (Some x)
  kind_is op x there = ap (λ (y : Option (Operation T)). line_of_operation y) there

  refused : (op : OpId) (x : Option (Operation T)) → at op.0 s.names.operations ≡ x → refusal s (Call.PollRefused op) ≡ None → Alone (refusal_asked (held (Op op)) x) c o → Matches held s (Call.PollRefused op) o
  refused op (Some (Operation.Send handle (Some m))) there ok does =
      refused_as op (Operation.Send handle (Some m)) Sends (Some m) there (inl (kind_is op (Operation.Send handle (Some m)) there)) refl (sym (same_names op (Operation.Send handle (Some m)) s.names there)) does
  refused op (Some (Operation.Send handle None)) there ok does =
      refused_as op (Operation.Send handle None) Sends None there (inr (kind_is op (Operation.Send handle None) there)) refl (sym (same_names op (Operation.Send handle None) s.names there)) does
  refused op (Some (Operation.Receive handle)) there ok does = refused_as op (Operation.Receive handle) Receives None there (inl (kind_is op (Operation.Receive handle) there)) refl refl does
  refused op (Some (Operation.Closing handle)) there ok does = refused_as op (Operation.Closing handle) Closings None there (inl (kind_is op (Operation.Closing handle) there)) refl refl does
  refused op None there ok does = cc (rw there at ok)

  given_up : (op : OpId) (x : Option (Operation T)) → at op.0 s.names.operations ≡ x → refusal s (Call.GiveUp op) ≡ None → Alone (giving_up_asked (held (Op op)) x) c o → Matches held s (Call.GiveUp op) o
  given_up op (Some (Operation.Send handle (Some m))) there ok does = give_up held c s h awake op (Operation.Send handle (Some m)) Sends (Some m) o there (inl (kind_is op (Operation.Send handle (Some m)) there)) refl does
  given_up op (Some (Operation.Send handle None)) there ok does = give_up held c s h awake op (Operation.Send handle None) Sends None o there (inr (kind_is op (Operation.Send handle None) there)) refl does
  given_up op (Some (Operation.Receive handle)) there ok does = give_up held c s h awake op (Operation.Receive handle) Receives None o there (inl (kind_is op (Operation.Receive handle) there)) refl does
  given_up op (Some (Operation.Closing handle)) there ok does = give_up held c s h awake op (Operation.Closing handle) Closings None o there (inl (kind_is op (Operation.Closing handle) there)) refl does
  given_up op None there ok does = cc (rw there at ok)

  -- ---- handles

  module _ (handle : HandleId) where
    dropped_weak : (kind : HandleKind) (x : Handle) → at handle.0 s.names.handles ≡ Some x → stream_of handle (Some x) ≡ None
        → drop_answer s handle (Some x) ≡ replying (dropped s handle) Reply.Unit → o ≡ says_only Reply.Unit c → Matches held s (Call.Drop handle) o
    dropped_weak kind x there nobody answer_is e =
        renames held c s h (Call.Drop handle) (ap (λ (y : Option Handle). stream_of handle y) there ∙ nobody) (dropped s handle).names.handles Reply.Unit o
        (inl (sym answer_is ∙ ap (λ (y : Option Handle). drop_answer s handle y) (sym there))) refl e

    dropped_as : (kind : HandleKind) (borrowers : ℕ) → (let x : Handle = record { kind = kind; borrowers = borrowers } in (at handle.0 s.names.handles ≡ Some x) → Alone (drop_asked (held (Stream handle)) (Some x)) c o → Matches held s (Call.Drop handle) o)
    dropped_as Sender borrowers there does = drop_sender held c s h awake handle borrowers there o does
    dropped_as Receiver borrowers there does = drop_receiver held c s h awake handle borrowers there o does
    dropped_as WeakSender borrowers there does = dropped_weak WeakSender (record { kind = WeakSender; borrowers = borrowers }) there refl refl does
    dropped_as WeakReceiver borrowers there does = dropped_weak WeakReceiver (record { kind = WeakReceiver; borrowers = borrowers }) there refl refl does

    dropped_by : (x : Option Handle) → at handle.0 s.names.handles ≡ x → refusal s (Call.Drop handle) ≡ None → Alone (drop_asked (held (Stream handle)) x) c o → Matches held s (Call.Drop handle) o
    dropped_by (Some x) there ok does = dropped_as x.kind x.borrowers there does
    dropped_by None there ok does = cc (rw there at ok)

    module _ (new : HandleId) where
      -- of one kind or another
      kind_made : (call : Call T) (x : Handle) (f : HandleKind → HandleKind) (p : Outcome T Waiter) → at handle.0 s.names.handles ≡ Some x
          → made_names new (Some (f x.kind)) p.reply s.names ≡ made_names new (option_map f (option_map (λ (y : Handle). y.kind) (at handle.0 s.names.handles))) p.reply s.names
      kind_made call x f p there = ap (λ (y : Option Handle). made_names new (option_map f (option_map (λ (z : Handle). z.kind) y)) p.reply s.names) (sym there)

      same_made : (kind : HandleKind) (borrowers : ℕ) (p : Outcome T Waiter) → (let x : Handle = record { kind = kind; borrowers = borrowers } in at handle.0 s.names.handles ≡ Some x)
          → made_names new (option_map (λ (y : Handle). y.kind) (at handle.0 s.names.handles)) p.reply s.names ≡ made_names new (Some kind) p.reply s.names
      same_made kind borrowers p there = ap (λ (y : Option Handle). made_names new (option_map (λ (z : Handle). z.kind) y) p.reply s.names) there

      cloned_as : (kind : HandleKind) (borrowers : ℕ) → (let x : Handle = record { kind = kind; borrowers = borrowers } in (at handle.0 s.names.handles ≡ Some x) → Alone (clone_asked (Some x)) c o → Matches held s (Call.TryClone handle new) o)
      cloned_as Sender borrowers there does =
          clones_so held c s h (Call.TryClone handle new) refl new Senders (λ p. same_made Sender borrowers p there) o does (inl (ap (λ (y : Option Handle). clone_answer s new y) (sym there)))
      cloned_as Receiver borrowers there does =
          clones_so held c s h (Call.TryClone handle new) refl new Receivers (λ p. same_made Receiver borrowers p there) o does (inl (ap (λ (y : Option Handle). clone_answer s new y) (sym there)))
      cloned_as WeakSender borrowers there does =
          renames held c s h (Call.TryClone handle new) refl (made s new WeakSender).names.handles Reply.Made o (inl (ap (λ (y : Option Handle). clone_answer s new y) (sym there)))
          (sym (same_made WeakSender borrowers (says_only Reply.Made c) there)) does
      cloned_as WeakReceiver borrowers there does =
          renames held c s h (Call.TryClone handle new) refl (made s new WeakReceiver).names.handles Reply.Made o (inl (ap (λ (y : Option Handle). clone_answer s new y) (sym there)))
          (sym (same_made WeakReceiver borrowers (says_only Reply.Made c) there)) does

      cloned_by : (x : Option Handle) → at handle.0 s.names.handles ≡ x → refusal s (Call.TryClone handle new) ≡ None → Alone (clone_asked x) c o → Matches held s (Call.TryClone handle new) o
      cloned_by (Some x) there ok does = cloned_as x.kind x.borrowers there does
      cloned_by None there ok does = cc (rw there at ok)

      weakened : (x : Option Handle) → at handle.0 s.names.handles ≡ x → refusal s (Call.Downgrade handle new) ≡ None → o ≡ says_only Reply.Made c → Matches held s (Call.Downgrade handle new) o
      weakened (Some x) there ok does =
          renames held c s h (Call.Downgrade handle new) refl (made s new (weak_of x.kind)).names.handles Reply.Made o (inl (ap (λ (y : Option Handle). downgrade_answer s new y) (sym there)))
          (kind_made (Call.Downgrade handle new) x weak_of (says_only Reply.Made c) there) does
      weakened None there ok does = cc (rw there at ok)

      upgraded_as : (kind : HandleKind) (borrowers : ℕ) → (let x : Handle = record { kind = kind; borrowers = borrowers } in (at handle.0 s.names.handles ≡ Some x) → Alone (upgrade_asked (Some x)) c o → Matches held s (Call.Upgrade handle new) o)
      upgraded_as Sender borrowers there does =
          upgrades_so held c s h (Call.Upgrade handle new) refl new Senders (λ p. sym (kind_made (Call.Upgrade handle new) (record { kind = Sender; borrowers = borrowers }) strong_of p there)) o does
          (inl (ap (λ (y : Option Handle). upgrade_answer s new y) (sym there)))
      upgraded_as Receiver borrowers there does =
          upgrades_so held c s h (Call.Upgrade handle new) refl new Receivers (λ p. sym (kind_made (Call.Upgrade handle new) (record { kind = Receiver; borrowers = borrowers }) strong_of p there)) o does
          (inl (ap (λ (y : Option Handle). upgrade_answer s new y) (sym there)))
      upgraded_as WeakSender borrowers there does =
          upgrades_so held c s h (Call.Upgrade handle new) refl new Senders (λ p. sym (kind_made (Call.Upgrade handle new) (record { kind = WeakSender; borrowers = borrowers }) strong_of p there)) o does
          (inl (ap (λ (y : Option Handle). upgrade_answer s new y) (sym there)))
      upgraded_as WeakReceiver borrowers there does =
          upgrades_so held c s h (Call.Upgrade handle new) refl new Receivers (λ p. sym (kind_made (Call.Upgrade handle new) (record { kind = WeakReceiver; borrowers = borrowers }) strong_of p there)) o does
          (inl (ap (λ (y : Option Handle). upgrade_answer s new y) (sym there)))

      upgraded_by : (x : Option Handle) → at handle.0 s.names.handles ≡ x → refusal s (Call.Upgrade handle new) ≡ None → Alone (upgrade_asked x) c o → Matches held s (Call.Upgrade handle new) o
      upgraded_by (Some x) there ok does = upgraded_as x.kind x.borrowers there does
      upgraded_by None there ok does = cc (rw there at ok)

  -- ---- every call

  every : (d : Call T) → refusal s d ≡ None → Alone (asked_in held s d) c o → Matches held s d o
  every (Call.NewSend op sender msg) ok does =
      new_operation held c s h awake op (Call.NewSend op sender msg) (Operation.Send sender (Some msg)) o refl (untaken op.0 s.names.operations (second_reason _ _ _ ok)) (inl refl) refl does
  every (Call.NewRecv op receiver) ok does =
      new_operation held c s h awake op (Call.NewRecv op receiver) (Operation.Receive receiver) o refl (untaken op.0 s.names.operations (second_reason _ _ _ ok)) (inl refl) refl does
  every (Call.NewClosed op sender) ok does =
      new_operation held c s h awake op (Call.NewClosed op sender) (Operation.Closing sender) o refl (untaken op.0 s.names.operations (second_reason _ _ _ ok)) (inl refl) refl does
  every (Call.Poll op) ok does = polled op (at op.0 s.names.operations) refl ok does
  every (Call.PollRefused op) ok does = refused op (at op.0 s.names.operations) refl ok does
  every (Call.GiveUp op) ok does = given_up op (at op.0 s.names.operations) refl ok does
  every (Call.SendIsTerminated op) ok does = only_answers held c s h (Call.SendIsTerminated op) (Reply.Flag (is_finished (at op.0 s.names.operations))) o refl (inl refl) refl does
  every (Call.PollNext receiver) ok does = poll_next held c s h awake receiver o does
  every (Call.StreamIsTerminated receiver) ok does =
      only_answers held c s h (Call.StreamIsTerminated receiver) (Reply.Flag (c.queue.closed && (length c.queue.items == 0))) o refl
      (inl (ap (λ (b : Bool). replying s (Reply.Flag (b && (length c.queue.items == 0)))) h.closed ∙ ap (λ (ms : List T). replying s (Reply.Flag (s.channel.closed && (length ms == 0)))) h.messages)) refl does
  every (Call.TrySend sender msg) ok does = tried sender msg does
  every (Call.ForceSend sender msg) ok does = forced sender msg does
  every (Call.TryRecv receiver) ok does = try_recv held c s h awake receiver o does
  every (Call.RecvMany receiver limit) ok does = recv_many held c s h awake receiver limit o does
  every (Call.Close handle) ok does = close held c s h awake handle o does
  every (Call.Drop handle) ok does = dropped_by handle (at handle.0 s.names.handles) refl ok does
  every (Call.TryClone handle new) ok does = cloned_by handle new (at handle.0 s.names.handles) refl ok does
  every (Call.Downgrade handle new) ok does = weakened handle new (at handle.0 s.names.handles) refl ok does
  every (Call.Upgrade weak new) ok does = upgraded_by weak new (at weak.0 s.names.handles) refl ok does
  every (Call.SameChannel a b) ok does = only_answers held c s h (Call.SameChannel a b) (Reply.Flag true) o refl (inl refl) refl does
  every (Call.IsClosed handle) ok does =
      only_answers held c s h (Call.IsClosed handle) (Reply.Flag c.queue.closed) o refl (inl (ap (λ (b : Bool). replying s (Reply.Flag b)) h.closed)) refl does
  every (Call.IsEmpty handle) ok does =
      only_answers held c s h (Call.IsEmpty handle) (Reply.Flag (length c.queue.items == 0)) o refl (inl (ap (λ (ms : List T). replying s (Reply.Flag (length ms == 0))) h.messages)) refl does
  every (Call.IsFull handle) ok does =
      only_answers held c s h (Call.IsFull handle) (Reply.Flag (is_filled c.queue)) o refl (inl (ap (λ (b : Bool). replying s (Reply.Flag b)) (filled_is held c s h))) refl does
  every (Call.Len handle) ok does =
      only_answers held c s h (Call.Len handle) (Reply.Count (length c.queue.items)) o refl (inl (ap (λ (ms : List T). replying s (Reply.Count (length ms))) h.messages)) refl does
  every (Call.Capacity handle) ok does =
      only_answers held c s h (Call.Capacity handle) (Reply.Cap c.queue.capacity) o refl (inl (ap (λ (cap : Option ℕ). replying s (Reply.Cap cap)) h.capacity)) refl does
  every (Call.SenderCount handle) ok does =
      only_answers held c s h (Call.SenderCount handle) (Reply.Count c.wait_lists.senders) o refl (inl (ap (λ (n : ℕ). replying s (Reply.Count n)) h.senders)) refl does
  every (Call.ReceiverCount handle) ok does =
      only_answers held c s h (Call.ReceiverCount handle) (Reply.Count c.wait_lists.receivers) o refl (inl (ap (λ (n : ℕ). replying s (Reply.Count n)) h.receivers)) refl does

pub calls_over : (T : Type 0) → CallsAreOver T
calls_over T c held channel s o ok h awake does = every held channel s h awake o c ok does
