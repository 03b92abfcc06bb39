-- One that is pending and was woken holds a listener that is on its list, so that its poll, made alone, is refused no memory.
use Rattle.std.specs.Prelude.{◌≡◌, if◌then◌else◌, ◌∷◌}
use Rattle.channel_world_runs.proofs.Lemmas.{cond, nat_eq, ℕ, Bool, true, false, List, [], Option, None, Some, is_some, inl, inr, refl, sym, ap, ◌∙◌, subst, lookup, keys_of, option_map, option_map_or, capacity_of, shows, Notice, kind_of, told_as, waits_as, same_key, Key, Channel, Parts, Listeners, WaitLists, listeners, ChannelAsk, Reply, ListenerRef, WaitList, Sends, Receives, Streams, Closings, poll_asked, at, poll_of, HandleId, HandleKind, OpId, Operation, Waiter, Op, Stream, Configuration, all_seats, asks, parts_in, name_state_of, Shown, Stands, WorldInvariant, IsTold, IsMarked, IsAmong, free, retired, invalid, rests, waits, polled, no_stream_status, stream_status, operation_status, status_by, status, key_of, names_of, held_of, WorldState, HandleEntry, OperationEntry, PollState, Rests, Waits, IsPolled, NameTable, Call, same_self, operation_at, among_is}
use Rattle.channel_steps.specs.solo.Ample.{lacks_memory, IsOnList, HasNode}
use Rattle.channel_steps.specs.every_run.Unlisted.{NoSendListens}
use Rattle.channel_world_runs.specs.Settle.{IsWoken}

-- one that was told is listed
told_there : (key : Key) (xs : List (Key × Notice Unit)) → IsAmong key (keys_of xs) → is_some (lookup (same_key key) xs) ≡ true
told_there key [] i = absurd i
told_there key (x ∷ xs) (inl e) = let same : same_key key x.0 ≡ true = ap (same_key key) e ∙ same_self key in rw same refl
told_there key (x ∷ xs) (inr i) = by (same_key key x.0) (told_there key xs i) where
  by : (b : Bool) → is_some (lookup (same_key key) xs) ≡ true → is_some (cond b (Some x.1) (lookup (same_key key) xs)) ≡ true
  by true more = refl
  by false more = more

-- this listener is on its list
abbrev IsThere : ListenerRef → WaitLists Waiter → Type 0
IsThere h a = is_some (kind_of (listeners h.line a) h.key) ≡ true

told_listed : (h : ListenerRef) (a : WaitLists Waiter) → IsAmong h.key (keys_of (listeners h.line a).told) → IsThere h a
told_listed h a i =
    let l = listeners h.line a in by (is_some (told_as l h.key)) (is_some (waits_as l h.key)) (told_there h.key l.told i)
  where
    by : (told waiting : Bool) → told ≡ true → is_some (if told then Some true else (if waiting then Some false else None)) ≡ true
    by true waiting e = refl
    by false waiting e = cc e

-- what is no receiver is pending as no stream
no_stream : (s : PollState) (h : ListenerRef) → no_stream_status s ≡ waits h → ⊥
no_stream Rests h e = let no : rests Streams ≡ waits h = e in cc
no_stream x h e = let no : invalid ≡ waits h = e in cc

-- one that waits with this listener holds it, on its own line
same_held : (line : WaitList) (key : Key) (h : ListenerRef) → waits (record { line = line; key = key }) ≡ waits h
    → (let mine : ListenerRef = record { line = line; key = key } in mine) ≡ h
same_held line key h e = cc e

module _ {T : Type 0} where
  -- a send that may be woken is on a channel with a bound
  abbrev pub MayWait : ListenerRef → Parts T Waiter → Type 0
  MayWait h p = h.line ≡ Sends → is_some (capacity_of p.cells.form) ≡ true

  module _ (p : Parts T Waiter) (h : ListenerRef) (there : IsThere h p.wait_lists) (bound : MayWait h p) where
    by_operation : (key : Option Key) (op : OpId) (x : Operation T) (s : PollState) → key ≡ key_of s → operation_status x s ≡ waits h
        → HasNode (poll_asked key op (Some x)) p
    by_operation key op (Operation.Send g None) Rests e f = absurd (let no : rests Sends ≡ waits h = f in cc)
    by_operation key op (Operation.Send g None) (Waits own) e f = absurd (let no : invalid ≡ waits h = f in cc)
    by_operation key op (Operation.Send g None) (IsPolled z) e f = absurd (let no : polled Sends ≡ waits h = f in cc)
    by_operation key op (Operation.Send g (Some m)) Rests e f = absurd (let no : rests Sends ≡ waits h = f in cc)
    by_operation key op (Operation.Send g (Some m)) (IsPolled z) e f = absurd (let no : polled Sends ≡ waits h = f in cc)
    by_operation key op (Operation.Send g (Some m)) (Waits own) e f =
        let same = same_held Sends own h f in
        (rw e (subst (λ (x : ListenerRef). IsThere x p.wait_lists) (sym same) there), bound (ap (λ (x : ListenerRef). x.line) (sym same)))
    by_operation key op (Operation.Receive g) Rests e f = absurd (let no : rests Receives ≡ waits h = f in cc)
    by_operation key op (Operation.Receive g) (IsPolled z) e f = absurd (let no : polled Receives ≡ waits h = f in cc)
    by_operation key op (Operation.Receive g) (Waits own) e f =
        rw e (subst (λ (x : ListenerRef). IsThere x p.wait_lists) (sym (same_held Receives own h f)) there)
    by_operation key op (Operation.Closing g) Rests e f = absurd (let no : rests Closings ≡ waits h = f in cc)
    by_operation key op (Operation.Closing g) (IsPolled z) e f = absurd (let no : polled Closings ≡ waits h = f in cc)
    by_operation key op (Operation.Closing g) (Waits own) e f =
        rw e (subst (λ (x : ListenerRef). IsThere x p.wait_lists) (sym (same_held Closings own h f)) there)

    operation_node : (r : NameTable T) (op : OpId) (o : Option (Option (OperationEntry T))) → lookup (nat_eq op.0) r.operations ≡ o
        → status_by (λ (x : OperationEntry T). operation_status x.operation x.poll_state) o ≡ waits h → HasNode (asks r (Call.Poll op)) p
    operation_node r op None e f = absurd (let no : free ≡ waits h = f in cc)
    operation_node r op (Some None) e f = absurd (let no : retired ≡ waits h = f in cc)
    operation_node r op (Some (Some x)) e f =
        let there : at op.0 r.operations ≡ Some x = ap (λ (o : Option (Option (OperationEntry T))). option_map_or (λ (y : Option (OperationEntry T)). y) o None) e in
        let seen : at op.0 (names_of r).operations ≡ Some x.operation = operation_at r op.0 ∙ ap (option_map (λ (y : OperationEntry T). y.operation)) there in
        subst (λ (o : Option (Operation T)). HasNode (poll_asked (held_of r (Op op)) op o) p) (sym seen)
        (by_operation (held_of r (Op op)) op x.operation x.poll_state
        (ap (λ (o : Option (OperationEntry T)). option_map_or (λ (y : OperationEntry T). key_of y.poll_state) o None) there) f)

    -- a receiver that is pending as a stream
    by_stream : (k : HandleKind) (s : PollState) (key : Option Key) → key ≡ key_of s → stream_status k s ≡ waits h
        → IsOnList Streams key p.wait_lists
    by_stream HandleKind.Receiver Rests key e f = absurd (let no : rests Streams ≡ waits h = f in cc)
    by_stream HandleKind.Receiver (IsPolled z) key e f = absurd (let no : polled Streams ≡ waits h = f in cc)
    by_stream HandleKind.Receiver (Waits own) key e f =
        rw e (subst (λ (x : ListenerRef). IsThere x p.wait_lists) (sym (same_held Streams own h f)) there)
    by_stream x s key e f = absurd (no_stream s h f)

    stream_node : (r : NameTable T) (receiver : HandleId) (o : Option (Option HandleEntry)) → lookup (nat_eq receiver.0) r.handles ≡ o
        → status_by (λ (x : HandleEntry). stream_status x.handle.kind x.poll_state) o ≡ waits h → HasNode (asks r (Call.PollNext receiver)) p
    stream_node r receiver None e f = absurd (let no : free ≡ waits h = f in cc)
    stream_node r receiver (Some None) e f = absurd (let no : retired ≡ waits h = f in cc)
    stream_node r receiver (Some (Some x)) e f =
        by_stream x.handle.kind x.poll_state (held_of r (Stream receiver))
        (ap (λ (o : Option (Option HandleEntry)). option_map_or (λ (y : HandleEntry). key_of y.poll_state)
        (option_map_or (λ (y : Option HandleEntry). y) o None) None) e) f

    woken_node : (r : NameTable T) (w : Waiter) → status r w ≡ waits h → HasNode (asks r (poll_of w)) p
    woken_node r (Op op) f = operation_node r op (lookup (nat_eq op.0) r.operations) refl f
    woken_node r (Stream receiver) f = stream_node r receiver (lookup (nat_eq receiver.0) r.handles) refl f

  -- where a send was told the channel has a bound
  may_wait : (f : WorldState T) (s : Configuration T Waiter) → Shown f s → NoSendListens s.now → (h : ListenerRef) → IsTold h s.now → MayWait h (parts_in f)
  may_wait f s sh unlisted h told line = by s.now.queue.capacity refl
    where
      same : s.now.queue.capacity ≡ capacity_of (parts_in f).cells.form
      same = ap (λ (c : Channel T Waiter). c.queue.capacity) sh.shows.now
          ∙ (shows (parts_in f).cells sh.shows.queue (all_seats sh.shows.witnesses) (_, sh.shows.fits)).limit

      by : (cap : Option ℕ) → s.now.queue.capacity ≡ cap → is_some (capacity_of (parts_in f).cells.form) ≡ true
      by (Some n) e = ap (λ (o : Option ℕ). is_some o) (sym same ∙ e)
      by None e =
          let sent : IsAmong h.key (keys_of s.now.wait_lists.sends.told) =
          subst (λ (l : WaitList). IsAmong h.key (keys_of (listeners l s.now.wait_lists).told)) line told in
          absurd (subst (λ (l : Listeners Waiter). IsAmong h.key (keys_of l.told)) (unlisted e) sent)

  marked_told : (w : Waiter) (woken : List Waiter) (h : ListenerRef) (c : Channel T Waiter) → IsAmong w woken → IsMarked w woken h c → IsTold h c
  marked_told w woken h c i (inl m) = m.1
  marked_told w woken h c i (inr m) = absurd (m.0 i)

  -- what is pending and was woken
  pub has_node : (f : WorldState T) (s : Configuration T Waiter) (w : Waiter) → Shown f s → WorldInvariant (name_state_of f) s → IsWoken w f
      → HasNode (asks f.name_table (poll_of w)) (parts_in f)
  has_node f s w sh kept woken =
      let among = among_is w f.order.woken woken in
      let h = kept.woken.pending w among in
      let told : IsTold h.0 s.now = marked_told w f.order.woken h.0 s.now among (kept.woken.stands w h.0 h.1) in
      let lists : s.now.wait_lists ≡ (parts_in f).wait_lists = ap (λ (c : Channel T Waiter). c.wait_lists) sh.shows.now in
      woken_node (parts_in f) h.0
      (told_listed h.0 (parts_in f).wait_lists
      (subst (λ (a : WaitLists Waiter). IsAmong h.0.key (keys_of (listeners h.0.line a).told)) lists told))
      (may_wait f s sh kept.sound.unlisted.unlisted h.0 told) f.name_table w h.1

  -- so its poll, made alone, is refused no memory
  pub is_ample : (f : WorldState T) (w : Waiter) (a : ChannelAsk T Waiter) (x : Reply T) → Stands f → IsWoken w f → a ≡ asks f.name_table (poll_of w)
      → (HasNode a (parts_in f) → lacks_memory x ≡ false) → lacks_memory x ≡ false
  is_ample f w a x o woken asked ample =
      ample (subst (λ (b : ChannelAsk T Waiter). HasNode b (parts_in f)) (sym asked) (has_node f o.configuration w o.stands.shown o.stands.kept woken))
