-- What a call that ends gives back to the names.
use Rattle.std.specs.Prelude.{◌≡◌, ◌⊎◌}
use Rattle.channel_world_runs.proofs.Words.{ℕ, nat_eq, true, Option, None, Some, is_some, Err, inl, inr, refl, sym, ap, ◌∙◌, subst, lookup, option_map_or, Key, Ready, Pending, leaving, ChannelAsk, Reply, Returned, WaitList, Sends, Receives, Streams, Closings, PollKeeps, Keeps, Directory, at, waits_in, with_message, HandleId, HandleKind, OpId, Operation, Waiter, Op, Stream, restored, installed, written_back, NameStatus, free, retired, invalid, rests, waits, polled, status_on, no_stream_status, stream_status, status_by, operation_status, status, wait_of, subject, Suits, poll_state_with, unused, with_given_back, with_poll_state, OnReturn, HandleEntry, OperationEntry, PollState, Rests, Waits, IsPolled, NameTable, Refused}
use Rattle.channel_world_runs.proofs.OwnerNames.{Sets, Same, same_both, sets_same, same_sets, op_status, handle_entry_status, op_set, op_changed, handle_set, handle_changed, given_back_same}

-- neither pending nor amiss
abbrev pub IsCalm : NameStatus → Type 0
IsCalm invalid = ⊥
IsCalm (waits h) = ⊥
IsCalm (polled line) = ⊥
IsCalm x = Unit {0}

some_is : {X : Type 0} (x y : X) → Some x ≡ Some y → x ≡ y
some_is x y e = ap (λ (o : Option _). elim o [ None ↦ x | Some z ↦ z ]) e

polled_is : (a b : WaitList) → polled a ≡ polled b → a ≡ b
polled_is a b e = ap (λ (x : NameStatus). elim x [ polled l ↦ l | free ↦ a | retired ↦ a | invalid ↦ a | rests l ↦ a | waits h ↦ a ]) e

abbrev IsPolledNow : NameStatus → Type 0
IsPolledNow (polled line) = Unit {0}
IsPolledNow x = ⊥

no_busy : (x : NameStatus) (line : WaitList) → x ≡ polled line → IsPolledNow x
no_busy x line e = subst IsPolledNow (sym e) tt

-- what is vacant was taken
vacant_taken : {X : Type 0} (p : X → NameStatus) (o : Option (Option X)) → status_by p o ≡ retired → is_some o ≡ true
vacant_taken p None e = absurd (let no : free ≡ retired = e in cc)
vacant_taken p (Some x) e = refl

polled_there : {X : Type 0} (p : X → NameStatus) (n : ℕ) (d : Directory X) (line : WaitList) → status_by p (lookup (nat_eq n) d) ≡ polled line
    → (x : X) × (at n d ≡ Some x) × (p x ≡ polled line)
polled_there {X} p n d line e = by (lookup (nat_eq n) d) refl e
  where
    by : (o : Option (Option X)) → lookup (nat_eq n) d ≡ o → status_by p o ≡ polled line
        → (x : X) × (at n d ≡ Some x) × (p x ≡ polled line)
    by None f h = absurd (let no : free ≡ polled line = h in cc)
    by (Some None) f h = absurd (let no : retired ≡ polled line = h in cc)
    by (Some (Some x)) f h = (x, ap (λ (o : Option (Option X)). option_map_or (λ (y : Option X). y) o None) f, h)

on_line : (line l : WaitList) (s : PollState) → status_on line s ≡ polled l → line ≡ l
on_line line l Rests e = absurd (no_busy (rests line) l e)
on_line line l (Waits key) e = absurd (no_busy (waits (record { line = line; key = key })) l e)
on_line line l (IsPolled b) e = polled_is line l e

no_stream : (l : WaitList) (s : PollState) → no_stream_status s ≡ polled l → ⊥
no_stream l Rests e = no_busy (rests Streams) l e
no_stream l x e = no_busy invalid l e

stream_is : (k : HandleKind) (l : WaitList) (s : PollState) → stream_status k s ≡ polled l → (k ≡ HandleKind.Receiver) × (Streams ≡ l)
stream_is HandleKind.Receiver l s e = (refl, on_line Streams l s e)
stream_is x l s e = absurd (no_stream l s e)

calm_stream : (k : HandleKind) → IsCalm (stream_status k Rests)
calm_stream HandleKind.Receiver = tt
calm_stream x = tt

-- the wait is that of the name
abbrev IsFor : Option (WaitList × Waiter) → WaitList → Waiter → Type 0
IsFor wait line w = (wait ≡ None) ⊎ (wait ≡ Some (line, w))

own_wait : (wait : Option (WaitList × Waiter)) (line l : WaitList) (w task : Waiter) → IsFor wait line w → wait ≡ Some (l, task)
    → (l ≡ line) × (task ≡ w)
own_wait wait line l w task (inl none) e = absurd (let no : None ≡ Some (l, task) = sym none ∙ e in cc)
own_wait wait line l w task (inr some) e =
    let same : (let x : WaitList × Waiter = (l, task) in x) ≡ (line, w) = some_is _ _ (sym e ∙ some) in
    (ap (λ (x : WaitList × Waiter). x.0) same, ap (λ (x : WaitList × Waiter). x.1) same)

module _ {T : Type 0} where
  op_line : (x : Operation T) (l : WaitList) (s : PollState) → operation_status x s ≡ polled l → waits_in x ≡ l
  op_line (Operation.Send h None) l Rests e = absurd (no_busy (rests Sends) l e)
  op_line (Operation.Send h None) l (Waits key) e = absurd (no_busy invalid l e)
  op_line (Operation.Send h None) l (IsPolled b) e = polled_is Sends l e
  op_line (Operation.Send h (Some m)) l s e = on_line Sends l s e
  op_line (Operation.Receive h) l s e = on_line Receives l s e
  op_line (Operation.Closing h) l s e = on_line Closings l s e

  calm_op : (x : Operation T) → IsCalm (operation_status x Rests)
  calm_op (Operation.Send h None) = tt
  calm_op (Operation.Send h (Some m)) = tt
  calm_op (Operation.Receive h) = tt
  calm_op (Operation.Closing h) = tt

  -- a send that waits has its message
  abbrev pub Carries : WaitList → Option T → Type 0
  Carries line m = line ≡ Sends → (v : T) × (m ≡ Some v)

  waiting_op : (x : Operation T) (m : Option T) (key : Key) → Carries (waits_in x) m
      → operation_status (with_message m x) (Waits key) ≡ waits (record { line = waits_in x; key = key })
  waiting_op (Operation.Send h n) None key c = absurd (let f = c refl in let no : None ≡ Some f.0 = f.1 in cc)
  waiting_op (Operation.Send h n) (Some m) key c = refl
  waiting_op (Operation.Receive h) m key c = refl
  waiting_op (Operation.Closing h) m key c = refl

  -- ---- what is left

  -- the call leaves no listener, or one that waits on this list for this name
  abbrev pub IsLeft : Returned T → Option (WaitList × Waiter) → Type 0
  IsLeft kept wait = (kept.key ≡ None)
      ⊎ ((line : WaitList) × (key : Key) × (task : Waiter) × (kept.key ≡ Some key) × (wait ≡ Some (line, task))
      × Carries line kept.message)

  -- the name at which it worked is pending with the listener that is left, or neither pending nor amiss
  abbrev pub Comes : (Waiter → NameStatus) → OnReturn T → Returned T → Option (WaitList × Waiter) → Type 0
  Comes p e kept wait =
      ((kept.key ≡ None) × ((v : Waiter) → subject e ≡ Some v → IsCalm (p v)))
      ⊎ ((line : WaitList) × (key : Key) × (task : Waiter) × (kept.key ≡ Some key) × (wait ≡ Some (line, task))
      × (subject e ≡ Some task) × (p task ≡ waits (record { line = line; key = key })))

  pub record Settles (p p' : Waiter → NameStatus) (e : OnReturn T) (kept : Returned T) (wait : Option (WaitList × Waiter)) : Type 0 where
    pub others : (v : Waiter) → (subject e ≡ Some v → ⊥) → p' v ≡ p v
    pub own : Comes p' e kept wait

  no_wait : (p : Waiter → NameStatus) (e : OnReturn T) (kept : Returned T) (wait : Option (WaitList × Waiter)) → IsLeft kept wait → wait ≡ None
      → ((v : Waiter) → subject e ≡ Some v → IsCalm (p v)) → Comes p e kept wait
  no_wait p e kept wait (inl none) f h = inl (none, h)
  no_wait p e kept wait (inr (line, key, task, k, w, m)) f h = absurd (let no : Some (line, task) ≡ None = sym w ∙ f in cc)

  -- nothing is settled
  plain : (p p' : Waiter → NameStatus) (e : OnReturn T) (kept : Returned T) (wait : Option (WaitList × Waiter)) → IsLeft kept wait → wait ≡ None
      → subject e ≡ None → Same p p' → Settles p p' e kept wait
  plain p p' e kept wait l f none same =
      record {
        others = λ v other. same v;
        own = no_wait p' e kept wait l f (λ v s. absurd (let no : None ≡ Some v = sym none ∙ s in cc));
      }

  -- one name is set
  set : (p p' : Waiter → NameStatus) (e : OnReturn T) (kept : Returned T) (wait : Option (WaitList × Waiter)) (w : Waiter) (x : NameStatus)
      → subject e ≡ Some w → Sets p p' w x → Comes p' e kept wait → Settles p p' e kept wait
  set p p' e kept wait w x whose s own =
      record { others = λ v other. s.others v (λ same. other (whose ∙ ap (λ (y : Waiter). Some y) (sym same))); own = own }

  calm_at : (p : Waiter → NameStatus) (e : OnReturn T) (w : Waiter) (x : NameStatus) → subject e ≡ Some w → p w ≡ x → IsCalm x → (v : Waiter)
      → subject e ≡ Some v → IsCalm (p v)
  calm_at p e w x whose is calm v s =
      subst (λ (y : Waiter). IsCalm (p y)) (some_is w v (sym whose ∙ s)) (subst IsCalm (sym is) calm)

  makes : (r : NameTable T) (op : OpId) (o : OperationEntry T) (y : Reply T) (kept : Returned T) (wait : Option (WaitList × Waiter))
      → IsLeft kept wait → Suits {T = T} (status r) (OnReturn.Make op o) wait
      → Settles (status r) (status (written_back (OnReturn.Make op o) y kept r)) (OnReturn.Make op o) kept wait
  makes r op o y kept wait l f =
      let s = op_set r op (Some o) (vacant_taken op_status (lookup (nat_eq op.0) r.operations) f.0) in
      let calm : IsCalm (op_status o) =
      subst (λ (z : PollState). IsCalm (operation_status o.operation z)) (sym f.1) (calm_op o.operation) in
      set (status r) (status (written_back (OnReturn.Make op o) y kept r)) (OnReturn.Make op o) kept wait (Op op) (op_status o) refl s
      (no_wait (status (written_back (OnReturn.Make op o) y kept r)) (OnReturn.Make op o) kept wait l f.2
      (calm_at (status (written_back (OnReturn.Make op o) y kept r)) (OnReturn.Make op o) (Op op) (op_status o) refl s.there calm))

  -- the end of a poll: the name stands by the listener that is left
  comes : (after : Waiter → NameStatus) (e : OnReturn T) (w : Waiter) (x : Option Key → NameStatus) (line : WaitList) (kept : Returned T)
      (wait : Option (WaitList × Waiter)) → subject e ≡ Some w → after w ≡ x kept.key → IsCalm (x None)
      → ((key : Key) → Carries line kept.message → x (Some key) ≡ waits (record { line = line; key = key })) → IsFor wait line w
      → IsLeft kept wait → Comes after e kept wait
  comes after e w x line kept wait whose is calm pends whom (inl none) =
      inl (none, calm_at after e w (x None) whose (is ∙ ap x none) calm)
  comes after e w x line kept wait whose is calm pends whom (inr (l, key, task, k, wt, m)) =
      let own = own_wait wait line l w task whom wt in
      inr (
        l,
        key,
        task,
        k,
        wt,
        whose ∙ ap (λ (v : Waiter). Some v) (sym own.1),
        ap after own.1 ∙ (is ∙ (ap x k ∙ (pends key (λ sends. m (own.0 ∙ sends))
            ∙ ap (λ (i : WaitList). waits (record { line = i; key = key })) (sym own.0)))),
      )

  polls : (r : NameTable T) (op : OpId) (y : Reply T) (kept : Returned T) (wait : Option (WaitList × Waiter)) → IsLeft kept wait
      → Suits {T = T} (status r) (OnReturn.Poll op) wait
      → Settles (status r) (status (written_back (OnReturn.Poll op) y kept r)) (OnReturn.Poll op) kept wait
  polls r op y kept wait l f =
      let there = polled_there op_status op.0 r.operations f.0 f.1 in
      let o = there.0 in
      let s = op_changed r op (restored kept) o there.1 in
      let line = op_line o.operation f.0 o.poll_state there.2 in
      set (status r) (status (written_back (OnReturn.Poll op) y kept r)) (OnReturn.Poll op) kept wait (Op op) _ refl s
      (comes (status (written_back (OnReturn.Poll op) y kept r)) (OnReturn.Poll op) (Op op)
      (λ k. operation_status (with_message kept.message o.operation) (poll_state_with k)) f.0 kept wait refl s.there (calm_op (with_message kept.message o.operation))
      (λ key c. waiting_op o.operation kept.message key (λ sends. c (sym line ∙ sends))
      ∙ ap (λ (x : WaitList). waits (record { line = x; key = key })) line) f.2 l)

  nexts : (r : NameTable T) (receiver : HandleId) (y : Reply T) (kept : Returned T) (wait : Option (WaitList × Waiter)) → IsLeft kept wait
      → Suits {T = T} (status r) (OnReturn.PollNext receiver) wait
      → Settles (status r) (status (written_back (OnReturn.PollNext receiver) y kept r)) (OnReturn.PollNext receiver) kept wait
  nexts r receiver y kept wait l f =
      let there = polled_there handle_entry_status receiver.0 r.handles f.0 f.1 in
      let h = there.0 in
      let is = stream_is h.handle.kind f.0 h.poll_state there.2 in
      let put = with_poll_state (poll_state_with kept.key) receiver r in
      let s = handle_changed r receiver (λ (x : HandleEntry). record x { poll_state = poll_state_with kept.key }) h there.1 in
      let all = sets_same (status r) (status put) (status (with_given_back receiver put)) (Stream receiver) _ s
      (given_back_same put receiver) in
      set (status r) (status (written_back (OnReturn.PollNext receiver) y kept r)) (OnReturn.PollNext receiver) kept wait (Stream receiver) _ refl all
      (comes (status (written_back (OnReturn.PollNext receiver) y kept r)) (OnReturn.PollNext receiver) (Stream receiver)
      (λ k. status_on Streams (poll_state_with k)) f.0 kept wait refl (all.there ∙ ap (λ k. stream_status k (poll_state_with kept.key)) is.0) tt
      (λ key c. ap (λ (x : WaitList). waits (record { line = x; key = key })) is.1) f.2 l)

  -- a new handle lives, or doesn't
  installs : (r : NameTable T) (new : HandleId) (k : HandleKind) (y : Reply T) → status r (Stream new) ≡ retired
      → (x : NameStatus) × IsCalm x × Sets (status r) (status (installed new k y r)) (Stream new) x
  installs r new k Reply.Made v = (
    stream_status k Rests,
    calm_stream k,
    handle_set r new (Some (unused k))
        (vacant_taken handle_entry_status (lookup (nat_eq new.0) r.handles) v),
  )
  installs r new k y v = (retired, tt, record { there = v; others = λ w other. refl })

  news : (r : NameTable T) (from new : HandleId) (k : HandleKind) (y : Reply T) (kept : Returned T) (wait : Option (WaitList × Waiter))
      → IsLeft kept wait → Suits {T = T} (status r) (OnReturn.New from new k) wait
      → Settles (status r) (status (written_back (OnReturn.New from new k) y kept r)) (OnReturn.New from new k) kept wait
  news r from new k y kept wait l f =
      let back = with_given_back from r in
      let back_same = given_back_same r from in
      let i = installs back new k y (back_same (Stream new) ∙ f.0) in
      let all = same_sets (status r) (status back) (status (installed new k y back)) (Stream new) i.0 back_same i.2 in
      set (status r) (status (written_back (OnReturn.New from new k) y kept r)) (OnReturn.New from new k) kept wait (Stream new) i.0 refl all
      (no_wait (status (written_back (OnReturn.New from new k) y kept r)) (OnReturn.New from new k) kept wait l f.1
      (calm_at (status (written_back (OnReturn.New from new k) y kept r)) (OnReturn.New from new k) (Stream new) i.0 refl all.there i.1))

  pub settles : (r : NameTable T) (e : OnReturn T) (y : Reply T) (kept : Returned T) (wait : Option (WaitList × Waiter)) → IsLeft kept wait
      → Suits {T = T} (status r) e wait → Settles (status r) (status (written_back e y kept r)) e kept wait
  settles r OnReturn.Nothing y kept wait l f = plain (status r) (status r) OnReturn.Nothing kept wait l f refl (λ v. refl)
  settles r (OnReturn.Leave handle) y kept wait l f =
      plain (status r) (status (with_given_back handle r)) (OnReturn.Leave handle) kept wait l f refl (given_back_same r handle)
  settles r (OnReturn.LeaveBoth a b) y kept wait l f =
      plain (status r) (status (with_given_back b (with_given_back a r))) (OnReturn.LeaveBoth a b) kept wait l f refl
      (same_both (status r) (status (with_given_back a r)) (status (with_given_back b (with_given_back a r))) (given_back_same r a)
      (given_back_same (with_given_back a r) b))
  settles r (OnReturn.Make op o) y kept wait l f = makes r op o y kept wait l f
  settles r (OnReturn.Poll op) y kept wait l f = polls r op y kept wait l f
  settles r (OnReturn.PollNext receiver) y kept wait l f = nexts r receiver y kept wait l f
  settles r (OnReturn.New from new k) y kept wait l f = news r from new k y kept wait l f

  -- ---- what a send keeps

  nothing_left : (k : Returned T) (m : Option T) (key : Key) → k ≡ leaving None m → k.key ≡ Some key → ⊥
  nothing_left k m key e f = absurd (let no : None ≡ Some key = sym (ap (λ (x : Returned T). x.key) e) ∙ f in cc)

  poll_carries : (m : Option T) (y : Reply T) (k : Returned T) (key : Key) → PollKeeps m y k → k.key ≡ Some key → k.message ≡ m
  poll_carries m (Reply.SendPoll Pending) k key h e = h.1
  poll_carries m (Reply.RecvPoll Pending) k key h e = h.1
  poll_carries m (Reply.ClosedPoll Pending) k key h e = h.1
  poll_carries m (Reply.Next Pending) k key h e = h.1
  poll_carries m (Reply.SendPoll (Ready (Err (Refused.NoMemory u)))) k key h e = absurd (nothing_left k m key h e)
  poll_carries m (Reply.SendPoll (Ready (Err (Refused.SerialsUsedUp u)))) k key h e = absurd (nothing_left k m key h e)
  poll_carries m y k key h e = absurd (nothing_left k None key h e)

  pub carries : (a : ChannelAsk T Waiter) (y : Reply T) (k : Returned T) (key : Key) (line : WaitList) (task : Waiter) → Keeps a y k
      → k.key ≡ Some key → wait_of a ≡ Some (line, task) → Carries line k.message
  carries (ChannelAsk.PollSend m o t) y k key line task h e w sends = (m, poll_carries (Some m) y k key h e)
  carries (ChannelAsk.PollRecv o t) y k key line task h e w sends =
      absurd (let no : Receives ≡ Sends = ap (λ (x : WaitList × Waiter). x.0) (some_is _ _ w) ∙ sends in cc)
  carries (ChannelAsk.PollClosed o t) y k key line task h e w sends =
      absurd (let no : Closings ≡ Sends = ap (λ (x : WaitList × Waiter). x.0) (some_is _ _ w) ∙ sends in cc)
  carries (ChannelAsk.PollNext o t) y k key line task h e w sends =
      absurd (let no : Streams ≡ Sends = ap (λ (x : WaitList × Waiter). x.0) (some_is _ _ w) ∙ sends in cc)
  carries a y k key line task h e w sends = absurd (let no : None ≡ Some (line, task) = w in cc)
