-- What a call may answer, by shapes: what comes of the channel, whom it tells, and who leaves a line or stands in it.
use Rattle.std.specs.Prelude.{◌≡◌, ◌⊎◌, ◌≤◌, ◌+◌, ◌^◌, ◌-◌, ◌==◌, ◌∷◌, ◌++◌, ◌||◌, if◌then◌else◌}
use Rattle.channel_world_model.proofs.Words.{cond_both, take-append-drop, arith, zero, suc, ℕ, nat_lt, List, [], length, take, drop, Bool, true, false, Option, None, Some, Ok, Err, refl, sym, ap, subst, inl, inr, option_map_or, ModelChannel, is_full, with_messages, Operation, at, is_among, gone, State, with_channel, with_waiting, Call, Reply, Answer, replying, after_telling, after_leaving, pending, space_of, Found, first, none_yet, none_ever, found_in, found, try_send_answer, force_send_answer, displacing, send_poll_answer, try_recv_answer, recv_many_answer, recv_poll_answer, next_answer, poll_next_answer, close_answer, shut, closed_poll_answer, poll_answer, poll_refused_answer, give_up_answer, given_up, new_answer, drop_one, dropped, drop_answer, made, spent, weak_of, clone_answer, downgrade_answer, upgrade_answer, one_more, strong_of, strong_handles, with_strong_handles, answer, memory, refused, not_listening, Answers, poll_of, says_closed, removed_by, sends_after, line_of_operation, line_at, free_places, WaitList, Sends, Receives, Streams, Closings, Nothing, Closing, Space, Open, Filled, Shut, Waiter, Op, Stream, OpId, HandleId, HandleKind, Receiver, WeakSender, WeakReceiver, Handle, NoMemory, Ready, Pending, length-take, telling_rooms, waits_in, own_message, decided}
use Rattle.channel_world_model.proofs.Awake.{Idle}
use Rattle.channel_world_model.proofs.Lacking.{Lacking, lacking, out, found_first}
use Rattle.channel_world_model.proofs.WaiterLemmas.{same_number}
use Rattle.event_listener.specs.declared.error.ListenError.{ListenError}

full_idle : (o : Option ℕ) (n : ℕ) → option_map_or (λ (capacity : ℕ). n == capacity) o false ≡ true → (free_places o n ≡ 0) × (o ≡ None → ⊥)
full_idle None n e = cc e
full_idle (Some c) n e = let same : n ≡ c = same_number n c e in (omega (arith, same), λ h. cc h)

module _ {T : Type 0} where
  -- the reply says that a message was accepted
  abbrev pub brings : Reply T → Bool
  brings (Reply.TrySend (Ok u)) = true
  brings (Reply.ForceSend (Ok displaced)) = true
  brings (Reply.SendPoll (Ready (Ok u))) = true
  brings r = false

  -- it closes nothing, takes nothing out, brings nothing in, and makes no send
  abbrev pub Quiet : Call T → Reply T → Type 0
  Quiet c r = (says_closed r ≡ false) × (removed_by r ≡ []) × (brings r ≡ false) × ((sends : List (ℕ × T)) → sends_after sends c ≡ sends)

  -- a poll that changes nothing is of what belongs to no line, or of a stream that stands in its own
  abbrev pub Rests : State T → Call T → Type 0
  Rests s (Call.Poll op) = line_at s.names (Op op) ≡ None
  Rests s (Call.PollNext receiver) = is_among (Stream receiver) s.waiting.streams ≡ true
  Rests s c = Unit {0}

  -- it makes a handle of another
  abbrev pub IsMint : Call T → Type 0
  IsMint (Call.TryClone handle new) = Unit {0}
  IsMint (Call.Downgrade handle new) = Unit {0}
  IsMint (Call.Upgrade weak new) = Unit {0}
  IsMint c = ⊥

  abbrev pub OnLine : State T → Waiter → WaitList → Type 0
  OnLine s w line = line_at s.names w ≡ Some line

  abbrev pub IdleIn : State T → WaitList → Type 0
  IdleIn s line = Idle (line_at s.names) s.channel.capacity line (length s.channel.messages)

  pub data Shape (s : State T) : Call T → Answer T → Type 0 where
    -- nothing is changed, and nobody is told
    says : (c : Call T) (r : Reply T) → Rests s c → Quiet c r → Shape s c (replying s r)
    -- a message comes
    tries : (sender : HandleId) (m : T) → space_of s.channel ≡ Open → Shape s (Call.TrySend sender m) (try_send_answer s m Open)
    forces : (sender : HandleId) (m : T) → (space_of s.channel ≡ Open) ⊎ (s.channel.messages ≡ []) → Shape s (Call.ForceSend sender m) (force_send_answer s m Open)
    displaces : (sender : HandleId) (m oldest : T) (rest : List T) → s.channel.messages ≡ oldest ∷ rest
        → Shape s (Call.ForceSend sender m) (displacing s m (oldest ∷ rest))
    sends : (op : OpId) (handle : HandleId) (m : T) → at op.0 s.names.operations ≡ Some (Operation.Send handle (Some m)) → space_of s.channel ≡ Open
        → Shape s (Call.Poll op) (send_poll_answer s op handle m Open)
    -- a send is refused, and has its message no more
    fails : (op : OpId) (handle : HandleId) (m : T) → at op.0 s.names.operations ≡ Some (Operation.Send handle (Some m))
        → Shape s (Call.Poll op) (send_poll_answer s op handle m Shut)
    -- messages are taken
    takes : (receiver : HandleId) (m : T) (rest : List T) → s.channel.messages ≡ m ∷ rest → Shape s (Call.TryRecv receiver) (try_recv_answer s (first m rest))
    several : (receiver : HandleId) (limit : ℕ) (m : T) (ms rest : List T) → (m ∷ ms) ++ rest ≡ s.channel.messages → length (m ∷ ms) ≤ limit
        → Shape s (Call.RecvMany receiver limit) (telling_rooms (length (m ∷ ms)) (with_channel (with_messages s.channel rest) s) (Reply.RecvMany (Ok (m ∷ ms))))
    receives : (op : OpId) (m : T) (rest : List T) → OnLine s (Op op) Receives → found s.channel ≡ first m rest
        → Shape s (Call.Poll op) (recv_poll_answer s op (first m rest))
    streams : (receiver : HandleId) (m : T) (rest : List T) → found s.channel ≡ first m rest
        → Shape s (Call.PollNext receiver) (next_answer (with_waiting (gone (Stream receiver) s.waiting) s) receiver (first m rest))
    -- one stands in its line, leaves it and passes on what it was told, or is out of it
    stands : (op : OpId) (line : WaitList) (r : Reply T) → OnLine s (Op op) line → s.channel.closed ≡ false → IdleIn s line → Quiet (Call.Poll op) r
        → Shape s (Call.Poll op) (pending line (Op op) s r)
    restands : (receiver : HandleId) → s.channel.messages ≡ [] → s.channel.closed ≡ false
        → Shape s (Call.PollNext receiver) (pending Streams (Stream receiver) (with_waiting (gone (Stream receiver) s.waiting) s) (Reply.Next Pending))
    leaves : (op : OpId) (line : WaitList) (r : Reply T) → OnLine s (Op op) line → Quiet (Call.Poll op) r → Shape s (Call.Poll op) (after_leaving Nothing line (Op op) s r)
    refuses : (op : OpId) (line : WaitList) (r : Reply T) → OnLine s (Op op) line ⊎ (line_at s.names (Op op) ≡ None) → Quiet (Call.PollRefused op) r
        → Shape s (Call.PollRefused op) (after_leaving Nothing line (Op op) s r)
    goes : (w : Waiter) (line : WaitList) (r : Reply T) → OnLine s w line → IdleIn s line → Quiet (poll_of w) r → Shape s (poll_of w) (out s w r)
    -- an operation is made, or given up
    new_send : (op : OpId) (sender : HandleId) (m : T) → Shape s (Call.NewSend op sender m) (new_answer s op (Operation.Send sender (Some m)))
    new_receive : (op : OpId) (receiver : HandleId) → Shape s (Call.NewRecv op receiver) (new_answer s op (Operation.Receive receiver))
    new_closing : (op : OpId) (sender : HandleId) → Shape s (Call.NewClosed op sender) (new_answer s op (Operation.Closing sender))
    gives_up : (op : OpId) (x : Operation T) → at op.0 s.names.operations ≡ Some x
        → Shape s (Call.GiveUp op) (after_leaving Nothing (waits_in x) (Op op) (given_up s op x) (Reply.GivenUp (own_message x)))
    -- the channel is closed, a handle goes, or one is made, or its name is taken alone
    shuts : (handle : HandleId) → s.channel.closed ≡ false → Shape s (Call.Close handle) (after_telling Closing (with_channel (shut s.channel) s) (Reply.Closed true))
    drops : (handle : HandleId) (h : Handle) → at handle.0 s.names.handles ≡ Some h → Shape s (Call.Drop handle) (drop_one (dropped s handle) handle h.kind)
    makes : (c : Call T) (new : HandleId) (kind : HandleKind) → IsMint c → Quiet c Reply.Made
        → Shape s c (replying (with_channel (with_strong_handles kind (strong_handles kind s.channel + 1) s.channel) (made s new kind)) Reply.Made)
    spends : (c : Call T) (new : HandleId) (r : Reply T) → IsMint c → Quiet c r → Shape s c (replying (spent s new) r)

  -- ---- what a call finds

  found_yet : (ms : List T) (closed : Bool) → found_in ms closed ≡ none_yet → (ms ≡ []) × (closed ≡ false)
  found_yet [] true e = cc e
  found_yet [] false e = (refl, refl)
  found_yet (x ∷ xs) closed e = cc e

  found_ever : (ms : List T) (closed : Bool) → found_in ms closed ≡ none_ever → ms ≡ []
  found_ever [] closed e = refl
  found_ever (x ∷ xs) closed e = cc e

  space_filled : (c : ModelChannel T) → space_of c ≡ Filled → (c.closed ≡ false) × (is_full c ≡ true)
  space_filled c e = elim (decided c.closed) [
    | inl t ↦ cc (rw t at e)
    | inr t ↦ elim (decided (is_full c)) [
      | inl u ↦ (t, u)
      | inr u ↦ let gone_on : (if is_full c then Filled else Open) ≡ Filled = rw t at e in cc (rw u at gone_on)
    ]
  ]

  pub no_message : (ms : List T) → ms ≡ [] → length ms ≡ 0
  no_message ms e = ap (λ (xs : List T). length xs) e

  module _ (s : State T) where
    filled : space_of s.channel ≡ Filled → (s.channel.closed ≡ false) × IdleIn s Sends
    filled e = let f = space_filled s.channel e in (f.0, full_idle s.channel.capacity (length s.channel.messages) f.1)

    empty : found s.channel ≡ none_yet → (length s.channel.messages ≡ 0) × (s.channel.closed ≡ false)
    empty e = let f = found_yet s.channel.messages s.channel.closed e in (no_message s.channel.messages f.0, f.1)

    -- ---- sending and receiving

    try_send : (sender : HandleId) (m : T) (x : Space) → space_of s.channel ≡ x → Shape s (Call.TrySend sender m) (try_send_answer s m x)
    try_send sender m Open e = tries sender m e
    try_send sender m x e = says (Call.TrySend sender m) (try_send_answer s m x).reply tt (refl, refl, refl, λ ss. refl)

    displace : (sender : HandleId) (m : T) (ms : List T) → s.channel.messages ≡ ms → Shape s (Call.ForceSend sender m) (displacing s m ms)
    displace sender m [] e = forces sender m (inr e)
    displace sender m (x ∷ ms) e = displaces sender m x ms e

    force_send : (sender : HandleId) (m : T) (x : Space) → space_of s.channel ≡ x → Shape s (Call.ForceSend sender m) (force_send_answer s m x)
    force_send sender m Open e = forces sender m (inl e)
    force_send sender m Filled e = displace sender m s.channel.messages refl
    force_send sender m Shut e = says (Call.ForceSend sender m) (force_send_answer s m Shut).reply tt (refl, refl, refl, λ ss. refl)

    try_recv : (receiver : HandleId) (x : Found T) → found s.channel ≡ x → Shape s (Call.TryRecv receiver) (try_recv_answer s x)
    try_recv receiver (first m rest) e = takes receiver m rest (found_first s.channel.messages s.channel.closed m rest e)
    try_recv receiver x e = says (Call.TryRecv receiver) (try_recv_answer s x).reply tt (refl, refl, refl, λ ss. refl)

    recv_many : (receiver : HandleId) (n limit : ℕ) (ms rest : List T) → ms ++ rest ≡ s.channel.messages → length ms ≤ limit
        → Shape s (Call.RecvMany receiver limit) (recv_many_answer s n ms rest)
    recv_many receiver zero limit ms rest e few = says (Call.RecvMany receiver limit) (Reply.RecvMany (Ok [])) tt (refl, refl, refl, λ ss. refl)
    recv_many receiver (suc n) limit [] rest e few =
        says (Call.RecvMany receiver limit) (recv_many_answer s (suc n) [] rest).reply tt (refl, refl, refl, λ ss. refl)
    recv_many receiver (suc n) limit (m ∷ ms) rest e few = several receiver limit m ms rest e few

    -- ---- operations

    send_poll : (op : OpId) (handle : HandleId) (m : T) (x : Space) → at op.0 s.names.operations ≡ Some (Operation.Send handle (Some m)) → space_of s.channel ≡ x
        → Shape s (Call.Poll op) (send_poll_answer s op handle m x)
    send_poll op handle m Open there e = sends op handle m there e
    send_poll op handle m Filled there e =
        let f = filled e in stands op Sends (Reply.SendPoll Pending) (ap line_of_operation there) f.0 f.1 (refl, refl, refl, λ ss. refl)
    send_poll op handle m Shut there e = fails op handle m there

    recv_poll : (op : OpId) (x : Found T) → OnLine s (Op op) Receives → found s.channel ≡ x → Shape s (Call.Poll op) (recv_poll_answer s op x)
    recv_poll op (first m rest) own e = receives op m rest own e
    recv_poll op none_yet own e = let f = empty e in stands op Receives (Reply.RecvPoll Pending) own f.1 f.0 (refl, refl, refl, λ ss. refl)
    recv_poll op none_ever own e = leaves op Receives (recv_poll_answer s op none_ever).reply own (refl, refl, refl, λ ss. refl)

    closed_poll : (op : OpId) → OnLine s (Op op) Closings → Shape s (Call.Poll op) (closed_poll_answer s op)
    closed_poll op own =
        cond_both s.channel.closed (after_leaving Nothing Closings (Op op) s (Reply.ClosedPoll (Ready (Ok tt)))) (pending Closings (Op op) s (Reply.ClosedPoll Pending))
        (λ (a : Answer T). Shape s (Call.Poll op) a)
        (λ t. leaves op Closings (Reply.ClosedPoll (Ready (Ok tt))) own (refl, refl, refl, λ ss. refl))
        (λ t. stands op Closings (Reply.ClosedPoll Pending) own t tt (refl, refl, refl, λ ss. refl))

    poll : (op : OpId) (o : Option (Operation T)) → at op.0 s.names.operations ≡ o → Shape s (Call.Poll op) (poll_answer s op o)
    poll op (Some (Operation.Send handle (Some m))) there = send_poll op handle m (space_of s.channel) there refl
    poll op (Some (Operation.Receive handle)) there = recv_poll op (found s.channel) (ap line_of_operation there) refl
    poll op (Some (Operation.Closing handle)) there = closed_poll op (ap line_of_operation there)
    poll op o there = says (Call.Poll op) (poll_answer s op o).reply (ap line_of_operation there) (refl, refl, refl, λ ss. refl)

    poll_refused : (op : OpId) (o : Option (Operation T)) → at op.0 s.names.operations ≡ o → Shape s (Call.PollRefused op) (poll_refused_answer s op o)
    poll_refused op (Some (Operation.Send handle (Some m))) there =
        refuses op Sends (Reply.SendPoll (Ready (Err (NoMemory tt)))) (inl (ap line_of_operation there)) (refl, refl, refl, λ ss. refl)
    poll_refused op (Some (Operation.Send handle None)) there =
        refuses op Sends (Reply.SendPoll (Ready (Err (NoMemory tt)))) (inr (ap line_of_operation there)) (refl, refl, refl, λ ss. refl)
    poll_refused op (Some (Operation.Receive handle)) there =
        refuses op Receives (Reply.RecvPoll (Ready (Err (NoMemory tt)))) (inl (ap line_of_operation there)) (refl, refl, refl, λ ss. refl)
    poll_refused op (Some (Operation.Closing handle)) there =
        refuses op Closings (Reply.ClosedPoll (Ready (Err ListenError.NoMemory))) (inl (ap line_of_operation there)) (refl, refl, refl, λ ss. refl)
    poll_refused op None there = says (Call.PollRefused op) Reply.Unit tt (refl, refl, refl, λ ss. refl)

    give_up : (op : OpId) (o : Option (Operation T)) → at op.0 s.names.operations ≡ o → Shape s (Call.GiveUp op) (give_up_answer s op o)
    give_up op (Some (Operation.Send handle msg)) there = gives_up op (Operation.Send handle msg) there
    give_up op (Some (Operation.Receive handle)) there = gives_up op (Operation.Receive handle) there
    give_up op (Some (Operation.Closing handle)) there = gives_up op (Operation.Closing handle) there
    give_up op None there = says (Call.GiveUp op) Reply.Unit tt (refl, refl, refl, λ ss. refl)

    next : (receiver : HandleId) (x : Found T) → found s.channel ≡ x
        → Shape s (Call.PollNext receiver) (next_answer (with_waiting (gone (Stream receiver) s.waiting) s) receiver x)
    next receiver (first m rest) e = streams receiver m rest e
    next receiver none_yet e = let f = found_yet s.channel.messages s.channel.closed e in restands receiver f.0 f.1
    next receiver none_ever e =
        goes (Stream receiver) Streams (Reply.Next (Ready None)) refl (no_message s.channel.messages (found_ever s.channel.messages s.channel.closed e))
        (refl, refl, refl, λ ss. refl)

    poll_next : (receiver : HandleId) → Shape s (Call.PollNext receiver) (poll_next_answer s receiver)
    poll_next receiver =
        cond_both (is_among (Stream receiver) s.waiting.streams) (replying s (Reply.Next Pending)) (next_answer (with_waiting (gone (Stream receiver) s.waiting) s) receiver (found s.channel))
        (λ (a : Answer T). Shape s (Call.PollNext receiver) a)
        (λ t. says (Call.PollNext receiver) (Reply.Next Pending) t (refl, refl, refl, λ ss. refl)) (λ t. next receiver (found s.channel) refl)

    -- ---- closing and handles

    close : (handle : HandleId) → Shape s (Call.Close handle) (close_answer s)
    close handle =
        cond_both s.channel.closed (replying s (Reply.Closed false)) (after_telling Closing (with_channel (shut s.channel) s) (Reply.Closed true))
        (λ (a : Answer T). Shape s (Call.Close handle) a)
        (λ t. says (Call.Close handle) (Reply.Closed false) tt (refl, refl, refl, λ ss. refl)) (λ t. shuts handle t)

    drop_handle : (handle : HandleId) (o : Option Handle) → at handle.0 s.names.handles ≡ o → Shape s (Call.Drop handle) (drop_answer s handle o)
    drop_handle handle (Some h) there = drops handle h there
    drop_handle handle None there = says (Call.Drop handle) Reply.Unit tt (refl, refl, refl, λ ss. refl)

    more : (c : Call T) (new : HandleId) (kind : HandleKind) → IsMint c → ((ss : List (ℕ × T)) → sends_after ss c ≡ ss) → Shape s c (one_more s new kind)
    more c new kind mint still =
        cond_both (nat_lt (2 ^ 63 - 1) (strong_handles kind s.channel)) (replying (spent s new) Reply.TooMany)
        (replying (with_channel (with_strong_handles kind (strong_handles kind s.channel + 1) s.channel) (made s new kind)) Reply.Made)
        (λ (a : Answer T). Shape s c a) (λ t. spends c new Reply.TooMany mint (refl, refl, refl, still)) (λ t. makes c new kind mint (refl, refl, refl, still))

    clone_handle : (from new : HandleId) (o : Option Handle) → Shape s (Call.TryClone from new) (clone_answer s new o)
    clone_handle from new (Some h) = more (Call.TryClone from new) new h.kind tt (λ ss. refl)
    clone_handle from new None = says (Call.TryClone from new) Reply.Unit tt (refl, refl, refl, λ ss. refl)

    weak : (from new : HandleId) (kind : HandleKind) → Shape s (Call.Downgrade from new) (replying (made s new (weak_of kind)) Reply.Made)
    weak from new Receiver = makes (Call.Downgrade from new) new WeakReceiver tt (refl, refl, refl, λ ss. refl)
    weak from new WeakReceiver = makes (Call.Downgrade from new) new WeakReceiver tt (refl, refl, refl, λ ss. refl)
    weak from new kind = makes (Call.Downgrade from new) new WeakSender tt (refl, refl, refl, λ ss. refl)

    downgrade : (from new : HandleId) (o : Option Handle) → Shape s (Call.Downgrade from new) (downgrade_answer s new o)
    downgrade from new (Some h) = weak from new h.kind
    downgrade from new None = says (Call.Downgrade from new) Reply.Unit tt (refl, refl, refl, λ ss. refl)

    upgrade : (from new : HandleId) (o : Option Handle) → Shape s (Call.Upgrade from new) (upgrade_answer s new o)
    upgrade from new (Some h) =
        cond_both (s.channel.closed || (strong_handles (strong_of h.kind) s.channel == 0)) (replying (spent s new) Reply.NotMade) (one_more s new (strong_of h.kind))
        (λ (a : Answer T). Shape s (Call.Upgrade from new) a)
        (λ t. spends (Call.Upgrade from new) new Reply.NotMade tt (refl, refl, refl, λ ss. refl)) (λ t. more (Call.Upgrade from new) new (strong_of h.kind) tt (λ ss. refl))
    upgrade from new None = says (Call.Upgrade from new) Reply.Unit tt (refl, refl, refl, λ ss. refl)

    -- ---- every call

    ample : (c : Call T) → Shape s c (answer s c)
    ample (Call.NewSend op sender msg) = new_send op sender msg
    ample (Call.NewRecv op receiver) = new_receive op receiver
    ample (Call.NewClosed op sender) = new_closing op sender
    ample (Call.Poll op) = poll op (at op.0 s.names.operations) refl
    ample (Call.PollRefused op) = poll_refused op (at op.0 s.names.operations) refl
    ample (Call.GiveUp op) = give_up op (at op.0 s.names.operations) refl
    ample (Call.PollNext receiver) = poll_next receiver
    ample (Call.TrySend sender msg) = try_send sender msg (space_of s.channel) refl
    ample (Call.ForceSend sender msg) = force_send sender msg (space_of s.channel) refl
    ample (Call.TryRecv receiver) = try_recv receiver (found s.channel) refl
    ample (Call.RecvMany receiver limit) =
        recv_many receiver limit limit (take limit s.channel.messages) (drop limit s.channel.messages) (take-append-drop limit s.channel.messages)
        (let few = length-take limit s.channel.messages in omega (arith, few))
    ample (Call.Close handle) = close handle
    ample (Call.Drop handle) = drop_handle handle (at handle.0 s.names.handles) refl
    ample (Call.TryClone handle new) = clone_handle handle new (at handle.0 s.names.handles)
    ample (Call.Downgrade handle new) = downgrade handle new (at handle.0 s.names.handles)
    ample (Call.Upgrade weak new) = upgrade weak new (at weak.0 s.names.handles)
    ample c = says c (answer s c).reply tt (refl, refl, refl, λ ss. refl)

    lacks : Lacking s (λ c a. Shape s c a)
    lacks = record {
      try_send = λ sender m. says (Call.TrySend sender m) (Reply.TrySend (Err (NoMemory m))) tt (refl, refl, refl, λ ss. refl);
      force_send = λ sender m. says (Call.ForceSend sender m) (Reply.ForceSend (Err (NoMemory m))) tt (refl, refl, refl, λ ss. refl);
      recv_many = λ receiver limit. says (Call.RecvMany receiver limit) (Reply.RecvMany (Err (NoMemory tt))) tt (refl, refl, refl, λ ss. refl);
      leaves = λ op handle m there. leaves op Sends (Reply.SendPoll (Ready (Err (refused memory)))) (ap line_of_operation there) (refl, refl, refl, λ ss. refl);
      send_out = λ lack op handle m there full.
          goes (Op op) Sends (Reply.SendPoll (Ready (Err (refused lack)))) (ap line_of_operation there) (filled full).1 (refl, refl, refl, λ ss. refl);
      recv_out = λ lack op handle there none.
          goes (Op op) Receives (Reply.RecvPoll (Ready (Err (refused lack)))) (ap line_of_operation there) (empty none).0 (refl, refl, refl, λ ss. refl);
      closing_out = λ lack op handle there.
          goes (Op op) Closings (Reply.ClosedPoll (Ready (Err (not_listening lack)))) (ap line_of_operation there) tt (refl, refl, refl, λ ss. refl);
      next_out = λ lack receiver none.
          goes (Stream receiver) Streams (Reply.Next (Ready (Some (Err (not_listening lack))))) refl (empty none).0 (refl, refl, refl, λ ss. refl);
    }

    -- an accepted call, however it is answered
    pub shape_of : (c : Call T) (a : Answer T) → Answers s c a → Shape s c a
    shape_of c a (inl e) = subst (λ (x : Answer T). Shape s c x) (sym e) (ample c)
    shape_of c a (inr (lack, e)) = lacking s (λ c a. Shape s c a) lacks lack c a e
