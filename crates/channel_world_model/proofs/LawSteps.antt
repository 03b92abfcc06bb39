-- Each call, one at a time, keeps the accounts of messages and leaves nobody asleep.
use Rattle.std.specs.Prelude.{◌≡◌, ◌⊎◌, ◌≤◌, ◌+◌, ◌-◌, ◌==◌, ◌∷◌, ◌++◌, ◌&&◌, if◌then◌else◌}
use Rattle.channel_world_model.proofs.Words.{with_messages, arith, ℕ, nat_eq, List, [], length, Bool, true, false, not, Option, None, Some, IsSome, is_some, Ok, refl, sym, ap, subst, ◌∙◌, inl, inr, append-nil, append_assoc, length-append, nat_eq_equiv, option_map_or, option_to_list, lookup, set_value, ModelChannel, Names, Directory, Operation, at, is_taken, with_new_operation, Waiting, nobody, is_among, untold, after_news, gone, left_after, standing, told_after, with_names, State, start, with_channel, with_waiting, Call, Reply, Answer, replying, after_telling, after_leaving, first, try_send_answer, force_send_answer, displacing, send_poll_answer, try_recv_answer, recv_poll_answer, next_answer, shut, given_up, new_answer, drop_one, dropped, made, spent, strong_handles, with_strong_handles, news_without_one, Answers, refusal, removed_by, brought_by_call, sends_after, removed, accepted, line_of_operation, line_at, NobodyIsLeft, Awake, AwakeIn, times_in, Runs, poll_of, Done, WorldRefusal, WaitList, Sends, Receives, Streams, Nothing, Message, Room, Closing, Open, Shut, Waiter, Op, Stream, OpId, HandleId, HandleKind, Sender, Receiver, NameTaken, Ready, Pending, option_or, telling_rooms, waits_in, own_message, decided}
use Rattle.std.specs.Bool.{then_some}
use Rattle.std.proofs.lemmas.Map.{lookup-set_value}
pub use Rattle.std.proofs.lemmas.Bool.{cond-false as chosen_no, cond-true as chosen_yes}
use Rattle.channel_world_model.proofs.Shapes.{Shape, Quiet, brings, no_message, shape_of}
use Rattle.channel_world_model.proofs.Shapes as shape
use Rattle.channel_world_model.proofs.Lacking.{found_first}
use Rattle.channel_world_model.proofs.WaiterLemmas.{same_number}
use Rattle.channel_world_model.proofs.Awake.{awake_leave, awake_leave_spent, awake_nothing, awake_message, awake_room, awake_rooms, awake_closing, awake_gone, awake_without_stream, awake_standing, Idle, awake_renamed, stands, left_nowhere}

pub no_line : {A : Type 0} (o : Option WaitList) → IsSome o → o ≡ None → A
no_line None h e = cc h
no_line (Some l) h e = cc e

-- the second of two reasons is not so where there is none
pub second_reason : (x : Option WorldRefusal) (b : Bool) (why : WorldRefusal) → option_or x (then_some b why) ≡ None → b ≡ false
second_reason None false why e = refl
second_reason x b why e = cc e

-- ---- operations under their names

module _ {T : Type 0} where
  -- the message of each unfinished send is that of the call that made it
  abbrev pub Keeps : List (ℕ × T) → Names T → Type 0
  Keeps sends names = (n : ℕ) (h : HandleId) (m : T) → at n names.operations ≡ Some (Operation.Send h (Some m)) → lookup (nat_eq n) sends ≡ Some m

  -- what an answer has to keep
  pub record Good (sends : List (ℕ × T)) (s : State T) (c : Call T) (a : Answer T) : Type 0 where
    pub awake : AwakeIn a.after
    pub account : removed_by a.reply ++ a.after.channel.messages ≡ s.channel.messages ++ brought_by_call sends c a.reply
    pub keeps : Keeps (sends_after sends c) a.after.names

  pub found_name : (n : ℕ) (d : Directory (Operation T)) (x : Operation T) → at n d ≡ Some x → IsSome (lookup (nat_eq n) d)
  found_name n d x e = some (lookup (nat_eq n) d) e where
    some : (o : Option (Option (Operation T))) → option_map_or (λ (y : Option (Operation T)). y) o None ≡ Some x → IsSome o
    some None h = cc h
    some (Some y) h = refl

  -- what stands under other names stays when one is changed
  pub set_elsewhere : (n m : ℕ) (v : Option (Operation T)) (d : Directory (Operation T)) → IsSome (lookup (nat_eq n) d) → nat_eq n m ≡ false → at m (set_value (nat_eq n) d v) ≡ at m d
  set_elsewhere n m v d there off =
      let now : lookup (nat_eq m) (set_value (nat_eq n) d v) ≡ lookup (nat_eq m) d =
      lookup-set_value nat_eq_equiv (nat_eq n) (λ x y t. nat_eq_equiv.congr n x y t) m v d there ∙ chosen_no (nat_eq n m) (Some v) (lookup (nat_eq m) d) off in
      ap (λ (o : Option (Option (Operation T))). option_map_or (λ (y : Option (Operation T)). y) o None) now

  pub set_here : (n m : ℕ) (v : Option (Operation T)) (d : Directory (Operation T)) → IsSome (lookup (nat_eq n) d) → nat_eq n m ≡ true → at m (set_value (nat_eq n) d v) ≡ v
  set_here n m v d there on =
      let now : lookup (nat_eq m) (set_value (nat_eq n) d v) ≡ Some v =
      lookup-set_value nat_eq_equiv (nat_eq n) (λ x y t. nat_eq_equiv.congr n x y t) m v d there ∙ chosen_yes (nat_eq n m) (Some v) (lookup (nat_eq m) d) on in
      ap (λ (o : Option (Option (Operation T))). option_map_or (λ (y : Option (Operation T)). y) o None) now

  -- one operation was changed, which stands in no line
  awake_changed : (op : OpId) (v : Option (Operation T)) (x : Operation T) (names names' : Names T) (capacity : Option ℕ) (closed : Bool) (n : ℕ) (l : Waiting)
      → at op.0 names.operations ≡ Some x → names'.operations ≡ set_value (nat_eq op.0) names.operations v → times_in (Op op) l ≡ 0
      → Awake (line_at names) capacity closed n l → Awake (line_at names') capacity closed n l
  awake_changed op v x names names' capacity closed n l there set zero_times a = awake_renamed (line_at names) (line_at names') capacity closed n l same a where
    same : (w : Waiter) → 1 ≤ times_in w l → line_at names' w ≡ line_at names w
    same (Stream receiver) h = refl
    same (Op other) h = elim (decided (nat_eq op.0 other.0)) [
      | inl t ↦
          let here : times_in (Op other) l ≡ 0 = subst (λ (n : ℕ). times_in (Op (record { 0 = n })) l ≡ 0) (same_number op.0 other.0 t) zero_times in
          absurd (omega (arith, h, here))
      | inr t ↦ ap (λ (o : Option (Operation T)). line_of_operation o)
          (ap (λ (d : Directory (Operation T)). at other.0 d) set ∙ set_elsewhere op.0 other.0 v names.operations (found_name op.0 names.operations x there) t)
    ]

  keeps_changed : (op : OpId) (v : Option (Operation T)) (x : Operation T) (sends : List (ℕ × T)) (names names' : Names T)
      → ((h : HandleId) (m : T) → v ≡ Some (Operation.Send h (Some m)) → ⊥)
      → at op.0 names.operations ≡ Some x → names'.operations ≡ set_value (nat_eq op.0) names.operations v
      → Keeps sends names → Keeps sends names'
  keeps_changed op v x sends names names' spent there set keeps n h m e =
      let now : at n (set_value (nat_eq op.0) names.operations v) ≡ Some (Operation.Send h (Some m)) = subst (λ (d : Directory (Operation T)). at n d ≡ Some (Operation.Send h (Some m))) set e in
      elim (decided (nat_eq op.0 n)) [
        | inl t ↦ absurd (spent h m (sym (set_here op.0 n v names.operations (found_name op.0 names.operations x there) t) ∙ now))
        | inr t ↦ keeps n h m (sym (set_elsewhere op.0 n v names.operations (found_name op.0 names.operations x there) t) ∙ now)
      ]

  -- the handles alone were changed
  awake_handles : (names names' : Names T) (capacity : Option ℕ) (closed : Bool) (n : ℕ) (l : Waiting) → names'.operations ≡ names.operations
      → Awake (line_at names) capacity closed n l → Awake (line_at names') capacity closed n l
  awake_handles names names' capacity closed n l e a = awake_renamed (line_at names) (line_at names') capacity closed n l same a where
    same : (w : Waiter) → 1 ≤ times_in w l → line_at names' w ≡ line_at names w
    same (Stream receiver) h = refl
    same (Op other) h = ap (λ (d : Directory (Operation T)). line_of_operation (at other.0 d)) e

  one_longer : (ms : List T) (m : T) → length (ms ++ m ∷ []) ≡ length ms + 1
  one_longer ms m = length-append ms (m ∷ [])

  -- ---- answers

  pub untaken : (n : ℕ) (d : Directory (Operation T)) → is_taken n d ≡ false → at n d ≡ None
  untaken n d e = none (lookup (nat_eq n) d) e where
    none : (o : Option (Option (Operation T))) → is_some o ≡ false → option_map_or (λ (y : Option (Operation T)). y) o None ≡ None
    none None h = refl
    none (Some y) h = cc h

  -- an operation waits in its own line, and a finished send in none
  own_line : (x : Operation T) → (line_of_operation (Some x) ≡ Some (waits_in x)) ⊎ (line_of_operation (Some x) ≡ None)
  own_line (Operation.Send handle None) = inr refl
  own_line (Operation.Send handle (Some m)) = inl refl
  own_line (Operation.Receive handle) = inl refl
  own_line (Operation.Closing handle) = inl refl

  -- a reply that says nothing of it brought nothing in
  none_brought : (sends : List (ℕ × T)) (c : Call T) (r : Reply T) → brings r ≡ false → brought_by_call sends c r ≡ []
  none_brought sends (Call.TrySend sender m) (Reply.TrySend (Ok u)) e = cc e
  none_brought sends (Call.ForceSend sender m) (Reply.ForceSend (Ok d)) e = cc e
  none_brought sends (Call.Poll op) (Reply.SendPoll (Ready (Ok u))) e = cc e
  none_brought sends c r e = refl

  module _ (sends : List (ℕ × T)) (s : State T) (awake : AwakeIn s) (keeps : Keeps sends s.names) where
    nothing_moved : (c : Call T) (r : Reply T) → removed_by r ≡ [] → brought_by_call sends c r ≡ [] → removed_by r ++ s.channel.messages ≡ s.channel.messages ++ brought_by_call sends c r
    nothing_moved c r e f = ap (λ (ms : List T). ms ++ s.channel.messages) e ∙ sym (ap (λ (ms : List T). s.channel.messages ++ ms) f ∙ append-nil s.channel.messages)

    taken : (m : T) (rest : List T) → s.channel.messages ≡ m ∷ rest → m ∷ rest ≡ s.channel.messages ++ []
    taken m rest e = sym e ∙ sym (append-nil s.channel.messages)

    one_less : (m : T) (rest : List T) → s.channel.messages ≡ m ∷ rest → length s.channel.messages ≡ length rest + 1
    one_less m rest e = let h : length s.channel.messages ≡ length (m ∷ rest) = ap (λ (ms : List T). length ms) e in omega (arith, h)

    several_less : (ms rest : List T) → ms ++ rest ≡ s.channel.messages → length s.channel.messages ≡ length rest + length ms
    several_less ms rest e =
        let l : length (ms ++ rest) ≡ length s.channel.messages = ap (λ (xs : List T). length xs) e in
        let n = length-append ms rest in
        omega (arith, l, n)

    -- an answer that changes no operation
    good : (c : Call T) (a : Answer T) → AwakeIn a.after → removed_by a.reply ++ a.after.channel.messages ≡ s.channel.messages ++ brought_by_call sends c a.reply
        → a.after.names.operations ≡ s.names.operations → sends_after sends c ≡ sends → Good sends s c a
    good c a w account ops same = record {
      awake = w;
      account = account;
      keeps = λ n h m e. subst (λ (ss : List (ℕ × T)). lookup (nat_eq n) ss ≡ Some m) (sym same) (keeps n h m (subst (λ (d : Directory (Operation T)). at n d ≡ Some (Operation.Send h (Some m))) ops e));
    }

    -- nor the channel
    still : (c : Call T) (r : Reply T) (names : Names T) (l : Waiting) (woken : List Waiter) → Quiet c r → names.operations ≡ s.names.operations
        → Awake (line_at s.names) s.channel.capacity s.channel.closed (length s.channel.messages) l
        → Good sends s c (record { after = with_waiting l (with_names names s); reply = r; woken = woken })
    still c r names l woken h same w =
        good c (record { after = with_waiting l (with_names names s); reply = r; woken = woken })
        (awake_handles s.names names s.channel.capacity s.channel.closed (length s.channel.messages) l same w) (nothing_moved c r h.1 (none_brought sends c r h.2)) same (h.3 sends)

    -- one that changes an operation, which stands in no line after it
    changed : (c : Call T) (a : Answer T) (op : OpId) (v : Option (Operation T)) (x : Operation T) → at op.0 s.names.operations ≡ Some x
        → ((h : HandleId) (m : T) → v ≡ Some (Operation.Send h (Some m)) → ⊥) → a.after.names.operations ≡ set_value (nat_eq op.0) s.names.operations v
        → times_in (Op op) a.after.waiting ≡ 0 → Awake (line_at s.names) a.after.channel.capacity a.after.channel.closed (length a.after.channel.messages) a.after.waiting
        → removed_by a.reply ++ a.after.channel.messages ≡ s.channel.messages ++ brought_by_call sends c a.reply → sends_after sends c ≡ sends → Good sends s c a
    changed c a op v x there spent set nowhere w account same = record {
      awake = awake_changed op v x s.names a.after.names a.after.channel.capacity a.after.channel.closed (length a.after.channel.messages) a.after.waiting there set nowhere w;
      account = account;
      keeps = subst (λ (ss : List (ℕ × T)). Keeps ss a.after.names) (sym same) (keeps_changed op v x sends s.names a.after.names spent there set keeps);
    }

    -- ---- who waits

    -- a message comes
    awake_more : (m : T) → Awake (line_at s.names) s.channel.capacity s.channel.closed (length (s.channel.messages ++ m ∷ [])) (after_news Message s.waiting)
    awake_more m = awake_message (line_at s.names) s.channel.capacity s.channel.closed (length s.channel.messages) (length (s.channel.messages ++ m ∷ [])) s.waiting
        (omega (arith, one_longer s.channel.messages m)) (omega (arith, one_longer s.channel.messages m)) awake

    -- a message is taken
    awake_less : (m : T) (rest : List T) → s.channel.messages ≡ m ∷ rest → Awake (line_at s.names) s.channel.capacity s.channel.closed (length rest) (after_news Room s.waiting)
    awake_less m rest e = awake_room (line_at s.names) s.channel.capacity s.channel.closed (length s.channel.messages) (length rest) s.waiting (one_less m rest e) awake

    awake_still : Awake (line_at s.names) s.channel.capacity s.channel.closed (length s.channel.messages) (after_news Nothing s.waiting)
    awake_still = awake_nothing (line_at s.names) s.channel.capacity s.channel.closed (length s.channel.messages) s.waiting awake

    -- one of this line, or of none, leaves, and passes on what it was told
    awake_left : (own : WaitList) (w : Waiter) → (line_at s.names w ≡ Some own) ⊎ (line_at s.names w ≡ None)
        → Awake (line_at s.names) s.channel.capacity s.channel.closed (length s.channel.messages) (left_after Nothing own w s.waiting)
    awake_left own w (inl e) = awake_leave (line_at s.names) s.channel.capacity s.channel.closed (length s.channel.messages) own w (after_news Nothing s.waiting) e awake_still
    awake_left own w (inr e) = awake_leave_spent (line_at s.names) s.channel.capacity s.channel.closed (length s.channel.messages) own w (after_news Nothing s.waiting) e awake_still

    -- one of this line stands, in an open channel
    awake_stands : (own : WaitList) (w : Waiter) (l : Waiting) → line_at s.names w ≡ Some own → s.channel.closed ≡ false
        → Idle (line_at s.names) s.channel.capacity own (length s.channel.messages)
        → Awake (line_at s.names) s.channel.capacity s.channel.closed (length s.channel.messages) l
        → Awake (line_at s.names) s.channel.capacity s.channel.closed (length s.channel.messages) (standing own w l)
    awake_stands own w l e o i a =
        subst (λ (b : Bool). Awake (line_at s.names) s.channel.capacity b (length s.channel.messages) (standing own w l)) (sym o)
        (awake_standing (line_at s.names) s.channel.capacity (length s.channel.messages) own w l e i
        (subst (λ (b : Bool). Awake (line_at s.names) s.channel.capacity b (length s.channel.messages) l) o a))

    -- a stream that is polled is out of its line
    next_left : (receiver : HandleId) → Awake (line_at s.names) s.channel.capacity s.channel.closed (length s.channel.messages) (gone (Stream receiver) s.waiting)
    next_left receiver = awake_without_stream (line_at s.names) s.channel.capacity s.channel.closed (length s.channel.messages) (Stream receiver) s.waiting refl awake

    -- the operation belongs to its line, or to none
    own_at : (op : OpId) (x : Operation T) → at op.0 s.names.operations ≡ Some x → (line_at s.names (Op op) ≡ Some (waits_in x)) ⊎ (line_at s.names (Op op) ≡ None)
    own_at op x there =
        subst (λ (o : Option (Operation T)). (line_of_operation o ≡ Some (waits_in x)) ⊎ (line_of_operation o ≡ None)) (sym there) (own_line x)

    -- ---- a new operation

    -- it stands in no line
    awake_new : (op : OpId) (x : Operation T) → at op.0 s.names.operations ≡ None → AwakeIn (new_answer s op x).after
    awake_new op x free = awake_renamed (line_at s.names) (line_at (with_new_operation op x s.names)) s.channel.capacity s.channel.closed (length s.channel.messages) s.waiting same awake where
      same : (w : Waiter) → 1 ≤ times_in w s.waiting → line_at (with_new_operation op x s.names) w ≡ line_at s.names w
      same (Stream receiver) h = refl
      same (Op other) h = elim (decided (nat_eq other.0 op.0)) [
        | inl t ↦
            let nowhere : line_at s.names (Op other) ≡ None = subst (λ (n : ℕ). line_of_operation (at n s.names.operations) ≡ None) (sym (same_number other.0 op.0 t)) (ap line_of_operation free) in
            no_line (line_at s.names (Op other)) (stands (line_at s.names) (Op other) s.waiting awake.placed h) nowhere
        | inr t ↦ rw t refl
      ]

    new_keeps : (op : OpId) (x : Operation T) (ss : List (ℕ × T)) → ((h : HandleId) (m : T) → Some x ≡ Some (Operation.Send h (Some m)) → lookup (nat_eq op.0) ss ≡ Some m)
        → ((n : ℕ) → nat_eq n op.0 ≡ false → lookup (nat_eq n) ss ≡ lookup (nat_eq n) sends) → Keeps ss (with_new_operation op x s.names)
    new_keeps op x ss mine others n h m e = elim (decided (nat_eq n op.0)) [
      | inl t ↦
          subst (λ (i : ℕ). lookup (nat_eq i) ss ≡ Some m) (sym (same_number n op.0 t)) (mine h m (rw t at e))
      | inr t ↦ others n t ∙ keeps n h m (rw t at e)
    ]

    -- ---- handles

    -- the handle is gone, and with the last one the channel is closed
    lost : (closed last : Bool) → s.channel.closed ≡ closed → Awake (line_at s.names) s.channel.capacity (if last then true else closed) (length s.channel.messages) (after_news (if last && not closed then Closing else Nothing) s.waiting)
    lost false true e = awake_closing (line_at s.names) s.channel.capacity s.channel.closed (length s.channel.messages) s.waiting awake
    lost true true e = subst (λ (b : Bool). Awake (line_at s.names) s.channel.capacity b (length s.channel.messages) (after_news Nothing s.waiting)) e awake_still
    lost closed false e = subst (λ (b : Bool). Awake (line_at s.names) s.channel.capacity b (length s.channel.messages) (after_news Nothing s.waiting)) e awake_still

    -- the channel after one of this kind is gone
    abbrev without : HandleKind → ℕ → Bool → ModelChannel T
    without kind n last = let left = with_strong_handles kind n s.channel in if last then shut left else left

    awake_without : (kind : HandleKind) (n : ℕ) (last closed : Bool) → s.channel.closed ≡ closed
        → Awake (line_at s.names) (without kind n last).capacity (without kind n last).closed (length (without kind n last).messages) (after_news (if last && not closed then Closing else Nothing) s.waiting)
    awake_without Sender n true closed e = lost closed true e
    awake_without Sender n false closed e = awake_still
    awake_without kind n true closed e = lost closed true e
    awake_without kind n false closed e = awake_still

    messages_without : (kind : HandleKind) (n : ℕ) (last : Bool) → (without kind n last).messages ≡ s.channel.messages ++ []
    messages_without Sender n true = sym (append-nil s.channel.messages)
    messages_without Sender n false = sym (append-nil s.channel.messages)
    messages_without kind n true = sym (append-nil s.channel.messages)
    messages_without kind n false = sym (append-nil s.channel.messages)

    drop_kind : (handle : HandleId) (kind : HandleKind) → Good sends s (Call.Drop handle) (drop_one (dropped s handle) handle kind)
    drop_kind handle Sender =
        let n = s.channel.senders - 1 in
        let last = s.channel.senders == 1 in
        good (Call.Drop handle) (drop_one (dropped s handle) handle Sender)
        (awake_handles s.names (dropped s handle).names (without Sender n last).capacity (without Sender n last).closed (length (without Sender n last).messages)
        (after_news (news_without_one Sender s.channel) s.waiting) refl (awake_without Sender n last s.channel.closed refl))
        (messages_without Sender n last) refl refl
    drop_kind handle Receiver =
        let n = s.channel.receivers - 1 in
        let last = s.channel.receivers == 1 in
        let news = news_without_one Receiver s.channel in
        good (Call.Drop handle) (drop_one (dropped s handle) handle Receiver)
        (awake_handles s.names (dropped s handle).names (without Receiver n last).capacity (without Receiver n last).closed (length (without Receiver n last).messages)
        (left_after news Streams (Stream handle) s.waiting) refl
        (awake_leave (line_at s.names) (without Receiver n last).capacity (without Receiver n last).closed (length (without Receiver n last).messages) Streams (Stream handle)
        (after_news news s.waiting) refl (awake_without Receiver n last s.channel.closed refl)))
        (messages_without Receiver n last) refl refl
    drop_kind handle kind = still (Call.Drop handle) Reply.Unit (dropped s handle).names s.waiting [] (refl, refl, refl, λ ss. refl) refl awake

    make_kind : (c : Call T) (new : HandleId) (kind : HandleKind) (n : ℕ) → Quiet c Reply.Made
        → Good sends s c (replying (with_channel (with_strong_handles kind n s.channel) (made s new kind)) Reply.Made)
    make_kind c new Sender n h =
        good c (replying (with_channel (with_strong_handles Sender n s.channel) (made s new Sender)) Reply.Made)
        (awake_handles s.names (made s new Sender).names s.channel.capacity s.channel.closed (length s.channel.messages) s.waiting refl awake)
        (nothing_moved c Reply.Made refl (none_brought sends c Reply.Made refl)) refl (h.3 sends)
    make_kind c new kind n h =
        good c (replying (with_channel (with_strong_handles kind n s.channel) (made s new kind)) Reply.Made)
        (awake_handles s.names (made s new kind).names s.channel.capacity s.channel.closed (length s.channel.messages) s.waiting refl awake)
        (nothing_moved c Reply.Made refl (none_brought sends c Reply.Made refl)) refl (h.3 sends)

    -- ---- every call

    -- a new operation has a name of its own
    abbrev Fresh : Call T → Type 0
    Fresh (Call.NewSend op sender msg) = at op.0 s.names.operations ≡ None
    Fresh (Call.NewRecv op receiver) = at op.0 s.names.operations ≡ None
    Fresh (Call.NewClosed op sender) = at op.0 s.names.operations ≡ None
    Fresh c = Unit {0}

    of_shape : {c : Call T} {a : Answer T} → Shape s c a → Fresh c → Good sends s c a
    of_shape (shape.says c r rests h) f = still c r s.names s.waiting [] h refl awake
    of_shape (shape.tries sender m e) f = good (Call.TrySend sender m) (try_send_answer s m Open) (awake_more m) refl refl refl
    of_shape (shape.forces sender m room) f = good (Call.ForceSend sender m) (force_send_answer s m Open) (awake_more m) refl refl refl
    of_shape (shape.displaces sender m oldest rest e) f =
        good (Call.ForceSend sender m) (displacing s m (oldest ∷ rest))
        (awake_message (line_at s.names) s.channel.capacity s.channel.closed (length s.channel.messages) (length (rest ++ m ∷ [])) s.waiting
        (omega (arith, one_longer rest m, one_less oldest rest e)) (omega (arith, one_longer rest m, one_less oldest rest e)) awake)
        (ap (λ (xs : List T). xs ++ m ∷ []) (sym e)) refl refl
    of_shape (shape.sends op handle m there e) f =
        changed (Call.Poll op) (send_poll_answer s op handle m Open) op (Some (Operation.Send handle None)) (Operation.Send handle (Some m)) there (λ h v q. cc q) refl
        (left_nowhere Sends (Op op) (after_news Message s.waiting))
        (awake_leave (line_at s.names) s.channel.capacity s.channel.closed (length (s.channel.messages ++ m ∷ [])) Sends (Op op) (after_news Message s.waiting) (ap line_of_operation there) (awake_more m))
        (ap (λ (o : Option T). s.channel.messages ++ option_to_list o) (sym (keeps op.0 handle m there))) refl
    of_shape (shape.fails op handle m there) f =
        changed (Call.Poll op) (send_poll_answer s op handle m Shut) op (Some (Operation.Send handle None)) (Operation.Send handle (Some m)) there (λ h v q. cc q) refl
        (left_nowhere Sends (Op op) (after_news Nothing s.waiting)) (awake_left Sends (Op op) (inl (ap line_of_operation there)))
        (nothing_moved (Call.Poll op) (send_poll_answer s op handle m Shut).reply refl refl) refl
    of_shape (shape.takes receiver m rest e) f = good (Call.TryRecv receiver) (try_recv_answer s (first m rest)) (awake_less m rest e) (taken m rest e) refl refl
    of_shape (shape.several receiver limit m ms rest e few) f =
        good (Call.RecvMany receiver limit) (telling_rooms (length (m ∷ ms)) (with_channel (with_messages s.channel rest) s) (Reply.RecvMany (Ok (m ∷ ms))))
        (awake_rooms (line_at s.names) s.channel.capacity s.channel.closed (length (m ∷ ms)) (length s.channel.messages) (length rest) s.waiting
        (several_less (m ∷ ms) rest e) awake)
        (e ∙ sym (append-nil s.channel.messages)) refl refl
    of_shape (shape.receives op m rest own e) f =
        let is = found_first s.channel.messages s.channel.closed m rest e in
        good (Call.Poll op) (recv_poll_answer s op (first m rest))
        (awake_leave (line_at s.names) s.channel.capacity s.channel.closed (length rest) Receives (Op op) (after_news Room s.waiting) own (awake_less m rest is)) (taken m rest is) refl refl
    of_shape (shape.streams receiver m rest e) f =
        let is = found_first s.channel.messages s.channel.closed m rest e in
        good (Call.PollNext receiver) (next_answer (with_waiting (gone (Stream receiver) s.waiting) s) receiver (first m rest))
        (awake_room (line_at s.names) s.channel.capacity s.channel.closed (length s.channel.messages) (length rest) (gone (Stream receiver) s.waiting) (one_less m rest is) (next_left receiver))
        (taken m rest is) refl refl
    of_shape (shape.stands op line r own o i h) f =
        still (Call.Poll op) r s.names (standing line (Op op) s.waiting) [] h refl (awake_stands line (Op op) s.waiting own o i awake)
    of_shape (shape.restands receiver e o) f =
        still (Call.PollNext receiver) (Reply.Next Pending) s.names (standing Streams (Stream receiver) (gone (Stream receiver) s.waiting)) [] (refl, refl, refl, λ ss. refl) refl
        (awake_stands Streams (Stream receiver) (gone (Stream receiver) s.waiting) refl o (no_message s.channel.messages e) (next_left receiver))
    of_shape (shape.leaves op line r own h) f =
        still (Call.Poll op) r s.names (left_after Nothing line (Op op) s.waiting) (told_after Nothing line (Op op) s.waiting) h refl (awake_left line (Op op) (inl own))
    of_shape (shape.refuses op line r own h) f =
        still (Call.PollRefused op) r s.names (left_after Nothing line (Op op) s.waiting) (told_after Nothing line (Op op) s.waiting) h refl (awake_left line (Op op) own)
    of_shape (shape.goes w line r own i h) f =
        still (poll_of w) r s.names (gone w s.waiting) [] h refl (awake_gone (line_at s.names) s.channel.capacity s.channel.closed (length s.channel.messages) line w s.waiting own i awake)
    of_shape (shape.new_send op sender m) f = record {
      awake = awake_new op (Operation.Send sender (Some m)) f;
      account = nothing_moved (Call.NewSend op sender m) Reply.Made refl refl;
      keeps = new_keeps op (Operation.Send sender (Some m)) ((op.0, m) ∷ sends) (λ h m e. rw (nat_eq_equiv.refl op.0) (cc e)) (λ n off. rw off refl);
    }
    of_shape (shape.new_receive op receiver) f = record {
      awake = awake_new op (Operation.Receive receiver) f;
      account = nothing_moved (Call.NewRecv op receiver) Reply.Made refl refl;
      keeps = new_keeps op (Operation.Receive receiver) sends (λ h m e. cc e) (λ n off. refl);
    }
    of_shape (shape.new_closing op sender) f = record {
      awake = awake_new op (Operation.Closing sender) f;
      account = nothing_moved (Call.NewClosed op sender) Reply.Made refl refl;
      keeps = new_keeps op (Operation.Closing sender) sends (λ h m e. cc e) (λ n off. refl);
    }
    of_shape (shape.gives_up op x there) f =
        changed (Call.GiveUp op) (after_leaving Nothing (waits_in x) (Op op) (given_up s op x) (Reply.GivenUp (own_message x))) op None x there (λ h v q. cc q) refl
        (left_nowhere (waits_in x) (Op op) (after_news Nothing s.waiting)) (awake_left (waits_in x) (Op op) (own_at op x there))
        (nothing_moved (Call.GiveUp op) (Reply.GivenUp (own_message x)) refl refl) refl
    of_shape (shape.shuts handle e) f =
        good (Call.Close handle) (after_telling Closing (with_channel (shut s.channel) s) (Reply.Closed true))
        (awake_closing (line_at s.names) s.channel.capacity s.channel.closed (length s.channel.messages) s.waiting awake)
        (nothing_moved (Call.Close handle) (Reply.Closed true) refl refl) refl refl
    of_shape (shape.drops handle h there) f = drop_kind handle h.kind
    of_shape (shape.makes c new kind mint h) f = make_kind c new kind (strong_handles kind s.channel + 1) h
    of_shape (shape.spends c new r mint h) f = still c r (spent s new).names s.waiting [] h refl awake

    -- ---- however it is answered

    free_name : (op : OpId) (x : Option WorldRefusal) → option_or x (then_some (is_taken op.0 s.names.operations) NameTaken) ≡ None
        → at op.0 s.names.operations ≡ None
    free_name op x ok = untaken op.0 s.names.operations (second_reason x _ NameTaken ok)

    fresh : (c : Call T) → refusal s c ≡ None → Fresh c
    fresh (Call.NewSend op sender msg) ok = free_name op _ ok
    fresh (Call.NewRecv op receiver) ok = free_name op _ ok
    fresh (Call.NewClosed op sender) ok = free_name op _ ok
    fresh c ok = tt

    -- an accepted call
    pub step_good : (c : Call T) (a : Answer T) → refusal s c ≡ None → Answers s c a → Good sends s c a
    step_good c a ok e = of_shape (shape_of s c a e) (fresh c ok)

    -- a poll of settling, which nothing refuses
    pub poll_good : (w : Waiter) (a : Answer T) → Answers s (poll_of w) a → Good sends s (poll_of w) a
    poll_good (Op op) a e = of_shape (shape_of s (Call.Poll op) a e) tt
    poll_good (Stream receiver) a e = of_shape (shape_of s (Call.PollNext receiver) a e) tt

  -- ---- whole runs

  pub record Kept (sends : List (ℕ × T)) (s : State T) : Type 0 where
    pub awake : AwakeIn s
    pub keeps : Keeps sends s.names

  pub record RunKept (sends : List (ℕ × T)) (s : State T) (cs : List (Call T)) (ds : List (Done T)) (t : State T) : Type 0 where
    pub awake : AwakeIn t
    pub account : removed ds ++ t.channel.messages ≡ s.channel.messages ++ accepted sends cs ds

  none_accepted : (sends : List (ℕ × T)) (cs : List (Call T)) → accepted sends cs [] ≡ []
  none_accepted sends [] = refl
  none_accepted sends (c ∷ cs) = refl

  pub run_kept : (sends : List (ℕ × T)) (s : State T) (cs : List (Call T)) (ds : List (Done T)) (why : Option WorldRefusal) (rest : List (Call T)) (t : State T)
      → Kept sends s → Runs s cs ds why rest t → RunKept sends s cs ds t
  run_kept sends s cs [] why rest t kept (left, same, stops) = record {
    awake = subst (λ (x : State T). AwakeIn x) (sym same) kept.awake;
    account = ap (λ (x : State T). x.channel.messages) same ∙ sym (ap (λ (ms : List T). s.channel.messages ++ ms) (none_accepted sends cs) ∙ append-nil s.channel.messages);
  }
  run_kept sends s [] (d ∷ ds) why rest t kept r = absurd r
  run_kept sends s (c ∷ cs) (d ∷ ds) why rest t kept (mid, does, runs) =
      let g = step_good sends s kept.awake kept.keeps c (record { after = mid; reply = d.reply; woken = d.woken.items }) does.0 does.1 in
      let on = run_kept (sends_after sends c) mid cs ds why rest t (record { awake = g.awake; keeps = g.keeps }) runs in
      record {
        awake = on.awake;
        account =
            append_assoc (removed_by d.reply) (removed ds) t.channel.messages
            ∙ (ap (λ (ms : List T). removed_by d.reply ++ ms) on.account
            ∙ (sym (append_assoc (removed_by d.reply) mid.channel.messages (accepted (sends_after sends c) cs ds))
            ∙ (ap (λ (ms : List T). ms ++ accepted (sends_after sends c) cs ds) g.account
            ∙ append_assoc s.channel.messages (brought_by_call sends c d.reply) (accepted (sends_after sends c) cs ds))));
      }

  -- a channel that was just opened
  pub opened_kept : (capacity : Option ℕ) → Kept [] (start capacity)
  opened_kept capacity = record {
    awake = record {
      placed = record { lines = nobody_untold; wakes = λ w e. cc e; once = λ w. omega arith };
      receives = inl refl;
      sends = λ o. inl refl;
      unbounded = λ o. refl;
      streams = inl refl;
      opened = λ o line. none_untold line;
    };
    keeps = λ n h m e. cc e;
  } where
    none_untold : (line : WaitList) → untold line nobody ≡ []
    none_untold Sends = refl
    none_untold line = refl

    nobody_untold : (line : WaitList) (w : Waiter) → is_among w (untold line nobody) ≡ true → line_at (start {T = T} capacity).names w ≡ Some line
    nobody_untold Sends w e = cc e
    nobody_untold line w e = cc e

  -- ---- from any state

  -- the unfinished sends, each with its message
  sends_of : Directory (Operation T) → List (ℕ × T)
  sends_of [] = []
  sends_of ((name, Some (Operation.Send h (Some m))) ∷ d) = (name, m) ∷ sends_of d
  sends_of ((name, Some (Operation.Send h None)) ∷ d) = sends_of d
  sends_of ((name, Some (Operation.Receive h)) ∷ d) = sends_of d
  sends_of ((name, Some (Operation.Closing h)) ∷ d) = sends_of d
  sends_of ((name, None) ∷ d) = sends_of d

  sends_found : (d : Directory (Operation T)) (n : ℕ) (h : HandleId) (m : T) → at n d ≡ Some (Operation.Send h (Some m)) → lookup (nat_eq n) (sends_of d) ≡ Some m
  unfolding sends_of
  sends_found [] n h m e = cc e
  sends_found ((name, Some (Operation.Send g (Some x))) ∷ d) n h m e = elim (decided (nat_eq n name)) [
    | inl t ↦ let same : Some (Operation.Send g (Some x)) ≡ Some (Operation.Send h (Some m)) = rw t at e in rw t (cc same)
    | inr t ↦ rw t (sends_found d n h m (rw t at e))
  ]
  sends_found ((name, Some (Operation.Send g None)) ∷ d) n h m e = elim (decided (nat_eq n name)) [
    | inl t ↦ let same : Some (Operation.Send g None) ≡ Some (Operation.Send h (Some m)) = rw t at e in cc same
    | inr t ↦ sends_found d n h m (rw t at e)
  ]
  sends_found ((name, Some (Operation.Receive g)) ∷ d) n h m e = elim (decided (nat_eq n name)) [
    | inl t ↦ let same : Some (Operation.Receive g) ≡ Some (Operation.Send h (Some m)) = rw t at e in cc same
    | inr t ↦ sends_found d n h m (rw t at e)
  ]
  sends_found ((name, Some (Operation.Closing g)) ∷ d) n h m e = elim (decided (nat_eq n name)) [
    | inl t ↦ let same : Some (Operation.Closing g) ≡ Some (Operation.Send h (Some m)) = rw t at e in cc same
    | inr t ↦ sends_found d n h m (rw t at e)
  ]
  sends_found ((name, None) ∷ d) n h m e = elim (decided (nat_eq n name)) [
    | inl t ↦ let same : None ≡ Some (Operation.Send h (Some m)) = rw t at e in cc same
    | inr t ↦ sends_found d n h m (rw t at e)
  ]

  -- an accepted call leaves nobody asleep, whatever was called before
  pub still_awake : (s : State T) (c : Call T) (a : Answer T) → AwakeIn s → refusal s c ≡ None → Answers s c a → AwakeIn a.after
  still_awake s c a awake ok e = (step_good (sends_of s.names.operations) s awake (sends_found s.names.operations) c a ok e).awake

  -- and so does a poll of settling
  pub poll_awake : (s : State T) (w : Waiter) (a : Answer T) → AwakeIn s → Answers s (poll_of w) a → AwakeIn a.after
  poll_awake s w a awake e = (poll_good (sends_of s.names.operations) s awake (sends_found s.names.operations) w a e).awake

  pub in_order : (capacity : Option ℕ) (calls rest : List (Call T)) (done : List (Done T)) (why : Option WorldRefusal) (world : State T)
      → Runs (start capacity) calls done why rest world → removed done ++ world.channel.messages ≡ accepted [] calls done
  in_order capacity calls rest done why world r = (run_kept [] (start capacity) calls done why rest world (opened_kept capacity) r).account

  pub nobody_left : (capacity : Option ℕ) (calls rest : List (Call T)) (done : List (Done T)) (why : Option WorldRefusal) (world : State T)
      → Runs (start capacity) calls done why rest world → NobodyIsLeft world
  nobody_left capacity calls rest done why world r =
      let a = (run_kept [] (start capacity) calls done why rest world (opened_kept capacity) r).awake in
      record { receives = a.receives; sends = a.sends; unbounded = a.unbounded; streams = a.streams; opened = a.opened }
