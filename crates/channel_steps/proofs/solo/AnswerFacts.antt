-- What comes after an answer of the queue to a call that is alone at work.
use Rattle.channel_steps.proofs.solo.Words.{◌≡◌, ℕ, zero, suc, drop, ◌∷◌, ◌++◌, ◌==◌, ◌&&◌, Bool, true, false, if◌then◌else◌, List, [], Option, None, Some, Ok, Err, inl, inr, refl, sym, ap, ◌∙◌, subst, Queue, is_filled, is_full_at, QueueAsk, QueueReply, Finds, Key, kind_of, listened, TryRecvError, Reply, Purpose, WaitList, Sends, Receives, Streams, Closings, Insert, Waiting, Listeners, listeners, waits, says, line_of, ask_of, refused_next, over, sent_next, forced_next, gathered_next, short_next, answered_next, with_last, Channel, listens, registers, Outcome, Where, ends, receives_by, says_only, WaitsOrGoesOn, ListensOrIsRefused, PollsFor, fresh_waits, same_line}
use Rattle.std.proofs.lemmas.Bool.{not-true, not-false}
use Rattle.std.specs.Prelude.{length, slice_get}
use Rattle.concurrent_queue.specs.declared.call.QueueAsk.TheVariants as ask
use Rattle.concurrent_queue.specs.declared.call.QueueReply.TheVariants as answer
use Rattle.concurrent_queue.specs.declared.error.PushError.TheVariants as push_error
use Rattle.concurrent_queue.specs.declared.error.ForcePushError.TheVariants as force_error
use Rattle.concurrent_queue.specs.declared.error.PopError.TheVariants as pop_error
use Rattle.futures.specs.declared.task.Poll.TheVariants as poll
use Rattle.channel_calls.specs.declared.error.Refused.TheVariants as refused
use Rattle.channel_calls.specs.declared.error.TryRecvError.TheVariants as try_recv_error
use Rattle.channel_calls.specs.declared.reply.Reply.TheVariants as reply
use Rattle.channel_calls.specs.declared.stage.Purpose.TheVariants as purpose
use Rattle.channel_calls.specs.declared.stage.Waiting.TheVariants as waiting
use Rattle.channel_steps.specs.solo.Alone as alone
use Rattle.channel_steps.proofs.solo.TryFacts.{left_by}
use Rattle.channel_steps.proofs.solo.Rest.{gathers, RestTry, RestTurn, RestWork, ends_rest}

-- ---- one of two

pub pick_then : {A : Type 0} (b : Bool) (o x y : A) → b ≡ true → o ≡ x → o ≡ (if b then x else y)
pick_then true o x y e h = h
pick_then false o x y e h = absurd cc

pub pick_else : {A : Type 0} (b : Bool) (o x y : A) → b ≡ false → o ≡ y → o ≡ (if b then x else y)
pick_else true o x y e h = absurd cc
pick_else false o x y e h = h

pub where_then : (b : Bool) (A B : Type 0) → b ≡ true → A → Where b A B
where_then true A B e h = h
where_then false A B e h = absurd cc

pub where_else : (b : Bool) (A B : Type 0) → b ≡ false → B → Where b A B
where_else true A B e h = absurd cc
where_else false A B e h = h

pub given_then : (b : Bool) (A B : Type 0) → b ≡ true → Where b A B → A
given_then true A B e h = h
given_then false A B e h = absurd cc

pub given_else : (b : Bool) (A B : Type 0) → b ≡ false → Where b A B → B
given_else true A B e h = absurd cc
given_else false A B e h = h

where_map : (b : Bool) (A B C : Type 0) → (B → C) → Where b A B → Where b A C
where_map true A B C f h = h
where_map false A B C f h = f h

bounded : {A : Type 0} (cap : Option ℕ) (items : List A) → cap ≡ None → is_full_at cap items ≡ true → ⊥
bounded None items e h = absurd cc
bounded (Some n) items e h = absurd cc

module _ {T W : Type 0} where
  -- ---- a poll that the channel refused

  module _ (c : Channel T W) (w : Waiting T) (fresh : (key : Key) → kind_of (listeners (line_of w) c.wait_lists) key ≡ None → waits key (listeners (line_of w) (listens (line_of w) key c).channel.wait_lists) ≡ true)
      (stuck : (d : Channel T W) (key : Option Key) (task : W) (o : Outcome T W) → d.queue ≡ c.queue → RestTry (ask_of w) (purpose.Poll (line_of w) key task) d o → WaitsOrGoesOn w key task d o) (task : W) (o : Outcome T W) where
    inserts : RestWork (Insert w task) c o → ListensOrIsRefused w task c o
    inserts (inl (key, none, k)) =
        inl (key, none, given_then (waits key (listeners (line_of w) (listens (line_of w) key c).channel.wait_lists)) _ _ (fresh key none) (stuck (listens (line_of w) key c).channel (Some key) task o refl k))
    inserts (inr h) = inr h

    pub refused_rest : (key : Option Key) → RestTurn (refused_next w key task) c o → WaitsOrGoesOn w key task c o
    refused_rest None k = inserts k
    refused_rest (Some key) k =
        where_map (waits key (listeners (line_of w) c.wait_lists)) _ _ _ (λ h. stuck (registers (line_of w) key task c).channel None task o refl h) k

  -- ---- by what the queue was asked for

  abbrev now_is : Channel T W → Queue T → Channel T W
  now_is c q = record c { queue = q }

  module _ (c : Channel T W) (o : Outcome T W) where
    gathered_rest : (vs rest : List T) (n : ℕ) (m : T) → c.queue.items ≡ m ∷ rest → RestTurn (gathered_next (with_last (vs ++ m ∷ []) n)) (now_is c (alone.taken c.queue)) o
        → o ≡ gathers (m ∷ rest) vs n c
    gathered_rest vs rest zero m e k = k
    gathered_rest vs rest (suc n) m e k =
        subst (λ (xs : List T). o ≡ gathers xs (vs ++ m ∷ []) n (now_is c (alone.taken c.queue))) (ap (λ (xs : List T). drop 1 xs) e) k

    short_rest : (vs : List T) (n : ℕ) (e : TryRecvError) → e ≡ (if c.queue.closed then try_recv_error.Closed else try_recv_error.Empty) → RestTurn (short_next vs e) c o → o ≡ gathers [] vs n c
    short_rest [] n e same k = k ∙ ap (λ (x : TryRecvError). ends [] (says (reply.RecvMany (Err (refused.Plain x)))) c) same
    short_rest (v ∷ vs) n e same k = k

    -- ---- polls

    stuck_send : (m : T) → c.queue.closed ≡ false → is_filled c.queue ≡ true → (d : Channel T W) (key : Option Key) (task : W) (p : Outcome T W) → d.queue ≡ c.queue
        → RestTry (ask.Push m) (purpose.Poll Sends key task) d p → WaitsOrGoesOn (waiting.Send m) key task d p
    stuck_send m opened full d key task p e (inl h) =
        absurd (bounded d.queue.capacity d.queue.items h.1 (ap (λ (q : Queue T). is_filled q) e ∙ full))
    stuck_send m opened full d key task p e (inr h) =
        given_then (is_filled d.queue) _ _ (ap (λ (q : Queue T). is_filled q) e ∙ full) (given_else d.queue.closed _ _ (ap (λ (q : Queue T). q.closed) e ∙ opened) h)

    stuck_for : (w : Waiting T) (got : T → Reply T) (closed : Reply T) → c.queue.closed ≡ false → c.queue.items ≡ [] → (d : Channel T W) (key : Option Key) (task : W) (p : Outcome T W) → d.queue ≡ c.queue
        → PollsFor d.queue.items w got closed key task d p → WaitsOrGoesOn w key task d p
    stuck_for w got closed opened empty d key task p e h =
        let h' = subst (λ (xs : List T). PollsFor xs w got closed key task d p) (ap (λ (q : Queue T). q.items) e ∙ empty) h in
        given_else d.queue.closed _ _ (ap (λ (q : Queue T). q.closed) e ∙ opened) h'

    abbrev ForReceive : Option Key → W → List T → Type 0
    ForReceive key task xs = PollsFor xs waiting.Receive (λ m. reply.RecvPoll (poll.Ready (Ok m))) (reply.RecvPoll (poll.Ready (Err (refused.Plain (record {}))))) key task c o

    abbrev ForStream : Option Key → W → List T → Type 0
    ForStream key task xs = PollsFor xs waiting.Stream (λ m. reply.Next (poll.Ready (Some (Ok m)))) (reply.Next (poll.Ready None)) key task c o

    fresh_on : (line : WaitList) (k : Key) → kind_of (listeners line c.wait_lists) k ≡ None → waits k (listeners line (listens line k c).channel.wait_lists) ≡ true
    fresh_on line k none =
        subst (λ (l : Listeners W). waits k l ≡ true) (sym (same_line line (listened k (listeners line c.wait_lists)) c.wait_lists)) (fresh_waits k (listeners line c.wait_lists) none)

    stuck_closing : c.queue.closed ≡ false → (d : Channel T W) (key : Option Key) (task : W) (p : Outcome T W) → d.queue ≡ c.queue
        → RestTry ask.IsClosed (purpose.Poll Closings key task) d p → WaitsOrGoesOn waiting.Closing key task d p
    stuck_closing opened d key task p e h = given_else d.queue.closed _ _ (ap (λ (q : Queue T). q.closed) e ∙ opened) h

    -- what comes after the queue's answer is what comes of the whole try
    pub answered_rest : (a : QueueAsk T) (x : Purpose T W) (y : QueueReply T) → Finds a c.queue y → RestTurn (answered_next x y) (now_is c (left_by a y c.queue)) o → RestTry a x c o
    answered_rest (ask.Push m) purpose.TrySend (answer.Push (Ok u)) g k = inr (pick_else c.queue.closed o _ _ g.0 (pick_else (is_filled c.queue) o _ _ g.1 k))
    answered_rest (ask.Push m) purpose.TrySend (answer.Push (Err (push_error.Full n))) g k =
        let k' = subst (λ (x : T). RestTurn (sent_next (answer.Push (Err (push_error.Full x)))) c o) g.2 k in
        inr (pick_else c.queue.closed o _ _ g.0 (pick_then (is_filled c.queue) o _ _ g.1 k'))
    answered_rest (ask.Push m) purpose.TrySend (answer.Push (Err (push_error.Closed n))) g k =
        let k' = subst (λ (x : T). RestTurn (sent_next (answer.Push (Err (push_error.Closed x)))) c o) g.1 k in
        inr (pick_then c.queue.closed o _ _ g.0 k')
    answered_rest (ask.Push m) purpose.TrySend (answer.Push (Err (push_error.NoMemory n))) g k =
        let k' = subst (λ (x : T). RestTurn (sent_next (answer.Push (Err (push_error.NoMemory x)))) c o) g.2 k in
        inl (g.0, g.1, k')
    answered_rest (ask.Push m) purpose.TrySend y g k = absurd g
    answered_rest (ask.ForcePush m) purpose.ForceSend (answer.Force (Ok None)) g k = inr (pick_else c.queue.closed o _ _ g.0 (pick_else (is_filled c.queue) o _ _ g.1 k))
    answered_rest (ask.ForcePush m) purpose.ForceSend (answer.Force (Ok (Some d))) g k =
        let oldest : Some d ≡ slice_get c.queue.items 0 = sym (ap (λ (xs : List T). slice_get xs 0) g.2.1) in
        let k' = k ∙ ap (λ (x : Option T). ends alone.of_message (says (reply.ForceSend (Ok x))) (now_is c (alone.replaced m c.queue))) oldest in
        inr (pick_else c.queue.closed o _ _ g.0 (pick_then (is_filled c.queue) o _ _ g.1 k'))
    answered_rest (ask.ForcePush m) purpose.ForceSend (answer.Force (Err (force_error.Closed n))) g k =
        let k' = subst (λ (x : T). RestTurn (forced_next (answer.Force (Err (force_error.Closed x)))) c o) g.1 k in
        inr (pick_then c.queue.closed o _ _ g.0 k')
    answered_rest (ask.ForcePush m) purpose.ForceSend (answer.Force (Err (force_error.NoMemory n))) g k =
        let k' = subst (λ (x : T). RestTurn (forced_next (answer.Force (Err (force_error.NoMemory x)))) c o) g.2 k in
        inl (g.0, g.1, k')
    answered_rest (ask.ForcePush m) purpose.ForceSend y g k = absurd g
    answered_rest ask.Pop purpose.TryRecv (answer.Pop (Ok m)) g k = subst (λ (xs : List T). o ≡ receives_by xs c) (sym g.1) k
    answered_rest ask.Pop purpose.TryRecv (answer.Pop (Err pop_error.Empty)) g k =
        let e : try_recv_error.Empty ≡ (if c.queue.closed then try_recv_error.Closed else try_recv_error.Empty) = pick_else c.queue.closed _ _ _ g.0 refl in
        subst (λ (xs : List T). o ≡ receives_by xs c) (sym g.1) (k ∙ ap (λ (x : TryRecvError). ends [] (says (reply.TryRecv (Err x))) c) e)
    answered_rest ask.Pop purpose.TryRecv (answer.Pop (Err pop_error.Closed)) g k =
        let e : try_recv_error.Closed ≡ (if c.queue.closed then try_recv_error.Closed else try_recv_error.Empty) = pick_then c.queue.closed _ _ _ g.0 refl in
        subst (λ (xs : List T). o ≡ receives_by xs c) (sym g.1) (k ∙ ap (λ (x : TryRecvError). ends [] (says (reply.TryRecv (Err x))) c) e)
    answered_rest ask.Pop purpose.TryRecv y g k = absurd g
    answered_rest ask.Pop (purpose.RecvMany z) (answer.Pop (Ok m)) g k =
        subst (λ (xs : List T). o ≡ gathers xs z.taken z.more c) (sym g.1) (gathered_rest z.taken g.0 z.more m g.1 k)
    answered_rest ask.Pop (purpose.RecvMany z) (answer.Pop (Err pop_error.Empty)) g k =
        subst (λ (xs : List T). o ≡ gathers xs z.taken z.more c) (sym g.1)
        (short_rest z.taken z.more try_recv_error.Empty (pick_else c.queue.closed _ _ _ g.0 refl) k)
    answered_rest ask.Pop (purpose.RecvMany z) (answer.Pop (Err pop_error.Closed)) g k =
        subst (λ (xs : List T). o ≡ gathers xs z.taken z.more c) (sym g.1)
        (short_rest z.taken z.more try_recv_error.Closed (pick_then c.queue.closed _ _ _ g.0 refl) k)
    answered_rest ask.Pop (purpose.RecvMany z) y g k = absurd g
    answered_rest ask.Close (purpose.Close by) (answer.Close true) g k = pick_else c.queue.closed o _ _ (not-true c.queue.closed (sym g)) k
    answered_rest ask.Close (purpose.Close by) (answer.Close false) g k = pick_then c.queue.closed o _ _ (not-false c.queue.closed (sym g)) (ends_rest c o _ k)
    answered_rest ask.Close (purpose.Close by) y g k = absurd g
    answered_rest (ask.Push m) (purpose.Poll Sends key task) (answer.Push (Ok u)) g k = inr (where_else c.queue.closed _ _ g.0 (where_else (is_filled c.queue) _ _ g.1 k))
    answered_rest (ask.Push m) (purpose.Poll Sends key task) (answer.Push (Err (push_error.Full n))) g k =
        let k' = subst (λ (x : T). RestTurn (refused_next (waiting.Send x) key task) c o) g.2 k in
        inr (where_else c.queue.closed _ _ g.0 (where_then (is_filled c.queue) _ _ g.1 (refused_rest c (waiting.Send m) (fresh_on Sends) (stuck_send m g.0 g.1) task o key k')))
    answered_rest (ask.Push m) (purpose.Poll Sends key task) (answer.Push (Err (push_error.Closed n))) g k =
        let k' = subst (λ (x : T). o ≡ ends [] (over (reply.SendPoll (poll.Ready (Err (refused.Plain (record { 0 = x }))))) None Sends key) c) g.1 (ends_rest c o _ k) in
        inr (where_then c.queue.closed _ _ g.0 k')
    answered_rest (ask.Push m) (purpose.Poll Sends key task) (answer.Push (Err (push_error.NoMemory n))) g k =
        let k' = subst (λ (x : T). o ≡ ends [] (over (reply.SendPoll (poll.Ready (Err (refused.NoMemory tt)))) (Some x) Sends key) c) g.2 (ends_rest c o _ k) in
        inl (g.0, g.1, k')
    answered_rest (ask.Push m) (purpose.Poll Sends key task) y g k = absurd g
    answered_rest ask.Pop (purpose.Poll Receives key task) (answer.Pop (Ok m)) g k = subst (λ (xs : List T). ForReceive key task xs) (sym g.1) k
    answered_rest ask.Pop (purpose.Poll Receives key task) (answer.Pop (Err pop_error.Empty)) g k =
        subst (λ (xs : List T). ForReceive key task xs) (sym g.1)
        (where_else c.queue.closed _ _ g.0 (refused_rest c waiting.Receive (fresh_on Receives) (stuck_for waiting.Receive (λ m. reply.RecvPoll (poll.Ready (Ok m))) (reply.RecvPoll (poll.Ready (Err (refused.Plain (record {}))))) g.0 g.1) task o key k))
    answered_rest ask.Pop (purpose.Poll Receives key task) (answer.Pop (Err pop_error.Closed)) g k =
        subst (λ (xs : List T). ForReceive key task xs) (sym g.1) (where_then c.queue.closed _ (WaitsOrGoesOn waiting.Receive key task c o) g.0 (ends_rest c o _ k))
    answered_rest ask.Pop (purpose.Poll Receives key task) y g k = absurd g
    answered_rest ask.Pop (purpose.Poll Streams key task) (answer.Pop (Ok m)) g k = subst (λ (xs : List T). ForStream key task xs) (sym g.1) k
    answered_rest ask.Pop (purpose.Poll Streams key task) (answer.Pop (Err pop_error.Empty)) g k =
        subst (λ (xs : List T). ForStream key task xs) (sym g.1)
        (where_else c.queue.closed _ _ g.0 (refused_rest c waiting.Stream (fresh_on Streams) (stuck_for waiting.Stream (λ m. reply.Next (poll.Ready (Some (Ok m)))) (reply.Next (poll.Ready None)) g.0 g.1) task o key k))
    answered_rest ask.Pop (purpose.Poll Streams key task) (answer.Pop (Err pop_error.Closed)) g k =
        subst (λ (xs : List T). ForStream key task xs) (sym g.1) (where_then c.queue.closed _ (WaitsOrGoesOn waiting.Stream key task c o) g.0 (ends_rest c o _ k))
    answered_rest ask.Pop (purpose.Poll Streams key task) y g k = absurd g
    answered_rest ask.IsClosed (purpose.Poll Closings key task) (answer.Flag true) g k = where_then c.queue.closed _ _ (sym g) (ends_rest c o _ k)
    answered_rest ask.IsClosed (purpose.Poll Closings key task) (answer.Flag false) g k =
        where_else c.queue.closed _ _ (sym g) (refused_rest c waiting.Closing (fresh_on Closings) (stuck_closing (sym g)) task o key k)
    answered_rest ask.IsClosed (purpose.Poll Closings key task) y g k = absurd g
    answered_rest ask.IsClosed purpose.Ask (answer.Flag b) g k = k ∙ ap (λ (x : Bool). says_only (reply.Flag x) c) g
    answered_rest ask.IsEmpty purpose.Ask (answer.Flag b) g k = k ∙ ap (λ (x : Bool). says_only (reply.Flag x) c) g
    answered_rest ask.IsFull purpose.Ask (answer.Flag b) g k = k ∙ ap (λ (x : Bool). says_only (reply.Flag x) c) g
    answered_rest ask.Len purpose.Ask (answer.Count n) g k = k ∙ ap (λ (x : ℕ). says_only (reply.Count x) c) g
    answered_rest ask.Capacity purpose.Ask (answer.Cap n) g k = k ∙ ap (λ (x : Option ℕ). says_only (reply.Cap x) c) g
    answered_rest (ask.Push v) purpose.Ask y g k = tt
    answered_rest (ask.ForcePush v) purpose.Ask y g k = tt
    answered_rest ask.Pop purpose.Ask y g k = tt
    answered_rest ask.Close purpose.Ask y g k = tt
    answered_rest a purpose.Ask y g k = absurd g
    answered_rest ask.IsClosed purpose.IsTerminated (answer.Flag true) g k = k ∙ ap (λ (x : Bool). says_only (reply.Flag (x && (length c.queue.items == 0))) c) g
    answered_rest ask.IsClosed purpose.IsTerminated (answer.Flag false) g k = k ∙ ap (λ (x : Bool). says_only (reply.Flag (x && (length c.queue.items == 0))) c) g
    answered_rest ask.IsClosed purpose.IsTerminated y g k = absurd g
    answered_rest ask.IsClosed (purpose.Upgrade side) (answer.Flag true) g k = pick_then c.queue.closed o _ _ (sym g) k
    answered_rest ask.IsClosed (purpose.Upgrade side) (answer.Flag false) g k = pick_else c.queue.closed o _ _ (sym g) k
    answered_rest ask.IsClosed (purpose.Upgrade side) y g k = absurd g
    answered_rest a x y g k = tt
