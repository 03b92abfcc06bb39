-- What a call answers and leaves, when calls are made one at a time and memory is ample: a function of state and call.
use Rattle.std.specs.Prelude.{◌+◌, ◌-◌, ◌^◌, ◌==◌, ◌∷◌, ◌++◌, ◌&&◌, ◌||◌, if◌then◌else◌}
use Rattle.channel_world_model.specs.Words.{ℕ, zero, suc, take, drop, nat_lt, List, [], length, Bool, true, false, not, Option, None, Some, is_none, Ok, Err, ModelChannel, is_full, appended, with_messages, Call, Reply, WaitList, Sends, Receives, Streams, Closings, News, Nothing, Message, Room, Closing, Space, Open, Filled, Shut, Waiter, Op, Stream, OpId, Operation, HandleId, HandleKind, Sender, Receiver, WeakSender, WeakReceiver, Handle, Plain, NoMemory, Ready, Pending, ListenError, TrySendError, TryRecvError}
use Rattle.channel_world_model.specs.Names.{at, with_new, with_spent, without_name, with_handles, with_new_operation, with_operation_changed, without_operation}
use Rattle.channel_world_model.specs.Lines.{is_among, told_by, after_news, after_rooms, told_by_rooms, gone, left_after, told_after, standing}
use Rattle.channel_world_model.specs.State.{State, with_channel, with_names, with_waiting}

-- the state that a call leaves, its reply, and the names that it woke, in order
pub record Answer (T : Type 0) : Type 0 where
  pub after : State T
  pub reply : Reply T
  pub woken : List Waiter

-- ---- how an answer is put together

-- nobody is told
abbrev pub replying : {T : Type 0} → State T → Reply T → Answer T
replying s r = record { after = s; reply = r; woken = [] }

-- these news are told
abbrev pub after_telling : {T : Type 0} → News → State T → Reply T → Answer T
after_telling news s r = record { after = with_waiting (after_news news s.waiting) s; reply = r; woken = told_by news s.waiting }

-- these news are told, and then w leaves its line and passes on what it was told
abbrev pub after_leaving : {T : Type 0} → News → WaitList → Waiter → State T → Reply T → Answer T
after_leaving news line w s r = record { after = with_waiting (left_after news line w s.waiting) s; reply = r; woken = told_after news line w s.waiting }

-- so many places became free at once
abbrev pub telling_rooms : {T : Type 0} → ℕ → State T → Reply T → Answer T
telling_rooms n s r = record { after = with_waiting (after_rooms n s.waiting) s; reply = r; woken = told_by_rooms n s.waiting }

-- w stands in its line
abbrev pub pending : {T : Type 0} → WaitList → Waiter → State T → Reply T → Answer T
pending line w s r = replying (with_waiting (standing line w s.waiting) s) r

-- ---- what a sending and a taking find

abbrev pub space_of : {T : Type 0} → ModelChannel T → Space
space_of c = if c.closed then Shut else (if is_full c then Filled else Open)

-- the oldest message and those after it, or none: not yet, or never again
pub data Found (T : Type 0) : Type 0 where
  first : T → List T → Found T
  none_yet : Found T
  none_ever : Found T

abbrev pub found_in : {T : Type 0} → List T → Bool → Found T
found_in (m ∷ ms) closed = first m ms
found_in [] true = none_ever
found_in [] false = none_yet

abbrev pub found : {T : Type 0} → ModelChannel T → Found T
found c = found_in c.messages c.closed

-- ---- sending

abbrev pub try_send_answer : {T : Type 0} → State T → T → Space → Answer T
try_send_answer s m Open = after_telling Message (with_channel (appended s.channel m) s) (Reply.TrySend (Ok tt))
try_send_answer s m Filled = replying s (Reply.TrySend (Err (Plain (TrySendError.Full m))))
try_send_answer s m Shut = replying s (Reply.TrySend (Err (Plain (TrySendError.Closed m))))

-- The oldest message makes place for the new one. That is no taking: no send is told.
abbrev pub displacing : {T : Type 0} → State T → T → List T → Answer T
displacing s m [] = after_telling Message (with_channel (appended s.channel m) s) (Reply.ForceSend (Ok None))
displacing s m (oldest ∷ ms) = after_telling Message (with_channel (with_messages s.channel (ms ++ m ∷ [])) s) (Reply.ForceSend (Ok (Some oldest)))

abbrev pub force_send_answer : {T : Type 0} → State T → T → Space → Answer T
force_send_answer s m Open = after_telling Message (with_channel (appended s.channel m) s) (Reply.ForceSend (Ok None))
force_send_answer s m Filled = displacing s m s.channel.messages
force_send_answer s m Shut = replying s (Reply.ForceSend (Err (Plain (record { 0 = m }))))

-- the send has its message no more
abbrev pub finished : {T : Type 0} → State T → OpId → HandleId → State T
finished s op handle = with_names (with_operation_changed op (Operation.Send handle None) s.names) s

-- a send that has its message
abbrev pub send_poll_answer : {T : Type 0} → State T → OpId → HandleId → T → Space → Answer T
send_poll_answer s op handle m Open =
    after_leaving Message Sends (Op op) (with_channel (appended s.channel m) (finished s op handle)) (Reply.SendPoll (Ready (Ok tt)))
send_poll_answer s op handle m Filled = pending Sends (Op op) s (Reply.SendPoll Pending)
send_poll_answer s op handle m Shut = after_leaving Nothing Sends (Op op) (finished s op handle) (Reply.SendPoll (Ready (Err (Plain (record { 0 = m })))))

-- ---- receiving

abbrev pub try_recv_answer : {T : Type 0} → State T → Found T → Answer T
try_recv_answer s (first m ms) = after_telling Room (with_channel (with_messages s.channel ms) s) (Reply.TryRecv (Ok m))
try_recv_answer s none_yet = replying s (Reply.TryRecv (Err TryRecvError.Empty))
try_recv_answer s none_ever = replying s (Reply.TryRecv (Err TryRecvError.Closed))

-- so many messages at most: these, out of the channel that holds the rest; none are none yet or never again
abbrev pub recv_many_answer : {T : Type 0} → State T → ℕ → List T → List T → Answer T
recv_many_answer s zero ms rest = replying s (Reply.RecvMany (Ok []))
recv_many_answer s (suc n) [] rest = replying s (Reply.RecvMany (Err (Plain (if s.channel.closed then TryRecvError.Closed else TryRecvError.Empty))))
recv_many_answer s (suc n) (m ∷ ms) rest = telling_rooms (length (m ∷ ms)) (with_channel (with_messages s.channel rest) s) (Reply.RecvMany (Ok (m ∷ ms)))

abbrev pub recv_poll_answer : {T : Type 0} → State T → OpId → Found T → Answer T
recv_poll_answer s op (first m ms) = after_leaving Room Receives (Op op) (with_channel (with_messages s.channel ms) s) (Reply.RecvPoll (Ready (Ok m)))
recv_poll_answer s op none_yet = pending Receives (Op op) s (Reply.RecvPoll Pending)
recv_poll_answer s op none_ever = after_leaving Nothing Receives (Op op) s (Reply.RecvPoll (Ready (Err (Plain (record {})))))

-- A stream that is not standing untold. What it was told is used up by this poll, and passed on to nobody.
abbrev pub next_answer : {T : Type 0} → State T → HandleId → Found T → Answer T
next_answer s receiver (first m ms) = after_telling Room (with_channel (with_messages s.channel ms) s) (Reply.Next (Ready (Some (Ok m))))
next_answer s receiver none_yet = pending Streams (Stream receiver) s (Reply.Next Pending)
next_answer s receiver none_ever = replying s (Reply.Next (Ready None))

abbrev pub poll_next_answer : {T : Type 0} → State T → HandleId → Answer T
poll_next_answer s receiver =
    if is_among (Stream receiver) s.waiting.streams then replying s (Reply.Next Pending)
    else next_answer (with_waiting (gone (Stream receiver) s.waiting) s) receiver (found s.channel)

-- ---- closing

abbrev pub shut : {T : Type 0} → ModelChannel T → ModelChannel T
shut c = record c { closed = true }

abbrev pub close_answer : {T : Type 0} → State T → Answer T
close_answer s = if s.channel.closed then replying s (Reply.Closed false) else after_telling Closing (with_channel (shut s.channel) s) (Reply.Closed true)

abbrev pub closed_poll_answer : {T : Type 0} → State T → OpId → Answer T
closed_poll_answer s op =
    if s.channel.closed then after_leaving Nothing Closings (Op op) s (Reply.ClosedPoll (Ready (Ok tt)))
    else pending Closings (Op op) s (Reply.ClosedPoll Pending)

-- ---- operations

-- a finished send stays pending, and stands in no line
abbrev pub poll_answer : {T : Type 0} → State T → OpId → Option (Operation T) → Answer T
poll_answer s op (Some (Operation.Send handle (Some m))) = send_poll_answer s op handle m (space_of s.channel)
poll_answer s op (Some (Operation.Send handle None)) = replying s (Reply.SendPoll Pending)
poll_answer s op (Some (Operation.Receive handle)) = recv_poll_answer s op (found s.channel)
poll_answer s op (Some (Operation.Closing handle)) = closed_poll_answer s op
poll_answer s op None = replying s Reply.Unit

-- a poll whose copy of the waker was refused: it leaves its line, and a send keeps its message
abbrev pub poll_refused_answer : {T : Type 0} → State T → OpId → Option (Operation T) → Answer T
poll_refused_answer s op (Some (Operation.Send handle msg)) = after_leaving Nothing Sends (Op op) s (Reply.SendPoll (Ready (Err (NoMemory tt))))
poll_refused_answer s op (Some (Operation.Receive handle)) = after_leaving Nothing Receives (Op op) s (Reply.RecvPoll (Ready (Err (NoMemory tt))))
poll_refused_answer s op (Some (Operation.Closing handle)) = after_leaving Nothing Closings (Op op) s (Reply.ClosedPoll (Ready (Err ListenError.NoMemory)))
poll_refused_answer s op None = replying s Reply.Unit

-- the operation that is given up lives no more
abbrev pub given_up : {T : Type 0} → State T → OpId → Operation T → State T
given_up s op operation = with_names (without_operation op operation s.names) s

abbrev pub give_up_answer : {T : Type 0} → State T → OpId → Option (Operation T) → Answer T
give_up_answer s op (Some (Operation.Send handle msg)) = after_leaving Nothing Sends (Op op) (given_up s op (Operation.Send handle msg)) (Reply.GivenUp msg)
give_up_answer s op (Some (Operation.Receive handle)) = after_leaving Nothing Receives (Op op) (given_up s op (Operation.Receive handle)) (Reply.GivenUp None)
give_up_answer s op (Some (Operation.Closing handle)) = after_leaving Nothing Closings (Op op) (given_up s op (Operation.Closing handle)) (Reply.GivenUp None)
give_up_answer s op None = replying s Reply.Unit

abbrev pub is_finished : {T : Type 0} → Option (Operation T) → Bool
is_finished (Some (Operation.Send handle msg)) = is_none msg
is_finished operation = false

-- a new operation, which is not polled yet
abbrev pub new_answer : {T : Type 0} → State T → OpId → Operation T → Answer T
new_answer s op operation = replying (with_names (with_new_operation op operation s.names) s) Reply.Made

-- ---- handles

-- how many strong handles of this kind there are
abbrev pub strong_handles : {T : Type 0} → HandleKind → ModelChannel T → ℕ
strong_handles Sender c = c.senders
strong_handles Receiver c = c.receivers
strong_handles WeakSender c = 0
strong_handles WeakReceiver c = 0

abbrev pub with_strong_handles : {T : Type 0} → HandleKind → ℕ → ModelChannel T → ModelChannel T
with_strong_handles Sender n c = record c { senders = n }
with_strong_handles Receiver n c = record c { receivers = n }
with_strong_handles WeakSender n c = c
with_strong_handles WeakReceiver n c = c

-- the channel after a strong handle of this kind is gone: the last one closes it
abbrev pub without_one : {T : Type 0} → HandleKind → ModelChannel T → ModelChannel T
without_one kind c = let left = with_strong_handles kind (strong_handles kind c - 1) c in if strong_handles kind c == 1 then shut left else left

abbrev pub news_without_one : {T : Type 0} → HandleKind → ModelChannel T → News
news_without_one kind c = if (strong_handles kind c == 1) && not c.closed then Closing else Nothing

-- a receiver's own stream leaves after the closing
abbrev pub drop_one : {T : Type 0} → State T → HandleId → HandleKind → Answer T
drop_one s handle Sender = after_telling (news_without_one Sender s.channel) (with_channel (without_one Sender s.channel) s) Reply.Unit
drop_one s handle Receiver =
    after_leaving (news_without_one Receiver s.channel) Streams (Stream handle) (with_channel (without_one Receiver s.channel) s) Reply.Unit
drop_one s handle WeakSender = replying s Reply.Unit
drop_one s handle WeakReceiver = replying s Reply.Unit

abbrev pub dropped : {T : Type 0} → State T → HandleId → State T
dropped s handle = with_names (with_handles (without_name handle.0 s.names.handles) s.names) s

abbrev pub drop_answer : {T : Type 0} → State T → HandleId → Option Handle → Answer T
drop_answer s handle (Some h) = drop_one (dropped s handle) handle h.kind
drop_answer s handle None = replying s Reply.Unit

abbrev pub made : {T : Type 0} → State T → HandleId → HandleKind → State T
made s new kind = with_names (with_handles (with_new new.0 (record { kind = kind; borrowers = 0 }) s.names.handles) s.names) s

-- nothing ever lives under the new name
abbrev pub spent : {T : Type 0} → State T → HandleId → State T
spent s new = with_names (with_handles (with_spent new.0 s.names.handles) s.names) s

-- a new handle of this kind; no strong one is made where there are more than half of all numbers already
abbrev pub one_more : {T : Type 0} → State T → HandleId → HandleKind → Answer T
one_more s new kind =
    let n = strong_handles kind s.channel in
    if nat_lt (2 ^ 63 - 1) n then replying (spent s new) Reply.TooMany
    else replying (with_channel (with_strong_handles kind (n + 1) s.channel) (made s new kind)) Reply.Made

abbrev pub clone_answer : {T : Type 0} → State T → HandleId → Option Handle → Answer T
clone_answer s new (Some h) = one_more s new h.kind
clone_answer s new None = replying s Reply.Unit

abbrev pub weak_of : HandleKind → HandleKind
weak_of Sender = WeakSender
weak_of Receiver = WeakReceiver
weak_of WeakSender = WeakSender
weak_of WeakReceiver = WeakReceiver

abbrev pub downgrade_answer : {T : Type 0} → State T → HandleId → Option Handle → Answer T
downgrade_answer s new (Some h) = replying (made s new (weak_of h.kind)) Reply.Made
downgrade_answer s new None = replying s Reply.Unit

-- a strong handle of this kind, while the channel is open and such a handle lives
abbrev pub upgrade_to : {T : Type 0} → State T → HandleId → HandleKind → Answer T
upgrade_to s new kind =
    if s.channel.closed || (strong_handles kind s.channel == 0) then replying (spent s new) Reply.NotMade
    else one_more s new kind

abbrev pub strong_of : HandleKind → HandleKind
strong_of WeakSender = Sender
strong_of WeakReceiver = Receiver
strong_of Sender = Sender
strong_of Receiver = Receiver

abbrev pub upgrade_answer : {T : Type 0} → State T → HandleId → Option Handle → Answer T
upgrade_answer s new (Some h) = upgrade_to s new (strong_of h.kind)
upgrade_answer s new None = replying s Reply.Unit

-- ---- the calls

abbrev pub answer : {T : Type 0} → State T → Call T → Answer T
answer s (Call.NewSend op sender msg) = new_answer s op (Operation.Send sender (Some msg))
answer s (Call.NewRecv op receiver) = new_answer s op (Operation.Receive receiver)
answer s (Call.NewClosed op sender) = new_answer s op (Operation.Closing sender)
answer s (Call.Poll op) = poll_answer s op (at op.0 s.names.operations)
answer s (Call.PollRefused op) = poll_refused_answer s op (at op.0 s.names.operations)
answer s (Call.GiveUp op) = give_up_answer s op (at op.0 s.names.operations)
answer s (Call.SendIsTerminated op) = replying s (Reply.Flag (is_finished (at op.0 s.names.operations)))
answer s (Call.PollNext receiver) = poll_next_answer s receiver
answer s (Call.StreamIsTerminated receiver) = replying s (Reply.Flag (s.channel.closed && (length s.channel.messages == 0)))
answer s (Call.TrySend sender msg) = try_send_answer s msg (space_of s.channel)
answer s (Call.ForceSend sender msg) = force_send_answer s msg (space_of s.channel)
answer s (Call.TryRecv receiver) = try_recv_answer s (found s.channel)
answer s (Call.RecvMany receiver limit) = recv_many_answer s limit (take limit s.channel.messages) (drop limit s.channel.messages)
answer s (Call.Close handle) = close_answer s
answer s (Call.Drop handle) = drop_answer s handle (at handle.0 s.names.handles)
answer s (Call.TryClone handle new) = clone_answer s new (at handle.0 s.names.handles)
answer s (Call.Downgrade handle new) = downgrade_answer s new (at handle.0 s.names.handles)
answer s (Call.Upgrade weak new) = upgrade_answer s new (at weak.0 s.names.handles)
answer s (Call.SameChannel a b) = replying s (Reply.Flag true)
answer s (Call.IsClosed handle) = replying s (Reply.Flag s.channel.closed)
answer s (Call.IsEmpty handle) = replying s (Reply.Flag (length s.channel.messages == 0))
answer s (Call.IsFull handle) = replying s (Reply.Flag (is_full s.channel))
answer s (Call.Len handle) = replying s (Reply.Count (length s.channel.messages))
answer s (Call.Capacity handle) = replying s (Reply.Cap s.channel.capacity)
answer s (Call.SenderCount handle) = replying s (Reply.Count s.channel.senders)
answer s (Call.ReceiverCount handle) = replying s (Reply.Count s.channel.receivers)
