-- What a call answers where the one growth that it needs is refused; None where it needs none.
use Rattle.std.specs.Prelude.{◌≡◌, ◌⊎◌, if◌then◌else◌}
use Rattle.channel_world_model.specs.Words.{ℕ, zero, suc, Option, None, Some, is_none, Err, ModelChannel, Call, Reply, WaitList, Sends, Receives, Streams, Closings, Nothing, Space, Open, Filled, Shut, Waiter, Op, Stream, OpId, Operation, Refused, NoMemory, SerialsUsedUp, ListenError, Ready}
use Rattle.channel_world_model.specs.Names.{at}
use Rattle.channel_world_model.specs.Lines.{untold, is_among, gone}
use Rattle.channel_world_model.specs.State.{State, with_waiting}
use Rattle.channel_world_model.specs.Answer.{Answer, replying, after_leaving, space_of, Found, first, none_yet, none_ever, found, answer}

-- what a growth wanted
pub data Lack : Type 0 where
  memory : Lack
  serials : Lack

abbrev pub refused : {E : Type 0} → Lack → Refused E Unit
refused memory = NoMemory tt
refused serials = SerialsUsedUp tt

abbrev pub not_listening : Lack → ListenError
not_listening memory = ListenError.NoMemory
not_listening serials = ListenError.SerialsUsedUp

-- one that would stand in its line, new or again, is out of it and tells nobody
abbrev pub not_standing : {T : Type 0} → WaitList → Waiter → State T → Reply T → Option (Answer T)
not_standing line w s r =
    if is_among w (untold line s.waiting) then None else Some (replying (with_waiting (gone w s.waiting) s) r)

-- an unbounded channel takes memory to hold one more message, and never serials
abbrev pub not_held : {T : Type 0} → Lack → ModelChannel T → Space → Answer T → Option (Answer T)
not_held memory c Open a = if is_none c.capacity then Some a else None
not_held memory c Filled a = None
not_held memory c Shut a = None
not_held serials c space a = None

abbrev pub send_not_polled : {T : Type 0} → Lack → State T → OpId → Space → Option (Answer T)
send_not_polled lack s op Filled = not_standing Sends (Op op) s (Reply.SendPoll (Ready (Err (refused lack))))
send_not_polled lack s op Open = not_held lack s.channel Open (after_leaving Nothing Sends (Op op) s (Reply.SendPoll (Ready (Err (refused lack)))))
send_not_polled lack s op Shut = None

abbrev pub recv_not_polled : {T : Type 0} → Lack → State T → OpId → Found T → Option (Answer T)
recv_not_polled lack s op none_yet = not_standing Receives (Op op) s (Reply.RecvPoll (Ready (Err (refused lack))))
recv_not_polled lack s op (first m ms) = None
recv_not_polled lack s op none_ever = None

abbrev pub not_polled : {T : Type 0} → Lack → State T → OpId → Option (Operation T) → Option (Answer T)
not_polled lack s op (Some (Operation.Send handle (Some m))) = send_not_polled lack s op (space_of s.channel)
not_polled lack s op (Some (Operation.Send handle None)) = None
not_polled lack s op (Some (Operation.Receive handle)) = recv_not_polled lack s op (found s.channel)
not_polled lack s op (Some (Operation.Closing handle)) =
    if s.channel.closed then None else not_standing Closings (Op op) s (Reply.ClosedPoll (Ready (Err (not_listening lack))))
not_polled lack s op None = None

abbrev pub next_not_polled : {T : Type 0} → Lack → State T → Waiter → Found T → Option (Answer T)
next_not_polled lack s w none_yet = not_standing Streams w s (Reply.Next (Ready (Some (Err (not_listening lack)))))
next_not_polled lack s w (first m ms) = None
next_not_polled lack s w none_ever = None

-- room for several messages is memory, and no memory is taken for none
abbrev pub not_received : {T : Type 0} → Lack → State T → ℕ → Option (Answer T)
not_received memory s zero = None
not_received memory s (suc n) = Some (replying s (Reply.RecvMany (Err (NoMemory tt))))
not_received serials s n = None

abbrev pub answer_without : {T : Type 0} → Lack → State T → Call T → Option (Answer T)
answer_without lack s (Call.TrySend sender msg) = not_held lack s.channel (space_of s.channel) (replying s (Reply.TrySend (Err (NoMemory msg))))
answer_without lack s (Call.ForceSend sender msg) = not_held lack s.channel (space_of s.channel) (replying s (Reply.ForceSend (Err (NoMemory msg))))
answer_without lack s (Call.RecvMany receiver limit) = not_received lack s limit
answer_without lack s (Call.Poll op) = not_polled lack s op (at op.0 s.names.operations)
answer_without lack s (Call.PollNext receiver) = next_not_polled lack s (Stream receiver) (found s.channel)
answer_without lack s c = None

-- an answer, or that of a refused growth
abbrev pub Gives : {T : Type 0} → Answer T → (Lack → Option (Answer T)) → Answer T → Type 0
Gives a without x = (x ≡ a) ⊎ ((lack : Lack) × (without lack ≡ Some x))

-- an accepted call may answer this
abbrev pub Answers : {T : Type 0} → State T → Call T → Answer T → Type 0
Answers s c x = Gives (answer s c) (λ lack. answer_without lack s c) x
