-- In which order messages leave, and what becomes of those that are refused: calls made one at a time.
use Rattle.std.specs.Prelude.{◌≡◌, ◌<◌}
use Rattle.channel_world_model.specs.Words.{ℕ, List, [], length, Option, None, Some, Err, slice_get, Call, OpId, Operation, unsent, handed_back, try_handed_back, Reply, WorldRefusal, Done, Ready, Pending, Refused}
use Rattle.channel_world_model.specs.Laws.{removed, accepted}
use Rattle.channel_world_model.specs.Names.{at, own_message}
use Rattle.channel_world_model.specs.Run.{MayBeDone, Runs}
use Rattle.channel_world_model.specs.State.{State, start}

-- ---- order

-- The message that leaves as the n-th is the one that was accepted as the n-th. So of two messages the one that was accepted
-- later never leaves first.
abbrev pub LeavesInTurn : Type 0 → Type 0
LeavesInTurn T =
    (capacity : Option ℕ) (calls rest : List (Call T)) (done : List (Done T)) (why : Option WorldRefusal) (world : State T)
    → Runs (start capacity) calls done why rest world
    → (n : ℕ) → n < length (removed done) → slice_get (removed done) n ≡ slice_get (accepted [] calls done) n

-- ---- refused sends

-- the message of the operation, if it is an unfinished send
abbrev pub unsent_in : {T : Type 0} → Option (Operation T) → Option T
unsent_in (Some operation) = own_message operation
unsent_in None = None

abbrev pub unsent_at : {T : Type 0} → OpId → State T → Option T
unsent_at op s = unsent_in (at op.0 s.names.operations)

-- If a send was refused, or waits, the channel is as it was, and the message is returned by the answer or stays with the
-- send's operation.
abbrev pub RefusesWhole : {T : Type 0} → State T → Call T → Reply T → State T → Type 0
RefusesWhole s (Call.TrySend sender m) (Reply.TrySend (Err e)) t = (try_handed_back e ≡ m) × (t.channel ≡ s.channel)
RefusesWhole s (Call.ForceSend sender m) (Reply.ForceSend (Err e)) t = (handed_back e ≡ m) × (t.channel ≡ s.channel)
RefusesWhole s (Call.Poll op) (Reply.SendPoll (Ready (Err (Refused.Plain e)))) t =
    (unsent_at op s ≡ Some (unsent e)) × (unsent_at op t ≡ None) × (t.channel ≡ s.channel)
RefusesWhole s (Call.Poll op) (Reply.SendPoll (Ready (Err (Refused.NoMemory u)))) t = (unsent_at op t ≡ unsent_at op s) × (t.channel ≡ s.channel)
RefusesWhole s (Call.Poll op) (Reply.SendPoll (Ready (Err (Refused.SerialsUsedUp u)))) t = (unsent_at op t ≡ unsent_at op s) × (t.channel ≡ s.channel)
RefusesWhole s (Call.Poll op) (Reply.SendPoll Pending) t = (unsent_at op t ≡ unsent_at op s) × (t.channel ≡ s.channel)
RefusesWhole s (Call.PollRefused op) (Reply.SendPoll r) t = (unsent_at op t ≡ unsent_at op s) × (t.channel ≡ s.channel)
RefusesWhole s c r t = Unit {0}

-- So it is of every call, in whatever state it is made.
abbrev pub RefusedIsNotHeld : Type 0 → Type 0
RefusedIsNotHeld T = (s t : State T) (c : Call T) (d : Done T) → MayBeDone s c d t → RefusesWhole s c d.reply t
