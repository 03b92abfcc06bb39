-- Two laws of all runs of calls, one at a time, from a channel that was just opened.
use Rattle.std.specs.Prelude.{◌≡◌, ◌⊎◌, ◌≤◌, ◌-◌, ◌∷◌, ◌++◌}
use Rattle.channel_world_model.specs.Words.{ℕ, nat_eq, List, [], length, Bool, true, false, Option, None, Some, Ok, filter, lookup, option_to_list, Call, Reply, Done, WorldRefusal, Waiter, Op, Stream, WaitList, Sends, Receives, Streams, Closings, Ready, Operation}
use Rattle.channel_world_model.specs.Names.{Names, at}
use Rattle.channel_world_model.specs.Lines.{untold}
use Rattle.channel_world_model.specs.State.{State, start}
use Rattle.channel_world_model.specs.Run.{Runs}

-- ---- nothing is lost, doubled or reordered

-- what a call took out of the channel: messages that were received, or one that a send displaced
abbrev pub removed_by : {T : Type 0} → Reply T → List T
removed_by (Reply.TryRecv (Ok m)) = m ∷ []
removed_by (Reply.RecvMany (Ok ms)) = ms
removed_by (Reply.RecvPoll (Ready (Ok m))) = m ∷ []
removed_by (Reply.Next (Ready (Some (Ok m)))) = m ∷ []
removed_by (Reply.ForceSend (Ok (Some m))) = m ∷ []
removed_by r = []

-- what a call brought into the channel; `sends` has the message of each polled send under its name
abbrev pub brought_by_call : {T : Type 0} → List (ℕ × T) → Call T → Reply T → List T
brought_by_call sends (Call.TrySend sender m) (Reply.TrySend (Ok u)) = m ∷ []
brought_by_call sends (Call.ForceSend sender m) (Reply.ForceSend (Ok d)) = m ∷ []
brought_by_call sends (Call.Poll op) (Reply.SendPoll (Ready (Ok u))) = option_to_list (lookup (nat_eq op.0) sends)
brought_by_call sends c r = []

-- the sends that were made, after this call
abbrev pub sends_after : {T : Type 0} → List (ℕ × T) → Call T → List (ℕ × T)
sends_after sends (Call.NewSend op sender m) = (op.0, m) ∷ sends
sends_after sends c = sends

-- what the calls of a run took out, in order
abbrev pub removed : {T : Type 0} → List (Done T) → List T
removed [] = []
removed (d ∷ ds) = removed_by d.reply ++ removed ds

-- and what they brought in
abbrev pub accepted : {T : Type 0} → List (ℕ × T) → List (Call T) → List (Done T) → List T
accepted sends [] ds = []
accepted sends (c ∷ cs) [] = []
accepted sends (c ∷ cs) (d ∷ ds) = brought_by_call sends c d.reply ++ accepted (sends_after sends c) cs ds

-- What was received or displaced, followed by what is held, is what was accepted, in order.
abbrev pub NothingIsLost : Type 0 → Type 0
NothingIsLost T =
    (capacity : Option ℕ) (calls rest : List (Call T)) (done : List (Done T)) (why : Option WorldRefusal) (world : State T)
    → Runs (start capacity) calls done why rest world
    → removed done ++ world.channel.messages ≡ accepted [] calls done

-- ---- nobody is left asleep

-- the line that an operation belongs to while it is pending; a finished send is never pending
abbrev pub line_of_operation : {T : Type 0} → Option (Operation T) → Option WaitList
line_of_operation (Some (Operation.Send handle (Some m))) = Some Sends
line_of_operation (Some (Operation.Send handle None)) = None
line_of_operation (Some (Operation.Receive handle)) = Some Receives
line_of_operation (Some (Operation.Closing handle)) = Some Closings
line_of_operation None = None

abbrev pub line_at : {T : Type 0} → Names T → Waiter → Option WaitList
line_at names (Op op) = line_of_operation (at op.0 names.operations)
line_at names (Stream receiver) = Some Streams

abbrev pub same_line : WaitList → WaitList → Bool
same_line Sends Sends = true
same_line Receives Receives = true
same_line Streams Streams = true
same_line Closings Closings = true
same_line a b = false

abbrev pub is_line : WaitList → Option WaitList → Bool
is_line line None = false
is_line line (Some other) = same_line line other

-- how many of these names belong to the line
abbrev pub count_of : (Waiter → Option WaitList) → WaitList → List Waiter → ℕ
count_of kind line ws = length (filter (λ w. is_line line (kind w)) ws)

-- how many pending names of a line are woken
abbrev pub woken_of_line : {T : Type 0} → WaitList → State T → ℕ
woken_of_line line s = count_of (line_at s.names) line s.waiting.woken

-- how many more messages fit; of an unbounded channel none is counted, since no send ever waits there
abbrev pub free_places : Option ℕ → ℕ → ℕ
free_places None held = 0
free_places (Some capacity) held = capacity - held

-- Nobody stays pending and unwoken beside a message, a free place or a closing for which no woken one is responsible.
pub record NobodyIsLeft {T : Type 0} (s : State T) : Type 0 where
  -- beside an unwoken receive there are no more messages than woken receives
  pub receives : (s.waiting.receives ≡ []) ⊎ (length s.channel.messages ≤ woken_of_line Receives s)
  -- beside an unwoken send, while the channel is open, no more free places than woken sends
  pub sends : s.channel.closed ≡ false → (s.waiting.sends ≡ []) ⊎ (free_places s.channel.capacity (length s.channel.messages) ≤ woken_of_line Sends s)
  -- an unbounded channel keeps no send waiting
  pub unbounded : s.channel.capacity ≡ None → s.waiting.sends ≡ []
  -- beside an unwoken stream there is no message
  pub streams : (s.waiting.streams ≡ []) ⊎ (length s.channel.messages ≡ 0)
  -- each that is unwoken waits on an open channel
  pub opened : s.channel.closed ≡ true → (line : WaitList) → untold line s.waiting ≡ []

abbrev pub NobodyIsLeftAsleep : Type 0 → Type 0
NobodyIsLeftAsleep T =
    (capacity : Option ℕ) (calls rest : List (Call T)) (done : List (Done T)) (why : Option WorldRefusal) (world : State T)
    → Runs (start capacity) calls done why rest world
    → NobodyIsLeft world
