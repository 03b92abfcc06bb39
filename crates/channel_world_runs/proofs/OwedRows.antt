-- What wrong bodies would do, step by step from the opening of a channel of five places, and the owed lines say no of.
use Rattle.std.specs.Prelude.{◌≤◌, ◌<◌, ◌||◌, ◌∷◌, ◌++◌, ◌≡◌}
use Rattle.channel_world_runs.proofs.Words.{arith, ℕ, Bool, true, false, List, [], slice_set, slice_index_or, Option, None, Some, Ok, Err, inl, inr, ap, refl, count_by, remove, sum_by, Key, Pending, Ready, leaving, Mark, Append, Take, Close, Reply, Returned, Receives, Call, HandleId, OpId, Waiter, Op, Stream, counted, asks, is_close, activity_begun, activity_after, Observation, Owed, is_sending, is_receiving, first_name_table, no_places, IsAmong, NameState, name_state_begun, name_state_ended, with_woken, Activity, Agent, Refused, OnReturn}
use Rattle.channel_calls.specs.declared.mark.Mark.TheVariants.{Nothing}
use Rattle.channel_world_runs.specs.declared.activity.Role.TheVariants.{Other}

-- ---- steps

-- A party begins a call; the k-th call under way makes a step with this mark, which wakes these; or it answers, and leaves this
-- listener to what it polled; or so a poll of a send that pends, which keeps its message too.
data Act : Type 0 where
  begins : ℕ → Call ℕ → Act
  steps : ℕ → Mark → List Waiter → Act
  ends : ℕ → Reply ℕ → Option Key → Act
  keeps : ℕ → Key → ℕ → Act

-- the names and the parties at work, what is noted of their calls, how many messages there are, and whether the channel is closed
record Played : Type 0 where
  name_state : NameState ℕ
  activities : List Activity
  messages : ℕ
  closed : Bool

abbrev opened : Played
opened = record { name_state = record { name_table = first_name_table; order = no_places; agents = [] }; activities = []; messages = 0; closed = false }

abbrev nobody : Agent ℕ
nobody = record { party = 0; on_return = OnReturn.Nothing }

abbrev idle : Activity
idle = record { role = Other; has_closed = false; taken = 0 }

-- the k-th call under way answers, and leaves this to its operation
abbrev answered : ℕ → Reply ℕ → Returned ℕ → Played → Played
answered k x kept w = record {
  name_state = name_state_ended k (slice_index_or w.name_state.agents k nobody) (Some x) (Some kept) w.name_state;
  activities = remove w.activities k;
  messages = w.messages;
  closed = w.closed;
}

abbrev after : Act → Played → Played
after (begins p c) w = record {
  name_state = name_state_begun (record { 0 = p }) c w.name_state;
  activities = w.activities ++ (activity_begun (asks w.name_state.name_table c) ∷ []);
  messages = w.messages;
  closed = w.closed;
}
after (steps k m names) w = record {
  name_state = with_woken names w.name_state;
  activities = slice_set w.activities k (activity_after m (slice_index_or w.activities k idle));
  messages = counted w.messages m;
  closed = w.closed || is_close m;
}
after (ends k x key) w = answered k x (leaving key None) w
after (keeps k key m) w = answered k (Reply.SendPoll Pending) (leaving (Some key) (Some m)) w

abbrev play : List Act → Played → Played
play [] w = w
play (x ∷ xs) w = play xs (after x w)

-- what the world shows after these
abbrev shown : Played → Observation ℕ
shown w = record {
  name_table = w.name_state.name_table;
  woken = w.name_state.order.woken;
  messages = w.messages;
  capacity = Some 5;
  closed = w.closed;
  sending = count_by (λ (d : Activity). is_sending d.role) w.activities;
  receiving = count_by (λ (d : Activity). is_receiving d.role) w.activities;
  closers = count_by (λ (d : Activity). d.has_closed) w.activities;
  freed = sum_by (λ (d : Activity). d.taken) w.activities;
}

-- ---- calls

abbrev op : ℕ → OpId
op n = record { 0 = n }

abbrev handle : ℕ → HandleId
handle n = record { 0 = n }

-- a receive is made
abbrev made : ℕ → List Act
made n = begins 0 (Call.NewRecv (op n) (handle 1)) ∷ ends 0 Reply.Made None ∷ []

-- and polled with nobody beside it, finds nothing, and is pending
abbrev pends : ℕ → Key → List Act
pends n key = begins 0 (Call.Poll (op n)) ∷ steps 0 Nothing [] ∷ ends 0 (Reply.RecvPoll Pending) (Some key) ∷ []

-- a send with nobody beside it, which tells these
abbrev sends : ℕ → List Waiter → List Act
sends m names =
    begins 0 (Call.TrySend (handle 0) m) ∷ steps 0 Append [] ∷ steps 0 Nothing names ∷ ends 0 (Reply.TrySend (Ok tt)) None ∷ []

-- ---- what they lead to

-- the second is not the first
not_first : IsAmong (Op (op 1)) (Op (op 0) ∷ []) → ⊥
not_first (inl e) = let same : 0 ≡ 1 = ap (λ (w : Waiter). elim w [ Op x ↦ x.0 | Stream x ↦ x.0 ]) e in absurd (omega (arith, same))
not_first (inr i) = i

-- A send that tells before it pushes: the receive that it woke is polled, finds nothing and pends again, and then the message comes.
tells_before_it_pushes : (a b : Key)
    → Owed (shown (play
    (made 0 ++ (pends 0 a ++ (begins 0 (Call.TrySend (handle 0) 7) ∷ steps 0 Nothing (Op (op 0) ∷ []) ∷
    begins 1 (Call.Poll (op 0)) ∷ steps 1 Nothing [] ∷ ends 1 (Reply.RecvPoll Pending) (Some b) ∷
    steps 0 Append [] ∷ ends 0 (Reply.TrySend (Ok tt)) None ∷ []))) opened)) → ⊥
tells_before_it_pushes a b owed = let few : 1 ≤ 0 = owed.receives (Op (op 0)) (b, refl, λ i. i) in omega (arith, few)

-- A send that tells by the default, which counts those already told: three pend, and two messages woke one.
tells_by_the_default : (a b c : Key)
    → Owed (shown (play
    (made 0 ++ (pends 0 a ++ (made 1 ++ (pends 1 b ++ (made 2 ++ (pends 2 c ++
    (sends 7 (Op (op 0) ∷ []) ++ sends 8 []))))))) opened)) → ⊥
tells_by_the_default a b c owed = let few : 2 ≤ 1 = owed.receives (Op (op 1)) (b, refl, not_first) in omega (arith, few)

-- A receive that listens and pends without a second try: the message and its notification came before the listening.
pends_without_a_second_try : (a : Key)
    → Owed (shown (play
    (made 0 ++ (begins 0 (Call.Poll (op 0)) ∷ steps 0 Nothing [] ∷
    begins 1 (Call.TrySend (handle 0) 7) ∷ steps 1 Append [] ∷ steps 1 Nothing [] ∷ ends 1 (Reply.TrySend (Ok tt)) None ∷
    steps 0 Nothing [] ∷ ends 0 (Reply.RecvPoll Pending) (Some a) ∷ [])) opened)) → ⊥
pends_without_a_second_try a owed = let few : 1 ≤ 0 = owed.receives (Op (op 0)) (a, refl, λ i. i) in omega (arith, few)

-- A woken receive that is given up and drops its notification: the other one still waits beside the message.
drops_its_notice : (a b : Key)
    → Owed (shown (play
    (made 0 ++ (pends 0 a ++ (made 1 ++ (pends 1 b ++ (sends 7 (Op (op 0) ∷ []) ++
    (begins 0 (Call.GiveUp (op 0)) ∷ steps 0 Nothing [] ∷ ends 0 (Reply.GivenUp None) None ∷ [])))))) opened)) → ⊥
drops_its_notice a b owed = let few : 1 ≤ 0 = owed.receives (Op (op 1)) (b, refl, λ i. i) in omega (arith, few)

-- A close that tells first and marks afterwards: a receive that begins to pend in between is told by nobody.
closes_after_it_told : (a : Key)
    → Owed (shown (play
    (made 0 ++ (begins 0 (Call.Close (handle 0)) ∷ steps 0 Nothing [] ∷
    begins 1 (Call.Poll (op 0)) ∷ steps 1 Nothing [] ∷ ends 1 (Reply.RecvPoll Pending) (Some a) ∷
    steps 0 Close [] ∷ ends 0 (Reply.Closed true) None ∷ [])) opened)) → ⊥
closes_after_it_told a owed = let some : 0 < 0 = owed.closing Receives (Op (op 0)) (a, refl, λ i. i) refl in omega (arith, some)

-- A refused poll that leaves its told listener on the list: it is pending no more, and the other one still waits beside the message.
keeps_its_told_listener : (a b : Key)
    → Owed (shown (play
    (made 0 ++ (pends 0 a ++ (made 1 ++ (pends 1 b ++ (sends 7 (Op (op 0) ∷ []) ++
    (begins 0 (Call.PollRefused (op 0)) ∷ ends 0 (Reply.RecvPoll (Ready (Err (Refused.NoMemory tt)))) None ∷ [])))))) opened)) → ⊥
keeps_its_told_listener a b owed = let few : 1 ≤ 0 = owed.receives (Op (op 1)) (b, refl, λ i. i) in omega (arith, few)

-- A stream that is always pending: the message that woke it is still there once it was polled again.
stays_pending : (a b : Key)
    → Owed (shown (play
    (begins 0 (Call.PollNext (handle 1)) ∷ ends 0 (Reply.Next Pending) (Some a) ∷ (sends 7 (Stream (handle 1) ∷ []) ++
    (begins 0 (Call.PollNext (handle 1)) ∷ steps 0 Nothing [] ∷ ends 0 (Reply.Next Pending) (Some b) ∷ []))) opened)) → ⊥
stays_pending a b owed = let some : 0 < 0 = owed.streams (Stream (handle 1)) (b, refl, λ i. i) (omega (arith)) in omega (arith, some)

-- A receive that takes a message and tells no send: the one that pends for a place still waits beside the place that is free now.
tells_no_send : (a : Key)
    → Owed (shown (play
    (sends 1 [] ++ (sends 2 [] ++ (sends 3 [] ++ (sends 4 [] ++ (sends 5 [] ++
    (begins 0 (Call.NewSend (op 0) (handle 0) 6) ∷ ends 0 Reply.Made None ∷
    begins 0 (Call.Poll (op 0)) ∷ steps 0 Nothing [] ∷ keeps 0 a 6 ∷
    begins 0 (Call.TryRecv (handle 1)) ∷ steps 0 Take [] ∷ ends 0 (Reply.TryRecv (Ok 1)) None ∷ [])))))) opened)) → ⊥
tells_no_send a owed = let few : 5 ≤ 4 = owed.sends (Op (op 0)) (a, refl, λ i. i) refl in omega (arith, few)
