-- How many messages a channel holds at most, whether it is ever full, and how often it is closed: over all runs of calls, one at a
-- time.
use Rattle.std.specs.Prelude.{◌≡◌, ◌≤◌, ◌<◌, ◌∷◌}
use Rattle.channel_world_model.specs.Words.{ℕ, List, [], length, Bool, true, false, Option, None, Some, IfSome, Ok, Err, filter, Call, was_full, Reply, WorldRefusal, Done}
use Rattle.channel_world_model.specs.Run.{Runs}
use Rattle.channel_world_model.specs.State.{State, start}

-- The length never passes the capacity; a bounded channel is opened with a capacity of 1 at least.
abbrev pub LengthIsWithin : Type 0 → Type 0
LengthIsWithin T =
    (capacity : Option ℕ) (calls rest : List (Call T)) (done : List (Done T)) (why : Option WorldRefusal) (world : State T)
    → Runs (start capacity) calls done why rest world
    → IfSome capacity (λ most. 0 < most → length world.channel.messages ≤ most)

-- whether a call says that the channel is full: it refused a message for that, displaced one, or was asked
abbrev pub says_full : {T : Type 0} → Call T → Reply T → Bool
says_full (Call.TrySend sender m) (Reply.TrySend (Err e)) = was_full e
says_full (Call.ForceSend sender m) (Reply.ForceSend (Ok (Some displaced))) = true
says_full (Call.IsFull handle) (Reply.Flag full) = full
says_full c r = false

-- so it is of each call that was done, with its reply
abbrev pub EachDone : {T : Type 0} → (Call T → Reply T → Type 0) → List (Call T) → List (Done T) → Type 0
EachDone P cs [] = Unit {0}
EachDone P [] (d ∷ ds) = ⊥
EachDone P (c ∷ cs) (d ∷ ds) = P c d.reply × EachDone P cs ds

-- No call says of an unbounded channel that it is full.
abbrev pub UnboundedIsNeverFull : Type 0 → Type 0
UnboundedIsNeverFull T =
    (calls rest : List (Call T)) (done : List (Done T)) (why : Option WorldRefusal) (world : State T)
    → Runs (start None) calls done why rest world
    → EachDone (λ c r. says_full c r ≡ false) calls done

-- whether it answers that it closed the channel
abbrev pub says_closed : {T : Type 0} → Reply T → Bool
says_closed (Reply.Closed by_this) = by_this
says_closed r = false

-- At most one close answers that it closed the channel.
abbrev pub AtMostOneCloses : Type 0 → Type 0
AtMostOneCloses T =
    (capacity : Option ℕ) (calls rest : List (Call T)) (done : List (Done T)) (why : Option WorldRefusal) (world : State T)
    → Runs (start capacity) calls done why rest world
    → length (filter (λ (d : Done T). says_closed d.reply) done) ≤ 1
