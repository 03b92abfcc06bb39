-- The parties of the handles and operations of a channel with a bound, by their seats.
use Rattle.std.specs.Prelude.{◌≡◌, Option, None, Some, [], ◌∷◌}
use Rattle.std.specs.Option.{ForSome, ForNone}
use Rattle.atomic_table.specs.Seated.{TableId}
use Rattle.channel_calls.specs.declared.stage.Side.{Side}
use Rattle.channel_cells.specs.Channel.{seat_table, standing_of}
use Rattle.channel_history.specs.CallEnds.{Rests}
use Rattle.channel_history.specs.Party.{fresh}
use Rattle.channel_history.specs.declared.party.Standing.{Standing}
use Rattle.concurrent_queue.specs.declared.history.seats.IdleSeat.{IdleSeat}
use Rattle.event_listener.specs.declared.key.Key.{Key}
use Rattle.event_listener.specs.declared.waking.Task.{Task}
use Rattle.kept.specs.declared.Kept.{Kept}

-- the seat of a call's party
abbrev pub Seat : Type 0 → Type 0
Seat T = IdleSeat T (Standing T Task)

module _ {T : Type 0} where
  -- an operation has a seat from its first poll on. Before, it stands as one does that has made no call
  abbrev pub party_of : Option (Kept (Seat T)) → Standing T Task
  party_of None = fresh
  party_of (Some kept) = standing_of kept.value

  -- on a channel of this table, or without a bound, if none has a seat: an operation without a seat has no listener, and one with a
  -- seat has it there
  abbrev pub IsPartyOf : Option TableId → Option (Kept (Seat T)) → Option Key → Type 0
  IsPartyOf table seat key = ForNone table (seat ≡ None) × ForSome table (λ t. ForNone seat (key ≡ None) × ForSome seat (λ s. seat_table s.value ≡ t))

  -- and a handle of this kind is one of those that its seat has
  abbrev pub IsHandleOf : Side → Option TableId → Option (Kept (Seat T)) → Type 0
  IsHandleOf side table seat =
      ForNone table (seat ≡ None) × ForSome table (λ t. ForNone seat ⊥ × ForSome seat (λ s. (seat_table s.value ≡ t) × Rests (side ∷ []) [] (standing_of s.value)))
