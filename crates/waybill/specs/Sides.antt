-- What the two sides of numbered messages show.
use Rattle.std.specs.Prelude.{◌≡◌, ◌⊎◌, ℕ, ◌+◌, ◌<◌, ◌≤◌, ◌^◌, Bool, true, List, [], ◌∷◌, ◌++◌, length}
use Rattle.waybill.specs.declared.numbered.Numbered.{Numbered}
use Rattle.waybill.specs.Order.{of_sender, place_after}

-- a sender's number, and what it sent
pub record Sends (T : Type 0) : Type 0 where
  pub sender : ℕ
  pub sent : List T

-- whether a receiver is the only one, how many senders it knows, and what it received
pub record Takes (T : Type 0) : Type 0 where
  pub sole : Bool
  pub senders : ℕ
  pub received : List (Numbered T)

module _ {T : Type 0} where
  abbrev pub sends : ℕ → List T → Sends T
  sends s xs = record { sender = s; sent = xs }

  abbrev pub with_packed : Sends T → T → Sends T
  with_packed a x = sends a.sender (a.sent ++ x ∷ [])

  -- the last number was given: 2^64 - 1 were
  abbrev pub AreNumbersUsedUp : Sends T → Type 0
  AreNumbersUsedUp a = length a.sent + 1 ≡ 2 ^ 64

  abbrev pub takes : Bool → ℕ → List (Numbered T) → Takes T
  takes sole senders received = record { sole = sole; senders = senders; received = received }

  abbrev pub with_unpacked : Takes T → Numbered T → Takes T
  with_unpacked a m = takes a.sole a.senders (a.received ++ m ∷ [])

  -- the place that a sink waits for next from the sender of a message
  abbrev pub awaited : Takes T → Numbered T → ℕ
  awaited a m = place_after 0 (of_sender m.sender a.received)

  -- a message is in turn: its sender is known, it has the awaited place or, unless the receiver is the only one, a later one
  abbrev pub IsInTurn : Takes T → Numbered T → Type 0
  IsInTurn a m = (m.sender < a.senders) × (awaited a m ≤ m.number) × (a.sole ≡ true → m.number ≡ awaited a m)

  -- a message is out of turn: its sender isn't known, it has an earlier place than the awaited one, a sole receiver's has a later
  -- one, or it has a place that no source gives
  abbrev pub IsOutOfTurn : Takes T → Numbered T → Type 0
  IsOutOfTurn a m =
      (a.senders ≤ m.sender) ⊎ ((m.number < awaited a m) ⊎ (((a.sole ≡ true) × (awaited a m < m.number)) ⊎ (2 ^ 64 ≤ m.number + 1)))
