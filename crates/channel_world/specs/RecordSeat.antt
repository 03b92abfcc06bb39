-- What is seen of a seat: its number, and how many of its calls were accepted; and how its share of the ledger counts both. And what is
-- seen of a channel that comes back because a seat was missing.
use Rattle.std.specs.Prelude.{◌+◌, ◌-◌, ◌*◌, ◌/◌, ◌^◌, ◌∷◌}
use Rattle.channel_world.specs.Words.{ℕ, zero, suc, List, []}

pub record SeatView : Type 0 where
  pub number : ℕ
  pub calls : ℕ

-- what is seen of a channel that nobody else calls: how many seats were made of it
pub record HeldView : Type 0 where
  pub seats : ℕ

-- how many accepted calls these seats made
abbrev pub calls_of : List SeatView → ℕ
calls_of [] = 0
calls_of (s ∷ ss) = s.calls + calls_of ss

-- the sum of their numbers
abbrev pub numbers_of : List SeatView → ℕ
numbers_of [] = 0
numbers_of (s ∷ ss) = s.number + numbers_of ss

-- the sum of the numbers below n: of n seats, where these are numbered from 0 on
abbrev pub sum_below : ℕ → ℕ
sum_below zero = 0
sum_below (suc n) = n + sum_below n

-- a seat that made no call yet
abbrev pub new_seat : ℕ → SeatView
new_seat n = record { number = n; calls = 0 }

-- the seat after one more accepted call
abbrev pub with_call_more : SeatView → SeatView
with_call_more s = record s { calls = s.calls + 1 }

-- ---- in the ledger

-- A call weighs more than the numbers of 2^32 seats together. So an amount tells how many calls and which sum of numbers it counts.
abbrev pub call_weight : ℕ
call_weight = 2 ^ 64 - 1

-- what numbers of this sum and so many calls come to
abbrev pub amount_of : ℕ → ℕ → ℕ
amount_of numbers calls = numbers + call_weight * calls

-- how many calls a seat made whose share has this amount
abbrev pub calls_of_amount : ℕ → ℕ
calls_of_amount amount = amount / call_weight
