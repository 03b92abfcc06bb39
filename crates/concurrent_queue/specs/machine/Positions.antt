-- The positions of a ring. Messages are counted from 0 in the order in which they were appended; the n-th one's position
-- is n, cut into laps: a lap holds as many messages as the ring has slots, and is `lap` wide.
use Rattle.std.specs.Prelude.{ℕ, ◌+◌, ◌*◌, ◌/◌, ◌%◌}

unfoldable pub pos : ℕ → ℕ → ℕ → ℕ
pos cap lap n = n / cap * lap + n % cap
