-- How many blocks of a shared queue were made.
use Rattle.std.specs.Prelude.{ℕ, ◌+◌, List, [], ◌∷◌}

-- after a block was asked for: one more where none was spare
abbrev pub made_of : List ℕ → ℕ → ℕ
made_of [] made = made + 1
made_of (b ∷ bs) made = made
