-- Which list an event keeps.
use Rattle.std.specs.Prelude.{ℕ}
use Rattle.event_listener.specs.declared.home.Home.{Home}

-- the name under its seal, which no other list has
abbrev pub seal_of : {T L : Type 0} → Home T L → ℕ
seal_of home = home.seal.id
