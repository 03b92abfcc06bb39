-- No name stands twice.
use Rattle.channel_world_runs.specs.Words.{nat_eq, keys_of, NameTable}
use Rattle.std.specs.List.{IsDistinct}

-- of all that were ever taken, no handle's and no operation's
pub record AreApart {T : Type 0} (r : NameTable T) : Type 0 where
  pub handles : IsDistinct nat_eq (keys_of r.handles)
  pub operations : IsDistinct nat_eq (keys_of r.operations)
