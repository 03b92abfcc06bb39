use Rattle.std.specs.Prelude.{◌≤◌}
use Rattle.channel_world.proofs.Words.{vec_len, Consumes}
use Rattle.channel_world.proofs.script.run.read_input.Given as goal

abbrev pub invariant-loop : goal.invariant-loop
invariant-loop g l = record {
  consumed : Consumes (g.R.Read.remaining l.fn.reader) (g.R.Read.remaining l.reader) l.input.items;
  short : vec_len l.input ≤ 16777216;
}
