use Rattle.std.specs.Prelude.{◌≡◌}
use Rattle.channel_world_runs.proofs.Words.{drop, all_woken}
use Rattle.channel_world_runs.proofs.world_state.WorldState.wake_from.Given as goal

abbrev pub invariant-loop-k : goal.invariant-loop-k
invariant-loop-k g l = record {
  order : all_woken l.self.name_table (drop l.k l.names.items) l.self.order ≡ all_woken l.initial.self.name_table (drop l.from l.names.items) l.initial.self.order;
  rest : l.self ≡ record l.initial.self { order = l.self.order };
}
