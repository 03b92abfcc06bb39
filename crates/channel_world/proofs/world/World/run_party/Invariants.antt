use Rattle.std.specs.Prelude.{◌≡◌, ◌<◌}
use Rattle.channel_world.proofs.Words.{[], length, replicate, None, step_refusal, AreSilent, Step}
use Rattle.channel_world.specs.View.{name_state_of, RanTo, Stands}
use Rattle.channel_world.proofs.world.World.run_party.Given as goal

abbrev pub invariant-loop-made : goal.invariant-loop-made
invariant-loop-made g l = record {
  count : length l.trace.items ≡ l._made;
  ran : RanTo (replicate l._made (Step.Step l.party)) [] l.fn.self l.trace.items l.self;
  silent : AreSilent l.trace.items;
  at_work : 0 < length l.trace.items → step_refusal (name_state_of l.self).name_table (name_state_of l.self).agents (Step.Step l.party) ≡ None;
  unmoved : length l.trace.items ≡ 0 → l.self ≡ l.fn.self;
  stands : Stands l.self;
  empty : l.steps.items ≡ [];
}
