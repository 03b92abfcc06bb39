use Rattle.std.specs.Prelude.{◌≤◌}
use Rattle.channel_world.proofs.Lemmas.{length, lines_of, today, scene_of, opened, followed, GoesOn}
use Rattle.channel_world.specs.View.{IsQuiet}
use Rattle.channel_world.proofs.script.compose.run_opened.Given as goal

abbrev pub invariant-loop-line : goal.invariant-loop-line
invariant-loop-line l = record {
  said : GoesOn (opened today l.fn.capacity (lines_of l.fn.text)) l.fn.out.items (followed today (scene_of l.scene) l.number (lines_of l.rest)) l.out.items;
  few : length l.scene.table ≤ l.number;
  quiet : IsQuiet l.scene.world;
}

abbrev pub decreases-loop-line : goal.decreases-loop-line
decreases-loop-line l = length l.rest
