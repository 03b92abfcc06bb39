use Rattle.std.specs.Prelude.{◌≡◌, ◌++◌}
use Rattle.channel_world.proofs.Words.{take, length, codes, decimal, polls_in, AreAmple, parted}
use Rattle.channel_world.proofs.script.scene.Scene.settle.Given as goal

abbrev pub invariant-loop-k : goal.invariant-loop-k
invariant-loop-k l = record {
  text : l.line.items ≡ codes "polls " ++ decimal (length l.polls) ++ parted l.self.table (polls_in (take l.k l.polls));
  whole : AreAmple (take l.k l.polls);
}
