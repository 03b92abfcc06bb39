use Rattle.channel_world.proofs.Lemmas.{more_written}
use Rattle.channel_world.proofs.script.run.write_text.Goals as goal

pub loop-rest-preserved : goal.loop-rest-preserved
loop-rest-preserved g c = more_written c.in-Ok.count c.loop-rest.invariant c.in-Ok.ensures.bytes
