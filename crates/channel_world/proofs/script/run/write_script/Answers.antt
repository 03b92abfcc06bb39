use Rattle.channel_world.proofs.Lemmas.{inr, refl, late_line, late_fault}
use Rattle.channel_world.proofs.script.run.write_script.Goals as goal

pub returns-then-not-write_text-2 : goal.returns-then-not-write_text-2
returns-then-not-write_text-2 g c =
    inr (
      refl,
      late_fault (g.W.Write.contents c.args.writer.now) (g.W.Write.contents c.write_text.new.writer) (g.W.Write.contents c.write_text-2.new.writer) c.args.text.now c.last_line.result.now (late_line c.args.end)
          c.if-not-write_text.ensures.all c.last_line.ensures c.if-not-write_text-2.ensures.front,
    )
