use Rattle.channel_world.proofs.Lemmas.{script_read, script_known}
use Rattle.channel_world.proofs.script.run.run_script.Goals as goal

pub returns-clause-read : goal.returns-clause-read
returns-clause-read g c =
    let r = script_read (g.R.Read.remaining c.args.reader.now) c.read_and_compose-end.result c.write_script.result c.read_and_compose-end.new.out.items c.as_slice.result.now
    (g.W.Write.contents c.args.writer.now) (g.W.Write.contents c.write_script.new.writer) c.as_slice.ensures.value c.read_and_compose-end.ensures c.write_script.ensures in
    (r.0, r.2)

pub returns-clause-known : goal.returns-clause-known
returns-clause-known g c =
    script_known (g.R.Read.remaining c.args.reader.now) c.write_script.result (g.W.Write.contents c.args.writer.now) (g.W.Write.contents c.write_script.new.writer)
    (script_read (g.R.Read.remaining c.args.reader.now) c.read_and_compose-end.result c.write_script.result c.read_and_compose-end.new.out.items c.as_slice.result.now
    (g.W.Write.contents c.args.writer.now) (g.W.Write.contents c.write_script.new.writer) c.as_slice.ensures.value c.read_and_compose-end.ensures c.write_script.ensures)
