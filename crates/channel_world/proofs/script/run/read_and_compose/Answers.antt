use Rattle.channel_world.proofs.Lemmas.{arith, text_of_read, text_unread}
use Rattle.channel_world.proofs.script.run.read_and_compose.Goals as goal

pub returns-in-Ok : goal.returns-in-Ok
returns-in-Ok g c =
    rw c.unwrap_or.ensures
    (text_of_read (g.R.Read.remaining c.args.reader.now) c.in-Ok.input.items c.as_slice.result.now c.args.out.now.items c.compose.new.out.items _
    (omega (arith, c.in-Ok.ensures.short, c.in-Ok.input.ok.0)) c.in-Ok.ensures.ok c.as_slice.ensures.value c.requires c.compose.ensures)

pub returns-in-Err : goal.returns-in-Err
returns-in-Err g c = text_unread (g.R.Read.remaining c.args.reader.now) c.args.out.now.items c.in-Err.end c.requires c.in-Err.ensures.err
