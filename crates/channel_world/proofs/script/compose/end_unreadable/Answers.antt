use Rattle.channel_world.proofs.Lemmas.{ending, Unreadable, refused, stays_by}
use Rattle.channel_world.proofs.script.compose.end_unreadable.Goals as goal

pub returns-in_err-add_line : goal.returns-in_err-add_line
returns-in_err-add_line c =
    let script = ending (Unreadable c.args.line) in
    refused script c.from_residual-in_err-add_line.result c.args.out.now.items c.add_line.new.out.items c.from_residual-in_err-add_line.ensures.0
    (stays_by script c.args.out.now.items c.add_line.new.out.items c.in_err-add_line.ensures.err)
