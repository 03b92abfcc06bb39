use Rattle.channel_cells.proofs.Over.{is_over}
use Rattle.channel_cells.proofs.channel.ChannelTable.look_at_end.Goals as goal

pub returns-clause-over : goal.returns-clause-over
returns-clause-over g c = is_over c.args.seat.now.seat.me.0 c.look.ensures.told c.requires.end
