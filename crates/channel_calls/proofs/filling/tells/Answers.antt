use Rattle.channel_calls.proofs.Standing as standing
use Rattle.channel_calls.proofs.filling.tells.Goals as goal

pub tell-requires : goal.tell-requires
tell-requires g c = record { may = standing.tell_sends_ready g.C.ChannelCells.stands g.C.ChannelCells.may g.met.C.ChannelCells.ready c.args.cells.now c.args.taken c.requires.stands.0 c.requires.stands.1 }
