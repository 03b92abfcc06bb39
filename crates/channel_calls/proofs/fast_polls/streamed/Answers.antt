use Rattle.std.specs.Prelude.{None}
use Rattle.channel_calls.specs.Asks.{first}
use Rattle.channel_calls.specs.Deeds.{Done}
use Rattle.channel_calls.specs.declared.ask.ChannelAsk.TheVariants as ask
use Rattle.channel_calls.proofs.Walking.{polled_on}
use Rattle.channel_calls.proofs.Standing as standing
use Rattle.channel_calls.proofs.fast_polls.streamed.Goals as goal

pub returns-in-Err-clause-deeds : goal.returns-in-Err-clause-deeds
returns-in-Err-clause-deeds g c =
    polled_on (Done g.C.ChannelCells.did g.S.Wakes.wakes) (first (ask.PollNext None c.args.task)) (c.args.cells.now, c.args.sink.now) (c.stream_fast.new.cells, c.stream_fast.new.sink) (c.complete.new.cells, c.complete.new.sink)
    c.in-Err.call c.complete.result.reply c.complete.result.kept c.in-Err.ensures.deeds c.complete.ensures.deeds

pub complete-requires : goal.complete-requires
complete-requires g c = record {
  stands = standing.handed_over g.C.ChannelCells.stands g.C.ChannelCells.did g.met.C.ChannelCells.leads g.met.C.ChannelCells.rests g.S.Wakes.wakes
      (first (ask.PollNext None c.args.task)) (c.args.cells.now, c.args.sink.now) (c.stream_fast.new.cells, c.stream_fast.new.sink) c.in-Err.call c.requires.stands c.in-Err.ensures.deeds;
}
