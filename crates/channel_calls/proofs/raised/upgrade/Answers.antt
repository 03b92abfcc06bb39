use Rattle.std.proofs.Common.{subst, sym}
use Rattle.channel_calls.specs.Asks.{first}
use Rattle.channel_calls.specs.Deeds.{Done}
use Rattle.channel_calls.specs.Walks.{WalkedFrom}
use Rattle.channel_calls.specs.declared.ask.ChannelAsk.{ChannelAsk}
use Rattle.channel_calls.specs.declared.ask.ChannelAsk.TheVariants as ask
use Rattle.channel_calls.specs.declared.stage.Side.{Side}
use Rattle.channel_calls.specs.Stands.{BeginsHere}
use Rattle.channel_calls.proofs.raised.upgrade.Goals as goal

pub returns-clause-deeds : goal.returns-clause-deeds
returns-clause-deeds g c =
    let did = Done g.C.ChannelCells.did g.S.Wakes.wakes in
    let start : g.row.C.Denot × g.row.S.Denot = (c.args.cells.now, c.args.sink.now) in
    let end : g.row.C.Denot × g.row.S.Denot = (c.make-given.new.cells, c.make-given.new.sink) in
    let given = c.make-given.result in
    let walked : WalkedFrom did (first (ask.Upgrade g.K.Kind.side)) start given.reply given.kept end =
    subst (λ (side : Side). let a : ChannelAsk g.row.T.Denot g.row.W.Denot = ask.Upgrade side in WalkedFrom did (first a) start given.reply given.kept end) c.side.ensures c.make-given.ensures.deeds
    in
    (given.reply, (given.kept, walked), c.upgraded_answer.ensures)

pub make-given-requires : goal.make-given-requires
make-given-requires g c = record {
  stands = subst (λ (side : Side). let a : ChannelAsk g.row.T.Denot g.row.W.Denot = ask.Upgrade side in BeginsHere g.C.ChannelCells.stands (first a) c.args.cells.now) (sym c.side.ensures) c.requires.stands;
}
