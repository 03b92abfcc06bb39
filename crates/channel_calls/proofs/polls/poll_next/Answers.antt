use Rattle.std.proofs.Common.{subst, sym}
use Rattle.channel_calls.specs.Asks.{first}
use Rattle.channel_calls.specs.Calls.{next_ask}
use Rattle.channel_calls.specs.Deeds.{Done}
use Rattle.channel_calls.specs.Replies.{ReplyAllowed}
use Rattle.channel_calls.specs.Walks.{WalkedFrom}
use Rattle.channel_calls.specs.declared.ask.ChannelAsk.{ChannelAsk}
use Rattle.channel_calls.proofs.Listed as lists
use Rattle.channel_calls.proofs.PollFacts as facts
use Rattle.channel_calls.proofs.Walking.{answered_as}
use Rattle.channel_calls.specs.Stands.{BeginsHere}
use Rattle.channel_calls.proofs.polls.poll_next.Goals as goal

pub returns-clause-deeds : goal.returns-clause-deeds
returns-clause-deeds g c =
    let did = Done g.C.ChannelCells.did g.S.Wakes.wakes in
    let start : g.row.C.Denot × g.row.S.Denot = (c.args.cells.now, c.args.sink.now) in
    let end : g.row.C.Denot × g.row.S.Denot = (c.make_poll-given.new.cells, c.make_poll-given.new.sink) in
    let given = c.make_poll-given.result in
    let walked : WalkedFrom did (first (next_ask c.args.key c.args.task)) start given.reply given.kept end =
    subst (λ (a : ChannelAsk g.row.T.Denot g.row.W.Denot). WalkedFrom did (first a) start given.reply given.kept end) c.next_ask-ask.ensures c.make_poll-given.ensures.deeds
    in
    answered_as did (first (next_ask c.args.key c.args.task)) start end _ _ given.kept c.in-Next.is walked

pub unreachable-requires : goal.unreachable-requires
unreachable-requires g c =
    let given = c.make_poll-given.result in
    let f = c.requires.form.0 in
    let may : ReplyAllowed f (next_ask c.args.key c.args.task) given.reply given.kept.message =
    subst (λ (a : ChannelAsk g.row.T.Denot g.row.W.Denot). ReplyAllowed f a given.reply given.kept.message) c.next_ask-ask.ensures (c.make_poll-given.ensures.answers c.requires.form.0 c.requires.form.1)
    in
    let is = facts.next_polled f c.args.key c.args.task given.reply given.kept.message may in
    c.in_default.not-Next is.0 is.1

pub returns-clause-listed : goal.returns-clause-listed
returns-clause-listed g c =
    let did = Done g.C.ChannelCells.did g.S.Wakes.wakes in
    let start : g.row.C.Denot × g.row.S.Denot = (c.args.cells.now, c.args.sink.now) in
    let end : g.row.C.Denot × g.row.S.Denot = (c.make_poll-given.new.cells, c.make_poll-given.new.sink) in
    lists.next_lists did c.args.key c.args.task start c.make_poll-given.result.kept end c.in-Next.polled (returns-clause-deeds g c)

pub make_poll-given-requires : goal.make_poll-given-requires
make_poll-given-requires g c = record { stands = subst (λ (a : ChannelAsk g.row.T.Denot g.row.W.Denot). BeginsHere g.C.ChannelCells.stands (first a) c.args.cells.now) (sym c.next_ask-ask.ensures) c.requires.stands }
