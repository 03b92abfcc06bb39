use Rattle.std.proofs.Common.{◌≡◌, ◌∙◌, Option, None, Some, ap, refl, subst, sym}
use Rattle.event_listener.specs.declared.key.Key.{Key}
use Rattle.channel_calls.specs.Asks.{first, lent}
use Rattle.channel_calls.specs.Deeds.{Done}
use Rattle.channel_calls.specs.Walks.{WalkedFrom}
use Rattle.channel_calls.specs.declared.ask.ChannelAsk.{ChannelAsk}
use Rattle.channel_calls.specs.declared.ask.ChannelAsk.TheVariants as ask
use Rattle.channel_calls.specs.declared.ask.Loan.{Loan}
use Rattle.channel_calls.proofs.fast_polls.make_poll.Goals as goal

pub returns-then-has_no_listener-clause-deeds : goal.returns-then-has_no_listener-clause-deeds
returns-then-has_no_listener-clause-deeds g c =
    let p = c.in-PollSend in
    let start : g.row.C.Denot × g.row.S.Denot = (c.args.cells.now, c.args.sink.now) in
    let end : g.row.C.Denot × g.row.S.Denot = (c.sent.new.cells, c.sent.new.sink) in
    let over = c.sent.result in
    let is : c.args.ask ≡ ask.PollSend p.message (lent None) p.task = p.is ∙ ap (λ (l : Loan). ask.PollSend p.message l p.task) (c.if-has_no_listener.ensures.none refl) in
    subst (λ (a : ChannelAsk g.row.T.Denot g.row.W.Denot). WalkedFrom (Done g.C.ChannelCells.did g.S.Wakes.wakes) (first a) start over.reply over.kept end) (sym is) c.sent.ensures.deeds

pub returns-then-has_no_listener-2-clause-deeds : goal.returns-then-has_no_listener-2-clause-deeds
returns-then-has_no_listener-2-clause-deeds g c =
    let p = c.in-PollRecv in
    let start : g.row.C.Denot × g.row.S.Denot = (c.args.cells.now, c.args.sink.now) in
    let end : g.row.C.Denot × g.row.S.Denot = (c.received.new.cells, c.received.new.sink) in
    let over = c.received.result in
    let is : c.args.ask ≡ ask.PollRecv (lent None) p.task = p.is ∙ ap (λ (l : Loan). ask.PollRecv l p.task) (c.if-has_no_listener-2.ensures.none refl) in
    subst (λ (a : ChannelAsk g.row.T.Denot g.row.W.Denot). WalkedFrom (Done g.C.ChannelCells.did g.S.Wakes.wakes) (first a) start over.reply over.kept end) (sym is) c.received.ensures.deeds

pub returns-in-None-clause-deeds : goal.returns-in-None-clause-deeds
returns-in-None-clause-deeds g c =
    let p = c.in-PollNext in
    let start : g.row.C.Denot × g.row.S.Denot = (c.args.cells.now, c.args.sink.now) in
    let end : g.row.C.Denot × g.row.S.Denot = (c.streamed.new.cells, c.streamed.new.sink) in
    let over = c.streamed.result in
    let is : c.args.ask ≡ ask.PollNext None p.task = p.is ∙ ap (λ (k : Option Key). ask.PollNext k p.task) c.in-None.is in
    subst (λ (a : ChannelAsk g.row.T.Denot g.row.W.Denot). WalkedFrom (Done g.C.ChannelCells.did g.S.Wakes.wakes) (first a) start over.reply over.kept end) (sym is) c.streamed.ensures.deeds

pub returns-in-Some-clause-deeds : goal.returns-in-Some-clause-deeds
returns-in-Some-clause-deeds g c =
    let p = c.in-PollNext in
    let start : g.row.C.Denot × g.row.S.Denot = (c.args.cells.now, c.args.sink.now) in
    let end : g.row.C.Denot × g.row.S.Denot = (c.make-in-Some.new.cells, c.make-in-Some.new.sink) in
    let over = c.make-in-Some.result in
    let is : c.args.ask ≡ ask.PollNext (Some c.in-Some.key) p.task = p.is ∙ ap (λ (k : Option Key). ask.PollNext k p.task) c.in-Some.is in
    subst (λ (a : ChannelAsk g.row.T.Denot g.row.W.Denot). WalkedFrom (Done g.C.ChannelCells.did g.S.Wakes.wakes) (first a) start over.reply over.kept end) (sym is) c.make-in-Some.ensures.deeds
