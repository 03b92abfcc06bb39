use Rattle.std.proofs.Common.{arith, ◌≡◌, ℕ, ◌<◌, List, ◌++◌, Ok, Err, sym, ap, ◌∙◌, subst}
use Rattle.channel_calls.specs.Asks.{first}
use Rattle.channel_calls.specs.Deeds.{Done}
use Rattle.channel_calls.specs.Filling.{room_in}
use Rattle.channel_calls.specs.Walks.{WalkedTo}
use Rattle.channel_calls.specs.declared.ask.ChannelAsk.{ChannelAsk}
use Rattle.channel_calls.specs.declared.ask.ChannelAsk.TheVariants as ask
use Rattle.channel_calls.specs.declared.error.Refused.TheVariants.{Plain}
use Rattle.channel_calls.specs.declared.reply.Reply.TheVariants as reply
use Rattle.channel_calls.proofs.Gathering.{none_had}
use Rattle.channel_calls.specs.Stands.{BeginsHere}
use Rattle.channel_calls.proofs.calls.recv_many.Goals as goal

pub returns-in_default-clause-deeds : goal.returns-in_default-clause-deeds
returns-in_default-clause-deeds g c =
    let none : c.args.limit ≡ 0 → ⊥ = λ e. (let never = c.in_default.ensures.succeeds e in cc) in
    let some : 0 < c.args.limit = omega (arith, none) in
    none_had (Done g.C.ChannelCells.did g.S.Wakes.wakes) c.args.limit some (c.args.cells.now, c.args.sink.now)

pub returns-in-Ok-recv_many_into-clause-deeds : goal.returns-in-Ok-recv_many_into-clause-deeds
returns-in-Ok-recv_many_into-clause-deeds g c =
    let did = Done g.C.ChannelCells.did g.S.Wakes.wakes in
    let start : g.row.C.Denot × g.row.S.Denot = (c.args.cells.now, c.args.sink.now) in
    let end : g.row.C.Denot × g.row.S.Denot = (c.recv_many_into.new.cells, c.recv_many_into.new.sink) in
    let fills = c.in-Ok-recv_many_into.ensures.deeds in
    let exact = c.in-Ok.ensures.exact in
    let len = c.in-Ok.ensures.len in
    let room : room_in c.in-Ok.messages ≡ c.args.limit = omega (arith, exact, len) in
    let items : c.recv_many_into.new.into.items ≡ fills.0 = fills.1 ∙ ap (λ (l : List g.row.T.Denot). l ++ fills.0) c.in-Ok.ensures.items in
    let walked = subst (λ (n : ℕ). let a : ChannelAsk g.row.T.Denot g.row.W.Denot = ask.RecvMany n in WalkedTo did (first a) start (reply.RecvMany (Ok fills.0)) end) room fills.2.1 in
    subst (λ (l : List g.row.T.Denot). let a : ChannelAsk g.row.T.Denot g.row.W.Denot = ask.RecvMany c.args.limit in WalkedTo did (first a) start (reply.RecvMany (Ok l)) end) (sym items) walked

pub returns-in-Err-clause-deeds : goal.returns-in-Err-clause-deeds
returns-in-Err-clause-deeds g c =
    let did = Done g.C.ChannelCells.did g.S.Wakes.wakes in
    let start : g.row.C.Denot × g.row.S.Denot = (c.args.cells.now, c.args.sink.now) in
    let end : g.row.C.Denot × g.row.S.Denot = (c.recv_many_into.new.cells, c.recv_many_into.new.sink) in
    let fills = c.in-Err.ensures.deeds in
    let exact = c.in-Ok.ensures.exact in
    let len = c.in-Ok.ensures.len in
    let room : room_in c.in-Ok.messages ≡ c.args.limit = omega (arith, exact, len) in
    subst (λ (n : ℕ). let a : ChannelAsk g.row.T.Denot g.row.W.Denot = ask.RecvMany n in WalkedTo did (first a) start (reply.RecvMany (Err (Plain c.in-Err.error))) end) room fills.2.1

pub recv_many_into-requires-clause-stands : goal.recv_many_into-requires-clause-stands
recv_many_into-requires-clause-stands g c =
    let exact = c.in-Ok.ensures.exact in
    let len = c.in-Ok.ensures.len in
    let room : room_in c.in-Ok.messages ≡ c.args.limit = omega (arith, exact, len) in
    subst (λ (n : ℕ). let a : ChannelAsk g.row.T.Denot g.row.W.Denot = ask.RecvMany n in BeginsHere g.C.ChannelCells.stands (first a) c.args.cells.now) (sym room) c.requires.stands
