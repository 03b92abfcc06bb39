use Rattle.std.proofs.Common.{Bool, Result, sym, subst}
use Rattle.futures.specs.declared.task.Poll.TheVariants.{Ready}
use Rattle.channel_calls.specs.Blocks.{Asked, Slept, Blocks}
use Rattle.channel_calls.specs.Deeds.{Done}
use Rattle.channel_calls.specs.Taking.{WaitsForNext}
use Rattle.channel_calls.specs.Turns.{nothing_kept}
use Rattle.channel_calls.specs.declared.blocked.Blocked.TheVariants.{Receive}
use Rattle.channel_calls.specs.declared.error.RecvError.{RecvError}
use Rattle.channel_calls.specs.declared.error.Refused.{Refused}
use Rattle.channel_calls.specs.declared.reply.Reply.TheVariants as reply
use Rattle.channel_calls.proofs.taking.next_blocking.Goals as goal

pub returns-clause-deeds : goal.returns-clause-deeds
returns-clause-deeds g c =
    let did = Done g.C.ChannelCells.did g.S.Wakes.wakes in
    let start : g.row.C.Denot × g.row.S.Denot = (c.args.cells.now, c.args.sink.now) in
    let end : g.row.C.Denot × g.row.S.Denot = (c.recv_blocking.new.cells, c.recv_blocking.new.sink) in
    let answered = subst (λ (x : Result g.row.T.Denot (Refused RecvError Unit)). Blocks did (Asked {S = g.row.S.Denot} g.C.Sleeps.parked) (Slept {S = g.row.S.Denot} g.C.Sleeps.slept) Receive start (reply.RecvPoll (Ready x)) nothing_kept end)
    (sym c.next_item.ensures.item) c.recv_blocking.ensures.deeds in
    subst (λ (b : Bool). WaitsForNext did (Asked {S = g.row.S.Denot} g.C.Sleeps.parked) (Slept {S = g.row.S.Denot} g.C.Sleeps.slept) b start c.next_item.result end)
    (sym c.if-ended.false) answered
