use Rattle.std.proofs.Common.{rules, ◌≡◌, Option, None, Some}
use Rattle.channel_calls.specs.Asks.{first}
use Rattle.channel_calls.specs.Walks.{WalkedTo}
use Rattle.channel_calls.specs.declared.ask.ChannelAsk.TheVariants as ask
use Rattle.channel_calls.specs.declared.reply.Reply.TheVariants as reply
use Rattle.channel_cells.specs.Channel.{id_of}
use Rattle.async_channel.specs.Handles.{channel_of, form_of, handle_of}
use Rattle.async_channel.proofs.Forms.{told_so, without}
use Rattle.async_channel.proofs.Traces.{seen_of, watched}
use Rattle.async_channel.proofs.handles.receiver.Receiver.try_recv.Goals as goal

pub returns-in-Bounded : goal.returns-in-Bounded
returns-in-Bounded g c =
    let table : (c.args.self.now.channel).table ≡ Some (id_of c.deref.result.now.table) = search rules in
    record { made = told_so _ g.S.Trace-1.called _ _ _ ask.TryRecv reply.TryRecv _ c.try_recv.result.0 c.try_recv.result.1 table c.new_seat.ensures.new c.answer.ensures.answer c.answer.ensures.told c.try_recv.ensures.called }

pub returns-in-Unbounded : goal.returns-in-Unbounded
returns-in-Unbounded g c =
    let is : form_of c.cells.result.cells.shared.now ≡ (c.args.self.now.channel).form = search rules in
    let enters : g.S.Trace-1.entered (c.args.self.now.channel).seal c.self.inside.watch c.cells.result.trace = search rules in
    let none : (c.args.self.now.channel).table ≡ None = search rules in
    record { made = seen_of g.S.Trace-2.did g.S.Trace-1.shown g.S.Trace-1.entered (λ saw. WalkedTo saw (first ask.TryRecv)) _ (c.args.self.now.channel) (form_of c.cells.result.cells.shared.now) c.self.inside.watch c.cells.result.trace (reply.TryRecv c.try_recv-in-Unbounded.result.0) c.try_recv-in-Unbounded.result.1 none is enters c.try_recv-in-Unbounded.ensures.walked }
