use Rattle.std.proofs.Common.{rules, ◌≡◌, Option, None, Some}
use Rattle.channel_calls.specs.Asks.{first}
use Rattle.channel_calls.specs.Walks.{WalkedTo}
use Rattle.channel_calls.specs.declared.ask.ChannelAsk.TheVariants as ask
use Rattle.channel_calls.specs.declared.reply.Reply.TheVariants as reply
use Rattle.channel_cells.specs.Channel.{id_of}
use Rattle.async_channel.specs.Handles.{channel_of, form_of, handle_of}
use Rattle.async_channel.proofs.Forms.{told_so, without}
use Rattle.async_channel.proofs.Traces.{seen_of, watched}
use Rattle.channel_calls.specs.Filling.{Fills, room_in}
use Rattle.channel_cells.specs.Calls.{filled_reply}
use Rattle.async_channel.proofs.handles.receiver.Receiver.recv_many_into.Goals as goal

pub returns-in-Bounded-clause-made : goal.returns-in-Bounded-clause-made
returns-in-Bounded-clause-made g c =
    let table : (c.args.self.now.channel).table ≡ Some (id_of c.deref.result.now.table) = search rules in
    told_so _ g.S.Trace-1.called _ _ _ (ask.RecvMany (room_in c.args.into.now)) (λ r. filled_reply r c.recv_many_into.new.into.items) _ c.recv_many_into.result.0 c.recv_many_into.result.1 table c.new_seat.ensures.new c.answer.ensures.answer c.answer.ensures.told c.recv_many_into.ensures.called

pub returns-in-Unbounded-clause-made : goal.returns-in-Unbounded-clause-made
returns-in-Unbounded-clause-made g c =
    let is : form_of c.cells.result.cells.shared.now ≡ (c.args.self.now.channel).form = search rules in
    let enters : g.S.Trace-1.entered (c.args.self.now.channel).seal c.self.inside.watch c.cells.result.trace = search rules in
    let none : (c.args.self.now.channel).table ≡ None = search rules in
    seen_of g.S.Trace-2.did g.S.Trace-1.shown g.S.Trace-1.entered (λ saw begin r end. Fills saw (room_in c.args.into.now) c.args.into.now.items begin r c.recv_many_into-in-Unbounded.new.into.items end) _ (c.args.self.now.channel) (form_of c.cells.result.cells.shared.now) c.self.inside.watch c.cells.result.trace c.recv_many_into-in-Unbounded.result.0 c.recv_many_into-in-Unbounded.result.1 none is enters c.recv_many_into-in-Unbounded.ensures.walked
