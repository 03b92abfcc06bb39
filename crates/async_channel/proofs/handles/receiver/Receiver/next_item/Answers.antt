use Rattle.std.proofs.Common.{rules, ◌≡◌, ◌∙◌, None, Some}
use Rattle.channel_cells.specs.Channel.{id_of}
use Rattle.async_channel.specs.Handles.{form_of}
use Rattle.async_channel.proofs.Forms.{with_bound}
use Rattle.channel_calls.specs.Taking.{WaitsForNext}
use Rattle.async_channel.proofs.Parties.{gave_so, received_so}
use Rattle.async_channel.proofs.Traces.{seen_of}
use Rattle.async_channel.proofs.handles.receiver.Receiver.next_item.Goals as goal

pub returns-else-ended-clause-made : goal.returns-else-ended-clause-made
returns-else-ended-clause-made g c =
    let table : (c.args.self.now.channel).table ≡ Some (id_of c.deref.result.now.table) = search rules in
    let told = received_so g.S.Trace-1.called _ _ _ c.recv_blocking.result.0 c.recv_blocking.result.1 c.new_seat.ensures.new c.answer-received.ensures.answer c.answer-received.ensures.told c.recv_blocking.ensures.called in
    with_bound _ _ (c.args.self.now.channel).table (id_of c.deref.result.now.table) table (gave_so g.S.Trace-1.called _ c.args.ended.now c.next_item.result c.answer-received.result c.if-ended.false c.next_item.ensures.item told)

pub returns-in-Unbounded-clause-made : goal.returns-in-Unbounded-clause-made
returns-in-Unbounded-clause-made g c =
    let is : form_of c.cells-seen.result.cells.shared.now ≡ (c.args.self.now.channel).form = search rules in
    let enters : g.S.Trace-1.entered (c.args.self.now.channel).seal c.self.inside.watch c.cells-seen.result.trace = search rules in
    let none : (c.args.self.now.channel).table ≡ None = search rules in
    seen_of g.S.Trace-2.did g.S.Trace-1.shown g.S.Trace-1.entered (λ saw. WaitsForNext saw g.S.Trace-1.parked g.S.Trace-1.slept c.args.ended.now) _ (c.args.self.now.channel) (form_of c.cells-seen.result.cells.shared.now) c.self.inside.watch c.cells-seen.result.trace c.next_blocking.result.0 c.next_blocking.result.1 none is enters c.next_blocking.ensures.walked
