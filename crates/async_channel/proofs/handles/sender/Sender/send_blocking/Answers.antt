use Rattle.std.proofs.Common.{rules, ◌≡◌, ◌∙◌, None, Some}
use Rattle.channel_cells.specs.Channel.{id_of}
use Rattle.async_channel.specs.Handles.{form_of}
use Rattle.async_channel.proofs.Forms.{with_bound}
use Rattle.channel_calls.specs.Blocks.{Blocks}
use Rattle.channel_calls.specs.Tried.{sent_reply, sent_left}
use Rattle.channel_calls.specs.declared.blocked.Blocked.TheVariants as ways
use Rattle.async_channel.proofs.Parties.{sent_so}
use Rattle.async_channel.proofs.Traces.{seen_of}
use Rattle.async_channel.proofs.handles.sender.Sender.send_blocking.Goals as goal

pub returns-in-Bounded-clause-made : goal.returns-in-Bounded-clause-made
returns-in-Bounded-clause-made g c =
    let table : (c.args.self.now).table ≡ Some (id_of c.deref.result.now.table) = search rules in
    with_bound _ _ (c.args.self.now).table (id_of c.deref.result.now.table) table (sent_so g.S.Trace-1.called _ _ c.args.message _ c.send_blocking.result.0 c.send_blocking.result.1 c.new_seat.ensures.new c.answer.ensures.answer c.answer.ensures.told c.send_blocking.ensures.called)

pub returns-in-Unbounded-clause-made : goal.returns-in-Unbounded-clause-made
returns-in-Unbounded-clause-made g c =
    let is : form_of c.cells.result.cells.shared.now ≡ (c.args.self.now).form = search rules in
    let enters : g.S.Trace-1.entered (c.args.self.now).seal c.self.inside.watch c.cells.result.trace = search rules in
    let none : (c.args.self.now).table ≡ None = search rules in
    seen_of g.S.Trace-2.did g.S.Trace-1.shown g.S.Trace-1.entered (λ saw begin r end. Blocks saw g.S.Trace-1.parked g.S.Trace-1.slept (ways.Send c.args.message) begin r (sent_left c.send_blocking-in-Unbounded.result.0) end) _ (c.args.self.now) (form_of c.cells.result.cells.shared.now) c.self.inside.watch c.cells.result.trace (sent_reply c.send_blocking-in-Unbounded.result.0) c.send_blocking-in-Unbounded.result.1 none is enters c.send_blocking-in-Unbounded.ensures.walked
