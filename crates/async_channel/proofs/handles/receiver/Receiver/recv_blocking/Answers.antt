use Rattle.std.proofs.Common.{rules, ◌≡◌, ◌∙◌, None, Some}
use Rattle.channel_cells.specs.Channel.{id_of}
use Rattle.async_channel.specs.Handles.{form_of}
use Rattle.async_channel.proofs.Forms.{with_bound}
use Rattle.channel_calls.specs.Blocks.{Blocks}
use Rattle.channel_calls.specs.Turns.{nothing_kept}
use Rattle.channel_calls.specs.declared.blocked.Blocked.TheVariants as ways
use Rattle.channel_calls.specs.declared.reply.Reply.TheVariants as reply
use Rattle.futures.specs.declared.task.Poll.TheVariants as poll
use Rattle.async_channel.proofs.Parties.{received_so}
use Rattle.async_channel.proofs.Traces.{seen_of}
use Rattle.async_channel.proofs.handles.receiver.Receiver.recv_blocking.Goals as goal

pub returns-in-Bounded : goal.returns-in-Bounded
returns-in-Bounded g c =
    let table : (c.args.self.now.channel).table ≡ Some (id_of c.deref.result.now.table) = search rules in
    record { made = with_bound _ _ (c.args.self.now.channel).table (id_of c.deref.result.now.table) table (received_so g.S.Trace-1.called _ _ _ c.recv_blocking.result.0 c.recv_blocking.result.1 c.new_seat.ensures.new c.answer.ensures.answer c.answer.ensures.told c.recv_blocking.ensures.called) }

pub returns-in-Unbounded : goal.returns-in-Unbounded
returns-in-Unbounded g c =
    let is : form_of c.cells.result.cells.shared.now ≡ (c.args.self.now.channel).form = search rules in
    let enters : g.S.Trace-1.entered (c.args.self.now.channel).seal c.self.inside.watch c.cells.result.trace = search rules in
    let none : (c.args.self.now.channel).table ≡ None = search rules in
    record { made = seen_of g.S.Trace-2.did g.S.Trace-1.shown g.S.Trace-1.entered (λ saw begin r end. Blocks saw g.S.Trace-1.parked g.S.Trace-1.slept ways.Receive begin r nothing_kept end) _ (c.args.self.now.channel) (form_of c.cells.result.cells.shared.now) c.self.inside.watch c.cells.result.trace (reply.RecvPoll (poll.Ready c.recv_blocking-in-Unbounded.result.0)) c.recv_blocking-in-Unbounded.result.1 none is enters c.recv_blocking-in-Unbounded.ensures.walked }
