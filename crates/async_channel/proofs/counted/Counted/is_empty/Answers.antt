use Rattle.std.proofs.Common.{rules, ◌≡◌, Option, None, Some}
use Rattle.channel_calls.specs.Asks.{first}
use Rattle.channel_calls.specs.Walks.{WalkedTo}
use Rattle.channel_calls.specs.declared.ask.ChannelAsk.TheVariants as ask
use Rattle.channel_calls.specs.declared.reply.Reply.TheVariants as reply
use Rattle.channel_cells.specs.Channel.{id_of}
use Rattle.async_channel.specs.Handles.{channel_of, form_of, handle_of}
use Rattle.async_channel.proofs.Forms.{told_so, without}
use Rattle.async_channel.proofs.Traces.{seen_of, watched}
use Rattle.async_channel.proofs.counted.Counted.is_empty.Goals as goal

pub returns-in-Bounded : goal.returns-in-Bounded
returns-in-Bounded g c =
    let table : (handle_of c.args.self.now.link).table ≡ Some (id_of c.deref.result.now.table) = search rules in
    record { made = told_so _ g.S.Trace-1.called _ _ _ ask.IsEmpty reply.Flag _ c.is_empty.result.0 c.is_empty.result.1 table c.new_seat.ensures.new c.answer.ensures.answer c.answer.ensures.told c.is_empty.ensures.called }

pub returns-in-Unbounded : goal.returns-in-Unbounded
returns-in-Unbounded g c =
    let same : channel_of c.deref-in-Unbounded.result.now ≡ handle_of c.args.self.now.link = search rules in
    let none : (handle_of c.args.self.now.link).table ≡ None = search rules in
    record { made = without _ _ (handle_of c.args.self.now.link).table none (watched g.S.Trace-2.did g.S.Trace-1.shown g.S.Trace-1.entered _ _ _ _ _ _ same c.is_empty-in-Unbounded.ensures.walked) }
