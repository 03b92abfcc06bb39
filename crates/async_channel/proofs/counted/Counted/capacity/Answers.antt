use Rattle.std.proofs.Common.{rules, ◌≡◌, Option, None, Some}
use Rattle.channel_calls.specs.Asks.{first}
use Rattle.channel_calls.specs.Walks.{WalkedTo}
use Rattle.channel_calls.specs.declared.ask.ChannelAsk.TheVariants as ask
use Rattle.channel_calls.specs.declared.reply.Reply.TheVariants as reply
use Rattle.channel_cells.specs.Channel.{id_of}
use Rattle.async_channel.specs.Handles.{channel_of, form_of, handle_of}
use Rattle.async_channel.proofs.Forms.{told_so, without}
use Rattle.async_channel.proofs.Traces.{seen_of, watched}
use Rattle.async_channel.proofs.counted.Counted.capacity.Goals as goal

pub returns-in-Unbounded-clause-made : goal.returns-in-Unbounded-clause-made
returns-in-Unbounded-clause-made g c =
    let same : channel_of c.deref-in-Unbounded.result.now ≡ handle_of c.args.self.now.link = search rules in
    let none : (handle_of c.args.self.now.link).table ≡ None = search rules in
    without _ _ (handle_of c.args.self.now.link).table none (watched g.S.Trace-2.did g.S.Trace-1.shown g.S.Trace-1.entered _ _ _ _ _ _ same c.capacity-in-Unbounded.ensures.walked)
