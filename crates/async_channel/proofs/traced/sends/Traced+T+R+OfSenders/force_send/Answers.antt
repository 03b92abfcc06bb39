use Rattle.channel_calls.specs.Asks.{first}
use Rattle.channel_calls.specs.Walks.{WalkedTo}
use Rattle.channel_calls.specs.declared.ask.ChannelAsk.TheVariants as ask
use Rattle.channel_calls.specs.declared.reply.Reply.TheVariants as reply
use Rattle.async_channel.specs.Handles.{form_of}
use Rattle.async_channel.proofs.Traces.{on_channel}
use Rattle.async_channel.proofs.traced.sends.Traced+T+R+OfSenders.force_send.Goals as goal

pub returns-clause-walked : goal.returns-clause-walked
returns-clause-walked g c =
    on_channel g.S.Trace-2.did g.S.Trace-1.shown g.S.Trace-1.entered (λ saw. WalkedTo saw (first (ask.ForceSend c.args.message))) c.args.self.now (form_of c.cells.result.cells.shared.now) c.args.trace c.cells.result.trace (reply.ForceSend c.force_send.result.0) c.force_send.result.1 c.cells.ensures.form c.cells.ensures.trace c.force_send.ensures.walked
