use Rattle.std.proofs.Common.{subst}
use Rattle.std.specs.Prelude.{Option}
use Rattle.event_listener.specs.declared.key.Key.{Key}
use Rattle.channel_calls.specs.Asks.{first}
use Rattle.channel_calls.specs.Walks.{WalkedTo}
use Rattle.channel_calls.specs.declared.ask.ChannelAsk.TheVariants as ask
use Rattle.channel_calls.specs.declared.reply.Reply.TheVariants as reply
use Rattle.async_channel.specs.Handles.{channel_of, form_of}
use Rattle.async_channel.specs.Saw.{Saw}
use Rattle.async_channel.proofs.Traces.{on_channel}
use Rattle.async_channel.proofs.polls.Shared+T.give_up.Goals as goal

pub returns-clause-walked : goal.returns-clause-walked
returns-clause-walked g c =
    let form = form_of c.cells-seen.result.cells.shared.now in
    on_channel g.S.Trace-2.did g.S.Trace-1.shown g.S.Trace-1.entered (λ saw. WalkedTo saw (first (ask.GiveUp g.L.Line.line c.args.message c.args.waits.key))) (channel_of c.args.self.now) form c.args.trace c.cells-seen.result.trace (reply.GivenUp c.give_up.result.0) c.give_up.result.1 c.cells-seen.ensures.form c.cells-seen.ensures.trace
    (subst (λ (k : Option Key). WalkedTo (Saw g.S.Trace-2.did g.S.Trace-1.shown form) (first (ask.GiveUp g.L.Line.line c.args.message k)) c.cells-seen.result.trace (reply.GivenUp c.give_up.result.0) c.give_up.result.1) c.end.ensures
    (subst (λ l. WalkedTo (Saw g.S.Trace-2.did g.S.Trace-1.shown form) (first (ask.GiveUp l c.args.message c.end.result)) c.cells-seen.result.trace (reply.GivenUp c.give_up.result.0) c.give_up.result.1) c.line.ensures c.give_up.ensures.walked))
