use Rattle.std.proofs.Common.{rules, ◌≡◌, ◌∙◌, refl, ap}
use Rattle.futures.specs.declared.task.Poll.TheVariants.{Pending}
use Rattle.channel_calls.specs.declared.reply.Reply.TheVariants as reply
use Rattle.async_channel.proofs.Parties.{found_none, found_poll, polls_this}
use Rattle.async_channel.proofs.with_bound.Bounded.waits_to_send.Goals as goal

pub loop-init : goal.loop-init
loop-init g c = (c.requires.here, c.requires.rests, found_none _, refl)

pub loop-preserved : goal.loop-preserved
loop-preserved g c =
    let p = c.poll_send-polled in
    let pending : p.result.0 ≡ Pending = search rules in
    (p.ensures.called.0, p.ensures.listener, found_poll (reply.SendPoll p.result.0) (reply.SendPoll Pending) p.result.2 c.loop.invariant.2 p.ensures.called (polls_this c.loop.key c.task-task.result c.loop.invariant.3) (ap (λ x. reply.SendPoll x) pending) tt, search rules)
