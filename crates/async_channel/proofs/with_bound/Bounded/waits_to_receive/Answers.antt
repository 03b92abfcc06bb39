use Rattle.std.proofs.Common.{rules, ◌≡◌, ap, inr, refl}
use Rattle.futures.specs.declared.task.Poll.TheVariants.{Pending}
use Rattle.channel_calls.specs.declared.reply.Reply.TheVariants as reply
use Rattle.async_channel.proofs.Parties.{found_none, found_poll}
use Rattle.async_channel.proofs.with_bound.Bounded.waits_to_receive.Goals as goal

pub loop-init : goal.loop-init
loop-init g c = (c.requires.here, c.requires.rests, found_none _)

pub loop-preserved-in_default : goal.loop-preserved-in_default
loop-preserved-in_default g c =
    let p = c.poll_recv-polled in
    let pending : p.result.0 ≡ Pending = search rules in
    (p.ensures.called.0, p.ensures.listener, found_poll (reply.RecvPoll p.result.0) (reply.RecvPoll Pending) p.result.2 c.loop.invariant.2 p.ensures.called (inr (c.loop.key, c.task-task.result, refl)) (ap (λ x. reply.RecvPoll x) pending) tt)

pub loop-preserved : goal.loop-preserved
loop-preserved g c =
    let p = c.poll_recv-polled in
    let pending : p.result.0 ≡ Pending = search rules in
    (p.ensures.called.0, p.ensures.listener, found_poll (reply.RecvPoll p.result.0) (reply.RecvPoll Pending) p.result.2 c.loop.invariant.2 p.ensures.called (inr (c.loop.key, c.task-task.result, refl)) (ap (λ x. reply.RecvPoll x) pending) tt)
