use Rattle.std.proofs.Common.{◌∙◌, refl}
use Rattle.async_channel.proofs.Parties.{found_named, found_none, found_trans, sent_after, sent_named}
use Rattle.async_channel.proofs.with_bound.Bounded.send_blocking.Goals as goal

pub loop-init : goal.loop-init
loop-init g c = (c.requires.here, c.requires.rests, found_none _, refl)

pub returns-in-Ok-clause-called : goal.returns-in-Ok-clause-called
returns-in-Ok-clause-called g c = sent_after c.in-Ok.over.0 c.in-Ok.over.1 c.loop.invariant.2 (sent_named c.in-Ok.over.0 c.in-Ok.over.1 c.loop.invariant.3 c.in-Ok.ensures.0)

pub returns-then-is_completed-clause-called : goal.returns-then-is_completed-clause-called
returns-then-is_completed-clause-called g c =
    let left = c.in-Err.ensures in
    sent_after c.waits_to_send.result.0 c.waits_to_send.result.1 (found_trans c.loop.invariant.2 (found_named c.loop.invariant.3 left.3))
    (sent_named c.waits_to_send.result.0 c.waits_to_send.result.1 (left.0 ∙ c.loop.invariant.3) c.waits_to_send.ensures.called)

pub loop-preserved : goal.loop-preserved
loop-preserved g c = let left = c.in-Err.ensures in (left.1, left.2, found_trans c.loop.invariant.2 (found_named c.loop.invariant.3 left.3), left.0 ∙ c.loop.invariant.3)
