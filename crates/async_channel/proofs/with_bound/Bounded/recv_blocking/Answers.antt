use Rattle.async_channel.proofs.Parties.{found_none, found_trans, received_after}
use Rattle.async_channel.proofs.with_bound.Bounded.recv_blocking.Goals as goal

pub loop-init : goal.loop-init
loop-init g c = (c.requires.here, c.requires.rests, found_none _)

pub returns-in-Ok-clause-called : goal.returns-in-Ok-clause-called
returns-in-Ok-clause-called g c = received_after c.in-Ok.over.0 c.in-Ok.over.1 c.loop.invariant.2 c.in-Ok.ensures.0

pub returns-then-is_completed-clause-called : goal.returns-then-is_completed-clause-called
returns-then-is_completed-clause-called g c = received_after c.waits_to_receive.result.0 c.waits_to_receive.result.1 (found_trans c.loop.invariant.2 c.in-Err.ensures.2) c.waits_to_receive.ensures.called

pub loop-preserved : goal.loop-preserved
loop-preserved g c = let left = c.in-Err.ensures in (left.0, left.1, found_trans c.loop.invariant.2 left.2)
