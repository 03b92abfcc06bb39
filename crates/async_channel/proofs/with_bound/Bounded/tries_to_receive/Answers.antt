use Rattle.std.proofs.Common.{rules, ◌≡◌, refl, sym, subst}
use Rattle.std.proofs.Common.{Ok, Err}
use Rattle.channel_calls.specs.declared.error.TryRecvError.TheVariants.{Closed}
use Rattle.async_channel.proofs.Parties.{received_tried}
use Rattle.async_channel.proofs.with_bound.Bounded.tries_to_receive.Goals as goal

pub returns-in-Ok : goal.returns-in-Ok
returns-in-Ok g c = (received_tried _ _ _ (Ok c.in-Ok.message) c.try_recv-received.result.0 c.try_recv-received.result.1 c.try_recv-received.ensures.called (search rules) refl, c.try_recv-received.ensures.rests)

pub returns-in-Err-Closed : goal.returns-in-Err-Closed
returns-in-Err-Closed g c = (received_tried _ _ _ (Err Closed) c.try_recv-received.result.0 c.try_recv-received.result.1 c.try_recv-received.ensures.called (search rules) refl, c.try_recv-received.ensures.rests)
