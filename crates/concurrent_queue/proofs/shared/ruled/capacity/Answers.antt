use Rattle.std.proofs.Common.{Some, subst, sym}
use Rattle.concurrent_queue.specs.Walked.{WalkedFrom}
use Rattle.concurrent_queue.specs.declared.call.QueueAsk.TheVariants as ask
use Rattle.concurrent_queue.specs.declared.call.QueueReply.TheVariants as reply
use Rattle.concurrent_queue.specs.declared.queue_call.CallState.TheVariants.{Asked}
use Rattle.concurrent_queue.proofs.Capacities.{capacity_walked}
use Rattle.concurrent_queue.proofs.shared.ruled.capacity.Goals as goal

pub returns-clause-walked : goal.returns-clause-walked
returns-clause-walked g c =
    subst (λ n. WalkedFrom g.S.Trace.did c.args.form (Asked ask.Capacity) c.args.trace (reply.Cap (Some n)) c.args.trace) (sym c.at_most_greatest-most.ensures)
    (capacity_walked g.S.Trace.did c.args.trace c.args.form c.in-Bounded.most c.in-Bounded.is)
