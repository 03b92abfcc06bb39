use Rattle.std.proofs.Common.{refl, None}
use Rattle.concurrent_queue.specs.declared.call.QueueReply.TheVariants as reply
use Rattle.concurrent_queue.specs.declared.unbounded.ending.Ending.TheVariants as ending
use Rattle.concurrent_queue.proofs.unbounded.capacity.Goals as goal

pub returns-clause-answers : goal.returns-clause-answers
returns-clause-answers g c = (ending.Replied (reply.Cap None), refl, refl)
