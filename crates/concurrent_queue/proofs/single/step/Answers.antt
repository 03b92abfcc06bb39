use Rattle.std.proofs.Common.{Ok, Err, refl}
use Rattle.concurrent_queue.proofs.single.step.Goals as goal

pub returns-in-Ok-clause-deed : goal.returns-in-Ok-clause-deed
returns-in-Ok-clause-deed g c = rw (c.in-PushPut.is, c.stay.ensures) (Ok c.in-Ok.field-0, c.in-Ok.ensures.deed, refl)

pub returns-in-Err-clause-deed : goal.returns-in-Err-clause-deed
returns-in-Err-clause-deed g c = rw (c.in-PushPut.is, c.stay-in-Err.ensures) (Err c.in-Err.value, c.in-Err.ensures.deed, refl)

pub returns-in-Ok-put-clause-deed : goal.returns-in-Ok-put-clause-deed
returns-in-Ok-put-clause-deed g c = rw (c.in-ForcePut.is, c.stay-in-Ok-put.ensures) (Ok c.in-Ok-put.field-0, c.in-Ok-put.ensures.deed, refl)

pub returns-in-Err-put-clause-deed : goal.returns-in-Err-put-clause-deed
returns-in-Err-put-clause-deed g c = rw (c.in-ForcePut.is, c.stay-in-Err-put.ensures) (Err c.in-Err-put.value, c.in-Err-put.ensures.deed, refl)
