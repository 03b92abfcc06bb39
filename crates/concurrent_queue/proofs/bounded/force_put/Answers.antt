use Rattle.std.proofs.Common.{Ok, Err, refl}
use Rattle.concurrent_queue.proofs.bounded.force_put.Goals as goal

pub returns-in-Ok-clause-deed : goal.returns-in-Ok-clause-deed
returns-in-Ok-clause-deed g c = rw (← c.index.ensures, c.stay.ensures) (Ok c.in-Ok.field-0, c.in-Ok.ensures.deed, refl)

pub returns-in-Err-clause-deed : goal.returns-in-Err-clause-deed
returns-in-Err-clause-deed g c = rw (← c.index.ensures, c.stay-in-Err.ensures) (Err c.in-Err.value, c.in-Err.ensures.deed, refl)
