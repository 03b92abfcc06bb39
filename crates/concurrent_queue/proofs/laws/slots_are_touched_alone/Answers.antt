-- From who holds which place of a queue.
use Rattle.concurrent_queue.proofs.SlotsTouched.{slots_are_as_expected, slots_are_touched_alone}
use Rattle.concurrent_queue.proofs.laws.slots_are_touched_alone.Goals as goal

pub returns : goal.returns
returns g c = record { alone = slots_are_touched_alone; expected = slots_are_as_expected }
