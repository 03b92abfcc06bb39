-- What one step of a machine leaves: the call's next action, its mark, and the reply where it ended the call; of one slot, of a ring and
-- of any call.
use Rattle.concurrent_queue.specs.machine.Dispatch as calls
use Rattle.concurrent_queue.specs.machine.RingWords as ring_words
use Rattle.concurrent_queue.specs.machine.Single as single_machine
use Rattle.concurrent_queue.specs.declared.bounded.RingAction.TheVariants as ring
use Rattle.concurrent_queue.specs.declared.single.SingleAction.TheVariants as single

abbrev TypeOf : {A : Type 0} → A → Type 0
TypeOf {A} x = A

abbrev pub SingleStep : Type 0 → Type 0
SingleStep T = TypeOf (single_machine.stays {T = T} single.Finished)

abbrev pub RingStep : Type 0 → Type 0
RingStep T = TypeOf (ring_words.stays {T = T} ring.Finished)

abbrev pub CallStep : Type 0 → Type 0
CallStep T = TypeOf (calls.ended {T = T})
