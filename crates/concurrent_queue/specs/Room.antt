-- When a push into a queue of one owner can't be refused.
use Rattle.std.specs.Prelude.{◌≡◌, false, IsSome}
use Rattle.concurrent_queue.specs.Alone.{Held, is_full}

module _ {T : Type 0} where
  -- an open queue with a bound that holds fewer messages than fit
  abbrev pub HasPlace : Held T → Type 0
  HasPlace m = (m.closed ≡ false) × (is_full m ≡ false) × IsSome m.capacity
