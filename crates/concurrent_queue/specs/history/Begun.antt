-- A call of a queue with a bound, by what the view of its seat says.
use Rattle.std.specs.Prelude.{◌≡◌}
use Rattle.concurrent_queue.specs.history.Runs.{begun}
use Rattle.concurrent_queue.specs.declared.call.QueueAsk.{QueueAsk}
use Rattle.concurrent_queue.specs.declared.history.party.Standing.{Standing}
use Rattle.concurrent_queue.specs.declared.history.rule.View.{View}

module _ {T : Type 0} where
  -- the party has just begun a call that asks this
  abbrev pub IsBegun : View T (Standing T) → QueueAsk T → Type 0
  IsBegun v a = (p : Standing T) × (v.state ≡ begun a p)
