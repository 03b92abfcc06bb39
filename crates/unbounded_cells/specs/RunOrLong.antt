-- What is known of running threads whose table has the history of the queue's own machine.
use Rattle.std.specs.Prelude.{◌⊎◌}
use Rattle.concurrent_queue.specs.history.Runs.{moves, history, IsRunWith}
use Rattle.concurrent_queue.specs.declared.history.party.Standing.{Standing}
use Rattle.concurrent_queue.specs.declared.history.rule.View.{View}
use Rattle.unbounded_cells.specs.Laws.{Long}
use Rattle.unbounded_cells.specs.Queue.{sized}

module _ {T : Type 0} where
  -- what all parties did is a run of the queue, with this party in it; or there was a history as long as there are positions
  abbrev pub IsRunOrLong : View T (Standing T) → Type 0
  IsRunOrLong v = IsRunWith v ⊎ Long {T = T} {A = Standing T} moves history sized
