use Rattle.std.specs.Prelude.{◌≡◌, ◌≤◌, ◌+◌, ◌++◌, length, vec_len, vec_capacity}
use Rattle.concurrent_queue.specs.Alone.{with_items}
use Rattle.concurrent_queue.specs.Walk.{walked}
use Rattle.concurrent_queue_tests.proofs.walks.walk_to_the_end.Given as goal

abbrev pub invariant-messages : goal.invariant-messages
invariant-messages g l =
    let left = (walked l.walk).now in
    ((walked l.walk).ghost_name ≡ (walked l.initial.walk).ghost_name)
    × (l.given.items ++ left.items ≡ l.fn.queue.items)
    × (left ≡ with_items l.fn.queue left.items)
    × (vec_len l.given + length left.items ≤ vec_capacity l.given)

abbrev pub decreases-messages : goal.decreases-messages
decreases-messages g l = length (walked l.walk).now.items
