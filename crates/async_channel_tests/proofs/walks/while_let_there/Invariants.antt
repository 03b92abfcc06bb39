use Rattle.std.specs.Iterator.{EndsFrom, items_left}
use Rattle.async_channel_tests.proofs.walks.while_let_there.Given as goal

abbrev pub invariant-loop-message : goal.invariant-loop-message
invariant-loop-message g l = g.I.Iterator.can_next l.walk × EndsFrom g.I.Iterator.remaining l.walk

abbrev pub decreases-loop-message : goal.decreases-loop-message
decreases-loop-message g l = items_left g.I.Iterator.remaining l.walk
