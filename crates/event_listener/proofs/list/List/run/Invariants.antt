use Rattle.std.specs.VecDeque.{deque_len}
use Rattle.event_listener.proofs.RunLemmas.{GoesOn}
use Rattle.event_listener.proofs.list.List.run.Given as goal

abbrev pub invariant-loop-replies : goal.invariant-loop-replies
invariant-loop-replies g l = GoesOn g.S.Wakes.wakes l.fn.calls.items l.fn.self l.fn.sink l.replies.items l.calls.items l.self l.sink

abbrev pub decreases-loop-replies : goal.decreases-loop-replies
decreases-loop-replies g l = deque_len l.calls
