use Rattle.std.specs.VecDeque.{deque_len}
use Rattle.concurrent_queue.specs.Plain.{contents_of}
use Rattle.concurrent_queue.proofs.Runs.{IsRunning}
use Rattle.concurrent_queue.proofs.run.run_queue_steps.Given as goal

abbrev pub invariant-loop-cells : goal.invariant-loop-cells
invariant-loop-cells g l = IsRunning l.fn.form l.initial.steps.items l.steps.items l.trace.items (contents_of l.cells) l.parties.items

abbrev pub decreases-loop-cells : goal.decreases-loop-cells
decreases-loop-cells g l = deque_len l.steps
