use Rattle.std.proofs.Common.{ap, ◌∙◌}
use Rattle.concurrent_queue.specs.history.Runs.{fresh}
use Rattle.concurrent_queue.proofs.shared.ruled.call_cells.Goals as goal

pub returns-clause-begun : goal.returns-clause-begun
returns-clause-begun g c = (fresh, ap (λ x. x.seat.seat.me.0.state) c.see_call.ensures.cells ∙ c.begin-seat.ensures.begun)
