use Rattle.std.proofs.Common.{refl}
use Rattle.concurrent_queue.specs.Tracked.{Moves, tracked_may, tracked_goes}
use Rattle.concurrent_queue.specs.declared.queue_call.QueueCall.{QueueCall}
use Rattle.concurrent_queue.proofs.laws.calls_keep_what_cells_ask.Goals as goal

pub returns : goal.returns
returns g c = record {
  asked = λ form.
      let C = QueueCall g.row.T.Denot in (
        tracked_may (λ (call : C). form) (λ (call : C). call) (λ d call. (next : C) × Moves form call d next) (λ call d next moves. (next, moves)),
        tracked_goes (λ (call : C). form) (λ (call : C). call) (λ d call next. Moves form call d next) (λ call next d moves. moves) (λ call next d moves. refl),
      );
}
