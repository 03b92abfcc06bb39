use Rattle.std.proofs.Common.{subst}
use Rattle.std.specs.Prelude.{Some, Err}
use Rattle.concurrent_queue.specs.Bridge.{does}
use Rattle.concurrent_queue.specs.Deeds.{did_put}
use Rattle.concurrent_queue.specs.declared.cells.Slot.{Slot}
use Rattle.concurrent_queue.proofs.HistoryWords.{none_put}
use Rattle.concurrent_queue.proofs.history.table.CallSeat.try_put.Goals as goal

pub happen-requires : goal.happen-requires
happen-requires g c = record { quiet = none_put _ c.args.at c.args.value c.in-None.ensures; next = c.requires.next (Err c.args.value) }

pub put_into-requires-clause-next : goal.put_into-requires-clause-next
put_into-requires-clause-next g c = λ o.
    subst (λ (s : Slot). (x : g.row.A.Denot) × g.P.Machine.moves c.args.self.now.seat.me.0.form c.args.self.now.seat.me.0.state (does (Some (did_put s c.args.value o))) x) c.in-Some.ensures.0 (c.requires.next o)
