use Rattle.std.proofs.Common.{subst}
use Rattle.std.specs.Prelude.{None, Some}
use Rattle.concurrent_queue.specs.Bridge.{does}
use Rattle.concurrent_queue.specs.Deeds.{did_take}
use Rattle.concurrent_queue.specs.declared.cells.Slot.{Slot}
use Rattle.concurrent_queue.proofs.HistoryWords.{none_taken}
use Rattle.concurrent_queue.proofs.history.table.CallSeat.try_take.Goals as goal

pub happen-requires : goal.happen-requires
happen-requires g c = record { quiet = none_taken _ c.args.at c.in-None.ensures; next = c.requires.next None }

pub take_from-requires-clause-next : goal.take_from-requires-clause-next
take_from-requires-clause-next g c = λ o.
    subst (λ (s : Slot). (x : g.row.A.Denot) × g.P.Machine.moves c.args.self.now.seat.me.0.form c.args.self.now.seat.me.0.state (does (Some (did_take s o))) x) c.in-Some.ensures.0 (c.requires.next o)
