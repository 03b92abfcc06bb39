use Rattle.std.proofs.Common.{sym, subst, ◌∙◌}
use Rattle.atomic_table.specs.Table.{Joins}
use Rattle.concurrent_queue.specs.history.Shared.{IsRuled, taking_in}
use Rattle.concurrent_queue.specs.declared.history.rule.View.{View}
use Rattle.concurrent_queue.proofs.HistoryParties.{takes_in_so}
use Rattle.concurrent_queue.proofs.HistorySteps.{word_there}
use Rattle.concurrent_queue.proofs.history.table.CallSeat.take_in_as.Goals as goal

pub join_seat-requires : goal.join_seat-requires
join_seat-requires g c =
    let p = c.args.self.now in
    let w = c.args.other in
    let key = p.table.now.shared.key in
    let joins = takes_in_so g.P.Machine.keeps g.P.Machine.admits key p.seat.id w.seat.id p.seat.me.0 w.seat.me.0 p.live w.live in (
      p.seated.0,
      c.requires.other ∙ p.seated.0,
      w.free.1,
      word_there key _ p.words,
      subst (λ (x : View g.row.T.Denot g.row.A.Denot). Joins (IsRuled g.P.Machine.history g.P.Machine.admits key) p.seat.id p.seat.me.0 w.seat.id w.seat.me.0 (taking_in g.P.Machine.both p.seat.me.0 w.seat.me.0) x) (sym c.requires.spent) joins,
    )
