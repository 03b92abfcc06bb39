use Rattle.std.proofs.Common.{sym, subst}
use Rattle.atomic_table.specs.Table.{Joins}
use Rattle.concurrent_queue.specs.history.Shared.{IsRuled, both_views}
use Rattle.concurrent_queue.specs.declared.history.rule.View.{View}
use Rattle.concurrent_queue.proofs.HistoryParties.{joins_so}
use Rattle.concurrent_queue.proofs.HistorySteps.{word_there}
use Rattle.concurrent_queue.proofs.history.table.RuledTable.join_as.Goals as goal

pub join_seat-requires : goal.join_seat-requires
join_seat-requires g c =
    let q = c.args.self.now in
    let v = c.args.one.now in
    let w = c.args.other in
    let joins = joins_so g.P.Machine.keeps g.P.Machine.admits q.table.shared.key v.seat.id w.seat.id v.seat.me.0 w.seat.me.0 v.live w.live w.named in (
      c.requires.one,
      c.requires.other,
      w.free.1,
      word_there q.table.shared.key _ q.words,
      subst (λ (x : View g.row.T.Denot g.row.A.Denot). Joins (IsRuled g.P.Machine.history g.P.Machine.admits q.table.shared.key) v.seat.id v.seat.me.0 w.seat.id w.seat.me.0 (both_views v.seat.me.0 w.seat.me.0) x) (sym c.requires.spent) joins,
    )
