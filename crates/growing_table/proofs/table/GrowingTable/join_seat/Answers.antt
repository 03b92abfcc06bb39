use Rattle.growing_table.proofs.SeatAsks.{join_asks}
use Rattle.growing_table.proofs.table.GrowingTable.join_seat.Goals as goal

pub join_seat-requires : goal.join_seat-requires
join_seat-requires g c = let q = c.requires.seats in
    join_asks (g.P.GrowingRule.holds c.args.self.now.rows.key.about) c.args.self.now c.args.seat.now q.0 c.args.other q.1 q.2 (g.M.Join.both c.args.seat.now.seat.me.view.client c.args.other.seat.me.view.client) g.M.Join.spent c.requires.rule
