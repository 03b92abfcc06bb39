use Rattle.growing_table.proofs.SeatAsks.{split_asks}
use Rattle.growing_table.proofs.table.GrowingTable.split_seat.Goals as goal

pub split_seat-new-requires : goal.split_seat-new-requires
split_seat-new-requires g c = let v = c.args.seat.now.seat.me.view.client in split_asks (g.P.GrowingRule.holds c.args.self.now.rows.key.about) c.args.self.now c.args.seat.now c.requires.seat (g.M.Split.left v) (g.M.Split.right v) c.requires.rule
