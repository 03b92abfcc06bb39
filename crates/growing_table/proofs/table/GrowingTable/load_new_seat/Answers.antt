use Rattle.growing_table.proofs.SeatAsks.{entry_asks}
use Rattle.growing_table.proofs.table.GrowingTable.load_new_seat.Goals as goal

pub load_new_seat-found-requires : goal.load_new_seat-found-requires
load_new_seat-found-requires g c = entry_asks (g.P.GrowingRule.holds c.args.self.now.rows.key.about) c.args.self.now (g.P.GrowingRule.first c.args.self.now.rows.key.about) c.args.word c.requires.word g.M.Play.then c.requires.rule
