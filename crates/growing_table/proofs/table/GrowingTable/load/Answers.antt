use Rattle.growing_table.specs.State.{step, own}
use Rattle.growing_table.specs.Seats.{me_of}
use Rattle.growing_table.proofs.Asks.{own_asks}
use Rattle.growing_table.proofs.table.GrowingTable.load.Goals as goal

pub load-requires : goal.load-requires
load-requires g c = own_asks (g.P.GrowingRule.holds c.args.self.now.rows.key.about) c.args.self.now c.args.seat.now c.args.word c.requires.seat (λ n. n)
    (λ r. g.M.Play.then (step (own c.args.word) 0 0) (me_of c.args.seat.now) r) c.requires.rule
