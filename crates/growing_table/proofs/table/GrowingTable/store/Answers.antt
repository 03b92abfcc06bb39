use Rattle.growing_table.specs.State.{step, own}
use Rattle.growing_table.specs.Seats.{me_of}
use Rattle.growing_table.proofs.Asks.{own_asks}
use Rattle.growing_table.proofs.table.GrowingTable.store.Goals as goal

pub store-requires : goal.store-requires
store-requires g c = own_asks (g.P.GrowingRule.holds c.args.self.now.rows.key.about) c.args.self.now c.args.seat.now c.args.word c.requires.seat (λ _. c.args.new)
    (λ r. g.M.Play.then (step (own c.args.word) c.args.new 0) (me_of c.args.seat.now) c.args.new) c.requires.rule
