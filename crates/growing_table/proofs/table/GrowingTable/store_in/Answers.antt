use Rattle.growing_table.specs.State.{step, within}
use Rattle.growing_table.specs.Seats.{me_of}
use Rattle.growing_table.proofs.Asks.{block_asks}
use Rattle.growing_table.proofs.table.GrowingTable.store_in.Goals as goal

pub store-requires : goal.store-requires
store-requires g c = block_asks (g.P.GrowingRule.holds c.args.self.now.rows.key.about) c.args.self.now c.args.seat.now c.args.place c.args.word c.requires.seat (λ _. c.args.new)
    (λ b r. g.M.Play.then (step (within b c.args.word) c.args.new 0) (me_of c.args.seat.now) c.args.new) c.requires.rule
