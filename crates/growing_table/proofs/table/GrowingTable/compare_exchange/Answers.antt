use Rattle.std.specs.Prelude.{◌==◌}
use prog.Atomic.{either}
use Rattle.growing_table.specs.State.{step, own}
use Rattle.growing_table.specs.Seats.{me_of}
use Rattle.growing_table.proofs.Asks.{own_asks}
use Rattle.growing_table.proofs.table.GrowingTable.compare_exchange.Goals as goal

pub compare_exchange-requires : goal.compare_exchange-requires
compare_exchange-requires g c = own_asks (g.P.GrowingRule.holds c.args.self.now.rows.key.about) c.args.self.now c.args.seat.now c.args.word c.requires.seat (λ n. either (n == c.args.old) c.args.new n)
    (λ r. g.M.Play.then (step (own c.args.word) c.args.old c.args.new) (me_of c.args.seat.now) r) c.requires.rule
