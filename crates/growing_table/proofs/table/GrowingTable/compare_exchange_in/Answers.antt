use Rattle.std.specs.Prelude.{◌==◌}
use prog.Atomic.{either}
use Rattle.growing_table.specs.State.{step, within}
use Rattle.growing_table.specs.Seats.{me_of}
use Rattle.growing_table.proofs.Asks.{block_asks}
use Rattle.growing_table.proofs.table.GrowingTable.compare_exchange_in.Goals as goal

pub compare_exchange-requires : goal.compare_exchange-requires
compare_exchange-requires g c = block_asks (g.P.GrowingRule.holds c.args.self.now.rows.key.about) c.args.self.now c.args.seat.now c.args.place c.args.word c.requires.seat (λ n. either (n == c.args.old) c.args.new n)
    (λ b r. g.M.Play.then (step (within b c.args.word) c.args.old c.args.new) (me_of c.args.seat.now) r) c.requires.rule
