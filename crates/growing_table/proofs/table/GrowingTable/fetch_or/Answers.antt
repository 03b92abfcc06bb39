use Rattle.std.specs.Prelude.{bit_or}
use Rattle.growing_table.specs.State.{step, own}
use Rattle.growing_table.specs.Seats.{me_of}
use Rattle.growing_table.proofs.Asks.{own_asks}
use Rattle.growing_table.proofs.table.GrowingTable.fetch_or.Goals as goal

pub fetch_or-requires : goal.fetch_or-requires
fetch_or-requires g c = own_asks (g.P.GrowingRule.holds c.args.self.now.rows.key.about) c.args.self.now c.args.seat.now c.args.word c.requires.seat (λ n. bit_or n c.args.bits)
    (λ r. g.M.Play.then (step (own c.args.word) c.args.bits 0) (me_of c.args.seat.now) r) c.requires.rule
