use Rattle.std.specs.Prelude.{bit_or}
use Rattle.growing_table.specs.State.{step, within}
use Rattle.growing_table.specs.Seats.{me_of}
use Rattle.growing_table.proofs.Asks.{block_asks}
use Rattle.growing_table.proofs.table.GrowingTable.fetch_or_in.Goals as goal

pub fetch_or-requires : goal.fetch_or-requires
fetch_or-requires g c = block_asks (g.P.GrowingRule.holds c.args.self.now.rows.key.about) c.args.self.now c.args.seat.now c.args.place c.args.word c.requires.seat (λ n. bit_or n c.args.bits)
    (λ b r. g.M.Play.then (step (within b c.args.word) c.args.bits 0) (me_of c.args.seat.now) r) c.requires.rule
