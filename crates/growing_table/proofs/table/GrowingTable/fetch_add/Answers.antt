use Rattle.std.specs.Prelude.{◌+◌, ◌%◌, ◌^◌}
use Rattle.growing_table.specs.State.{step, own}
use Rattle.growing_table.specs.Seats.{me_of}
use Rattle.growing_table.proofs.Asks.{own_asks}
use Rattle.growing_table.proofs.table.GrowingTable.fetch_add.Goals as goal

pub fetch_add-requires : goal.fetch_add-requires
fetch_add-requires g c = own_asks (g.P.GrowingRule.holds c.args.self.now.rows.key.about) c.args.self.now c.args.seat.now c.args.word c.requires.seat (λ n. (n + c.args.by) % 2 ^ 64)
    (λ r. g.M.Play.then (step (own c.args.word) c.args.by 0) (me_of c.args.seat.now) r) c.requires.rule
