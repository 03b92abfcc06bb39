use Rattle.std.proofs.Common.{ℕ, ◌<◌, ◌≤◌, ◌-◌, ◌^◌, ◌==◌, false, arith}
use Rattle.concurrent_queue.specs.declared.history.rule.CountStep.TheVariants.{Raise}
use Rattle.channel_cells.proofs.Counting.{may_count, refuses}
use Rattle.channel_cells.proofs.cells.steps.CallCellsChannelCells.raise.Goals as goal
use Rattle.channel_cells.specs.Cells.{view_of, form_in}

pub turn_by-requires : goal.turn_by-requires
turn_by-requires g c =
    let k : ℕ = c.args.from in
    let over : 2 ^ 64 - 1 ≤ k = omega (arith, c.if-from.true) in
    record { next = refuses (form_in c.args.self.now) (view_of c.args.self.now) c.args.side k over (c.requires.may false) }

pub raise_count-found-requires-clause-next : goal.raise_count-found-requires-clause-next
raise_count-found-requires-clause-next g c =
    let k : ℕ = c.args.from in
    let room : k < 2 ^ 64 - 1 = omega (arith, c.if-from.false, c.ranges.from.fits) in
    may_count (form_in c.args.self.now) (view_of c.args.self.now) c.counter_of.result c.args.side c.counter_of.ensures (Raise k) (λ n. c.requires.may (n == k)) (λ n e. room)
