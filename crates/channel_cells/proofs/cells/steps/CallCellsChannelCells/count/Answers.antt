use Rattle.concurrent_queue.specs.declared.history.rule.CountStep.TheVariants.{Read}
use Rattle.channel_cells.proofs.Counting.{may_count, counted_so}
use Rattle.channel_cells.proofs.cells.steps.CallCellsChannelCells.count.Goals as goal
use Rattle.channel_cells.specs.Cells.{view_of, form_in}

pub count-requires : goal.count-requires
count-requires g c = record { next = may_count (form_in c.args.self.now) (view_of c.args.self.now) c.counter_of.result c.args.side c.counter_of.ensures Read c.requires.may (λ n. tt) }

pub returns-clause-deed : goal.returns-clause-deed
returns-clause-deed g c =
    let same = c.count.ensures.same in
    let made = counted_so (form_in c.args.self.now) (view_of c.args.self.now) c.counter_of.result c.args.side c.counter_of.ensures Read c.count.new.self.seat.me.0.state c.count.result c.count.ensures.made in
    (made, same.2, (same.0, same.1, same.3))
