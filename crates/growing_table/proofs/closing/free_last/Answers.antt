use Rattle.std.proofs.Common.{◌+◌, ◌∙◌, ap, set}
use Rattle.atomic_blocks.specs.Cells.{no_row}
use Rattle.growing_table.proofs.Ends.{one_less}
use Rattle.growing_table.proofs.closing.free_last.Goals as goal

pub returns-clause-rows : goal.returns-clause-rows
returns-clause-rows g c wide root e = one_less wide c.args.cells root c.args.top.ptr c.args.number c.args.closed.now.rows e c.take.new.self.rows (c.take.ensures.left.1 ∙ ap (λ z. set z.rows (c.args.number + 2) no_row) c.last_place-len.ensures.same)
