use Rattle.unbounded_cells.proofs.Parties.{names_so}
use Rattle.unbounded_cells.proofs.table.BlockTable.name.Goals as goal

pub load-requires-clause-rule : goal.load-requires-clause-rule
load-requires-clause-rule g c = names_so g.P.Machine.keeps g.met.P.BlockMachine.blocks g.P.Machine.admits _ 24 _ c.args.nameless.live
