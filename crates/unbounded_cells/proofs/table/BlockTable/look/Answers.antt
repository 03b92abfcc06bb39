use Rattle.unbounded_cells.proofs.SeatSteps.{looks_so}
use Rattle.unbounded_cells.proofs.table.BlockTable.look.Goals as goal

pub load-found-requires-clause-rule : goal.load-found-requires-clause-rule
load-found-requires-clause-rule g c =
    let v = c.args.idle.now in
    looks_so g.P.Machine.keeps g.met.P.BlockMachine.blocks g.P.Machine.admits _ _ v.live v.named
