use Rattle.std.proofs.Common.{refl}
use Rattle.unbounded_cells.proofs.CallSteps.{misses_here}
use Rattle.unbounded_cells.proofs.table.BlockCall.locate.Goals as goal

pub find-found-requires-clause-rule : goal.find-found-requires-clause-rule
find-found-requires-clause-rule g c =
    let p = c.args.self.now in
    misses_here g.P.Machine.keeps g.met.P.BlockMachine.blocks g.P.Machine.admits _ _ _ refl p.formed p.live _ _ c.requires.on c.requires.next
