use Rattle.std.proofs.Common.{refl}
use Rattle.unbounded_cells.proofs.CallSteps.{puts_by}
use Rattle.unbounded_cells.proofs.slots.win_to_put.Goals as goal

pub compare_exchange_in-requires-clause-rule : goal.compare_exchange_in-requires-clause-rule
compare_exchange_in-requires-clause-rule g c =
    let b = c.requires.brought in
    let f = c.requires.free in
    puts_by g.P.Machine.keeps g.met.P.BlockMachine.blocks g.P.Machine.admits _ _ _ refl f.2 f.1 _ _ c.requires.seat.2 f.0 b.0 _ b.2 b.3
