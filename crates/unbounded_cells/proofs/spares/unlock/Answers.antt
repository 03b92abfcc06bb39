use Rattle.growing_table.specs.Seats.{me_of, number_of}
use Rattle.unbounded_cells.proofs.SeatSteps.{splits_so}
use Rattle.unbounded_cells.proofs.spares.unlock.Goals as goal

pub split_maker-requires-clause-rule : goal.split_maker-requires-clause-rule
split_maker-requires-clause-rule g c =
    let s = c.args.seat.now in
    splits_so g.P.Machine.keeps g.met.P.BlockMachine.blocks g.P.Machine.admits (number_of s) (me_of s).view g.P.BlockMachine.idle c.requires.seat.2 c.requires.seat.3 g.met.P.BlockMachine.idles
