use Rattle.std.proofs.Common.{ap, ◌∙◌}
use Rattle.growing_table.specs.Seats.{me_of, number_of}
use Rattle.unbounded_cells.specs.Rule.{first_words}
use Rattle.unbounded_cells.proofs.SeatSteps.{opens_so, splits_so}
use Rattle.unbounded_cells.proofs.table.BlockTable.new.Goals as goal

pub new-requires-clause-rule : goal.new-requires-clause-rule
new-requires-clause-rule g c = opens_so g.P.Machine.keeps g.met.P.BlockMachine.blocks g.P.Machine.admits _ (c.opening_words-words.ensures ∙ ap first_words c.requires.counted)

pub split_maker-requires-clause-rule : goal.split_maker-requires-clause-rule
split_maker-requires-clause-rule g c =
    let s = c.in_ok-table.seat in
    let e = c.in_ok-table.ensures.seat.3 in
    splits_so g.P.Machine.keeps g.met.P.BlockMachine.blocks g.P.Machine.admits (number_of s) (me_of s).view g.P.BlockMachine.idle (ap (λ y. y.view.keeper) e) (ap (λ y. y.view.party.spent) e) g.met.P.BlockMachine.idles
