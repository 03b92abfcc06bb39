use Rattle.std.proofs.Common.{inl}
use Rattle.unbounded_cells.proofs.cells.BlockCellsCells.load.Goals as goal

pub load-requires : goal.load-requires
load-requires g c = record { next = λ n. c.requires.may n }

pub returns-clause-deed : goal.returns-clause-deed
returns-clause-deed g c =
    let e = c.load.ensures in
    (inl e.made, e.same.2, (e.same.0, e.same.1, e.same.3))
