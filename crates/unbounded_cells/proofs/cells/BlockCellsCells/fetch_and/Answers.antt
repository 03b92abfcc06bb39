use Rattle.std.proofs.Common.{inl}
use Rattle.unbounded_cells.proofs.cells.BlockCellsCells.fetch_and.Goals as goal

pub fetch_and-requires : goal.fetch_and-requires
fetch_and-requires g c = record { next = λ n. c.requires.may n }

pub returns-clause-deed : goal.returns-clause-deed
returns-clause-deed g c =
    let e = c.fetch_and.ensures in
    (inl e.made, e.same.2, (e.same.0, e.same.1, e.same.3))
