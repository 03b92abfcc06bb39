use Rattle.std.proofs.Common.{inl}
use Rattle.unbounded_cells.proofs.cells.BlockCellsCells.fetch_or.Goals as goal

pub fetch_or-requires : goal.fetch_or-requires
fetch_or-requires g c = record { next = λ n. c.requires.may n }

pub returns-clause-deed : goal.returns-clause-deed
returns-clause-deed g c =
    let e = c.fetch_or.ensures in
    (inl e.made, e.same.2, (e.same.0, e.same.1, e.same.3))
