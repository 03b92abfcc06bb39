use Rattle.std.proofs.Common.{inl}
use Rattle.unbounded_cells.proofs.cells.BlockCellsCells.store.Goals as goal

pub store-requires : goal.store-requires
store-requires g c = record { next = c.requires.may }

pub returns-clause-deed : goal.returns-clause-deed
returns-clause-deed g c =
    let e = c.store.ensures in
    (inl e.made, e.same.2, (e.same.0, e.same.1, e.same.3))
