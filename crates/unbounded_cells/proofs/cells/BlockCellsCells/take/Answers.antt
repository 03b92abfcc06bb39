use Rattle.std.proofs.Common.{ap, inl, inr, refl}
use Rattle.unbounded_cells.proofs.cells.BlockCellsCells.take.Goals as goal

pub try_take-requires : goal.try_take-requires
try_take-requires g c = record { next = λ o. c.requires.may o }

pub returns-in-Some-clause-deed : goal.returns-in-Some-clause-deed
returns-in-Some-clause-deed g c =
    let e = c.in-Some.ensures in
    (inl e.made, e.same.2, (e.same.0, e.same.1, e.same.3))

pub returns-in-None-clause-deed : goal.returns-in-None-clause-deed
returns-in-None-clause-deed g c =
    let e = c.in-None.ensures in
    (inr (refl, ap (λ m. m.view.party.state) e.made), e.same.2, (e.same.0, e.same.1, e.same.3))
