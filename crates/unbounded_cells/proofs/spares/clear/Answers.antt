use Rattle.std.proofs.Common.{ap, ◌∙◌, arith}
use Rattle.growing_table.specs.Seats.{me_of, number_of}
use Rattle.unbounded_cells.proofs.SpareList.{clears}
use Rattle.unbounded_cells.proofs.spares.clear.Goals as goal

pub store_in-requires-clause-rule : goal.store_in-requires-clause-rule
store_in-requires-clause-rule g c =
    let s = c.args.seat.now in
    let q = c.requires in
    clears g.P.Machine.keeps g.met.P.BlockMachine.blocks g.P.Machine.admits (number_of s) c.args.place.number 0 (me_of s) q.seat.2 q.seat.3 (omega arith) q.first.0 q.first.1

pub store_in-requires-2-clause-rule : goal.store_in-requires-2-clause-rule
store_in-requires-2-clause-rule g c =
    let s = c.store_in.new.seat in
    let q = c.requires in
    let e = c.store_in.ensures.told in
    clears g.P.Machine.keeps g.met.P.BlockMachine.blocks g.P.Machine.admits (number_of s) c.args.place.number 1 (me_of s) (ap (λ y. y.view.keeper) e ∙ q.seat.2) (ap (λ y. y.view.party.spent) e ∙ q.seat.3) (omega arith)
    (ap (λ y. y.view.top) e ∙ q.first.0) (ap (λ y. y.view.cleared) e)

pub store_in-requires-3-clause-rule : goal.store_in-requires-3-clause-rule
store_in-requires-3-clause-rule g c =
    let s = c.store_in-2.new.seat in
    let q = c.requires in
    let e = c.store_in.ensures.told in
    let f = c.store_in-2.ensures.told in
    clears g.P.Machine.keeps g.met.P.BlockMachine.blocks g.P.Machine.admits (number_of s) c.args.place.number 2 (me_of s) (ap (λ y. y.view.keeper) f ∙ (ap (λ y. y.view.keeper) e ∙ q.seat.2)) (ap (λ y. y.view.party.spent) f ∙ (ap (λ y. y.view.party.spent) e ∙ q.seat.3))
    (omega arith) (ap (λ y. y.view.top) f ∙ (ap (λ y. y.view.top) e ∙ q.first.0)) (ap (λ y. y.view.cleared) f)
