use Rattle.std.proofs.Common.{ℕ, sym, ap, ◌∙◌, subst}
use Rattle.std.specs.Prelude.{Option, Some}
use Rattle.growing_table.specs.Seats.{me_of, number_of}
use Rattle.growing_table.specs.State.{Me, Allows, step, within}
use Rattle.concurrent_queue.specs.Bridge.{does}
use Rattle.concurrent_queue.specs.Deeds.{retired}
use Rattle.concurrent_queue.specs.declared.cells.QueueForm.TheVariants.{Unbounded}
use Rattle.unbounded_cells.specs.Rule.{IsRuled}
use Rattle.unbounded_cells.specs.Seated.{party_of}
use Rattle.unbounded_cells.specs.SpareTold.{writes_link}
use Rattle.unbounded_cells.specs.declared.rule.BlockView.{BlockView}
use Rattle.unbounded_cells.proofs.SpareList.{reads_top}
use Rattle.unbounded_cells.proofs.SpareSteps.{writes_link_so, retires_one}
use Rattle.unbounded_cells.proofs.spares.retire_one.Goals as goal

pub load-top-requires-clause-rule : goal.load-top-requires-clause-rule
load-top-requires-clause-rule g c =
    let s = c.args.seat.now in
    reads_top g.P.Machine.keeps g.met.P.BlockMachine.blocks g.P.Machine.admits (number_of s) (me_of s) c.requires.seat.2

pub store_in-requires-clause-rule : goal.store_in-requires-clause-rule
store_in-requires-clause-rule g c =
    let s = c.args.seat.now in
    let q = c.requires in
    let n = number_of c.load-top.new.seat in
    let b = c.args.place.number in
    let top = c.load-top.result in
    subst (λ (m : Me (Option g.row.T.Denot) (BlockView g.row.T.Denot g.row.A.Denot)). Allows (IsRuled g.P.Machine.moves g.P.Machine.history g.P.BlockMachine.sized g.P.Machine.admits) n m (within b 34) (λ _. top) (λ _. writes_link (step (within b 34) top 0) m top)) (sym c.load-top.ensures.told.0)
    (writes_link_so g.P.Machine.keeps g.met.P.BlockMachine.blocks g.P.Machine.admits n b top (me_of s) (sym c.load-top.ensures.told.1) q.seat.2 q.seat.3 q.next)

pub store-requires-clause-rule : goal.store-requires-clause-rule
store-requires-clause-rule g c =
    let s = c.store_in.new.seat in
    let q = c.requires in
    let e = c.load-top.ensures.told.0 in
    let f = c.store_in.ensures.told in
    let b = c.number.result in
    let is = c.number.ensures in
    retires_one g.P.Machine.keeps g.met.P.BlockMachine.blocks g.P.Machine.admits (number_of s) b (me_of s) (ap (λ y. y.view.keeper) f ∙ (ap (λ y. y.view.keeper) e ∙ q.seat.2)) (ap (λ y. y.view.party.spent) f ∙ (ap (λ y. y.view.party.spent) e ∙ q.seat.3))
    (ap (λ y. y.view.link) f ∙ (ap (λ (t : ℕ). Some (c.args.place.number, t)) (c.load-top.ensures.told.1 ∙ sym (ap (λ y. y.view.top) f ∙ ap (λ y. y.view.top) e)) ∙ ap (λ (k : ℕ). Some (k, (me_of s).view.top)) (sym is)))
    (subst (λ (z : g.row.A.Denot). (a : g.row.A.Denot) × g.P.Machine.moves Unbounded z (does (Some (retired b))) a) (sym (ap (λ y. y.view.party.state) f ∙ ap (λ y. y.view.party.state) e))
    (subst (λ (k : ℕ). (a : g.row.A.Denot) × g.P.Machine.moves Unbounded (party_of c.args.seat.now).state (does (Some (retired k))) a) (sym is) q.next))
