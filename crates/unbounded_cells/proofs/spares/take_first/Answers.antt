use Rattle.std.proofs.Common.{◌≡◌, ℕ, ◌+◌, ◌<◌, ◌≤◌, sym, ap, ◌∙◌, subst, arith}
use Rattle.std.specs.Prelude.{Some, Ok, Err}
use Rattle.growing_table.specs.Seats.{me_of, number_of}
use Rattle.concurrent_queue.specs.Bridge.{does}
use Rattle.concurrent_queue.specs.Deeds.{spared}
use Rattle.concurrent_queue.specs.declared.cells.QueueForm.TheVariants.{Unbounded}
use Rattle.unbounded_cells.proofs.SpareList.{reads_link}
use Rattle.unbounded_cells.proofs.SpareSteps.{finds_spare, takes_spare_so}
use Rattle.unbounded_cells.proofs.spares.take_first.Goals as goal

pub find-requires-clause-rule : goal.find-requires-clause-rule
find-requires-clause-rule g c =
    let s = c.args.seat.now in
    let q = c.requires in
    finds_spare g.P.Machine.keeps g.met.P.BlockMachine.blocks g.P.Machine.admits (number_of s) c.args.number (me_of s) q.seat.1 q.seat.2 q.first.0 (q.next (Err (record {})))

pub load_in-link-requires-clause-rule : goal.load_in-link-requires-clause-rule
load_in-link-requires-clause-rule g c =
    let s = c.find.new.seat in
    let q = c.requires in
    let t = c.in-Some.ensures.told in
    let e = t.1.1 (let k : ℕ = t.0 in let n : ℕ = c.args.number in let top : ℕ = (me_of c.args.seat.now).view.top in let l : n < k = t.2.0 in let f : top ≡ n + 1 = q.first.0 in let z : top ≤ k = omega arith in z) in
    reads_link g.P.Machine.keeps g.met.P.BlockMachine.blocks g.P.Machine.admits (number_of s) c.in-Some.place.number (me_of s) (ap (λ y. y.view.keeper) e ∙ q.seat.1) (ap (λ y. y.view.party.spent) e ∙ q.seat.2)

pub store-requires-clause-rule : goal.store-requires-clause-rule
store-requires-clause-rule g c =
    let s = c.clear.new.seat in
    let q = c.requires in
    let t = c.in-Some.ensures.told in
    let e = t.1.1 (let k : ℕ = t.0 in let n : ℕ = c.args.number in let top : ℕ = (me_of c.args.seat.now).view.top in let l : n < k = t.2.0 in let f : top ≡ n + 1 = q.first.0 in let z : top ≤ k = omega arith in z) in
    let f = c.load_in-link.ensures.told in
    let h = c.clear.ensures.cleared in
    let b = c.in-Some.place.number in
    takes_spare_so g.P.Machine.keeps g.met.P.BlockMachine.blocks g.P.Machine.admits (number_of s) b c.load_in-link.result (me_of s)
    (ap (λ y. y.view.keeper) h ∙ (ap (λ y. y.view.keeper) f ∙ (ap (λ y. y.view.keeper) e ∙ q.seat.1)))
    (ap (λ y. y.view.party.spent) h ∙ (ap (λ y. y.view.party.spent) f ∙ (ap (λ y. y.view.party.spent) e ∙ q.seat.2)))
    (ap (λ y. y.view.top) h ∙ (ap (λ y. y.view.top) f ∙ (ap (λ y. y.view.top) e ∙ (q.first.0 ∙ ap (λ (n : ℕ). n + 1) (sym t.2.1)))))
    (ap (λ y. y.view.link) h ∙ ap (λ y. y.view.link) f)
    (ap (λ y. y.view.cleared) h)
    (subst (λ (z : g.row.A.Denot). (a : g.row.A.Denot) × g.P.Machine.moves Unbounded z (does (Some (spared (Ok b)))) a) (sym (ap (λ y. y.view.party.state) h ∙ (ap (λ y. y.view.party.state) f ∙ ap (λ y. y.view.party.state) e))) (q.next (Ok b)))
