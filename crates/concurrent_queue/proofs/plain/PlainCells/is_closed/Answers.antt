-- The word that a form looks at, and the bit in it.
use Rattle.std.proofs.Common.{rules, ◌≡◌, ◌∙◌, ℕ, ◌==◌, Bool, false, if◌then◌else◌, sym, ap}
use Rattle.concurrent_queue.specs.Contents.{Contents}
use Rattle.concurrent_queue.specs.Plain.{contents_of}
use Rattle.concurrent_queue.specs.Step.{closed_in, closed_by, single_closed}
use Rattle.concurrent_queue.specs.declared.cells.QueueForm.{QueueForm}
use Rattle.concurrent_queue.specs.declared.cells.QueueForm.TheVariants.{Bounded}
use Rattle.concurrent_queue.specs.machine.RingReadings.{ring_closed}
use Rattle.concurrent_queue.specs.machine.RingWords.{ring_mark}
use Rattle.concurrent_queue.proofs.Evidence.{ne_of}
use Rattle.concurrent_queue.proofs.plain.PlainCells.is_closed.Goals as goal

pub returns-in-Bounded-eq1 : goal.returns-in-Bounded-eq1
unfolding closed_in
returns-in-Bounded-eq1 g c =
    let x : Contents g.row.T.Denot = contents_of c.args.self.now in
    let one : c.in-Bounded-eq1.field-0 ≡ 1 = search rules in
    sym (ap (λ (f : QueueForm). closed_by f x) (c.in-Bounded-eq1.is ∙ ap (λ (n : ℕ). Bounded n) one))

pub returns-in-Bounded : goal.returns-in-Bounded
unfolding closed_in
returns-in-Bounded g c =
    let x : Contents g.row.T.Denot = contents_of c.args.self.now in
    let cap = c.in-Bounded.capacity in
    let apart : cap ≡ 1 → ⊥ = search rules in
    let more : (cap == 1) ≡ false = ne_of cap 1 apart in
    c.is_marked.ensures
    ∙ sym (ap (λ (f : QueueForm). closed_by f x) c.in-Bounded.is
    ∙ ap (λ (b : Bool). if b then single_closed x else ring_closed (ring_mark cap) x) more)

pub returns-in-Unbounded : goal.returns-in-Unbounded
unfolding closed_in
returns-in-Unbounded g c =
    let x : Contents g.row.T.Denot = contents_of c.args.self.now in
    sym (ap (λ (f : QueueForm). closed_by f x) c.in-Unbounded.is)
