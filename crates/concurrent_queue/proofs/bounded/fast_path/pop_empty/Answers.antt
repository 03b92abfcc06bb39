use Rattle.std.proofs.Common.{◌∙◌, sym}
use Rattle.concurrent_queue.proofs.RingDeeds.{pop_shut, pop_nothing}
use Rattle.concurrent_queue.specs.declared.bounded.RingAction.TheVariants as act
use Rattle.concurrent_queue.proofs.Standing.{ring_ready}
use Rattle.concurrent_queue.proofs.bounded.fast_path.pop_empty.Goals as goal

pub returns-then-is_marked-clause-deeds : goal.returns-then-is_marked-clause-deeds
returns-then-is_marked-clause-deeds g c =
    pop_shut g.C.Cells.did c.args.shape.cap c.args.shape.mark c.args.cells.now c.load-tail.new.self c.args.head c.load-tail.result c.load-tail.ensures.deed (sym c.unmarked.ensures ∙ c.if-unmarked-head.false) (sym c.is_marked.ensures ∙ c.if-is_marked.true)

pub returns-else-is_marked-clause-deeds : goal.returns-else-is_marked-clause-deeds
returns-else-is_marked-clause-deeds g c =
    pop_nothing g.C.Cells.did c.args.shape.cap c.args.shape.mark c.args.cells.now c.load-tail.new.self c.args.head c.load-tail.result c.load-tail.ensures.deed (sym c.unmarked.ensures ∙ c.if-unmarked-head.false) (sym c.is_marked.ensures ∙ c.if-is_marked.false)

pub load-tail-requires : goal.load-tail-requires
load-tail-requires g c =
    let k = g.C.Cells in
    record { may = ring_ready k.may k.stands k.form_of g.met.C.Cells.ready c.args.cells.now c.args.shape.cap c.args.shape.mark (act.PopTail c.args.head) (c.requires.stands, c.requires.measures) }
