use Rattle.std.proofs.Common.{ℕ, ◌∙◌, ◌+◌, ◌*◌, ◌%◌, ◌^◌, sym, subst, Option, Result, Ok, Err}
use Rattle.concurrent_queue.specs.Deeds.{loaded, stored, exchanged, did_take}
use Rattle.concurrent_queue.specs.machine.FastPath.{IsStep}
use Rattle.concurrent_queue.specs.machine.RingMoves.{RingMakes}
use Rattle.concurrent_queue.specs.declared.bounded.RingAction.TheVariants as act
use Rattle.concurrent_queue.specs.declared.cells.Slot.TheVariants.{At}
use Rattle.concurrent_queue.specs.declared.cells.Word.TheVariants.{Head}
use Rattle.concurrent_queue.proofs.RingDeeds.{pops_after, pops_stand, head_loaded, message_in, still_free, of_another_lap, head_won, head_lost, message_out, not_yet, pop_ends}
use Rattle.concurrent_queue.proofs.Standing.{ring_ready, ring_on}
use Rattle.concurrent_queue.proofs.bounded.fast_path.pop_fast.Given.{Over}
use Rattle.concurrent_queue.proofs.bounded.fast_path.pop_fast.Goals.{After-index, After-next, After-stamp, After-stamp-in-Some}
use Rattle.concurrent_queue.proofs.bounded.fast_path.pop_fast.Goals as goal

-- ---- its steps

head_read : (g : Over) (c : After-stamp g) → IsStep (RingMakes c.args.shape.cap c.args.shape.mark g.C.Cells.did) c.args.cells.now act.Pop c.load-head.new.self (act.PopStamp c.load-head.result)
head_read g c =
    head_loaded g.C.Cells.did c.args.shape.cap c.args.shape.mark c.args.cells.now c.load-head.new.self c.load-head.result c.load-head.ensures.deed

found : (g : Over) (c : After-next g) → IsStep (RingMakes c.args.shape.cap c.args.shape.mark g.C.Cells.did) c.load-head.new.self (act.PopStamp c.load-head.result) c.load-stamp.new.self (act.PopSwap c.load-head.result)
found g c =
    message_in g.C.Cells.did c.args.shape.cap c.args.shape.mark c.load-head.new.self c.load-stamp.new.self c.load-head.result c.stamp.result c.stamp.ensures c.load-stamp.result c.load-stamp.ensures.deed c.if-stamp-head.false

won : (g : Over) (c : After-index g) → IsStep (RingMakes c.args.shape.cap c.args.shape.mark g.C.Cells.did) c.load-stamp.new.self (act.PopSwap c.load-head.result) c.compare_exchange.new.self (act.PopTake c.load-head.result)
won g c =
    head_won g.C.Cells.did c.args.shape.cap c.args.shape.mark c.load-stamp.new.self c.compare_exchange.new.self c.load-head.result c.next.result c.next.ensures c.compare_exchange.result (sym c.is_err.ensures.value ∙ c.if-is_err.false) c.compare_exchange.ensures.deed

taken : (g : Over) (c : After-stamp-in-Some g) → IsStep (RingMakes c.args.shape.cap c.args.shape.mark g.C.Cells.did) c.compare_exchange.new.self (act.PopTake c.load-head.result) c.take.new.self (act.PopStore c.load-head.result c.in-Some.value)
taken g c =
    message_out g.C.Cells.did c.args.shape.cap c.args.shape.mark c.compare_exchange.new.self c.take.new.self c.load-head.result c.index.result c.index.ensures c.in-Some.value c.in-Some.ensures.deed

-- ---- what they are one after another

pub returns-then-stamp-head-2-clause-deeds : goal.returns-then-stamp-head-2-clause-deeds
returns-then-stamp-head-2-clause-deeds g c =
    let at = goal.at.returns-then-stamp-head-2-clause-deeds g c in
    let Step = RingMakes c.args.shape.cap c.args.shape.mark g.C.Cells.did in
    let r = c.pop_empty.result in
    let d = c.pop_empty.new.cells in
    pops_after Step c.args.cells.now act.Pop c.load-head.new.self (act.PopStamp c.load-head.result) d r (head_read g at.After-stamp) (
    pops_after Step c.load-head.new.self (act.PopStamp c.load-head.result) c.load-stamp.new.self (act.PopTail c.load-head.result) d r (still_free g.C.Cells.did c.args.shape.cap c.args.shape.mark c.load-head.new.self c.load-stamp.new.self c.load-head.result c.stamp.result c.stamp.ensures c.load-stamp.result c.load-stamp.ensures.deed c.if-stamp-head.true c.if-stamp-head-2.true) c.pop_empty.ensures.deeds)

pub returns-then-stamp-head-clause-deeds : goal.returns-then-stamp-head-clause-deeds
returns-then-stamp-head-clause-deeds g c =
    let at = goal.at.returns-then-stamp-head-clause-deeds g c in
    let Step = RingMakes c.args.shape.cap c.args.shape.mark g.C.Cells.did in
    let r = Err act.Pop in
    let d = c.load-stamp.new.self in
    pops_after Step c.args.cells.now act.Pop c.load-head.new.self (act.PopStamp c.load-head.result) d r (head_read g at.After-stamp) (
    pops_after Step c.load-head.new.self (act.PopStamp c.load-head.result) d act.Pop d r (of_another_lap g.C.Cells.did c.args.shape.cap c.args.shape.mark c.load-head.new.self d c.load-head.result c.stamp.result c.stamp.ensures c.load-stamp.result c.load-stamp.ensures.deed c.if-stamp-head.true c.if-stamp-head-2.false) (pops_stand Step d act.Pop))

pub returns-then-is_err-clause-deeds : goal.returns-then-is_err-clause-deeds
returns-then-is_err-clause-deeds g c =
    let at = goal.at.returns-then-is_err-clause-deeds g c in
    let Step = RingMakes c.args.shape.cap c.args.shape.mark g.C.Cells.did in
    let r = Err act.Pop in
    let d = c.compare_exchange.new.self in
    pops_after Step c.args.cells.now act.Pop c.load-head.new.self (act.PopStamp c.load-head.result) d r (head_read g at.After-stamp) (
    pops_after Step c.load-head.new.self (act.PopStamp c.load-head.result) c.load-stamp.new.self (act.PopSwap c.load-head.result) d r (found g at.After-next) (
    pops_after Step c.load-stamp.new.self (act.PopSwap c.load-head.result) d act.Pop d r (head_lost g.C.Cells.did c.args.shape.cap c.args.shape.mark c.load-stamp.new.self d c.load-head.result c.next.result c.next.ensures c.compare_exchange.result (sym c.is_err.ensures.value ∙ c.if-is_err.true) c.compare_exchange.ensures.deed) (pops_stand Step d act.Pop)))

pub returns-in-Some-clause-deeds : goal.returns-in-Some-clause-deeds
returns-in-Some-clause-deeds g c =
    let at = goal.at.returns-in-Some-clause-deeds g c in
    let Step = RingMakes c.args.shape.cap c.args.shape.mark g.C.Cells.did in
    let r = Ok (Ok c.in-Some.value) in
    let d = c.store.new.self in
    pops_after Step c.args.cells.now act.Pop c.load-head.new.self (act.PopStamp c.load-head.result) d r (head_read g at.After-stamp) (
    pops_after Step c.load-head.new.self (act.PopStamp c.load-head.result) c.load-stamp.new.self (act.PopSwap c.load-head.result) d r (found g at.After-next) (
    pops_after Step c.load-stamp.new.self (act.PopSwap c.load-head.result) c.compare_exchange.new.self (act.PopTake c.load-head.result) d r (won g at.After-index) (
    pops_after Step c.compare_exchange.new.self (act.PopTake c.load-head.result) c.take.new.self (act.PopStore c.load-head.result c.in-Some.value) d r (taken g at.After-stamp-in-Some) (
    pop_ends g.C.Cells.did c.args.shape.cap c.args.shape.mark c.take.new.self d c.load-head.result c.stamp-in-Some.result c.stamp-in-Some.ensures c.lap.result c.lap.ensures c.in-Some.value c.store.ensures.deed))))

pub returns-in-None-clause-deeds : goal.returns-in-None-clause-deeds
returns-in-None-clause-deeds g c =
    let at = goal.at.returns-in-None-clause-deeds g c in
    let Step = RingMakes c.args.shape.cap c.args.shape.mark g.C.Cells.did in
    let r = Err (act.PopTake c.load-head.result) in
    let d = c.take.new.self in
    pops_after Step c.args.cells.now act.Pop c.load-head.new.self (act.PopStamp c.load-head.result) d r (head_read g at.After-stamp) (
    pops_after Step c.load-head.new.self (act.PopStamp c.load-head.result) c.load-stamp.new.self (act.PopSwap c.load-head.result) d r (found g at.After-next) (
    pops_after Step c.load-stamp.new.self (act.PopSwap c.load-head.result) c.compare_exchange.new.self (act.PopTake c.load-head.result) d r (won g at.After-index) (
    pops_after Step c.compare_exchange.new.self (act.PopTake c.load-head.result) d (act.PopTake c.load-head.result) d r (not_yet g.C.Cells.did c.args.shape.cap c.args.shape.mark c.compare_exchange.new.self d c.load-head.result c.index.result c.index.ensures c.in-None.ensures.deed) (pops_stand Step d (act.PopTake c.load-head.result)))))

-- ---- each operation is the next one

pub load-head-requires : goal.load-head-requires
load-head-requires g c =
    let k = g.C.Cells in
    record { may = ring_ready k.may k.stands k.form_of g.met.C.Cells.ready c.args.cells.now c.args.shape.cap c.args.shape.mark act.Pop (c.requires.stands, c.requires.measures) }

pub load-stamp-requires : goal.load-stamp-requires
load-stamp-requires g c =
    let k = g.C.Cells in
    let at = goal.at.load-stamp-requires g c in
    let on = ring_on k.did k.stands k.form_of g.met.C.Cells.keeps_form g.met.C.Cells.leads c.args.shape.cap c.args.shape.mark in
    let head_read_so = on c.args.cells.now c.load-head.new.self act.Pop (act.PopStamp c.load-head.result) (c.requires.stands, c.requires.measures) (head_read g at.After-stamp) in
    record { may = subst (λ z. (x : ℕ) → k.may (loaded z x) c.load-head.new.self) (sym c.stamp.ensures) (ring_ready k.may k.stands k.form_of g.met.C.Cells.ready c.load-head.new.self c.args.shape.cap c.args.shape.mark (act.PopStamp c.load-head.result) head_read_so) }

pub pop_empty-requires-clause-stands : goal.pop_empty-requires-clause-stands
pop_empty-requires-clause-stands g c =
    let k = g.C.Cells in
    let at = goal.at.pop_empty-requires-clause-stands g c in
    let on = ring_on k.did k.stands k.form_of g.met.C.Cells.keeps_form g.met.C.Cells.leads c.args.shape.cap c.args.shape.mark in
    let head_read_so = on c.args.cells.now c.load-head.new.self act.Pop (act.PopStamp c.load-head.result) (c.requires.stands, c.requires.measures) (head_read g at.After-stamp) in
    (on c.load-head.new.self c.load-stamp.new.self (act.PopStamp c.load-head.result) (act.PopTail c.load-head.result) head_read_so (still_free g.C.Cells.did c.args.shape.cap c.args.shape.mark c.load-head.new.self c.load-stamp.new.self c.load-head.result c.stamp.result c.stamp.ensures c.load-stamp.result c.load-stamp.ensures.deed c.if-stamp-head.true c.if-stamp-head-2.true)).0

pub pop_empty-requires-clause-measures : goal.pop_empty-requires-clause-measures
pop_empty-requires-clause-measures g c =
    let k = g.C.Cells in
    let at = goal.at.pop_empty-requires-clause-measures g c in
    let on = ring_on k.did k.stands k.form_of g.met.C.Cells.keeps_form g.met.C.Cells.leads c.args.shape.cap c.args.shape.mark in
    let head_read_so = on c.args.cells.now c.load-head.new.self act.Pop (act.PopStamp c.load-head.result) (c.requires.stands, c.requires.measures) (head_read g at.After-stamp) in
    (on c.load-head.new.self c.load-stamp.new.self (act.PopStamp c.load-head.result) (act.PopTail c.load-head.result) head_read_so (still_free g.C.Cells.did c.args.shape.cap c.args.shape.mark c.load-head.new.self c.load-stamp.new.self c.load-head.result c.stamp.result c.stamp.ensures c.load-stamp.result c.load-stamp.ensures.deed c.if-stamp-head.true c.if-stamp-head-2.true)).1

pub compare_exchange-requires : goal.compare_exchange-requires
compare_exchange-requires g c =
    let k = g.C.Cells in
    let at = goal.at.compare_exchange-requires g c in
    let on = ring_on k.did k.stands k.form_of g.met.C.Cells.keeps_form g.met.C.Cells.leads c.args.shape.cap c.args.shape.mark in
    let head_read_so = on c.args.cells.now c.load-head.new.self act.Pop (act.PopStamp c.load-head.result) (c.requires.stands, c.requires.measures) (head_read g at.After-stamp) in
    let found_so = on c.load-head.new.self c.load-stamp.new.self (act.PopStamp c.load-head.result) (act.PopSwap c.load-head.result) head_read_so (found g at.After-next) in
    record { may = subst (λ n. (o : Result ℕ ℕ) → k.may (exchanged Head c.load-head.result n o) c.load-stamp.new.self) (sym c.next.ensures) (ring_ready k.may k.stands k.form_of g.met.C.Cells.ready c.load-stamp.new.self c.args.shape.cap c.args.shape.mark (act.PopSwap c.load-head.result) found_so) }

pub take-requires : goal.take-requires
take-requires g c =
    let k = g.C.Cells in
    let at = goal.at.take-requires g c in
    let on = ring_on k.did k.stands k.form_of g.met.C.Cells.keeps_form g.met.C.Cells.leads c.args.shape.cap c.args.shape.mark in
    let head_read_so = on c.args.cells.now c.load-head.new.self act.Pop (act.PopStamp c.load-head.result) (c.requires.stands, c.requires.measures) (head_read g at.After-stamp) in
    let found_so = on c.load-head.new.self c.load-stamp.new.self (act.PopStamp c.load-head.result) (act.PopSwap c.load-head.result) head_read_so (found g at.After-next) in
    let won_so = on c.load-stamp.new.self c.compare_exchange.new.self (act.PopSwap c.load-head.result) (act.PopTake c.load-head.result) found_so (won g at.After-index) in
    record { may = subst (λ i. (o : Option g.row.T.Denot) → k.may (did_take (At i) o) c.compare_exchange.new.self) (sym c.index.ensures) (ring_ready k.may k.stands k.form_of g.met.C.Cells.ready c.compare_exchange.new.self c.args.shape.cap c.args.shape.mark (act.PopTake c.load-head.result) won_so) }

pub store-requires : goal.store-requires
store-requires g c =
    let k = g.C.Cells in
    let at = goal.at.store-requires g c in
    let on = ring_on k.did k.stands k.form_of g.met.C.Cells.keeps_form g.met.C.Cells.leads c.args.shape.cap c.args.shape.mark in
    let head_read_so = on c.args.cells.now c.load-head.new.self act.Pop (act.PopStamp c.load-head.result) (c.requires.stands, c.requires.measures) (head_read g at.After-stamp) in
    let found_so = on c.load-head.new.self c.load-stamp.new.self (act.PopStamp c.load-head.result) (act.PopSwap c.load-head.result) head_read_so (found g at.After-next) in
    let won_so = on c.load-stamp.new.self c.compare_exchange.new.self (act.PopSwap c.load-head.result) (act.PopTake c.load-head.result) found_so (won g at.After-index) in
    let taken_so = on c.compare_exchange.new.self c.take.new.self (act.PopTake c.load-head.result) (act.PopStore c.load-head.result c.in-Some.value) won_so (taken g at.After-stamp-in-Some) in
    record {
      may = subst (λ n. k.may (stored c.stamp-in-Some.result ((c.load-head.result + n) % 2 ^ 64)) c.take.new.self) (sym c.lap.ensures)
          (subst (λ z. k.may (stored z ((c.load-head.result + 2 * c.args.shape.mark) % 2 ^ 64)) c.take.new.self) (sym c.stamp-in-Some.ensures) (ring_ready k.may k.stands k.form_of g.met.C.Cells.ready c.take.new.self c.args.shape.cap c.args.shape.mark (act.PopStore c.load-head.result c.in-Some.value) taken_so));
    }
