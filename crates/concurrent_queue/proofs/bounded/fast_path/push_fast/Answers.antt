use Rattle.std.proofs.Common.{◌≡◌, ℕ, ◌∙◌, ◌+◌, ◌-◌, ◌%◌, ◌^◌, sym, subst, Result, Ok, Err}
use Rattle.concurrent_queue.specs.Deeds.{loaded, stored, exchanged, did_put}
use Rattle.concurrent_queue.specs.machine.FastPath.{IsStep, PushesOnEnd}
use Rattle.concurrent_queue.specs.machine.RingMoves.{RingMakes}
use Rattle.concurrent_queue.specs.declared.bounded.RingAction.TheVariants as act
use Rattle.concurrent_queue.specs.declared.bounded.WhenFull.TheVariants.{Refuse}
use Rattle.concurrent_queue.specs.declared.cells.Slot.TheVariants.{At}
use Rattle.concurrent_queue.specs.declared.cells.Word.TheVariants.{Tail}
use Rattle.concurrent_queue.specs.declared.error.PushError.TheVariants as push_error
use Rattle.concurrent_queue.proofs.RingDeeds.{lap_small, pushes_after, pushes_stand, tail_marked, positions_end, tail_loaded, slot_free, lap_before, other_stamp, first_lap, place_won, place_lost, message_put, slot_not_yet, push_ends, full, not_full}
use Rattle.concurrent_queue.proofs.Standing.{ring_ready, ring_on}
use Rattle.concurrent_queue.proofs.bounded.fast_path.push_fast.Given.{Over}
use Rattle.concurrent_queue.proofs.bounded.fast_path.push_fast.Goals.{After-index, After-next, After-stamp, After-stamp-2, else-lap-tail-2-via-then-lap-tail-2+then-stamp-tail-2+else-load-tail, else-lap-tail-2-via-then-lap-tail-2+else-stamp-tail-2, else-lap-tail-2-via-else-lap-tail-2}
use Rattle.concurrent_queue.proofs.bounded.fast_path.push_fast.Goals as goal

-- ---- its steps

tail_read : (g : Over) (c : After-stamp g) → IsStep (RingMakes c.args.shape.cap c.args.shape.mark g.C.Cells.did) c.args.cells.now (act.Push Refuse c.args.value) c.load-tail.new.self (act.PushStamp Refuse c.args.value c.load-tail.result)
tail_read g c =
    tail_loaded g.C.Cells.did c.args.shape.cap c.args.shape.mark c.args.cells.now c.load-tail.new.self c.args.value c.load-tail.result c.load-tail.ensures.deed c.lap.result c.lap.ensures (sym c.is_marked.ensures ∙ c.if-is_marked.false)
    (lap_small c.args.shape.mark c.lap.result c.lap.ensures c.args.shape.small) c.if-lap-tail.false

found_free : (g : Over) (c : After-next g) → IsStep (RingMakes c.args.shape.cap c.args.shape.mark g.C.Cells.did) c.load-tail.new.self (act.PushStamp Refuse c.args.value c.load-tail.result) c.load-stamp.new.self (act.PushSwap Refuse c.args.value c.load-tail.result)
found_free g c =
    slot_free g.C.Cells.did c.args.shape.cap c.args.shape.mark c.load-tail.new.self c.load-stamp.new.self c.args.value c.load-tail.result c.stamp.result c.stamp.ensures c.load-stamp.result c.load-stamp.ensures.deed c.if-stamp-tail.false

won : (g : Over) (c : After-index g) → IsStep (RingMakes c.args.shape.cap c.args.shape.mark g.C.Cells.did) c.load-stamp.new.self (act.PushSwap Refuse c.args.value c.load-tail.result) c.compare_exchange.new.self (act.PushPut Refuse c.args.value c.load-tail.result)
won g c =
    place_won g.C.Cells.did c.args.shape.cap c.args.shape.mark c.load-stamp.new.self c.compare_exchange.new.self c.args.value c.load-tail.result c.next.result c.next.ensures c.compare_exchange.result (sym c.is_err.ensures.value ∙ c.if-is_err.false) c.compare_exchange.ensures.deed

filled : (g : Over) (c : After-stamp-2 g) → IsStep (RingMakes c.args.shape.cap c.args.shape.mark g.C.Cells.did) c.compare_exchange.new.self (act.PushPut Refuse c.args.value c.load-tail.result) c.put.new.self (act.PushStore Refuse c.load-tail.result)
filled g c =
    message_put g.C.Cells.did c.args.shape.cap c.args.shape.mark c.compare_exchange.new.self c.put.new.self c.args.value c.load-tail.result c.index.result c.index.ensures c.in_default.field-0 c.in_default.ensures.deed

-- ---- what they are one after another

pub returns-then-is_marked-clause-deeds : goal.returns-then-is_marked-clause-deeds
returns-then-is_marked-clause-deeds g c = tail_marked g.C.Cells.did c.args.shape.cap c.args.shape.mark c.args.cells.now c.load-tail.new.self c.args.value c.load-tail.result c.load-tail.ensures.deed (sym c.is_marked.ensures ∙ c.if-is_marked.true)

pub returns-then-lap-tail-clause-deeds : goal.returns-then-lap-tail-clause-deeds
returns-then-lap-tail-clause-deeds g c =
    let Step = RingMakes c.args.shape.cap c.args.shape.mark g.C.Cells.did in
    let r = Err (act.PushShut Refuse c.args.value) in
    let d = c.load-tail.new.self in
    pushes_after Step c.args.cells.now (act.Push Refuse c.args.value) c.load-tail.new.self (act.PushShut Refuse c.args.value) d r (positions_end g.C.Cells.did c.args.shape.cap c.args.shape.mark c.args.cells.now c.load-tail.new.self c.args.value c.load-tail.result c.load-tail.ensures.deed c.lap.result c.lap.ensures (sym c.is_marked.ensures ∙ c.if-is_marked.false) c.if-lap-tail.true)
    (pushes_stand Step d (act.PushShut Refuse c.args.value))

pub returns-then-load-tail-clause-deeds : goal.returns-then-load-tail-clause-deeds
returns-then-load-tail-clause-deeds g c =
    let at = goal.at.returns-then-load-tail-clause-deeds g c in
    let Step = RingMakes c.args.shape.cap c.args.shape.mark g.C.Cells.did in
    let r = Ok (Err (push_error.Full c.args.value)) in
    let d = c.load.new.self in
    pushes_after Step c.args.cells.now (act.Push Refuse c.args.value) c.load-tail.new.self (act.PushStamp Refuse c.args.value c.load-tail.result) d r (tail_read g at.After-stamp) (
    pushes_after Step c.load-tail.new.self (act.PushStamp Refuse c.args.value c.load-tail.result) c.load-stamp.new.self (act.PushHead c.args.value (c.load-tail.result - c.lap-lap.result)) d r (lap_before g.C.Cells.did c.args.shape.cap c.args.shape.mark c.load-tail.new.self c.load-stamp.new.self c.args.value c.load-tail.result c.stamp.result c.stamp.ensures c.load-stamp.result c.load-stamp.ensures.deed c.if-stamp-tail.true c.lap-lap.result c.lap-lap.ensures c.if-lap-tail-2.true c.if-stamp-tail-2.true)
    (full g.C.Cells.did c.args.shape.cap c.args.shape.mark c.load-stamp.new.self d c.args.value (c.load-tail.result - c.lap-lap.result) c.load.result c.load.ensures.deed c.if-load-tail.true))

pub returns-then-stamp-tail-clause-deeds : goal.returns-then-stamp-tail-clause-deeds
returns-then-stamp-tail-clause-deeds g c =
    let at = goal.at.returns-then-stamp-tail-clause-deeds g c in
    let Step = RingMakes c.args.shape.cap c.args.shape.mark g.C.Cells.did in
    let r = Err (act.Push Refuse c.args.value) in
    let d = c.else-lap-tail-2.cells in
    let stay = λ (z : g.row.C.Denot) (same : d ≡ z). subst (λ u. PushesOnEnd Step u (act.Push Refuse c.args.value) r d) same (pushes_stand Step d (act.Push Refuse c.args.value)) in
    pushes_after Step c.args.cells.now (act.Push Refuse c.args.value) c.load-tail.new.self (act.PushStamp Refuse c.args.value c.load-tail.result) d r (tail_read g at.After-stamp) (
    elim c.else-lap-tail-2.branch [
      | else-lap-tail-2-via-then-lap-tail-2+then-stamp-tail-2+else-load-tail w ↦ pushes_after Step c.load-tail.new.self (act.PushStamp Refuse c.args.value c.load-tail.result) c.load-stamp.new.self (act.PushHead c.args.value (c.load-tail.result - c.lap-lap.result)) d r (lap_before g.C.Cells.did c.args.shape.cap c.args.shape.mark c.load-tail.new.self c.load-stamp.new.self c.args.value c.load-tail.result c.stamp.result c.stamp.ensures c.load-stamp.result c.load-stamp.ensures.deed c.if-stamp-tail.true c.lap-lap.result c.lap-lap.ensures w.if-lap-tail-2.true w.if-stamp-tail-2.true) (pushes_after Step c.load-stamp.new.self (act.PushHead c.args.value (c.load-tail.result - c.lap-lap.result)) w.load.new.self (act.Push Refuse c.args.value) d r (not_full g.C.Cells.did c.args.shape.cap c.args.shape.mark c.load-stamp.new.self w.load.new.self c.args.value (c.load-tail.result - c.lap-lap.result) w.load.result w.load.ensures.deed w.if-load-tail.false) (stay w.load.new.self w.cells-is))
      | else-lap-tail-2-via-then-lap-tail-2+else-stamp-tail-2 w ↦ pushes_after Step c.load-tail.new.self (act.PushStamp Refuse c.args.value c.load-tail.result) c.load-stamp.new.self (act.Push Refuse c.args.value) d r (other_stamp g.C.Cells.did c.args.shape.cap c.args.shape.mark c.load-tail.new.self c.load-stamp.new.self c.args.value c.load-tail.result c.stamp.result c.stamp.ensures c.load-stamp.result c.load-stamp.ensures.deed c.if-stamp-tail.true c.lap-lap.result c.lap-lap.ensures w.if-stamp-tail-2.false) (stay c.load-stamp.new.self w.cells-is)
      | else-lap-tail-2-via-else-lap-tail-2 w ↦ pushes_after Step c.load-tail.new.self (act.PushStamp Refuse c.args.value c.load-tail.result) c.load-stamp.new.self (act.Push Refuse c.args.value) d r (first_lap g.C.Cells.did c.args.shape.cap c.args.shape.mark c.load-tail.new.self c.load-stamp.new.self c.args.value c.load-tail.result c.stamp.result c.stamp.ensures c.load-stamp.result c.load-stamp.ensures.deed c.if-stamp-tail.true c.lap-lap.result c.lap-lap.ensures w.if-lap-tail-2.false) (stay c.load-stamp.new.self w.cells-is)
    ])

pub returns-then-is_err-clause-deeds : goal.returns-then-is_err-clause-deeds
returns-then-is_err-clause-deeds g c =
    let at = goal.at.returns-then-is_err-clause-deeds g c in
    let Step = RingMakes c.args.shape.cap c.args.shape.mark g.C.Cells.did in
    let r = Err (act.Push Refuse c.args.value) in
    let d = c.compare_exchange.new.self in
    pushes_after Step c.args.cells.now (act.Push Refuse c.args.value) c.load-tail.new.self (act.PushStamp Refuse c.args.value c.load-tail.result) d r (tail_read g at.After-stamp) (
    pushes_after Step c.load-tail.new.self (act.PushStamp Refuse c.args.value c.load-tail.result) c.load-stamp.new.self (act.PushSwap Refuse c.args.value c.load-tail.result) d r (found_free g at.After-next) (
    pushes_after Step c.load-stamp.new.self (act.PushSwap Refuse c.args.value c.load-tail.result) d (act.Push Refuse c.args.value) d r (place_lost g.C.Cells.did c.args.shape.cap c.args.shape.mark c.load-stamp.new.self d c.args.value c.load-tail.result c.next.result c.next.ensures c.compare_exchange.result (sym c.is_err.ensures.value ∙ c.if-is_err.true) c.compare_exchange.ensures.deed)
    (pushes_stand Step d (act.Push Refuse c.args.value))))

pub returns-in-Err-clause-deeds : goal.returns-in-Err-clause-deeds
returns-in-Err-clause-deeds g c =
    let at = goal.at.returns-in-Err-clause-deeds g c in
    let Step = RingMakes c.args.shape.cap c.args.shape.mark g.C.Cells.did in
    let r = Err (act.PushPut Refuse c.in-Err.value c.load-tail.result) in
    let d = c.put.new.self in
    pushes_after Step c.args.cells.now (act.Push Refuse c.args.value) c.load-tail.new.self (act.PushStamp Refuse c.args.value c.load-tail.result) d r (tail_read g at.After-stamp) (
    pushes_after Step c.load-tail.new.self (act.PushStamp Refuse c.args.value c.load-tail.result) c.load-stamp.new.self (act.PushSwap Refuse c.args.value c.load-tail.result) d r (found_free g at.After-next) (
    pushes_after Step c.load-stamp.new.self (act.PushSwap Refuse c.args.value c.load-tail.result) c.compare_exchange.new.self (act.PushPut Refuse c.args.value c.load-tail.result) d r (won g at.After-index) (
    pushes_after Step c.compare_exchange.new.self (act.PushPut Refuse c.args.value c.load-tail.result) d (act.PushPut Refuse c.in-Err.value c.load-tail.result) d r (slot_not_yet g.C.Cells.did c.args.shape.cap c.args.shape.mark c.compare_exchange.new.self d c.args.value c.load-tail.result c.index.result c.index.ensures c.in-Err.value c.in-Err.ensures.deed)
    (pushes_stand Step d (act.PushPut Refuse c.in-Err.value c.load-tail.result)))))

pub returns-clause-deeds : goal.returns-clause-deeds
returns-clause-deeds g c =
    let at = goal.at.returns-clause-deeds g c in
    let Step = RingMakes c.args.shape.cap c.args.shape.mark g.C.Cells.did in
    let r = Ok (Ok tt) in
    let d = c.store.new.self in
    pushes_after Step c.args.cells.now (act.Push Refuse c.args.value) c.load-tail.new.self (act.PushStamp Refuse c.args.value c.load-tail.result) d r (tail_read g at.After-stamp) (
    pushes_after Step c.load-tail.new.self (act.PushStamp Refuse c.args.value c.load-tail.result) c.load-stamp.new.self (act.PushSwap Refuse c.args.value c.load-tail.result) d r (found_free g at.After-next) (
    pushes_after Step c.load-stamp.new.self (act.PushSwap Refuse c.args.value c.load-tail.result) c.compare_exchange.new.self (act.PushPut Refuse c.args.value c.load-tail.result) d r (won g at.After-index) (
    pushes_after Step c.compare_exchange.new.self (act.PushPut Refuse c.args.value c.load-tail.result) c.put.new.self (act.PushStore Refuse c.load-tail.result) d r (filled g at.After-stamp-2) (
    push_ends g.C.Cells.did c.args.shape.cap c.args.shape.mark c.put.new.self d c.args.value c.load-tail.result c.stamp-2.result c.stamp-2.ensures c.store.ensures.deed))))

-- ---- each operation is the next one

pub load-tail-requires : goal.load-tail-requires
load-tail-requires g c =
    let k = g.C.Cells in
    record { may = ring_ready k.may k.stands k.form_of g.met.C.Cells.ready c.args.cells.now c.args.shape.cap c.args.shape.mark (act.Push Refuse c.args.value) (c.requires.stands, c.requires.measures) }

pub load-stamp-requires : goal.load-stamp-requires
load-stamp-requires g c =
    let k = g.C.Cells in
    let at = goal.at.load-stamp-requires g c in
    let on = ring_on k.did k.stands k.form_of g.met.C.Cells.keeps_form g.met.C.Cells.leads c.args.shape.cap c.args.shape.mark in
    let tail_read_so = on c.args.cells.now c.load-tail.new.self (act.Push Refuse c.args.value) (act.PushStamp Refuse c.args.value c.load-tail.result) (c.requires.stands, c.requires.measures) (tail_read g at.After-stamp) in
    record { may = subst (λ z. (x : ℕ) → k.may (loaded z x) c.load-tail.new.self) (sym c.stamp.ensures) (ring_ready k.may k.stands k.form_of g.met.C.Cells.ready c.load-tail.new.self c.args.shape.cap c.args.shape.mark (act.PushStamp Refuse c.args.value c.load-tail.result) tail_read_so) }

pub load-requires : goal.load-requires
load-requires g c =
    let k = g.C.Cells in
    let at = goal.at.load-requires g c in
    let on = ring_on k.did k.stands k.form_of g.met.C.Cells.keeps_form g.met.C.Cells.leads c.args.shape.cap c.args.shape.mark in
    let tail_read_so = on c.args.cells.now c.load-tail.new.self (act.Push Refuse c.args.value) (act.PushStamp Refuse c.args.value c.load-tail.result) (c.requires.stands, c.requires.measures) (tail_read g at.After-stamp) in
    record { may = ring_ready k.may k.stands k.form_of g.met.C.Cells.ready c.load-stamp.new.self c.args.shape.cap c.args.shape.mark (act.PushHead c.args.value (c.load-tail.result - c.lap-lap.result)) (on c.load-tail.new.self c.load-stamp.new.self (act.PushStamp Refuse c.args.value c.load-tail.result) (act.PushHead c.args.value (c.load-tail.result - c.lap-lap.result)) tail_read_so (lap_before g.C.Cells.did c.args.shape.cap c.args.shape.mark c.load-tail.new.self c.load-stamp.new.self c.args.value c.load-tail.result c.stamp.result c.stamp.ensures c.load-stamp.result c.load-stamp.ensures.deed c.if-stamp-tail.true c.lap-lap.result c.lap-lap.ensures c.if-lap-tail-2.true c.if-stamp-tail-2.true)) }

pub compare_exchange-requires : goal.compare_exchange-requires
compare_exchange-requires g c =
    let k = g.C.Cells in
    let at = goal.at.compare_exchange-requires g c in
    let on = ring_on k.did k.stands k.form_of g.met.C.Cells.keeps_form g.met.C.Cells.leads c.args.shape.cap c.args.shape.mark in
    let tail_read_so = on c.args.cells.now c.load-tail.new.self (act.Push Refuse c.args.value) (act.PushStamp Refuse c.args.value c.load-tail.result) (c.requires.stands, c.requires.measures) (tail_read g at.After-stamp) in
    let found_free_so = on c.load-tail.new.self c.load-stamp.new.self (act.PushStamp Refuse c.args.value c.load-tail.result) (act.PushSwap Refuse c.args.value c.load-tail.result) tail_read_so (found_free g at.After-next) in
    record { may = subst (λ n. (o : Result ℕ ℕ) → k.may (exchanged Tail c.load-tail.result n o) c.load-stamp.new.self) (sym c.next.ensures) (ring_ready k.may k.stands k.form_of g.met.C.Cells.ready c.load-stamp.new.self c.args.shape.cap c.args.shape.mark (act.PushSwap Refuse c.args.value c.load-tail.result) found_free_so) }

pub put-requires : goal.put-requires
put-requires g c =
    let k = g.C.Cells in
    let at = goal.at.put-requires g c in
    let on = ring_on k.did k.stands k.form_of g.met.C.Cells.keeps_form g.met.C.Cells.leads c.args.shape.cap c.args.shape.mark in
    let tail_read_so = on c.args.cells.now c.load-tail.new.self (act.Push Refuse c.args.value) (act.PushStamp Refuse c.args.value c.load-tail.result) (c.requires.stands, c.requires.measures) (tail_read g at.After-stamp) in
    let found_free_so = on c.load-tail.new.self c.load-stamp.new.self (act.PushStamp Refuse c.args.value c.load-tail.result) (act.PushSwap Refuse c.args.value c.load-tail.result) tail_read_so (found_free g at.After-next) in
    let won_so = on c.load-stamp.new.self c.compare_exchange.new.self (act.PushSwap Refuse c.args.value c.load-tail.result) (act.PushPut Refuse c.args.value c.load-tail.result) found_free_so (won g at.After-index) in
    record { may = subst (λ i. (o : Result Unit g.row.T.Denot) → k.may (did_put (At i) c.args.value o) c.compare_exchange.new.self) (sym c.index.ensures) (ring_ready k.may k.stands k.form_of g.met.C.Cells.ready c.compare_exchange.new.self c.args.shape.cap c.args.shape.mark (act.PushPut Refuse c.args.value c.load-tail.result) won_so) }

pub store-requires : goal.store-requires
store-requires g c =
    let k = g.C.Cells in
    let at = goal.at.store-requires g c in
    let on = ring_on k.did k.stands k.form_of g.met.C.Cells.keeps_form g.met.C.Cells.leads c.args.shape.cap c.args.shape.mark in
    let tail_read_so = on c.args.cells.now c.load-tail.new.self (act.Push Refuse c.args.value) (act.PushStamp Refuse c.args.value c.load-tail.result) (c.requires.stands, c.requires.measures) (tail_read g at.After-stamp) in
    let found_free_so = on c.load-tail.new.self c.load-stamp.new.self (act.PushStamp Refuse c.args.value c.load-tail.result) (act.PushSwap Refuse c.args.value c.load-tail.result) tail_read_so (found_free g at.After-next) in
    let won_so = on c.load-stamp.new.self c.compare_exchange.new.self (act.PushSwap Refuse c.args.value c.load-tail.result) (act.PushPut Refuse c.args.value c.load-tail.result) found_free_so (won g at.After-index) in
    let filled_so = on c.compare_exchange.new.self c.put.new.self (act.PushPut Refuse c.args.value c.load-tail.result) (act.PushStore Refuse c.load-tail.result) won_so (filled g at.After-stamp-2) in
    record { may = subst (λ z. k.may (stored z ((c.load-tail.result + 1) % 2 ^ 64)) c.put.new.self) (sym c.stamp-2.ensures) (ring_ready k.may k.stands k.form_of g.met.C.Cells.ready c.put.new.self c.args.shape.cap c.args.shape.mark (act.PushStore Refuse c.load-tail.result) filled_so) }
