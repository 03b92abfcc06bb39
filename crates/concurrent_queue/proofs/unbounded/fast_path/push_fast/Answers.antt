use Rattle.std.proofs.Common.{◌-◌, ◌/◌, ◌%◌, ◌∙◌, sym, refl, Ok, Err, None}
use Rattle.concurrent_queue.specs.machine.FastPath.{IsStep, plainly}
use Rattle.concurrent_queue.specs.machine.BlocksMakes.{ActionMakes}
use Rattle.concurrent_queue.specs.declared.unbounded.action.UnboundedAction.TheVariants as act
use Rattle.concurrent_queue.proofs.BlocksDeeds as deed
use Rattle.concurrent_queue.proofs.RingDeeds.{pushes_after, pushes_stand}
use Rattle.concurrent_queue.proofs.Standing.{blocks_ready, blocks_on}
use Rattle.concurrent_queue.proofs.unbounded.fast_path.push_fast.Given.{Over}
use Rattle.concurrent_queue.proofs.unbounded.fast_path.push_fast.Goals.{Else-is_err, Else-offset-eq30, Else-offset-eq31, In_default}
use Rattle.concurrent_queue.proofs.unbounded.fast_path.push_fast.Goals as goal

-- ---- its steps

tail_read : (g : Over) (c : Else-offset-eq31 g) → IsStep (ActionMakes g.C.Cells.did) c.args.cells.now (act.Push c.args.value None) c.load-tail.new.self (act.PushLook c.args.value c.load-tail.result None)
tail_read g c =
    deed.tail_loaded g.C.Cells.did c.args.cells.now c.load-tail.new.self c.args.value c.load-tail.result c.load-tail.ensures.deed c.if-tail-eq1.false c.if-tail-ge9223372036854775744.false c.if-offset-eq31.false

found : (g : Over) (c : Else-offset-eq30 g) → IsStep (ActionMakes g.C.Cells.did) c.load-tail.new.self (act.PushLook c.args.value c.load-tail.result None) c.load-block.new.self (act.PushSwap c.args.value c.load-tail.result (c.load-block.result - 1) None)
found g c =
    deed.block_found g.C.Cells.did c.load-tail.new.self c.load-block.new.self c.args.value c.load-tail.result c.load-block.result c.load-block.ensures.deed c.if-block-eq0.false c.if-offset-eq30.false

won : (g : Over) (c : Else-is_err g) → IsStep (ActionMakes g.C.Cells.did) c.load-block.new.self (act.PushSwap c.args.value c.load-tail.result (c.load-block.result - 1) None) c.compare_exchange.new.self (act.PushPut c.args.value c.load-tail.result (c.load-block.result - 1) None)
won g c =
    deed.place_won g.C.Cells.did c.load-block.new.self c.compare_exchange.new.self c.args.value c.load-tail.result (c.load-block.result - 1) c.compare_exchange.result (sym c.is_err.ensures.value ∙ c.if-is_err.false) c.compare_exchange.ensures.deed

filled : (g : Over) (c : In_default g) → IsStep (ActionMakes g.C.Cells.did) c.compare_exchange.new.self (act.PushPut c.args.value c.load-tail.result (c.load-block.result - 1) None) c.put.new.self (act.PushStore c.load-tail.result (c.load-block.result - 1) None)
filled g c =
    deed.message_put g.C.Cells.did c.compare_exchange.new.self c.put.new.self c.args.value c.load-tail.result (c.load-block.result - 1) (c.load-tail.result / 2 % 32) refl c.in_default.field-0 c.in_default.ensures.deed

-- ---- what they are one after another

pub returns-then-tail-eq1-clause-deeds : goal.returns-then-tail-eq1-clause-deeds
returns-then-tail-eq1-clause-deeds g c = deed.tail_closed g.C.Cells.did c.args.cells.now c.load-tail.new.self c.args.value c.load-tail.result c.load-tail.ensures.deed c.if-tail-eq1.true

pub returns-then-tail-ge9223372036854775744-clause-deeds : goal.returns-then-tail-ge9223372036854775744-clause-deeds
returns-then-tail-ge9223372036854775744-clause-deeds g c =
    let Step = ActionMakes g.C.Cells.did in
    let r = Err (act.PushShut c.args.value None) in
    let d = c.load-tail.new.self in
    pushes_after Step c.args.cells.now (act.Push c.args.value None) d (act.PushShut c.args.value None) d r (deed.positions_end g.C.Cells.did c.args.cells.now d c.args.value c.load-tail.result c.load-tail.ensures.deed c.if-tail-eq1.false c.if-tail-ge9223372036854775744.true) (pushes_stand Step d (act.PushShut c.args.value None))

pub returns-then-offset-eq31-clause-deeds : goal.returns-then-offset-eq31-clause-deeds
returns-then-offset-eq31-clause-deeds g c =
    let Step = ActionMakes g.C.Cells.did in
    let r = Err (act.Push c.args.value None) in
    let d = c.load-tail.new.self in
    pushes_after Step c.args.cells.now (act.Push c.args.value None) d (act.Push c.args.value None) d r (deed.between_blocks g.C.Cells.did c.args.cells.now d c.args.value c.load-tail.result c.load-tail.ensures.deed c.if-tail-eq1.false c.if-tail-ge9223372036854775744.false c.if-offset-eq31.true) (pushes_stand Step d (act.Push c.args.value None))

pub returns-then-block-eq0-clause-deeds : goal.returns-then-block-eq0-clause-deeds
returns-then-block-eq0-clause-deeds g c =
    let at = goal.at.returns-then-block-eq0-clause-deeds g c in
    let Step = ActionMakes g.C.Cells.did in
    let r = Err (act.PushMake c.args.value c.load-tail.result) in
    let d = c.load-block.new.self in
    pushes_after Step c.args.cells.now (act.Push c.args.value None) c.load-tail.new.self (act.PushLook c.args.value c.load-tail.result None) d r (tail_read g at.Else-offset-eq31) (
    pushes_after Step c.load-tail.new.self (act.PushLook c.args.value c.load-tail.result None) d (act.PushMake c.args.value c.load-tail.result) d r (deed.no_block g.C.Cells.did c.load-tail.new.self d c.args.value c.load-tail.result c.load-block.result c.load-block.ensures.deed c.if-block-eq0.true) (pushes_stand Step d (act.PushMake c.args.value c.load-tail.result)))

pub returns-then-offset-eq30-clause-deeds : goal.returns-then-offset-eq30-clause-deeds
returns-then-offset-eq30-clause-deeds g c =
    let at = goal.at.returns-then-offset-eq30-clause-deeds g c in
    let Step = ActionMakes g.C.Cells.did in
    let r = c.push_last.result in
    let d = c.push_last.new.cells in
    pushes_after Step c.args.cells.now (act.Push c.args.value None) c.load-tail.new.self (act.PushLook c.args.value c.load-tail.result None) d r (tail_read g at.Else-offset-eq31) (
    pushes_after Step c.load-tail.new.self (act.PushLook c.args.value c.load-tail.result None) c.load-block.new.self (act.PushMore c.args.value c.load-tail.result (c.load-block.result - 1)) d r (deed.last_found g.C.Cells.did c.load-tail.new.self c.load-block.new.self c.args.value c.load-tail.result c.load-block.result c.load-block.ensures.deed c.if-block-eq0.false c.if-offset-eq30.true) c.push_last.ensures.deeds)

pub returns-then-is_err-clause-deeds : goal.returns-then-is_err-clause-deeds
returns-then-is_err-clause-deeds g c =
    let at = goal.at.returns-then-is_err-clause-deeds g c in
    let Step = ActionMakes g.C.Cells.did in
    let r = Err (act.Push c.args.value None) in
    let d = c.compare_exchange.new.self in
    pushes_after Step c.args.cells.now (act.Push c.args.value None) c.load-tail.new.self (act.PushLook c.args.value c.load-tail.result None) d r (tail_read g at.Else-offset-eq31) (
    pushes_after Step c.load-tail.new.self (act.PushLook c.args.value c.load-tail.result None) c.load-block.new.self (act.PushSwap c.args.value c.load-tail.result (c.load-block.result - 1) None) d r (found g at.Else-offset-eq30) (
    pushes_after Step c.load-block.new.self (act.PushSwap c.args.value c.load-tail.result (c.load-block.result - 1) None) d (act.Push c.args.value None) d r (deed.place_lost g.C.Cells.did c.load-block.new.self d c.args.value c.load-tail.result (c.load-block.result - 1) None c.compare_exchange.result (sym c.is_err.ensures.value ∙ c.if-is_err.true) c.compare_exchange.ensures.deed) (pushes_stand Step d (act.Push c.args.value None))))

pub returns-in-Err-clause-deeds : goal.returns-in-Err-clause-deeds
returns-in-Err-clause-deeds g c =
    let at = goal.at.returns-in-Err-clause-deeds g c in
    let Step = ActionMakes g.C.Cells.did in
    let r = Err (act.PushPut c.in-Err.value c.load-tail.result (c.load-block.result - 1) None) in
    let d = c.put.new.self in
    pushes_after Step c.args.cells.now (act.Push c.args.value None) c.load-tail.new.self (act.PushLook c.args.value c.load-tail.result None) d r (tail_read g at.Else-offset-eq31) (
    pushes_after Step c.load-tail.new.self (act.PushLook c.args.value c.load-tail.result None) c.load-block.new.self (act.PushSwap c.args.value c.load-tail.result (c.load-block.result - 1) None) d r (found g at.Else-offset-eq30) (
    pushes_after Step c.load-block.new.self (act.PushSwap c.args.value c.load-tail.result (c.load-block.result - 1) None) c.compare_exchange.new.self (act.PushPut c.args.value c.load-tail.result (c.load-block.result - 1) None) d r (won g at.Else-is_err) (
    pushes_after Step c.compare_exchange.new.self (act.PushPut c.args.value c.load-tail.result (c.load-block.result - 1) None) d (act.PushPut c.in-Err.value c.load-tail.result (c.load-block.result - 1) None) d r (deed.slot_not_yet g.C.Cells.did c.compare_exchange.new.self d c.args.value c.load-tail.result (c.load-block.result - 1) (c.load-tail.result / 2 % 32) refl c.in-Err.value c.in-Err.ensures.deed) (pushes_stand Step d (act.PushPut c.in-Err.value c.load-tail.result (c.load-block.result - 1) None)))))

pub returns-clause-deeds : goal.returns-clause-deeds
returns-clause-deeds g c =
    let at = goal.at.returns-clause-deeds g c in
    let Step = ActionMakes g.C.Cells.did in
    let r = Ok (Ok tt) in
    let d = c.store.new.self in
    pushes_after Step c.args.cells.now (act.Push c.args.value None) c.load-tail.new.self (act.PushLook c.args.value c.load-tail.result None) d r (tail_read g at.Else-offset-eq31) (
    pushes_after Step c.load-tail.new.self (act.PushLook c.args.value c.load-tail.result None) c.load-block.new.self (act.PushSwap c.args.value c.load-tail.result (c.load-block.result - 1) None) d r (found g at.Else-offset-eq30) (
    pushes_after Step c.load-block.new.self (act.PushSwap c.args.value c.load-tail.result (c.load-block.result - 1) None) c.compare_exchange.new.self (act.PushPut c.args.value c.load-tail.result (c.load-block.result - 1) None) d r (won g at.Else-is_err) (
    pushes_after Step c.compare_exchange.new.self (act.PushPut c.args.value c.load-tail.result (c.load-block.result - 1) None) c.put.new.self (act.PushStore c.load-tail.result (c.load-block.result - 1) None) d r (filled g at.In_default) (
    deed.push_ends g.C.Cells.did c.put.new.self d c.load-tail.result (c.load-block.result - 1) (c.load-tail.result / 2 % 32) refl c.store.ensures.deed))))

-- ---- each operation is the next one

pub load-tail-requires : goal.load-tail-requires
load-tail-requires g c =
    let k = g.C.Cells in
    record { may = blocks_ready k.may k.stands k.form_of g.met.C.Cells.ready c.args.cells.now (plainly (act.Push c.args.value None)) c.requires.stands }

pub load-block-requires : goal.load-block-requires
load-block-requires g c =
    let k = g.C.Cells in
    let at = goal.at.load-block-requires g c in
    let on = blocks_on k.did k.stands k.form_of g.met.C.Cells.keeps_form g.met.C.Cells.leads in
    let tail_read_so = on c.args.cells.now c.load-tail.new.self (act.Push c.args.value None) (act.PushLook c.args.value c.load-tail.result None) c.requires.stands (tail_read g at.Else-offset-eq31) in
    record { may = blocks_ready k.may k.stands k.form_of g.met.C.Cells.ready c.load-tail.new.self (plainly (act.PushLook c.args.value c.load-tail.result None)) tail_read_so }

pub push_last-requires-clause-stands : goal.push_last-requires-clause-stands
push_last-requires-clause-stands g c =
    let k = g.C.Cells in
    let at = goal.at.push_last-requires-clause-stands g c in
    let on = blocks_on k.did k.stands k.form_of g.met.C.Cells.keeps_form g.met.C.Cells.leads in
    let tail_read_so = on c.args.cells.now c.load-tail.new.self (act.Push c.args.value None) (act.PushLook c.args.value c.load-tail.result None) c.requires.stands (tail_read g at.Else-offset-eq31) in
    on c.load-tail.new.self c.load-block.new.self (act.PushLook c.args.value c.load-tail.result None) (act.PushMore c.args.value c.load-tail.result (c.load-block.result - 1)) tail_read_so (deed.last_found g.C.Cells.did c.load-tail.new.self c.load-block.new.self c.args.value c.load-tail.result c.load-block.result c.load-block.ensures.deed c.if-block-eq0.false c.if-offset-eq30.true)

pub compare_exchange-requires : goal.compare_exchange-requires
compare_exchange-requires g c =
    let k = g.C.Cells in
    let at = goal.at.compare_exchange-requires g c in
    let on = blocks_on k.did k.stands k.form_of g.met.C.Cells.keeps_form g.met.C.Cells.leads in
    let tail_read_so = on c.args.cells.now c.load-tail.new.self (act.Push c.args.value None) (act.PushLook c.args.value c.load-tail.result None) c.requires.stands (tail_read g at.Else-offset-eq31) in
    let found_so = on c.load-tail.new.self c.load-block.new.self (act.PushLook c.args.value c.load-tail.result None) (act.PushSwap c.args.value c.load-tail.result (c.load-block.result - 1) None) tail_read_so (found g at.Else-offset-eq30) in
    record { may = blocks_ready k.may k.stands k.form_of g.met.C.Cells.ready c.load-block.new.self (plainly (act.PushSwap c.args.value c.load-tail.result (c.load-block.result - 1) None)) found_so }

pub put-requires : goal.put-requires
put-requires g c =
    let k = g.C.Cells in
    let at = goal.at.put-requires g c in
    let on = blocks_on k.did k.stands k.form_of g.met.C.Cells.keeps_form g.met.C.Cells.leads in
    let tail_read_so = on c.args.cells.now c.load-tail.new.self (act.Push c.args.value None) (act.PushLook c.args.value c.load-tail.result None) c.requires.stands (tail_read g at.Else-offset-eq31) in
    let found_so = on c.load-tail.new.self c.load-block.new.self (act.PushLook c.args.value c.load-tail.result None) (act.PushSwap c.args.value c.load-tail.result (c.load-block.result - 1) None) tail_read_so (found g at.Else-offset-eq30) in
    let won_so = on c.load-block.new.self c.compare_exchange.new.self (act.PushSwap c.args.value c.load-tail.result (c.load-block.result - 1) None) (act.PushPut c.args.value c.load-tail.result (c.load-block.result - 1) None) found_so (won g at.Else-is_err) in
    record { may = blocks_ready k.may k.stands k.form_of g.met.C.Cells.ready c.compare_exchange.new.self (plainly (act.PushPut c.args.value c.load-tail.result (c.load-block.result - 1) None)) won_so }

pub store-requires : goal.store-requires
store-requires g c =
    let k = g.C.Cells in
    let at = goal.at.store-requires g c in
    let on = blocks_on k.did k.stands k.form_of g.met.C.Cells.keeps_form g.met.C.Cells.leads in
    let tail_read_so = on c.args.cells.now c.load-tail.new.self (act.Push c.args.value None) (act.PushLook c.args.value c.load-tail.result None) c.requires.stands (tail_read g at.Else-offset-eq31) in
    let found_so = on c.load-tail.new.self c.load-block.new.self (act.PushLook c.args.value c.load-tail.result None) (act.PushSwap c.args.value c.load-tail.result (c.load-block.result - 1) None) tail_read_so (found g at.Else-offset-eq30) in
    let won_so = on c.load-block.new.self c.compare_exchange.new.self (act.PushSwap c.args.value c.load-tail.result (c.load-block.result - 1) None) (act.PushPut c.args.value c.load-tail.result (c.load-block.result - 1) None) found_so (won g at.Else-is_err) in
    let filled_so = on c.compare_exchange.new.self c.put.new.self (act.PushPut c.args.value c.load-tail.result (c.load-block.result - 1) None) (act.PushStore c.load-tail.result (c.load-block.result - 1) None) won_so (filled g at.In_default) in
    record { may = blocks_ready k.may k.stands k.form_of g.met.C.Cells.ready c.put.new.self (plainly (act.PushStore c.load-tail.result (c.load-block.result - 1) None)) filled_so }
