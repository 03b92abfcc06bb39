use Rattle.std.proofs.Common.{◌∙◌, sym, subst, Result, Ok, Err, Some, None}
use Rattle.concurrent_queue.specs.machine.FastPath.{IsStep, plainly}
use Rattle.concurrent_queue.specs.machine.BlocksMakes.{ActionMakes}
use Rattle.concurrent_queue.specs.declared.unbounded.action.UnboundedAction.TheVariants as act
use Rattle.concurrent_queue.proofs.BlocksDeeds as deed
use Rattle.concurrent_queue.proofs.RingDeeds.{pushes_after, pushes_stand}
use Rattle.concurrent_queue.proofs.Standing.{blocks_ready, blocks_on}
use Rattle.concurrent_queue.specs.Deeds.{did_put, stored}
use Rattle.concurrent_queue.specs.declared.cells.Slot.TheVariants.{In}
use Rattle.concurrent_queue.specs.declared.cells.Word.TheVariants.{Written}
use Rattle.concurrent_queue.proofs.unbounded.fast_path.push_last.Given.{Over}
use Rattle.concurrent_queue.proofs.unbounded.fast_path.push_last.Goals.{After-fetch_add, After-store, After-store-2, Else-is_err, In-Ok, In_default-put}
use Rattle.concurrent_queue.proofs.unbounded.fast_path.push_last.Goals as goal

-- ---- its steps

got : (g : Over) (c : In-Ok g) → IsStep (ActionMakes g.C.Cells.did) c.args.cells.now (act.PushMore c.args.value c.args.tail c.args.block) c.spare.new.self (act.PushSwap c.args.value c.args.tail c.args.block (Some c.in-Ok.next))
got g c =
    deed.block_got g.C.Cells.did c.args.cells.now c.spare.new.self c.args.value c.args.tail c.args.block c.in-Ok.next c.in-Ok.ensures.deed

won : (g : Over) (c : Else-is_err g) → IsStep (ActionMakes g.C.Cells.did) c.spare.new.self (act.PushSwap c.args.value c.args.tail c.args.block (Some c.in-Ok.next)) c.compare_exchange.new.self (act.PushTurn c.args.value c.args.tail c.args.block c.in-Ok.next)
won g c =
    deed.last_won g.C.Cells.did c.spare.new.self c.compare_exchange.new.self c.args.value c.args.tail c.args.block c.in-Ok.next c.requires.last c.compare_exchange.result (sym c.is_err.ensures.value ∙ c.if-is_err.false) c.compare_exchange.ensures.deed

turned : (g : Over) (c : After-store g) → IsStep (ActionMakes g.C.Cells.did) c.compare_exchange.new.self (act.PushTurn c.args.value c.args.tail c.args.block c.in-Ok.next) c.store.new.self (act.PushAdd c.args.value c.args.tail c.args.block c.in-Ok.next)
turned g c =
    deed.turned g.C.Cells.did c.compare_exchange.new.self c.store.new.self c.args.value c.args.tail c.args.block c.in-Ok.next c.store.ensures.deed

moved : (g : Over) (c : After-fetch_add g) → IsStep (ActionMakes g.C.Cells.did) c.store.new.self (act.PushAdd c.args.value c.args.tail c.args.block c.in-Ok.next) c.fetch_add.new.self (act.PushLink c.args.value c.args.tail c.args.block c.in-Ok.next)
moved g c =
    deed.tail_moved g.C.Cells.did c.store.new.self c.fetch_add.new.self c.args.value c.args.tail c.args.block c.in-Ok.next c.fetch_add.result c.fetch_add.ensures.deed

linked : (g : Over) (c : After-store-2 g) → IsStep (ActionMakes g.C.Cells.did) c.fetch_add.new.self (act.PushLink c.args.value c.args.tail c.args.block c.in-Ok.next) c.store-2.new.self (act.PushPut c.args.value c.args.tail c.args.block None)
linked g c =
    deed.linked g.C.Cells.did c.fetch_add.new.self c.store-2.new.self c.args.value c.args.tail c.args.block c.in-Ok.next c.store-2.ensures.deed

filled : (g : Over) (c : In_default-put g) → IsStep (ActionMakes g.C.Cells.did) c.store-2.new.self (act.PushPut c.args.value c.args.tail c.args.block None) c.put.new.self (act.PushStore c.args.tail c.args.block None)
filled g c =
    deed.message_put g.C.Cells.did c.store-2.new.self c.put.new.self c.args.value c.args.tail c.args.block 30 c.requires.last c.in_default-put.field-0 c.in_default-put.ensures.deed

-- ---- what they are one after another

pub returns-then-is_err-clause-deeds : goal.returns-then-is_err-clause-deeds
returns-then-is_err-clause-deeds g c =
    let at = goal.at.returns-then-is_err-clause-deeds g c in
    let Step = ActionMakes g.C.Cells.did in
    let r = Err (act.Push c.args.value (Some c.in-Ok.next)) in
    let d = c.compare_exchange.new.self in
    pushes_after Step c.args.cells.now (act.PushMore c.args.value c.args.tail c.args.block) c.spare.new.self (act.PushSwap c.args.value c.args.tail c.args.block (Some c.in-Ok.next)) d r (got g at.In-Ok) (
    pushes_after Step c.spare.new.self (act.PushSwap c.args.value c.args.tail c.args.block (Some c.in-Ok.next)) d (act.Push c.args.value (Some c.in-Ok.next)) d r (deed.place_lost g.C.Cells.did c.spare.new.self d c.args.value c.args.tail c.args.block (Some c.in-Ok.next) c.compare_exchange.result (sym c.is_err.ensures.value ∙ c.if-is_err.true) c.compare_exchange.ensures.deed) (pushes_stand Step d (act.Push c.args.value (Some c.in-Ok.next))))

pub returns-in-Err-clause-deeds : goal.returns-in-Err-clause-deeds
returns-in-Err-clause-deeds g c =
    let at = goal.at.returns-in-Err-clause-deeds g c in
    let Step = ActionMakes g.C.Cells.did in
    let r = Err (act.PushPut c.in-Err.value c.args.tail c.args.block None) in
    let d = c.put.new.self in
    pushes_after Step c.args.cells.now (act.PushMore c.args.value c.args.tail c.args.block) c.spare.new.self (act.PushSwap c.args.value c.args.tail c.args.block (Some c.in-Ok.next)) d r (got g at.In-Ok) (
    pushes_after Step c.spare.new.self (act.PushSwap c.args.value c.args.tail c.args.block (Some c.in-Ok.next)) c.compare_exchange.new.self (act.PushTurn c.args.value c.args.tail c.args.block c.in-Ok.next) d r (won g at.Else-is_err) (
    pushes_after Step c.compare_exchange.new.self (act.PushTurn c.args.value c.args.tail c.args.block c.in-Ok.next) c.store.new.self (act.PushAdd c.args.value c.args.tail c.args.block c.in-Ok.next) d r (turned g at.After-store) (
    pushes_after Step c.store.new.self (act.PushAdd c.args.value c.args.tail c.args.block c.in-Ok.next) c.fetch_add.new.self (act.PushLink c.args.value c.args.tail c.args.block c.in-Ok.next) d r (moved g at.After-fetch_add) (
    pushes_after Step c.fetch_add.new.self (act.PushLink c.args.value c.args.tail c.args.block c.in-Ok.next) c.store-2.new.self (act.PushPut c.args.value c.args.tail c.args.block None) d r (linked g at.After-store-2) (
    pushes_after Step c.store-2.new.self (act.PushPut c.args.value c.args.tail c.args.block None) d (act.PushPut c.in-Err.value c.args.tail c.args.block None) d r (deed.slot_not_yet g.C.Cells.did c.store-2.new.self d c.args.value c.args.tail c.args.block 30 c.requires.last c.in-Err.value c.in-Err.ensures.deed) (pushes_stand Step d (act.PushPut c.in-Err.value c.args.tail c.args.block None)))))))

pub returns-clause-deeds : goal.returns-clause-deeds
returns-clause-deeds g c =
    let at = goal.at.returns-clause-deeds g c in
    let Step = ActionMakes g.C.Cells.did in
    let r = Ok (Ok tt) in
    let d = c.store-3.new.self in
    pushes_after Step c.args.cells.now (act.PushMore c.args.value c.args.tail c.args.block) c.spare.new.self (act.PushSwap c.args.value c.args.tail c.args.block (Some c.in-Ok.next)) d r (got g at.In-Ok) (
    pushes_after Step c.spare.new.self (act.PushSwap c.args.value c.args.tail c.args.block (Some c.in-Ok.next)) c.compare_exchange.new.self (act.PushTurn c.args.value c.args.tail c.args.block c.in-Ok.next) d r (won g at.Else-is_err) (
    pushes_after Step c.compare_exchange.new.self (act.PushTurn c.args.value c.args.tail c.args.block c.in-Ok.next) c.store.new.self (act.PushAdd c.args.value c.args.tail c.args.block c.in-Ok.next) d r (turned g at.After-store) (
    pushes_after Step c.store.new.self (act.PushAdd c.args.value c.args.tail c.args.block c.in-Ok.next) c.fetch_add.new.self (act.PushLink c.args.value c.args.tail c.args.block c.in-Ok.next) d r (moved g at.After-fetch_add) (
    pushes_after Step c.fetch_add.new.self (act.PushLink c.args.value c.args.tail c.args.block c.in-Ok.next) c.store-2.new.self (act.PushPut c.args.value c.args.tail c.args.block None) d r (linked g at.After-store-2) (
    pushes_after Step c.store-2.new.self (act.PushPut c.args.value c.args.tail c.args.block None) c.put.new.self (act.PushStore c.args.tail c.args.block None) d r (filled g at.In_default-put) (
    deed.push_ends g.C.Cells.did c.put.new.self d c.args.tail c.args.block 30 c.requires.last c.store-3.ensures.deed))))))

pub returns-in_default-clause-deeds : goal.returns-in_default-clause-deeds
returns-in_default-clause-deeds g c = deed.block_refused g.C.Cells.did c.args.cells.now c.spare.new.self c.args.value c.args.tail c.args.block c.in_default.field-0 c.in_default.ensures.deed

-- ---- each operation is the next one

pub spare-requires : goal.spare-requires
spare-requires g c =
    let k = g.C.Cells in
    record { may = blocks_ready k.may k.stands k.form_of g.met.C.Cells.ready c.args.cells.now (plainly (act.PushMore c.args.value c.args.tail c.args.block)) c.requires.stands }

pub compare_exchange-requires : goal.compare_exchange-requires
compare_exchange-requires g c =
    let k = g.C.Cells in
    let at = goal.at.compare_exchange-requires g c in
    let on = blocks_on k.did k.stands k.form_of g.met.C.Cells.keeps_form g.met.C.Cells.leads in
    let got_so = on c.args.cells.now c.spare.new.self (act.PushMore c.args.value c.args.tail c.args.block) (act.PushSwap c.args.value c.args.tail c.args.block (Some c.in-Ok.next)) c.requires.stands (got g at.In-Ok) in
    record { may = blocks_ready k.may k.stands k.form_of g.met.C.Cells.ready c.spare.new.self (plainly (act.PushSwap c.args.value c.args.tail c.args.block (Some c.in-Ok.next))) got_so }

pub store-requires : goal.store-requires
store-requires g c =
    let k = g.C.Cells in
    let at = goal.at.store-requires g c in
    let on = blocks_on k.did k.stands k.form_of g.met.C.Cells.keeps_form g.met.C.Cells.leads in
    let got_so = on c.args.cells.now c.spare.new.self (act.PushMore c.args.value c.args.tail c.args.block) (act.PushSwap c.args.value c.args.tail c.args.block (Some c.in-Ok.next)) c.requires.stands (got g at.In-Ok) in
    let won_so = on c.spare.new.self c.compare_exchange.new.self (act.PushSwap c.args.value c.args.tail c.args.block (Some c.in-Ok.next)) (act.PushTurn c.args.value c.args.tail c.args.block c.in-Ok.next) got_so (won g at.Else-is_err) in
    record { may = blocks_ready k.may k.stands k.form_of g.met.C.Cells.ready c.compare_exchange.new.self (plainly (act.PushTurn c.args.value c.args.tail c.args.block c.in-Ok.next)) won_so }

pub fetch_add-requires : goal.fetch_add-requires
fetch_add-requires g c =
    let k = g.C.Cells in
    let at = goal.at.fetch_add-requires g c in
    let on = blocks_on k.did k.stands k.form_of g.met.C.Cells.keeps_form g.met.C.Cells.leads in
    let got_so = on c.args.cells.now c.spare.new.self (act.PushMore c.args.value c.args.tail c.args.block) (act.PushSwap c.args.value c.args.tail c.args.block (Some c.in-Ok.next)) c.requires.stands (got g at.In-Ok) in
    let won_so = on c.spare.new.self c.compare_exchange.new.self (act.PushSwap c.args.value c.args.tail c.args.block (Some c.in-Ok.next)) (act.PushTurn c.args.value c.args.tail c.args.block c.in-Ok.next) got_so (won g at.Else-is_err) in
    let turned_so = on c.compare_exchange.new.self c.store.new.self (act.PushTurn c.args.value c.args.tail c.args.block c.in-Ok.next) (act.PushAdd c.args.value c.args.tail c.args.block c.in-Ok.next) won_so (turned g at.After-store) in
    record { may = blocks_ready k.may k.stands k.form_of g.met.C.Cells.ready c.store.new.self (plainly (act.PushAdd c.args.value c.args.tail c.args.block c.in-Ok.next)) turned_so }

pub store-requires-2 : goal.store-requires-2
store-requires-2 g c =
    let k = g.C.Cells in
    let at = goal.at.store-requires-2 g c in
    let on = blocks_on k.did k.stands k.form_of g.met.C.Cells.keeps_form g.met.C.Cells.leads in
    let got_so = on c.args.cells.now c.spare.new.self (act.PushMore c.args.value c.args.tail c.args.block) (act.PushSwap c.args.value c.args.tail c.args.block (Some c.in-Ok.next)) c.requires.stands (got g at.In-Ok) in
    let won_so = on c.spare.new.self c.compare_exchange.new.self (act.PushSwap c.args.value c.args.tail c.args.block (Some c.in-Ok.next)) (act.PushTurn c.args.value c.args.tail c.args.block c.in-Ok.next) got_so (won g at.Else-is_err) in
    let turned_so = on c.compare_exchange.new.self c.store.new.self (act.PushTurn c.args.value c.args.tail c.args.block c.in-Ok.next) (act.PushAdd c.args.value c.args.tail c.args.block c.in-Ok.next) won_so (turned g at.After-store) in
    let moved_so = on c.store.new.self c.fetch_add.new.self (act.PushAdd c.args.value c.args.tail c.args.block c.in-Ok.next) (act.PushLink c.args.value c.args.tail c.args.block c.in-Ok.next) turned_so (moved g at.After-fetch_add) in
    record { may = blocks_ready k.may k.stands k.form_of g.met.C.Cells.ready c.fetch_add.new.self (plainly (act.PushLink c.args.value c.args.tail c.args.block c.in-Ok.next)) moved_so }

pub put-requires : goal.put-requires
put-requires g c =
    let k = g.C.Cells in
    let at = goal.at.put-requires g c in
    let on = blocks_on k.did k.stands k.form_of g.met.C.Cells.keeps_form g.met.C.Cells.leads in
    let got_so = on c.args.cells.now c.spare.new.self (act.PushMore c.args.value c.args.tail c.args.block) (act.PushSwap c.args.value c.args.tail c.args.block (Some c.in-Ok.next)) c.requires.stands (got g at.In-Ok) in
    let won_so = on c.spare.new.self c.compare_exchange.new.self (act.PushSwap c.args.value c.args.tail c.args.block (Some c.in-Ok.next)) (act.PushTurn c.args.value c.args.tail c.args.block c.in-Ok.next) got_so (won g at.Else-is_err) in
    let turned_so = on c.compare_exchange.new.self c.store.new.self (act.PushTurn c.args.value c.args.tail c.args.block c.in-Ok.next) (act.PushAdd c.args.value c.args.tail c.args.block c.in-Ok.next) won_so (turned g at.After-store) in
    let moved_so = on c.store.new.self c.fetch_add.new.self (act.PushAdd c.args.value c.args.tail c.args.block c.in-Ok.next) (act.PushLink c.args.value c.args.tail c.args.block c.in-Ok.next) turned_so (moved g at.After-fetch_add) in
    let linked_so = on c.fetch_add.new.self c.store-2.new.self (act.PushLink c.args.value c.args.tail c.args.block c.in-Ok.next) (act.PushPut c.args.value c.args.tail c.args.block None) moved_so (linked g at.After-store-2) in
    record { may = subst (λ i. (o : Result Unit g.row.T.Denot) → k.may (did_put (In c.args.block i) c.args.value o) c.store-2.new.self) c.requires.last (blocks_ready k.may k.stands k.form_of g.met.C.Cells.ready c.store-2.new.self (plainly (act.PushPut c.args.value c.args.tail c.args.block None)) linked_so) }

pub store-requires-3 : goal.store-requires-3
store-requires-3 g c =
    let k = g.C.Cells in
    let at = goal.at.store-requires-3 g c in
    let on = blocks_on k.did k.stands k.form_of g.met.C.Cells.keeps_form g.met.C.Cells.leads in
    let got_so = on c.args.cells.now c.spare.new.self (act.PushMore c.args.value c.args.tail c.args.block) (act.PushSwap c.args.value c.args.tail c.args.block (Some c.in-Ok.next)) c.requires.stands (got g at.In-Ok) in
    let won_so = on c.spare.new.self c.compare_exchange.new.self (act.PushSwap c.args.value c.args.tail c.args.block (Some c.in-Ok.next)) (act.PushTurn c.args.value c.args.tail c.args.block c.in-Ok.next) got_so (won g at.Else-is_err) in
    let turned_so = on c.compare_exchange.new.self c.store.new.self (act.PushTurn c.args.value c.args.tail c.args.block c.in-Ok.next) (act.PushAdd c.args.value c.args.tail c.args.block c.in-Ok.next) won_so (turned g at.After-store) in
    let moved_so = on c.store.new.self c.fetch_add.new.self (act.PushAdd c.args.value c.args.tail c.args.block c.in-Ok.next) (act.PushLink c.args.value c.args.tail c.args.block c.in-Ok.next) turned_so (moved g at.After-fetch_add) in
    let linked_so = on c.fetch_add.new.self c.store-2.new.self (act.PushLink c.args.value c.args.tail c.args.block c.in-Ok.next) (act.PushPut c.args.value c.args.tail c.args.block None) moved_so (linked g at.After-store-2) in
    let filled_so = on c.store-2.new.self c.put.new.self (act.PushPut c.args.value c.args.tail c.args.block None) (act.PushStore c.args.tail c.args.block None) linked_so (filled g at.In_default-put) in
    record { may = subst (λ i. k.may (stored (Written c.args.block i) 1) c.put.new.self) c.requires.last (blocks_ready k.may k.stands k.form_of g.met.C.Cells.ready c.put.new.self (plainly (act.PushStore c.args.tail c.args.block None)) filled_so) }
