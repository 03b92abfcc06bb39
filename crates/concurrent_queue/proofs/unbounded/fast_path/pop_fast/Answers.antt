use Rattle.std.proofs.Common.{◌-◌, ◌∙◌, sym, subst, Ok, Err}
use Rattle.concurrent_queue.specs.machine.FastPath.{IsStep, PopsOnEnd, plainly}
use Rattle.concurrent_queue.specs.machine.BlocksMakes.{ActionMakes}
use Rattle.concurrent_queue.specs.declared.unbounded.action.UnboundedAction.TheVariants as act
use Rattle.concurrent_queue.proofs.BlocksDeeds as deed
use Rattle.concurrent_queue.proofs.RingDeeds.{pops_after, pops_stand}
use Rattle.concurrent_queue.proofs.Standing.{blocks_ready, blocks_on}
use Rattle.concurrent_queue.specs.declared.queue_call.CallState.TheVariants as state
use Rattle.concurrent_queue.proofs.unbounded.fast_path.pop_fast.Given.{Over}
use Rattle.concurrent_queue.proofs.unbounded.fast_path.pop_fast.Goals.{After-load-block, Else-block-eq0, Else-next-eq0, Else-offset-eq31, Then-offset-eq30, then-offset-eq30+else-next-eq0, else-offset-eq30}
use Rattle.concurrent_queue.proofs.unbounded.fast_path.pop_fast.Goals as goal

-- ---- its steps

head_read : (g : Over) (c : Else-offset-eq31 g) → IsStep (ActionMakes g.C.Cells.did) c.args.cells.now act.Pop c.load-head.new.self (act.PopLook c.load-head.result)
head_read g c =
    deed.head_loaded g.C.Cells.did c.args.cells.now c.load-head.new.self c.load-head.result c.load-head.ensures.deed c.if-offset-eq31.false

looked : (g : Over) (c : After-load-block g) → IsStep (ActionMakes g.C.Cells.did) c.load-head.new.self (act.PopLook c.load-head.result) c.load-block.new.self (act.PopTail c.load-head.result c.load-block.result)
looked g c =
    deed.head_block g.C.Cells.did c.load-head.new.self c.load-block.new.self c.load-head.result c.load-block.result c.load-block.ensures.deed

there : (g : Over) (c : Else-block-eq0 g) → IsStep (ActionMakes g.C.Cells.did) c.load-block.new.self (act.PopTail c.load-head.result c.load-block.result) c.load-tail.new.self (act.PopSwap c.load-head.result (c.load-block.result - 1))
there g c =
    deed.message_there g.C.Cells.did c.load-block.new.self c.load-tail.new.self c.load-head.result c.load-block.result c.load-tail.result c.load-tail.ensures.deed (λ e. c.if-number_of.false (c.number_of.ensures ∙ e ∙ sym c.number_of-2.ensures)) c.if-block-eq0.false

last_won : (g : Over) (c : Then-offset-eq30 g) → IsStep (ActionMakes g.C.Cells.did) c.load-tail.new.self (act.PopSwap c.load-head.result (c.load-block.result - 1)) c.compare_exchange.new.self (act.PopNext c.load-head.result (c.load-block.result - 1))
last_won g c =
    deed.last_taken g.C.Cells.did c.load-tail.new.self c.compare_exchange.new.self c.load-head.result (c.load-block.result - 1) c.if-offset-eq30.true c.compare_exchange.result (sym c.is_err.ensures.value ∙ c.if-is_err.false) c.compare_exchange.ensures.deed

next_found : (g : Over) (c : Else-next-eq0 g) → IsStep (ActionMakes g.C.Cells.did) c.compare_exchange.new.self (act.PopNext c.load-head.result (c.load-block.result - 1)) c.load-next.new.self (act.PopBlock c.load-head.result (c.load-block.result - 1) c.load-next.result)
next_found g c =
    deed.next_found g.C.Cells.did c.compare_exchange.new.self c.load-next.new.self c.load-head.result (c.load-block.result - 1) c.load-next.result c.load-next.ensures.deed c.if-next-eq0.false

-- ---- what they are one after another

pub returns-then-offset-eq31-clause-deeds : goal.returns-then-offset-eq31-clause-deeds
returns-then-offset-eq31-clause-deeds g c =
    let Step = ActionMakes g.C.Cells.did in
    let r = Err act.Pop in
    let d = c.load-head.new.self in
    pops_after Step c.args.cells.now act.Pop d act.Pop d r (deed.head_turns g.C.Cells.did c.args.cells.now d c.load-head.result c.load-head.ensures.deed c.if-offset-eq31.true) (pops_stand Step d act.Pop)

pub returns-then-number_of-clause-deeds : goal.returns-then-number_of-clause-deeds
returns-then-number_of-clause-deeds g c =
    let at = goal.at.returns-then-number_of-clause-deeds g c in
    let Step = ActionMakes g.C.Cells.did in
    let r = Ok (Err c.refusal.result) in
    let d = c.load-tail.new.self in
    pops_after Step c.args.cells.now act.Pop c.load-head.new.self (act.PopLook c.load-head.result) d r (head_read g at.Else-offset-eq31) (
    pops_after Step c.load-head.new.self (act.PopLook c.load-head.result) c.load-block.new.self (act.PopTail c.load-head.result c.load-block.result) d r (looked g at.After-load-block) (
    deed.nothing_there g.C.Cells.did c.load-block.new.self d c.load-head.result c.load-block.result c.load-tail.result c.load-tail.ensures.deed c.refusal.result (sym c.number_of.ensures ∙ c.if-number_of.true ∙ c.number_of-2.ensures) c.refusal.ensures))

pub returns-then-block-eq0-clause-deeds : goal.returns-then-block-eq0-clause-deeds
returns-then-block-eq0-clause-deeds g c =
    let at = goal.at.returns-then-block-eq0-clause-deeds g c in
    let Step = ActionMakes g.C.Cells.did in
    let r = Err act.Pop in
    let d = c.load-tail.new.self in
    pops_after Step c.args.cells.now act.Pop c.load-head.new.self (act.PopLook c.load-head.result) d r (head_read g at.Else-offset-eq31) (
    pops_after Step c.load-head.new.self (act.PopLook c.load-head.result) c.load-block.new.self (act.PopTail c.load-head.result c.load-block.result) d r (looked g at.After-load-block) (
    pops_after Step c.load-block.new.self (act.PopTail c.load-head.result c.load-block.result) d act.Pop d r (deed.block_not_there g.C.Cells.did c.load-block.new.self d c.load-head.result c.load-block.result c.load-tail.result c.load-tail.ensures.deed (λ e. c.if-number_of.false (c.number_of.ensures ∙ e ∙ sym c.number_of-2.ensures)) c.if-block-eq0.true) (pops_stand Step d act.Pop)))

pub returns-then-is_err-clause-deeds : goal.returns-then-is_err-clause-deeds
returns-then-is_err-clause-deeds g c =
    let at = goal.at.returns-then-is_err-clause-deeds g c in
    let Step = ActionMakes g.C.Cells.did in
    let r = Err act.Pop in
    let d = c.compare_exchange.new.self in
    pops_after Step c.args.cells.now act.Pop c.load-head.new.self (act.PopLook c.load-head.result) d r (head_read g at.Else-offset-eq31) (
    pops_after Step c.load-head.new.self (act.PopLook c.load-head.result) c.load-block.new.self (act.PopTail c.load-head.result c.load-block.result) d r (looked g at.After-load-block) (
    pops_after Step c.load-block.new.self (act.PopTail c.load-head.result c.load-block.result) c.load-tail.new.self (act.PopSwap c.load-head.result (c.load-block.result - 1)) d r (there g at.Else-block-eq0) (
    pops_after Step c.load-tail.new.self (act.PopSwap c.load-head.result (c.load-block.result - 1)) d act.Pop d r (deed.message_lost g.C.Cells.did c.load-tail.new.self d c.load-head.result (c.load-block.result - 1) c.compare_exchange.result (sym c.is_err.ensures.value ∙ c.if-is_err.true) c.compare_exchange.ensures.deed) (pops_stand Step d act.Pop))))

pub returns-then-next-eq0-clause-deeds : goal.returns-then-next-eq0-clause-deeds
returns-then-next-eq0-clause-deeds g c =
    let at = goal.at.returns-then-next-eq0-clause-deeds g c in
    let Step = ActionMakes g.C.Cells.did in
    let r = Err (act.PopNext c.load-head.result (c.load-block.result - 1)) in
    let d = c.load-next.new.self in
    pops_after Step c.args.cells.now act.Pop c.load-head.new.self (act.PopLook c.load-head.result) d r (head_read g at.Else-offset-eq31) (
    pops_after Step c.load-head.new.self (act.PopLook c.load-head.result) c.load-block.new.self (act.PopTail c.load-head.result c.load-block.result) d r (looked g at.After-load-block) (
    pops_after Step c.load-block.new.self (act.PopTail c.load-head.result c.load-block.result) c.load-tail.new.self (act.PopSwap c.load-head.result (c.load-block.result - 1)) d r (there g at.Else-block-eq0) (
    pops_after Step c.load-tail.new.self (act.PopSwap c.load-head.result (c.load-block.result - 1)) c.compare_exchange.new.self (act.PopNext c.load-head.result (c.load-block.result - 1)) d r (last_won g at.Then-offset-eq30) (
    pops_after Step c.compare_exchange.new.self (act.PopNext c.load-head.result (c.load-block.result - 1)) d (act.PopNext c.load-head.result (c.load-block.result - 1)) d r (deed.next_not_yet g.C.Cells.did c.compare_exchange.new.self d c.load-head.result (c.load-block.result - 1) c.load-next.result c.load-next.ensures.deed c.if-next-eq0.true) (pops_stand Step d (act.PopNext c.load-head.result (c.load-block.result - 1)))))))

pub returns-clause-deeds : goal.returns-clause-deeds
returns-clause-deeds g c =
    let at = goal.at.returns-clause-deeds g c in
    let Step = ActionMakes g.C.Cells.did in
    let r = c.pop_written.result in
    let d = c.pop_written.new.cells in
    pops_after Step c.args.cells.now act.Pop c.load-head.new.self (act.PopLook c.load-head.result) d r (head_read g at.Else-offset-eq31) (
    pops_after Step c.load-head.new.self (act.PopLook c.load-head.result) c.load-block.new.self (act.PopTail c.load-head.result c.load-block.result) d r (looked g at.After-load-block) (
    pops_after Step c.load-block.new.self (act.PopTail c.load-head.result c.load-block.result) c.load-tail.new.self (act.PopSwap c.load-head.result (c.load-block.result - 1)) d r (there g at.Else-block-eq0) (
    elim c.if-offset-eq30.branch [
      | then-offset-eq30+else-next-eq0 y ↦
          pops_after Step c.load-tail.new.self (act.PopSwap c.load-head.result (c.load-block.result - 1)) c.compare_exchange.new.self (act.PopNext c.load-head.result (c.load-block.result - 1)) d r (deed.last_taken g.C.Cells.did c.load-tail.new.self c.compare_exchange.new.self c.load-head.result (c.load-block.result - 1) y.if-offset-eq30.true c.compare_exchange.result (sym c.is_err.ensures.value ∙ c.if-is_err.false) c.compare_exchange.ensures.deed)
          (pops_after Step c.compare_exchange.new.self (act.PopNext c.load-head.result (c.load-block.result - 1)) y.load-next.new.self (act.PopBlock c.load-head.result (c.load-block.result - 1) y.load-next.result) d r (deed.next_found g.C.Cells.did c.compare_exchange.new.self y.load-next.new.self c.load-head.result (c.load-block.result - 1) y.load-next.result y.load-next.ensures.deed y.if-next-eq0.false)
          (pops_after Step y.load-next.new.self (act.PopBlock c.load-head.result (c.load-block.result - 1) y.load-next.result) y.store.new.self (act.PopHead c.load-head.result (c.load-block.result - 1)) d r (deed.block_left g.C.Cells.did y.load-next.new.self y.store.new.self c.load-head.result (c.load-block.result - 1) y.load-next.result y.store.ensures.deed)
          (pops_after Step y.store.new.self (act.PopHead c.load-head.result (c.load-block.result - 1)) y.store-then-offset-eq30.new.self (act.PopWait c.load-head.result (c.load-block.result - 1)) d r (deed.head_moved g.C.Cells.did y.store.new.self y.store-then-offset-eq30.new.self c.load-head.result (c.load-block.result - 1) y.store-then-offset-eq30.ensures.deed)
          (subst (λ z. PopsOnEnd Step z (act.PopWait c.load-head.result (c.load-block.result - 1)) r d) y.cells-is c.pop_written.ensures.deeds))))
      | else-offset-eq30 y ↦
          pops_after Step c.load-tail.new.self (act.PopSwap c.load-head.result (c.load-block.result - 1)) c.compare_exchange.new.self (act.PopWait c.load-head.result (c.load-block.result - 1)) d r (deed.message_won g.C.Cells.did c.load-tail.new.self c.compare_exchange.new.self c.load-head.result (c.load-block.result - 1) y.if-offset-eq30.false c.compare_exchange.result (sym c.is_err.ensures.value ∙ c.if-is_err.false) c.compare_exchange.ensures.deed)
          (subst (λ z. PopsOnEnd Step z (act.PopWait c.load-head.result (c.load-block.result - 1)) r d) y.cells-is c.pop_written.ensures.deeds)
    ])))

-- ---- each operation is the next one

pub load-head-requires : goal.load-head-requires
load-head-requires g c =
    let k = g.C.Cells in
    record { may = blocks_ready k.may k.stands k.form_of g.met.C.Cells.ready c.args.cells.now (plainly act.Pop) c.requires.stands }

pub load-block-requires : goal.load-block-requires
load-block-requires g c =
    let k = g.C.Cells in
    let at = goal.at.load-block-requires g c in
    let on = blocks_on k.did k.stands k.form_of g.met.C.Cells.keeps_form g.met.C.Cells.leads in
    let head_read_so = on c.args.cells.now c.load-head.new.self act.Pop (act.PopLook c.load-head.result) c.requires.stands (head_read g at.Else-offset-eq31) in
    record { may = blocks_ready k.may k.stands k.form_of g.met.C.Cells.ready c.load-head.new.self (plainly (act.PopLook c.load-head.result)) head_read_so }

pub load-tail-requires : goal.load-tail-requires
load-tail-requires g c =
    let k = g.C.Cells in
    let at = goal.at.load-tail-requires g c in
    let on = blocks_on k.did k.stands k.form_of g.met.C.Cells.keeps_form g.met.C.Cells.leads in
    let head_read_so = on c.args.cells.now c.load-head.new.self act.Pop (act.PopLook c.load-head.result) c.requires.stands (head_read g at.Else-offset-eq31) in
    let looked_so = on c.load-head.new.self c.load-block.new.self (act.PopLook c.load-head.result) (act.PopTail c.load-head.result c.load-block.result) head_read_so (looked g at.After-load-block) in
    record { may = blocks_ready k.may k.stands k.form_of g.met.C.Cells.ready c.load-block.new.self (plainly (act.PopTail c.load-head.result c.load-block.result)) looked_so }

pub compare_exchange-requires : goal.compare_exchange-requires
compare_exchange-requires g c =
    let k = g.C.Cells in
    let at = goal.at.compare_exchange-requires g c in
    let on = blocks_on k.did k.stands k.form_of g.met.C.Cells.keeps_form g.met.C.Cells.leads in
    let head_read_so = on c.args.cells.now c.load-head.new.self act.Pop (act.PopLook c.load-head.result) c.requires.stands (head_read g at.Else-offset-eq31) in
    let looked_so = on c.load-head.new.self c.load-block.new.self (act.PopLook c.load-head.result) (act.PopTail c.load-head.result c.load-block.result) head_read_so (looked g at.After-load-block) in
    let there_so = on c.load-block.new.self c.load-tail.new.self (act.PopTail c.load-head.result c.load-block.result) (act.PopSwap c.load-head.result (c.load-block.result - 1)) looked_so (there g at.Else-block-eq0) in
    record { may = blocks_ready k.may k.stands k.form_of g.met.C.Cells.ready c.load-tail.new.self (plainly (act.PopSwap c.load-head.result (c.load-block.result - 1))) there_so }

pub load-next-requires : goal.load-next-requires
load-next-requires g c =
    let k = g.C.Cells in
    let at = goal.at.load-next-requires g c in
    let on = blocks_on k.did k.stands k.form_of g.met.C.Cells.keeps_form g.met.C.Cells.leads in
    let head_read_so = on c.args.cells.now c.load-head.new.self act.Pop (act.PopLook c.load-head.result) c.requires.stands (head_read g at.Else-offset-eq31) in
    let looked_so = on c.load-head.new.self c.load-block.new.self (act.PopLook c.load-head.result) (act.PopTail c.load-head.result c.load-block.result) head_read_so (looked g at.After-load-block) in
    let there_so = on c.load-block.new.self c.load-tail.new.self (act.PopTail c.load-head.result c.load-block.result) (act.PopSwap c.load-head.result (c.load-block.result - 1)) looked_so (there g at.Else-block-eq0) in
    let last_won_so = on c.load-tail.new.self c.compare_exchange.new.self (act.PopSwap c.load-head.result (c.load-block.result - 1)) (act.PopNext c.load-head.result (c.load-block.result - 1)) there_so (last_won g at.Then-offset-eq30) in
    record { may = blocks_ready k.may k.stands k.form_of g.met.C.Cells.ready c.compare_exchange.new.self (plainly (act.PopNext c.load-head.result (c.load-block.result - 1))) last_won_so }

pub store-requires : goal.store-requires
store-requires g c =
    let k = g.C.Cells in
    let at = goal.at.store-requires g c in
    let on = blocks_on k.did k.stands k.form_of g.met.C.Cells.keeps_form g.met.C.Cells.leads in
    let head_read_so = on c.args.cells.now c.load-head.new.self act.Pop (act.PopLook c.load-head.result) c.requires.stands (head_read g at.Else-offset-eq31) in
    let looked_so = on c.load-head.new.self c.load-block.new.self (act.PopLook c.load-head.result) (act.PopTail c.load-head.result c.load-block.result) head_read_so (looked g at.After-load-block) in
    let there_so = on c.load-block.new.self c.load-tail.new.self (act.PopTail c.load-head.result c.load-block.result) (act.PopSwap c.load-head.result (c.load-block.result - 1)) looked_so (there g at.Else-block-eq0) in
    let last_won_so = on c.load-tail.new.self c.compare_exchange.new.self (act.PopSwap c.load-head.result (c.load-block.result - 1)) (act.PopNext c.load-head.result (c.load-block.result - 1)) there_so (last_won g at.Then-offset-eq30) in
    let next_found_so = on c.compare_exchange.new.self c.load-next.new.self (act.PopNext c.load-head.result (c.load-block.result - 1)) (act.PopBlock c.load-head.result (c.load-block.result - 1) c.load-next.result) last_won_so (next_found g at.Else-next-eq0) in
    record { may = blocks_ready k.may k.stands k.form_of g.met.C.Cells.ready c.load-next.new.self (plainly (act.PopBlock c.load-head.result (c.load-block.result - 1) c.load-next.result)) next_found_so }

pub store-requires-then-offset-eq30 : goal.store-requires-then-offset-eq30
store-requires-then-offset-eq30 g c =
    let k = g.C.Cells in
    let at = goal.at.store-requires-then-offset-eq30 g c in
    let on = blocks_on k.did k.stands k.form_of g.met.C.Cells.keeps_form g.met.C.Cells.leads in
    let head_read_so = on c.args.cells.now c.load-head.new.self act.Pop (act.PopLook c.load-head.result) c.requires.stands (head_read g at.Else-offset-eq31) in
    let looked_so = on c.load-head.new.self c.load-block.new.self (act.PopLook c.load-head.result) (act.PopTail c.load-head.result c.load-block.result) head_read_so (looked g at.After-load-block) in
    let there_so = on c.load-block.new.self c.load-tail.new.self (act.PopTail c.load-head.result c.load-block.result) (act.PopSwap c.load-head.result (c.load-block.result - 1)) looked_so (there g at.Else-block-eq0) in
    let last_won_so = on c.load-tail.new.self c.compare_exchange.new.self (act.PopSwap c.load-head.result (c.load-block.result - 1)) (act.PopNext c.load-head.result (c.load-block.result - 1)) there_so (last_won g at.Then-offset-eq30) in
    let next_found_so = on c.compare_exchange.new.self c.load-next.new.self (act.PopNext c.load-head.result (c.load-block.result - 1)) (act.PopBlock c.load-head.result (c.load-block.result - 1) c.load-next.result) last_won_so (next_found g at.Else-next-eq0) in
    record { may = blocks_ready k.may k.stands k.form_of g.met.C.Cells.ready c.store.new.self (plainly (act.PopHead c.load-head.result (c.load-block.result - 1))) (on c.load-next.new.self c.store.new.self (act.PopBlock c.load-head.result (c.load-block.result - 1) c.load-next.result) (act.PopHead c.load-head.result (c.load-block.result - 1)) next_found_so (deed.block_left g.C.Cells.did c.load-next.new.self c.store.new.self c.load-head.result (c.load-block.result - 1) c.load-next.result c.store.ensures.deed)) }

pub pop_written-requires : goal.pop_written-requires
pop_written-requires g c =
    let k = g.C.Cells in
    let at = goal.at.pop_written-requires g c in
    let on = blocks_on k.did k.stands k.form_of g.met.C.Cells.keeps_form g.met.C.Cells.leads in
    let head_read_so = on c.args.cells.now c.load-head.new.self act.Pop (act.PopLook c.load-head.result) c.requires.stands (head_read g at.Else-offset-eq31) in
    let looked_so = on c.load-head.new.self c.load-block.new.self (act.PopLook c.load-head.result) (act.PopTail c.load-head.result c.load-block.result) head_read_so (looked g at.After-load-block) in
    let there_so = on c.load-block.new.self c.load-tail.new.self (act.PopTail c.load-head.result c.load-block.result) (act.PopSwap c.load-head.result (c.load-block.result - 1)) looked_so (there g at.Else-block-eq0) in
    record {
      stands = elim c.if-offset-eq30.branch [
        | then-offset-eq30+else-next-eq0 y ↦
            let last = on c.load-tail.new.self c.compare_exchange.new.self (act.PopSwap c.load-head.result (c.load-block.result - 1)) (act.PopNext c.load-head.result (c.load-block.result - 1)) there_so (deed.last_taken g.C.Cells.did c.load-tail.new.self c.compare_exchange.new.self c.load-head.result (c.load-block.result - 1) y.if-offset-eq30.true c.compare_exchange.result (sym c.is_err.ensures.value ∙ c.if-is_err.false) c.compare_exchange.ensures.deed) in
            let next = on c.compare_exchange.new.self y.load-next.new.self (act.PopNext c.load-head.result (c.load-block.result - 1)) (act.PopBlock c.load-head.result (c.load-block.result - 1) y.load-next.result) last (deed.next_found g.C.Cells.did c.compare_exchange.new.self y.load-next.new.self c.load-head.result (c.load-block.result - 1) y.load-next.result y.load-next.ensures.deed y.if-next-eq0.false) in
            let left = on y.load-next.new.self y.store.new.self (act.PopBlock c.load-head.result (c.load-block.result - 1) y.load-next.result) (act.PopHead c.load-head.result (c.load-block.result - 1)) next (deed.block_left g.C.Cells.did y.load-next.new.self y.store.new.self c.load-head.result (c.load-block.result - 1) y.load-next.result y.store.ensures.deed) in
            subst (λ z. k.stands (state.Blocks (plainly (act.PopWait c.load-head.result (c.load-block.result - 1)))) z) (sym y.cells-is) (on y.store.new.self y.store-then-offset-eq30.new.self (act.PopHead c.load-head.result (c.load-block.result - 1)) (act.PopWait c.load-head.result (c.load-block.result - 1)) left (deed.head_moved g.C.Cells.did y.store.new.self y.store-then-offset-eq30.new.self c.load-head.result (c.load-block.result - 1) y.store-then-offset-eq30.ensures.deed))
        | else-offset-eq30 y ↦ subst (λ z. k.stands (state.Blocks (plainly (act.PopWait c.load-head.result (c.load-block.result - 1)))) z) (sym y.cells-is) (on c.load-tail.new.self c.compare_exchange.new.self (act.PopSwap c.load-head.result (c.load-block.result - 1)) (act.PopWait c.load-head.result (c.load-block.result - 1)) there_so (deed.message_won g.C.Cells.did c.load-tail.new.self c.compare_exchange.new.self c.load-head.result (c.load-block.result - 1) y.if-offset-eq30.false c.compare_exchange.result (sym c.is_err.ensures.value ∙ c.if-is_err.false) c.compare_exchange.ensures.deed))
      ];
    }
