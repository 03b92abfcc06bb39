use Rattle.std.proofs.Common.{Some, None, Ok, Err, refl}
use Rattle.concurrent_queue.specs.declared.call.QueueMark.TheVariants.{Nothing, Take}
use Rattle.concurrent_queue.specs.declared.single.SingleAction.TheVariants as single
use Rattle.concurrent_queue.proofs.SingleDeeds.{pop_shut, pop_empty}
use Rattle.concurrent_queue.proofs.Standing.{single_ready, single_on}
use Rattle.concurrent_queue.proofs.single.fast_path.pop_fast.Goals as goal

pub returns-then-found-ne0-2-clause-deeds : goal.returns-then-found-ne0-2-clause-deeds
returns-then-found-ne0-2-clause-deeds g c =
    (0, (c.args.cells.now, single.Pop 2, single.Finished, Nothing, (refl, refl), (Err c.in-Err.found, c.in-Err.ensures.deed, pop_shut c.in-Err.found c.if-found-ne0.false c.if-found-ne0-2.true)))

pub returns-else-found-ne0-2-clause-deeds : goal.returns-else-found-ne0-2-clause-deeds
returns-else-found-ne0-2-clause-deeds g c =
    (0, (c.args.cells.now, single.Pop 2, single.Finished, Nothing, (refl, refl), (Err c.in-Err.found, c.in-Err.ensures.deed, pop_empty c.in-Err.found c.if-found-ne0.false c.if-found-ne0-2.false)))

pub returns-in-Some-clause-deeds : goal.returns-in-Some-clause-deeds
returns-in-Some-clause-deeds g c = (
  2,
  (
    c.take.new.self,
    single.PopUnlock c.in-Some.value,
    single.Finished,
    Nothing,
    (
      c.compare_exchange.new.self,
      single.PopTake,
      (Take, (Ok c.in_default.field-0, c.in_default.ensures.deed, refl)),
      (c.take.new.self, single.PopUnlock c.in-Some.value, (Nothing, (Some c.in-Some.value, c.in-Some.ensures.deed, refl)), (refl, refl)),
    ),
    (c.fetch_and.result, c.fetch_and.ensures.deed, refl),
  ),
)

pub returns-in-None-clause-deeds : goal.returns-in-None-clause-deeds
returns-in-None-clause-deeds g c = (
  2,
  (
    c.compare_exchange.new.self,
    single.PopTake,
    (Take, (Ok c.in_default.field-0, c.in_default.ensures.deed, refl)),
    (c.take.new.self, single.PopTake, (Nothing, (None, c.in-None.ensures.deed, refl)), (refl, refl)),
  ),
)

pub compare_exchange-requires : goal.compare_exchange-requires
compare_exchange-requires g c = let k = g.C.Cells in record { may = single_ready k.may k.stands k.form_of g.met.C.Cells.ready c.args.cells.now (single.Pop 2) c.requires.stands }

pub take-requires : goal.take-requires
take-requires g c =
    let k = g.C.Cells in
    let on = single_on k.did k.stands k.form_of g.met.C.Cells.keeps_form g.met.C.Cells.leads in
    let s1 = c.compare_exchange.new.self in
    let won = on c.args.cells.now s1 (single.Pop 2) single.PopTake c.requires.stands (Take, (Ok c.in_default.field-0, c.in_default.ensures.deed, refl)) in
    record { may = single_ready k.may k.stands k.form_of g.met.C.Cells.ready s1 single.PopTake won }

pub fetch_and-requires : goal.fetch_and-requires
fetch_and-requires g c =
    let k = g.C.Cells in
    let on = single_on k.did k.stands k.form_of g.met.C.Cells.keeps_form g.met.C.Cells.leads in
    let v = c.in-Some.value in
    let s1 = c.compare_exchange.new.self in
    let s2 = c.take.new.self in
    let won = on c.args.cells.now s1 (single.Pop 2) single.PopTake c.requires.stands (Take, (Ok c.in_default.field-0, c.in_default.ensures.deed, refl)) in
    let taken = on s1 s2 single.PopTake (single.PopUnlock v) won (Nothing, (Some v, c.in-Some.ensures.deed, refl)) in
    record { may = single_ready k.may k.stands k.form_of g.met.C.Cells.ready s2 (single.PopUnlock v) taken }
