use Rattle.std.proofs.Common.{Ok, Err, refl}
use Rattle.concurrent_queue.specs.declared.call.QueueMark.TheVariants.{Nothing, Append}
use Rattle.concurrent_queue.specs.declared.single.SingleAction.TheVariants as single
use Rattle.concurrent_queue.proofs.SingleDeeds.{push_shut, push_full}
use Rattle.concurrent_queue.proofs.Standing.{single_ready, single_on}
use Rattle.concurrent_queue.proofs.single.fast_path.push_fast.Goals as goal

pub returns-then-found-ne0-clause-deeds : goal.returns-then-found-ne0-clause-deeds
returns-then-found-ne0-clause-deeds g c =
    (0, (c.args.cells.now, single.Push c.args.value, single.Finished, Nothing, (refl, refl), (Err c.in-Err.found, c.in-Err.ensures.deed, push_shut c.in-Err.found c.args.value c.if-found-ne0.true)))

pub returns-then-found-ne0-2-clause-deeds : goal.returns-then-found-ne0-2-clause-deeds
returns-then-found-ne0-2-clause-deeds g c =
    (0, (c.args.cells.now, single.Push c.args.value, single.Finished, Nothing, (refl, refl), (Err c.in-Err.found, c.in-Err.ensures.deed, push_full c.in-Err.found c.args.value c.if-found-ne0.false c.if-found-ne0-2.true)))

pub returns-in-Err-put-clause-deeds : goal.returns-in-Err-put-clause-deeds
returns-in-Err-put-clause-deeds g c = (
  2,
  (
    c.compare_exchange.new.self,
    single.PushPut c.args.value,
    (Append, (Ok c.in_default.field-0, c.in_default.ensures.deed, refl)),
    (c.put.new.self, single.PushPut c.in-Err-put.value, (Nothing, (Err c.in-Err-put.value, c.in-Err-put.ensures.deed, refl)), (refl, refl)),
  ),
)

pub returns-clause-deeds : goal.returns-clause-deeds
returns-clause-deeds g c = (
  2,
  (
    c.put.new.self,
    single.PushUnlock,
    single.Finished,
    Nothing,
    (
      c.compare_exchange.new.self,
      single.PushPut c.args.value,
      (Append, (Ok c.in_default.field-0, c.in_default.ensures.deed, refl)),
      (c.put.new.self, single.PushUnlock, (Nothing, (Ok c.in_default-put.field-0, c.in_default-put.ensures.deed, refl)), (refl, refl)),
    ),
    (c.fetch_and.result, c.fetch_and.ensures.deed, refl),
  ),
)

pub compare_exchange-requires : goal.compare_exchange-requires
compare_exchange-requires g c = let k = g.C.Cells in record { may = single_ready k.may k.stands k.form_of g.met.C.Cells.ready c.args.cells.now (single.Push c.args.value) c.requires.stands }

pub put-requires : goal.put-requires
put-requires g c =
    let k = g.C.Cells in
    let on = single_on k.did k.stands k.form_of g.met.C.Cells.keeps_form g.met.C.Cells.leads in
    let v = c.args.value in
    let s1 = c.compare_exchange.new.self in
    let won = on c.args.cells.now s1 (single.Push v) (single.PushPut v) c.requires.stands (Append, (Ok c.in_default.field-0, c.in_default.ensures.deed, refl)) in
    record { may = single_ready k.may k.stands k.form_of g.met.C.Cells.ready s1 (single.PushPut v) won }

pub fetch_and-requires : goal.fetch_and-requires
fetch_and-requires g c =
    let k = g.C.Cells in
    let on = single_on k.did k.stands k.form_of g.met.C.Cells.keeps_form g.met.C.Cells.leads in
    let v = c.args.value in
    let s1 = c.compare_exchange.new.self in
    let s2 = c.put.new.self in
    let won = on c.args.cells.now s1 (single.Push v) (single.PushPut v) c.requires.stands (Append, (Ok c.in_default.field-0, c.in_default.ensures.deed, refl)) in
    let put = on s1 s2 (single.PushPut v) single.PushUnlock won (Nothing, (Ok c.in_default-put.field-0, c.in_default-put.ensures.deed, refl)) in
    record { may = single_ready k.may k.stands k.form_of g.met.C.Cells.ready s2 single.PushUnlock put }
