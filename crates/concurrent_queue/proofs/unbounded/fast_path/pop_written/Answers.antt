use Rattle.std.proofs.Common.{sym, subst, Ok, Err}
use Rattle.concurrent_queue.specs.Deeds.{added, retired}
use Rattle.concurrent_queue.specs.machine.BlocksMakes.{ActionMakes}
use Rattle.concurrent_queue.specs.declared.cells.Word.TheVariants.{Reads}
use Rattle.concurrent_queue.specs.declared.unbounded.action.UnboundedAction.TheVariants as act
use Rattle.concurrent_queue.proofs.BlocksDeeds as deed
use Rattle.concurrent_queue.proofs.RingDeeds.{pops_after, pops_stand}
use Rattle.concurrent_queue.specs.machine.FastPath.{plainly}
use Rattle.concurrent_queue.proofs.Standing.{blocks_ready, blocks_on}
use Rattle.concurrent_queue.proofs.unbounded.fast_path.pop_written.Goals.{then-fetch_add-eq30, else-fetch_add-eq30}
use Rattle.concurrent_queue.proofs.unbounded.fast_path.pop_written.Goals as goal

pub returns-then-load-ne1-clause-deeds : goal.returns-then-load-ne1-clause-deeds
returns-then-load-ne1-clause-deeds g c =
    let did = g.C.Cells.did in
    let p = c.args.head in
    let b = c.args.block in
    let s0 = c.args.cells.now in
    let s1 = c.load.new.self in
    pops_after (ActionMakes did) s0 (act.PopWait p b) s1 (act.PopWait p b) s1 (Err (act.PopWait p b)) (deed.not_written did s0 s1 p b c.load.result c.load.ensures.deed c.if-load-ne1.true)
    (pops_stand (ActionMakes did) s1 (act.PopWait p b))

pub returns-after-fetch_add-eq30-clause-deeds : goal.returns-after-fetch_add-eq30-clause-deeds
returns-after-fetch_add-eq30-clause-deeds g c =
    let did = g.C.Cells.did in
    let p = c.args.head in
    let b = c.args.block in
    let v = c.in-Some.value in
    let n = c.fetch_add.result in
    let s0 = c.args.cells.now in
    let s1 = c.load.new.self in
    let s2 = c.take.new.self in
    let s3 = c.fetch_add.new.self in
    let d = c.if-fetch_add-eq30.cells in
    pops_after (ActionMakes did) s0 (act.PopWait p b) s1 (act.PopTake p b) d (Ok (Ok v)) (deed.written_found did s0 s1 p b c.load.result c.load.ensures.deed c.if-load-ne1.false)
    (pops_after (ActionMakes did) s1 (act.PopTake p b) s2 (act.PopCount p b v) d (Ok (Ok v)) (deed.message_out did s1 s2 p b v c.in-Some.ensures.deed)
    (elim c.if-fetch_add-eq30.branch [
      | then-fetch_add-eq30 w ↦
          pops_after (ActionMakes did) s2 (act.PopCount p b v) s3 (act.PopRetire p b v) d (Ok (Ok v)) (deed.last_counted did s2 s3 p b v n c.fetch_add.ensures.deed w.if-fetch_add-eq30.true)
          (deed.block_retired did s3 d p b v (subst (λ x. did (retired b) s3 x) (sym w.cells-is) w.retire.ensures.deed))
      | else-fetch_add-eq30 w ↦ deed.read_counted did s2 d p b v n (subst (λ x. did (added (Reads b) 1 n) s2 x) (sym w.cells-is) c.fetch_add.ensures.deed) w.if-fetch_add-eq30.false
    ]))

pub returns-in-None-clause-deeds : goal.returns-in-None-clause-deeds
returns-in-None-clause-deeds g c =
    let did = g.C.Cells.did in
    let p = c.args.head in
    let b = c.args.block in
    let s0 = c.args.cells.now in
    let s1 = c.load.new.self in
    let s2 = c.take.new.self in
    pops_after (ActionMakes did) s0 (act.PopWait p b) s1 (act.PopTake p b) s2 (Err (act.PopTake p b)) (deed.written_found did s0 s1 p b c.load.result c.load.ensures.deed c.if-load-ne1.false)
    (pops_after (ActionMakes did) s1 (act.PopTake p b) s2 (act.PopTake p b) s2 (Err (act.PopTake p b)) (deed.not_yet did s1 s2 p b c.in-None.ensures.deed)
    (pops_stand (ActionMakes did) s2 (act.PopTake p b)))

-- ---- each operation is the next one

pub load-requires : goal.load-requires
load-requires g c =
    let k = g.C.Cells in
    let did = k.did in
    let ready = blocks_ready k.may k.stands k.form_of g.met.C.Cells.ready in
    let p = c.args.head in
    let b = c.args.block in
    let s0 = c.args.cells.now in
    record { may = ready s0 (plainly (act.PopWait p b)) c.requires.stands }

pub take-requires : goal.take-requires
take-requires g c =
    let k = g.C.Cells in
    let did = k.did in
    let ready = blocks_ready k.may k.stands k.form_of g.met.C.Cells.ready in
    let p = c.args.head in
    let b = c.args.block in
    let s0 = c.args.cells.now in
    let on = blocks_on did k.stands k.form_of g.met.C.Cells.keeps_form g.met.C.Cells.leads in
    let s1 = c.load.new.self in
    let found = on s0 s1 (act.PopWait p b) (act.PopTake p b) c.requires.stands (deed.written_found did s0 s1 p b c.load.result c.load.ensures.deed c.if-load-ne1.false) in
    record { may = ready s1 (plainly (act.PopTake p b)) found }

pub fetch_add-requires : goal.fetch_add-requires
fetch_add-requires g c =
    let k = g.C.Cells in
    let did = k.did in
    let ready = blocks_ready k.may k.stands k.form_of g.met.C.Cells.ready in
    let p = c.args.head in
    let b = c.args.block in
    let s0 = c.args.cells.now in
    let on = blocks_on did k.stands k.form_of g.met.C.Cells.keeps_form g.met.C.Cells.leads in
    let s1 = c.load.new.self in
    let found = on s0 s1 (act.PopWait p b) (act.PopTake p b) c.requires.stands (deed.written_found did s0 s1 p b c.load.result c.load.ensures.deed c.if-load-ne1.false) in
    let v = c.in-Some.value in
    let s2 = c.take.new.self in
    let out = on s1 s2 (act.PopTake p b) (act.PopCount p b v) found (deed.message_out did s1 s2 p b v c.in-Some.ensures.deed) in
    record { may = ready s2 (plainly (act.PopCount p b v)) out }

pub retire-requires : goal.retire-requires
retire-requires g c =
    let k = g.C.Cells in
    let did = k.did in
    let ready = blocks_ready k.may k.stands k.form_of g.met.C.Cells.ready in
    let p = c.args.head in
    let b = c.args.block in
    let s0 = c.args.cells.now in
    let on = blocks_on did k.stands k.form_of g.met.C.Cells.keeps_form g.met.C.Cells.leads in
    let s1 = c.load.new.self in
    let found = on s0 s1 (act.PopWait p b) (act.PopTake p b) c.requires.stands (deed.written_found did s0 s1 p b c.load.result c.load.ensures.deed c.if-load-ne1.false) in
    let v = c.in-Some.value in
    let s2 = c.take.new.self in
    let out = on s1 s2 (act.PopTake p b) (act.PopCount p b v) found (deed.message_out did s1 s2 p b v c.in-Some.ensures.deed) in
    let s3 = c.fetch_add.new.self in
    let counted = on s2 s3 (act.PopCount p b v) (act.PopRetire p b v) out (deed.last_counted did s2 s3 p b v c.fetch_add.result c.fetch_add.ensures.deed c.if-fetch_add-eq30.true) in
    record { may = ready s3 (plainly (act.PopRetire p b v)) counted }
