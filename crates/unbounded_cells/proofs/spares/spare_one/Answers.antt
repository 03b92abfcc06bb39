use Rattle.std.proofs.Common.{sym, ap, subst}
use Rattle.std.specs.Prelude.{Some}
use Rattle.growing_table.specs.Seats.{me_of, number_of}
use Rattle.concurrent_queue.specs.Bridge.{does}
use Rattle.concurrent_queue.specs.Deeds.{spared}
use Rattle.concurrent_queue.specs.declared.cells.QueueForm.TheVariants.{Unbounded}
use Rattle.unbounded_cells.proofs.SpareList.{reads_top}
use Rattle.unbounded_cells.proofs.spares.spare_one.Goals as goal

pub load-top-requires-clause-rule : goal.load-top-requires-clause-rule
load-top-requires-clause-rule g c =
    let s = c.args.seat.now in
    reads_top g.P.Machine.keeps g.met.P.BlockMachine.blocks g.P.Machine.admits (number_of s) (me_of s) c.requires.seat.2

pub make_block-requires-clause-next : goal.make_block-requires-clause-next
make_block-requires-clause-next g c = λ o. subst (λ (z : g.row.A.Denot). (a : g.row.A.Denot) × g.P.Machine.moves Unbounded z (does (Some (spared o))) a) (sym (ap (λ y. y.view.party.state) c.load-top.ensures.told.0)) (c.requires.next o)

pub take_first-requires-clause-next : goal.take_first-requires-clause-next
take_first-requires-clause-next g c = λ o. subst (λ (z : g.row.A.Denot). (a : g.row.A.Denot) × g.P.Machine.moves Unbounded z (does (Some (spared o))) a) (sym (ap (λ y. y.view.party.state) c.load-top.ensures.told.0)) (c.requires.next o)
