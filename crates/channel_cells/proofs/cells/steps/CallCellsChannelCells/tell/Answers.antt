use Rattle.std.proofs.Common.{[], refl, sym, subst}
use Rattle.concurrent_queue.specs.declared.history.rule.Counter.{Counter}
use Rattle.concurrent_queue.specs.declared.history.rule.CountStep.TheVariants.{Read}
use Rattle.channel_history.proofs.CallSections.{finds_nobody}
use Rattle.channel_history.proofs.CellActs.{sections_act}
use Rattle.concurrent_queue.specs.history.Shared.{Seated}
use Rattle.channel_calls.specs.Deeds.{told}
use Rattle.channel_history.specs.Cells.{May}
use Rattle.channel_history.specs.Machine.{counts}
use Rattle.channel_history.specs.declared.party.Standing.{Standing}
use Rattle.channel_cells.proofs.Counting.{passes_by}
use Rattle.channel_cells.proofs.cells.steps.CallCellsChannelCells.tell.Goals as goal
use Rattle.channel_cells.specs.Cells.{view_of, form_in}

pub pass_count-nobody-requires : goal.pass_count-nobody-requires
pass_count-nobody-requires g c =
    let form = form_in c.args.self.now in
    let s = view_of c.args.self.now in
    let goes = finds_nobody (sections_act g.row.T.Denot g.row.W.Denot) form c.args.line c.args.telling s (c.requires.may []) in
    record { next = (goes.0, subst (λ (w : Counter). counts form s goes.0 w Read 0) (sym c.waiters_of.ensures) (passes_by form s goes.0 c.args.line goes.1), goes.2) }

pub tell_some-requires : goal.tell_some-requires
tell_some-requires g c = record {
  may = λ names.
      subst (λ (m : Seated g.row.T.Denot (Standing g.row.T.Denot g.row.W.Denot)). May m.0.form (told c.args.line c.args.telling names) m.0.state) (sym c.if-nobody.ensures.made) (c.requires.may names);
}
