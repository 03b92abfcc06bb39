use Rattle.std.proofs.Common.{◌∙◌}
use Rattle.channel_cells.specs.Cells.{form_in, view_of}
use Rattle.channel_cells.proofs.Asking.{stands_whole, did_whole}
use Rattle.channel_cells.proofs.cells.steps.CallCellsChannelCells.step_queue.Goals as goal

pub complete-requires : goal.complete-requires
complete-requires g c =
    let s = c.args.self.now in
    record { stands = stands_whole (form_in s) (view_of s) c.args.call.now c.replace-whole.result c.replace-whole.ensures.value c.requires.may }

pub invariant_of-self : goal.invariant_of-self
invariant_of-self g c =
    let s = c.args.self.now in
    let done = did_whole s.queue c.complete.new.cells c.args.call.now c.replace-whole.result c.ended.result c.complete.result c.replace-whole.ensures.value c.requires.may c.complete.ensures.answers c.complete.ensures.walked in
    record { same = done.2.0 ∙ s.same; form = done.1 ∙ s.form }

pub returns-clause-deed : goal.returns-clause-deed
returns-clause-deed g c =
    did_whole c.args.self.now.queue c.complete.new.cells c.args.call.now c.replace-whole.result c.replace-whole.new.dest c.complete.result c.replace-whole.ensures.value c.requires.may c.complete.ensures.answers c.complete.ensures.walked
