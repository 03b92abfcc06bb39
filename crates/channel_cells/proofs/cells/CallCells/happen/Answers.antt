use Rattle.std.proofs.Common.{ℕ, Bool, true, false, refl, sym, subst}
use Rattle.concurrent_queue.specs.declared.history.rule.Counter.{Counter}
use Rattle.concurrent_queue.specs.declared.history.rule.CountStep.TheVariants.{Set}
use Rattle.channel_history.specs.Machine.{counts}
use Rattle.channel_cells.proofs.Counting.{sets_flag}
use Rattle.channel_cells.proofs.Sections.{turns_of, flag_of}
use Rattle.channel_cells.proofs.cells.CallCells.happen.Goals as goal
use Rattle.channel_cells.specs.Cells.{view_of, form_in}

pub turn_by-requires : goal.turn_by-requires
turn_by-requires g c =
    let next = c.requires.next in
    record { next = (next.0, turns_of (form_in c.args.self.now) c.args.line (view_of c.args.self.now) next.0 c.args.before c.args.after c.if-before-after.true next.1, next.2) }

pub set_count-requires : goal.set_count-requires
set_count-requires g c =
    let next = c.requires.next in
    let form = form_in c.args.self.now in
    let s = view_of c.args.self.now in
    record {
      next = (
        next.0,
        λ n. subst (λ (w : Counter). counts form s next.0 w (Set c.from-raised.result) n) (sym c.waiters_of.ensures) (sets_flag form s next.0 c.args.line c.from-raised.result n (flag_of form c.args.line s next.0 c.args.before c.args.after c.if-before-after.false c.from-raised.result c.from-raised.ensures next.1)),
        next.2,
      );
    }
