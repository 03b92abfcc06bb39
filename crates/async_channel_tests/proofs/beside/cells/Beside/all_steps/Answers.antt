use Rattle.std.proofs.Common.{sym, ◌∙◌}
use Rattle.channel_calls.specs.Plain.{form_of}
use Rattle.async_channel_tests.proofs.beside.cells.Beside.all_steps.Goals as goal

pub loop-preserved : goal.loop-preserved
loop-preserved g c =
    let before = c.before-in-loop.ensures in
    let form = c.in_default.ensures.form (form_of c.args.self.now.cells.channel) (sym (before ∙ c.loop.invariant.0)) in
    let answers = c.in_default.ensures.answers (form_of c.loop.self.cells.channel) (sym before) in
    (sym form, (λ r may. c.loop.invariant.1 r (answers.0 (form_of c.step_queue.new.self.channel) r may)))
