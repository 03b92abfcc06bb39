use Rattle.std.proofs.Common.{◌≡◌, length, inr, refl, ◌∙◌, ap, arith}
use Rattle.concurrent_queue.specs.Plain.{contents_of}
use Rattle.concurrent_queue.proofs.Runs.{running_start, running_more, running_stop, running_end, no_items}
use Rattle.concurrent_queue.proofs.run.run_queue_steps.Goals as goal

pub loop-cells-init : goal.loop-cells-init
loop-cells-init g c = rw (c.new-trace.ensures.items, c.new-parties.ensures.items) (running_start c.args.form c.args.steps.now.items (contents_of c.in-Ok.cells) c.in-Ok.ensures)

pub loop-cells-preserved : goal.loop-cells-preserved
loop-cells-preserved g c =
    let l = c.loop-cells in
    running_more c.args.form c.args.steps.now.items l.steps.items l.trace.items (contents_of l.cells) l.parties.items c.turn.new.steps.items c.turn.new.trace.items (contents_of c.turn.new.cells) c.turn.new.parties.items l.invariant c.in-Ok-turn.ensures.cases

pub returns-in-Err-turn : goal.returns-in-Err-turn
returns-in-Err-turn g c =
    let l = c.loop-cells in
    let h = c.in-Err-turn.ensures.cases in
    let s = running_stop c.args.form c.args.steps.now.items l.steps.items l.trace.items (contents_of l.cells) l.parties.items (length l.trace.items) c.in-Err-turn.why l.invariant refl h.0 in
    let place : c.len-place.result ≡ length l.trace.items = c.len-place.ensures ∙ c.turn.new.trace.ok.0 ∙ ap length h.1.3 in
    rw (place, h.1.0, h.1.3) (record { ran = inr s })

pub returns-after-loop-cells : goal.returns-after-loop-cells
returns-after-loop-cells g c =
    let l = c.loop-cells in
    record { ran = inr (running_end c.args.form c.args.steps.now.items l.steps.items l.trace.items (contents_of l.cells) l.parties.items l.invariant (no_items l.steps.items (omega (arith, l.steps.ok.0)))) }
