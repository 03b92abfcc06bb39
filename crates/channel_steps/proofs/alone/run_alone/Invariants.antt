use Rattle.channel_calls.specs.Plain.{parts_of}
use Rattle.channel_steps.proofs.solo.AmpleFacts.{StaysAmple}
use Rattle.channel_steps.specs.Left.{steps_left}
use Rattle.channel_steps.proofs.solo.ConfigurationLoop.{IsBetween}
use Rattle.channel_steps.proofs.alone.run_alone.Given as goal

abbrev pub invariant-loop-reply : goal.invariant-loop-reply
invariant-loop-reply g l =
    let a = l.fn.ask in
    let before = parts_of l.initial.channel in
    let now = parts_of l.channel in
    IsBetween g.S.Wakes.wakes a before l.initial.sink l.initial.messages now l.call.stage l.sink l.messages
    × StaysAmple a l.initial.channel l.channel l.call.stage

abbrev pub decreases-loop-reply : goal.decreases-loop-reply
decreases-loop-reply g l = let p = parts_of l.channel in steps_left p.cells p.wait_lists l.call.stage
