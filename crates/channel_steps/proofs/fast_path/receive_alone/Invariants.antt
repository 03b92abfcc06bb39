use Rattle.channel_calls.specs.Plain.{parts_of}
use Rattle.channel_calls.specs.declared.ask.ChannelAsk.TheVariants as ask
use Rattle.channel_calls.specs.declared.stage.Purpose.TheVariants as purpose
use Rattle.channel_calls.specs.declared.stage.Stage.TheVariants.{Trying}
use Rattle.channel_steps.proofs.solo.FastPathFacts.{HasCome}
use Rattle.channel_steps.specs.Left.{steps_left}
use Rattle.channel_steps.proofs.fast_path.receive_alone.Given as goal

abbrev pub invariant-loop-answer : goal.invariant-loop-answer
invariant-loop-answer g l =
    HasCome g.S.Wakes.wakes ask.TryRecv l.initial.channel l.initial.sink l.initial.messages l.channel (Trying l.call purpose.TryRecv) l.sink l.messages

abbrev pub decreases-loop-answer : goal.decreases-loop-answer
decreases-loop-answer g l = let p = parts_of l.channel in steps_left p.cells p.wait_lists (Trying l.call purpose.TryRecv)
