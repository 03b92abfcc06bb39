-- From what each step of the machine makes of how far the call has come.
use Rattle.std.proofs.Common.{Ok, refl}
use Rattle.concurrent_queue.specs.declared.call.QueueAsk.TheVariants as queue_ask
use Rattle.channel_calls.specs.Turns.{says}
use Rattle.channel_calls.specs.declared.ask.ChannelAsk.TheVariants as ask
use Rattle.channel_calls.specs.declared.reply.Reply.TheVariants as reply
use Rattle.channel_calls.specs.declared.stage.Purpose.TheVariants as purpose
use Rattle.channel_calls.specs.declared.stage.ListStep.TheVariants as work
use Rattle.channel_calls.specs.Plain.{parts_of}
use Rattle.channel_steps.proofs.solo.ConfigurationLoop.{answers_alone}
use Rattle.channel_steps.proofs.solo.FastPathFacts.{comes_in, tries_on, tries_nearer, tries_over, tries_well, tells_all_over}
use Rattle.channel_steps.proofs.fast_path.send_alone.Goals as goal

pub loop-answer-init : goal.loop-answer-init
loop-answer-init g c =
    comes_in g.S.Wakes.wakes (ask.TrySend c.args.message) c.args.channel.now c.args.sink.now c.args.messages.now
    (queue_ask.Push c.args.message) purpose.TrySend c.push-call.result refl c.push-call.ensures.starts

pub loop-answer-smaller : goal.loop-answer-smaller
loop-answer-smaller g c =
    let l = c.loop-answer in
    tries_nearer g.S.Wakes.wakes (ask.TrySend c.args.message) c.args.channel.now c.args.sink.now c.args.messages.now purpose.TrySend l.channel
    c.step_queue-answer.new.self l.call c.step_queue-answer.new.call l.sink l.messages c.counted.result l.invariant c.last_mark.result
    c.last_mark.ensures c.counted.ensures c.step_queue-answer.result c.step_queue-answer.ensures.deed c.in_default.is
    c.requires.at_rest

pub loop-answer-preserved : goal.loop-answer-preserved
loop-answer-preserved g c =
    let l = c.loop-answer in
    tries_on g.S.Wakes.wakes (ask.TrySend c.args.message) c.args.channel.now c.args.sink.now c.args.messages.now purpose.TrySend l.channel
    c.step_queue-answer.new.self l.call c.step_queue-answer.new.call l.sink l.messages c.counted.result l.invariant c.last_mark.result
    c.last_mark.ensures c.counted.ensures c.step_queue-answer.result c.step_queue-answer.ensures.deed c.in_default.is

pub returns-in-Some-unsent : goal.returns-in-Some-unsent
returns-in-Some-unsent g c =
    let l = c.loop-answer in
    let over = tries_over g.S.Wakes.wakes (ask.TrySend c.args.message) c.args.channel.now c.args.sink.now c.args.messages.now purpose.TrySend l.channel
    c.step_queue-answer.new.self l.call c.step_queue-answer.new.call l.sink l.messages c.counted.result l.invariant c.last_mark.result
    c.last_mark.ensures c.counted.ensures c.step_queue-answer.result c.step_queue-answer.ensures.deed
    c.in-Some.answer c.in-Some-unsent.reply c.answers.result c.in-Some.is c.in-Some-unsent.ensures c.answers.ensures in
    record {
      alone = answers_alone g.S.Wakes.wakes (ask.TrySend c.args.message) (parts_of c.args.channel.now) c.args.sink.now c.args.messages.now c.answers.result
          (parts_of c.step_queue-answer.new.self) l.sink c.counted.result over;
      configurations = over;
    }

pub returns-in-loop-answer : goal.returns-in-loop-answer
returns-in-loop-answer g c =
    let l = c.loop-answer in
    let one = c.tell.ensures.deed in
    let all = c.tell-in-loop-answer.ensures.deed in
    let over = tells_all_over g.S.Wakes.wakes (ask.TrySend c.args.message) c.args.channel.now c.args.sink.now c.args.messages.now
    (reply.TrySend (Ok tt)) c.answers-in-loop-answer.result c.step_queue-answer.new.self c.tell.new.self c.tell-in-loop-answer.new.self l.sink
    c.tell.new.sink c.tell-in-loop-answer.new.sink c.counted.result
    (tries_well g.S.Wakes.wakes (ask.TrySend c.args.message) c.args.channel.now c.args.sink.now c.args.messages.now purpose.TrySend l.channel
    c.step_queue-answer.new.self l.call c.step_queue-answer.new.call l.sink l.messages c.counted.result l.invariant c.last_mark.result
    c.last_mark.ensures c.counted.ensures c.step_queue-answer.result c.step_queue-answer.ensures.deed
    c.in-Some.answer (work.TellReceive (says (reply.TrySend (Ok tt)))) c.in-Some.is (rw c.in_default-unsent.ensures refl))
    one.0 one.1 one.2 all.0 all.1 all.2 c.answers-in-loop-answer.ensures in
    record {
      alone = answers_alone g.S.Wakes.wakes (ask.TrySend c.args.message) (parts_of c.args.channel.now) c.args.sink.now c.args.messages.now c.answers-in-loop-answer.result
          (parts_of c.tell-in-loop-answer.new.self) c.tell-in-loop-answer.new.sink c.counted.result over;
      configurations = over;
    }
