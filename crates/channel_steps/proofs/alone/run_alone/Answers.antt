use Rattle.std.proofs.Common.{None, Some}
use Rattle.channel_calls.specs.Plain.{parts_of}
use Rattle.channel_steps.proofs.solo.AmpleFacts.{ample_first, ample_next}
use Rattle.channel_steps.proofs.solo.ConfigurationLoop.{plain_step, configurations_start, configurations_more, configurations_nearer, configurations_end, answers_alone}
use Rattle.channel_steps.proofs.alone.run_alone.Goals as goal

pub loop-reply-init : goal.loop-reply-init
loop-reply-init g c = (
  configurations_start g.S.Wakes.wakes c.args.ask (parts_of c.args.channel.now) c.args.sink.now c.args.messages.now c.new-call.result
      c.new-call.ensures.begins,
  ample_first c.args.ask c.args.channel.now c.new-call.result.stage c.new-call.ensures.takes,
)

pub returns-in-Some : goal.returns-in-Some
returns-in-Some g c =
    let l = c.loop-reply in
    let call = c.step-reply.new.self in
    let before = parts_of c.args.channel.now in
    let now = parts_of c.step-reply.new.cells in
    let over = configurations_end g.S.Wakes.wakes c.args.ask before c.args.sink.now c.args.messages.now (parts_of l.channel) l.call.stage l.sink
    l.messages l.invariant.0 now call.stage call.mark c.step-reply.new.sink c.counted.result c.last_mark.result c.last_mark.ensures
    c.counted.ensures c.in-Some.reply
    (plain_step g.S.Wakes.wakes l.channel c.step-reply.new.cells l.sink c.step-reply.new.sink call.mark call.stage _ l.call.stage c.in-Some.ensures.deed)
    c.into_kept-kept.result c.into_kept-kept.ensures in
    record {
      alone = answers_alone g.S.Wakes.wakes c.args.ask before c.args.sink.now c.args.messages.now
          (record { reply = c.in-Some.reply; kept = c.into_kept-kept.result }) now c.step-reply.new.sink c.counted.result over;
      configurations = over;
      ample = λ h. (ample_next g.S.Wakes.wakes c.args.ask c.args.channel.now c.args.sink.now c.args.messages.now l.messages
          c.requires.at_rest (l.channel, l.sink) (c.step-reply.new.cells, c.step-reply.new.sink) call.mark l.call.stage call.stage
          (Some c.in-Some.reply) l.invariant.0 c.in-Some.ensures.deed l.invariant.1 h).1;
    }

pub loop-reply-smaller : goal.loop-reply-smaller
loop-reply-smaller g c =
    let l = c.loop-reply in
    let call = c.step-reply.new.self in
    configurations_nearer g.S.Wakes.wakes c.args.ask (parts_of c.args.channel.now) c.args.sink.now c.args.messages.now (parts_of l.channel)
    l.call.stage l.sink l.messages l.invariant.0 (parts_of c.step-reply.new.cells) call.stage call.mark c.step-reply.new.sink
    c.counted.result c.last_mark.result c.last_mark.ensures c.counted.ensures
    (plain_step g.S.Wakes.wakes l.channel c.step-reply.new.cells l.sink c.step-reply.new.sink call.mark call.stage _ l.call.stage c.in_default-reply.ensures.deed)
    c.requires.at_rest

pub loop-reply-preserved : goal.loop-reply-preserved
loop-reply-preserved g c =
    let l = c.loop-reply in
    let call = c.step-reply.new.self in (
      configurations_more g.S.Wakes.wakes c.args.ask (parts_of c.args.channel.now) c.args.sink.now c.args.messages.now (parts_of l.channel)
          l.call.stage l.sink l.messages l.invariant.0 (parts_of c.step-reply.new.cells) call.stage call.mark c.step-reply.new.sink
          c.counted.result c.last_mark.result c.last_mark.ensures c.counted.ensures
          (plain_step g.S.Wakes.wakes l.channel c.step-reply.new.cells l.sink c.step-reply.new.sink call.mark call.stage _ l.call.stage c.in_default-reply.ensures.deed),
      λ h. (ample_next g.S.Wakes.wakes c.args.ask c.args.channel.now c.args.sink.now c.args.messages.now l.messages c.requires.at_rest
          (l.channel, l.sink) (c.step-reply.new.cells, c.step-reply.new.sink) call.mark l.call.stage call.stage None l.invariant.0
          c.in_default-reply.ensures.deed l.invariant.1 h).0,
    )
