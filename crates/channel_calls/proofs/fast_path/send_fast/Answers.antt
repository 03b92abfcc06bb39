use Rattle.std.proofs.Common.{◌≡◌, refl, sym, ap, ◌∙◌, subst, Option, Some, Ok, None}
use Rattle.channel_calls.specs.Deeds.{stepped, Done}
use Rattle.channel_calls.proofs.Walking as walking
use Rattle.concurrent_queue.specs.Step.{mark_of}
use Rattle.concurrent_queue.specs.declared.call.QueueAsk.TheVariants as queue_ask
use Rattle.concurrent_queue.specs.declared.call.QueueReply.{QueueReply}
use Rattle.concurrent_queue.specs.declared.call.QueueReply.TheVariants.{Push}
use Rattle.channel_calls.specs.Marks.{mark_of_queue}
use Rattle.channel_calls.specs.Turns.{says, nothing_kept}
use Rattle.channel_calls.specs.declared.ask.ChannelAsk.TheVariants as ask
use Rattle.channel_calls.specs.declared.mark.Mark.TheVariants as mark
use Rattle.channel_calls.specs.declared.reply.Reply.TheVariants as reply
use Rattle.channel_calls.specs.declared.stage.Purpose.TheVariants as purpose
use Rattle.channel_calls.specs.declared.stage.NextStep.TheVariants.{Ends}
use Rattle.channel_calls.specs.declared.stage.Stage.TheVariants.{Trying, Working, Finished}
use Rattle.channel_calls.specs.declared.stage.ListStep.TheVariants.{TellReceive, TellStreams}
use Rattle.channel_calls.proofs.Replying as replying
use Rattle.channel_calls.proofs.FastPathSteps as fast
use Rattle.channel_calls.proofs.Standing as standing
use Rattle.channel_calls.proofs.fast_path.send_fast.Goals as goal

pub returns-in-None-clause-answers : goal.returns-in-None-clause-answers
returns-in-None-clause-answers g c f has r m may =
    let one = c.push-call.result in
    let two = c.step_queue-answer.new.call in
    fast.sends g.row.W.Denot f one c.args.message c.push-call.ensures.asked r m
    (replying.goes_on {W = g.row.W.Denot} f one two purpose.TrySend _ c.in-None.is (c.step_queue-answer.ensures.answers f has) r m may)

pub returns-in-Err-clause-answers : goal.returns-in-Err-clause-answers
returns-in-Err-clause-answers g c f has =
    let one = c.push-call.result in
    let two = c.step_queue-answer.new.call in
    fast.gives_by f one purpose.TrySend (ask.TrySend c.args.message) (fast.sends g.row.W.Denot f one c.args.message c.push-call.ensures.asked) (Ends c.in-Err.reply nothing_kept) (Ok c.in-Err.reply) (fast.at_once {W = g.row.W.Denot} c.in-Err.reply)
    (fast.leaves_nothing c.in-Err.reply)
    (replying.answers f one two purpose.TrySend _ c.in-Some.answer c.in-Some.is (c.step_queue-answer.ensures.answers f has) _ (sym c.in-Err.ensures))

pub returns-in-None-clause-deeds : goal.returns-in-None-clause-deeds
returns-in-None-clause-deeds g c =
    let did = Done g.C.ChannelCells.did g.S.Wakes.wakes in
    let k = c.args.sink.now in
    walking.goes_on did (c.args.cells.now, k) (c.step_queue-answer.new.self, k) (queue_ask.Push c.args.message) purpose.TrySend c.push-call.result c.step_queue-answer.new.call
    c.push-call.ensures.starts c.push-call.ensures.asked _ (c.step_queue-answer.ensures.deed, refl) c.in-None.is c.of_queue-mark.result

pub returns-in-Ok-clause-deeds : goal.returns-in-Ok-clause-deeds
returns-in-Ok-clause-deeds g c =
    let one = c.push-call.result in
    let two = c.step_queue-answer.new.call in
    let s1 = c.step_queue-answer.new.self in
    let k = c.args.sink.now in
    let tells : g.row.C.Denot × g.row.S.Denot = (c.tell.new.self, c.tell.new.sink) in
    let ending = says (reply.TrySend (Ok tt)) in
    let is : c.step_queue-answer.result ≡ Some (Push (Ok tt)) = c.in-Some.is ∙ ap (λ (z : QueueReply g.row.T.Denot). Some z) c.in-Ok.ensures in
    let deed : g.C.ChannelCells.did (stepped one two (Some (Push (Ok tt)))) c.args.cells.now s1 =
    subst (λ (o : Option (QueueReply g.row.T.Denot)). g.C.ChannelCells.did (stepped one two o) c.args.cells.now s1) is c.step_queue-answer.ensures.deed
    in
    let first = c.tell.ensures.deed in
    let second = c.tell-in-Ok.ensures.deed in (
      Trying one purpose.TrySend,
      (one, c.push-call.ensures.starts, c.push-call.ensures.asked, refl, refl),
      (
        2,
        tells,
        Working (TellStreams ending),
        mark.Nothing,
        Finished nothing_kept,
        (
          (s1, k),
          Working (TellReceive ending),
          mark_of_queue (mark_of two),
          (two, Some (Push (Ok tt)), (deed, refl), refl, (refl, refl)),
          (tells, Working (TellStreams ending), mark.Nothing, (first.0, (first.1, first.2), (refl, (refl, refl))), (refl, refl)),
        ),
        (second.0, (second.1, second.2), (refl, (refl, refl))),
        refl,
      ),
    )

pub returns-in-Err-clause-deeds : goal.returns-in-Err-clause-deeds
returns-in-Err-clause-deeds g c =
    let did = Done g.C.ChannelCells.did g.S.Wakes.wakes in
    let k = c.args.sink.now in
    walking.answers did (c.args.cells.now, k) (c.step_queue-answer.new.self, k) (queue_ask.Push c.args.message) purpose.TrySend c.push-call.result c.step_queue-answer.new.call
    c.push-call.ensures.starts c.push-call.ensures.asked _ (c.step_queue-answer.ensures.deed, refl) c.in-Some.answer c.in-Some.is _ (sym c.in-Err.ensures)
    (fast.leaves_nothing c.in-Err.reply) (Ok c.in-Err.reply) (fast.at_once {W = g.row.W.Denot} c.in-Err.reply)

pub step_queue-answer-requires : goal.step_queue-answer-requires
step_queue-answer-requires g c = record { may = standing.begun_ready g.C.ChannelCells.stands g.C.ChannelCells.may g.met.C.ChannelCells.ready c.args.cells.now (queue_ask.Push c.args.message) purpose.TrySend c.requires.stands c.push-call.result c.push-call.ensures.starts c.push-call.ensures.asked }

pub tell-requires : goal.tell-requires
tell-requires g c =
    let s1 = c.step_queue-answer.new.self in
    let ending = says (reply.TrySend (Ok tt)) in
    let is : c.step_queue-answer.result ≡ Some (Push (Ok tt)) = c.in-Some.is ∙ ap (λ (z : QueueReply g.row.T.Denot). Some z) c.in-Ok.ensures in
    let tells : g.C.ChannelCells.stands (Working (TellReceive ending)) s1 =
    standing.asked_on g.C.ChannelCells.stands g.C.ChannelCells.did g.met.C.ChannelCells.leads g.met.C.ChannelCells.rests c.args.cells.now s1 (queue_ask.Push c.args.message) purpose.TrySend c.requires.stands c.push-call.result c.step_queue-answer.new.call
    c.push-call.ensures.starts c.push-call.ensures.asked _ c.step_queue-answer.ensures.deed (Push (Ok tt)) is (Working (TellReceive ending)) None (refl, refl)
    in
    record { may = standing.tell_receive_ready g.C.ChannelCells.stands g.C.ChannelCells.may g.met.C.ChannelCells.ready s1 ending tells }

pub tell-requires-in-Ok : goal.tell-requires-in-Ok
tell-requires-in-Ok g c =
    let s1 = c.step_queue-answer.new.self in
    let ending = says (reply.TrySend (Ok tt)) in
    let is : c.step_queue-answer.result ≡ Some (Push (Ok tt)) = c.in-Some.is ∙ ap (λ (z : QueueReply g.row.T.Denot). Some z) c.in-Ok.ensures in
    let tells : g.C.ChannelCells.stands (Working (TellReceive ending)) s1 =
    standing.asked_on g.C.ChannelCells.stands g.C.ChannelCells.did g.met.C.ChannelCells.leads g.met.C.ChannelCells.rests c.args.cells.now s1 (queue_ask.Push c.args.message) purpose.TrySend c.requires.stands c.push-call.result c.step_queue-answer.new.call
    c.push-call.ensures.starts c.push-call.ensures.asked _ c.step_queue-answer.ensures.deed (Push (Ok tt)) is (Working (TellReceive ending)) None (refl, refl)
    in
    let told = c.tell.ensures.deed in
    record { may = standing.tell_streams_ready g.C.ChannelCells.stands g.C.ChannelCells.may g.met.C.ChannelCells.ready c.tell.new.self ending (standing.told_on g.C.ChannelCells.stands g.C.ChannelCells.did g.met.C.ChannelCells.leads g.met.C.ChannelCells.rests s1 c.tell.new.self ending tells told.0 told.1) }
