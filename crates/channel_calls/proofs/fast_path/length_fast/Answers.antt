use Rattle.std.proofs.Common.{refl}
use Rattle.channel_calls.specs.Deeds.{Done}
use Rattle.channel_calls.proofs.Walking as walking
use Rattle.concurrent_queue.specs.declared.call.QueueAsk.TheVariants as queue_ask
use Rattle.channel_calls.specs.declared.ask.ChannelAsk.TheVariants as ask
use Rattle.channel_calls.specs.declared.stage.Purpose.TheVariants as purpose
use Rattle.channel_calls.proofs.Replying as replying
use Rattle.channel_calls.proofs.FastPathSteps as fast
use Rattle.channel_calls.proofs.Standing as standing
use Rattle.channel_calls.proofs.fast_path.length_fast.Goals as goal

pub returns-in-None-clause-answers : goal.returns-in-None-clause-answers
returns-in-None-clause-answers g c f has r m may =
    let one = c.len-call.result in
    let two = c.step_queue-answer.new.call in
    fast.asks_length g.row.W.Denot f one c.len-call.ensures.asked r m
    (replying.goes_on {W = g.row.W.Denot} f one two purpose.Ask _ c.in-None.is (c.step_queue-answer.ensures.answers f has) r m may)

pub returns-in-Some-clause-answers : goal.returns-in-Some-clause-answers
returns-in-Some-clause-answers g c f has =
    let one = c.len-call.result in
    let two = c.step_queue-answer.new.call in
    fast.gives_by f one purpose.Ask ask.Len (fast.asks_length g.row.W.Denot f one c.len-call.ensures.asked) _ _ c.turned.ensures.goes
    (fast.keeps_by _ _ c.asked_next.ensures (fast.asked_keeps c.in-Some.answer))
    (replying.answers f one two purpose.Ask _ c.in-Some.answer c.in-Some.is (c.step_queue-answer.ensures.answers f has) _ c.asked_next.ensures)

pub returns-in-None-clause-deeds : goal.returns-in-None-clause-deeds
returns-in-None-clause-deeds g c =
    let did = Done g.C.ChannelCells.did g.S.Wakes.wakes in
    let k = c.args.sink.now in
    walking.goes_on did (c.args.cells.now, k) (c.step_queue-answer.new.self, k) queue_ask.Len purpose.Ask c.len-call.result c.step_queue-answer.new.call
    c.len-call.ensures.starts c.len-call.ensures.asked _ (c.step_queue-answer.ensures.deed, refl) c.in-None.is c.of_queue-mark.result

pub returns-in-Some-clause-deeds : goal.returns-in-Some-clause-deeds
returns-in-Some-clause-deeds g c =
    let did = Done g.C.ChannelCells.did g.S.Wakes.wakes in
    let k = c.args.sink.now in
    walking.answers did (c.args.cells.now, k) (c.step_queue-answer.new.self, k) queue_ask.Len purpose.Ask c.len-call.result c.step_queue-answer.new.call
    c.len-call.ensures.starts c.len-call.ensures.asked _ (c.step_queue-answer.ensures.deed, refl) c.in-Some.answer c.in-Some.is _ c.asked_next.ensures
    (fast.keeps_by _ _ c.asked_next.ensures (fast.asked_keeps c.in-Some.answer)) _ c.turned.ensures.goes

pub step_queue-answer-requires : goal.step_queue-answer-requires
step_queue-answer-requires g c = record { may = standing.begun_ready g.C.ChannelCells.stands g.C.ChannelCells.may g.met.C.ChannelCells.ready c.args.cells.now queue_ask.Len purpose.Ask c.requires.stands c.len-call.result c.len-call.ensures.starts c.len-call.ensures.asked }
