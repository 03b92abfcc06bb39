use Rattle.concurrent_queue.specs.declared.queue_call.QueueCall.{QueueCall}
use Rattle.channel_calls.specs.Tracked.{Can, MovesOn, one_place, tracked_begins, tracked_ready, tracked_leads, tracked_rests}
use Rattle.channel_calls.specs.declared.stage.Stage.{Stage}
use Rattle.channel_calls.proofs.laws.calls_keep_what_cells_ask.Goals as goal

pub returns : goal.returns
returns g c = record {
  asked =
      let seen : Stage (QueueCall g.row.T.Denot) g.row.T.Denot g.row.W.Denot → Stage (QueueCall g.row.T.Denot) g.row.T.Denot g.row.W.Denot = λ v. v in
      (tracked_ready seen (λ d v. Can v d) (λ v d can. can), tracked_leads seen (λ d v w. MovesOn v d w) (λ v w d moves. moves), tracked_rests seen, tracked_begins seen, one_place);
}
