use Rattle.std.proofs.Common.{refl}
use Rattle.concurrent_queue.specs.Queue.{asked}
use Rattle.concurrent_queue.specs.declared.call.QueueAsk.TheVariants.{Pop}
use Rattle.channel_steps.proofs.RunFacts.{begun}
use Rattle.channel_steps.proofs.party.Party.new.Goals as goal

pub returns-clause-begins : goal.returns-clause-begins
returns-clause-begins g c =
    λ parties. begun (asked {T = g.row.T.Denot} Pop) c.args.party c.args.ask c.new-call.result parties _ _ c.new-call.ensures.begins refl refl
