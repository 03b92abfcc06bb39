use Rattle.concurrent_queue.proofs.FitsFacts.{starts}
use Rattle.concurrent_queue.proofs.queue_call.QueueCall.new.Goals as goal

pub returns-clause-starts : goal.returns-clause-starts
returns-clause-starts g c = starts c.args.ask _
