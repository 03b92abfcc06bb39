use Rattle.concurrent_queue.specs.history.Runs.{begun}
use Rattle.concurrent_queue.specs.declared.call.QueueAsk.TheVariants.{Push}
use Rattle.concurrent_queue.proofs.shared.witnessed.Witnessed.push.Given as goal

abbrev pub ghosts-turn : goal.ghosts-turn
ghosts-turn g a = record { to = begun (Push a._about.now) }
