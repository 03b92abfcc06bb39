use Rattle.concurrent_queue.specs.history.Runs.{begun}
use Rattle.concurrent_queue.specs.declared.call.QueueAsk.TheVariants.{Push}
use Rattle.concurrent_queue.proofs.shared.ruled.push.Given as goal

abbrev pub ghosts-enter : goal.ghosts-enter
ghosts-enter g a = record { to = begun (Push a._about.now) }
