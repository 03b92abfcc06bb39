use Rattle.concurrent_queue.specs.history.Runs.{begun}
use Rattle.concurrent_queue.specs.declared.call.QueueAsk.TheVariants.{Pop}
use Rattle.concurrent_queue.proofs.shared.ruled.pop.Given as goal

abbrev pub ghosts-enter : goal.ghosts-enter
ghosts-enter g a = record { to = begun Pop }
