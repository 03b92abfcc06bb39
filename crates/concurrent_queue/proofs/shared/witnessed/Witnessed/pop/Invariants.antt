use Rattle.concurrent_queue.specs.history.Runs.{begun}
use Rattle.concurrent_queue.specs.declared.call.QueueAsk.TheVariants.{Pop}
use Rattle.concurrent_queue.proofs.shared.witnessed.Witnessed.pop.Given as goal

abbrev pub ghosts-turn : goal.ghosts-turn
ghosts-turn g a = record { to = begun Pop }
