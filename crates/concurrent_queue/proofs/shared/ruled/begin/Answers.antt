use Rattle.std.proofs.Common.{inr, refl}
use Rattle.concurrent_queue.proofs.shared.ruled.begin.Goals as goal

pub enter-requires : goal.enter-requires
enter-requires g c = record { enters = inr (c.args.ask.now, (refl, refl)) }
