use Rattle.std.proofs.Common.{inr, refl}
use Rattle.unbounded_cells_tests.proofs.numbers.begin.Goals as goal

pub enter-seat-requires : goal.enter-seat-requires
enter-seat-requires g c = record { enters = inr (c.args.ask.now, (refl, refl)) }
