use Rattle.std.proofs.Common.{inl, refl}
use Rattle.concurrent_queue.proofs.shared.witnessed.new_witness.Goals as goal

pub enter-seat-requires : goal.enter-seat-requires
enter-seat-requires g c = record { enters = inl refl }
