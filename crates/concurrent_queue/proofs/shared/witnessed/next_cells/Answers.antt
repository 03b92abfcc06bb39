use Rattle.std.proofs.Common.{ap, ◌∙◌, refl}
use Rattle.concurrent_queue.proofs.shared.witnessed.next_cells.Goals as goal

pub turn-requires : goal.turn-requires
turn-requires g c = record { next = (c.args.ask.now, (ap (λ s. s.me.0.state.call) c.go_on-seat.ensures.same ∙ c.requires.rests, refl)) }
