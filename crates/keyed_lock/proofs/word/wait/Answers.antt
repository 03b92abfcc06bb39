use Rattle.std.proofs.Common.{arith}
use Rattle.keyed_lock.proofs.Steps.{sat}
use Rattle.keyed_lock.proofs.word.wait.Goals as goal

pub load_new_seat-seat-requires : goal.load_new_seat-seat-requires
load_new_seat-seat-requires g c = (omega (arith, c.requires.0, c.requires.1), sat _ _ _ _)
