use Rattle.std.proofs.Common.{arith}
use Rattle.keyed_lock_tests.proofs.Steps.{begin}
use Rattle.keyed_lock_tests.proofs.lists.empty.Goals as goal

pub load_new_seat-seat-requires : goal.load_new_seat-seat-requires
load_new_seat-seat-requires c = (omega (arith, c.requires.0, c.requires.1), begin _ _)
