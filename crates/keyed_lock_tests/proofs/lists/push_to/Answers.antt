use Rattle.std.proofs.Common.{arith}
use Rattle.keyed_lock_tests.proofs.Steps.{become}
use Rattle.keyed_lock_tests.proofs.lists.push_to.Goals as goal

pub fetch_max-requires : goal.fetch_max-requires
fetch_max-requires c =
    let t = c.requires.table in
    (t.2, omega (arith, t.0, t.1), become _ _ _ _ _ t.0 c.requires.seat _)
