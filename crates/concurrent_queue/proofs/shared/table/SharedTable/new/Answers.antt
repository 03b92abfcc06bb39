use Rattle.std.proofs.Common.{◌≤◌, ℕ, List, length, arith, subst, sym}
use Rattle.concurrent_queue.specs.machine.Guarded.{AreFree}
use Rattle.concurrent_queue.proofs.Guards.{opens}
use Rattle.concurrent_queue.proofs.shared.table.SharedTable.new.Goals as goal

pub vacant-requires : goal.vacant-requires
vacant-requires g c =
    let made = c.in_ok-first.ensures in
    let same = sym c.as_slice.ensures.value in
    opens c.args.slots c.as_slice.result.now (subst (λ (l : List ℕ). c.args.slots ≤ length l) same (omega (arith, made.0))) (subst (AreFree c.args.slots) same made.1)
