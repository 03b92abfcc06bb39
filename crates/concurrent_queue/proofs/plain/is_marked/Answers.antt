use Rattle.std.proofs.Common.{◌≡◌, ℕ, ◌-◌, ◌*◌, ◌%◌, ◌^◌, ◌≤◌, nat_le, ap, arith}
use Rattle.std.proofs.Math.Pow.{pow_mono}
use lib.Count.{count_leading_zeros}
use Rattle.concurrent_queue.specs.machine.RingWords.{ring_mark}
use Rattle.concurrent_queue.proofs.plain.is_marked.Goals as goal

pub returns : goal.returns
unfolding ring_mark
returns c =
    let bits = 64 - count_leading_zeros 64 c.args.capacity in
    let few : bits ≤ 64 = omega arith in
    let most : 2 ^ bits ≤ 2 ^ 64 = pow_mono few in
    let same : 1 * 2 ^ bits % 340282366920938463463374607431768211456 ≡ 2 ^ bits = omega (arith, most) in
    ap (λ (m : ℕ). nat_le m (c.args.word % (2 * m))) same
