use Rattle.std.proofs.Common.{ℕ, ◌≤◌, ◌^◌, sym, ◌∙◌, ap, subst, arith}
use Rattle.concurrent_queue.specs.machine.RingWords.{ring_mark}
use Rattle.concurrent_queue.proofs.RingShape.{cap_small, width_small, mark_bits, mark_small, lap_masks}
use Rattle.concurrent_queue.proofs.bounded.Shape.of.Goals as goal

low : (c : goal.After-at_most_greatest-cap) → c.at_most_greatest-cap.result ≤ 2 ^ 58
low c = subst (λ (n : ℕ). n ≤ 2 ^ 58) (sym c.at_most_greatest-cap.ensures) (cap_small c.args.capacity)

pub overflow_shl-mark : goal.overflow_shl-mark
overflow_shl-mark c = (width_small c.at_most_greatest-cap.result (low c)).0

pub overflow_mul-result : goal.overflow_mul-result
overflow_mul-result c =
    let bits = mark_bits c.at_most_greatest-cap.result (low c) in
    let m = mark_small c.at_most_greatest-cap.result (low c) in
    omega (arith, bits, m.0)

pub overflow_sub-result : goal.overflow_sub-result
overflow_sub-result c =
    let bits = mark_bits c.at_most_greatest-cap.result (low c) in
    let m = mark_small c.at_most_greatest-cap.result (low c) in
    omega (arith, bits, m.1)

pub invariant_of-result : goal.invariant_of-result
invariant_of-result c =
    let bits = mark_bits c.at_most_greatest-cap.result (low c) in
    let m = mark_small c.at_most_greatest-cap.result (low c) in
    record { small = omega (arith, bits, m.0); some = omega (arith, bits, m.1); masks = lap_masks c.at_most_greatest-cap.result _ bits }

pub returns-clause-mark : goal.returns-clause-mark
returns-clause-mark c =
    let low : c.at_most_greatest-cap.result ≤ 2 ^ 58 = subst (λ (n : ℕ). n ≤ 2 ^ 58) (sym c.at_most_greatest-cap.ensures) (cap_small c.args.capacity) in
    mark_bits c.at_most_greatest-cap.result low ∙ ap ring_mark c.at_most_greatest-cap.ensures
