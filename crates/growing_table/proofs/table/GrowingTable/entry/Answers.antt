use Rattle.std.proofs.Common.{◌≡◌, ℕ, ◌+◌, ◌-◌, ◌*◌, ◌^◌, ◌%◌, ◌<◌, ◌≤◌, refl, arith}
use Rattle.growing_table.proofs.Powers.{shifted}
use Rattle.growing_table.proofs.Links.{first_at}
use Rattle.growing_table.proofs.Entries.{link_asks, first_seen, second}
use Rattle.growing_table.proofs.table.GrowingTable.entry.Goals as goal

pub load_link-first-requires : goal.load_link-first-requires
load_link-first-requires g c = let d : ℕ = c.ilog2-power.result in let t = c.args.self.now in let bound : d < 64 = c.ilog2-power.ensures.bound in
    link_asks (g.P.GrowingRule.holds t.rows.key.about) t c.args.seat.now.seat c.requires.0 (2 ^ d - 1) 1 d t.top.ptr (d, 0, first_at d, refl, refl, (refl, bound)) t.topped (omega arith)

pub invariant_of-result-2 : goal.invariant_of-result-2
invariant_of-result-2 g c = let d : ℕ = c.ilog2-power.result in let q : ℕ = 2 ^ d in let m = c.args.seat.now.seat.me in let low : q ≤ c.args.number + 1 = c.ilog2-power.ensures.power_le in
    let is : 1 * q % 18446744073709551616 ≡ q = shifted d c.ilog2-power.ensures.bound in let x : ℕ = 1 * q % 18446744073709551616 in let off : c.args.number + 1 - x ≡ 0 → ⊥ = c.if-offset-eq0.false in
    record { placed = (first_seen m c.load_link-first.new.seat.me d c.load_link-first.result.ptr (let h = c.requires.1 in omega arith) c.load_link-first.ensures.3).1 }

pub returns-clause-entry : goal.returns-clause-entry
returns-clause-entry g c = let d : ℕ = c.ilog2-power.result in let q : ℕ = 2 ^ d in let m = c.args.seat.now.seat.me in let low : q ≤ c.args.number + 1 = c.ilog2-power.ensures.power_le in
    let is : 1 * q % 18446744073709551616 ≡ q = shifted d c.ilog2-power.ensures.bound in let x : ℕ = 1 * q % 18446744073709551616 in let off : c.args.number + 1 - x ≡ 0 → ⊥ = c.if-offset-eq0.false in
    let t = c.args.self.now in let small = t.small.2 in let few : c.args.number < 549755813888 = c.requires.2 in (
      second t.cells c.args.number d x t.top.ptr c.load_link-first.result.ptr m.view.chart.places is low c.ilog2-power.ensures.next_power_gt off
          (first_seen m c.load_link-first.new.seat.me d c.load_link-first.result.ptr (let h = c.requires.1 in omega arith) c.load_link-first.ensures.3).0,
      omega arith,
    )
