use Rattle.std.proofs.Common.{ℕ, ◌+◌, ◌-◌, ◌*◌, ◌^◌, ◌%◌, ◌∙◌, sym, ap, subst}
use Rattle.atomic_blocks.specs.Cells.{Lies, link_of}
use Rattle.growing_table.proofs.Powers.{shifted}
use Rattle.growing_table.proofs.Ends.{last_first, last_later, later_lies}
use Rattle.growing_table.proofs.closing.last_place.Goals as goal

pub returns-then-offset-eq0-clause-place : goal.returns-then-offset-eq0-clause-place
returns-then-offset-eq0-clause-place g c = let r = c.requires.rows in let d : ℕ = c.ilog2-power.result in let i = c.ilog2-power.ensures in
    last_first r.0 c.args.cells r.1 c.args.top.ptr c.args.number c.args.closed.now.rows r.2 d (1 * 2 ^ d % 18446744073709551616) c.link-first.result.ptr (shifted d i.bound) i.power_le c.if-offset-eq0.true c.requires.place.1 c.link-first.ensures.1

pub link-link-requires : goal.link-link-requires
link-link-requires g c = let r = c.requires.rows in let d : ℕ = c.ilog2-power.result in let i = c.ilog2-power.ensures in let x : ℕ = 1 * 2 ^ d % 18446744073709551616 in
    let t = later_lies r.0 c.args.cells r.1 c.args.top.ptr c.args.number c.args.closed.now.rows r.2 d x c.link-first.result.ptr (shifted d i.bound) i.power_le i.next_power_gt c.link-first.ensures.1 in
    (t.0, subst (λ z. Lies z.rows (x + 1) c.link-first.result.ptr (c.args.cells + (c.args.number + 1 - x))) (sym c.link-first.ensures.0) t.1)

pub returns-clause-place : goal.returns-clause-place
returns-clause-place g c = let r = c.requires.rows in let d : ℕ = c.ilog2-power.result in let i = c.ilog2-power.ensures in let x : ℕ = 1 * 2 ^ d % 18446744073709551616 in
    last_later r.0 c.args.cells r.1 c.args.top.ptr c.args.number c.args.closed.now.rows r.2 d x c.link-link.result.ptr (shifted d i.bound) i.power_le i.next_power_gt c.if-offset-eq0.false c.requires.place.1
    (c.link-link.ensures.1 ∙ ap (λ z. link_of z.rows (x + 1) (c.args.cells + (c.args.number + 1 - x))) c.link-first.ensures.0)
