use Rattle.std.proofs.Common.{◌∙◌, ◌≤◌, sym, refl, ap, subst, length}
use Rattle.std.specs.Prelude.{Some, None}
use Rattle.atomic_blocks.specs.Cells.{AllHome, cell}
use Rattle.growing_table.proofs.Entries.{home_zeros}
use Rattle.growing_table.proofs.SeatAsks.{begins, home_words, words_long}
use Rattle.growing_table.proofs.table.GrowingTable.new.Goals as goal

pub free-requires : goal.free-requires
free-requires g c = let e = c.in_ok-root.ensures {u = tt} in let ws = c.args.words.now in (e.0, e.1, e.2, ap length e.4 ∙ words_long ws c.in_ok-root.root.ptr None, e.3, subst AllHome (sym e.4) (home_words ws c.in_ok-root.root.ptr None))

pub open-rows-requires-clause-whole : goal.open-rows-requires-clause-whole
open-rows-requires-clause-whole g c = let e = c.in_ok-root.ensures {u = tt} in let e' = c.in-Ok.ensures {u = tt} in let ws = c.args.words.now in
    (e'.0 ∙ sym e.0, e.3, subst AllHome (sym e.4) (home_words ws c.in_ok-root.root.ptr None), e'.3, subst AllHome (sym e'.4) (home_zeros 64 (cell 0 c.in-Ok.row.0.ptr (Some None)) None refl))

pub open-rows-requires-clause-rule : goal.open-rows-requires-clause-rule
open-rows-requires-clause-rule g c = let e = c.in_ok-root.ensures {u = tt} in let e' = c.in-Ok.ensures {u = tt} in let ws = c.args.words.now in
    begins (g.P.GrowingRule.holds c.args.about) ws c.args.cells c.in_ok-root.root.ptr c.in-Ok.row.0.ptr c.in_ok-root.first.at c.in-Ok.row.1.at c.in_ok-root.first.cells c.in-Ok.row.1.cells None (g.P.GrowingRule.first c.args.about)
    (let w : length ws ≤ 549755813888 = c.if-words-gt-WIDEST.false in let n : c.args.cells ≤ 549755813888 = c.if-cells-gt-WIDEST.false in (w, n)) e.1 e'.1 e.4 e'.4 c.requires.rule
