use Rattle.std.proofs.Common.{◌∙◌, sym, subst, refl}
use Rattle.atomic_blocks.specs.Cells.{AllHome}
use Rattle.growing_table.proofs.Entries.{home_zeros, making_asks}
use Rattle.growing_table.proofs.table.GrowingTable.lay.Goals as goal

pub hold-requires : goal.hold-requires
hold-requires g c = let b = c.requires.block in let s = c.requires.seat in (b.0 ∙ sym s.1, s.4, b.1, subst AllHome (sym b.4.3) (home_zeros _ _ _ refl))

pub store-requires : goal.store-requires
store-requires g c = let b = c.requires.block in let s = c.requires.seat in let t = c.args.self.now in
    making_asks (g.P.GrowingRule.holds t.rows.key.about) t c.args.seat.now (s.0, s.1, s.2) s.3 c.args.block c.args.number c.requires.next b.2 b.3 b.4 g.M.Play.then c.requires.rule c.hold.new.self c.hold.ensures
