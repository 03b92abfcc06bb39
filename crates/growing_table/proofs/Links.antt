-- Links to blocks: where they lie, what a load tells, and how the next one is entered.
use Rattle.std.proofs.Common.{◌≡◌, ◌≢◌, ℕ, zero, suc, ◌+◌, ◌-◌, ◌<◌, ◌≤◌, ◌^◌, ⊎_elim, true, List, [], ◌∷◌, map, length, set, refl, sym, ap, ◌∙◌, subst, arith, pow_pos}
use mathlib.Core.Option.{some}
use lib.ListN.{get_elem?}
use denote.RawPtr.{Ptr, InBlock}
use Rattle.atomic_table.proofs.Lists.{at_set, set_again, at_map}
use Rattle.atomic_blocks.specs.Cells as cells
use Rattle.atomic_blocks.specs.Cells.{Cell, cell, row, row_at, with_link, link_of, word_of, home_of, Lies}
use Rattle.atomic_blocks.proofs.After.{cell_again, count_stays, place_stays, part_stays, cell_here, cell_else}
use Rattle.growing_table.specs.State.{BlockState, State, state}
use Rattle.growing_table.specs.Laid.{Rows, KitState, KitMe, IsAt, entry, Found, Reaches, Knows, Grown, client, sight}
use Rattle.growing_table.specs.Told.{saw_link, wrote_link}
use Rattle.growing_table.specs.declared.sight.Sight.{Sight}
use Rattle.growing_table.proofs.Plain as facts
use Rattle.growing_table.proofs.Powers.{same_spot}
use Rattle.growing_table.proofs.Stays.{was}

-- the block at a power of two is in the row after that power
pub first_row : (d : ℕ) → suc (suc (2 ^ d - 1)) ≡ 2 ^ d + 1
first_row d = let h : 0 < 2 ^ d = pow_pos d in omega arith

pub first_at : (d : ℕ) → IsAt (2 ^ d - 1) d 0
first_at d = let h : 0 < 2 ^ d = pow_pos d in (omega arith, h)

-- two blocks have no entry in common
pub entries_differ : (n b b' d j d' j' : ℕ) → IsAt b d j → IsAt b' d' j' → (entry n d j).0 ≡ (entry n d' j').0 → (entry n d j).1 ≡ (entry n d' j').1 → b ≡ b'
entries_differ n b b' d zero d' zero at at' e e' = let p : 2 ^ d ≡ 2 ^ d' = ap (λ (x : ℕ). 2 ^ x) e' in let x = at.0 in let y = at'.0 in omega arith
entries_differ n b b' d zero d' (suc j') at at' e e' = let h : 0 < 2 ^ d' = pow_pos d' in absurd (omega arith)
entries_differ n b b' d (suc j) d' zero at at' e e' = let h : 0 < 2 ^ d = pow_pos d in absurd (omega arith)
entries_differ n b b' d (suc j) d' (suc j') at at' e e' = let x = at.0 in let y = at'.0 in omega arith

the_first : Ptr → List Ptr → Ptr
the_first d [] = d
the_first d (p ∷ ps) = p

same_first : (p q : Ptr) → p ∷ [] ≡ q ∷ [] → p ≡ q
unfolding the_first
same_first p q e = ap (the_first p) e

module _ {S V : Type 0} (wide n : ℕ) (root top : Ptr) (holds : State S V → Type 0) where
  abbrev G : KitState S V → Type 0
  G = Grown wide n root top holds

  module _ (id : ℕ) (m : KitMe S V) (sized : m.view.cells ≡ n) (b k i : ℕ) (p : Ptr) where
    lies_by : (s : KitState S V) → G s → get_elem? s.views id ≡ some m.view → (d j : ℕ) → IsAt b d j → k ≡ (entry n d j).0 → i ≡ (entry n d j).1 → Found top m.view.chart.places d j p → Lies s.rows k p i
    lies_by s g here d zero at ek ei found = subst (λ (x : ℕ × Ptr × ℕ). Lies s.rows x.0 x.1 x.2) (λ t. (sym ek t, sym found.0 t, sym ei t)) (g.laid.top_at, subst (λ (x : ℕ). d < x) (sym g.laid.top_long) found.1)
    lies_by s g here d (suc j) at ek ei found =
        let charted = (g.knows id m.view here).charted (2 ^ d + 1) p found in let q : ℕ = 2 ^ d in let first : ℕ = q - 1 in
        let there : suc (suc first) < length s.rows = subst (λ (x : ℕ). x < length s.rows) (sym (first_row d)) charted.0 in
        let long : length (row s.rows (2 ^ d + 1)).cells ≡ n + 2 ^ d = subst (λ (x : ℕ). length (row s.rows x).cells ≡ n + 2 ^ d) (first_row d) (g.laid.entered first d 0 there (first_at d)).1 in
        let below : suc j < q = at.1 in let len : ℕ = length (row s.rows (2 ^ d + 1)).cells in let long' : len ≡ n + q = long in
        subst (λ (x : ℕ × ℕ). Lies s.rows x.0 p x.1) (λ t. (sym ek t, sym ei t)) (charted.1, (let h : n + suc j < len = omega arith in h))

    pub lies : Reaches n top m.view.chart.places b k p i → (s : KitState S V) → G s → get_elem? s.views id ≡ some m.view → Lies s.rows k p i
    lies r s g here = lies_by s g here r.0 r.1 r.2 r.3 r.4 r.5

    saw : (s : KitState S V) → G s → get_elem? s.views id ≡ some m.view → saw_link k i m (link_of s.rows k i) m
    saw s g here = (
      refl,
      λ c d j p' e at ek ei. let charted = (g.knows id m.view here).charted (suc (suc c)) p' e in let en = g.laid.entered c d j charted.0 at in
          (subst (λ (x : ℕ × ℕ). link_of s.rows x.0 x.1 ≡ p') (λ t. (sym (ek ∙ ap (λ (y : ℕ). (entry y d j).0) sized) t, sym (ei ∙ ap (λ (y : ℕ). (entry y d j).1) sized) t)) (en.2 ∙ charted.1), subst InBlock charted.1 en.0),
    )

    -- A LINK IS READ
    pub link_seen : Reaches n top m.view.chart.places b k p i → cells.AllowsLink G id m k p i (λ (q : Ptr). q) (saw_link k i m)
    link_seen r s g here =
        (lies r s g here, (m.view, cells.keeps, tt, subst (λ (x : Rows S × List (Sight V)). G record { rows = x.0; views = x.1 }) (λ t. (sym (cell_again s.rows k i) t, sym (set_again s.views id m.view here) t)) g, saw s g here))

    module _ (q : Ptr) (is_maker : m.view.maker ≡ true) (made : m.view.made ≡ b) where
      abbrev v : Sight V
      v = m.view

      abbrev u : Sight V
      u = sight v.client v.cells v.at v.chart.places v.maker v.made (q ∷ [])

      linked : (s : KitState S V) → G s → get_elem? s.views id ≡ some v → Lies s.rows k p i → (d j : ℕ) → IsAt b d j → k ≡ (entry n d j).0 → i ≡ (entry n d j).1 → G record { rows = with_link s.rows k i q; views = set s.views id u }
      linked s g here there d j at ek ei =
          let rows : Rows S = s.rows in let bs : Rows S = with_link rows k i q in let c : Cell S = cell (word_of rows k i) q (home_of rows k i) in let near = there.1 in let l = g.laid in let know = g.knows id v here in
          let count : length bs ≡ length rows = count_stays rows k i c near in
          let place : (x : ℕ) → ((row bs x).at ≡ (row rows x).at) × (length (row bs x).cells ≡ length (row rows x).cells) = place_stays rows k i c near in
          let last : b + 2 ≡ length rows = subst (λ (x : ℕ). x + 2 ≡ length rows) made (know.whole is_maker) in
          let others : (j' : ℕ) (x : Sight V) → j' ≢ id → get_elem? s.views j' ≡ some x → Knows n rows x → Knows n bs x = (λ j' x apart e old. record {
            sized = old.sized;
            charted = λ y p' e'. let t = old.charted y p' e' in (subst (λ (z : ℕ). y < z) (sym count) t.0, (place y).0 ∙ t.1);
            whole = λ e'. old.whole e' ∙ sym count;
            planned = λ e' _ _ _ _ _. absurd (apart (g.single j' id x v e here e' is_maker));
          }) in
          record {
            laid = record {
              tall = subst (λ (x : ℕ). 2 ≤ x) (sym count) l.tall;
              few = subst (λ (x : ℕ). x ≤ 549755813888) (sym count) l.few;
              small = l.small;
              root_at = (place 0).0 ∙ l.root_at;
              root_long = (place 0).1 ∙ l.root_long;
              top_at = (place 1).0 ∙ l.top_at;
              top_long = (place 1).1 ∙ l.top_long;
              counted = ap (λ (x : ℕ). x + 2) (part_stays rows k i c near (λ (y : Cell S). y.word) refl 1 0) ∙ (l.counted ∙ sym count);
              entered = λ b' d' j' h is. let h' : suc (suc b') < length rows = subst (λ (x : ℕ). suc (suc b') < x) count h in let en = l.entered b' d' j' h' is in
                  let apart : (entry n d' j').0 ≡ k → (entry n d' j').1 ≢ i = (λ e e'. let same = entries_differ n b' b d' j' d j is at (e ∙ ek) (e' ∙ ei) in omega arith) in
                  (subst InBlock (sym (place (suc (suc b'))).0) en.0, (place (suc (suc b'))).1 ∙ en.1, ap (λ (y : Cell S). y.link) (cell_else rows k i c near (entry n d' j').0 (entry n d' j').1 apart) ∙ (en.2 ∙ sym (place (suc (suc b'))).0));
            };
            knows = λ j' x e. ⊎_elim
                (λ (t : (j' ≡ id) × (u ≡ x)). subst (Knows n bs) t.1 record {
                  sized = know.sized;
                  charted = λ y p' e'. let z = know.charted y p' e' in (subst (λ (w : ℕ). y < w) (sym count) z.0, (place y).0 ∙ z.1);
                  whole = λ e'. know.whole e' ∙ sym count;
                  planned = λ _ p' is d' j' at'. let spot = same_spot b d j d' j' at (subst (λ (y : ℕ). IsAt y d' j') made at') in
                      subst (λ (y : ℕ × ℕ). link_of bs (entry n y.0 y.1).0 (entry n y.0 y.1).1 ≡ p') (λ t'. (spot.0 t', spot.1 t'))
                      (subst (λ (y : ℕ × ℕ). link_of bs y.0 y.1 ≡ p') (λ t'. (ek t', ei t')) (ap (λ (y : Cell S). y.link) (cell_here rows k i c near) ∙ same_first q p' is));
                })
                (λ (t : (j' ≢ id) × (get_elem? s.views j' ≡ some x)). others j' x t.0 t.1 (g.knows j' x t.1))
                (at_set s.views id j' u x e);
            single = λ j' k' x y e e' a a'. let o = was s.views id v u here refl j' x e in let o' = was s.views id v u here refl k' y e' in g.single j' k' o.0 o'.0 o.1 o'.1 (o.2 ∙ a) (o'.2 ∙ a');
            agreed = subst (λ (x : List ℕ × List (BlockState S) × List V). holds (state x.0 x.1 x.2))
                (λ t. (sym (facts.linked_words rows k i q) t, sym (facts.linked_blocks n rows k i q) t, sym (facts.map_set client s.views id u ∙ set_again (map client s.views) id v.client (at_map client s.views id v here)) t)) g.agreed;
          }

      -- THE LINK TO THE NEXT BLOCK IS ENTERED
      pub link_entered : Reaches n top m.view.chart.places b k p i → cells.AllowsLink G id m k p i (λ (_ : Ptr). q) (λ (_ : Ptr). wrote_link k i m q)
      link_entered r s g here = let there = lies r s g here in (there, (u, cells.keeps, tt, linked s g here there r.0 r.1 r.2 r.3 r.4, refl))
