-- A step on a word or a slot, but for the number of blocks, leaves the rows laid as they are, and what the seats know of them.
use Rattle.std.proofs.Common.{◌≡◌, ◌≢◌, ℕ, zero, suc, ◌+◌, ◌<◌, ◌≤◌, ⊎_elim, List, [], ◌∷◌, map, length, set, refl, sym, ap, ◌∙◌, subst, arith}
use Rattle.std.specs.Prelude.{Option}
use mathlib.Core.Option.{some, some-injective, some-ne-none}
use lib.ListN.{get_elem?}
use denote.RawPtr.{Ptr, InBlock}
use Rattle.atomic_table.proofs.Lists.{at_set}
use Rattle.atomic_blocks.specs.Cells.{Cell, cell, row, with_word, with_home, link_of, word_of, home_of}
use Rattle.atomic_blocks.proofs.After.{count_stays, place_stays, part_stays, cell_else}
use Rattle.growing_table.specs.State.{State, state}
use Rattle.growing_table.specs.Laid.{Rows, KitState, places, plain_words, plain_blocks, Laid, Knows, Grown, client, sight}
use Rattle.growing_table.specs.declared.sight.Sight.{Sight}
use Rattle.growing_table.proofs.Plain.{map_set}

-- a seat that makes blocks did so before
pub was : {V : Type 0} (views : List (Sight V)) (id : ℕ) (v u : Sight V) → get_elem? views id ≡ some v → u.maker ≡ v.maker → (j : ℕ) (x : Sight V) → get_elem? (set views id u) j ≡ some x
    → (y : Sight V) × (get_elem? views j ≡ some y) × (y.maker ≡ x.maker)
was {V} views id v u at same j x e = ⊎_elim
    (λ (t : (j ≡ id) × (u ≡ x)). (v, ap (get_elem? views) t.0 ∙ at, sym same ∙ ap (λ (y : Sight V). y.maker) t.1))
    (λ (t : (j ≢ id) × (get_elem? views j ≡ some x)). (x, t.1, refl))
    (at_set views id j u x e)

module _ {S : Type 0} where
  -- nothing but words and slots differs
  pub record Same (rows rows' : Rows S) : Type 0 where
    pub count : length rows' ≡ length rows
    pub place : (j : ℕ) → ((row rows' j).at ≡ (row rows j).at) × (length (row rows' j).cells ≡ length (row rows j).cells)
    pub links : (j l : ℕ) → link_of rows' j l ≡ link_of rows j l
    pub number : word_of rows' 1 0 ≡ word_of rows 1 0

  pub same_all : (rows : Rows S) → Same rows rows
  same_all rows = record { count = refl; place = λ j. (refl, refl); links = λ j l. refl; number = refl }

  pub same_then : {rows rows' rows″ : Rows S} → Same rows rows' → Same rows' rows″ → Same rows rows″
  same_then a b = record {
    count = b.count ∙ a.count;
    place = λ j. ((b.place j).0 ∙ (a.place j).0, (b.place j).1 ∙ (a.place j).1);
    links = λ j l. b.links j l ∙ a.links j l;
    number = b.number ∙ a.number;
  }

  pub same_word : (rows : Rows S) (k i x : ℕ) → i < length (row rows k).cells → (k ≡ 1 → i ≢ 0) → Same rows (with_word rows k i x)
  same_word rows k i x near apart = let c : Cell S = cell x (link_of rows k i) (home_of rows k i) in record {
    count = count_stays rows k i c near;
    place = place_stays rows k i c near;
    links = part_stays rows k i c near (λ (y : Cell S). y.link) refl;
    number = ap (λ (y : Cell S). y.word) (cell_else rows k i c near 1 0 (λ e e'. apart (sym e) (sym e')));
  }

  pub same_home : (rows : Rows S) (k i : ℕ) (h : Option S) → i < length (row rows k).cells → Same rows (with_home rows k i h)
  same_home rows k i h near = let c : Cell S = cell (word_of rows k i) (link_of rows k i) h in record {
    count = count_stays rows k i c near;
    place = place_stays rows k i c near;
    links = part_stays rows k i c near (λ (y : Cell S). y.link) refl;
    number = part_stays rows k i c near (λ (y : Cell S). y.word) refl 1 0;
  }

  pub laid_same : {wide n : ℕ} {root top : Ptr} {rows rows' : Rows S} → Same rows rows' → Laid wide n root top rows → Laid wide n root top rows'
  laid_same {rows = rows} {rows' = rows'} a l = record {
    tall = subst (λ (x : ℕ). 2 ≤ x) (sym a.count) l.tall;
    few = subst (λ (x : ℕ). x ≤ 549755813888) (sym a.count) l.few;
    small = l.small;
    root_at = (a.place 0).0 ∙ l.root_at;
    root_long = (a.place 0).1 ∙ l.root_long;
    top_at = (a.place 1).0 ∙ l.top_at;
    top_long = (a.place 1).1 ∙ l.top_long;
    counted = ap (λ (x : ℕ). x + 2) a.number ∙ (l.counted ∙ sym a.count);
    entered = λ k d j h is. let e = l.entered k d j (subst (λ (x : ℕ). suc (suc k) < x) a.count h) is in
        (subst InBlock (sym (a.place (suc (suc k))).0) e.0, (a.place (suc (suc k))).1 ∙ e.1, a.links _ _ ∙ (e.2 ∙ sym (a.place (suc (suc k))).0));
  }

  pub places_at : (rows : Rows S) (k : ℕ) (p : Ptr) → get_elem? (places rows) k ≡ some p → (k < length rows) × ((row rows k).at ≡ p)
  places_at [] k p e = absurd (some-ne-none p (sym e))
  places_at (x ∷ rows) zero p e = (omega arith, some-injective x.at p e)
  places_at (x ∷ rows) (suc k) p e = let t = places_at rows k p e in (omega arith, t.1)

  pub at_places : (rows : Rows S) (k : ℕ) → k < length rows → get_elem? (places rows) k ≡ some (row rows k).at
  at_places [] k h = absurd (omega arith)
  at_places (x ∷ rows) zero h = refl
  at_places (x ∷ rows) (suc k) h = at_places rows k (omega arith)

  module _ {V : Type 0} where
    pub knows_same : {n : ℕ} {rows rows' : Rows S} {v : Sight V} → Same rows rows' → Knows n rows v → Knows n rows' v
    knows_same a know = record {
      sized = know.sized;
      charted = λ k p e. let t = know.charted k p e in (subst (λ (x : ℕ). k < x) (sym a.count) t.0, (a.place k).0 ∙ t.1);
      whole = λ e. know.whole e ∙ sym a.count;
      planned = λ e p is d j at. a.links _ _ ∙ know.planned e p is d j at;
    }

    -- the view after a step of a seat: the client's, the block whose slot is out with it, and where all rows lie
    abbrev pub renewed : Rows S → Sight V → V → ℕ → Sight V
    renewed rows v w at = sight w v.cells at (places rows) v.maker v.made v.plan.places

    pub knows_all : {n : ℕ} {rows : Rows S} {v : Sight V} → Knows n rows v → (w : V) (at : ℕ) → Knows n rows (renewed rows v w at)
    knows_all {rows = rows} know w at = record { sized = know.sized; charted = places_at rows; whole = know.whole; planned = know.planned }

    module _ {wide n : ℕ} {root top : Ptr} {holds : State S V → Type 0} where
      pub grown_on : (s : KitState S V) → Grown wide n root top holds s → (rows' : Rows S) → Same s.rows rows' → (id : ℕ) (v : Sight V) → get_elem? s.views id ≡ some v → (w : V) (at : ℕ)
          → holds (state (plain_words rows') (plain_blocks n rows') (set (map client s.views) id w)) → Grown wide n root top holds record { rows = rows'; views = set s.views id (renewed rows' v w at) }
      grown_on s g rows' a id v here w at good = let u : Sight V = renewed rows' v w at in record {
        laid = laid_same a g.laid;
        knows = λ j x e. ⊎_elim
            (λ (t : (j ≡ id) × (u ≡ x)). subst (Knows n rows') t.1 (knows_all (knows_same a (g.knows id v here)) w at))
            (λ (t : (j ≢ id) × (get_elem? s.views j ≡ some x)). knows_same a (g.knows j x t.1))
            (at_set s.views id j u x e);
        single = λ j k x y e e' m m'. let p = was s.views id v u here refl j x e in let q = was s.views id v u here refl k y e' in
            g.single j k p.0 q.0 p.1 q.1 (p.2 ∙ m) (q.2 ∙ m');
        agreed = subst (λ (vs : List V). holds (state (plain_words rows') (plain_blocks n rows') vs)) (sym (map_set client s.views id u)) good;
      }
