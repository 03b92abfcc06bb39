-- One step on a word, from what its client shows of the plain state.
use Rattle.std.proofs.Common.{◌≡◌, ℕ, suc, ◌+◌, ◌<◌, ◌≤◌, ◌^◌, is_some, true, true≢false, List, map, length, get_or, set, refl, sym, ap, ◌∙◌, subst, arith}
use Rattle.std.specs.Prelude.{Option, Some, None}
use mathlib.Core.Option.{some}
use lib.ListN.{get_elem?, length-map}
use denote.RawPtr.{Ptr}
use Rattle.atomic_table.proofs.Lists.{at_map}
use Rattle.atomic_blocks.specs.Cells as cells
use Rattle.atomic_blocks.specs.Cells.{row, with_word, with_home, word_of, link_of}
use Rattle.atomic_blocks.proofs.After.{cell_again}
use Rattle.growing_table.specs.State as plain
use Rattle.growing_table.specs.State.{BlockState, State, Me, Spot, Step, Act, own, within, count, keeps, takes, gives, state, step, blocks_after, blocks_with, words_with}
use Rattle.growing_table.specs.Laid.{Rows, KitState, KitMe, IsAt, entry, places, hand_of, plain_words, plain_blocks, plain_me, Holding, Laid, Knows, Grown, client, sight}
use Rattle.growing_table.specs.Told.{Stays}
use Rattle.growing_table.specs.declared.sight.Sight.{Sight}
use Rattle.growing_table.proofs.Plain as facts
use Rattle.growing_table.proofs.Stays.{Same, same_all, same_then, same_word, same_home, laid_same, at_places, renewed, grown_on}
use Rattle.growing_table.proofs.Powers.{located}

abbrev the_value : {A : Type 0} → A → Option A → A
the_value d None = d
the_value d (Some y) = y

pub some_same : {A : Type 0} (x y : A) → Some x ≡ Some y → x ≡ y
some_same x y e = ap (the_value x) e

none_some : {A : Type 0} (y : A) → None ≡ Some y → ⊥
none_some y e = true≢false (sym (ap is_some e))

-- the slot that is out with the seat
pub given_as : {S : Type 0} (at : ℕ) (h : Option (Ptr × ℕ × S)) (k j : ℕ) (y : S) → hand_of at h ≡ Some (k, j, y) → (p : Ptr) × (h ≡ Some (p, j, y)) × (at ≡ k)
given_as {S} at None k j y e = absurd (none_some (k, j, y) e)
given_as {S} at (Some h) k j y e = let i = some_same (at, h.1, h.2) (k, j, y) e in (h.0, ap Some (λ t. (h.0, (i t).1, (i t).2)), ap (λ (z : ℕ × ℕ × S). z.0) i)

module _ {S V : Type 0} where
  module _ (wide n : ℕ) (root top : Ptr) (holds : State S V → Type 0) where
    abbrev G : KitState S V → Type 0
    G = Grown wide n root top holds

    -- a block has its words and slots
    pub long_enough : (rows : Rows S) → Laid wide n root top rows → (k : ℕ) → suc (suc k) < length rows → n ≤ length (row rows (suc (suc k))).cells
    long_enough rows l k h = let t = located k in let e = (l.entered k t.0 t.1 h t.2).1 in let x : ℕ = length (row rows (suc (suc k))).cells in let y : ℕ = Rattle.growing_table.specs.Laid.more_cells t.0 t.1 in let e' : x ≡ n + y = e in omega arith

    module _ (s : KitState S V) (g : G s) (rows' : Rows S) (same : Same s.rows rows') (id : ℕ) (m : KitMe S V) (here : get_elem? s.views id ≡ some m.view) (sized : m.view.cells ≡ n) (holding : Holding m) where
      abbrev v : Sight V
      v = m.view

      recalls : (rows″ : Rows S) → Same s.rows rows″ → (k : ℕ) (p : Ptr) → get_elem? v.chart.places k ≡ some p → get_elem? (places rows″) k ≡ some p
      recalls rows″ a k p e = let t = (g.knows id v here).charted k p e in at_places rows″ k (subst (λ (x : ℕ). k < x) (sym a.count) t.0) ∙ ap some ((a.place k).0 ∙ t.1)

      abbrev pub KitGoes : (Me S V → Type 0) → Type 0
      KitGoes then = cells.Goes G s rows' id m (λ (r : KitMe S V). Stays m r × (length r.view.chart.places ≡ length s.rows) × then (plain_me r))

      charts : (rows″ : Rows S) → Same s.rows rows″ → length (places rows″) ≡ length s.rows
      charts rows″ a = length-map rows″ (λ (x : cells.Row S). x.at) ∙ a.count

      pub goes : (then : Me S V → Type 0) → plain.Goes holds (plain_words rows') (plain_blocks n rows') (map client s.views) id (plain_me m) then → KitGoes then
      goes then r = by_act r.0 r.1 r.2 r.3 r.4
        where
          by_act : (w : V) (a : Act S) → plain.Valid (plain_blocks n rows') (plain_me m) a → holds (state (plain_words rows') (blocks_after (plain_blocks n rows') a) (set (map client s.views) id w)) → then (plain.me_after (plain_me m) w a) → KitGoes then
          by_act w keeps valid good told = let u : Sight V = renewed rows' v w v.at in
              (u, cells.keeps, tt, grown_on s g rows' same id v here w v.at good, (((recalls rows' same, refl, refl, λ h e. (recalls rows' same (suc (suc v.at)) h.0 (holding h e).0, (holding h e).1)), refl, refl, refl), charts rows' same, told))
          by_act w (takes k j y) valid good told = let t = facts.home_there n rows' k j y valid in let rows″ : Rows S = with_home rows' (suc (suc k)) j None in
              let after : Same rows' rows″ = same_home rows' (suc (suc k)) j None t.0 in let both = same_then same after in
              let u : Sight V = renewed rows″ v w k in
              let there : suc (suc k) < length rows″ = subst (λ (x : ℕ). suc (suc k) < x) (sym after.count) (facts.in_range rows' (suc (suc k)) (let x : ℕ = length (row rows' (suc (suc k))).cells in let h : j < x = t.0 in omega arith)) in
              let lies = at_places rows″ (suc (suc k)) there ∙ ap some (after.place (suc (suc k))).0 in (
                u,
                cells.takes (suc (suc k)) j y,
                (t.0, t.1),
                grown_on s g rows″ both id v here w k (subst (λ (b : List ℕ × List (BlockState S)). holds (state b.0 b.1 (set (map client s.views) id w))) (λ i. (sym (facts.home_words n rows' k j None) i, sym (facts.home_set n rows' k j None) i)) good),
                (((recalls rows″ both, refl, refl, λ h e. let i = some_same ((row rows' (suc (suc k))).at, j, y) h e in (lies ∙ ap (λ (z : Ptr × ℕ × S). some z.0) i, subst (λ (z : Ptr × ℕ × S). z.1 < v.cells) i (subst (λ (x : ℕ). j < x) (sym sized) t.2))), refl, refl, refl), charts rows″ both, told),
              )
          by_act w (gives k j y) valid good told = let t = given_as v.at m.hand k j y valid in let rows″ : Rows S = with_home rows' (suc (suc k)) j (Some y) in
              let held = holding (t.0, j, y) t.1 in
              let charted = (g.knows id v here).charted (suc (suc v.at)) t.0 held.0 in
              let near : suc (suc k) < length rows' = subst (λ (x : ℕ). suc (suc x) < length rows') t.2 (subst (λ (x : ℕ). suc (suc v.at) < x) (sym same.count) charted.0) in
              let placed : (row rows' (suc (suc k))).at ≡ t.0 = subst (λ (x : ℕ). (row rows' (suc (suc x))).at ≡ t.0) t.2 ((same.place (suc (suc v.at))).0 ∙ charted.1) in
              let fits : j < length (row rows' (suc (suc k))).cells = (let x : ℕ = length (row rows' (suc (suc k))).cells in let a : n ≤ x = long_enough rows' (laid_same same g.laid) k near in let b : j < v.cells = held.1 in let c : v.cells ≡ n = sized in omega arith) in
              let after : Same rows' rows″ = same_home rows' (suc (suc k)) j (Some y) fits in let both = same_then same after in
              let u : Sight V = renewed rows″ v w v.at in (
                u,
                cells.gives (suc (suc k)) j y,
                (fits, t.1 ∙ ap Some (λ i. (sym placed i, j, y))),
                grown_on s g rows″ both id v here w v.at (subst (λ (b : List ℕ × List (BlockState S)). holds (state b.0 b.1 (set (map client s.views) id w))) (λ i. (sym (facts.home_words n rows' k j (Some y)) i, sym (facts.home_set n rows' k j (Some y)) i)) good),
                (((recalls rows″ both, refl, refl, λ h e. absurd (none_some h e)), refl, refl, refl), charts rows″ both, told),
              )

    abbrev Fully : KitState S V → KitMe S V → (Me S V → Type 0) → KitMe S V → Type 0
    Fully s m then r = Stays m r × (length r.view.chart.places ≡ length s.rows) × then (plain_me r)

    -- less is told
    less : (s : KitState S V) (rows' : Rows S) (id : ℕ) (m : KitMe S V) (A B : KitMe S V → Type 0) → ((x : KitMe S V) → A x → B x) → cells.Goes G s rows' id m A → cells.Goes G s rows' id m B
    less s rows' id m A B f r = (r.0, r.1, r.2, r.3, f _ r.4)

    module _ (id : ℕ) (m : KitMe S V) (sized : m.view.cells ≡ n) (holding : Holding m) (f : ℕ → ℕ) (then : ℕ → Me S V → Type 0) where
      abbrev Told : ℕ → KitMe S V → Type 0
      Told r m' = Stays m m' × then r (plain_me m')

      -- A WORD OF THE TABLE'S OWN
      pub allows_own : (i : ℕ) → i < wide → plain.Allows holds id (plain_me m) (own i) f then → cells.Allows G id m 0 root i f Told
      allows_own i inside law s g here = let rows : Rows S = s.rows in let ws : List ℕ = plain_words rows in let bs : List (BlockState S) = plain_blocks n rows in
          let near : i < length (row rows 0).cells = subst (λ (x : ℕ). i < x) (sym g.laid.root_long) inside in (
            (g.laid.root_at, near),
            λ small. let x : ℕ = word_of rows 0 i in let rows' : Rows S = with_word rows 0 i (f x) in let same = same_word rows 0 i (f x) near (λ e. absurd (omega arith)) in
                let found : get_or ws i 0 ≡ x = facts.own_found rows i in
                let long : length ws ≡ length (row rows 0).cells = length-map (row rows 0).cells (λ (c : cells.Cell S). c.word) in
                let r = law (state ws bs (map client s.views)) g.agreed (at_map client s.views id m.view here) (subst (λ (y : ℕ). i < y) (sym long) near) (subst (λ (y : ℕ). y < 18446744073709551616) (sym found) small) in
                let r' = subst (λ (y : ℕ). plain.Goes holds (set ws i (f y)) bs (map client s.views) id (plain_me m) (then y)) found r in
                let r″ = subst (λ (b : List ℕ × List (BlockState S)). plain.Goes holds b.0 b.1 (map client s.views) id (plain_me m) (then x))
                (λ k. (sym (facts.own_set rows i (f x) (let t : 2 ≤ length rows = g.laid.tall in omega arith)) k, sym (facts.own_blocks n rows i (f x)) k)) r' in
                less s rows' id m (Fully s m (then x)) (Told x) (λ m' t. (t.0, t.2)) (goes s g rows' same id m here sized holding (then x) r″),
          )

      -- A WORD OF A BLOCK whose place the seat knows
      at_block : (k i : ℕ) (p : Ptr) → i < n → get_elem? m.view.chart.places (suc (suc k)) ≡ some p → plain.Allows holds id (plain_me m) (within k i) f then → cells.Allows G id m (suc (suc k)) p i f Told
      at_block k i p inside lies law s g here = let rows : Rows S = s.rows in let ws : List ℕ = plain_words rows in let bs : List (BlockState S) = plain_blocks n rows in let K : ℕ = suc (suc k) in
          let charted = (g.knows id m.view here).charted K p lies in
          let near : i < length (row rows K).cells = (let x : ℕ = length (row rows K).cells in let a : n ≤ x = long_enough rows g.laid k charted.0 in omega arith) in (
            (charted.1, near),
            λ small. let x : ℕ = word_of rows K i in let rows' : Rows S = with_word rows K i (f x) in let same = same_word rows K i (f x) near (λ e. absurd (omega arith)) in
                let b : BlockState S = plain.block bs k in let found : get_or b.words i 0 ≡ x = facts.block_found n rows k i inside in
                let many : length bs + 2 ≡ length rows = facts.blocks_count n rows g.laid.tall in
                let has : (k < length bs) × (i < length b.words) = ((let h : suc (suc k) < length rows = charted.0 in omega arith), facts.block_long n rows k i inside near) in
                let r = law (state ws bs (map client s.views)) g.agreed (at_map client s.views id m.view here) has (subst (λ (y : ℕ). y < 18446744073709551616) (sym found) small) in
                let r' = subst (λ (y : ℕ). plain.Goes holds ws (set bs k (plain.block_of (set b.words i (f y)) b.homes)) (map client s.views) id (plain_me m) (then y)) found r in
                let r″ = subst (λ (z : List ℕ × List (BlockState S)). plain.Goes holds z.0 z.1 (map client s.views) id (plain_me m) (then x))
                (λ j. (sym (facts.block_words n rows k i (f x)) j, sym (facts.block_set n rows k i (f x)) j)) r' in
                less s rows' id m (Fully s m (then x)) (Told x) (λ m' t. (t.0, t.2)) (goes s g rows' same id m here sized holding (then x) r″),
          )

      pub allows_block : (k i : ℕ) (p : Ptr) → i < n → get_elem? m.view.chart.places (suc (suc k)) ≡ some p → plain.Allows holds id (plain_me m) (within k i) f then → cells.Allows G id m (k + 2) p i f Told
      allows_block k i p inside lies law = subst (λ (x : ℕ). cells.Allows G id m x p i f Told) (let e : suc (suc k) ≡ k + 2 = omega arith in e) (at_block k i p inside lies law)

      pub allows_root : (i : ℕ) (p : Ptr) → root ≡ p → i < wide → plain.Allows holds id (plain_me m) (own i) f then → cells.Allows G id m 0 p i f Told
      allows_root i p is inside law = subst (λ (x : Ptr). cells.Allows G id m 0 x i f Told) is (allows_own i inside law)

    -- THE NUMBER OF BLOCKS IS READ
    pub allows_count : (id : ℕ) (m : KitMe S V) → m.view.cells ≡ n → Holding m → (then : ℕ → Me S V → Type 0) → plain.Allows holds id (plain_me m) count (λ (r : ℕ). r) then
        → cells.Allows G id m 1 top 0 (λ (r : ℕ). r) (λ (r : ℕ) (m' : KitMe S V). Stays m m' × (r + 2 ≡ length m'.view.chart.places) × (r + 2 ≤ 2 ^ 39) × (m.view.maker ≡ true → r ≡ m.view.made) × then r (plain_me m'))
    allows_count id m sized holding then law s g here = let rows : Rows S = s.rows in let ws : List ℕ = plain_words rows in let bs : List (BlockState S) = plain_blocks n rows in let x : ℕ = word_of rows 1 0 in
        let near : 0 < length (row rows 1).cells = (let e = g.laid.top_long in omega arith) in
        let counted : x + 2 ≡ length rows = g.laid.counted in let few : length rows ≤ 549755813888 = g.laid.few in
        let many : length bs ≡ x = (let e : length bs + 2 ≡ length rows = facts.blocks_count n rows g.laid.tall in omega arith) in
        let r = law (state ws bs (map client s.views)) g.agreed (at_map client s.views id m.view here) tt (let h : length bs < 18446744073709551616 = omega arith in h) in
        let r' = subst (λ (y : ℕ). plain.Goes holds ws bs (map client s.views) id (plain_me m) (then y)) many r in
        let made : m.view.maker ≡ true → x ≡ m.view.made = (λ e. let a = (g.knows id m.view here).whole e in omega arith) in (
          (g.laid.top_at, near),
          λ small. subst (λ (y : Rows S). cells.Goes G s y id m (λ (m' : KitMe S V). Stays m m' × (x + 2 ≡ length m'.view.chart.places) × (x + 2 ≤ 2 ^ 39) × (m.view.maker ≡ true → x ≡ m.view.made) × then x (plain_me m')))
              (sym (cell_again rows 1 0))
              (less s rows id m (Fully s m (then x)) (λ (m' : KitMe S V). Stays m m' × (x + 2 ≡ length m'.view.chart.places) × (x + 2 ≤ 2 ^ 39) × (m.view.maker ≡ true → x ≡ m.view.made) × then x (plain_me m'))
              (λ m' t. (t.0, (let e : length m'.view.chart.places ≡ length rows = t.1 in omega arith), omega arith, made, t.2))
              (goes s g rows (same_all rows) id m here sized holding (then x) r')),
        )
