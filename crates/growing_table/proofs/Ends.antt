-- The rows at the end, as blocks are freed.
use Rattle.std.proofs.Common.{◌≡◌, ◌≢◌, ℕ, zero, suc, ◌+◌, ◌-◌, ◌*◌, ◌<◌, ◌≤◌, ◌^◌, [], ◌∷◌, length, set, refl, sym, ap, ◌∙◌, subst, arith, pow_pos, get_or-set_other}
use mathlib.Core.Logic.{dite}
use native.Mathlib.Decide.{ℕ_discrete}
use denote.RawPtr.{Ptr, InBlock}
use Rattle.atomic_blocks.specs.Cells.{Row, cell_in, row, no_row, link_of, word_of, Lies, AllHome, RowsBack, Final}
use Rattle.atomic_blocks.proofs.Homes.{cells_back, rows_back}
use Rattle.growing_table.specs.State.{State}
use Rattle.growing_table.specs.Laid.{Rows, KitState, IsAt, entry, Entered, Grown}
use Rattle.growing_table.specs.Ending.{Ending, IsLast}
use Rattle.growing_table.proofs.Links.{first_row, first_at}
use Rattle.growing_table.proofs.NewBlock.{entry_before}

module _ {S : Type 0} (wide n : ℕ) (root top : Ptr) (number : ℕ) (rows : Rows S) (e : Ending wide n root top (number + 1) rows) where
  two : suc (suc number) ≡ number + 2
  two = omega arith

  -- the block at the power of two
  first_there : (d : ℕ) → 2 ^ d ≤ number + 1 → Entered n rows (2 ^ d - 1) d 0
  first_there d h = (e.left (2 ^ d - 1) d 0 (let q : ℕ = 2 ^ d in let p : 0 < q = pow_pos d in let h' : q ≤ number + 1 = h in omega arith) (first_at d)).0

  pub top_lies : (d : ℕ) → d < 64 → Lies rows 1 top d
  top_lies d h = (e.top_at, subst (λ (x : ℕ). d < x) (sym e.top_long) h)

  last_left : (d j : ℕ) → IsAt number d j → Entered n rows number d j × AllHome (row rows (suc (suc number))).cells
  last_left d j at = e.left number d j (omega arith) at

  as_last : (p : Ptr) (len : ℕ) → (row rows (suc (suc number))).at ≡ p → length (row rows (suc (suc number))).cells ≡ len → 0 < len → InBlock p → AllHome (row rows (suc (suc number))).cells → IsLast rows number p len
  as_last p len a b c i h = subst (λ (x : ℕ). ((row rows x).at ≡ p) × (length (row rows x).cells ≡ len) × (0 < len) × InBlock p × AllHome (row rows x).cells) two (a, b, c, i, h)

  pub last_first : (d x : ℕ) (p : Ptr) → x ≡ 2 ^ d → 2 ^ d ≤ number + 1 → number + 1 - x ≡ 0 → 0 < n → p ≡ link_of rows 1 d → IsLast rows number p (n + x)
  last_first d x p is low none some ep = let q : ℕ = 2 ^ d in let low' : q ≤ number + 1 = low in let is' : x ≡ q = is in let t = last_left d 0 ((let z : q + 0 ≡ number + 1 = omega arith in z), pow_pos d) in
      as_last p (n + x) (sym t.0.2 ∙ sym ep) (t.0.1 ∙ ap (λ (y : ℕ). n + y) (sym is)) (omega arith) (subst InBlock (sym t.0.2 ∙ sym ep) t.0.0) t.1

  later : (d off : ℕ) (p : Ptr) → 2 ^ d + off ≡ number + 1 → number + 1 < 2 * 2 ^ d → (off ≡ 0 → ⊥) → 0 < n → p ≡ link_of rows (2 ^ d + 1) (n + off) → IsLast rows number p n
  later d zero p at h some_off some ep = absurd (some_off refl)
  later d (suc j) p at h some_off some ep = let q : ℕ = 2 ^ d in let at' : q + suc j ≡ number + 1 = at in let h' : number + 1 < 2 * q = h in let t = last_left d (suc j) (at, (let z : suc j < q = omega arith in z)) in
      as_last p n (sym t.0.2 ∙ sym ep) (t.0.1 ∙ (let z : n + 0 ≡ n = omega arith in z)) some (subst InBlock (sym t.0.2 ∙ sym ep) t.0.0) t.1

  pub last_later : (d x : ℕ) (p : Ptr) → x ≡ 2 ^ d → 2 ^ d ≤ number + 1 → number + 1 < 2 * 2 ^ d → (number + 1 - x ≡ 0 → ⊥) → 0 < n → p ≡ link_of rows (x + 1) (n + (number + 1 - x)) → IsLast rows number p n
  last_later d x p is low high some_off some ep = let q : ℕ = 2 ^ d in let low' : q ≤ number + 1 = low in
      later d (number + 1 - 2 ^ d) p (let z : q + (number + 1 - q) ≡ number + 1 = omega arith in z) high (λ z. some_off (ap (λ (y : ℕ). number + 1 - y) is ∙ z)) some (ep ∙ ap (λ (y : ℕ). link_of rows (y + 1) (n + (number + 1 - y))) is)

  -- the link to it lies there
  pub later_lies : (d x : ℕ) (q : Ptr) → x ≡ 2 ^ d → 2 ^ d ≤ number + 1 → number + 1 < 2 * 2 ^ d → q ≡ link_of rows 1 d → InBlock q × Lies rows (x + 1) q (n + (number + 1 - x))
  later_lies d x q is low high eq = let t = first_there d low in let r : ℕ = 2 ^ d in let low' : r ≤ number + 1 = low in let high' : number + 1 < 2 * r = high in let is' : x ≡ r = is in
      let at : (row rows (r + 1)).at ≡ q = subst (λ (y : ℕ). (row rows y).at ≡ q) (first_row d) (sym t.2 ∙ sym eq) in
      let long : length (row rows (r + 1)).cells ≡ n + r = subst (λ (y : ℕ). length (row rows y).cells ≡ n + r) (first_row d) t.1 in
      (subst InBlock (sym t.2 ∙ sym eq) t.0, subst (λ (y : ℕ). Lies rows (y + 1) q (n + (number + 1 - x))) (sym is) (at, (let len : ℕ = length (row rows (r + 1)).cells in let long' : len ≡ n + r = long in let z : n + (number + 1 - x) < len = omega arith in z)))

  -- it is freed
  module _ (rows' : Rows S) (freed : rows' ≡ set rows (number + 2) no_row) where
    else_row : (k : ℕ) → k ≢ number + 2 → row rows' k ≡ row rows k
    else_row k ne = ap (λ (x : Rows S). row x k) freed ∙ get_or-set_other rows (number + 2) k no_row no_row ne

    that_row : (row rows' (number + 2)).cells ≡ []
    that_row = ap (λ (x : Rows S). (row x (number + 2)).cells) freed ∙ gone_there rows (number + 2)
      where
        gone_there : (l : Rows S) (k : ℕ) → (row (set l k no_row) k).cells ≡ []
        gone_there [] k = refl
        gone_there (x ∷ l) zero = refl
        gone_there (x ∷ l) (suc k) = gone_there l k

    pub one_less : Ending wide n root top number rows'
    one_less = let r₀ = else_row 0 (λ h. omega arith) in let r₁ = else_row 1 (λ h. omega arith) in record {
      small = e.small;
      few = let h = e.few in omega arith;
      root_at = ap (λ (x : Row S). x.at) r₀ ∙ e.root_at;
      root_long = ap (λ (x : Row S). length x.cells) r₀ ∙ e.root_long;
      root_home = subst (λ (x : Row S). AllHome x.cells) (sym r₀) e.root_home;
      top_at = ap (λ (x : Row S). x.at) r₁ ∙ e.top_at;
      top_long = ap (λ (x : Row S). length x.cells) r₁ ∙ e.top_long;
      top_home = subst (λ (x : Row S). AllHome x.cells) (sym r₁) e.top_home;
      left = λ k d j h at. let t = e.left k d j (omega arith) at in let same : row rows' (suc (suc k)) ≡ row rows (suc (suc k)) = else_row (suc (suc k)) (λ z. omega arith) in
          let before : (entry n d j).0 < suc (suc k) = entry_before n k d j (suc (suc k)) at (omega arith) (let z : suc (suc k) ≤ suc (suc k) = omega arith in z) in
          let same' : row rows' (entry n d j).0 ≡ row rows (entry n d j).0 = else_row (entry n d j).0 (λ z. omega arith) in (
            (
              subst (λ (x : Row S). InBlock x.at) (sym same) t.0.0,
              ap (λ (x : Row S). length x.cells) same ∙ t.0.1,
              ap (λ (x : Row S). (cell_in x.cells (entry n d j).1).link) same' ∙ (t.0.2 ∙ sym (ap (λ (x : Row S). x.at) same)),
            ),
            subst (λ (x : Row S). AllHome x.cells) (sym same) t.1,
          );
      gone = λ k h. dite (ℕ_discrete (suc (suc k)) (number + 2))
          (λ z. subst (λ (x : ℕ). (row rows' x).cells ≡ []) (sym z) that_row)
          (λ ne. ap (λ (x : Row S). x.cells) (else_row (suc (suc k)) ne) ∙ e.gone k (omega arith));
    }

-- ---- what is left of the rows when no thread shares them
module _ {S V : Type 0} (wide n : ℕ) (root top : Ptr) (holds : State S V → Type 0) (rows : Rows S) where
  back_long : (xs ys : Rows S) → RowsBack xs ys → length ys ≡ length xs
  back_long [] [] b = refl
  back_long [] (y ∷ ys) b = absurd b
  back_long (x ∷ xs) [] b = absurd b
  back_long (x ∷ xs) (y ∷ ys) b = ap suc (back_long xs ys b.2)

  out_of_range : (l : Rows S) (k : ℕ) → length l ≤ k → (row l k).cells ≡ []
  out_of_range [] k h = refl
  out_of_range (x ∷ l) zero h = absurd (omega arith)
  out_of_range (x ∷ l) (suc k) h = out_of_range l k (omega arith)

  pub ending : Final (Grown wide n root top holds) rows → Ending wide n root top (word_of rows 1 0) rows × (0 < length (row rows 1).cells)
  ending f = let s : KitState S V = f.0 in let g = f.1 in let l = g.laid in let b = rows_back s.rows rows f.2 in let long = back_long s.rows rows f.2 in
      let at : (k : ℕ) → (row rows k).at ≡ (row s.rows k).at = (λ k. (b k).0) in
      let c : (k : ℕ) → (length (row rows k).cells ≡ length (row s.rows k).cells) × AllHome (row rows k).cells × ((i : ℕ) → ((cell_in (row rows k).cells i).word ≡ (cell_in (row s.rows k).cells i).word) × ((cell_in (row rows k).cells i).link ≡ (cell_in (row s.rows k).cells i).link))
      = (λ k. cells_back (row s.rows k).cells (row rows k).cells (b k).1) in
      let number : word_of rows 1 0 ≡ word_of s.rows 1 0 = ((c 1).2 0).0 in
      let count : word_of rows 1 0 + 2 ≡ length rows = ap (λ (x : ℕ). x + 2) number ∙ (l.counted ∙ sym long) in (
        record {
          small = l.small.1;
          few = let h : length s.rows ≤ 549755813888 = l.few in let h' : length rows ≡ length s.rows = long in (let x : ℕ = word_of rows 1 0 in let q : x + 2 ≡ length rows = count in let z : x ≤ 549755813888 = omega arith in z);
          root_at = at 0 ∙ l.root_at;
          root_long = (c 0).0 ∙ l.root_long;
          root_home = (c 0).1;
          top_at = at 1 ∙ l.top_at;
          top_long = (c 1).0 ∙ l.top_long;
          top_home = (c 1).1;
          left = λ k d j h is. let t = l.entered k d j (let x : ℕ = word_of rows 1 0 in let q : x + 2 ≡ length rows = count in let h' : length rows ≡ length s.rows = long in let h″ : k < x = h in let z : suc (suc k) < length s.rows = omega arith in z) is in
              ((subst InBlock (sym (at (suc (suc k)))) t.0, (c (suc (suc k))).0 ∙ t.1, ((c (entry n d j).0).2 (entry n d j).1).1 ∙ (t.2 ∙ sym (at (suc (suc k))))), (c (suc (suc k))).1);
          gone = λ k h. out_of_range rows (suc (suc k)) (let x : ℕ = word_of rows 1 0 in let q : x + 2 ≡ length rows = count in let h' : x ≤ k = h in let z : length rows ≤ suc (suc k) = omega arith in z);
        },
        (let z : length (row rows 1).cells ≡ 64 = (c 1).0 ∙ l.top_long in omega arith),
      )

-- ---- the rows of words and links are freed last
module _ {S : Type 0} (wide n : ℕ) (root top : Ptr) (rows : Rows S) (e : Ending wide n root top 0 rows) where
  pub top_there : Lies rows 1 top 0
  top_there = (e.top_at, subst (λ (x : ℕ). 0 < x) (sym e.top_long) (let z : 0 < 64 = omega arith in z))

  module _ (rows' : Rows S) (freed : rows' ≡ set rows 1 no_row) where
    root_same : row rows' 0 ≡ row rows 0
    root_same = ap (λ (x : Rows S). row x 0) freed ∙ get_or-set_other rows 1 0 no_row no_row (λ h. absurd (let z : 0 ≡ 1 = h in omega arith))

    pub root_there : 0 < wide → Lies rows' 0 root 0
    root_there some = (ap (λ (x : Row S). x.at) root_same ∙ e.root_at, subst (λ (x : Row S). 0 < length x.cells) (sym root_same) (subst (λ (x : ℕ). 0 < x) (sym e.root_long) some))

    pub root_cells : length (row rows' 0).cells ≡ wide
    root_cells = ap (λ (x : Row S). length x.cells) root_same ∙ e.root_long

    pub root_homes : AllHome (row rows' 0).cells
    root_homes = subst (λ (x : Row S). AllHome x.cells) (sym root_same) e.root_home

    emptied : (l : Rows S) (k : ℕ) → (row (set l k no_row) k).cells ≡ []
    emptied [] k = refl
    emptied (x ∷ l) zero = refl
    emptied (x ∷ l) (suc k) = emptied l k

    pub all_gone : (rows″ : Rows S) → rows″ ≡ set rows' 0 no_row → (k : ℕ) → (row rows″ k).cells ≡ []
    all_gone rows″ freed' zero = ap (λ (x : Rows S). (row x 0).cells) freed' ∙ emptied rows' 0
    all_gone rows″ freed' (suc zero) = ap (λ (x : Rows S). (row x 1).cells) freed' ∙ (ap (λ (x : Row S). x.cells) (get_or-set_other rows' 0 1 no_row no_row (λ h. absurd (let z : 1 ≡ 0 = h in omega arith))) ∙ (ap (λ (x : Rows S). (row x 1).cells) freed ∙ emptied rows 1))
    all_gone rows″ freed' (suc (suc k)) = ap (λ (x : Rows S). (row x (suc (suc k))).cells) freed' ∙ (ap (λ (x : Row S). x.cells) (get_or-set_other rows' 0 (suc (suc k)) no_row no_row (λ h. absurd (let z : suc (suc k) ≡ 0 = h in omega arith)))
        ∙ (ap (λ (x : Rows S). (row x (suc (suc k))).cells) freed ∙ (ap (λ (x : Row S). x.cells) (get_or-set_other rows 1 (suc (suc k)) no_row no_row (λ h. absurd (let z : suc (suc k) ≡ 1 = h in omega arith))) ∙ e.gone k (omega arith))))
