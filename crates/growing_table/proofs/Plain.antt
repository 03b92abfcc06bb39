-- What rows are as plain data, and after a change of one cell or one row more.
use Rattle.std.proofs.Common.{◌≡◌, ℕ, zero, suc, ◌+◌, ◌<◌, ◌≤◌, is_some, true≢false, List, [], ◌∷◌, ◌++◌, map, length, get_or, set, refl, sym, ap, ◌∙◌, subst, arith}
use Rattle.std.specs.Prelude.{Option, Some, None}
use lib.ListN.{get_or-map}
use lib.Seq.{set-get_or, map-set_same}
use denote.RawPtr.{Ptr}
use Rattle.atomic_blocks.specs.Cells.{Cell, Row, cell, cell_in, row, no_row, row_at, with_cell, with_word, with_home, with_link, link_of, word_of, home_of}
use Rattle.growing_table.specs.State.{BlockState, block_of, block, no_block}
use Rattle.growing_table.specs.State as state
use Rattle.growing_table.specs.Laid.{front, Rows, word, home, plain_block, plain_words, plain_blocks}

module _ {A : Type 0} where
  front_long : (l : List A) (n i : ℕ) → i < n → i < length l → i < length (front l n)
  front_long [] n i h h' = h'
  front_long (x ∷ xs) zero i h h' = absurd (omega arith)
  front_long (x ∷ xs) (suc n) zero h h' = omega arith
  front_long (x ∷ xs) (suc n) (suc i) h h' = let t = front_long xs n i (omega arith) (omega arith) in omega arith

  front_set : (l : List A) (n i : ℕ) (a : A) → front (set l i a) n ≡ set (front l n) i a
  front_set [] n i a = refl
  front_set (x ∷ xs) zero zero a = refl
  front_set (x ∷ xs) zero (suc i) a = refl
  front_set (x ∷ xs) (suc n) zero a = refl
  front_set (x ∷ xs) (suc n) (suc i) a = ap (λ (l : List A). x ∷ l) (front_set xs n i a)

  front_at : (l : List A) (n i : ℕ) (d : A) → i < n → get_or (front l n) i d ≡ get_or l i d
  front_at [] n i d h = refl
  front_at (x ∷ xs) zero i d h = absurd (omega arith)
  front_at (x ∷ xs) (suc n) zero d h = refl
  front_at (x ∷ xs) (suc n) (suc i) d h = front_at xs n i d (omega arith)

  pub map_set : {B : Type 0} (f : A → B) (l : List A) (i : ℕ) (a : A) → map f (set l i a) ≡ set (map f l) i (f a)
  map_set f [] i a = refl
  map_set f (x ∷ xs) zero a = refl
  map_set f (x ∷ xs) (suc i) a = ap (λ (l : List _). f x ∷ l) (map_set f xs i a)

  pub map_more : {B : Type 0} (f : A → B) (l m : List A) → map f (l ++ m) ≡ map f l ++ map f m
  map_more f [] m = refl
  map_more f (x ∷ xs) m = ap (λ (l : List _). f x ∷ l) (map_more f xs m)

  -- what is set to what it was stays
  again : {B : Type 0} (f : A → B) (l : List A) (n i : ℕ) (d : A) → set (map f (front l n)) i (f (get_or l i d)) ≡ map f (front l n)
  again f [] n i d = refl
  again f (x ∷ xs) zero i d = refl
  again f (x ∷ xs) (suc n) zero d = refl
  again f (x ∷ xs) (suc n) (suc i) d = ap (λ (l : List _). f x ∷ l) (again f xs n i d)

none_some : {A : Type 0} (y : A) → None ≡ Some y → ⊥
none_some y e = true≢false (sym (ap is_some e))

module _ {S : Type 0} where
  abbrev no_cell : Cell S
  no_cell = cell 0 denote.RawPtr.null_ptr None

  there : (cs : List (Cell S)) (n j : ℕ) (y : S) → get_or (map home (front cs n)) j None ≡ Some y → (j < length cs) × ((cell_in cs j).home ≡ Some y) × (j < n)
  there [] n j y e = absurd (none_some y e)
  there (c ∷ cs) zero j y e = absurd (none_some y e)
  there (c ∷ cs) (suc n) zero y e = (omega arith, e, omega arith)
  there (c ∷ cs) (suc n) (suc j) y e = let t = there cs n j y e in (omega arith, t.1, omega arith)

  pub in_range : (rows : Rows S) (k : ℕ) → 0 < length (row rows k).cells → k < length rows
  in_range [] k h = absurd (omega arith)
  in_range (x ∷ rows) zero h = omega arith
  in_range (x ∷ rows) (suc k) h = let t = in_range rows k h in omega arith

  blocks_set : (n : ℕ) (rows : Rows S) (k : ℕ) (r : Row S) → plain_blocks n (set rows (suc (suc k)) r) ≡ set (plain_blocks n rows) k (plain_block n r)
  blocks_set n [] k r = refl
  blocks_set n (x ∷ []) k r = refl
  blocks_set n (x ∷ y ∷ rows) k r = map_set (plain_block n) rows k r

  pub blocks_stay : (n : ℕ) (rows : Rows S) (r : Row S) → plain_blocks n (set rows 0 r) ≡ plain_blocks n rows
  blocks_stay n [] r = refl
  blocks_stay n (x ∷ []) r = refl
  blocks_stay n (x ∷ y ∷ rows) r = refl

  pub blocks_stay' : (n : ℕ) (rows : Rows S) (r : Row S) → plain_blocks n (set rows 1 r) ≡ plain_blocks n rows
  blocks_stay' n [] r = refl
  blocks_stay' n (x ∷ []) r = refl
  blocks_stay' n (x ∷ y ∷ rows) r = refl

  pub words_stay : (rows : Rows S) (k : ℕ) (r : Row S) → plain_words (set rows (suc k) r) ≡ plain_words rows
  words_stay [] k r = refl
  words_stay (x ∷ rows) k r = refl

  words_set : (rows : Rows S) (r : Row S) → 0 < length rows → plain_words (set rows 0 r) ≡ map word r.cells
  words_set [] r h = absurd (omega arith)
  words_set (x ∷ rows) r h = refl

  pub block_at : (n : ℕ) (rows : Rows S) (k : ℕ) → block (plain_blocks n rows) k ≡ plain_block n (row rows (suc (suc k)))
  block_at n [] k = refl
  block_at n (x ∷ []) k = refl
  block_at n (x ∷ y ∷ rows) k = get_or-map (plain_block n) rows k no_row

  pub blocks_count : (n : ℕ) (rows : Rows S) → 2 ≤ length rows → length (plain_blocks n rows) + 2 ≡ length rows
  blocks_count n [] h = absurd (omega arith)
  blocks_count n (x ∷ []) h = absurd (omega arith)
  blocks_count n (x ∷ y ∷ rows) h = let e = lib.ListN.length-map rows (plain_block n) in omega arith

  pub blocks_more : (n : ℕ) (rows : Rows S) (r : Row S) → 2 ≤ length rows → plain_blocks n (rows ++ r ∷ []) ≡ plain_blocks n rows ++ plain_block n r ∷ []
  blocks_more n [] r h = absurd (omega arith)
  blocks_more n (x ∷ []) r h = absurd (omega arith)
  blocks_more n (x ∷ y ∷ rows) r h = map_more (plain_block n) rows (r ∷ [])

  pub words_more : (rows : Rows S) (r : Row S) → 2 ≤ length rows → plain_words (rows ++ r ∷ []) ≡ plain_words rows
  words_more [] r h = absurd (omega arith)
  words_more (x ∷ rows) r h = refl

  -- ---- one word
  pub own_found : (rows : Rows S) (i : ℕ) → get_or (plain_words rows) i 0 ≡ word_of rows 0 i
  own_found rows i = get_or-map word (row rows 0).cells i no_cell

  pub own_set : (rows : Rows S) (i x : ℕ) → 0 < length rows → plain_words (with_word rows 0 i x) ≡ set (plain_words rows) i x
  own_set rows i x h = let c : Cell S = cell x (link_of rows 0 i) (home_of rows 0 i) in words_set rows (row_at (row rows 0).at (set (row rows 0).cells i c)) h ∙ map_set word (row rows 0).cells i c

  pub own_blocks : (n : ℕ) (rows : Rows S) (i x : ℕ) → plain_blocks n (with_word rows 0 i x) ≡ plain_blocks n rows
  own_blocks n rows i x = blocks_stay n rows (row_at (row rows 0).at (set (row rows 0).cells i (cell x (link_of rows 0 i) (home_of rows 0 i))))

  module _ (n : ℕ) (rows : Rows S) (k i : ℕ) where
    abbrev r : Row S
    r = row rows (suc (suc k))

    abbrev b : BlockState S
    b = block (plain_blocks n rows) k

    set_cell : (c : Cell S) → plain_block n (row_at r.at (set r.cells i c)) ≡ block_of (set (map word (front r.cells n)) i c.word) (set (map home (front r.cells n)) i c.home)
    set_cell c j = block_of ((ap (map word) (front_set r.cells n i c) ∙ map_set word (front r.cells n) i c) j) ((ap (map home) (front_set r.cells n i c) ∙ map_set home (front r.cells n) i c) j)

    pub block_found : i < n → get_or b.words i 0 ≡ word_of rows (suc (suc k)) i
    block_found h = ap (λ (y : BlockState S). get_or y.words i 0) (block_at n rows k) ∙ (get_or-map word (front r.cells n) i no_cell ∙ ap word (front_at r.cells n i no_cell h))

    pub block_set : (x : ℕ) → plain_blocks n (with_word rows (suc (suc k)) i x) ≡ set (plain_blocks n rows) k (block_of (set b.words i x) b.homes)
    block_set x = let c : Cell S = cell x (link_of rows (suc (suc k)) i) (home_of rows (suc (suc k)) i) in
        blocks_set n rows k (row_at r.at (set r.cells i c)) ∙ ap (set (plain_blocks n rows) k) (set_cell c ∙ (ap (block_of (set (map word (front r.cells n)) i x)) (again home r.cells n i no_cell)
        ∙ ap (λ (y : BlockState S). block_of (set y.words i x) y.homes) (sym (block_at n rows k))))

    pub home_set : (h : Option S) → plain_blocks n (with_home rows (suc (suc k)) i h) ≡ state.with_home (plain_blocks n rows) k i h
    home_set h = let c : Cell S = cell (word_of rows (suc (suc k)) i) (link_of rows (suc (suc k)) i) h in
        blocks_set n rows k (row_at r.at (set r.cells i c)) ∙ ap (set (plain_blocks n rows) k) (set_cell c ∙ (ap (λ (ws : List ℕ). block_of ws (set (map home (front r.cells n)) i h)) (again word r.cells n i no_cell)
        ∙ ap (λ (y : BlockState S). block_of y.words (set y.homes i h)) (sym (block_at n rows k))))

    pub home_there : (y : S) → state.home_of (plain_blocks n rows) k i ≡ Some y → (i < length r.cells) × (home_of rows (suc (suc k)) i ≡ Some y) × (i < n)
    home_there y e = there r.cells n i y (sym (ap (λ (x : BlockState S). get_or x.homes i None) (block_at n rows k)) ∙ e)

    pub home_words : (h : Option S) → plain_words (with_home rows (suc (suc k)) i h) ≡ plain_words rows
    home_words h = words_stay rows (suc k) (row_at r.at (set r.cells i (cell (word_of rows (suc (suc k)) i) (link_of rows (suc (suc k)) i) h)))

    pub block_words : (x : ℕ) → plain_words (with_word rows (suc (suc k)) i x) ≡ plain_words rows
    block_words x = words_stay rows (suc k) (row_at r.at (set r.cells i (cell x (link_of rows (suc (suc k)) i) (home_of rows (suc (suc k)) i))))

    pub block_long : i < n → i < length r.cells → i < length b.words
    block_long h near = subst (λ (y : BlockState S). i < length y.words) (sym (block_at n rows k)) (let e = lib.ListN.length-map (front r.cells n) word in let t = front_long r.cells n i h near in omega arith)

  -- ---- a cell that differs in its link alone
  link_words : (rows : Rows S) (k i : ℕ) (c : Cell S) → c.word ≡ word_of rows k i → plain_words (with_cell rows k i c) ≡ plain_words rows
  link_words [] zero i c e = refl
  link_words (x ∷ rows) zero i c e = map-set_same word x.cells i c no_cell e
  link_words rows (suc k) i c e = words_stay rows k (row_at (row rows (suc k)).at (set (row rows (suc k)).cells i c))

  link_blocks : (n : ℕ) (rows : Rows S) (k i : ℕ) (c : Cell S) → c.word ≡ word_of rows k i → c.home ≡ home_of rows k i → plain_blocks n (with_cell rows k i c) ≡ plain_blocks n rows
  link_blocks n rows zero i c e e' = blocks_stay n rows (row_at (row rows 0).at (set (row rows 0).cells i c))
  link_blocks n rows (suc zero) i c e e' = blocks_stay' n rows (row_at (row rows 1).at (set (row rows 1).cells i c))
  link_blocks n rows (suc (suc k)) i c e e' = let r : Row S = row rows (suc (suc k)) in
      let same : plain_block n (row_at r.at (set r.cells i c)) ≡ plain_block n r = set_cell n rows k i c ∙ (λ t. block_of ((ap (set (map word (front r.cells n)) i) e ∙ again word r.cells n i no_cell) t) ((ap (set (map home (front r.cells n)) i) e' ∙ again home r.cells n i no_cell) t)) in
      blocks_set n rows k (row_at r.at (set r.cells i c)) ∙ (ap (set (plain_blocks n rows) k) (same ∙ sym (block_at n rows k)) ∙ set-get_or (plain_blocks n rows) k no_block)

  pub linked_words : (rows : Rows S) (k i : ℕ) (q : Ptr) → plain_words (with_link rows k i q) ≡ plain_words rows
  linked_words rows k i q = link_words rows k i (cell (word_of rows k i) q (home_of rows k i)) refl

  pub linked_blocks : (n : ℕ) (rows : Rows S) (k i : ℕ) (q : Ptr) → plain_blocks n (with_link rows k i q) ≡ plain_blocks n rows
  linked_blocks n rows k i q = link_blocks n rows k i (cell (word_of rows k i) q (home_of rows k i)) refl refl
