-- A retired block, blanked and put on the spare list, is one that the numbers' step leaves spare.
use Rattle.std.proofs.Common.{◌≡◌, ℕ, zero, suc, ◌+◌, ◌*◌, ◌/◌, ◌^◌, ◌<◌, ◌≤◌, ⊎_elim, Bool, true, false, if◌then◌else◌, ◌==◌, List, [], ◌∷◌, ◌++◌, length, length-append, Some, slice_index_or, slice_set, refl, sym, ap, ◌∙◌, subst, arith}
use Rattle.std.proofs.lemmas.Bool.{cases_lt, false≢true}
use Rattle.concurrent_queue.specs.Contents.{Contents, block_at, blank, no_block, with_retired, with_spare, without_spare, spare_of, spare_in, blocks_with, others_of}
use Rattle.concurrent_queue.specs.machine.BlocksState.{Blocks, BlockState, SoundBlocks, Spot, unmade, spare, held, used, one_if, with_block, with_spot, Cell, with_cell}
use Rattle.concurrent_queue.specs.Contents as words
use Rattle.concurrent_queue.specs.machine.BlocksCalls.{same}
use Rattle.concurrent_queue.specs.machine.BlocksMoves.{IsFree}
use Rattle.concurrent_queue.specs.machine.BlocksDenotes.{Denotes, IsBlock, is_spare, IsIdle, times}
use Rattle.concurrent_queue.proofs.BlocksSteps.{pick_other, pick_here, by_eq, used_same, held_used}
use Rattle.concurrent_queue.proofs.BlocksLater.{same_is, same_not}
use Rattle.concurrent_queue.proofs.BlocksSpares.{room}

set_here : {A : Type 0} (xs : List A) (i : ℕ) (x y : A) → i < length xs → slice_index_or (slice_set xs i x) i y ≡ x
set_here [] i x y h = absurd (omega arith)
set_here (z ∷ zs) zero x y h = refl
set_here (z ∷ zs) (suc i) x y h = set_here zs i x y (omega arith)

set_other : {A : Type 0} (xs : List A) (i j : ℕ) (x y : A) → (j ≡ i → ⊥) → slice_index_or (slice_set xs i x) j y ≡ slice_index_or xs j y
set_other [] i j x y ne = refl
set_other (z ∷ zs) zero zero x y ne = absurd (ne refl)
set_other (z ∷ zs) zero (suc j) x y ne = refl
set_other (z ∷ zs) (suc i) zero x y ne = refl
set_other (z ∷ zs) (suc i) (suc j) x y ne = set_other zs i j x y (λ e. ne (ap suc e))

set_length : {A : Type 0} (xs : List A) (i : ℕ) (x : A) → length (slice_set xs i x) ≡ length xs
set_length [] i x = refl
set_length (z ∷ zs) zero x = refl
set_length (z ∷ zs) (suc i) x = ap suc (set_length zs i x)

used_unmade : (k : ℕ) → used k ≡ unmade → ⊥
used_unmade k e = absurd cc

at_most_one : (x : Spot) → one_if (is_spare x) ≤ 1
at_most_one unmade = omega arith
at_most_one spare = omega arith
at_most_one held = omega arith
at_most_one (used k) = omega arith

-- each number is on the spare list at most once, and only numbers of blocks that were made
module _ {T : Type 0} (c : Contents T) (r : Blocks T) (d : Denotes c r) where
  pub once_spare : (j : ℕ) → times j c.spares ≤ 1
  once_spare j = let e = d.spares j in let l = at_most_one (r.spot j) in omega arith

  pub none_unmade : (j : ℕ) → length c.blocks ≤ j → times j c.spares ≡ 0
  none_unmade j l = d.spares j ∙ ap (λ (z : Spot). one_if (is_spare z)) (d.made j l)

module _ {T : Type 0} (c : Contents T) (r : Blocks T) (queue : List T) (s : SoundBlocks r queue) (d : Denotes c r) (k b : ℕ) (x : r.spot b ≡ used k) (shut : BlockState) (gone : shut.retired ≡ true) where
  in_range : b < length c.blocks
  in_range = ⊎_elim (λ g. g) (λ g. absurd (used_unmade k (sym x ∙ d.made b g))) (cases_lt b (length c.blocks))

  listed : with_spare c.spares (length c.blocks) b ≡ b ∷ c.spares
  listed = room (length c.blocks) b c.spares (once_spare c r d) (none_unmade c r d) in_range (d.spares b ∙ ap (λ (z : Spot). one_if (is_spare z)) x)

  pub retire_words : Denotes (with_retired c b) (with_spot (with_block r k shut) b spare)
  retire_words = record {
    head = d.head;
    tail = d.tail;
    head_block = d.head_block;
    tail_block = d.tail_block;
    used = λ j l f. by_eq j k
        (λ q. absurd (false≢true (sym f ∙ ap (λ (y : BlockState). y.retired) (pick_here j k shut (r.block j) q) ∙ gone)))
        (λ ne. (let same_block = pick_other j k shut (r.block j) ne in
        let f' : (r.block j).retired ≡ false = sym (ap (λ (y : BlockState). y.retired) same_block) ∙ f in
        let y = d.used j l f' in
        let live = s.live j l f' in
        let at : block_at (with_retired c b) (r.num j) ≡ block_at c (r.num j) = set_other c.blocks b (r.num j) blank no_block (λ q. ne (used_same j k (sym live ∙ ap r.spot q ∙ x))) in
        subst (λ (z : words.BlockCells T). IsBlock (with_spot (with_block r k shut) b spare) j z) (sym at) (record {
          next = y.next ∙ ap (λ (z : BlockState). if z.linked then r.num (j + 1) + 1 else 0) (sym same_block);
          reads = y.reads ∙ ap (λ (z : BlockState). z.reads) (sym same_block);
          written = y.written;
          slots = y.slots;
        })));
    numbered = λ j l. (let n = set_length c.blocks b blank in let g = d.numbered j l in omega arith);
    idle = λ j i. by_eq j b
        (λ q. ap (block_at (with_retired c b)) q ∙ set_here c.blocks b blank no_block in_range)
        (λ ne. set_other c.blocks b j blank no_block ne ∙ d.idle j (subst IsIdle (pick_other j b spare (r.spot j) ne) i));
    spares = λ j. ap (times j) listed ∙ by_eq j b
        (λ q. (let old : times j c.spares ≡ 0 = d.spares j ∙ ap (λ (z : Spot). one_if (is_spare z)) (ap r.spot q ∙ x) in
        let one = same_is b j q in
        let new : one_if (is_spare (if j == b then spare else r.spot j)) ≡ 1 = ap (λ (z : Spot). one_if (is_spare z)) (pick_here j b spare (r.spot j) q) in omega (arith, old, one, new)))
        (λ ne. (let none = same_not b j ne in
        let old = d.spares j in
        let new : one_if (is_spare (if j == b then spare else r.spot j)) ≡ one_if (is_spare (r.spot j)) = ap (λ (z : Spot). one_if (is_spare z)) (pick_other j b spare (r.spot j) ne) in omega (arith, old, none, new)));
    made = λ j l. (let n = set_length c.blocks b blank in let here = in_range in let low : length c.blocks ≤ j = omega arith in
        pick_other j b spare (r.spot j) (λ q. omega arith) ∙ d.made j low);
    few = let n = set_length c.blocks b blank in let q = d.few in omega arith;
  }

-- a word or a slot of one block in use is written: no other ordinal's block changes
module _ {T : Type 0} (c : Contents T) (r : Blocks T) (queue : List T) (s : SoundBlocks r queue) (d : Denotes c r) (n : ℕ) (low : n / 31 < r.last) (alive : (r.block (n / 31)).retired ≡ false) where
  its : r.spot (r.num (n / 31)) ≡ used (n / 31)
  its = s.live (n / 31) low alive

  idle_used : (k : ℕ) (z : Spot) → z ≡ used k → IsIdle z → ⊥
  idle_used k z e i = subst IsIdle e i

  elsewhere : (cell : Cell T) (j i : ℕ) → i < 31 → (j ≡ n / 31 → ⊥) → (with_cell r n cell).cell (31 * j + i) ≡ r.cell (31 * j + i)
  elsewhere cell j i b ne = pick_other (31 * j + i) n cell (r.cell (31 * j + i)) (λ q. ne (omega arith))

  pub cell_words : (cell : Cell T) (x : words.BlockCells T) → IsBlock (with_cell r n cell) (n / 31) x → Denotes (words.with_block c (r.num (n / 31)) x) (with_cell r n cell)
  cell_words cell x is =
      let here : r.num (n / 31) < length c.blocks = ⊎_elim (λ g. g) (λ g. absurd (used_unmade (n / 31) (sym its ∙ d.made (r.num (n / 31)) g))) (cases_lt (r.num (n / 31)) (length c.blocks)) in
      record {
        head = d.head;
        tail = d.tail;
        head_block = d.head_block;
        tail_block = d.tail_block;
        used = λ j l f. by_eq j (n / 31)
            (λ q. (let at : block_at (words.with_block c (r.num (n / 31)) x) (r.num j) ≡ x = ap (λ (i : ℕ). block_at (words.with_block c (r.num (n / 31)) x) (r.num i)) q ∙ set_here c.blocks (r.num (n / 31)) x no_block here in
            subst (λ (z : words.BlockCells T). IsBlock (with_cell r n cell) j z) (sym at) (subst (λ (i : ℕ). IsBlock (with_cell r n cell) i x) (sym q) is)))
            (λ ne. (let y = d.used j l f in
            let at : block_at (words.with_block c (r.num (n / 31)) x) (r.num j) ≡ block_at c (r.num j) = set_other c.blocks (r.num (n / 31)) (r.num j) x no_block (λ q. ne (used_same j (n / 31) (sym (s.live j l f) ∙ ap r.spot q ∙ its))) in
            subst (λ (z : words.BlockCells T). IsBlock (with_cell r n cell) j z) (sym at) (record {
              next = y.next;
              reads = y.reads;
              written = λ i b. y.written i b ∙ ap (λ (z : Cell T). Some (one_if z.written)) (sym (elsewhere cell j i b ne));
              slots = λ i b. y.slots i b ∙ ap (λ (z : Cell T). Some z.slot) (sym (elsewhere cell j i b ne));
            })));
        numbered = λ j l. (let e = set_length c.blocks (r.num (n / 31)) x in let g = d.numbered j l in omega arith);
        idle = λ b i. set_other c.blocks (r.num (n / 31)) b x no_block (λ q. idle_used (n / 31) (r.spot b) (ap r.spot q ∙ its) i) ∙ d.idle b i;
        spares = d.spares;
        made = λ b l. (let g = set_length c.blocks (r.num (n / 31)) x in d.made b (omega arith));
        few = let g = set_length c.blocks (r.num (n / 31)) x in let q = d.few in omega arith;
      }

-- a word of one live block's own is written: its link, or its count of reads
module _ {T : Type 0} (c : Contents T) (r : Blocks T) (queue : List T) (s : SoundBlocks r queue) (d : Denotes c r) (k : ℕ) (low : k < r.last) (alive : (r.block k).retired ≡ false) where
  there : r.num k < length c.blocks
  there = ⊎_elim (λ g. g) (λ g. absurd (used_unmade k (sym (s.live k low alive) ∙ d.made (r.num k) g))) (cases_lt (r.num k) (length c.blocks))

  pub block_words : (blk : BlockState) (x : words.BlockCells T) → blk.retired ≡ false → IsBlock (with_block r k blk) k x → Denotes (words.with_block c (r.num k) x) (with_block r k blk)
  block_words blk x kept is = record {
    head = d.head;
    tail = d.tail;
    head_block = d.head_block;
    tail_block = d.tail_block;
    used = λ j l f. by_eq j k
        (λ q. (let at : block_at (words.with_block c (r.num k) x) (r.num j) ≡ x = ap (λ (i : ℕ). block_at (words.with_block c (r.num k) x) (r.num i)) q ∙ set_here c.blocks (r.num k) x no_block there in
        subst (λ (z : words.BlockCells T). IsBlock (with_block r k blk) j z) (sym at) (subst (λ (i : ℕ). IsBlock (with_block r k blk) i x) (sym q) is)))
        (λ ne. (let same_block = pick_other j k blk (r.block j) ne in
        let f' : (r.block j).retired ≡ false = sym (ap (λ (y : BlockState). y.retired) same_block) ∙ f in
        let y = d.used j l f' in
        let at : block_at (words.with_block c (r.num k) x) (r.num j) ≡ block_at c (r.num j) = set_other c.blocks (r.num k) (r.num j) x no_block (λ q. ne (used_same j k (sym (s.live j l f') ∙ ap r.spot q ∙ s.live k low alive))) in
        subst (λ (z : words.BlockCells T). IsBlock (with_block r k blk) j z) (sym at) (record {
          next = y.next ∙ ap (λ (z : BlockState). if z.linked then r.num (j + 1) + 1 else 0) (sym same_block);
          reads = y.reads ∙ ap (λ (z : BlockState). z.reads) (sym same_block);
          written = y.written;
          slots = y.slots;
        })));
    numbered = λ j l. (let e = set_length c.blocks (r.num k) x in let g = d.numbered j l in omega arith);
    idle = λ b i. set_other c.blocks (r.num k) b x no_block (λ q. absurd (subst IsIdle (ap r.spot q ∙ s.live k low alive) i)) ∙ d.idle b i;
    spares = d.spares;
    made = λ b l. (let g = set_length c.blocks (r.num k) x in d.made b (omega arith));
    few = let g = set_length c.blocks (r.num k) x in let q = d.few in omega arith;
  }

held_unmade : held ≡ unmade → ⊥
held_unmade q = absurd cc

spare_unmade : spare ≡ unmade → ⊥
spare_unmade q = absurd cc

-- a held block that is not used comes back
module _ {T : Type 0} (c : Contents T) (r : Blocks T) (d : Denotes c r) (h : ℕ) (e : r.spot h ≡ held) where
  kept_in : h < length c.blocks
  kept_in = ⊎_elim (λ g. g) (λ g. absurd (held_unmade (sym e ∙ d.made h g))) (cases_lt h (length c.blocks))

  kept_place : with_spare c.spares (length c.blocks) h ≡ h ∷ c.spares
  kept_place = room (length c.blocks) h c.spares (once_spare c r d) (none_unmade c r d) kept_in (d.spares h ∙ ap (λ (z : Spot). one_if (is_spare z)) e)

  -- a block in use is another one
  not_it : (k : ℕ) → (queue : List T) → SoundBlocks r queue → k < r.last → (r.block k).retired ≡ false → r.num k ≡ h → ⊥
  not_it k queue s l f q = held_used k (sym e ∙ ap r.spot (sym q) ∙ s.live k l f)

  pub give_words : (queue : List T) → SoundBlocks r queue → Denotes (with_retired c h) (with_spot r h spare)
  give_words queue s = record {
    head = d.head;
    tail = d.tail;
    head_block = d.head_block;
    tail_block = d.tail_block;
    used = λ j l f. (let y = d.used j l f in
        subst (λ (z : words.BlockCells T). IsBlock (with_spot r h spare) j z) (sym (set_other c.blocks h (r.num j) blank no_block (not_it j queue s l f))) (record { next = y.next; reads = y.reads; written = y.written; slots = y.slots }));
    numbered = λ j l. (let n = set_length c.blocks h blank in let g = d.numbered j l in omega arith);
    idle = λ j i. by_eq j h
        (λ q. ap (block_at (with_retired c h)) q ∙ set_here c.blocks h blank no_block kept_in)
        (λ ne. set_other c.blocks h j blank no_block ne ∙ d.idle j (subst IsIdle (pick_other j h spare (r.spot j) ne) i));
    spares = λ j. ap (times j) kept_place ∙ by_eq j h
        (λ q. (let old : times j c.spares ≡ 0 = d.spares j ∙ ap (λ (z : Spot). one_if (is_spare z)) (ap r.spot q ∙ e) in
        let one = same_is h j q in
        let new : one_if (is_spare (if j == h then spare else r.spot j)) ≡ 1 = ap (λ (z : Spot). one_if (is_spare z)) (pick_here j h spare (r.spot j) q) in omega (arith, old, one, new)))
        (λ ne. (let none = same_not h j ne in
        let old = d.spares j in
        let new : one_if (is_spare (if j == h then spare else r.spot j)) ≡ one_if (is_spare (r.spot j)) = ap (λ (z : Spot). one_if (is_spare z)) (pick_other j h spare (r.spot j) ne) in omega (arith, old, none, new)));
    made = λ j l. (let n = set_length c.blocks h blank in let here = kept_in in let low : length c.blocks ≤ j = omega arith in
        pick_other j h spare (r.spot j) (λ q. omega arith) ∙ d.made j low);
    few = let n = set_length c.blocks h blank in let q = d.few in omega arith;
  }

-- a spare section: the block given back last, or a new one
past_end : {A : Type 0} (xs : List A) (x y : A) (j : ℕ) → (j ≡ length xs → ⊥) → slice_index_or (xs ++ x ∷ []) j y ≡ slice_index_or xs j y
past_end [] x y zero ne = absurd (ne refl)
past_end [] x y (suc j) ne = refl
past_end (z ∷ xs) x y zero ne = refl
past_end (z ∷ xs) x y (suc j) ne = past_end xs x y j (λ e. ne (ap suc e))

at_end : {A : Type 0} (xs : List A) (x y : A) → slice_index_or (xs ++ x ∷ []) (length xs) y ≡ x
at_end [] x y = refl
at_end (z ∷ xs) x y = at_end xs x y

is_spare_is : (x : Spot) → is_spare x ≡ true → x ≡ spare
is_spare_is unmade e = absurd (false≢true e)
is_spare_is spare e = refl
is_spare_is held e = absurd (false≢true e)
is_spare_is (used k) e = absurd (false≢true e)

one_is : (b : Bool) → 1 ≤ one_if b → b ≡ true
one_is false h = absurd (omega arith)
one_is true h = refl

free_is : (x y : Spot) → x ≡ y → IsFree y → IsFree x
free_is x y e f = subst IsFree (sym e) f

module _ {T : Type 0} (c : Contents T) (r : Blocks T) (queue : List T) (s : SoundBlocks r queue) (d : Denotes c r) where
  -- a section that takes the block b, which is not in use, and leaves these blocks and spare ones
  abbrev got : ℕ → List (words.BlockCells T) → List ℕ → Contents T
  got b bs xs = record c { blocks = bs; spares = xs }

  got_words : (b : ℕ) (bs : List (words.BlockCells T)) (xs : List ℕ) → ((k : ℕ) → r.spot b ≡ used k → ⊥) → ((j : ℕ) → (j ≡ b → ⊥) → slice_index_or bs j no_block ≡ block_at c j) → slice_index_or bs b no_block ≡ blank
      → ((j : ℕ) → times j xs ≡ one_if (is_spare (if j == b then held else r.spot j))) → ((j : ℕ) → length bs ≤ j → length c.blocks ≤ j) → ((j : ℕ) → j < length c.blocks → j < length bs) → (length bs ≤ b → ⊥) → length bs < 2 ^ 64 → Denotes (got b bs xs) (with_spot r b held)
  got_words b bs xs free at is_blank listed shorter within inside small = record {
    head = d.head;
    tail = d.tail;
    head_block = d.head_block;
    tail_block = d.tail_block;
    used = λ j l f. (let y = d.used j l f in
        subst (λ (z : words.BlockCells T). IsBlock (with_spot r b held) j z) (sym (at (r.num j) (λ q. free j (ap r.spot (sym q) ∙ s.live j l f)))) (record { next = y.next; reads = y.reads; written = y.written; slots = y.slots }));
    numbered = λ j l. within (r.num j) (d.numbered j l);
    idle = λ j i. by_eq j b (λ q. ap (block_at (got b bs xs)) q ∙ is_blank) (λ ne. at j ne ∙ d.idle j (subst IsIdle (pick_other j b held (r.spot j) ne) i));
    spares = listed;
    made = λ j l. pick_other j b held (r.spot j) (λ q. inside (subst (λ (i : ℕ). length bs ≤ i) q l)) ∙ d.made j (shorter j l);
    few = small;
  }

  new_words : c.spares ≡ [] → length (c.blocks ++ blank ∷ []) < 2 ^ 64 → Denotes (got (length c.blocks) (c.blocks ++ blank ∷ []) []) (with_spot r (length c.blocks) held)
  new_words none small =
      let b = length c.blocks in
      let x = d.made b (omega arith) in
      let n = length-append c.blocks (blank ∷ []) in
      got_words b (c.blocks ++ blank ∷ []) [] (λ k q. used_unmade k (sym q ∙ x)) (past_end c.blocks blank no_block) (at_end c.blocks blank no_block)
      (λ j. by_eq j b
      (λ q. sym (ap (λ (z : Spot). one_if (is_spare z)) (pick_here j b held (r.spot j) q)))
      (λ ne. (ap (times j) (sym none) ∙ d.spares j) ∙ sym (ap (λ (z : Spot). one_if (is_spare z)) (pick_other j b held (r.spot j) ne))))
      (λ j l. omega arith) (λ j l. omega arith) (λ l. omega arith) small

  top_spot : (b : ℕ) (bs : List ℕ) → c.spares ≡ b ∷ bs → r.spot b ≡ spare
  top_spot b bs e = is_spare_is (r.spot b) (one_is (is_spare (r.spot b)) (let t = d.spares b in let q : times b c.spares ≡ same b b + times b bs = ap (times b) e in let o = same_is b b refl in omega arith))

  old_words : (b : ℕ) (bs : List ℕ) → c.spares ≡ b ∷ bs → Denotes (got b c.blocks bs) (with_spot r b held)
  old_words b bs e =
      let x = top_spot b bs e in
      let inside : length c.blocks ≤ b → ⊥ = λ l. spare_unmade (sym x ∙ d.made b l) in
      got_words b c.blocks bs (λ k q. spare_used k (sym x ∙ q)) (λ j ne. refl) (d.idle b (subst IsIdle (sym x) tt))
      (λ j. (let all : times j c.spares ≡ same b j + times j bs = ap (times j) e in let t = d.spares j in by_eq j b
      (λ q. (let one = same_is b j q in let was : one_if (is_spare (r.spot j)) ≡ 1 = ap (λ (z : Spot). one_if (is_spare z)) (ap r.spot q ∙ x) in
      let new : one_if (is_spare (if j == b then held else r.spot j)) ≡ 0 = ap (λ (z : Spot). one_if (is_spare z)) (pick_here j b held (r.spot j) q) in omega arith))
      (λ ne. (let none = same_not b j ne in let new : one_if (is_spare (if j == b then held else r.spot j)) ≡ one_if (is_spare (r.spot j)) = ap (λ (z : Spot). one_if (is_spare z)) (pick_other j b held (r.spot j) ne) in omega arith))))
      (λ j l. l) (λ j l. l) inside d.few
    where
      spare_used : (k : ℕ) → spare ≡ used k → ⊥
      spare_used k q = absurd cc

  -- the block that a spare section gives is free, and held from then on
  pub spare_words : length (without_spare c).blocks < 2 ^ 64 → Denotes (without_spare c) (with_spot r (spare_of c) held) × IsFree (r.spot (spare_of c))
  spare_words small = by_list c.spares refl
    where
      by_list : (xs : List ℕ) → xs ≡ c.spares → Denotes (without_spare c) (with_spot r (spare_of c) held) × IsFree (r.spot (spare_of c))
      by_list [] e = subst (λ (ys : List ℕ). length (blocks_with ys c.blocks) < 2 ^ 64 → Denotes (record c { blocks = blocks_with ys c.blocks; spares = others_of ys }) (with_spot r (spare_in ys (length c.blocks)) held) × IsFree (r.spot (spare_in ys (length c.blocks)))) e
          (λ low. (new_words (sym e) low, free_is (r.spot (length c.blocks)) unmade (d.made (length c.blocks) (omega arith)) tt)) small
      by_list (b ∷ bs) e = subst (λ (ys : List ℕ). Denotes (record c { blocks = blocks_with ys c.blocks; spares = others_of ys }) (with_spot r (spare_in ys (length c.blocks)) held) × IsFree (r.spot (spare_in ys (length c.blocks)))) e
          (old_words b bs (sym e), free_is (r.spot b) spare (top_spot b bs (sym e)) tt)
