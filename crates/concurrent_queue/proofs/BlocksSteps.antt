-- Each change of an unbounded queue's words keeps what they mean.
use Rattle.std.proofs.Common.{◌≡◌, ℕ, zero, suc, ◌+◌, ◌*◌, ◌/◌, ◌%◌, ◌<◌, ◌≤◌, ◌⊎◌, ⊎_elim, Bool, true, false, if◌then◌else◌, ◌==◌, List, [], ◌∷◌, ◌++◌, length, drop, None, Some, slice_get, refl, sym, ap, ◌∙◌, subst, inl, arith, length-append}
use Rattle.std.proofs.lemmas.Bool.{cases_lt, false≢true}
use Rattle.std.proofs.lemmas.Bool.Decides.{nat_tests}
use Rattle.concurrent_queue.specs.machine.BlocksState.{Blocks, Cell, BlockState, SoundBlocks, Spot, spare, held, used, taken_in, with_cell, with_block, with_spot, chained}
use Rattle.concurrent_queue.specs.machine.BlocksCalls.{same}
use Rattle.concurrent_queue.specs.machine.BlocksMoves.{extended}
use Rattle.concurrent_queue.proofs.BlocksBasics.{get_before}

pub drop_end : {A : Type 0} (xs : List A) (x : A) (k : ℕ) → k ≤ length xs → drop k (xs ++ x ∷ []) ≡ drop k xs ++ x ∷ []
drop_end xs x zero h = refl
drop_end [] x (suc k) h = absurd (omega arith)
drop_end (y ∷ xs) x (suc k) h = drop_end xs x k (omega arith)

drop_suc : {A : Type 0} (xs : List A) (k : ℕ) → drop 1 (drop k xs) ≡ drop (suc k) xs
drop_suc [] zero = refl
drop_suc [] (suc k) = refl
drop_suc (x ∷ xs) zero = refl
drop_suc (x ∷ xs) (suc k) = drop_suc xs k

pub drop_one : {A : Type 0} (xs : List A) (k : ℕ) → drop 1 (drop k xs) ≡ drop (k + 1) xs
drop_one xs k = let e : suc k ≡ k + 1 = omega arith in drop_suc xs k ∙ ap (λ (j : ℕ). drop j xs) e

pub drop_get : {A : Type 0} (xs : List A) (k : ℕ) (x : A) (rest : List A) → drop k xs ≡ x ∷ rest → slice_get xs k ≡ Some x
drop_get [] zero x rest e = absurd cc
drop_get [] (suc k) x rest e = absurd cc
drop_get (y ∷ xs) zero x rest e = cc
drop_get (y ∷ xs) (suc k) x rest e = drop_get xs k x rest e

pub drop_length : {A : Type 0} (xs : List A) (k : ℕ) → k ≤ length xs → length (drop k xs) + k ≡ length xs
drop_length xs zero h = omega arith
drop_length [] (suc k) h = absurd (omega arith)
drop_length (y ∷ xs) (suc k) h = omega (arith, drop_length xs k (omega arith))

-- one more item is taken of its own block alone
pub taken_step : (n k : ℕ) → taken_in (n + 1) k ≡ taken_in n k + same (n / 31) k
taken_step n k = grind (arith, nat_tests)

pub taken_all : (n k : ℕ) → taken_in n k ≤ 31
taken_all n k = grind (arith, nat_tests)

pub pick_other : {A : Type 0} (j i : ℕ) (x y : A) → (j ≡ i → ⊥) → (if j == i then x else y) ≡ y
pick_other j i x y ne = let e : (j == i) ≡ false = grind (arith, nat_tests) in rw e refl

pub pick_here : {A : Type 0} (j i : ℕ) (x y : A) → j ≡ i → (if j == i then x else y) ≡ x
pick_here j i x y q = let e : (j == i) ≡ true = grind (arith, nat_tests) in rw e refl

pub held_used : (k : ℕ) → held ≡ used k → ⊥
held_used k q = absurd cc

pub used_same : (i k : ℕ) → used i ≡ used k → i ≡ k
used_same i k q = cc

pub by_eq : {P : Type 0} (x y : ℕ) → (x ≡ y → P) → ((x ≡ y → ⊥) → P) → P
by_eq x y f g = ⊎_elim (λ h. g (λ e. absurd (omega arith))) (λ h. ⊎_elim (λ k. g (λ e. absurd (omega arith))) (λ k. f (omega arith)) (cases_lt y x)) (cases_lt x y)

pub taken_none : (h k : ℕ) → h ≤ 31 * k → taken_in h k ≡ 0
taken_none h k e = let a : k < h / 31 → ⊥ = λ q. omega arith in let b : k ≡ h / 31 → h % 31 ≡ 0 = λ q. omega arith in grind (arith, nat_tests)

pub taken_full : (h k : ℕ) → taken_in h k ≡ 31 → k < h / 31
taken_full h k e = grind (arith, nat_tests)

module _ {T : Type 0} (r : Blocks T) (items : List T) (s : SoundBlocks r items) where
  pub append_keeps : (v : T) (edge : Bool) → r.tail_turns ≡ false → 1 ≤ r.last → (edge ≡ false → r.tail % 31 ≡ 30 → ⊥) → (edge ≡ true → r.tail % 31 ≡ 30) → SoundBlocks (extended r v edge) (items ++ v ∷ [])
  append_keeps v edge o some low high =
      let last : r.last ≡ r.tail / 31 + 1 = ⊎_elim (λ h. h) (λ h. absurd (omega (arith, h.0))) (s.last o) in
      record {
        all = let e = length-append r.all (v ∷ []) in let q = s.all in omega arith;
        items = ap (λ (xs : List T). xs ++ v ∷ []) s.items ∙ sym (drop_end r.all v r.head (let q = s.all in let p = s.order in omega arith));
        order = let q = s.order in omega arith;
        fresh = λ n h. s.fresh n (omega arith);
        full = λ n w h. ⊎_elim (λ g. s.full n w h ∙ sym (get_before r.all v n (let q = s.all in omega arith))) (λ g. absurd (false≢true (sym (s.fresh n g).0 ∙ w))) (cases_lt n r.tail);
        last = λ e. inl (let ne = low e in ⊎_elim (λ h. omega arith) (λ h. ⊎_elim (λ g. absurd (omega arith)) (λ g. absurd (ne (omega arith))) (cases_lt 30 (r.tail % 31))) (cases_lt (r.tail % 31) 30));
        first = s.first;
        inside = s.inside;
        reach = omega arith;
        paged = λ q. (let g = high q in (some, omega arith, omega arith));
        turned = s.turned;
        unlinked = λ k h. s.unlinked k (omega arith);
        linked = s.linked;
        reads = s.reads;
        done = s.done;
        retired = s.retired;
        live = s.live;
      }

  pub take_keeps : (edge : Bool) → r.head_turns ≡ false → 1 ≤ r.first → r.head < r.tail → (edge ≡ false → r.head % 31 ≡ 30 → ⊥) → (edge ≡ true → r.head % 31 ≡ 30)
      → SoundBlocks (record r { head = r.head + 1; head_turns = edge }) (drop 1 items)
  take_keeps edge o some more low high =
      let first : r.first ≡ r.head / 31 + 1 = ⊎_elim (λ h. h) (λ h. absurd (omega (arith, h.0))) (s.first o) in
      record {
        all = s.all;
        items = ap (λ (xs : List T). drop 1 xs) s.items ∙ drop_one r.all r.head;
        order = omega arith;
        fresh = s.fresh;
        full = λ n w h. s.full n w (omega arith);
        last = s.last;
        first = λ e. inl (let ne = low e in ⊎_elim (λ h. omega arith) (λ h. ⊎_elim (λ g. absurd (omega arith)) (λ g. absurd (ne (omega arith))) (cases_lt 30 (r.head % 31))) (cases_lt (r.head % 31) 30));
        inside = s.inside;
        reach = s.reach;
        paged = s.paged;
        turned = λ e. (let h = high e in (omega arith, omega arith, some, omega arith));
        unlinked = s.unlinked;
        linked = s.linked;
        reads = λ k. (let a = s.reads k in let b = taken_step r.head k in omega arith);
        done = s.done;
        retired = s.retired;
        live = s.live;
      }

  -- the tail's word store of a block that is held: at the very first, and where a page is turned
  pub chain_keeps : (h : ℕ) → r.spot h ≡ held → (r.tail_turns ≡ true × (r.last ≡ r.tail / 31)) ⊎ ((r.tail_turns ≡ false) × (r.last ≡ 0) × (r.tail ≡ 0)) → SoundBlocks (chained r h) items
  chain_keeps h e or =
      record {
        all = s.all;
        items = s.items;
        order = s.order;
        fresh = s.fresh;
        full = s.full;
        last = λ o. ⊎_elim (λ g. absurd (false≢true (sym o ∙ g.0))) (λ g. inl (omega (arith, g.1, g.2))) or;
        first = s.first;
        inside = let q = s.inside in omega arith;
        reach = let q = s.reach in omega arith;
        paged = λ q. (let g = s.paged q in (omega arith, g.1, g.2));
        turned = s.turned;
        unlinked = s.unlinked;
        linked = λ k w. (let q = s.linked k w in omega arith);
        reads = s.reads;
        done = s.done;
        retired = s.retired;
        live = λ k b f. ⊎_elim
            (λ g. (let old = s.live k g f in
            let n' : (chained r h).num k ≡ r.num k = pick_other k r.last h (r.num k) (λ q. omega arith) in
            ap (chained r h).spot n' ∙ (pick_other (r.num k) h (used r.last) (r.spot (r.num k)) (λ q. held_used k (sym e ∙ ap r.spot (sym q) ∙ old)) ∙ old)))
            (λ g. (let q : k ≡ r.last = omega arith in
            let n' : (chained r h).num k ≡ h = pick_here k r.last h (r.num k) q in
            ap (chained r h).spot n' ∙ (pick_here h h (used r.last) (r.spot h) refl ∙ ap used (sym q)))) (cases_lt k r.last);
      }

  -- a block that isn't in the chain changes its spot
  pub spot_keeps : (h : ℕ) (x : Spot) → ((k : ℕ) → r.spot h ≡ used k → ⊥) → SoundBlocks (with_spot r h x) items
  spot_keeps h x free = record {
    all = s.all;
    items = s.items;
    order = s.order;
    fresh = s.fresh;
    full = s.full;
    last = s.last;
    first = s.first;
    inside = s.inside;
    reach = s.reach;
    paged = s.paged;
    turned = s.turned;
    unlinked = s.unlinked;
    linked = s.linked;
    reads = s.reads;
    done = s.done;
    retired = s.retired;
    live = λ k b f. (let old = s.live k b f in pick_other (r.num k) h x (r.spot (r.num k)) (λ q. free k (ap r.spot (sym q) ∙ old)) ∙ old);
  }

  -- a page is turned at the tail, at the head, and the first block and the next one are stored in head_block
  pub tail_rests : r.last ≡ r.tail / 31 + 1 → SoundBlocks (record r { tail_turns = false }) items
  tail_rests e = record {
    all = s.all;
    items = s.items;
    order = s.order;
    fresh = s.fresh;
    full = s.full;
    last = λ o. inl e;
    first = s.first;
    inside = s.inside;
    reach = s.reach;
    paged = λ o. absurd (false≢true o);
    turned = s.turned;
    unlinked = s.unlinked;
    linked = s.linked;
    reads = s.reads;
    done = s.done;
    retired = s.retired;
    live = s.live;
  }

  pub head_rests : r.first ≡ r.head / 31 + 1 → SoundBlocks (record r { head_turns = false }) items
  head_rests e = record {
    all = s.all;
    items = s.items;
    order = s.order;
    fresh = s.fresh;
    full = s.full;
    last = s.last;
    first = λ o. inl e;
    inside = s.inside;
    reach = s.reach;
    paged = s.paged;
    turned = λ o. absurd (false≢true o);
    unlinked = s.unlinked;
    linked = s.linked;
    reads = s.reads;
    done = s.done;
    retired = s.retired;
    live = s.live;
  }

  pub first_moves : (f : ℕ) → f ≤ r.last → (r.head_turns ≡ false → f ≡ r.head / 31 + 1) → f ≤ r.head / 31 + 1 → 1 ≤ f → SoundBlocks (record r { first = f }) items
  first_moves f b e low some = record {
    all = s.all;
    items = s.items;
    order = s.order;
    fresh = s.fresh;
    full = s.full;
    last = s.last;
    first = λ o. inl (e o);
    inside = b;
    reach = s.reach;
    paged = s.paged;
    turned = λ o. ((s.turned o).0, low, some, (s.turned o).3);
    unlinked = s.unlinked;
    linked = s.linked;
    reads = s.reads;
    done = s.done;
    retired = s.retired;
    live = s.live;
  }

  -- a cell is filled, written or taken from
  abbrev FineCell : ℕ → Cell T → Type 0
  FineCell n c = (n < r.tail) × (c.written ≡ true → r.head ≤ n → c.slot ≡ slice_get r.all n) × ((r.block (n / 31)).reads ≡ 31 → (c.written ≡ true) × (c.slot ≡ None))

  pub cell_other : (n : ℕ) (c : Cell T) (m : ℕ) → (m ≡ n → ⊥) → (with_cell r n c).cell m ≡ r.cell m
  cell_other n c m ne = pick_other m n c (r.cell m) ne

  pub cell_here : (n : ℕ) (c : Cell T) (m : ℕ) → m ≡ n → (with_cell r n c).cell m ≡ c
  cell_here n c m e = pick_here m n c (r.cell m) e

  pub cell_is : (n : ℕ) (c : Cell T) (P : ℕ → Cell T → Type 0) → P n c → ((m : ℕ) → P m (r.cell m)) → (m : ℕ) → P m ((with_cell r n c).cell m)
  cell_is n c P here others m = by_eq m n
      (λ e. subst (λ (x : Cell T). P m x) (sym (cell_here n c m e)) (subst (λ (j : ℕ). P j c) (sym e) here))
      (λ ne. subst (λ (x : Cell T). P m x) (sym (cell_other n c m ne)) (others m))

  pub cell_keeps : (n : ℕ) (c : Cell T) → FineCell n c → SoundBlocks (with_cell r n c) items
  cell_keeps n c fine = record {
    all = s.all;
    items = s.items;
    order = s.order;
    fresh = cell_is n c (λ m x. r.tail ≤ m → (x.written ≡ false) × (x.slot ≡ None)) (λ h. absurd (omega (arith, fine.0))) s.fresh;
    full = cell_is n c (λ m x. x.written ≡ true → r.head ≤ m → x.slot ≡ slice_get r.all m) fine.1 s.full;
    last = s.last;
    first = s.first;
    inside = s.inside;
    reach = s.reach;
    paged = s.paged;
    turned = s.turned;
    unlinked = s.unlinked;
    linked = s.linked;
    reads = s.reads;
    done = cell_is n c (λ m x. (r.block (m / 31)).reads ≡ 31 → (x.written ≡ true) × (x.slot ≡ None)) fine.2 s.done;
    retired = s.retired;
    live = s.live;
  }

  pub block_is : (k : ℕ) (b : BlockState) (P : ℕ → BlockState → Type 0) → P k b → ((m : ℕ) → P m (r.block m)) → (m : ℕ) → P m ((with_block r k b).block m)
  block_is k b P here others m = by_eq m k
      (λ e. subst (λ (x : BlockState). P m x) (sym (pick_here m k b (r.block m) e)) (subst (λ (j : ℕ). P j b) (sym e) here))
      (λ ne. subst (λ (x : BlockState). P m x) (sym (pick_other m k b (r.block m) ne)) (others m))

  -- a block is linked, or a read of it is counted
  abbrev FineBlock : ℕ → BlockState → Type 0
  FineBlock k b = (r.tail / 31 ≤ k → b.linked ≡ false) × (b.linked ≡ true → k + 1 < r.last) × (b.reads ≤ taken_in r.head k)
      × ((n : ℕ) → n / 31 ≡ k → b.reads ≡ 31 → ((r.cell n).written ≡ true) × ((r.cell n).slot ≡ None)) × (b.retired ≡ true → b.reads ≡ 31) × (b.retired ≡ false → (r.block k).retired ≡ false)

  pub block_keeps : (k : ℕ) (b : BlockState) → FineBlock k b → SoundBlocks (with_block r k b) items
  block_keeps k b fine = record {
    all = s.all;
    items = s.items;
    order = s.order;
    fresh = s.fresh;
    full = s.full;
    last = s.last;
    first = s.first;
    inside = s.inside;
    reach = s.reach;
    paged = s.paged;
    turned = s.turned;
    unlinked = block_is k b (λ j x. r.tail / 31 ≤ j → x.linked ≡ false) fine.0 s.unlinked;
    linked = block_is k b (λ j x. x.linked ≡ true → j + 1 < r.last) fine.1 s.linked;
    reads = block_is k b (λ j x. x.reads ≤ taken_in r.head j) fine.2 s.reads;
    done = λ n. block_is k b (λ j x. n / 31 ≡ j → x.reads ≡ 31 → ((r.cell n).written ≡ true) × ((r.cell n).slot ≡ None)) (fine.3 n) (λ j e h. s.done n (ap (λ (i : ℕ). (r.block i).reads) e ∙ h)) (n / 31) refl;
    retired = block_is k b (λ j x. x.retired ≡ true → x.reads ≡ 31) fine.4 s.retired;
    live = block_is k b (λ j x. j < r.last → x.retired ≡ false → r.spot (r.num j) ≡ used j) (λ h f. s.live k h (fine.5 f)) s.live;
  }

  -- a block whose reads are all counted goes to the spare ones
  pub retire_keeps : (k : ℕ) (l : Bool) → l ≡ (r.block k).linked → k < r.last → (r.block k).retired ≡ false → (r.block k).reads ≡ 31
      → SoundBlocks (with_spot (with_block r k (record { linked = l; reads = 31; retired = true })) (r.num k) spare) items
  retire_keeps k l e low f full =
      let b : BlockState = record { linked = l; reads = 31; retired = true } in
      let old = s.live k low f in
      record {
        all = s.all;
        items = s.items;
        order = s.order;
        fresh = s.fresh;
        full = s.full;
        last = s.last;
        first = s.first;
        inside = s.inside;
        reach = s.reach;
        paged = s.paged;
        turned = s.turned;
        unlinked = block_is k b (λ j x. r.tail / 31 ≤ j → x.linked ≡ false) (λ h. e ∙ s.unlinked k h) s.unlinked;
        linked = block_is k b (λ j x. x.linked ≡ true → j + 1 < r.last) (λ h. s.linked k (sym e ∙ h)) s.linked;
        reads = block_is k b (λ j x. x.reads ≤ taken_in r.head j) (let q = s.reads k in omega arith) s.reads;
        done = λ n. block_is k b (λ j x. n / 31 ≡ j → x.reads ≡ 31 → ((r.cell n).written ≡ true) × ((r.cell n).slot ≡ None)) (λ g h. s.done n (ap (λ (i : ℕ). (r.block i).reads) g ∙ full)) (λ j g h. s.done n (ap (λ (i : ℕ). (r.block i).reads) g ∙ h)) (n / 31) refl;
        retired = block_is k b (λ j x. x.retired ≡ true → x.reads ≡ 31) (λ h. refl) s.retired;
        live = λ j h g. by_eq j k
            (λ q. absurd (false≢true (sym g ∙ ap (λ (x : BlockState). x.retired) (pick_here j k b (r.block j) q))))
            (λ ne. (let there = s.live j h (sym (ap (λ (x : BlockState). x.retired) (pick_other j k b (r.block j) ne)) ∙ g) in
            pick_other (r.num j) (r.num k) spare (r.spot (r.num j)) (λ z. ne (used_same j k (sym there ∙ ap r.spot z ∙ old))) ∙ there));
      }

  -- the queue is closed
  pub close_keeps : SoundBlocks (record r { closed = true }) items
  close_keeps = record {
    all = s.all;
    items = s.items;
    order = s.order;
    fresh = s.fresh;
    full = s.full;
    last = s.last;
    first = s.first;
    inside = s.inside;
    reach = s.reach;
    paged = s.paged;
    turned = s.turned;
    unlinked = s.unlinked;
    linked = s.linked;
    reads = s.reads;
    done = s.done;
    retired = s.retired;
    live = s.live;
  }
