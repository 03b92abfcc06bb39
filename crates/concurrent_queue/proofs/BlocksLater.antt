-- Each change of an unbounded queue's words is one that the others' knowledge outlasts, and changes what is owed by what the call owes.
use Rattle.std.proofs.Common.{◌≡◌, ℕ, zero, suc, ◌+◌, ◌/◌, ◌%◌, ◌<◌, ◌≤◌, ⊎_elim, Bool, true, false, if◌then◌else◌, ◌==◌, ◌&&◌, not, nat_lt, List, [], ◌∷◌, length, Some, slice_get, refl, sym, ap, ◌∙◌, subst, arith}
use Rattle.std.proofs.lemmas.Bool.{cases_lt, false≢true}
use Rattle.std.proofs.lemmas.Bool.Decides.{nat_tests}
use Rattle.concurrent_queue.specs.machine.BlocksState.{Blocks, Cell, BlockState, SoundBlocks, Spot, spare, held, used, one_if, is_none, fill, take, turn_tail, turn_head, start, keep, with_cell, with_block, with_spot, chained}
use Rattle.concurrent_queue.specs.machine.BlocksCalls.{Act, same, owes}
use Rattle.concurrent_queue.specs.machine.BlocksMoves.{Later, extended}
use Rattle.concurrent_queue.proofs.BlocksBasics.{get_before, by_bool}
use Rattle.concurrent_queue.proofs.BlocksSteps.{pick_other, pick_here, by_eq, cell_other, cell_here}

pub same_not : (n m : ℕ) → (m ≡ n → ⊥) → same n m ≡ 0
same_not n m ne = let e : (n == m) ≡ false = grind (arith, nat_tests) in rw e refl

pub same_is : (n m : ℕ) → m ≡ n → same n m ≡ 1
same_is n m q = let e : (n == m) ≡ true = grind (arith, nat_tests) in rw e refl

none_past : {A : Type 0} (xs : List A) (n : ℕ) (x : A) → length xs ≤ n → slice_get xs n ≡ Some x → ⊥
none_past [] n x h e = absurd cc
none_past (y ∷ xs) zero x h e = absurd (omega arith)
none_past (y ∷ xs) (suc n) x h e = none_past xs n x (omega arith) e

pub some_there : {A : Type 0} (xs : List A) (n : ℕ) → n < length xs → (x : A) × (slice_get xs n ≡ Some x)
some_there [] n h = absurd (omega arith)
some_there (y ∷ xs) zero h = (y, refl)
some_there (y ∷ xs) (suc n) h = some_there xs n (omega arith)

module _ {T : Type 0} (r : Blocks T) (items : List T) (s : SoundBlocks r items) (a : Act T) where
  pub later_none : Later r r a
  later_none = record {
    all = λ n v e. e;
    shut = λ c. c;
    tail = omega arith;
    head = omega arith;
    last = omega arith;
    first = omega arith;
    num = λ k h. refl;
    tail_rests = λ e o. o;
    head_rests = λ e o. o;
    tail_turns = λ f o. (refl, o, refl);
    head_turns = λ f o. (refl, o, refl);
    starts = λ f h e. e;
    written = λ n w. w;
    unwritten = λ n f w. refl;
    filled = λ n d f e o. o;
    holds = λ b f e. e;
  }

  pub later_append : (v : T) (edge : Bool) → r.tail_turns ≡ false → Later r (extended r v edge) a
  later_append v edge rests = record {
    all = λ n x e. ⊎_elim (λ h. get_before r.all v n h ∙ e) (λ h. absurd (none_past r.all n x h e)) (cases_lt n (length r.all));
    shut = λ c. c;
    tail = omega arith;
    head = omega arith;
    last = omega arith;
    first = omega arith;
    num = λ k h. refl;
    tail_rests = λ e o. absurd (omega arith);
    head_rests = λ e o. o;
    tail_turns = λ f o. absurd (false≢true (sym rests ∙ o));
    head_turns = λ f o. (refl, o, refl);
    starts = λ f h e. e;
    written = λ n w. w;
    unwritten = λ n f w. refl;
    filled = λ n d f e o. o;
    holds = λ b f e. e;
  }

  pub later_take : (edge : Bool) → r.head_turns ≡ false → Later r (record r { head = r.head + 1; head_turns = edge }) a
  later_take edge rests = record {
    all = λ n v e. e;
    shut = λ c. c;
    tail = omega arith;
    head = omega arith;
    last = omega arith;
    first = omega arith;
    num = λ k h. refl;
    tail_rests = λ e o. o;
    head_rests = λ e o. absurd (omega arith);
    tail_turns = λ f o. (refl, o, refl);
    head_turns = λ f o. absurd (false≢true (sym rests ∙ o));
    starts = λ f h e. e;
    written = λ n w. w;
    unwritten = λ n f w. refl;
    filled = λ n d f e o. o;
    holds = λ b f e. e;
  }

  pub later_chain : (h : ℕ) → owes a (keep h) ≡ 1 → (r.tail_turns ≡ true → owes a turn_tail ≡ 1) → (0 < r.last → r.first ≡ 0 → r.first ≡ 0) → Later r (chained r h) a
  later_chain h mine turning z = record {
    all = λ n v e. e;
    shut = λ c. c;
    tail = omega arith;
    head = omega arith;
    last = omega arith;
    first = omega arith;
    num = λ k b. pick_other k r.last h (r.num k) (λ q. omega arith);
    tail_rests = λ e o. o;
    head_rests = λ e o. o;
    tail_turns = λ f o. absurd (let q = turning o in omega arith);
    head_turns = λ f o. (refl, o, refl);
    starts = λ f b e. e;
    written = λ n w. w;
    unwritten = λ n f w. refl;
    filled = λ n d f e o. o;
    holds = λ b f e. pick_other b h (used r.last) (r.spot b) (λ q. let g = ap (λ (x : ℕ). owes a (keep x)) q in omega arith) ∙ e;
  }

  pub later_spot : (h : ℕ) (x : Spot) → ((b : ℕ) → owes a (keep b) ≡ 0 → r.spot b ≡ held → b ≡ h → ⊥) → Later r (with_spot r h x) a
  later_spot h x free = record {
    all = λ n v e. e;
    shut = λ c. c;
    tail = omega arith;
    head = omega arith;
    last = omega arith;
    first = omega arith;
    num = λ k b. refl;
    tail_rests = λ e o. o;
    head_rests = λ e o. o;
    tail_turns = λ f o. (refl, o, refl);
    head_turns = λ f o. (refl, o, refl);
    starts = λ f b e. e;
    written = λ n w. w;
    unwritten = λ n f w. refl;
    filled = λ n d f e o. o;
    holds = λ b f e. pick_other b h x (r.spot b) (free b f e) ∙ e;
  }

  pub later_tail_rests : owes a turn_tail ≡ 1 → Later r (record r { tail_turns = false }) a
  later_tail_rests mine = record {
    all = λ n v e. e;
    shut = λ c. c;
    tail = omega arith;
    head = omega arith;
    last = omega arith;
    first = omega arith;
    num = λ k h. refl;
    tail_rests = λ e o. refl;
    head_rests = λ e o. o;
    tail_turns = λ f o. absurd (omega arith);
    head_turns = λ f o. (refl, o, refl);
    starts = λ f h e. e;
    written = λ n w. w;
    unwritten = λ n f w. refl;
    filled = λ n d f e o. o;
    holds = λ b f e. e;
  }

  pub later_head_rests : owes a turn_head ≡ 1 → Later r (record r { head_turns = false }) a
  later_head_rests mine = record {
    all = λ n v e. e;
    shut = λ c. c;
    tail = omega arith;
    head = omega arith;
    last = omega arith;
    first = omega arith;
    num = λ k h. refl;
    tail_rests = λ e o. o;
    head_rests = λ e o. refl;
    tail_turns = λ f o. (refl, o, refl);
    head_turns = λ f o. absurd (omega arith);
    starts = λ f h e. e;
    written = λ n w. w;
    unwritten = λ n f w. refl;
    filled = λ n d f e o. o;
    holds = λ b f e. e;
  }

  pub later_first : (f : ℕ) → r.first ≤ f → (r.head_turns ≡ true → owes a turn_head ≡ 1) → (r.first ≡ 0 → owes a start ≡ 1) → Later r (record r { first = f }) a
  later_first f low turning starting = record {
    all = λ n v e. e;
    shut = λ c. c;
    tail = omega arith;
    head = omega arith;
    last = omega arith;
    first = low;
    num = λ k h. refl;
    tail_rests = λ e o. o;
    head_rests = λ e o. o;
    tail_turns = λ g o. (refl, o, refl);
    head_turns = λ g o. absurd (let q = turning o in omega arith);
    starts = λ g h e. absurd (let q = starting e in omega arith);
    written = λ n w. w;
    unwritten = λ n g w. refl;
    filled = λ n d g e o. o;
    holds = λ b g e. e;
  }

  pub later_close : Later r (record r { closed = true }) a
  later_close = record {
    all = λ n v e. e;
    shut = λ c. refl;
    tail = omega arith;
    head = omega arith;
    last = omega arith;
    first = omega arith;
    num = λ k h. refl;
    tail_rests = λ e o. o;
    head_rests = λ e o. o;
    tail_turns = λ f o. (refl, o, refl);
    head_turns = λ f o. (refl, o, refl);
    starts = λ f h e. e;
    written = λ n w. w;
    unwritten = λ n f w. refl;
    filled = λ n d f e o. o;
    holds = λ b f e. e;
  }

  pub later_cell : (n : ℕ) (c : Cell T) → ((r.cell n).written ≡ true → c.written ≡ true) → (owes a (fill n) ≡ 0 → (r.cell n).written ≡ false → c ≡ r.cell n)
      → ((d : T) → owes a (take n) ≡ 0 → slice_get r.all n ≡ Some d → ((r.cell n).written ≡ true → (r.cell n).slot ≡ Some d) → c.written ≡ true → c.slot ≡ Some d) → Later r (with_cell r n c) a
  later_cell n c w f g = record {
    all = λ n v e. e;
    shut = λ c. c;
    tail = omega arith;
    head = omega arith;
    last = omega arith;
    first = omega arith;
    num = λ k h. refl;
    tail_rests = λ e o. o;
    head_rests = λ e o. o;
    tail_turns = λ f o. (refl, o, refl);
    head_turns = λ f o. (refl, o, refl);
    starts = λ f h e. e;
    written = λ m old. by_eq m n (λ e. ap (λ (x : Cell T). x.written) (cell_here r items s n c m e) ∙ w (sym (ap (λ (j : ℕ). (r.cell j).written) e) ∙ old)) (λ ne. ap (λ (x : Cell T). x.written) (cell_other r items s n c m ne) ∙ old);
    unwritten = λ m free old. by_eq m n (λ e. cell_here r items s n c m e ∙ f (sym (ap (λ (j : ℕ). owes a (fill j)) e) ∙ free) (sym (ap (λ (j : ℕ). (r.cell j).written) e) ∙ old) ∙ sym (ap r.cell e)) (λ ne. cell_other r items s n c m ne);
    filled = λ m d free is old now. by_eq m n
        (λ e. ap (λ (x : Cell T). x.slot) (cell_here r items s n c m e) ∙ g d (sym (ap (λ (j : ℕ). owes a (take j)) e) ∙ free) (sym (ap (λ (j : ℕ). slice_get r.all j) e) ∙ is)
        (λ h. sym (ap (λ (j : ℕ). (r.cell j).slot) e) ∙ old (ap (λ (j : ℕ). (r.cell j).written) e ∙ h)) (sym (ap (λ (x : Cell T). x.written) (cell_here r items s n c m e)) ∙ now))
        (λ ne. ap (λ (x : Cell T). x.slot) (cell_other r items s n c m ne) ∙ old (sym (ap (λ (x : Cell T). x.written) (cell_other r items s n c m ne)) ∙ now));
    holds = λ b f e. e;
  }

  pub later_block : (k : ℕ) (b : BlockState) → Later r (with_block r k b) a
  later_block k b = record {
    all = λ n v e. e;
    shut = λ c. c;
    tail = omega arith;
    head = omega arith;
    last = omega arith;
    first = omega arith;
    num = λ k h. refl;
    tail_rests = λ e o. o;
    head_rests = λ e o. o;
    tail_turns = λ f o. (refl, o, refl);
    head_turns = λ f o. (refl, o, refl);
    starts = λ f h e. e;
    written = λ n w. w;
    unwritten = λ n f w. refl;
    filled = λ n d f e o. o;
    holds = λ b f e. e;
  }

  pub later_retire : (k : ℕ) (b : BlockState) (h : ℕ) → (r.spot h ≡ held → ⊥) → Later r (with_spot (with_block r k b) h spare) a
  later_retire k b h ne = record {
    all = λ n v e. e;
    shut = λ c. c;
    tail = omega arith;
    head = omega arith;
    last = omega arith;
    first = omega arith;
    num = λ k h. refl;
    tail_rests = λ e o. o;
    head_rests = λ e o. o;
    tail_turns = λ f o. (refl, o, refl);
    head_turns = λ f o. (refl, o, refl);
    starts = λ f h e. e;
    written = λ n w. w;
    unwritten = λ n f w. refl;
    filled = λ n d f e o. o;
    holds = λ x f e. pick_other x h spare (r.spot x) (λ q. ne (sym (ap r.spot q) ∙ e)) ∙ e;
  }

-- accounts: one entry of a table changes by what one call owes of it
pub account : {A : Type 0} (t : ℕ → A) (n : ℕ) (c : A) (f : ℕ → A → ℕ) (p q : ℕ → ℕ) → p n + f n (t n) ≡ q n + f n c → ((m : ℕ) → (m ≡ n → ⊥) → p m ≡ q m)
    → (m : ℕ) → p m + f m (t m) ≡ q m + f m (if m == n then c else t m)
account t n c f p q here away m = by_eq m n
    (λ e. rw (pick_here m n c (t m) e) (subst (λ (j : ℕ). p j + f j (t j) ≡ q j + f j c) (sym e) here))
    (λ ne. rw (pick_other m n c (t m) ne, away m ne) refl)

module _ {T : Type 0} (r : Blocks T) (items : List T) (s : SoundBlocks r items) where
  pub fill_append : (m : ℕ) → same r.tail m + one_if (nat_lt m r.tail && not (r.cell m).written) ≡ one_if (nat_lt m (r.tail + 1) && not (r.cell m).written)
  fill_append m = by_eq m r.tail
      (λ e. let w : (r.cell m).written ≡ false = (s.fresh m (omega arith)).0 in rw (w, same_is r.tail m e) (grind (arith, nat_tests)))
      (λ ne. let q : nat_lt m r.tail ≡ nat_lt m (r.tail + 1) = grind (arith, nat_tests) in rw (same_not r.tail m ne, q) (omega arith))

  pub link_append : (k : ℕ) → r.tail % 31 ≡ 30 → same (r.tail / 31) k + one_if (nat_lt k (r.tail / 31) && not (r.block k).linked) ≡ one_if (nat_lt k ((r.tail + 1) / 31) && not (r.block k).linked)
  link_append k h =
      let d : (r.tail + 1) / 31 ≡ r.tail / 31 + 1 = omega arith in
      by_eq k (r.tail / 31)
      (λ e. let w : (r.block k).linked ≡ false = s.unlinked k (omega arith) in rw (w, same_is (r.tail / 31) k e, d) (grind (arith, nat_tests)))
      (λ ne. let q : nat_lt k (r.tail / 31) ≡ nat_lt k (r.tail / 31 + 1) = grind (arith, nat_tests) in rw (same_not (r.tail / 31) k ne, d, q) (omega arith))

  pub link_within : (k : ℕ) → (r.tail % 31 ≡ 30 → ⊥) → (r.tail + 1) / 31 ≡ r.tail / 31
  link_within k h = ⊎_elim (λ g. omega arith) (λ g. ⊎_elim (λ j. absurd (omega arith)) (λ j. absurd (h (omega arith))) (cases_lt 30 (r.tail % 31))) (cases_lt (r.tail % 31) 30)

  -- the item at the head is still to be taken
  pub take_next : (m : ℕ) → r.head < r.tail → same r.head m + one_if (nat_lt m r.head && not ((r.cell m).written && is_none (r.cell m).slot)) ≡ one_if (nat_lt m (r.head + 1) && not ((r.cell m).written && is_none (r.cell m).slot))
  take_next m more = by_eq m r.head
      (λ e. let b : nat_lt m r.head ≡ false = grind (arith, nat_tests) in let b' : nat_lt m (r.head + 1) ≡ true = grind (arith, nat_tests) in
      by_bool (r.cell m).written (λ w. rw (w, same_is r.head m e, b, b') refl)
      (λ w. let x = s.full m w (omega arith) in let g = some_there r.all m (let q = s.all in omega arith) in rw (w, same_is r.head m e, b, b', x, g.1) refl))
      (λ ne. let q : nat_lt m r.head ≡ nat_lt m (r.head + 1) = grind (arith, nat_tests) in rw (same_not r.head m ne, q) (omega arith))
