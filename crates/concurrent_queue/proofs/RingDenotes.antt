-- What the words of a ring say of the numbers of its messages.
use Rattle.std.proofs.Common.{◌≡◌, ℕ, zero, suc, ◌+◌, ◌*◌, ◌/◌, ◌%◌, ◌^◌, ◌<◌, ◌≤◌, ⊎_elim, Bool, true, false, if◌then◌else◌, ◌==◌, bit_or, bit_and, List, [], ◌∷◌, Option, Some, slice_get, slice_index, slice_set, refl, sym, ap, ◌∙◌, arith}
use Rattle.std.proofs.lemmas.Nat.{mod_below, mod-mul-add, div-add-mod', and_mask, and_block}
use Rattle.std.specs.Int.Bits.{and_zero_r, or_add_and}
use Rattle.std.proofs.Math.Nat.{mod-eq_of_lt, mul-le-mul_left}
use Rattle.std.proofs.lemmas.Bool.{cases_lt}
use Rattle.std.proofs.lemmas.Bool.Decides.{nat_tests}
use Rattle.concurrent_queue.specs.Contents.{Contents, write_slot}
use Rattle.concurrent_queue.specs.declared.cells.Slot.TheVariants.{At}
use Rattle.concurrent_queue.specs.machine.Positions.{pos}
use Rattle.concurrent_queue.specs.machine.RingState.{SlotState, Ring, with_place}
use Rattle.concurrent_queue.specs.machine.RingMeans.{Denotes}
use Rattle.concurrent_queue.specs.machine.RingWords.{is_marked, unmarked, index, stride, next_word, count_of, between, set_stamp}
use Rattle.concurrent_queue.proofs.RingShape.{IsMark}
use Rattle.concurrent_queue.proofs.RingPlaces.{pos-index, pos-same, pos-less, pos-turn, pos-next, pos-div, near_same}
use Rattle.concurrent_queue.proofs.RingSound.{by_eq, if_false, if_true}

pub set_same : {A : Type 0} (xs : List A) (i : ℕ) (x y : A) → slice_get xs i ≡ Some y → slice_get (slice_set xs i x) i ≡ Some x
set_same [] i x y e = absurd cc
set_same (z ∷ xs) zero x y e = refl
set_same (z ∷ xs) (suc i) x y e = set_same xs i x y e

pub set_other : {A : Type 0} (xs : List A) (i j : ℕ) (x : A) → (j ≡ i → ⊥) → slice_get (slice_set xs i x) j ≡ slice_get xs j
set_other [] i j x ne = refl
set_other (z ∷ xs) zero zero x ne = absurd (ne refl)
set_other (z ∷ xs) zero (suc j) x ne = refl
set_other (z ∷ xs) (suc i) zero x ne = refl
set_other (z ∷ xs) (suc i) (suc j) x ne = set_other xs i j x (λ e. ne (ap suc e))

pub index_of : (xs : List ℕ) (i x : ℕ) → slice_get xs i ≡ Some x → slice_index xs i ≡ x
index_of [] i x e = absurd cc
index_of (y ∷ xs) zero x e = cc
index_of (y ∷ xs) (suc i) x e = index_of xs i x e

pub eq_true : (x y : ℕ) → (x == y) ≡ true → x ≡ y
eq_true x y e = grind (arith, nat_tests)

pub eq_false : (x y : ℕ) → (x == y) ≡ false → x ≡ y → ⊥
eq_false x y e f = grind (arith, nat_tests)

pub eq_holds : (x y : ℕ) → x ≡ y → (x == y) ≡ true
eq_holds x y e = grind (arith, nat_tests)

pub one_if : (b : Bool) (x : ℕ) → (if b then x else 0) ≤ x
one_if false x = omega arith
one_if true x = omega arith

module _ (cap m : ℕ) (some : 0 < cap) (k : IsMark cap m) where
  pub wide : cap < 2 * m
  wide = let h = k.wide in omega arith

  at_pos : ℕ → ℕ
  at_pos n = pos cap (2 * m) n

  -- a word with the mark or without it
  pub word_index : (n : ℕ) (b : Bool) → (pos cap (2 * m) n + (if b then m else 0)) % (2 * m) ≡ n % cap + (if b then m else 0)
  unfolding pos
  word_index n b =
      let h = k.wide in
      let l = mod_below n cap some in
      let o = one_if b m in
      let e : n / cap * (2 * m) + n % cap + (if b then m else 0) ≡ n / cap * (2 * m) + (n % cap + (if b then m else 0)) = omega arith in
      ap (λ (x : ℕ). x % (2 * m)) e ∙ mod-mul-add (n / cap) (2 * m) (n % cap + (if b then m else 0)) (omega arith)

  pub marked_is : (n : ℕ) (b : Bool) → is_marked m (pos cap (2 * m) n + (if b then m else 0)) ≡ b
  marked_is n false = let e = word_index n false in let l = mod_below n cap some in let h = k.wide in rw e (grind (arith, nat_tests))
  marked_is n true = let e = word_index n true in let l = mod_below n cap some in let h = k.wide in rw e (grind (arith, nat_tests))

  pub unmarked_is : (n : ℕ) (b : Bool) → unmarked m (pos cap (2 * m) n + (if b then m else 0)) ≡ pos cap (2 * m) n
  unmarked_is n false = let e = marked_is n false in rw e (omega arith)
  unmarked_is n true = let e = marked_is n true in rw e (omega arith)

  -- two words of tails say the same only where position and mark are the same
  pub same_word : (a b : ℕ) (x y : Bool) → pos cap (2 * m) a + (if x then m else 0) ≡ pos cap (2 * m) b + (if y then m else 0) → (a ≡ b) × (x ≡ y)
  same_word a b x y e =
      let f : x ≡ y = sym (marked_is a x) ∙ ap (λ (w : ℕ). is_marked m w) e ∙ marked_is b y in
      let g : pos cap (2 * m) a ≡ pos cap (2 * m) b = sym (unmarked_is a x) ∙ ap (λ (w : ℕ). unmarked m w) e ∙ unmarked_is b y in
      (pos-same cap some (2 * m) wide a b g, f)

  pub same_pos : (a b : ℕ) → pos cap (2 * m) a ≡ pos cap (2 * m) b → a ≡ b
  same_pos a b e = pos-same cap some (2 * m) wide a b e

  pub index_is : (n : ℕ) → index m (pos cap (2 * m) n) ≡ n % cap
  index_is n = pos-index cap some (2 * m) wide n

  pub lap_later : (n : ℕ) → pos cap (2 * m) (n + cap) ≡ pos cap (2 * m) n + 2 * m
  lap_later n = pos-turn cap some (2 * m) wide n

  pub stride_is : (n : ℕ) → pos cap (2 * m) n + stride cap m (pos cap (2 * m) n) ≡ pos cap (2 * m) (n + 1)
  stride_is n = pos-next cap some (2 * m) wide n

  -- positions are small while numbers are
  pub pos_small : (n : ℕ) → pos cap (2 * m) n ≤ 4 * n
  unfolding pos
  pos_small n =
      let h = k.near in
      let e = div-add-mod' n cap in
      let f : n / cap * (2 * m) ≤ n / cap * (4 * cap) = mul-le-mul_left (n / cap) (let g : 2 * m ≤ 4 * cap = omega arith in g) in
      let f' : n / cap * (4 * cap) ≡ 4 * (n / cap * cap) = omega arith in
      omega arith

  pub next_is : (n : ℕ) → n ≤ 2 ^ 61 → next_word cap m (pos cap (2 * m) n) ≡ pos cap (2 * m) (n + 1)
  next_is n h = let e = stride_is n in let b = pos_small (n + 1) in ap (λ (x : ℕ). x % 2 ^ 64) e ∙ mod-eq_of_lt (let g : pos cap (2 * m) (n + 1) < 2 ^ 64 = omega arith in g)

  -- before the first lap's end
  pub small_below : (n : ℕ) → n < cap → pos cap (2 * m) n < 2 * m
  small_below n h = let a = pos-less cap some (2 * m) wide n (0 + cap) (omega arith) in let b = lap_later 0 in let z = pos_small 0 in omega arith

  -- a word's bit of the mark
  its_bit : (n h : ℕ) → bit_and ((2 * (n / cap) + h) * 2 ^ k.power.0 + n % cap) m ≡ (2 * (n / cap) + h) % 2 * 2 ^ k.power.0
  its_bit n h =
      let l = mod_below n cap some in
      let wide = k.wide in
      let e = k.power.1 in
      let y : m ≡ 1 * 2 ^ k.power.0 + 0 = omega arith in
      ap (λ (x : ℕ). bit_and ((2 * (n / cap) + h) * 2 ^ k.power.0 + n % cap) x) y
      ∙ and_block k.power.0 (2 * (n / cap) + h) 1 (n % cap) 0 (omega arith) (omega arith)
      ∙ (let a = and_mask (2 * (n / cap) + h) 1 in let b = and_zero_r (n % cap) in rw (a, b) (omega arith))

  unmarked_bit : (n : ℕ) → bit_and (pos cap (2 * m) n) m ≡ 0
  unfolding pos
  unmarked_bit n =
      let e = k.power.1 in
      let x : n / cap * (2 * m) + n % cap ≡ (2 * (n / cap) + 0) * 2 ^ k.power.0 + n % cap = rw e (omega arith) in
      ap (λ (w : ℕ). bit_and w m) x ∙ its_bit n 0 ∙ (let z : (2 * (n / cap) + 0) % 2 ≡ 0 = omega arith in rw z (omega arith))

  marked_bit : (n : ℕ) → bit_and (pos cap (2 * m) n + m) m ≡ m
  unfolding pos
  marked_bit n =
      let e = k.power.1 in
      let x : n / cap * (2 * m) + n % cap + m ≡ (2 * (n / cap) + 1) * 2 ^ k.power.0 + n % cap = rw e (omega arith) in
      ap (λ (w : ℕ). bit_and w m) x ∙ its_bit n 1 ∙ (let z : (2 * (n / cap) + 1) % 2 ≡ 1 = omega arith in rw z (omega arith))

  pub marks_it : (n : ℕ) (b : Bool) → bit_or (pos cap (2 * m) n + (if b then m else 0)) m ≡ pos cap (2 * m) n + m
  marks_it n false = (let e = or_add_and (pos cap (2 * m) n + 0) m in let z : pos cap (2 * m) n + 0 ≡ pos cap (2 * m) n = omega arith in let a = ap (λ (w : ℕ). bit_and w m) z ∙ unmarked_bit n in omega arith)
  marks_it n true = (let e = or_add_and (pos cap (2 * m) n + m) m in let a = marked_bit n in omega arith)

  -- the number of a position
  pub count_is : (n : ℕ) → n < 2 ^ 62 → count_of cap m (pos cap (2 * m) n) ≡ n
  count_is n h =
      let d = pos-div cap some (2 * m) wide n in
      let i = index_is n in
      let e = div-add-mod' n cap in
      rw (d, i) (let f : n / cap * cap < 2 ^ 64 = omega arith in let g : n / cap * cap % 2 ^ 64 ≡ n / cap * cap = mod-eq_of_lt f in rw g (rw e (mod-eq_of_lt (let o : n < 2 ^ 64 = omega arith in o))))

  pub between_is : (h t : ℕ) → h ≤ t → t < 2 ^ 62 → between cap m (pos cap (2 * m) h) (pos cap (2 * m) t) + h ≡ t
  between_is h t o g = let a = count_is h (omega arith) in let b = count_is t g in rw (a, b) (omega arith)

  -- what a stamp says of its place
  off_by_one : (a b : ℕ) → a % cap ≡ b % cap → pos cap (2 * m) a + 1 ≡ pos cap (2 * m) b → ⊥
  off_by_one a b same e =
      let broad = k.wide in
      ⊎_elim
      (λ (h : a < b). ⊎_elim
      (λ (g : b < a + cap). let equal = near_same cap b a (sym same) (omega arith) g in absurd (omega arith))
      (λ (g : a + cap ≤ b). let t = lap_later a in
      ⊎_elim (λ (l : a + cap < b). absurd (omega (arith, pos-less cap some (2 * m) wide (a + cap) b l))) (λ (l : b ≤ a + cap). let q : b ≡ a + cap = omega arith in absurd (omega (arith, ap (λ (x : ℕ). pos cap (2 * m) x) q))) (cases_lt (a + cap) b))
      (cases_lt b (a + cap)))
      (λ (h : b ≤ a). ⊎_elim (λ (l : b < a). absurd (omega (arith, pos-less cap some (2 * m) wide b a l))) (λ (l : a ≤ b). let q : a ≡ b = omega arith in absurd (omega (arith, ap (λ (x : ℕ). pos cap (2 * m) x) q))) (cases_lt b a))
      (cases_lt a b)

  pub stamp_ready : (round n : ℕ) (written : Bool) → round % cap ≡ n % cap → pos cap (2 * m) round + (if written then 1 else 0) ≡ pos cap (2 * m) n → (round ≡ n) × (written ≡ false)
  stamp_ready round n false same e = (same_pos round n (omega arith), refl)
  stamp_ready round n true same e = absurd (off_by_one round n same e)

  pub stamp_written : (round n : ℕ) (written : Bool) → round % cap ≡ n % cap → pos cap (2 * m) round + (if written then 1 else 0) ≡ pos cap (2 * m) n + 1 → (round ≡ n) × (written ≡ true)
  stamp_written round n true same e = (same_pos round n (omega arith), refl)
  stamp_written round n false same e = absurd (off_by_one n round (sym same) (omega arith))

  -- ---- changes of one cell

  module _ {T : Type 0} (c : Contents T) (r : Ring T) (d : Denotes cap m c r) where
    pub stamp_of : (i : ℕ) → i < cap → slice_index c.stamps i ≡ pos cap (2 * m) (r.at i).round + (if (r.at i).written then 1 else 0)
    stamp_of i h = index_of c.stamps i _ (d.stamps i h)

    module _ (n : ℕ) (pl : SlotState T) where
      at_other : (j : ℕ) → (j ≡ n % cap → ⊥) → (with_place r (n % cap) pl).at j ≡ r.at j
      at_other j ne = if_false (j == n % cap) pl (r.at j) (λ e. ne (eq_true j (n % cap) e))

      at_here : (j : ℕ) → j ≡ n % cap → (with_place r (n % cap) pl).at j ≡ pl
      at_here j e = if_true (j == n % cap) pl (r.at j) (eq_holds j (n % cap) e)

      pub with_stamp : (x : ℕ) → x ≡ pos cap (2 * m) pl.round + (if pl.written then 1 else 0) → pl.slot ≡ (r.at (n % cap)).slot
          → Denotes cap m (set_stamp c (n % cap) x) (with_place r (n % cap) pl)
      with_stamp x e f = record {
        head = d.head;
        tail = d.tail;
        stamps = λ j h. by_eq j (n % cap)
            (λ same.
            let g : slice_get (slice_set c.stamps (n % cap) x) (n % cap) ≡ Some x = set_same c.stamps (n % cap) x _ (d.stamps (n % cap) (mod_below n cap some)) in
            let g' : slice_get (slice_set c.stamps (n % cap) x) j ≡ Some x = ap (λ (i : ℕ). slice_get (slice_set c.stamps (n % cap) x) i) same ∙ g in
            let h' : Some x ≡ Some (pos cap (2 * m) pl.round + (if pl.written then 1 else 0)) = ap Some e in
            g' ∙ h' ∙ sym (ap (λ (y : SlotState T). Some (pos cap (2 * m) y.round + (if y.written then 1 else 0))) (at_here j same)))
            (λ ne. set_other c.stamps (n % cap) j x ne ∙ d.stamps j h ∙ sym (ap (λ (y : SlotState T). Some (pos cap (2 * m) y.round + (if y.written then 1 else 0))) (at_other j ne)));
        slots = λ j h. by_eq j (n % cap)
            (λ same. d.slots j h ∙ ap Some (ap (λ (i : ℕ). (r.at i).slot) same ∙ sym f ∙ sym (ap (λ (y : SlotState T). y.slot) (at_here j same))))
            (λ ne. d.slots j h ∙ ap Some (sym (ap (λ (y : SlotState T). y.slot) (at_other j ne))));
      }

      pub with_slot : (o : Option T) → pl.slot ≡ o → pl.round ≡ (r.at (n % cap)).round → pl.written ≡ (r.at (n % cap)).written
          → Denotes cap m (write_slot c (At (n % cap)) o) (with_place r (n % cap) pl)
      with_slot o e f g = record {
        head = d.head;
        tail = d.tail;
        stamps = λ j h. by_eq j (n % cap)
            (λ same.
            let a = ap (λ (y : SlotState T). pos cap (2 * m) y.round + (if y.written then 1 else 0)) (at_here j same) in
            let b : pos cap (2 * m) pl.round + (if pl.written then 1 else 0) ≡ pos cap (2 * m) (r.at (n % cap)).round + (if (r.at (n % cap)).written then 1 else 0) = rw (f, g) refl in
            let b' = ap (λ (i : ℕ). pos cap (2 * m) (r.at i).round + (if (r.at i).written then 1 else 0)) same in
            d.stamps j h ∙ ap Some (b' ∙ sym b ∙ sym a))
            (λ ne. d.stamps j h ∙ sym (ap (λ (y : SlotState T). Some (pos cap (2 * m) y.round + (if y.written then 1 else 0))) (at_other j ne)));
        slots = λ j h. by_eq j (n % cap)
            (λ same. ap (λ (i : ℕ). slice_get (slice_set c.slots (n % cap) o) i) same ∙ set_same c.slots (n % cap) o _ (d.slots (n % cap) (mod_below n cap some)) ∙ ap Some (sym e ∙ sym (ap (λ (y : SlotState T). y.slot) (at_here j same))))
            (λ ne. set_other c.slots (n % cap) j o ne ∙ d.slots j h ∙ ap Some (sym (ap (λ (y : SlotState T). y.slot) (at_other j ne))));
      }
