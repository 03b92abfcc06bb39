-- A new table is under the rule: its history is empty, and its cells are those of a new queue.
use Rattle.std.proofs.Common.{◌≡◌, ◌≢◌, ℕ, zero, suc, ◌+◌, ◌<◌, ◌≤◌, Bool, false, if◌then◌else◌, List, [], ◌∷◌, ◌++◌, length, map, drop, replicate, get_or, set, inl, inr, refl, sym, ap, ◌∙◌, subst, arith, ne_eqb, length-set, get_or-set_other, get_or-set_same}
use Rattle.std.proofs.lemmas.List.{length-append, length-replicate, length-map}
use Rattle.std.specs.Prelude.{Option, None, Some, slice_index, slice_index_or}
use mathlib.Core.Option as home
use mathlib.Core.Option.{some-injective, some-ne-none}
use native.Mathlib.Decide.{ℕ_discrete}
use lib.ListN.{get_elem?}
use Rattle.atomic_table.specs.Table.{opening}
use Rattle.concurrent_queue.specs.Bridge.{Event, HasCells}
use Rattle.concurrent_queue.specs.Contents.{Contents, no_contents, empty_slot}
use Rattle.concurrent_queue.specs.Made.{new_cells}
use Rattle.concurrent_queue.specs.machine.RingMade.{numbers_below, vacant_slots, empty_ring}
use Rattle.concurrent_queue.specs.declared.cells.QueueForm.{QueueForm}
use Rattle.concurrent_queue.specs.declared.cells.QueueForm.TheVariants.{Bounded}
use Rattle.concurrent_queue.proofs.Guards as guards
use Rattle.concurrent_queue.specs.history.Joined.{AllStood, EachOnce, Lists}
use Rattle.concurrent_queue.proofs.HistorySeats.{false_true}
use Rattle.concurrent_queue.specs.history.Keeps.{HistoryOf, KeepsHistory, Tally, opening_tally}
use Rattle.concurrent_queue.specs.history.Shared.{slots_of, stamps_of, words_of, contents, offset_of, counts_set, count_in, tally_in, first_view, IsRuled}
use Rattle.concurrent_queue.specs.declared.history.rule.Counter.{Counter}
use Rattle.concurrent_queue.specs.declared.history.rule.Counter.TheVariants.{First, Second, Third, Fourth, Fifth, Sixth}
use Rattle.concurrent_queue.specs.declared.history.rule.CountStep.{CountStep}
use Rattle.concurrent_queue.proofs.HistoryWords as words

none_some : {X : Type 0} (x : X) → None ≢ Some x
none_some x e = absurd (cc)

numbers_long : (n : ℕ) → length (numbers_below n) ≡ n
numbers_long zero = refl
numbers_long (suc n) = omega (arith, length-append (numbers_below n) (n ∷ []), numbers_long n)

zero_at : (m : ℕ) (l : List ℕ) (i : ℕ) → i < m → get_or (replicate m 0 ++ l) i 0 ≡ 0
zero_at zero l i h = absurd (omega arith)
zero_at (suc m) l zero h = refl
zero_at (suc m) l (suc i) h = zero_at m l i (omega arith)

behind_zeros : (m : ℕ) (l : List ℕ) → drop m (replicate m 0 ++ l) ≡ l
behind_zeros zero l = refl
behind_zeros (suc m) l = behind_zeros m l

-- the first words of a table: the guards and the queue's own words, all 0, and then the stamps; and so with the counts
abbrev plain : ℕ → List ℕ
plain cap = replicate (cap + 32) 0 ++ numbers_below (stamps_of (Bounded cap))

abbrev pub first_words : ℕ → ℕ → List ℕ
first_words cap n = counts_set cap n (plain cap)

plain_long : (cap : ℕ) → length (plain cap) ≡ slots_of (Bounded cap) + words_of (Bounded cap)
plain_long cap =
    let s : ℕ = stamps_of (Bounded cap) in
    length-append (replicate (cap + 32) 0) (numbers_below s)
    ∙ (let a : ℕ = length (replicate (cap + 32) 0) in let b : ℕ = length (numbers_below s) in let p : a ≡ cap + 32 = length-replicate (cap + 32) 0 in let q : b ≡ s = numbers_long s in let z : a + b ≡ cap + (32 + s) = omega arith in z)

pub first_long : (cap n : ℕ) (words : List ℕ) → words ≡ first_words cap n → length words ≡ slots_of (Bounded cap) + words_of (Bounded cap)
first_long cap n words e = ap (λ (l : List ℕ). length l) e ∙ (length-set (set (plain cap) (cap + 9) n) (cap + 28) n ∙ (length-set (plain cap) (cap + 9) n ∙ plain_long cap))

word_is : (cap i : ℕ) → i < 32 → slice_index (plain cap) (cap + i) ≡ 0
word_is cap i h = zero_at (cap + 32) (numbers_below (stamps_of (Bounded cap))) (cap + i) (omega arith)

inside : (cap i : ℕ) → i < 32 → cap + i < length (plain cap)
inside cap i h = let s : ℕ = stamps_of (Bounded cap) in let l : ℕ = length (plain cap) in let e : l ≡ cap + (32 + s) = plain_long cap in let z : cap + i < l = omega arith in z

-- where no count lies the counts change nothing, and both are what was counted
else_is : (cap n k : ℕ) → k ≢ cap + 9 → k ≢ cap + 28 → slice_index (first_words cap n) k ≡ slice_index (plain cap) k
else_is cap n k one two = get_or-set_other (set (plain cap) (cap + 9) n) (cap + 28) k n 0 two ∙ get_or-set_other (plain cap) (cap + 9) k n 0 one

first_is : (cap n : ℕ) → slice_index (first_words cap n) (cap + 9) ≡ n
first_is cap n = get_or-set_other (set (plain cap) (cap + 9) n) (cap + 28) (cap + 9) n 0 (λ e. omega arith) ∙ get_or-set_same (plain cap) (cap + 9) n 0 (inside cap 9 (omega arith))

second_is : (cap n : ℕ) → slice_index (first_words cap n) (cap + 28) ≡ n
second_is cap n = get_or-set_same (set (plain cap) (cap + 9) n) (cap + 28) n 0 (subst (λ (l : ℕ). cap + 28 < l) (sym (length-set (plain cap) (cap + 9) n)) (inside cap 28 (omega arith)))

-- and the others 0
other_is : (cap n i : ℕ) → i < 32 → i ≢ 9 → i ≢ 28 → slice_index (first_words cap n) (cap + i) ≡ 0
other_is cap n i h one two = else_is cap n (cap + i) (λ e. one (omega arith)) (λ e. two (omega arith)) ∙ word_is cap i h

first_tally : (cap n : ℕ) → tally_in (Bounded cap) (first_words cap n) ≡ opening_tally n
first_tally cap n = λ k. record {
  first = first_is cap n k;
  second = second_is cap n k;
  third = other_is cap n 10 (omega arith) (λ e. omega arith) (λ e. omega arith) k;
  fourth = other_is cap n 11 (omega arith) (λ e. omega arith) (λ e. omega arith) k;
  fifth = other_is cap n 12 (omega arith) (λ e. omega arith) (λ e. omega arith) k;
  sixth = other_is cap n 13 (omega arith) (λ e. omega arith) (λ e. omega arith) k;
}

module _ {T : Type 0} where
  snoc_none : (n : ℕ) → replicate n None ++ None ∷ [] ≡ None ∷ replicate {A = Option T} n None
  snoc_none zero = refl
  snoc_none (suc n) = ap (λ (l : List (Option T)). None ∷ l) (snoc_none n)

  vacant : (n : ℕ) → replicate {A = Option T} n None ≡ vacant_slots n
  vacant zero = refl
  vacant (suc n) = sym (snoc_none n) ∙ ap (λ (l : List (Option T)). l ++ None ∷ []) (vacant n)

  abbrev built : ℕ → ℕ → Contents T
  built cap stamps = record (no_contents (Bounded cap)) { state = 0; head = 0; tail = 0; head_block = 0; tail_block = 0; stamps = numbers_below stamps; slots = replicate cap None }

  cells_are : (cap : ℕ) → Dec (cap ≡ 1) → built cap (stamps_of (Bounded cap)) ≡ new_cells (Bounded cap)
  cells_are cap (yes e) = subst (λ (c : ℕ). built c (stamps_of (Bounded c)) ≡ new_cells (Bounded c)) (sym e) refl
  cells_are cap (no ne) =
      subst (λ (b : Bool). built cap (if b then 0 else cap) ≡ (if b then empty_slot else empty_ring cap)) (sym (ne_eqb cap 1 ne))
      (ap (λ (l : List (Option T)). record (no_contents (Bounded cap)) { stamps = numbers_below cap; slots = l }) (vacant cap))

  plain_contents : (cap : ℕ) → contents (Bounded cap) (plain cap) (replicate cap None) ≡ new_cells {T = T} (Bounded cap)
  plain_contents cap =
      (λ k. record (no_contents (Bounded cap)) {
        state = word_is cap 0 (omega arith) k;
        head = word_is cap 1 (omega arith) k;
        tail = word_is cap 16 (omega arith) k;
        head_block = word_is cap 2 (omega arith) k;
        tail_block = word_is cap 17 (omega arith) k;
        stamps = behind_zeros (cap + 32) (numbers_below (stamps_of (Bounded cap))) k;
        slots = replicate cap None;
      })
      ∙ cells_are cap (ℕ_discrete cap 1)

  first_contents : (cap n : ℕ) → contents (Bounded cap) (first_words cap n) (replicate cap None) ≡ new_cells {T = T} (Bounded cap)
  first_contents cap n =
      words.spare_apart (Bounded cap) (set (plain cap) (cap + 9) n) (replicate cap None) n 28 (cap + 28) (inr (inl refl)) refl
      ∙ (words.spare_apart (Bounded cap) (plain cap) (replicate cap None) n 9 (cap + 9) (inr (inr (omega arith, omega arith))) refl ∙ plain_contents cap)

  home_at : (l : List (Option T)) (i : ℕ) (x : Option T) → get_elem? (map home.some l) i ≡ home.some (home.some x) → slice_index_or l i None ≡ x
  home_at [] i x e = absurd (some-ne-none (home.some x) (sym e))
  home_at (y ∷ ys) zero x e = some-injective y x (some-injective (home.some y) (home.some x) e)
  home_at (y ∷ ys) (suc i) x e = home_at ys i x e

module _ {T A : Type 0} {moves : QueueForm → A → Event T → A → Type 0} {enters : QueueForm → A → Type 0} {turns : QueueForm → A → A → Type 0} {counts : QueueForm → A → A → Counter → CountStep → ℕ → Type 0} {both : A → A → A} {left : A → A} {parts : QueueForm → A → A → A → Type 0} {opened : A} {counted : ℕ} {is_history : HistoryOf T A} (laws : KeepsHistory moves enters turns counts both left parts opened counted is_history) (admits : Type 0) where
  opens_so : (cap : ℕ) → HasCells (Bounded cap) → IsRuled is_history admits (Bounded cap) (opening (first_words cap counted) (replicate cap None) (first_view opened (Bounded cap)))
  opens_so cap has =
      let s : ℕ = stamps_of (Bounded cap) in
      let long : length (first_words cap counted) ≡ cap + words_of (Bounded cap) = first_long cap counted (first_words cap counted) refl in
      record {
        has = has;
        slots = length-map (replicate {A = Option T} cap None) home.some ∙ length-replicate cap None;
        words = long;
        guards = guards.opens cap (first_words cap counted) (let l : ℕ = length (first_words cap counted) in let e : l ≡ cap + (32 + s) = long in let z : cap ≤ l = omega arith in z)
            (λ i h. else_is cap counted i (λ e. omega arith) (λ e. omega arith) ∙ zero_at (cap + 32) (numbers_below s) i (omega arith));
        seated = record {
          named = named_so;
          admitted = λ j v e strange. absurd (false_true (sym (own_so j v e) ∙ strange));
          joined = record {
            stood = λ j v e. subst (λ (l : List (ℕ × A)). AllStood (first_view {T = T} opened (Bounded cap) ∷ []) l) (sym (none_so j v e)) tt;
            once = λ j v e. subst (λ (l : List (ℕ × A)). EachOnce l) (sym (none_so j v e)) tt;
            apart = λ j k v u p e f h g. absurd (subst (λ (l : List (ℕ × A)). Lists p l) (none_so j v e) h);
          };
        };
        kept = λ zero. record {
          values = replicate cap None;
          count = length-replicate cap None;
          at_home = home_at (replicate cap None);
          away = λ j v i x e held. absurd (nobody j v i x e held);
          history = begins;
        };
      }
    where
      nobody : (j : ℕ) (v : _) (i : ℕ) (x : Option T) → get_elem? (first_view {T = T} opened (Bounded cap) ∷ []) j ≡ home.some v → v.held ≡ Some (i, x) → ⊥
      nobody zero v i x e held = none_some (i, x) (ap (λ u. u.held) (some-injective _ v e) ∙ held)
      nobody (suc j) v i x e held = some-ne-none v (sym e)

      named_so : (j : ℕ) (v : _) → get_elem? (first_view {T = T} opened (Bounded cap) ∷ []) j ≡ home.some v → (v.nameless ≡ false → v.who ≡ j) × (v.form ≡ Bounded cap)
      named_so zero v e = ((λ _. ap (λ u. u.who) (sym (some-injective _ v e))), ap (λ u. u.form) (sym (some-injective _ v e)))
      named_so (suc j) v e = absurd (some-ne-none v (sym e))

      own_so : (j : ℕ) (v : _) → get_elem? (first_view {T = T} opened (Bounded cap) ∷ []) j ≡ home.some v → v.foreign ≡ false
      own_so zero v e = ap (λ u. u.foreign) (sym (some-injective _ v e))
      own_so (suc j) v e = absurd (some-ne-none v (sym e))

      none_so : (j : ℕ) (v : _) → get_elem? (first_view {T = T} opened (Bounded cap) ∷ []) j ≡ home.some v → v.over ≡ []
      none_so zero v e = ap (λ u. u.over) (sym (some-injective _ v e))
      none_so (suc j) v e = absurd (some-ne-none v (sym e))

      begins : is_history (Bounded cap) (first_view {T = T} opened (Bounded cap) ∷ []) (contents (Bounded cap) (first_words cap counted) (replicate cap None)) (tally_in (Bounded cap) (first_words cap counted))
      begins =
          subst (λ (c : Contents T). is_history (Bounded cap) (first_view {T = T} opened (Bounded cap) ∷ []) c (tally_in (Bounded cap) (first_words cap counted))) (sym (first_contents cap counted))
          (subst (λ (t : Tally). is_history (Bounded cap) (first_view {T = T} opened (Bounded cap) ∷ []) (new_cells (Bounded cap)) t) (sym (first_tally cap counted))
          (laws.opens (Bounded cap) (first_view opened (Bounded cap)) has refl))

  pub opens : (form : QueueForm) (cap n : ℕ) (words : List ℕ) → form ≡ Bounded cap → HasCells (Bounded cap) → n ≡ counted → words ≡ first_words cap n → IsRuled is_history admits form (opening words (replicate cap None) (first_view opened form))
  opens form cap n words e has start is =
      subst (λ (f : QueueForm). IsRuled is_history admits f (opening words (replicate cap None) (first_view opened f))) (sym e)
      (subst (λ (ws : List ℕ). IsRuled is_history admits (Bounded cap) (opening ws (replicate cap None) (first_view opened (Bounded cap)))) (sym (is ∙ ap (first_words cap) start)) (opens_so cap has))
