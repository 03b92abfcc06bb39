-- The first line, the first word, and the digits of a number.
use Rattle.std.proofs.Common.{arith, ◌≡◌, ℕ, ◌+◌, ◌-◌, ◌*◌, ◌<◌, ◌≤◌, ◌==◌, nat_lt, List, [], ◌∷◌, length, take, drop, position, Some, None, Bool, true, false, cond, ◌&&◌, ◌^◌, get_or, add-one, refl, sym, subst, ap, ◌∙◌}
use Rattle.std.specs.List.{slice_split, position_or_len}
use Rattle.std.proofs.lemmas.List.{take_all, length-drop}
use Rattle.std.proofs.lemmas.List.Splits.{slice_split_first, slice_split_none, length-slice_split}
use Rattle.std.proofs.lemmas.List.Sums.{fails_before_first}
use Rattle.std.proofs.Math.Seq.{drop-length, drop-cons}
use borrow.Author.Tests.{ltb-true}
use Rattle.std.proofs.lemmas.Bool.Decides.{nat_tests}
use Rattle.channel_world_language.specs.Words.{without_empty_end, lines_of, words_of, value_after, number_of, is_plain_decimal}

cond_some : (b : Bool) (x i : ℕ) → cond b (Some x) None ≡ Some i → (b ≡ true) × (x ≡ i)
cond_some true x i e = (refl, cc e)
cond_some false x i e = (cc e, cc e)

cond_none : (b : Bool) (x : ℕ) → cond b (Some x) None ≡ None → b ≡ false
cond_none true x e = cc e
cond_none false x e = refl

-- a list is cut where an element first passes
pub split_at_position : (p : ℕ → Bool) (xs : List ℕ) (i : ℕ) → Some i ≡ position p xs → slice_split p xs ≡ take i xs ∷ slice_split p (drop (i + 1) xs)
split_at_position p xs i e =
    let h = cond_some (nat_lt (position_or_len p xs) (length xs)) (position_or_len p xs) i (sym e) in
    subst (λ (k : ℕ). slice_split p xs ≡ take k xs ∷ slice_split p (drop (k + 1) xs)) h.1
    (slice_split_first p xs 0 (ltb-true (position_or_len p xs) (length xs) h.0))

pub split_nowhere : (p : ℕ → Bool) (xs : List ℕ) → None ≡ position p xs → slice_split p xs ≡ xs ∷ []
split_nowhere p xs e =
    let h : nat_lt (position_or_len p xs) (length xs) ≡ false = cond_none (nat_lt (position_or_len p xs) (length xs)) (position_or_len p xs) (sym e) in
    let past : length xs ≤ position_or_len p xs = grind (arith, nat_tests) in
    slice_split_none p xs (λ k d l. fails_before_first p xs k d (omega arith))

-- what stands after a place, as a slice from there on
pub from_place : (n : ℕ) (xs : List ℕ) → take (length xs - n) (drop n xs) ≡ drop n xs
from_place n xs = take_all (length xs - n) (drop n xs) (omega (arith, length-drop n xs))

pub filled : (parts : List (List ℕ)) → 0 < length parts → (part : List ℕ) × (rest : List (List ℕ)) × (parts ≡ part ∷ rest)
filled [] h = absurd (omega arith)
filled (part ∷ rest) h = (part, rest, refl)

keep_first : (line part : List ℕ) (parts : List (List ℕ)) → without_empty_end (line ∷ part ∷ parts) ≡ line ∷ without_empty_end (part ∷ parts)
keep_first [] part parts = refl
keep_first (b ∷ bs) part parts = refl

abbrev is_end : ℕ → Bool
is_end b = b == 10

-- the first line ends at the first line feed
pub first_line_at : (xs : List ℕ) (i : ℕ) → Some i ≡ position (λ (b : ℕ). b == 10) xs → lines_of xs ≡ take i xs ∷ lines_of (take (length xs - (i + 1)) (drop (i + 1) xs))
first_line_at xs i e =
    let rest = drop (i + 1) xs in
    let more = filled (slice_split is_end rest) (omega (arith, length-slice_split is_end rest)) in
    rw (from_place (i + 1) xs) (ap without_empty_end (split_at_position is_end xs i e ∙ ap (λ ps. take i xs ∷ ps) more.2) ∙ (keep_first (take i xs) more.0 more.1 ∙ ap (λ ps. take i xs ∷ without_empty_end ps) (sym more.2)))

only_line : (xs : List ℕ) → (length xs ≡ 0 → ⊥) → without_empty_end (xs ∷ []) ≡ xs ∷ []
only_line [] h = absurd (h refl)
only_line (b ∷ bs) h = refl

-- a last line with no line feed
pub last_line : (xs : List ℕ) → None ≡ position (λ (b : ℕ). b == 10) xs → (length xs ≡ 0 → ⊥) → lines_of xs ≡ xs ∷ lines_of (take (length xs - length xs) (drop (length xs) xs))
last_line xs e h = rw (from_place (length xs) xs, drop-length xs) (ap without_empty_end (split_nowhere is_end xs e) ∙ only_line xs h)

pub first_word_at : (xs : List ℕ) (i : ℕ) → Some i ≡ position (λ (b : ℕ). b == 32) xs → words_of xs ≡ take i xs ∷ words_of (take (length xs - (i + 1)) (drop (i + 1) xs))
first_word_at xs i e = rw (from_place (i + 1) xs) (split_at_position (λ (b : ℕ). b == 32) xs i e)

-- ---- numbers

-- the value only grows
value_grows : (n : ℕ) (ds : List ℕ) → n ≤ value_after n ds
value_grows n [] = omega arith
value_grows n (d ∷ ds) = omega (arith, value_grows (10 * n + (d - 48)) ds)

refused : (a b : Bool) (n : ℕ) → b ≡ false → cond (a && b) (Some n) None ≡ None
refused true b n e = rw e refl
refused false b n e = refl

pub too_large : (ds rest : List ℕ) (n : ℕ) → value_after 0 ds ≡ value_after n rest → 2 ^ 64 ≤ n → number_of ds ≡ None
too_large ds rest n e h =
    let past : 2 ^ 64 ≤ value_after 0 ds = omega (arith, value_grows n rest) in
    let no : nat_lt (value_after 0 ds) (2 ^ 64) ≡ false = grind (arith, nat_tests) in
    refused (is_plain_decimal ds) (nat_lt (value_after 0 ds) (2 ^ 64)) (value_after 0 ds) no

pub accepted : (ds : List ℕ) (n : ℕ) → true ≡ is_plain_decimal ds → value_after 0 ds ≡ n → n < 2 ^ 64 → Some n ≡ number_of ds
accepted ds n p e h =
    let yes : nat_lt n (2 ^ 64) ≡ true = grind (arith, nat_tests) in
    rw (e, ← p, yes) refl

-- one more digit
pub next_digit : (n i : ℕ) (ds : List ℕ) → i < length ds → value_after n (drop i ds) ≡ value_after (10 * n + (get_or ds i 0 - 48)) (drop (i + 1) ds)
next_digit n i ds h = rw (add-one, drop-cons ds i 0) refl
