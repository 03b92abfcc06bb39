-- A table of names with one more.
use Rattle.std.proofs.Common.{arith, ◌≡◌, ℕ, ◌+◌, ◌≤◌, nat_lt, List, [], ◌∷◌, ◌++◌, length, Option, Some, None, Bool, true, false, cond, position, length-append, refl, sym, subst, ◌∙◌}
use Rattle.std.specs.List.{position_or_len}
use Rattle.std.specs.Str.{bytes_eq}
use Rattle.std.proofs.lemmas.List.Folds.{position_or_len_push}
use Rattle.std.proofs.lemmas.List.Sums.{prefix_len-le-length}
use Rattle.std.proofs.lemmas.Slice.Eq.{bytes_eq-Decides}
use Rattle.std.proofs.lemmas.Bool.Decides.{nat_tests}
use Rattle.std.proofs.Math.Dec.{eqb}
use Rattle.channel_world_language.specs.Words.{Name}
use Rattle.channel_world_language.specs.Table.{Table, number_in}
use Rattle.channel_world_language.specs.declared.table.Sort.{Sort}

-- a place k of n, where the next element passes (b) or not
place_pushed : (k n j m : ℕ) (b : Bool) → k ≤ n → j ≡ cond (eqb k n) (n + cond b 0 1) k → m ≡ n + 1 → cond (nat_lt j m) (Some j) None ≡ cond (nat_lt k n) (Some k) (cond b (Some n) None)
place_pushed k n j m true h e f = grind (arith, nat_tests)
place_pushed k n j m false h e f = grind (arith, nat_tests)

position-push : {X : Type 0} (p : X → Bool) (xs : List X) (y : X) → position p (xs ++ y ∷ []) ≡ cond (nat_lt (position_or_len p xs) (length xs)) (Some (position_or_len p xs)) (cond (p y) (Some (length xs)) None)
position-push p xs y =
    place_pushed (position_or_len p xs) (length xs) (position_or_len p (xs ++ y ∷ [])) (length (xs ++ y ∷ [])) (p y) (prefix_len-le-length _ xs) (position_or_len_push p xs y) (length-append xs (y ∷ []))

none_first : (b : Bool) (k : ℕ) (o : Option ℕ) → cond b (Some k) None ≡ None → cond b (Some k) o ≡ o
none_first true k o e = cc
none_first false k o e = refl

decided : (a b : Bool) → (a ≡ true → b ≡ true) → (b ≡ true → a ≡ true) → a ≡ b
decided true b f g = sym (f refl)
decided false true f g = g refl
decided false false f g = refl

same_either_way : (a b : List ℕ) → bytes_eq a b ≡ bytes_eq b a
same_either_way a b = decided (bytes_eq a b) (bytes_eq b a) (λ h. (bytes_eq-Decides b a).1 (sym ((bytes_eq-Decides a b).0 h))) (λ h. (bytes_eq-Decides a b).1 (sym ((bytes_eq-Decides b a).0 h)))

by_test : (a b : Bool) (table : Table) (key name : Name) → a ≡ b → (a ≡ true → key ≡ name) → number_in table key ≡ None
    → cond (nat_lt (position_or_len (λ e. bytes_eq name e.0) table) (length table)) (Some (position_or_len (λ e. bytes_eq name e.0) table)) (cond b (Some (length table)) None) ≡ cond a (Some (length table)) (number_in table name)
by_test true b table key name e f h =
    rw (← e) (none_first _ _ _ (subst (λ (k : Name). number_in table k ≡ None) (f refl) h))
by_test false b table key name e f h = rw (← e) refl

-- a name that was not given before is given the next number
pub number_given : (table : Table) (key : Name) (sort : Sort) (name : Name) → number_in table key ≡ None → number_in (table ++ (key, sort) ∷ []) name ≡ cond (bytes_eq key name) (Some (length table)) (number_in table name)
number_given table key sort name e =
    position-push (λ e. bytes_eq name e.0) table (key, sort)
    ∙ by_test (bytes_eq key name) (bytes_eq name key) table key name (same_either_way key name) (bytes_eq-Decides key name).0 e
