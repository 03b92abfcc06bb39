-- A listener that was just added waits, and a line that was just set is as it was set.
use Rattle.std.proofs.Common.{◌≡◌, not, Bool, true, false, if◌then◌else◌, List, [], ◌∷◌, ◌++◌, Option, None, Some, is_some, refl, sym, subst, arith}
use Rattle.std.proofs.lemmas.Bool.Decides.{nat_tests}
use Rattle.std.specs.Map.{lookup}
use Rattle.channel_steps.proofs.Words.{Key, kind_of, listened, Listeners, WaitLists, listeners, with_listeners, waits, WaitList, Sends, told_as, waits_as, same_key}

same_as_itself : (key : Key) → same_key key key ≡ true
same_as_itself key = grind (arith, nat_tests)

untold : (told waiting : Bool) → (if told then Some true else (if waiting then Some false else None)) ≡ None → told ≡ false
untold true waiting e = absurd cc
untold false waiting e = refl

waits_by : (told waiting : Bool) → told ≡ false → waiting ≡ true → (if told then Some true else (if waiting then Some false else None)) ≡ Some false
waits_by true waiting e f = absurd cc
waits_by false true e f = refl
waits_by false false e f = absurd cc

found_by : {A : Type 0} (b : Bool) (x : A) (o : Option A) → is_some o ≡ true → is_some (if b then Some x else o) ≡ true
found_by true x o h = refl
found_by false x o h = h

module _ {W : Type 0} where
  found_last : (key : Key) (xs : List (Key × Option W)) → is_some (lookup (same_key key) (xs ++ (key, None) ∷ [])) ≡ true
  found_last key [] = rw (same_as_itself key) refl
  found_last key (x ∷ xs) = found_by (same_key key x.0) x.1 _ (found_last key xs)

  pub fresh_waits : (key : Key) (l : Listeners W) → kind_of l key ≡ None → waits key (listened key l) ≡ true
  fresh_waits key l none =
      let a : is_some (told_as l key) ≡ false = untold (is_some (told_as l key)) (is_some (waits_as l key)) none in
      let b : is_some (waits_as (listened key l) key) ≡ true = found_last key l.waiting in
      let k : kind_of (listened key l) key ≡ Some false = waits_by (is_some (told_as l key)) (is_some (waits_as (listened key l) key)) a b in
      subst (λ (x : Option Bool). (elim x [ Some told ↦ not told | None ↦ false ]) ≡ true) (sym k) refl

  pub same_line : (line : WaitList) (l : Listeners W) (a : WaitLists W) → listeners line (with_listeners line l a) ≡ l
  same_line Sends l a = refl
  same_line line l a = refl
