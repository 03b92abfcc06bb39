-- How many are told after a section on a list, and how they were told.
use Rattle.std.proofs.Common.{zero, suc, ◌≡◌, ℕ, ◌+◌, ◌-◌, ◌≤◌, Bool, true, false, if◌then◌else◌, min, List, [], ◌∷◌, ◌++◌, length, take, map, Option, None, Some, is_some, not, ◌⊎◌, ⊎_elim, inl, inr, refl, sym, ap, ◌∙◌, subst, arith, length-append}
use Rattle.std.specs.Map.{lookup, remove_entry}
use Rattle.channel_steps.proofs.every_run.Words.{Notice, same_key, told_as, waits_as, told_with, without, with_task, moved, passed, registration, removed, Key, Listeners, told_one, told_more, told_all, waits, AnyTold, EachTold, IsIn}
use Rattle.channel_steps.proofs.every_run.ListFacts.{removed_as, thin_drop, thin_told_more}
use mathlib.Core.Bool.{cond}

-- ---- one entry fewer

module _ {X : Type 0} where
  cut_less : (b : Bool) (w : Key × X) (ws vs : List (Key × X)) → length ws ≤ length vs + 1
      → length (w ∷ ws) ≤ length (cond b ws (w ∷ vs)) + 1
  cut_less true w ws vs h = omega arith
  cut_less false w ws vs h = omega (arith, h)

  -- at most one
  remove_less : (key : Key) (ws : List (Key × X)) → length ws ≤ length (remove_entry (same_key key) ws) + 1
  remove_less key [] = omega arith
  remove_less key (w ∷ ws) = cut_less (same_key key w.0) w ws (remove_entry (same_key key) ws) (remove_less key ws)

  cut_same : (b : Bool) (w : Key × X) (ws vs : List (Key × X)) (o : Option X) → (is_some o ≡ false → length vs ≡ length ws)
      → is_some (cond b (Some w.1) o) ≡ false
      → length (cond b ws (w ∷ vs)) ≡ length (w ∷ ws)
  cut_same true w ws vs o f e = absurd (let never : true ≡ false = e in cc)
  cut_same false w ws vs o f e = let h = f e in omega (arith, h)

  -- none where the key is not there
  remove_same : (key : Key) (ws : List (Key × X)) → is_some (lookup (same_key key) ws) ≡ false
      → length (remove_entry (same_key key) ws) ≡ length ws
  remove_same key [] e = refl
  remove_same key (w ∷ ws) e =
      cut_same (same_key key w.0) w ws (remove_entry (same_key key) ws) (lookup (same_key key) ws) (remove_same key ws) e

-- ---- how they were told

module _ (b : Bool) where
  abbrev Told : Type 0
  Told = List (Key × Notice Unit)

  any_join : (us vs : Told) → AnyTold b (us ++ vs) → AnyTold b us ⊎ AnyTold b vs
  any_join [] vs h = inr h
  any_join (u ∷ us) vs (inl h) = inl (inl h)
  any_join (u ∷ us) vs (inr h) = ⊎_elim (λ k. inl (inr k)) (λ k. inr k) (any_join us vs h)

  any_cut : (c : Bool) (w : Key × Notice Unit) (ws vs : Told) → (AnyTold b vs → AnyTold b ws) → AnyTold b (cond c ws (w ∷ vs))
      → AnyTold b (w ∷ ws)
  any_cut true w ws vs f h = inr h
  any_cut false w ws vs f (inl h) = inl h
  any_cut false w ws vs f (inr h) = inr (f h)

  any_removed : (key : Key) (ws : Told) → AnyTold b (remove_entry (same_key key) ws) → AnyTold b ws
  any_removed key [] h = h
  any_removed key (w ∷ ws) h = any_cut (same_key key w.0) w ws (remove_entry (same_key key) ws) (any_removed key ws) h

  found_at : (c : Bool) (w : Key × Notice Unit) (ws : Told) (o : Option (Notice Unit)) (n : Notice Unit)
      → (o ≡ Some n → n.additional ≡ b → AnyTold b ws)
      → cond c (Some w.1) o ≡ Some n → n.additional ≡ b → AnyTold b (w ∷ ws)
  found_at true w ws o n f e k =
      let found : Some w.1 ≡ Some n = e in
      let same : w.1 ≡ n = cc in
      inl (ap (λ (x : Notice Unit). x.additional) same ∙ k)
  found_at false w ws o n f e k = inr (f e k)

  -- the one under this key
  any_found : (key : Key) (ws : Told) (n : Notice Unit) → lookup (same_key key) ws ≡ Some n → n.additional ≡ b → AnyTold b ws
  any_found key [] n e k = absurd (let never : None ≡ Some n = e in cc)
  any_found key (w ∷ ws) n e k = found_at (same_key key w.0) w ws (lookup (same_key key) ws) n (any_found key ws n) e k

  any_with : {W : Type 0} → (a : Bool) (ws : List (Key × Option W)) (tags : List Unit) → AnyTold b (told_with a ws tags) → a ≡ b
  any_with a (w ∷ ws) (t ∷ ts) (inl h) = h
  any_with a (w ∷ ws) (t ∷ ts) (inr h) = any_with a ws ts h
  any_with a x tags h = absurd h

  module _ {W : Type 0} where
    or_so : {A : Type 0} → (a : Bool) (ws : List (Key × Option W)) (tags : List Unit) → A ⊎ AnyTold b (told_with a ws tags) → A
        ⊎ (a ≡ b)
    or_so a ws tags (inl h) = inl h
    or_so a ws tags (inr h) = inr (any_with a ws tags h)

    any_passed : (n : Notice Unit) (l : Listeners W) → AnyTold b (passed n l).told → AnyTold b l.told ⊎ (n.additional ≡ b)
    any_passed n l h =
        let tags = take (moved n.additional 1 l) (n.tag ∷ []) in
        or_so n.additional (take (length tags) l.waiting) tags
        (any_join l.told (told_with n.additional (take (length tags) l.waiting) tags) h)

    pub any_told_one : (l : Listeners W) → AnyTold b (told_one l).told → AnyTold b l.told ⊎ (true ≡ b)
    any_told_one l h = any_passed (record { additional = true; tag = tt }) l h

    pub any_told_more : (n : ℕ) (l : Listeners W) → AnyTold b (told_more n l).told → AnyTold b l.told ⊎ (true ≡ b)
    any_told_more zero l h = inl h
    any_told_more (suc n) l h = ⊎_elim (λ k. any_told_one l k) (λ e. inr e) (any_told_more n (told_one l) h)

    pub any_told_all : (l : Listeners W) → AnyTold b (told_all l).told → AnyTold b l.told ⊎ (false ≡ b)
    any_told_all l h =
        or_so false l.waiting (map (λ w. tt) l.waiting) (any_join l.told (told_with false l.waiting (map (λ w. tt) l.waiting)) h)

    any_removed_as : (o : Option (Notice Unit)) (c : Bool) (key : Key) (l : Listeners W) → told_as l key ≡ o
        → AnyTold b (removed_as o c key l).told → AnyTold b l.told
    any_removed_as (Some n) c key l e h =
        ⊎_elim (λ k. any_removed key l.told k) (λ k. any_found key l.told n e k) (any_passed n (without key l) h)
    any_removed_as None true key l e h = any_removed key l.told h
    any_removed_as None false key l e h = h

    pub any_after_removal : (key : Key) (l : Listeners W) → AnyTold b (removed key true l).told → AnyTold b l.told
    any_after_removal key l h = any_removed_as (told_as l key) (is_some (waits_as l key)) key l refl h

    any_register : (a c : Bool) (key : Key) (task : W) (l : Listeners W)
        → AnyTold b (if a then without key l else (if c then with_task key task l else l)).told → AnyTold b l.told
    any_register true c key task l h = any_removed key l.told h
    any_register false true key task l h = h
    any_register false false key task l h = h

    pub any_registration : (key : Key) (task : W) (l : Listeners W) → AnyTold b (registration key task l).told → AnyTold b l.told
    any_registration key task l h = any_register (is_some (told_as l key)) (is_some (waits_as l key)) key task l h

-- ---- each, and any

pub each_as : (P : Bool → Type 0) (ws : List (Key × Notice Unit)) → ((b : Bool) → AnyTold b ws → P b) → EachTold P ws
each_as P [] f = tt
each_as P (w ∷ ws) f = (f w.1.additional (inl refl), each_as P ws (λ b h. f b (inr h)))

pub any_as : (P : Bool → Type 0) (ws : List (Key × Notice Unit)) → EachTold P ws → (b : Bool) → AnyTold b ws → P b
any_as P [] h b k = absurd k
any_as P (w ∷ ws) h b (inl k) = subst P k h.0
any_as P (w ∷ ws) h b (inr k) = any_as P ws h.1 b k

-- ---- how many are told

abbrev waits_by : Bool → Bool → Bool
waits_by a b = elim (if a then Some true else (if b then Some false else None)) [ Some told ↦ not told | None ↦ false ]

module _ {W : Type 0} where
  abbrev tags_for : Bool → Unit {0} → List (Key × Notice Unit) → List (Key × Option W) → List (Unit {0})
  tags_for a tag told waiting = take (min (if a then 1 else 1 - length told) (length waiting)) (tag ∷ [])

  -- a notification for one more tells one where one waits
  one_more : (a : Bool) (tag : Unit {0}) (told : List (Key × Notice Unit)) (waiting : List (Key × Option W)) (key : Key)
      → a ≡ true → IsIn key waiting
      → length (told ++ told_with a (take (length (tags_for a tag told waiting)) waiting) (tags_for a tag told waiting))
      ≡ length told + 1
  one_more a tag told [] key e h = absurd h
  one_more true tag told (w ∷ ws) key e h =
      let one : min 1 (length (w ∷ ws)) ≡ 1 = omega arith in
      subst (λ (k : ℕ). length (told ++ told_with true (take (length (take k (tag ∷ []))) (w ∷ ws)) (take k (tag ∷ [])))
      ≡ length told + 1)
      (sym one) (length-append told ((w.0, record { additional = true; tag = tag }) ∷ []))
  one_more false tag told (w ∷ ws) key e h = absurd (let never : false ≡ true = e in cc)

  passed_one : (n : Notice Unit) (key : Key) (l : Listeners W) → n.additional ≡ true → IsIn key (passed n l).waiting
      → length (passed n l).told ≡ length l.told + 1
  passed_one n key l e h =
      let f = thin_drop (length (take (moved n.additional 1 l) (n.tag ∷ []))) l.waiting in
      one_more n.additional n.tag l.told l.waiting key e (f.0 key h)

  -- one more is told, where one waits still
  pub told_one_counts : (key : Key) (l : Listeners W) → IsIn key (told_one l).waiting
      → length (told_one l).told ≡ length l.told + 1
  told_one_counts key l h = passed_one (record { additional = true; tag = tt }) key l refl h

  -- and so many more
  pub told_more_counts : (n : ℕ) (key : Key) (l : Listeners W) → IsIn key (told_more n l).waiting
      → length (told_more n l).told ≡ length l.told + n
  told_more_counts zero key l h = omega arith
  told_more_counts (suc n) key l h =
      let rest = told_more_counts n key (told_one l) h in
      let thin = thin_told_more n (told_one l) in
      let one = told_one_counts key l (thin.0 key h) in
      omega (arith, rest, one)

  passed_counts : (b : Bool) (n : Notice Unit) (key k : Key) (l : Listeners W) → n.additional ≡ b → told_as l key ≡ Some n
      → IsIn k (passed n (without key l)).waiting
      → (length l.told ≤ length (passed n (without key l)).told) ⊎ AnyTold false l.told
  passed_counts true n key k l so e h =
      let fewer = remove_less key l.told in
      let one = passed_one n k (without key l) so h in
      inl (omega (arith, fewer, one))
  passed_counts false n key k l so e h = inr (any_found false key l.told n e so)

  removed_counts_as : (o : Option (Notice Unit)) (b : Bool) (key k : Key) (l : Listeners W) → told_as l key ≡ o
      → IsIn k (removed_as o b key l).waiting
      → (length l.told ≤ length (removed_as o b key l).told) ⊎ AnyTold false l.told
  removed_counts_as (Some n) b key k l e h = passed_counts n.additional n key k l refl e h
  removed_counts_as None true key k l e h = let same = remove_same key l.told (ap is_some e) in inl (omega (arith, same))
  removed_counts_as None false key k l e h = inl (omega arith)

  -- one that leaves passes its notification on where one waits still, unless it was told by the default
  pub removed_counts : (key k : Key) (l : Listeners W) → IsIn k (removed key true l).waiting
      → (length l.told ≤ length (removed key true l).told) ⊎ AnyTold false l.told
  removed_counts key k l h = removed_counts_as (told_as l key) (is_some (waits_as l key)) key k l refl h

  register_counts : (a b : Bool) (key : Key) (task : W) (l : Listeners W)
      → (length l.told ≤ length (if a then without key l else (if b then with_task key task l else l)).told)
      ⊎ ((waits_by a b ≡ false) × (length l.told ≤ length
      (if a then without key l else (if b then with_task key task l else l)).told + 1))
  register_counts true b key task l = inr (refl, remove_less key l.told)
  register_counts false true key task l = inl (omega arith)
  register_counts false false key task l = inl (omega arith)

  -- one that asks takes its notification away, and then does not wait
  pub registered_counts : (key : Key) (task : W) (l : Listeners W)
      → (length l.told ≤ length (registration key task l).told)
      ⊎ ((waits key l ≡ false) × (length l.told ≤ length (registration key task l).told + 1))
  registered_counts key task l = register_counts (is_some (told_as l key)) (is_some (waits_as l key)) key task l
