-- Who still waits after a section on a list.
use Rattle.std.proofs.Common.{◌≡◌, ℕ, zero, suc, Bool, true, false, if◌then◌else◌, List, [], ◌∷◌, ◌++◌, length, drop, take, Option, None, Some, is_some, ◌⊎◌, ⊎_elim, inl, inr, refl, sym, ap, ◌∙◌, subst, arith}
use Rattle.std.proofs.lemmas.Bool.Decides.{nat_tests}
use Rattle.std.specs.Map.{lookup, remove_entry, set_value}
use Rattle.channel_steps.proofs.every_run.Words.{Notice, same_key, told_as, waits_as, kind_of, without, with_task, moved, passed, registration, removed, Key, Listeners, told_one, told_more, told_all, IsIn, Apart}
use mathlib.Core.Bool.{cond}

same_is : (a b : Key) → same_key a b ≡ true → a ≡ b
same_is a b e =
    let slots : a.slot ≡ b.slot = grind (arith, nat_tests, e) in
    let serials : a.serial ≡ b.serial = grind (arith, nat_tests, e) in
    ap (λ n. let k : Key = record { slot = n; serial = a.serial } in k) slots ∙ ap (λ n. let k : Key = record { slot = b.slot; serial = n } in k) serials

same_self : (a : Key) → same_key a a ≡ true
same_self a = grind (arith, nat_tests)

kind_none : (a b : Bool) → (if a then Some true else (if b then Some false else None)) ≡ None → b ≡ false
kind_none true b e = absurd cc
kind_none false true e = absurd cc
kind_none false false e = refl

module _ {W : Type 0} where
  is_found : (key : Key) (b : Bool) (w : Key × Option W) (ws : List (Key × Option W)) → same_key key w.0 ≡ b → (is_some (lookup (same_key key) ws) ≡ false → IsIn key ws → ⊥)
      → is_some (cond b (Some w.1) (lookup (same_key key) ws)) ≡ false → IsIn key (w ∷ ws) → ⊥
  is_found key true w ws same f e h = absurd (let never : true ≡ false = e in cc)
  is_found key false w ws same f e (inl h) = absurd (let never : true ≡ false = sym (same_self key) ∙ (ap (λ (k : Key). same_key key k) (sym h) ∙ same) in cc)
  is_found key false w ws same f e (inr h) = f e h

  pub unlisted : (key : Key) (ws : List (Key × Option W)) → is_some (lookup (same_key key) ws) ≡ false → IsIn key ws → ⊥
  unlisted key [] e h = h
  unlisted key (w ∷ ws) e h = is_found key (same_key key w.0) w ws refl (unlisted key ws) e h

  -- nobody comes in, and none stands twice where none did
  abbrev pub Thinner : List (Key × Option W) → List (Key × Option W) → Type 0
  Thinner ws vs = ((key : Key) → IsIn key vs → IsIn key ws) × (Apart ws → Apart vs)

  pub thin_same : (ws : List (Key × Option W)) → Thinner ws ws
  thin_same ws = (λ key h. h, λ h. h)

  thin_both : (us vs ws : List (Key × Option W)) → Thinner us vs → Thinner vs ws → Thinner us ws
  thin_both us vs ws f g = (λ key h. f.0 key (g.0 key h), λ h. g.1 (f.1 h))

  pub thin_drop : (n : ℕ) (ws : List (Key × Option W)) → Thinner ws (drop n ws)
  thin_drop zero ws = thin_same ws
  thin_drop (suc n) [] = thin_same []
  thin_drop (suc n) (w ∷ ws) = let f = thin_drop n ws in (λ key h. inr (f.0 key h), λ h. f.1 h.1)

  kept_in : (key : Key) (w : Key × Option W) (ws vs : List (Key × Option W)) → (IsIn key vs → IsIn key ws) → IsIn key (w ∷ vs) → IsIn key (w ∷ ws)
  kept_in key w ws vs f (inl h) = inl h
  kept_in key w ws vs f (inr h) = inr (f h)

  thin_cut : (b : Bool) (w : Key × Option W) (ws vs : List (Key × Option W)) → Thinner ws vs → Thinner (w ∷ ws) (cond b ws (w ∷ vs))
  thin_cut true w ws vs f = (λ key h. inr h, λ h. h.1)
  thin_cut false w ws vs f = (λ key h. kept_in key w ws vs (f.0 key) h, λ h. (λ i. h.0 (f.0 w.0 i), f.1 h.1))

  thin_remove : (key : Key) (ws : List (Key × Option W)) → Thinner ws (remove_entry (same_key key) ws)
  thin_remove key [] = thin_same []
  thin_remove key (w ∷ ws) = thin_cut (same_key key w.0) w ws (remove_entry (same_key key) ws) (thin_remove key ws)

  thin_put : (b : Bool) (w : Key × Option W) (x : Option W) (ws vs : List (Key × Option W)) → Thinner ws vs → Thinner (w ∷ ws) (cond b ((w.0, x) ∷ ws) (w ∷ vs))
  thin_put true w x ws vs f = (λ key h. h, λ h. h)
  thin_put false w x ws vs f = (λ key h. kept_in key w ws vs (f.0 key) h, λ h. (λ i. h.0 (f.0 w.0 i), f.1 h.1))

  thin_set : (key : Key) (x : Option W) (ws : List (Key × Option W)) → Thinner ws (set_value (same_key key) ws x)
  thin_set key x [] = thin_same []
  thin_set key x (w ∷ ws) = thin_put (same_key key w.0) w x ws (set_value (same_key key) ws x) (thin_set key x ws)

  gone_at : (key : Key) (b : Bool) (w : Key × Option W) (ws : List (Key × Option W)) → same_key key w.0 ≡ b → Apart (w ∷ ws) → (IsIn key (remove_entry (same_key key) ws) → ⊥)
      → IsIn key (cond b ws (w ∷ remove_entry (same_key key) ws)) → ⊥
  gone_at key true w ws same apart f h = apart.0 (subst (λ (k : Key). IsIn k ws) (same_is key w.0 same) h)
  gone_at key false w ws same apart f (inl h) = absurd (let never : true ≡ false = sym (same_self key) ∙ (ap (λ (k : Key). same_key key k) (sym h) ∙ same) in cc)
  gone_at key false w ws same apart f (inr h) = f h

  gone : (key : Key) (ws : List (Key × Option W)) → Apart ws → IsIn key (remove_entry (same_key key) ws) → ⊥
  gone key [] apart h = h
  gone key (w ∷ ws) apart h = gone_at key (same_key key w.0) w ws refl apart (gone key ws apart.1) h

  -- ---- a listener comes in

  pub in_more : (key : Key) (w : Key × Option W) (ws : List (Key × Option W)) → IsIn key (ws ++ w ∷ []) → IsIn key ws ⊎ (w.0 ≡ key)
  in_more key w [] (inl h) = inr h
  in_more key w [] (inr h) = absurd h
  in_more key w (x ∷ ws) (inl h) = inl (inl h)
  in_more key w (x ∷ ws) (inr h) = ⊎_elim (λ k. inl (inr k)) (λ k. inr k) (in_more key w ws h)

  pub apart_more : (w : Key × Option W) (ws : List (Key × Option W)) → (IsIn w.0 ws → ⊥) → Apart ws → Apart (ws ++ w ∷ [])
  apart_more w [] f h = (λ i. i, tt)
  apart_more w (x ∷ ws) f h = (λ i. ⊎_elim (λ k. h.0 k) (λ e. f (inl (sym e))) (in_more x.0 w ws i), apart_more w ws (λ i. f (inr i)) h.1)

  -- ---- the sections

  pub thin_told_one : (l : Listeners W) → Thinner l.waiting (told_one l).waiting
  thin_told_one l = thin_drop (length (take (moved true 1 l) (tt ∷ []))) l.waiting

  pub thin_told_more : (n : ℕ) (l : Listeners W) → Thinner l.waiting (told_more n l).waiting
  thin_told_more zero l = thin_same l.waiting
  thin_told_more (suc n) l =
      thin_both l.waiting (told_one l).waiting (told_more n (told_one l)).waiting (thin_told_one l) (thin_told_more n (told_one l))

  pub thin_told_all : (l : Listeners W) → Thinner l.waiting (told_all l).waiting
  thin_told_all l = (λ key h. absurd h, λ h. tt)

  thin_passed : (n : Notice Unit) (key : Key) (l : Listeners W) → Thinner l.waiting (passed n (without key l)).waiting
  thin_passed n key l =
      thin_both l.waiting (remove_entry (same_key key) l.waiting) (passed n (without key l)).waiting
      (thin_remove key l.waiting)
      (thin_drop (length (take (moved n.additional 1 (without key l)) (n.tag ∷ []))) (remove_entry (same_key key) l.waiting))

  thin_register : (a b : Bool) (key : Key) (task : W) (l : Listeners W) → Thinner l.waiting (if a then without key l else (if b then with_task key task l else l)).waiting
  thin_register true b key task l = thin_remove key l.waiting
  thin_register false true key task l = thin_set key (Some task) l.waiting
  thin_register false false key task l = thin_same l.waiting

  pub thin_registration : (key : Key) (task : W) (l : Listeners W) → Thinner l.waiting (registration key task l).waiting
  thin_registration key task l = thin_register (is_some (told_as l key)) (is_some (waits_as l key)) key task l

  abbrev pub removed_as : Option (Notice Unit) → Bool → Key → Listeners W → Listeners W
  removed_as o b key l = elim o [ Some notice ↦ (if true then passed notice (without key l) else without key l) | None ↦ (if b then without key l else l) ]

  thin_removed_as : (o : Option (Notice Unit)) (b : Bool) (key : Key) (l : Listeners W) → Thinner l.waiting (removed_as o b key l).waiting
  thin_removed_as (Some n) b key l = thin_passed n key l
  thin_removed_as None true key l = thin_remove key l.waiting
  thin_removed_as None false key l = thin_same l.waiting

  pub thin_removed : (key : Key) (l : Listeners W) → Thinner l.waiting (removed key true l).waiting
  thin_removed key l = thin_removed_as (told_as l key) (is_some (waits_as l key)) key l

  gone_as : (o : Option (Notice Unit)) (b : Bool) (key : Key) (l : Listeners W) → is_some (waits_as l key) ≡ b → Apart l.waiting → IsIn key (removed_as o b key l).waiting → ⊥
  gone_as (Some n) b key l e apart h =
      let f = thin_drop (length (take (moved n.additional 1 (without key l)) (n.tag ∷ []))) (remove_entry (same_key key) l.waiting) in
      gone key l.waiting apart (f.0 key h)
  gone_as None true key l e apart h = gone key l.waiting apart h
  gone_as None false key l e apart h = unlisted key l.waiting e h

  -- one that leaves waits no more
  pub removed_leaves : (key : Key) (l : Listeners W) → Apart l.waiting → IsIn key (removed key true l).waiting → ⊥
  removed_leaves key l apart h = gone_as (told_as l key) (is_some (waits_as l key)) key l refl apart h

  -- one that comes in did not wait
  pub newcomer : (key : Key) (l : Listeners W) → kind_of l key ≡ None → IsIn key l.waiting → ⊥
  newcomer key l e h = unlisted key l.waiting (kind_none (is_some (told_as l key)) (is_some (waits_as l key)) e) h
