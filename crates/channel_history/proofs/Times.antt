-- How often a list has a listener under a key after each thing that is done to the list.
use Rattle.std.proofs.Common.{◌≡◌, ℕ, zero, suc, ◌+◌, ◌≤◌, Bool, true, false, cond, List, [], ◌∷◌, length, take, drop, map, is_some, if◌then◌else◌, refl, sym, ap, ◌∙◌, true≢false, arith}
use Rattle.std.proofs.lemmas.Bool.Decides.{nat_tests}
use Rattle.std.specs.Prelude.{not, Option, None, Some}
use Rattle.std.specs.Map.{lookup, remove_entry, set_value}
use Rattle.event_listener.specs.Lists.{Notice, same_key, told_as, waits_as, kind_of, listened, without, with_task, told_with, moved, notified, passed, registration, removed}
use Rattle.event_listener.specs.declared.key.Key.{Key}
use Rattle.channel_calls.specs.Parts.{Listeners, told_as as told_by_telling, told_more, told_one, Registers}
use Rattle.channel_calls.specs.declared.stage.Telling.{Telling}
use Rattle.channel_calls.specs.declared.stage.Telling.TheVariants.{One, More, All}
use Rattle.channel_steps.specs.every_run.Closed.{one_if}
use Rattle.channel_history.specs.History.{total, is_key, times}
use Rattle.channel_history.proofs.Together.{total_on}

pub same_is : (a b : Key) → same_key a b ≡ true → a ≡ b
same_is a b e =
    let slots : a.slot ≡ b.slot = grind (arith, nat_tests, e) in
    let serials : a.serial ≡ b.serial = grind (arith, nat_tests, e) in
    ap (λ (n : ℕ). let k : Key = record { slot = n; serial = a.serial } in k) slots ∙ ap (λ (n : ℕ). let k : Key = record { slot = b.slot; serial = n } in k) serials

-- ---- entries

module _ {X : Type 0} where
  pub absent : (k : Key) (es : List (Key × X)) → is_some (lookup (same_key k) es) ≡ false → total (is_key k) es ≡ 0
  absent k [] e = refl
  absent k (x ∷ xs) e = by (absent k xs) (same_key k x.0) refl e where
    by : (is_some (lookup (same_key k) xs) ≡ false → total (is_key k) xs ≡ 0) → (b : Bool) → same_key k x.0 ≡ b → is_some (cond b (Some x.1) (lookup (same_key k) xs)) ≡ false → one_if (same_key k x.0) + total (is_key k) xs ≡ 0
    by more true same none = absurd (true≢false none)
    by more false other none = let here = ap one_if other in let rest = more none in omega (arith, here, rest)

  pub present : (k : Key) (es : List (Key × X)) → is_some (lookup (same_key k) es) ≡ true → 1 ≤ total (is_key k) es
  present k [] e = absurd (true≢false (sym e))
  present k (x ∷ xs) e = by (present k xs) (same_key k x.0) refl e where
    by : (is_some (lookup (same_key k) xs) ≡ true → 1 ≤ total (is_key k) xs) → (b : Bool) → same_key k x.0 ≡ b → is_some (cond b (Some x.1) (lookup (same_key k) xs)) ≡ true → 1 ≤ one_if (same_key k x.0) + total (is_key k) xs
    by more true same some = let here = ap one_if same in omega (arith, here)
    by more false other some = let rest = more some in omega (arith, rest)

  module _ (k key : Key) where
    out_some : (es : List (Key × X)) → is_some (lookup (same_key key) es) ≡ true → total (is_key k) (remove_entry (same_key key) es) + one_if (same_key k key) ≡ total (is_key k) es
    out_some [] e = absurd (true≢false (sym e))
    out_some (x ∷ xs) e = by (out_some xs) (same_key key x.0) refl e where
      by : (is_some (lookup (same_key key) xs) ≡ true → total (is_key k) (remove_entry (same_key key) xs) + one_if (same_key k key) ≡ total (is_key k) xs)
          → (b : Bool) → same_key key x.0 ≡ b → is_some (cond b (Some x.1) (lookup (same_key key) xs)) ≡ true
          → total (is_key k) (cond b xs (x ∷ remove_entry (same_key key) xs)) + one_if (same_key k key) ≡ one_if (same_key k x.0) + total (is_key k) xs
      by more true same some = let like = ap one_if (ap (λ (y : Key). same_key k y) (same_is key x.0 same)) in omega (arith, like)
      by more false other some = let rest = more some in omega (arith, rest)

    out_none : (es : List (Key × X)) → is_some (lookup (same_key key) es) ≡ false → total (is_key k) (remove_entry (same_key key) es) ≡ total (is_key k) es
    out_none [] e = refl
    out_none (x ∷ xs) e = by (out_none xs) (same_key key x.0) e where
      by : (is_some (lookup (same_key key) xs) ≡ false → total (is_key k) (remove_entry (same_key key) xs) ≡ total (is_key k) xs) → (b : Bool) → is_some (cond b (Some x.1) (lookup (same_key key) xs)) ≡ false → total (is_key k) (cond b xs (x ∷ remove_entry (same_key key) xs)) ≡ one_if (same_key k x.0) + total (is_key k) xs
      by more true none = absurd (true≢false none)
      by more false none = ap (λ (n : ℕ). one_if (same_key k x.0) + n) (more none)

    stored : (es : List (Key × X)) (w : X) → total (is_key k) (set_value (same_key key) es w) ≡ total (is_key k) es
    stored [] w = refl
    stored (x ∷ xs) w = by (stored xs w) (same_key key x.0) where
      by : total (is_key k) (set_value (same_key key) xs w) ≡ total (is_key k) xs → (b : Bool) → total (is_key k) (cond b ((x.0, w) ∷ xs) (x ∷ set_value (same_key key) xs w)) ≡ one_if (same_key k x.0) + total (is_key k) xs
      by rest true = refl
      by rest false = ap (λ (n : ℕ). one_if (same_key k x.0) + n) rest

-- ---- lists

module _ {W : Type 0} (k : Key) where
  told_over : (a : Bool) (ws : List (Key × Option W)) (ts : List Unit)
      → total (is_key k) (told_with a (take (length ts) ws) ts) + total (is_key k) (drop (length ts) ws) ≡ total (is_key k) ws
  told_over a [] [] = omega arith
  told_over a [] (t ∷ ts) = omega arith
  told_over a (w ∷ ws) [] = omega arith
  told_over a (w ∷ ws) (t ∷ ts) = let rest = told_over a ws ts in omega (arith, rest)

  all_over : (ws : List (Key × Option W)) → total (is_key k) (told_with false ws (map (λ w. tt {0}) ws)) ≡ total (is_key k) ws
  all_over [] = refl
  all_over (w ∷ ws) = ap (λ (n : ℕ). one_if (same_key k w.0) + n) (all_over ws)

  notified_same : (a : Bool) (tags : List Unit) (l : Listeners W) → times k (notified a tags l) ≡ times k l
  notified_same a tags l =
      let on = total_on (is_key k) l.told (told_with a (take (length tags) l.waiting) tags) in
      let over = told_over a l.waiting tags in
      omega (arith, on, over)

  passed_same : (notice : Notice Unit) (l : Listeners W) → times k (passed notice l) ≡ times k l
  passed_same notice l = notified_same notice.additional (take (moved notice.additional 1 l) (notice.tag ∷ [])) l

  more_same : (n : ℕ) (l : Listeners W) → times k (told_more n l) ≡ times k l
  more_same zero l = refl
  more_same (suc n) l = more_same n (told_one l) ∙ passed_same (record { additional = true; tag = tt }) l

  pub told_same : (telling : Telling) (l : Listeners W) → times k (told_by_telling telling l) ≡ times k l
  told_same One l = passed_same (record { additional = true; tag = tt }) l
  told_same (More n) l = more_same n l
  told_same All l =
      let on = total_on (is_key k) l.told (told_with false l.waiting (map (λ w. tt {0}) l.waiting)) in
      let over = all_over l.waiting in
      omega (arith, on, over)

  pub listened_more : (key : Key) (l : Listeners W) → times k (listened key l) ≡ times k l + one_if (same_key k key)
  listened_more key l = let on = total_on (is_key k) l.waiting ((key, None) ∷ []) in omega (arith, on)

module _ {W : Type 0} (key : Key) (l : Listeners W) where
  abbrev kind : Bool → Bool → Option Bool
  kind a b = if a then Some true else (if b then Some false else None)

  none_both : (a b : Bool) → kind a b ≡ None → (a ≡ false) × (b ≡ false)
  none_both true b e = absurd (cc)
  none_both false true e = absurd (cc)
  none_both false false e = (refl, refl)

  -- one that is not listed is not there
  pub unlisted : kind_of l key ≡ None → times key l ≡ 0
  unlisted e =
      let both = none_both (is_some (told_as l key)) (is_some (waits_as l key)) e in
      let told = absent key l.told both.0 in
      let waiting = absent key l.waiting both.1 in
      omega (arith, told, waiting)

module _ {W : Type 0} (k key : Key) (l : Listeners W) where
  abbrev Out : Listeners W → Type 0
  Out m = times k m + one_if (same_key k key) ≡ times k l

  module _ (there : 1 ≤ times key l) (once : times key l ≤ 1) where
    told_out : is_some (told_as l key) ≡ true → Out (without key l)
    told_out e = by (is_some (waits_as l key)) refl where
      by : (b : Bool) → is_some (waits_as l key) ≡ b → Out (without key l)
      by true f = let a = present key l.told e in let b = present key l.waiting f in absurd (omega (arith, a, b, once))
      by false f = let a = out_some k key l.told e in let b = out_none k key l.waiting f in omega (arith, a, b)

    waiting_out : is_some (told_as l key) ≡ false → is_some (waits_as l key) ≡ true → Out (without key l)
    waiting_out e f = let a = out_none k key l.told e in let b = out_some k key l.waiting f in omega (arith, a, b)

    nowhere : is_some (told_as l key) ≡ false → is_some (waits_as l key) ≡ false → ⊥
    nowhere e f = let a = absent key l.told e in let b = absent key l.waiting f in absurd (omega (arith, a, b, there))

    abbrev removed_as : Option (Notice Unit) → Bool → Listeners W
    removed_as o b = elim o [ Some notice ↦ passed notice (without key l) | None ↦ (if b then without key l else l) ]

    pub removed_out : Out (removed key true l)
    removed_out = by (told_as l key) refl (is_some (waits_as l key)) refl where
      by : (o : Option (Notice Unit)) → told_as l key ≡ o → (b : Bool) → is_some (waits_as l key) ≡ b → Out (removed_as o b)
      by (Some notice) e b f =
          ap (λ (n : ℕ). n + one_if (same_key k key)) (passed_same k notice (without key l)) ∙ told_out (ap (λ (o : Option (Notice Unit)). is_some o) e)
      by None e true f = waiting_out (ap (λ (o : Option (Notice Unit)). is_some o) e) f
      by None e false f = absurd (nowhere (ap (λ (o : Option (Notice Unit)). is_some o) e) f)

    abbrev registered_as : W → Bool → Bool → Listeners W
    registered_as task a b = if a then without key l else (if b then with_task key task l else l)

    abbrev waits_so : Bool → Bool → Bool
    waits_so a b = elim (if a then Some true else (if b then Some false else None)) [ Some told ↦ not told | None ↦ false ]

    -- one that doesn't wait was told, and is gone
    pub registered_out : (task back : W) → Registers l key task (Some back) → Out (registration key task l)
    registered_out task back h = by (is_some (told_as l key)) refl (is_some (waits_as l key)) refl h.1 where
      by : (a : Bool) → is_some (told_as l key) ≡ a → (b : Bool) → is_some (waits_as l key) ≡ b → waits_so a b ≡ false → Out (registered_as task a b)
      by true e b f w = told_out e
      by false e true f w = absurd (true≢false w)
      by false e false f w = absurd (nowhere e f)

    pub registered_same : (task : W) → Registers l key task None → times k (registration key task l) ≡ times k l
    registered_same task h = by (is_some (told_as l key)) (is_some (waits_as l key)) h where
      by : (a b : Bool) → waits_so a b ≡ true → times k (registered_as task a b) ≡ times k l
      by true b w = absurd (true≢false (sym w))
      by false true w = ap (λ (n : ℕ). total (is_key k) l.told + n) (stored k key l.waiting (Some task))
      by false false w = absurd (true≢false (sym w))
