-- The names in the kit's list of recent use and those of them that are marked, as one is put in front, goes last or is taken out.
use Rattle.std.specs.Prelude.{◌≡◌, ◌-◌, ◌^◌, ◌<◌, ◌≤◌, ◌++◌, ◌&&◌, ◌∷◌, if◌then◌else◌}
use Rattle.channel_world_runs.proofs.Lemmas.{arith, Bool, List, [], length, true, false, Option, None, Some, is_some, refl, sym, ap, ◌∙◌, subst, inl, inr, count_by, keys_of, lookup, lookup_entry, remove_entry, take_all, map-append, LruCache, put_entries, demoted, same_waiter, is_among, without_waiter, Waiter, decided, same_sound, or_false, without_absent, first_apart, rest_apart, entry_is, keys_without, marked_places}
use Rattle.std.specs.List.{IsDistinct}
use Rattle.channel_world_runs.proofs.OwedCounts.{count_first}

-- how many are marked
pub marked_many : (es : List (Waiter × Bool)) → count_by (λ (e : Waiter × Bool). e.1) es ≡ length (marked_places es)
marked_many [] = refl
marked_many ((v, true) ∷ es) = let first = count_first (λ (e : Waiter × Bool). e.1) (v, true) es in omega (arith, first, marked_many es)
marked_many ((v, false) ∷ es) = let first = count_first (λ (e : Waiter × Bool). e.1) (v, false) es in omega (arith, first, marked_many es)

-- and pass a test
pub marked_pass : (test : Waiter → Bool) (es : List (Waiter × Bool))
    → count_by (λ (e : Waiter × Bool). e.1 && test e.0) es ≡ count_by test (marked_places es)
marked_pass test [] = refl
marked_pass test ((v, true) ∷ es) =
    let first = count_first (λ (e : Waiter × Bool). e.1 && test e.0) (v, true) es in
    let there = count_first test v (marked_places es) in
    omega (arith, first, there, marked_pass test es)
marked_pass test ((v, false) ∷ es) =
    let first = count_first (λ (e : Waiter × Bool). e.1 && test e.0) (v, false) es in omega (arith, first, marked_pass test es)

marked_last : (es : List (Waiter × Bool)) (v : Waiter) → marked_places (es ++ (v, true) ∷ []) ≡ marked_places es ++ v ∷ []
marked_last [] v = refl
marked_last ((x, true) ∷ es) v = ap (λ (xs : List Waiter). x ∷ xs) (marked_last es v)
marked_last ((x, false) ∷ es) v = marked_last es v

module _ (w : Waiter) where
  -- a name is among the names where it has an entry
  pub among_known : (es : List (Waiter × Bool)) → is_among w (keys_of es) ≡ is_some (lookup (same_waiter w) es)
  among_known [] = refl
  among_known (f ∷ es) = elim (decided (same_waiter w f.0)) [
    | inl t ↦ rw t refl
    | inr t ↦ rw t (among_known es)
  ]

  entry_known : (es : List (Waiter × Bool)) → is_among w (keys_of es) ≡ is_some (lookup_entry (same_waiter w) es)
  entry_known [] = refl
  entry_known (f ∷ es) = elim (decided (same_waiter w f.0)) [
    | inl t ↦ rw t refl
    | inr t ↦ rw t (entry_known es)
  ]

  -- a name without a place is not marked
  unmarked : (es : List (Waiter × Bool)) → is_among w (keys_of es) ≡ false → is_among w (marked_places es) ≡ false
  unmarked [] e = refl
  unmarked ((v, true) ∷ es) e = let h = or_false (same_waiter w v) (is_among w (keys_of es)) e in rw h.0 (unmarked es h.1)
  unmarked ((v, false) ∷ es) e = let h = or_false (same_waiter w v) (is_among w (keys_of es)) e in unmarked es h.1

  -- one is taken out
  pub marks_without : (es : List (Waiter × Bool)) → IsDistinct same_waiter (keys_of es)
      → marked_places (remove_entry (same_waiter w) es) ≡ without_waiter w (marked_places es)
  marks_without [] d = refl
  marks_without ((v, b) ∷ es) d = elim (decided (same_waiter w v)) [
    | inl t ↦
        let absent : is_among w (keys_of es) ≡ false =
        subst (λ (x : Waiter). is_among x (keys_of es) ≡ false) (sym (same_sound w v t)) (first_apart v (keys_of es) d) in
        let out = sym (without_absent w (marked_places es) (unmarked es absent)) in
        rw t (gone b t out)
    | inr t ↦ rw t (stays b t (marks_without es (rest_apart v (keys_of es) d)))
  ] where
    gone : (b : Bool) → same_waiter w v ≡ true → marked_places es ≡ without_waiter w (marked_places es)
        → marked_places es ≡ without_waiter w (if b then v ∷ marked_places es else marked_places es)
    gone true t out = rw t out
    gone false t out = out

    stays : (b : Bool) → same_waiter w v ≡ false → marked_places (remove_entry (same_waiter w) es) ≡ without_waiter w (marked_places es)
        → (if b then v ∷ marked_places (remove_entry (same_waiter w) es) else marked_places (remove_entry (same_waiter w) es))
        ≡ without_waiter w (if b then v ∷ marked_places es else marked_places es)
    stays true t h = rw t (ap (λ (xs : List Waiter). v ∷ xs) h)
    stays false t h = h

  module _ (c : LruCache Waiter Bool) (d : IsDistinct same_waiter (keys_of c.entries)) where
    abbrev es : List (Waiter × Bool)
    es = c.entries

    -- one that has a place from now on, and no mark
    pub put_unmarked : length c.entries < 2 ^ 63 → c.cap ≡ 2 ^ 64 - 1
        → (keys_of (put_entries same_waiter c w false) ≡ w ∷ without_waiter w (keys_of es))
        × (marked_places (put_entries same_waiter c w false) ≡ without_waiter w (marked_places es))
    put_unmarked short cap = by (lookup_entry (same_waiter w) es) refl
      where
        by : (o : Option (Waiter × Bool)) → lookup_entry (same_waiter w) es ≡ o
            → (keys_of (put_entries same_waiter c w false) ≡ w ∷ without_waiter w (keys_of es))
            × (marked_places (put_entries same_waiter c w false) ≡ without_waiter w (marked_places es))
        by (Some g) e =
            rw e (
              ap (λ (v : Waiter). v ∷ keys_of (remove_entry (same_waiter w) es)) (sym (same_sound w g.0 (entry_is w es g e)))
                  ∙ ap (λ (vs : List Waiter). w ∷ vs) (keys_without w es d),
              marks_without es d,
            )
        by None e =
            let fits : length c.entries ≤ c.cap - 1 = omega (arith, short, cap) in
            let absent : is_among w (keys_of es) ≡ false = entry_known es ∙ ap (λ (o : Option (Waiter × Bool)). is_some o) e in
            let all = take_all (c.cap - 1) es fits in
            rw (e, all) (ap (λ (vs : List Waiter). w ∷ vs) (sym (without_absent w (keys_of es) absent)), sym (without_absent w (marked_places es) (unmarked es absent)))

    -- one that has a place is marked, and goes last
    pub put_last : is_among w (keys_of es) ≡ true
        → (keys_of (demoted (same_waiter w) (put_entries same_waiter c w true)) ≡ without_waiter w (keys_of es) ++ w ∷ [])
        × (marked_places (demoted (same_waiter w) (put_entries same_waiter c w true)) ≡ without_waiter w (marked_places es) ++ w ∷ [])
    put_last there = by (lookup_entry (same_waiter w) es) refl
      where
        by : (o : Option (Waiter × Bool)) → lookup_entry (same_waiter w) es ≡ o
            → (keys_of (demoted (same_waiter w) (put_entries same_waiter c w true)) ≡ without_waiter w (keys_of es) ++ w ∷ [])
            × (marked_places (demoted (same_waiter w) (put_entries same_waiter c w true)) ≡ without_waiter w (marked_places es) ++ w ∷ [])
        by None e = cc (sym there ∙ (entry_known es ∙ ap (λ (o : Option (Waiter × Bool)). is_some o) e))
        by (Some g) e =
            let t = entry_is w es g e in
            let own = sym (same_sound w g.0 t) in
            rw (e, t) (
              map-append (λ (x : Waiter × Bool). x.0) (remove_entry (same_waiter w) es) ((g.0, true) ∷ [])
                  ∙ (ap (λ (l : List Waiter). l ++ g.0 ∷ []) (keys_without w es d) ∙ ap (λ (v : Waiter). without_waiter w (keys_of es) ++ v ∷ []) own),
              marked_last (remove_entry (same_waiter w) es) g.0
                  ∙ (ap (λ (l : List Waiter). l ++ g.0 ∷ []) (marks_without es d) ∙ ap (λ (v : Waiter). without_waiter w (marked_places es) ++ v ∷ []) own),
            )
