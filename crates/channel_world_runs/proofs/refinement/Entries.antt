-- Entries of listeners beside the names that they show.
use Rattle.std.specs.Prelude.{◌≡◌, ◌≤◌, ◌∷◌, ◌++◌}
use Rattle.channel_world_runs.proofs.Words.{AllZip, ShowsUntold, ShowsTold, AreUntold, AreToldInTurn, AreSame, AreTold, IsToldSo, false_from_ne_true, arith, ℕ, List, [], length, take, drop, Bool, true, false, Option, None, Some, refl, sym, ap, subst, ◌∙◌, inl, inr, lookup, remove_entry, nat_tests, Notice, same_key, told_with, tasks_of, Key, same_waiter, is_among, without_waiter, times, Waiter, WaitList, same_refl, same_sound, decided, or_false, or_true, without_absent, among_self, or_right, among_counts, absent_counts, none_left, same_symm, count_append, KeysHeld, AllZip-long}
use Rattle.channel_world_runs.proofs.OwnerLists.{same_is, told_apart}

some_same : (a b : Key) → same_key a b ≡ false → Some a ≡ Some b → ⊥
some_same a b off e = let same : a ≡ b = cc e in told_apart a b off same

-- ---- elements beside names

module _ {A : Type 0} where
  pub zip_append : (R : A → Waiter → Type 0) (es fs : List A) (vs ws : List Waiter) → AllZip R es vs → AllZip R fs ws → AllZip R (es ++ fs) (vs ++ ws)
  zip_append R [] fs [] ws g h = h
  zip_append R (e ∷ es) fs (v ∷ vs) ws g h = (g.0, zip_append R es fs vs ws g.1 h)
  zip_append R es fs vs ws g h = absurd g

  -- something else, if it follows of each name that stands there
  pub zip_other : (R S : A → Waiter → Type 0) (es : List A) (ws : List Waiter) → AllZip R es ws → ((e : A) (w : Waiter) → is_among w ws ≡ true → R e w → S e w) → AllZip S es ws
  zip_other R S [] [] h so = tt
  zip_other R S (e ∷ es) (w ∷ ws) h so =
      (so e w (among_self w ws) h.0, zip_other R S es ws h.1 (λ f v i. so f v (or_right (same_waiter v w) (is_among v ws) i)))
  zip_other R S es ws h so = absurd h

  -- the one beside a name
  pub zip_at : (R : A → Waiter → Type 0) (w : Waiter) (es : List A) (ws : List Waiter) → AllZip R es ws → is_among w ws ≡ true → (e : A) × R e w
  zip_at R w [] [] h i = cc i
  zip_at R w (e ∷ es) (v ∷ vs) h i = elim (or_true (same_waiter w v) (is_among w vs) i) [
    | inl s ↦ (e, subst (λ (x : Waiter). R e x) (sym (same_sound w v s)) h.0)
    | inr r ↦ zip_at R w es vs h.1 r
  ]
  zip_at R w es ws h i = absurd h

-- ---- the waiting

module _ (held : KeysHeld) where
  -- each untold one wakes by its name
  pub tasks_are : (es : List (Key × Option Waiter)) (ws : List Waiter) → AreUntold held es ws → tasks_of es ≡ ws
  tasks_are [] [] h = refl
  tasks_are (e ∷ es) (w ∷ ws) h = rw h.0.1 (ap (λ (xs : List Waiter). w ∷ xs) (tasks_are es ws h.1))
  tasks_are es ws h = absurd h

  pub untold_rest : (es : List (Key × Option Waiter)) (ws : List Waiter) → AreUntold held es ws → AreUntold held (drop 1 es) (drop 1 ws)
  untold_rest [] [] h = h
  untold_rest (e ∷ es) (w ∷ ws) h = h.1
  untold_rest es ws h = absurd h

  pub untold_first : (es : List (Key × Option Waiter)) (ws : List Waiter) → AreUntold held es ws → AreUntold held (take 1 es) (take 1 ws)
  untold_first [] [] h = h
  untold_first (e ∷ es) (w ∷ ws) h = (h.0, tt)
  untold_first es ws h = absurd h

  pub none_untold : (es : List (Key × Option Waiter)) (ws : List Waiter) → AreUntold held es ws → ws ≡ [] → es ≡ []
  none_untold [] ws h e = refl
  none_untold (e ∷ es) [] h n = absurd h
  none_untold (e ∷ es) (w ∷ ws) h n = cc n

  -- each that stands untold holds a key
  pub untold_holds : (w : Waiter) (es : List (Key × Option Waiter)) (ws : List Waiter) → AreUntold held es ws → is_among w ws ≡ true → (key : Key) × (held w ≡ Some key)
  untold_holds w es ws h i = let at = zip_at (ShowsUntold held) w es ws h i in (at.0.0, at.1.0)

-- the same names under other keys of others
pub untold_kept : (held other : KeysHeld) (es : List (Key × Option Waiter)) (ws : List Waiter) → AreUntold held es ws → ((w : Waiter) → is_among w ws ≡ true → other w ≡ held w) → AreUntold other es ws
untold_kept held other es ws h same = zip_other (ShowsUntold held) (ShowsUntold other) es ws h (λ e w i r. (same w i ∙ r.0, r.1))

-- ---- the same names in any order

pub turned : (vs ws : List Waiter) → AreSame vs ws → AreSame ws vs
turned vs ws same w = sym (same w)

pub among_same : (vs ws : List Waiter) (w : Waiter) → AreSame vs ws → is_among w vs ≡ true → is_among w ws ≡ true
among_same vs ws w same e = elim (decided (is_among w ws)) [
  | inl t ↦ t
  | inr f ↦ absurd (omega (arith, same w, among_counts w vs e, absent_counts w ws f))
]

same_then : (vs ws us : List Waiter) → AreSame vs ws → AreSame (vs ++ us) (ws ++ us)
same_then vs ws us same w = omega (arith, same w, count_append (same_waiter w) vs us, count_append (same_waiter w) ws us)

pub times_other : (v w : Waiter) (xs : List Waiter) → same_waiter w v ≡ false → times v (without_waiter w xs) ≡ times v xs
times_other v w [] off = refl
times_other v w (x ∷ xs) off = elim (decided (same_waiter w x)) [
  | inl t ↦
      let apart : same_waiter v x ≡ false = subst (λ (y : Waiter). same_waiter v y ≡ false) (same_sound w x t) (same_symm v w ∙ off) in
      rw (t, apart) (times_other v w xs off)
  | inr t ↦ elim (decided (same_waiter v x)) [
    | inl u ↦ let on = times_other v w xs off in rw (t, u) (omega (arith, on))
    | inr u ↦ rw (t, u) (times_other v w xs off)
  ]
]

same_without : (w : Waiter) (vs ws : List Waiter) → AreSame vs ws → AreSame (without_waiter w vs) (without_waiter w ws)
same_without w vs ws same v = elim (decided (same_waiter w v)) [
  | inl t ↦ none vs t ∙ sym (none ws t)
  | inr t ↦ omega (arith, same v, times_other v w vs t, times_other v w ws t)
] where
  none : (xs : List Waiter) → same_waiter w v ≡ true → times v (without_waiter w xs) ≡ 0
  none xs t = subst (λ (x : Waiter). times x (without_waiter w xs) ≡ 0) (same_sound w v t) (absent_counts w (without_waiter w xs) (none_left w xs))

some_same_names : (vs ws : List Waiter) → AreSame vs ws → 1 ≤ length ws → 1 ≤ length vs
some_same_names vs [] same n = absurd (omega (arith, n))
some_same_names [] (w ∷ ws) same n =
    let none : 0 ≡ times w (w ∷ ws) = same w in absurd (omega (arith, none, among_counts w (w ∷ ws) (among_self w ws)))
some_same_names (v ∷ vs) (w ∷ ws) same n = omega arith

no_same_names : (vs ws : List Waiter) → AreSame vs ws → length ws ≡ 0 → length vs ≡ 0
no_same_names [] ws same n = refl
no_same_names (v ∷ vs) [] same n =
    let none : times v (v ∷ vs) ≡ 0 = same v in absurd (omega (arith, none, among_counts v (v ∷ vs) (among_self v vs)))
no_same_names (v ∷ vs) (w ∷ ws) same n = absurd (omega (arith, n))

-- ---- the told

module _ (held : KeysHeld) (closed : Bool) (line : WaitList) where
  -- waiting ones that are told
  pub just_told : (additional : Bool) → (closed ≡ false → IsToldSo line additional) → (es : List (Key × Option Waiter)) (tags : List (Unit {0})) (ws : List Waiter)
      → length tags ≡ length es → AreUntold held es ws → AreToldInTurn held closed line (told_with additional es tags) ws
  just_told additional so [] tags [] n h = tt
  just_told additional so (e ∷ es) [] (w ∷ ws) n h = absurd (omega (arith, n))
  just_told additional so (e ∷ es) (t ∷ ts) (w ∷ ws) n h = let m : length ts ≡ length es = omega (arith, n) in ((h.0.0, so), just_told additional so es ts ws m h.1)
  just_told additional so es tags ws n h = absurd h

  pub told_holds : (w : Waiter) (es : List (Key × Notice Unit)) (ws : List Waiter) → AreTold held closed line es ws → is_among w ws ≡ true → (key : Key) × (held w ≡ Some key)
  told_holds w es ws h i =
      let at = zip_at (ShowsTold held closed line) w es h.0 h.1 (among_same ws h.0 w (turned h.0 ws h.2) i) in (at.0.0, at.1.0)

  -- and others then
  pub told_then : (es fs : List (Key × Notice Unit)) (ws us : List Waiter) → AreTold held closed line es ws → AreToldInTurn held closed line fs us
      → AreTold held closed line (es ++ fs) (ws ++ us)
  told_then es fs ws us h g = (h.0 ++ us, zip_append (ShowsTold held closed line) es fs h.0 us h.1 g, same_then h.0 ws us h.2)

  pub some_told : (es : List (Key × Notice Unit)) (ws : List Waiter) → AreTold held closed line es ws → 1 ≤ length ws → 1 ≤ length es
  some_told es ws h n = let long = AllZip-long (ShowsTold held closed line) es h.0 h.1 in omega (arith, long, some_same_names h.0 ws h.2 n)

  pub none_told : (es : List (Key × Notice Unit)) (ws : List Waiter) → AreTold held closed line es ws → length ws ≡ 0 → length es ≡ 0
  none_told es ws h n = let long = AllZip-long (ShowsTold held closed line) es h.0 h.1 in omega (arith, long, no_same_names h.0 ws h.2 n)

pub told_kept : (held other : KeysHeld) (closed : Bool) (line : WaitList) (es : List (Key × Notice Unit)) (ws : List Waiter) → AreTold held closed line es ws
    → ((w : Waiter) → is_among w ws ≡ true → other w ≡ held w) → AreTold other closed line es ws
told_kept held other closed line es ws h same = (
  h.0,
  zip_other (ShowsTold held closed line) (ShowsTold other closed line) es h.0 h.1 (λ e w i r. (same w (among_same h.0 ws w h.2 i) ∙ r.0, r.1)),
  h.2,
)

-- a channel that is closed asks nothing of how they were told
pub told_closed : (held : KeysHeld) (closed : Bool) (line : WaitList) (es : List (Key × Notice Unit)) (ws : List Waiter) → AreTold held closed line es ws → AreTold held true line es ws
told_closed held closed line es ws h =
    (h.0, zip_other (ShowsTold held closed line) (ShowsTold held true line) es h.0 h.1 (λ e w i r. (r.0, λ c. cc c)), h.2)

-- ---- one that leaves

-- among these names only w holds the key
abbrev pub OnlyHolder : KeysHeld → Key → Waiter → List Waiter → Type 0
OnlyHolder held key w ws = (v : Waiter) → is_among v ws ≡ true → held v ≡ Some key → v ≡ w

pub only_rest : (held : KeysHeld) (key : Key) (w v : Waiter) (vs : List Waiter) → OnlyHolder held key w (v ∷ vs) → OnlyHolder held key w vs
only_rest held key w v vs only = λ x e h. only x (or_right (same_waiter x v) (is_among x vs) e) h

module _ (held : KeysHeld) (key : Key) (w : Waiter) (holds : held w ≡ Some key) where
  -- one whose entry it is, or isn't
  same_entry : (v : Waiter) (vs : List Waiter) (k : Key) → OnlyHolder held key w (v ∷ vs) → held v ≡ Some k → same_key key k ≡ same_waiter w v
  same_entry v vs k only h = elim (decided (same_key key k)) [
    | inl t ↦
        let own : held v ≡ Some key = h ∙ ap (λ (x : Key). Some x) (sym (same_is key k t)) in
        let same : v ≡ w = only v (among_self v vs) own in
        t ∙ sym (subst (λ (x : Waiter). same_waiter w x ≡ true) (sym same) (same_refl w))
    | inr t ↦ elim (decided (same_waiter w v)) [
      | inr s ↦ t ∙ sym s
      | inl s ↦ absurd (some_same key k t (sym holds ∙ ap (λ (x : Waiter). held x) (same_sound w v s) ∙ h))
    ]
  ]

  absent_after : (v : Waiter) (vs : List Waiter) → same_waiter w v ≡ true → times w (v ∷ vs) ≤ 1 → is_among w vs ≡ false
  absent_after v vs s once = false_from_ne_true (is_among w vs) (λ t. omega (arith, among_counts w vs t, (rw s at once)))

  later_once : (v : Waiter) (vs : List Waiter) → times w (v ∷ vs) ≤ 1 → times w vs ≤ 1
  later_once v vs once = elim (decided (same_waiter w v)) [
    | inl s ↦ let h = rw s at once in omega (arith, h)
    | inr s ↦ rw s at once
  ]

  module _ {V : Type 0} (R : Key × V → Waiter → Type 0) (keyed : (e : Key × V) (v : Waiter) → R e v → held v ≡ Some e.0) where
    zip_without : (es : List (Key × V)) (ws : List Waiter) → OnlyHolder held key w ws → times w ws ≤ 1 → AllZip R es ws → AllZip R (remove_entry (same_key key) es) (without_waiter w ws)
    zip_without [] [] only once h = h
    zip_without (e ∷ es) (v ∷ vs) only once h =
        let same = same_entry v vs e.0 only (keyed e v h.0) in
        elim (decided (same_waiter w v)) [
          | inl s ↦ rw (same ∙ s, s) (subst (λ (xs : List Waiter). AllZip R es xs) (sym (without_absent w vs (absent_after v vs s once))) h.1)
          | inr s ↦ rw (same ∙ s, s) (h.0, zip_without es vs (only_rest held key w v vs only) (later_once v vs once) h.1)
        ]
    zip_without es ws only once h = absurd h

    -- what its entry says
    zip_found : (es : List (Key × V)) (ws : List Waiter) → OnlyHolder held key w ws → AllZip R es ws → is_among w ws ≡ true → (e : Key × V) × (lookup (same_key key) es ≡ Some e.1) × R e w
    zip_found [] [] only h i = cc i
    zip_found (f ∷ es) (v ∷ vs) only h i =
        let same = same_entry v vs f.0 only (keyed f v h.0) in
        elim (decided (same_waiter w v)) [
          | inl s ↦ (f, rw (same ∙ s) refl, subst (λ (x : Waiter). R f x) (sym (same_sound w v s)) h.0)
          | inr s ↦ let on = zip_found es vs (only_rest held key w v vs only) h.1 (rw s at i) in (on.0, rw (same ∙ s) on.1, on.2)
        ]
    zip_found es ws only h i = absurd h

    zip_missed : (es : List (Key × V)) (ws : List Waiter) → OnlyHolder held key w ws → AllZip R es ws → is_among w ws ≡ false → lookup (same_key key) es ≡ None
    zip_missed [] [] only h i = refl
    zip_missed (f ∷ es) (v ∷ vs) only h i =
        let same = same_entry v vs f.0 only (keyed f v h.0) in
        let off = or_false (same_waiter w v) (is_among w vs) i in
        rw (same ∙ off.0) (zip_missed es vs (only_rest held key w v vs only) h.1 off.1)
    zip_missed es ws only h i = absurd h

  pub untold_without : (es : List (Key × Option Waiter)) (ws : List Waiter) → OnlyHolder held key w ws → times w ws ≤ 1 → AreUntold held es ws → AreUntold held (remove_entry (same_key key) es) (without_waiter w ws)
  untold_without es ws only once h = zip_without (ShowsUntold held) (λ e v r. r.0) es ws only once h

  pub told_without : (closed : Bool) (line : WaitList) (es : List (Key × Notice Unit)) (ws : List Waiter) → OnlyHolder held key w ws → times w ws ≤ 1
      → AreTold held closed line es ws → AreTold held closed line (remove_entry (same_key key) es) (without_waiter w ws)
  told_without closed line es ws only once h = (
    without_waiter w h.0,
    zip_without (ShowsTold held closed line) (λ e v r. r.0) es h.0 (λ v e f. only v (among_same h.0 ws v h.2 e) f) (omega (arith, once, h.2 w)) h.1,
    same_without w h.0 ws h.2,
  )

  pub told_found : (closed : Bool) (line : WaitList) (es : List (Key × Notice Unit)) (ws : List Waiter) → OnlyHolder held key w ws → AreTold held closed line es ws → is_among w ws ≡ true
      → (n : Notice Unit) × (lookup (same_key key) es ≡ Some n) × (closed ≡ false → IsToldSo line n.additional)
  told_found closed line es ws only h i =
      let f = zip_found (ShowsTold held closed line) (λ e v r. r.0) es h.0 (λ v e f. only v (among_same h.0 ws v h.2 e) f) h.1
      (among_same ws h.0 w (turned h.0 ws h.2) i) in (f.0.1, f.1, f.2.1)

  pub told_missed : (closed : Bool) (line : WaitList) (es : List (Key × Notice Unit)) (ws : List Waiter) → OnlyHolder held key w ws → AreTold held closed line es ws → is_among w ws ≡ false
      → lookup (same_key key) es ≡ None
  told_missed closed line es ws only h i =
      zip_missed (ShowsTold held closed line) (λ e v r. r.0) es h.0 (λ v e f. only v (among_same h.0 ws v h.2 e) f) h.1
      (false_from_ne_true (is_among w h.0) (λ t. cc (sym i ∙ among_same h.0 ws w h.2 t)))

  pub untold_found : (es : List (Key × Option Waiter)) (ws : List Waiter) → OnlyHolder held key w ws → AreUntold held es ws → is_among w ws ≡ true → lookup (same_key key) es ≡ Some (Some w)
  untold_found es ws only h i =
      let f = zip_found (ShowsUntold held) (λ e v r. r.0) es ws only h i in f.1 ∙ ap (λ (x : Option Waiter). Some x) f.2.1

  pub untold_missed : (es : List (Key × Option Waiter)) (ws : List Waiter) → OnlyHolder held key w ws → AreUntold held es ws → is_among w ws ≡ false → lookup (same_key key) es ≡ None
  untold_missed es ws only h i = zip_missed (ShowsUntold held) (λ e v r. r.0) es ws only h i
