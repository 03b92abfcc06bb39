-- What stands under names in the kit's list of recent use.
use Rattle.channel_world_model.proofs.Words.{arith, ℕ, nat_eq, List, [], map, length, true, false, Option, None, Some, is_some, refl, sym, ap, ◌∙◌, inl, inr, lookup, lookup_entry, set_value, take_all, option_map, option_map_or, Directory, at, is_taken, without_name, decided}
use Rattle.std.specs.Prelude.{◌≡◌, ◌-◌, ◌^◌, ◌<◌, ◌≤◌, ◌∷◌, IfNone}
use Rattle.std.proofs.lemmas.Map.Made.{lookup-map_values}
use Rattle.std.proofs.lemmas.Option.{slice_get_past}
use Rattle.lru.specs.LruCache.{LruCache, put_entries, displaced}

module _ {X : Type 0} (name : ℕ) where
  -- nothing is set where nothing stands
  pub set_absent : (es : List (ℕ × X)) (x : X) → lookup (nat_eq name) es ≡ None → set_value (nat_eq name) es x ≡ es
  set_absent [] x e = refl
  set_absent (f ∷ es) x e = elim (decided (nat_eq name f.0)) [
    | inl t ↦ cc (rw t at e)
    | inr t ↦ rw t (ap (λ (l : List (ℕ × X)). f ∷ l) (set_absent es x (rw t at e)))
  ]

  -- what is set twice is what was set last
  pub set_twice : (es : List (ℕ × X)) (x y : X) → set_value (nat_eq name) (set_value (nat_eq name) es x) y ≡ set_value (nat_eq name) es y
  set_twice [] x y = refl
  set_twice (f ∷ es) x y = elim (decided (nat_eq name f.0)) [
    | inl t ↦ rw (t, t) refl
    | inr t ↦ rw (t, t) (ap (λ (l : List (ℕ × X)). f ∷ l) (set_twice es x y))
  ]

  pub no_value : (es : List (ℕ × X)) → is_some (lookup (nat_eq name) es) ≡ false → lookup (nat_eq name) es ≡ None
  no_value es e = none (lookup (nat_eq name) es) e where
    none : (o : Option X) → is_some o ≡ false → o ≡ None
    none None h = refl
    none (Some x) h = cc h

  entry_absent : (es : List (ℕ × X)) → lookup (nat_eq name) es ≡ None → lookup_entry (nat_eq name) es ≡ None
  entry_absent [] e = refl
  entry_absent (f ∷ es) e = elim (decided (nat_eq name f.0)) [
    | inl t ↦ cc (rw t at e)
    | inr t ↦ rw t (entry_absent es (rw t at e))
  ]

  -- a new name is put in front, and nothing is displaced by it
  pub put_new : (c : LruCache ℕ X) (x : X) → lookup (nat_eq name) c.entries ≡ None → length c.entries < 2 ^ 63 → c.cap ≡ 2 ^ 64 - 1 → put_entries nat_eq c name x ≡ (name, x) ∷ c.entries
  put_new c x e short cap =
      let fits : length c.entries ≤ c.cap - 1 = omega (arith, short, cap) in
      rw (entry_absent c.entries e) (ap (λ (l : List (ℕ × X)). (name, x) ∷ l) (take_all (c.cap - 1) c.entries fits))

  pub nothing_displaced : (c : LruCache ℕ X) (x : X) → lookup (nat_eq name) c.entries ≡ None → length c.entries < 2 ^ 63 → c.cap ≡ 2 ^ 64 - 1 → displaced nat_eq c name x ≡ None
  nothing_displaced c x e short cap =
      let past : length c.entries ≤ c.cap - 1 = omega (arith, short, cap) in
      rw e (slice_get_past c.entries (c.cap - 1) past)

-- what was never there, or is gone, can't go
pub nothing_to_end : {Y : Type 0} (name : ℕ) (es : List (ℕ × Option Y)) → at name es ≡ None → without_name name es ≡ es
nothing_to_end name [] e = refl
nothing_to_end {Y} name ((k, o) ∷ es) e = elim (decided (nat_eq name k)) [
  | inl t ↦ gone o t (rw t at e)
  | inr t ↦ rw t (ap (λ (l : List (ℕ × Option Y)). (k, o) ∷ l) (nothing_to_end name es (rw t at e)))
] where
  gone : (p : Option Y) → nat_eq name k ≡ true → p ≡ None → without_name name ((k, p) ∷ es) ≡ (k, p) ∷ es
  gone p t h = rw t (ap (λ (q : Option Y). (k, q) ∷ es) (sym h))

pub left_alone : {Y : Type 0} (name : ℕ) (old : Directory Y) (r : Option Y) (new : Directory Y) → r ≡ at name old → new ≡ without_name name old → IfNone r (new ≡ old)
left_alone name old None new e f = f ∙ nothing_to_end name old (sym e)
left_alone name old (Some x) new e f = tt

-- ---- directories seen by what lives in them

module _ {X Y : Type 0} (f : X → Y) (name : ℕ) where
  pub at_seen : (es : Directory X) → at name (map (λ e. (e.0, option_map f e.1)) es) ≡ option_map f (at name es)
  at_seen es = ap (λ (o : Option (Option Y)). option_map_or (λ (x : Option Y). x) o None) (lookup-map_values (option_map f) (nat_eq name) es) ∙ flat (lookup (nat_eq name) es) where
    flat : (o : Option (Option X)) → option_map_or (λ (x : Option Y). x) (option_map (option_map f) o) None ≡ option_map f (option_map_or (λ (x : Option X). x) o None)
    flat None = refl
    flat (Some o) = refl

  pub taken_seen : (es : Directory X) → is_taken name (map (λ e. (e.0, option_map f e.1)) es) ≡ is_taken name es
  taken_seen es = ap (λ (o : Option (Option Y)). is_some o) (lookup-map_values (option_map f) (nat_eq name) es) ∙ same (lookup (nat_eq name) es) where
    same : (o : Option (Option X)) → is_some (option_map (option_map f) o) ≡ is_some o
    same None = refl
    same (Some o) = refl
