-- What lives under a name and is changed, seen or not.
use Rattle.std.specs.Prelude.{◌≡◌, ◌∷◌}
use Rattle.channel_world_runs.proofs.Words.{is_some, ℕ, nat_eq, [], map, Option, None, Some, inl, inr, refl, sym, ap, ◌∙◌, set_value, option_map, option_map_or, set_twice, at_seen, decided, Directory, at, with_changed, set_value_same}
use Rattle.channel_world_runs.proofs.OwnerNames.{found, set_there}

-- each thing seen through this function
abbrev pub views : {X Y : Type 0} → (X → Y) → Directory X → Directory Y
views f es = map (λ e. (e.0, option_map f e.1)) es

-- what lives under the name is changed so, where something lives
abbrev pub changed_at : {X : Type 0} → (X → X) → ℕ → Directory X → Directory X
changed_at change name es = option_map_or (λ x. with_changed name (change x) es) (at name es) es

-- ---- one entry is set

module _ {X : Type 0} where
  -- what is put under a name where something lives, lives there
  pub at_changed : (name : ℕ) (es : Directory X) (x y : X) → at name es ≡ Some x → at name (with_changed name y es) ≡ Some y
  at_changed name es x y e =
      ap (λ (o : Option (Option X)). option_map_or (λ (z : Option X). z) o None)
      (set_there name es (Some y) (ap (λ (o : Option (Option X)). is_some o) (found name es x e)))

  pub same_put_back : (name : ℕ) (es : Directory X) (x : X) → at name es ≡ Some x → with_changed name x es ≡ es
  same_put_back name es x e = set_value_same (nat_eq name) es (Some x) (found name es x e)

  -- ---- what lives there is changed

  pub changed_none : (g : X → X) (name : ℕ) (es : Directory X) → at name es ≡ None → changed_at g name es ≡ es
  changed_none g name es e = ap (λ (o : Option X). option_map_or (λ (x : X). with_changed name (g x) es) o es) e

  pub changed_some : (g : X → X) (name : ℕ) (es : Directory X) (x : X) → at name es ≡ Some x
      → changed_at g name es ≡ with_changed name (g x) es
  changed_some g name es x e = ap (λ (o : Option X). option_map_or (λ (y : X). with_changed name (g y) es) o es) e

  -- it is what was made of it
  pub at_changed_at : (g : X → X) (name : ℕ) (es : Directory X) (x : X) → at name es ≡ Some x
      → at name (changed_at g name es) ≡ Some (g x)
  at_changed_at g name es x e =
      ap (λ (d : Directory X). at name d) (changed_some g name es x e) ∙ at_changed name es x (g x) e

  -- what is changed twice
  pub changed_twice : (g h k : X → X) → ((x : X) → h (g x) ≡ k x) → (name : ℕ) (es : Directory X)
      → changed_at h name (changed_at g name es) ≡ changed_at k name es
  changed_twice g h k same name es = by (at name es) refl
    where
      by : (o : Option X) → at name es ≡ o → changed_at h name (changed_at g name es) ≡ changed_at k name es
      by None e =
          ap (λ (d : Directory X). changed_at h name d) (changed_none g name es e) ∙ (changed_none h name es e
          ∙ sym (changed_none k name es e))
      by (Some x) e =
          changed_some h name (changed_at g name es) (g x) (at_changed_at g name es x e)
          ∙ (ap (λ (d : Directory X). with_changed name (h (g x)) d) (changed_some g name es x e)
          ∙ (set_twice name es (Some (g x)) (Some (h (g x)))
          ∙ (ap (λ (y : X). with_changed name y es) (same x) ∙ sym (changed_some k name es x e))))

  -- what is not changed at all
  pub changed_not : (g : X → X) (name : ℕ) (es : Directory X) → ((x : X) → at name es ≡ Some x → g x ≡ x)
      → changed_at g name es ≡ es
  changed_not g name es same = by (at name es) refl
    where
      by : (o : Option X) → at name es ≡ o → changed_at g name es ≡ es
      by None e = changed_none g name es e
      by (Some x) e =
          changed_some g name es x e ∙ (ap (λ (y : X). with_changed name y es) (same x e) ∙ same_put_back name es x e)

-- ---- seen

module _ {X Y : Type 0} (f : X → Y) where
  -- what is set under a name is seen there
  pub views_set : (name : ℕ) (es : Directory X) (x : Option X)
      → views f (set_value (nat_eq name) es x) ≡ set_value (nat_eq name) (views f es) (option_map f x)
  views_set name [] x = refl
  views_set name (e ∷ es) x = elim (decided (nat_eq name e.0)) [
    | inl t ↦ rw t refl
    | inr t ↦ rw t (ap (λ (l : Directory Y). (e.0, option_map f e.1) ∷ l) (views_set name es x))
  ]

  -- a change that is seen as another
  pub views_changed : (g : X → X) (h : Y → Y) → ((x : X) → f (g x) ≡ h (f x)) → (name : ℕ) (es : Directory X)
      → views f (changed_at g name es) ≡ changed_at h name (views f es)
  views_changed g h same name es = by (at name es) refl
    where
      by : (o : Option X) → at name es ≡ o → views f (changed_at g name es) ≡ changed_at h name (views f es)
      by None e =
          ap (views f) (changed_none g name es e)
          ∙ sym (changed_none h name (views f es) (at_seen f name es ∙ ap (option_map f) e))
      by (Some x) e =
          ap (views f) (changed_some g name es x e)
          ∙ (views_set name es (Some (g x))
          ∙ (ap (λ (y : Y). with_changed name y (views f es)) (same x)
          ∙ sym (changed_some h name (views f es) (f x) (at_seen f name es ∙ ap (option_map f) e))))

  -- a change that isn't seen
  pub views_kept : (g : X → X) → ((x : X) → f (g x) ≡ f x) → (name : ℕ) (es : Directory X)
      → views f (changed_at g name es) ≡ views f es
  views_kept g same name es =
      views_changed g (λ y. y) same name es ∙ changed_not (λ y. y) name (views f es) (λ y e. refl)
