-- How many handles live, as names are lent, given back and dropped.
use Rattle.std.specs.Prelude.{◌≡◌, ◌+◌, ◌-◌, ◌∷◌}
use Rattle.channel_world_model.proofs.Words.{arith, ℕ, nat_eq, List, [], length, Bool, true, false, cond, Option, None, Some, refl, sym, ap, ◌∙◌, inl, inr, filter, option_map_or, is_of, live_of, Directory, at, lent_once_more, used_once_less, with_changed, without_name, are_alike, Handle, HandleId, HandleKind, decided}

alike_front : {X : Type 0} (b c : Bool) (e f : X) (ys : List X) → b ≡ c → length (cond b (e ∷ ys) ys) ≡ length (cond c (f ∷ ys) ys)
alike_front true false e f ys h = cc h
alike_front false true e f ys h = cc h
alike_front b c e f ys h = refl

alike_behind : {X : Type 0} (b : Bool) (e : X) (ys zs : List X) → length ys ≡ length zs → length (cond b (e ∷ ys) ys) ≡ length (cond b (e ∷ zs) zs)
alike_behind true e ys zs h = omega (arith, h)
alike_behind false e ys zs h = h

-- one more in front, where it is counted
more_front : {X : Type 0} (b c : Bool) (e : X) (ys : List X) → b ≡ c → length (cond b (e ∷ ys) ys) ≡ length ys + cond c 1 0
more_front true false e ys h = cc h
more_front false true e ys h = cc h
more_front b c e ys h = omega arith

more_behind : {X : Type 0} (b : Bool) (e : X) (ys zs : List X) (n : ℕ) → length ys ≡ length zs + n → length (cond b (e ∷ ys) ys) ≡ length (cond b (e ∷ zs) zs) + n
more_behind true e ys zs n h = omega (arith, h)
more_behind false e ys zs n h = h

module _ (side : HandleKind) (name : ℕ) where
  -- a handle stays of its kind
  changed_alike : (h x : Handle) (d : Directory Handle) → at name d ≡ Some h → x.kind ≡ h.kind → live_of side (with_changed name x d) ≡ live_of side d
  changed_alike h x [] there e = refl
  changed_alike h x ((k, o) ∷ d) there e = elim (decided (nat_eq name k)) [
    | inl t ↦
        let here : o ≡ Some h = rw t at there in
        let same : is_of side (Some x) ≡ is_of side o = ap (λ (kind : HandleKind). are_alike side kind) e ∙ sym (ap (λ (p : Option Handle). is_of side p) here) in
        rw t (alike_front (is_of side (Some x)) (is_of side o) (k, Some x) (k, o) (filter (λ (f : ℕ × Option Handle). is_of side f.1) d) same)
    | inr t ↦ rw t (alike_behind (is_of side o) (k, o) (filter (λ (f : ℕ × Option Handle). is_of side f.1) (with_changed name x d)) (filter (λ (f : ℕ × Option Handle). is_of side f.1) d)
        (changed_alike h x d (rw t at there) e))
  ]

  -- one that lives no more is counted no more
  pub gone_less : (h : Handle) (d : Directory Handle) → at name d ≡ Some h → live_of side d ≡ live_of side (without_name name d) + cond (are_alike side h.kind) 1 0
  gone_less h [] there = cc there
  gone_less h ((k, o) ∷ d) there = elim (decided (nat_eq name k)) [
    | inl t ↦
        let here : o ≡ Some h = rw t at there in
        rw t (more_front (is_of side o) (are_alike side h.kind) (k, o) (filter (λ (f : ℕ × Option Handle). is_of side f.1) d) (ap (λ (p : Option Handle). is_of side p) here))
    | inr t ↦ rw t (more_behind (is_of side o) (k, o) (filter (λ (f : ℕ × Option Handle). is_of side f.1) d) (filter (λ (f : ℕ × Option Handle). is_of side f.1) (without_name name d))
        (cond (are_alike side h.kind) 1 0) (gone_less h d (rw t at there)))
  ]

pub lent_alike : (side : HandleKind) (handle : HandleId) (d : Directory Handle) → live_of side (lent_once_more handle d) ≡ live_of side d
lent_alike side handle d = found (at handle.0 d) refl where
  found : (o : Option Handle) → at handle.0 d ≡ o
      → live_of side (option_map_or (λ (h : Handle). with_changed handle.0 (record h { borrowers = h.borrowers + 1 }) d) o d) ≡ live_of side d
  found None e = refl
  found (Some h) e = changed_alike side handle.0 h (record h { borrowers = h.borrowers + 1 }) d e refl

pub back_alike : (side : HandleKind) (handle : HandleId) (d : Directory Handle) → live_of side (used_once_less handle d) ≡ live_of side d
back_alike side handle d = found (at handle.0 d) refl where
  found : (o : Option Handle) → at handle.0 d ≡ o
      → live_of side (option_map_or (λ (h : Handle). with_changed handle.0 (record h { borrowers = h.borrowers - 1 }) d) o d) ≡ live_of side d
  found None e = refl
  found (Some h) e = changed_alike side handle.0 h (record h { borrowers = h.borrowers - 1 }) d e refl
