-- What stands on a list, and that none stands there twice.
use Rattle.std.specs.Prelude.{◌≡◌, ◌∷◌, ◌++◌, ◌⊎◌}
use Rattle.channel_world_runs.proofs.Words.{ℕ, zero, suc, Bool, true, false, cond, List, [], take, drop, Option, None, Some, inl, inr, refl, sym, ap, ◌∙◌, subst, arith, nat_tests, remove_entry, set_value, keys_of, same_key, tasks_of, Key, IsAmong, NoneTwice}

module _ {A : Type 0} where
  pub among_left : (x : A) (xs ys : List A) → IsAmong x xs → IsAmong x (xs ++ ys)
  among_left x [] ys h = absurd h
  among_left x (y ∷ xs) ys (inl h) = inl h
  among_left x (y ∷ xs) ys (inr h) = inr (among_left x xs ys h)

  pub among_right : (x : A) (xs ys : List A) → IsAmong x ys → IsAmong x (xs ++ ys)
  among_right x [] ys h = h
  among_right x (y ∷ xs) ys h = inr (among_right x xs ys h)

  pub among_of : (x : A) (xs ys : List A) → IsAmong x (xs ++ ys) → IsAmong x xs ⊎ IsAmong x ys
  among_of x [] ys h = inr h
  among_of x (y ∷ xs) ys (inl h) = inl (inl h)
  among_of x (y ∷ xs) ys (inr h) = deeper (among_of x xs ys h)
    where
      deeper : IsAmong x xs ⊎ IsAmong x ys → IsAmong x (y ∷ xs) ⊎ IsAmong x ys
      deeper (inl h) = inl (inr h)
      deeper (inr h) = inr h

  -- one after the other
  pub record Joined (xs ys : List A) : Type 0 where
    pub left : NoneTwice xs
    pub right : NoneTwice ys
    pub apart : (x : A) → IsAmong x xs → IsAmong x ys → ⊥

  pub none_parts : (xs ys : List A) → NoneTwice (xs ++ ys) → Joined xs ys
  none_parts [] ys h = record { left = tt; right = h; apart = λ x i j. i }
  none_parts (x ∷ xs) ys h =
      let rest = none_parts xs ys h.1 in
      record { left = (λ i. h.0 (among_left x xs ys i), rest.left); right = rest.right; apart = λ y i j. by y i j rest }
    where
      by : (y : A) → IsAmong y (x ∷ xs) → IsAmong y ys → Joined xs ys → ⊥
      by y (inl e) j rest = h.0 (among_right x xs ys (subst (λ z. IsAmong z ys) (sym e) j))
      by y (inr i) j rest = rest.apart y i j

  pub none_joined : (xs ys : List A) → Joined xs ys → NoneTwice (xs ++ ys)
  none_joined [] ys h = h.right
  none_joined (x ∷ xs) ys h =
      (λ i. by (among_of x xs ys i), none_joined xs ys (record { left = h.left.1; right = h.right; apart = λ y i j. h.apart y (inr i) j }))
    where
      by : IsAmong x xs ⊎ IsAmong x ys → ⊥
      by (inl i) = h.left.0 i
      by (inr j) = h.apart x (inl refl) j

  pub none_more : (x : A) (xs : List A) → (IsAmong x xs → ⊥) → NoneTwice xs → NoneTwice (xs ++ x ∷ [])
  none_more x xs new h = none_joined xs (x ∷ []) (record { left = h; right = (λ i. i, tt); apart = λ y i j. by y i j })
    where
      by : (y : A) → IsAmong y xs → IsAmong y (x ∷ []) → ⊥
      by y i (inl e) = new (subst (λ z. IsAmong z xs) (sym e) i)
      by y i (inr j) = j

  pub among_cut : (n : ℕ) (x : A) (xs : List A) → IsAmong x xs → IsAmong x (take n xs) ⊎ IsAmong x (drop n xs)
  among_cut zero x xs h = inr h
  among_cut (suc n) x [] h = absurd h
  among_cut (suc n) x (y ∷ xs) (inl h) = inl (inl h)
  among_cut (suc n) x (y ∷ xs) (inr h) = deeper (among_cut n x xs h)
    where
      deeper : IsAmong x (take n xs) ⊎ IsAmong x (drop n xs) → IsAmong x (y ∷ take n xs) ⊎ IsAmong x (drop n xs)
      deeper (inl h) = inl (inr h)
      deeper (inr h) = inr h

  -- fewer, and none that wasn't there
  abbrev pub Fewer : List A → List A → Type 0
  Fewer xs ys = ((x : A) → IsAmong x ys → IsAmong x xs) × (NoneTwice xs → NoneTwice ys)

  pub fewer_both : (xs xs' ys ys' : List A) → Fewer xs xs' → Fewer ys ys' → Fewer (xs ++ ys) (xs' ++ ys')
  fewer_both xs xs' ys ys' f g = (λ x h. one x (among_of x xs' ys' h), λ h. all (none_parts xs ys h))
    where
      one : (x : A) → IsAmong x xs' ⊎ IsAmong x ys' → IsAmong x (xs ++ ys)
      one x (inl h) = among_left x xs ys (f.0 x h)
      one x (inr h) = among_right x xs ys (g.0 x h)

      all : Joined xs ys → NoneTwice (xs' ++ ys')
      all h = none_joined xs' ys' (record { left = f.1 h.left; right = g.1 h.right; apart = λ x i j. h.apart x (f.0 x i) (g.0 x j) })

-- ---- keys

pub same_is : (a b : Key) → same_key a b ≡ true → a ≡ b
same_is a b e =
    let slots : a.slot ≡ b.slot = grind (arith, nat_tests, e) in
    let serials : a.serial ≡ b.serial = grind (arith, nat_tests, e) in
    ap (λ n. let k : Key = record { slot = n; serial = a.serial } in k) slots ∙ ap (λ n. let k : Key = record { slot = b.slot; serial = n } in k) serials

pub same_self : (a : Key) → same_key a a ≡ true
same_self a = grind (arith, nat_tests)

pub told_apart : (a b : Key) → same_key a b ≡ false → a ≡ b → ⊥
told_apart a b e h = absurd (let never : true ≡ false = sym (same_self a) ∙ (ap (λ (k : Key). same_key a k) h ∙ e) in cc)

-- two keys are the same or not
pub same_or_not : (a b : Key) → (a ≡ b) ⊎ (a ≡ b → ⊥)
same_or_not a b = by (same_key a b) refl
  where
    by : (t : Bool) → same_key a b ≡ t → (a ≡ b) ⊎ (a ≡ b → ⊥)
    by true e = inl (same_is a b e)
    by false e = inr (told_apart a b e)

module _ {X : Type 0} (key : Key) where
  abbrev kept : List (Key × X) → List (Key × X)
  kept es = remove_entry (same_key key) es

  -- ---- one leaves

  -- any other entry stays
  stays_at : (t : Bool) (e f : Key × X) (es : List (Key × X)) → same_key key f.0 ≡ t → (e.0 ≡ key → ⊥) → (IsAmong e es → IsAmong e (kept es)) → IsAmong e (f ∷ es) → IsAmong e (cond t es (f ∷ kept es))
  stays_at true e f es same other on (inl h) = absurd (other (ap (λ (x : Key × X). x.0) (sym h) ∙ sym (same_is key f.0 same)))
  stays_at true e f es same other on (inr h) = h
  stays_at false e f es same other on (inl h) = inl h
  stays_at false e f es same other on (inr h) = inr (on h)

  pub entry_stays : (e : Key × X) (es : List (Key × X)) → (e.0 ≡ key → ⊥) → IsAmong e es → IsAmong e (kept es)
  entry_stays e [] other h = h
  entry_stays e (f ∷ es) other h = stays_at (same_key key f.0) e f es refl other (entry_stays e es other) h

  key_stays_at : (t : Bool) (k : Key) (f : Key × X) (es : List (Key × X)) → same_key key f.0 ≡ t → (k ≡ key → ⊥) → (IsAmong k (keys_of es) → IsAmong k (keys_of (kept es))) → IsAmong k (keys_of (f ∷ es)) → IsAmong k (keys_of (cond t es (f ∷ kept es)))
  key_stays_at true k f es same other on (inl h) = absurd (other (sym h ∙ sym (same_is key f.0 same)))
  key_stays_at true k f es same other on (inr h) = h
  key_stays_at false k f es same other on (inl h) = inl h
  key_stays_at false k f es same other on (inr h) = inr (on h)

  pub key_stays : (k : Key) (es : List (Key × X)) → (k ≡ key → ⊥) → IsAmong k (keys_of es) → IsAmong k (keys_of (kept es))
  key_stays k [] other h = h
  key_stays k (f ∷ es) other h = key_stays_at (same_key key f.0) k f es refl other (key_stays k es other) h

  fewer_at : (t : Bool) (f : Key × X) (es : List (Key × X)) → Fewer (keys_of es) (keys_of (kept es)) → Fewer (keys_of (f ∷ es)) (keys_of (cond t es (f ∷ kept es)))
  fewer_at true f es g = (λ k h. inr h, λ h. h.1)
  fewer_at false f es g = (λ k h. one k h, λ h. (λ i. h.0 (g.0 f.0 i), g.1 h.1))
    where
      one : (k : Key) → IsAmong k (f.0 ∷ keys_of (kept es)) → IsAmong k (f.0 ∷ keys_of es)
      one k (inl h) = inl h
      one k (inr h) = inr (g.0 k h)

  pub fewer_keys : (es : List (Key × X)) → Fewer (keys_of es) (keys_of (kept es))
  fewer_keys [] = (λ k h. h, λ h. h)
  fewer_keys (f ∷ es) = fewer_at (same_key key f.0) f es (fewer_keys es)

  gone_at : (t : Bool) (f : Key × X) (es : List (Key × X)) → same_key key f.0 ≡ t → NoneTwice (keys_of (f ∷ es)) → (IsAmong key (keys_of (kept es)) → ⊥) → IsAmong key (keys_of (cond t es (f ∷ kept es))) → ⊥
  gone_at true f es same once on h = once.0 (subst (λ (k : Key). IsAmong k (keys_of es)) (same_is key f.0 same) h)
  gone_at false f es same once on (inl h) = told_apart key f.0 same (sym h)
  gone_at false f es same once on (inr h) = on h

  pub key_gone : (es : List (Key × X)) → NoneTwice (keys_of es) → IsAmong key (keys_of (kept es)) → ⊥
  key_gone [] once h = h
  key_gone (f ∷ es) once h = gone_at (same_key key f.0) f es refl once (key_gone es once.1) h

  -- ---- one gets another value

  set_at : (t : Bool) (x : X) (e f : Key × X) (es : List (Key × X)) → same_key key f.0 ≡ t → (e.0 ≡ key → ⊥) → (IsAmong e es → IsAmong e (set_value (same_key key) es x)) → IsAmong e (f ∷ es) → IsAmong e (cond t ((f.0, x) ∷ es) (f ∷ set_value (same_key key) es x))
  set_at true x e f es same other on (inl h) = absurd (other (ap (λ (y : Key × X). y.0) (sym h) ∙ sym (same_is key f.0 same)))
  set_at true x e f es same other on (inr h) = inr h
  set_at false x e f es same other on (inl h) = inl h
  set_at false x e f es same other on (inr h) = inr (on h)

  pub entry_set : (x : X) (e : Key × X) (es : List (Key × X)) → (e.0 ≡ key → ⊥) → IsAmong e es → IsAmong e (set_value (same_key key) es x)
  entry_set x e [] other h = h
  entry_set x e (f ∷ es) other h = set_at (same_key key f.0) x e f es refl other (entry_set x e es other) h

  now_at : (t : Bool) (x : X) (f : Key × X) (es : List (Key × X)) → same_key key f.0 ≡ t → (IsAmong key (keys_of es) → IsAmong (key, x) (set_value (same_key key) es x)) → IsAmong key (keys_of (f ∷ es)) → IsAmong (key, x) (cond t ((f.0, x) ∷ es) (f ∷ set_value (same_key key) es x))
  now_at true x f es same on h = inl (ap (λ (k : Key). let e : Key × X = (k, x) in e) (sym (same_is key f.0 same)))
  now_at false x f es same on (inl h) = absurd (told_apart key f.0 same (sym h))
  now_at false x f es same on (inr h) = inr (on h)

  -- it has this value now
  pub value_now : (x : X) (es : List (Key × X)) → IsAmong key (keys_of es) → IsAmong (key, x) (set_value (same_key key) es x)
  value_now x [] h = absurd h
  value_now x (f ∷ es) h = now_at (same_key key f.0) x f es refl (value_now x es) h

module _ {W : Type 0} where
  -- each that waits is among the tasks
  pub among_tasks : (key : Key) (w : W) (ws : List (Key × Option W)) → IsAmong (key, Some w) ws → IsAmong w (tasks_of ws)
  among_tasks key w [] h = h
  among_tasks key w ((k, o) ∷ ws) (inl h) = first o (ap (λ (x : Key × Option W). x.1) h)
    where
      first : (o : Option W) → o ≡ Some w → IsAmong w (tasks_of ((k, o) ∷ ws))
      first None e = absurd (let never : None ≡ Some w = e in cc)
      first (Some v) e = inl (let same : Some v ≡ Some w = e in cc)
  among_tasks key w ((k, None) ∷ ws) (inr h) = among_tasks key w ws h
  among_tasks key w ((k, Some v) ∷ ws) (inr h) = inr (among_tasks key w ws h)
