-- A list of parties, each under its number with what it has under way.
use Rattle.std.proofs.Common.{◌≡◌, ℕ, zero, suc, ◌==◌, Bool, true, false, List, [], ◌∷◌, ◌++◌, Option, None, Some, slice_get, slice_set, if◌then◌else◌, refl, sym, ap, ◌∙◌, subst, arith}
use Rattle.std.proofs.lemmas.Bool.Decides.{nat_tests}
use Rattle.std.specs.List.{remove}
use Rattle.concurrent_queue.specs.Parties.{call_under}

pub is_same : (m n : ℕ) → (m == n) ≡ true → m ≡ n
is_same m n e = grind (arith, nat_tests, e)

pub is_other : (m n : ℕ) → (m == n) ≡ false → m ≡ n → ⊥
is_other m n e f = grind (arith, nat_tests, e, f)

pub same_as : (m n : ℕ) → m ≡ n → (m == n) ≡ true
same_as m n e = grind (arith, nat_tests, e)

pub itself : (n : ℕ) → (n == n) ≡ true
itself n = grind (arith, nat_tests)

turned_about : (m n : ℕ) → (m == n) ≡ false → (n == m) ≡ false
turned_about m n e = grind (arith, nat_tests, e)

pub either : {A : Type 0} (b : Bool) (x : A) → (if b then x else x) ≡ x
either true x = refl
either false x = refl

module _ {P C : Type 0} (id : P → ℕ) (of : P → C) where
  -- the call of a party, and at which place it is
  abbrev its_call : ℕ → List P → Option C
  its_call p xs = call_under id of p xs

  abbrev pub place_of : ℕ → List P → ℕ
  place_of p [] = 0
  place_of p (x ∷ xs) = if id x == p then 0 else suc (place_of p xs)

  -- no party is there twice
  abbrev pub AllApart : List P → Type 0
  AllApart [] = Unit {0}
  AllApart (x ∷ xs) = (its_call (id x) xs ≡ None) × AllApart xs

  missed : (p : ℕ) (y : P) (ys : List P) (r : Option C) → its_call p (y ∷ ys) ≡ r → (id y == p) ≡ false → its_call p ys ≡ r
  missed p y ys r e f = subst (λ (b : Bool). (if b then Some (of y) else its_call p ys) ≡ r) f e

  met : (p : ℕ) (y : P) (ys : List P) (r : Option C) → its_call p (y ∷ ys) ≡ r → (id y == p) ≡ true → Some (of y) ≡ r
  met p y ys r e f = subst (λ (b : Bool). (if b then Some (of y) else its_call p ys) ≡ r) f e

  pub none_has : (p : ℕ) (xs : List P) → its_call p xs ≡ None → (k : ℕ) (x : P) → slice_get xs k ≡ Some x → id x ≡ p → ⊥
  none_has p [] e k x there is = absurd cc
  none_has p (y ∷ ys) e k x there is = test (id y == p) refl (λ f j h. none_has p ys f j x h is) k there
    where
      test : (b : Bool) → (id y == p) ≡ b → (its_call p ys ≡ None → (j : ℕ) → slice_get ys j ≡ Some x → ⊥) → (j : ℕ) → slice_get (y ∷ ys) j ≡ Some x → ⊥
      test true f rest j h = (let g = met p y ys None e f in absurd cc)
      test false f rest zero h = (let g : y ≡ x = cc in is_other (id y) p f (ap id g ∙ is))
      test false f rest (suc j) h = rest (missed p y ys None e f) j h

  -- where a party is, and with what
  abbrev pub HasAt : ℕ → List P → C → Type 0
  HasAt p xs c = (x : P) × (slice_get xs (place_of p xs) ≡ Some x) × (id x ≡ p) × (of x ≡ c)

  pub has_at : (p : ℕ) (xs : List P) (c : C) → its_call p xs ≡ Some c → HasAt p xs c
  has_at p [] c e = absurd cc
  has_at p (y ∷ ys) c e = test (id y == p) refl (λ f. has_at p ys c f)
    where
      test : (b : Bool) → (id y == p) ≡ b → (its_call p ys ≡ Some c → HasAt p ys c) → HasAt p (y ∷ ys) c
      test true f rest = (let g = met p y ys (Some c) e f in let h : of y ≡ c = cc in (y, rw f refl, is_same (id y) p f, h))
      test false f rest = (let g = rest (missed p y ys (Some c) e f) in (g.0, rw f g.1, g.2, g.3))

  -- ---- one comes

  pub begun_mine : (p : ℕ) (xs : List P) (new : P) → id new ≡ p → its_call p xs ≡ None → its_call p (xs ++ new ∷ []) ≡ Some (of new)
  begun_mine p [] new is e = rw (same_as (id new) p is) refl
  begun_mine p (y ∷ ys) new is e = test (id y == p) refl (λ f. begun_mine p ys new is f)
    where
      test : (b : Bool) → (id y == p) ≡ b → (its_call p ys ≡ None → its_call p (ys ++ new ∷ []) ≡ Some (of new)) → its_call p ((y ∷ ys) ++ new ∷ []) ≡ Some (of new)
      test true f rest = (let g = met p y ys None e f in absurd cc)
      test false f rest = rw f (rest (missed p y ys None e f))

  pub begun_other : (p q : ℕ) (xs : List P) (new : P) → id new ≡ p → (p == q) ≡ false → its_call q (xs ++ new ∷ []) ≡ its_call q xs
  begun_other p q [] new is e = (let g : (id new == q) ≡ false = ap (λ (n : ℕ). n == q) is ∙ e in rw g refl)
  begun_other p q (y ∷ ys) new is e = ap (λ (o : Option C). if id y == q then Some (of y) else o) (begun_other p q ys new is e)

  pub begun_apart : (p : ℕ) (xs : List P) (new : P) → id new ≡ p → its_call p xs ≡ None → AllApart xs → AllApart (xs ++ new ∷ [])
  begun_apart p [] new is e h = (refl, tt)
  begun_apart p (y ∷ ys) new is e h = test (id y == p) refl (λ f. begun_apart p ys new is f h.1)
    where
      test : (b : Bool) → (id y == p) ≡ b → (its_call p ys ≡ None → AllApart (ys ++ new ∷ [])) → AllApart ((y ∷ ys) ++ new ∷ [])
      test true f rest = (let g = met p y ys None e f in absurd cc)
      test false f rest = (begun_other p (id y) ys new is (turned_about (id y) p f) ∙ h.0, rest (missed p y ys None e f))

  -- ---- one goes on

  pub set_mine : (p : ℕ) (xs : List P) (c : C) (next : P) → id next ≡ p → its_call p xs ≡ Some c → its_call p (slice_set xs (place_of p xs) next) ≡ Some (of next)
  set_mine p [] c next is e = absurd cc
  set_mine p (y ∷ ys) c next is e = test (id y == p) refl (λ f. set_mine p ys c next is f)
    where
      test : (b : Bool) → (id y == p) ≡ b → (its_call p ys ≡ Some c → its_call p (slice_set ys (place_of p ys) next) ≡ Some (of next)) → its_call p (slice_set (y ∷ ys) (place_of p (y ∷ ys)) next) ≡ Some (of next)
      test true f rest = rw f (rw (same_as (id next) p is) refl)
      test false f rest = rw f (rw f (rest (missed p y ys (Some c) e f)))

  pub set_other : (p q : ℕ) (xs : List P) (next : P) → id next ≡ p → (p == q) ≡ false → its_call q (slice_set xs (place_of p xs) next) ≡ its_call q xs
  set_other p q [] next is e = refl
  set_other p q (y ∷ ys) next is e = test (id y == p) refl (set_other p q ys next is e)
    where
      test : (b : Bool) → (id y == p) ≡ b → its_call q (slice_set ys (place_of p ys) next) ≡ its_call q ys → its_call q (slice_set (y ∷ ys) (place_of p (y ∷ ys)) next) ≡ its_call q (y ∷ ys)
      test true f rest = (let g : (id y == q) ≡ false = ap (λ (n : ℕ). n == q) (is_same (id y) p f) ∙ e in let h : (id next == q) ≡ false = ap (λ (n : ℕ). n == q) is ∙ e in rw f (rw (h, g) refl))
      test false f rest = rw f (ap (λ (o : Option C). if id y == q then Some (of y) else o) rest)

  pub set_apart : (p : ℕ) (xs : List P) (next : P) → id next ≡ p → AllApart xs → AllApart (slice_set xs (place_of p xs) next)
  set_apart p [] next is h = tt
  set_apart p (y ∷ ys) next is h = test (id y == p) refl (set_apart p ys next is h.1)
    where
      test : (b : Bool) → (id y == p) ≡ b → AllApart (slice_set ys (place_of p ys) next) → AllApart (slice_set (y ∷ ys) (place_of p (y ∷ ys)) next)
      test true f rest = rw f (subst (λ (n : ℕ). its_call n ys ≡ None) (is_same (id y) p f ∙ sym is) h.0, h.1)
      test false f rest = rw f (set_other p (id y) ys next is (turned_about (id y) p f) ∙ h.0, rest)

  -- ---- one leaves

  pub gone_other : (p q : ℕ) (xs : List P) → (p == q) ≡ false → its_call q (remove xs (place_of p xs)) ≡ its_call q xs
  gone_other p q [] e = refl
  gone_other p q (y ∷ ys) e = test (id y == p) refl (gone_other p q ys e)
    where
      test : (b : Bool) → (id y == p) ≡ b → its_call q (remove ys (place_of p ys)) ≡ its_call q ys → its_call q (remove (y ∷ ys) (place_of p (y ∷ ys))) ≡ its_call q (y ∷ ys)
      test true f rest = (let g : (id y == q) ≡ false = ap (λ (n : ℕ). n == q) (is_same (id y) p f) ∙ e in rw f (rw g refl))
      test false f rest = rw f (ap (λ (o : Option C). if id y == q then Some (of y) else o) rest)

  pub gone_mine : (p : ℕ) (xs : List P) → AllApart xs → its_call p (remove xs (place_of p xs)) ≡ None
  gone_mine p [] h = refl
  gone_mine p (y ∷ ys) h = test (id y == p) refl (gone_mine p ys h.1)
    where
      test : (b : Bool) → (id y == p) ≡ b → its_call p (remove ys (place_of p ys)) ≡ None → its_call p (remove (y ∷ ys) (place_of p (y ∷ ys))) ≡ None
      test true f rest = rw f (subst (λ (n : ℕ). its_call n ys ≡ None) (is_same (id y) p f) h.0)
      test false f rest = rw f (rw f rest)

  pub gone_apart : (p : ℕ) (xs : List P) → AllApart xs → AllApart (remove xs (place_of p xs))
  gone_apart p [] h = tt
  gone_apart p (y ∷ ys) h = test (id y == p) refl (gone_apart p ys h.1)
    where
      test : (b : Bool) → (id y == p) ≡ b → AllApart (remove ys (place_of p ys)) → AllApart (remove (y ∷ ys) (place_of p (y ∷ ys)))
      test true f rest = rw f h.1
      test false f rest = rw f (gone_other p (id y) ys (turned_about (id y) p f) ∙ h.0, rest)
