-- Counting names in lists.
use Rattle.std.specs.Prelude.{if◌then◌else◌, ◌≡◌, ◌⊎◌, ◌≤◌, ◌+◌, ◌∷◌, ◌++◌}
use Rattle.channel_world_model.proofs.Words.{Waiting, after_news, gone, at_end, untold, same_waiter, is_among, without_waiter, News, Nothing, Message, Room, Closing, NextIn, sym, arith, ℕ, List, [], length, take, drop, Bool, true, false, cond, refl, ap, subst, ◌∙◌, inl, inr, length-append, WaitList, Sends, or_left, filter, filter-append, times, Waiter, decided, or_true}
use Rattle.std.proofs.lemmas.List.Folds.{list_any-append}
pub use Rattle.std.proofs.lemmas.Bool.{or_right}
use Rattle.channel_world_model.proofs.WaiterLemmas.{same_refl, same_sound}

pub count_append : (p : Waiter → Bool) (xs ys : List Waiter) → length (filter p (xs ++ ys)) ≡ length (filter p xs) + length (filter p ys)
count_append p xs ys = ap (λ (zs : List Waiter). length zs) (filter-append p xs ys) ∙ length-append (filter p xs) (filter p ys)

abbrev pub one_if : Bool → ℕ
one_if b = if b then 1 else 0

few_if : (b : Bool) → one_if b ≤ 1
few_if true = omega arith
few_if false = omega arith

count_head : (p : Waiter → Bool) (v : Waiter) (vs : List Waiter) → length (filter p (v ∷ vs)) ≡ one_if (p v) + length (filter p vs)
count_head p v vs = by (p v)
  where
    by : (b : Bool) → length (cond b (v ∷ filter p vs) (filter p vs)) ≡ one_if b + length (filter p vs)
    by true = omega arith
    by false = omega arith

pub count_split : (p : Waiter → Bool) (xs : List Waiter) → length (filter p (take 1 xs)) + length (filter p (drop 1 xs)) ≡ length (filter p xs)
count_split p [] = refl
count_split p (x ∷ xs) = omega (arith, count_head p x [], count_head p x xs)

-- what is counted goes down at most by as often as the name stood there
pub count_without : (p : Waiter → Bool) (w : Waiter) (xs : List Waiter) → length (filter p xs) ≤ length (filter p (without_waiter w xs)) + times w xs
count_without p w [] = omega arith
count_without p w (x ∷ xs) = elim (decided (same_waiter w x)) [
  | inl t ↦ let h = count_without p w xs in rw t (omega (arith, h, count_head p x xs, few_if (p x)))
  | inr t ↦ let h = count_without p w xs in rw t (omega (arith, h, count_head p x xs, count_head p x (without_waiter w xs)))
]

-- it never goes up
pub count_fewer : (p : Waiter → Bool) (w : Waiter) (ws : List Waiter) → length (filter p (without_waiter w ws)) ≤ length (filter p ws)
count_fewer p w [] = omega arith
count_fewer p w (v ∷ vs) = elim (decided (same_waiter w v)) [
  | inl t ↦ let h = count_fewer p w vs in rw t (omega (arith, h, count_head p v vs))
  | inr t ↦ let h = count_fewer p w vs in rw t (omega (arith, h, count_head p v vs, count_head p v (without_waiter w vs)))
]

pub count_fewer_one : (p : Waiter → Bool) (w : Waiter) (ws : List Waiter) → is_among w ws ≡ true → length (filter p (without_waiter w ws)) + one_if (p w) ≤ length (filter p ws)
count_fewer_one p w [] e = cc e
count_fewer_one p w (v ∷ vs) e = elim (decided (same_waiter w v)) [
  | inl t ↦
      let same : one_if (p w) ≡ one_if (p v) = ap (λ (x : Waiter). one_if (p x)) (same_sound w v t) in
      rw t (omega (arith, count_fewer p w vs, count_head p v vs, same))
  | inr t ↦ let h = count_fewer_one p w vs (rw t at e) in rw t (omega (arith, h, count_head p v vs, count_head p v (without_waiter w vs)))
]

-- and not at all down where the name is not counted
pub count_without_other : (p : Waiter → Bool) (w : Waiter) → p w ≡ false → (xs : List Waiter) → length (filter p xs) ≤ length (filter p (without_waiter w xs))
count_without_other p w off [] = omega arith
count_without_other p w off (x ∷ xs) = elim (decided (same_waiter w x)) [
  | inl t ↦ let here : p x ≡ false = subst (λ (v : Waiter). p v ≡ false) (same_sound w x t) off in rw (t, here) (count_without_other p w off xs)
  | inr t ↦ let h = count_without_other p w off xs in rw t (omega (arith, h, count_head p x xs, count_head p x (without_waiter w xs)))
]

pub times_self : (w : Waiter) (xs : List Waiter) → times w (without_waiter w xs) ≡ 0
times_self w [] = refl
times_self w (x ∷ xs) = elim (decided (same_waiter w x)) [
  | inl t ↦ rw t (times_self w xs)
  | inr t ↦ rw (t, t) (times_self w xs)
]

pub among_counts : (w : Waiter) (xs : List Waiter) → is_among w xs ≡ true → 1 ≤ times w xs
among_counts w [] e = cc e
among_counts w (x ∷ xs) e = elim (decided (same_waiter w x)) [
  | inl t ↦ rw t (omega arith)
  | inr t ↦ rw t (among_counts w xs (rw t at e))
]

pub absent_counts : (w : Waiter) (xs : List Waiter) → is_among w xs ≡ false → times w xs ≡ 0
absent_counts w [] e = refl
absent_counts w (x ∷ xs) e = elim (decided (same_waiter w x)) [
  | inl t ↦ cc (rw t at e)
  | inr t ↦ rw t (absent_counts w xs (rw t at e))
]

-- ---- who is among the names of two lists

pub among_append : (w : Waiter) (xs ys : List Waiter) → is_among w (xs ++ ys) ≡ true → (is_among w xs ≡ true) ⊎ (is_among w ys ≡ true)
among_append w xs ys e = or_true (is_among w xs) (is_among w ys) (sym (list_any-append (same_waiter w) xs ys) ∙ e)

pub among_drop : (w : Waiter) (xs : List Waiter) → is_among w (drop 1 xs) ≡ true → is_among w xs ≡ true
among_drop w [] e = e
among_drop w (x ∷ xs) e = or_right (same_waiter w x) (is_among w xs) e

pub among_take : (w : Waiter) (xs : List Waiter) → is_among w (take 1 xs) ≡ true → is_among w xs ≡ true
among_take w [] e = e
among_take w (x ∷ xs) e = elim (or_true (same_waiter w x) false e) [
  | inl t ↦ or_left (same_waiter w x) (is_among w xs) t
  | inr t ↦ cc t
]

pub among_self : (w : Waiter) (xs : List Waiter) → is_among w (w ∷ xs) ≡ true
among_self w xs = rw (same_refl w) refl

-- ---- in all lines

abbrev pub count_all : (Waiter → Bool) → Waiting → ℕ
count_all p l =
    length (filter p l.sends) + length (filter p l.receives) + length (filter p l.streams) + length (filter p l.closings)
    + length (filter p l.woken)

pub count_news : (p : Waiter → Bool) (news : News) (l : Waiting) → count_all p (after_news news l) ≡ count_all p l
count_news p Nothing l = omega (arith, count_append p l.woken [])
count_news p Message l =
    omega (arith, count_append p l.woken (take 1 l.receives ++ l.streams), count_append p (take 1 l.receives) l.streams, count_split p l.receives)
count_news p Room l = omega (arith, count_append p l.woken (take 1 l.sends), count_split p l.sends)
count_news p Closing l =
    omega (
      arith,
      count_append p l.woken (l.sends ++ l.receives ++ l.streams ++ l.closings),
      count_append p (l.sends ++ l.receives ++ l.streams) l.closings,
      count_append p (l.sends ++ l.receives) l.streams,
      count_append p l.sends l.receives,
    )
count_news p (NextIn Sends) l = omega (arith, count_append p l.woken (take 1 l.sends), count_split p l.sends)
count_news p (NextIn line) l = omega (arith, count_append p l.woken (take 1 (untold line l)), count_split p (untold line l))

pub count_gone : (p : Waiter → Bool) (w : Waiter) (l : Waiting) → count_all p (gone w l) ≤ count_all p l
count_gone p w l =
    omega (arith, count_fewer p w l.sends, count_fewer p w l.receives, count_fewer p w l.streams, count_fewer p w l.closings, count_fewer p w l.woken)

pub count_gone_one : (p : Waiter → Bool) (w : Waiter) (l : Waiting) → is_among w l.woken ≡ true → count_all p (gone w l) + one_if (p w) ≤ count_all p l
count_gone_one p w l e =
    omega (arith, count_fewer p w l.sends, count_fewer p w l.receives, count_fewer p w l.streams, count_fewer p w l.closings, count_fewer_one p w l.woken e)

pub count_end : (p : Waiter → Bool) (line : WaitList) (w : Waiter) (l : Waiting) → count_all p (at_end line w l) ≡ count_all p (gone w l) + one_if (p w)
count_end p Sends w l = omega (arith, count_append p (without_waiter w l.sends) (w ∷ []), count_head p w [])
count_end p line w l = omega (arith, count_append p (without_waiter w (untold line l)) (w ∷ []), count_head p w [])
