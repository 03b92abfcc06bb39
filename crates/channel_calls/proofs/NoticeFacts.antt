-- Telling all, and telling several.
use Rattle.std.proofs.Common.{◌≡◌, ℕ, zero, suc, ◌+◌, ◌-◌, ◌<◌, min, true, false, List, [], ◌∷◌, ◌++◌, map, length, take, drop, Option, Result, Ok, Err, refl, sym, ap, subst, ◌∙◌, arith, append_assoc}
use Rattle.std.proofs.lemmas.List.{append-nil, take_min, length-take}
use Rattle.std.specs.Option.{option_to_list}
use Rattle.event_listener.specs.Lists.{Lists, Notice, notified, told_with, tasks_of}
use Rattle.event_listener.specs.Notices.{IsAnswer, Woken}
use Rattle.event_listener.specs.declared.key.Key.{Key}
use Rattle.event_listener.specs.declared.error.NoMemory.{NoMemory}
use Rattle.event_listener.specs.declared.error.NotifyError.{NotifyError}
use Rattle.channel_calls.specs.Parts.{Listeners, told_more, told_more_wakes, told_all}

units : {A : Type 0} (tags : List (Unit {0})) (ws : List A) → length tags ≡ length ws → tags ≡ map (λ w. tt) ws
units [] [] e = refl
units [] (w ∷ ws) e = absurd (omega arith)
units (t ∷ ts) [] e = absurd (omega arith)
units (t ∷ ts) (w ∷ ws) e = let f : length ts ≡ length ws = omega arith in ap (λ (xs : List (Unit {0})). tt ∷ xs) (units ts ws f)

take-whole : {A : Type 0} (xs : List A) → take (length xs) xs ≡ xs
take-whole [] = refl
take-whole (x ∷ xs) = ap (λ ys. x ∷ ys) (take-whole xs)

drop-whole : {A : Type 0} (xs : List A) → drop (length xs) xs ≡ []
drop-whole [] = refl
drop-whole (x ∷ xs) = drop-whole xs

pub answer_of : {N : Type 0} (many told : ℕ) (rest : N) (r : Result ℕ NotifyError) → IsAnswer (λ (s : N) (r : Result (Unit {0}) NoMemory) (t : N). (r ≡ Ok tt) × (t ≡ s)) many told rest r → told ≡ many
answer_of many told rest (Ok n) h = h.1
answer_of many told rest (Err e) h = absurd (let no = h.4.0 in cc)

-- whatever no tag of the notification is refused
pub answer_by : {N : Type 0} (gives : N → Result (Unit {0}) NoMemory → N → Type 0) → ((s : N) (e : NoMemory) (t : N) → gives s (Err e) t → ⊥)
    → (many told : ℕ) (rest : N) (r : Result ℕ NotifyError) → IsAnswer gives many told rest r → told ≡ many
answer_by gives never many told rest (Ok n) h = h.1
answer_by gives never many told rest (Err e) h = absurd (never rest h.2 h.3 h.4)

pub all_told : {W : Type 0} (lists new : Lists (Unit {0}) W) (tags : List (Unit {0})) → new ≡ notified false tags lists → length tags ≡ length lists.waiting → new ≡ told_all lists
all_told {W} lists new tags e n =
    let same = units tags lists.waiting n in
    let whole : take (length tags) lists.waiting ≡ lists.waiting = ap (λ k. take k lists.waiting) n ∙ take-whole lists.waiting in
    let none : drop (length tags) lists.waiting ≡ [] = ap (λ k. drop k lists.waiting) n ∙ drop-whole lists.waiting in
    e ∙ (rw (whole, none) (ap (λ (ts : List (Unit {0})). let l : Lists (Unit {0}) W = record { told = lists.told ++ told_with false lists.waiting ts; waiting = [] } in l) same))

pub all_moved : (t w total k : ℕ) → total ≡ t + w → total < 18446744073709551616 → k ≡ min (18446744073709551615 - t) w → k ≡ w
all_moved t w total k a b e = omega arith

-- ---- telling so many more, one after another

-- these lists, with the first n of those that wait told
abbrev first_told : {W : Type 0} → ℕ → Lists (Unit {0}) W → Lists (Unit {0}) W
first_told n l = record { told = l.told ++ told_with true (take n l.waiting) (map (λ w. tt) (take n l.waiting)); waiting = drop n l.waiting }

-- of more than one the first is one
first_alone : (n : ℕ) → min 1 (suc n) ≡ 1
first_alone n = omega arith

least_of_next : (n m : ℕ) → min (suc n) (suc m) ≡ suc (min n m)
least_of_next n m = omega arith

none_of_none : (n : ℕ) → min n 0 ≡ 0
none_of_none n = omega arith

least_of_none : (m : ℕ) → min 0 m ≡ 0
least_of_none m = omega arith

drop_few : {A : Type 0} (n : ℕ) (xs : List A) → drop (min n (length xs)) xs ≡ drop n xs
drop_few zero xs = ap (λ k. drop k xs) (least_of_none (length xs))
drop_few {A} (suc n) [] = ap (λ k. let xs : List A = [] in drop k xs) (none_of_none (suc n))
drop_few (suc n) (x ∷ xs) = ap (λ k. drop k (x ∷ xs)) (least_of_next n (length xs)) ∙ drop_few n xs

module _ {W : Type 0} where
  told_none : (n : ℕ) (told : List (Key × Notice (Unit {0}))) → (let l : Listeners W = record { told = told; waiting = [] } in told_more n l) ≡ record { told = told; waiting = [] }
  told_none zero told = refl
  told_none (suc n) told =
      let same : told ++ [] ≡ told = append-nil told in
      ap (λ (ts : List (Key × Notice (Unit {0}))). let l : Listeners W = record { told = ts; waiting = [] } in told_more n l) same ∙ told_none n told

  woken_none : (n : ℕ) (told : List (Key × Notice (Unit {0}))) → (let l : Listeners W = record { told = told; waiting = [] } in told_more_wakes n l) ≡ []
  woken_none zero told = refl
  woken_none (suc n) told =
      let same : told ++ [] ≡ told = append-nil told in
      ap (λ (ts : List (Key × Notice (Unit {0}))). let l : Listeners W = record { told = ts; waiting = [] } in told_more_wakes n l) same ∙ woken_none n told

  pub told_firsts : (n : ℕ) (told : List (Key × Notice (Unit {0}))) (ws : List (Key × Option W)) → (let l : Listeners W = record { told = told; waiting = ws } in told_more n l ≡ first_told n l)
  told_firsts zero told ws = ap (λ (ts : List (Key × Notice (Unit {0}))). let l : Listeners W = record { told = ts; waiting = ws } in l) (sym (append-nil told))
  told_firsts (suc n) told [] = told_none (suc n) told ∙ ap (λ (ts : List (Key × Notice (Unit {0}))). let l : Listeners W = record { told = ts; waiting = [] } in l) (sym (append-nil told))
  told_firsts (suc n) told (w ∷ ws) =
      let x : Key × Notice (Unit {0}) = (w.0, record { additional = true; tag = tt }) in
      ap (λ (k : ℕ). let l : Listeners W = record { told = told; waiting = w ∷ ws } in told_more n (notified true (take k (tt ∷ [])) l)) (first_alone (length ws))
      ∙ told_firsts n (told ++ x ∷ []) ws
      ∙ ap (λ (ts : List (Key × Notice (Unit {0}))). let l : Listeners W = record { told = ts; waiting = drop n ws } in l) (append_assoc told (x ∷ []) (told_with true (take n ws) (map (λ w. tt) (take n ws))))

  pub woken_firsts : (n : ℕ) (told : List (Key × Notice (Unit {0}))) (ws : List (Key × Option W)) → (let l : Listeners W = record { told = told; waiting = ws } in told_more_wakes n l ≡ tasks_of (take n ws))
  woken_firsts zero told ws = refl
  woken_firsts (suc n) told [] = woken_none (suc n) told
  woken_firsts (suc n) told (w ∷ ws) =
      let x : Key × Notice (Unit {0}) = (w.0, record { additional = true; tag = tt }) in
      let rest = woken_firsts n (told ++ x ∷ []) ws in
      ap (λ (k : ℕ). let l : Listeners W = record { told = told; waiting = w ∷ ws } in tasks_of (take k (w ∷ ws)) ++ told_more_wakes n (notified true (take k (tt ∷ [])) l)) (first_alone (length ws))
      ∙ ap (λ (ts : List W). (option_to_list w.1 ++ []) ++ ts) rest ∙ ap (λ (ts : List W). ts ++ tasks_of (take n ws)) (append-nil (option_to_list w.1))

  pub more_told : (n : ℕ) (l new : Lists (Unit {0}) W) (tags : List (Unit {0})) → new ≡ notified true tags l → length tags ≡ min n (length l.waiting) → new ≡ told_more n l
  more_told n l new tags e many =
      let firsts : take (length tags) l.waiting ≡ take n l.waiting = ap (λ k. take k l.waiting) many ∙ take_min n l.waiting in
      let rest : drop (length tags) l.waiting ≡ drop n l.waiting = ap (λ k. drop k l.waiting) many ∙ drop_few n l.waiting in
      let lengths : length tags ≡ length (take n l.waiting) = many ∙ sym (length-take n l.waiting) in
      let same = units tags (take n l.waiting) lengths in
      e ∙ (rw (firsts, rest) (ap (λ (ts : List (Unit {0})). let l : Lists (Unit {0}) W = record { told = l.told ++ told_with true (take n l.waiting) ts; waiting = drop n l.waiting } in l) same)) ∙ sym (told_firsts n l.told l.waiting)

  pub more_woken : {S : Type 0} (wakes : S → W → S → Type 0) (n : ℕ) (l : Lists (Unit {0}) W) (a b : S) (tags : List (Unit {0})) → length tags ≡ min n (length l.waiting)
      → Woken wakes a (tasks_of (take (length tags) l.waiting)) b → Woken wakes a (told_more_wakes n l) b
  more_woken wakes n l a b tags many h =
      let firsts : take (length tags) l.waiting ≡ take n l.waiting = ap (λ k. take k l.waiting) many ∙ take_min n l.waiting in
      let same : tasks_of (take (length tags) l.waiting) ≡ told_more_wakes n l = ap (λ (ws : List (Key × Option W)). tasks_of ws) firsts ∙ sym (woken_firsts n l.told l.waiting) in
      subst (λ (ws : List W). Woken wakes a ws b) same h
