-- A notification, one listener at a time.
use Rattle.std.proofs.Common.{◌≡◌, ℕ, ◌+◌, Bool, List, [], ◌∷◌, ◌++◌, length, take, drop, Result, Ok, Err, Option, refl, ap, subst, ◌∙◌, arith, append_assoc, length-append}
use Rattle.std.proofs.lemmas.List.{append-nil}
use Rattle.std.specs.Option.{option_to_list}
use Rattle.event_listener.specs.declared.key.Key.{Key}
use Rattle.event_listener.specs.declared.error.NoMemory.{NoMemory}
use Rattle.event_listener.specs.Lists.{Lists, notified, told_with, tasks_of}
use Rattle.event_listener.specs.Notices.{Draws, Woken}

module _ {N T : Type 0} (gives : N → Result T NoMemory → N → Type 0) where
  pub Draws-more : (n : N) (ts : List T) (m : N) (t : T) (k : N) → Draws gives n ts m → gives m (Ok t) k → Draws gives n (ts ++ t ∷ []) k
  Draws-more n [] m t k d h = (k, subst (λ v. gives v (Ok t) k) d h, refl)
  Draws-more n (x ∷ ts) m t k d h = (d.0, d.1, Draws-more d.0 ts m t k d.2 h)

  -- what is no tag is a refusal
  pub refused : (n m : N) (r : Result T NoMemory) → ((t : T) → r ≡ Ok t → ⊥) → gives n r m → (error : NoMemory) × gives n (Err error) m
  refused n m (Ok t) none g = absurd (none t refl)
  refused n m (Err e) none g = (e, g)

  module _ {W S : Type 0} (wakes : S → W → S → Type 0) where
    -- what was done before the turn i
    pub record Sofar (additional : Bool) (i : ℕ) (n m : N) (old new : Lists T W) (sink now : S) : Type 0 where
      pub tags : List T
      pub count : length tags ≡ i
      pub drawn : Draws gives n tags m
      pub lists : new ≡ notified additional tags old
      pub woken : Woken wakes sink (tasks_of (take (length tags) old.waiting)) now

module _ {T W : Type 0} where
  told-more : (a : Bool) (ws : List (Key × Option W)) (ts : List T) (t : T) → told_with a (take (length ts) ws) ts ++ told_with a (take 1 (drop (length ts) ws)) (t ∷ []) ≡ told_with a (take (length (ts ++ t ∷ [])) ws) (ts ++ t ∷ [])
  told-more a [] [] t = refl
  told-more a (w ∷ ws) [] t = refl
  told-more a [] (x ∷ ts) t = refl
  told-more a (w ∷ ws) (x ∷ ts) t = ap (λ r. (w.0, record { additional = a; tag = x }) ∷ r) (told-more a ws ts t)

  drop-more : (ws : List (Key × Option W)) (ts : List T) (t : T) → drop 1 (drop (length ts) ws) ≡ drop (length (ts ++ t ∷ [])) ws
  drop-more [] [] t = refl
  drop-more (w ∷ ws) [] t = refl
  drop-more [] (x ∷ ts) t = refl
  drop-more (w ∷ ws) (x ∷ ts) t = drop-more ws ts t

  tasks-more : (ws : List (Key × Option W)) (ts : List T) (t : T) → tasks_of (take (length ts) ws) ++ tasks_of (take 1 (drop (length ts) ws)) ≡ tasks_of (take (length (ts ++ t ∷ [])) ws)
  tasks-more [] [] t = refl
  tasks-more (w ∷ ws) [] t = refl
  tasks-more [] (x ∷ ts) t = refl
  tasks-more (w ∷ ws) (x ∷ ts) t = append_assoc _ (tasks_of (take (length ts) ws)) _ ∙ ap (λ r. option_to_list w.1 ++ r) (tasks-more ws ts t)

  pub notified-none : (a : Bool) (lists : Lists T W) → notified a [] lists ≡ lists
  notified-none a lists = let e : lists.told ++ told_with a (take 0 lists.waiting) [] ≡ lists.told = append-nil lists.told in λ i. record { told = e i; waiting = lists.waiting }

  -- one more is told
  pub notified-more : (a : Bool) (old : Lists T W) (ts : List T) (t : T) → notified a (t ∷ []) (notified a ts old) ≡ notified a (ts ++ t ∷ []) old
  notified-more a old ts t =
      let e = append_assoc old.told (told_with a (take (length ts) old.waiting) ts) (told_with a (take 1 (drop (length ts) old.waiting)) (t ∷ [])) ∙ ap (λ r. old.told ++ r) (told-more a old.waiting ts t) in
      let d = drop-more old.waiting ts t in
      λ i. record { told = e i; waiting = d i }

module _ {W S : Type 0} (wakes : S → W → S → Type 0) where
  pub Woken-append : (s : S) (xs ys : List W) (t u : S) → Woken wakes s xs t → Woken wakes t ys u → Woken wakes s (xs ++ ys) u
  Woken-append s [] ys t u a b = subst (λ v. Woken wakes v ys u) a b
  Woken-append s (x ∷ xs) ys t u a b = (a.0, a.1, Woken-append a.0 xs ys t u a.2 b)

module _ {N T W S : Type 0} (gives : N → Result T NoMemory → N → Type 0) (wakes : S → W → S → Type 0) where
  pub Sofar-more : (a : Bool) (i : ℕ) (n m k : N) (old new newer : Lists T W) (sink now later : S) (t : T) → Sofar gives wakes a i n m old new sink now → gives m (Ok t) k → newer ≡ notified a (t ∷ []) new → Woken wakes now (tasks_of (take 1 new.waiting)) later → Sofar gives wakes a (i + 1) n k old newer sink later
  Sofar-more a i n m k old new newer sink now later t s d l w =
      let c : length (s.tags ++ t ∷ []) ≡ length s.tags + 1 = length-append s.tags (t ∷ []) in
      let w2 : Woken wakes now (tasks_of (take 1 (drop (length s.tags) old.waiting))) later = subst (λ (r : Lists T W). Woken wakes now (tasks_of (take 1 r.waiting)) later) s.lists w in
      record {
        tags = s.tags ++ t ∷ [];
        count = omega (arith, s.count);
        drawn = Draws-more gives n s.tags m t k s.drawn d;
        lists = l ∙ ap (notified a (t ∷ [])) s.lists ∙ notified-more a old s.tags t;
        woken = subst (λ r. Woken wakes sink r later) (tasks-more old.waiting s.tags t) (Woken-append wakes sink _ (tasks_of (take 1 (drop (length s.tags) old.waiting))) now later s.woken w2);
      }
