-- The steps of a ring keep what holds of it at every moment.
use Rattle.std.proofs.Common.{◌≡◌, ℕ, zero, suc, ◌+◌, ◌%◌, ◌<◌, ◌≤◌, ⊎_elim, Bool, true, false, if◌then◌else◌, List, [], ◌∷◌, ◌++◌, length, None, Some, slice_get, refl, sym, ap, ◌∙◌, subst, arith, length-append}
use Rattle.std.proofs.lemmas.Nat.{mod_below}
use Rattle.std.proofs.lemmas.Bool.{cases_lt, false≢true}
use Rattle.concurrent_queue.specs.machine.RingState.{Ring, SoundRing}
use Rattle.concurrent_queue.proofs.RingPlaces.{near_same, turn-index}

-- the end of a list
pub get_before : {A : Type 0} (xs : List A) (x : A) (k : ℕ) → k < length xs → slice_get (xs ++ x ∷ []) k ≡ slice_get xs k
get_before [] x k h = absurd (omega arith)
get_before (y ∷ xs) x zero h = refl
get_before (y ∷ xs) x (suc k) h = get_before xs x k (omega arith)

pub get_end : {A : Type 0} (xs : List A) (x : A) → slice_get (xs ++ x ∷ []) (length xs) ≡ Some x
get_end [] x = refl
get_end (y ∷ xs) x = get_end xs x

pub get_below : {A : Type 0} (xs : List A) (k : ℕ) (x : A) → slice_get xs k ≡ Some x → k < length xs
get_below [] k x e = absurd cc
get_below (y ∷ xs) zero x e = omega arith
get_below (y ∷ xs) (suc k) x e = omega (arith, get_below xs k x e)

pub by_bool : {P : Type 0} (b : Bool) → (b ≡ false → P) → (b ≡ true → P) → P
by_bool false f g = f refl
by_bool true f g = g refl

pub by_eq : {P : Type 0} (x y : ℕ) → (x ≡ y → P) → ((x ≡ y → ⊥) → P) → P
by_eq x y f g = ⊎_elim (λ h. g (λ e. absurd (omega arith))) (λ h. ⊎_elim (λ k. g (λ e. absurd (omega arith))) (λ k. f (omega arith)) (cases_lt y x)) (cases_lt x y)

pub if_false : {A : Type 0} (b : Bool) (x y : A) → (b ≡ true → ⊥) → (if b then x else y) ≡ y
if_false false x y ne = refl
if_false true x y ne = absurd (ne refl)

pub if_true : {A : Type 0} (b : Bool) (x y : A) → b ≡ true → (if b then x else y) ≡ x
if_true false x y e = absurd (false≢true e)
if_true true x y e = refl

module _ {T : Type 0} (cap : ℕ) (some : 0 < cap) (r : Ring T) (s : SoundRing cap r) where
  -- a push wins the tail: its place was free at just this number, and there was room
  pub push_wins : (n : ℕ) → r.tail ≡ n → n ≤ (r.at (n % cap)).round
      → ((r.at (n % cap)).round ≡ n) × ((r.at (n % cap)).written ≡ false) × ((r.at (n % cap)).slot ≡ None) × (r.tail < r.head + cap)
  push_wins n e reached =
      let i : ℕ = n % cap in
      let b = mod_below n cap some in
      let o = s.order in
      by_bool (r.at i).written
      (λ w. let f = s.free i b w (omega arith) in
      let same : (r.at i).round ≡ n = near_same cap (r.at i).round n (s.index i b) reached (let k = f.1 in omega arith) in
      (same, w, f.0, let k = f.1 in omega arith))
      (λ w. absurd (⊎_elim (λ h. omega arith) (λ h. let u = (s.full i b w h).0 in omega arith) (cases_lt (r.at i).round r.head)))

  -- no message is on its way where a push can win the tail
  pub wins_calm : (n : ℕ) → r.tail ≡ n → (r.at (n % cap)).written ≡ false → r.coming ≡ true → ⊥
  wins_calm n e w c = let t = (s.coming c).3 in false≢true (sym w ∙ subst (λ (x : ℕ). (r.at (x % cap)).written ≡ true) e t)

  -- a message comes in at the tail
  pub append_keeps : (v : T) (coming' : Bool) → r.tail < r.head + cap → (coming' ≡ true → ⊥) → SoundRing cap (record r { all = r.all ++ v ∷ []; tail = r.tail + 1; coming = coming' })
  append_keeps v coming' space calm =
      let len = length-append r.all (v ∷ []) in
      let a = s.all in
      let o = s.order in
      record {
        all = omega arith;
        order = omega arith;
        room = omega arith;
        index = s.index;
        free = λ i b w h. s.free i b w (omega arith);
        filling = λ i b w h. ⊎_elim (λ g. s.filling i b w g) (λ g. omega arith) (cases_lt (r.at i).round r.tail);
        full = λ i b w h. (let f = s.full i b w h in
            (omega (arith, f.0), f.1 ∙ sym (get_before r.all v (r.at i).round (omega (arith, f.0)))));
        used = s.used;
        coming = λ h. absurd (calm h);
      }

  -- a pop wins the head: its message was in, and is the oldest
  pub pop_wins : (n : ℕ) → r.head ≡ n → n ≤ (r.at (n % cap)).round → ((r.at (n % cap)).round ≡ n → (r.at (n % cap)).written ≡ true)
      → ((r.at (n % cap)).round ≡ n) × ((r.at (n % cap)).written ≡ true) × (n < r.tail) × ((r.at (n % cap)).slot ≡ slice_get r.all n)
  pop_wins n e reached written =
      let i : ℕ = n % cap in
      let b = mod_below n cap some in
      let c = s.room in
      let near : (r.at i).round < n + cap → (r.at i).round ≡ n = λ h. near_same cap (r.at i).round n (s.index i b) reached h in
      by_bool (r.at i).written
      (λ w. absurd (⊎_elim
      (λ h. let g = s.filling i b w h in let same = near (omega arith) in false≢true (sym w ∙ written same))
      (λ h. let f = (s.free i b w h).1 in let same = near (omega arith) in false≢true (sym w ∙ written same)) (cases_lt (r.at i).round r.tail)))
      (λ w. let f = s.full i b w (omega arith) in
      let same : (r.at i).round ≡ n = near (omega (arith, f.0)) in
      (same, w, omega (arith, f.0), f.1 ∙ ap (slice_get r.all) same))

  -- the head moves on past a message that is in
  pub take_keeps : (coming' : Bool) → (r.at (r.head % cap)).round ≡ r.head → (r.at (r.head % cap)).written ≡ true → r.head < r.tail
      → (coming' ≡ true → (r.tail < r.head + 1 + cap) × (cap ≤ r.tail) × ((r.at (r.tail % cap)).round + cap ≡ r.tail) × ((r.at (r.tail % cap)).written ≡ true))
      → SoundRing cap (record r { head = r.head + 1; coming = coming' })
  take_keeps coming' won written low came =
      let here : (i : ℕ) → i < cap → (r.at i).round % cap ≡ r.head % cap → (r.at i).round ≡ r.head = λ i b same. (let j : i ≡ r.head % cap = sym (s.index i b) ∙ same in subst (λ (x : ℕ). (r.at x).round ≡ r.head) (sym j) won) in
      let here_written : (i : ℕ) → i < cap → (r.at i).round % cap ≡ r.head % cap → (r.at i).written ≡ true = λ i b same. (let j : i ≡ r.head % cap = sym (s.index i b) ∙ same in subst (λ (x : ℕ). (r.at x).written ≡ true) (sym j) written) in
      let c = s.room in
      record {
        all = s.all;
        order = omega arith;
        room = omega arith;
        index = s.index;
        free = λ i b w h. (let f = s.free i b w h in (f.0, omega (arith, f.1)));
        filling = λ i b w h. (let f = s.filling i b w h in ⊎_elim (λ g. absurd (let at : (r.at i).round ≡ r.head = omega arith in false≢true (sym w ∙ here_written i b (ap (λ (x : ℕ). x % cap) at)))) (λ g. g) (cases_lt (r.at i).round (r.head + 1)));
        full = λ i b w h. s.full i b w (omega arith);
        used = λ i b w h. ⊎_elim
            (λ g. let u = s.used i b w g in ⊎_elim (λ l. omega arith)
            (λ l. absurd (let at : (r.at i).round + cap ≡ r.head = omega arith in
            let same : (r.at i).round % cap ≡ r.head % cap = sym (turn-index cap some (r.at i).round) ∙ ap (λ (x : ℕ). x % cap) at in
            omega (arith, here i b same))) (cases_lt r.head ((r.at i).round + cap)))
            (λ g. omega arith) (cases_lt (r.at i).round r.head);
        coming = λ h. (let k = came h in (omega (arith, k.0), k.1, k.2, k.3));
      }

  -- where a message is on its way, the place next at the tail is a lap behind
  pub coming_at : (n : ℕ) → r.coming ≡ true → r.tail ≡ n + cap → ((r.at (n % cap)).round ≡ n) × ((r.at (n % cap)).written ≡ true)
  coming_at n c e =
      let k = s.coming c in
      let same : r.tail % cap ≡ n % cap = ap (λ (x : ℕ). x % cap) e ∙ turn-index cap some n in
      (let f = ap (λ (x : ℕ). (r.at x).round) same in omega (arith, k.2), sym (ap (λ (x : ℕ). (r.at x).written) same) ∙ k.3)
