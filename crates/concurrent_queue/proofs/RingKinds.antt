-- The kinds of step that a ring makes: nothing changes, it closes, a message comes in at the tail or in a displacing push's
-- place, the oldest leaves, or a place goes on. Each keeps what holds of the ring, shows its mark, and leaves to the other
-- calls what they rely on.
use Rattle.std.proofs.Common.{◌≡◌, ℕ, zero, suc, ◌+◌, ◌-◌, ◌%◌, ◌<◌, ◌≤◌, ◌⊎◌, ⊎_elim, Bool, true, false, if◌then◌else◌, ◌==◌, nat_lt, List, [], ◌∷◌, ◌++◌, length, Option, None, Some, drop, slice_get, MatchOption, refl, sym, ap, ◌∙◌, subst, inl, inr, arith}
use Rattle.std.proofs.lemmas.List.{drop-append-le, length-drop}
use Rattle.std.proofs.lemmas.Bool.{cases_lt, false≢true}
use Rattle.std.proofs.lemmas.Bool.Decides.{nat_tests}
use Rattle.concurrent_queue.specs.Queue.{Queue, Phase, is_displaced, message, is_filled, is_full_at, seen_after, after, Continues, Answers, IsOldest}
use Rattle.concurrent_queue.specs.machine.RingState.{SlotState, Ring, SoundRing, IsShown, busy, with_place}
use Rattle.concurrent_queue.specs.machine.RingCalls.{Duty, hold, bring, IsDuty, held, holds, brings, owes, owed, KnowsRing}
use Rattle.concurrent_queue.specs.machine.RingMeans.{Later, Kept}
use Rattle.concurrent_queue.proofs.RingPlaces.{turn-index}
use Rattle.concurrent_queue.proofs.Refusing.{full_refuses}
use Rattle.concurrent_queue.proofs.RingSound as sound
use Rattle.concurrent_queue.proofs.RingSound.{get_before, get_end, get_below, by_bool, by_eq, if_false, if_true}
use Rattle.concurrent_queue.proofs.RingLater.{eq_self}
use Rattle.concurrent_queue.specs.declared.call.QueueMark.{QueueMark}
use Rattle.concurrent_queue.specs.declared.call.QueueMark.TheVariants as mark
use Rattle.concurrent_queue.specs.declared.call.QueueReply.{QueueReply}
use Rattle.concurrent_queue.specs.declared.bounded.RingAction.{RingAction}
use Rattle.concurrent_queue.specs.declared.bounded.RingAction.TheVariants as act

pub drop_front : {A : Type 0} (xs : List A) (n : ℕ) (v : A) → slice_get xs n ≡ Some v → drop n xs ≡ v ∷ drop (suc n) xs
drop_front [] n v e = absurd cc
drop_front {A = A} (x ∷ xs) zero v e = let same : x ≡ v = cc in ap (λ (y : A). y ∷ xs) same
drop_front (x ∷ xs) (suc n) v e = drop_front xs n v e

drop_next : {A : Type 0} (xs : List A) (n : ℕ) → drop 1 (drop n xs) ≡ drop (suc n) xs
drop_next [] zero = refl
drop_next [] (suc n) = refl
drop_next (x ∷ xs) zero = refl
drop_next (x ∷ xs) (suc n) = drop_next xs n

drop_more : {A : Type 0} (xs : List A) (n : ℕ) → drop 1 (drop n xs) ≡ drop (n + 1) xs
drop_more xs n = let e : n + 1 ≡ suc n = omega arith in rw e (drop_next xs n)

pub get_at : {A : Type 0} (xs : List A) (n : ℕ) → n < length xs → (x : A) × (slice_get xs n ≡ Some x)
get_at [] n h = absurd (omega arith)
get_at (x ∷ xs) zero h = (x, refl)
get_at (x ∷ xs) (suc n) h = get_at xs n (omega arith)

nil_of : {A : Type 0} (xs : List A) → length xs ≡ 0 → xs ≡ []
nil_of [] e = refl
nil_of (x ∷ xs) e = absurd (omega arith)

eq_not : (i j : ℕ) → (i ≡ j → ⊥) → (i == j) ≡ false
eq_not i j ne = by_bool (i == j) (λ e. e) (λ e. absurd (ne (grind (arith, nat_tests))))

module _ {T : Type 0} (cap : ℕ) (some : 0 < cap) (r : Ring T) (q : Queue T) (s : SoundRing cap r) (w : IsShown cap r q) where
  -- ---- what the ring says of the queue

  pub length_is : length q.items + r.head ≡ r.tail
  length_is =
      let e : length q.items ≡ length r.all - r.head = ap (λ (xs : List T). length xs) w.items ∙ length-drop r.head r.all in
      let a = s.all in let o = s.order in omega arith

  pub filled : r.tail ≡ r.head + cap → is_filled q ≡ true
  filled e =
      let l = length_is in
      let f : is_filled q ≡ (length q.items == cap) = ap (λ (x : Option ℕ). is_full_at x q.items) w.capacity in
      f ∙ (let g : length q.items ≡ cap = omega arith in grind (arith, nat_tests))

  pub not_filled : r.tail < r.head + cap → is_filled q ≡ false
  not_filled h =
      let l = length_is in
      let f : is_filled q ≡ (length q.items == cap) = ap (λ (x : Option ℕ). is_full_at x q.items) w.capacity in
      f ∙ eq_not (length q.items) cap (λ e. omega arith)

  pub saw_full : (seen : Bool) → r.closed ≡ false → (seen_after seen q ≡ true) ⊎ (r.tail < r.head + cap)
  saw_full true o = inl refl
  saw_full false o = ⊎_elim (λ h. inr h)
      (λ h. let m = s.room in
      let f = full_refuses q.capacity q.items (filled (omega arith)) in
      let g : q.closed ≡ false = w.closed ∙ o in
      inl (rw g f)) (cases_lt r.tail (r.head + cap))

  pub seen_stays : (seen : Bool) → seen ≡ true → seen_after seen q ≡ true
  seen_stays seen e = rw e refl

  pub empty_is : r.tail ≡ r.head → q.items ≡ []
  empty_is e = nil_of q.items (let l = length_is in omega arith)

  pub oldest_is : (v : T) → slice_get r.all r.head ≡ Some v → IsOldest v q
  oldest_is v e = (drop (suc r.head) r.all, w.items ∙ drop_front r.all r.head v e)

  -- ---- nothing changes

  rests : (a : RingAction T) → Later cap r a r
  rests a =
      record {
        all = λ n v e. e;
        tail = omega arith;
        head = omega arith;
        round = λ i. omega arith;
        written = λ i e f. f;
        place = λ i e. refl;
        behind = λ n o e h k. k;
        coming = λ o e. (e, refl);
      }

  pub quiet : (a : RingAction T) (p : Phase T) (a' : RingAction T) (x : Option (QueueReply T)) → held a ≡ None → held a' ≡ None → brings a ≡ 0 → brings a' ≡ 0
      → MatchOption x ((p' : Phase T) × Continues q p mark.Nothing p' × KnowsRing cap r a' p') (λ y. Answers q p mark.Nothing y × (a' ≡ act.Finished))
      → Kept cap r q a p r a' mark.Nothing x
  quiet a p a' x f f' b b' l = record { sound = s; shown = w; owners = own; later = rests a; leaves = l }
    where
      own : (d : Duty) → IsDuty cap d → owes cap a' d + owed r d ≡ owes cap a d + owed r d
      own (hold i) k = rw (f, f') refl
      own bring k = rw (b, b') refl

  -- ---- it closes

  pub shut : (a : RingAction T) (p : Phase T) (x : QueueReply T) → held a ≡ None → brings a ≡ 0 → Answers q p mark.Close x → Kept cap r q a p (record r { closed = true }) act.Finished mark.Close (Some x)
  shut a p x f b l =
      record {
        sound = record { all = s.all; order = s.order; room = s.room; index = s.index; free = s.free; filling = s.filling; full = s.full; used = s.used; coming = s.coming };
        shown = record { items = w.items; closed = refl; coming = w.coming; accepted = w.accepted; removed = w.removed; capacity = w.capacity };
        owners = own;
        later = let t = rests a in record { all = t.all; tail = t.tail; head = t.head; round = t.round; written = t.written; place = t.place; behind = t.behind; coming = t.coming };
        leaves = (l, refl);
      }
    where
      own : (d : Duty) → IsDuty cap d → owes {T = T} cap act.Finished d + owed r d ≡ owes cap a d + owed (record r { closed = true }) d
      own (hold i) k = rw f refl
      own bring k = rw b refl

  -- ---- a message comes in

  abbrev appended_ring : T → Bool → Ring T
  appended_ring v b = record r { all = r.all ++ v ∷ []; tail = r.tail + 1; coming = b }

  items_append : (v : T) (xs : List T) → xs ≡ v ∷ [] → q.items ++ xs ≡ drop r.head (r.all ++ v ∷ [])
  items_append v xs e =
      let a = s.all in let o = s.order in
      rw (e, w.items) (sym (drop-append-le r.head r.all (v ∷ []) (omega arith)))

  pub item_last : (v : T) → slice_get (r.all ++ v ∷ []) r.tail ≡ Some v
  item_last v = subst (λ (n : ℕ). slice_get (r.all ++ v ∷ []) n ≡ Some v) s.all (get_end r.all v)

  all_append : (v : T) (n : ℕ) (x : T) → slice_get r.all n ≡ Some x → slice_get (r.all ++ v ∷ []) n ≡ Some x
  all_append v n x e = get_before r.all v n (get_below r.all n x e) ∙ e

  -- the calls that move the tail on from the place where it stands
  pub append : (a : RingAction T) (p : Phase T) (a' : RingAction T) (v : T) (n : ℕ) → r.tail ≡ n → n ≤ (r.at (n % cap)).round
      → held a ≡ None → held a' ≡ Some n → brings a ≡ 0 → brings a' ≡ 0 → message p.ask ≡ v ∷ [] → is_displaced p.stage ≡ false
      → (((r.at (n % cap)).round ≡ n) × ((r.at (n % cap)).written ≡ false) × ((r.at (n % cap)).slot ≡ None) × (r.tail < r.head + cap)
      → (p' : Phase T) × Continues q p mark.Append p' × KnowsRing cap (appended_ring v r.coming) a' p')
      → Kept cap r q a p (appended_ring v r.coming) a' mark.Append None
  append a p a' v n t reached f f' b b' e st l =
      let won = sound.push_wins cap some r s n t reached in
      let calm = sound.wins_calm cap some r s n t won.1 in
      record {
        sound = sound.append_keeps cap some r s v r.coming won.3 calm;
        shown = record {
          items = items_append v (message p.ask) e;
          closed = w.closed;
          coming = rw st w.coming;
          accepted = ap (λ (x : ℕ). x + 1) w.accepted;
          removed = w.removed;
          capacity = w.capacity;
        };
        owners = own won.0 won.1;
        later = record {
          all = all_append v;
          tail = omega arith;
          head = omega arith;
          round = λ i. omega arith;
          written = λ i g h. h;
          place = λ i g. refl;
          behind = λ m o g h k. (
              let ne : r.tail ≡ m + cap → ⊥ = λ h'. (
              let i : n % cap ≡ m % cap = ap (λ (x : ℕ). x % cap) (sym t ∙ h') ∙ turn-index cap some m in
              let j : (r.at (m % cap)).round ≡ n = subst (λ (x : ℕ). (r.at x).round ≡ n) i won.0 in
              omega arith) in
              by_bool r.coming
              (λ c. ⊎_elim (λ (g' : r.tail < m + cap). rw c (omega arith)) (λ (g' : m + cap ≤ r.tail). absurd (ne (let k' : r.tail + 0 ≤ m + cap = rw c at k in omega arith))) (cases_lt r.tail (m + cap)))
              (λ c. absurd (calm c)));
          coming = λ o c. absurd (calm c);
        };
        leaves = l won;
      }
    where
      own : (r.at (n % cap)).round ≡ n → (r.at (n % cap)).written ≡ false → (d : Duty) → IsDuty cap d → owes cap a' d + owed r d ≡ owes cap a d + owed (appended_ring v r.coming) d
      own at un bring k = rw (b, b') refl
      own at un (hold i) k = rw (f, f') (by_eq (n % cap) i
          (λ same. subst (λ (j : ℕ). (if (n % cap) == j then 1 else 0) + (if busy r j then 1 else 0) ≡ 0 + (if busy (appended_ring v r.coming) j then 1 else 0)) same (rw un (grind (arith, nat_tests))))
          (λ ne. let ne_tail : (r.at i).round ≡ n → ⊥ = λ h. ne (ap (λ (x : ℕ). x % cap) (sym h) ∙ s.index i k) in
          by_bool (r.at i).written (λ g. rw g (grind (arith, nat_tests))) (λ g. rw g (grind (arith, nat_tests)))))

  -- who makes room at the tail, and then moves it on
  pub bring_in : (a : RingAction T) (p : Phase T) (a' : RingAction T) (v : T) (c : ℕ) → r.coming ≡ true → r.tail ≡ c + cap → c < r.head
      → held a ≡ Some c → held a' ≡ Some c → brings a ≡ 1 → brings a' ≡ 0 → message p.ask ≡ v ∷ [] → is_displaced p.stage ≡ true
      → ((p' : Phase T) × Continues q p mark.Append p' × KnowsRing cap (appended_ring v false) a' p')
      → Kept cap r q a p (appended_ring v false) a' mark.Append None
  bring_in a p a' v c coming t low f f' b b' e st l =
      let at = sound.coming_at cap some r s c coming t in
      record {
        sound = sound.append_keeps cap some r s v false (omega arith) (λ h. false≢true h);
        shown = record {
          items = items_append v (message p.ask) e;
          closed = w.closed;
          coming = rw st refl;
          accepted = ap (λ (x : ℕ). x + 1) w.accepted;
          removed = w.removed;
          capacity = w.capacity;
        };
        owners = own at.0 at.1;
        later = record {
          all = all_append v;
          tail = omega arith;
          head = omega arith;
          round = λ i. omega arith;
          written = λ i g h. h;
          place = λ i g. refl;
          behind = λ m o g h k. (let k' : r.tail + 1 ≤ m + cap = rw coming at k in omega arith);
          coming = λ o c'. absurd (omega arith);
        };
        leaves = l;
      }
    where
      own : (r.at (c % cap)).round ≡ c → (r.at (c % cap)).written ≡ true → (d : Duty) → IsDuty cap d → owes cap a' d + owed r d ≡ owes cap a d + owed (appended_ring v false) d
      own at wr bring k = rw (b, b', coming) refl
      own at wr (hold i) k = rw (f, f') (
          let ne_tail : (r.at i).written ≡ false → (r.at i).round ≡ c + cap → ⊥ = λ h g.
          (let same : i ≡ c % cap = sym (s.index i k) ∙ ap (λ (x : ℕ). x % cap) g ∙ turn-index cap some c in
          false≢true (sym h ∙ subst (λ (j : ℕ). (r.at j).written ≡ true) (sym same) wr)) in
          by_bool (r.at i).written (λ g. let n' = ne_tail g in rw g (grind (arith, nat_tests))) (λ g. rw g refl))

  -- ---- the oldest leaves

  abbrev taken_ring : Bool → Ring T
  taken_ring b = record r { head = r.head + 1; coming = b }

  pub take : (a : RingAction T) (p : Phase T) (a' : RingAction T) (k : QueueMark) (n : ℕ) (b : Bool) → r.head ≡ n → n ≤ (r.at (n % cap)).round → ((r.at (n % cap)).round ≡ n → (r.at (n % cap)).written ≡ true)
      → held a ≡ None → held a' ≡ Some n → brings a ≡ 0 → brings a' + (if r.coming then 1 else 0) ≡ (if b then 1 else 0) → (r.coming ≡ true → b ≡ true)
      → (b ≡ true → (r.coming ≡ false → r.tail ≡ n + cap))
      → after p k q ≡ record q { items = drop 1 q.items; removed = q.removed + 1; coming = if r.coming then q.coming else b }
      → ((v : T) → ((r.at (n % cap)).round ≡ n) × ((r.at (n % cap)).written ≡ true) × (n < r.tail) × ((r.at (n % cap)).slot ≡ Some v) → IsOldest v q
      → (p' : Phase T) × Continues q p k p' × KnowsRing cap (taken_ring b) a' p')
      → Kept cap r q a p (taken_ring b) a' k None
  take a p a' k n b t reached written f f' o o' still fresh e l =
      let won = sound.pop_wins cap some r s n t reached written in
      let v = get_at r.all n (let a = s.all in omega (arith, won.2)) in
      let here : (r.at (r.head % cap)).round ≡ r.head = subst (λ (x : ℕ). (r.at (x % cap)).round ≡ x) (sym t) won.0 in
      let here_written : (r.at (r.head % cap)).written ≡ true = subst (λ (x : ℕ). (r.at (x % cap)).written ≡ true) (sym t) won.1 in
      record {
        sound = sound.take_keeps cap some r s b here here_written (omega (arith, won.2)) (λ h. by_bool r.coming
            (λ c. let full = fresh h c in
            let same : r.tail % cap ≡ n % cap = ap (λ (x : ℕ). x % cap) full ∙ turn-index cap some n in
            (omega arith, omega arith, (let g = ap (λ (x : ℕ). (r.at x).round) same in omega (arith, won.0)), ap (λ (x : ℕ). (r.at x).written) same ∙ won.1))
            (λ c. let g = s.coming c in (omega (arith, g.0), g.1, g.2, g.3)));
        shown = subst (λ (x : Queue T). IsShown cap (taken_ring b) x) (sym e) (record {
          items = ap (λ (xs : List T). drop 1 xs) w.items ∙ drop_more r.all r.head;
          closed = w.closed;
          coming = by_bool r.coming (λ c. rw c refl) (λ c. rw c (w.coming ∙ c ∙ sym (still c)));
          accepted = w.accepted;
          removed = ap (λ (x : ℕ). x + 1) w.removed;
          capacity = w.capacity;
        });
        owners = own won.0 won.1;
        later = record {
          all = λ m x g. g;
          tail = omega arith;
          head = omega arith;
          round = λ i. omega arith;
          written = λ i g h. h;
          place = λ i g. refl;
          behind = λ m g h low k'. by_bool b
              (λ c. rw c (omega (arith, k')))
              (λ c. by_bool r.coming
              (λ c'. let full = fresh c c' in rw c (let k'' : r.tail + 0 ≤ m + cap = rw c' at k' in omega arith))
              (λ c'. rw c (let k'' : r.tail + 1 ≤ m + cap = rw c' at k' in omega arith)));
          coming = λ g c. (still c, refl);
        };
        leaves = l v.0 (won.0, won.1, won.2, won.3 ∙ v.1) (oldest_is v.0 (subst (λ (x : ℕ). slice_get r.all x ≡ Some v.0) (sym t) v.1));
      }
    where
      own : (r.at (n % cap)).round ≡ n → (r.at (n % cap)).written ≡ true → (d : Duty) → IsDuty cap d → owes cap a' d + owed r d ≡ owes cap a d + owed (taken_ring b) d
      own at wr bring g = rw o (omega (arith, o'))
      own at wr (hold i) g = rw (f, f') (by_eq (n % cap) i
          (λ same. subst (λ (j : ℕ). (if (n % cap) == j then 1 else 0) + (if busy r j then 1 else 0) ≡ 0 + (if busy (taken_ring b) j then 1 else 0)) same (rw wr (grind (arith, nat_tests))))
          (λ ne. let ne_head : (r.at i).round ≡ n → ⊥ = λ h. ne (ap (λ (x : ℕ). x % cap) (sym h) ∙ s.index i g) in
          by_bool (r.at i).written (λ h. rw h (grind (arith, nat_tests))) (λ h. rw h (grind (arith, nat_tests)))))

  -- ---- a place goes on

  module _ (i : ℕ) (pl : SlotState T) where
    at_other : (j : ℕ) → (j ≡ i → ⊥) → (with_place r i pl).at j ≡ r.at j
    at_other j ne = if_false (j == i) pl (r.at j) (λ e. ne (grind (arith, nat_tests)))

    pub at_here : (j : ℕ) → j ≡ i → (with_place r i pl).at j ≡ pl
    at_here j e = if_true (j == i) pl (r.at j) (grind (arith, nat_tests))

  -- a place is as it may be
  abbrev pub Fine : ℕ → SlotState T → Type 0
  Fine i x =
      (x.round % cap ≡ i)
      × (x.written ≡ false → r.tail ≤ x.round → (x.slot ≡ None) × (x.round < r.head + cap))
      × (x.written ≡ false → x.round < r.tail → r.head ≤ x.round)
      × (x.written ≡ true → r.head ≤ x.round → (x.round < r.tail) × (x.slot ≡ slice_get r.all x.round))
      × (x.written ≡ true → x.round < r.head → r.head ≤ x.round + cap)

  place_sound : (n : ℕ) (pl : SlotState T) → Fine (n % cap) pl → (r.coming ≡ true → r.tail % cap ≡ n % cap → ⊥) → SoundRing cap (with_place r (n % cap) pl)
  place_sound n pl fine apart =
      let i : ℕ = n % cap in
      let all : (j : ℕ) → j < cap → Fine j ((with_place r i pl).at j) = λ j b. by_eq j i
      (λ e. subst (λ (x : SlotState T). Fine j x) (sym (at_here i pl j e)) (subst (λ (k : ℕ). Fine k pl) (sym e) fine))
      (λ ne. subst (λ (x : SlotState T). Fine j x) (sym (at_other i pl j ne)) (s.index j b, s.free j b, s.filling j b, s.full j b, s.used j b)) in
      record {
        all = s.all;
        order = s.order;
        room = s.room;
        index = λ j b. (all j b).0;
        free = λ j b. (all j b).1;
        filling = λ j b. (all j b).2;
        full = λ j b. (all j b).3;
        used = λ j b. (all j b).4;
        coming = λ c. (
            let g = s.coming c in
            let same = at_other i pl (r.tail % cap) (apart c) in
            (g.0, g.1, (let h = ap (λ (x : SlotState T). x.round) same in omega (arith, g.2)), ap (λ (x : SlotState T). x.written) same ∙ g.3));
      }

  -- a call that holds the place of n changes it, and gives it back or not
  pub place : (a : RingAction T) (p : Phase T) (a' : RingAction T) (n : ℕ) (pl : SlotState T) (x : Option (QueueReply T))
      → held a ≡ Some n → (held a' ≡ Some n) ⊎ (held a' ≡ None) → brings a ≡ 0 → brings a' ≡ 0
      → (r.at (n % cap)).round ≤ pl.round → (pl.round ≡ (r.at (n % cap)).round → (r.at (n % cap)).written ≡ true → pl.written ≡ true)
      → (r.coming ≡ true → r.tail % cap ≡ n % cap → ⊥)
      → Fine (n % cap) pl
      → holds cap (n % cap) (held a') + (if busy r (n % cap) then 1 else 0) ≡ 1 + (if (if pl.written then nat_lt pl.round r.head else nat_lt pl.round r.tail) then 1 else 0)
      → MatchOption x ((p' : Phase T) × Continues q p mark.Nothing p' × KnowsRing cap (with_place r (n % cap) pl) a' p') (λ y. Answers q p mark.Nothing y × (a' ≡ act.Finished))
      → Kept cap r q a p (with_place r (n % cap) pl) a' mark.Nothing x
  place a p a' n pl x f f' b b' grows stays apart fine acct l =
      let i : ℕ = n % cap in
      let r' : Ring T = with_place r i pl in
      record {
        sound = place_sound n pl fine apart;
        shown = record { items = w.items; closed = w.closed; coming = w.coming; accepted = w.accepted; removed = w.removed; capacity = w.capacity };
        owners = own;
        later = record {
          all = λ m y e. e;
          tail = omega arith;
          head = omega arith;
          round = λ j. by_eq j i
              (λ e. let g = ap (λ (y : SlotState T). y.round) (at_here i pl j e) in let h = ap (λ (k : ℕ). (r.at k).round) e in omega (arith, g, h, grows))
              (λ ne. let g = ap (λ (y : SlotState T). y.round) (at_other i pl j ne) in omega arith);
          written = λ j e h. by_eq j i
              (λ same.
              let g = at_here i pl j same in
              let k = ap (λ (m : ℕ). (r.at m).round) same in
              let h' : (r.at i).written ≡ true = sym (ap (λ (m : ℕ). (r.at m).written) same) ∙ h in
              ap (λ (y : SlotState T). y.written) g ∙ stays (sym (ap (λ (y : SlotState T). y.round) g) ∙ e ∙ k) h')
              (λ ne. ap (λ (y : SlotState T). y.written) (at_other i pl j ne) ∙ h);
          place = λ j o. by_eq j i
              (λ e. absurd (
              let g : owes cap a (hold i) ≡ 1 = rw f (rw (eq_self i) refl) in
              let h : owes cap a (hold j) ≡ owes cap a (hold i) = ap (λ (k : ℕ). owes cap a (hold k)) e in
              omega arith))
              (λ ne. at_other i pl j ne);
          behind = λ m o g h k. k;
          coming = λ o c. (c, refl);
        };
        leaves = l;
      }
    where
      own : (d : Duty) → IsDuty cap d → owes cap a' d + owed r d ≡ owes cap a d + owed (with_place r (n % cap) pl) d
      own bring k = rw (b, b') refl
      own (hold j) k = by_eq j (n % cap)
          (λ same.
          let mine : owes cap a (hold (n % cap)) ≡ 1 = rw f (rw (eq_self (n % cap)) refl) in
          let now : busy (with_place r (n % cap) pl) (n % cap) ≡ (if pl.written then nat_lt pl.round r.head else nat_lt pl.round r.tail)
          = ap (λ (y : SlotState T). if y.written then nat_lt y.round r.head else nat_lt y.round r.tail) (at_here (n % cap) pl (n % cap) refl) in
          subst (λ (z : ℕ). owes cap a' (hold z) + (if busy r z then 1 else 0) ≡ owes cap a (hold z) + (if busy (with_place r (n % cap) pl) z then 1 else 0)) (sym same)
          (rw (mine, now) acct))
          (λ ne.
          let not_here : (n % cap == j) ≡ false = eq_not (n % cap) j (λ e. ne (sym e)) in
          let old : owes cap a (hold j) ≡ 0 = rw f (rw not_here refl) in
          let new : owes cap a' (hold j) ≡ 0 = ⊎_elim (λ h. rw h (rw not_here refl)) (λ h. rw h refl) f' in
          let same : busy (with_place r (n % cap) pl) j ≡ busy r j = ap (λ (y : SlotState T). if y.written then nat_lt y.round r.head else nat_lt y.round r.tail) (at_other (n % cap) pl j ne) in
          rw (old, new, same) refl)
