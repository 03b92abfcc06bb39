-- What the words and slots of a ring show of its queue.
use Rattle.std.proofs.Common.{◌≡◌, ℕ, zero, suc, ◌+◌, ◌-◌, ◌*◌, ◌%◌, ◌<◌, ◌≤◌, ◌⊎◌, ⊎_elim, Bool, true, false, if◌then◌else◌, ◌==◌, nat_lt, List, [], ◌∷◌, length, drop, Option, None, Some, slice_get, refl, sym, ap, ◌∙◌, subst, inl, inr, arith}
use Rattle.std.proofs.lemmas.Nat.{mod_below, div-add-mod'}
use Rattle.std.proofs.lemmas.Bool.{cases_lt, false≢true}
use Rattle.std.proofs.lemmas.Bool.Decides.{nat_tests}
use Rattle.concurrent_queue.specs.Contents.{Contents, slot_at}
use Rattle.concurrent_queue.specs.machine.Positions.{pos}
use Rattle.concurrent_queue.specs.Queue.{appended, Phase, message}
use Rattle.concurrent_queue.specs.machine.Places.{Place, Each, sum}
use Rattle.concurrent_queue.specs.Step.{HasBrought, IsBrought, LiesBy}
use Rattle.concurrent_queue.specs.machine.Forms.{place_phases, FormShows, FormLies}
use Rattle.concurrent_queue.specs.machine.RingState.{SlotState, Ring, SoundRing, busy, reach}
use Rattle.concurrent_queue.specs.machine.RingCalls.{Duty, hold, bring, IsDuty, ask_of, at_stage, owes, owed, KnowsRing}
use Rattle.concurrent_queue.specs.machine.RingMeans.{Denotes, RingMeans}
use Rattle.concurrent_queue.specs.machine.RingRank.{ring_rank}
use Rattle.concurrent_queue.specs.machine.RingWords.{is_marked, unmarked}
use Rattle.concurrent_queue.specs.machine.RingReadings.{number_of, ring_closed, ring_counted, ring_length, ring_slot, held_from, ring_held}
use Rattle.concurrent_queue.proofs.RingShape.{IsMark}
use Rattle.concurrent_queue.proofs.RingPlaces.{near_same, turn-index, pos-div}
use Rattle.concurrent_queue.proofs.RingSound.{by_bool}
use Rattle.concurrent_queue.proofs.RingKinds.{length_is, drop_front, get_at}
use Rattle.concurrent_queue.proofs.RingDenotes as denote
use Rattle.concurrent_queue.proofs.RingDenotes.{eq_true}
use Rattle.concurrent_queue.proofs.RingSteps.{slot_of}
use Rattle.concurrent_queue.proofs.RingTheorem.{same_phases}
use Rattle.concurrent_queue.specs.declared.call.QueueAsk.{QueueAsk}
use Rattle.concurrent_queue.specs.declared.call.QueueAsk.TheVariants as ask
use Rattle.concurrent_queue.specs.declared.cells.Slot.TheVariants.{At}
use Rattle.concurrent_queue.specs.declared.bounded.WhenFull.{WhenFull}
use Rattle.concurrent_queue.specs.declared.bounded.WhenFull.TheVariants.{Refuse, Displace}
use Rattle.concurrent_queue.specs.declared.bounded.RingAction.{RingAction}
use Rattle.concurrent_queue.specs.declared.bounded.RingAction.TheVariants as act

some_same : {T : Type 0} {x y : T} → Some x ≡ Some y → x ≡ y
some_same e = cc

lt_yes : (x y : ℕ) → x < y → nat_lt x y ≡ true
lt_yes x y h = grind (arith, nat_tests)

get_drop : {A : Type 0} (xs : List A) (n i : ℕ) → slice_get (drop n xs) i ≡ slice_get xs (n + i)
get_drop [] zero i = refl
get_drop [] (suc n) i = refl
get_drop (x ∷ xs) zero i = let e : 0 + i ≡ i = omega arith in rw e refl
get_drop (x ∷ xs) (suc n) i = let e : suc n + i ≡ suc (n + i) = omega arith in rw e (get_drop xs n i)

get_inside : {A : Type 0} (xs : List A) (i : ℕ) (x : A) → slice_get xs i ≡ Some x → i < length xs
get_inside [] i x e = absurd cc
get_inside (y ∷ xs) zero x e = omega arith
get_inside (y ∷ xs) (suc i) x e = omega (arith, get_inside xs i x e)

module _ {T : Type 0} (cap : ℕ) (some : 0 < cap) (r : Ring T) (s : SoundRing cap r) (n : ℕ) (v : T) (low : r.head ≤ n) (high : n < r.tail) (it : slice_get r.all n ≡ Some v) where
  abbrev there : SlotState T
  there = r.at (n % cap)

  -- the place of a message in the list has it, or is being filled with it, or still stands for the one a lap before
  which : ((there.slot ≡ Some v)) ⊎ ((busy r (n % cap) ≡ true) × ((there.round ≡ n) ⊎ ((there.round + cap ≡ n) × (there.written ≡ true))))
  which =
      let b = mod_below n cap some in
      let x = s.index (n % cap) b in
      let room = s.room in
      by_bool there.written
      (λ e. ⊎_elim
      (λ (h : there.round < r.tail). let f = s.filling (n % cap) b e h in
      let same : there.round ≡ n = ⊎_elim
      (λ (g : there.round < n). sym (near_same cap n there.round (sym x) (omega arith) (omega arith)))
      (λ (g : n ≤ there.round). near_same cap there.round n x g (omega arith)) (cases_lt there.round n) in
      inr (rw e (lt_yes _ _ h), inl same))
      (λ (h : r.tail ≤ there.round). absurd (let f = (s.free (n % cap) b e h).1 in let same = near_same cap there.round n x (omega arith) (omega arith) in omega arith))
      (cases_lt there.round r.tail))
      (λ e. ⊎_elim
      (λ (h : there.round < r.head). let u = s.used (n % cap) b e h in
      let same : there.round + cap ≡ n = ⊎_elim
      (λ (g : there.round + cap < n). sym (near_same cap n (there.round + cap) (sym (turn-index cap some there.round ∙ x)) (omega arith) (omega arith)))
      (λ (g : n ≤ there.round + cap). near_same cap (there.round + cap) n (turn-index cap some there.round ∙ x) g (omega arith)) (cases_lt (there.round + cap) n) in
      inr (rw e (lt_yes _ _ h), inr (same, e)))
      (λ (h : r.head ≤ there.round). let f = s.full (n % cap) b e h in
      let same : there.round ≡ n = ⊎_elim
      (λ (g : there.round < n). sym (near_same cap n there.round (sym x) (omega arith) (omega arith)))
      (λ (g : n ≤ there.round). near_same cap there.round n x g (omega (arith, f.0))) (cases_lt there.round n) in
      inl (f.1 ∙ ap (λ (y : ℕ). slice_get r.all y) same ∙ it))
      (cases_lt there.round r.head))

  abbrev Brings : Phase T → Type 0
  Brings p = (message p.ask ≡ v ∷ []) × HasBrought p.stage

  brings_of : (p : Phase T) (a : QueueAsk T) (o : Option T) (w : T) → p ≡ at_stage a (appended o) → message a ≡ w ∷ [] → slice_get r.all n ≡ Some w → Brings p
  brings_of p a o w e m g =
      let same : w ≡ v = some_same (sym g ∙ it) in
      subst (λ (x : Phase T). Brings x) (sym e) (m ∙ ap (λ (x : T). x ∷ []) same, tt)

  message_of : (k : WhenFull) (w : T) → message (ask_of k w) ≡ w ∷ []
  message_of Refuse w = refl
  message_of Displace w = refl

  same_index : (c : ℕ) → (c % cap == n % cap) ≡ true → (r.at (c % cap)).round ≡ there.round
  same_index c e = ap (λ (i : ℕ). (r.at i).round) (eq_true _ _ e)

  same_written : (c : ℕ) → (c % cap == n % cap) ≡ true → (r.at (c % cap)).written ≡ there.written
  same_written c e = ap (λ (i : ℕ). (r.at i).written) (eq_true _ _ e)

  none_held : (c : ℕ) → (c % cap == n % cap) ≡ false → ◌≡◌ {A = ℕ} (if (c % cap == n % cap) then 1 else 0) 0
  none_held c e = rw e refl

  -- a call that holds the place where the stamp has come to n, or a lap less, has brought the message of n
  module _ (stands : (there.round ≡ n) ⊎ ((there.round + cap ≡ n) × (there.written ≡ true))) (p : Phase T) where
    filler : (k : WhenFull) (c : ℕ) (w : T) → (c % cap == n % cap) ≡ true → (r.at (c % cap)).round ≡ c → (r.at (c % cap)).written ≡ false → p ≡ at_stage (ask_of k w) (appended None) → slice_get r.all c ≡ Some w → Brings p
    filler k c w e at un f g = ⊎_elim
        (λ h. let same : c ≡ n = sym at ∙ same_index c e ∙ h in brings_of p (ask_of k w) None w f (message_of k w) (ap (λ (x : ℕ). slice_get r.all x) (sym same) ∙ g))
        (λ h. absurd (false≢true (sym un ∙ same_written c e ∙ h.1))) stands

    forcer : (c : ℕ) (w : T) (o : Option T) → (c % cap == n % cap) ≡ true → (r.at (c % cap)).round ≡ c → c < r.head → p ≡ at_stage (ask.ForcePush w) (appended o) → slice_get r.all (c + cap) ≡ Some w → Brings p
    forcer c w o e at below f g = ⊎_elim
        (λ h. absurd (let x = same_index c e in omega arith))
        (λ h. let same : c + cap ≡ n = (let x = same_index c e in omega (arith, h.0)) in brings_of p (ask.ForcePush w) o w f refl (ap (λ (x : ℕ). slice_get r.all x) (sym same) ∙ g)) stands

    popper : (c : ℕ) → (c % cap == n % cap) ≡ true → (r.at (c % cap)).round ≡ c → c < r.head → r.tail ≤ c + cap → Brings p
    popper c e at below far = ⊎_elim (λ h. absurd (let x = same_index c e in omega arith)) (λ h. absurd (let x = same_index c e in omega (arith, h.0))) stands

    reached : (c : ℕ) → reach r ≤ c + cap → r.tail ≤ c + cap
    reached c h = by_bool r.coming (λ e. let g : r.tail + 0 ≤ c + cap = rw e at h in omega arith) (λ e. let g : r.tail + 1 ≤ c + cap = rw e at h in omega arith)

    brought_by : (a : RingAction T) → KnowsRing cap r a p → (◌≡◌ {A = ℕ} (owes cap a (hold (n % cap))) 0) ⊎ Brings p
    brought_by (act.PushPut k w c) h = by_bool (c % cap == n % cap) (λ e. inl (none_held c e)) (λ e. inr (filler k c w e h.1.0 h.1.1 h.0 h.2.1))
    brought_by (act.PushStore k c) h = by_bool (c % cap == n % cap) (λ e. inl (none_held c e)) (λ e. inr (filler k c h.0 e h.2.0 h.2.1 h.1 h.3.1))
    brought_by (act.ForceAdd w c) h = by_bool (c % cap == n % cap) (λ e. inl (none_held c e)) (λ e. inr (popper c e h.2.0 h.3 (omega (arith, h.4))))
    brought_by (act.ForceTake w c) h = by_bool (c % cap == n % cap) (λ e. inl (none_held c e)) (λ e. inr (forcer c w _ e h.2.0 h.3 h.1 h.4.1))
    brought_by (act.ForcePut w c d) h = by_bool (c % cap == n % cap) (λ e. inl (none_held c e)) (λ e. inr (forcer c w _ e h.1.0 h.2 h.0 h.3.1))
    brought_by (act.ForceStore c d) h = by_bool (c % cap == n % cap) (λ e. inl (none_held c e)) (λ e. inr (forcer c h.0 _ e h.2.0 h.3 h.1 h.4.1))
    brought_by (act.PopTake c) h = by_bool (c % cap == n % cap) (λ e. inl (none_held c e)) (λ e. inr (popper c e h.2.0 h.3 (reached c h.4)))
    brought_by (act.PopStore c d) h = by_bool (c % cap == n % cap) (λ e. inl (none_held c e)) (λ e. inr (popper c e h.1.0 h.2 (reached c h.3)))
    brought_by (act.Push k w) h = inl refl
    brought_by (act.PushShut k w) h = absurd h
    brought_by (act.PushStamp k w c) h = inl refl
    brought_by (act.PushSwap k w c) h = inl refl
    brought_by (act.PushHead w c) h = inl refl
    brought_by (act.ForceHead w c) h = inl refl
    brought_by act.Pop h = inl refl
    brought_by (act.PopStamp c) h = inl refl
    brought_by (act.PopSwap c) h = inl refl
    brought_by (act.PopTail c) h = inl refl
    brought_by act.Close h = inl refl
    brought_by act.IsClosed h = inl refl
    brought_by act.IsEmpty h = inl refl
    brought_by (act.IsEmptyTail c) h = inl refl
    brought_by act.IsFull h = inl refl
    brought_by (act.IsFullHead c) h = inl refl
    brought_by act.Len h = inl refl
    brought_by (act.LenHead c b) h = inl refl
    brought_by (act.LenTail c b t) h = inl refl
    brought_by act.Capacity h = inl refl
    brought_by act.Finished h = absurd h

  brought_among : ((there.round ≡ n) ⊎ ((there.round + cap ≡ n) × (there.written ≡ true))) → (xs : List (Place (RingAction T) T)) → 1 ≤ sum (λ a. owes cap a (hold (n % cap))) xs
      → Each (λ (x : Place (RingAction T) T). KnowsRing cap r x.action x.phase) xs → IsBrought (place_phases xs) v
  brought_among st [] h all = absurd (omega arith)
  brought_among st (x ∷ xs) h all = ⊎_elim
      (λ e. inr (brought_among st xs (omega (arith, e)) all.1))
      (λ e. inl e)
      (brought_by st x.phase x.action all.0)

  lies_there : (xs : List (Place (RingAction T) T)) → sum (λ a. owes cap a (hold (n % cap))) xs ≡ (if busy r (n % cap) then 1 else 0)
      → Each (λ (x : Place (RingAction T) T). KnowsRing cap r x.action x.phase) xs → (there.slot ≡ Some v) ⊎ IsBrought (place_phases xs) v
  lies_there xs e all = ⊎_elim (λ h. inl h) (λ h. inr (brought_among h.1 xs (let f : sum (λ a. owes cap a (hold (n % cap))) xs ≡ 1 = e ∙ (rw h.0 refl) in omega arith) all)) which

  at_rest_there : busy r (n % cap) ≡ false → there.slot ≡ Some v
  at_rest_there e = ⊎_elim (λ h. h) (λ h. absurd (false≢true (sym e ∙ h.0))) which

no_calls : {T : Type 0} (xs : List (Place (RingAction T) T)) → place_phases xs ≡ [] → xs ≡ []
no_calls [] e = refl
no_calls (x ∷ xs) e = absurd cc

module _ (cap m : ℕ) (some : 0 < cap) (k : IsMark cap m) where
  number_is : (n : ℕ) → number_of cap m (pos cap (2 * m) n) ≡ n
  number_is n =
      let e = pos-div cap some (2 * m) (denote.wide cap m some k) n in
      let i = denote.index_is cap m some k n in
      rw (e, i) (div-add-mod' n cap)

module _ {T : Type 0} (cap m : ℕ) (some : 0 < cap) (k : IsMark cap m) where
  module _ (c : Contents T) (r : Ring T) (d : Denotes cap m c r) (s : SoundRing cap r) where
    counted_is : ring_counted cap m c ≡ r.tail
    counted_is = ap (λ (w : ℕ). number_of cap m (unmarked m w)) d.tail ∙ ap (λ (w : ℕ). number_of cap m w) (denote.unmarked_is cap m some k r.tail r.closed) ∙ number_is cap m some k r.tail

    head_is : number_of cap m c.head ≡ r.head
    head_is = ap (λ (w : ℕ). number_of cap m w) d.head ∙ number_is cap m some k r.head

    slot_is : (n : ℕ) → slot_at c (At (n % cap)) ≡ (r.at (n % cap)).slot
    slot_is n = slot_of c.slots (n % cap) _ (d.slots (n % cap) (mod_below n cap some))

    -- at rest the slots from the head on have the messages in order
    held_is : ((i : ℕ) → i < cap → busy r i ≡ false) → (j n : ℕ) → r.head ≤ n → n + j ≡ r.tail → held_from cap c j n ≡ drop n r.all
    held_is calm zero n low e = sym (past r.all n (let a = s.all in omega arith))
      where
        past : {A : Type 0} (xs : List A) (i : ℕ) → length xs ≡ i → drop i xs ≡ []
        past [] zero e = refl
        past [] (suc i) e = refl
        past (x ∷ xs) zero e = absurd (omega arith)
        past (x ∷ xs) (suc i) e = past xs i (omega arith)
    held_is calm (suc j) n low e =
        let x = get_at r.all n (let a = s.all in omega arith) in
        let slot : slot_at c (At (n % cap)) ≡ Some x.0 = slot_is n ∙ at_rest_there cap some r s n x.0 low (omega arith) x.1 (calm (n % cap) (mod_below n cap some)) in
        let rest = held_is calm j (suc n) (omega arith) (omega arith) in
        rw (slot, rest) (sym (drop_front r.all n x.0 x.1))

pub ring_shows : {T : Type 0} (cap m : ℕ) → 2 ≤ cap → IsMark cap m → FormShows {A = RingAction T} {T = T} (RingMeans cap m) (ring_rank m) (Some cap) (ring_closed m) (ring_length cap m) (ring_counted cap m) (ring_held cap m)
ring_shows {T} cap m two k c q places means =
    let some : 0 < cap = omega arith in
    let r = means.ring in
    let s = means.sound in
    let w = means.shown in
    let d = means.denotes in
    let l = length_is cap some r q s w in
    let o = s.order in
    let room = s.room in
    let tail = counted_is cap m some k c r d s in
    let head = head_is cap m some k c r d s in
    let phases : place_phases places ≡ place_phases means.calls = ap place_phases means.positions ∙ same_phases (pos cap (2 * m)) means.calls in
    record {
      limit = w.capacity;
      flag = ap (λ (x : ℕ). is_marked m x) d.tail ∙ denote.marked_is cap m some k r.tail r.closed ∙ sym w.closed;
      long = omega arith;
      within = λ y e. (let f : Some cap ≡ Some y = sym w.capacity ∙ e in let g : cap ≡ y = cc in omega arith);
      balance = (let a = w.accepted in let b = w.removed in omega arith);
      numbered = inr ((λ e. absurd (let f : Some cap ≡ Some 1 = sym w.capacity ∙ e in let g : cap ≡ 1 = cc in omega arith)), tail ∙ sym w.accepted);
      at_rest = λ e. (
          let none : means.calls ≡ [] = no_calls means.calls (sym phases ∙ e) in
          let idle : (y : Duty) → IsDuty cap y → owed r y ≡ 0 = λ y i. sym (means.owners y i) ∙ ap (λ (xs : List (Place (RingAction T) T)). sum (λ a. owes cap a y) xs) none in
          let calm : (i : ℕ) → i < cap → busy r i ≡ false = λ i h. not_owed (busy r i) (idle (hold i) h) in (
            w.items ∙ sym (rw (tail, head) (held_is cap m some k c r d s calm (r.tail - r.head) r.head (omega arith) (omega arith))),
            w.coming ∙ not_owed r.coming (idle bring tt),
          ));
    }
  where
    not_owed : (b : Bool) → ◌≡◌ {A = ℕ} (if b then 1 else 0) 0 → b ≡ false
    not_owed false e = refl
    not_owed true e = absurd (omega arith)

pub ring_lies : {T : Type 0} (cap m : ℕ) → 2 ≤ cap → IsMark cap m → FormLies {A = RingAction T} {T = T} (RingMeans cap m) (ring_rank m) (ring_slot cap m)
ring_lies {T} cap m two k c q places means =
    let some : 0 < cap = omega arith in
    let r = means.ring in
    let s = means.sound in
    let w = means.shown in
    let d = means.denotes in
    let l = length_is cap some r q s w in
    let o = s.order in
    let room = s.room in
    let head = head_is cap m some k c r d s in
    let phases : place_phases places ≡ place_phases means.calls = ap place_phases means.positions ∙ same_phases (pos cap (2 * m)) means.calls in
    subst (λ (h : ℕ). LiesBy (λ i. At ((h + i) % cap)) c q.items (IsBrought (place_phases places))) (sym head) (record {
      apart = λ i j h g e. (
          let f : (r.head + i) % cap ≡ (r.head + j) % cap = cc in
          ⊎_elim
          (λ (x : i < j). absurd (let z = near_same cap (r.head + j) (r.head + i) (sym f) (omega arith) (omega arith) in omega arith))
          (λ (x : j ≤ i). let z = near_same cap (r.head + i) (r.head + j) f (omega arith) (omega arith) in omega arith) (cases_lt i j));
      there = λ i v e. (
          let below = get_inside q.items i v e in
          let it : slice_get r.all (r.head + i) ≡ Some v = sym (get_drop r.all r.head i) ∙ ap (λ (xs : List T). slice_get xs i) (sym w.items) ∙ e in
          let n : ℕ = r.head + i in
          let h = lies_there cap some r s n v (omega arith) (omega arith) it means.calls (means.owners (hold (n % cap)) (mod_below n cap some)) means.knows in
          ⊎_elim (λ g. inl (slot_is cap m some k c r d s n ∙ g)) (λ g. inr (subst (λ (ps : List (Phase T)). IsBrought ps v) (sym phases) g)) h);
    })
