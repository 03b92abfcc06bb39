-- A call whose others are quiet comes nearer to its end at each step.
use Rattle.std.proofs.Common.{◌≡◌, ℕ, ◌+◌, ◌-◌, ◌*◌, ◌%◌, ◌^◌, ◌<◌, ◌≤◌, ◌&&◌, Bool, true, false, if◌then◌else◌, ◌==◌, nat_lt, nat_le, Option, None, MatchOption, slice_index, refl, sym, ap, ◌∙◌, subst, arith}
use Rattle.std.proofs.lemmas.Nat.{mod_below}
use Rattle.std.proofs.lemmas.Bool.{false≢true}
use Rattle.std.proofs.lemmas.Bool.Decides.{nat_tests}
use Rattle.std.proofs.Math.Nat.{mod-eq_of_lt}
use Rattle.concurrent_queue.specs.Contents.{Contents, write_slot}
use Rattle.concurrent_queue.specs.machine.Positions.{pos}
use Rattle.concurrent_queue.specs.Queue.{Queue, Phase}
use Rattle.concurrent_queue.specs.machine.RingState.{Ring, SoundRing, IsShown, busy}
use Rattle.concurrent_queue.specs.machine.RingCalls.{Duty, hold, IsDuty, owes, owed, held, KnowsRing, placed}
use Rattle.concurrent_queue.specs.machine.RingMeans.{Denotes}
use Rattle.concurrent_queue.specs.machine.RingRank.{ring_rank, rests_at}
use Rattle.concurrent_queue.specs.machine.RingWords as word
use Rattle.concurrent_queue.specs.machine.RingWords.{is_marked, unmarked, index, behind}
use Rattle.concurrent_queue.proofs.RingShape.{IsMark}
use Rattle.concurrent_queue.proofs.RingPlaces.{near_same, turn-index}
use Rattle.concurrent_queue.proofs.RingSound.{by_bool}
use Rattle.concurrent_queue.proofs.RingDenotes as denote
use Rattle.concurrent_queue.proofs.RingDenotes.{eq_true, eq_false, eq_holds}
use Rattle.concurrent_queue.proofs.RingLater.{eq_self}
use Rattle.concurrent_queue.proofs.RingSteps as step
use Rattle.concurrent_queue.proofs.RingSteps.{pick, both, le_true}
use Rattle.concurrent_queue.specs.declared.call.Stepped.{Stepped}
use Rattle.concurrent_queue.specs.declared.cells.Slot.TheVariants.{At}
use Rattle.concurrent_queue.specs.declared.bounded.WhenFull.{WhenFull}
use Rattle.concurrent_queue.specs.declared.bounded.WhenFull.TheVariants.{Refuse, Displace}
use Rattle.concurrent_queue.specs.declared.bounded.RingAction.{RingAction}
use Rattle.concurrent_queue.specs.declared.bounded.RingAction.TheVariants as act

-- the call that made a step replied, or is nearer to its end than before
abbrev pub Nearer : {T : Type 0} → ℕ → ℕ → Contents T → Stepped (RingAction T) T → Type 0
Nearer m before d x = MatchOption x.reply (ring_rank m d x.action < before) (λ y. Unit {0})

two_tests : (b : Bool) (w x y z : ℕ) → w < y → x < z → (if b then w else x) < (if b then y else z)
two_tests true w x y z h g = h
two_tests false w x y z h g = g

not_owed : (b : Bool) → ◌≡◌ {A = ℕ} (if b then 1 else 0) 0 → b ≡ false
not_owed false e = refl
not_owed true e = absurd (omega arith)

lt_no : (x y : ℕ) → nat_lt x y ≡ false → y ≤ x
lt_no x y e = grind (arith, nat_tests)

module _ {T : Type 0} (cap m : ℕ) (two : 2 ≤ cap) (limit : cap ≤ 2 ^ 58) (k : IsMark cap m) (c : Contents T) (r : Ring T) (q : Queue T) (d : Denotes cap m c r) (s : SoundRing cap r) (w : IsShown cap r q) (few : r.tail ≤ 2 ^ 61) where
  abbrev Word : ℕ → ℕ
  Word n = pos cap (2 * m) n

  Calm : Type 0
  Calm = (i : ℕ) → i < cap → busy r i ≡ false

  -- where nobody holds a place, each is free or has its message
  settled : Calm → (n : ℕ) → ((r.at (n % cap)).written ≡ false → r.tail ≤ (r.at (n % cap)).round) × ((r.at (n % cap)).written ≡ true → r.head ≤ (r.at (n % cap)).round)
  unfolding Calm
  settled calm n =
      let b = calm (n % cap) (mod_below n cap (step.some cap m two limit k c r q d s w few)) in (
        (λ e. let f : nat_lt (r.at (n % cap)).round r.tail ≡ false = rw e at b in lt_no _ _ f),
        (λ e. let f : nat_lt (r.at (n % cap)).round r.head ≡ false = rw e at b in lt_no _ _ f),
      )

  -- the place at the tail is free, or has the message of the lap before, which is the oldest
  at_tail : Calm → (((r.at (r.tail % cap)).round ≡ r.tail) × ((r.at (r.tail % cap)).written ≡ false) → ⊥) → ((r.at (r.tail % cap)).round + cap ≡ r.tail) × ((r.at (r.tail % cap)).written ≡ true) × (r.head + cap ≡ r.tail)
  at_tail calm ne =
      let some = step.some cap m two limit k c r q d s w few in
      let b = mod_below r.tail cap some in
      let g = settled calm r.tail in
      let o = s.order in
      let room = s.room in
      by_bool (r.at (r.tail % cap)).written
      (λ e. absurd (let f = g.0 e in let h = (s.free (r.tail % cap) b e f).1 in
      ne (near_same cap (r.at (r.tail % cap)).round r.tail (s.index (r.tail % cap) b) f (omega arith), e)))
      (λ e. let f = g.1 e in let h = (s.full (r.tail % cap) b e f).0 in
      let same : (r.at (r.tail % cap)).round + cap ≡ r.tail = near_same cap ((r.at (r.tail % cap)).round + cap) r.tail (turn-index cap some (r.at (r.tail % cap)).round ∙ s.index (r.tail % cap) b) (omega arith) (omega arith) in
      (same, e, omega arith))

  -- the place at the head has its message, or the queue is empty
  at_head : Calm → ((r.at (r.head % cap)).round ≡ r.head) × ((r.at (r.head % cap)).written ≡ false → r.tail ≡ r.head)
  at_head calm =
      let some = step.some cap m two limit k c r q d s w few in
      let b = mod_below r.head cap some in
      let g = settled calm r.head in
      let o = s.order in
      let room = s.room in
      by_bool (r.at (r.head % cap)).written
      (λ e. let f = g.0 e in let h = (s.free (r.head % cap) b e f).1 in
      let same : (r.at (r.head % cap)).round ≡ r.head = near_same cap (r.at (r.head % cap)).round r.head (s.index (r.head % cap) b) (omega arith) h in
      (same, λ x. omega arith))
      (λ e. let f = g.1 e in let h = (s.full (r.head % cap) b e f).0 in
      let same : (r.at (r.head % cap)).round ≡ r.head = near_same cap (r.at (r.head % cap)).round r.head (s.index (r.head % cap) b) f (omega arith) in
      (same, λ x. absurd (false≢true (sym x ∙ e))))

  calm_of : (a : RingAction T) → held a ≡ None → ((y : Duty) → IsDuty cap y → owed r y ≡ owes cap a y) → Calm
  unfolding Calm
  calm_of a e quiet i h = not_owed (busy r i) (quiet (hold i) h ∙ rw e refl)

  -- the tests that a push makes of the stamp at the tail
  tail_tests : Calm → (n : ℕ) → r.tail ≡ n → (slice_index c.stamps (index m (Word n)) == Word n) ≡ false
      → ((nat_le (2 * m) (Word n) && slice_index c.stamps (index m (Word n)) == Word n - 2 * m + 1) ≡ true) × ((c.head == Word n - 2 * m) ≡ true)
  tail_tests calm n t e =
      let stamp = step.stamp_word cap m two limit k c r q d s w few n in
      let not_free : ((r.at (r.tail % cap)).round ≡ r.tail) × ((r.at (r.tail % cap)).written ≡ false) → ⊥ = λ h.
      (let round : (r.at (n % cap)).round ≡ n = subst (λ (x : ℕ). (r.at (x % cap)).round ≡ x) t h.0 in
      let wr : (r.at (n % cap)).written ≡ false = subst (λ (x : ℕ). (r.at (x % cap)).written ≡ false) t h.1 in
      eq_false _ _ e (stamp ∙ (rw (round, wr) (omega arith)))) in
      let far = at_tail calm not_free in
      let round : (r.at (n % cap)).round + cap ≡ n = subst (λ (x : ℕ). (r.at (x % cap)).round + cap ≡ x) t far.0 in
      let wr : (r.at (n % cap)).written ≡ true = subst (λ (x : ℕ). (r.at (x % cap)).written ≡ true) t far.1 in
      let l = denote.lap_later cap m (step.some cap m two limit k c r q d s w few) k (r.at (n % cap)).round in
      let l' : Word n ≡ Word (r.at (n % cap)).round + 2 * m = sym (ap (λ (x : ℕ). Word x) round) ∙ l in
      let lh = denote.lap_later cap m (step.some cap m two limit k c r q d s w few) k r.head in
      let lh' : Word n ≡ Word r.head + 2 * m = ap (λ (x : ℕ). Word x) (sym t ∙ sym far.2) ∙ lh in
      let a : nat_le (2 * m) (Word n) ≡ true = grind (arith, nat_tests) in
      let st : slice_index c.stamps (index m (Word n)) ≡ Word (r.at (n % cap)).round + 1 = stamp ∙ (rw wr refl) in
      let b : (slice_index c.stamps (index m (Word n)) == Word n - 2 * m + 1) ≡ true = eq_holds _ _ (omega arith) in
      let dh = d.head in
      (rw (a, b) refl, eq_holds c.head (Word n - 2 * m) (omega arith))

  far_rank : (j : WhenFull) (v : T) (h : ℕ) (b : Bool) → (b ≡ true → (c.head == h) ≡ true) → ring_rank m c (behind j v h) < (if b then 6 else 14)
  far_rank Refuse v h true f = rw (f refl) (omega arith)
  far_rank Refuse v h false f = by_bool (c.head == h) (λ e. rw e (omega arith)) (λ e. rw e (omega arith))
  far_rank Displace v h true f = rw (f refl) (omega arith)
  far_rank Displace v h false f = by_bool (c.head == h) (λ e. rw e (omega arith)) (λ e. rw e (omega arith))

  none_replies : (j : WhenFull) (v : T) (h : ℕ) (n : ℕ) → ring_rank m c (behind j v h) < n → Nearer m n c (word.stays (behind j v h))
  none_replies j v h n l = l

  push_look : (j : WhenFull) (v : T) (n : ℕ) → Calm → Nearer m (ring_rank m c (act.PushStamp j v (Word n))) c (word.push_look cap m c j v (Word n)).1
  push_look j v n calm =
      let P : Stepped (RingAction T) T → Type 0 = λ x. Nearer m (ring_rank m c (act.PushStamp j v (Word n))) c x in
      pick P (slice_index c.stamps (index m (Word n)) == Word n) _ _
      (λ e. two_tests (c.tail == Word n) 3 11 6 14 (omega arith) (omega arith))
      (λ e. pick P (nat_le (2 * m) (Word n) && slice_index c.stamps (index m (Word n)) == Word n - 2 * m + 1) _ _
      (λ f. none_replies j v (Word n - 2 * m) _ (far_rank j v (Word n - 2 * m) (c.tail == Word n) (λ g. (tail_tests calm n (step.meets_tail cap m two limit k c r q d s w few n g).1 e).1)))
      (λ f. by_bool (c.tail == Word n) (λ g. rw g (omega arith))
      (λ g. absurd (false≢true (sym f ∙ (tail_tests calm n (step.meets_tail cap m two limit k c r q d s w few n g).1 e).0)))))

  pop_look : (n : ℕ) → n ≤ r.head → Calm → Nearer m (ring_rank m c (act.PopStamp (Word n))) c (word.pop_look cap m c (Word n)).1
  pop_look n low calm =
      let P : Stepped (RingAction T) T → Type 0 = λ x. Nearer m (ring_rank m c (act.PopStamp (Word n))) c x in
      let some = step.some cap m two limit k c r q d s w few in
      let stamp = step.stamp_word cap m two limit k c r q d s w few n in
      let b = denote.pos_small cap m some k n in
      let o = s.order in
      let no_wrap : (Word n + 1) % 2 ^ 64 ≡ Word n + 1 = mod-eq_of_lt (let g : Word n + 1 < 2 ^ 64 = omega arith in g) in
      let at = at_head calm in
      let here : (c.head == Word n) ≡ true → ((r.at (n % cap)).round ≡ n) × ((r.at (n % cap)).written ≡ false → r.tail ≡ n) = λ g.
      (let t = step.meets_head cap m two limit k c r q d s w few n g in
      (subst (λ (x : ℕ). (r.at (x % cap)).round ≡ x) t at.0, subst (λ (x : ℕ). (r.at (x % cap)).written ≡ false → r.tail ≡ x) t at.1)) in
      pick P (slice_index c.stamps (index m (Word n)) == (Word n + 1) % 2 ^ 64) _ _
      (λ e. two_tests (c.head == Word n) 3 9 4 10 (omega arith) (omega arith))
      (λ e. pick P (slice_index c.stamps (index m (Word n)) == Word n) _ _
      (λ f. by_bool (c.head == Word n)
      (λ g. rw g (by_bool (unmarked m c.tail == Word n) (λ x. rw x (omega arith)) (λ x. rw x (omega arith))))
      (λ g.
      let ready = denote.stamp_ready cap m some k (r.at (n % cap)).round n (r.at (n % cap)).written (s.index (n % cap) (mod_below n cap some)) (sym stamp ∙ eq_true _ _ f) in
      let t : r.tail ≡ n = (here g).1 ready.1 in
      let x : (unmarked m c.tail == Word n) ≡ true = eq_holds _ _ (step.tail_word cap m two limit k c r q d s w few ∙ ap (λ (y : ℕ). Word y) t) in
      rw (g, x) (omega arith)))
      (λ f. by_bool (c.head == Word n) (λ g. rw g (omega arith))
      (λ g. absurd (
      let there = here g in
      by_bool (r.at (n % cap)).written
      (λ wr. eq_false _ _ f (stamp ∙ (rw (there.0, wr) (omega arith))))
      (λ wr. eq_false _ _ e (stamp ∙ (rw (there.0, wr) refl) ∙ sym no_wrap))))))

  len_load : Nearer m 3 c (word.len_load cap m c).1
  len_load =
      let some = step.some cap m two limit k c r q d s w few in
      let e = step.tail_word cap m two limit k c r q d s w few in
      let f = step.closed_word cap m two limit k c r q d s w few in
      let g : (if r.closed then (Word r.tail + m) % 2 ^ 64 else Word r.tail) ≡ Word r.tail + (if r.closed then m else 0) = step.was_word cap m two limit k c r q d s w few r.tail r.closed (omega arith) in
      let h : rests_at m c (unmarked m c.tail) (is_marked m c.tail) ≡ true = rw (e, f) (eq_holds _ _ (d.tail ∙ sym g)) in
      rw h (omega arith)

  pub nearer : (a : RingAction T) (p : Phase T) → KnowsRing cap r a p → ((y : Duty) → IsDuty cap y → owed r y ≡ owes cap a y)
      → Nearer m (ring_rank m c (placed (pos cap (2 * m)) a)) (word.ring_step cap m c (placed (pos cap (2 * m)) a)).0 (word.ring_step cap m c (placed (pos cap (2 * m)) a)).1
  nearer (act.Push j v) p h quiet =
      let P : Stepped (RingAction T) T → Type 0 = λ x. Nearer m 7 c x in
      pick P (is_marked m c.tail) _ _ (λ e. refused j)
      (λ e. pick P (nat_le (2 ^ 64 - 2 * m) c.tail) _ _ (λ f. omega arith) (λ f. let g = eq_self c.tail in rw g (omega arith)))
    where
      refused : (i : WhenFull) → Nearer {T = T} m 7 c (word.finishes (word.shut_reply i v))
      refused Refuse = tt
      refused Displace = tt
  nearer (act.PushShut j v) p h quiet = absurd h
  nearer (act.PushStamp j v n) p h quiet = push_look j v n (calm_of (act.PushStamp j v n) refl quiet)
  nearer (act.PushSwap j v n) p h quiet =
      pick (λ (x : Contents T × Stepped (RingAction T) T). Nearer m (ring_rank m c (act.PushSwap j v (Word n))) x.0 x.1) (c.tail == Word n) _ _
      (λ e. rw e (omega arith)) (λ e. rw e (omega arith))
  nearer (act.PushPut j v n) p h quiet = let e = step.vacant cap m two limit k c r q d s w few n h.1.2 in rw e (omega arith)
  nearer (act.PushStore Refuse n) p h quiet = tt
  nearer (act.PushStore Displace n) p h quiet = tt
  nearer (act.PushHead v n) p h quiet =
      pick (λ (x : Stepped (RingAction T) T). Nearer m (ring_rank m c (act.PushHead v (Word n))) c x) (c.head == Word n) _ _ (λ e. tt) (λ e. rw e (omega arith))
  nearer (act.ForceHead v n) p h quiet =
      pick (λ (x : Contents T × Stepped (RingAction T) T). Nearer m (ring_rank m c (act.ForceHead v (Word n))) x.0 x.1) (c.head == Word n) _ _
      (λ e. rw e (omega arith)) (λ e. rw e (omega arith))
  nearer (act.ForceAdd v n) p h quiet = omega arith
  nearer (act.ForceTake v n) p h quiet =
      subst (λ (x : Option T). Nearer m 3 (write_slot c (At (index m (Word n))) None) (word.took x (λ o. act.ForcePut v (Word n) o) (act.ForceTake v (Word n)))) (sym (step.held_slot cap m two limit k c r q d s w few n h.0 h.2.2)) (omega arith)
  nearer (act.ForcePut v n o) p h quiet = let e = step.vacant cap m two limit k c r q d s w few n h.1.2 in rw e (omega arith)
  nearer (act.ForceStore n o) p h quiet = tt
  nearer act.Pop p h quiet = let g = eq_self c.head in rw g (omega arith)
  nearer (act.PopStamp n) p h quiet = pop_look n h.2 (calm_of (act.PopStamp n) refl quiet)
  nearer (act.PopSwap n) p h quiet =
      pick (λ (x : Contents T × Stepped (RingAction T) T). Nearer m (ring_rank m c (act.PopSwap (Word n))) x.0 x.1) (c.head == Word n) _ _
      (λ e. rw e (omega arith)) (λ e. rw e (omega arith))
  nearer (act.PopTail n) p h quiet =
      pick (λ (x : Stepped (RingAction T) T). Nearer m (ring_rank m c (act.PopTail (Word n))) c x) (unmarked m c.tail == Word n) _ _ (λ e. tt) (λ e. rw e (omega arith))
  nearer (act.PopTake n) p h quiet =
      subst (λ (x : Option T). Nearer m 2 (write_slot c (At (index m (Word n))) None) (word.took x (λ o. act.PopStore (Word n) o) (act.PopTake (Word n)))) (sym (step.held_slot cap m two limit k c r q d s w few n h.0 h.2.2)) (omega arith)
  nearer (act.PopStore n v) p h quiet = tt
  nearer act.Close p h quiet = pick (λ (x : Stepped (RingAction T) T). Nearer m 1 (word.close_step cap m c).0 x) (is_marked m c.tail) _ _ (λ e. tt) (λ e. tt)
  nearer act.IsClosed p h quiet = tt
  nearer act.IsEmpty p h quiet = omega arith
  nearer (act.IsEmptyTail n) p h quiet = tt
  nearer act.IsFull p h quiet = omega arith
  nearer (act.IsFullHead n) p h quiet = tt
  nearer act.Len p h quiet = len_load
  nearer (act.LenHead n b) p h quiet = two_tests (rests_at m c (Word n) b) 1 5 2 6 (omega arith) (omega arith)
  nearer (act.LenTail n b t) p h quiet =
      pick (λ (x : Stepped (RingAction T) T). Nearer m (ring_rank m c (act.LenTail (Word n) b (Word t))) c x) (rests_at m c (Word n) b) _ _ (λ e. tt) (λ e. rw e (omega arith))
  nearer act.Capacity p h quiet = tt
  nearer act.Finished p h quiet = absurd h
