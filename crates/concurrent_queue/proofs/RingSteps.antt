-- Each step of the machine on words and slots is one by the numbers of messages.
use Rattle.std.proofs.Common.{◌≡◌, ℕ, zero, suc, ◌+◌, ◌-◌, ◌*◌, ◌%◌, ◌^◌, ◌<◌, ◌≤◌, ◌&&◌, ⊎_elim, Bool, true, false, if◌then◌else◌, ◌==◌, nat_le, bit_or, List, [], ◌∷◌, Option, None, Some, slice_get, slice_index, slice_index_or, refl, sym, ap, ◌∙◌, subst, arith}
use Rattle.std.proofs.lemmas.Nat.{mod_below}
use Rattle.std.proofs.Math.Nat.{mod-eq_of_lt}
use Rattle.std.proofs.lemmas.Bool.{cases_lt, false≢true}
use Rattle.std.proofs.lemmas.Bool.Decides.{nat_tests}
use Rattle.concurrent_queue.specs.Contents.{Contents, write_slot, slot_at, is_vacant}
use Rattle.concurrent_queue.specs.machine.Positions.{pos}
use Rattle.concurrent_queue.specs.Queue.{Queue, Phase, trying}
use Rattle.concurrent_queue.specs.machine.RingState.{Ring, SoundRing, IsShown, with_place}
use Rattle.concurrent_queue.specs.machine.RingCalls.{ask_of, at_stage, Saw, KnowsRing, placed}
use Rattle.concurrent_queue.specs.machine.RingMeans.{Denotes, Kept}
use Rattle.concurrent_queue.specs.machine.RingWords as word
use Rattle.concurrent_queue.specs.machine.RingWords.{is_marked, unmarked, index, stays, marks, finishes, shut_reply, pushed_reply, behind}
use Rattle.concurrent_queue.proofs.RingShape.{IsMark}
use Rattle.concurrent_queue.proofs.RingPlaces.{turn-index}
use Rattle.concurrent_queue.proofs.RingSound.{by_bool}
use Rattle.concurrent_queue.proofs.RingDenotes as denote
use Rattle.concurrent_queue.proofs.RingDenotes.{eq_true, eq_false, eq_holds}
use Rattle.concurrent_queue.proofs.RingKeeps as keep
use Rattle.concurrent_queue.specs.declared.call.QueueMark.TheVariants as mark
use Rattle.concurrent_queue.specs.declared.call.Stepped.{Stepped}
use Rattle.concurrent_queue.specs.declared.cells.Slot.TheVariants.{At}
use Rattle.concurrent_queue.specs.declared.bounded.WhenFull.{WhenFull}
use Rattle.concurrent_queue.specs.declared.bounded.WhenFull.TheVariants.{Refuse, Displace}
use Rattle.concurrent_queue.specs.declared.bounded.RingAction.{RingAction}
use Rattle.concurrent_queue.specs.declared.bounded.RingAction.TheVariants as act

-- what a step of the machine leaves, by numbers
pub record RingStep {T : Type 0} (cap m : ℕ) (r : Ring T) (q : Queue T) (a : RingAction T) (p : Phase T) (d : Contents T) (x : Stepped (RingAction T) T) : Type 0 where
  pub ring : Ring T
  pub action : RingAction T
  pub denotes : Denotes cap m d ring
  pub stands : x.action ≡ placed (pos cap (2 * m)) action
  pub kept : Kept cap r q a p ring action x.mark x.reply

pub pick : {A : Type 0} (P : A → Type 0) (b : Bool) (x y : A) → (b ≡ true → P x) → (b ≡ false → P y) → P (if b then x else y)
pick P true x y f g = f refl
pick P false x y f g = g refl

pub slot_of : {T : Type 0} (xs : List (Option T)) (i : ℕ) (o : Option T) → slice_get xs i ≡ Some o → slice_index_or xs i None ≡ o
slot_of [] i o e = absurd cc
slot_of (y ∷ xs) zero o e = cc
slot_of (y ∷ xs) (suc i) o e = slot_of xs i o e

pub le_true : (x y : ℕ) → nat_le x y ≡ true → x ≤ y
le_true x y e = grind (arith, nat_tests)

pub both : (a b : Bool) → (a && b) ≡ true → (a ≡ true) × (b ≡ true)
both true true e = (refl, refl)
both true false e = absurd (false≢true e)
both false b e = absurd (false≢true e)

module _ {T : Type 0} (cap m : ℕ) (two : 2 ≤ cap) (limit : cap ≤ 2 ^ 58) (k : IsMark cap m) (c : Contents T) (r : Ring T) (q : Queue T) (d : Denotes cap m c r) (s : SoundRing cap r) (w : IsShown cap r q) (few : r.tail ≤ 2 ^ 61) where
  at_pos : ℕ → ℕ
  at_pos n = pos cap (2 * m) n

  pub some : 0 < cap
  some = omega arith

  abbrev Word : ℕ → ℕ
  Word n = pos cap (2 * m) n

  -- put together
  made : (a : RingAction T) (p o : Phase T) → p ≡ o → (e : Contents T) (x : Stepped (RingAction T) T) (r' : Ring T) (a' : RingAction T) → Denotes cap m e r' → x.action ≡ placed (pos cap (2 * m)) a' → Kept cap r q a o r' a' x.mark x.reply → RingStep cap m r q a p e x
  made a p o g e x r' a' f h l = record { ring = r'; action = a'; denotes = f; stands = h; kept = keep.at_phase cap two r q s w a p o r' a' x.mark x.reply g l }

  -- ---- what the words say

  pub closed_word : is_marked m c.tail ≡ r.closed
  closed_word = ap (λ (x : ℕ). is_marked m x) d.tail ∙ denote.marked_is cap m some k r.tail r.closed

  pub tail_word : unmarked m c.tail ≡ Word r.tail
  tail_word = ap (λ (x : ℕ). unmarked m x) d.tail ∙ denote.unmarked_is cap m some k r.tail r.closed

  -- a tail that is the position of n: open, and at n
  pub meets_tail : (n : ℕ) → (c.tail == Word n) ≡ true → (r.closed ≡ false) × (r.tail ≡ n)
  meets_tail n e =
      let f : Word r.tail + (if r.closed then m else 0) ≡ Word n + (if false then m else 0) = sym d.tail ∙ eq_true c.tail (Word n) e ∙ (omega arith) in
      let g = denote.same_word cap m some k r.tail n r.closed false f in (g.1, g.0)

  pub meets_head : (n : ℕ) → (c.head == Word n) ≡ true → r.head ≡ n
  meets_head n e = denote.same_pos cap m some k r.head n (sym d.head ∙ eq_true c.head (Word n) e)

  pub open_tail : r.closed ≡ false → c.tail ≡ Word r.tail
  open_tail o = d.tail ∙ (rw o (omega arith))

  pub stamp_word : (n : ℕ) → slice_index c.stamps (index m (Word n)) ≡ Word (r.at (n % cap)).round + (if (r.at (n % cap)).written then 1 else 0)
  stamp_word n = ap (λ (i : ℕ). slice_index c.stamps i) (denote.index_is cap m some k n) ∙ denote.stamp_of cap m some k c r d (n % cap) (mod_below n cap some)

  small_tail : Word r.tail + 2 * m < 2 ^ 64
  small_tail = let a = denote.pos_small cap m some k r.tail in let b = k.near in omega arith

  -- ---- a push

  pub push_load : (j : WhenFull) (v : T) (p : Phase T) → KnowsRing cap r (act.Push j v) p → RingStep cap m r q (act.Push j v) p (word.push_load cap m c j v).0 (word.push_load cap m c j v).1
  push_load j v p h = pick (λ (x : Stepped (RingAction T) T). RingStep cap m r q (act.Push j v) p c x) (is_marked m c.tail) _ _
      (λ e. made _ p _ h.1 c _ r act.Finished d refl (keep.push_refused cap two r q s w j v h.0 (sym closed_word ∙ e)))
      (λ e. let o : r.closed ≡ false = sym closed_word ∙ e in
      let t = open_tail o in
      pick (λ (x : Stepped (RingAction T) T). RingStep cap m r q (act.Push j v) p c x) (nat_le (2 ^ 64 - 2 * m) c.tail) _ _
      (λ f. absurd (let a = le_true (2 ^ 64 - 2 * m) c.tail f in let b = small_tail in omega arith))
      (λ f. made _ p _ h.1 c _ r (act.PushStamp j v r.tail) d (ap (λ (x : ℕ). act.PushStamp j v x) t) (keep.push_opens cap two r q s w j v h.0 o)))

  push_far : (j : WhenFull) (v : T) (n : ℕ) (p : Phase T) (h : KnowsRing cap r (act.PushStamp j v n) p)
      → (nat_le (2 * m) (Word n) && slice_index c.stamps (index m (Word n)) == Word n - 2 * m + 1) ≡ true → RingStep cap m r q (act.PushStamp j v n) p c (stays (behind j v (Word n - 2 * m)))
  push_far j v n p h e =
      let f = both _ _ e in
      let low = le_true (2 * m) (Word n) f.0 in
      let x : slice_index c.stamps (index m (Word n)) ≡ Word n - 2 * m + 1 = eq_true _ _ f.1 in
      let late : cap ≤ n = ⊎_elim (λ (g : n < cap). absurd (let a = denote.small_below cap m some k n g in let b = k.wide in omega arith)) (λ (g : cap ≤ n). g) (cases_lt n cap) in
      let b : n - cap + cap ≡ n = omega arith in
      let lap : Word n ≡ Word (n - cap) + 2 * m = ap (λ (y : ℕ). Word y) (sym b) ∙ denote.lap_later cap m some k (n - cap) in
      let there : Word n - 2 * m ≡ Word (n - cap) = omega arith in
      let same : (n - cap) % cap ≡ n % cap = sym (turn-index cap some (n - cap)) ∙ ap (λ (y : ℕ). y % cap) b in
      let g : Word (r.at (n % cap)).round + (if (r.at (n % cap)).written then 1 else 0) ≡ Word (n - cap) + 1 = sym (stamp_word n) ∙ x ∙ ap (λ (y : ℕ). y + 1) there in
      let at = denote.stamp_written cap m some k (r.at (n % cap)).round (n - cap) (r.at (n % cap)).written (s.index (n % cap) (mod_below n cap some) ∙ sym same) g in
      made _ p _ h.1 c _ r (behind j v (n - cap)) d (far_action j there)
      (subst (λ (y : ℕ). Kept cap r q (act.PushStamp j v y) (at_stage (ask_of j v) (trying h.0)) r (behind j v (n - cap)) mark.Nothing None) b
      (keep.push_behind cap two r q s w j v h.0 (n - cap)
      (ap (λ (i : ℕ). (r.at i).round) same ∙ at.0) (ap (λ (i : ℕ). (r.at i).written) same ∙ at.1)
      (subst (λ (y : ℕ). Saw cap r y h.0) (sym b) h.2)))
    where
      far_action : (i : WhenFull) → Word n - 2 * m ≡ Word (n - cap) → behind i v (Word n - 2 * m) ≡ placed (pos cap (2 * m)) (behind i v (n - cap))
      far_action Refuse e' = ap (λ (x : ℕ). act.PushHead v x) e'
      far_action Displace e' = ap (λ (x : ℕ). act.ForceHead v x) e'

  pub push_look : (j : WhenFull) (v : T) (n : ℕ) (p : Phase T) → KnowsRing cap r (act.PushStamp j v n) p → RingStep cap m r q (act.PushStamp j v n) p (word.push_look cap m c j v (Word n)).0 (word.push_look cap m c j v (Word n)).1
  push_look j v n p h =
      pick (λ (x : Stepped (RingAction T) T). RingStep cap m r q (act.PushStamp j v n) p c x) (slice_index c.stamps (index m (Word n)) == Word n) _ _
      (λ e. let at = denote.stamp_ready cap m some k (r.at (n % cap)).round n (r.at (n % cap)).written (s.index (n % cap) (mod_below n cap some)) (sym (stamp_word n) ∙ eq_true _ _ e) in
      made _ p _ h.1 c _ r (act.PushSwap j v n) d refl (keep.push_ready cap two r q s w j v h.0 n at.0))
      (λ e. pick (λ (x : Stepped (RingAction T) T). RingStep cap m r q (act.PushStamp j v n) p c x) (nat_le (2 * m) (Word n) && slice_index c.stamps (index m (Word n)) == Word n - 2 * m + 1) _ _
      (λ f. push_far j v n p h f)
      (λ f. made _ p _ h.1 c _ r (act.Push j v) d refl (keep.push_again-stamp cap two r q s w j v h.0 n)))

  next_tail : (n : ℕ) → r.tail ≡ n → r.closed ≡ false → word.next_word cap m (Word n) ≡ Word (r.tail + 1) + (if r.closed then m else 0)
  next_tail n t o = denote.next_is cap m some k n (omega arith) ∙ ap (λ (x : ℕ). Word (x + 1)) (sym t) ∙ (rw o (omega arith))

  pub push_swap : (j : WhenFull) (v : T) (n : ℕ) (p : Phase T) → KnowsRing cap r (act.PushSwap j v n) p → RingStep cap m r q (act.PushSwap j v n) p (word.push_swap cap m c j v (Word n)).0 (word.push_swap cap m c j v (Word n)).1
  push_swap j v n p h =
      pick (λ (x : Contents T × Stepped (RingAction T) T). RingStep cap m r q (act.PushSwap j v n) p x.0 x.1) (c.tail == Word n) _ _
      (λ e. let t = meets_tail n e in
      made _ p _ h.1 _ _ _ (act.PushPut j v n) (record { head = d.head; tail = next_tail n t.1 t.0; stamps = d.stamps; slots = d.slots }) refl
      (keep.push_wins cap two r q s w j v h.0 n t.1 t.0 h.2))
      (λ e. made _ p _ h.1 c _ r (act.Push j v) d refl (keep.push_again-swap cap two r q s w j v h.0 n))

  -- ---- a slot, a stamp

  pub vacant : (n : ℕ) → (r.at (n % cap)).slot ≡ None → is_vacant (slice_get c.slots (index m (Word n))) ≡ true
  vacant n e = ap (λ (i : ℕ). is_vacant (slice_get c.slots i)) (denote.index_is cap m some k n) ∙ ap is_vacant (d.slots (n % cap) (mod_below n cap some)) ∙ ap (λ (o : Option T). is_vacant (Some o)) e

  pub held_slot : (n : ℕ) (v : T) → (r.at (n % cap)).slot ≡ Some v → slot_at c (At (index m (Word n))) ≡ Some v
  held_slot n v e = ap (λ (i : ℕ). slot_at c (At i)) (denote.index_is cap m some k n) ∙ slot_of c.slots (n % cap) _ (d.slots (n % cap) (mod_below n cap some)) ∙ e

  -- the slot of n's place after a put or a take
  slotted : (n : ℕ) (o : Option T) → Denotes cap m (write_slot c (At (index m (Word n))) o) (with_place r (n % cap) (record { round = (r.at (n % cap)).round; written = (r.at (n % cap)).written; slot = o }))
  slotted n o = subst (λ (i : ℕ). Denotes cap m (write_slot c (At i) o) (with_place r (n % cap) (record { round = (r.at (n % cap)).round; written = (r.at (n % cap)).written; slot = o }))) (sym (denote.index_is cap m some k n))
      (denote.with_slot cap m some k c r d n (record { round = (r.at (n % cap)).round; written = (r.at (n % cap)).written; slot = o }) o refl refl refl)

  stamped : (n x y : ℕ) (b : Bool) → x ≡ Word y + (if b then 1 else 0) → Denotes cap m (word.set_stamp c (index m (Word n)) x) (with_place r (n % cap) (record { round = y; written = b; slot = (r.at (n % cap)).slot }))
  stamped n x y b e = subst (λ (i : ℕ). Denotes cap m (word.set_stamp c i x) (with_place r (n % cap) (record { round = y; written = b; slot = (r.at (n % cap)).slot }))) (sym (denote.index_is cap m some k n))
      (denote.with_stamp cap m some k c r d n (record { round = y; written = b; slot = (r.at (n % cap)).slot }) x e refl)

  put_words : (a : RingAction T) (p o : Phase T) → p ≡ o → (n : ℕ) (v : T) (next again : RingAction T) → is_vacant (slice_get c.slots (index m (Word n))) ≡ true
      → Kept cap r q a o (with_place r (n % cap) (record { round = (r.at (n % cap)).round; written = (r.at (n % cap)).written; slot = Some v })) next mark.Nothing None
      → RingStep cap m r q a p (word.put_step c (index m (Word n)) v (placed (pos cap (2 * m)) next) again).0 (word.put_step c (index m (Word n)) v (placed (pos cap (2 * m)) next) again).1
  put_words a p o g n v next again e l = rw e (made a p o g _ _ _ next (slotted n (Some v)) refl l)

  take_words : (a : RingAction T) (p o : Phase T) → p ≡ o → (n : ℕ) (v : T) (next : T → RingAction T) (there : RingAction T) (again : RingAction T) → slot_at c (At (index m (Word n))) ≡ Some v → next v ≡ placed (pos cap (2 * m)) there
      → Kept cap r q a o (with_place r (n % cap) (record { round = (r.at (n % cap)).round; written = (r.at (n % cap)).written; slot = None })) there mark.Nothing None
      → RingStep cap m r q a p (word.take_step c (index m (Word n)) next again).0 (word.take_step c (index m (Word n)) next again).1
  take_words a p o g n v next there again e f l =
      subst (λ (x : Option T). RingStep cap m r q a p (write_slot c (At (index m (Word n))) None) (word.took x next again)) (sym e) (made a p o g _ _ _ there (slotted n None) f l)

  pub push_put : (j : WhenFull) (v : T) (n : ℕ) (p : Phase T) → KnowsRing cap r (act.PushPut j v n) p → RingStep cap m r q (act.PushPut j v n) p (word.push_put cap m c j v (Word n)).0 (word.push_put cap m c j v (Word n)).1
  push_put j v n p h = put_words _ p _ h.0 n v (act.PushStore j n) _ (vacant n h.1.2) (keep.push_puts cap two r q s w j v n h.1 h.2)

  pub push_store : (j : WhenFull) (n : ℕ) (p : Phase T) → KnowsRing cap r (act.PushStore j n) p → RingStep cap m r q (act.PushStore j n) p (word.push_store cap m c j (Word n)).0 (word.push_store cap m c j (Word n)).1
  push_store j n p h =
      let b = denote.pos_small cap m some k n in
      made _ p _ h.1 _ _ _ act.Finished (stamped n ((Word n + 1) % 2 ^ 64) n true (mod-eq_of_lt (let f = h.3.0 in omega arith))) refl (keep.push_stores cap two r q s w j h.0 n h.2 h.3)

  pub push_head : (v : T) (n : ℕ) (p : Phase T) → KnowsRing cap r (act.PushHead v n) p → RingStep cap m r q (act.PushHead v n) p (word.push_head c v (Word n)).0 (word.push_head c v (Word n)).1
  push_head v n p h = pick (λ (x : Stepped (RingAction T) T). RingStep cap m r q (act.PushHead v n) p c x) (c.head == Word n) _ _
      (λ e. made _ p _ h.1 c _ r act.Finished d refl (keep.push_full cap two r q s w v h.0 n h.2 (meets_head n e)))
      (λ e. made _ p _ h.1 c _ r (act.Push Refuse v) d refl (keep.push_again-head cap two r q s w v h.0 n))

  next_head : (n : ℕ) → r.head ≡ n → word.next_word cap m (Word n) ≡ Word (r.head + 1)
  next_head n t = denote.next_is cap m some k n (let o = s.order in omega arith) ∙ ap (λ (x : ℕ). Word (x + 1)) (sym t)

  pub force_head : (v : T) (n : ℕ) (p : Phase T) → KnowsRing cap r (act.ForceHead v n) p → RingStep cap m r q (act.ForceHead v n) p (word.force_head cap m c v (Word n)).0 (word.force_head cap m c v (Word n)).1
  force_head v n p h =
      pick (λ (x : Contents T × Stepped (RingAction T) T). RingStep cap m r q (act.ForceHead v n) p x.0 x.1) (c.head == Word n) _ _
      (λ e. let t = meets_head n e in
      made _ p _ h.1 _ _ _ (act.ForceAdd v n) (record { head = next_head n t; tail = d.tail; stamps = d.stamps; slots = d.slots }) refl
      (keep.force_wins cap two r q s w v h.0 n t h.2 h.3))
      (λ e. made _ p _ h.1 c _ r (act.Push Displace v) d refl (keep.force_again cap two r q s w v h.0 n))

  pub force_add : (v : T) (n : ℕ) (p : Phase T) → KnowsRing cap r (act.ForceAdd v n) p → RingStep cap m r q (act.ForceAdd v n) p (word.force_add cap m c v (Word n)).0 (word.force_add cap m c v (Word n)).1
  force_add v n p h =
      let t = h.4 in
      let a = denote.stride_is cap m some k n in
      let b = denote.lap_later cap m some k n in
      let b' = denote.lap_later cap m some k (n + 1) in
      let e : n + 1 + cap ≡ r.tail + 1 = omega arith in
      let e' = ap (λ (x : ℕ). Word x) e in
      let t' = ap (λ (x : ℕ). Word x) t in
      let small = denote.pos_small cap m some k (r.tail + 1) in
      let mk = denote.one_if r.closed m in
      let near = k.near in
      let dt = d.tail in
      let sum : c.tail + word.stride cap m (Word n) ≡ Word (r.tail + 1) + (if r.closed then m else 0) = omega arith in
      made _ p _ h.1 _ _ _ (act.ForceTake v n)
      (record { head = d.head; tail = ap (λ (x : ℕ). x % 2 ^ 64) sum ∙ mod-eq_of_lt (let g : Word (r.tail + 1) + (if r.closed then m else 0) < 2 ^ 64 = omega arith in g); stamps = d.stamps; slots = d.slots }) refl
      (keep.force_adds cap two r q s w v h.0 n h.2 h.3 h.4 h.5)

  pub force_take : (v : T) (n : ℕ) (p : Phase T) → KnowsRing cap r (act.ForceTake v n) p → RingStep cap m r q (act.ForceTake v n) p (word.force_take cap m c v (Word n)).0 (word.force_take cap m c v (Word n)).1
  force_take v n p h = take_words _ p _ h.1 n h.0 (λ o. act.ForcePut v (Word n) o) (act.ForcePut v n h.0) _ (held_slot n h.0 h.2.2) refl (keep.force_takes cap two r q s w v h.0 n h.2 h.3 h.4)

  pub force_put : (v : T) (n : ℕ) (o : T) (p : Phase T) → KnowsRing cap r (act.ForcePut v n o) p → RingStep cap m r q (act.ForcePut v n o) p (word.force_put cap m c v (Word n) o).0 (word.force_put cap m c v (Word n) o).1
  force_put v n o p h = put_words _ p _ h.0 n v (act.ForceStore n o) _ (vacant n h.1.2) (keep.force_puts cap two r q s w v o n h.1 h.2 h.3)

  pub force_store : (n : ℕ) (o : T) (p : Phase T) → KnowsRing cap r (act.ForceStore n o) p → RingStep cap m r q (act.ForceStore n o) p (word.force_store cap m c (Word n) o).0 (word.force_store cap m c (Word n) o).1
  force_store n o p h =
      let b = denote.pos_small cap m some k (n + cap) in
      let l = denote.lap_later cap m some k n in
      let e : (Word n + (2 * m + 1)) % 2 ^ 64 ≡ Word (n + cap) + 1 = ap (λ (x : ℕ). x % 2 ^ 64) (let g : Word n + (2 * m + 1) ≡ Word (n + cap) + 1 = omega arith in g) ∙ mod-eq_of_lt (let f = h.4.0 in let g : Word (n + cap) + 1 < 2 ^ 64 = omega arith in g) in
      made _ p _ h.1 _ _ _ act.Finished (stamped n _ (n + cap) true e) refl (keep.force_stores cap two r q s w h.0 o n h.2 h.3 h.4)

  -- ---- a pop

  pub pop_load : (p : Phase T) → KnowsRing cap r act.Pop p → RingStep cap m r q act.Pop p (word.pop_load cap m c).0 (word.pop_load cap m c).1
  pop_load p h = made _ p _ h.1 c _ r (act.PopStamp r.head) d (ap (λ (x : ℕ). act.PopStamp x) d.head) (keep.pop_loads cap two r q s w h.0)

  pub pop_look : (n : ℕ) (p : Phase T) → KnowsRing cap r (act.PopStamp n) p → RingStep cap m r q (act.PopStamp n) p (word.pop_look cap m c (Word n)).0 (word.pop_look cap m c (Word n)).1
  pop_look n p h =
      let b = denote.pos_small cap m some k n in
      let o = s.order in
      let no_wrap : (Word n + 1) % 2 ^ 64 ≡ Word n + 1 = mod-eq_of_lt (let g : Word n + 1 < 2 ^ 64 = omega (arith, h.2) in g) in
      pick (λ (x : Stepped (RingAction T) T). RingStep cap m r q (act.PopStamp n) p c x) (slice_index c.stamps (index m (Word n)) == (Word n + 1) % 2 ^ 64) _ _
      (λ e. let at = denote.stamp_written cap m some k (r.at (n % cap)).round n (r.at (n % cap)).written (s.index (n % cap) (mod_below n cap some)) (sym (stamp_word n) ∙ eq_true _ _ e ∙ no_wrap) in
      made _ p _ h.1 c _ r (act.PopSwap n) d refl (keep.pop_ready cap two r q s w h.0 n at.0 at.1))
      (λ e. pick (λ (x : Stepped (RingAction T) T). RingStep cap m r q (act.PopStamp n) p c x) (slice_index c.stamps (index m (Word n)) == Word n) _ _
      (λ f. let at = denote.stamp_ready cap m some k (r.at (n % cap)).round n (r.at (n % cap)).written (s.index (n % cap) (mod_below n cap some)) (sym (stamp_word n) ∙ eq_true _ _ f) in
      made _ p _ h.1 c _ r (act.PopTail n) d refl (keep.pop_same cap two r q s w h.0 n h.2 at.0))
      (λ f. made _ p _ h.1 c _ r act.Pop d refl (keep.pop_again-stamp cap two r q s w h.0 n)))

  pub pop_swap : (n : ℕ) (p : Phase T) → KnowsRing cap r (act.PopSwap n) p → RingStep cap m r q (act.PopSwap n) p (word.pop_swap cap m c (Word n)).0 (word.pop_swap cap m c (Word n)).1
  pop_swap n p h =
      pick (λ (x : Contents T × Stepped (RingAction T) T). RingStep cap m r q (act.PopSwap n) p x.0 x.1) (c.head == Word n) _ _
      (λ e. let t = meets_head n e in
      made _ p _ h.1 _ _ _ (act.PopTake n) (record { head = next_head n t; tail = d.tail; stamps = d.stamps; slots = d.slots }) refl
      (keep.pop_wins cap two r q s w h.0 n t h.2))
      (λ e. made _ p _ h.1 c _ r act.Pop d refl (keep.pop_again-swap cap two r q s w h.0 n))

  pub pop_tail : (n : ℕ) (p : Phase T) → KnowsRing cap r (act.PopTail n) p → RingStep cap m r q (act.PopTail n) p (word.pop_tail cap m c (Word n)).0 (word.pop_tail cap m c (Word n)).1
  pop_tail n p h =
      pick (λ (x : Stepped (RingAction T) T). RingStep cap m r q (act.PopTail n) p c x) (unmarked m c.tail == Word n) _ _
      (λ e. let t : r.tail ≡ n = denote.same_pos cap m some k r.tail n (sym tail_word ∙ eq_true _ _ e) in by_bool r.closed
      (λ o. let f : is_marked m c.tail ≡ false = closed_word ∙ o in rw f (made _ p _ h.1 c _ r act.Finished d refl (keep.pop_empty cap two r q s w h.0 n t o h.2 h.3)))
      (λ o. let f : is_marked m c.tail ≡ true = closed_word ∙ o in rw f (made _ p _ h.1 c _ r act.Finished d refl (keep.pop_shut cap two r q s w h.0 n t o h.2 h.3))))
      (λ e. made _ p _ h.1 c _ r act.Pop d refl (keep.pop_again-tail cap two r q s w h.0 n))

  pub pop_take : (n : ℕ) (p : Phase T) → KnowsRing cap r (act.PopTake n) p → RingStep cap m r q (act.PopTake n) p (word.pop_take cap m c (Word n)).0 (word.pop_take cap m c (Word n)).1
  pop_take n p h = take_words _ p _ h.1 n h.0 (λ o. act.PopStore (Word n) o) (act.PopStore n h.0) _ (held_slot n h.0 h.2.2) refl (keep.pop_takes cap two r q s w h.0 n h.2 h.3 h.4)

  pub pop_store : (n : ℕ) (v : T) (p : Phase T) → KnowsRing cap r (act.PopStore n v) p → RingStep cap m r q (act.PopStore n v) p (word.pop_store cap m c (Word n) v).0 (word.pop_store cap m c (Word n) v).1
  pop_store n v p h =
      let b = denote.pos_small cap m some k (n + cap) in
      let l = denote.lap_later cap m some k n in
      let o = s.order in
      let e : (Word n + 2 * m) % 2 ^ 64 ≡ Word (n + cap) + 0 = ap (λ (x : ℕ). x % 2 ^ 64) (let g : Word n + 2 * m ≡ Word (n + cap) + 0 = omega arith in g) ∙ mod-eq_of_lt (let f = h.2 in let g : Word (n + cap) + 0 < 2 ^ 64 = omega arith in g) in
      made _ p _ h.0 _ _ _ act.Finished (stamped n _ (n + cap) false e) refl (keep.pop_stores cap two r q s w v n h.1 h.2 h.3)

  -- ---- closing and questions

  marked_tail : bit_or c.tail m ≡ Word r.tail + (if true then m else 0)
  marked_tail = ap (λ (x : ℕ). bit_or x m) d.tail ∙ denote.marks_it cap m some k r.tail r.closed

  pub close_step : (p : Phase T) → KnowsRing cap r act.Close p → RingStep cap m r q act.Close p (word.close_step cap m c).0 (word.close_step cap m c).1
  close_step p h =
      pick (λ (x : Stepped (RingAction T) T). RingStep cap m r q act.Close p (word.set_tail c (bit_or c.tail m)) x) (is_marked m c.tail) _ _
      (λ e. let o : r.closed ≡ true = sym closed_word ∙ e in
      made _ p _ h.1 _ _ r act.Finished (record { head = d.head; tail = marked_tail ∙ (rw o refl); stamps = d.stamps; slots = d.slots }) refl (keep.closed_before cap two r q s w h.0 o))
      (λ e. let o : r.closed ≡ false = sym closed_word ∙ e in
      made _ p _ h.1 _ _ _ act.Finished (record { head = d.head; tail = marked_tail; stamps = d.stamps; slots = d.slots }) refl (keep.closes cap two r q s w h.0 o))

  pub is_closed : (p : Phase T) → KnowsRing cap r act.IsClosed p → RingStep cap m r q act.IsClosed p (word.ask_is_closed cap m c).0 (word.ask_is_closed cap m c).1
  is_closed p h = made _ p _ h.1 c _ r act.Finished d refl (keep.says_closed cap two r q s w h.0 (is_marked m c.tail) (sym closed_word))

  pub empty_load : (p : Phase T) → KnowsRing cap r act.IsEmpty p → RingStep cap m r q act.IsEmpty p (word.empty_load cap m c).0 (word.empty_load cap m c).1
  empty_load p h = made _ p _ h.1 c _ r (act.IsEmptyTail r.head) d (ap (λ (x : ℕ). act.IsEmptyTail x) d.head) (keep.empty_loads cap two r q s w h.0)

  pub empty_look : (n : ℕ) (p : Phase T) → KnowsRing cap r (act.IsEmptyTail n) p → RingStep cap m r q (act.IsEmptyTail n) p (word.empty_look cap m c (Word n)).0 (word.empty_look cap m c (Word n)).1
  empty_look n p h = by_bool (unmarked m c.tail == Word n)
      (λ e. rw e (made _ p _ h.0 c _ r act.Finished d refl (keep.empty_no cap two r q s w n h.1 (λ t. eq_false _ _ e (tail_word ∙ ap (λ (x : ℕ). Word x) t)))))
      (λ e. rw e (made _ p _ h.0 c _ r act.Finished d refl (keep.empty_yes cap two r q s w n h.1 (denote.same_pos cap m some k r.tail n (sym tail_word ∙ eq_true _ _ e)))))

  pub full_load : (p : Phase T) → KnowsRing cap r act.IsFull p → RingStep cap m r q act.IsFull p (word.full_load cap m c).0 (word.full_load cap m c).1
  full_load p h = made _ p _ h.1 c _ r (act.IsFullHead r.tail) d (ap (λ (x : ℕ). act.IsFullHead x) tail_word) (keep.full_loads cap two r q s w h.0)

  pub full_test : (n : ℕ) → r.head + cap ≡ n → (nat_le (2 * m) (Word n) && c.head == Word n - 2 * m) ≡ true
  full_test n e =
      let l = denote.lap_later cap m some k r.head in
      let f = ap (λ (x : ℕ). Word x) e in
      let dh = d.head in
      let a : nat_le (2 * m) (Word n) ≡ true = (let g : 2 * m ≤ Word n = omega arith in grind (arith, nat_tests)) in
      let b : (c.head == Word n - 2 * m) ≡ true = eq_holds c.head (Word n - 2 * m) (omega arith) in
      rw (a, b) refl

  full_means : (n : ℕ) → (nat_le (2 * m) (Word n) && c.head == Word n - 2 * m) ≡ true → r.head + cap ≡ n
  full_means n e =
      let f = both _ _ e in
      let g = le_true (2 * m) (Word n) f.0 in
      let h : c.head ≡ Word n - 2 * m = eq_true _ _ f.1 in
      let dh = d.head in
      let l = denote.lap_later cap m some k r.head in
      denote.same_pos cap m some k (r.head + cap) n (omega arith)

  pub full_look : (n : ℕ) (p : Phase T) → KnowsRing cap r (act.IsFullHead n) p → RingStep cap m r q (act.IsFullHead n) p (word.full_look cap m c (Word n)).0 (word.full_look cap m c (Word n)).1
  full_look n p h = by_bool (nat_le (2 * m) (Word n) && c.head == Word n - 2 * m)
      (λ e. rw e (made _ p _ h.0 c _ r act.Finished d refl (keep.full_no cap two r q s w n h.1 (λ t. false≢true (sym e ∙ full_test n t)))))
      (λ e. rw e (made _ p _ h.0 c _ r act.Finished d refl (keep.full_yes cap two r q s w n h.1 (full_means n e))))

  pub len_load : (p : Phase T) → KnowsRing cap r act.Len p → RingStep cap m r q act.Len p (word.len_load cap m c).0 (word.len_load cap m c).1
  len_load p h = made _ p _ h.1 c _ r (act.LenHead r.tail (is_marked m c.tail)) d (ap (λ (x : ℕ). act.LenHead x (is_marked m c.tail)) tail_word) (keep.len_loads cap two r q s w h.0 (is_marked m c.tail))

  pub len_look : (n : ℕ) (b : Bool) (p : Phase T) → KnowsRing cap r (act.LenHead n b) p → RingStep cap m r q (act.LenHead n b) p (word.len_look cap m c (Word n) b).0 (word.len_look cap m c (Word n) b).1
  len_look n b p h = made _ p _ h.0 c _ r (act.LenTail n b r.head) d (ap (λ (x : ℕ). act.LenTail (Word n) b x) d.head) (keep.len_looks cap two r q s w n b h.1)

  -- the word that a tail read at n was
  pub was_word : (n : ℕ) (b : Bool) → n ≤ r.tail → (if b then (Word n + m) % 2 ^ 64 else Word n) ≡ Word n + (if b then m else 0)
  was_word n false h = omega arith
  was_word n true h = mod-eq_of_lt (let b = denote.pos_small cap m some k n in let g = k.near in let f : Word n + m < 2 ^ 64 = omega arith in f)

  pub len_again : (n : ℕ) (b : Bool) (h : ℕ) (p : Phase T) → KnowsRing cap r (act.LenTail n b h) p → RingStep cap m r q (act.LenTail n b h) p (word.len_again cap m c (Word n) b (Word h)).0 (word.len_again cap m c (Word n) b (Word h)).1
  len_again n b h p f =
      pick (λ (x : Stepped (RingAction T) T). RingStep cap m r q (act.LenTail n b h) p c x) (c.tail == (if b then (Word n + m) % 2 ^ 64 else Word n)) _ _
      (λ e. let t : r.tail ≡ n = (denote.same_word cap m some k r.tail n r.closed b (sym d.tail ∙ eq_true _ _ e ∙ was_word n b f.2)).0 in
      let o = s.order in
      made _ p _ f.1 c _ r act.Finished d refl (keep.len_ends cap two r q s w n f.0 h _ b t (f.4 t) (denote.between_is cap m some k h n (omega (arith, f.3)) (omega arith))))
      (λ e. made _ p _ f.1 c _ r act.Len d refl (keep.len_again cap two r q s w n f.0 h b))

  -- ---- one step

  pub ring_steps : (a : RingAction T) (p : Phase T) → KnowsRing cap r a p → RingStep cap m r q a p (word.ring_step cap m c (placed (pos cap (2 * m)) a)).0 (word.ring_step cap m c (placed (pos cap (2 * m)) a)).1
  ring_steps (act.Push j v) p h = push_load j v p h
  ring_steps (act.PushShut j v) p h = absurd h
  ring_steps (act.PushStamp j v n) p h = push_look j v n p h
  ring_steps (act.PushSwap j v n) p h = push_swap j v n p h
  ring_steps (act.PushPut j v n) p h = push_put j v n p h
  ring_steps (act.PushStore j n) p h = push_store j n p h
  ring_steps (act.PushHead v n) p h = push_head v n p h
  ring_steps (act.ForceHead v n) p h = force_head v n p h
  ring_steps (act.ForceAdd v n) p h = force_add v n p h
  ring_steps (act.ForceTake v n) p h = force_take v n p h
  ring_steps (act.ForcePut v n o) p h = force_put v n o p h
  ring_steps (act.ForceStore n o) p h = force_store n o p h
  ring_steps act.Pop p h = pop_load p h
  ring_steps (act.PopStamp n) p h = pop_look n p h
  ring_steps (act.PopSwap n) p h = pop_swap n p h
  ring_steps (act.PopTail n) p h = pop_tail n p h
  ring_steps (act.PopTake n) p h = pop_take n p h
  ring_steps (act.PopStore n v) p h = pop_store n v p h
  ring_steps act.Close p h = close_step p h
  ring_steps act.IsClosed p h = is_closed p h
  ring_steps act.IsEmpty p h = empty_load p h
  ring_steps (act.IsEmptyTail n) p h = empty_look n p h
  ring_steps act.IsFull p h = full_load p h
  ring_steps (act.IsFullHead n) p h = full_look n p h
  ring_steps act.Len p h = len_load p h
  ring_steps (act.LenHead n b) p h = len_look n b p h
  ring_steps (act.LenTail n b t) p h = len_again n b t p h
  ring_steps act.Capacity p h = made _ p _ h.1 c _ r act.Finished d refl (keep.says_capacity cap two r q s w h.0)
  ring_steps act.Finished p h = absurd h
