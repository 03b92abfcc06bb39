-- Which call under way a message that isn't in its slot is with: the one that is yet to put it into that very slot.
use Rattle.std.proofs.Common.{◌≡◌, ℕ, zero, suc, ◌+◌, ◌*◌, ◌/◌, ◌%◌, ◌<◌, ◌≤◌, ◌⊎◌, ⊎_elim, Bool, true, false, if◌then◌else◌, ◌==◌, ◌&&◌, not, nat_lt, List, [], ◌∷◌, length, drop, map, Option, None, Some, slice_get, slice_index_or, refl, sym, ap, ◌∙◌, subst, inl, inr, arith, option_to_list}
use Rattle.std.proofs.lemmas.Nat.{mod_below, div-add-mod'}
use Rattle.std.proofs.lemmas.Bool.{cases_lt, false≢true}
use Rattle.std.proofs.lemmas.Bool.Decides.{nat_tests}
use Rattle.channel_steps.proofs.every_run.Words.{Contents, block_at, slot_at, Queue, Phase, appended, message, ActiveQueueCall, AreAt, IsAtBlocks, FitsForm, HasBrought, Place, Each, owed, one_if, number, position, KnowsBlocks, same, owes, BlocksSeat, BlocksMeans, owners, Denotes, act_of, seat_of, IsChain, QueueAsk, QueueForm, Bounded, Unbounded, Slot, CallState, Asked, Single, Ring, Blocks, UnboundedAction, UnboundedCall, IsAtSingle, IsAtRing, FitsSlot, FitsRing, slot_by, sum, pos, holds, holders, KnowsSingle, Means, SingleMeans, index, ring_mark, SlotState, SoundRing, busy, reach, hold, ask_of, at_stage, placed, KnowsRing, RingMeans, place_at, ring_slot, number_of, fill, taken_in, Fills, IsProper, IsTailAt, IsFit, blocks_slot, RingAction, WhenFull, Refuse, Displace, At, In, SingleAction, puts_single, puts_ring, puts_blocks, puts_by}
use Rattle.concurrent_queue.specs.Step.{slot_in}
use Rattle.concurrent_queue.specs.Step.{FitsAt}
use Rattle.concurrent_queue.specs.Queue.{Stage}
use Rattle.concurrent_queue.specs.machine.RingState.{Ring as RingNumbers}
use Rattle.concurrent_queue.specs.machine.RingCalls.{owes as ring_owes}
use Rattle.concurrent_queue.specs.machine.BlocksState.{Blocks as BlocksNumbers}
use Rattle.concurrent_queue.specs.declared.bounded.RingAction.TheVariants as ring
use Rattle.concurrent_queue.specs.declared.call.QueueAsk.TheVariants as ask
use Rattle.concurrent_queue.specs.declared.single.SingleAction.TheVariants as single
use Rattle.concurrent_queue.specs.declared.unbounded.action.UnboundedAction.TheVariants as blocks
use Rattle.concurrent_queue.proofs.RingPlaces.{near_same, turn-index, pos-div}
use Rattle.concurrent_queue.proofs.RingShape.{IsMark, mark_is}
use Rattle.concurrent_queue.proofs.RingSteps.{slot_of}
use Rattle.concurrent_queue.proofs.RingDenotes as denote

pub some_is : {A : Type 0} {x y : A} → Some x ≡ Some y → x ≡ y
some_is e = cc

pub by_bool : {P : Type 0} (b : Bool) → (b ≡ false → P) → (b ≡ true → P) → P
by_bool false f g = f refl
by_bool true f g = g refl

lt_yes : (x y : ℕ) → x < y → nat_lt x y ≡ true
lt_yes x y h = grind (arith, nat_tests)

get_drop : {A : Type 0} (xs : List A) (n i : ℕ) → slice_get (drop n xs) i ≡ slice_get xs (n + i)
get_drop [] zero i = refl
get_drop [] (suc n) i = refl
get_drop (x ∷ xs) zero i = let e : 0 + i ≡ i = omega arith in rw e refl
get_drop (x ∷ xs) (suc n) i = let e : suc n + i ≡ suc (n + i) = omega arith in rw e (get_drop xs n i)

pub get_inside : {A : Type 0} (xs : List A) (i : ℕ) (x : A) → slice_get xs i ≡ Some x → i < length xs
get_inside [] i x e = absurd cc
get_inside (y ∷ xs) zero x e = omega arith
get_inside (y ∷ xs) (suc i) x e = omega (arith, get_inside xs i x e)

pub by_eq : {P : Type 0} (x y : ℕ) → (x ≡ y → P) → ((x ≡ y → ⊥) → P) → P
by_eq x y f g = ⊎_elim (λ h. g (λ e. absurd (omega arith))) (λ h. ⊎_elim (λ k. g (λ e. absurd (omega arith))) (λ k. f
    (omega arith)) (cases_lt y x)) (cases_lt x y)

pub same_not : (n m : ℕ) → (m ≡ n → ⊥) → same n m ≡ 0
same_not n m ne = let e : (n == m) ≡ false = grind (arith, nat_tests) in rw e refl

one_of : (b c : Bool) → b ≡ true → c ≡ false → one_if (b && not c) ≡ 1
one_of true false e f = refl
one_of true true e f = absurd (false≢true (sym f))
one_of false c e f = absurd (false≢true e)

pub taken_all : (n k : ℕ) → taken_in n k ≤ 31
taken_all n k = grind (arith, nat_tests)

pub taken_full : (h k : ℕ) → taken_in h k ≡ 31 → k < h / 31
taken_full h k e = grind (arith, nat_tests)

index_or_get : {A : Type 0} (xs : List A) (i : ℕ) (x y : A) → slice_get xs i ≡ Some x → slice_index_or xs i y ≡ x
index_or_get [] i x y e = absurd cc
index_or_get (z ∷ zs) zero x y e = cc
index_or_get (z ∷ zs) (suc i) x y e = index_or_get zs i x y e

not_one : (cap : ℕ) → 2 ≤ cap → (cap == 1) ≡ false
not_one cap h = grind (arith, nat_tests)

module _ {T : Type 0} where
  -- the call has let this message in
  abbrev Brings : T → Phase T → Type 0
  Brings v p = (message p.ask ≡ v ∷ []) × HasBrought p.stage

  -- one of these calls is yet to put this message into this slot
  abbrev pub IsHeldFor : QueueForm → Slot → T → List (ActiveQueueCall T) → Type 0
  IsHeldFor form at v [] = ⊥
  IsHeldFor form at v (s ∷ ss) = ((puts_by form s.call.state ≡ Some (at, v)) × Brings v s.phase) ⊎ IsHeldFor form at v ss

  -- by the actions of a form
  module _ {A : Type 0} (puts : A → Option (Slot × T)) where
    abbrev IsPutBy : Slot → T → List (Place A T) → Type 0
    IsPutBy at v [] = ⊥
    IsPutBy at v (p ∷ ps) = ((puts p.action ≡ Some (at, v)) × Brings v p.phase) ⊎ IsPutBy at v ps

    module _ (stands : CallState T → A → Type 0) (form : QueueForm)
        (is : (s : CallState T) (a : A) (x : Slot × T) → stands s a → puts a ≡ Some x → puts_by form s ≡ Some x) where
      to_seats : (at : Slot) (v : T) (ss : List (ActiveQueueCall T)) (ps : List (Place A T)) → AreAt stands ss ps → IsPutBy at v ps
          → IsHeldFor form at v ss
      to_seats at v [] [] h g = absurd g
      to_seats at v (s ∷ ss) (p ∷ ps) h (inl g) =
          inl (is s.call.state p.action (at, v) h.0.0 g.0, subst (λ (f : Phase T). Brings v f) (sym h.0.1) g.1)
      to_seats at v (s ∷ ss) (p ∷ ps) h (inr g) = inr (to_seats at v ss ps h.1 g)
      to_seats at v x y h g = absurd h

  -- ---- one slot

  module _ (slot : Option T) (v : T) where
    abbrev OneSlot : SingleAction T → Phase T → Type 0
    OneSlot a p = (slot ≡ Some v) ⊎ ((puts_single a ≡ Some (At 0, v)) × Brings v p)

    one_put : (a : SingleAction T) (p : Phase T) (k : QueueAsk T) (w : T) (o : Option T) → puts_single a ≡ Some (At 0, w)
        → message k ≡ w ∷ []
        → p.ask ≡ k → p.stage ≡ appended o → Some v ≡ Some w → OneSlot a p
    one_put a p k w o put m e f g =
        let same_one : w ≡ v = sym (some_is g) in
        inr (
          put ∙ ap (λ (x : T). Some (At 0, x)) same_one,
          (
            ap message e ∙ m ∙ ap (λ (x : T). x ∷ []) same_one,
            subst
                (λ (s : Stage T). HasBrought s) (sym f) tt,
          ),
        )

    one_slot : (a : SingleAction T) (p : Phase T) → KnowsSingle slot (Some v) a p → (holds a ≡ 0) ⊎ OneSlot a p
    one_slot (single.PushPut x) p f = inr (one_put (single.PushPut x) p _ x _ refl refl f.0.0 f.0.1 f.2)
    one_slot single.PushUnlock p f = inr (inl (f.2 ∙ sym f.3))
    one_slot (single.ForceTake x) p f = inr (one_put (single.ForceTake x) p _ x _ refl refl f.1.0 f.1.1 f.3)
    one_slot (single.ForcePut x d) p f = inr (one_put (single.ForcePut x d) p _ x _ refl refl f.0.0 f.0.1 f.2)
    one_slot (single.ForceUnlock d) p f = inr (inl (f.2 ∙ sym f.3))
    one_slot single.PopTake p f = absurd cc
    one_slot (single.PopUnlock d) p f = absurd cc
    one_slot single.Finished p f = absurd f
    one_slot a p f = inl refl

    one_among : (ps : List (Place (SingleAction T) T)) → 1 ≤ holders ps
        → Each (λ (x : Place (SingleAction T) T). KnowsSingle slot (Some v) x.action x.phase) ps → (slot ≡ Some v)
        ⊎ IsPutBy puts_single (At 0) v ps
    one_among [] h all = absurd (omega arith)
    one_among (x ∷ ps) h all = ⊎_elim
        (λ e. ⊎_elim (λ g. inl g) (λ g. inr (inr g)) (one_among ps (omega (arith, e)) all.1))
        (λ e. ⊎_elim (λ g. inl g) (λ g. inr (inl g)) e)
        (one_slot x.action x.phase all.0)

  item_of : (item : Option T) (i : ℕ) (v : T) → slice_get (option_to_list item) i ≡ Some v → item ≡ Some v
  item_of None i v e = absurd cc
  item_of (Some x) zero v e = e
  item_of (Some x) (suc i) v e = absurd cc

  module _ (c : Contents T) (q : Queue T) (ps : List (Place (SingleAction T) T)) where
    single_there : (locked : Bool) (item slot : Option T) → Means c q ps locked item slot → (v : T) → item ≡ Some v
        → (slot ≡ Some v) ⊎ IsPutBy puts_single (At 0) v ps
    single_there false item slot m v e = inl (sym (m.at_rest refl) ∙ e)
    single_there true item slot m v e =
        one_among slot v ps (omega (arith, m.one_holder)) (subst (λ (i : Option T). Each
        (λ (x : Place (SingleAction T) T). KnowsSingle slot i x.action x.phase) ps) e m.calls)

    single_in : (slot : Option T) (v : T) → c.slots ≡ slot ∷ [] → (slot ≡ Some v) ⊎ IsPutBy puts_single (At 0) v ps
        → (slot_at c (At 0) ≡ Some v) ⊎ IsPutBy puts_single (At 0) v ps
    single_in slot v e (inl h) = inl (rw e h)
    single_in slot v e (inr h) = inr h

    single_held : SingleMeans c q ps → (i : ℕ) (v : T) → slice_get q.items i ≡ Some v
        → (slot_at c (At 0) ≡ Some v) ⊎ IsPutBy puts_single (At 0) v ps
    single_held (locked, item, slot, m) i v e =
        single_in slot v m.slots (single_there locked item slot m v (item_of item i v (rw (← m.items) e)))

  -- ---- a ring: n is the number of a message that is there

  message_of : (k : WhenFull) (w : T) → message (ask_of k w) ≡ w ∷ []
  message_of Refuse w = refl
  message_of Displace w = refl

  module _ (cap m : ℕ)
      (some : 0 < cap) (mark : IsMark cap m) (r : RingNumbers T) (s : SoundRing cap r) (n : ℕ) (v : T)
      (low : r.head ≤ n) (high : n < r.tail)
      (it : slice_get r.all n ≡ Some v) where
    abbrev there : SlotState T
    there = r.at (n % cap)

    -- its place has it, or stands for it unfilled, or still for the one a lap before
    abbrev Stands : Type 0
    Stands = ((there.round ≡ n) × (there.written ≡ false)) ⊎ ((there.round + cap ≡ n) × (there.written ≡ true))

    which : (there.slot ≡ Some v) ⊎ ((busy r (n % cap) ≡ true) × Stands)
    which =
        let b = mod_below n cap some in
        let x = s.index (n % cap) b in
        let room = s.room in
        by_bool there.written
        (λ e. ⊎_elim
        (λ (h : there.round < r.tail). let f = s.filling (n % cap) b e h in
        let same_one : there.round ≡ n = ⊎_elim
        (λ (g : there.round < n). sym (near_same cap n there.round (sym x) (omega arith) (omega arith)))
        (λ (g : n ≤ there.round). near_same cap there.round n x g (omega arith)) (cases_lt there.round n) in
        inr (rw e (lt_yes _ _ h), inl (same_one, e)))
        (λ (h : r.tail ≤ there.round). absurd (let f = (s.free (n % cap) b e h).1 in
        let same_one = near_same cap there.round n x (omega arith) (omega arith) in omega arith))
        (cases_lt there.round r.tail))
        (λ e. ⊎_elim
        (λ (h : there.round < r.head). let u = s.used (n % cap) b e h in
        let same_one : there.round + cap ≡ n = ⊎_elim
        (λ (g : there.round + cap < n). sym (near_same cap n (there.round + cap) (sym (turn-index cap some there.round ∙ x)) (omega arith)
        (omega arith)))
        (λ (g : n ≤ there.round + cap). near_same cap (there.round + cap) n (turn-index cap some there.round ∙ x) g
        (omega arith)) (cases_lt (there.round + cap) n) in
        inr (rw e (lt_yes _ _ h), inr (same_one, e)))
        (λ (h : r.head ≤ there.round). let f = s.full (n % cap) b e h in
        let same_one : there.round ≡ n = ⊎_elim
        (λ (g : there.round < n). sym (near_same cap n there.round (sym x) (omega arith) (omega arith)))
        (λ (g : n ≤ there.round). near_same cap there.round n x g (omega (arith, f.0))) (cases_lt there.round n) in
        inl (f.1 ∙ ap (λ (y : ℕ). slice_get r.all y) same_one ∙ it))
        (cases_lt there.round r.head))

    abbrev InRing : RingAction T → Phase T → Type 0
    InRing a p = (there.slot ≡ Some v) ⊎ ((puts_ring m (placed (pos cap (2 * m)) a) ≡ Some (At (n % cap), v)) × Brings v p)

    same_index : (c : ℕ) → (c % cap == n % cap) ≡ true → (r.at (c % cap)).round ≡ there.round
    same_index c e = ap (λ (i : ℕ). (r.at i).round) (denote.eq_true _ _ e)

    same_slot : (c : ℕ) → (c % cap == n % cap) ≡ true → (r.at (c % cap)).slot ≡ there.slot
    same_slot c e = ap (λ (i : ℕ). (r.at i).slot) (denote.eq_true _ _ e)

    none_held : (c : ℕ) → (c % cap == n % cap) ≡ false → ◌≡◌ {A = ℕ} (if (c % cap == n % cap) then 1 else 0) 0
    none_held c e = rw e refl

    module _ (stands : Stands) where
      filled : (c : ℕ) → (c % cap == n % cap) ≡ true → (r.at (c % cap)).round ≡ c → (r.at (c % cap)).written ≡ false → c ≡ n
      filled c e at un = ⊎_elim
          (λ h. sym at ∙ same_index c e ∙ h.0)
          (λ h. absurd (false≢true (sym un ∙ ap (λ (i : ℕ). (r.at i).written) (denote.eq_true _ _ e) ∙ h.1))) stands

      forced : (c : ℕ) → (c % cap == n % cap) ≡ true → (r.at (c % cap)).round ≡ c → c < r.head → c + cap ≡ n
      forced c e at below = ⊎_elim
          (λ h. absurd (let x = same_index c e in let y = h.0 in omega arith))
          (λ h. let x = same_index c e in let y = h.0 in omega arith) stands

      popped : {P : Type 0} (c : ℕ) → (c % cap == n % cap) ≡ true → (r.at (c % cap)).round ≡ c → c < r.head → r.tail ≤ c + cap → P
      popped c e at below far = absurd (let x = forced c e at below in omega arith)

      reached : (c : ℕ) → reach r ≤ c + cap → r.tail ≤ c + cap
      reached c h = by_bool r.coming (λ e. let g : r.tail + 0 ≤ c + cap = rw e at h in omega arith)
          (λ e. let g : r.tail + 1 ≤ c + cap = rw e at h in omega arith)

      is_v : (j : ℕ) (w : T) → j ≡ n → slice_get r.all j ≡ Some w → w ≡ v
      is_v j w e g = some_is (sym g ∙ ap (λ (x : ℕ). slice_get r.all x) e ∙ it)

      -- a call that is yet to put its message at the index of c, which is that of n
      put_at : (a : RingAction T) (p : Phase T) (k : QueueAsk T) (o : Option T) (c : ℕ) (w : T)
          → puts_ring m (placed (pos cap (2 * m)) a) ≡ Some (At (index m (pos cap (2 * m) c)), w) → (c % cap == n % cap) ≡ true → w ≡ v
          → p ≡ at_stage k (appended o) → message k ≡ w ∷ [] → InRing a p
      put_at a p k o c w put e is f g =
          let at : index m (pos cap (2 * m) c) ≡ n % cap = denote.index_is cap m some mark c ∙ denote.eq_true _ _ e in
          inr (
            put ∙ (ap (λ (i : ℕ). Some (At i, w)) at ∙ ap (λ (x : T). Some (At (n % cap), x)) is),
            subst (λ (x : Phase T). Brings v x) (sym f) (g ∙ ap (λ (x : T). x ∷ []) is, tt),
          )

      in_ring : (a : RingAction T) (p : Phase T) → KnowsRing cap r a p → (◌≡◌ {A = ℕ} (ring_owes cap a (hold (n % cap))) 0) ⊎ InRing a p
      in_ring (ring.PushPut k w c) p h = by_bool (c % cap == n % cap) (λ e. inl (none_held c e))
          (λ e. inr (put_at (ring.PushPut k w c) p (ask_of k w) None c w refl e
          (is_v c w (filled c e h.1.0 h.1.1) h.2.1) h.0 (message_of k w)))
      in_ring (ring.PushStore k c) p h = by_bool (c % cap == n % cap) (λ e. inl (none_held c e))
          (λ e. inr (inl (sym (same_slot c e) ∙ (h.2.2 ∙ ap Some (is_v c h.0 (filled c e h.2.0 h.2.1) h.3.1)))))
      in_ring (ring.ForceAdd w c) p h = by_bool (c % cap == n % cap) (λ e. inl (none_held c e)) (λ e. popped c e h.2.0 h.3
          (omega (arith, h.4)))
      in_ring (ring.ForceTake w c) p h = by_bool (c % cap == n % cap) (λ e. inl (none_held c e))
          (λ e. inr (put_at (ring.ForceTake w c) p (ask.ForcePush w) (Some h.0) c w refl e
          (is_v (c + cap) w (forced c e h.2.0 h.3) h.4.1) h.1 refl))
      in_ring (ring.ForcePut w c d) p h = by_bool (c % cap == n % cap) (λ e. inl (none_held c e))
          (λ e. inr (put_at (ring.ForcePut w c d) p (ask.ForcePush w) (Some d) c w refl e
          (is_v (c + cap) w (forced c e h.1.0 h.2) h.3.1) h.0 refl))
      in_ring (ring.ForceStore c d) p h = by_bool (c % cap == n % cap) (λ e. inl (none_held c e))
          (λ e. inr (inl (sym (same_slot c e) ∙ (h.2.2 ∙ ap Some (is_v (c + cap) h.0 (forced c e h.2.0 h.3) h.4.1)))))
      in_ring (ring.PopTake c) p h = by_bool (c % cap == n % cap) (λ e. inl (none_held c e)) (λ e. popped c e h.2.0 h.3 (reached c h.4))
      in_ring (ring.PopStore c d) p h = by_bool (c % cap == n % cap) (λ e. inl (none_held c e)) (λ e. popped c e h.1.0 h.2 (reached c h.3))
      in_ring (ring.PushShut k w) p h = absurd h
      in_ring ring.Finished p h = absurd h
      in_ring a p h = inl refl

      ring_among : (xs : List (Place (RingAction T) T)) → 1 ≤ sum (λ a. ring_owes cap a (hold (n % cap))) xs
          → Each (λ (x : Place (RingAction T) T). KnowsRing cap r x.action x.phase) xs
          → (there.slot ≡ Some v) ⊎ IsPutBy (puts_ring m) (At (n % cap)) v (map (place_at (pos cap (2 * m))) xs)
      ring_among [] h all = absurd (omega arith)
      ring_among (x ∷ xs) h all = ⊎_elim
          (λ e. ⊎_elim (λ g. inl g) (λ g. inr (inr g)) (ring_among xs (omega (arith, e)) all.1))
          (λ e. ⊎_elim (λ g. inl g) (λ g. inr (inl g)) e)
          (in_ring x.action x.phase all.0)

    ring_there : (xs : List (Place (RingAction T) T)) → sum (λ a. ring_owes cap a (hold (n % cap))) xs ≡ (if busy r (n % cap) then 1 else 0)
        → Each (λ (x : Place (RingAction T) T). KnowsRing cap r x.action x.phase) xs
        → (there.slot ≡ Some v) ⊎ IsPutBy (puts_ring m) (At (n % cap)) v (map (place_at (pos cap (2 * m))) xs)
    ring_there xs e all = ⊎_elim (λ h. inl h)
        (λ h. ring_among h.1 xs (let f : sum (λ a. ring_owes cap a (hold (n % cap))) xs ≡ 1 = e ∙ (rw h.0 refl) in omega arith) all) which

  module _ (cap m : ℕ) (some : 0 < cap) (mark : IsMark cap m) (c : Contents T) (q : Queue T) (ps : List (Place (RingAction T) T)) where
    number_is : (n : ℕ) → number_of cap m (pos cap (2 * m) n) ≡ n
    number_is n =
        let e = pos-div cap some (2 * m) (denote.wide cap m some mark) n in
        let i = denote.index_is cap m some mark n in
        rw (e, i) (div-add-mod' n cap)

    ring_held : RingMeans cap m c q ps → (i : ℕ) (v : T) → slice_get q.items i ≡ Some v
        → (slot_at c (ring_slot cap m c i) ≡ Some v) ⊎ IsPutBy (puts_ring m) (ring_slot cap m c i) v ps
    ring_held means i v e =
        let r = means.ring in
        let s = means.sound in
        let w = means.shown in
        let d = means.denotes in
        let a = s.all in
        let o = s.order in
        let n : ℕ = r.head + i in
        let head : number_of cap m c.head ≡ r.head = ap (λ (w : ℕ). number_of cap m w) d.head ∙ number_is r.head in
        let it : slice_get r.all n ≡ Some v = sym (get_drop r.all r.head i) ∙ ap (λ (xs : List T). slice_get xs i) (sym w.items) ∙ e in
        let high : n < r.tail = (let x = get_inside r.all n v it in omega arith) in
        let h = ring_there cap m some mark r s n v
        (omega arith) high it means.calls (means.owners (hold (n % cap)) (mod_below n cap some)) means.knows in
        subst (λ (at : ℕ). (slot_at c (At ((at + i) % cap)) ≡ Some v) ⊎ IsPutBy (puts_ring m) (At ((at + i) % cap)) v ps) (sym head)
        (⊎_elim
        (λ g. inl (slot_of c.slots (n % cap) _ (d.slots (n % cap) (mod_below n cap some)) ∙ g))
        (λ g. inr (subst (λ (xs : List (Place (RingAction T) T)). IsPutBy (puts_ring m) (At (n % cap)) v xs) (sym means.positions) g)) h)

  -- ---- blocks: n is the number of a message that is there

  module _ (r : BlocksNumbers T) (n : ℕ) (v : T) (it : slice_get r.all n ≡ Some v) where
    abbrev its_slot : Slot
    its_slot = In (r.num (n / 31)) (n % 31)

    abbrev InBlock : UnboundedAction T → Phase T → Type 0
    InBlock a p = ((r.cell n).slot ≡ Some v) ⊎ ((puts_blocks a ≡ Some (its_slot, v)) × Brings v p)

    its_cell : (k : ℕ) → 1 ≤ same k n → k ≡ n
    its_cell k h = by_eq n k (λ e. sym e) (λ ne. absurd (let z = same_not k n ne in omega arith))

    block_put : (t b : ℕ) (w : T) (a : UnboundedAction T) (p : Phase T) → puts_blocks a ≡ Some (In b (t / 2 % 32), w) → IsTailAt t
        → 1 ≤ same (number (t / 2)) n → Fills r p w (number (t / 2)) b None → InBlock a p
    block_put t b w a p put tail h f =
        let k : number (t / 2) ≡ n = its_cell (number (t / 2)) h in
        let is : w ≡ v = some_is (sym (subst (λ (j : ℕ). slice_get r.all j ≡ Some w) k f.2) ∙ it) in
        let block : b ≡ r.num (n / 31) = f.4.1 ∙ ap (λ (j : ℕ). r.num (j / 31)) k in
        let small = tail.1 in
        let offset : t / 2 % 32 ≡ n % 31 = omega (arith, k, small) in
        let brings : message p.ask ≡ w ∷ [] = ⊎_elim (λ (g : p.ask ≡ ask.Push w). ap message g)
        (λ (g : p.ask ≡ ask.ForcePush w). ap message g) f.0 in
        inr (
          put ∙ (ap (λ (x : ℕ). Some (In x (t / 2 % 32), w)) block
              ∙ (ap (λ (x : ℕ). Some (In (r.num (n / 31)) x, w)) offset ∙ ap (λ (x : T). Some (In (r.num (n / 31)) (n % 31), x)) is)),
          (brings ∙ ap (λ (x : T). x ∷ []) is, subst (λ (st : Stage T). HasBrought st) (sym f.1) tt),
        )

    block_stored : (k b : ℕ) (w : T) (a : UnboundedAction T) (p : Phase T) → 1 ≤ same k n → Fills r p w k b (Some w) → InBlock a p
    block_stored k b w a p h f =
        let e : k ≡ n = its_cell k h in
        let is : w ≡ v = some_is (sym (subst (λ (j : ℕ). slice_get r.all j ≡ Some w) e f.2) ∙ it) in
        inl (subst (λ (j : ℕ). (r.cell j).slot ≡ Some w) e f.6 ∙ ap Some is)

    in_block : (a : UnboundedAction T) (p : Phase T) → IsProper a → KnowsBlocks r (act_of a) p → 1 ≤ owes (act_of a) (fill n) → InBlock a p
    in_block (blocks.PushTurn w t b h) p ok k l = block_put t b w (blocks.PushTurn w t b h) p refl ok l k.0
    in_block (blocks.PushAdd w t b h) p ok k l = block_put t b w (blocks.PushAdd w t b h) p refl ok l k.0
    in_block (blocks.PushLink w t b h) p ok k l = block_put t b w (blocks.PushLink w t b h) p refl ok l k.0
    in_block (blocks.PushPut w t b h) p ok k l = block_put t b w (blocks.PushPut w t b h) p refl ok l k.0
    in_block (blocks.PushStore t b h) p ok k l = block_stored (number (t / 2)) b k.0 (blocks.PushStore t b h) p l k.1
    in_block (blocks.PushShut w h) p ok k l = absurd ok
    in_block a p ok k l = absurd (omega arith)

    block_among : (ps : List (Place (UnboundedCall T) T)) → 1 ≤ owners (fill n) (map seat_of ps)
        → Each (λ (s : BlocksSeat T). KnowsBlocks r s.act s.phase) (map seat_of ps) → Each IsFit ps
        → ((r.cell n).slot ≡ Some v) ⊎ IsPutBy (λ (x : UnboundedCall T). puts_blocks x.action) its_slot v ps
    block_among [] h k fit = absurd (omega arith)
    block_among (p ∷ ps) h k fit = by_eq (owes (act_of p.action.action) (fill n)) 0
        (λ e. ⊎_elim (λ g. inl g) (λ g. inr (inr g)) (block_among ps (omega (arith, e)) k.1 fit.1))
        (λ ne. ⊎_elim (λ g. inl g) (λ g. inr (inl g)) (in_block p.action.action p.phase fit.0.0 k.0 (omega arith)))

  module _ (c : Contents T) (q : Queue T) (ps : List (Place (UnboundedCall T) T)) (r : BlocksNumbers T) (d : Denotes c r)
      (means : BlocksMeans r q (map seat_of ps)) where
    pub head_number : number c.head ≡ r.head
    head_number = by_bool r.head_turns
        (λ f. let at : c.head ≡ position r.head false = subst (λ (b : Bool). c.head ≡ position r.head b) f d.head in omega (arith, at))
        (λ f. let at : c.head ≡ position r.head true = subst (λ (b : Bool). c.head ≡ position r.head b) f d.head in
        let t = means.stands.sound.turned f in let a = t.0 in let b = t.3 in omega (arith, at, a, b))

    in_chain : (n : ℕ) → n < r.tail → n / 31 < r.last
    in_chain n h =
        let s = means.stands.sound in
        by_bool r.tail_turns
        (λ f. ⊎_elim (λ g. omega arith) (λ g. absurd (omega (arith, g.1))) (s.last f))
        (λ f. let g = s.paged f in let l = s.reach in let a = g.1 in let b = g.2 in omega arith)

    alive : (n : ℕ) → r.head ≤ n → (r.block (n / 31)).retired ≡ false
    alive n h = by_bool (r.block (n / 31)).retired (λ f. f)
        (λ f. absurd (let z = means.stands.sound.retired (n / 31) f in let t = means.stands.sound.reads (n / 31) in
        let u = taken_all r.head (n / 31) in
        let full = taken_full r.head (n / 31) (omega arith) in omega arith))

    holds_it : (n : ℕ) (v : T) → r.head ≤ n → n < r.tail → (r.cell n).slot ≡ Some v → slot_at c (In (r.num (n / 31)) (n % 31)) ≡ Some v
    holds_it n v low high w =
        let x = d.used (n / 31) (in_chain n high) (alive n low) in
        let at : 31 * (n / 31) + n % 31 ≡ n = omega arith in
        index_or_get (block_at c (r.num (n / 31))).slots (n % 31) (Some v) None
        (x.slots (n % 31) (omega arith) ∙ (ap (λ (j : ℕ). Some (r.cell j).slot) at ∙ ap Some w))

    module _ (chain : List ℕ) (of : IsChain chain r) where
      slot_is : (i : ℕ) → r.head + i < r.tail → blocks_slot chain c i ≡ In (r.num ((r.head + i) / 31)) ((r.head + i) % 31)
      slot_is i h =
          let n : ℕ = r.head + i in
          let b : slice_index_or chain (n / 31) 0 ≡ r.num (n / 31) =
          index_or_get chain (n / 31) (r.num (n / 31)) 0 (of.1 (n / 31) (in_chain n h)) in
          ap (λ (j : ℕ). In (slice_index_or chain ((j + i) / 31) 0) ((j + i) % 31)) head_number ∙ ap (λ (j : ℕ). In j (n % 31)) b

      block_held : Each IsFit ps → (i : ℕ) (v : T) → slice_get q.items i ≡ Some v
          → (slot_at c (blocks_slot chain c i) ≡ Some v) ⊎ IsPutBy
          (λ (x : UnboundedCall T). puts_blocks x.action) (blocks_slot chain c i) v ps
      block_held fit i v e =
          let s = means.stands.sound in
          let n : ℕ = r.head + i in
          let it : slice_get r.all n ≡ Some v = sym (get_drop r.all r.head i) ∙ (ap (λ (xs : List T). slice_get xs i) (sym s.items) ∙ e) in
          let a = s.all in
          let high : n < r.tail = (let x = get_inside r.all n v it in omega arith) in
          let low : r.head ≤ n = omega arith in
          subst (λ (at : Slot). (slot_at c at ≡ Some v) ⊎ IsPutBy
          (λ (x : UnboundedCall T). puts_blocks x.action) at v ps) (sym (slot_is i high))
          (by_bool (r.cell n).written
          (λ f. ⊎_elim (λ g. inl (holds_it n v low high g)) (λ g. inr g)
          (block_among r n v it ps (let o = means.owners (fill n) in
          let one : owed r (fill n) ≡ 1 =
          one_of (nat_lt n r.tail) (r.cell n).written (lt_yes n r.tail high) f in omega arith) means.seats fit))
          (λ f. inl (holds_it n v low high (s.full n f low ∙ it))))

  -- ---- any form

  is_single : (cap : ℕ) (s : CallState T) (a : SingleAction T) (x : Slot × T) → IsAtSingle s a → puts_single a ≡ Some x
      → puts_by (Bounded cap) s ≡ Some x
  is_single cap (Single y) a x e g = subst (λ (z : SingleAction T). puts_single z ≡ Some x) e g
  is_single cap (Asked (ask.Push v)) a x e g = absurd (let h = subst (λ (z : SingleAction T). puts_single z ≡ Some x) e g in cc h)
  is_single cap (Asked k) a x e g = absurd (let h = subst (λ (z : SingleAction T). puts_single z ≡ Some x) e g in cc h)
  is_single cap x a y e g = absurd e

  is_ring : (cap : ℕ) (s : CallState T) (a : RingAction T) (x : Slot × T) → IsAtRing s a → puts_ring (ring_mark cap) a ≡ Some x
      → puts_by (Bounded cap) s ≡ Some x
  is_ring cap (Ring y) a x e g = subst (λ (z : RingAction T). puts_ring (ring_mark cap) z ≡ Some x) e g
  is_ring cap (Asked (ask.Push v)) a x e g = absurd (let h = subst (λ (z : RingAction T). puts_ring (ring_mark cap) z ≡ Some x) e g in cc h)
  is_ring cap (Asked k) a x e g = absurd (let h = subst (λ (z : RingAction T). puts_ring (ring_mark cap) z ≡ Some x) e g in cc h)
  is_ring cap x a y e g = absurd e

  is_blocks : (s : CallState T) (a : UnboundedCall T) (x : Slot × T) → IsAtBlocks s a → puts_blocks a.action ≡ Some x
      → puts_by Unbounded s ≡ Some x
  is_blocks (Blocks y) a x e g = subst (λ (z : UnboundedCall T). puts_blocks z.action ≡ Some x) e g
  is_blocks (Asked (ask.Push v)) a x e g = absurd (let h = subst (λ (z : UnboundedCall T). puts_blocks z.action ≡ Some x) e g in cc h)
  is_blocks (Asked k) a x e g = absurd (let h = subst (λ (z : UnboundedCall T). puts_blocks z.action ≡ Some x) e g in cc h)
  is_blocks x a y e g = absurd e

  -- a message is in its slot, or a call under way is yet to put it there
  abbrev LiesOrIsHeld : QueueForm → List ℕ → Contents T → List (ActiveQueueCall T) → ℕ → T → Type 0
  LiesOrIsHeld form chain c seats i v = (slot_at c (slot_by form chain c i) ≡ Some v) ⊎ IsHeldFor form (slot_by form chain c i) v seats

  one_slot_held : (cap : ℕ) (chain : List ℕ) (c : Contents T) (q : Queue T) (seats : List (ActiveQueueCall T)) → FitsSlot cap c q seats
      → (i : ℕ) (v : T)
      → slice_get q.items i ≡ Some v → LiesOrIsHeld (Bounded cap) chain c seats i v
  one_slot_held cap chain c q seats fits i v e =
      let (places, are, means) = fits.calls in
      subst (λ (b : Bool). (slot_at c (if b then At 0 else ring_slot cap (ring_mark cap) c i) ≡ Some v)
      ⊎ IsHeldFor (Bounded cap) (if b then At 0 else ring_slot cap (ring_mark cap) c i) v seats)
      (sym (denote.eq_holds cap 1 fits.one))
      (⊎_elim (λ h. inl h) (λ h. inr
      (to_seats puts_single IsAtSingle (Bounded cap) (is_single cap) (At 0) v seats places are h)) (single_held c q places means i v e))

  in_ring_held : (cap : ℕ) (chain : List ℕ) (c : Contents T) (q : Queue T) (seats : List (ActiveQueueCall T)) → FitsRing cap c q seats
      → (i : ℕ) (v : T)
      → slice_get q.items i ≡ Some v → LiesOrIsHeld (Bounded cap) chain c seats i v
  in_ring_held cap chain c q seats fits i v e =
      let (places, are, means) = fits.calls in
      let two = fits.two in
      let some : 0 < cap = omega arith in
      subst (λ (b : Bool). (slot_at c (if b then At 0 else ring_slot cap (ring_mark cap) c i) ≡ Some v)
      ⊎ IsHeldFor (Bounded cap) (if b then At 0 else ring_slot cap (ring_mark cap) c i) v seats)
      (sym (not_one cap fits.two))
      (⊎_elim (λ h. inl h) (λ h. inr
      (to_seats (puts_ring (ring_mark cap)) IsAtRing (Bounded cap) (is_ring cap) (ring_slot cap (ring_mark cap) c i) v seats places are h))
      (ring_held cap (ring_mark cap) some (mark_is cap some fits.most) c q places means i v e))

  held_in : (form : QueueForm) (chain : List ℕ) (c : Contents T) (q : Queue T) (seats : List (ActiveQueueCall T)) → FitsForm form chain c q seats
      → (i : ℕ) (v : T)
      → slice_get q.items i ≡ Some v → LiesOrIsHeld form chain c seats i v
  held_in (Bounded cap) chain c q seats (inl fits) i v e = one_slot_held cap chain c q seats fits i v e
  held_in (Bounded cap) chain c q seats (inr fits) i v e = in_ring_held cap chain c q seats fits i v e
  held_in Unbounded chain c q seats (places, are, (r, d, means, fit, of)) i v e =
      ⊎_elim (λ h. inl h)
      (λ h. inr (to_seats
      (λ (x : UnboundedCall T). puts_blocks x.action) IsAtBlocks Unbounded is_blocks (blocks_slot chain c i) v seats places are h))
      (block_held c q places r d means chain of fit i v e)

  -- of cells and calls that mean a queue
  pub held : (chain : List ℕ) (c : Contents T) (q : Queue T) (seats : List (ActiveQueueCall T)) → FitsAt chain c q seats → (i : ℕ) (v : T)
      → slice_get q.items i ≡ Some v → (slot_at c (slot_in chain c i) ≡ Some v) ⊎ IsHeldFor c.form (slot_in chain c i) v seats
  unfolding FitsAt slot_in
  held chain c q seats fits i v e = held_in c.form chain c q seats fits i v e
