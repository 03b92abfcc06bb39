-- One step of one call on one slot keeps what the cells mean.
use Rattle.std.proofs.Common.{◌≡◌, ℕ, Bool, true, false, List, [], ◌∷◌, Option, None, Some, is_some, option_to_list, ⊎_elim, refl, sym, ap, ◌∙◌, subst}
use Rattle.concurrent_queue.specs.Contents.{Contents}
use Rattle.concurrent_queue.specs.Queue.{Queue, Stage, trying, displaced, appended, taken, read, measured, Phase}
use Rattle.concurrent_queue.specs.machine.Single.{single_step}
use Rattle.concurrent_queue.specs.machine.SingleState.{word_of, holds, KnowsSingle, Tries, IsTrying}
use Rattle.concurrent_queue.specs.declared.call.QueueAsk.{QueueAsk}
use Rattle.concurrent_queue.specs.declared.call.QueueAsk.TheVariants as ask
use Rattle.concurrent_queue.specs.declared.single.SingleAction.{SingleAction}
use Rattle.concurrent_queue.specs.declared.single.SingleAction.TheVariants.{Push, PushPut, PushUnlock, Force, ForceTake, ForcePut, ForceUnlock, Pop, PopTake, PopUnlock, Close, IsClosed, IsEmpty, IsFull, Len, Capacity, Finished}
use Rattle.concurrent_queue.proofs.SingleSteps as steps
use Rattle.concurrent_queue.proofs.SingleSteps.{Kept, Stays, queue_of, call_of}

abbrev pub Keeps : {T : Type 0} → Contents T → Queue T → Bool → Option T → Option T → SingleAction T → Phase T → Type 0
Keeps {T} c q locked item slot a p =
    (locked' : Bool) × (item' : Option T) × (slot' : Option T) × (p' : Phase T) × Kept locked item slot q a p (single_step c a).0 (single_step c a).1 locked' item' slot' p'

module _ {T : Type 0} where
  pub same_cells : (c : Contents T) (w : ℕ) (slots : List (Option T)) → c.state ≡ w → c.slots ≡ slots → record c { state = w; slots = slots } ≡ c
  same_cells c w slots e f =
      let by_state : ℕ → Contents T = λ x. record c { state = x; slots = slots } in
      let by_slots : List (Option T) → Contents T = λ x. record c { slots = x } in
      ap by_state (sym e) ∙ ap by_slots (sym f)

  same_queue : (q : Queue T) (item : Option T) → q.items ≡ option_to_list item → q.coming ≡ false → q.capacity ≡ Some 1 → queue_of q item q.closed ≡ q
  same_queue q item e f g =
      let by_items : List T → Queue T = λ x. record q { items = x; coming = false; capacity = Some 1 } in
      let by_coming : Bool → Queue T = λ x. record q { coming = x; capacity = Some 1 } in
      let by_capacity : Option ℕ → Queue T = λ x. record q { capacity = x } in
      ap by_items (sym e) ∙ ap by_coming (sym f) ∙ ap by_capacity (sym g)

  same_call : (p : Phase T) (a : QueueAsk T) (s : Stage T) → p.ask ≡ a → p.stage ≡ s → call_of a s ≡ p
  same_call p a s e f =
      let by_ask : QueueAsk T → Phase T = λ x. call_of x s in
      let by_stage : Stage T → Phase T = λ x. record p { stage = x } in
      ap by_ask (sym e) ∙ ap by_stage (sym f)

  -- a call with no mark is at a try
  pub try_of : (s : Stage T) → IsTrying s → (seen : Bool) × (s ≡ trying seen)
  try_of (trying seen) h = (seen, refl)
  try_of (displaced d) h = absurd h
  try_of (appended o) h = absurd h
  try_of (taken v) h = absurd h
  try_of (read n) h = absurd h
  try_of (measured n k) h = absurd h

  module _ (c : Contents T) (q : Queue T) (locked : Bool) (item slot : Option T) (p : Phase T) (state : c.state ≡ word_of locked (is_some item) q.closed) (slots : c.slots ≡ slot ∷ []) (items : q.items ≡ option_to_list item) (coming : q.coming ≡ false) (limit : q.capacity ≡ Some 1) (rest : locked ≡ false → item ≡ slot) where
    carry : (a : SingleAction T) (k : QueueAsk T) (s : Stage T) → p.ask ≡ k → p.stage ≡ s → Stays c q locked item slot q.closed a (call_of k s) → Keeps c q locked item slot a p
    carry a k s e f h =
        let h1 = subst (λ (d : Contents T). Keeps d (queue_of q item q.closed) locked item slot a (call_of k s)) (same_cells c _ _ state slots) h in
        let h2 = subst (λ (x : Queue T). Keeps c x locked item slot a (call_of k s)) (same_queue q item items coming limit) h1 in
        subst (λ (x : Phase T). Keeps c q locked item slot a x) (same_call p k s e f) h2

    -- a call that tries
    tries : (a : SingleAction T) (k : QueueAsk T) → Tries k p → ((seen : Bool) → Stays c q locked item slot q.closed a (call_of k (trying seen))) → Keeps c q locked item slot a p
    tries a k t h = let s = try_of p.stage t.1 in carry a k (trying s.0) t.0 s.1 (h s.0)

    pub keeps : (a : SingleAction T) → (holds a ≡ 1 → locked ≡ true) → KnowsSingle slot item a p → Keeps c q locked item slot a p
    keeps (Push v) lock f = tries (Push v) (ask.Push v) f (λ seen. steps.push c q seen locked item slot q.closed v rest)
    keeps (PushPut v) lock f = carry (PushPut v) (ask.Push v) (appended None) f.0.0 f.0.1 (rw (lock refl, f.1, f.2) (steps.push_put c q q.closed v))
    keeps PushUnlock lock f = carry PushUnlock (ask.Push f.0) (appended None) f.1.0 f.1.1 (rw (lock refl, f.2, f.3) (steps.push_unlock c q q.closed f.0))
    keeps (Force v x) lock f = ⊎_elim
        (λ e. tries (Force v x) (ask.ForcePush v) f.0 (λ seen. rw e (steps.force-0 c q seen locked item slot q.closed v rest)))
        (λ e. tries (Force v x) (ask.ForcePush v) f.0 (λ seen. rw e (steps.force-2 c q seen locked item slot q.closed v rest))) f.1
    keeps (ForceTake v) lock f = carry (ForceTake v) (ask.ForcePush v) (appended (Some f.0)) f.1.0 f.1.1 (rw (lock refl, f.2, f.3) (steps.force_take c q q.closed v f.0))
    keeps (ForcePut v d) lock f = carry (ForcePut v d) (ask.ForcePush v) (appended d) f.0.0 f.0.1 (rw (lock refl, f.1, f.2) (steps.force_put c q q.closed v d))
    keeps (ForceUnlock d) lock f = carry (ForceUnlock d) (ask.ForcePush f.0) (appended d) f.1.0 f.1.1 (rw (lock refl, f.2, f.3) (steps.force_unlock c q q.closed f.0 d))
    keeps (Pop x) lock f = ⊎_elim
        (λ e. tries (Pop x) ask.Pop f.0 (λ seen. rw e (steps.pop-2 c q seen locked item slot q.closed rest)))
        (λ e. tries (Pop x) ask.Pop f.0 (λ seen. rw e (steps.pop-6 c q seen locked item slot q.closed rest))) f.1
    keeps PopTake lock f = carry PopTake ask.Pop (taken f.0) f.1.0 f.1.1 (rw (lock refl, f.2, f.3) (steps.pop_take c q q.closed f.0))
    keeps (PopUnlock d) lock f = carry (PopUnlock d) ask.Pop (taken d) f.0.0 f.0.1 (rw (lock refl, f.1, f.2) (steps.pop_unlock c q q.closed d))
    keeps Close lock f = tries Close ask.Close f (λ seen. steps.close c q seen locked item slot q.closed rest)
    keeps IsClosed lock f = tries IsClosed ask.IsClosed f (λ seen. steps.is_closed c q seen locked item slot q.closed rest)
    keeps IsEmpty lock f = tries IsEmpty ask.IsEmpty f (λ seen. steps.is_empty c q seen locked item slot q.closed rest)
    keeps IsFull lock f = tries IsFull ask.IsFull f (λ seen. steps.is_full c q seen locked item slot q.closed rest)
    keeps Len lock f = tries Len ask.Len f (λ seen. steps.len c q seen locked item slot q.closed rest)
    keeps Capacity lock f = tries Capacity ask.Capacity f (λ seen. steps.capacity c q seen locked item slot q.closed rest)
    keeps Finished lock f = absurd f
