-- Each step of a call keeps what the ring means, by the numbers of messages.
use Rattle.std.proofs.Common.{◌≡◌, ℕ, ◌+◌, ◌%◌, ◌<◌, ◌≤◌, ⊎_elim, Bool, true, false, if◌then◌else◌, ◌∷◌, [], ◌++◌, length, drop, Option, None, Some, Ok, Err, slice_get, refl, sym, ap, ◌∙◌, subst, inl, inr, arith}
use Rattle.std.proofs.lemmas.Nat.{mod_below}
use Rattle.std.proofs.lemmas.Bool.{cases_lt, false≢true}
use Rattle.std.proofs.lemmas.Bool.Decides.{nat_tests}
use Rattle.concurrent_queue.specs.Queue.{Queue, Phase, trying, displaced, appended, taken, read, measured, message, seen_after, Continues, Answers}
use Rattle.concurrent_queue.specs.machine.RingState.{SlotState, Ring, SoundRing, IsShown, with_place, reach}
use Rattle.concurrent_queue.specs.machine.RingCalls.{ask_of, at_stage, StandsRing, IsItem, Saw, Reached}
use Rattle.concurrent_queue.specs.machine.RingMeans.{Kept}
use Rattle.concurrent_queue.specs.machine.RingWords.{shut_reply, pushed_reply, behind}
use Rattle.concurrent_queue.proofs.RingPlaces.{turn-index}
use Rattle.concurrent_queue.proofs.RingSound.{by_bool}
use Rattle.concurrent_queue.proofs.RingLater.{eq_self}
use Rattle.concurrent_queue.proofs.RingKinds as kind
use Rattle.concurrent_queue.specs.declared.call.QueueAsk.TheVariants as ask
use Rattle.concurrent_queue.specs.declared.call.QueueMark.{QueueMark}
use Rattle.concurrent_queue.specs.declared.call.QueueMark.TheVariants as mark
use Rattle.concurrent_queue.specs.declared.call.QueueReply.{QueueReply}
use Rattle.concurrent_queue.specs.declared.call.QueueReply.TheVariants as reply
use Rattle.concurrent_queue.specs.declared.error.PushError.TheVariants as push_error
use Rattle.concurrent_queue.specs.declared.error.PopError.TheVariants as pop_error
use Rattle.concurrent_queue.specs.declared.bounded.WhenFull.{WhenFull}
use Rattle.concurrent_queue.specs.declared.bounded.WhenFull.TheVariants.{Refuse, Displace}
use Rattle.concurrent_queue.specs.declared.bounded.RingAction.{RingAction}
use Rattle.concurrent_queue.specs.declared.bounded.RingAction.TheVariants as act

module _ {T : Type 0} (cap : ℕ) (two : 2 ≤ cap) (r : Ring T) (q : Queue T) (s : SoundRing cap r) (w : IsShown cap r q) where
  some : 0 < cap
  some = omega arith

  -- the lemmas below have the phase written out
  pub at_phase : (a : RingAction T) (p o : Phase T) (r' : Ring T) (a' : RingAction T) (k : QueueMark) (x : Option (QueueReply T)) → p ≡ o → Kept cap r q a o r' a' k x → Kept cap r q a p r' a' k x
  at_phase a p o r' a' k x e h = subst (λ (y : Phase T). Kept cap r q a y r' a' k x) (sym e) h

  goes_again : (k : WhenFull) (v : T) (seen : Bool) → Continues q (at_stage (ask_of k v) (trying seen)) mark.Nothing (at_stage (ask_of k v) (trying (seen_after seen q)))
  goes_again Refuse v seen = (refl, refl)
  goes_again Displace v seen = (refl, refl)

  goes_appended : (k : WhenFull) (v : T) → Continues q (at_stage (ask_of k v) (appended None)) mark.Nothing (at_stage (ask_of k v) (appended None))
  goes_appended Refuse v = (refl, refl)
  goes_appended Displace v = (refl, refl)

  saw_again : (n : ℕ) (seen : Bool) → Saw cap r n seen → Saw cap r n (seen_after seen q)
  saw_again n seen h = (h.0, ⊎_elim (λ e. inl (kind.seen_stays cap some r q s w seen e)) (λ g. inr g) h.1)

  -- ---- a push finds its place

  module _ (k : WhenFull) (v : T) (seen : Bool) where
    pub push_opens : r.closed ≡ false → Kept cap r q (act.Push k v) (at_stage (ask_of k v) (trying seen)) r (act.PushStamp k v r.tail) mark.Nothing None
    push_opens o = kind.quiet cap some r q s w _ _ (act.PushStamp k v r.tail) None refl refl refl refl
        (at_stage (ask_of k v) (trying (seen_after seen q)), goes_again k v seen, (seen_after seen q, refl, (omega arith, kind.saw_full cap some r q s w seen o)))

    shut_answer : (j : WhenFull) → r.closed ≡ true → Answers q (at_stage (ask_of j v) (trying seen)) mark.Nothing (shut_reply j v)
    shut_answer Refuse o = (refl, w.closed ∙ o)
    shut_answer Displace o = (refl, w.closed ∙ o)

    pub push_refused : r.closed ≡ true → Kept cap r q (act.Push k v) (at_stage (ask_of k v) (trying seen)) r act.Finished mark.Nothing (Some (shut_reply k v))
    push_refused o = kind.quiet cap some r q s w _ _ act.Finished _ refl refl refl refl (shut_answer k o, refl)

    -- it looks again
    pub push_again-stamp : (n : ℕ) → Kept cap r q (act.PushStamp k v n) (at_stage (ask_of k v) (trying seen)) r (act.Push k v) mark.Nothing None
    push_again-stamp n = kind.quiet cap some r q s w _ _ (act.Push k v) None refl refl refl refl
        (at_stage (ask_of k v) (trying (seen_after seen q)), goes_again k v seen, (seen_after seen q, refl))

    pub push_again-swap : (n : ℕ) → Kept cap r q (act.PushSwap k v n) (at_stage (ask_of k v) (trying seen)) r (act.Push k v) mark.Nothing None
    push_again-swap n = kind.quiet cap some r q s w _ _ (act.Push k v) None refl refl refl refl
        (at_stage (ask_of k v) (trying (seen_after seen q)), goes_again k v seen, (seen_after seen q, refl))

    pub push_ready : (n : ℕ) → (r.at (n % cap)).round ≡ n → Kept cap r q (act.PushStamp k v n) (at_stage (ask_of k v) (trying seen)) r (act.PushSwap k v n) mark.Nothing None
    push_ready n at = kind.quiet cap some r q s w _ _ (act.PushSwap k v n) None refl refl refl refl
        (at_stage (ask_of k v) (trying (seen_after seen q)), goes_again k v seen, (seen_after seen q, refl, omega arith))

    went_in : (j : WhenFull) → r.closed ≡ false → r.tail < r.head + cap → Continues q (at_stage (ask_of j v) (trying seen)) mark.Append (at_stage (ask_of j v) (appended None))
    went_in Refuse o h = (refl, (w.closed ∙ o, kind.not_filled cap some r q s w h, refl))
    went_in Displace o h = (refl, (w.closed ∙ o, kind.not_filled cap some r q s w h, refl))

    its_message : (j : WhenFull) → message (ask_of j v) ≡ v ∷ []
    its_message Refuse = refl
    its_message Displace = refl

    pub push_wins : (n : ℕ) → r.tail ≡ n → r.closed ≡ false → n ≤ (r.at (n % cap)).round
        → Kept cap r q (act.PushSwap k v n) (at_stage (ask_of k v) (trying seen)) (record r { all = r.all ++ v ∷ []; tail = r.tail + 1; coming = r.coming }) (act.PushPut k v n) mark.Append None
    push_wins n t o reached = kind.append cap some r q s w _ _ (act.PushPut k v n) v n t reached refl refl refl refl (its_message k) refl
        (λ won. (
          at_stage (ask_of k v) (appended None),
          went_in k o won.3,
          (refl, (won.0, won.1, won.2), (omega arith, subst (λ (x : ℕ). slice_get (r.all ++ v ∷ []) x ≡ Some v) t (kind.item_last cap some r q s w v))),
        ))

  -- a push finds the message of the lap before
  pub push_behind : (k : WhenFull) (v : T) (seen : Bool) (c : ℕ) → (r.at (c % cap)).round ≡ c → (r.at (c % cap)).written ≡ true → Saw cap r (c + cap) seen
      → Kept cap r q (act.PushStamp k v (c + cap)) (at_stage (ask_of k v) (trying seen)) r (behind k v c) mark.Nothing None
  push_behind Refuse v seen c at wr saw = kind.quiet cap some r q s w _ _ (act.PushHead v c) None refl refl refl refl
      (at_stage (ask.Push v) (trying (seen_after seen q)), (refl, refl), (seen_after seen q, refl, saw_again (c + cap) seen saw))
  push_behind Displace v seen c at wr saw = kind.quiet cap some r q s w _ _ (act.ForceHead v c) None refl refl refl refl
      (at_stage (ask.ForcePush v) (trying (seen_after seen q)), (refl, refl), (seen_after seen q, refl, saw_again (c + cap) seen saw, (omega arith, λ e. wr)))

  saw_true : (c : ℕ) (seen : Bool) → Saw cap r (c + cap) seen → r.head ≡ c → seen ≡ true
  saw_true c seen h e = ⊎_elim (λ g. g) (λ g. absurd (omega arith)) h.1

  pub push_full : (v : T) (seen : Bool) (c : ℕ) → Saw cap r (c + cap) seen → r.head ≡ c
      → Kept cap r q (act.PushHead v c) (at_stage (ask.Push v) (trying seen)) r act.Finished mark.Nothing (Some (reply.Push (Err (push_error.Full v))))
  push_full v seen c saw e = kind.quiet cap some r q s w _ _ act.Finished _ refl refl refl refl
      ((refl, kind.filled cap some r q s w (let m = s.room in omega (arith, saw.0)), kind.seen_stays cap some r q s w seen (saw_true c seen saw e)), refl)

  pub push_again-head : (v : T) (seen : Bool) (c : ℕ) → Kept cap r q (act.PushHead v c) (at_stage (ask.Push v) (trying seen)) r (act.Push Refuse v) mark.Nothing None
  push_again-head v seen c = kind.quiet cap some r q s w _ _ (act.Push Refuse v) None refl refl refl refl
      (at_stage (ask.Push v) (trying (seen_after seen q)), (refl, refl), (seen_after seen q, refl))

  pub force_again : (v : T) (seen : Bool) (c : ℕ) → Kept cap r q (act.ForceHead v c) (at_stage (ask.ForcePush v) (trying seen)) r (act.Push Displace v) mark.Nothing None
  force_again v seen c = kind.quiet cap some r q s w _ _ (act.Push Displace v) None refl refl refl refl
      (at_stage (ask.ForcePush v) (trying (seen_after seen q)), (refl, refl), (seen_after seen q, refl))

  -- ---- a push that is in

  calm_unwritten : (n : ℕ) → (r.at (n % cap)).written ≡ false → r.coming ≡ true → r.tail % cap ≡ n % cap → ⊥
  calm_unwritten n un c e = false≢true (sym un ∙ subst (λ (x : ℕ). (r.at x).written ≡ true) e (s.coming c).3)

  -- the place of n is not the one that a message on its way will come to, if the tail has gone past n + cap
  calm_passed : (n : ℕ) → (r.at (n % cap)).round ≡ n → (r.tail ≡ n + cap → ⊥) → r.coming ≡ true → r.tail % cap ≡ n % cap → ⊥
  calm_passed n at ne c e = ne (let g = s.coming c in let f = ap (λ (x : ℕ). (r.at x).round) e in omega (arith, g.2))

  pub push_puts : (k : WhenFull) (v : T) (n : ℕ) → StandsRing cap r n false None → IsItem r n v
      → Kept cap r q (act.PushPut k v n) (at_stage (ask_of k v) (appended None)) (with_place r (n % cap) (record { round = (r.at (n % cap)).round; written = (r.at (n % cap)).written; slot = Some v })) (act.PushStore k n) mark.Nothing None
  push_puts k v n at it =
      let pl : SlotState T = record { round = (r.at (n % cap)).round; written = (r.at (n % cap)).written; slot = Some v } in
      let is = kind.at_here cap some r q s w (n % cap) pl (n % cap) refl in
      let b = mod_below n cap some in
      kind.place cap some r q s w _ _ (act.PushStore k n) n pl None refl (inl refl) refl refl (omega arith) (λ h u. u) (calm_unwritten n at.1)
      (s.index (n % cap) b, (λ u h. absurd (omega (arith, at.0, it.0))), (λ u h. s.filling (n % cap) b u h), (λ u h. absurd (false≢true (sym at.1 ∙ u))), (λ u h. absurd (false≢true (sym at.1 ∙ u))))
      (rw (eq_self (n % cap)) refl)
      (at_stage (ask_of k v) (appended None), goes_appended k v, (v, refl, subst (λ (x : SlotState T). (x.round ≡ n) × (x.written ≡ false) × (x.slot ≡ Some v)) (sym is) (at.0, at.1, refl), it))

  pushed_answer : (k : WhenFull) (v : T) → Answers q (at_stage (ask_of k v) (appended None)) mark.Nothing (pushed_reply k)
  pushed_answer Refuse v = tt
  pushed_answer Displace v = refl

  pub push_stores : (k : WhenFull) (v : T) (n : ℕ) → StandsRing cap r n false (Some v) → IsItem r n v
      → Kept cap r q (act.PushStore k n) (at_stage (ask_of k v) (appended None)) (with_place r (n % cap) (record { round = n; written = true; slot = (r.at (n % cap)).slot })) act.Finished mark.Nothing (Some (pushed_reply k))
  push_stores k v n at it =
      let pl : SlotState T = record { round = n; written = true; slot = (r.at (n % cap)).slot } in
      let low : r.head ≤ n = (let f = s.filling (n % cap) (mod_below n cap some) at.1 (omega (arith, at.0, it.0)) in omega (arith, at.0)) in
      kind.place cap some r q s w _ _ act.Finished n pl _ refl (inr refl) refl refl (omega (arith, at.0)) (λ h u. refl) (calm_unwritten n at.1)
      (refl, (λ u h. absurd (false≢true (sym u))), (λ u h. absurd (false≢true (sym u))), (λ u h. (it.0, at.2 ∙ sym it.1)), (λ u h. absurd (omega arith)))
      (rw (at.1, at.0) (let a = low in let b = it.0 in grind (arith, nat_tests)))
      (pushed_answer k v, refl)

  -- ---- a displacing push

  more_than_one : q.capacity ≡ Some 1 → ⊥
  more_than_one e = let f : Some cap ≡ Some 1 = sym w.capacity ∙ e in let g : cap ≡ 1 = cc in omega arith

  pub force_wins : (v : T) (seen : Bool) (c : ℕ) → r.head ≡ c → Saw cap r (c + cap) seen → Reached cap r c
      → Kept cap r q (act.ForceHead v c) (at_stage (ask.ForcePush v) (trying seen)) (record r { head = r.head + 1; coming = true }) (act.ForceAdd v c) mark.TakeDisplaced None
  force_wins v seen c t saw reached =
      let full : r.tail ≡ c + cap = (let m = s.room in omega (arith, saw.0)) in
      let calm : r.coming ≡ false = by_bool r.coming (λ e. e) (λ e. absurd (let g = (s.coming e).0 in omega arith)) in
      kind.take cap some r q s w _ _ (act.ForceAdd v c) mark.TakeDisplaced c true t reached.0 reached.1 refl refl refl (rw calm refl) (λ e. refl) (λ e f. full)
      (rw calm refl)
      (λ d won old. (
        at_stage (ask.ForcePush v) (displaced d),
        (refl, (d, old, kind.seen_stays cap some r q s w seen (saw_true c seen saw t), kind.filled cap some r q s w (omega arith), w.coming ∙ calm, refl, more_than_one)),
        (d, refl, (won.0, won.1, won.3), omega arith, full, refl),
      ))

  pub force_adds : (v d : T) (c : ℕ) → StandsRing cap r c true (Some d) → c < r.head → r.tail ≡ c + cap → r.coming ≡ true
      → Kept cap r q (act.ForceAdd v c) (at_stage (ask.ForcePush v) (displaced d)) (record r { all = r.all ++ v ∷ []; tail = r.tail + 1; coming = false }) (act.ForceTake v c) mark.Append None
  force_adds v d c at low t coming = kind.bring_in cap some r q s w _ _ (act.ForceTake v c) v c coming t low refl refl refl refl refl refl (
    at_stage (ask.ForcePush v) (appended (Some d)),
    (refl, (w.coming ∙ coming, kind.not_filled cap some r q s w (omega arith), refl)),
    (d, refl, at, low, (omega arith, subst (λ (x : ℕ). slice_get (r.all ++ v ∷ []) x ≡ Some v) t (kind.item_last cap some r q s w v))),
  )

  pub force_takes : (v d : T) (c : ℕ) → StandsRing cap r c true (Some d) → c < r.head → IsItem r (c + cap) v
      → Kept cap r q (act.ForceTake v c) (at_stage (ask.ForcePush v) (appended (Some d))) (with_place r (c % cap) (record { round = (r.at (c % cap)).round; written = (r.at (c % cap)).written; slot = None })) (act.ForcePut v c d) mark.Nothing None
  force_takes v d c at low it =
      let pl : SlotState T = record { round = (r.at (c % cap)).round; written = (r.at (c % cap)).written; slot = None } in
      let is = kind.at_here cap some r q s w (c % cap) pl (c % cap) refl in
      let b = mod_below c cap some in
      kind.place cap some r q s w _ _ (act.ForcePut v c d) c pl None refl (inl refl) refl refl (omega arith) (λ h u. u) (calm_passed c at.0 (λ e. omega (arith, it.0)))
      (s.index (c % cap) b, (λ u h. absurd (false≢true (sym u ∙ at.1))), (λ u h. absurd (false≢true (sym u ∙ at.1))), (λ u h. absurd (omega (arith, at.0))), (λ u h. s.used (c % cap) b u h))
      (rw (eq_self (c % cap)) refl)
      (at_stage (ask.ForcePush v) (appended (Some d)), (refl, refl), (refl, subst (λ (x : SlotState T). (x.round ≡ c) × (x.written ≡ true) × (x.slot ≡ None)) (sym is) (at.0, at.1, refl), low, it))

  pub force_puts : (v d : T) (c : ℕ) → StandsRing cap r c true None → c < r.head → IsItem r (c + cap) v
      → Kept cap r q (act.ForcePut v c d) (at_stage (ask.ForcePush v) (appended (Some d))) (with_place r (c % cap) (record { round = (r.at (c % cap)).round; written = (r.at (c % cap)).written; slot = Some v })) (act.ForceStore c d) mark.Nothing None
  force_puts v d c at low it =
      let pl : SlotState T = record { round = (r.at (c % cap)).round; written = (r.at (c % cap)).written; slot = Some v } in
      let is = kind.at_here cap some r q s w (c % cap) pl (c % cap) refl in
      let b = mod_below c cap some in
      kind.place cap some r q s w _ _ (act.ForceStore c d) c pl None refl (inl refl) refl refl (omega arith) (λ h u. u) (calm_passed c at.0 (λ e. omega (arith, it.0)))
      (s.index (c % cap) b, (λ u h. absurd (false≢true (sym u ∙ at.1))), (λ u h. absurd (false≢true (sym u ∙ at.1))), (λ u h. absurd (omega (arith, at.0))), (λ u h. s.used (c % cap) b u h))
      (rw (eq_self (c % cap)) refl)
      (at_stage (ask.ForcePush v) (appended (Some d)), (refl, refl), (v, refl, subst (λ (x : SlotState T). (x.round ≡ c) × (x.written ≡ true) × (x.slot ≡ Some v)) (sym is) (at.0, at.1, refl), low, it))

  pub force_stores : (v d : T) (c : ℕ) → StandsRing cap r c true (Some v) → c < r.head → IsItem r (c + cap) v
      → Kept cap r q (act.ForceStore c d) (at_stage (ask.ForcePush v) (appended (Some d))) (with_place r (c % cap) (record { round = c + cap; written = true; slot = (r.at (c % cap)).slot })) act.Finished mark.Nothing (Some (reply.Force (Ok (Some d))))
  force_stores v d c at low it =
      let pl : SlotState T = record { round = c + cap; written = true; slot = (r.at (c % cap)).slot } in
      let top : r.head ≤ c + cap = (let u = s.used (c % cap) (mod_below c cap some) at.1 (omega (arith, at.0)) in omega (arith, at.0)) in
      kind.place cap some r q s w _ _ act.Finished c pl _ refl (inr refl) refl refl (omega (arith, at.0)) (λ h u. refl) (calm_passed c at.0 (λ e. omega (arith, it.0)))
      (turn-index cap some c, (λ u h. absurd (false≢true (sym u))), (λ u h. absurd (false≢true (sym u))), (λ u h. (it.0, at.2 ∙ sym it.1)), (λ u h. absurd (omega arith)))
      (rw (at.1, at.0) (let a = top in grind (arith, nat_tests)))
      (refl, refl)

  -- ---- a pop

  module _ (seen : Bool) where
    pub pop_loads : Kept cap r q act.Pop (at_stage ask.Pop (trying seen)) r (act.PopStamp r.head) mark.Nothing None
    pop_loads = kind.quiet cap some r q s w _ _ (act.PopStamp r.head) None refl refl refl refl
        (at_stage ask.Pop (trying (seen_after seen q)), (refl, refl), (seen_after seen q, refl, omega arith))

    pub pop_ready : (n : ℕ) → (r.at (n % cap)).round ≡ n → (r.at (n % cap)).written ≡ true → Kept cap r q (act.PopStamp n) (at_stage ask.Pop (trying seen)) r (act.PopSwap n) mark.Nothing None
    pop_ready n at wr = kind.quiet cap some r q s w _ _ (act.PopSwap n) None refl refl refl refl
        (at_stage ask.Pop (trying (seen_after seen q)), (refl, refl), (seen_after seen q, refl, (omega arith, λ e. wr)))

    pub pop_same : (n : ℕ) → n ≤ r.head → (r.at (n % cap)).round ≡ n → Kept cap r q (act.PopStamp n) (at_stage ask.Pop (trying seen)) r (act.PopTail n) mark.Nothing None
    pop_same n h at = kind.quiet cap some r q s w _ _ (act.PopTail n) None refl refl refl refl
        (at_stage ask.Pop (trying (seen_after seen q)), (refl, refl), (seen_after seen q, refl, h, omega arith))

    pub pop_again-stamp : (n : ℕ) → Kept cap r q (act.PopStamp n) (at_stage ask.Pop (trying seen)) r act.Pop mark.Nothing None
    pop_again-stamp n = kind.quiet cap some r q s w _ _ act.Pop None refl refl refl refl
        (at_stage ask.Pop (trying (seen_after seen q)), (refl, refl), (seen_after seen q, refl))

    pub pop_again-swap : (n : ℕ) → Kept cap r q (act.PopSwap n) (at_stage ask.Pop (trying seen)) r act.Pop mark.Nothing None
    pop_again-swap n = kind.quiet cap some r q s w _ _ act.Pop None refl refl refl refl
        (at_stage ask.Pop (trying (seen_after seen q)), (refl, refl), (seen_after seen q, refl))

    pub pop_again-tail : (n : ℕ) → Kept cap r q (act.PopTail n) (at_stage ask.Pop (trying seen)) r act.Pop mark.Nothing None
    pop_again-tail n = kind.quiet cap some r q s w _ _ act.Pop None refl refl refl refl
        (at_stage ask.Pop (trying (seen_after seen q)), (refl, refl), (seen_after seen q, refl))

    pub pop_wins : (n : ℕ) → r.head ≡ n → Reached cap r n → Kept cap r q (act.PopSwap n) (at_stage ask.Pop (trying seen)) (record r { head = r.head + 1; coming = r.coming }) (act.PopTake n) mark.Take None
    pop_wins n t reached =
        kind.take cap some r q s w _ _ (act.PopTake n) mark.Take n r.coming t reached.0 reached.1 refl refl refl (omega arith) (λ e. e) (λ e f. absurd (false≢true (sym f ∙ e)))
        (ap (λ (b : Bool). record q { items = drop 1 q.items; removed = q.removed + 1; coming = b }) (same_coming r.coming refl))
        (λ d won old. (
          at_stage ask.Pop (taken d),
          (refl, (d, old, refl)),
          (d, refl, (won.0, won.1, won.3), omega arith, reaches),
        ))
      where
        same_coming : (b : Bool) → r.coming ≡ b → q.coming ≡ (if b then q.coming else b)
        same_coming true e = refl
        same_coming false e = w.coming ∙ e

        reaches : reach r ≤ n + cap
        reaches = by_bool r.coming (λ c. rw c (let m = s.room in omega arith)) (λ c. rw c (let g = (s.coming c).0 in omega arith))

    -- nothing is on its way where the place at the tail has come to the tail
    calm_at : (n : ℕ) → r.tail ≡ n → n ≤ (r.at (n % cap)).round → q.coming ≡ false
    calm_at n t reached = by_bool r.coming (λ c. w.coming ∙ c)
        (λ c. absurd (let g = s.coming c in let f = ap (λ (x : ℕ). (r.at (x % cap)).round) t in omega (arith, g.2)))

    pub pop_empty : (n : ℕ) → r.tail ≡ n → r.closed ≡ false → n ≤ r.head → n ≤ (r.at (n % cap)).round
        → Kept cap r q (act.PopTail n) (at_stage ask.Pop (trying seen)) r act.Finished mark.Nothing (Some (reply.Pop (Err pop_error.Empty)))
    pop_empty n t o h reached = kind.quiet cap some r q s w _ _ act.Finished _ refl refl refl refl
        ((w.closed ∙ o, (kind.empty_is cap some r q s w (let m = s.order in omega arith), calm_at n t reached)), refl)

    pub pop_shut : (n : ℕ) → r.tail ≡ n → r.closed ≡ true → n ≤ r.head → n ≤ (r.at (n % cap)).round
        → Kept cap r q (act.PopTail n) (at_stage ask.Pop (trying seen)) r act.Finished mark.Nothing (Some (reply.Pop (Err pop_error.Closed)))
    pop_shut n t o h reached = kind.quiet cap some r q s w _ _ act.Finished _ refl refl refl refl
        ((w.closed ∙ o, (kind.empty_is cap some r q s w (let m = s.order in omega arith), calm_at n t reached)), refl)

  pub pop_takes : (d : T) (n : ℕ) → StandsRing cap r n true (Some d) → n < r.head → reach r ≤ n + cap
      → Kept cap r q (act.PopTake n) (at_stage ask.Pop (taken d)) (with_place r (n % cap) (record { round = (r.at (n % cap)).round; written = (r.at (n % cap)).written; slot = None })) (act.PopStore n d) mark.Nothing None
  pop_takes d n at low far =
      let pl : SlotState T = record { round = (r.at (n % cap)).round; written = (r.at (n % cap)).written; slot = None } in
      let is = kind.at_here cap some r q s w (n % cap) pl (n % cap) refl in
      let b = mod_below n cap some in
      kind.place cap some r q s w _ _ (act.PopStore n d) n pl None refl (inl refl) refl refl (omega arith) (λ h u. u)
      (λ c. calm_passed n at.0 (λ e. let g : r.tail + 1 ≤ n + cap = rw c at far in omega arith) c)
      (s.index (n % cap) b, (λ u h. absurd (false≢true (sym u ∙ at.1))), (λ u h. absurd (false≢true (sym u ∙ at.1))), (λ u h. absurd (omega (arith, at.0))), (λ u h. s.used (n % cap) b u h))
      (rw (eq_self (n % cap)) refl)
      (at_stage ask.Pop (taken d), (refl, refl), (refl, subst (λ (x : SlotState T). (x.round ≡ n) × (x.written ≡ true) × (x.slot ≡ None)) (sym is) (at.0, at.1, refl), low, far))

  pub pop_stores : (d : T) (n : ℕ) → StandsRing cap r n true None → n < r.head → reach r ≤ n + cap
      → Kept cap r q (act.PopStore n d) (at_stage ask.Pop (taken d)) (with_place r (n % cap) (record { round = n + cap; written = false; slot = (r.at (n % cap)).slot })) act.Finished mark.Nothing (Some (reply.Pop (Ok d)))
  pop_stores d n at low far =
      let pl : SlotState T = record { round = n + cap; written = false; slot = (r.at (n % cap)).slot } in
      let high : r.tail ≤ n + cap = by_bool r.coming (λ c. let g : r.tail + 0 ≤ n + cap = rw c at far in omega arith) (λ c. let g : r.tail + 1 ≤ n + cap = rw c at far in omega arith) in
      kind.place cap some r q s w _ _ act.Finished n pl _ refl (inr refl) refl refl (omega (arith, at.0)) (λ h u. absurd (omega (arith, at.0)))
      (λ c. calm_passed n at.0 (λ e. let g : r.tail + 1 ≤ n + cap = rw c at far in omega arith) c)
      (turn-index cap some n, (λ u h. (at.2, omega arith)), (λ u h. absurd (omega arith)), (λ u h. absurd (false≢true u)), (λ u h. absurd (false≢true u)))
      (rw (at.1, at.0) (let h = high in grind (arith, nat_tests)))
      (refl, refl)

  -- ---- closing and questions

  module _ (seen : Bool) where
    pub closes : r.closed ≡ false → Kept cap r q act.Close (at_stage ask.Close (trying seen)) (record r { closed = true }) act.Finished mark.Close (Some (reply.Close true))
    closes o = kind.shut cap some r q s w _ _ _ refl refl (w.closed ∙ o)

    pub closed_before : r.closed ≡ true → Kept cap r q act.Close (at_stage ask.Close (trying seen)) r act.Finished mark.Nothing (Some (reply.Close false))
    closed_before o = kind.quiet cap some r q s w _ _ act.Finished _ refl refl refl refl (w.closed ∙ o, refl)

    pub says_closed : (b : Bool) → r.closed ≡ b → Kept cap r q act.IsClosed (at_stage ask.IsClosed (trying seen)) r act.Finished mark.Nothing (Some (reply.Flag b))
    says_closed b e = kind.quiet cap some r q s w _ _ act.Finished _ refl refl refl refl (w.closed ∙ e, refl)

    pub says_capacity : Kept cap r q act.Capacity (at_stage ask.Capacity (trying seen)) r act.Finished mark.Nothing (Some (reply.Cap (Some cap)))
    says_capacity = kind.quiet cap some r q s w _ _ act.Finished _ refl refl refl refl (sym w.capacity, refl)

    pub empty_loads : Kept cap r q act.IsEmpty (at_stage ask.IsEmpty (trying seen)) r (act.IsEmptyTail r.head) mark.Nothing None
    empty_loads = kind.quiet cap some r q s w _ _ (act.IsEmptyTail r.head) None refl refl refl refl
        (at_stage ask.IsEmpty (read r.head), (refl, ap read (sym w.removed)), (refl, omega arith))

    not_one : q.capacity ≡ Some 1 → ⊥
    not_one e = let f : Some cap ≡ Some 1 = sym w.capacity ∙ e in let g : cap ≡ 1 = cc in omega arith

    pub full_loads : Kept cap r q act.IsFull (at_stage ask.IsFull (trying seen)) r (act.IsFullHead r.tail) mark.Nothing None
    full_loads = kind.quiet cap some r q s w _ _ (act.IsFullHead r.tail) None refl refl refl refl
        (at_stage ask.IsFull (read r.tail), (refl, (ap read (sym w.accepted), not_one)), (refl, omega arith))

    pub len_loads : (b : Bool) → Kept cap r q act.Len (at_stage ask.Len (trying seen)) r (act.LenHead r.tail b) mark.Nothing None
    len_loads b = kind.quiet cap some r q s w _ _ (act.LenHead r.tail b) None refl refl refl refl
        (at_stage ask.Len (read r.tail), (refl, ap read (sym w.accepted)), (refl, omega arith))

  pub empty_yes : (n : ℕ) → n ≤ r.head → r.tail ≡ n → Kept cap r q (act.IsEmptyTail n) (at_stage ask.IsEmpty (read n)) r act.Finished mark.Nothing (Some (reply.Flag true))
  empty_yes n h t = kind.quiet cap some r q s w _ _ act.Finished _ refl refl refl refl (kind.empty_is cap some r q s w (let m = s.order in omega arith), refl)

  pub empty_no : (n : ℕ) → n ≤ r.head → (r.tail ≡ n → ⊥) → Kept cap r q (act.IsEmptyTail n) (at_stage ask.IsEmpty (read n)) r act.Finished mark.Nothing (Some (reply.Flag false))
  empty_no n h ne = kind.quiet cap some r q s w _ _ act.Finished _ refl refl refl refl
      ((let a = w.accepted in let m = s.order in ⊎_elim (λ (g : n < r.tail). omega arith) (λ (g : r.tail ≤ n). absurd (ne (omega arith))) (cases_lt n r.tail)), refl)

  pub full_yes : (n : ℕ) → n ≤ r.tail → r.head + cap ≡ n → Kept cap r q (act.IsFullHead n) (at_stage ask.IsFull (read n)) r act.Finished mark.Nothing (Some (reply.Flag true))
  full_yes n h e = kind.quiet cap some r q s w _ _ act.Finished _ refl refl refl refl (kind.filled cap some r q s w (let m = s.room in omega arith), refl)

  pub full_no : (n : ℕ) → n ≤ r.tail → (r.head + cap ≡ n → ⊥) → Kept cap r q (act.IsFullHead n) (at_stage ask.IsFull (read n)) r act.Finished mark.Nothing (Some (reply.Flag false))
  full_no n h ne = kind.quiet cap some r q s w _ _ act.Finished _ refl refl refl refl
      ((cap, w.capacity, (let a = w.removed in let m = s.room in ⊎_elim (λ (g : n < r.head + cap). omega arith) (λ (g : r.head + cap ≤ n). absurd (ne (omega arith))) (cases_lt n (r.head + cap)))), refl)

  pub len_looks : (n : ℕ) (b : Bool) → n ≤ r.tail → Kept cap r q (act.LenHead n b) (at_stage ask.Len (read n)) r (act.LenTail n b r.head) mark.Nothing None
  len_looks n b h =
      let l = kind.length_is cap some r q s w in
      kind.quiet cap some r q s w _ _ (act.LenTail n b r.head) None refl refl refl refl
      (at_stage ask.Len (measured n (length q.items)), (refl, refl), (length q.items, refl, h, omega arith, λ e. omega arith))

  pub len_again : (n k h : ℕ) (b : Bool) → Kept cap r q (act.LenTail n b h) (at_stage ask.Len (measured n k)) r act.Len mark.Nothing None
  len_again n k h b = kind.quiet cap some r q s w _ _ act.Len None refl refl refl refl (at_stage ask.Len (trying false), (refl, refl), (false, refl))

  pub len_ends : (n k h m : ℕ) (b : Bool) → r.tail ≡ n → k + h ≡ n → m + h ≡ n → Kept cap r q (act.LenTail n b h) (at_stage ask.Len (measured n k)) r act.Finished mark.Nothing (Some (reply.Count m))
  len_ends n k h m b t e f = kind.quiet cap some r q s w _ _ act.Finished _ refl refl refl refl ((omega arith, w.accepted ∙ t), refl)
