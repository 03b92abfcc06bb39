-- What is known of a call under way by how far it has come, and that its reply is one that it may give.
use Rattle.std.proofs.Common.{◌≡◌, ℕ, zero, suc, ◌+◌, ◌<◌, ◌≤◌, Bool, true, false, List, [], ◌∷◌, ◌++◌, length, drop, Option, None, Some, Ok, Err, if◌then◌else◌, ◌==◌, ◌⊎◌, ⊎_elim, inl, inr, refl, sym, ap, ◌∙◌, subst, arith, length-append}
use Rattle.std.proofs.lemmas.Bool.Decides.{nat_tests}
use Rattle.concurrent_queue.specs.Queue.{Queue, Stage, trying, displaced, appended, taken, read, measured, is_filled, is_full_at, IsOpen, IsOldest, message, marked, is_displaced, may_refuse_at, seen_after, ContinuesPush, ContinuesForce, ContinuesPop, ContinuesBy, AnswersPush, AnswersForce, AnswersPop, AnswersClose, AnswersShut, AnswersEmpty, AnswersFull, AnswersLen, AnswersCapacity, AnswersTo}
use Rattle.concurrent_queue.specs.Rows.{MarkedStep, Once, Appended, Took, Replaced, MadeRoom, Displaced, MayAnswer, IsBegun, is_empty}
use Rattle.concurrent_queue.specs.Scene.{makes_room, has_brought, with_mark}
use Rattle.concurrent_queue.specs.Step.{IsQuiet, HasBrought}
use Rattle.concurrent_queue.specs.declared.call.QueueAsk.{QueueAsk}
use Rattle.concurrent_queue.specs.declared.call.QueueAsk.TheVariants as ask
use Rattle.concurrent_queue.specs.declared.call.QueueMark.{QueueMark}
use Rattle.concurrent_queue.specs.declared.call.QueueMark.TheVariants.{Nothing, Append, Take, TakeDisplaced, Replace, Close}
use Rattle.concurrent_queue.specs.declared.call.QueueReply.{QueueReply}
use Rattle.concurrent_queue.specs.declared.call.QueueReply.TheVariants as reply
use Rattle.concurrent_queue.specs.declared.error.PushError.TheVariants as push_error
use Rattle.concurrent_queue.specs.declared.error.ForcePushError.TheVariants as force_error
use Rattle.concurrent_queue.specs.declared.error.PopError.TheVariants as pop_error
use Rattle.concurrent_queue.proofs.Balance.{IsBalanced, IsFair}

pub eq_of : (m n : ℕ) → (m == n) ≡ true → m ≡ n
eq_of m n e = grind (arith, nat_tests)

pub ne_of : (m n : ℕ) → (m ≡ n → ⊥) → (m == n) ≡ false
ne_of m n e = grind (arith, nat_tests)

pub not_zero : (m : ℕ) → 0 < m → (m == 0) ≡ false
not_zero m h = grind (arith, nat_tests)

module _ {T : Type 0} where
  abbrev pub IsStuck : Queue T → Type 0
  IsStuck m = IsOpen m × (is_filled m ≡ true)

  -- a queue of this capacity was open and might refuse
  abbrev pub Refuses : Option ℕ → Queue T → Type 0
  Refuses None m = IsOpen m × (m.capacity ≡ None)
  Refuses (Some n) m = IsStuck m

  -- a count that a question read still says something
  abbrev pub ReadSo : Queue T → QueueAsk T → ℕ → List (Queue T) → Type 0
  ReadSo now ask.IsEmpty n seen = Once (λ m. is_empty m ≡ false) seen ⊎ (now.accepted ≤ n)
  ReadSo now ask.IsFull n seen =
      (now.capacity ≡ Some 1 → ⊥) × (Once (λ m. is_filled m ≡ false) seen ⊎ ((cap : ℕ) → now.capacity ≡ Some cap → now.removed + cap ≤ n))
  ReadSo now _ n seen = Unit {0}

  abbrev pub Evidence : Queue T → QueueAsk T → Stage T → List (MarkedStep T) → List (Queue T) → Type 0
  Evidence now a (trying b) ds seen = (ds ≡ []) × (b ≡ true → Once (λ m. Refuses now.capacity m) seen)
  Evidence now a (displaced d) ds seen = MadeRoom ds d
  Evidence now a (appended None) ds seen = Appended ds
  Evidence now a (appended (Some d)) ds seen = Replaced ds d ⊎ Displaced ds d
  Evidence now a (taken v) ds seen = Took ds v
  Evidence now a (read n) ds seen = (ds ≡ []) × ReadSo now a n seen
  Evidence now a (measured n k) ds seen = (ds ≡ []) × Once (λ m. length m.items ≡ k) seen

  -- ---- a call with no mark is quiet; one at `appended` has brought its message

  pub quiet_of : (q : Queue T) (a : QueueAsk T) (s : Stage T) (ds : List (MarkedStep T)) (seen : List (Queue T)) → Evidence q a s ds seen → ds ≡ [] → IsQuiet s
  quiet_of q a (trying b) ds seen ev e = tt
  quiet_of q a (displaced d) ds seen ev e = absurd (subst (λ (xs : List (MarkedStep T)). MadeRoom xs d) e ev)
  quiet_of q a (appended None) ds seen ev e = absurd (subst (λ (xs : List (MarkedStep T)). Appended xs) e ev)
  quiet_of q a (appended (Some d)) ds seen ev e = ⊎_elim (λ h. absurd (subst (λ (xs : List (MarkedStep T)). Replaced xs d) e h)) (λ h. absurd (subst (λ (xs : List (MarkedStep T)). Displaced xs d) e h)) ev
  quiet_of q a (taken v) ds seen ev e = absurd (subst (λ (xs : List (MarkedStep T)). Took xs v) e ev)
  quiet_of q a (read n) ds seen ev e = tt
  quiet_of q a (measured n k) ds seen ev e = tt

  brought_append : (ds : List (MarkedStep T)) → Appended ds → has_brought ds ≡ true
  brought_append [] h = absurd h
  brought_append (d ∷ []) h = rw h.0 refl
  brought_append (d ∷ e ∷ ds) h = absurd h

  brought_replaced : (ds : List (MarkedStep T)) (v : T) → Replaced ds v → has_brought ds ≡ true
  brought_replaced [] v h = absurd h
  brought_replaced (d ∷ []) v h = rw h.0 refl
  brought_replaced (d ∷ e ∷ ds) v h = absurd h

  brought_displaced : (ds : List (MarkedStep T)) (v : T) → Displaced ds v → has_brought ds ≡ true
  brought_displaced [] v h = absurd h
  brought_displaced (d ∷ []) v h = absurd h
  brought_displaced (d ∷ e ∷ []) v h = rw (h.0.0, h.1) refl
  brought_displaced (d ∷ e ∷ f ∷ ds) v h = absurd h

  pub brought_of : (q : Queue T) (a : QueueAsk T) (s : Stage T) (ds : List (MarkedStep T)) (seen : List (Queue T)) → Evidence q a s ds seen → HasBrought s → has_brought ds ≡ true
  brought_of q a (trying b) ds seen ev h = absurd h
  brought_of q a (displaced d) ds seen ev h = absurd h
  brought_of q a (appended None) ds seen ev h = brought_append ds ev
  brought_of q a (appended (Some d)) ds seen ev h = ⊎_elim (λ x. brought_replaced ds d x) (λ x. brought_displaced ds d x) ev
  brought_of q a (taken v) ds seen ev h = absurd h
  brought_of q a (read n) ds seen ev h = absurd h
  brought_of q a (measured n k) ds seen ev h = absurd h

  -- ---- moments

  refuses_of : (q : Queue T) (cap : Option ℕ) (b : Bool) → q.capacity ≡ cap → q.closed ≡ b → (if b then false else may_refuse_at cap q.items) ≡ true → Refuses cap q
  refuses_of q None false e f h = (f, e)
  refuses_of q (Some n) false e f h = (f, ap (λ (x : Option ℕ). is_full_at x q.items) e ∙ h)
  refuses_of q cap true e f h = absurd cc

  pub refusal_seen : (b : Bool) (q : Queue T) (seen : List (Queue T)) → (b ≡ true → Once (λ m. Refuses q.capacity m) seen) → seen_after b q ≡ true
      → Once (λ m. Refuses q.capacity m) (q ∷ seen)
  refusal_seen true q seen f h = inr (f refl)
  refusal_seen false q seen f h = inl (refuses_of q q.capacity q.closed refl refl h)

  full_once : (cap : Option ℕ) (xs : List T) (seen : List (Queue T)) → is_full_at cap xs ≡ true → Once (λ m. Refuses cap m) seen → Once IsStuck seen
  full_once None xs seen e h = absurd cc
  full_once (Some n) xs seen e h = h

  unbounded_once : (cap : Option ℕ) (seen : List (Queue T)) → cap ≡ None → Once (λ m. Refuses cap m) seen → Once (λ m. IsOpen m × (m.capacity ≡ None)) seen
  unbounded_once None seen e h = h
  unbounded_once (Some n) seen e h = absurd cc

  was_open : (cap : Option ℕ) (m : Queue T) → Refuses cap m → IsOpen m
  was_open None m h = h.0
  was_open (Some n) m h = h.0

  open_once : (cap : Option ℕ) (seen : List (Queue T)) → Once (λ m. Refuses cap m) seen → Once IsOpen seen
  open_once cap [] h = absurd h
  open_once cap (q ∷ qs) (inl h) = inl (was_open cap q h)
  open_once cap (q ∷ qs) (inr h) = inr (open_once cap qs h)

  -- ---- a step that goes on

  -- what a step leaves of a call: the queue is changed by its marks alone, it has done a beginning, and it is known
  pub record Gone (q : Queue T) (a : QueueAsk T) (m : QueueMark) (s t : Stage T) (ds : List (MarkedStep T)) (seen : List (Queue T)) : Type 0 where
    pub same : marked a (is_displaced s) m q ≡ marked a (makes_room ds) m q
    pub begun : IsBegun a (with_mark ds m q seen)
    pub evidence : Evidence (marked a (is_displaced s) m q) a t (with_mark ds m q seen) (marked a (is_displaced s) m q ∷ seen)

  at_stage : (q : Queue T) (a : QueueAsk T) (m : QueueMark) (s t u : Stage T) (ds : List (MarkedStep T)) (seen : List (Queue T)) → t ≡ u → Gone q a m s u ds seen → Gone q a m s t ds seen
  at_stage q a m s t u ds seen e h = subst (λ (x : Stage T). Gone q a m s x ds seen) (sym e) h

  at_deeds : (q : Queue T) (a : QueueAsk T) (m : QueueMark) (s t : Stage T) (ds : List (MarkedStep T)) (seen : List (Queue T)) → ds ≡ [] → Gone q a m s t [] seen → Gone q a m s t ds seen
  at_deeds q a m s t ds seen e h = subst (λ (x : List (MarkedStep T)). Gone q a m s t x seen) (sym e) h

  room_made : (ds : List (MarkedStep T)) (d : T) → MadeRoom ds d → makes_room ds ≡ true
  room_made [] d h = absurd h
  room_made (x ∷ []) d h = rw h.0 refl
  room_made (x ∷ y ∷ ds) d h = absurd h

  displaced_now : (ds : List (MarkedStep T)) (d : T) (e : MarkedStep T) → MadeRoom ds d → e.mark ≡ Append → is_filled e.before ≡ false → Displaced (ds ++ e ∷ []) d
  displaced_now [] d e h m f = absurd h
  displaced_now (x ∷ []) d e h m f = (h, m, f)
  displaced_now (x ∷ y ∷ ds) d e h m f = absurd h

  module _ (q : Queue T) (seen : List (Queue T)) where
    goes_push : (v : T) (m : QueueMark) (s t : Stage T) (ds : List (MarkedStep T)) → ContinuesPush q m s t → Evidence q (ask.Push v) s ds seen → Gone q (ask.Push v) m s t ds seen
    goes_push v Nothing (trying b) t ds g ev =
        at_stage q _ _ _ t _ ds seen g (record { same = refl; begun = inl ev.0; evidence = (ev.0, λ e. refusal_seen b q seen ev.1 e) })
    goes_push v Nothing (appended None) t ds g ev =
        at_stage q _ _ _ t _ ds seen g (record { same = refl; begun = inr ev; evidence = ev })
    goes_push v Append (trying b) t ds g ev =
        at_stage q _ _ _ t _ ds seen g.2 (at_deeds q _ _ _ _ ds seen ev.0 (record { same = refl; begun = inr (refl, g.0, g.1); evidence = (refl, g.0, g.1) }))
    goes_push v m s t ds g ev = absurd g

    goes_force : (v : T) (m : QueueMark) (s t : Stage T) (ds : List (MarkedStep T)) → ContinuesForce q m s t → Evidence q (ask.ForcePush v) s ds seen → Gone q (ask.ForcePush v) m s t ds seen
    goes_force v Nothing (trying b) t ds g ev =
        at_stage q _ _ _ t _ ds seen g (record { same = refl; begun = inl ev.0; evidence = (ev.0, λ e. refusal_seen b q seen ev.1 e) })
    goes_force v Nothing (displaced d) t ds g ev =
        at_stage q _ _ _ t _ ds seen g (record { same = refl; begun = inr (inr (inr (inl (d, ev)))); evidence = ev })
    goes_force v Nothing (appended None) t ds g ev =
        at_stage q _ _ _ t _ ds seen g (record { same = refl; begun = inr (inl ev); evidence = ev })
    goes_force v Nothing (appended (Some d)) t ds g ev =
        at_stage q _ _ _ t _ ds seen g (record { same = refl; begun = inr (inr (⊎_elim (λ h. inl (d, h)) (λ h. inr (inr (d, h))) ev)); evidence = ev })
    goes_force v Append (trying b) t ds g ev =
        at_stage q _ _ _ t _ ds seen g.2 (at_deeds q _ _ _ _ ds seen ev.0 (record { same = refl; begun = inr (inl (refl, g.0, g.1)); evidence = (refl, g.0, g.1) }))
    goes_force v Append (displaced d) t ds g ev =
        at_stage q _ _ _ t _ ds seen g.2
        (record {
          same = ap (λ (b : Bool). marked (ask.ForcePush v) b Append q) (sym (room_made ds d ev));
          begun = inr (inr (inr (inr (d, displaced_now ds d _ ev refl g.1))));
          evidence = inr (displaced_now ds d _ ev refl g.1);
        })
    goes_force v Replace (trying b) t ds g ev =
        at_stage q _ _ _ t _ ds seen g.5 (at_deeds q _ _ _ _ ds seen ev.0
        (record { same = refl; begun = inr (inr (inl (g.0, (refl, g.2, g.3, g.1, g.4)))); evidence = inl (refl, g.2, g.3, g.1, g.4) }))
    goes_force v TakeDisplaced (trying b) t ds g ev =
        let once = open_once q.capacity (q ∷ seen) (refusal_seen b q seen ev.1 g.2) in
        at_stage q _ _ _ t _ ds seen g.5 (at_deeds q _ _ _ _ ds seen ev.0
        (record { same = refl; begun = inr (inr (inr (inl (g.0, (refl, g.3, g.4, g.1, once, g.6))))); evidence = (refl, g.3, g.4, g.1, once, g.6) }))
    goes_force v m s t ds g ev = absurd g

    goes_pop : (m : QueueMark) (s t : Stage T) (ds : List (MarkedStep T)) → ContinuesPop q m s t → Evidence q ask.Pop s ds seen → Gone q ask.Pop m s t ds seen
    goes_pop Nothing (trying b) t ds g ev =
        at_stage q _ _ _ t _ ds seen g (record { same = refl; begun = inl ev.0; evidence = (ev.0, λ e. refusal_seen b q seen ev.1 e) })
    goes_pop Nothing (taken v) t ds g ev =
        at_stage q _ _ _ t _ ds seen g (record { same = refl; begun = inr (v, ev); evidence = ev })
    goes_pop Take (trying b) t ds g ev =
        at_stage q _ _ _ t _ ds seen g.2 (at_deeds q _ _ _ _ ds seen ev.0 (record { same = refl; begun = inr (g.0, (refl, g.1)); evidence = (refl, g.1) }))
    goes_pop m s t ds g ev = absurd g

    empty_or_not : (n : ℕ) → n ≡ length q.items → IsBalanced q → Once (λ m. is_empty m ≡ false) (q ∷ seen) ⊎ (q.accepted ≤ q.removed)
    empty_or_not zero e h = let h' : length q.items + q.removed ≡ q.accepted = h in inr (omega arith)
    empty_or_not (suc n) e h = inl (inl (not_zero (length q.items) (omega arith)))

    goes_empty : (m : QueueMark) (s t : Stage T) (ds : List (MarkedStep T)) → ContinuesBy q ask.IsEmpty m s t → IsBalanced q → Evidence q ask.IsEmpty s ds seen → Gone q ask.IsEmpty m s t ds seen
    goes_empty Nothing (trying b) t ds g h ev =
        at_stage q _ _ _ t _ ds seen g (record { same = refl; begun = ev.0; evidence = (ev.0, empty_or_not (length q.items) refl h) })
    goes_empty m s t ds g h ev = absurd g

    full_or_not : (b : Bool) → b ≡ is_filled q → IsBalanced q → Once (λ m. is_filled m ≡ false) (q ∷ seen) ⊎ ((cap : ℕ) → q.capacity ≡ Some cap → q.removed + cap ≤ q.accepted)
    full_or_not false e h = inl (inl (sym e))
    full_or_not true e h = inr (λ cap f. (let h' : length q.items + q.removed ≡ q.accepted = h in let k = filled_length cap f (sym e) in omega arith))
      where
        filled_length : (cap : ℕ) → q.capacity ≡ Some cap → is_filled q ≡ true → length q.items ≡ cap
        filled_length cap f g = eq_of (length q.items) cap (subst (λ (c : Option ℕ). is_full_at c q.items ≡ true) f g)

    goes_full : (m : QueueMark) (s t : Stage T) (ds : List (MarkedStep T)) → ContinuesBy q ask.IsFull m s t → IsBalanced q → Evidence q ask.IsFull s ds seen → Gone q ask.IsFull m s t ds seen
    goes_full Nothing (trying b) t ds g h ev =
        at_stage q _ _ _ t _ ds seen g.0 (record { same = refl; begun = ev.0; evidence = (ev.0, (g.1, full_or_not (is_filled q) refl h)) })
    goes_full m s t ds g h ev = absurd g

    goes_len : (m : QueueMark) (s t : Stage T) (ds : List (MarkedStep T)) → ContinuesBy q ask.Len m s t → Evidence q ask.Len s ds seen → Gone q ask.Len m s t ds seen
    goes_len Nothing (trying b) t ds g ev = at_stage q _ _ _ t _ ds seen g (record { same = refl; begun = ev.0; evidence = (ev.0, tt) })
    goes_len Nothing (read n) t ds g ev = at_stage q _ _ _ t _ ds seen g (record { same = refl; begun = ev.0; evidence = (ev.0, inl refl) })
    goes_len Nothing (measured n k) t ds g ev = at_stage q _ _ _ t _ ds seen g (record { same = refl; begun = ev.0; evidence = (ev.0, λ e. absurd cc) })
    goes_len m s t ds g ev = absurd g

    pub goes_known : (a : QueueAsk T) (m : QueueMark) (s t : Stage T) (ds : List (MarkedStep T)) → ContinuesBy q a m s t → IsBalanced q → Evidence q a s ds seen → Gone q a m s t ds seen
    goes_known (ask.Push v) m s t ds g h ev = goes_push v m s t ds g ev
    goes_known (ask.ForcePush v) m s t ds g h ev = goes_force v m s t ds g ev
    goes_known ask.Pop m s t ds g h ev = goes_pop m s t ds g ev
    goes_known ask.Close m s t ds g h ev = absurd g
    goes_known ask.IsClosed m s t ds g h ev = absurd g
    goes_known ask.IsEmpty m s t ds g h ev = goes_empty m s t ds g h ev
    goes_known ask.IsFull m s t ds g h ev = goes_full m s t ds g h ev
    goes_known ask.Len m s t ds g h ev = goes_len m s t ds g ev
    goes_known ask.Capacity m s t ds g h ev = absurd g

    -- ---- a step that ends its call

    abbrev Given : QueueAsk T → QueueMark → Stage T → List (MarkedStep T) → QueueReply T → Type 0
    Given a m s ds r = MayAnswer a (with_mark ds m q seen) (marked a (is_displaced s) m q ∷ seen) r

    answers_push : (v : T) (m : QueueMark) (r : QueueReply T) (s : Stage T) (ds : List (MarkedStep T)) → AnswersPush q v m r s → Evidence q (ask.Push v) s ds seen → Given (ask.Push v) m s ds r
    answers_push v Nothing (reply.Push (Ok u)) (appended None) ds h ev = ev
    answers_push v Nothing (reply.Push (Err (push_error.Full w))) (trying b) ds h ev = (h.0, ev.0, full_once q.capacity q.items (q ∷ seen) h.1 (refusal_seen b q seen ev.1 h.2))
    answers_push v Nothing (reply.Push (Err (push_error.Closed w))) (trying b) ds h ev = (h.0, ev.0, inl h.1)
    answers_push v Nothing (reply.Push (Err (push_error.NoMemory w))) (trying b) ds h ev = (h.0, ev.0, unbounded_once q.capacity (q ∷ seen) h.1 (refusal_seen b q seen ev.1 h.2))
    answers_push v m r s ds h ev = absurd h

    answers_force : (v : T) (m : QueueMark) (r : QueueReply T) (s : Stage T) (ds : List (MarkedStep T)) → AnswersForce q v m r s → Evidence q (ask.ForcePush v) s ds seen → Given (ask.ForcePush v) m s ds r
    answers_force v Nothing (reply.Force (Ok None)) (appended None) ds h ev = ev
    answers_force v Nothing (reply.Force (Ok None)) (appended (Some d)) ds h ev = absurd cc
    answers_force v Nothing (reply.Force (Ok (Some w))) (appended None) ds h ev = absurd cc
    answers_force v Nothing (reply.Force (Ok (Some w))) (appended (Some d)) ds h ev =
        let same : d ≡ w = cc in subst (λ (x : T). Replaced ds x ⊎ Displaced ds x) same ev
    answers_force v Nothing (reply.Force (Err (force_error.Closed w))) (trying b) ds h ev = (h.0, ev.0, inl h.1)
    answers_force v Nothing (reply.Force (Err (force_error.NoMemory w))) (trying b) ds h ev = (h.0, ev.0, unbounded_once q.capacity (q ∷ seen) h.1 (refusal_seen b q seen ev.1 h.2))
    answers_force v m r s ds h ev = absurd h

    answers_pop : (m : QueueMark) (r : QueueReply T) (s : Stage T) (ds : List (MarkedStep T)) → AnswersPop q m r s → Evidence q ask.Pop s ds seen → Given ask.Pop m s ds r
    answers_pop Nothing (reply.Pop (Ok w)) (taken v) ds h ev = subst (λ (x : T). Took ds x) (sym h) ev
    answers_pop Nothing (reply.Pop (Err pop_error.Empty)) (trying b) ds h ev = (ev.0, inl h)
    answers_pop Nothing (reply.Pop (Err pop_error.Closed)) (trying b) ds h ev = (ev.0, inl h)
    answers_pop m r s ds h ev = absurd h

    answers_close : (m : QueueMark) (r : QueueReply T) (s : Stage T) (ds : List (MarkedStep T)) → AnswersClose q m r s → Evidence q ask.Close s ds seen → Given ask.Close m s ds r
    answers_close Close (reply.Close true) (trying b) ds h ev =
        subst (λ (xs : List (MarkedStep T)). MayAnswer ask.Close (with_mark xs Close q seen) (marked ask.Close false Close q ∷ seen) (reply.Close true)) (sym ev.0) (refl, h)
    answers_close Nothing (reply.Close false) (trying b) ds h ev = (ev.0, inl h)
    answers_close m r s ds h ev = absurd h

    answers_shut : (m : QueueMark) (r : QueueReply T) (s : Stage T) (ds : List (MarkedStep T)) → AnswersShut q m r s → Evidence q ask.IsClosed s ds seen → Given ask.IsClosed m s ds r
    answers_shut Nothing (reply.Flag b) (trying seen) ds h ev = (ev.0, inl h)
    answers_shut m r s ds h ev = absurd h

    answers_empty : (m : QueueMark) (r : QueueReply T) (s : Stage T) (ds : List (MarkedStep T)) → AnswersEmpty q m r s → Evidence q ask.IsEmpty s ds seen → Given ask.IsEmpty m s ds r
    answers_empty Nothing (reply.Flag b) (trying seen) ds h ev = (ev.0, inl h)
    answers_empty Nothing (reply.Flag true) (read n) ds h ev = (ev.0, inl (rw h refl))
    answers_empty Nothing (reply.Flag false) (read n) ds h ev = (ev.0, ⊎_elim (λ x. inr x) (λ x. absurd (omega arith)) ev.1)
    answers_empty m r s ds h ev = absurd h

    answers_full : (m : QueueMark) (r : QueueReply T) (s : Stage T) (ds : List (MarkedStep T)) → AnswersFull q m r s → Evidence q ask.IsFull s ds seen → Given ask.IsFull m s ds r
    answers_full Nothing (reply.Flag b) (trying seen) ds h ev = (ev.0, inl h)
    answers_full Nothing (reply.Flag true) (read n) ds h ev = (ev.0, inl h)
    answers_full Nothing (reply.Flag false) (read n) ds h ev = (ev.0, ⊎_elim (λ x. inr x) (λ x. absurd (let k = x h.0 h.1 in let l = h.2 in omega arith)) ev.1.1)
    answers_full m r s ds h ev = absurd h

    answers_len : (m : QueueMark) (r : QueueReply T) (s : Stage T) (ds : List (MarkedStep T)) → AnswersLen q m r s → Evidence q ask.Len s ds seen → Given ask.Len m s ds r
    answers_len Nothing (reply.Count n) (trying b) ds h ev = (ev.0, inl h)
    answers_len Nothing (reply.Count n) (measured k l) ds h ev = (ev.0, inr (subst (λ (x : ℕ). Once (λ m. length m.items ≡ x) seen) (sym h.0) ev.1))
    answers_len m r s ds h ev = absurd h

    answers_capacity : (m : QueueMark) (r : QueueReply T) (s : Stage T) (ds : List (MarkedStep T)) → AnswersCapacity q m r s → Evidence q ask.Capacity s ds seen → Given ask.Capacity m s ds r
    answers_capacity Nothing (reply.Cap c) (trying b) ds h ev = (ev.0, inl (sym h))
    answers_capacity m r s ds h ev = absurd h

    pub answers_known : (a : QueueAsk T) (m : QueueMark) (r : QueueReply T) (s : Stage T) (ds : List (MarkedStep T)) → AnswersTo q a m r s → Evidence q a s ds seen → Given a m s ds r
    answers_known (ask.Push v) m r s ds h ev = answers_push v m r s ds h ev
    answers_known (ask.ForcePush v) m r s ds h ev = answers_force v m r s ds h ev
    answers_known ask.Pop m r s ds h ev = answers_pop m r s ds h ev
    answers_known ask.Close m r s ds h ev = answers_close m r s ds h ev
    answers_known ask.IsClosed m r s ds h ev = answers_shut m r s ds h ev
    answers_known ask.IsEmpty m r s ds h ev = answers_empty m r s ds h ev
    answers_known ask.IsFull m r s ds h ev = answers_full m r s ds h ev
    answers_known ask.Len m r s ds h ev = answers_len m r s ds h ev
    answers_known ask.Capacity m r s ds h ev = answers_capacity m r s ds h ev

  -- an answering step has no mark that needs the call's own marks
  pub answers_same : (q : Queue T) (a : QueueAsk T) (m : QueueMark) (b c : Bool) → (m ≡ Append → ⊥) → marked a b m q ≡ marked a c m q
  answers_same q a Nothing b c h = refl
  answers_same q a Append b c h = absurd (h refl)
  answers_same q a Take b c h = refl
  answers_same q a TakeDisplaced b c h = refl
  answers_same q a Replace b c h = refl
  answers_same q a Close b c h = refl

  -- ---- another's step

  not_empty : (xs ys : List T) → (v : T) × (ys ≡ v ∷ []) → (length (xs ++ ys) == 0) ≡ false
  not_empty xs ys (v, e) = let k = length-append xs ys in let n : length ys ≡ 1 = ap length e in not_zero (length (xs ++ ys)) (omega arith)

  appends : (q : Queue T) (a : QueueAsk T) (b : Bool) (m : QueueMark) → IsFair q a m → ((marked a b m q).accepted ≡ q.accepted) ⊎ (is_empty (marked a b m q) ≡ false)
  appends q a b Nothing f = inl refl
  appends q a b Append f = inr (not_empty q.items (message a) f)
  appends q a b Take f = inl refl
  appends q a b TakeDisplaced f = inl refl
  appends q a b Replace f = inr (not_empty (drop 1 q.items) (message a) f.0)
  appends q a b Close f = inl refl

  pub not_full_after : (xs : List T) (cap : Option ℕ) → ((n : ℕ) → cap ≡ Some n → length xs < n) → is_full_at cap xs ≡ false
  not_full_after xs None h = refl
  not_full_after xs (Some n) h = let k = h n refl in ne_of (length xs) n (λ e. (let e' : length xs ≡ n = e in omega arith))

  shorter : (q : Queue T) (v : T) → IsOldest v q → length (drop 1 q.items) + 1 ≡ length q.items
  shorter q v o =
      let n : length q.items ≡ length (v ∷ o.0) = ap length o.1 in let k : length (drop 1 q.items) ≡ length o.0 = ap (λ (xs : List T). length (drop 1 xs)) o.1 in omega arith

  removes : (q : Queue T) (a : QueueAsk T) (b : Bool) (m : QueueMark) → IsFair q a m → ((cap : ℕ) → q.capacity ≡ Some cap → length q.items ≤ cap) → (q.capacity ≡ Some 1 → ⊥)
      → ((marked a b m q).removed ≡ q.removed) ⊎ (is_filled (marked a b m q) ≡ false)
  removes q a b Nothing f h ne = inl refl
  removes q a b Append f h ne = inl refl
  removes q a b Take f h ne = inr (not_full_after (drop 1 q.items) q.capacity (λ n e. (let k = h n e in let l = shorter q f.0 f.1 in omega arith)))
  removes q a b TakeDisplaced f h ne = inr (not_full_after (drop 1 q.items) q.capacity (λ n e. (let k = h n e in let l = shorter q f.0 f.1 in omega arith)))
  removes q a b Replace f h ne = absurd (ne f.2)
  removes q a b Close f h ne = inl refl

  same_limit : (q : Queue T) (a : QueueAsk T) (b : Bool) (m : QueueMark) → (marked a b m q).capacity ≡ q.capacity
  same_limit q a b Nothing = refl
  same_limit q a b Append = refl
  same_limit q a b Take = refl
  same_limit q a b TakeDisplaced = refl
  same_limit q a b Replace = refl
  same_limit q a b Close = refl

  -- what is known of a call stays so where another steps
  module _ (q : Queue T) (k : QueueAsk T) (b : Bool) (m : QueueMark) (fair : IsFair q k m) (within : (cap : ℕ) → q.capacity ≡ Some cap → length q.items ≤ cap) where
    keeps_read : (a : QueueAsk T) (n : ℕ) (seen : List (Queue T)) → ReadSo q a n seen → ReadSo (marked k b m q) a n (marked k b m q ∷ seen)
    keeps_read ask.IsEmpty n seen (inl h) = inl (inr h)
    keeps_read ask.IsEmpty n seen (inr h) = ⊎_elim (λ e. inr (omega arith)) (λ e. inl (inl e)) (appends q k b m fair)
    keeps_read ask.IsFull n seen (ne, inl h) = (λ e. ne (sym (same_limit q k b m) ∙ e), inl (inr h))
    keeps_read ask.IsFull n seen (ne, inr h) = (
      λ e. ne (sym (same_limit q k b m) ∙ e),
      ⊎_elim (λ e. inr (λ cap f. (let g = h cap (sym (same_limit q k b m) ∙ f) in omega arith))) (λ e. inl (inl e)) (removes q k b m fair within ne),
    )
    keeps_read (ask.Push v) n seen h = tt
    keeps_read (ask.ForcePush v) n seen h = tt
    keeps_read ask.Pop n seen h = tt
    keeps_read ask.Close n seen h = tt
    keeps_read ask.IsClosed n seen h = tt
    keeps_read ask.Len n seen h = tt
    keeps_read ask.Capacity n seen h = tt

    pub evidence_keeps : (a : QueueAsk T) (s : Stage T) (ds : List (MarkedStep T)) (seen : List (Queue T)) → Evidence q a s ds seen → Evidence (marked k b m q) a s ds (marked k b m q ∷ seen)
    evidence_keeps a (trying c) ds seen ev = (ev.0, λ e. inr (subst (λ (cap : Option ℕ). Once (λ x. Refuses cap x) seen) (sym (same_limit q k b m)) (ev.1 e)))
    evidence_keeps a (displaced d) ds seen ev = ev
    evidence_keeps a (appended None) ds seen ev = ev
    evidence_keeps a (appended (Some d)) ds seen ev = ev
    evidence_keeps a (taken v) ds seen ev = ev
    evidence_keeps a (read n) ds seen ev = (ev.0, keeps_read a n seen ev.1)
    evidence_keeps a (measured n l) ds seen ev = (ev.0, inr ev.1)
