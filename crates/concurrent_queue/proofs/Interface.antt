-- What a layer above may use of the queue: what cells show, where messages lie, how far an end is, and what a lone call did.
use Rattle.std.proofs.Common.{◌≡◌, ℕ, zero, suc, ◌+◌, ◌<◌, ◌≤◌, ◌==◌, Bool, true, false, not, List, [], ◌∷◌, ◌++◌, length, None, Some, Ok, Err, refl, sym, ap, ◌∙◌, subst, arith}
use Rattle.concurrent_queue.specs.Contents.{Contents}
use Rattle.concurrent_queue.specs.Queue.{Queue, Stage, trying, displaced, appended, taken, read, measured, Phase, asked, is_filled, is_full_at, IsOpen, IsShut, IsOldest, marked, after, is_displaced, ContinuesPush, ContinuesForce, ContinuesPop, ContinuesBy, Continues, AnswersPush, AnswersForce, AnswersPop, AnswersTo, Answers}
use Rattle.concurrent_queue.specs.Step.{ActiveQueueCall, seat, Fits, phases, rank, Shows, Lies, IsBrought}
use Rattle.concurrent_queue.specs.declared.call.QueueAsk.{QueueAsk}
use Rattle.concurrent_queue.specs.declared.call.QueueAsk.TheVariants as ask
use Rattle.concurrent_queue.specs.declared.call.QueueMark.{QueueMark}
use Rattle.concurrent_queue.specs.declared.call.QueueMark.TheVariants.{Nothing, Append, Take, TakeDisplaced, Replace, Close}
use Rattle.concurrent_queue.specs.declared.call.QueueReply.{QueueReply}
use Rattle.concurrent_queue.specs.declared.call.QueueReply.TheVariants as reply
use Rattle.concurrent_queue.specs.declared.error.PushError.TheVariants as push_error
use Rattle.concurrent_queue.specs.declared.error.ForcePushError.TheVariants as force_error
use Rattle.concurrent_queue.specs.declared.error.PopError.TheVariants as pop_error
use Rattle.concurrent_queue.specs.declared.queue_call.QueueCall.{QueueCall}
use Rattle.concurrent_queue.proofs.AloneFacts.{So, open_from, filled_at, so_goes}
use Rattle.concurrent_queue.proofs.Balance.{IsBalanced, fair_goes, balance}
use Rattle.concurrent_queue.proofs.Evidence.{not_zero, not_full_after}
use Rattle.concurrent_queue.proofs.FitsFacts as fits_facts

module _ {T : Type 0} where
  -- what cells and calls that mean a queue show of it
  pub shows : (c : Contents T) (q : Queue T) (seats : List (ActiveQueueCall T)) → Fits c q seats → Shows c q (phases seats)
  shows c q seats fits = fits_facts.shows c q seats fits

  -- for the blocks that were used, each message lies in the slot that the words name, or is with the call that brought it
  pub lies : (c : Contents T) (q : Queue T) (seats : List (ActiveQueueCall T)) → Fits c q seats → (chain : List ℕ) × Lies chain c q.items (IsBrought (phases seats))
  lies c q seats fits = (fits.0, fits_facts.lies fits.0 c q seats fits.1)

  -- no call needs more than 63 steps where the others are quiet
  pub ranks : (c : Contents T) (q : Queue T) (p : Phase T) (call : QueueCall T) (l r : List (ActiveQueueCall T)) → Fits c q (l ++ seat call p ∷ r) → rank c call < 64
  ranks c q p call l r fits = fits_facts.ranks c q p call l r fits

  -- ---- a call that is stepped with nobody else at work, from a queue with no call under way

  -- the messages held and the removed ones are the accepted ones, and none is on its way
  pub record IsIdle (q : Queue T) : Type 0 where
    pub balanced : length q.items + q.removed ≡ q.accepted
    pub nothing_comes : q.coming ≡ false

  -- so many steps of one call lead from there to here
  abbrev pub Leads : ℕ → Queue T → Phase T → Queue T → Phase T → Type 0
  Leads zero q0 f0 q f = (q ≡ q0) × (f ≡ f0)
  Leads (suc n) q0 f0 q f = (p : Queue T) × (g : Phase T) × (m : QueueMark) × Leads n q0 f0 p g × Continues p g m f × (q ≡ after g m p)

  -- a call that was made over the queue q0 has come this far
  abbrev pub Comes : Queue T → Queue T → Phase T → Type 0
  Comes q0 q f = (a : QueueAsk T) × (n : ℕ) × Leads n q0 (asked a) q f

  -- all that a call did which answered so
  abbrev pub did : QueueReply T → QueueMark
  did (reply.Push (Ok u)) = Append
  did (reply.Force (Ok None)) = Append
  did (reply.Force (Ok (Some d))) = Replace
  did (reply.Pop (Ok v)) = Take
  did (reply.Close true) = Close
  did _ = Nothing

  -- what a call found that answered so
  abbrev pub Finds : QueueAsk T → Queue T → QueueReply T → Type 0
  Finds (ask.Push v) q (reply.Push (Ok u)) = IsOpen q × (is_filled q ≡ false)
  Finds (ask.Push v) q (reply.Push (Err (push_error.Full w))) = IsOpen q × (is_filled q ≡ true) × (w ≡ v)
  Finds (ask.Push v) q (reply.Push (Err (push_error.Closed w))) = IsShut q × (w ≡ v)
  Finds (ask.Push v) q (reply.Push (Err (push_error.NoMemory w))) = IsOpen q × (q.capacity ≡ None) × (w ≡ v)
  Finds (ask.ForcePush v) q (reply.Force (Ok None)) = IsOpen q × (is_filled q ≡ false)
  Finds (ask.ForcePush v) q (reply.Force (Ok (Some d))) = IsOpen q × (is_filled q ≡ true) × IsOldest d q
  Finds (ask.ForcePush v) q (reply.Force (Err (force_error.Closed w))) = IsShut q × (w ≡ v)
  Finds (ask.ForcePush v) q (reply.Force (Err (force_error.NoMemory w))) = IsOpen q × (q.capacity ≡ None) × (w ≡ v)
  Finds ask.Pop q (reply.Pop (Ok v)) = IsOldest v q
  Finds ask.Pop q (reply.Pop (Err pop_error.Empty)) = IsOpen q × (q.items ≡ [])
  Finds ask.Pop q (reply.Pop (Err pop_error.Closed)) = IsShut q × (q.items ≡ [])
  Finds ask.Close q (reply.Close b) = b ≡ not q.closed
  Finds ask.IsClosed q (reply.Flag b) = b ≡ q.closed
  Finds ask.IsEmpty q (reply.Flag b) = b ≡ (length q.items == 0)
  Finds ask.IsFull q (reply.Flag b) = b ≡ is_filled q
  Finds ask.Len q (reply.Count k) = k ≡ length q.items
  Finds ask.Capacity q (reply.Cap k) = k ≡ q.capacity
  Finds _ q _ = ⊥

  -- what it found of q0, and what it leaves: q0 after all that it did
  abbrev pub Leaves : QueueAsk T → Queue T → QueueReply T → Queue T → Type 0
  Leaves a q0 x q = Finds a q0 x × (q ≡ marked a false (did x) q0)

  -- how it stands with a lone call: it has brought one message at most, and where it answers, this was its doing
  pub record Does (q0 q : Queue T) (f : Phase T) : Type 0 where
    pub most : q.accepted ≤ q0.accepted + 1
    pub capacity : q.capacity ≡ q0.capacity
    pub answer : (m : QueueMark) (x : QueueReply T) → Answers q f m x → Leaves f.ask q0 x (after f m q)

  module _ (q0 : Queue T) (idle : IsIdle q0) where
    -- ---- a message that came in for another

    abbrev InPlace : Stage T → QueueAsk T → Queue T → Type 0
    InPlace (appended (Some d)) a q = q ≡ marked a false Replace q0
    InPlace _ a q = Unit {0}

    at_next : (a : QueueAsk T) (q : Queue T) (t s : Stage T) → t ≡ s → InPlace s a q → InPlace t a q
    at_next a q t s e h = subst (λ (x : Stage T). InPlace x a q) (sym e) h

    came : (v : T) (q : Queue T) → q ≡ marked (ask.ForcePush v) false TakeDisplaced q0 → marked (ask.ForcePush v) true Append q ≡ marked (ask.ForcePush v) false Replace q0
    came v q e =
        let by_coming : Bool → Queue T = λ b. record (marked (ask.ForcePush v) false Replace q0) { coming = b } in
        ap (λ (x : Queue T). marked (ask.ForcePush v) true Append x) e ∙ ap by_coming (sym idle.nothing_comes)

    in_push : (q : Queue T) (v : T) (m : QueueMark) (s t : Stage T) → ContinuesPush q m s t → InPlace t (ask.Push v) (marked (ask.Push v) (is_displaced s) m q)
    in_push q v Nothing (trying b) t g = at_next (ask.Push v) _ t _ g tt
    in_push q v Nothing (appended None) t g = at_next (ask.Push v) _ t _ g tt
    in_push q v Append (trying b) t g = at_next (ask.Push v) _ t _ g.2 tt
    in_push q v m s t g = absurd g

    in_force : (q : Queue T) (v : T) (m : QueueMark) (s t : Stage T) → ContinuesForce q m s t → So q0 (ask.ForcePush v) s q → InPlace s (ask.ForcePush v) q → InPlace t (ask.ForcePush v) (marked (ask.ForcePush v) (is_displaced s) m q)
    in_force q v Nothing (trying b) t g so h = at_next (ask.ForcePush v) _ t _ g tt
    in_force q v Nothing (displaced d) t g so h = at_next (ask.ForcePush v) _ t _ g tt
    in_force q v Nothing (appended o) t g so h = at_next (ask.ForcePush v) _ t _ g h
    in_force q v Append (trying b) t g so h = at_next (ask.ForcePush v) _ t _ g.2 tt
    in_force q v Append (displaced d) t g so h = at_next (ask.ForcePush v) _ t _ g.2 (came v q so.2)
    in_force q v Replace (trying b) t g so h = at_next (ask.ForcePush v) _ t _ g.5 (ap (λ (x : Queue T). marked (ask.ForcePush v) false Replace x) so.0)
    in_force q v TakeDisplaced (trying b) t g so h = at_next (ask.ForcePush v) _ t _ g.5 tt
    in_force q v m s t g so h = absurd g

    in_pop : (q : Queue T) (m : QueueMark) (s t : Stage T) → ContinuesPop q m s t → InPlace t ask.Pop (marked ask.Pop (is_displaced s) m q)
    in_pop q Nothing (trying b) t g = at_next ask.Pop _ t _ g tt
    in_pop q Nothing (taken v) t g = at_next ask.Pop _ t _ g tt
    in_pop q Take (trying b) t g = at_next ask.Pop _ t _ g.2 tt
    in_pop q m s t g = absurd g

    in_place : (q : Queue T) (a : QueueAsk T) (m : QueueMark) (s t : Stage T) → ContinuesBy q a m s t → So q0 a s q → InPlace s a q → InPlace t a (marked a (is_displaced s) m q)
    in_place q (ask.Push v) m s t g so h = in_push q v m s t g
    in_place q (ask.ForcePush v) m s t g so h = in_force q v m s t g so h
    in_place q ask.Pop m s t g so h = in_pop q m s t g
    in_place q ask.IsEmpty Nothing (trying b) t g so h = at_next ask.IsEmpty _ t _ g tt
    in_place q ask.IsFull Nothing (trying b) t g so h = at_next ask.IsFull _ t _ g.0 tt
    in_place q ask.Len Nothing (trying b) t g so h = at_next ask.Len _ t _ g tt
    in_place q ask.Len Nothing (read n) t g so h = at_next ask.Len _ t _ g tt
    in_place q ask.Len Nothing (measured n k) t g so h = at_next ask.Len _ t _ g tt
    in_place q a m s t g so h = absurd g

    -- ---- the answer

    push_leaves : (q : Queue T) (v : T) (m : QueueMark) (x : QueueReply T) (s : Stage T) → AnswersPush q v m x s → So q0 (ask.Push v) s q → Leaves (ask.Push v) q0 x (marked (ask.Push v) (is_displaced s) m q)
    push_leaves q v Nothing (reply.Push (Ok u)) (appended None) h so = ((so.0, so.1), so.2)
    push_leaves q v Nothing (reply.Push (Err (push_error.Full w))) (trying b) h so =
        ((open_from b q q0 so.0 so.1 h.2, filled_at q q0 so.0 h.1, h.0), so.0)
    push_leaves q v Nothing (reply.Push (Err (push_error.Closed w))) (trying b) h so = ((subst (λ (p : Queue T). IsShut p) so.0 h.1, h.0), so.0)
    push_leaves q v Nothing (reply.Push (Err (push_error.NoMemory w))) (trying b) h so =
        ((open_from b q q0 so.0 so.1 h.2, subst (λ (p : Queue T). p.capacity ≡ None) so.0 h.1, h.0), so.0)
    push_leaves q v m x s h so = absurd h

    force_leaves : (q : Queue T) (v : T) (m : QueueMark) (x : QueueReply T) (s : Stage T) → AnswersForce q v m x s → So q0 (ask.ForcePush v) s q → InPlace s (ask.ForcePush v) q → Leaves (ask.ForcePush v) q0 x (marked (ask.ForcePush v) (is_displaced s) m q)
    force_leaves q v Nothing (reply.Force (Ok None)) (appended None) h so p = ((so.0, so.1), so.2)
    force_leaves q v Nothing (reply.Force (Ok None)) (appended (Some d)) h so p = absurd cc
    force_leaves q v Nothing (reply.Force (Ok (Some w))) (appended None) h so p = absurd cc
    force_leaves q v Nothing (reply.Force (Ok (Some w))) (appended (Some d)) h so p =
        let same : d ≡ w = cc in ((so.1.0, so.1.1, subst (λ (x : T). IsOldest x q0) same so.0), p)
    force_leaves q v Nothing (reply.Force (Err (force_error.Closed w))) (trying b) h so p = ((subst (λ (x : Queue T). IsShut x) so.0 h.1, h.0), so.0)
    force_leaves q v Nothing (reply.Force (Err (force_error.NoMemory w))) (trying b) h so p =
        ((open_from b q q0 so.0 so.1 h.2, subst (λ (x : Queue T). x.capacity ≡ None) so.0 h.1, h.0), so.0)
    force_leaves q v m x s h so p = absurd h

    pop_leaves : (q : Queue T) (m : QueueMark) (x : QueueReply T) (s : Stage T) → AnswersPop q m x s → So q0 ask.Pop s q → Leaves ask.Pop q0 x (marked ask.Pop (is_displaced s) m q)
    pop_leaves q Nothing (reply.Pop (Ok w)) (taken v) h so = (subst (λ (x : T). IsOldest x q0) (sym h) so.0, so.1)
    pop_leaves q Nothing (reply.Pop (Err pop_error.Empty)) (trying b) h so =
        ((subst (λ (x : Queue T). IsOpen x) so.0 h.0, subst (λ (x : Queue T). x.items ≡ []) so.0 h.1.0), so.0)
    pop_leaves q Nothing (reply.Pop (Err pop_error.Closed)) (trying b) h so =
        ((subst (λ (x : Queue T). IsShut x) so.0 h.0, subst (λ (x : Queue T). x.items ≡ []) so.0 h.1.0), so.0)
    pop_leaves q m x s h so = absurd h

    empty_read : (q : Queue T) (k : Bool) (n : ℕ) → IsBalanced q → AnswersTo q ask.IsEmpty Nothing (reply.Flag k) (read n) → So q0 ask.IsEmpty (read n) q → k ≡ (length q0.items == 0)
    empty_read q true n l h so = sym (rw h refl) ∙ ap (λ (y : Queue T). length y.items == 0) so.0
    empty_read q false n l h so =
        let l' : length q.items + q.removed ≡ q.accepted = l in
        let e = ap (λ (y : Queue T). y.removed) so.0 in let n' : n ≡ q0.removed = so.1 in let h' : n < q.accepted = h in
        sym (not_zero (length q.items) (omega arith)) ∙ ap (λ (y : Queue T). length y.items == 0) so.0

    full_read : (q : Queue T) (k : Bool) (n : ℕ) → IsBalanced q → AnswersTo q ask.IsFull Nothing (reply.Flag k) (read n) → So q0 ask.IsFull (read n) q → k ≡ is_filled q0
    full_read q true n l h so = sym h ∙ ap (λ (y : Queue T). is_filled y) so.0
    full_read q false n l h so =
        let l' : length q.items + q.removed ≡ q.accepted = l in
        let e = ap (λ (y : Queue T). y.accepted) so.0 in let n' : n ≡ q0.accepted = so.1 in let h' : n < q.removed + h.0 = h.2 in
        let few : is_full_at q.capacity q.items ≡ false = not_full_after q.items q.capacity (λ i f. (let same : Some i ≡ Some h.0 = sym f ∙ h.1 in let same' : i ≡ h.0 = cc in omega arith)) in
        sym few ∙ ap (λ (y : Queue T). is_filled y) so.0

    leaves : (q : Queue T) (a : QueueAsk T) (m : QueueMark) (x : QueueReply T) (s : Stage T) → IsBalanced q → AnswersTo q a m x s → So q0 a s q → InPlace s a q → Leaves a q0 x (marked a (is_displaced s) m q)
    leaves q (ask.Push v) m x s l h so p = push_leaves q v m x s h so
    leaves q (ask.ForcePush v) m x s l h so p = force_leaves q v m x s h so p
    leaves q ask.Pop m x s l h so p = pop_leaves q m x s h so
    leaves q ask.Close Close (reply.Close true) (trying b) l h so p =
        let found = subst (λ (y : Queue T). IsOpen y) so.0 h in (ap not (sym found), ap (λ (y : Queue T). marked ask.Close false Close y) so.0)
    leaves q ask.Close Nothing (reply.Close false) (trying b) l h so p = let found = subst (λ (y : Queue T). IsShut y) so.0 h in (ap not (sym found), so.0)
    leaves q ask.IsClosed Nothing (reply.Flag k) (trying b) l h so p = (sym h ∙ ap (λ (y : Queue T). y.closed) so.0, so.0)
    leaves q ask.IsEmpty Nothing (reply.Flag k) (trying b) l h so p = (sym h ∙ ap (λ (y : Queue T). length y.items == 0) so.0, so.0)
    leaves q ask.IsEmpty Nothing (reply.Flag k) (read n) l h so p = (empty_read q k n l h so, so.0)
    leaves q ask.IsFull Nothing (reply.Flag k) (trying b) l h so p = (sym h ∙ ap (λ (y : Queue T). is_filled y) so.0, so.0)
    leaves q ask.IsFull Nothing (reply.Flag k) (read n) l h so p = (full_read q k n l h so, so.0)
    leaves q ask.Len Nothing (reply.Count k) (trying b) l h so p = (sym h ∙ ap (λ (y : Queue T). length y.items) so.0, so.0)
    leaves q ask.Len Nothing (reply.Count k) (measured n j) l h so p = (h.0 ∙ so.1, so.0)
    leaves q ask.Capacity Nothing (reply.Cap k) (trying b) l h so p = (h ∙ ap (λ (y : Queue T). y.capacity) so.0, so.0)
    leaves q a m x s l h so p = absurd h

    -- ---- how far it has come

    counts : (a : QueueAsk T) (s : Stage T) (q : Queue T) → So q0 a s q → (q.accepted ≤ q0.accepted + 1) × (q.capacity ≡ q0.capacity)
    counts a (trying b) q so = let n : q.accepted ≡ q0.accepted = ap (λ (x : Queue T). x.accepted) so.0 in (omega (arith, n), ap (λ (x : Queue T). x.capacity) so.0)
    counts a (displaced d) q so = let n : q.accepted ≡ q0.accepted = ap (λ (x : Queue T). x.accepted) so.2 in (omega (arith, n), ap (λ (x : Queue T). x.capacity) so.2)
    counts a (appended None) q so = let n : q.accepted ≡ q0.accepted + 1 = ap (λ (x : Queue T). x.accepted) so.2 in (omega (arith, n), ap (λ (x : Queue T). x.capacity) so.2)
    counts a (appended (Some d)) q so = let n = so.5 in (omega (arith, n), so.4)
    counts a (taken v) q so = let n : q.accepted ≡ q0.accepted = ap (λ (x : Queue T). x.accepted) so.1 in (omega (arith, n), ap (λ (x : Queue T). x.capacity) so.1)
    counts a (read n) q so = let n : q.accepted ≡ q0.accepted = ap (λ (x : Queue T). x.accepted) so.0 in (omega (arith, n), ap (λ (x : Queue T). x.capacity) so.0)
    counts a (measured n k) q so = let n : q.accepted ≡ q0.accepted = ap (λ (x : Queue T). x.accepted) so.0 in (omega (arith, n), ap (λ (x : Queue T). x.capacity) so.0)

    abbrev Stands : Queue T → QueueAsk T → Stage T → Type 0
    Stands q a s = So q0 a s q × InPlace s a q × IsBalanced q

    goes_so : (p : Queue T) (g : Phase T) (m : QueueMark) (f : Phase T) → Continues p g m f → Stands p g.ask g.stage → Stands (after g m p) f.ask f.stage
    goes_so p g m f goes h =
        subst (λ (a : QueueAsk T). Stands (after g m p) a f.stage) (sym goes.0) (
          so_goes q0 p g.ask m g.stage f.stage goes.1 h.0,
          in_place p g.ask m g.stage f.stage goes.1 h.0 h.1,
          balance p g m (fair_goes p g m f goes) h.2,
        )

    leads_so : (n : ℕ) (a : QueueAsk T) (q : Queue T) (f : Phase T) → Leads n q0 (asked a) q f → Stands q f.ask f.stage
    leads_so zero a q f h =
        subst (λ (x : Queue T). Stands x f.ask f.stage) (sym h.0) (subst (λ (g : Phase T). Stands q0 g.ask g.stage) (sym h.1) ((refl, λ e. absurd cc), tt, idle.balanced))
    leads_so (suc n) a q f (p, g, m, before, goes, e) =
        subst (λ (x : Queue T). Stands x f.ask f.stage) (sym e) (goes_so p g m f goes (leads_so n a p g before))

  -- a lone call over a queue with no call under way does just this
  pub does : (q0 q : Queue T) (f : Phase T) → IsIdle q0 → Comes q0 q f → Does q0 q f
  does q0 q f idle (a, n, leads) =
      let h = leads_so q0 idle n a q f leads in
      let c = counts q0 idle f.ask f.stage q h.0 in
      record {
        most = c.0;
        capacity = c.1;
        answer = λ m x ans. leaves q0 idle q f.ask m x f.stage h.2 ans h.0 h.1;
      }
