-- A call that is stepped to its end with nobody else at work, from the contract of a step alone.
use Rattle.channel_steps.proofs.solo.Words.{◌≡◌, ℕ, ◌+◌, ◌<◌, ◌≤◌, List, [], ◌∷◌, ◌++◌, append_assoc, Option, None, Some, ◌⊎◌, inl, inr, refl, sym, ap, ◌∙◌, subst, arith, Queue, Phase, asked, after, Continues, Answers, IsInRange, Fits, QueueCall, QueueAsk, QueueMark, QueueReply, shows, IsIdle, Comes, Does, does, Woken, ChannelAsk, Mark, Reply, Purpose, Returned, Stage, Trying, Working, Finished, NextStep, Tries, Works, Ends, ListStep, Parts, WaitLists, answered_next, kept_by, Channel, Effect, channel, Turned, Tried, seats, phase, Made, IsStepOver, Outcome, Alone, after_waking, answers, HasNextPosition, steps_left}
use Rattle.channel_steps.proofs.solo.TryFacts.{brought_by, brought_by_is, left_by, Found, tries_start, tries_on, tries_end}
use Rattle.channel_steps.proofs.LeftFacts.{IsAtWork, step_lessens}
use Rattle.channel_steps.proofs.StageFacts.{phase_try, phase_work, phase_end}
use Rattle.channel_steps.proofs.solo.BringFacts.{MayBring, worked_brings, brings_once}
use Rattle.channel_steps.proofs.solo.Rest.{RestTry, RestWork, RestTurn, RestStage, turn_rests}
use Rattle.channel_steps.proofs.solo.AnswerFacts.{answered_rest}
use Rattle.channel_steps.proofs.solo.WorkFacts.{Backs, work_backs}

-- ---- the sink

pub woken_on : {S W : Type 0} (wakes : S → W → S → Type 0) (s m t : S) (xs ys : List W) → Woken wakes s xs m → Woken wakes m ys t
    → Woken wakes s (xs ++ ys) t
woken_on wakes s m t [] ys h k = subst (λ z. Woken wakes z ys t) h k
woken_on wakes s m t (x ∷ xs) ys (n, w, h) k = (n, w, woken_on wakes n m t xs ys h k)

most_one : (n : ℕ) → (n ≡ 0) ⊎ (n ≡ 1) → n ≤ 1
most_one n (inl e) = omega (arith, e)
most_one n (inr e) = omega (arith, e)

module _ {T : Type 0} where
  pub still_in_range : (q p : Queue T) → HasNextPosition q → p.capacity ≡ q.capacity → p.accepted ≤ q.accepted + 1 → IsInRange p
  still_in_range q p (inl h) c e = inl (c ∙ h)
  still_in_range q p (inr h) c e = inr (omega (arith, h, e))

module _ {T W : Type 0} where
  -- ---- stages

  abbrev pub At : Queue T → Phase T → Stage (QueueCall T) T W → Queue T → Type 0
  At from f (Trying call x) now = Comes from now f
  At from f (Working w) now = now ≡ from
  At from f (Finished kept) now = ⊥

  -- the stage after a turn that does not answer
  at_turn : (turn : NextStep T W) (f : Phase T) (s : Stage (QueueCall T) T W) (q : Queue T)
      → Turned turn None (phase f s) → At q f s q
  at_turn (Tries a x) f s q h =
      let t = phase_try f (asked a) x s h.1 in subst (λ (z : Stage (QueueCall T) T W). At q f z q) (sym t.1) (subst (λ (g : Phase T). Comes q q g) (sym t.2) (tries_start q a))
  at_turn (Works v) f s q h = subst (λ (z : Stage (QueueCall T) T W). At q f z q) (sym (phase_work f v s h.1)) refl
  at_turn (Ends x kept) f s q h = absurd (let no : (let y : Option (Reply T) = None in y) ≡ Some x = h.0 in cc)

  -- where a turn answers
  pub record Answered (turn : NextStep T W) (x : Reply T) (s : Stage (Phase T) T W) : Type 0 where
    pub kept : Returned T
    pub finished : s ≡ Finished kept
    pub rests : (c : Channel T W) → RestTurn turn c (answers x kept c)

  pub answered : (turn : NextStep T W) (x : Reply T) (s : Stage (Phase T) T W) → Turned turn (Some x) s → Answered turn x s
  answered (Tries a y) x s h = absurd (let no : Some x ≡ None = h.0 in cc)
  answered (Works w) x s h = absurd (let no : Some x ≡ None = h.0 in cc)
  answered (Ends y kept) x s h =
      let e : x ≡ y = (let some : Some x ≡ Some y = h.0 in cc) in
      record { kept = kept; finished = h.1; rests = λ c. ap (λ (z : Reply T). answers z kept c) e }

  pub finished_kept : (f : Phase T) (s : Stage (QueueCall T) T W) (kept : Returned T) → phase f s ≡ Finished kept
      → (kept_by s ≡ kept) × (seats f s ≡ [])
  finished_kept f s kept e =
      let same = phase_end f kept s e in (ap (λ (z : Stage (QueueCall T) T W). kept_by z) same, ap (λ (z : Stage (QueueCall T) T W). seats f z) same)

  -- ---- how far a call has come

  -- a call that is alone at work and began over the channel c0; `from` is the queue where its try began
  pub record IsAlone (a : ChannelAsk T W) (c0 : Channel T W) (parts : Parts T W) (stage : Stage (QueueCall T) T W)
      (so_far : List W) : Type 0 where
    pub from : Queue T
    pub now : Queue T
    pub at : Phase T
    pub idle : IsIdle from
    pub fits : Fits parts.cells now (seats at stage ++ [])
    pub known : At from at stage now
    pub place : HasNextPosition c0.queue
    pub capacity : from.capacity ≡ c0.queue.capacity
    pub accepted : from.accepted ≤ c0.queue.accepted + 1
    pub unspent : MayBring (phase at stage) → from.accepted ≡ c0.queue.accepted
    pub on : (o : Outcome T W) → RestStage (phase at stage) (channel from parts) o → Alone a c0 (after_waking so_far o)

  -- a step after which a turn was taken
  pub record Advances (a : ChannelAsk T W) (c0 : Channel T W) (parts' : Parts T W) (stage' : Stage (QueueCall T) T W)
      (woken : List W) (r : Option (Reply T)) : Type 0 where
    pub queue : Queue T
    pub at : Phase T
    pub turn : NextStep T W
    pub turned : Turned turn r (phase at stage')
    pub idle : IsIdle queue
    pub fits : Fits parts'.cells queue (seats at stage' ++ [])
    pub place : HasNextPosition c0.queue
    pub capacity : queue.capacity ≡ c0.queue.capacity
    pub accepted : queue.accepted ≤ c0.queue.accepted + 1
    pub unspent : MayBring (phase at stage') → queue.accepted ≡ c0.queue.accepted
    pub on : (o : Outcome T W) → RestTurn turn (channel queue parts') o → Alone a c0 (after_waking woken o)

  pub goes_on : (a : ChannelAsk T W) (c0 : Channel T W) (parts' : Parts T W) (stage' : Stage (QueueCall T) T W) (woken : List W)
      → Advances a c0 parts' stage' woken None → IsAlone a c0 parts' stage' woken
  goes_on a c0 parts' stage' woken x =
      record {
        from = x.queue;
        now = x.queue;
        at = x.at;
        idle = x.idle;
        fits = x.fits;
        known = at_turn x.turn x.at stage' x.queue x.turned;
        place = x.place;
        capacity = x.capacity;
        accepted = x.accepted;
        unspent = x.unspent;
        on = λ o k. x.on o (turn_rests x.turn (phase x.at stage') (channel x.queue parts') o x.turned k);
      }

  -- with its queue and its phase
  pub goes_on_so : (a : ChannelAsk T W) (c0 : Channel T W) (parts' : Parts T W) (stage' : Stage (QueueCall T) T W)
      (woken : List W) (x : Advances a c0 parts' stage' woken None)
      → (y : IsAlone a c0 parts' stage' woken) × (y.now ≡ x.queue) × (y.at ≡ x.at)
  unfolding goes_on
  goes_on_so a c0 parts' stage' woken x = (goes_on a c0 parts' stage' woken x, refl, refl)

  -- the queue is as large as it was
  pub capacity_now : (a : ChannelAsk T W) (c0 : Channel T W) (parts : Parts T W) (stage : Stage (QueueCall T) T W)
      (so_far : List W) (x : IsAlone a c0 parts stage so_far) → x.now.capacity ≡ c0.queue.capacity
  capacity_now a c0 parts (Trying call y) so_far x =
      let d : Does x.from x.now x.at = does x.from x.now x.at x.idle x.known in d.capacity ∙ x.capacity
  capacity_now a c0 parts (Working w) so_far x = ap (λ (q : Queue T). q.capacity) x.known ∙ x.capacity
  capacity_now a c0 parts (Finished kept) so_far x = absurd x.known

  module _ (a : ChannelAsk T W) (c0 : Channel T W) (parts : Parts T W) (so_far names : List W) (parts' : Parts T W)
      (stage' : Stage (QueueCall T) T W) (m : Mark) (r : Option (Reply T)) where
    -- after a step a turn was taken, or the queue's call goes on, with this queue and this phase
    abbrev pub AdvancesTo : Queue T → Phase T → Type 0
    AdvancesTo q f = (y : Advances a c0 parts' stage' (so_far ++ names) r) × (y.queue ≡ q) × (y.at ≡ f)

    abbrev pub StaysAt : Queue T → Phase T → Type 0
    StaysAt q f = (y : IsAlone a c0 parts' stage' (so_far ++ names)) × (y.now ≡ q) × (y.at ≡ f)

    abbrev pub StepsTo : Queue T → Phase T → Type 0
    StepsTo q f = (StaysAt q f × (r ≡ None)) ⊎ AdvancesTo q f

    woken_more : (o : Outcome T W) → Alone a c0 (after_waking so_far (after_waking names o))
        → Alone a c0 (after_waking (so_far ++ names) o)
    woken_more o h = subst (λ (ws : List W). Alone a c0 (record o { woken = ws })) (sym (append_assoc so_far names o.woken)) h

    woken_none : names ≡ [] → (o : Outcome T W) → Alone a c0 (after_waking so_far o)
        → Alone a c0 (after_waking (so_far ++ names) o)
    woken_none e o h = woken_more o (subst (λ (ws : List W). Alone a c0 (after_waking so_far (after_waking ws o))) (sym e) h)

    -- ---- a step on a list or a count

    worked : (w : ListStep T W) (x : IsAlone a c0 parts (Working w) so_far)
        → (made : Made parts (Working w) names parts' stage' m r x.fits.0 x.now x.at [] []) → AdvancesTo made.queue made.phase_now
    worked w x made =
        let e : Effect T W = record { channel = channel made.queue parts'; mark = m; woken = names } in
        let b : Backs (channel x.now parts) w e r (phase made.phase_now stage') =
        work_backs (channel x.now parts) w e r (phase made.phase_now stage') made.moves in
        let same : made.queue ≡ x.from = b.queue ∙ x.known in
        let y : Advances a c0 parts' stage' (so_far ++ names) r =
        record {
          queue = made.queue;
          at = made.phase_now;
          turn = b.turn;
          turned = b.turned;
          idle = subst (λ (q : Queue T). IsIdle q) (sym same) x.idle;
          fits = (_, made.fits);
          place = x.place;
          capacity = ap (λ (q : Queue T). q.capacity) same ∙ x.capacity;
          accepted = (let n = ap (λ (q : Queue T). q.accepted) same in let k = x.accepted in omega (arith, n, k));
          unspent = λ h. ap (λ (q : Queue T). q.accepted) same ∙ x.unspent (worked_brings r (phase made.phase_now stage') (channel x.now parts) w e made.moves h);
          on = λ o k. woken_more o
              (x.on (after_waking names o)
              (subst (λ (q : Queue T). RestWork w (channel q parts) (after_waking names o)) x.known (b.back o k)));
        }
        in
        (y, refl, refl)

    -- ---- a step of the queue's call

    module _ (call : QueueCall T) (y : Purpose T W) (x : IsAlone a c0 parts (Trying call y) so_far)
        (made : Made parts (Trying call y) names parts' stage' m r x.fits.0 x.now x.at [] []) where
      tried : Tried (channel x.now parts) x.at y (record { channel = channel made.queue parts'; mark = m; woken = names }) r
          (phase made.phase_now stage')
      tried = made.moves

      nobody : names ≡ []
      nobody = ap (λ (e : Effect T W). e.woken) tried.effect

      same_wait_lists : parts'.wait_lists ≡ parts.wait_lists
      same_wait_lists = ap (λ (e : Effect T W). e.channel.wait_lists) tried.effect

      queue_now : made.queue ≡ after x.at tried.mark x.now
      queue_now = ap (λ (e : Effect T W). e.channel.queue) tried.effect

      unspent_yet : x.from.accepted ≡ c0.queue.accepted
      unspent_yet = x.unspent tt

      -- it goes on
      on_try : (f' : Phase T) → Continues x.now x.at tried.mark f' → (call' : QueueCall T) → stage' ≡ Trying call' y
          → made.phase_now ≡ f' → StaysAt made.queue made.phase_now
      on_try f' goes call' e same =
          let stays : IsAlone a c0 parts' stage' (so_far ++ names) =
          record {
            from = x.from;
            now = made.queue;
            at = made.phase_now;
            idle = x.idle;
            fits = (_, made.fits);
            known = subst (λ (z : Stage (QueueCall T) T W). At x.from made.phase_now z made.queue) (sym e)
                (subst (λ (g : Phase T). Comes x.from made.queue g) (sym same)
                (subst (λ (q : Queue T). Comes x.from q f') (sym queue_now)
                (tries_on x.from x.now x.at f' tried.mark goes x.known)));
            place = x.place;
            capacity = x.capacity;
            accepted = x.accepted;
            unspent = λ h. unspent_yet;
            on = λ o k.
                let k1 : RestTry made.phase_now.ask y (channel x.from parts') o =
                subst (λ (z : Stage (QueueCall T) T W). RestStage (phase made.phase_now z) (channel x.from parts') o) e k in
                let k2 : RestTry f'.ask y (channel x.from parts') o =
                subst (λ (g : Phase T). RestTry g.ask y (channel x.from parts') o) same k1 in
                let k3 : RestTry x.at.ask y (channel x.from parts') o =
                subst (λ (b : QueueAsk T). RestTry b y (channel x.from parts') o) goes.0 k2 in
                let k4 : RestTry x.at.ask y (channel x.from parts) o =
                subst (λ (z : WaitLists W). RestTry x.at.ask y (record { queue = x.from; wait_lists = z }) o) same_wait_lists k3 in
                woken_none nobody o (x.on o k4);
          }
          in
          (stays, refl, refl)

      -- it answers
      at_answer : (z : QueueReply T) → Answers x.now x.at tried.mark z
          → Turned (answered_next y z) r (phase made.phase_now stage') → AdvancesTo made.queue made.phase_now
      at_answer z answers turned =
          let advances : Advances a c0 parts' stage' (so_far ++ names) r =
          record {
            queue = made.queue;
            at = made.phase_now;
            turn = answered_next y z;
            turned = turned;
            idle = record {
              balanced = (shows parts'.cells made.queue (seats made.phase_now stage' ++ []) (_, made.fits)).balance;
              nothing_comes = found.nothing_comes;
            };
            fits = (_, made.fits);
            place = x.place;
            capacity = found.capacity ∙ x.capacity;
            accepted = (let n = found.accepted in let k = most_one (brought_by z) (brought_by_is z) in let e = unspent_yet in
                omega (arith, n, k, e));
            unspent = λ h. unspent_still h (brought_by_is z);
            on = λ o k.
                let k1 : RestTurn (answered_next y z) (record { queue = made.queue; wait_lists = parts.wait_lists }) o =
                subst (λ (b : WaitLists W). RestTurn (answered_next y z) (record { queue = made.queue; wait_lists = b }) o)
                same_wait_lists k in
                let k2 : RestTurn (answered_next y z) (record { queue = left_by x.at.ask z x.from; wait_lists = parts.wait_lists }) o =
                subst (λ (q : Queue T). RestTurn (answered_next y z) (record { queue = q; wait_lists = parts.wait_lists }) o) found.left
                k1
                in
                woken_none nobody o (x.on o (answered_rest (channel x.from parts) o x.at.ask y z found.finds k2));
          }
          in
          (advances, refl, refl)
        where
          found : Found x.from x.at.ask z made.queue
          found =
              subst (λ (q : Queue T). Found x.from x.at.ask z q) (sym queue_now)
              (tries_end x.from x.now x.at tried.mark z x.idle answers x.known)

          unspent_still : MayBring (phase made.phase_now stage') → (brought_by z ≡ 0) ⊎ (brought_by z ≡ 1)
              → made.queue.accepted ≡ c0.queue.accepted
          unspent_still h (inl none) = let n = found.accepted in let e = unspent_yet in omega (arith, n, e, none)
          unspent_still h (inr one) = absurd (brings_once r (phase made.phase_now stage') y z one turned h)

    -- ---- a step

    by_how : (call : QueueCall T) (y : Purpose T W) (x : IsAlone a c0 parts (Trying call y) so_far)
        (made : Made parts (Trying call y) names parts' stage' m r x.fits.0 x.now x.at [] []) (mark : QueueMark)
        → mark ≡ (tried call y x made).mark
        → ((f' : Phase T) × Continues x.now x.at mark f' × (r ≡ None) × (phase made.phase_now stage' ≡ Trying f' y))
        ⊎ ((z : QueueReply T) × Answers x.now x.at mark z × Turned (answered_next y z) r (phase made.phase_now stage'))
        → StepsTo made.queue made.phase_now
    by_how call y x made mark e (inl (f', goes, none, on)) =
        let t = phase_try made.phase_now f' y stage' on in
        inl (on_try call y x made f' (subst (λ (k : QueueMark). Continues x.now x.at k f') e goes) t.0 t.1 t.2, none)
    by_how call y x made mark e (inr (z, ans, turned)) =
        inr (at_answer call y x made z (subst (λ (k : QueueMark). Answers x.now x.at k z) e ans) turned)

    -- the queue and the phase after a step are those to which it leads
    pub next : (stage : Stage (QueueCall T) T W) (x : IsAlone a c0 parts stage so_far)
        → (made : Made parts stage names parts' stage' m r x.fits.0 x.now x.at [] []) → StepsTo made.queue made.phase_now
    next (Trying call y) x made = by_how call y x made (tried call y x made).mark refl (tried call y x made).how
    next (Working w) x made = inr (worked w x made)
    next (Finished kept) x made = absurd x.known

    pub accepts_one : (stage : Stage (QueueCall T) T W) (x : IsAlone a c0 parts stage so_far)
        → x.now.accepted ≤ c0.queue.accepted + 1
    accepts_one (Trying call y) x =
        let d : Does x.from x.now x.at = does x.from x.now x.at x.idle x.known in
        let n = d.most in let e = x.unspent tt in
        omega (arith, n, e)
    accepts_one (Working w) x = (let n = ap (λ (q : Queue T). q.accepted) x.known in let k = x.accepted in omega (arith, n, k))
    accepts_one (Finished kept) x = absurd x.known

    pub in_range : (stage : Stage (QueueCall T) T W) (x : IsAlone a c0 parts stage so_far) → IsInRange x.now
    in_range (Trying call y) x =
        let d : Does x.from x.now x.at = does x.from x.now x.at x.idle x.known in
        let n = d.most in let e = x.unspent tt in
        still_in_range c0.queue x.now x.place (d.capacity ∙ x.capacity) (omega (arith, n, e))
    in_range (Working w) x =
        subst (λ (q : Queue T). IsInRange q) (sym x.known) (still_in_range c0.queue x.from x.place x.capacity x.accepted)
    in_range (Finished kept) x = absurd x.known

    pub made_by : (stage : Stage (QueueCall T) T W) (x : IsAlone a c0 parts stage so_far)
        → IsStepOver parts stage names parts' stage' m r → Made parts stage names parts' stage' m r x.fits.0 x.now x.at [] []
    made_by stage x step = step x.fits.0 x.now x.at [] [] (in_range stage x) x.fits.1

    -- ---- the end is nearer

    at_work : (from now : Queue T) (f : Phase T) (stage : Stage (QueueCall T) T W) → At from f stage now → IsAtWork stage
    at_work from now f (Finished kept) h = h
    at_work from now f stage h = tt

    pub step_nearer : (stage : Stage (QueueCall T) T W) → IsAlone a c0 parts stage so_far
        → IsStepOver parts stage names parts' stage' m r
        → steps_left parts'.cells parts'.wait_lists stage' < steps_left parts.cells parts.wait_lists stage
    step_nearer stage x step =
        step_lessens parts parts' names stage' m r x.fits.0 x.now x.at [] [] stage (at_work x.from x.now x.at stage x.known)
        (made_by stage x step) (tt, λ e. inr refl)
