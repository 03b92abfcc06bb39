-- A call that blocks its thread makes whole calls.
use Rattle.std.proofs.Common.{◌≡◌, ◌⊎◌, inl, inr, ℕ, zero, suc, Option, None, Some, refl, sym, subst}
use Rattle.channel_steps.proofs.every_run.Words.{QueueCall, Key, first, Deed, again, line_of, Takes, Leaves, WorkMakes, ChannelMakes, Leads, Mark, Reply, Ending, ListenerRef, Returned, Stage, Trying, Working, Finished, NextStep, Works, Waiting, ListStep, Register, Leave, is_refused, waiting_of, at_once, not_yet, poll_woken, still_waits, Looks, AnswersAtFirst, Listens, Round, Rounds, Wakens, SleepsOn, message_of, Walked, WalkedFrom, Blocked, Send, Receive, first_poll, poll_refused, PollsInTurn, InCalls, IsLeft, Rests, Rested, BlocksInCalls}
use Rattle.channel_calls.proofs.Walking.{walks_on}

module _ {T W : Type 0} where
  first_is : (b : Blocked T) (task : W) → first (first_poll b task) ≡ again (waiting_of b) None task
  first_is (Send m) task = refl
  first_is Receive task = refl

  woken_is : (b : Blocked T) (key : Key) (task : W) → first (poll_woken b key task) ≡ Works (Register (waiting_of b) key task)
  woken_is (Send m) key task = refl
  woken_is Receive key task = refl

module _ {T W X : Type 0} (did : Deed T W → X → X → Type 0) (asked : Option W → X → X → Type 0) (slept : X → X → Type 0) where
  abbrev after : Deed T W → X → X → Type 0
  after = Rested did asked slept

  abbrev Resting : ℕ → X → X → Type 0
  Resting = Rests did asked slept

  rests_both : (n m : ℕ) (s x t : X) → Resting n s x → Resting m x t → (k : ℕ) × Resting k s t
  rests_both zero m s x t e h = (m, subst (λ (z : X). Resting m z t) e h)
  rests_both (suc n) m s x t (y, one, more) h = let k = rests_both n m y x t more h in (suc k.0, (y, one, k.1))

  -- ---- with no rest

  left : (held : Option ListenerRef) (s t : X) → Leaves did held s t → Leaves after held s t
  left None s t h = h
  left (Some held) s t (names, h) = (names, (zero, s, refl, h))

  worked : (w : ListStep T W) (s t : X) (m : Mark) (next : Stage (QueueCall T) T W) (r : Option (Reply T)) → WorkMakes did w s t m next r → WorkMakes after w s t m next r
  worked (Register w key task) s t m next r (o, h, k) = (o, (zero, s, refl, h), k)
  worked (Leave e) s t m next r (h, k) = (left e.held s t h, k)
  worked w s t m next r h = h

  made : (at : Stage (QueueCall T) T W) (s t : X) (m : Mark) (next : Stage (QueueCall T) T W) (r : Option (Reply T)) → ChannelMakes did at s t m next r → ChannelMakes after at s t m next r
  made (Trying call purpose) s t m next r h = h
  made (Working w) s t m next r h = worked w s t m next r h
  made (Finished kept) s t m next r h = h

  led : (n : ℕ) (s : X) (a : Stage (QueueCall T) T W) (t : X) (b : Stage (QueueCall T) T W) → Leads did n s a t b → Leads after n s a t b
  led zero s a t b h = h
  led (suc n) s a t b (x, y, m, step, more) = (x, y, m, made a s x m y None step, led n x y t b more)

  walked : (a : Stage (QueueCall T) T W) (s : X) (r : Reply T) (kept : Returned T) (t : X) → Walked did a s r kept t → Walked after a s r kept t
  walked a s r kept t (n, x, b, m, c, path, last, is) = (n, x, b, m, c, led n s a x b path, made b x t m c (Some r) last, is)

  walked_from : (turn : NextStep T W) (s : X) (r : Reply T) (kept : Returned T) (t : X) → WalkedFrom did turn s r kept t → WalkedFrom after turn s r kept t
  walked_from turn s r kept t (a, takes, walk) = (a, takes, walked a s r kept t walk)

  looked : (n : ℕ) (b : Blocked T) (s t : X) → Looks did n b s t → Looks after n b s t
  looked zero b s t h = h
  looked (suc n) b s t (x, before, (kept, walk)) = (x, looked n b s x before, (kept, walked_from (first (at_once b)) x (not_yet b) kept t walk))

  -- ---- from where it rests

  -- a walk whose first step may come behind rests
  abbrev MayRest : Stage (QueueCall T) T W → Type 0
  MayRest a = (n : ℕ) (s x t : X) (m : Mark) (c : Stage (QueueCall T) T W) (r : Option (Reply T)) → Resting n s x → ChannelMakes did a x t m c r → ChannelMakes after a s t m c r

  rested : (a : Stage (QueueCall T) T W) → MayRest a → (k : ℕ) (s x : X) (r : Reply T) (kept : Returned T) (t : X) → Resting k s x → Walked did a x r kept t → Walked after a s r kept t
  rested a may k s x r kept t rest (zero, y, b, m, c, (e, f), last, is) =
      let here : ChannelMakes did a x t m c (Some r) =
      subst (λ (z : Stage (QueueCall T) T W). ChannelMakes did z x t m c (Some r)) f (subst (λ (z : X). ChannelMakes did b z t m c (Some r)) e last)
      in (zero, s, a, m, c, (refl, refl), may k s x t m c (Some r) rest here, is)
  rested a may k s x r kept t rest (suc n, y, b, m, c, (z, d, j, step, more), last, is) =
      (suc n, y, b, m, c, (z, d, j, may k s x z j d None rest step, led n z d y b more), made b y t m c (Some r) last, is)

  at_register : (w : Waiting T) (key : Key) (task : W) → MayRest (Working (Register w key task))
  at_register w key task n s x t m c r rest (o, h, k) = (o, (n, x, rest, h), k)

  at_refused : (b : Blocked T) (key : Key) → MayRest (Working (Leave (is_refused (line_of (waiting_of b)) (message_of (waiting_of b)) (Some key))))
  at_refused b key n s x t m c r rest ((names, h), k) = ((names, (n, x, rest, h)), k)

  -- from a turn on a list
  works : (w : ListStep T W) → MayRest (Working w) → (k : ℕ) (s x : X) (r : Reply T) (kept : Returned T) (t : X) → Resting k s x → WalkedFrom did (Works w) x r kept t → Walked after (Working w) s r kept t
  works w may k s x r kept t rest (a, (none, is), walk) =
      rested (Working w) may k s x r kept t rest (subst (λ (z : Stage (QueueCall T) T W). Walked did z x r kept t) is walk)

  from_works : (w : ListStep T W) (s : X) (r : Reply T) (kept : Returned T) (t : X) → Walked after (Working w) s r kept t → WalkedFrom after (Works w) s r kept t
  from_works w s r kept t walk = (Working w, (refl, refl), walk)

  module _ (b : Blocked T) where
    woken : (key : Key) (task : W) (k : ℕ) (s x : X) (r : Reply T) (kept : Returned T) (t : X) → Resting k s x → WalkedFrom did (first (poll_woken b key task)) x r kept t
        → Walked after (Working (Register (waiting_of b) key task)) s r kept t
    woken key task k s x r kept t rest walk =
        works (Register (waiting_of b) key task) (at_register (waiting_of b) key task) k s x r kept t rest
        (subst (λ (u : NextStep T W). WalkedFrom did u x r kept t) (woken_is b key task) walk)

    from_woken : (key : Key) (task : W) (s : X) (r : Reply T) (kept : Returned T) (t : X) → Walked after (Working (Register (waiting_of b) key task)) s r kept t
        → WalkedFrom after (first (poll_woken b key task)) s r kept t
    from_woken key task s r kept t walk =
        subst (λ (u : NextStep T W). WalkedFrom after u s r kept t) (sym (woken_is b key task)) (from_works (Register (waiting_of b) key task) s r kept t walk)

    refused : (key : Key) (k : ℕ) (s x : X) (r : Reply T) (kept : Returned T) (t : X) → Resting k s x → WalkedFrom did (first (poll_refused b key)) x r kept t
        → WalkedFrom after (first (poll_refused b key)) s r kept t
    refused key k s x r kept t rest walk =
        let e : Ending T = is_refused (line_of (waiting_of b)) (message_of (waiting_of b)) (Some key) in
        from_works (Leave e) s r kept t (works (Leave e) (at_refused b key) k s x r kept t rest walk)

    -- ---- rounds, from where it is to ask for a task and register this listener, having rested

    -- a poll that asks its listener first, and those behind it; or one that is refused its task
    abbrev GoesOn : Key → X → Reply T → Returned T → X → Type 0
    GoesOn key s r kept t = ((task : W) × (m : ℕ) × PollsInTurn after m (poll_woken b key task) b s r kept t) ⊎ WalkedFrom after (first (poll_refused b key)) s r kept t

    abbrev From : Key → X → Reply T → Returned T → X → Type 0
    From key x r kept t = (k : ℕ) (s : X) → Resting k s x → GoesOn key s r kept t

    module _ (r : Reply T) (kept : Returned T) (t : X) where
      wakens : (key : Key) (x : X) → Wakens did asked slept b key x r kept t → From key x r kept t
      wakens key x (inl (y, ask, walk)) k s rest =
          let more = rests_both k (suc zero) s x y rest (y, inl (None, ask), refl) in
          inr (refused key more.0 s y r kept t more.1 walk)
      wakens key x (inr (task, y, ask, walk, over)) k s rest =
          let more = rests_both k (suc zero) s x y rest (y, inl (Some task, ask), refl) in
          inl (task, zero, from_woken key task s r kept t (woken key task more.0 s y r kept t more.1 walk))

      -- a poll that waits, before those that go on from the listener that it left
      waits_first : (key next : Key) (task : W) (s y : X) → WalkedFrom after (first (poll_woken b key task)) s (still_waits b next).reply (still_waits b next).kept y
          → GoesOn next y r kept t → GoesOn key s r kept t
      waits_first key next task s y walk (inl (other, m, more)) = inl (task, suc m, (next, y, walk, poll_woken b next other, inl (other, refl), more))
      waits_first key next task s y walk (inr last) = inl (task, suc zero, (next, y, walk, poll_refused b next, inr refl, last))

      round : (key : Key) (x : X) (next : Key) (z : X) → Round did asked slept b key x next z → From next z r kept t → From key x r kept t
      round key x next z (task, y, u, ask, walk, sleep) tail k s rest =
          let more = rests_both k (suc zero) s x y rest (y, inl (Some task, ask), refl) in
          waits_first key next task s u
          (from_woken key task s (still_waits b next).reply (still_waits b next).kept u
          (woken key task more.0 s y (still_waits b next).reply (still_waits b next).kept u more.1 walk))
          (tail (suc zero) u (z, inr sleep, refl))

      rounds : (n : ℕ) (key : Key) (x : X) (last : Key) (z : X) → Rounds did asked slept n b key x last z → From last z r kept t → From key x r kept t
      rounds zero key x last z (same, e) tail = subst (λ (k : Key). From k x r kept t) same (subst (λ (y : X). From last y r kept t) e tail)
      rounds (suc n) key x last z (k, y, before, one) tail = rounds n key x k y before (round k y last z one tail)

      -- the poll that registers goes on from the first one
      begins_so : (n : ℕ) (task : W) (key : Key) (x y : X) (a : Stage (QueueCall T) T W) → Takes (again (waiting_of b) None task) a None
          → Leads did n x a y (Working (Register (waiting_of b) key task)) → (r' : Reply T) (kept' : Returned T) (z : X)
          → WalkedFrom after (first (poll_woken b key task)) y r' kept' z → WalkedFrom after (first (first_poll b task)) x r' kept' z
      begins_so n task key x y a takes path r' kept' z walk =
          let at : WalkedFrom after (Works (Register (waiting_of b) key task)) y r' kept' z =
          subst (λ (u : NextStep T W). WalkedFrom after u y r' kept' z) (woken_is b key task) walk in
          let there : Walked after (Working (Register (waiting_of b) key task)) y r' kept' z =
          subst (λ (c : Stage (QueueCall T) T W). Walked after c y r' kept' z) at.1.1 at.2 in
          subst (λ (u : NextStep T W). WalkedFrom after u x r' kept' z) (sym (first_is b task))
          (a, takes, walks_on after n a x (Working (Register (waiting_of b) key task)) y r' kept' z (led n x a y (Working (Register (waiting_of b) key task)) path) there)

      polls_so : (n : ℕ) (task : W) (key : Key) (x y : X) (a : Stage (QueueCall T) T W) → Takes (again (waiting_of b) None task) a None
          → Leads did n x a y (Working (Register (waiting_of b) key task)) → (m : ℕ) → PollsInTurn after m (poll_woken b key task) b y r kept t → PollsInTurn after m (first_poll b task) b x r kept t
      polls_so n task key x y a takes path zero walk = begins_so n task key x y a takes path r kept t walk
      polls_so n task key x y a takes path (suc m) (next, z, walk, ask, is, more) =
          (next, z, begins_so n task key x y a takes path (still_waits b next).reply (still_waits b next).kept z walk, ask, is, more)

      module _ (j : ℕ) (s x : X) (look : Looks did j b s x) (task : W) where
        listened : (key : Key) (y : X) → Listens did b x key y → GoesOn key y r kept t → InCalls after b s r kept t ⊎ IsLeft after b s r kept t
        listened key y listens (inl (own, m, polls)) =
            let l = listens own in
            inl (j, x, looked j b s x look, own, m, polls_so l.2 own key x y l.0 l.1 l.3 m polls)
        listened key y listens (inr last) =
            let l = listens task in
            inr (
              j,
              x,
              looked j b s x look,
              task,
              key,
              l.0,
              subst (λ (u : NextStep T W). Takes u l.0 None) (sym (first_is b task)) l.1,
              l.2,
              y,
              led l.2 x l.0 y (Working (Register (waiting_of b) key task)) l.3,
              last,
            )

        blocked : AnswersAtFirst did b x r kept t ⊎ ((key : Key) × (y : X) × Listens did b x key y × SleepsOn did asked slept b key y r kept t)
            → InCalls after b s r kept t ⊎ IsLeft after b s r kept t
        blocked (inl begins) =
            inl (j, x, looked j b s x look, task, zero, subst (λ (u : NextStep T W). WalkedFrom after u x r kept t) (sym (first_is b task)) (walked_from (again (waiting_of b) None task) x r kept t (begins task)))
        blocked (inr (key, y, listens, (n, k, z, before, last))) =
            listened key y listens (rounds n key y k z before (wakens k z last) zero y refl)

pub blocks_in_calls : {T W X : Type 0} (did : Deed T W → X → X → Type 0) (asked : Option W → X → X → Type 0) (slept : X → X → Type 0) → BlocksInCalls did asked slept
blocks_in_calls did asked slept b task s r kept t (j, x, look, how) = blocked did asked slept b r kept t j s x look task how
