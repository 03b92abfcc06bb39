-- What is owed in a configuration that is shown, a world owes as it is.
use Rattle.std.specs.Prelude.{◌≡◌, ◌+◌, ◌-◌, ◌^◌, ◌≤◌, ◌<◌, ◌||◌, ◌∷◌, ◌++◌, ◌⊎◌}
use Rattle.channel_world_runs.proofs.Lemmas.{arith, ℕ, zero, suc, min, Bool, true, false, List, [], map, length, Option, inl, inr, refl, sym, ap, ◌∙◌, subst, count_by, shows, capacity_of, Queue, Phase, closed_in, Channel, phase, Mark, Close, parts_of, Sends, Stage, Working, Leave, HasClosed, HasPlaces, WakeInvariant, Waiter, ToldAt, MarkedMoment, ActiveCall, Configuration, ActiveCallWitness, AllKnown, active_call_of, all_seats, Telling, takings, owed_takings, owed_besides, Party, is_close, any_close, activity_of, parties_of, activities_of, name_state_of, parts_in, observation_of, AreCounted, HasOnePlace, Shown, IsSame, Observation, Owed, is_sending, is_receiving, unannounced, all_unannounced, woken_on, WakeOrder, All, AnyOf, Owned, WokenSound, NameState, unless_told, freed_by, all_freed, observation_at, Activity, CallUnderWay, WorldState, NameTable, OwedIn, balanced_in, capacity_is, one_slot}
use Rattle.concurrent_queue.specs.declared.queue_call.QueueCall.{QueueCall}
use Rattle.channel_calls.specs.declared.plain.PlainChannel.{PlainChannel}
use Rattle.channel_world_runs.proofs.ActivityFacts.{TookFew}
use Rattle.channel_world_runs.proofs.OwedCounts.{one_if, count_first}
use Rattle.channel_world_runs.proofs.OwedFacts.{places, owed}
use Rattle.channel_world_runs.proofs.OwedConfigurations as configurations

-- ---- what was told

unless_most : (told : List Telling) (n : ℕ) → unless_told told n ≤ n
unless_most [] n = omega arith
unless_most (t ∷ ts) n = omega arith

-- a call with nothing left to tell has announced all that it took
all_announced : (told : List Telling) (n : ℕ) (besides : List Telling) → told ++ [] ≡ owed_takings n ++ besides → unless_told told n ≤ 0
all_announced [] zero besides e = omega arith
all_announced [] (suc n) besides e = absurd cc
all_announced (t ∷ ts) n besides e = omega arith

is_closing : (m : Mark) → m ≡ Close → is_close m ≡ true
is_closing m e = ap is_close e

counted : {A : Type 0} (f : A → Activity) (test : Activity → Bool) (xs : List A) → count_by test (map f xs) ≡ count_by (λ (x : A). test (f x)) xs
counted f test [] = refl
counted {A} f test (x ∷ xs) =
    let here = count_first test (f x) (map f xs) in
    let there = count_first (λ (y : A). test (f y)) x xs in
    let rest = counted f test xs in
    omega (arith, here, there, rest)

module _ {T : Type 0} where
  -- ---- numbers

  some_counts : (P : ActiveCall T Waiter → Type 0) (test : ActiveCall T Waiter → Bool) → ((u : ActiveCall T Waiter) → P u → test u ≡ true)
      → (us : List (ActiveCall T Waiter)) → AnyOf P us → 0 < count_by test us
  some_counts P test f [] i = absurd i
  some_counts P test f (u ∷ us) (inl h) =
      let first = count_first test u us in
      let one : one_if (test u) ≡ 1 = ap one_if (f u h) in
      omega (arith, first, one)
  some_counts P test f (u ∷ us) (inr i) =
      let first = count_first test u us in
      let rest = some_counts P test f us i in
      omega (arith, first, rest)

  closed_is : (ds : List (MarkedMoment T Waiter)) → HasClosed ds → any_close ds ≡ true
  closed_is [] h = absurd h
  closed_is (d ∷ ds) (inl e) = ap (λ (b : Bool). b || any_close ds) (is_closing d.mark e)
  closed_is (d ∷ ds) (inr h) = ap (λ (b : Bool). is_close d.mark || b) (closed_is ds h) ∙ or_true (is_close d.mark) where
    or_true : (b : Bool) → (b || true) ≡ true
    or_true true = refl
    or_true false = refl

  -- ---- what was freed

  -- what the calls have not announced, by their parties and by what is noted of them
  abbrev each_unannounced : List (Party T Waiter) → List Activity → ℕ
  each_unannounced (p ∷ ps) (d ∷ ds) = unannounced p.call.stage d + each_unannounced ps ds
  each_unannounced ps ds = 0

  call_by_call : (cs : List (CallUnderWay T)) → all_unannounced cs ≡ each_unannounced (map (λ (c : CallUnderWay T). c.party) cs) (map (λ (c : CallUnderWay T). c.activity) cs)
  call_by_call [] = refl
  call_by_call (c ∷ cs) = ap (λ (n : ℕ). unannounced c.party.call.stage c.activity + n) (call_by_call cs)

  -- as far as a machine number goes
  no_more : (f : Phase T) (at : Stage (QueueCall T) T Waiter) (u : ActiveCall T Waiter) → ToldAt u.told (phase f at) u.marks
      → min (freed_by u) (2 ^ 64 - 1) ≤ unannounced at (activity_of u)
  no_more f (Working (Leave x)) u h =
      let none = all_announced u.told (takings u.marks) (owed_besides u.marks) h in omega (arith, none)
  no_more f at u h = let most = unless_most u.told (takings u.marks) in omega (arith, most)

  module _ (now : Channel T Waiter) where
    -- where few were taken, all are counted
    all_no_more : (n : ℕ) → n < 2 ^ 61 → (xs : List (ActiveCallWitness T Waiter)) → AllKnown now (map active_call_of xs)
        → All (TookFew n) (map active_call_of xs)
        → all_freed (map active_call_of xs)
        ≤ each_unannounced (map (λ (x : ActiveCallWitness T Waiter). x.party) xs) (map activity_of (map active_call_of xs))
    all_no_more n low [] k few = omega arith
    all_no_more n low (x ∷ xs) k few =
        let known = k.0 in
        let most : freed_by (active_call_of x) ≤ takings x.marks = unless_most x.told (takings x.marks) in
        let took : takings x.marks ≤ n = few.0 in
        let one = no_more x.inner x.party.call.stage (active_call_of x) known.tells in
        let rest = all_no_more n low xs k.1 few.1 in
        omega (arith, one, rest, most, took, low)

    -- and where any were, one is
    some_no_more : (xs : List (ActiveCallWitness T Waiter)) → AllKnown now (map active_call_of xs)
        → min (all_freed (map active_call_of xs)) 1
        ≤ each_unannounced (map (λ (x : ActiveCallWitness T Waiter). x.party) xs) (map activity_of (map active_call_of xs))
    some_no_more [] k = omega arith
    some_no_more (x ∷ xs) k =
        let known = k.0 in
        let one = no_more x.inner x.party.call.stage (active_call_of x) known.tells in
        let rest = some_no_more xs k.1 in
        omega (arith, one, rest)

  -- ---- a world as it is

  module _ (f : WorldState T) (s : Configuration T Waiter) (sh : Shown f s) where
    shown_queue : s.now.queue ≡ sh.shows.queue
    shown_queue = ap (λ (c : Channel T Waiter). c.queue) sh.shows.now

    closed_is_so : s.now.queue.closed ≡ closed_in (parts_in f).cells
    closed_is_so =
        let shown = shows (parts_in f).cells sh.shows.queue (all_seats sh.shows.witnesses) (_, sh.shows.fits) in
        ap (λ (q : Queue T). q.closed) shown_queue ∙ sym shown.flag

    by_role : (test : Activity → Bool) → count_by (λ (c : CallUnderWay T). test c.activity) f.calls.items ≡ count_by (λ (u : ActiveCall T Waiter). test (activity_of u)) s.under_way
    by_role test =
        sym (counted (λ (c : CallUnderWay T). c.activity) test f.calls.items)
        ∙ (ap (λ (ds : List Activity). count_by test ds) sh.activities ∙ counted activity_of test s.under_way)

    known : AllKnown s.now (map active_call_of sh.shows.witnesses)
    known = subst (λ (us : List (ActiveCall T Waiter)). AllKnown s.now us) sh.shows.under_way sh.shows.known

    freed_here : all_freed s.under_way ≡ all_freed (map active_call_of sh.shows.witnesses)
    freed_here = ap (λ (us : List (ActiveCall T Waiter)). all_freed us) sh.shows.under_way

    noted_here : all_unannounced f.calls.items
        ≡ each_unannounced (map (λ (x : ActiveCallWitness T Waiter). x.party) sh.shows.witnesses) (map activity_of (map active_call_of sh.shows.witnesses))
    noted_here =
        call_by_call f.calls.items
        ∙ (ap (λ (ps : List (Party T Waiter)). each_unannounced ps (activities_of f)) sh.shows.parties_are
        ∙ ap (λ (ds : List Activity). each_unannounced (map (λ (x : ActiveCallWitness T Waiter). x.party) sh.shows.witnesses) ds)
        (sh.activities ∙ ap (λ (us : List (ActiveCall T Waiter)). map activity_of us) sh.shows.under_way))

    -- no more places than those that are counted, with so many besides
    places_noted : (items messages woken sends sending : ℕ) → messages ≡ items → sending ≡ sends
        → HasPlaces s.now.queue.capacity (items + (woken + (sends + all_freed s.under_way)))
        → HasPlaces s.now.queue.capacity (messages + (woken + (sending + all_unannounced f.calls.items)))
    places_noted items messages woken sends sending same same_sends h = by sh.positions where
      before : ℕ
      before = items + (woken + (sends + all_freed s.under_way))

      after : ℕ
      after = messages + (woken + (sending + all_unannounced f.calls.items))

      by : HasOnePlace f ⊎ AreCounted f s → HasPlaces s.now.queue.capacity after
      by (inl one) =
          let slot = one_slot f s sh one in
          let enough : 1 ≤ before = subst (λ (c : Option ℕ). HasPlaces c before) slot h in
          let some = some_no_more s.now sh.shows.witnesses known in
          let now : 1 ≤ after = omega (arith, same, same_sends, enough, some, freed_here, noted_here) in
          subst (λ (c : Option ℕ). HasPlaces c after) (sym slot) now
      by (inr k) =
          let balanced = balanced_in (parts_in f) (parties_of f) s sh.shows in
          let accepted = k.accepted in
          let within = k.within in
          let few = subst (λ (us : List (ActiveCall T Waiter)). All (TookFew s.now.queue.removed) us) sh.shows.under_way sh.few in
          let all = all_no_more s.now s.now.queue.removed (omega (arith, balanced, accepted, within)) sh.shows.witnesses known few in
          places s.now.queue.capacity before after (omega (arith, same, same_sends, all, freed_here, noted_here)) h

    pub observation_owed : OwedIn (name_state_of f) s → Owed (observation_of f)
    observation_owed o = record {
      receives = λ name i.
          let h = o.receives name i in
          omega (arith, h, sh.messages, by_role (λ (d : Activity). is_sending d.role), by_role (λ (d : Activity). is_receiving d.role));
      sends = λ name i is_open.
          let h = o.sends name i (closed_is_so ∙ is_open) in
          subst (λ (c : Option ℕ). HasPlaces c ((observation_of f).messages + (woken_on Sends f.name_table f.order.woken + ((observation_of f).sending + (observation_of f).freed)))) (capacity_is f s sh)
          (places_noted _ _ _ _ _ sh.messages (by_role (λ (d : Activity). is_sending d.role)) h);
      streams = λ name i some. stream (o.streams name i) some;
      closing = λ line name i shut.
          let h = o.closing line name i (closed_is_so ∙ shut) in
          let one = some_counts (λ (u : ActiveCall T Waiter). HasClosed u.marks) (λ (u : ActiveCall T Waiter). any_close u.marks) (λ u k. closed_is u.marks k) s.under_way h in
          omega (arith, one, by_role (λ (d : Activity). d.has_closed));
    } where
      stream : (s.now.queue.items ≡ []) ⊎ AnyOf (λ u. configurations.is_sending u.ask ≡ true) s.under_way → 0 < f.messages → 0 < (observation_of f).sending
      stream (inl none) some = let empty = ap length none in omega (arith, empty, some, sh.messages)
      stream (inr i) some =
          let one = some_counts (λ (u : ActiveCall T Waiter). configurations.is_sending u.ask ≡ true) (λ (u : ActiveCall T Waiter). configurations.is_sending u.ask) (λ u k. k) s.under_way i in
          omega (arith, one, by_role (λ (d : Activity). is_sending d.role))

  -- ---- the configuration by itself

  some_send : (s : Configuration T Waiter) → (s.now.queue.items ≡ []) ⊎ AnyOf (λ (u : ActiveCall T Waiter). configurations.is_sending u.ask ≡ true) s.under_way
      → 0 < length s.now.queue.items → 0 < count_by (λ (u : ActiveCall T Waiter). configurations.is_sending u.ask) s.under_way
  some_send s (inl none) some = let empty = ap length none in omega (arith, empty, some)
  some_send s (inr i) some =
      some_counts (λ (u : ActiveCall T Waiter). configurations.is_sending u.ask ≡ true) (λ (u : ActiveCall T Waiter). configurations.is_sending u.ask) (λ u k. k) s.under_way i

  pub owed_at : (b : NameState T) (s : Configuration T Waiter) → Owned b s → WokenSound b s → WakeInvariant s → Owed (observation_at b s)
  owed_at b s owned woken sound =
      let o : OwedIn b s = owed b s owned woken sound in
      record {
        receives = o.receives;
        sends = o.sends;
        streams = λ name i some. some_send s (o.streams name i) some;
        closing = λ line name i shut.
            some_counts (λ (u : ActiveCall T Waiter). HasClosed u.marks) (λ (u : ActiveCall T Waiter). any_close u.marks) (λ u c. closed_is u.marks c) s.under_way
            (o.closing line name i shut);
      }

  -- ---- room that was taken changes nothing

  abbrev observation_with : NameTable T → List Waiter → ℕ → PlainChannel T Waiter → List (CallUnderWay T) → Observation T
  observation_with r woken n c calls = record {
    name_table = r;
    woken = woken;
    messages = n;
    capacity = capacity_of (parts_of c).cells.form;
    closed = closed_in (parts_of c).cells;
    sending = count_by (λ (x : CallUnderWay T). is_sending x.activity.role) calls;
    receiving = count_by (λ (x : CallUnderWay T). is_receiving x.activity.role) calls;
    closers = count_by (λ (x : CallUnderWay T). x.activity.has_closed) calls;
    freed = all_unannounced calls;
  }

  pub observation_same : (g h : WorldState T) → IsSame g h → observation_of h ≡ observation_of g
  observation_same g h same =
      ap (λ (r : NameTable T). observation_with r h.order.woken h.messages h.channel h.calls.items) same.name_table
      ∙ (ap (λ (o : WakeOrder). observation_with g.name_table o.woken h.messages h.channel h.calls.items) same.order
      ∙ (ap (λ (n : ℕ). observation_with g.name_table g.order.woken n h.channel h.calls.items) same.messages
      ∙ (ap (λ (c : PlainChannel T Waiter). observation_with g.name_table g.order.woken g.messages c h.calls.items) same.channel
      ∙ ap (λ (cs : List (CallUnderWay T)). observation_with g.name_table g.order.woken g.messages g.channel cs) same.calls)))
