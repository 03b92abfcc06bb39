-- What is responsible for those that sleep, in the numbers that a world tells, calls under way or not.
use Rattle.std.specs.Prelude.{◌≡◌, ◌⊎◌, ◌<◌, ◌==◌, ◌∷◌, ◌≤◌, ◌+◌, ◌++◌}
use Rattle.channel_world.proofs.Lemmas.{arith, ℕ, Bool, List, [], length, Option, None, Some, inl, inr, refl, sym, ap, subst, vec_len, nat_tests, AwakeIn, free_places, NobodyGoesOn, State, settled_rest, messages_in, name_state_of, IsQuiet, Stands, TellsQuiet, WorldState, CallUnderWay, none_under_way, RestIsAWorld, NobodyIsLeftAtRest, NoReceiveIsLeft, NoStreamIsLeft, NoSendIsLeft, NobodyIsLeftOnAClosed, HasAPlace, NoReceivePendsBesideAMessage, NoSendPendsBesideAPlace, NoStreamPendsBesideAMessage, woken_among, CallsAtRest, at_rest, view_of, at_rest_is, suc, true, ◌∙◌, count_by, count_by-le-length, ListenerRef, WaitList, Sends, Receives, Configuration, times, is_line, line_at, same_waiter, is_among, Waiter, or_true, same_sound, names_of, Owed, IsUnwoken, is_sending, is_receiving, woken_on, all_unannounced, waits, status, WokenSound, stands_pending, how_many, NameState, calls_in, observation_of, NameTable, no_longer, one_if, count_first, among_is, waits_pending, none_twice_times, ReceivesAreAnswered, SendsAreAnswered, StreamsAreAnswered, ClosingIsAnswered, NoReceiveSleepsBesideAMessage, NoStreamSleepsBesideAMessage, NoSendSleepsBesideAPlace, NobodySleepsOnAClosed, AllAreAwake}
use Rattle.channel_world.proofs.NumberFacts.{messages_at_rest, all_so, so_many, so_there, pending_holds}
use Rattle.channel_steps.specs.every_run.Sends.{HasPlaces}
use Rattle.channel_world_runs.specs.declared.activity.Role.{Role}
use Rattle.channel_world_runs.specs.declared.activity.Role.TheVariants.{Sending, Receiving, Other}

-- ---- what is responsible for those that sleep, in the numbers that a world tells

none_of : {A : Type 0} (xs : List A) → length xs ≡ 0 → xs ≡ []
none_of [] e = refl
none_of (x ∷ xs) e = absurd (omega (arith, e))

module _ {T : Type 0} (w : WorldState T) where
  pub calls_at_rest : CallsAtRest (view_of w)
  calls_at_rest = record { none = none_of w.calls.items; quiet = λ q. ap (λ (cs : List (CallUnderWay T)). length cs) q }

  pub tells_quiet : (quiet : Bool) → quiet ≡ (vec_len w.calls == 0) → TellsQuiet w quiet
  tells_quiet quiet is =
      let size : vec_len w.calls ≡ length w.calls.items = w.calls.ok.0 in
      record {
        told = λ yes. none_of w.calls.items (grind (arith, nat_tests));
        busy = λ no none. let empty : length w.calls.items ≡ 0 = ap (λ (cs : List (CallUnderWay T)). length cs) none in absurd (grind (arith, nat_tests));
      }

-- ---- at rest

none_beside : {A : Type 0} (xs : List A) (n : ℕ) → (xs ≡ []) ⊎ (n ≡ 0) → 0 < n → xs ≡ []
none_beside xs n (inl e) some = e
none_beside xs n (inr z) some = absurd (omega (arith, z, some))

module _ {T : Type 0} (w : WorldState T) (held : messages_in w ≡ length (at_rest w).channel.messages) (rest : NobodyGoesOn (at_rest w)) where
  pub no_receive_goes_on : NoReceivePendsBesideAMessage (view_of w)
  no_receive_goes_on some = let r = rest in none_beside _ _ r.receives (omega (arith, held, some))

  pub no_stream_goes_on : NoStreamPendsBesideAMessage (view_of w)
  no_stream_goes_on some = let r = rest in none_beside _ _ r.streams (omega (arith, held, some))

  pub no_send_goes_on : NoSendPendsBesideAPlace (view_of w)
  no_send_goes_on is_open place = by (at_rest w).channel.capacity refl place
    where
      by : (cap : Option ℕ) → (at_rest w).channel.capacity ≡ cap → HasAPlace cap (messages_in w) → (at_rest w).waiting.sends ≡ []
      by None e p = let r = rest in r.unbounded e
      by (Some c) e p =
          let r = rest in
          none_beside _ _
          (subst (λ (o : Option ℕ). ((at_rest w).waiting.sends ≡ []) ⊎ (free_places o (length (at_rest w).channel.messages) ≡ 0)) e (r.sends is_open))
          (omega (arith, held, p))

module _ {T : Type 0} (w : WorldState T) (k : Stands w) (rests : RestIsAWorld T) where
  awake : IsQuiet w → AwakeIn (at_rest w)
  awake quiet =
      let world = rests (name_state_of w) k.configuration k.stands.kept (none_under_way w k.configuration quiet k.stands.shown) in
      subst (λ (x : State T). AwakeIn x) (sym (at_rest_is w k.configuration k.stands.shown quiet)) world.awake

  pub left_at_rest : NobodyIsLeftAtRest (view_of w)
  left_at_rest quiet =
      let a = awake quiet in
      record { receives = a.receives; sends = a.sends; unbounded = a.unbounded; streams = a.streams; opened = a.opened }

  pub no_stream_left : NoStreamIsLeft (view_of w)
  no_stream_left quiet some =
      let a = awake quiet in
      let held = messages_at_rest w k quiet in
      none_beside _ _ a.streams (omega (arith, held, some))

  pub left_on_a_closed : NobodyIsLeftOnAClosed (view_of w)
  left_on_a_closed quiet shut line = let a = awake quiet in a.opened shut line

  none_goes_on : IsQuiet w → woken_among (view_of w) ≡ 0 → NobodyGoesOn (at_rest w)
  none_goes_on quiet none =
      let nobody = none_of (at_rest w).waiting.woken none in
      (settled_rest (at_rest w) (at_rest w) [] (awake quiet) (nobody, refl)).1

  pub no_receive_left : NoReceiveIsLeft (view_of w)
  no_receive_left quiet none = no_receive_goes_on w (messages_at_rest w k quiet) (none_goes_on quiet none)

  pub no_send_left : NoSendIsLeft (view_of w)
  no_send_left quiet none = no_send_goes_on w (messages_at_rest w k quiet) (none_goes_on quiet none)

-- ---- counts

pub count_both : {A : Type 0} (p : A → Bool) (xs ys : List A) → count_by p (xs ++ ys) ≡ count_by p xs + count_by p ys
count_both p [] ys = omega arith
count_both p (x ∷ xs) ys =
    let rest = count_both p xs ys in
    let first = count_first p x xs in
    let all = count_first p x (xs ++ ys) in
    omega (arith, rest, first, all)

-- ---- the calls under way

one_role : (r : Role) → one_if (is_sending r) + one_if (is_receiving r) ≤ 1
one_role Sending = omega arith
one_role Receiving = omega arith
one_role Other = omega arith

few_roles : {T : Type 0} (cs : List (CallUnderWay T))
    → count_by (λ (c : CallUnderWay T). is_sending c.activity.role) cs + count_by (λ (c : CallUnderWay T). is_receiving c.activity.role) cs ≤ length cs
few_roles [] = omega arith
few_roles {T} (c ∷ cs) =
    let rest = few_roles cs in
    let one = one_role c.activity.role in
    let a = count_first (λ (x : CallUnderWay T). is_sending x.activity.role) c cs in
    let b = count_first (λ (x : CallUnderWay T). is_receiving x.activity.role) c cs in
    omega (arith, rest, one, a, b)

-- ---- places

pub more_places : (cap : Option ℕ) (m n : ℕ) → m ≤ n → HasPlaces cap m → HasPlaces cap n
more_places None m n le h = h
more_places (Some c) m n le h = omega (arith, le, h)

pub none_fits : (cap : Option ℕ) (m n : ℕ) → n ≤ m → HasAPlace cap m → HasPlaces cap n → ⊥
none_fits None m n le fits places = places
none_fits (Some c) m n le fits places = omega (arith, le, fits, places)

-- ---- the names, and all that a world shows

module _ {T : Type 0} where
  -- those of a line who are woken are no more than all that are
  few_woken : (line : WaitList) (r : NameTable T) (woken : List Waiter) → woken_on line r woken ≤ length woken
  few_woken line r woken = count_by-le-length (λ w. is_line line (line_at (names_of r) w)) woken

  -- one that sleeps, before those that were woken: each of them is pending, and none stands there twice
  module _ (b : NameState T) (s : Configuration T Waiter) (k : WokenSound b s) (line : WaitList) (name : Waiter)
      (asleep : IsUnwoken line name b.name_table b.order.woken) where
    pub all_wait : (w : Waiter) → is_among w (name ∷ b.order.woken) ≡ true → (h : ListenerRef) × (status b.name_table w ≡ waits h)
    all_wait w i = by (or_true (same_waiter w name) (is_among w b.order.woken) i)
      where
        by : (same_waiter w name ≡ true) ⊎ (is_among w b.order.woken ≡ true) → (h : ListenerRef) × (status b.name_table w ≡ waits h)
        by (inl t) = (record { line = line; key = asleep.0 }, ap (status b.name_table) (same_sound w name t) ∙ asleep.1)
        by (inr j) = k.pending w (among_is w b.order.woken j)

    pub all_once : (w : Waiter) → times w (name ∷ b.order.woken) ≤ 1
    all_once w = none_twice_times w (name ∷ b.order.woken) (asleep.2, k.once)

    -- so more are pending than were woken
    more_pending : suc (length b.order.woken) ≤ how_many stands_pending b.name_table
    more_pending =
        let more = no_longer (name ∷ b.order.woken) (all_so stands_pending b.name_table) all_once (λ w i.
        let h = all_wait w i in so_there stands_pending b.name_table w (pending_holds b.name_table w ∙ waits_pending b.name_table w h.0 h.1)) in
        let many = so_many stands_pending b.name_table in
        omega (arith, more, many)

  none_unannounced : (cs : List (CallUnderWay T)) → length cs ≡ 0 → all_unannounced cs ≡ 0
  none_unannounced [] e = refl
  none_unannounced (c ∷ cs) e = absurd (omega (arith, e))

  module _ (w : WorldState T) (k : Stands w) where
    owed : Owed (observation_of w)
    owed = k.stands.owed

    few_at_work : (observation_of w).sending + (observation_of w).receiving ≤ calls_in w
    few_at_work = few_roles w.calls.items

    few_sending : (observation_of w).sending ≤ calls_in w
    few_sending = let few = few_at_work in omega (arith, few)

    few_closers : (observation_of w).closers ≤ calls_in w
    few_closers = count_by-le-length (λ (c : CallUnderWay T). c.activity.has_closed) w.calls.items

    pub receives_answered : ReceivesAreAnswered (view_of w)
    receives_answered name asleep =
        let o = owed in
        let most = o.receives name asleep in
        let woken = few_woken Receives w.name_table (observation_of w).woken in
        let calls = few_at_work in
        omega (arith, most, woken, calls)

    pub sends_answered : SendsAreAnswered (view_of w)
    sends_answered name asleep is_open =
        let o = owed in
        let woken = few_woken Sends w.name_table (observation_of w).woken in
        let calls = few_sending in
        more_places (observation_of w).capacity _ _ (omega (arith, woken, calls)) (o.sends name asleep is_open)

    pub streams_answered : StreamsAreAnswered (view_of w)
    streams_answered name asleep some =
        let o = owed in
        let one = o.streams name asleep some in
        let calls = few_sending in
        omega (arith, one, calls)

    pub closing_answered : ClosingIsAnswered (view_of w)
    closing_answered line name asleep shut =
        let o = owed in
        let one = o.closing line name asleep shut in
        let calls = few_closers in
        omega (arith, one, calls)

    pub no_receive_beside_a_message : NoReceiveSleepsBesideAMessage (view_of w)
    no_receive_beside_a_message quiet none some = record {
      none = λ name asleep. let most = receives_answered name asleep in omega (arith, most, quiet, none, some);
    }

    pub no_stream_beside_a_message : NoStreamSleepsBesideAMessage (view_of w)
    no_stream_beside_a_message quiet some = record {
      none = λ name asleep. let one = streams_answered name asleep some in omega (arith, one, quiet);
    }

    pub no_send_beside_a_place : NoSendSleepsBesideAPlace (view_of w)
    no_send_beside_a_place quiet none is_open fits =
        let freed = none_unannounced w.calls.items quiet in
        record {
          none = λ name asleep.
              none_fits (observation_of w).capacity (messages_in w) _ (omega (arith, quiet, none, freed)) fits (sends_answered name asleep is_open);
        }

    pub nobody_on_a_closed : NobodySleepsOnAClosed (view_of w)
    nobody_on_a_closed quiet shut line = record {
      none = λ name asleep. let one = closing_answered line name asleep shut in omega (arith, one, quiet);
    }

    pub all_awake : AllAreAwake (view_of w)
    all_awake same line = record {
      none = λ name asleep. let more = more_pending (name_state_of w) k.configuration k.stands.kept.woken line name asleep in omega (arith, more, same);
    }
