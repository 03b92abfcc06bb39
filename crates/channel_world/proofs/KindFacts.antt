-- Who is pending and who was woken, line by line; and who of a line doesn't sleep, in the numbers that a world tells.
use Rattle.std.specs.Prelude.{◌≡◌, ◌≤◌, ◌+◌, ◌∷◌, ◌⊎◌}
use Rattle.channel_world.proofs.Lemmas.{arith, ℕ, suc, nat_eq, Bool, true, false, List, [], map, Option, None, Some, is_some, inl, inr, refl, sym, ap, ◌∙◌, subst, AllByRecursion, count_by, filter, keys_of, lookup, length-filter, QueueCall, ListenerRef, WaitList, Stage, Working, Leave, Configuration, times, is_line, line_at, same_line, same_waiter, is_among, Directory, Waiter, Op, Stream, line_refl, absent_counts, front_stays, decided, or_true, same_sound, AreApart, names_of, name_state_of, observation_of, Stands, IsUnwoken, woken_on, unannounced, all_unannounced, IsAmong, NameStatus, free, waits, status_by, stream_status, operation_status, status, WokenSound, NameState, CallUnderWay, WorldState, HandleEntry, OperationEntry, NameTable, no_longer, one_if, count_first, among_is, none_twice_times, ALineIsAwake, NobodySleepsWhereClosed, NoReceiveSleeps, NoSendSleeps, NoStreamSleeps, all_names, is_pending_on, operation_stance, pending_on_line, stream_stance, takings_of, view_of}
use Rattle.std.proofs.lemmas.Cmp.{nat_eq_equiv}
use Rattle.std.proofs.lemmas.Map.Views.{lookup-from_Contains}
use Rattle.lru.proofs.Splits.{all_from}
use Rattle.channel_world_runs.specs.refinement.Refines.{of_line}
use Rattle.channel_world_runs.specs.declared.activity.Activity.{Activity}
use Rattle.channel_world_runs.proofs.refinement.Names.{among_of_line}
use Rattle.channel_world_runs.proofs.refinement.Standing.{times_of_line}
use Rattle.channel_world_runs.proofs.rest.LoneAnswers.{behind}
use Rattle.channel_world_runs.proofs.rest.Names.{line_is as line_of}
use Rattle.channel_world.proofs.SleepFacts.{count_both, none_fits}

-- ---- names and entries

-- names that pass are as many as entries that do
module _ {X : Type 0} (p : Waiter → Bool) (test : Option X → Bool) (name : ℕ → Waiter) where
  just_named : (es : Directory X) → AllByRecursion (λ (e : ℕ × Option X). p (name e.0) ≡ test e.1) es
      → count_by p (map name (keys_of es)) ≡ count_by (λ (e : ℕ × Option X). test e.1) es
  just_named [] h = refl
  just_named (e ∷ es) h =
      let rest = just_named es h.1 in
      let one = ap (λ b. one_if b) h.0 in
      let a = count_first p (name e.0) (map name (keys_of es)) in
      let b = count_first (λ (f : ℕ × Option X). test f.1) e es in
      omega (arith, rest, one, a, b)

module _ {T : Type 0} (test : NameStatus → Bool) (r : NameTable T) (apart : AreApart r) where
  -- by how what lives there stands, no name twice
  pub by_entries : count_by (λ w. test (status r w)) (all_names r)
      ≡ count_by (λ (e : ℕ × Option (OperationEntry T)). test (operation_stance e.1)) r.operations
      + count_by (λ (e : ℕ × Option HandleEntry). test (stream_stance e.1)) r.handles
  by_entries =
      let p : Waiter → Bool = λ w. test (status r w) in
      let op_name : ℕ → Waiter = λ n. Op (record { 0 = n }) in
      let stream_name : ℕ → Waiter = λ n. Stream (record { 0 = n }) in
      let a = just_named p (λ (o : Option (OperationEntry T)). test (operation_stance o)) op_name r.operations
      (all_from _ r.operations (λ e there.
      ap (λ (o : Option (Option (OperationEntry T))). test (status_by (λ (x : OperationEntry T). operation_status x.operation x.poll_state) o))
      (lookup-from_Contains nat_eq_equiv e.0 e.1 r.operations apart.operations there))) in
      let b = just_named p (λ (o : Option HandleEntry). test (stream_stance o)) stream_name r.handles
      (all_from _ r.handles (λ e there.
      ap (λ (o : Option (Option HandleEntry)). test (status_by (λ (x : HandleEntry). stream_status x.handle.kind x.poll_state) o))
      (lookup-from_Contains nat_eq_equiv e.0 e.1 r.handles apart.handles there))) in
      let both = count_both p (map op_name (keys_of r.operations)) (map stream_name (keys_of r.handles)) in
      omega (arith, a, b, both)

-- ---- who is pending on a line has a name that was taken

module _ (name : ℕ → Waiter) (same : (m n : ℕ) → same_waiter (name m) (name n) ≡ nat_eq m n) where
  taken_there : {X : Type 0} (n : ℕ) (es : Directory X) → is_some (lookup (nat_eq n) es) ≡ true → is_among (name n) (map name (keys_of es)) ≡ true
  taken_there n [] e = cc e
  taken_there n (f ∷ es) e = elim (decided (nat_eq n f.0)) [
    | inl t ↦ rw (same n f.0 ∙ t) refl
    | inr t ↦ rw (same n f.0 ∙ t) (taken_there n es (rw t at e))
  ]

-- a name that passes, and stands there, stands among those that pass
passes_there : (p : Waiter → Bool) (w : Waiter) (ws : List Waiter) → p w ≡ true → is_among w ws ≡ true → 1 ≤ times w (filter p ws)
passes_there p w [] t e = cc e
passes_there p w (v ∷ ws) t e = elim (or_true (same_waiter w v) (is_among w ws) e) [
  | inl s ↦ let mine : p v ≡ true = ap p (sym (same_sound w v s)) ∙ t in rw mine (rw s (omega arith))
  | inr i ↦
      let more = passes_there p w ws t i in
      elim (decided (p v)) [
        | inl u ↦ rw u (elim (decided (same_waiter w v)) [
          | inl s ↦ rw s (omega arith)
          | inr s ↦ rw s more
        ])
        | inr u ↦ rw u more
      ]
]

module _ {T : Type 0} where
  abbrev op_names : NameTable T → List Waiter
  op_names r = map (λ n. Op (record { 0 = n })) (keys_of r.operations)

  abbrev stream_names : NameTable T → List Waiter
  stream_names r = map (λ n. Stream (record { 0 = n })) (keys_of r.handles)

  taken_name : (r : NameTable T) (w : Waiter) (h : ListenerRef) → status r w ≡ waits h → is_among w (all_names r) ≡ true
  taken_name r (Op op) h e =
      let name : ℕ → Waiter = λ n. Op (record { 0 = n }) in
      front_stays (Op op) (op_names r) (stream_names r)
      (taken_there name (λ m n. refl) op.0 r.operations (by (lookup (nat_eq op.0) r.operations) refl))
    where
      by : (o : Option (Option (OperationEntry T))) → lookup (nat_eq op.0) r.operations ≡ o → is_some (lookup (nat_eq op.0) r.operations) ≡ true
      by None f = absurd (let no : free ≡ waits h = sym (ap (λ x. status_by (λ (x : OperationEntry T). operation_status x.operation x.poll_state) x) f) ∙ e in cc)
      by (Some o) f = rw f refl
  taken_name r (Stream handle) h e =
      let name : ℕ → Waiter = λ n. Stream (record { 0 = n }) in
      behind (Stream handle) (op_names r) (stream_names r)
      (taken_there name (λ m n. refl) handle.0 r.handles (by (lookup (nat_eq handle.0) r.handles) refl))
    where
      by : (o : Option (Option HandleEntry)) → lookup (nat_eq handle.0) r.handles ≡ o → is_some (lookup (nat_eq handle.0) r.handles) ≡ true
      by None f = absurd (let no : free ≡ waits h = sym (ap (λ x. status_by (λ (x : HandleEntry). stream_status x.handle.kind x.poll_state) x) f) ∙ e in cc)
      by (Some o) f = rw f refl

  -- one of a line that sleeps, before those of the line who were woken
  module _ (b : NameState T) (s : Configuration T Waiter) (k : WokenSound b s) (line : WaitList) (name : Waiter)
      (asleep : IsUnwoken line name b.name_table b.order.woken) where
    abbrev r : NameTable T
    r = b.name_table

    abbrev woken : List Waiter
    woken = b.order.woken

    abbrev pends : Waiter → Bool
    pends w = is_pending_on line (status r w)

    abbrev mine : List Waiter
    mine = of_line (line_at (names_of r)) line woken

    pending : (w : Waiter) (h : ListenerRef) → status r w ≡ waits h → same_line line h.line ≡ true → 1 ≤ times w (filter pends (all_names r))
    pending w h e own =
        passes_there pends w (all_names r) (ap (λ (p : NameStatus). is_pending_on line p) e ∙ own) (taken_name r w h e)

    there : (w : Waiter) → is_among w (name ∷ mine) ≡ true → 1 ≤ times w (filter pends (all_names r))
    there w i = by (or_true (same_waiter w name) (is_among w mine) i)
      where
        by : (same_waiter w name ≡ true) ⊎ (is_among w mine ≡ true) → 1 ≤ times w (filter pends (all_names r))
        by (inl t) =
            pending w (record { line = line; key = asleep.0 }) (ap (status r) (same_sound w name t) ∙ asleep.1) (line_refl line)
        by (inr j) =
            let of = among_of_line (line_at (names_of r)) line w woken j in
            let h = k.pending w (among_is w woken of.0) in
            let own : Some h.0.line ≡ Some line = sym (line_of r w h.0 h.1) ∙ of.1 in
            let same : h.0.line ≡ line = ap (λ (o : Option WaitList). elim o [ None ↦ line | Some l ↦ l ]) own in
            pending w h.0 h.1 (ap (same_line line) same ∙ line_refl line)

    -- none of them twice
    once : (w : Waiter) → times w (name ∷ mine) ≤ 1
    once w = elim (decided (same_waiter w name)) [
      | inl t ↦ let none : times w mine ≡ 0 = by (decided (is_among w mine)) t in rw t (omega (arith, none))
      | inr t ↦
          let few = times_of_line (line_at (names_of r)) line w woken in
          let one = none_twice_times w woken k.once in
          rw t (omega (arith, few, one))
    ]
      where
        by : (is_among w mine ≡ true) ⊎ (is_among w mine ≡ false) → same_waiter w name ≡ true → times w mine ≡ 0
        by (inl i) t =
            let of = among_of_line (line_at (names_of r)) line w woken i in
            absurd (asleep.2 (subst (λ (x : Waiter). IsAmong x woken) (same_sound w name t) (among_is w woken of.0)))
        by (inr i) t = absent_counts w mine i

    -- so more are pending on it than are woken
    more_of_line : suc (woken_on line r woken) ≤ pending_on_line line r
    more_of_line =
        let more = no_longer (name ∷ mine) (filter pends (all_names r)) once there in
        let long = length-filter (λ w. is_line line (line_at (names_of r) w)) woken in
        let wide = length-filter pends (all_names r) in
        omega (arith, more, long, wide)

  -- ---- places

  few_unannounced : (at : Stage (QueueCall T) T Waiter) (d : Activity) → unannounced at d ≤ d.taken
  few_unannounced (Working (Leave x)) d = omega arith
  few_unannounced at d = omega arith

  all_few : (cs : List (CallUnderWay T)) → all_unannounced cs ≤ takings_of cs
  all_few [] = omega arith
  all_few (c ∷ cs) =
      let one = few_unannounced c.party.call.stage c.activity in
      let rest = all_few cs in
      omega (arith, one, rest)

  module _ (w : WorldState T) (k : Stands w) where
    pub no_receive_sleeps : NoReceiveSleeps (view_of w)
    no_receive_sleeps more = record {
      none = λ name asleep. let o = k.stands.owed in let most = o.receives name asleep in omega (arith, more, most);
    }

    pub no_send_sleeps : NoSendSleeps (view_of w)
    no_send_sleeps is_open fits = record {
      none = λ name asleep.
          let o = k.stands.owed in
          let few = all_few w.calls.items in
          none_fits (observation_of w).capacity _ _ (omega (arith, few)) fits (o.sends name asleep is_open);
    }

    pub no_stream_sleeps : NoStreamSleeps (view_of w)
    no_stream_sleeps none some = record {
      none = λ name asleep. let o = k.stands.owed in let one = o.streams name asleep some in omega (arith, one, none);
    }

    pub none_where_closed : NobodySleepsWhereClosed (view_of w)
    none_where_closed none shut line = record {
      none = λ name asleep. let o = k.stands.owed in let one = o.closing line name asleep shut in omega (arith, one, none);
    }

    pub a_line_awake : ALineIsAwake (view_of w)
    a_line_awake line same = record {
      none = λ name asleep. let more = more_of_line (name_state_of w) k.configuration k.stands.kept.woken line name asleep in omega (arith, more, same);
    }
