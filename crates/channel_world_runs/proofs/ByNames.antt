-- Steps of a merge, as steps by names: which may be taken, and what the name state is after them.
use Rattle.std.specs.Prelude.{◌≡◌, if◌then◌else◌, ◌||◌, ◌∷◌, ◌++◌}
use Rattle.channel_world_runs.proofs.Lemmas.{ℕ, nat_eq, Bool, true, false, arith, List, [], length, slice_get, Option, None, Some, refl, sym, ap, ◌∙◌, subst, nat_tests, Call, Waiter, WorldRefusal, Busy, Idle, ActiveCall, Configuration, Steps, ChannelEntry, NamesKept, NameStatus, status, Together, begin_refusal, step_refusal, is_at_work, NameState, IsNameStateOf, name_state_ended, with_woken, Agent, PartyId, Step, differ}
use Rattle.channel_steps.specs.every_run.Ends.{Each, IsIdle}
use Rattle.std.proofs.Math.Bool.{or-true}
use Rattle.channel_world_runs.proofs.OwnerTogether.{Parted, parted}

same : (a b : ℕ) → a ≡ b → nat_eq a b ≡ true
same a b e = grind (arith, nat_tests)

module _ {T : Type 0} where
  -- ---- a begin

  -- a party that has no call under way is not at work
  not_at_work : (statuses : Waiter → NameStatus) (p : ℕ) (agents : List (Agent T)) (us : List (ActiveCall T Waiter)) → Together statuses agents us
      → Each (λ (u : ActiveCall T Waiter). u.party ≡ p → ⊥) us → is_at_work p agents ≡ false
  not_at_work statuses p [] [] t idle = refl
  not_at_work statuses p (a ∷ more) (u ∷ us) t idle =
      ap (λ (b : Bool). b || is_at_work p more) (differ a.party p (λ e. idle.0 (sym t.0.party ∙ e)))
      ∙ not_at_work statuses p more us t.1 idle.1
  not_at_work statuses p more us t idle = absurd t

  -- it may begin a call that nothing refuses
  pub may_begin : (b : NameState T) (s : Configuration T Waiter) (q : PartyId) (c : Call T) → NamesKept b s → IsIdle q.0 s → begin_refusal b.name_table c ≡ None
      → step_refusal b.name_table b.agents (Step.Begin q c) ≡ None
  may_begin b s q c k idle free =
      ap (λ (x : Bool). if x then Some Busy else begin_refusal b.name_table c) (not_at_work (status b.name_table) q.0 b.agents s.under_way k.owned.together idle)
      ∙ free

  -- ---- a step

  at_work : (front : List (Agent T)) (a : Agent T) (back : List (Agent T)) (p : ℕ) → a.party ≡ p → is_at_work p (front ++ a ∷ back) ≡ true
  at_work [] a back p e = ap (λ (b : Bool). b || is_at_work p back) (same a.party p e)
  at_work (b ∷ front) a back p e = ap (λ (r : Bool). nat_eq b.party p || r) (at_work front a back p e) ∙ or-true (nat_eq b.party p)

  found : (front : List (Agent T)) (a : Agent T) (back : List (Agent T)) → slice_get (front ++ a ∷ back) (length front) ≡ Some a
  found [] a back = refl
  found (b ∷ front) a back = found front a back

  -- a step of a call under way is one of a party at work, and has a name state after it
  pub record MayStep (b : NameState T) (q : PartyId) (e : ChannelEntry T) (names : List Waiter) : Type 0 where
    pub accepted : step_refusal b.name_table b.agents (Step.Step q) ≡ None
    pub after : NameState T
    pub name_state : IsNameStateOf (Step.Step q) e.reply e.kept names b after

  pub may_step : (b : NameState T) (s t : Configuration T Waiter) (q : PartyId) (e : ChannelEntry T) (names : List Waiter) → NamesKept b s
      → Steps s q.0 e names t → MayStep b q e names
  may_step b s t q e names k st =
      let together = subst (λ (us : List (ActiveCall T Waiter)). Together (status b.name_table) b.agents us) st.there k.owned.together in
      let pt : Parted (status b.name_table) b.agents st.before st.mine st.behind = parted (status b.name_table) b.agents st.before st.mine st.behind together in
      let his : pt.agent.party ≡ q.0 = pt.own.party ∙ st.whose in
      let works : is_at_work q.0 b.agents ≡ true =
      ap (λ (l : List (Agent T)). is_at_work q.0 l) pt.are ∙ at_work pt.front pt.agent pt.back q.0 his in
      let there : slice_get b.agents (length pt.front) ≡ Some pt.agent =
      ap (λ (l : List (Agent T)). slice_get l (length pt.front)) pt.are ∙ found pt.front pt.agent pt.back in
      record {
        accepted = ap (λ (x : Bool). let r : Option WorldRefusal = (if x then None else Some Idle) in r) works;
        after = name_state_ended (length pt.front) pt.agent e.reply e.kept (with_woken names b);
        name_state = (length pt.front, pt.agent, there, his, refl);
      }
