-- Owners over steps.
use Rattle.std.specs.Prelude.{◌≡◌, if◌then◌else◌, ◌∷◌, ◌++◌, ◌⊎◌}
use Rattle.channel_world_runs.proofs.Lemmas.{ℕ, Bool, true, false, List, [], map, slice_get, Option, None, Some, inl, inr, refl, sym, ap, ◌∙◌, subst, remove, Phase, Channel, Effect, Mark, Reply, ListenerRef, Returned, WaitList, Stage, Trying, Working, Finished, Call, Waiter, Busy, Key, ActiveCall, Configuration, Steps, Known, AllKnown, sees, does, unless_ended, written_back, all_woken, order_settled, All, AnyOf, NameStatus, invalid, waits, status, holding, task_at, wait_of, line_asked, Bears, subject, AgentFits, Together, Differ, AllDiffer, Holder, named, calling, HoldsIn, Owned, begin_refusal, step_refusal, is_at_work, NameState, name_state_ended, with_woken, Agent, PartyId, Step, line_waits, IsBusy, IsCalm, IsLeft, Comes, Settles, settles, carries, waiter_or}
use Rattle.channel_world_runs.proofs.OwnerHolders.{Accounted, Passes, accounted}
use Rattle.channel_world_runs.proofs.OwnerMoves.{LeavesIt, Turnout, turnout}
use Rattle.channel_world_runs.proofs.OwnerSteps.{calm_waits, calm_amiss, busy_waits, calling_is, apart}
use Rattle.channel_world_runs.proofs.OwnerTogether.{HasIt, any_left, any_right, any_of, has_seen, had_seen, busy, Keeps, together_on, together_sees, together_join, Parted, parted, Beside, beside, is_agent, other_party}

module _ {T : Type 0} where
  known_of : (now : Channel T Waiter) (us : List (ActiveCall T Waiter)) (u : ActiveCall T Waiter) (vs : List (ActiveCall T Waiter))
      → AllKnown now (us ++ u ∷ vs) → Known now u
  known_of now [] u vs h = h.0
  known_of now (x ∷ us) u vs h = known_of now us u vs h.1

  -- ---- those that hold, beside the call that makes the step

  abbrev Beyond : ℕ → ListenerRef → List (ActiveCall T Waiter) → List (ActiveCall T Waiter) → Type 0
  Beyond q h before behind = AnyOf (HasIt q h) before ⊎ AnyOf (HasIt q h) behind

  split_before : (q : ℕ) (h : ListenerRef) (before : List (ActiveCall T Waiter)) (u : ActiveCall T Waiter) (behind : List (ActiveCall T Waiter))
      → AnyOf (HasIt q h) (before ++ u ∷ behind) → Beyond q h before behind ⊎ HasIt q h u
  split_before q h before u behind i = by (any_of (HasIt q h) before (u ∷ behind) i)
    where
      by : AnyOf (HasIt q h) before ⊎ AnyOf (HasIt q h) (u ∷ behind) → Beyond q h before behind ⊎ HasIt q h u
      by (inl j) = inl (inl j)
      by (inr (inl j)) = inr j
      by (inr (inr j)) = inl (inr j)

  split_after : (d : Channel T Waiter) (q : ℕ) (h : ListenerRef) (before now behind : List (ActiveCall T Waiter))
      → AnyOf (HasIt q h) (map (sees d) before ++ (now ++ map (sees d) behind)) → Beyond q h before behind ⊎ AnyOf (HasIt q h) now
  split_after d q h before now behind i = by (any_of (HasIt q h) (map (sees d) before) (now ++ map (sees d) behind) i)
    where
      deeper : AnyOf (HasIt q h) now ⊎ AnyOf (HasIt q h) (map (sees d) behind) → Beyond q h before behind ⊎ AnyOf (HasIt q h) now
      deeper (inl j) = inr j
      deeper (inr j) = inl (inr (had_seen d q h behind j))

      by : AnyOf (HasIt q h) (map (sees d) before) ⊎ AnyOf (HasIt q h) (now ++ map (sees d) behind)
          → Beyond q h before behind ⊎ AnyOf (HasIt q h) now
      by (inl j) = inl (inl (had_seen d q h before j))
      by (inr j) = deeper (any_of (HasIt q h) now (map (sees d) behind) j)

  beyond_after : (d : Channel T Waiter) (q : ℕ) (h : ListenerRef) (before now behind : List (ActiveCall T Waiter)) → Beyond q h before behind
      → AnyOf (HasIt q h) (map (sees d) before ++ (now ++ map (sees d) behind))
  beyond_after d q h before now behind (inl j) =
      any_left (HasIt q h) (map (sees d) before) (now ++ map (sees d) behind) (has_seen d q h before j)
  beyond_after d q h before now behind (inr j) = any_right (HasIt q h) (map (sees d) before) (now ++ map (sees d) behind)
      (any_right (HasIt q h) now (map (sees d) behind) (has_seen d q h behind j))

  pub now_after : (d : Channel T Waiter) (q : ℕ) (h : ListenerRef) (before now behind : List (ActiveCall T Waiter)) → AnyOf (HasIt q h) now
      → AnyOf (HasIt q h) (map (sees d) before ++ (now ++ map (sees d) behind))
  now_after d q h before now behind j =
      any_right (HasIt q h) (map (sees d) before) (now ++ map (sees d) behind) (any_left (HasIt q h) now (map (sees d) behind) j)

  -- ---- a call makes a step

  module _ (b : NameState T) (s t : Configuration T Waiter) (p : ℕ) (m : Mark) (r : Option (Reply T)) (kp : Option (Returned T))
      (names : List Waiter) (o : Owned b s) (known : AllKnown s.now s.under_way)
      (st : Steps s p (record { mark = m; reply = r; kept = kp }) names t) where
    abbrev P : Waiter → NameStatus
    P = status b.name_table

    abbrev effect : Effect T Waiter
    effect = record { channel = t.now; mark = m; woken = names }

    abbrev mine_now : ActiveCall T Waiter
    mine_now = does st.mine st.at_now m s.now t.now

    pub parts : Parted P b.agents st.before st.mine st.behind
    parts = parted P b.agents st.before st.mine st.behind
        (subst (λ (us : List (ActiveCall T Waiter)). Together P b.agents us) st.there o.together)

    pub sides : Beside parts.front parts.agent parts.back
    sides = beside parts.front parts.agent parts.back (subst (λ (l : List (Agent T)). AllDiffer l) parts.are o.differ)

    mine_known : Known s.now st.mine
    mine_known =
        known_of s.now st.before st.mine st.behind (subst (λ (us : List (ActiveCall T Waiter)). AllKnown s.now us) st.there known)

    pub out : Turnout T Waiter st.mine.ask s.now st.mine.at effect r st.at_now
    out = let k = mine_known in
        turnout T Waiter st.mine.ask s.now st.mine.at effect r st.at_now st.mine.marks st.mine.seen k.stands
        parts.own.bears st.moves

    accounts : Accounted (HoldsIn P s.under_way) s.now
    accounts = record { once = o.once; listed = o.listed; held = o.held; alone = o.alone }

    his_party : parts.agent.party ≡ p
    his_party = parts.own.party ∙ st.whose

    -- the others are of other parties
    others : (q : ℕ) (h : ListenerRef) → Beyond q h st.before st.behind → q ≡ p → ⊥
    others q h (inl i) e = other_party P parts.agent parts.front st.before q h parts.first sides.first i (e ∙ sym his_party)
    others q h (inr i) e = other_party P parts.agent parts.back st.behind q h parts.last sides.last i (e ∙ sym his_party)

    was_there : (q : ℕ) (h : ListenerRef) → Beyond q h st.before st.behind → HoldsIn P s.under_way (calling q) h
    was_there q h i = subst (λ (us : List (ActiveCall T Waiter)). AnyOf (HasIt q h) us) (sym st.there) (by i)
      where
        by : Beyond q h st.before st.behind → AnyOf (HasIt q h) (st.before ++ st.mine ∷ st.behind)
        by (inl j) = any_left (HasIt q h) st.before (st.mine ∷ st.behind) j
        by (inr j) = any_right (HasIt q h) st.before (st.mine ∷ st.behind) (inr j)

    pub was_mine : (h : ListenerRef) → holding st.mine.at ≡ Some h → HoldsIn P s.under_way (calling p) h
    was_mine h e = subst (λ (us : List (ActiveCall T Waiter)). AnyOf (HasIt p h) us) (sym st.there)
        (any_right (HasIt p h) st.before (st.mine ∷ st.behind) (inl (st.whose, e)))

    abbrev Now : List (ActiveCall T Waiter)
    Now = unless_ended mine_now r

    abbrev After : List (ActiveCall T Waiter)
    After = map (sees t.now) st.before ++ (Now ++ map (sees t.now) st.behind)

    pub forth_calling : (q : ℕ) (h : ListenerRef) → HoldsIn P s.under_way (calling q) h
        → AnyOf (HasIt q h) After ⊎ ((calling q ≡ calling p) × (holding st.mine.at ≡ Some h))
    forth_calling q h i = by
        (split_before q h st.before st.mine st.behind (subst (λ (us : List (ActiveCall T Waiter)). AnyOf (HasIt q h) us) st.there i))
      where
        by : Beyond q h st.before st.behind ⊎ HasIt q h st.mine
            → AnyOf (HasIt q h) After ⊎ ((calling q ≡ calling p) × (holding st.mine.at ≡ Some h))
        by (inl j) = inl (beyond_after t.now q h st.before Now st.behind j)
        by (inr j) = inr (ap calling (sym j.0 ∙ st.whose), j.1)

  -- it goes on
  module _ (b : NameState T) (s t : Configuration T Waiter) (p : ℕ) (m : Mark) (kp : Option (Returned T)) (names : List Waiter) (o : Owned b s)
      (known : AllKnown s.now s.under_way)
      (st : Steps s p (record { mark = m; reply = None; kept = kp }) names t) where
    abbrev on_out : Turnout T Waiter st.mine.ask s.now st.mine.at (record { channel = t.now; mark = m; woken = names }) None
        st.at_now
    on_out = out b s t p m None kp names o known st

    abbrev on_after : List (ActiveCall T Waiter)
    on_after = map (sees t.now) st.before ++ ((does st.mine st.at_now m s.now t.now ∷ []) ++ map (sees t.now) st.behind)

    goes_pass : Passes (HoldsIn (status b.name_table) s.under_way) (HoldsIn (status b.name_table) on_after) (holding st.mine.at) on_out.has
        (calling p) (calling p)
    goes_pass =
        record {
          back = back;
          forth = forth;
          old = λ h e. was_mine b s t p m None kp names o known st h e;
          new = λ h e. now_after t.now p h st.before (does st.mine st.at_now m s.now t.now ∷ []) st.behind
              (inl (st.whose, on_out.next.0 ∙ e));
        }
      where
        back : (x : Holder) (h : ListenerRef) → HoldsIn (status b.name_table) on_after x h
            → (HoldsIn (status b.name_table) s.under_way x h × (x ≡ calling p → ⊥)) ⊎ ((x ≡ calling p) × (on_out.has ≡ Some h))
        back (named v) h e = inl (e, apart v p)
        back (calling q) h i = by (split_after t.now q h st.before (does st.mine st.at_now m s.now t.now ∷ []) st.behind i)
          where
            by : Beyond q h st.before st.behind ⊎ AnyOf (HasIt q h) (does st.mine st.at_now m s.now t.now ∷ [])
                → (HoldsIn (status b.name_table) s.under_way (calling q) h × (calling q ≡ calling p → ⊥))
                ⊎ ((calling q ≡ calling p) × (on_out.has ≡ Some h))
            by (inl j) = inl (
              was_there b s t p m None kp names o known st q h j,
              λ e. others b s t p m None kp names o known st q h j
                  (calling_is q p e),
            )
            by (inr (inl j)) = inr (ap calling (sym j.0 ∙ st.whose), sym on_out.next.0 ∙ j.1)
            by (inr (inr j)) = absurd j

        forth : (x : Holder) (h : ListenerRef) → HoldsIn (status b.name_table) s.under_way x h
            → HoldsIn (status b.name_table) on_after x h ⊎ ((x ≡ calling p) × (holding st.mine.at ≡ Some h))
        forth (named v) h e = inl e
        forth (calling q) h i = forth_calling b s t p m None kp names o known st q h i

    bears_on : (a c : Option Waiter) (wait : Option (WaitList × Waiter)) → (a ≡ None) ⊎ (a ≡ c) → Bears c wait → Bears a wait
    bears_on a c wait (inl e) h = subst (λ (x : Option Waiter). Bears x wait) (sym e) tt
    bears_on a c wait (inr e) h = subst (λ (x : Option Waiter). Bears x wait) (sym e) h

    own_line : (q : Parted (status b.name_table) b.agents st.before st.mine st.behind) (h : ListenerRef) → (holding st.mine.at ≡ Some h)
        ⊎ ((task : Waiter) × (wait_of st.mine.ask ≡ Some (h.line, task))) → line_asked st.mine.ask ≡ Some h.line
    own_line q h (inl e) = let f = q.own in f.lines h e
    own_line q h (inr (task, e)) = line_waits st.mine.ask h.line task e

    goes_owned : Owned (with_woken names b) t
    goes_owned =
        let pt = parts b s t p m None kp names o known st in
        let a = accounted s.now t.now names (holding st.mine.at) on_out.has (HoldsIn (status b.name_table) s.under_way)
        (HoldsIn (status b.name_table) on_after) (calling p) (calling p) on_out.lists on_out.how goes_pass
        (accounts b s t p m None kp names o known st) in
        let own : AgentFits (status b.name_table) pt.agent (does st.mine st.at_now m s.now t.now) =
        record {
          party = pt.own.party;
          suits = pt.own.suits;
          bears = bears_on (task_at st.at_now) (task_at st.mine.at) (wait_of st.mine.ask) on_out.next.1 pt.own.bears;
          lines = λ h i. own_line pt h (on_out.own h (sym on_out.next.0 ∙ i));
        } in
        let front = together_sees t.now (status b.name_table) pt.front st.before pt.first in
        let back = together_sees t.now (status b.name_table) pt.back st.behind pt.last in
        let all : Together (status b.name_table) (pt.front ++ pt.agent ∷ pt.back) on_after = together_join (status b.name_table) pt.front
        (pt.agent ∷ pt.back) (map (sees t.now) st.before) (does st.mine st.at_now m s.now t.now ∷ map (sees t.now) st.behind)
        front (own, back) in
        subst (λ (us : List (ActiveCall T Waiter)). Owned (with_woken names b)
        (record { now = t.now; blocks = t.blocks; under_way = us; gone = t.gone; came = t.came })) (sym st.left) (
        record {
          together = subst (λ (l : List (Agent T)). Together (status b.name_table) l on_after) (sym pt.are) all;
          differ = o.differ;
          none_amiss = o.none_amiss;
          once = a.once;
          listed = a.listed;
          held = a.held;
          alone = a.alone;
        }
        )

pub inner : {X : Type 0} (x y : X) → Some x ≡ Some y → x ≡ y
inner x y e = cc e

pub subject_or : (x : Option Waiter) (v : Waiter) → (x ≡ Some v) ⊎ (x ≡ Some v → ⊥)
subject_or None v = inr (λ e. absurd (let no : None ≡ Some v = e in cc))
subject_or (Some w) v = by (waiter_or w v)
  where
    by : (w ≡ v) ⊎ (w ≡ v → ⊥) → (Some w ≡ Some v) ⊎ (Some w ≡ Some v → ⊥)
    by (inl e) = inl (ap (λ (x : Waiter). let o : Option Waiter = Some x in o) e)
    by (inr f) = inr (λ e. f (inner w v e))

pub waits_is : (h k : ListenerRef) → waits h ≡ waits k → h ≡ k
waits_is h k e = cc e

no_waits_amiss : (h : ListenerRef) → waits h ≡ invalid → ⊥
no_waits_amiss h e = absurd (cc e)

module _ {T : Type 0} where
  finished_is : (x y : Returned T) (at : Stage (Phase T) T Waiter) → at ≡ Finished x → at ≡ Finished y → x ≡ y
  finished_is x y at e f =
      ap (λ (z : Stage (Phase T) T Waiter). elim z [ Finished k ↦ k | Trying c a ↦ x | Working w ↦ x ]) (sym e ∙ f)

  -- where the names of others stand as before
  differ_keep : (p p' : Waiter → NameStatus) (a : Agent T) (others : List (Agent T)) → All (Differ a) others
      → ((v : Waiter) → (subject a.on_return ≡ Some v → ⊥) → p' v ≡ p v) → All (Keeps p p') others
  differ_keep p p' a [] d f = tt
  differ_keep p p' a (x ∷ more) d f = (λ v e. f v (λ own. d.0.name v own e), differ_keep p p' a more d.1 f)

  -- it ends
  module _ (b : NameState T) (s t : Configuration T Waiter) (p : ℕ) (m : Mark) (y : Reply T) (kp : Option (Returned T)) (names : List Waiter)
      (o : Owned b s) (known : AllKnown s.now s.under_way)
      (st : Steps s p (record { mark = m; reply = Some y; kept = kp }) names t) where
    abbrev pt : Parted (status b.name_table) b.agents st.before st.mine st.behind
    pt = parts b s t p m (Some y) kp names o known st

    abbrev end_out : Turnout T Waiter st.mine.ask s.now st.mine.at (record { channel = t.now; mark = m; woken = names })
        (Some y) st.at_now
    end_out = out b s t p m (Some y) kp names o known st

    abbrev wait : Option (WaitList × Waiter)
    wait = wait_of st.mine.ask

    -- what the call leaves
    abbrev kept : Returned T
    kept = let f = st.finishes in f.kept

    abbrev E2 : Waiter → NameStatus
    E2 = status (written_back pt.agent.on_return y kept b.name_table)

    pub leaves : LeavesIt T Waiter st.mine.ask kept end_out.has t.now
    leaves = let f = st.finishes in
        subst (λ (k : Returned T). LeavesIt T Waiter st.mine.ask k end_out.has t.now)
        (finished_is end_out.next.0 kept st.at_now end_out.next.1 f.at_end) end_out.next.2

    is_left : IsLeft kept wait
    is_left = by leaves
      where
        by : LeavesIt T Waiter st.mine.ask kept end_out.has t.now → IsLeft kept wait
        by (inl l) = inl l.1
        by (inr (line, key, task, h, k, w, there)) = let f = st.finishes in
            inr (line, key, task, k, w, carries st.mine.ask y kept key line task f.keeps k w)

    pub busy_own : (v : Waiter) → subject pt.agent.on_return ≡ Some v → IsBusy (status b.name_table v)
    busy_own v e = busy (status b.name_table) pt.agent.on_return wait v pt.own.suits e

    pub set : Settles (status b.name_table) E2 pt.agent.on_return kept wait
    set = settles b.name_table pt.agent.on_return y kept wait is_left pt.own.suits

    abbrev end_calls : List (ActiveCall T Waiter)
    end_calls = map (sees t.now) st.before ++ map (sees t.now) st.behind

    abbrev pub end_name_state : NameState T
    end_name_state = record {
      name_table = written_back pt.agent.on_return y kept b.name_table;
      order = order_settled pt.agent.on_return kept.key (all_woken b.name_table names b.order);
      agents = pt.front ++ pt.back;
    }

    abbrev Pass : Holder → Type 0
    Pass taker = Passes (HoldsIn (status b.name_table) s.under_way) (HoldsIn E2 end_calls) (holding st.mine.at) end_out.has
        (calling p) taker

    end_owned : (taker : Holder) → Pass taker → ((v : Waiter) → E2 v ≡ invalid → ⊥) → Owned end_name_state t
    end_owned taker pass sane =
        let a = accounted s.now t.now names (holding st.mine.at) end_out.has (HoldsIn (status b.name_table) s.under_way)
        (HoldsIn E2 end_calls) (calling p) taker end_out.lists end_out.how pass
        (accounts b s t p m (Some y) kp names o known st) in
        let sd = sides b s t p m (Some y) kp names o known st in
        let front = together_sees t.now E2 pt.front st.before
        (together_on (status b.name_table) E2 pt.front st.before (differ_keep (status b.name_table) E2 pt.agent pt.front sd.first set.others) pt.first) in
        let back = together_sees t.now E2 pt.back st.behind
        (together_on (status b.name_table) E2 pt.back st.behind (differ_keep (status b.name_table) E2 pt.agent pt.back sd.last set.others) pt.last) in
        subst (λ (us : List (ActiveCall T Waiter)). Owned end_name_state
        (record { now = t.now; blocks = t.blocks; under_way = us; gone = t.gone; came = t.came })) (sym st.left) (
        record {
          together = together_join E2 pt.front pt.back (map (sees t.now) st.before) (map (sees t.now) st.behind) front back;
          differ = sd.rest;
          none_amiss = sane;
          once = a.once;
          listed = a.listed;
          held = a.held;
          alone = a.alone;
        }
        )

    -- a name at which it didn't work
    back_named : (taker : Holder) (v : Waiter) (h : ListenerRef) → (subject pt.agent.on_return ≡ Some v → ⊥) → E2 v ≡ waits h
        → (HoldsIn (status b.name_table) s.under_way (named v) h × (named v ≡ calling p → ⊥))
        ⊎ ((named v ≡ taker) × (end_out.has ≡ Some h))
    back_named taker v h other e = inl (sym (set.others v other) ∙ e, apart v p)

    pub back_calling : (taker : Holder) (q : ℕ) (h : ListenerRef) → AnyOf (HasIt q h) end_calls
        → (HoldsIn (status b.name_table) s.under_way (calling q) h × (calling q ≡ calling p → ⊥))
        ⊎ ((calling q ≡ taker) × (end_out.has ≡ Some h))
    back_calling taker q h i = by (split_after t.now q h st.before [] st.behind i)
      where
        by : Beyond q h st.before st.behind ⊎ (let none : List (ActiveCall T Waiter) = [] in AnyOf (HasIt q h) none)
            → (HoldsIn (status b.name_table) s.under_way (calling q) h × (calling q ≡ calling p → ⊥))
            ⊎ ((calling q ≡ taker) × (end_out.has ≡ Some h))
        by (inl j) = inl (
          was_there b s t p m (Some y) kp names o known st q h j,
          λ e. others b s t p m (Some y) kp names o known st q h j
              (calling_is q p e),
        )
        by (inr j) = absurd j

    forth : (x : Holder) (h : ListenerRef) → HoldsIn (status b.name_table) s.under_way x h
        → HoldsIn E2 end_calls x h ⊎ ((x ≡ calling p) × (holding st.mine.at ≡ Some h))
    forth (named v) h e = inl (set.others v (λ own. busy_waits (status b.name_table v) h (busy_own v own) e) ∙ e)
    forth (calling q) h i = forth_calling b s t p m (Some y) kp names o known st q h i

    -- it leaves no listener
    leaves_none : end_out.has ≡ None → ((v : Waiter) → subject pt.agent.on_return ≡ Some v → IsCalm (E2 v)) → Owned end_name_state t
    leaves_none none calm = end_owned (calling p)
        (record {
          back = back;
          forth = forth;
          old = λ h e. was_mine b s t p m (Some y) kp names o known st h e;
          new = λ h e. absurd (let no : None ≡ Some h = sym none ∙ e in cc);
        }) sane
      where
        back : (x : Holder) (h : ListenerRef) → HoldsIn E2 end_calls x h → (HoldsIn (status b.name_table) s.under_way x h × (x ≡ calling p → ⊥))
            ⊎ ((x ≡ calling p) × (end_out.has ≡ Some h))
        back (named v) h e = back_named (calling p) v h (λ own. calm_waits (E2 v) h (calm v own) e) e
        back (calling q) h i = back_calling (calling p) q h i

        sane : (v : Waiter) → E2 v ≡ invalid → ⊥
        sane v e = by (subject_or (subject pt.agent.on_return) v)
          where
            by : (subject pt.agent.on_return ≡ Some v) ⊎ (subject pt.agent.on_return ≡ Some v → ⊥) → ⊥
            by (inl own) = calm_amiss (E2 v) (calm v own) e
            by (inr other) = o.none_amiss v (sym (set.others v other) ∙ e)

    -- it leaves one, and its name is pending
    leaves_one : (h : ListenerRef) (task : Waiter) → end_out.has ≡ Some h → subject pt.agent.on_return ≡ Some task → E2 task ≡ waits h
        → Owned end_name_state t
    leaves_one h task has whose is = end_owned (named task)
        (record { back = back; forth = forth; old = λ k e. was_mine b s t p m (Some y) kp names o known st k e; new = new }) sane
      where
        -- the name is this one
        same_name : (v : Waiter) → subject pt.agent.on_return ≡ Some v → v ≡ task
        same_name v own = inner v task (sym own ∙ whose)

        same_held : (v : Waiter) (k : ListenerRef) → subject pt.agent.on_return ≡ Some v → E2 v ≡ waits k → k ≡ h
        same_held v k own e = waits_is k h (sym e ∙ (ap E2 (same_name v own) ∙ is))

        new : (k : ListenerRef) → end_out.has ≡ Some k → HoldsIn E2 end_calls (named task) k
        new k e = is ∙ ap (λ (x : ListenerRef). waits x) (inner h k (sym has ∙ e))

        back : (x : Holder) (k : ListenerRef) → HoldsIn E2 end_calls x k → (HoldsIn (status b.name_table) s.under_way x k × (x ≡ calling p → ⊥))
            ⊎ ((x ≡ named task) × (end_out.has ≡ Some k))
        back (named v) k e = by (subject_or (subject pt.agent.on_return) v)
          where
            by : (subject pt.agent.on_return ≡ Some v) ⊎ (subject pt.agent.on_return ≡ Some v → ⊥)
                → (HoldsIn (status b.name_table) s.under_way (named v) k × (named v ≡ calling p → ⊥))
                ⊎ ((named v ≡ named task) × (end_out.has ≡ Some k))
            by (inl own) = inr (
              ap named (same_name v own),
              has ∙ ap (λ (x : ListenerRef). let z : Option ListenerRef = Some x in z)
                  (sym (same_held v k own e)),
            )
            by (inr other) = back_named (named task) v k other e
        back (calling q) k i = back_calling (named task) q k i

        sane : (v : Waiter) → E2 v ≡ invalid → ⊥
        sane v e = by (subject_or (subject pt.agent.on_return) v)
          where
            by : (subject pt.agent.on_return ≡ Some v) ⊎ (subject pt.agent.on_return ≡ Some v → ⊥) → ⊥
            by (inl own) = no_waits_amiss h (sym is ∙ (ap E2 (sym (same_name v own)) ∙ e))
            by (inr other) = o.none_amiss v (sym (set.others v other) ∙ e)

    ends_owned : Owned end_name_state t
    ends_owned = by leaves set.own
      where
        by : LeavesIt T Waiter st.mine.ask kept end_out.has t.now → Comes E2 pt.agent.on_return kept wait → Owned end_name_state t
        by (inl l) (inl c) = leaves_none l.0 c.1
        by (inl l) (inr (line, key, task, k, w, whose, is)) = absurd (let no : None ≡ Some key = sym l.1 ∙ k in cc)
        by (inr (line, key, task, h, k, w, there)) (inl c) = absurd (let no : None ≡ Some key = sym c.0 ∙ k in cc)
        by (inr (line, key, task, h, k, w, there)) (inr (line', key', task', k', w', whose, is)) =
            let same_key : key' ≡ key = inner key' key (sym k' ∙ k) in
            let same : (let x : WaitList × Waiter = (line', task') in x) ≡ (line, task) = inner _ _ (sym w' ∙ w) in
            let task_is : task' ≡ task = ap (λ (x : WaitList × Waiter). x.1) same in
            let line_is : line' ≡ line = ap (λ (x : WaitList × Waiter). x.0) same in
            leaves_one (record { line = line; key = key }) task h (whose ∙ ap (λ (x : Waiter). Some x) task_is)
            (ap E2 (sym task_is)
            ∙ (is ∙ (ap (λ (x : WaitList). waits (record { line = x; key = key' })) line_is
            ∙ ap (λ (x : Key). waits (record { line = line; key = x })) same_key)))

  -- ---- any step

  -- the name state after an end, given who ended and what it left
  ended_is : (k : ℕ) (a a' : Agent T) (y : Reply T) (kp : Option (Returned T)) (kept : Returned T) (b : NameState T)
      (rest : List (Agent T)) → a ≡ a' → kp ≡ Some kept → remove b.agents k ≡ rest
      → name_state_ended k a (Some y) kp b
      ≡ record { name_table = written_back a'.on_return y kept b.name_table; order = order_settled a'.on_return kept.key b.order; agents = rest }
  ended_is k a a' y kp kept b rest same given left =
      ap (λ (x : Agent T). name_state_ended k x (Some y) kp b) same
      ∙ (ap (λ (x : Option (Returned T)). name_state_ended k a' (Some y) x b) given
      ∙ ap (λ (l : List (Agent T)).
      record { name_table = written_back a'.on_return y kept b.name_table; order = order_settled a'.on_return kept.key b.order; agents = l }) left)

  -- the name state after a step of a party
  abbrev pub IsAfter : NameState T → PartyId → Option (Reply T) → Option (Returned T) → List Waiter → NameState T → Type 0
  IsAfter b q r kp names c =
      (k : ℕ) × (a : Agent T) × (slice_get b.agents k ≡ Some a) × (a.party ≡ q.0) × (c ≡ name_state_ended k a r kp (with_woken names b))

  -- where its call ends, that is without its agent, and what this has to write back is written
  pub ended_as : (b c : NameState T) (s t : Configuration T Waiter) (q : PartyId) (m : Mark) (y : Reply T) (kp : Option (Returned T))
      (names : List Waiter) (o : Owned b s) (known : AllKnown s.now s.under_way)
      (st : Steps s q.0 (record { mark = m; reply = Some y; kept = kp }) names t) → IsAfter b q (Some y) kp names c
      → c ≡ end_name_state b s t q.0 m y kp names o known st
  ended_as b c s t q m y kp names o known st after =
      let pt = parts b s t q.0 m (Some y) kp names o known st in
      let f = st.finishes in
      let his : pt.agent.party ≡ q.0 = pt.own.party ∙ st.whose in
      let is = is_agent pt.front pt.agent pt.back after.0 after.1 (subst (λ (l : List (Agent T)). AllDiffer l) pt.are o.differ)
      (ap (λ (l : List (Agent T)). slice_get l after.0) (sym pt.are) ∙ after.2) (after.3 ∙ sym his) in
      let rest : remove b.agents after.0 ≡ pt.front ++ pt.back = ap (λ (l : List (Agent T)). remove l after.0) pt.are
      ∙ is.without in
      after.4 ∙ ended_is after.0 after.1 pt.agent y kp f.kept (with_woken names b) (pt.front ++ pt.back) is.same f.given rest

  pub stepped : (b c : NameState T) (s t : Configuration T Waiter) (q : PartyId) (m : Mark) (r : Option (Reply T)) (kp : Option (Returned T))
      (names : List Waiter) → Owned b s → AllKnown s.now s.under_way
      → Steps s q.0 (record { mark = m; reply = r; kept = kp }) names t → IsAfter b q r kp names c → Owned c t
  stepped b c s t q m None kp names o known st after =
      subst (λ (d : NameState T). Owned d t) (sym after.4) (goes_owned b s t q.0 m kp names o known st)
  stepped b c s t q m (Some y) kp names o known st after =
      subst (λ (d : NameState T). Owned d t) (sym (ended_as b c s t q m y kp names o known st after))
      (ends_owned b s t q.0 m y kp names o known st)

  pub idle_and_free : (q : PartyId) (c : Call T) (b : NameState T) → step_refusal b.name_table b.agents (Step.Begin q c) ≡ None
      → (is_at_work q.0 b.agents ≡ false) × (begin_refusal b.name_table c ≡ None)
  idle_and_free q c b h = by (is_at_work q.0 b.agents) refl h
    where
      by : (x : Bool) → is_at_work q.0 b.agents ≡ x → (if x then Some Busy else begin_refusal b.name_table c) ≡ None
          → (is_at_work q.0 b.agents ≡ false) × (begin_refusal b.name_table c ≡ None)
      by true e g = absurd (let no : Some Busy ≡ None = g in cc)
      by false e g = (e, g)
