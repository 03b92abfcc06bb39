-- One that was woken is told, and one that wasn't waits: in a channel that was just opened, and after every step.
use Rattle.std.specs.Prelude.{◌≡◌, ◌∷◌, ◌++◌, ◌⊎◌}
use Rattle.channel_world_runs.proofs.Lemmas.{ℕ, true, false, List, [], map, Option, None, Some, is_some, inl, inr, refl, sym, ap, ◌∙◌, subst, keys_of, Key, Channel, listeners, ChannelAsk, Mark, Reply, ListenerRef, Returned, WaitList, Sends, keeper_in, Call, Waiter, Op, Stream, Begins, new_configuration, begun_active_call, ActiveCall, Configuration, Steps, AllKnown, sees, does, ChannelEntry, IsOrListens, asks, on_return_of, names_begun, written_back, first_name_table, names_of, held_of, is_name_pending, WakeOrder, no_places, placed, without_place, all_woken, order_begun, order_settled, IsAmong, NoneTwice, All, AnyOf, NameStatus, free, retired, invalid, waits, polled, status, holding, task_at, wait_of, Bears, subject, Suits, Together, Differ, IsListed, WaitsToWake, named, calling, HoldsIn, Owned, IsAway, IsTold, IsMarked, NeedsPlace, NoneWorks, IsOwn, WokenSound, NameState, with_woken, name_state_begun, Agent, OnReturn, NameTable, PartyId, holds_same, starts, IsBusy, held_in, Ordered, Quiet, Touches, Admitted, IsCalm, Comes, IsGone, among_left, among_right, among_of, waiter_or, is_out, all_placed, all_stay, all_come, all_there, all_once, settled_places, settled_keeps, settled_woken, settled_back, settled_once, BeginsOrder, begins_same, begins_placed, begins_removed, Pends, holds_it, pends}
use Rattle.channel_world_runs.specs.OwnerWoken.{Works}
use Rattle.channel_world_runs.proofs.OwnerCalls.{BeginsSo, begins_so}
use Rattle.channel_world_runs.proofs.OwnerMoves.{LeavesIt, Turnout}
use Rattle.channel_world_runs.proofs.OwnerRuns.{parts, sides, out, was_mine, now_after, forth_calling, inner, subject_or, waits_is, busy_own, set, leaves, back_calling, end_name_state, IsAfter, ended_as}
use Rattle.channel_world_runs.proofs.OwnerSteps.{calm_waits, busy_waits, busy_loose, first_calm, calling_is, apart}
use Rattle.channel_world_runs.proofs.OwnerTogether.{HasIt, any_left, any_right, all_join, all_left, all_right, busy, Parted}
use Rattle.channel_world_runs.proofs.OwnerWokenLists.{key_of_entry}
use Rattle.channel_world_runs.proofs.OwnerWokenMoves.{Follows, follows}

-- ---- names

abbrev on : WaitList → Key → ListenerRef
on line key = record { line = line; key = key }

away_busy : (p : NameStatus) → IsAway p → IsBusy p
away_busy p (inl e) = subst IsBusy (sym e) tt
away_busy p (inr e) = subst IsBusy (sym e.1) tt

busy_away : (p : NameStatus) → IsBusy p → IsAway p
busy_away retired h = inl refl
busy_away (polled line) h = inr (line, refl)
busy_away x h = absurd h

calm_placeless : (x : NameStatus) → IsCalm x → NeedsPlace x → ⊥
calm_placeless x k (inl (h, e)) = calm_waits x h k e
calm_placeless x k (inr (line, e)) = subst IsCalm e k

neither : {A B : Type 0} → (A → ⊥) → (B → ⊥) → A ⊎ B → ⊥
neither f g (inl a) = f a
neither f g (inr b) = g b

among_or : (v : Waiter) (ws : List Waiter) → IsAmong v ws ⊎ (IsAmong v ws → ⊥)
among_or v [] = inr (λ i. i)
among_or v (w ∷ ws) = by (waiter_or w v) (among_or v ws)
  where
    by : (w ≡ v) ⊎ (w ≡ v → ⊥) → IsAmong v ws ⊎ (IsAmong v ws → ⊥) → IsAmong v (w ∷ ws) ⊎ (IsAmong v (w ∷ ws) → ⊥)
    by (inl e) x = inl (inl e)
    by (inr f) (inl i) = inl (inr i)
    by (inr f) (inr g) = inr (neither f g)

-- one that was marked stays so, where it is told, or waits, still, and its name stays woken, or not
still_marked : {T : Type 0} (v : Waiter) (woken woken' : List Waiter) (h : ListenerRef) (c d : Channel T Waiter)
    → (IsAmong v woken → IsAmong v woken') → (IsAmong v woken' → IsAmong v woken) → (IsTold h c → IsTold h d) → (WaitsToWake h v c → WaitsToWake h v d)
    → IsMarked v woken h c → IsMarked v woken' h d
still_marked v woken woken' h c d there back told waiting (inl m) = inl (there m.0, told m.1)
still_marked v woken woken' h c d there back told waiting (inr m) = inr (λ i. m.0 (back i), waiting m.1)

module _ (T : Type 0) where
  nobody_waits : (cap : Option ℕ) (line : WaitList) (key : Key) (v : Waiter) → WaitsToWake {T = T} {W = Waiter}
      (record { line = line; key = key }) v (new_configuration cap).now → ⊥
  nobody_waits cap Sends key v i = i
  nobody_waits cap x key v i = i

  -- a channel that was just opened
  pub woken_first : (cap : Option ℕ) → WokenSound {T = T} (record { name_table = first_name_table; order = no_places; agents = [] }) (new_configuration cap)
  woken_first cap =
      record {
        stands = λ v h e. absurd (calm_waits (status {T = T} first_name_table v) h (first_calm T v) e);
        pending = λ v i. absurd i;
        once = tt;
        placed = λ v n. absurd (calm_placeless (status {T = T} first_name_table v) (first_calm T v) n);
        tasks = λ v h i. absurd (nobody_waits cap h.line h.key v i);
      }

module _ {T : Type 0} where
  -- who is pending
  pub waits_pending : (r : NameTable T) (v : Waiter) (h : ListenerRef) → status r v ≡ waits h → is_name_pending r v ≡ true
  waits_pending r v h e = ap (λ (o : Option Key). is_some o) (holds_it r v h e)

  pub pending_waits : (r : NameTable T) (v : Waiter) → (status r v ≡ invalid → ⊥) → is_name_pending r v ≡ true → (h : ListenerRef) × (status r v ≡ waits h)
  pending_waits r v sane e = by (held_of r v) refl e
    where
      at : (key : Key) → Pends (status r v) key → (h : ListenerRef) × (status r v ≡ waits h)
      at key (inl bad) = absurd (sane bad)
      at key (inr x) = (on x.0 key, x.1)

      by : (o : Option Key) → held_of r v ≡ o → is_some o ≡ true → (h : ListenerRef) × (status r v ≡ waits h)
      by None f g = absurd (let no : false ≡ true = g in cc)
      by (Some key) f g = at key (pends r v key f)

  works_busy : (p : Waiter → NameStatus) (agents : List (Agent T)) (us : List (ActiveCall T Waiter)) (a : Agent T) (v : Waiter)
      → Together p agents us → IsAmong a agents → subject a.on_return ≡ Some v → IsBusy (p v)
  works_busy p [] us a v t i e = absurd i
  works_busy p (x ∷ more) [] a v t i e = absurd t
  works_busy p (x ∷ more) (u ∷ us) a v t (inl same) e =
      busy p x.on_return _ v t.0.suits (ap (λ (y : Agent T). subject y.on_return) same ∙ e)
  works_busy p (x ∷ more) (u ∷ us) a v t (inr i) e = works_busy p more us a v t.1 i e

  none_works : (p : Waiter → NameStatus) (agents : List (Agent T)) (us : List (ActiveCall T Waiter)) (v : Waiter) → Together p agents us
      → (IsBusy (p v) → ⊥) → NoneWorks v agents
  none_works p [] us v t f = tt
  none_works p (a ∷ more) [] v t f = absurd t
  none_works p (a ∷ more) (u ∷ us) v t f = (λ e. f (busy p a.on_return _ v t.0.suits e), none_works p more us v t.1 f)

  -- each that is pending, and for whose name a listener waits, is pending with that one
  own_held : (b : NameState T) (s : Configuration T Waiter) → Owned b s → (v : Waiter) (h k : ListenerRef)
      → IsOwn b s.under_way v h → status b.name_table v ≡ waits k → h ≡ k
  own_held b s o v h k (inl x) e = waits_is h k (sym x ∙ e)
  own_held b s o v h k (inr (inl x)) e =
      absurd (busy_waits (status b.name_table v) k (works_busy (status b.name_table) b.agents s.under_way x.0 v o.together x.1 x.2) e)
  own_held b s o v h k (inr (inr x)) e = absurd (busy_waits (status b.name_table v) k (away_busy (status b.name_table v) x.0) e)

  suits_name : (p : Waiter → NameStatus) (e : OnReturn T) (line : WaitList) (v : Waiter) (wait : Option (WaitList × Waiter)) → Suits p e wait
      → wait ≡ Some (line, v) → subject e ≡ Some v
  suits_name p (OnReturn.Poll op) line v wait s w = by s.2
    where
      by : (wait ≡ None) ⊎ (wait ≡ Some (s.0, Op op)) → Some (Op op) ≡ Some v
      by (inl none) = absurd (let no : None ≡ Some (line, v) = sym none ∙ w in cc)
      by (inr some) = ap (λ (o : Option (WaitList × Waiter)). elim o [ None ↦ Some v | Some x ↦ Some x.1 ]) (sym some ∙ w)
  suits_name p (OnReturn.PollNext receiver) line v wait s w = by s.2
    where
      by : (wait ≡ None) ⊎ (wait ≡ Some (s.0, Stream receiver)) → Some (Stream receiver) ≡ Some v
      by (inl none) = absurd (let no : None ≡ Some (line, v) = sym none ∙ w in cc)
      by (inr some) = ap (λ (o : Option (WaitList × Waiter)). elim o [ None ↦ Some v | Some x ↦ Some x.1 ]) (sym some ∙ w)
  suits_name p (OnReturn.Make op operation) line v wait s w = absurd (let no : None ≡ Some (line, v) = sym s.2 ∙ w in cc)
  suits_name p (OnReturn.New from new kind) line v wait s w = absurd (let no : None ≡ Some (line, v) = sym s.1 ∙ w in cc)
  suits_name p z line v wait s w = absurd (let no : None ≡ Some (line, v) = sym s ∙ w in cc)

  listed_of : (h : ListenerRef) (w : Waiter) (c : Channel T Waiter) → WaitsToWake h w c → IsListed h c
  listed_of h w c i = among_right h.key (keys_of (listeners h.line c.wait_lists).told)
      (keys_of (listeners h.line c.wait_lists).waiting) (key_of_entry (h.key, Some w) (listeners h.line c.wait_lists).waiting i)

  -- what waits is polled
  suits_polled : (p : Waiter → NameStatus) (e : OnReturn T) (wait : Option (WaitList × Waiter)) (line : WaitList) (task v : Waiter)
      → Suits p e wait → wait ≡ Some (line, task) → subject e ≡ Some v → (l : WaitList) × (p v ≡ polled l)
  suits_polled p (OnReturn.Poll op) wait line task v s w e = (s.0, ap p (sym (inner (Op op) v e)) ∙ s.1)
  suits_polled p (OnReturn.PollNext receiver) wait line task v s w e = (s.0, ap p (sym (inner (Stream receiver) v e)) ∙ s.1)
  suits_polled p (OnReturn.Make op operation) wait line task v s w e =
      absurd (let no : None ≡ Some (line, task) = sym s.2 ∙ w in cc)
  suits_polled p (OnReturn.New from new kind) wait line task v s w e =
      absurd (let no : None ≡ Some (line, task) = sym s.1 ∙ w in cc)
  suits_polled p z wait line task v s w e = absurd (let no : None ≡ Some v = e in cc)

  -- ---- a call begins

  module _ (q : PartyId) (c : Call T) (b : NameState T) (a : ChannelAsk T Waiter) (s t : Configuration T Waiter) (e : ChannelEntry T)
      (is : IsOrListens (asks b.name_table c) a) (n : Begins s q.0 a e t) (o : Owned b s) (w : WokenSound b s) where
    abbrev P : Waiter → NameStatus
    P = status b.name_table

    abbrev P' : Waiter → NameStatus
    P' = status (names_begun b.name_table c)

    abbrev begun : NameState T
    begun = name_state_begun q c b

    abbrev new_agent : Agent T
    new_agent = record { party = q.0; on_return = on_return_of b.name_table c }

    abbrev new_call : ActiveCall T Waiter
    new_call = begun_active_call q.0 a n.at s.now

    abbrev calls : List (ActiveCall T Waiter)
    calls = s.under_way ++ new_call ∷ []

    abbrev Idle : Waiter → Agent T → Type 0
    Idle v x = subject x.on_return ≡ Some v → ⊥

    more_work : (v : Waiter) (h : ListenerRef) → Works v h b.agents s.under_way → Works v h (b.agents ++ new_agent ∷ []) calls
    more_work v h (x, j, i, has) =
        (x, among_left x b.agents (new_agent ∷ []) j, i, any_left (HasIt x.party h) s.under_way (new_call ∷ []) has)

    none_more : (v : Waiter) → NoneWorks v b.agents → Idle v new_agent → NoneWorks v (b.agents ++ new_agent ∷ [])
    none_more v h f = all_join (Idle v) b.agents (new_agent ∷ []) h (f, tt)

    tasks_so : ((v : Waiter) (h : ListenerRef) → IsOwn b s.under_way v h → IsOwn begun calls v h)
        → (v : Waiter) (h : ListenerRef) → WaitsToWake h v t.now → IsOwn begun t.under_way v h
    tasks_so g v h i = subst (λ (us : List (ActiveCall T Waiter)). IsOwn begun us v h) (sym n.under_way)
        (g v h (w.tasks v h (subst (λ (d : Channel T Waiter). WaitsToWake h v d) n.now i)))

    same_marks : (v : Waiter) (h : ListenerRef) → (IsAmong v b.order.woken → IsAmong v begun.order.woken)
        → (IsAmong v begun.order.woken → IsAmong v b.order.woken) → IsMarked v b.order.woken h s.now → IsMarked v begun.order.woken h t.now
    same_marks v h there back m =
        still_marked v b.order.woken begun.order.woken h s.now t.now there back
        (λ i. subst (λ (d : Channel T Waiter). IsTold h d) (sym n.now) i)
        (λ i. subst (λ (d : Channel T Waiter). WaitsToWake h v d) (sym n.now) i) m

    quietly : Quiet P P' (keeper_in (names_of b.name_table) c) (on_return_of b.name_table c) (asks b.name_table c) (order_begun c) → WokenSound begun t
    quietly k =
        record {
          stands = λ v h i. same_marks v h (λ j. subst (λ (x : WakeOrder). IsAmong v x.woken) (sym same) j)
              (λ j. subst (λ (x : WakeOrder). IsAmong v x.woken) same j) (w.stands v h (sym (k.same v) ∙ i));
          pending = λ v i. let j = w.pending v (subst (λ (x : WakeOrder). IsAmong v x.woken) same i) in (j.0, k.same v ∙ j.1);
          once = subst (λ (x : WakeOrder). NoneTwice x.woken) (sym same) w.once;
          placed = λ v i. subst (λ (x : WakeOrder). IsAmong v x.places) (sym same) (w.placed v (subst NeedsPlace (k.same v) i));
          tasks = tasks_so still;
        }
      where
        same : begun.order ≡ b.order
        same = k.order b.order

        still : (v : Waiter) (h : ListenerRef) → IsOwn b s.under_way v h → IsOwn begun calls v h
        still v h (inl x) = inl (k.same v ∙ x)
        still v h (inr (inl x)) = inr (inl (more_work v h x))
        still v h (inr (inr x)) =
            inr (inr (
              subst IsAway (sym (k.same v)) x.0,
              none_more v x.1
                  (λ i. absurd (let no : None ≡ Some v = sym k.nobody ∙ i in cc)),
            ))

    touching : Touches P P' (keeper_in (names_of b.name_table) c) (on_return_of b.name_table c) (asks b.name_table c) (order_begun c) → WokenSound begun t
    touching k =
        record {
          stands = λ v h i.
              let other = not_now v h i in
              same_marks v h (order_so.stays v other) (order_so.back v) (w.stands v h (sym (k.sets.others v other) ∙ i));
          pending = λ v i.
              let j = w.pending v (order_so.back v i) in
              (j.0, k.sets.others v (λ same. not_woken (subst (λ (x : Waiter). IsAmong x begun.order.woken) same i)) ∙ j.1);
          once = order_so.once w.once;
          placed = λ v i. place v i (waiter_or v k.name);
          tasks = tasks_so still;
        }
      where
        not_now : (v : Waiter) (h : ListenerRef) → P' v ≡ waits h → v ≡ k.name → ⊥
        not_now v h i same = busy_waits (P' k.name) h (subst IsBusy (sym k.sets.there) k.busy) (ap P' (sym same) ∙ i)

        as_begun : (x : WakeOrder) → order_begun c b.order ≡ x → BeginsOrder k.name b.order x → BeginsOrder k.name b.order begun.order
        as_begun x same h = subst (λ (y : WakeOrder). BeginsOrder k.name b.order y) (sym same) h

        order_so : BeginsOrder k.name b.order begun.order
        order_so = by k.order
          where
            by : Ordered k.name (P k.name) k.now (order_begun c) → BeginsOrder k.name b.order begun.order
            by (inl x) = as_begun b.order (x.2 b.order) (begins_same k.name b.order)
            by (inr (inl x)) = as_begun (placed k.name b.order) (x b.order) (begins_placed k.name b.order)
            by (inr (inr x)) = as_begun (without_place k.name b.order) (x.1 b.order) (begins_removed k.name b.order)

        -- the name that is touched was not woken, or is not any more
        not_woken : IsAmong k.name begun.order.woken → ⊥
        not_woken i = by k.order
          where
            by : Ordered k.name (P k.name) k.now (order_begun c) → ⊥
            by (inl x) = let j = w.pending k.name (order_so.back k.name i) in absurd (let no : free ≡ waits j.0 = sym x.0 ∙ j.1 in cc)
            by (inr (inl x)) = is_out k.name b.order.woken (subst (λ (y : WakeOrder). IsAmong k.name y.woken) (x b.order) i)
            by (inr (inr x)) = is_out k.name b.order.woken (subst (λ (y : WakeOrder). IsAmong k.name y.woken) (x.1 b.order) i)

        placeless : NeedsPlace (P' k.name) → k.now ≡ retired → ⊥
        placeless i gone = calm_placeless retired tt (subst NeedsPlace (k.sets.there ∙ gone) i)

        place : (v : Waiter) → NeedsPlace (P' v) → (v ≡ k.name) ⊎ (v ≡ k.name → ⊥) → IsAmong v begun.order.places
        place v i (inr other) = order_so.places v other (w.placed v (subst NeedsPlace (k.sets.others v other) i))
        place v i (inl same) = by k.order
          where
            mine : NeedsPlace (P' k.name)
            mine = subst (λ (x : Waiter). NeedsPlace (P' x)) same i

            by : Ordered k.name (P k.name) k.now (order_begun c) → IsAmong v begun.order.places
            by (inl x) = absurd (placeless mine x.1)
            by (inr (inl x)) = subst (λ (y : WakeOrder). IsAmong v y.places) (sym (x b.order)) (inl (sym same))
            by (inr (inr x)) = absurd (placeless mine x.0)

        -- the name that is touched was pending
        taken : (v : Waiter) (h : ListenerRef) → P v ≡ waits h → v ≡ k.name
            → (subject (on_return_of b.name_table c) ≡ None) ⊎ (subject (on_return_of b.name_table c) ≡ Some k.name)
            → IsOwn begun calls v h
        taken v h i same (inl none) =
            let away : IsAway (P' v) = subst IsAway (sym (ap P' same ∙ k.sets.there)) (busy_away k.now k.busy) in
            let idle : NoneWorks v b.agents =
            none_works P b.agents s.under_way v o.together (λ is. busy_waits (P v) h is i) in
            inr (inr (away, none_more v idle (λ j. absurd (let no : None ≡ Some v = sym none ∙ j in cc))))
        taken v h i same (inr some) =
            let had : held_in (P k.name) ≡ Some h = ap (λ (y : Waiter). held_in (P y)) (sym same) ∙ ap held_in i in
            let holds : holding n.at ≡ Some h = (starts a n.answer n.at n.turned).0 ∙ (holds_same (asks b.name_table c) a is ∙ (k.takes ∙ had)) in
            inr (inl (
              new_agent,
              among_right new_agent b.agents (new_agent ∷ []) (inl refl),
              some ∙ ap (λ (y : Waiter). let z : Option Waiter = Some y in z) (sym same),
              any_right (HasIt q.0 h) s.under_way (new_call ∷ []) (inl (refl, holds)),
            ))

        pending : (v : Waiter) (h : ListenerRef) → P v ≡ waits h → (v ≡ k.name) ⊎ (v ≡ k.name → ⊥) → IsOwn begun calls v h
        pending v h i (inl same) = taken v h i same k.whose
        pending v h i (inr other) = inl (k.sets.others v other ∙ i)

        idle_new : (v : Waiter) → (v ≡ k.name → ⊥)
            → (subject (on_return_of b.name_table c) ≡ None) ⊎ (subject (on_return_of b.name_table c) ≡ Some k.name) → Idle v new_agent
        idle_new v other (inl none) i = absurd (let no : None ≡ Some v = sym none ∙ i in cc)
        idle_new v other (inr some) i = other (inner v k.name (sym i ∙ some))

        still : (v : Waiter) (h : ListenerRef) → IsOwn b s.under_way v h → IsOwn begun calls v h
        still v h (inl x) = pending v h x (waiter_or v k.name)
        still v h (inr (inl x)) = inr (inl (more_work v h x))
        still v h (inr (inr x)) =
            let other : v ≡ k.name
            → ⊥ = λ same. busy_loose (P k.name) (subst (λ (y : Waiter). IsBusy (P y)) same (away_busy (P v) x.0)) k.loose
            in
            inr (inr (subst IsAway (sym (k.sets.others v other)) x.0, none_more v x.1 (idle_new v other k.whose)))

    pub begins_woken : Admitted b.name_table c → WokenSound begun t
    begins_woken no_refusal = by (begins_so b.name_table c o.none_amiss no_refusal)
      where
        by : BeginsSo b.name_table c → WokenSound begun t
        by (inl k) = quietly k
        by (inr k) = touching k

  -- ---- a call makes a step

  module _ (b : NameState T) (s t : Configuration T Waiter) (p : ℕ) (m : Mark) (r : Option (Reply T)) (kp : Option (Returned T))
      (names : List Waiter) (o : Owned b s) (known : AllKnown s.now s.under_way)
      (st : Steps s p (record { mark = m; reply = r; kept = kp }) names t) (w : WokenSound b s) where
    follow : Follows s.now t.now names (holding st.mine.at) (task_at st.mine.at)
    follow = follows s.now st.mine.at (record { channel = t.now; mark = m; woken = names }) r st.at_now st.moves

    abbrev mine_parts : Parted (status b.name_table) b.agents st.before st.mine st.behind
    mine_parts = parts b s t p m r kp names o known st

    abbrev turn : Turnout T Waiter st.mine.ask s.now st.mine.at (record { channel = t.now; mark = m; woken = names }) r
        st.at_now
    turn = out b s t p m r kp names o known st

    abbrev order1 : WakeOrder
    order1 = all_woken b.name_table names b.order

    mid_stands : (v : Waiter) (h : ListenerRef) → status b.name_table v ≡ waits h → IsMarked v order1.woken h t.now
    mid_stands v h e = by (w.stands v h e)
      where
        not_had : holding st.mine.at ≡ Some h → ⊥
        not_had had = apart v p (o.alone (named v) (calling p) h e (was_mine b s t p m r kp names o known st h had))

        -- each that is named waited with it, and is told
        heard : IsAmong v names → IsMarked v order1.woken h t.now
        heard i =
            let x = follow.woken v i in
            inl (
              all_there b.name_table names v b.order i (waits_pending b.name_table v h e) (w.placed v (inl (h, e))),
              subst (λ (k : ListenerRef). IsTold k t.now) (own_held b s o v x.0 h (w.tasks v x.0 x.1) e) x.2,
            )

        unheard : (IsAmong v b.order.woken → ⊥) → WaitsToWake h v t.now ⊎ IsAmong v names → (IsAmong v names → ⊥) → IsMarked v order1.woken h t.now
        unheard before (inl i) f = inr (λ j. neither before (λ (x : IsAmong v names × (is_name_pending b.name_table v ≡ true)). f x.0) (all_come b.name_table names v b.order j), i)
        unheard before (inr i) f = absurd (f i)

        waited : (IsAmong v b.order.woken → ⊥) → WaitsToWake h v s.now → IsAmong v names ⊎ (IsAmong v names → ⊥) → IsMarked v order1.woken h t.now
        waited before i (inl j) = heard j
        waited before i (inr f) = unheard before ((turn.lists h.line).waiting h.key v not_had i) f

        by : IsMarked v b.order.woken h s.now → IsMarked v order1.woken h t.now
        by (inl x) = inl (all_stay b.name_table names v b.order x.0, follow.told h not_had x.1)
        by (inr x) = waited x.0 x.1 (among_or v names)

    mid_pending : (v : Waiter) → IsAmong v order1.woken → (h : ListenerRef) × (status b.name_table v ≡ waits h)
    mid_pending v i = by (all_come b.name_table names v b.order i)
      where
        by : IsAmong v b.order.woken ⊎ (IsAmong v names × (is_name_pending b.name_table v ≡ true)) → (h : ListenerRef) × (status b.name_table v ≡ waits h)
        by (inl j) = w.pending v j
        by (inr j) = pending_waits b.name_table v (o.none_amiss v) j.1

    -- a listener that is in hand and stays
    still_has : (h : ListenerRef) → holding st.mine.at ≡ Some h → IsListed h t.now → turn.has ≡ Some h
    still_has h had i = by ((turn.lists h.line).come (o.once h.line) h.key i) turn.how
      where
        by : (IsListed h s.now × (IsGone (holding st.mine.at) turn.has (Some h) → ⊥)) ⊎
            ((turn.has ≡ Some h) × (holding st.mine.at ≡ None) × (IsListed h s.now → ⊥))
            → (turn.has ≡ holding st.mine.at) ⊎ ((holding st.mine.at ≡ None) ⊎ (turn.has ≡ None)) → turn.has ≡ Some h
        by (inr j) k = j.0
        by (inl j) (inl same) = same ∙ had
        by (inl j) (inr (inl none)) = absurd (let no : Some h ≡ None = sym had ∙ none in cc)
        by (inl j) (inr (inr none)) = absurd (j.1 (had, none))

    -- the task of a listener that it has is the name at which it works
    his_name : (v : Waiter) → task_at st.mine.at ≡ Some v → subject mine_parts.agent.on_return ≡ Some v
    his_name v e =
        let bears : Bears (Some v) (wait_of st.mine.ask) =
        subst (λ (x : Option Waiter). Bears x (wait_of st.mine.ask)) e mine_parts.own.bears in
        suits_name (status b.name_table) mine_parts.agent.on_return bears.0 v (wait_of st.mine.ask) mine_parts.own.suits bears.1

    agent_in : IsAmong mine_parts.agent b.agents
    agent_in = subst (λ (l : List (Agent T)). IsAmong mine_parts.agent l) (sym mine_parts.are)
        (among_right mine_parts.agent mine_parts.front (mine_parts.agent ∷ mine_parts.back) (inl refl))

    his_party : mine_parts.agent.party ≡ p
    his_party = mine_parts.own.party ∙ st.whose

  -- it goes on
  module _ (b : NameState T) (s t : Configuration T Waiter) (p : ℕ) (m : Mark) (kp : Option (Returned T)) (names : List Waiter) (o : Owned b s)
      (known : AllKnown s.now s.under_way)
      (st : Steps s p (record { mark = m; reply = None; kept = kp }) names t) (w : WokenSound b s) where
    abbrev mine_now : ActiveCall T Waiter
    mine_now = does st.mine st.at_now m s.now t.now

    abbrev After : List (ActiveCall T Waiter)
    After = map (sees t.now) st.before ++ ((mine_now ∷ []) ++ map (sees t.now) st.behind)

    abbrev going : Turnout T Waiter st.mine.ask s.now st.mine.at (record { channel = t.now; mark = m; woken = names }) None
        st.at_now
    going = out b s t p m None kp names o known st

    has_it : (q : ℕ) (h : ListenerRef) → q ≡ p → holding st.mine.at ≡ Some h → IsListed h t.now → AnyOf (HasIt q h) After
    has_it q h e had i =
        now_after t.now q h st.before (mine_now ∷ []) st.behind
        (inl (st.whose ∙ sym e, going.next.0 ∙ still_has b s t p m None kp names o known st w h had i))

    goes_tasks : (v : Waiter) (h : ListenerRef) → WaitsToWake h v t.now → IsOwn (with_woken names b) After v h
    goes_tasks v h i = by ((follow b s t p m None kp names o known st w).tasks h v i)
      where
        moved : (a : Agent T)
            → AnyOf (HasIt a.party h) After ⊎ ((calling a.party ≡ calling p) × (holding st.mine.at ≡ Some h))
            → AnyOf (HasIt a.party h) After
        moved a (inl k) = k
        moved a (inr k) = has_it a.party h (calling_is a.party p k.0) k.1 (listed_of h v t.now i)

        before : IsOwn b s.under_way v h → IsOwn (with_woken names b) After v h
        before (inl x) = inl x
        before (inr (inl (a, j, e, has))) =
            inr (inl (a, j, e, moved a (forth_calling b s t p m None kp names o known st a.party h has)))
        before (inr (inr x)) = inr (inr x)

        by : WaitsToWake h v s.now ⊎ ((holding st.mine.at ≡ Some h) × (task_at st.mine.at ≡ Some v))
            → IsOwn (with_woken names b) After v h
        by (inl j) = before (w.tasks v h j)
        by (inr j) =
            let pt = parts b s t p m None kp names o known st in
            inr (inl (
              pt.agent,
              agent_in b s t p m None kp names o known st w,
              his_name b s t p m None kp names o known st w v
                  j.1,
              has_it pt.agent.party h (his_party b s t p m None kp names o known st w) j.0 (listed_of h v t.now i),
            ))

    pub goes_woken : WokenSound (with_woken names b) t
    goes_woken =
        record {
          stands = λ v h e. mid_stands b s t p m None kp names o known st w v h e;
          pending = λ v i. mid_pending b s t p m None kp names o known st w v i;
          once = all_once b.name_table names b.order w.once;
          placed = λ v n. all_placed b.name_table names v b.order (w.placed v n);
          tasks = λ v h i. subst (λ (us : List (ActiveCall T Waiter)). IsOwn (with_woken names b) us v h) (sym st.left)
              (goes_tasks v h i);
        }

  -- it ends
  module _ (b : NameState T) (s t : Configuration T Waiter) (p : ℕ) (m : Mark) (y : Reply T) (kp : Option (Returned T)) (names : List Waiter)
      (o : Owned b s) (known : AllKnown s.now s.under_way)
      (st : Steps s p (record { mark = m; reply = Some y; kept = kp }) names t) (w : WokenSound b s) where
    abbrev pt : Parted (status b.name_table) b.agents st.before st.mine st.behind
    pt = parts b s t p m (Some y) kp names o known st

    abbrev ending : Turnout T Waiter st.mine.ask s.now st.mine.at (record { channel = t.now; mark = m; woken = names })
        (Some y) st.at_now
    ending = out b s t p m (Some y) kp names o known st

    abbrev kept : Returned T
    kept = let f = st.finishes in f.kept

    abbrev E2 : Waiter → NameStatus
    E2 = status (written_back pt.agent.on_return y kept b.name_table)

    abbrev Left : List (ActiveCall T Waiter)
    Left = map (sees t.now) st.before ++ map (sees t.now) st.behind

    abbrev ended : NameState T
    ended = end_name_state b s t p m y kp names o known st

    abbrev order_then : WakeOrder
    order_then = all_woken b.name_table names b.order

    others_stand : (v : Waiter) → (subject pt.agent.on_return ≡ Some v → ⊥) → E2 v ≡ status b.name_table v
    others_stand v other = (set b s t p m y kp names o known st).others v other

    -- it leaves this listener to its name
    own_now : (v : Waiter) (h : ListenerRef) → ending.has ≡ Some h → subject pt.agent.on_return ≡ Some v → E2 v ≡ waits h
    own_now v h has whose = by (leaves b s t p m y kp names o known st) (set b s t p m y kp names o known st).own
      where
        by : LeavesIt T Waiter st.mine.ask kept ending.has t.now → Comes E2 pt.agent.on_return kept (wait_of st.mine.ask)
            → E2 v ≡ waits h
        by (inl l) c = absurd (let no : None ≡ Some h = sym l.0 ∙ has in cc)
        by (inr (line, key, task, hs, k, wt, there)) (inl c) = absurd (let no : None ≡ Some key = sym c.0 ∙ k in cc)
        by (inr (line, key, task, hs, k, wt, there)) (inr (line', key', task', k', wt', whose', is)) =
            let keys_same : key' ≡ key = inner key' key (sym k' ∙ k) in
            let pairs : (let x : WaitList × Waiter = (line', task') in x) ≡ (line, task) = inner _ _ (sym wt' ∙ wt) in
            let lines : line' ≡ line = ap (λ (x : WaitList × Waiter). x.0) pairs in
            let names_same : v ≡ task' = inner v task' (sym whose ∙ whose') in
            let held_same : on line' key' ≡ h = ap (λ (x : WaitList). on x key') lines ∙
            (ap (λ (x : Key). on line x) keys_same ∙ inner (on line key) h (sym hs ∙ has)) in
            ap E2 names_same ∙ (is ∙ ap (λ (x : ListenerRef). waits x) held_same)

    -- and there it waits
    own_waits : (v : Waiter) (h : ListenerRef) → E2 v ≡ waits h → subject pt.agent.on_return ≡ Some v → WaitsToWake h v t.now
    own_waits v h e whose = by (leaves b s t p m y kp names o known st) (set b s t p m y kp names o known st).own
      where
        by : LeavesIt T Waiter st.mine.ask kept ending.has t.now → Comes E2 pt.agent.on_return kept (wait_of st.mine.ask) → WaitsToWake h v t.now
        by l (inl c) = absurd (calm_waits (E2 v) h (c.1 v whose) e)
        by (inl l) (inr (line, key, task, k, wt, whose', is)) = absurd (let no : None ≡ Some key = sym l.1 ∙ k in cc)
        by (inr (line, key, task, hs, k, wt, there)) (inr (line', key', task', k', wt', whose', is)) =
            let h_is : on line key ≡ h = waits_is (on line key) h (sym (own_now v (on line key) hs whose) ∙ e) in
            let pairs : (let x : WaitList × Waiter = (line', task') in x) ≡ (line, task) = inner _ _ (sym wt' ∙ wt) in
            let v_is : task ≡ v = sym (ap (λ (x : WaitList × Waiter). x.1) pairs) ∙ inner task' v (sym whose' ∙ whose) in
            subst (λ (x : ListenerRef). WaitsToWake x v t.now) h_is (subst (λ (x : Waiter). WaitsToWake (on line key) x t.now) v_is there)

    ended_stands : (v : Waiter) (h : ListenerRef) → E2 v ≡ waits h → IsMarked v ended.order.woken h t.now
    ended_stands v h e = by (subject_or (subject pt.agent.on_return) v)
      where
        by : (subject pt.agent.on_return ≡ Some v) ⊎ (subject pt.agent.on_return ≡ Some v → ⊥) → IsMarked v ended.order.woken h t.now
        by (inl whose) = inr (
          λ i.
              let was = mid_pending b s t p m (Some y) kp names o known st w v (settled_back pt.agent.on_return kept.key v order_then i) in
              busy_waits (status b.name_table v) was.0 (busy_own b s t p m y kp names o known st v whose) was.1,
          own_waits v h e whose,
        )
        by (inr other) =
            still_marked v order_then.woken ended.order.woken h t.now t.now (settled_woken pt.agent.on_return kept.key v order_then other)
            (settled_back pt.agent.on_return kept.key v order_then) (λ i. i) (λ i. i)
            (mid_stands b s t p m (Some y) kp names o known st w v h (sym (others_stand v other) ∙ e))

    ended_pending : (v : Waiter) → IsAmong v ended.order.woken → (h : ListenerRef) × (E2 v ≡ waits h)
    ended_pending v i =
        let was = mid_pending b s t p m (Some y) kp names o known st w v (settled_back pt.agent.on_return kept.key v order_then i) in
        (was.0, others_stand v (λ whose. busy_waits (status b.name_table v) was.0 (busy_own b s t p m y kp names o known st v whose) was.1) ∙ was.1)

    ended_placed : (v : Waiter) → NeedsPlace (E2 v) → IsAmong v ended.order.places
    ended_placed v n = by (subject_or (subject pt.agent.on_return) v)
      where
        own_place : subject pt.agent.on_return ≡ Some v → Comes E2 pt.agent.on_return kept (wait_of st.mine.ask) → IsAmong v ended.order.places
        own_place whose (inl c) = absurd (calm_placeless (E2 v) (c.1 v whose) n)
        own_place whose (inr (l, key, task, k, wt, whose', is)) =
            let was = suits_polled (status b.name_table) pt.agent.on_return (wait_of st.mine.ask) l task v pt.own.suits wt whose in
            let there : IsAmong v order_then.places = all_placed b.name_table names v b.order (w.placed v (inr (was.0, was.1))) in
            subst (λ (x : Option Key). IsAmong v (order_settled pt.agent.on_return x order_then).places) (sym k)
            (settled_keeps pt.agent.on_return key v order_then there)

        by : (subject pt.agent.on_return ≡ Some v) ⊎ (subject pt.agent.on_return ≡ Some v → ⊥) → IsAmong v ended.order.places
        by (inl whose) = own_place whose (set b s t p m y kp names o known st).own
        by (inr other) =
            settled_places pt.agent.on_return kept.key v order_then other
            (all_placed b.name_table names v b.order (w.placed v (subst NeedsPlace (others_stand v other) n)))

    ended_tasks : (v : Waiter) (h : ListenerRef) → WaitsToWake h v t.now → IsOwn ended Left v h
    ended_tasks v h i = by ((follow b s t p m (Some y) kp names o known st w).tasks h v i)
      where
        mine : holding st.mine.at ≡ Some h → subject pt.agent.on_return ≡ Some v → IsOwn ended Left v h
        mine had whose =
            inl (own_now v h (still_has b s t p m (Some y) kp names o known st w h had (listed_of h v t.now i)) whose)

        -- its own agent is under way no more
        his : AnyOf (HasIt p h) Left ⊎ ((calling p ≡ calling p) × (holding st.mine.at ≡ Some h))
            → subject pt.agent.on_return ≡ Some v → IsOwn ended Left v h
        his (inl k) whose = back_or (back_calling b s t p m y kp names o known st (calling p) p h k)
          where
            back_or : (HoldsIn (status b.name_table) s.under_way (calling p) h × (calling p ≡ calling p → ⊥)) ⊎
                ((calling p ≡ calling p) × (ending.has ≡ Some h)) → IsOwn ended Left v h
            back_or (inl j) = absurd (j.1 refl)
            back_or (inr j) = inl (own_now v h j.1 whose)
        his (inr k) whose = mine k.1 whose

        differs : (a : Agent T) (l : List (Agent T)) → All (Differ pt.agent) l → IsAmong a l → a.party ≡ p → ⊥
        differs a [] d j e = j
        differs a (x ∷ l) d (inl same) e = d.0.party (parts_party ∙ (sym e ∙ ap (λ (z : Agent T). z.party) (sym same)))
          where
            parts_party : pt.agent.party ≡ p
            parts_party = pt.own.party ∙ st.whose
        differs a (x ∷ l) d (inr j) e = differs a l d.1 j e

        theirs : (a : Agent T) → (a.party ≡ p → ⊥) → IsAmong a (pt.front ++ pt.back) → subject a.on_return ≡ Some v
            → AnyOf (HasIt a.party h) Left ⊎ ((calling a.party ≡ calling p) × (holding st.mine.at ≡ Some h))
            → IsOwn ended Left v h
        theirs a other j e (inl k) = inr (inl (a, j, e, k))
        theirs a other j e (inr k) = absurd (other (calling_is a.party p k.0))

        forth : (a : Agent T) → HoldsIn (status b.name_table) s.under_way (calling a.party) h
            → AnyOf (HasIt a.party h) Left ⊎ ((calling a.party ≡ calling p) × (holding st.mine.at ≡ Some h))
        forth a has = forth_calling b s t p m (Some y) kp names o known st a.party h has

        whose_it_is : (a : Agent T) → IsAmong a pt.front ⊎ IsAmong a (pt.agent ∷ pt.back) → subject a.on_return ≡ Some v
            → HoldsIn (status b.name_table) s.under_way (calling a.party) h → IsOwn ended Left v h
        whose_it_is a (inl j) e has =
            let sd = sides b s t p m (Some y) kp names o known st in
            theirs a (differs a pt.front sd.first j) (among_left a pt.front pt.back j) e (forth a has)
        whose_it_is a (inr (inl same)) e has =
            let party : a.party ≡ p = ap (λ (z : Agent T). z.party) (sym same) ∙ (pt.own.party ∙ st.whose) in
            his (subst (λ (q : ℕ). AnyOf (HasIt q h) Left ⊎ ((calling q ≡ calling p) × (holding st.mine.at ≡ Some h))) party
            (forth a has)) (ap (λ (z : Agent T). subject z.on_return) same ∙ e)
        whose_it_is a (inr (inr j)) e has =
            let sd = sides b s t p m (Some y) kp names o known st in
            theirs a (differs a pt.back sd.last j) (among_right a pt.front pt.back j) e (forth a has)

        idle : NoneWorks v b.agents → (NoneWorks v (pt.front ++ pt.back)) × (subject pt.agent.on_return ≡ Some v → ⊥)
        idle none =
            let all = subst (λ (l : List (Agent T)). NoneWorks v l) pt.are none in
            let right = all_right (λ (a : Agent T). subject a.on_return ≡ Some v → ⊥) pt.front (pt.agent ∷ pt.back) all in (
              all_join (λ (a : Agent T). subject a.on_return ≡ Some v → ⊥) pt.front pt.back
                  (all_left (λ (a : Agent T). subject a.on_return ≡ Some v → ⊥) pt.front (pt.agent ∷ pt.back) all) right.1,
              right.0,
            )

        before : IsOwn b s.under_way v h → IsOwn ended Left v h
        before (inl x) =
            inl (others_stand v (λ whose. busy_waits (status b.name_table v) h (busy_own b s t p m y kp names o known st v whose) x) ∙ x)
        before (inr (inl (a, j, e, has))) = whose_it_is a
            (among_of a pt.front (pt.agent ∷ pt.back) (subst (λ (l : List (Agent T)). IsAmong a l) pt.are j)) e has
        before (inr (inr x)) =
            let rest = idle x.1 in
            inr (inr (subst IsAway (sym (others_stand v rest.1)) x.0, rest.0))

        by : WaitsToWake h v s.now ⊎ ((holding st.mine.at ≡ Some h) × (task_at st.mine.at ≡ Some v)) → IsOwn ended Left v h
        by (inl j) = before (w.tasks v h j)
        by (inr j) = mine j.0 (his_name b s t p m (Some y) kp names o known st w v j.1)

    ends_woken : WokenSound ended t
    ends_woken = record {
      stands = ended_stands;
      pending = ended_pending;
      once = settled_once pt.agent.on_return kept.key order_then (all_once b.name_table names b.order w.once);
      placed = ended_placed;
      tasks = λ v h i. subst (λ (us : List (ActiveCall T Waiter)). IsOwn ended us v h)
          (sym st.left) (ended_tasks v h i);
    }

  -- ---- any step

  pub stepped_woken : (b c : NameState T) (s t : Configuration T Waiter) (q : PartyId) (m : Mark) (r : Option (Reply T))
      (kp : Option (Returned T)) (names : List Waiter) → Owned b s → AllKnown s.now s.under_way
      → Steps s q.0 (record { mark = m; reply = r; kept = kp }) names t → IsAfter b q r kp names c → WokenSound b s →
      WokenSound c t
  stepped_woken b c s t q m None kp names o known st after w =
      subst (λ (d : NameState T). WokenSound d t) (sym after.4) (goes_woken b s t q.0 m kp names o known st w)
  stepped_woken b c s t q m (Some y) kp names o known st after w =
      subst (λ (d : NameState T). WokenSound d t) (sym (ended_as b c s t q m y kp names o known st after))
      (ends_woken b s t q.0 m y kp names o known st w)
