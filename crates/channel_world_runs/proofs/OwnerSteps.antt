-- What is said of owners stays so after every step.
use Rattle.std.specs.Prelude.{◌≡◌, ◌||◌, ◌∷◌, ◌++◌, ◌⊎◌}
use Rattle.channel_world_runs.proofs.Lemmas.{ℕ, nat_eq, Bool, true, false, cond, List, [], Option, None, Some, inl, inr, refl, sym, ap, ◌∙◌, subst, nat_tests, arith, Channel, ChannelAsk, ListenerRef, WaitList, Sends, Receives, Streams, Closings, keeper_in, Call, Waiter, Op, Stream, Begins, new_configuration, begun_active_call, ActiveCall, Configuration, ChannelEntry, IsOrListens, asks, on_return_of, names_begun, no_places, order_begun, All, AnyOf, NameStatus, retired, invalid, waits, polled, status_by, status, holding, wait_of, subject, Suits, Together, Differ, AllDiffer, IsListed, NoneListedTwice, Holder, named, calling, HoldsIn, Owned, first_name_table, names_of, unused, is_at_work, NameState, name_state_begun, Agent, OnReturn, PartyId, HandleKind, line_held, ask_holds, holds_same, waits_same, Starts, starts, IsBusy, IsLoose, held_in, Quiet, Touches, Admitted, IsCalm, handle_entry_status, waiter_or}
use Rattle.channel_world_runs.proofs.OwnerCalls.{BeginsSo, begins_so}
use Rattle.channel_world_runs.proofs.OwnerHolders.{Accounted, Passes, accounted}
use Rattle.channel_world_runs.proofs.OwnerMoves.{still}
use Rattle.channel_world_runs.proofs.OwnerTogether.{all_join, HasIt, any_left, any_right, any_of, busy, Keeps, together_on, together_join}

-- ---- how names stand

pub calm_waits : (x : NameStatus) (h : ListenerRef) → IsCalm x → x ≡ waits h → ⊥
calm_waits x h c e = subst IsCalm e c

pub calm_amiss : (x : NameStatus) → IsCalm x → x ≡ invalid → ⊥
calm_amiss x c e = subst IsCalm e c

pub busy_waits : (x : NameStatus) (h : ListenerRef) → IsBusy x → x ≡ waits h → ⊥
busy_waits x h c e = subst IsBusy e c

busy_amiss : (x : NameStatus) → IsBusy x → x ≡ invalid → ⊥
busy_amiss x c e = subst IsBusy e c

pub busy_loose : (x : NameStatus) → IsBusy x → IsLoose x → ⊥
busy_loose retired b l = l
busy_loose (polled line) b l = l
busy_loose x b l = b

held_is : (x : NameStatus) (h : ListenerRef) → held_in x ≡ Some h → x ≡ waits h
held_is (waits k) h e = ap (λ (z : ListenerRef). waits z) (ap (λ (o : Option ListenerRef). elim o [ None ↦ k | Some z ↦ z ]) e)
held_is x h e = absurd (let no : None ≡ Some h = e in cc)

pub named_is : (v w : Waiter) → named v ≡ named w → v ≡ w
named_is v w e = ap (λ (x : Holder). elim x [ named z ↦ z | calling p ↦ v ]) e

pub calling_is : (p q : ℕ) → calling p ≡ calling q → p ≡ q
calling_is p q e = ap (λ (x : Holder). elim x [ named z ↦ p | calling r ↦ r ]) e

pub apart : (w : Waiter) (p : ℕ) → named w ≡ calling p → ⊥
apart w p e = absurd (cc e)

pub first_calm : (T : Type 0) (w : Waiter) → IsCalm (status {T = T} first_name_table w)
first_calm T (Op op) = tt
first_calm T (Stream handle) = by (nat_eq handle.0 1) (nat_eq handle.0 0)
  where
    by : (a b : Bool)
        → IsCalm (status_by handle_entry_status
        (cond a (Some (Some (unused HandleKind.Receiver))) (cond b (Some (Some (unused HandleKind.Sender))) None)))
    by true b = tt
    by false true = tt
    by false false = tt

pub not_this : (b : Bool) (c : Bool) → (b || c) ≡ false → (b ≡ false) × (c ≡ false)
not_this true c e = absurd (let no : true ≡ false = e in cc)
not_this false c e = (refl, e)

pub other_number : (a b : ℕ) → nat_eq a b ≡ false → a ≡ b → ⊥
other_number a b e h = absurd (let never : true ≡ false = sym (own a) ∙ (ap (λ n. nat_eq a n) h ∙ e) in cc)
  where
    own : (n : ℕ) → nat_eq n n ≡ true
    own n = grind (arith, nat_tests)

module _ (T : Type 0) where
  -- ---- at the start

  nobody_twice : (cap : Option ℕ) → NoneListedTwice {T = T} {W = Waiter} (new_configuration cap).now
  nobody_twice cap Sends = tt
  nobody_twice cap x = tt

  nobody_listed : (cap : Option ℕ) (h : ListenerRef) → IsListed {T = T} {W = Waiter} h (new_configuration cap).now → ⊥
  nobody_listed cap h i = by h.line i
    where
      by : (line : WaitList) → IsListed {T = T} {W = Waiter} (record { line = line; key = h.key }) (new_configuration cap).now → ⊥
      by Sends i = i
      by Receives i = i
      by Streams i = i
      by Closings i = i

  nobody_holds : (x : Holder) (h : ListenerRef) → HoldsIn {T = T} (status {T = T} first_name_table) [] x h → ⊥
  nobody_holds (named w) h e = calm_waits (status {T = T} first_name_table w) h (first_calm T w) e
  nobody_holds (calling p) h i = i

  -- a channel that was just opened
  pub owned_first : (cap : Option ℕ) → Owned {T = T} (record { name_table = first_name_table; order = no_places; agents = [] }) (new_configuration cap)
  owned_first cap =
      record {
        together = tt;
        differ = tt;
        none_amiss = λ w e. calm_amiss (status {T = T} first_name_table w) (first_calm T w) e;
        once = nobody_twice cap;
        listed = λ x h i. absurd (nobody_holds x h i);
        held = λ h i. absurd (nobody_listed cap h i);
        alone = λ x y h i j. absurd (nobody_holds x h i);
      }

module _ {T : Type 0} where
  -- ---- a call begins

  pub all_keep : (p p' : Waiter → NameStatus) (agents : List (Agent T)) (us : List (ActiveCall T Waiter)) → Together p agents us
      → ((v : Waiter) → IsBusy (p v) → p' v ≡ p v) → All (Keeps p p') agents
  all_keep p p' [] [] t f = tt
  all_keep p p' (a ∷ more) (u ∷ us) t f = (λ v e. f v (busy p a.on_return _ v t.0.suits e), all_keep p p' more us t.1 f)
  all_keep p p' more us t f = absurd t

  abbrev Free : ℕ → List (Agent T) → Type 0
  Free q agents = is_at_work q agents ≡ false

  -- a new agent differs from all
  all_differ : (p : Waiter → NameStatus) (a : Agent T) (agents : List (Agent T)) (us : List (ActiveCall T Waiter)) → Together p agents us
      → Free a.party agents → ((v : Waiter) → IsBusy (p v) → subject a.on_return ≡ Some v → ⊥) → AllDiffer agents
      → AllDiffer (agents ++ a ∷ [])
  all_differ p a [] [] t f g d = (tt, tt)
  all_differ p a (b ∷ more) (u ∷ us) t f g d =
      let n = not_this (nat_eq b.party a.party) (is_at_work a.party more) f in (
        all_join (Differ b) more (a ∷ []) d.0
            (record { party = other_number b.party a.party n.0; name = λ v e h. g v (busy p b.on_return _ v t.0.suits e) h }, tt),
        all_differ p a more us t.1 n.1 g d.1,
      )
  all_differ p a more us t f g d = absurd t

  not_his : (p : Waiter → NameStatus) (party : ℕ) (agents : List (Agent T)) (us : List (ActiveCall T Waiter)) (q : ℕ) (h : ListenerRef)
      → Together p agents us → Free party agents → AnyOf (HasIt q h) us → q ≡ party → ⊥
  not_his p party [] [] q h t f i e = i
  not_his p party (b ∷ more) (u ∷ us) q h t f (inl i) e =
      other_number b.party party (not_this (nat_eq b.party party) (is_at_work party more) f).0 (t.0.party ∙ (i.0 ∙ e))
  not_his p party (b ∷ more) (u ∷ us) q h t f (inr i) e =
      not_his p party more us q h t.1 (not_this (nat_eq b.party party) (is_at_work party more) f).1 i e
  not_his p party [] (u ∷ us) q h t f i e = absurd t
  not_his p party (b ∷ more) [] q h t f i e = i

  module _ (q : PartyId) (c : Call T) (b : NameState T) (a : ChannelAsk T Waiter) (s t : Configuration T Waiter) (e : ChannelEntry T)
      (is : IsOrListens (asks b.name_table c) a) (n : Begins s q.0 a e t) (o : Owned b s) (idle : Free q.0 b.agents) where
    abbrev P : Waiter → NameStatus
    P = status b.name_table

    abbrev P' : Waiter → NameStatus
    P' = status (names_begun b.name_table c)

    abbrev new_agent : Agent T
    new_agent = record { party = q.0; on_return = on_return_of b.name_table c }

    abbrev new_call : ActiveCall T Waiter
    new_call = begun_active_call q.0 a n.at s.now

    abbrev calls : List (ActiveCall T Waiter)
    calls = s.under_way ++ new_call ∷ []

    starts_so : Starts a n.at
    starts_so = starts a n.answer n.at n.turned

    first_stage : holding n.at ≡ ask_holds (asks b.name_table c)
    first_stage = starts_so.0 ∙ holds_same (asks b.name_table c) a is

    before : Accounted (HoldsIn P s.under_way) s.now
    before = record { once = o.once; listed = o.listed; held = o.held; alone = o.alone }

    begun_owned : (had : Option ListenerRef) (giver taker : Holder)
        → Passes (HoldsIn P s.under_way) (HoldsIn P' calls) had had giver taker
        → ((v : Waiter) → IsBusy (P v) → P' v ≡ P v) → ((v : Waiter) → IsBusy (P v) → subject (on_return_of b.name_table c) ≡ Some v → ⊥)
        → ((v : Waiter) → P' v ≡ invalid → ⊥)
        → Suits P' (on_return_of b.name_table c) (wait_of (asks b.name_table c)) → Owned (name_state_begun q c b) t
    begun_owned had giver taker pass keep own sane suits =
        let whole = accounted s.now s.now [] had had (HoldsIn P s.under_way) (HoldsIn P' calls) giver taker
        (still s.now.wait_lists [] had) (inl refl) pass before in
        subst (λ (us : List (ActiveCall T Waiter)). Owned (name_state_begun q c b)
        (record { now = t.now; blocks = t.blocks; under_way = us; gone = t.gone; came = t.came })) (sym n.under_way) (
        subst (λ (d : Channel T Waiter). Owned (name_state_begun q c b)
        (record { now = d; blocks = t.blocks; under_way = calls; gone = t.gone; came = t.came })) (sym n.now) (
        record {
          together = together_join P' b.agents (new_agent ∷ []) s.under_way (new_call ∷ [])
              (together_on P P' b.agents s.under_way (all_keep P P' b.agents s.under_way o.together keep) o.together) (
                record {
                  party = refl;
                  suits = subst (λ (o : Option (WaitList × Waiter)). Suits P' (on_return_of b.name_table c) o) (sym (waits_same (asks b.name_table c) a is)) suits;
                  bears = starts_so.1;
                  lines = λ h i. line_held a h (sym starts_so.0 ∙ i);
                },
                tt,
              );
          differ = all_differ P new_agent b.agents s.under_way o.together idle own o.differ;
          none_amiss = sane;
          once = whole.once;
          listed = whole.listed;
          held = whole.held;
          alone = whole.alone;
        }
        )
        )

    quietly : Quiet P P' (keeper_in (names_of b.name_table) c) (on_return_of b.name_table c) (asks b.name_table c) (order_begun c) → Owned (name_state_begun q c b) t
    quietly k = begun_owned None (calling q.0) (calling q.0) pass (λ v i. k.same v)
        (λ v i e. absurd (let no : None ≡ Some v = sym k.nobody ∙ e in cc)) (λ v e. o.none_amiss v (sym (k.same v) ∙ e))
        (plain_suits P' (on_return_of b.name_table c) (wait_of (asks b.name_table c)) k.nobody k.patient)
      where
        plain_suits : (p : Waiter → NameStatus) (e : OnReturn T) (wait : Option (WaitList × Waiter)) → subject e ≡ None → wait ≡ None
            → Suits p e wait
        plain_suits p (OnReturn.Poll op) wait f g = absurd (let no : Some (Op op) ≡ None = f in cc)
        plain_suits p (OnReturn.PollNext receiver) wait f g = absurd (let no : Some (Stream receiver) ≡ None = f in cc)
        plain_suits p (OnReturn.Make op operation) wait f g = absurd (let no : Some (Op op) ≡ None = f in cc)
        plain_suits p (OnReturn.New from new kind) wait f g = absurd (let no : Some (Stream new) ≡ None = f in cc)
        plain_suits p e wait f g = g

        nothing : (h : ListenerRef) → holding n.at ≡ Some h → ⊥
        nothing h e = absurd (let no : None ≡ Some h = sym (first_stage ∙ k.empty) ∙ e in cc)

        back : (x : Holder) (h : ListenerRef) → HoldsIn P' calls x h
            → (HoldsIn P s.under_way x h × (x ≡ calling q.0 → ⊥)) ⊎ ((x ≡ calling q.0) × (None ≡ Some h))
        back (named v) h e = inl (sym (k.same v) ∙ e, apart v q.0)
        back (calling r) h i = by (any_of (HasIt r h) s.under_way (new_call ∷ []) i)
          where
            by : AnyOf (HasIt r h) s.under_way ⊎ AnyOf (HasIt r h) (new_call ∷ [])
                → (HoldsIn P s.under_way (calling r) h × (calling r ≡ calling q.0 → ⊥))
                ⊎ ((calling r ≡ calling q.0) × (None ≡ Some h))
            by (inl j) = inl (j, λ e. not_his P q.0 b.agents s.under_way r h o.together idle j (calling_is r q.0 e))
            by (inr (inl j)) = absurd (nothing h j.1)
            by (inr (inr j)) = absurd j

        forth : (x : Holder) (h : ListenerRef) → HoldsIn P s.under_way x h → HoldsIn P' calls x h ⊎ ((x ≡ calling q.0) × (None ≡ Some h))
        forth (named v) h e = inl (k.same v ∙ e)
        forth (calling r) h i = inl (any_left (HasIt r h) s.under_way (new_call ∷ []) i)

        pass : Passes (HoldsIn P s.under_way) (HoldsIn P' calls) None None (calling q.0) (calling q.0)
        pass = record {
          back = back;
          forth = forth;
          old = λ h e. absurd (let no : None ≡ Some h = e in cc);
          new = λ h e. absurd (let no : None ≡ Some h = e in cc);
        }

    touching : Touches P P' (keeper_in (names_of b.name_table) c) (on_return_of b.name_table c) (asks b.name_table c) (order_begun c) → Owned (name_state_begun q c b) t
    touching k = begun_owned (held_in (P k.name)) (named k.name) (calling q.0) pass (λ v i. k.sets.others v (idle_name v i)) own
        sane k.suits
      where
        idle_name : (v : Waiter) → IsBusy (P v) → v ≡ k.name → ⊥
        idle_name v i e = busy_loose (P k.name) (subst (λ (w : Waiter). IsBusy (P w)) e i) k.loose

        busy_now : IsBusy (P' k.name)
        busy_now = subst IsBusy (sym k.sets.there) k.busy

        own : (v : Waiter) → IsBusy (P v) → subject (on_return_of b.name_table c) ≡ Some v → ⊥
        own v i e = by k.whose
          where
            by : (subject (on_return_of b.name_table c) ≡ None) ⊎ (subject (on_return_of b.name_table c) ≡ Some k.name) → ⊥
            by (inl none) = absurd (let no : None ≡ Some v = sym none ∙ e in cc)
            by (inr some) = idle_name v i (ap (λ (x : Option Waiter). elim x [ None ↦ v | Some w ↦ w ]) (sym e ∙ some))

        sane : (v : Waiter) → P' v ≡ invalid → ⊥
        sane v e = by (waiter_or v k.name)
          where
            by : (v ≡ k.name) ⊎ (v ≡ k.name → ⊥) → ⊥
            by (inl same) = busy_amiss (P' k.name) busy_now (ap P' (sym same) ∙ e)
            by (inr other) = o.none_amiss v (sym (k.sets.others v other) ∙ e)

        not_now : (v : Waiter) (h : ListenerRef) → P' v ≡ waits h → v ≡ k.name → ⊥
        not_now v h e same = busy_waits (P' k.name) h busy_now (ap P' (sym same) ∙ e)

        back : (x : Holder) (h : ListenerRef) → HoldsIn P' calls x h → (HoldsIn P s.under_way x h × (x ≡ named k.name → ⊥))
            ⊎ ((x ≡ calling q.0) × (held_in (P k.name) ≡ Some h))
        back (named v) h e =
            inl (sym (k.sets.others v (not_now v h e)) ∙ e, λ same. not_now v h e (named_is v k.name same))
        back (calling r) h i = by (any_of (HasIt r h) s.under_way (new_call ∷ []) i)
          where
            by : AnyOf (HasIt r h) s.under_way ⊎ AnyOf (HasIt r h) (new_call ∷ [])
                → (HoldsIn P s.under_way (calling r) h × (calling r ≡ named k.name → ⊥))
                ⊎ ((calling r ≡ calling q.0) × (held_in (P k.name) ≡ Some h))
            by (inl j) = inl (j, λ e. apart k.name r (sym e))
            by (inr (inl j)) = inr (ap calling (sym j.0), sym (first_stage ∙ k.takes) ∙ j.1)
            by (inr (inr j)) = absurd j

        forth : (x : Holder) (h : ListenerRef) → HoldsIn P s.under_way x h
            → HoldsIn P' calls x h ⊎ ((x ≡ named k.name) × (held_in (P k.name) ≡ Some h))
        forth (named v) h e = by (waiter_or v k.name)
          where
            by : (v ≡ k.name) ⊎ (v ≡ k.name → ⊥)
                → HoldsIn P' calls (named v) h ⊎ ((named v ≡ named k.name) × (held_in (P k.name) ≡ Some h))
            by (inl same) = inr (ap named same, ap held_in (ap P (sym same) ∙ e))
            by (inr other) = inl (k.sets.others v other ∙ e)
        forth (calling r) h i = inl (any_left (HasIt r h) s.under_way (new_call ∷ []) i)

        pass : Passes (HoldsIn P s.under_way) (HoldsIn P' calls) (held_in (P k.name)) (held_in (P k.name))
            (named k.name) (calling q.0)
        pass =
            record {
              back = back;
              forth = forth;
              old = λ h e. held_is (P k.name) h e;
              new = λ h e. any_right (HasIt q.0 h) s.under_way (new_call ∷ []) (inl (refl, first_stage ∙ (k.takes ∙ e)));
            }

    pub begins_owned : Admitted b.name_table c → Owned (name_state_begun q c b) t
    begins_owned no_refusal = by (begins_so b.name_table c o.none_amiss no_refusal)
      where
        by : BeginsSo b.name_table c → Owned (name_state_begun q c b) t
        by (inl k) = quietly k
        by (inr k) = touching k
