-- Agents and the calls of the same parties, one by one.
use Rattle.std.specs.Prelude.{◌≡◌, ◌∷◌, ◌++◌, ◌⊎◌}
use Rattle.channel_world_runs.proofs.Lemmas.{ℕ, zero, suc, List, [], map, slice_get, Option, None, Some, inl, inr, refl, sym, ap, ◌∙◌, subst, remove, Channel, ListenerRef, WaitList, Waiter, Op, Stream, ActiveCall, sees, All, AnyOf, NameStatus, holding, subject, Suits, AgentFits, Together, Differ, AllDiffer, Agent, OnReturn, IsBusy}

module _ {A : Type 0} (P : A → Type 0) where
  pub all_join : (xs ys : List A) → All P xs → All P ys → All P (xs ++ ys)
  all_join [] ys h k = k
  all_join (x ∷ xs) ys h k = (h.0, all_join xs ys h.1 k)

  pub all_left : (xs ys : List A) → All P (xs ++ ys) → All P xs
  all_left [] ys h = tt
  all_left (x ∷ xs) ys h = (h.0, all_left xs ys h.1)

  pub all_right : (xs ys : List A) → All P (xs ++ ys) → All P ys
  all_right [] ys h = h
  all_right (x ∷ xs) ys h = all_right xs ys h.1

module _ {T : Type 0} where
  -- this party's call has this listener in hand
  abbrev pub HasIt : ℕ → ListenerRef → ActiveCall T Waiter → Type 0
  HasIt q h u = (u.party ≡ q) × (holding u.at ≡ Some h)

  pub any_left : (P : ActiveCall T Waiter → Type 0) (us vs : List (ActiveCall T Waiter)) → AnyOf P us → AnyOf P (us ++ vs)
  any_left P [] vs h = absurd h
  any_left P (u ∷ us) vs (inl h) = inl h
  any_left P (u ∷ us) vs (inr h) = inr (any_left P us vs h)

  pub any_right : (P : ActiveCall T Waiter → Type 0) (us vs : List (ActiveCall T Waiter)) → AnyOf P vs → AnyOf P (us ++ vs)
  any_right P [] vs h = h
  any_right P (u ∷ us) vs h = inr (any_right P us vs h)

  pub any_of : (P : ActiveCall T Waiter → Type 0) (us vs : List (ActiveCall T Waiter)) → AnyOf P (us ++ vs) → AnyOf P us ⊎ AnyOf P vs
  any_of P [] vs h = inr h
  any_of P (u ∷ us) vs (inl h) = inl (inl h)
  any_of P (u ∷ us) vs (inr h) = deeper (any_of P us vs h)
    where
      deeper : AnyOf P us ⊎ AnyOf P vs → AnyOf P (u ∷ us) ⊎ AnyOf P vs
      deeper (inl h) = inl (inr h)
      deeper (inr h) = inr h

  -- the others only see a step
  pub has_seen : (c : Channel T Waiter) (q : ℕ) (h : ListenerRef) (us : List (ActiveCall T Waiter)) → AnyOf (HasIt q h) us → AnyOf (HasIt q h) (map (sees c) us)
  has_seen c q h [] i = i
  has_seen c q h (u ∷ us) (inl i) = inl i
  has_seen c q h (u ∷ us) (inr i) = inr (has_seen c q h us i)

  pub had_seen : (c : Channel T Waiter) (q : ℕ) (h : ListenerRef) (us : List (ActiveCall T Waiter)) → AnyOf (HasIt q h) (map (sees c) us) → AnyOf (HasIt q h) us
  had_seen c q h [] i = i
  had_seen c q h (u ∷ us) (inl i) = inl i
  had_seen c q h (u ∷ us) (inr i) = inr (had_seen c q h us i)

  -- ---- one by one

  pub suits_on : (p p' : Waiter → NameStatus) (e : OnReturn T) (wait : Option (WaitList × Waiter)) → ((v : Waiter) → subject e ≡ Some v → p' v ≡ p v) → Suits p e wait → Suits p' e wait
  suits_on p p' (OnReturn.Poll op) wait f h = (h.0, f (Op op) refl ∙ h.1, h.2)
  suits_on p p' (OnReturn.PollNext receiver) wait f h = (h.0, f (Stream receiver) refl ∙ h.1, h.2)
  suits_on p p' (OnReturn.Make op operation) wait f h = (f (Op op) refl ∙ h.0, h.1, h.2)
  suits_on p p' (OnReturn.New from new kind) wait f h = (f (Stream new) refl ∙ h.0, h.1)
  suits_on p p' x wait f h = h

  -- where an agent works, the name is busy
  pub busy : (p : Waiter → NameStatus) (e : OnReturn T) (wait : Option (WaitList × Waiter)) (v : Waiter) → Suits p e wait → subject e ≡ Some v → IsBusy (p v)
  busy p (OnReturn.Poll op) wait v h e = by (ap (λ (o : Option Waiter). elim o [ None ↦ v | Some w ↦ w ]) e)
    where
      by : Op op ≡ v → IsBusy (p v)
      by same = subst (λ (w : Waiter). IsBusy (p w)) same (subst IsBusy (sym h.1) tt)
  busy p (OnReturn.PollNext receiver) wait v h e = by (ap (λ (o : Option Waiter). elim o [ None ↦ v | Some w ↦ w ]) e)
    where
      by : Stream receiver ≡ v → IsBusy (p v)
      by same = subst (λ (w : Waiter). IsBusy (p w)) same (subst IsBusy (sym h.1) tt)
  busy p (OnReturn.Make op operation) wait v h e = by (ap (λ (o : Option Waiter). elim o [ None ↦ v | Some w ↦ w ]) e)
    where
      by : Op op ≡ v → IsBusy (p v)
      by same = subst (λ (w : Waiter). IsBusy (p w)) same (subst IsBusy (sym h.0) tt)
  busy p (OnReturn.New from new kind) wait v h e = by (ap (λ (o : Option Waiter). elim o [ None ↦ v | Some w ↦ w ]) e)
    where
      by : Stream new ≡ v → IsBusy (p v)
      by same = subst (λ (w : Waiter). IsBusy (p w)) same (subst IsBusy (sym h.0) tt)
  busy p x wait v h e = absurd (let no : None ≡ Some v = e in cc)

  -- these names stand as before
  abbrev pub Keeps : (Waiter → NameStatus) → (Waiter → NameStatus) → Agent T → Type 0
  Keeps p p' a = (v : Waiter) → subject a.on_return ≡ Some v → p' v ≡ p v

  pub together_on : (p p' : Waiter → NameStatus) (agents : List (Agent T)) (us : List (ActiveCall T Waiter)) → All (Keeps p p') agents → Together p agents us → Together p' agents us
  together_on p p' [] [] f h = tt
  together_on p p' (a ∷ more) (u ∷ us) f h = (
    record { party = h.0.party; suits = suits_on p p' a.on_return _ f.0 h.0.suits; bears = h.0.bears; lines = h.0.lines },
    together_on p p' more us f.1 h.1,
  )
  together_on p p' [] (u ∷ us) f h = absurd h
  together_on p p' (a ∷ more) [] f h = absurd h

  pub together_sees : (c : Channel T Waiter) (p : Waiter → NameStatus) (agents : List (Agent T)) (us : List (ActiveCall T Waiter)) → Together p agents us → Together p agents (map (sees c) us)
  together_sees c p [] [] h = tt
  together_sees c p (a ∷ more) (u ∷ us) h = (record { party = h.0.party; suits = h.0.suits; bears = h.0.bears; lines = h.0.lines }, together_sees c p more us h.1)
  together_sees c p more us h = absurd h

  pub together_join : (p : Waiter → NameStatus) (front back : List (Agent T)) (us vs : List (ActiveCall T Waiter)) → Together p front us → Together p back vs → Together p (front ++ back) (us ++ vs)
  together_join p [] back [] vs h k = k
  together_join p (a ∷ front) back (u ∷ us) vs h k = (h.0, together_join p front back us vs h.1 k)
  together_join p front back us vs h k = absurd h

  -- the agent of a call, with those before and behind
  pub record Parted (p : Waiter → NameStatus) (agents : List (Agent T)) (before : List (ActiveCall T Waiter)) (mine : ActiveCall T Waiter) (behind : List (ActiveCall T Waiter)) : Type 0 where
    pub front : List (Agent T)
    pub agent : Agent T
    pub back : List (Agent T)
    pub are : agents ≡ front ++ agent ∷ back
    pub first : Together p front before
    pub own : AgentFits p agent mine
    pub last : Together p back behind

  pub parted : (p : Waiter → NameStatus) (agents : List (Agent T)) (before : List (ActiveCall T Waiter)) (mine : ActiveCall T Waiter) (behind : List (ActiveCall T Waiter)) → Together p agents (before ++ mine ∷ behind) → Parted p agents before mine behind
  parted p (a ∷ more) [] mine behind h = record { front = []; agent = a; back = more; are = refl; first = tt; own = h.0; last = h.1 }
  parted p (a ∷ more) (u ∷ before) mine behind h =
      let rest = parted p more before mine behind h.1 in
      record {
        front = a ∷ rest.front;
        agent = rest.agent;
        back = rest.back;
        are = ap (λ (l : List (Agent T)). a ∷ l) rest.are;
        first = (h.0, rest.first);
        own = rest.own;
        last = rest.last;
      }
  parted p [] [] mine behind h = absurd h
  parted p [] (u ∷ before) mine behind h = absurd h

  -- ---- no two alike

  turned : (a b : Agent T) → Differ a b → Differ b a
  turned a b d = record { party = λ e. d.party (sym e); name = λ w e f. d.name w f e }

  -- those beside one of them
  pub record Beside (front : List (Agent T)) (a : Agent T) (back : List (Agent T)) : Type 0 where
    pub rest : AllDiffer (front ++ back)
    pub first : All (Differ a) front
    pub last : All (Differ a) back

  pub beside : (front : List (Agent T)) (a : Agent T) (back : List (Agent T)) → AllDiffer (front ++ a ∷ back) → Beside front a back
  beside [] a back h = record { rest = h.1; first = tt; last = h.0 }
  beside (b ∷ front) a back h =
      let r = beside front a back h.1 in
      let right = all_right (Differ b) front (a ∷ back) h.0 in
      record {
        rest = (all_join (Differ b) front back (all_left (Differ b) front (a ∷ back) h.0) right.1, r.rest);
        first = (turned b a right.0, r.first);
        last = r.last;
      }

  -- the agent of this party is this one
  pub record Is (agents front : List (Agent T)) (a : Agent T) (back : List (Agent T)) (k : ℕ) (x : Agent T) : Type 0 where
    pub same : x ≡ a
    pub without : remove agents k ≡ front ++ back

  pub is_agent : (front : List (Agent T)) (a : Agent T) (back : List (Agent T)) (k : ℕ) (x : Agent T) → AllDiffer (front ++ a ∷ back) → slice_get (front ++ a ∷ back) k ≡ Some x → x.party ≡ a.party → Is (front ++ a ∷ back) front a back k x
  is_agent [] a back zero x d h e = record { same = ap (λ (o : Option (Agent T)). elim o [ None ↦ a | Some y ↦ y ]) (sym h); without = refl }
  is_agent [] a back (suc k) x d h e = absurd (other back k d.0 h)
    where
      other : (l : List (Agent T)) (k : ℕ) → All (Differ a) l → slice_get l k ≡ Some x → ⊥
      other [] k f g = absurd (let no : None ≡ Some x = g in cc)
      other (b ∷ l) zero f g = f.0.party (sym (ap (λ (o : Option (Agent T)). elim o [ None ↦ x.party | Some y ↦ y.party ]) g ∙ e))
      other (b ∷ l) (suc k) f g = other l k f.1 g
  is_agent (b ∷ front) a back zero x d h e =
      let right = all_right (Differ b) front (a ∷ back) d.0 in
      absurd (right.0.party (ap (λ (o : Option (Agent T)). elim o [ None ↦ x.party | Some y ↦ y.party ]) h ∙ e))
  is_agent (b ∷ front) a back (suc k) x d h e =
      let r = is_agent front a back k x d.1 h e in
      record { same = r.same; without = ap (λ (l : List (Agent T)). b ∷ l) r.without }

  -- the calls of others are of other parties
  pub other_party : (p : Waiter → NameStatus) (a : Agent T) (agents : List (Agent T)) (us : List (ActiveCall T Waiter)) (q : ℕ) (h : ListenerRef) → Together p agents us → All (Differ a) agents → AnyOf (HasIt q h) us → q ≡ a.party → ⊥
  other_party p a [] [] q h t d i e = i
  other_party p a (b ∷ more) (u ∷ us) q h t d (inl i) e = d.0.party (sym e ∙ (sym i.0 ∙ sym t.0.party))
  other_party p a (b ∷ more) (u ∷ us) q h t d (inr i) e = other_party p a more us q h t.1 d.1 i e
  other_party p a [] (u ∷ us) q h t d i e = absurd t
  other_party p a (b ∷ more) [] q h t d i e = i
