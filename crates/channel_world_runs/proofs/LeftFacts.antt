-- The steps that are left to a call, by its party and by its place.
use Rattle.std.specs.Prelude.{◌≡◌, ◌≤◌, ◌==◌, if◌then◌else◌, ◌∷◌, ◌++◌}
use Rattle.channel_world_runs.proofs.Lemmas.{eq-eqb, ne_eqb, arith, ℕ, suc, nat_eq, Bool, true, false, List, [], map, length, slice_get, Option, None, Some, refl, sym, ap, ◌∙◌, subst, length-map, Channel, Parts, Reply, Waiter, party_left, all_left, left_at, most_left, most_wanted, hold_still, ActiveCall, Configuration, ActiveCallWitness, OthersQuiet, Represents, Steps, sees, does, active_call_of, unless_ended, wanted_at, parties_in, ChannelEntry, Party, name_state_of, parties_of, parts_in, lefts_in, StandsIn, LedByStep, WorldInvariant, calls_of_others, wanted_of, left_of, NameStatus, status, All, AllDiffer, Differ, Owned, Together, is_at_work, NameState, Moment, ComesNearer, LeadsBy, moment_of, WorldState, Agent, Entry, PartyId, Step}
use Rattle.channel_world_runs.proofs.OwnerSteps.{not_this, other_number}

module _ {T : Type 0} where
  -- ---- a party has one call under way

  -- none of these calls is of this party
  abbrev pub NoneIs : ℕ → List (ActiveCall T Waiter) → Type 0
  NoneIs p us = All (λ (u : ActiveCall T Waiter). u.party ≡ p → ⊥) us

  not_among : (statuses : Waiter → NameStatus) (a : Agent T) (agents : List (Agent T)) (us : List (ActiveCall T Waiter)) (mine : ActiveCall T Waiter)
      (vs : List (ActiveCall T Waiter)) → Together statuses agents (us ++ (mine ∷ vs)) → All (Differ a) agents → a.party ≡ mine.party → ⊥
  not_among statuses a [] [] mine vs t d e = t
  not_among statuses a [] (u ∷ us) mine vs t d e = t
  not_among statuses a (b ∷ more) [] mine vs t d e = d.0.party (e ∙ sym t.0.party)
  not_among statuses a (b ∷ more) (u ∷ us) mine vs t d e = not_among statuses a more us mine vs t.1 d.1 e

  none_before : (statuses : Waiter → NameStatus) (agents : List (Agent T)) (us : List (ActiveCall T Waiter)) (mine : ActiveCall T Waiter)
      (vs : List (ActiveCall T Waiter)) → Together statuses agents (us ++ (mine ∷ vs)) → AllDiffer agents → NoneIs mine.party us
  none_before statuses agents [] mine vs t d = tt
  none_before statuses [] (u ∷ us) mine vs t d = absurd t
  none_before statuses (a ∷ more) (u ∷ us) mine vs t d =
      (λ e. not_among statuses a more us mine vs t.1 d.0 (t.0.party ∙ e), none_before statuses more us mine vs t.1 d.1)

  -- a party that isn't at work has none
  pub none_at_work : (statuses : Waiter → NameStatus) (p : ℕ) (agents : List (Agent T)) (us : List (ActiveCall T Waiter)) → Together statuses agents us
      → is_at_work p agents ≡ false → NoneIs p us
  none_at_work statuses p [] [] t idle = tt
  none_at_work statuses p (a ∷ more) (u ∷ us) t idle =
      let first = not_this (nat_eq a.party p) (is_at_work p more) idle in
      (λ e. other_number a.party p first.0 (t.0.party ∙ e), none_at_work statuses p more us t.1 first.1)
  none_at_work statuses p more us t idle = absurd t

  others_are : (p : ℕ) (us : List (ActiveCall T Waiter)) (mine : ActiveCall T Waiter) (vs : List (ActiveCall T Waiter)) → NoneIs p us → mine.party ≡ p
      → calls_of_others p (us ++ (mine ∷ vs)) ≡ us ++ vs
  others_are p [] mine vs none his = rw (eq-eqb mine.party p his) refl
  others_are p (u ∷ us) mine vs none his =
      rw (ne_eqb u.party p none.0) (ap (λ (l : List (ActiveCall T Waiter)). u ∷ l) (others_are p us mine vs none.1 his))

  -- ---- the parties are those of the calls under way

  seated : (xs : List (ActiveCallWitness T Waiter)) → parties_in (map (λ (x : ActiveCallWitness T Waiter). x.party) xs) ≡ map (λ (u : ActiveCall T Waiter). u.party) (map active_call_of xs)
  seated [] = refl
  seated (x ∷ xs) = ap (λ (l : List ℕ). x.party.id ∷ l) (seated xs)

  pub parties_shown : (parts : Parts T Waiter) (ps : List (Party T Waiter)) (s : Configuration T Waiter) → Represents parts ps s
      → parties_in ps ≡ map (λ (u : ActiveCall T Waiter). u.party) s.under_way
  parties_shown parts ps s sh =
      ap (λ (l : List (Party T Waiter)). parties_in l) sh.parties_are
      ∙ (seated sh.witnesses ∙ ap (λ (l : List (ActiveCall T Waiter)). map (λ (u : ActiveCall T Waiter). u.party) l) (sym sh.under_way))

  -- ---- what is left to the call of a party

  left_is : (p : ℕ) (parts : Parts T Waiter) (us : List (ActiveCall T Waiter)) (mine : ActiveCall T Waiter) (vs : List (ActiveCall T Waiter))
      (ps : List (Party T Waiter)) → parties_in ps ≡ map (λ (u : ActiveCall T Waiter). u.party) (us ++ (mine ∷ vs)) → NoneIs p us
      → mine.party ≡ p → left_of p parts ps ≡ left_at (length us) (all_left parts ps)
  left_is p parts [] mine vs [] e none his = absurd cc
  left_is p parts [] mine vs (x ∷ xs) e none his =
      let first : x.id ≡ mine.party = cc e in rw (eq-eqb x.id p (first ∙ his)) refl
  left_is p parts (u ∷ us) mine vs [] e none his = absurd cc
  left_is p parts (u ∷ us) mine vs (x ∷ xs) e none his =
      let first : x.id ≡ u.party = cc e in
      let rest : parties_in xs ≡ map (λ (v : ActiveCall T Waiter). v.party) (us ++ (mine ∷ vs)) = cc e in
      rw (ne_eqb x.id p (λ same. none.0 (sym first ∙ same))) (left_is p parts us mine vs xs rest none.1 his)

  pub few_of : (p : ℕ) (parts : Parts T Waiter) (ps : List (Party T Waiter)) (us : List (ActiveCall T Waiter))
      → parties_in ps ≡ map (λ (u : ActiveCall T Waiter). u.party) us
      → ((k n : ℕ) → slice_get (all_left parts ps) k ≡ Some n → n ≤ most_left (wanted_at k us)) → left_of p parts ps ≤ most_left (wanted_of p us)
  few_of p parts [] us e few = omega arith
  few_of p parts (x ∷ xs) [] e few = absurd cc
  few_of p parts (x ∷ xs) (u ∷ us) e few =
      let first : x.id ≡ u.party = cc e in
      let rest : parties_in xs ≡ map (λ (v : ActiveCall T Waiter). v.party) us = cc e in
      subst (λ (i : ℕ). left_of p parts (x ∷ xs) ≤ most_left (if i == p then most_wanted u.ask else wanted_of p us)) first
      (by (few_of p parts xs us rest (λ k n e. few (suc k) n e)) (x.id == p))
    where
      by : left_of p parts xs ≤ most_left (wanted_of p us) → (b : Bool)
          → (if b then party_left parts x else left_of p parts xs) ≤ most_left (if b then most_wanted u.ask else wanted_of p us)
      by rest true = few 0 (party_left parts x) refl
      by rest false = rest

  -- ---- a step

  none_seen : (p : ℕ) (c : Channel T Waiter) (us : List (ActiveCall T Waiter)) → NoneIs p us → NoneIs p (map (sees c) us)
  none_seen p c [] none = tt
  none_seen p c (u ∷ us) none = (none.0, none_seen p c us none.1)

  module _ (b : NameState T) (s : Configuration T Waiter) (o : Owned b s) (p : ℕ) (e : ChannelEntry T) (names : List Waiter) (t : Configuration T Waiter)
      (n : Steps s p e names t) where
    pub apart : NoneIs p n.before
    apart =
        subst (λ (q : ℕ). NoneIs q n.before) n.whose
        (none_before (status b.name_table) b.agents n.before n.mine n.behind
        (subst (λ (us : List (ActiveCall T Waiter)). Together (status b.name_table) b.agents us) n.there o.together) o.differ)

    others_before : calls_of_others p s.under_way ≡ n.before ++ n.behind
    others_before = ap (λ (us : List (ActiveCall T Waiter)). calls_of_others p us) n.there ∙ others_are p n.before n.mine n.behind apart n.whose

    abbrev mine_after : ActiveCall T Waiter
    mine_after = does n.mine n.at_now e.mark s.now t.now

    after_is : e.reply ≡ None → t.under_way ≡ map (sees t.now) n.before ++ (mine_after ∷ map (sees t.now) n.behind)
    after_is goes_on =
        subst (λ (r : Option (Reply T)). t.under_way ≡ map (sees t.now) n.before ++ (unless_ended mine_after r ++ map (sees t.now) n.behind)) goes_on n.left

    others_after : e.reply ≡ None → calls_of_others p t.under_way ≡ map (sees t.now) n.before ++ map (sees t.now) n.behind
    others_after goes_on =
        ap (λ (us : List (ActiveCall T Waiter)). calls_of_others p us) (after_is goes_on)
        ∙ others_are p (map (sees t.now) n.before) mine_after (map (sees t.now) n.behind) (none_seen p t.now n.before apart) n.whose

    still_free : e.reply ≡ None → OthersQuiet s.now (calls_of_others p s.under_way) → OthersQuiet t.now (calls_of_others p t.under_way)
    still_free goes_on handle_entry =
        subst (λ (us : List (ActiveCall T Waiter)). OthersQuiet t.now us) (sym (others_after goes_on))
        (hold_still s p e names t n (subst (λ (us : List (ActiveCall T Waiter)). OthersQuiet s.now us) others_before handle_entry))

  -- where the others of a call are quiet, they are still so after a step of its own
  pub nobody_still : (m : Moment T) (p : PartyId) (e : Entry T) (n : Moment T) → WorldInvariant m.name_state m.configuration → LeadsBy m (Step.Step p) e n
      → e.reply ≡ None → OthersQuiet m.configuration.now (calls_of_others p.0 m.configuration.under_way) → OthersQuiet n.configuration.now (calls_of_others p.0 n.configuration.under_way)
  nobody_still m p e n k l goes_on handle_entry = still_free m.name_state m.configuration k.owned p.0 _ e.woken.items n.configuration l.made.next goes_on handle_entry

  pub comes_nearer : (x : Step T) (f g : WorldState T) (e : Entry T) (s : Configuration T Waiter) → StandsIn f s → (t : LedByStep x f e g s)
      → ComesNearer (moment_of f s) x e (moment_of g t.after)
  comes_nearer (Step.Begin p c) f g e s k t = tt
  comes_nearer (Step.Step p) f g e s k t = λ goes_on handle_entry.
      let n = t.made.next in
      let u = t.after in
      let o = k.kept.owned in
      let free = apart (name_state_of f) s o p.0 _ e.woken.items u n in
      let others = others_before (name_state_of f) s o p.0 _ e.woken.items u n in
      let after = after_is (name_state_of f) s o p.0 _ e.woken.items u n goes_on in
      let mine : ActiveCall T Waiter = does n.mine n.at_now e.mark s.now u.now in
      let less = t.nearer goes_on (subst (λ (us : List (ActiveCall T Waiter)). OthersQuiet s.now us) others handle_entry) in
      let was : left_of p.0 (parts_in f) (parties_of f) ≡ left_at (length n.before) (lefts_in f) =
      left_is p.0 (parts_in f) n.before n.mine n.behind (parties_of f)
      (parties_shown (parts_in f) (parties_of f) s k.shown.shows ∙ ap (λ (us : List (ActiveCall T Waiter)). map (λ (v : ActiveCall T Waiter). v.party) us) n.there)
      free n.whose in
      let is : left_of p.0 (parts_in g) (parties_of g) ≡ left_at (length (map (sees u.now) n.before)) (lefts_in g) =
      left_is p.0 (parts_in g) (map (sees u.now) n.before) mine (map (sees u.now) n.behind) (parties_of g)
      (parties_shown (parts_in g) (parties_of g) u t.shown.shows ∙ ap (λ (us : List (ActiveCall T Waiter)). map (λ (v : ActiveCall T Waiter). v.party) us) after)
      (none_seen p.0 u.now n.before free) n.whose in
      let place : length (map (sees u.now) n.before) ≡ length n.before = length-map n.before (sees u.now) in
      rw (was, is, place) less
