-- What the counts count, from one step to the next.
use Rattle.std.specs.Prelude.{◌≡◌, ◌+◌, ◌≤◌, ◌&&◌, ◌∷◌, ◌++◌, ◌⊎◌}
use Rattle.channel_world_runs.proofs.Lemmas.{map-append, arith, ℕ, Bool, true, false, List, [], map, Option, None, Some, inl, inr, refl, sym, ap, ◌∙◌, subst, Phase, is_made, Channel, Effect, count, ChannelAsk, Mark, Reply, Returned, Side, Senders, Receivers, Stage, Call, Waiter, Open, Shut, new_configuration, Begins, ActiveCall, Configuration, Steps, Known, AllKnown, sees, does, unless_ended, ChannelEntry as Entry, IsOrListens, asks, on_return_of, written_back, tally, is_lowering, is_closing, is_raising, makes_strong, CountsSide, Counted, NameStatus, status, wait_of, Together, Owned, first_name_table, WakeOrder, no_places, NameState, name_state_begun, with_woken, Agent, PartyId, asks_lowering, asks_raising, lowering_same, raising_same, Starts, starts, bit, settled_live}
use Rattle.channel_steps.specs.Run as start
use Rattle.channel_world_runs.proofs.CountBegins.{BeginsSo, begins_so}
use Rattle.channel_world_runs.proofs.CountClosings.{closing_shuts, last_closes}
use Rattle.channel_world_runs.proofs.CountTurns.{Turns, turns}
use Rattle.channel_world_runs.proofs.OwnerRuns.{parts, IsAfter, ended_as}
use Rattle.channel_world_runs.proofs.OwnerTogether.{Parted}

-- ---- lists

tally_both : {X : Type 0} (test : X → Bool) (xs ys : List X) → tally test (xs ++ ys) ≡ tally test xs + tally test ys
tally_both test [] ys = omega arith
tally_both test (x ∷ xs) ys = let rest = tally_both test xs ys in omega (arith, rest)

first_same : (a b : Bool) (xs ys : List Bool) → (a ∷ xs) ≡ (b ∷ ys) → a ≡ b
first_same a b xs ys e = ap (λ (l : List Bool). elim l [ [] ↦ a | z ∷ zs ↦ z ]) e

rest_same : (a b : Bool) (xs ys : List Bool) → (a ∷ xs) ≡ (b ∷ ys) → xs ≡ ys
rest_same a b xs ys e = ap (λ (l : List Bool). elim l [ [] ↦ xs | z ∷ zs ↦ zs ]) e

one_of : (b : Bool) → (b ≡ true) ⊎ (b ≡ false)
one_of true = inl refl
one_of false = inr refl

module _ {T : Type 0} where
  -- ---- a channel that was just opened

  pub counted_first : (cap : Option ℕ) → Counted {T = T} (record { name_table = first_name_table; order = no_places; agents = [] }) (new_configuration cap)
  counted_first cap Senders = record { counts = omega arith; opened = λ o. inl (omega arith); makers = refl }
  counted_first cap Receivers = record { counts = omega arith; opened = λ o. inl (omega arith); makers = refl }

  -- ---- a call begins

  pub counted_begun : (q : PartyId) (c : Call T) (b : NameState T) (a : ChannelAsk T Waiter) (s t : Configuration T Waiter) (e : Entry T)
      → IsOrListens (asks b.name_table c) a → Begins s q.0 a e t → Counted b s → Counted (name_state_begun q c b) t
  counted_begun q c b a s t e is n counted side =
      record {
        counts = omega (arith, same_count, was.counts, low, begins.0, lowering);
        opened = opened;
        makers = makers;
      }
    where
      was : CountsSide side b s
      was = counted side

      starts_so : Starts a n.at
      starts_so = starts a n.answer n.at n.turned

      first : (is_lowering side n.at ≡ asks_lowering side (asks b.name_table c)) × (is_raising side n.at ≡ asks_raising side (asks b.name_table c))
      first = (starts_so.2 side ∙ lowering_same side (asks b.name_table c) a is, starts_so.3 side ∙ raising_same side (asks b.name_table c) a is)

      begins : BeginsSo T side b.name_table c
      begins = begins_so T side b.name_table c

      new : ActiveCall T Waiter
      new = start.call_begun q.0 a n.at s.now

      same_count : count side t.now.wait_lists ≡ count side s.now.wait_lists
      same_count = ap (λ (x : Channel T Waiter). count side x.wait_lists) n.now

      low : bit (is_lowering side n.at) ≡ bit (asks_lowering side (asks b.name_table c))
      low = ap bit first.0

      all : (test : ActiveCall T Waiter → Bool) → tally test t.under_way ≡ tally test s.under_way + bit (test new)
      all test =
          let one = tally_both test s.under_way (new ∷ []) in
          let same = ap (λ (us : List (ActiveCall T Waiter)). tally test us) n.under_way in
          omega (arith, one, same)

      lowering : tally (λ (u : ActiveCall T Waiter). is_lowering side u.at) t.under_way
          ≡ tally (λ (u : ActiveCall T Waiter). is_lowering side u.at) s.under_way + bit (is_lowering side n.at)
      lowering = all (λ (u : ActiveCall T Waiter). is_lowering side u.at)

      opened : Open t.now → (1 ≤ count side t.now.wait_lists) ⊎ (1 ≤ tally (λ (u : ActiveCall T Waiter). is_closing side u.at) t.under_way)
      opened o = by (was.opened (ap (λ (x : Channel T Waiter). x.queue.closed) (sym n.now) ∙ o))
        where
          by : (1 ≤ count side s.now.wait_lists) ⊎ (1 ≤ tally (λ (u : ActiveCall T Waiter). is_closing side u.at) s.under_way)
              → (1 ≤ count side t.now.wait_lists) ⊎ (1 ≤ tally (λ (u : ActiveCall T Waiter). is_closing side u.at) t.under_way)
          by (inl h) = inl (omega (arith, same_count, h))
          by (inr h) = let closing = all (λ (u : ActiveCall T Waiter). is_closing side u.at) in inr (omega (arith, closing, h))

      makers : map (λ (a : Agent T). makes_strong side a.on_return) (name_state_begun q c b).agents ≡ map (λ (u : ActiveCall T Waiter). is_raising side u.at) t.under_way
      makers =
          map-append (λ (a : Agent T). makes_strong side a.on_return) b.agents (record { party = q.0; on_return = on_return_of b.name_table c } ∷ [])
          ∙ (ap (λ (l : List Bool). l ++ (makes_strong side (on_return_of b.name_table c) ∷ [])) was.makers
          ∙ (ap (λ (x : Bool). map (λ (u : ActiveCall T Waiter). is_raising side u.at) s.under_way ++ (x ∷ [])) (begins.1 ∙ sym first.1)
          ∙ (sym (map-append (λ (u : ActiveCall T Waiter). is_raising side u.at) s.under_way (new ∷ []))
          ∙ ap (λ (us : List (ActiveCall T Waiter)). map (λ (u : ActiveCall T Waiter). is_raising side u.at) us) (sym n.under_way))))

  -- ---- a call makes a step

  tally_seen : (test : Stage (Phase T) T Waiter → Bool) (d : Channel T Waiter) (us : List (ActiveCall T Waiter))
      → tally (λ (u : ActiveCall T Waiter). test u.at) (map (sees d) us) ≡ tally (λ (u : ActiveCall T Waiter). test u.at) us
  tally_seen test d [] = refl
  tally_seen test d (u ∷ us) = ap (λ (n : ℕ). bit (test u.at) + n) (tally_seen test d us)

  map_seen : (test : Stage (Phase T) T Waiter → Bool) (d : Channel T Waiter) (us : List (ActiveCall T Waiter))
      → map (λ (u : ActiveCall T Waiter). test u.at) (map (sees d) us) ≡ map (λ (u : ActiveCall T Waiter). test u.at) us
  map_seen test d [] = refl
  map_seen test d (u ∷ us) = ap (λ (l : List Bool). test u.at ∷ l) (map_seen test d us)

  -- the agents and their calls, one by one
  pub record Apart (f : Agent T → Bool) (g : ActiveCall T Waiter → Bool) (front : List (Agent T)) (a : Agent T) (back : List (Agent T))
      (before : List (ActiveCall T Waiter)) (u : ActiveCall T Waiter) (behind : List (ActiveCall T Waiter)) : Type 0 where
    pub first : map f front ≡ map g before
    pub own : f a ≡ g u
    pub last : map f back ≡ map g behind

  apart : (p : Waiter → NameStatus) (f : Agent T → Bool) (g : ActiveCall T Waiter → Bool) (front : List (Agent T)) (a : Agent T)
      (back : List (Agent T)) (before : List (ActiveCall T Waiter)) (u : ActiveCall T Waiter) (behind : List (ActiveCall T Waiter))
      → Together p front before → map f (front ++ (a ∷ back)) ≡ map g (before ++ (u ∷ behind)) → Apart f g front a back before u behind
  apart p f g [] a back [] u behind t e = record { first = refl; own = first_same _ _ _ _ e; last = rest_same _ _ _ _ e }
  apart p f g (b ∷ front) a back (v ∷ before) u behind t e =
      let rest = apart p f g front a back before u behind t.1 (rest_same _ _ _ _ e) in
      record {
        first = ap (λ (x : Bool). x ∷ map f front) (first_same _ _ _ _ e) ∙ ap (λ (l : List Bool). g v ∷ l) rest.first;
        own = rest.own;
        last = rest.last;
      }
  apart p f g front a back before u behind t e = absurd t

  known_of : (now : Channel T Waiter) (us : List (ActiveCall T Waiter)) (u : ActiveCall T Waiter) (vs : List (ActiveCall T Waiter))
      → AllKnown now (us ++ (u ∷ vs)) → Known now u
  known_of now [] u vs h = h.0
  known_of now (x ∷ us) u vs h = known_of now us u vs h.1

  module _ (b : NameState T) (s t : Configuration T Waiter) (p : ℕ) (m : Mark) (r : Option (Reply T)) (kp : Option (Returned T)) (names : List Waiter)
      (o : Owned b s) (known : AllKnown s.now s.under_way) (st : Steps s p (record { mark = m; reply = r; kept = kp }) names t)
      (stays : Shut s.now → Shut t.now) (counted : Counted b s) (side : Side) where
    abbrev effect : Effect T Waiter
    effect = record { channel = t.now; mark = m; woken = names }

    abbrev mine_now : ActiveCall T Waiter
    mine_now = does st.mine st.at_now m s.now t.now

    own_known : Known s.now st.mine
    own_known =
        known_of s.now st.before st.mine st.behind (subst (λ (us : List (ActiveCall T Waiter)). AllKnown s.now us) st.there known)

    abbrev before : (Stage (Phase T) T Waiter → Bool) → ℕ
    before test = tally (λ (u : ActiveCall T Waiter). test u.at) st.before

    abbrev behind : (Stage (Phase T) T Waiter → Bool) → ℕ
    behind test = tally (λ (u : ActiveCall T Waiter). test u.at) st.behind

    tally_was : (test : Stage (Phase T) T Waiter → Bool)
        → tally (λ (u : ActiveCall T Waiter). test u.at) s.under_way ≡ before test + (bit (test st.mine.at) + behind test)
    tally_was test =
        ap (λ (us : List (ActiveCall T Waiter)). tally (λ (u : ActiveCall T Waiter). test u.at) us) st.there
        ∙ tally_both (λ (u : ActiveCall T Waiter). test u.at) st.before (st.mine ∷ st.behind)

    tally_is : (test : Stage (Phase T) T Waiter → Bool)
        → tally (λ (u : ActiveCall T Waiter). test u.at) t.under_way
        ≡ before test + (tally (λ (u : ActiveCall T Waiter). test u.at) (unless_ended mine_now r) + behind test)
    tally_is test =
        let now = unless_ended mine_now r in
        let whole = ap (λ (us : List (ActiveCall T Waiter)). tally (λ (u : ActiveCall T Waiter). test u.at) us) st.left in
        let one = tally_both (λ (u : ActiveCall T Waiter). test u.at) (map (sees t.now) st.before) (now ++ map (sees t.now) st.behind) in
        let two = tally_both (λ (u : ActiveCall T Waiter). test u.at) now (map (sees t.now) st.behind) in
        let first = tally_seen test t.now st.before in
        let last = tally_seen test t.now st.behind in
        omega (arith, whole, one, two, first, last)

    was : CountsSide side b s
    was = counted side

    enough : bit (is_lowering side st.mine.at) ≤ count side s.now.wait_lists
    enough = let c = was.counts in let w = tally_was (λ at. is_lowering side at) in omega (arith, c, w)

    pub turned : Turns T Waiter side st.mine.at (count side s.now.wait_lists) r st.at_now (count side t.now.wait_lists)
    turned =
        let k = own_known in
        turns T Waiter side s.now st.mine.ask st.mine.at effect r st.at_now st.mine.marks st.mine.seen k.stands enough st.moves

    -- no less than before, unless it is lowered
    no_less : (x : Option (Reply T)) → Turns T Waiter side st.mine.at (count side s.now.wait_lists) x st.at_now (count side t.now.wait_lists)
        → is_lowering side st.mine.at ≡ false → count side s.now.wait_lists ≤ count side t.now.wait_lists
    no_less None h e = let n : bit (is_lowering side st.mine.at) ≡ 0 = ap bit e in let f = h.0 in omega (arith, f, n)
    no_less (Some y) h e = let n : bit (is_lowering side st.mine.at) ≡ 0 = ap bit e in omega (arith, h, n)

    abbrev Opened : Type 0
    Opened = (1 ≤ count side t.now.wait_lists) ⊎ (1 ≤ tally (λ (u : ActiveCall T Waiter). is_closing side u.at) t.under_way)

    closes_now : (x : Option (Reply T)) → x ≡ None → is_closing side st.at_now ≡ true
        → 1 ≤ tally (λ (u : ActiveCall T Waiter). is_closing side u.at) (unless_ended mine_now x)
    closes_now None e h = let one : bit (is_closing side st.at_now) ≡ 1 = ap bit h in omega (arith, one)
    closes_now (Some y) e h = absurd (let no : Some y ≡ None = e in cc)

    had_one : 1 ≤ count side s.now.wait_lists → (is_lowering side st.mine.at ≡ true) ⊎ (is_lowering side st.mine.at ≡ false) → Opened
    had_one h (inr e) = let l = no_less r turned e in inl (omega (arith, h, l))
    had_one h (inl e) = by (last_closes T Waiter side s.now st.mine.at effect r st.at_now st.moves e h)
      where
        by : (1 ≤ count side t.now.wait_lists) ⊎ ((r ≡ None) × (is_closing side st.at_now ≡ true)) → Opened
        by (inl g) = inl g
        by (inr g) =
            let one = closes_now r g.0 g.1 in
            let all = tally_is (λ at. is_closing side at) in
            inr (omega (arith, one, all))

    had_closer : Open t.now → 1 ≤ tally (λ (u : ActiveCall T Waiter). is_closing side u.at) s.under_way
        → (is_closing side st.mine.at ≡ true) ⊎ (is_closing side st.mine.at ≡ false) → Opened
    had_closer is_open h (inl e) =
        let k = own_known in
        let shut = closing_shuts T Waiter side s.now st.mine.ask st.mine.at effect r st.at_now st.mine.marks st.mine.seen k.stands st.moves e in
        absurd (let no : false ≡ true = sym is_open ∙ shut in cc)
    had_closer is_open h (inr e) =
        let none : bit (is_closing side st.mine.at) ≡ 0 = ap bit e in
        let w = tally_was (λ at. is_closing side at) in
        let all = tally_is (λ at. is_closing side at) in
        inr (omega (arith, h, none, w, all))

    open_before : (x : Bool) → s.now.queue.closed ≡ x → Open t.now → Open s.now
    open_before true e is_open = absurd (let no : false ≡ true = sym is_open ∙ stays e in cc)
    open_before false e is_open = e

    pub still_opened : Open t.now → Opened
    still_opened is_open = by (was.opened (open_before s.now.queue.closed refl is_open))
      where
        by : (1 ≤ count side s.now.wait_lists) ⊎ (1 ≤ tally (λ (u : ActiveCall T Waiter). is_closing side u.at) s.under_way) → Opened
        by (inl h) = had_one h (one_of (is_lowering side st.mine.at))
        by (inr h) = had_closer is_open h (one_of (is_closing side st.mine.at))

    abbrev makes : Agent T → Bool
    makes a = makes_strong side a.on_return

    abbrev may : ActiveCall T Waiter → Bool
    may u = is_raising side u.at

    abbrev pt : Parted (status b.name_table) b.agents st.before st.mine st.behind
    pt = parts b s t p m r kp names o known st

    pub pairs : Apart makes may pt.front pt.agent pt.back st.before st.mine st.behind
    pairs =
        apart (status b.name_table) makes may pt.front pt.agent pt.back st.before st.mine st.behind pt.first
        (ap (λ (l : List (Agent T)). map makes l) (sym pt.are)
        ∙ (was.makers ∙ ap (λ (us : List (ActiveCall T Waiter)). map may us) st.there))

  -- it goes on
  counted_goes : (b : NameState T) (s t : Configuration T Waiter) (p : ℕ) (m : Mark) (kp : Option (Returned T)) (names : List Waiter) (o : Owned b s)
      (known : AllKnown s.now s.under_way) (st : Steps s p (record { mark = m; reply = None; kept = kp }) names t)
      → (Shut s.now → Shut t.now) → Counted b s → Counted (with_woken names b) t
  counted_goes b s t p m kp names o known st stays counted side =
      let c = (counted side).counts in
      let step = turned b s t p m None kp names o known st stays counted side in
      let turn = step.0 in
      let had = tally_was b s t p m None kp names o known st stays counted side (λ at. is_lowering side at) in
      let has = tally_is b s t p m None kp names o known st stays counted side (λ at. is_lowering side at) in
      record {
        counts = omega (arith, c, turn, had, has);
        opened = still_opened b s t p m None kp names o known st stays counted side;
        makers = (counted side).makers ∙ (was ∙ (ap middle (sym step.1) ∙ sym is));
      }
    where
      may : ActiveCall T Waiter → Bool
      may u = is_raising side u.at

      middle : Bool → List Bool
      middle x = map may st.before ++ (x ∷ map may st.behind)

      was : map may s.under_way ≡ middle (is_raising side st.mine.at)
      was = ap (λ (us : List (ActiveCall T Waiter)). map may us) st.there ∙ map-append may st.before (st.mine ∷ st.behind)

      is : map may t.under_way ≡ middle (is_raising side st.at_now)
      is =
          ap (λ (us : List (ActiveCall T Waiter)). map may us) st.left
          ∙ (map-append may (map (sees t.now) st.before) (does st.mine st.at_now m s.now t.now ∷ map (sees t.now) st.behind)
          ∙ (ap (λ (l : List Bool). l ++ (is_raising side st.at_now ∷ map may (map (sees t.now) st.behind)))
          (map_seen (λ at. is_raising side at) t.now st.before)
          ∙ ap (λ (l : List Bool). map may st.before ++ (is_raising side st.at_now ∷ l)) (map_seen (λ at. is_raising side at) t.now st.behind)))

  -- it ends, and writes back what it has to
  counted_ends : (b : NameState T) (s t : Configuration T Waiter) (p : ℕ) (m : Mark) (y : Reply T) (kp : Option (Returned T)) (names : List Waiter)
      (o : Owned b s) (known : AllKnown s.now s.under_way) (st : Steps s p (record { mark = m; reply = Some y; kept = kp }) names t)
      (kept : Returned T) (order : WakeOrder) → (Shut s.now → Shut t.now) → Counted b s
      → (let pt = parts b s t p m (Some y) kp names o known st in
      Counted (record { name_table = written_back pt.agent.on_return y kept b.name_table; order = order; agents = pt.front ++ pt.back }) t)
  counted_ends b s t p m y kp names o known st kept order stays counted side =
      let c = (counted side).counts in
      let step = turned b s t p m (Some y) kp names o known st stays counted side in
      let had = tally_was b s t p m (Some y) kp names o known st stays counted side (λ at. is_lowering side at) in
      let has = tally_is b s t p m (Some y) kp names o known st stays counted side (λ at. is_lowering side at) in
      let back = settled_live side pt.agent.on_return y kept (wait_of st.mine.ask) b.name_table pt.own.suits in
      let same : bit (makes_strong side pt.agent.on_return && is_made (Some y)) ≡ bit (is_raising side st.mine.at && is_made (Some y)) =
      ap (λ (x : Bool). bit (x && is_made (Some y))) two.own in
      record {
        counts = omega (arith, c, step, had, has, back, same);
        opened = still_opened b s t p m (Some y) kp names o known st stays counted side;
        makers = makers;
      }
    where
      pt : Parted (status b.name_table) b.agents st.before st.mine st.behind
      pt = parts b s t p m (Some y) kp names o known st

      makes : Agent T → Bool
      makes a = makes_strong side a.on_return

      may : ActiveCall T Waiter → Bool
      may u = is_raising side u.at

      two : Apart makes may pt.front pt.agent pt.back st.before st.mine st.behind
      two = pairs b s t p m (Some y) kp names o known st stays counted side

      makers : map makes (pt.front ++ pt.back) ≡ map may t.under_way
      makers =
          map-append makes pt.front pt.back
          ∙ (ap (λ (l : List Bool). l ++ map makes pt.back) (two.first ∙ sym (map_seen (λ at. is_raising side at) t.now st.before))
          ∙ (ap (λ (l : List Bool). map may (map (sees t.now) st.before) ++ l)
          (two.last ∙ sym (map_seen (λ at. is_raising side at) t.now st.behind))
          ∙ (sym (map-append may (map (sees t.now) st.before) (map (sees t.now) st.behind))
          ∙ ap (λ (us : List (ActiveCall T Waiter)). map may us) (sym st.left))))

  -- ---- any step

  pub counted_step : (b c : NameState T) (s t : Configuration T Waiter) (q : PartyId) (m : Mark) (r : Option (Reply T)) (kp : Option (Returned T))
      (names : List Waiter) → Owned b s → AllKnown s.now s.under_way
      → Steps s q.0 (record { mark = m; reply = r; kept = kp }) names t → IsAfter b q r kp names c
      → (Shut s.now → Shut t.now) → Counted b s → Counted c t
  counted_step b c s t q m None kp names o known st after stays counted =
      subst (λ (d : NameState T). Counted d t) (sym after.4) (counted_goes b s t q.0 m kp names o known st stays counted)
  counted_step b c s t q m (Some y) kp names o known st after stays counted =
      let f = st.finishes in
      subst (λ (d : NameState T). Counted d t) (sym (ended_as b c s t q m y kp names o known st after))
      (counted_ends b s t q.0 m y kp names o known st f.kept _ stays counted)
