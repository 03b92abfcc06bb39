-- A merge, with other tasks for which its tasks were put: it goes on step by step, whichever tasks each call begins with.
use Rattle.std.proofs.Common.{◌≡◌, ℕ, ◌==◌, Bool, true, false, if◌then◌else◌, List, [], ◌∷◌, map, Option, None, Some, MatchOption, option_map, refl, sym, ap, subst, ◌∙◌}
use Rattle.channel_steps.proofs.every_run.Words.{QueueForm, QueueCall, first, kept_by, Parts, Takes, ChannelMakes, ChannelAsk, Mark, Reply, Returned, Stage, NextStep, Act, on_nothing, Event, begins, Happening, Completed, Notes, Acts, own, opened_parts, Changes, InOneOrder, WakesFor, with_asked, asks_of, TasksMayTellMore, ask_by, stage_by, event_by, all_by}
use Rattle.concurrent_queue.proofs.Callers.{is_same, itself}
use Rattle.channel_steps.specs.every_run.Bridge.{does}
use Rattle.channel_steps.proofs.every_run.Bridge.{happens, own_mine, own_other}
use Rattle.channel_steps.proofs.every_run.TaskSteps.{both_so, step_before}
use Rattle.channel_steps.proofs.every_run.TaskTurns.{first_alike, kept_alike, taken}

-- at this number this, and else what was there
module _ {A : Type 0} where
  abbrev instead : ℕ → A → (ℕ → A) → ℕ → A
  instead p x f q = if p == q then x else f q

  instead_mine : (p : ℕ) (x : A) (f : ℕ → A) → instead p x f p ≡ x
  instead_mine p x f = rw (itself p) refl

  instead_other : (p : ℕ) (x : A) (f : ℕ → A) (q : ℕ) → (p == q) ≡ false → instead p x f q ≡ f q
  instead_other p x f q e = rw e refl

-- where a party's call stands, or that it has none
abbrev Before : Type 0 → Type 0 → Type 0
Before T W = Option (Stage (QueueCall T) T W)

module _ {T W V S : Type 0} (put : W → V) (wakes : S → V → S → Type 0) (form : QueueForm) where
  abbrev at_so : Before T W → Before T V
  at_so at = option_map (λ s. stage_by put s) at

  -- what each party does, from the stage for which its own was put
  abbrev AllAct : (ℕ → Before T W) → List (Happening T V) → (ℕ → List (Completed T)) → Type 0
  AllAct at xs given = (p : ℕ) → Acts form (at_so (at p)) (own p xs) (given p)

  abbrev AllActBefore : (ℕ → Before T W) → List (Happening T W) → (ℕ → List (Completed T)) → Type 0
  AllActBefore at xs given = (p : ℕ) → Acts form (at p) (own p xs) (given p)

  record Behind (xs : List (Happening T V)) (asks : List (ChannelAsk T W)) (c : Parts T W × S) (at : ℕ → Before T W) (given : ℕ → List (Completed T)) (last : Parts T V × S) : Type 0 where
    pub events : List (Happening T W)
    pub are : all_by put events ≡ xs
    pub asked_so : asks_of events ≡ asks
    pub left : Parts T W × S
    pub seen : both_so put left ≡ last
    pub acts : AllActBefore at events given
    pub order : InOneOrder (WakesFor put wakes) events c left

  abbrev GoesOn : List (Happening T V) → Parts T V × S → Type 0
  GoesOn xs last =
      (asks : List (ChannelAsk T W)) (c : Parts T W × S) (at : ℕ → Before T W) (given : ℕ → List (Completed T))
      → map (λ a. ask_by put a) asks ≡ asks_of xs → AllAct at xs given → InOneOrder wakes xs (both_so put c) last → Behind xs asks c at given last

  -- the others go on as before
  acts_on : (p : ℕ) (x : Event T V) (xs : List (Happening T V)) (at : ℕ → Before T W) (now : Before T W) (given : ℕ → List (Completed T)) (left : List (Completed T))
      → AllAct at (happens p x ∷ xs) given → Acts form (at_so now) (own p xs) left → AllAct (instead p now at) xs (instead p left given)
  acts_on p x xs at now given left acts mine q = test (p == q) refl
    where
      test : (b : Bool) → (p == q) ≡ b → Acts form (at_so (instead p now at q)) (own q xs) (instead p left given q)
      test true e =
          rw e (subst (λ (n : ℕ). Acts form (at_so now) (own n xs) left) (is_same p q e) mine)
      test false e =
          rw e (subst (λ (ys : List (Event T V)). Acts form (at_so (at q)) ys (given q)) (own_other p q x xs e) (acts q))

  -- and went on so
  acts_back : (p : ℕ) (x : Event T W) (xs : List (Happening T W)) (at : ℕ → Before T W) (now : Before T W) (given : ℕ → List (Completed T)) (left : List (Completed T))
      → AllActBefore (instead p now at) xs (instead p left given) → ((ys : List (Event T W)) → Acts form now ys left → Acts form (at p) (x ∷ ys) (given p)) → AllActBefore at (happens p x ∷ xs) given
  acts_back p x xs at now given left acts mine q = test (p == q) refl
    where
      here : Acts form now (own p xs) left
      here =
          subst (λ (rs : List (Completed T)). Acts form now (own p xs) rs) (instead_mine p left given)
          (subst (λ (o : Before T W). Acts form o (own p xs) (instead p left given p)) (instead_mine p now at) (acts p))

      test : (b : Bool) → (p == q) ≡ b → Acts form (at q) (own q (happens p x ∷ xs)) (given q)
      test true e =
          subst (λ (n : ℕ). Acts form (at n) (own n (happens p x ∷ xs)) (given n)) (is_same p q e)
          (subst (λ (ys : List (Event T W)). Acts form (at p) ys (given p)) (sym (own_mine p x xs)) (mine (own p xs) here))
      test false e =
          subst (λ (ys : List (Event T W)). Acts form (at q) ys (given q)) (sym (own_other p q x xs e))
          (subst (λ (rs : List (Completed T)). Acts form (at q) (own q xs) rs) (instead_other p left given q e)
          (subst (λ (o : Before T W). Acts form o (own q xs) (instead p left given q)) (instead_other p now at q e) (acts q)))

  -- one event more in front
  joined : (p : ℕ) (x : Event T W) (y : Event T V) (xs : List (Happening T V)) (asks more : List (ChannelAsk T W)) (c d : Parts T W × S) (at : ℕ → Before T W) (now : Before T W)
      (given : ℕ → List (Completed T)) (left : List (Completed T)) (last : Parts T V × S) → event_by put x ≡ y → with_asked x more ≡ asks → Changes (WakesFor put wakes) x c d
      → (b : Behind xs more d (instead p now at) (instead p left given) last) → ((ys : List (Event T W)) → Acts form now ys left → Acts form (at p) (x ∷ ys) (given p))
      → Behind (happens p y ∷ xs) asks c at given last
  joined p x y xs asks more c d at now given left last is asks_are change b mine =
      record {
        events = happens p x ∷ b.events;
        are = ap (λ (z : Event T V). happens p z ∷ all_by put b.events) is ∙ ap (λ (zs : List (Happening T V)). happens p y ∷ zs) b.are;
        asked_so = ap (λ (zs : List (ChannelAsk T W)). with_asked x zs) b.asked_so ∙ asks_are;
        left = b.left;
        seen = b.seen;
        acts = acts_back p x b.events at now given left b.acts mine;
        order = (d, change, b.order);
      }

  -- ---- a call begins

  idle : (at : Before T W) (a : ChannelAsk T V) (ys : List (Event T V)) (rs : List (Completed T)) → Acts form (at_so at) (begins a ∷ ys) rs
      → (at ≡ None) × ((s : Stage (QueueCall T) T V) × Takes (first a) s None × Acts form (Some s) ys rs)
  idle None a ys rs h = (refl, h)
  idle (Some s) a ys rs h = absurd h

  first_ask : (asks : List (ChannelAsk T W)) (a : ChannelAsk T V) (more : List (ChannelAsk T V)) → map (λ x. ask_by put x) asks ≡ a ∷ more
      → (x : ChannelAsk T W) × (xs : List (ChannelAsk T W)) × (x ∷ xs ≡ asks) × (ask_by put x ≡ a) × (map (λ y. ask_by put y) xs ≡ more)
  first_ask [] a more e = absurd (cc e)
  first_ask (x ∷ xs) a more e = (x, xs, refl, cc e, cc e)

  begun : (p : ℕ) (a : ChannelAsk T V) (xs : List (Happening T V)) (last d : Parts T V × S) (asks : List (ChannelAsk T W)) (c : Parts T W × S) (at : ℕ → Before T W) (given : ℕ → List (Completed T))
      → map (λ x. ask_by put x) asks ≡ a ∷ asks_of xs → AllAct at (happens p (begins a) ∷ xs) given → d ≡ both_so put c → InOneOrder wakes xs d last → GoesOn xs last
      → Behind (happens p (begins a) ∷ xs) asks c at given last
  begun p a xs last d asks c at given asks_are acts same order further =
      let x = first_ask asks a (asks_of xs) asks_are in
      let mine = idle (at p) a (own p xs) (given p) (subst (λ (ys : List (Event T V)). Acts form (at_so (at p)) ys (given p)) (own_mine p (begins a) xs) (acts p)) in
      let start = mine.1 in
      let turn : Takes (first (ask_by put x.0)) start.0 None = subst (λ (y : ChannelAsk T V). Takes (first y) start.0 None) (sym x.3) start.1 in
      let s = taken put (first x.0) start.0 None (subst (λ (t : NextStep T V). Takes t start.0 None) (sym (first_alike put x.0)) turn) in
      let goes : Acts form (at_so (Some s.0)) (own p xs) (given p) = subst (λ (y : Stage (QueueCall T) T V). Acts form (Some y) (own p xs) (given p)) (sym s.2) start.2 in
      joined p (begins x.0) (begins a) xs asks x.1 c c at (Some s.0) given (given p) last (ap (λ (y : ChannelAsk T V). begins y) x.3) x.2 refl
      (further x.1 c (instead p (Some s.0) at) (instead p (given p) given) x.4 (acts_on p (begins a) xs at (Some s.0) given (given p) acts goes)
      (subst (λ (y : Parts T V × S). InOneOrder wakes xs y last) same order))
      (λ ys h. subst (λ (o : Before T W). Acts form o (begins x.0 ∷ ys) (given p)) (sym mine.0) (s.0, s.1, h))

  -- ---- a call makes a step

  busy : (at : Before T W) (o : Act T V) (ys : List (Event T V)) (rs : List (Completed T)) → Acts form (at_so at) (does o ∷ ys) rs
      → (s : Stage (QueueCall T) T W) × (at ≡ Some s) × Acts form (Some (stage_by put s)) (does o ∷ ys) rs
  busy None o ys rs h = absurd h
  busy (Some s) o ys rs h = (s, refl, h)

  module _ (p : ℕ) (o : Act T V) (xs : List (Happening T V)) (last d : Parts T V × S) (asks : List (ChannelAsk T W)) (c : Parts T W × S) (at : ℕ → Before T W) (given : ℕ → List (Completed T))
      (asks_are : map (λ x. ask_by put x) asks ≡ asks_of xs) (acts : AllAct at (happens p (does o) ∷ xs) given) (order : InOneOrder wakes xs d last) (further : GoesOn xs last)
      (change : Changes wakes (does o) (both_so put c) d) (s : Stage (QueueCall T) T W) (there : at p ≡ Some s) (m : Mark) (next : Stage (QueueCall T) T V) where
    stepped : (r : Option (Reply T)) → ChannelMakes (Notes form) (stage_by put s) on_nothing o m next r
        → MatchOption r (Acts form (Some next) (own p xs) (given p)) (λ x. (more : List (Completed T)) × (given p ≡ record { reply = x; kept = kept_by next } ∷ more) × Acts form None (own p xs) more)
        → Behind (happens p (does o) ∷ xs) asks c at given last
    stepped None makes goes =
        let b = step_before put wakes form o c d change m next None s makes in
        let x = b.before in
        let here : Acts form (at_so (Some b.after)) (own p xs) (given p) = subst (λ (y : Stage (QueueCall T) T V). Acts form (Some y) (own p xs) (given p)) (sym b.goes) goes in
        joined p (does b.act) (does o) xs asks asks c x.left at (Some b.after) given (given p) last (ap (λ (y : Act T V). does y) x.acts) refl x.changes
        (further asks x.left (instead p (Some b.after) at) (instead p (given p) given) asks_are (acts_on p (does o) xs at (Some b.after) given (given p) acts here)
        (subst (λ (y : Parts T V × S). InOneOrder wakes xs y last) (sym x.seen) order))
        (λ ys h. subst (λ (y : Before T W). Acts form y (does b.act ∷ ys) (given p)) (sym there) (m, b.after, None, b.makes, h))
    stepped (Some r) makes (more, is, goes) =
        let b = step_before put wakes form o c d change m next (Some r) s makes in
        let x = b.before in
        let kept_is : kept_by next ≡ kept_by b.after = ap (λ (y : Stage (QueueCall T) T V). kept_by y) (sym b.goes) ∙ kept_alike put b.after in
        let given_is : given p ≡ record { reply = r; kept = kept_by b.after } ∷ more = is ∙ ap (λ (k : Returned T). record { reply = r; kept = k } ∷ more) kept_is in
        joined p (does b.act) (does o) xs asks asks c x.left at None given more last (ap (λ (y : Act T V). does y) x.acts) refl x.changes
        (further asks x.left (instead p None at) (instead p more given) asks_are (acts_on p (does o) xs at None given more acts goes)
        (subst (λ (y : Parts T V × S). InOneOrder wakes xs y last) (sym x.seen) order))
        (λ ys h. subst (λ (y : Before T W). Acts form y (does b.act ∷ ys) (given p)) (sym there) (m, b.after, Some r, b.makes, (more, given_is, h)))

  happened : (p : ℕ) (y : Event T V) (xs : List (Happening T V)) (last d : Parts T V × S) (asks : List (ChannelAsk T W)) (c : Parts T W × S) (at : ℕ → Before T W) (given : ℕ → List (Completed T))
      → map (λ x. ask_by put x) asks ≡ with_asked y (asks_of xs) → AllAct at (happens p y ∷ xs) given → Changes wakes y (both_so put c) d → InOneOrder wakes xs d last → GoesOn xs last
      → Behind (happens p y ∷ xs) asks c at given last
  happened p (begins a) xs last d asks c at given asks_are acts change order further = begun p a xs last d asks c at given asks_are acts change order further
  happened p (does o) xs last d asks c at given asks_are acts change order further =
      let mine = busy (at p) o (own p xs) (given p) (subst (λ (ys : List (Event T V)). Acts form (at_so (at p)) ys (given p)) (own_mine p (does o) xs) (acts p)) in
      let g = mine.2 in
      stepped p o xs last d asks c at given asks_are acts order further change mine.0 mine.1 g.0 g.1 g.2 g.3 g.4

  no_asks : (asks : List (ChannelAsk T W)) → map (λ x. ask_by put x) asks ≡ [] → [] ≡ asks
  no_asks [] e = refl
  no_asks (x ∷ xs) e = absurd (cc e)

  none_acts : (at : Before T W) (rs : List (Completed T)) → Acts form (at_so at) [] rs → Acts form at [] rs
  none_acts None rs is = is
  none_acts (Some s) rs is = is

  behind : (xs : List (Happening T V)) (last : Parts T V × S) → GoesOn xs last
  behind [] last asks c at given asks_are acts order =
      record { events = []; are = refl; asked_so = no_asks asks asks_are; left = c; seen = sym order; acts = λ p. none_acts (at p) (given p) (acts p); order = refl }
  behind (x ∷ xs) last asks c at given asks_are acts (d, change, order) = happened x.party x.event xs last d asks c at given asks_are acts change order (behind xs last)

pub tasks_may_tell_more : {W V : Type 0} (put : W → V) (T S : Type 0) (wakes : S → V → S → Type 0) → TasksMayTellMore put T S wakes
tasks_may_tell_more {W} put T S wakes form events given sink last woken asks acts order asks_are =
    let nobody : ℕ → Option (Stage (QueueCall T) T W) = λ p. None in
    let b = behind put wakes form events (last, woken) asks (opened_parts form, sink) nobody given asks_are acts order in
    let same_sink : b.left.1 ≡ woken = ap (λ (x : Parts T _ × S). x.1) b.seen in
    record {
      behind = b.events;
      events_are = b.are;
      asks_are = b.asked_so;
      parts = b.left.0;
      parts_are = ap (λ (x : Parts T _ × S). x.0) b.seen;
      acts = b.acts;
      in_one_order = subst (λ (x : S). InOneOrder (WakesFor put wakes) b.events (opened_parts form, sink) (b.left.0, x)) same_sink b.order;
    }
