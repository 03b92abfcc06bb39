-- What all replies have in common that were given on the way from a configuration: of each step, and so of all.
use Rattle.std.specs.Prelude.{◌≡◌, ◌+◌, ◌≤◌, ◌||◌, ◌∷◌, ◌++◌}
use Rattle.channel_world.proofs.Lemmas.{arith, ℕ, Bool, true, false, cond, List, [], map, Option, None, Some, refl, sym, ap, ◌∙◌, subst, option_to_list, Channel, Mark, Nothing, Close, Reply, Returned, Each, Replies, Waiter, MarkedMoment, with_marked, ClosedIt, Next, NextConfiguration, IsRun, new_configuration, call_begun, ActiveCall, Configuration, Steps, MayFinish, sees, does, unless_ended, ChannelEntry, ChannelStep, run_so, led_further, none_under_way, tally, IsQuiet, Stands, WorldState, State, at_rest, view_of, at_rest_is, world_state_of}
use Rattle.channel_steps.specs.every_run.Bounds.{SaysFull, NoneFull, AllOf, BoundSound, one_if_closed}
use Rattle.channel_steps.proofs.every_run.BoundMoves.{SaysOf, FlagOf}
use Rattle.channel_steps.proofs.every_run.Bounds.{step_bounded, never_full}
use Rattle.channel_steps.proofs.every_run.Closers.{row_closed}
use Rattle.channel_world_runs.specs.Activity.{any_close, is_close}
use Rattle.channel_world_runs.specs.Reaches.{replies_of}
use Rattle.channel_world.specs.Since.{closings_among, closers_in, closings_left, NoneSaysFull, HasNoBound, ClosesOnce, ClosesOnceToHere, ClosesWhatIsLeft, ClosesOnceFromRest, NoneClosesAgain, IsNeverFull, IsNeverFullToHere, IsNeverFullSince, IsNeverFullFromRest}

-- ---- how often it is closed

abbrev one_if : Bool → ℕ
one_if b = cond b 1 0

abbrev while_open : Bool → ℕ
while_open closed = cond closed 0 1

or_more : (b r s : Bool) (n : ℕ) → one_if r ≤ one_if s + n → one_if (b || r) ≤ one_if (b || s) + n
or_more true r s n h = omega arith
or_more false r s n h = h

or_nothing : (b : Bool) → one_if (b || false) ≤ one_if b
or_nothing true = omega arith
or_nothing false = omega arith

module _ {T : Type 0} where
  abbrev has_closed : ActiveCall T Waiter → Bool
  has_closed u = any_close u.marks

  closers_join : (us vs : List (ActiveCall T Waiter)) → tally has_closed (us ++ vs) ≡ tally has_closed us + tally has_closed vs
  closers_join [] vs = omega arith
  closers_join (u ∷ us) vs = let h = closers_join us vs in omega (arith, h)

  closers_see : (c : Channel T Waiter) (us : List (ActiveCall T Waiter)) → tally has_closed (map (sees c) us) ≡ tally has_closed us
  closers_see c [] = refl
  closers_see c (u ∷ us) = let h = closers_see c us in omega (arith, h)

  one_more_deed : (ds : List (MarkedMoment T Waiter)) (d : MarkedMoment T Waiter)
      → one_if (any_close (ds ++ d ∷ [])) ≤ one_if (any_close ds) + one_if (is_close d.mark)
  one_more_deed [] d = let h = or_nothing (is_close d.mark) in omega (arith, h)
  one_more_deed (e ∷ ds) d =
      or_more (is_close e.mark) (any_close (ds ++ d ∷ [])) (any_close ds) (one_if (is_close d.mark)) (one_more_deed ds d)

  with_mark : (ds : List (MarkedMoment T Waiter)) (m : Mark) (c : Channel T Waiter) (seen : List (Channel T Waiter))
      → one_if (any_close (with_marked ds m c seen)) ≤ one_if (any_close ds) + one_if (is_close m)
  with_mark ds Nothing c seen = omega arith
  with_mark ds m c seen = one_more_deed ds (record { mark = m; before = c; seen = seen })

  closed_deeds : (ds : List (MarkedMoment T Waiter)) → ClosedIt ds → any_close ds ≡ true
  closed_deeds [] h = absurd h
  closed_deeds (d ∷ []) h = ap (λ (m : Mark). is_close m || false) h.0
  closed_deeds (d ∷ e ∷ ds) h = absurd h

  -- a call that says that it closed the channel has the mark, and is under way no more
  ended : (u : ActiveCall T Waiter) (r : Option (Reply T)) (left : Option (Returned T)) → MayFinish u r left
      → one_if_closed r + tally has_closed (unless_ended u r) ≤ one_if (any_close u.marks)
  ended u None left h = omega arith
  ended u (Some (Reply.Closed true)) left h =
      let met = h.met in
      let one : one_if (any_close u.marks) ≡ 1 = ap one_if (closed_deeds u.marks (row_closed u.ask u.marks met.1 met.3)) in
      omega (arith, one)
  ended u (Some r) left h = omega arith

  flagged : (m : Mark) (c d : Channel T Waiter) → SaysOf m c → FlagOf m c d
      → while_open d.queue.closed + one_if (is_close m) ≡ while_open c.queue.closed
  flagged Close c d says flag =
      let before : while_open c.queue.closed ≡ 1 = ap while_open says in
      let now : while_open d.queue.closed ≡ 0 = ap while_open flag in
      omega (arith, before, now)
  flagged m c d says flag =
      let same : while_open d.queue.closed ≡ while_open c.queue.closed = ap while_open flag in omega (arith, same)

  step_closes : (s t : Configuration T Waiter) (p : ℕ) (e : ChannelEntry T) (names : List Waiter) → Steps s p e names t
      → one_if_closed e.reply + closings_left t ≤ closings_left s
  step_closes s t p e names st =
      let now : ActiveCall T Waiter = does st.mine st.at_now e.mark s.now t.now in
      let b = step_bounded s t p e names st in
      let flag = flagged e.mark s.now t.now b.says b.flag in
      let mine = with_mark st.mine.marks e.mark s.now st.mine.seen in
      let end = ended now e.reply e.kept st.finishes in
      let others = map (sees t.now) st.behind in
      let all : tally has_closed s.under_way ≡ tally has_closed (st.before ++ (st.mine ∷ st.behind)) = ap (tally has_closed) st.there in
      let joined = closers_join st.before (st.mine ∷ st.behind) in
      let after : tally has_closed t.under_way ≡ tally has_closed (map (sees t.now) st.before ++ (unless_ended now e.reply ++ others)) =
      ap (tally has_closed) st.left in
      let first = closers_join (map (sees t.now) st.before) (unless_ended now e.reply ++ others) in
      let second = closers_join (unless_ended now e.reply) others in
      let before = closers_see t.now st.before in
      let behind = closers_see t.now st.behind in
      omega (arith, flag, mine, end, all, joined, after, first, second, before, behind)

  next_closes : (s : Configuration T Waiter) (x : ChannelStep T Waiter) (e : ChannelEntry T) (names : List Waiter) (t : Configuration T Waiter)
      → Next s x e names t → one_if_closed e.reply + closings_left t ≤ closings_left s
  next_closes s (ChannelStep.Begin p a) e names t n =
      let none : one_if_closed e.reply ≡ 0 = ap (λ (f : ChannelEntry T). one_if_closed f.reply) n.0.entry in
      let flag : while_open t.now.queue.closed ≡ while_open s.now.queue.closed = ap (λ (c : Channel T Waiter). while_open c.queue.closed) n.0.now in
      let after : tally has_closed t.under_way ≡ tally has_closed (s.under_way ++ call_begun p a n.0.at s.now ∷ []) = ap (tally has_closed) n.0.under_way in
      let joined = closers_join s.under_way (call_begun p a n.0.at s.now ∷ []) in
      omega (arith, none, flag, after, joined)
  next_closes s (ChannelStep.Step p) e names t n = step_closes s t p e names n

  given_first : (r : Option (Reply T)) (rs : List (Reply T)) → closings_among (option_to_list r ++ rs) ≡ one_if_closed r + closings_among rs
  given_first None rs = omega arith
  given_first (Some r) rs = refl

  run_closes : (s t : Configuration T Waiter) (xs : List (ChannelStep T Waiter)) (es : List (ChannelEntry T)) → IsRun NextConfiguration s xs es t
      → closings_among (replies_of es) ≤ closings_left s
  run_closes s t xs es run =
      run_so NextConfiguration (λ a xs es b. closings_among (replies_of es) ≤ closings_left a) (λ a. omega arith)
      (λ a x e b xs es c n rest.
      let now = next_closes a x e n.0 b n.1 in
      let first = given_first e.reply (replies_of es) in
      omega (arith, now, rest, first))
      s xs es t run

-- ---- without a bound

module _ {T : Type 0} where
  none_given : (es : List (ChannelEntry T)) → NoneFull es → NoneSaysFull (replies_of es)
  none_given [] h = tt
  none_given (e ∷ es) h = by e.reply h.0 (none_given es h.2)
    where
      by : (r : Option (Reply T)) → (Replies SaysFull r → ⊥) → NoneSaysFull (replies_of es)
          → NoneSaysFull (option_to_list r ++ replies_of es)
      by None f rest = rest
      by (Some r) f rest = (f, rest)

  bound_sound : (s : Configuration T Waiter) → HasNoBound s → BoundSound s
  bound_sound s h = record {
    fits = λ most e. absurd (let no : None ≡ Some most = sym h.now ∙ e in cc);
    alike = subst (λ (o : Option ℕ). Each (λ (u : ActiveCall T Waiter). AllOf o u.seen) s.under_way) (sym h.now) h.seen;
  }

  run_never_full : (s t : Configuration T Waiter) (xs : List (ChannelStep T Waiter)) (es : List (ChannelEntry T)) → HasNoBound s
      → IsRun NextConfiguration s xs es t → NoneSaysFull (replies_of es)
  run_never_full s t xs es h run = none_given es (never_full T Waiter s t xs es (bound_sound s h) h.now run)

-- ---- the laws

one_at_most : (b : Bool) → while_open b ≤ 1
one_at_most true = omega arith
one_at_most false = omega arith

module _ {T : Type 0} where
  pub closes_what_is_left : (world : WorldState T) → ClosesWhatIsLeft (view_of world)
  closes_what_is_left world s replies led =
      subst (λ (rs : List (Reply T)). closings_among rs ≤ closings_left s) led.way.given (run_closes s led.last led.way.steps led.way.trace led.way.run)

  pub closes_once : (world : WorldState T) → ClosesOnce (view_of world)
  closes_once world capacity replies led =
      let most = closes_what_is_left world (new_configuration capacity) replies led in omega (arith, most)

  pub closes_once_to_here : (world : WorldState T) → ClosesOnceToHere (view_of world)
  closes_once_to_here world a replies leads = record {
    since = λ capacity before led.
        closes_once world capacity (before ++ replies) (led_further (world_state_of a) world (new_configuration capacity) before replies led leads.on);
  }

  -- with no call under way none has closed it
  left_at_rest : (a : WorldState T) (k : Stands a) → IsQuiet a → closings_left k.configuration ≡ while_open (at_rest a).channel.closed
  left_at_rest a k quiet =
      let none : closers_in k.configuration ≡ 0 = ap (tally has_closed) (none_under_way a k.configuration quiet k.stands.shown) in
      let same : while_open (at_rest a).channel.closed ≡ while_open k.configuration.now.queue.closed =
      ap (λ (x : State T). while_open x.channel.closed) (at_rest_is a k.configuration k.stands.shown quiet) in
      omega (arith, none, same)

  pub closes_once_from_rest : (world : WorldState T) → ClosesOnceFromRest (view_of world)
  closes_once_from_rest b a replies k quiet leads =
      let most = closes_what_is_left b k.configuration replies (leads.on k.configuration k.stands) in
      let left = left_at_rest (world_state_of a) k quiet in
      let one = one_at_most (at_rest (world_state_of a)).channel.closed in
      omega (arith, most, left, one)

  pub none_closes_again : (world : WorldState T) → NoneClosesAgain (view_of world)
  none_closes_again b a replies k quiet shut leads =
      let most = closes_what_is_left b k.configuration replies (leads.on k.configuration k.stands) in
      let left = left_at_rest (world_state_of a) k quiet in
      let none : while_open (at_rest (world_state_of a)).channel.closed ≡ 0 = ap while_open shut in
      omega (arith, most, left, none)

  pub is_never_full_since : (world : WorldState T) → IsNeverFullSince (view_of world)
  is_never_full_since world s replies h led =
      subst (λ (rs : List (Reply T)). NoneSaysFull rs) led.way.given
      (run_never_full s led.last led.way.steps led.way.trace h led.way.run)

  pub is_never_full : (world : WorldState T) → IsNeverFull (view_of world)
  is_never_full world replies led = is_never_full_since world (new_configuration None) replies (record { now = refl; seen = tt }) led

  pub is_never_full_to_here : (world : WorldState T) → IsNeverFullToHere (view_of world)
  is_never_full_to_here world a replies leads = record {
    since = λ before led. is_never_full world (before ++ replies) (led_further (world_state_of a) world (new_configuration None) before replies led leads.on);
  }

  pub is_never_full_from_rest : (world : WorldState T) → IsNeverFullFromRest (view_of world)
  is_never_full_from_rest b a replies k quiet bare leads =
      let none = none_under_way (world_state_of a) k.configuration quiet k.stands.shown in
      let same = ap (λ (x : State T). x.channel.capacity) (sym (at_rest_is (world_state_of a) k.configuration k.stands.shown quiet)) in
      is_never_full_since b k.configuration replies
      (record {
        now = same ∙ bare;
        seen = subst (λ (us : List (ActiveCall T Waiter)). Each (λ (u : ActiveCall T Waiter). AllOf None u.seen) us) (sym none) tt;
      }) (leads.on k.configuration k.stands)
