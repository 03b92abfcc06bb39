-- Of all closes of a run one at most closes the channel: each that says so has its own mark.
use Rattle.std.proofs.Common.{arith, ◌≡◌, ℕ, ◌+◌, ◌≤◌, Bool, true, false, List, [], ◌∷◌, ◌++◌, map, Option, None, Some, refl, ap}
use Rattle.channel_steps.proofs.every_run.Words.{Channel, ChannelAsk, Mark, Close, Reply, Returned, Row, MarkedMoment, with_marked, ClosedIt, Next, IsRun, NextConfiguration, new_configuration, call_begun, ActiveCall, Configuration, Steps, MayFinish, sees, does, unless_ended, Entry, Step, one_if_closed, closings_in, EachRunClosesOnce}
use Rattle.channel_calls.specs.declared.ask.ChannelAsk.TheVariants as ask
use Rattle.channel_calls.specs.declared.mark.Mark.TheVariants.{Nothing}
use Rattle.channel_calls.specs.declared.reply.Reply.TheVariants as reply
use Rattle.channel_steps.specs.declared.run.Step.TheVariants as step
use Rattle.channel_steps.proofs.Interface.{run_so}
use Rattle.channel_steps.proofs.every_run.ReplyFacts.{Spoken, spoken}
use Rattle.channel_steps.proofs.every_run.BoundMoves.{SaysOf, FlagOf}
use Rattle.channel_steps.proofs.every_run.Bounds.{step_bounded}

-- how many may still close it
abbrev closable : Bool → ℕ
closable true = 0
closable false = 1

abbrev one_if_close : Mark → ℕ
one_if_close Close = 1
one_if_close m = 0

module _ {T W : Type 0} where
  -- how often calls closed it
  abbrev marks_in : List (MarkedMoment T W) → ℕ
  marks_in [] = 0
  marks_in (d ∷ ds) = one_if_close d.mark + marks_in ds

  abbrev closers : List (ActiveCall T W) → ℕ
  closers [] = 0
  closers (u ∷ us) = marks_in u.marks + closers us

  marks_join : (ds es : List (MarkedMoment T W)) → marks_in (ds ++ es) ≡ marks_in ds + marks_in es
  marks_join [] es = omega arith
  marks_join (d ∷ ds) es = let h = marks_join ds es in omega (arith, h)

  marks_with : (ds : List (MarkedMoment T W)) (m : Mark) (c : Channel T W) (seen : List (Channel T W)) → marks_in (with_marked ds m c seen) ≡ marks_in ds + one_if_close m
  marks_with ds Nothing c seen = omega arith
  marks_with ds m c seen = let h = marks_join ds (record { mark = m; before = c; seen = seen } ∷ []) in omega (arith, h)

  closers_join : (us vs : List (ActiveCall T W)) → closers (us ++ vs) ≡ closers us + closers vs
  closers_join [] vs = omega arith
  closers_join (u ∷ us) vs = let h = closers_join us vs in omega (arith, h)

  closers_see : (c : Channel T W) (us : List (ActiveCall T W)) → closers (map (sees c) us) ≡ closers us
  closers_see c [] = refl
  closers_see c (u ∷ us) = ap (λ (n : ℕ). marks_in u.marks + n) (closers_see c us)

  -- ---- the end of a call

  closed_marks : (ds : List (MarkedMoment T W)) → ClosedIt ds → 1 ≤ marks_in ds
  closed_marks (d ∷ []) h = let one : one_if_close d.mark ≡ 1 = ap one_if_close h.0 in omega (arith, one)
  closed_marks x h = absurd h

  closes_itself : (a : ChannelAsk T W) (ds : List (MarkedMoment T W)) (seen : List (Channel T W)) → Spoken ds seen a (reply.Closed true) → ClosedIt ds
  closes_itself ask.Close ds seen h = h
  closes_itself a ds seen h = absurd h

  pub row_closed : (a : ChannelAsk T W) (ds : List (MarkedMoment T W)) (seen : List (Channel T W)) → Row a ds seen (reply.Closed true) → ClosedIt ds
  row_closed a ds seen h = closes_itself a ds seen (spoken ds seen a (reply.Closed true) h)

  ended : (u : ActiveCall T W) (r : Option (Reply T)) (left : Option (Returned T)) → MayFinish u r left → one_if_closed r + closers (unless_ended u r) ≤ marks_in u.marks
  ended u None left h = omega arith
  ended u (Some (reply.Closed true)) left h =
      let met = h.met in let one = closed_marks u.marks (row_closed u.ask u.marks met.1 met.3) in omega (arith, one)
  ended u (Some r) left h = omega arith

  -- ---- one step

  flag_count : (m : Mark) (c d : Channel T W) → SaysOf m c → FlagOf m c d → closable d.queue.closed + one_if_close m ≡ closable c.queue.closed
  flag_count Close c d says flag =
      let before : closable c.queue.closed ≡ 1 = ap closable says in
      let now : closable d.queue.closed ≡ 0 = ap closable flag in
      omega (arith, before, now)
  flag_count m c d says flag = let same : closable d.queue.closed ≡ closable c.queue.closed = ap closable flag in omega (arith, same)

  abbrev left_to_close : Configuration T W → ℕ
  left_to_close s = closers s.under_way + closable s.now.queue.closed

  step_closes : (s t : Configuration T W) (p : ℕ) (e : Entry T) (names : List W) → Steps s p e names t → one_if_closed e.reply + left_to_close t ≤ left_to_close s
  step_closes s t p e names st =
      let now : ActiveCall T W = does st.mine st.at_now e.mark s.now t.now in
      let b = step_bounded s t p e names st in
      let flag = flag_count e.mark s.now t.now b.says b.flag in
      let mine : marks_in now.marks ≡ marks_in st.mine.marks + one_if_close e.mark = marks_with st.mine.marks e.mark s.now st.mine.seen in
      let end = ended now e.reply e.kept st.finishes in
      let all : closers s.under_way ≡ closers (st.before ++ (st.mine ∷ st.behind)) = ap closers st.there in
      let joined = closers_join st.before (st.mine ∷ st.behind) in
      let after : closers t.under_way ≡ closers (map (sees t.now) st.before ++ (unless_ended now e.reply ++ map (sees t.now) st.behind)) = ap closers st.left in
      let first = closers_join (map (sees t.now) st.before) (unless_ended now e.reply ++ map (sees t.now) st.behind) in
      let second = closers_join (unless_ended now e.reply) (map (sees t.now) st.behind) in
      let before = closers_see t.now st.before in
      let behind = closers_see t.now st.behind in
      omega (arith, flag, mine, end, all, joined, after, first, second, before, behind)

  next_closes : (s : Configuration T W) (x : Step T W) (e : Entry T) (names : List W) (t : Configuration T W) → Next s x e names t → one_if_closed e.reply + left_to_close t ≤ left_to_close s
  next_closes s (step.Begin p a) e names t n =
      let none : one_if_closed e.reply ≡ 0 = ap (λ (f : Entry T). one_if_closed f.reply) n.0.entry in
      let flag : closable t.now.queue.closed ≡ closable s.now.queue.closed = ap (λ (c : Channel T W). closable c.queue.closed) n.0.now in
      let after : closers t.under_way ≡ closers (s.under_way ++ call_begun p a n.0.at s.now ∷ []) = ap closers n.0.under_way in
      let joined = closers_join s.under_way (call_begun p a n.0.at s.now ∷ []) in
      omega (arith, none, flag, after, joined)
  next_closes s (step.Step p) e names t n = step_closes s t p e names n

  run_closes : (s t : Configuration T W) (xs : List (Step T W)) (es : List (Entry T)) → IsRun NextConfiguration s xs es t → closings_in es ≤ left_to_close s
  run_closes s t xs es run =
      run_so NextConfiguration (λ a xs es b. closings_in es ≤ left_to_close a) (λ a. omega arith)
      (λ a x e b xs es c n rest. let now = next_closes a x e n.0 b n.1 in omega (arith, now, rest)) s xs es t run

module _ (T W : Type 0) where
  pub closes_once : EachRunClosesOnce T W
  closes_once capacity t steps trace run =
      let most = run_closes (new_configuration capacity) t steps trace run in omega (arith, most)
