-- What is over stays over, over runs.
use Rattle.std.proofs.Common.{◌≡◌, ℕ, List, [], ◌∷◌, ◌++◌, ◌⊎◌, inl, inr, refl, sym, ap, ◌∙◌, subst, append-nil}
use Rattle.channel_steps.proofs.every_run.Words.{Queue, IsShut, IsDrained, Channel, Spent, Once, ActiveCall, Configuration, Steps, does, Next, IsRun, NextConfiguration, Entry, Step, IsStill, GivesMessage, Replies, KnowsTheEnd, GetsNothing, StaysOver, EndIsForGood, EndIsKnown, NothingComesAfterTheEnd, StillDeeds}
use Rattle.channel_steps.specs.declared.run.Step.TheVariants as step
use Rattle.channel_steps.specs.every_run.Ends.{Each}
use Rattle.channel_steps.proofs.Interface.{run_so}
use Rattle.channel_steps.proofs.every_run.EachFacts.{of_mine, each_steps, each_begins}
use Rattle.channel_steps.proofs.every_run.RunFacts.{kept_long}
use Rattle.channel_steps.proofs.MoveFacts.{nothing_gone, nothing_came}
use Rattle.channel_steps.proofs.every_run.ClosedMoves.{over_spares}
use Rattle.channel_steps.proofs.every_run.ReplyFacts.{with_still, finish_gives, finish_ends}

module _ {T W : Type 0} where
  -- ---- one entry

  pub record Rests (s : Configuration T W) (e : Entry T) (t : Configuration T W) : Type 0 where
    pub over : Spent t.now
    pub still : IsStill e.mark
    pub gone : t.gone ≡ s.gone
    pub came : t.came ≡ s.came

  pub rests : (s : Configuration T W) (x : Step T W) (e : Entry T) (names : List W) (t : Configuration T W) → Spent s.now → Next s x e names t → Rests s e t
  rests s (step.Begin p ask) e names t over n =
      record {
        over = subst (λ (c : Channel T W). Spent c) (sym n.0.now) over;
        still = subst (λ (x : Entry T). IsStill x.mark) (sym n.0.entry) tt;
        gone = n.0.gone;
        came = n.0.came;
      }
  rests s (step.Step p) e names t over n =
      let h = over_spares s.now n.mine.at (record { channel = t.now; mark = e.mark; woken = names }) e.reply n.at_now over n.moves in
      record {
        over = subst (λ (q : Queue T). IsShut q × IsDrained q) (sym h.0) over;
        still = h.1;
        gone = n.gone ∙ (ap (λ (vs : List T). s.gone ++ vs) (nothing_gone e.mark s.now.queue.items h.1) ∙ append-nil s.gone);
        came = n.came ∙ (ap (λ (vs : List T). s.came ++ vs) (nothing_came e.mark n.mine.ask h.1) ∙ append-nil s.came);
      }

  -- ---- what calls know of the end

  abbrev pub Knows : Channel T W → ActiveCall T W → Type 0
  Knows now u = Once Spent u.seen → Spent now

  pub now_or_before : (now : Channel T W) (seen : List (Channel T W)) → (Once Spent seen → Spent now) → Spent now ⊎ Once Spent seen → Spent now
  now_or_before now seen f (inl h) = h
  now_or_before now seen f (inr h) = f h

  pub over_after : (s : Configuration T W) (x : Step T W) (e : Entry T) (names : List W) (t : Configuration T W) → Next s x e names t → Spent s.now → Spent t.now
  over_after s x e names t n over = let h = rests s x e names t over n in h.over

  pub true_next : (s : Configuration T W) (x : Step T W) (e : Entry T) (names : List W) (t : Configuration T W) → Next s x e names t → KnowsTheEnd s → KnowsTheEnd t
  true_next s (step.Begin p ask) e names t n h =
      let b = n.0 in
      each_begins (Knows s.now) (Knows t.now) s t p ask e b
      (λ u k once. over_after s (step.Begin p ask) e names t n (k once))
      (λ once. now_or_before t.now [] (λ no. absurd no) (subst (λ (c : Channel T W). Once Spent (c ∷ [])) (sym b.now) once))
      h
  true_next s (step.Step p) e names t n h =
      each_steps (Knows s.now) (Knows t.now) s t p e names n
      (λ u k once. now_or_before t.now u.seen (λ o. over_after s (step.Step p) e names t n (k o)) once)
      (λ k once. now_or_before t.now n.mine.seen (λ o. over_after s (step.Step p) e names t n (k o)) once)
      h

  -- ---- a party that was idle when it was over

  abbrev Silent : ℕ → ActiveCall T W → Type 0
  Silent q u = u.party ≡ q → StillDeeds u.marks

  silent_next : (q : ℕ) (s : Configuration T W) (x : Step T W) (e : Entry T) (names : List W) (t : Configuration T W) → Next s x e names t → IsStill e.mark → Each (Silent q) s.under_way → Each (Silent q) t.under_way
  silent_next q s (step.Begin p ask) e names t n still h =
      each_begins (Silent q) (Silent q) s t p ask e n.0 (λ u k. k) (λ same. tt) h
  silent_next q s (step.Step p) e names t n still h =
      each_steps (Silent q) (Silent q) s t p e names n (λ u k. k) (λ k same. with_still n.mine.marks e.mark s.now n.mine.seen (k same) still) h

  gives_none : (q : ℕ) (s : Configuration T W) (p : ℕ) (e : Entry T) (names : List W) (t : Configuration T W) → Steps s p e names t → IsStill e.mark → Each (Silent q) s.under_way → p ≡ q → Replies GivesMessage e.reply → ⊥
  gives_none q s p e names t st still h same g =
      let k = of_mine (Silent q) s t p e names st h in
      finish_gives (does st.mine st.at_now e.mark s.now t.now) e.reply e.kept st.finishes (with_still st.mine.marks e.mark s.now st.mine.seen (k (st.whose ∙ same)) still) g

  pub silent_from : (q : ℕ) (us : List (ActiveCall T W)) → Each (λ u. u.party ≡ q → ⊥) us → Each (Silent q) us
  silent_from q [] h = tt
  silent_from q (u ∷ us) h = (λ same. absurd (h.0 same), silent_from q us h.1)

  -- ---- runs

  rests_long : (s t : Configuration T W) (xs : List (Step T W)) (es : List (Entry T)) → Spent s.now → IsRun NextConfiguration s xs es t → StaysOver s es t
  rests_long s t xs es over run =
      run_so NextConfiguration (λ a xs es b. Spent a.now → StaysOver a es b) (λ a h. record { over = h; still = tt; gone = refl; came = refl })
      (λ a x e b xs es c n rest h.
      let first = rests a x e n.0 b h n.1 in
      let k = rest first.over in
      record { over = k.over; still = (first.still, k.still); gone = k.gone ∙ first.gone; came = k.came ∙ first.came })
      s xs es t run over

  pub silent_long : (q : ℕ) (s t : Configuration T W) (xs : List (Step T W)) (es : List (Entry T)) → Spent s.now → Each (Silent q) s.under_way
      → IsRun NextConfiguration s xs es t → GetsNothing q xs es
  silent_long q s t xs es over h run =
      run_so NextConfiguration (λ a xs es b. Spent a.now → Each (Silent q) a.under_way → GetsNothing q xs es) (λ a o k. tt) one s xs es t run over h
    where
      one : (a : Configuration T W) (x : Step T W) (e : Entry T) (b : Configuration T W) (xs : List (Step T W)) (es : List (Entry T)) (c : Configuration T W)
          → NextConfiguration a x e b → (Spent b.now → Each (Silent q) b.under_way → GetsNothing q xs es)
          → Spent a.now → Each (Silent q) a.under_way → GetsNothing q (x ∷ xs) (e ∷ es)
      one a (step.Begin p ask) e b xs es c n rest o k =
          let r = rests a (step.Begin p ask) e n.0 b o n.1 in rest r.over (silent_next q a (step.Begin p ask) e n.0 b n.1 r.still k)
      one a (step.Step p) e b xs es c n rest o k =
          let r = rests a (step.Step p) e n.0 b o n.1 in (
            λ same g. gives_none q a p e n.0 b n.1 r.still k same g,
            rest r.over (silent_next q a (step.Step p) e n.0 b n.1 r.still k),
          )

module _ (T W : Type 0) where
  pub end_is_for_good : EndIsForGood T W
  end_is_for_good s t steps trace over run = rests_long s t steps trace over run

  pub end_is_known : EndIsKnown T W
  end_is_known s t steps trace h run = kept_long KnowsTheEnd true_next s t steps trace h run

  pub nothing_comes : NothingComesAfterTheEnd T W
  nothing_comes start said after later last before between behind first second third p q e names h to_said says end to_later idle to_last =
      let known : KnowsTheEnd said = end_is_known start said before first h to_said in
      let known' : KnowsTheEnd after = true_next said (step.Step p) e names after says known in
      let once = finish_ends (does says.mine says.at_now e.mark said.now after.now) e.reply e.kept says.finishes end in
      let mine = of_mine (Knows said.now) said after p e names says known in
      let over : Spent after.now = now_or_before after.now says.mine.seen (λ o. over_after said (step.Step p) e names after says (mine o)) once in
      let over' = end_is_for_good after later between second over to_later in
      silent_long q later last behind third over'.over (silent_from q later.under_way idle) to_last
