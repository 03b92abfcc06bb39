-- What calls know of the end, over a step.
use Rattle.std.proofs.Common.{ℕ, List, Option, subst}
use Rattle.channel_steps.proofs.every_run.Words.{Channel, Spent, Next, new_configuration, Configuration, Steps, Known, AllKnown, does, Entry, Step, IsStill, GivesMessage, SaysTheEnd, Replies, AllSpent, IsLate, EndSound}
use Rattle.channel_steps.specs.declared.run.Step.TheVariants as step
use Rattle.channel_steps.proofs.every_run.EachFacts.{of_mine, each_steps, each_begins, each_known}
use Rattle.channel_steps.proofs.every_run.Ends.{Knows, rests, true_next, over_after, now_or_before}
use Rattle.channel_steps.proofs.every_run.ReplyFacts.{with_still, finish_gives, finish_ends}

module _ {T W : Type 0} where
  pub end_new : (cap : Option ℕ) → EndSound (new_configuration {T = T} {W = W} cap)
  end_new cap = record { knows = tt; late = tt }

  module _ (s : Configuration T W) (p : ℕ) (e : Entry T) (names : List W) (t : Configuration T W) (st : Steps s p e names t) where
    -- where its call saw nothing but the end, the step is still
    still : AllKnown s.now s.under_way → AllSpent st.mine.seen → IsStill e.mark
    still known all =
        let mine = of_mine (Known s.now) s t p e names st (each_known s.now s.under_way known) in
        let now = subst (λ (cs : List (Channel T W)). AllSpent cs) mine.latest all in
        let r = rests s (step.Step p) e names t now.0 st in
        r.still

    -- and it gives no message
    pub late_gives : AllKnown s.now s.under_way → EndSound s → AllSpent st.mine.seen → Replies GivesMessage e.reply → ⊥
    late_gives known h all g =
        let k = of_mine IsLate s t p e names st h.late in
        finish_gives (does st.mine st.at_now e.mark s.now t.now) e.reply e.kept st.finishes
        (with_still st.mine.marks e.mark s.now st.mine.seen (k all) (still known all)) g

    -- a reply that says the end found the channel over
    pub says_over : EndSound s → Replies SaysTheEnd e.reply → Spent t.now
    says_over h end =
        let once = finish_ends (does st.mine st.at_now e.mark s.now t.now) e.reply e.kept st.finishes end in
        let mine = of_mine (Knows s.now) s t p e names st h.knows in
        now_or_before t.now st.mine.seen (λ o. over_after s (step.Step p) e names t st (mine o)) once

  -- what is over stays so, and nothing comes or leaves
  pub stays_over : (s : Configuration T W) (x : Step T W) (e : Entry T) (names : List W) (t : Configuration T W) → Next s x e names t → Spent s.now
      → Spent t.now × IsStill e.mark
  stays_over s x e names t n over = let r = rests s x e names t over n in (r.over, r.still)

  pub end_next : (s : Configuration T W) (x : Step T W) (e : Entry T) (names : List W) (t : Configuration T W) → Next s x e names t
      → AllKnown s.now s.under_way → EndSound s → EndSound t
  end_next s (step.Begin p ask) e names t n known h = record {
    knows = true_next s (step.Begin p ask) e names t n h.knows;
    late = each_begins IsLate IsLate s t p ask e n.0 (λ u k. k) (λ all. tt) h.late;
  }
  end_next s (step.Step p) e names t n known h = record {
    knows = true_next s (step.Step p) e names t n h.knows;
    late = each_steps IsLate IsLate s t p e names n (λ u k all. k all.1)
        (λ k all. with_still n.mine.marks e.mark s.now n.mine.seen (k all.1) (still s p e names t n known all.1))
        h.late;
  }
