-- Over steps: on a channel without a bound no send listens.
use Rattle.std.proofs.Common.{◌≡◌, ℕ, zero, suc, ◌+◌, ◌-◌, Bool, true, false, if◌then◌else◌, List, Option, None, Some, inl, inr, refl, sym, ap, ◌∙◌, subst}
use Rattle.channel_steps.proofs.every_run.Words.{Phase, registration, removed, up, Channel, Effect, queued, untouched, on_count, tells_one, tells_more, tells_all, listens, registers, leaves, lowers, Moves, Listeners, WaitLists, listeners, with_listeners, count, with_count, is_raised, told_one, told_more, told_all, ChannelAsk, line_of, Mark, Reply, ListenerRef, WaitList, Sends, Receives, Streams, Closings, Side, Senders, Receivers, Stage, Trying, Working, TellReceive, TellStreams, TellSend, TellSends, TellAll, Insert, Register, Leave, Lower, Raise, StageAt, MarkedMoment, Next, new_configuration, Configuration, Known, AllKnown, Entry, Step, raises, nobody_listens, AllOf, NoSendListens, SendsUnlisted}
use Rattle.channel_calls.specs.declared.stage.Waiting.TheVariants as waiting
use Rattle.channel_steps.specs.declared.run.Step.TheVariants as step
use Rattle.channel_steps.proofs.every_run.Bounds.{bound_new, bound_next, capacity_next, never_crowded}
use Rattle.channel_steps.proofs.every_run.EachFacts.{of_mine, each_known}

module _ {W : Type 0} where
  -- on a list with nobody nobody is told
  none_told : (n : ℕ) → told_more n (nobody_listens {W = W}) ≡ nobody_listens
  none_told zero = refl
  none_told (suc n) = none_told n

  counted_same : (side : Side) (n : ℕ) (a : WaitLists W) → (with_count side n a).sends ≡ a.sends
  counted_same Senders n a = refl
  counted_same Receivers n a = refl

module _ {T W : Type 0} (c : Channel T W) (none : c.wait_lists.sends ≡ nobody_listens) where
  abbrev Stays : Effect T W → Type 0
  Stays e = e.channel.wait_lists.sends ≡ nobody_listens

  -- one list is changed by a change that leaves nobody's alone
  on_list : (line : WaitList) (change : Listeners W → Listeners W) → change nobody_listens ≡ nobody_listens
      → (with_listeners line (change (listeners line c.wait_lists)) c.wait_lists).sends ≡ nobody_listens
  on_list Sends change same = ap change none ∙ same
  on_list w change same = none

  by : (e d : Effect T W) → e ≡ d → Stays d → Stays e
  by e d same k = ap (λ (x : Effect T W). x.channel.wait_lists.sends) same ∙ k

  lowered : (side : Side) (n : ℕ) → (with_count side n c.wait_lists).sends ≡ nobody_listens
  lowered side n = counted_same side n c.wait_lists ∙ none

  raised : (side : Side) (n : ℕ) (b : Bool) (m : Mark) → Stays (if b then on_count side n m c else untouched c)
  raised side n true m = lowered side n
  raised side n false m = none

  left : (h : Option ListenerRef) → Stays (leaves h c)
  left None = none
  left (Some h) = on_list h.line (λ (l : Listeners W). removed h.key true l) refl

  -- no step makes a send listen but one that inserts it
  stays : (at : Stage (Phase T) T W) (e : Effect T W) (r : Option (Reply T)) (s : Stage (Phase T) T W) → Moves c at e r s
      → ((m : T) (task : W) → at ≡ Working (Insert (waiting.Send m) task) → ⊥) → Stays e
  stays (Trying f purpose) e r s h never = by e (queued f h.mark c) h.effect none
  stays (Working (TellReceive x)) e r s h never = by e (tells_one Receives c) h.0 none
  stays (Working (TellStreams x)) e r s h never = by e (tells_all Streams c) h.0 none
  stays (Working (TellSend x)) e r s h never = by e (tells_one Sends c) h.0 (on_list Sends told_one refl)
  stays (Working (TellSends n x)) e r s h never = by e (tells_more n Sends c) h.0 (on_list Sends (told_more n) (none_told n))
  stays (Working (TellAll line x)) e r s h never = by e (tells_all line c) h.0 (on_list line told_all refl)
  stays (Working (Insert (waiting.Send m) task)) e r s h never = absurd (never m task refl)
  stays (Working (Insert waiting.Receive task)) e r s (inl (key, new, is, t)) never = by e (listens Receives key c) is none
  stays (Working (Insert waiting.Receive task)) e r s (inr (error, is, t)) never = by e (untouched c) is none
  stays (Working (Insert waiting.Stream task)) e r s (inl (key, new, is, t)) never = by e (listens Streams key c) is none
  stays (Working (Insert waiting.Stream task)) e r s (inr (error, is, t)) never = by e (untouched c) is none
  stays (Working (Insert waiting.Closing task)) e r s (inl (key, new, is, t)) never = by e (listens Closings key c) is none
  stays (Working (Insert waiting.Closing task)) e r s (inr (error, is, t)) never = by e (untouched c) is none
  stays (Working (Register w key task)) e r s h never =
      by e (registers (line_of w) key task c) h.0 (on_list (line_of w) (λ (l : Listeners W). registration key task l) refl)
  stays (Working (Leave x)) e r s h never = by e (leaves x.held c) h.0 (left x.held)
  stays (Working (Lower side key)) e r s h never = by e (lowers side c) h.0 (lowered side (count side c.wait_lists - 1))
  stays (Working (Raise side n making)) e r s h never =
      by e (raises side n c) h.0 (raised side (n + 1) (is_raised side n c.wait_lists) (up side))
  stays w e r s h never = by e (untouched c) h.0 none

module _ {T W : Type 0} where
  -- a send that inserts its listener has found the channel full
  found_full : (now : Channel T W) (a : ChannelAsk T W) (at : Stage (Phase T) T W) (ds : List (MarkedMoment T W)) (seen : List (Channel T W))
      → StageAt now a at ds seen → AllOf None seen → (m : T) (task : W) → at ≡ Working (Insert (waiting.Send m) task) → ⊥
  found_full now a at ds seen k all m task e =
      let h : StageAt now a (Working (Insert (waiting.Send m) task)) ds seen =
      subst (λ (s : Stage (Phase T) T W). StageAt now a s ds seen) e k in
      never_crowded seen all h.2

  pub unlisted_new : (cap : Option ℕ) → SendsUnlisted (new_configuration {T = T} {W = W} cap)
  unlisted_new cap = record { bound = bound_new cap; unlisted = λ none. refl }

  pub unlisted_next : (s : Configuration T W) (x : Step T W) (e : Entry T) (names : List W) (t : Configuration T W) → Next s x e names t
      → AllKnown s.now s.under_way → SendsUnlisted s → SendsUnlisted t
  unlisted_next s (step.Begin p a) e names t n known h = record {
    bound = bound_next s (step.Begin p a) e names t n h.bound;
    unlisted = subst (λ (c : Channel T W). NoSendListens c) (sym n.0.now) h.unlisted;
  }
  unlisted_next s (step.Step p) e names t n known h =
      let mine = of_mine (Known s.now) s t p e names n (each_known s.now s.under_way known) in
      let alike = of_mine (λ u. AllOf s.now.queue.capacity u.seen) s t p e names n h.bound.alike in
      record {
        bound = bound_next s (step.Step p) e names t n h.bound;
        unlisted = λ none.
            let before = sym (capacity_next s (step.Step p) e names t n) ∙ none in
            stays s.now (h.unlisted before) n.mine.at (record { channel = t.now; mark = e.mark; woken = names }) e.reply n.at_now n.moves
            (found_full s.now n.mine.ask n.mine.at n.mine.marks n.mine.seen mine.stands
            (subst (λ (o : Option ℕ). AllOf o n.mine.seen) before alike));
      }
