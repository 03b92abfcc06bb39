-- What a layer above may use: runs, one after another and by induction; what is known of the calls under way stays known over every
-- entry of a run; a step of the only call under way; how a step changes the number of messages; how few steps a call has left; one that is
-- at work after a step; and that a listener which was just added waits.
use Rattle.std.proofs.Common.{◌≡◌, ℕ, suc, ◌+◌, ◌^◌, ◌<◌, List, [], ◌∷◌, ◌++◌, map, length, Option, None, Some, refl, ap, sym, ◌∙◌, subst}
use Rattle.channel_steps.proofs.Words.{Phase, Channel, Effect, Moves, Mark, Reply, Stage, counted, brought_in, taken_out, ActiveCall, Configuration, sees, does, unless_ended, Known, AllKnown, IsBalanced, Steps, EachStep, IsRun, end_of, Next, call_begun, Entry, Step}
use Rattle.channel_steps.specs.declared.run.Step.TheVariants as step
pub use Rattle.channel_steps.proofs.QueueFacts.{answer_marks, answered_by}
use Rattle.channel_steps.proofs.OwnFacts.{moves_on, all_see, own_known, begins_known}
use Rattle.channel_steps.proofs.ConfigurationFacts.{known_left, known_right, known_both}
use Rattle.channel_steps.proofs.CountFacts as count_facts
pub use Rattle.channel_steps.proofs.AfterStep.{after-set, get-map, get-set, map-after, set-same}
pub use Rattle.channel_steps.proofs.FewFacts.{few_left}
pub use Rattle.channel_steps.proofs.IdleFacts.{hold_still}
pub use Rattle.channel_steps.proofs.LineFacts.{fresh_waits, same_line}
pub use Rattle.channel_steps.proofs.LoneFacts.{after_lone, lone_goes, lone_ends}
pub use Rattle.channel_steps.proofs.ConfigurationFacts.{fits_after, none_after, blocks_begun}

-- ---- runs

module _ {M : Type 0} where
  pub end_on : (m : M) (ns os : List M) → end_of m (ns ++ os) ≡ end_of (end_of m ns) os
  end_on m [] os = refl
  end_on m (n ∷ ns) os = end_on n ns os

module _ {M X E : Type 0} (P : M → X → E → M → Type 0) where
  -- steps after others, from the moment at which those end
  pub each_on : (m : M) (xs : List X) (es : List E) (ns : List M) (ys : List X) (fs : List E) (os : List M)
      → EachStep P m xs es ns → EachStep P (end_of m ns) ys fs os → EachStep P m (xs ++ ys) (es ++ fs) (ns ++ os)
  each_on m [] [] [] ys fs os h k = k
  each_on m (x ∷ xs) (e ∷ es) (n ∷ ns) ys fs os h k = (h.0, each_on n xs es ns ys fs os h.1 k)
  each_on m x y ns ys fs os h k = absurd h

  -- what is said of each step of a run, where something holds that each step keeps
  pub each_says : (K : M → Type 0) (Q : M → X → E → M → Type 0)
      → ((m : M) (x : X) (e : E) (n : M) → P m x e n → K m → Q m x e n × K n)
      → (m : M) (xs : List X) (es : List E) (ns : List M) → K m → EachStep P m xs es ns → EachStep Q m xs es ns
  each_says K Q says m [] [] [] k h = tt
  each_says K Q says m (x ∷ xs) (e ∷ es) (n ∷ ns) k h =
      let one = says m x e n h.0 k in (one.0, each_says K Q says n xs es ns one.1 h.1)
  each_says x y says m z w ns k h = absurd h

  -- no step leads nowhere
  pub run_none : (m : M) → IsRun P m [] [] m
  run_none m = record { moments = []; each = tt; ends = refl }

  -- one run after another
  pub run_on : (m n o : M) (xs ys : List X) (es fs : List E) → IsRun P m xs es n → IsRun P n ys fs o → IsRun P m (xs ++ ys) (es ++ fs) o
  run_on m n o xs ys es fs a b = record {
    moments = a.moments ++ b.moments;
    each = each_on m xs es a.moments ys fs b.moments a.each
        (subst (λ (l : M). EachStep P l ys fs b.moments) (sym a.ends) b.each);
    ends = end_on m a.moments b.moments ∙ (ap (λ (l : M). end_of l b.moments) a.ends ∙ b.ends);
  }

  -- what holds of no step, and of a step and a run behind it where it holds of that, holds of every run
  module _ (R : M → List X → List E → M → Type 0) (none : (m : M) → R m [] [] m)
      (more : (m : M) (x : X) (e : E) (n : M) (xs : List X) (es : List E) (o : M) → P m x e n → R n xs es o → R m (x ∷ xs) (e ∷ es) o) where
    each_so : (m : M) (xs : List X) (es : List E) (ns : List M) → EachStep P m xs es ns → R m xs es (end_of m ns)
    each_so m [] [] [] h = none m
    each_so m (x ∷ xs) (e ∷ es) (n ∷ ns) h = more m x e n xs es (end_of n ns) h.0 (each_so n xs es ns h.1)
    each_so m x y ns h = absurd h

    pub run_so : (m : M) (xs : List X) (es : List E) (n : M) → IsRun P m xs es n → R m xs es n
    run_so m xs es n run = subst (λ (o : M). R m xs es o) run.ends (each_so m xs es run.moments run.each)

  -- what each step keeps, a run keeps
  pub run_keeps : (Q : M → Type 0) → ((m : M) (x : X) (e : E) (n : M) → P m x e n → Q m → Q n) → (m : M) (xs : List X) (es : List E) (n : M)
      → IsRun P m xs es n → Q m → Q n
  run_keeps Q keeps m xs es n run =
      run_so (λ a xs es b. Q a → Q b) (λ a q. q) (λ a x e b xs es c h rest q. rest (keeps a x e b h q)) m xs es n run

  -- what leads from one moment to the next does so between what is seen of them
  pub run_seen : {N : Type 0} (seen : M → N) (Q : N → X → E → N → Type 0)
      → ((m : M) (x : X) (e : E) (n : M) → P m x e n → Q (seen m) x e (seen n))
      → (m : M) (xs : List X) (es : List E) (n : M) → IsRun P m xs es n → IsRun Q (seen m) xs es (seen n)
  run_seen {N} seen Q leads m xs es n run =
      run_so (λ a xs es b. IsRun Q (seen a) xs es (seen b)) (λ a. record { moments = []; each = tt; ends = refl })
      (λ a x e b xs es c h rest. record { moments = seen b ∷ rest.moments; each = (leads a x e b h, rest.each); ends = rest.ends })
      m xs es n run

  -- there are as many entries as steps
  pub run_entries : (m : M) (xs : List X) (es : List E) (n : M) → IsRun P m xs es n → length es ≡ length xs
  run_entries m xs es n run =
      run_so (λ a xs es b. length es ≡ length xs) (λ a. refl) (λ a x e b xs es c h rest. ap (λ k. suc k) rest) m xs es n run

-- ---- configurations

module _ {T W : Type 0} where
  own : (c : Channel T W) (u : ActiveCall T W) (m : Mark) (d : Channel T W) (names : List W) (at : Stage (Phase T) T W)
      → IsBalanced c.queue → Known c u
      → (r : Option (Reply T)) → Moves c u.at (record { channel = d; mark = m; woken = names }) r at
      → AllKnown d (unless_ended (does u at m c d) r)
  own c u m d names at bal k None g = (own_known c u bal k m d names at g, tt)
  own c u m d names at bal k (Some r) g = tt

  -- what is known of the calls, and that the messages that are there and those that left are those that came
  pub known_next : (s : Configuration T W) (x : Step T W) (e : Entry T) (names : List W) (t : Configuration T W) → Next s x e names t
      → AllKnown s.now s.under_way → IsBalanced s.now.queue → AllKnown t.now t.under_way × IsBalanced t.now.queue
  known_next s (step.Begin p ask) e names t n known bal =
      let b = n.0 in
      let mine : ActiveCall T W = call_begun p ask b.at s.now in
      let all = known_both s.now s.under_way (mine ∷ []) known (begins_known s.now p ask b.answer b.at b.turned, tt) in
      let there = subst (λ (us : List (ActiveCall T W)). AllKnown s.now us) (sym b.under_way) all in (
        subst (λ (c : Channel T W). AllKnown c t.under_way) (sym b.now) there,
        subst (λ (c : Channel T W). IsBalanced c.queue)
            (sym b.now) bal,
      )
  known_next s (step.Step p) e names t n known bal =
      let effect : Effect T W = record { channel = t.now; mark = e.mark; woken = names } in
      let on = moves_on s.now n.mine.at effect e.reply n.at_now n.moves in
      let all = subst (λ (us : List (ActiveCall T W)). AllKnown s.now us) n.there known in
      let right = known_right s.now n.before (n.mine ∷ n.behind) all in
      let mine = own s.now n.mine e.mark t.now names n.at_now bal right.0 e.reply n.moves in
      let now : List (ActiveCall T W) = unless_ended (does n.mine n.at_now e.mark s.now t.now) e.reply in
      let behind = known_both t.now now (map (sees t.now) n.behind) mine (all_see s.now t.now on n.behind right.1) in
      let before = all_see s.now t.now on n.before (known_left s.now n.before (n.mine ∷ n.behind) all) in
      let whole = known_both t.now (map (sees t.now) n.before) (now ++ map (sees t.now) n.behind) before behind in
      (subst (λ (us : List (ActiveCall T W)). AllKnown t.now us) (sym n.left) whole, on.balanced bal)

  -- ---- the number of messages

  moved_by : (s : Configuration T W) (p : ℕ) (e : Entry T) (names : List W) (t : Configuration T W) → Steps s p e names t → count_facts.Moved s.now.queue e.mark t.now.queue
  moved_by s p e names t n = count_facts.moved_by s.now n.mine.at (record { channel = t.now; mark = e.mark; woken = names }) e.reply n.at_now n.moves

  -- those after a step are counted by its mark
  pub messages_counted : (s : Configuration T W) (p : ℕ) (e : Entry T) (names : List W) (t : Configuration T W) → Steps s p e names t
      → IsBalanced s.now.queue → IsBalanced t.now.queue → s.now.queue.accepted < 2 ^ 62
      → counted (length s.now.queue.items) e.mark ≡ length t.now.queue.items
  messages_counted s p e names t n a b low =
      count_facts.messages_counted s.now.queue e.mark t.now.queue (moved_by s p e names t n) a b low

  -- and those that were there and came in are those that are there and went out
  pub messages_moved : (s : Configuration T W) (p : ℕ) (e : Entry T) (names : List W) (t : Configuration T W) → Steps s p e names t
      → IsBalanced s.now.queue → IsBalanced t.now.queue
      → length t.now.queue.items + taken_out e.mark ≡ length s.now.queue.items + brought_in e.mark
  messages_moved s p e names t n a b =
      count_facts.balance_moved s.now.queue e.mark t.now.queue (moved_by s p e names t n) a b
