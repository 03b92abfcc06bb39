-- Of each list a word says whether somebody waits on it: what each step does to that, and that a notification to nobody changes nothing.
use Rattle.std.proofs.Common.{◌≡◌, ℕ, zero, suc, ◌+◌, ◌≤◌, Bool, true, false, List, [], ◌∷◌, ◌++◌, map, refl, sym, ap, ◌∙◌, subst, arith, append-nil}
use Rattle.std.specs.Prelude.{slice_set}
use Rattle.concurrent_queue.specs.Contents.{Contents}
use Rattle.concurrent_queue.specs.declared.cells.QueueForm.{QueueForm}
use Rattle.concurrent_queue.specs.history.Keeps.{Tally}
use Rattle.concurrent_queue.specs.history.Keeps as table
use Rattle.concurrent_queue.specs.machine.Places.{Each}
use Rattle.event_listener.specs.Lists.{ListView, Notice}
use Rattle.event_listener.specs.declared.key.Key.{Key}
use Rattle.channel_calls.specs.Deeds.{Deed, told}
use Rattle.channel_calls.specs.Effects.{Does}
use Rattle.channel_calls.specs.Parts.{Parts, Listeners, listeners, with_listeners, with_wait_lists, told_one, told_more, told_as, told_more_wakes, told_as_wakes}
use Rattle.channel_calls.specs.declared.stage.Side.{Side}
use Rattle.channel_calls.specs.declared.stage.Side.TheVariants.{Senders, Receivers}
use Rattle.channel_calls.specs.declared.stage.Telling.{Telling}
use Rattle.channel_calls.specs.declared.stage.Telling.TheVariants.{One, More, All}
use Rattle.channel_calls.specs.declared.stage.WaitList.{WaitList}
use Rattle.channel_calls.specs.declared.stage.WaitList.TheVariants.{Sends, Receives, Streams, Closings}
use Rattle.channel_steps.specs.every_run.Bridge.{does, on_wait_lists}
use Rattle.channel_steps.specs.every_run.Closed.{one_if}
use Rattle.channel_history.specs.History.{total, is_line, is_list, lists_of, among, AllAre, IsTrue, parts_of, IsChannelHistory}
use Rattle.channel_history.specs.Keeps.{IsAt}
use Rattle.channel_history.specs.Machine.{counter_of, waiters_of, NobodyWaits, IsFlagged, AreFlagged, FindsNobody}
use Rattle.channel_history.specs.declared.party.Standing.{Standing}
use Rattle.channel_history.proofs.Deeds.{deeds_do, unchanged}
use Rattle.channel_history.proofs.Goes.{order_last, goes_on}
use Rattle.channel_history.proofs.Keeping.{leads_now, others_now}
use Rattle.channel_history.proofs.Lying.{kept_each, lie_kept}
use Rattle.channel_history.proofs.Passing.{itself, found}
use Rattle.channel_history.proofs.Sections.{not_one}
use Rattle.channel_history.proofs.Together.{each_at, each_set, all_keep, others_keep}

same_line : (a b : WaitList) → is_line a b ≡ true → b ≡ a
same_line Sends Sends e = refl
same_line Receives Receives e = refl
same_line Streams Streams e = refl
same_line Closings Closings e = refl
same_line Sends Receives e = absurd cc
same_line Sends Streams e = absurd cc
same_line Sends Closings e = absurd cc
same_line Receives Sends e = absurd cc
same_line Receives Streams e = absurd cc
same_line Receives Closings e = absurd cc
same_line Streams Sends e = absurd cc
same_line Streams Receives e = absurd cc
same_line Streams Closings e = absurd cc
same_line Closings Sends e = absurd cc
same_line Closings Receives e = absurd cc
same_line Closings Streams e = absurd cc

-- ---- a notification to nobody

module _ {W : Type 0} where
  abbrev nobody : List (Key × Notice Unit) → Listeners W
  nobody gone = record { told = gone; waiting = [] }

  one_nobody : (gone : List (Key × Notice Unit)) → told_one (nobody gone) ≡ nobody gone
  one_nobody gone = λ i. record { told = append-nil gone i; waiting = [] }

  more_nobody : (n : ℕ) (gone : List (Key × Notice Unit)) → told_more n (nobody gone) ≡ nobody gone
  more_nobody zero gone = refl
  more_nobody (suc n) gone = ap (λ (l : Listeners W). told_more n l) (one_nobody gone) ∙ more_nobody n gone

  more_wakes : (n : ℕ) (gone : List (Key × Notice Unit)) → told_more_wakes n (nobody gone) ≡ []
  more_wakes zero gone = refl
  more_wakes (suc n) gone = ap (λ (l : Listeners W). told_more_wakes n l) (one_nobody gone) ∙ more_wakes n gone

  abbrev ChangesNothing : Telling → Listeners W → Type 0
  ChangesNothing telling l = (told_as telling l ≡ l) × (told_as_wakes telling l ≡ [])

  to_nobody : (telling : Telling) (gone : List (Key × Notice Unit)) → ChangesNothing telling (nobody gone)
  to_nobody One gone = (one_nobody gone, refl)
  to_nobody (More n) gone = (more_nobody n gone, more_wakes n gone)
  to_nobody All gone = ((λ i. record { told = append-nil gone i; waiting = [] }), refl)

  pub notifies_nobody : (telling : Telling) (l : Listeners W) → l.waiting ≡ [] → ChangesNothing telling l
  notifies_nobody telling l none =
      let is : l ≡ nobody l.told = (λ i. record { told = l.told; waiting = none i }) in
      subst (λ (x : Listeners W). ChangesNothing telling x) (sym is) (to_nobody telling l.told)

  -- ---- a list that lies with some seat

  module _ (line : WaitList) (P Q : WaitList × ListView Unit W → Type 0) where
    abbrev Found : Type 0
    Found = (x : WaitList × ListView Unit W) × (is_line line x.0 ≡ true) × P x × Q x

    one_of : (ls : List (WaitList × ListView Unit W)) → 1 ≤ total (is_list line) ls → Each P ls → Each Q ls → Found
    one_of [] some p q = absurd (omega (arith, some))
    one_of (x ∷ xs) some p q = by (is_line line x.0) refl (λ more. one_of xs more p.1 q.1) where
      by : (b : Bool) → is_line line x.0 ≡ b → (1 ≤ total (is_list line) xs → Found) → Found
      by true e behind = (x, e, p.0, q.0)
      by false e behind = let none = ap one_if e in behind (omega (arith, some, none))

    pub one_among : {T : Type 0} → (views : List (Standing T W)) → 1 ≤ among lists_of (is_list line) views → AllAre lists_of P views → AllAre lists_of Q views → Found
    one_among [] some p q = absurd (omega (arith, some))
    one_among (s ∷ ss) some p q = by (total (is_list line) s.own.lists) refl (λ more. one_among ss more p.1 q.1) where
      by : (n : ℕ) → total (is_list line) s.own.lists ≡ n → (1 ≤ among lists_of (is_list line) ss → Found) → Found
      by zero e behind = behind (omega (arith, some, e))
      by (suc n) e behind = one_of s.own.lists (omega (arith, e)) p.0 q.0

-- ---- the words that say whether somebody waits

this_count : (line : WaitList) (n : ℕ) (t : Tally) → table.count_of (waiters_of line) (table.with_count (waiters_of line) n t) ≡ n
this_count Sends n t = refl
this_count Receives n t = refl
this_count Streams n t = refl
this_count Closings n t = refl

other_count : (line x : WaitList) (n : ℕ) (t : Tally) → is_line line x ≡ false → table.count_of (waiters_of x) (table.with_count (waiters_of line) n t) ≡ table.count_of (waiters_of x) t
other_count Sends Sends n t e = absurd cc
other_count Receives Receives n t e = absurd cc
other_count Streams Streams n t e = absurd cc
other_count Closings Closings n t e = absurd cc
other_count Sends Receives n t e = refl
other_count Sends Streams n t e = refl
other_count Sends Closings n t e = refl
other_count Receives Sends n t e = refl
other_count Receives Streams n t e = refl
other_count Receives Closings n t e = refl
other_count Streams Sends n t e = refl
other_count Streams Receives n t e = refl
other_count Streams Closings n t e = refl
other_count Closings Sends n t e = refl
other_count Closings Receives n t e = refl
other_count Closings Streams n t e = refl

handle_count : (side : Side) (line : WaitList) (n : ℕ) (t : Tally) → table.count_of (waiters_of line) (table.with_count (counter_of side) n t) ≡ table.count_of (waiters_of line) t
handle_count Senders Sends n t = refl
handle_count Senders Receives n t = refl
handle_count Senders Streams n t = refl
handle_count Senders Closings n t = refl
handle_count Receivers Sends n t = refl
handle_count Receivers Receives n t = refl
handle_count Receivers Streams n t = refl
handle_count Receivers Closings n t = refl

each_so : {X : Type 0} (P Q : X → Type 0) → ((x : X) → P x → Q x) → (l : List X) → Each P l → Each Q l
each_so P Q so [] h = tt
each_so P Q so (x ∷ xs) h = (so x h.0, each_so P Q so xs h.1)

module _ {T W : Type 0} where
  -- a count of handles says nothing of lists
  pub flagged_beside : (side : Side) (n : ℕ) (t : Tally) (views : List (Standing T W)) → AreFlagged t views → AreFlagged (table.with_count (counter_of side) n t) views
  flagged_beside side n t views =
      each_so _ _ (λ s. each_so (IsFlagged t) (IsFlagged (table.with_count (counter_of side) n t)) (λ x e zero. e (sym (handle_count side x.0 n t) ∙ zero)) s.own.lists) views

  module _ (views : List (Standing T W)) (t : Tally) (flagged : AreFlagged t views) (p : ℕ) (v w : Standing T W) (there : IsAt views p v) where
    pub flagged_kept : w.own ≡ v.own → AreFlagged t (slice_set views p w)
    flagged_kept own = kept_each views p v w there own _ lists_of ((λ x y. refl), refl) (IsFlagged t) flagged

    abbrev Flagged : Tally → Standing T W → Type 0
    Flagged u s = Each (IsFlagged u) s.own.lists

    module _ (line : WaitList) (l k : ListView Unit W) (has : v.own.lists ≡ (line, l) ∷ []) (left : w.own.lists ≡ (line, k) ∷ []) where
      -- somebody waits only if somebody did
      pub flagged_same : (NobodyWaits l → NobodyWaits k) → AreFlagged t (slice_set views p w)
      flagged_same same =
          let mine = subst (λ (ls : List (WaitList × ListView Unit W)). Each (IsFlagged t) ls) has (each_at (Flagged t) views p v there flagged) in
          each_set (Flagged t) views p w flagged (subst (λ (ls : List (WaitList × ListView Unit W)). Each (IsFlagged t) ls) (sym left) ((λ zero. same (mine.0 zero)), tt))

      -- the word is set; no other seat has this list
      pub flagged_set : (n : ℕ) → (n ≡ 0 → NobodyWaits k) → among lists_of (is_list line) views ≡ 1 → AreFlagged (table.with_count (waiters_of line) n t) (slice_set views p w)
      flagged_set n is one =
          let u = table.with_count (waiters_of line) n t in
          let here : total (is_list line) v.own.lists ≡ 1 = ap (λ (ls : List (WaitList × ListView Unit W)). total (is_list line) ls) has ∙ ap (λ (b : Bool). one_if b + 0) (itself line) in
          others_keep (λ (s : Standing T W). total (is_list line) s.own.lists) (Flagged t) (Flagged u)
          (λ s none all. all_keep (is_list line) (IsFlagged t) (IsFlagged u) (λ x other e zero. e (sym (other_count line x.0 n t (not_one (is_line line x.0) other)) ∙ zero)) s.own.lists none all)
          views p v w there (omega (arith, here)) (omega (arith, one)) flagged
          (subst (λ (ls : List (WaitList × ListView Unit W)). Each (IsFlagged u) ls) (sym left) ((λ zero. is (sym (this_count line n t) ∙ zero)), tt))

  module _ (form : QueueForm) (views : List (Standing T W)) (c : Contents T) (t : Tally) (h : IsChannelHistory form views c t.first t.second) (flagged : AreFlagged t views) where
    -- where the word says so nobody waits, by the history
    none_waits : (line : WaitList) → table.count_of (waiters_of line) t ≡ 0 → (h.listening line).waiting ≡ []
    none_waits line none =
        let one = (h.lie).lists line in
        let x = one_among line (IsTrue h.listening) (IsFlagged t) views (omega (arith, one)) (h.lie).true_lists flagged in
        let same : (x.0).0 ≡ line = same_line line (x.0).0 x.1 in
        let empty : NobodyWaits (x.0).1 = x.3 (ap (λ (z : WaitList). table.count_of (waiters_of z) t) same ∙ none) in
        ap (λ (z : WaitList). (h.listening z).waiting) (sym same) ∙ (ap (λ (z : Listeners W). z.waiting) (sym x.2) ∙ empty)

    -- a notification to nobody keeps the history
    pub nobody_keeps : (p : ℕ) (v w : Standing T W) → IsAt views p v → (line : WaitList) → table.count_of (waiters_of line) t ≡ 0 → FindsNobody form v w line
        → IsChannelHistory form (slice_set views p w) c t.first t.second
    nobody_keeps p v w there line none (telling, (os, quiet, leads), own) =
        let n : ℕ = t.first in
        let m : ℕ = t.second in
        let parts : Parts T W = parts_of c h.listening n m in
        let d : Deed T W = told line telling [] in
        let is : listeners line parts.wait_lists ≡ h.listening line = found line c h.listening n m in
        let empty : (listeners line parts.wait_lists).waiting ≡ [] = ap (λ (z : Listeners W). z.waiting) is ∙ none_waits line none in
        let quiet_so = notifies_nobody telling (listeners line parts.wait_lists) empty in
        let done : Does d parts parts =
        subst (λ (names : List W). Does (told line telling names) parts parts) quiet_so.1
        (subst (λ (q : Parts T W). Does (told line telling (told_as_wakes telling (listeners line parts.wait_lists))) parts q)
        (ap (λ (z : Listeners W). with_wait_lists (with_listeners line z parts.wait_lists) parts) quiet_so.0 ∙ unchanged line parts (listeners line parts.wait_lists) refl)
        ((deeds_do T W).tells line (listeners line parts.wait_lists) telling parts refl)) in
        goes_on form views (slice_set views p w) c c n m n m h p (map does (os ++ on_wait_lists d ∷ [])) h.listening h.woken
        (order_last p os (on_wait_lists d) (parts, h.woken) (parts, h.woken) quiet (done, refl))
        (leads_now form views c n m h p v w there _ leads) (others_now form views c n m h p v w there) (lie_kept views p v w there own h.listening n m h.lie)
