-- Each moment and each step of a merge says what the headline says.
use Rattle.std.proofs.Common.{Bool, true, false, ◌==◌, ◌&&◌, ◌<◌, suc, is_none, if◌then◌else◌, map, arith, ◌≡◌, ℕ, ◌≤◌, List, [], ◌∷◌, ◌++◌, length, slice_get, unwrap_or, Option, None, Some, inl, inr, refl, sym, ap, ◌∙◌, subst, append_assoc}
use Rattle.std.specs.List.{remove}
use Rattle.std.proofs.lemmas.List.{length-map}
use Rattle.concurrent_queue.proofs.Callers.{is_same}
use Rattle.concurrent_queue.proofs.Bridge.{new_is}
use Rattle.channel_steps.proofs.every_run.Words.{QueueForm, Woken, Channel, ChannelAsk, Reply, Spent, HasRange, Next, new_configuration, ActiveCall, Configuration, Represents, brought, does, gone_by, came_by, OthersQuiet, sees, unless_ended, Entry, Step, Sends, Receives, capacity_of, IsNew, new_cells, all_left, most_left, EachStep, end_of, wanted_at, HoldsListener, BoundSound, MergeMoment, NextMoment, Happening, steps_of, opened_parts, just_opened, LastsFor, MergesAreRuns, NewCallsGiveNothing, NoMessageAfter, MergeMomentSays, MergeBeginSays, MergeWorkSays, MergeCallSays, MergeStepSays, MergesKeepTheHeadline, MergeEndsInARow, OthersQuietAt, steps_in_a_row, left_to, FewStepsLeft, SaysTheEnd, Replies, AddUp, brought_by, MessagesAreFew, counts_for_receives, PlacesAreFew, counts_for_sends, WakeInvariant}
use Rattle.channel_steps.specs.declared.run.Step.TheVariants as step
use Rattle.channel_steps.proofs.Interface.{each_says, few_left, hold_still}
use Rattle.channel_steps.proofs.StartFacts.{new_shown}
use Rattle.channel_steps.proofs.every_run.Bounds.{bound_new, bound_next}
use Rattle.channel_steps.proofs.every_run.Bridge.{acts_to, merge}
use Rattle.channel_steps.specs.every_run.Bridge.{Acts, ActsTo, InOneOrder, PartiesStandWhereTheyWent, own, stage_at}
use Rattle.channel_steps.specs.every_run.BridgeHeadline.{KeepsTheHeadline}
use Rattle.concurrent_queue.specs.Bridge.{HasCells}
use Rattle.concurrent_queue.specs.declared.queue_call.QueueCall.{QueueCall}
use Rattle.channel_calls.specs.declared.stage.Stage.{Stage}
use Rattle.channel_calls.specs.declared.whole.Completed.{Completed}
use Rattle.channel_calls.specs.Parts.{Parts}
use Rattle.channel_steps.proofs.every_run.BridgeLeads.{Leads, next_moment, configurations_of}
use Rattle.channel_steps.proofs.every_run.Closings as closings
use Rattle.channel_steps.proofs.every_run.EndFacts.{may_end}
use Rattle.channel_steps.proofs.every_run.Ends.{silent_from, silent_long}
use Rattle.channel_steps.proofs.every_run.Interface.{all_sound_new, all_sound_next, stays_over, stays_closed, says_over, late_gives}
use Rattle.channel_steps.proofs.every_run.MarkFacts.{all_begin}
use Rattle.channel_steps.proofs.every_run.MarkedFacts.{came_is, step_marked}
use Rattle.channel_steps.proofs.every_run.Owed.{pending_owed}
use Rattle.channel_steps.proofs.every_run.Streams as streams
use Rattle.channel_steps.proofs.every_run.WordsFacts.{words_say}

module _ {T : Type 0} where
  no_reply : (e : Entry T) → e.reply ≡ None → Replies SaysTheEnd e.reply → ⊥
  no_reply e none h = subst (λ (o : Option (Reply T)). Replies SaysTheEnd o) none h

module _ {T W : Type 0} where
  -- ---- what every step keeps

  abbrev InOrder : Configuration T W → Type 0
  InOrder s = s.gone ++ s.now.queue.items ≡ s.came

  order_next : (s : Configuration T W) (x : Step T W) (e : Entry T) (names : List W) (t : Configuration T W) → Next s x e names t → InOrder s → InOrder t
  order_next s (step.Begin p ask) e names t n h =
      let b = n.0 in
      ap (λ (c : Channel T W). t.gone ++ c.queue.items) b.now ∙ ap (λ (ms : List T). ms ++ s.now.queue.items) b.gone ∙ h ∙ sym b.came
  order_next s (step.Step p) e names t n h =
      let out = gone_by e.mark s.now.queue.items in
      let into = came_by e.mark n.mine.ask in
      ap (λ (ms : List T). ms ++ t.now.queue.items) n.gone
      ∙ append_assoc s.gone out t.now.queue.items
      ∙ ap (λ (ms : List T). s.gone ++ ms) n.held
      ∙ sym (append_assoc s.gone s.now.queue.items into)
      ∙ ap (λ (ms : List T). ms ++ into) h
      ∙ sym n.came

  record StaysSo (s : Configuration T W) : Type 0 where
    pub sound : WakeInvariant s
    pub bound : BoundSound s
    pub order : InOrder s

  kept_new : (cap : Option ℕ) → StaysSo (new_configuration {T = T} {W = W} cap)
  kept_new cap = record { sound = all_sound_new cap; bound = bound_new cap; order = refl }

  kept_next : (s : Configuration T W) (x : Step T W) (e : Entry T) (names : List W) (t : Configuration T W) → Next s x e names t → StaysSo s → StaysSo t
  kept_next s x e names t n k =
      record { sound = all_sound_next s x e names t k.sound n; bound = bound_next s x e names t n k.bound; order = order_next s x e names t n k.order }

  -- ---- a moment

  few_at : (ns : List ℕ) (us : List (ActiveCall T W)) → ((k n : ℕ) → slice_get ns k ≡ Some n → n ≤ most_left (wanted_at k us))
      → (k : ℕ) → unwrap_or (slice_get ns k) 0 ≤ most_left (wanted_at k us)
  few_at ns us few k = by (slice_get ns k) refl where
    by : (o : Option ℕ) → slice_get ns k ≡ o → unwrap_or o 0 ≤ most_left (wanted_at k us)
    by None e = omega arith
    by (Some n) e = few k n e

module _ {T W S : Type 0} where
  says_moment : (m : MergeMoment T W S) → Represents m.parts m.parties m.configuration → StaysSo m.configuration → MergeMomentSays m
  says_moment m sh k =
      record {
        shows = sh;
        in_order = k.order;
        fits = k.bound.fits;
        begun = all_begin m.configuration.now m.configuration.under_way sh.known;
        receives = pending_owed Receives MessagesAreFew counts_for_receives (HoldsListener Receives) (λ c. ⊥) m.configuration k.sound.receives.owed;
        sends = pending_owed Sends PlacesAreFew counts_for_sends (HoldsListener Sends) (λ c. ⊥) m.configuration k.sound.sends.owed;
        streams = streams.pending_owed m.configuration k.sound.streams.owed;
        closing = closings.pending_owed m.configuration k.sound.closing.owed;
        words = words_say m.parts m.parties m.configuration sh;
        few = few_at (all_left m.parts m.parties) m.configuration.under_way (few_left m.parts m.parties m.configuration sh);
      }

module _ {T W S : Type 0} (wakes : S → W → S → Type 0) where
  -- ---- a step

  says_begin : (m : MergeMoment T W S) (p : ℕ) (ask : ChannelAsk T W) (e : Entry T) (n : MergeMoment T W S) → Leads wakes m (step.Begin p ask) e n → MergeBeginSays m p ask e n
  says_begin m p ask e n l =
      let b = l.next.0 in
      record {
        idle = l.begins;
        mark = ap (λ (x : Entry T). x.mark) b.entry;
        reply = ap (λ (x : Entry T). x.reply) b.entry;
        woken = subst (λ (ws : List W). Woken wakes m.sink ws n.sink) l.next.1 l.woken;
        parts = l.touches;
        now = b.now;
        at_first = b.at;
        under_way = b.under_way;
      }

  says_work : (m : MergeMoment T W S) (p : ℕ) (e : Entry T) (n : MergeMoment T W S) → (l : Leads wakes m (step.Step p) e n) → StaysSo m.configuration → MergeWorkSays wakes m p e n l.names
  says_work m p e n l k =
      let s = l.next in
      let after : ActiveCall T W = does s.mine s.at_now e.mark m.configuration.now n.configuration.now in
      let came : came_by e.mark s.mine.ask ≡ brought_by e.mark (brought s.mine.ask) = came_is e.mark s.mine.ask in
      record {
        before = s.before;
        call = s.mine;
        behind = s.behind;
        under_way = s.there;
        party = s.whose;
        at_now = s.at_now;
        after = after;
        is = refl;
        goes_on = s.left;
        work = record {
          effect = step_marked m.configuration p e l.names n.configuration s;
          touches = l.touches;
          accounts = subst (λ (ms : List T). AddUp m.configuration (gone_by e.mark m.configuration.now.queue.items) ms n.configuration) came
              (record { held = s.held; gone = s.gone; came = s.came });
          told = s.named;
          ends = may_end after e.reply e.kept s.finishes;
          in_time = s.quick;
          late = late_gives m.configuration p e l.names n.configuration s k.sound;
        };
        nearer = l.nearer;
      }

  says_call : (m : MergeMoment T W S) (x : Step T W) (e : Entry T) (n : MergeMoment T W S) → (l : Leads wakes m x e n) → StaysSo m.configuration → MergeCallSays wakes m x e n l.names
  says_call m (step.Begin p ask) e n l k = says_begin m p ask e n l
  says_call m (step.Step p) e n l k = says_work m p e n l k

  says_end : (m : MergeMoment T W S) (x : Step T W) (e : Entry T) (n : MergeMoment T W S) → Leads wakes m x e n → StaysSo m.configuration → Replies SaysTheEnd e.reply → Spent n.configuration.now
  says_end m (step.Begin p ask) e n l k end = absurd (no_reply e (let b = l.next.0 in ap (λ (x : Entry T). x.reply) b.entry) end)
  says_end m (step.Step p) e n l k end = says_over m.configuration p e l.names n.configuration l.next k.sound end

  says : (m : MergeMoment T W S) (x : Step T W) (e : Entry T) (n : MergeMoment T W S) → Leads wakes m x e n → StaysSo m.configuration → MergeStepSays wakes m x e n
  says m x e n l k =
      record {
        names = l.names;
        next = l.next;
        woken = l.woken;
        call = says_call m x e n l k;
        blocks = l.blocks;
        closed = stays_closed m.configuration x e l.names n.configuration l.next;
        over = stays_over m.configuration x e l.names n.configuration l.next;
        the_end = says_end m x e n l k;
        after = says_moment n l.shows (kept_next m.configuration x e l.names n.configuration l.next k);
      }

  -- ---- the end

  give_nothing : (m : MergeMoment T W S) (xs : List (Step T W)) (es : List (Entry T)) (ns : List (MergeMoment T W S)) → EachStep (Leads wakes) m xs es ns
      → Spent m.configuration.now → NewCallsGiveNothing xs es
  give_nothing m [] [] [] h over = tt
  give_nothing m (step.Begin p ask ∷ xs) (e ∷ es) (n ∷ ns) h over =
      let l = h.0 in
      let last = end_of n ns in
      let run = configurations_of wakes m (step.Begin p ask ∷ xs) (e ∷ es) last (record { moments = n ∷ ns; each = h; ends = refl }) in
      let first = stays_over m.configuration (step.Begin p ask) e l.names n.configuration l.next over in (
        silent_long p m.configuration last.configuration (step.Begin p ask ∷ xs) (e ∷ es) over (silent_from p m.configuration.under_way l.begins) run,
        give_nothing n xs es ns h.1 first.0,
      )
  give_nothing m (step.Step p ∷ xs) (e ∷ es) (n ∷ ns) h over =
      let l = h.0 in
      let first = stays_over m.configuration (step.Step p) e l.names n.configuration l.next over in
      give_nothing n xs es ns h.1 first.0
  give_nothing m x y ns h over = absurd h

  nothing_comes : (m : MergeMoment T W S) (xs : List (Step T W)) (es : List (Entry T)) (ns : List (MergeMoment T W S)) → StaysSo m.configuration
      → EachStep (Leads wakes) m xs es ns → NoMessageAfter xs es
  nothing_comes m [] [] [] k h = tt
  nothing_comes m (x ∷ xs) (e ∷ es) (n ∷ ns) k h =
      let l = h.0 in (
        λ ended. give_nothing n xs es ns h.1 (says_end m x e n h.0 k ended),
        nothing_comes n xs es ns (kept_next m.configuration x e l.names n.configuration l.next k) h.1,
      )
  nothing_comes m x y ns k h = absurd h

-- ---- steps in a row

module _ {T W : Type 0} where
  removed : (us : List (ActiveCall T W)) (u : ActiveCall T W) (vs : List (ActiveCall T W)) → remove (us ++ (u ∷ vs)) (length us) ≡ us ++ vs
  removed [] u vs = refl
  removed (v ∷ us) u vs = ap (λ (ws : List (ActiveCall T W)). v ∷ ws) (removed us u vs)

  found : (us : List (ActiveCall T W)) (u : ActiveCall T W) (vs : List (ActiveCall T W)) → slice_get (us ++ (u ∷ vs)) (length us) ≡ Some u
  found [] u vs = refl
  found (v ∷ us) u vs = found us u vs

  -- at which place a call stands, and which are the others
  pub record Stands (k : ℕ) (mine : ActiveCall T W) (others : List (ActiveCall T W)) (us : List (ActiveCall T W)) : Type 0 where
    pub there : slice_get us k ≡ Some mine
    pub others_are : remove us k ≡ others

  stands : (us : List (ActiveCall T W)) (u : ActiveCall T W) (vs ws : List (ActiveCall T W)) → ws ≡ us ++ (u ∷ vs) → Stands (length us) u (us ++ vs) ws
  stands us u vs ws e =
      subst (λ (xs : List (ActiveCall T W)). Stands (length us) u (us ++ vs) xs) (sym e) (record { there = found us u vs; others_are = removed us u vs })

module _ {T W S : Type 0} (wakes : S → W → S → Type 0) where
  row_left : (k p : ℕ) (u : ActiveCall T W) (m : MergeMoment T W S) (xs : List (Step T W)) (es : List (Entry T)) (ns : List (MergeMoment T W S))
      → EachStep (Leads wakes) m xs es ns → slice_get m.configuration.under_way k ≡ Some u → u.party ≡ p → OthersQuietAt k m → steps_in_a_row p xs es ≤ left_to k m
  row_left k p u m [] [] [] h there his free = omega arith
  row_left k p u m (step.Begin q ask ∷ xs) (e ∷ es) (n ∷ ns) h there his free = omega arith
  row_left k p u m (step.Step q ∷ xs) (e ∷ es) (n ∷ ns) h there his free =
      by (λ v here mine still. row_left k p v n xs es ns h.1 here mine still) (q == p) refl e.reply refl
    where
      by : ((v : ActiveCall T W) → slice_get n.configuration.under_way k ≡ Some v → v.party ≡ p → OthersQuietAt k n → steps_in_a_row p xs es ≤ left_to k n)
          → (b : Bool) → (q == p) ≡ b → (r : Option (Reply T)) → e.reply ≡ r → (if b && is_none r then suc (steps_in_a_row p xs es) else 0) ≤ left_to k m
      by more false same r goes_on = omega arith
      by more true same (Some x) goes_on = omega arith
      by more true same None goes_on =
          let l = h.0 in
          let s = l.next in
          let one : k ≡ length s.before = l.only k u there (his ∙ sym (is_same q p same)) in
          let was = stands s.before s.mine s.behind m.configuration.under_way s.there in
          let free_there : OthersQuiet m.configuration.now (remove m.configuration.under_way (length s.before)) =
          subst (λ (j : ℕ). OthersQuiet m.configuration.now (remove m.configuration.under_way j)) one free in
          let hold : OthersQuiet m.configuration.now (s.before ++ s.behind) =
          subst (λ (us : List (ActiveCall T W)). OthersQuiet m.configuration.now us) was.others_are free_there in
          let less : left_to k n < left_to k m = subst (λ (j : ℕ). left_to j n < left_to j m) (sym one) (l.nearer goes_on hold) in
          let before : List (ActiveCall T W) = map (sees n.configuration.now) s.before in
          let behind : List (ActiveCall T W) = map (sees n.configuration.now) s.behind in
          let after : ActiveCall T W = does s.mine s.at_now e.mark m.configuration.now n.configuration.now in
          let goes : n.configuration.under_way ≡ before ++ (after ∷ behind) =
          subst (λ (r : Option (Reply T)). n.configuration.under_way ≡ before ++ (unless_ended after r ++ behind)) goes_on s.left in
          let is = stands before after behind n.configuration.under_way goes in
          let place : length before ≡ k = length-map s.before (sees n.configuration.now) ∙ sym one in
          let still : OthersQuiet n.configuration.now (remove n.configuration.under_way (length before)) =
          subst (λ (us : List (ActiveCall T W)). OthersQuiet n.configuration.now us) (sym is.others_are) (hold_still m.configuration q e l.names n.configuration s hold) in
          let rest = more after
          (subst (λ (j : ℕ). slice_get n.configuration.under_way j ≡ Some after) place is.there) (s.whose ∙ is_same q p same)
          (subst (λ (j : ℕ). OthersQuiet n.configuration.now (remove n.configuration.under_way j)) place still) in
          omega (arith, less, rest)
  row_left k p u m x y ns h there his free = absurd h

  few_now : (m : MergeMoment T W S) → Represents m.parts m.parties m.configuration → FewStepsLeft m
  few_now m sh = few_at (all_left m.parts m.parties) m.configuration.under_way (few_left m.parts m.parties m.configuration sh)

  end_in_a_row : (m : MergeMoment T W S) (xs : List (Step T W)) (es : List (Entry T)) (ns : List (MergeMoment T W S)) → Represents m.parts m.parties m.configuration
      → EachStep (Leads wakes) m xs es ns → MergeEndsInARow m xs es ns
  end_in_a_row m [] [] [] sh h = tt
  end_in_a_row m (x ∷ xs) (e ∷ es) (n ∷ ns) sh h =
      let l = h.0 in (
        λ k u there free.
            let row = row_left k u.party u m (x ∷ xs) (e ∷ es) (n ∷ ns) h there refl free in
            let most = few_now m sh k in
            omega (arith, row, most),
        end_in_a_row n xs es ns l.shows h.1,
      )
  end_in_a_row m x y ns sh h = absurd h

-- ---- a merge

module _ {T W : Type 0} where
  steps_many : (events : List (Happening T W)) → length (steps_of events) ≡ length events
  steps_many [] = refl
  steps_many (x ∷ xs) = let h = steps_many xs in omega (arith, h)

-- the positions of a new queue last for the steps of so many events
lasts : {T W : Type 0} (form : QueueForm) (events : List (Happening T W)) → LastsFor (length events) form
    → let s : Configuration T W = new_configuration (capacity_of form) in HasRange (length (steps_of events)) s.now.queue
lasts form events (inl one) = inl one
lasts form events (inr few) = let e = steps_many events in inr (omega (arith, few, e))

pub keeps_the_headline : (T W S : Type 0) (wakes : S → W → S → Type 0) (form : QueueForm) (events : List (Happening T W)) (given : ℕ → List (Completed T)) (at : ℕ → Option (Stage (QueueCall T) T W)) (sink : S) (last : Parts T W) (woken : S)
    → HasCells form → LastsFor (length events) form → ((p : ℕ) → ActsTo form None (own p events) (given p) (at p)) → InOneOrder wakes events (opened_parts form, sink) (last, woken)
    → (keeps : KeepsTheHeadline wakes form events given sink last woken) × ((p : ℕ) → stage_at p keeps.is.parties ≡ at p)
keeps_the_headline T W S wakes form events given at sink last woken has long acts order =
    let new : IsNew {T = T} form (new_cells form) = new_is form has in
    let first : MergeMoment T W S = just_opened form sink in
    let shown : Represents first.parts first.parties first.configuration = new_shown form (opened_parts form) [] new refl refl in
    let m = merge wakes form at events (last, woken) (opened_parts form, sink) [] given new.0 tt acts order in
    let g = m.through first.configuration (lasts form events long) shown in
    let r = g.run in
    let kept = kept_new (capacity_of form) in (
      record {
        is = record {
          trace = m.more;
          parties = m.parties;
          configuration = g.end;
          opened = shown;
          run = record {
            moments = r.moments;
            each = each_says (Leads wakes) (λ n. Unit {0}) (NextMoment wakes) (λ a x e b l k. (next_moment wakes a x e b l, tt)) first (steps_of events) m.more r.moments tt r.each;
            ends = r.ends;
          };
          configurations = configurations_of wakes first (steps_of events) m.more _ r;
          shown = g.shown;
          answers = m.answers;
          stands = λ p. subst (λ (to : Option (Stage (QueueCall T) T W)). ActsTo form None (own p events) (given p) to) (sym (m.stands p)) (acts p);
        };
        at_first = says_moment first shown kept;
        each = each_says (Leads wakes) (λ (n : MergeMoment T W S). StaysSo n.configuration) (MergeStepSays wakes)
            (λ a x e b l k. (says wakes a x e b l k, kept_next a.configuration x e l.names b.configuration l.next k)) first (steps_of events) m.more r.moments kept r.each;
        after_the_end = nothing_comes wakes first (steps_of events) m.more r.moments kept r.each;
        ends_soon = end_in_a_row wakes first (steps_of events) m.more r.moments shown r.each;
      },
      m.stands,
    )

pub merges_keep_the_headline : (T W S : Type 0) (wakes : S → W → S → Type 0) → MergesKeepTheHeadline T W S wakes
merges_keep_the_headline T W S wakes form events given sink last woken has long acts order =
    let g = λ (p : ℕ). acts_to form None (own p events) (given p) (acts p) in
    (keeps_the_headline T W S wakes form events given (λ p. (g p).0) sink last woken has long (λ p. (g p).1) order).0

pub parties_stand_where_they_went : (T W S : Type 0) (wakes : S → W → S → Type 0) → PartiesStandWhereTheyWent T W S wakes
parties_stand_where_they_went T W S wakes form events given at sink last woken has long acts order =
    let h = keeps_the_headline T W S wakes form events given at sink last woken has long acts order in
    (h.0.is, h.1)

pub merges_are_runs : (T W S : Type 0) (wakes : S → W → S → Type 0) → MergesAreRuns T W S wakes
merges_are_runs T W S wakes form events given sink last woken has long acts order =
    let h = merges_keep_the_headline T W S wakes form events given sink last woken has long acts order in
    h.is
