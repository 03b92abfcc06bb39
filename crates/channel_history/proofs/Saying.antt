-- What the last moment of a history says, and what is left of it where no call is under way.
use Rattle.std.proofs.Common.{◌≡◌, ℕ, ◌+◌, ◌≤◌, Bool, true, false, List, [], ◌∷◌, ◌++◌, length, map, if◌then◌else◌, inl, inr, ⊎_elim, refl, sym, ap, ◌∙◌, subst, eq-eqb, true≢false, add-zero, arith}
use Rattle.std.specs.Prelude.{Option, None, Some}
use Rattle.concurrent_queue.specs.Capacity.{capacity_of}
use Rattle.concurrent_queue.specs.Contents.{Contents}
use Rattle.concurrent_queue.specs.Step.{closed_in, items_in}
use Rattle.concurrent_queue.specs.declared.cells.QueueForm.{QueueForm}
use Rattle.concurrent_queue.specs.declared.queue_call.QueueCall.{QueueCall}
use Rattle.event_listener.specs.declared.key.Key.{Key}
use Rattle.channel_calls.specs.Moves.{Channel}
use Rattle.channel_calls.specs.Parts.{Parts, Listeners, WaitLists, count, listeners}
use Rattle.channel_calls.specs.declared.ask.ChannelAsk.{ChannelAsk}
use Rattle.channel_calls.specs.declared.reply.Reply.{Reply}
use Rattle.channel_calls.specs.declared.stage.Side.{Side}
use Rattle.channel_calls.specs.declared.stage.Side.TheVariants.{Senders, Receivers}
use Rattle.channel_calls.specs.declared.stage.Stage.{Stage}
use Rattle.channel_calls.specs.declared.stage.WaitList.{WaitList}
use Rattle.channel_calls.specs.declared.stage.WaitList.TheVariants.{Sends, Receives, Streams, Closings}
use Rattle.channel_steps.specs.Configuration.{ActiveCall, ActiveCallWitness, Configuration, Represents, active_call_of}
use Rattle.channel_calls.specs.declared.whole.Completed.{Completed}
use Rattle.channel_steps.specs.Moments.{Spent}
use Rattle.channel_steps.specs.Run.{EachStep, NextConfiguration, end_of, new_configuration}
use Rattle.channel_steps.specs.declared.party.Entry.{Entry}
use Rattle.channel_steps.specs.declared.party.Party.{Party}
use Rattle.channel_steps.specs.declared.run.Step.{Step}
use Rattle.channel_steps.specs.every_run.Bridge.{MergeMoment, stage_at, just_opened, opened_parts, steps_of}
use Rattle.channel_steps.specs.every_run.BridgeHeadline.{MergeMomentSays, MergeStepSays}
use Rattle.channel_steps.specs.every_run.Receives.{counts_for_receives}
use Rattle.channel_steps.specs.every_run.Sends.{HasPlaces, counts_for_sends}
use Rattle.channel_steps.specs.every_run.Amounts.{total}
use Rattle.channel_steps.specs.every_run.Ends.{Each, Replies, SaysTheEnd}
use Rattle.channel_steps.specs.every_run.Waits.{Any, IsIn, Waits}
use Rattle.channel_steps.proofs.Interface.{run_keeps}
use Rattle.channel_steps.proofs.every_run.Bounds.{capacity_next}
use Rattle.channel_history.specs.Accounts.{Accounts, asked_in, asks_in, of_call}
use Rattle.channel_history.specs.History.{appends, parts_of, IsChannelHistory}
use Rattle.channel_history.specs.Party.{standing_of}
use Rattle.channel_history.specs.Says.{IsAtStage, StandsByView, counted_by, HasEnded, HaveEnded, IsHeadlineRun, HistorySays, MomentSays, AtRest, RestSays, EachMomentIsSaid, NobodyIsMissedAtRest}
use Rattle.channel_history.specs.declared.party.Standing.{Standing}
use Rattle.channel_history.proofs.Accounts.{histories_are_accounted, each_asks}
use Rattle.channel_history.proofs.ByViews.{AllDiffer, StandsIn, differ_last, all_stand, all_there}
use Rattle.channel_history.proofs.Counting.{counts_made}

module _ {T W S : Type 0} (wakes : S → W → S → Type 0) where
  -- what is said of each moment is said of the last
  last_says : (m : MergeMoment T W S) (xs : List (Step T W)) (es : List (Entry T)) (ns : List (MergeMoment T W S)) → MergeMomentSays m → EachStep (MergeStepSays wakes) m xs es ns
      → MergeMomentSays (end_of m ns)
  last_says m [] [] [] now h = now
  last_says m (x ∷ xs) (e ∷ es) (n ∷ ns) now h = let first = h.0 in last_says n xs es ns first.after h.1
  last_says m x y ns now h = absurd h

  -- what is over is so at the last
  over_last : (m : MergeMoment T W S) (xs : List (Step T W)) (es : List (Entry T)) (ns : List (MergeMoment T W S)) → Spent m.configuration.now → EachStep (MergeStepSays wakes) m xs es ns
      → Spent (end_of m ns).configuration.now
  over_last m [] [] [] now h = now
  over_last m (x ∷ xs) (e ∷ es) (n ∷ ns) now h = let first = h.0 in over_last n xs es ns ((first.over now).0) h.1
  over_last m x y ns now h = absurd h

module _ {T W : Type 0} where
  -- a reply that says so was right
  ended_over : (p : ℕ) (c : Completed T) (m : MergeMoment T W (List W)) (xs : List (Step T W)) (es : List (Entry T)) (ns : List (MergeMoment T W (List W))) → EachStep (MergeStepSays appends) m xs es ns
      → HasEnded p c m xs es ns → SaysTheEnd c.reply → Spent (end_of m ns).configuration.now
  ended_over p c m (x ∷ xs) (e ∷ es) (n ∷ ns) h (inl ends) says =
      let first = h.0 in
      over_last appends n xs es ns (first.the_end (subst (λ (r : Option (Reply T)). Replies SaysTheEnd r) (sym ends.reply) says)) h.1
  ended_over p c m (x ∷ xs) (e ∷ es) (n ∷ ns) h (inr later) says = ended_over p c n xs es ns h.1 later says
  ended_over p c m [] es ns h ended says = absurd ended
  ended_over p c m (x ∷ xs) [] ns h ended says = absurd ended
  ended_over p c m (x ∷ xs) (e ∷ es) [] h ended says = absurd ended

  one_ended : (p : ℕ) (earlier later : List (Completed T)) (c : Completed T) (m : MergeMoment T W (List W)) (xs : List (Step T W)) (es : List (Entry T)) (ns : List (MergeMoment T W (List W)))
      → HaveEnded p (earlier ++ c ∷ later) m xs es ns → HasEnded p c m xs es ns
  one_ended p [] later c m xs es ns h = h.0
  one_ended p (x ∷ earlier) later c m xs es ns h = one_ended p earlier later c m xs es ns h.1

  no_none : (x : Stage (QueueCall T) T W) → Some x ≡ None → ⊥
  no_none x e = absurd (cc)

  -- where no party has a call, nobody is at work
  nobody : (parties : List (Party T W)) → ((p : ℕ) → stage_at p parties ≡ None) → parties ≡ []
  nobody [] none = refl
  nobody (x ∷ xs) none =
      absurd (no_none x.call.stage (sym (ap (λ (b : Bool). if b then Some x.call.stage else stage_at x.id xs) (eq-eqb x.id x.id refl)) ∙ none x.id))

  no_calls : (parts : Parts T W) (parties : List (Party T W)) (s : Configuration T W) → Represents parts parties s → parties ≡ [] → s.under_way ≡ []
  no_calls parts parties s sh none = sh.under_way ∙ ap (λ (xs : List (ActiveCallWitness T W)). map active_call_of xs) (no_witness sh.witnesses (sym sh.parties_are ∙ none)) where
    no_witness : (xs : List (ActiveCallWitness T W)) → map (λ (x : ActiveCallWitness T W). x.party) xs ≡ [] → xs ≡ []
    no_witness [] e = refl
    no_witness (x ∷ xs) e = absurd (cc)

module _ {T W : Type 0} (form : QueueForm) (views : List (Standing T W)) (cells : Contents T) (senders receivers : ℕ) (h : IsChannelHistory form views cells senders receivers)
    (says : HistorySays form views cells senders receivers h) where
  abbrev keeps : IsHeadlineRun form views cells senders receivers h
  keeps = says.keeps

  abbrev Last : Configuration T W
  Last = let run = keeps.is in run.configuration

  abbrev Ends : List W → MergeMoment T W (List W)
  Ends woken = record { parts = parts_of cells h.listening senders receivers; parties = (let run = keeps.is in run.parties); configuration = Last; sink = woken }

  at_last : MergeMomentSays (Ends h.woken)
  at_last =
      let run = keeps.is in let r = run.run in
      subst (λ (m : MergeMoment T W (List W)). MergeMomentSays m) r.ends
      (last_says appends (just_opened form []) (steps_of h.events) run.trace r.moments keeps.at_first keeps.each)

  -- no two calls under way are of one party
  differ : AllDiffer Last.under_way
  differ =
      let run = keeps.is in let r = run.run in
      subst (λ (m : MergeMoment T W (List W)). AllDiffer m.configuration.under_way) r.ends
      (differ_last appends (just_opened form []) (steps_of h.events) run.trace r.moments keeps.each tt)

  accounts : Accounts (λ p. (standing_of views p).asked) (λ p. (standing_of views p).given) Last
  accounts = histories_are_accounted T W form views cells senders receivers h says

  bound : Last.now.queue.capacity ≡ capacity_of form
  bound =
      let run = keeps.is in
      run_keeps NextConfiguration (λ (s : Configuration T W). s.now.queue.capacity ≡ capacity_of form)
      (λ s x e t n q. capacity_next s x e n.0 t n.1 ∙ q) (new_configuration (capacity_of form)) (steps_of h.events) run.trace Last run.configurations refl

  by_view : (us : List (ActiveCall T W)) → Each (λ u. StandsIn (let run = keeps.is in run.parties) u) us → Each (λ u. of_call asks_in u.party Last.under_way ≡ u.ask ∷ []) us
      → Each (λ u. StandsByView views u) us
  by_view [] e f = tt
  by_view (u ∷ us) e f =
      let one = e.0 in let account = accounts.each u.party in (
        record {
          at = one.0;
          stage = sym (says.stands u.party) ∙ one.1;
          here = one.2;
          before = asked_in account.calls;
          asked = account.asked_so ∙ ap (λ (l : List (ChannelAsk T W)). asked_in account.calls ++ l) f.0;
        },
        by_view us e.1 f.1,
      )

  pub moment_says : MomentSays form views cells senders receivers h says
  moment_says =
      let m = at_last in let sh = m.shows in let run = keeps.is in
      let there : Each (λ u. StandsIn run.parties u) Last.under_way =
      subst (λ (ps : List (Party T W)). Each (λ u. StandsIn ps u) Last.under_way) (sym sh.parties_are)
      (subst (λ (us : List (ActiveCall T W)). Each (λ u. StandsIn (map (λ (x : ActiveCallWitness T W). x.party) sh.witnesses) u) us) (sym sh.under_way)
      (all_stand sh.witnesses (subst (λ (us : List (ActiveCall T W)). AllDiffer us) sh.under_way differ))) in
      let lists = ap (λ (c : Channel T W). c.wait_lists) sh.now in
      record {
        lists = lists;
        counts = λ side. ap (λ (a : WaitLists W). count side a) lists ∙ counts_made side h.events _ _ h.order ∙ ap (λ (n : ℕ). counted_by side h.events n) (one side);
        capacity = bound;
        calls = by_view Last.under_way there (each_asks Last.under_way differ);
        all_calls = λ p at e.
            subst (λ (us : List (ActiveCall T W)). Any (λ u. (u.party ≡ p) × IsAtStage at u) us) (sym sh.under_way)
            (all_there sh.witnesses p at (ap (λ (ps : List (Party T W)). stage_at p ps) (sym sh.parties_are) ∙ says.stands p ∙ e));
        in_order = m.in_order;
        fits = m.fits;
        words = m.words;
        receives = m.receives;
        sends = m.sends;
        streams = m.streams;
        closing = m.closing;
        over = λ p earlier later c given the_end.
            let r = run.run in
            subst (λ (n : MergeMoment T W (List W)). Spent n.configuration.now) r.ends
            (ended_over p c (just_opened form []) (steps_of h.events) run.trace r.moments keeps.each
            (one_ended p earlier later c (just_opened form []) (steps_of h.events) run.trace r.moments
            (subst (λ (cs : List (Completed T)). HaveEnded p cs (just_opened form []) (steps_of h.events) run.trace r.moments) given (says.replies p))) the_end);
      }
    where
      one : (side : Side) → count side (let parts : Parts T W = opened_parts form in parts.wait_lists) ≡ 1
      one Senders = refl
      one Receivers = refl

  module _ (rest : AtRest form views cells senders receivers h) where
    idle : Last.under_way ≡ []
    idle =
        let m = at_last in let run = keeps.is in
        no_calls (parts_of cells h.listening senders receivers) run.parties Last m.shows (nobody run.parties (λ p. says.stands p ∙ rest p))

    free : (P : ActiveCall T W → Type 0) → Each P Last.under_way
    free P = subst (λ (us : List (ActiveCall T W)). Each P us) (sym idle) tt

    busy : (P : ActiveCall T W → Type 0) → Any P Last.under_way → ⊥
    busy P h = subst (λ (us : List (ActiveCall T W)). Any P us) idle h

    held : Last.now.queue.items ≡ items_in cells
    held = let now = moment_says in let words = now.words in words.at_rest (free _)

    listed : (line : WaitList) → (listeners line Last.now.wait_lists) ≡ h.listening line
    listed line = let now = moment_says in ap (λ (a : WaitLists W). listeners line a) now.lists ∙ by line where
      by : (line : WaitList) → listeners line (let parts = parts_of cells h.listening senders receivers in parts.wait_lists) ≡ h.listening line
      by Sends = refl
      by Receives = refl
      by Streams = refl
      by Closings = refl

    waits : (line : WaitList) (key : Key) → IsIn key (let l = h.listening line in l.waiting) → Waits line key Last.now
    waits line key w = subst (λ (l : Listeners W). IsIn key l.waiting) (sym (listed line)) w

    open_there : (line : WaitList) (key : Key) → IsIn key (let l = h.listening line in l.waiting) → closed_in cells ≡ false
    open_there line key w = by (closed_in cells) refl where
      by : (b : Bool) → closed_in cells ≡ b → closed_in cells ≡ false
      by false e = e
      by true e = let now = moment_says in let words = now.words in absurd (busy _ (now.closing line key (sym words.flag ∙ e) (waits line key w) (free _)))

    pub rest_says : RestSays form views cells senders receivers h says
    rest_says = let now = moment_says in let words = now.words in record {
      nobody = idle;
      account = sym now.in_order ∙ ap (λ (ms : List T). Last.gone ++ ms) held;
      receives = λ key w.
          let enough = now.receives key (waits Receives key w) (free _) in
          let here = subst (λ (us : List (ActiveCall T W)). length (items_in cells) ≤ length (let l = h.listening Receives in l.told) + total counts_for_receives us) idle
          (subst (λ (l : Listeners W). length (items_in cells) ≤ length l.told + total counts_for_receives Last.under_way) (listed Receives)
          (subst (λ (ms : List T). length ms ≤ length (listeners Receives Last.now.wait_lists).told + total counts_for_receives Last.under_way) held enough)) in
          omega (arith, here);
      sends = λ key w. ⊎_elim (λ shut. absurd (true≢false (sym shut ∙ sym words.flag ∙ open_there Sends key w))) (λ few.
          subst (λ (n : ℕ). HasPlaces (capacity_of form) n) (add-zero _)
          (subst (λ (us : List (ActiveCall T W)). HasPlaces (capacity_of form) (length (items_in cells) + length (let l = h.listening Sends in l.told) + total counts_for_sends us)) idle
          (subst (λ (l : Listeners W). HasPlaces (capacity_of form) (length (items_in cells) + length l.told + total counts_for_sends Last.under_way)) (listed Sends)
          (subst (λ (ms : List T). HasPlaces (capacity_of form) (length ms + length (listeners Sends Last.now.wait_lists).told + total counts_for_sends Last.under_way)) held
          (subst (λ (c : Option ℕ). HasPlaces c (length Last.now.queue.items + length (listeners Sends Last.now.wait_lists).told + total counts_for_sends Last.under_way)) bound few)))))
          (now.sends key (waits Sends key w) (free _));
      streams = λ key w. ⊎_elim (λ e. sym held ∙ e) (λ any. absurd (busy _ any)) (now.streams key (waits Streams key w) (free _));
      closing = open_there;
    }

pub each_moment_is_said : (T W : Type 0) → EachMomentIsSaid T W
each_moment_is_said T W = moment_says

pub nobody_is_missed_at_rest : (T W : Type 0) → NobodyIsMissedAtRest T W
nobody_is_missed_at_rest T W = rest_says
