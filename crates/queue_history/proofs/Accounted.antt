-- One history of a queue's cells accounts for each message.
use Rattle.std.proofs.Common.{◌≡◌, ◌⊎◌, inl, inr, ⊎_elim, ℕ, zero, suc, ◌+◌, ◌≤◌, ◌==◌, Bool, true, false, List, [], ◌∷◌, ◌++◌, length, map, Option, None, Some, option_to_list, if◌then◌else◌, refl, sym, ap, ◌∙◌, subst, arith, append_assoc, append-nil, length-append}
use mathlib.Core.Option as home
use lib.ListN.{get_elem?}
use Rattle.concurrent_queue.specs.Accounts.{NothingIsLost}
use Rattle.concurrent_queue.specs.Bridge.{Event, begins, does, own, steps_of, replies_to, Caller, caller_seat, asked_by, seen_asking, left_under_way, IsRunOf}
use Rattle.concurrent_queue.specs.Capacity.{capacity_of}
use Rattle.concurrent_queue.specs.Contents.{Contents, slot_at}
use Rattle.concurrent_queue.specs.Made.{new_cells}
use Rattle.concurrent_queue.specs.Queue.{message}
use Rattle.concurrent_queue.specs.Run.{Config, IsRun, IsCounted, opened_config}
use Rattle.concurrent_queue.specs.Scene.{CallUnderWay, IsBroughtBy, Reads}
use Rattle.concurrent_queue.specs.Step.{ActiveQueueCall, phases, length_in, counted_in, items_in, slot_in, Lies, Shows}
use Rattle.concurrent_queue.specs.declared.call.QueueAsk.{QueueAsk}
use Rattle.concurrent_queue.specs.declared.call.QueueEntry.{QueueEntry}
use Rattle.concurrent_queue.specs.declared.call.QueueReply.{QueueReply}
use Rattle.concurrent_queue.specs.declared.cells.QueueForm.{QueueForm}
use Rattle.concurrent_queue.specs.declared.queue_call.QueueCall.{QueueCall}
use Rattle.concurrent_queue.specs.declared.run.QueueStep.{QueueStep}
use Rattle.concurrent_queue.proofs.Callers.{itself}
use Rattle.concurrent_queue.proofs.Interface.{shows}
use Rattle.queue_history.specs.Accounted.{of_party, IsBringing, Accounts, HistoriesAreAccounted, RunsAreAccounted}
use Rattle.concurrent_queue.specs.history.History.{Walks}
use Rattle.concurrent_queue.specs.history.Runs.{fresh, moves, standing_in, standing_of, IsQueueHistory, HistoriesAreRuns}
use Rattle.concurrent_queue.specs.declared.history.party.Standing.{Standing}
use Rattle.concurrent_queue.specs.declared.history.rule.View.{View}
use Rattle.queue_history.proofs.AcceptedCount.{grown}
use Rattle.queue_history.proofs.PartyAccounts.{came, went, all_came, all_went, calls_of, Stands, same_stands, asked_in, asks_at, along, brings_at, takes_at, none_open, open_at}

past_end : {V : Type 0} (l : List V) (p : ℕ) → get_elem? l p ≡ home.none → length l ≤ p
past_end [] p e = omega arith
past_end (x ∷ xs) zero e = absurd cc
past_end (x ∷ xs) (suc p) e = (let n = past_end xs p e in omega (arith, n))

none_more : (k : ℕ) → 0 + k ≡ k
none_more k = omega arith

module _ {T : Type 0} (form : QueueForm) where
  -- ---- what a party's machine has asked

  -- a party with no call under way has as many answers as questions, and one with a call has one fewer
  abbrev pub Even : Option (QueueCall T) → ℕ → ℕ → Type 0
  Even None asked replies = asked ≡ replies
  Even (Some call) asked replies = asked ≡ replies + 1

  abbrev pub IsEven : Standing T → Type 0
  IsEven s = Even s.call (length s.asked) (length s.replies)

  one_move : (x : Event T) (s t : Standing T) → moves form s x t → (t.asked ≡ s.asked ++ asks_at x) × (IsEven s → IsEven t)
  one_move (begins a) s t h = (
    ap (λ (u : Standing T). u.asked) h.1,
    λ even. (let n : length s.asked ≡ length s.replies = subst (λ (o : Option (QueueCall T)). Even o (length s.asked) (length s.replies)) h.0 even in
        subst (λ (u : Standing T). IsEven u) (sym h.1) (length-append s.asked (a ∷ []) ∙ ap (λ (k : ℕ). k + 1) n)),
  )
  one_move (does o) s t h = (
    ap (λ (u : Standing T). u.asked) h.5 ∙ sym (append-nil s.asked),
    λ even. subst (λ (u : Standing T). IsEven u) (sym h.5) (answered h.2 (subst (λ (k : Option (QueueCall T)). Even k (length s.asked) (length s.replies)) h.3 even)),
  )
    where
      answered : (r : Option (QueueReply T)) → length s.asked ≡ length s.replies + 1 → Even (left_under_way h.1 r) (length s.asked) (length (s.replies ++ option_to_list r))
      answered None even = even ∙ ap (λ (rs : List (QueueReply T)). length rs + 1) (sym (append-nil s.replies))
      answered (Some r) even = even ∙ sym (length-append s.replies (r ∷ []))

  asked_along : (xs : List (Event T)) (s t : Standing T) → Walks moves form s xs t → (t.asked ≡ s.asked ++ asked_in xs) × (IsEven s → IsEven t)
  asked_along [] s t w = (ap (λ (u : Standing T). u.asked) w ∙ sym (append-nil s.asked), λ even. subst (λ (u : Standing T). IsEven u) (sym w) even)
  asked_along (x ∷ xs) s t w =
      let here = one_move x s w.0 w.1 in
      let rest = asked_along xs w.0 t w.2 in (
        rest.0 ∙ ap (λ (l : List (QueueAsk T)). l ++ asked_in xs) here.0 ∙ append_assoc s.asked (asks_at x) (asked_in xs),
        λ even. rest.1 (here.1 even),
      )

  -- ---- the calls under way at the end

  idle_calls : (us : List (CallUnderWay T)) (asked : List (QueueAsk T)) (replies : List (QueueReply T)) (ins outs : List T) → Stands us asked replies ins outs → length asked ≡ length replies → us ≡ []
  idle_calls [] asked replies ins outs h e = refl
  idle_calls (u ∷ []) asked replies ins outs (past, is, count, i, o, b) e =
      absurd (let n : length asked ≡ length past + 1 = ap (λ (l : List (QueueAsk T)). length l) is ∙ length-append past (u.ask ∷ []) in omega (arith, n, count, e))
  idle_calls (u ∷ w ∷ us) asked replies ins outs h e = absurd h

  nobody : (us : List (CallUnderWay T)) → ((p : ℕ) → calls_of p us ≡ []) → us ≡ []
  nobody [] h = refl
  nobody (u ∷ us) h =
      absurd (let e : u ∷ calls_of u.party us ≡ [] = subst (λ (b : Bool). (if b then u ∷ calls_of u.party us else calls_of u.party us) ≡ []) (itself u.party) (h u.party) in absurd cc)

  no_callers : (callers : List (Caller T)) (us : List (CallUnderWay T)) → map seen_asking us ≡ map asked_by callers → us ≡ [] → map caller_seat callers ≡ []
  no_callers [] us e none = refl
  no_callers (x ∷ xs) us e none = absurd (let f : [] ≡ asked_by x ∷ map asked_by xs = sym (ap (λ (l : List (CallUnderWay T)). map seen_asking l) none) ∙ e in absurd cc)

  -- ---- where the messages are

  last_reads : (f : Config T) (ss : List (QueueStep T)) (es : List (QueueEntry T)) (g : Config T) → IsRun f ss es g → Reads f.chain f.cells f.scene → Reads g.chain g.cells g.scene
  last_reads f [] [] g r h = subst (λ (x : Config T). Reads x.chain x.cells x.scene) (sym r) h
  last_reads f [] (e ∷ es) g r h = absurd r
  last_reads f (s ∷ ss) [] g r h = absurd r
  last_reads f (s ∷ ss) (e ∷ es) g r h = last_reads r.0 ss es g r.3 r.2

  -- what brings a message is a call of some party
  abbrev IsCallWith : List (CallUnderWay T) → T → Type 0
  IsCallWith us v = (u : CallUnderWay T) × (before : List (CallUnderWay T)) × (behind : List (CallUnderWay T)) × (calls_of u.party us ≡ before ++ u ∷ behind) × (message u.ask ≡ v ∷ [])

  further : (w : CallUnderWay T) (us : List (CallUnderWay T)) (v : T) → IsCallWith us v → IsCallWith (w ∷ us) v
  further w us v (u, before, behind, is, brings) = test (w.party == u.party) refl
    where
      test : (b : Bool) → (w.party == u.party) ≡ b → IsCallWith (w ∷ us) v
      test true e = (u, w ∷ before, behind, rw e (ap (λ (l : List (CallUnderWay T)). w ∷ l) is), brings)
      test false e = (u, before, behind, rw e is, brings)

  who_brings : (us : List (CallUnderWay T)) (v : T) → IsBroughtBy us v → IsCallWith us v
  who_brings [] v h = absurd h
  who_brings (u ∷ us) v (inl h) = (u, [], calls_of u.party us, rw (itself u.party) refl, h.0)
  who_brings (u ∷ us) v (inr h) = further u us v (who_brings us v h)

  -- ---- a history's parties

  module _ (views : List (View T (Standing T))) (c : Contents T) (h : IsQueueHistory form views c) where
    abbrev at : ℕ → Standing T
    at p = standing_of views p

    abbrev WalksTo : ℕ → home.Option (View T (Standing T)) → Type 0
    WalksTo p o = Walks moves form fresh (own p h.events) (standing_in o)

    walked : (p : ℕ) → WalksTo p (get_elem? views p)
    walked p = here (get_elem? views p) refl
      where
        here : (o : home.Option (View T (Standing T))) → get_elem? views p ≡ o → WalksTo p o
        here (home.some v) e = h.each p v e
        here home.none e = subst (λ (es : List (Event T)). Walks moves form fresh es fresh) (sym (h.apart p (past_end views p e))) refl

    pub asked_so : (p : ℕ) → (at p).asked ≡ asked_in (own p h.events)
    asked_so p = (asked_along (own p h.events) fresh (at p) (walked p)).0

    pub even_so : (p : ℕ) → IsEven (at p)
    even_so p = (asked_along (own p h.events) fresh (at p) (walked p)).1 refl

    answered_all : (p : ℕ) → (at p).call ≡ None → length (at p).asked ≡ length (at p).replies
    answered_all p e = subst (λ (o : Option (QueueCall T)). Even o (length (at p).asked) (length (at p).replies)) e (even_so p)

    module _ (run : IsRunOf form h.events (λ p. (standing_of views p).replies) c) (counted : IsCounted form run.trace) where
      abbrev first : Config T
      first = opened_config (new_cells form) form

      abbrev last : Config T
      last = (run.ran.run counted).last

      made : IsRun first (steps_of h.events) run.trace last
      made = subst (λ (ss : List (QueueStep T)). IsRun first ss run.trace last) (sym (run.ran.first ∙ append-nil run.ran.made)) (run.ran.run counted).run

      abbrev all_in : List (ℕ × T)
      all_in = came first (steps_of h.events) run.trace last made

      abbrev all_out : List (ℕ × T)
      all_out = went first (steps_of h.events) run.trace last made

      party_stands : (p : ℕ) → Stands (calls_of p last.scene.under_way) (at p).asked (at p).replies (of_party p all_in) (of_party p all_out)
      party_stands p =
          same_stands (calls_of p last.scene.under_way)
          (asked_in (own p h.events)) (at p).asked
          (replies_to p h.events run.trace) (at p).replies
          (of_party p all_in) (of_party p all_in)
          (of_party p all_out) (of_party p all_out)
          (sym (asked_so p)) (run.answers p) refl refl
          (along p h.events run.trace first last made [] [] [] [] (refl, refl, refl))

      abbrev seats : List (ActiveQueueCall T)
      seats = map caller_seat (run.under_way counted).callers

      shown : Shows last.cells last.scene.now (phases seats)
      shown = shows last.cells last.scene.now seats (last.chain, (run.under_way counted).fits)

      resting : ((p : ℕ) → (at p).call ≡ None) → phases seats ≡ []
      resting idle =
          let none : last.scene.under_way ≡ [] = nobody last.scene.under_way (λ p. idle_calls (calls_of p last.scene.under_way) (at p).asked (at p).replies (of_party p all_in) (of_party p all_out) (party_stands p) (answered_all p (idle p))) in
          ap (λ (l : List (ActiveQueueCall T)). phases l) (no_callers (run.under_way counted).callers last.scene.under_way (run.under_way counted).under_way none)

      counts : (capacity_of form ≡ Some 1) ⊎ (counted_in c ≡ length all_in)
      counts =
          let growth = grown first (steps_of h.events) run.trace last made in
          ⊎_elim
          (λ t. inl (sym growth.0 ∙ t.0))
          (λ t. inr (ap (λ (x : Contents T). counted_in x) (sym (run.cells counted)) ∙ t.1 ∙ growth.1 ∙ none_more (length all_in)))
          shown.numbered

      bringing : (v : T) → IsBroughtBy last.scene.under_way v → (p : ℕ) × IsBringing (at p) v
      bringing v h =
          let w = who_brings last.scene.under_way v h in
          let p = w.0.party in
          let here = subst (λ (us : List (CallUnderWay T)). Stands us (at p).asked (at p).replies (of_party p all_in) (of_party p all_out)) w.3 (party_stands p) in
          (p, (w.0.ask, open_at w.1 w.2 w.0 (at p).asked (at p).replies (of_party p all_in) (of_party p all_out) here, w.4))

      read : Reads last.chain last.cells last.scene
      read = last_reads first (steps_of h.events) run.trace last made (run.ran.run counted).opened

      lying : Lies last.chain c last.scene.now.items (λ v. (p : ℕ) × IsBringing (at p) v)
      lying =
          subst (λ (x : Contents T). Lies last.chain x last.scene.now.items (λ v. (p : ℕ) × IsBringing (at p) v)) (run.cells counted)
          (record { apart = read.lies.apart; there = λ i v is. ⊎_elim (λ (t : slot_at last.cells (slot_in last.chain last.cells i) ≡ Some v). inl t) (λ t. inr (bringing v t)) (read.lies.there i v is) })

      pub accounts : NothingIsLost T → Accounts form (λ p. standing_of views p) c
      accounts lost = record {
        accepted = all_in;
        gone = all_out;
        held = last.scene.now.items;
        in_order =
            ap (λ (l : List T). l ++ last.scene.now.items) (all_went first (steps_of h.events) run.trace last made)
            ∙ lost first (steps_of h.events) run.trace last made
            ∙ sym (all_came first (steps_of h.events) run.trace last made);
        each_brought = λ p. brings_at (calls_of p last.scene.under_way) (at p).asked (at p).replies (of_party p all_in) (of_party p all_out) (party_stands p);
        each_took = λ p. takes_at (calls_of p last.scene.under_way) (at p).asked (at p).replies (of_party p all_in) (of_party p all_out) (party_stands p);
        ended = λ p e. none_open (at p).asked (at p).replies (answered_all p e);
        long = ap (λ (x : Contents T). length_in x) (sym (run.cells counted)) ∙ shown.long;
        chain = last.chain;
        lies = lying;
        counted = counts;
        at_rest = λ idle. (shown.at_rest (resting idle)).0 ∙ ap (λ (x : Contents T). items_in x) (run.cells counted);
      }

pub histories_are_accounted : (T : Type 0) → HistoriesAreRuns T → NothingIsLost T → HistoriesAreAccounted T
histories_are_accounted T runs lost form views c has h = let run = runs form views c has h in (run, λ counted. accounts form views c h run counted lost)

pub runs_are_accounted : (T : Type 0) → NothingIsLost T → RunsAreAccounted T
runs_are_accounted T lost form views c h run counted = accounts form views c h run counted lost
