-- From the opening on, each moment of a run accounts for its messages.
use Rattle.std.proofs.Common.{◌≡◌, ℕ, ◌==◌, Bool, true, false, List, [], ◌∷◌, ◌++◌, map, if◌then◌else◌, refl, sym, ap, ◌∙◌, subst, eq-eqb, ne_eqb, append_assoc, append-nil}
use Rattle.std.specs.Prelude.{Option, None, Some, IfSome}
use native.Mathlib.Decide.{ℕ_discrete}
use Rattle.concurrent_queue.specs.Capacity.{capacity_of}
use Rattle.channel_calls.specs.declared.ask.ChannelAsk.{ChannelAsk}
use Rattle.channel_calls.specs.declared.reply.Reply.{Reply}
use Rattle.channel_calls.specs.declared.stage.Returned.{Returned}
use Rattle.channel_calls.specs.declared.whole.Completed.{Completed}
use Rattle.channel_steps.specs.Configuration.{ActiveCall, brought, gone_by, sees, unless_ended}
use Rattle.channel_steps.specs.Run.{EachStep, call_begun, end_of, new_configuration}
use Rattle.channel_steps.specs.declared.party.Entry.{Entry}
use Rattle.channel_steps.specs.every_run.Bridge.{Act, Event, begins, does, Happening, MergeMoment, given_by, given_to, just_opened, step_of, steps_of}
use Rattle.channel_steps.specs.every_run.BridgeHeadline.{MergeStepSays, MergeWorkSays}
use Rattle.channel_steps.specs.every_run.EndSays.{EndSays}
use Rattle.channel_steps.specs.every_run.Ends.{Each}
use Rattle.channel_steps.specs.every_run.Marked.{brought_by}
use Rattle.channel_history.specs.Accounts.{accepted_of, of_party, of_call, asks_in, brings_in, takes_out, IsAnswered, PartyAccount, Accounts, HistoriesAreAccounted}
use Rattle.channel_history.specs.History.{appends}
use Rattle.channel_history.specs.Party.{asks_of, standing_of}
use Rattle.channel_history.proofs.Accounting.{tagged, messages_more, party_mine, party_other, of_first, of_begun, of_stepped, restate, other_calls, begins_one, goes_on, has_ended}
use Rattle.channel_history.proofs.Asking.{asked_more, asked_by, asked_own}
use Rattle.channel_history.proofs.ByViews.{AllDiffer, differ_next}
use Rattle.channel_history.proofs.RowFacts.{in_marked, out_marked, row_in, row_out}

module _ {T : Type 0} where
  -- what each party was given, with this entry of a party's step
  abbrev given_more : (ℕ → List (Completed T)) → ℕ → Entry T → ℕ → List (Completed T)
  given_more given q e k = given k ++ (if q == k then given_by e.reply e.kept else [])

module _ {T W : Type 0} where
  -- ---- a beginning

  module _ (asked : ℕ → List (ChannelAsk T W)) (given : ℕ → List (Completed T)) (m n : MergeMoment T W (List W)) (q : ℕ) (ask : ChannelAsk T W) (e : Entry T)
      (says : MergeStepSays appends m (step_of q (begins ask)) e n) (acc : Accounts asked given m.configuration) where
    nothing_given : (k : ℕ) → given_more given q e k ≡ given k
    nothing_given k =
        let b = says.call in
        ap (λ (r : Option (Reply T)). given k ++ (if q == k then given_by r e.kept else [])) b.reply ∙ by (q == k)
      where
        by : (b : Bool) → given k ++ (if b then given_by None e.kept else []) ≡ given k
        by true = append-nil (given k)
        by false = append-nil (given k)

    begun_each : (k : ℕ) → Dec (q ≡ k) → PartyAccount k (asked_more asked (record { party = q; event = begins ask }) k) (given_more given q e k) (of_party k acc.accepted) (of_party k acc.taken) n.configuration.under_way
    begun_each k (no apart) =
        let b = says.call in let u : ActiveCall T W = call_begun q ask b.at_first m.configuration.now in
        restate k (asked k) _ (given k) _ (of_party k acc.accepted) _ (of_party k acc.taken) _ (m.configuration.under_way ++ u ∷ []) _
        (ap (λ (x : Bool). asked k ++ (if x then ask ∷ [] else [])) (ne_eqb q k apart) ∙ append-nil (asked k)) (nothing_given k) refl refl b.under_way
        (other_calls k (asked k) (given k) (of_party k acc.accepted) (of_party k acc.taken) m.configuration.under_way (m.configuration.under_way ++ u ∷ [])
        (of_begun asks_in k m.configuration.under_way u apart) (of_begun brings_in k m.configuration.under_way u apart) (of_begun takes_out k m.configuration.under_way u apart) (acc.each k))
    begun_each k (yes is) =
        let b = says.call in let u : ActiveCall T W = call_begun q ask b.at_first m.configuration.now in
        subst (λ (j : ℕ). PartyAccount j (asked_more asked (record { party = q; event = begins ask }) j) (given_more given q e j) (of_party j acc.accepted) (of_party j acc.taken) n.configuration.under_way) is
        (restate q (asked q ++ ask ∷ []) _ (given q) _ (of_party q acc.accepted) _ (of_party q acc.taken) _ (m.configuration.under_way ++ u ∷ []) _
        (ap (λ (x : Bool). asked q ++ (if x then ask ∷ [] else [])) (eq-eqb q q refl)) (nothing_given q) refl refl b.under_way
        (begins_one q (asked q) (given q) (of_party q acc.accepted) (of_party q acc.taken) m.configuration.under_way u b.idle refl refl refl (acc.each q)))

    begun_accounts : Accounts (λ k. asked_more asked (record { party = q; event = begins ask }) k) (λ k. given_more given q e k) n.configuration
    begun_accounts = let next = says.next.0 in record {
      accepted = acc.accepted;
      taken = acc.taken;
      all_came = acc.all_came ∙ sym next.came;
      all_left = acc.all_left ∙ sym next.gone;
      each = λ k. begun_each k (ℕ_discrete q k);
    }

  -- ---- a step

  module _ (asked : ℕ → List (ChannelAsk T W)) (given : ℕ → List (Completed T)) (m n : MergeMoment T W (List W)) (q : ℕ) (e : Entry T) (names : List W)
      (w : MergeWorkSays appends m q e n names) (o : Act T W) (differ : AllDiffer m.configuration.under_way) (acc : Accounts asked given m.configuration) where
    abbrev Ins : List T
    Ins = brought_by e.mark (brought w.call.ask)

    abbrev Outs : List T
    Outs = gone_by e.mark m.configuration.now.queue.items

    abbrev Was : List (ActiveCall T W)
    Was = w.before ++ (w.call ∷ w.behind)

    abbrev Left : Option (Reply T) → List (ActiveCall T W)
    Left r = map (sees n.configuration.now) w.before ++ (unless_ended w.after r ++ map (sees n.configuration.now) w.behind)

    there : (k : ℕ) → PartyAccount k (asked k) (given k) (of_party k acc.accepted) (of_party k acc.taken) Was
    there k = subst (λ (us : List (ActiveCall T W)). PartyAccount k (asked k) (given k) (of_party k acc.accepted) (of_party k acc.taken) us) w.under_way (acc.each k)

    same_party : w.after.party ≡ w.call.party
    same_party = ap (λ (u : ActiveCall T W). u.party) w.is

    same_ask : w.after.ask ≡ w.call.ask
    same_ask = ap (λ (u : ActiveCall T W). u.ask) w.is

    brings : brings_in w.after ≡ brings_in w.call ++ Ins
    brings = ap (λ (u : ActiveCall T W). brings_in u) w.is ∙ in_marked (brought w.call.ask) w.call.marks e.mark m.configuration.now w.call.seen

    takes : takes_out w.after ≡ takes_out w.call ++ Outs
    takes = ap (λ (u : ActiveCall T W). takes_out u) w.is ∙ out_marked w.call.marks e.mark m.configuration.now w.call.seen

    nothing_asked : (k : ℕ) → asked_more asked (record { party = q; event = does o }) k ≡ asked k
    nothing_asked k = by (q == k) where
      by : (b : Bool) → asked k ++ (if b then asks_of {T = T} {W = W} (does o ∷ []) else []) ≡ asked k
      by true = append-nil (asked k)
      by false = append-nil (asked k)

    abbrev Now : ℕ → Type 0
    Now k = PartyAccount k (asked_more asked (record { party = q; event = does o }) k) (given_more given q e k) (of_party k (acc.accepted ++ tagged q Ins)) (of_party k (acc.taken ++ tagged q Outs)) n.configuration.under_way

    step_other : (k : ℕ) → (q ≡ k → ⊥) → Now k
    step_other k apart =
        let not_his : w.call.party ≡ k → ⊥ = (λ f. apart (sym w.party ∙ f)) in
        restate k (asked k) _ (given k) _ (of_party k acc.accepted) _ (of_party k acc.taken) _ (Left e.reply) _
        (nothing_asked k) (ap (λ (x : Bool). given k ++ (if x then given_by e.reply e.kept else [])) (ne_eqb q k apart) ∙ append-nil (given k))
        (party_other acc.accepted q k Ins apart) (party_other acc.taken q k Outs apart) w.goes_on
        (other_calls k (asked k) (given k) (of_party k acc.accepted) (of_party k acc.taken) Was (Left e.reply)
        (of_stepped asks_in (λ c u. refl) n.configuration.now k w.before w.call w.after e.reply w.behind not_his same_party)
        (of_stepped brings_in (λ c u. refl) n.configuration.now k w.before w.call w.after e.reply w.behind not_his same_party)
        (of_stepped takes_out (λ c u. refl) n.configuration.now k w.before w.call w.after e.reply w.behind not_his same_party)
        (there k))

    abbrev NowWith : Option (Reply T) → Type 0
    NowWith r = PartyAccount q (asked q) (given q ++ given_by r e.kept) (of_party q acc.accepted ++ Ins) (of_party q acc.taken ++ Outs) (Left r)

    step_mine : (r : Option (Reply T)) → e.reply ≡ r → NowWith r
    step_mine None is =
        restate q (asked q) _ (given q) _ (of_party q acc.accepted ++ Ins) _ (of_party q acc.taken ++ Outs) _ (Left None) _ refl (append-nil (given q)) refl refl refl
        (goes_on q n.configuration.now w.before w.call w.after w.behind (subst (λ (us : List (ActiveCall T W)). AllDiffer us) w.under_way differ) w.party same_party
        (asked q) (given q) (of_party q acc.accepted) (of_party q acc.taken) Ins Outs same_ask brings takes (there q))
    step_mine (Some r) is =
        let work = w.work in
        let end : EndSays w.after r e.kept = subst (λ (x : Option (Reply T)). IfSome x (λ y. EndSays w.after y e.kept)) is work.ends in
        let met = end.row in
        let x : Completed T = record { reply = r; kept = end.kept } in
        restate q (asked q) _ (given q ++ x ∷ []) _ (of_party q acc.accepted ++ Ins) _ (of_party q acc.taken ++ Outs) _ (Left (Some r)) _ refl
        (ap (λ (k : Option (Returned T)). given q ++ given_by (Some r) k) end.leaves) refl refl refl
        (has_ended q n.configuration.now w.before w.call w.after w.behind (subst (λ (us : List (ActiveCall T W)). AllDiffer us) w.under_way differ) w.party same_party
        (asked q) (given q) (of_party q acc.accepted) (of_party q acc.taken) Ins Outs same_ask brings takes (there q) x
        (subst (λ (a : ChannelAsk T W). IsAnswered a x) same_ask (w.after.marks, w.after.seen, met, end.keeps))
        (row_in w.after.ask w.after.marks met.1 r met.3 ∙ ap (λ (a : ChannelAsk T W). accepted_of a r) same_ask)
        (row_out w.after.ask w.after.marks met.1 r met.3))

    step_each : (k : ℕ) → Dec (q ≡ k) → Now k
    step_each k (no apart) = step_other k apart
    step_each k (yes is) =
        subst Now is
        (restate q (asked q) _ (given q ++ given_by e.reply e.kept) _ (of_party q acc.accepted ++ Ins) _ (of_party q acc.taken ++ Outs) _ (Left e.reply) _
        (nothing_asked q) (ap (λ (x : Bool). given q ++ (if x then given_by e.reply e.kept else [])) (eq-eqb q q refl))
        (party_mine acc.accepted q Ins) (party_mine acc.taken q Outs) w.goes_on (step_mine e.reply refl))

    step_accounts : Accounts (λ k. asked_more asked (record { party = q; event = does o }) k) (λ k. given_more given q e k) n.configuration
    step_accounts = let work = w.work in let add = work.accounts in record {
      accepted = acc.accepted ++ tagged q Ins;
      taken = acc.taken ++ tagged q Outs;
      all_came = messages_more acc.accepted q Ins ∙ ap (λ (ms : List T). ms ++ Ins) acc.all_came ∙ sym add.came;
      all_left = messages_more acc.taken q Outs ∙ ap (λ (ms : List T). ms ++ Outs) acc.all_left ∙ sym add.gone;
      each = λ k. step_each k (ℕ_discrete q k);
    }

  -- ---- a run

  account_next : (asked : ℕ → List (ChannelAsk T W)) (given : ℕ → List (Completed T)) (m : MergeMoment T W (List W)) (q : ℕ) (x : Event T W) (e : Entry T) (n : MergeMoment T W (List W))
      → MergeStepSays appends m (step_of q x) e n → AllDiffer m.configuration.under_way → Accounts asked given m.configuration
      → Accounts (λ k. asked_more asked (record { party = q; event = x }) k) (λ k. given_more given q e k) n.configuration
  account_next asked given m q (begins ask) e n says differ acc = begun_accounts asked given m n q ask e says acc
  account_next asked given m q (does o) e n says differ acc = step_accounts asked given m n q e says.names says.call o differ acc

  abbrev pub given_all : (ℕ → List (Completed T)) → List (Happening T W) → List (Entry T) → ℕ → List (Completed T)
  given_all given (x ∷ xs) (e ∷ es) k = given_all (given_more given x.party e) xs es k
  given_all given xs es k = given k

  pub given_own : (given : ℕ → List (Completed T)) (xs : List (Happening T W)) (es : List (Entry T)) (k : ℕ) → given_all given xs es k ≡ given k ++ given_to k xs es
  given_own given [] es k = sym (append-nil (given k))
  given_own given (x ∷ xs) [] k = sym (append-nil (given k))
  given_own given (x ∷ xs) (e ∷ es) k =
      given_own (given_more given x.party e) xs es k ∙ append_assoc (given k) _ (given_to k xs es) ∙ ap (λ (l : List (Completed T)). given k ++ l) (by (x.party == k))
    where
      by : (b : Bool) → (if b then given_by e.reply e.kept else []) ++ given_to k xs es ≡ (if b then given_by e.reply e.kept ++ given_to k xs es else given_to k xs es)
      by true = refl
      by false = refl

  pub accounts_last : (asked : ℕ → List (ChannelAsk T W)) (given : ℕ → List (Completed T)) (m : MergeMoment T W (List W)) (events : List (Happening T W)) (es : List (Entry T)) (ns : List (MergeMoment T W (List W)))
      → EachStep (MergeStepSays appends) m (steps_of events) es ns → AllDiffer m.configuration.under_way → Accounts asked given m.configuration
      → Accounts (λ k. asked_by asked events k) (λ k. given_all given events es k) (end_of m ns).configuration
  accounts_last asked given m [] [] [] h differ acc = acc
  accounts_last asked given m (x ∷ xs) (e ∷ es) (n ∷ ns) h differ acc =
      accounts_last (asked_more asked x) (given_more given x.party e) n xs es ns h.1 (differ_next appends m (step_of x.party x.event) e n h.0 differ)
      (account_next asked given m x.party x.event e n h.0 differ acc)
  accounts_last asked given m x y ns h differ acc = absurd h

  opened : (cap : Option ℕ) → Accounts {T = T} {W = W} (λ k. []) (λ k. []) (new_configuration cap)
  opened cap = record {
    accepted = [];
    taken = [];
    all_came = refl;
    all_left = refl;
    each = λ p. record { calls = []; asked_so = refl; given_so = refl; answered = tt; accepted_so = refl; taken_so = refl };
  }

pub histories_are_accounted : (T W : Type 0) → HistoriesAreAccounted T W
histories_are_accounted T W form views cells senders receivers h says =
    let keeps = says.keeps in let is = keeps.is in let r = is.run in
    let end : Accounts (λ k. asked_by (λ q. []) h.events k) (λ k. given_all (λ q. []) h.events is.trace k) is.configuration =
    subst (λ (m : MergeMoment T W (List W)). Accounts (λ k. asked_by (λ q. []) h.events k) (λ k. given_all (λ q. []) h.events is.trace k) m.configuration) r.ends
    (accounts_last (λ q. []) (λ q. []) (just_opened form []) h.events is.trace r.moments keeps.each tt (opened (capacity_of form))) in
    record {
      accepted = end.accepted;
      taken = end.taken;
      all_came = end.all_came;
      all_left = end.all_left;
      each = λ p.
          let mine = h.each p in
          restate p _ (standing_of views p).asked _ (standing_of views p).given (of_party p end.accepted) _ (of_party p end.taken) _ is.configuration.under_way _
          (mine.asked ∙ sym (asked_own (λ q. []) h.events p)) (sym (is.answers p) ∙ sym (given_own (λ q. []) h.events is.trace p)) refl refl refl (end.each p);
    }

-- ---- what a call under way asks

module _ {T W : Type 0} where
  behind_first : (x : ActiveCall T W) (xs ys : List (ActiveCall T W)) → Each (λ v. v.party ≡ x.party → ⊥) ys → Each (λ u. of_call asks_in u.party xs ≡ u.ask ∷ []) ys
      → Each (λ u. of_call asks_in u.party (x ∷ xs) ≡ u.ask ∷ []) ys
  behind_first x xs [] n h = tt
  behind_first x xs (y ∷ ys) n h =
      (ap (λ (b : Bool). if b then asks_in x else of_call asks_in y.party xs) (ne_eqb x.party y.party (λ e. n.0 (sym e))) ∙ h.0, behind_first x xs ys n.1 h.1)

  -- it is the only one of its party
  pub each_asks : (us : List (ActiveCall T W)) → AllDiffer us → Each (λ u. of_call asks_in u.party us ≡ u.ask ∷ []) us
  each_asks [] d = tt
  each_asks (x ∷ xs) d = (of_first asks_in x.party x xs refl, behind_first x xs xs d.0 (each_asks xs d.1))
