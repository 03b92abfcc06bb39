-- Each message that came in or left is a party's, by what its calls asked and gave.
use Rattle.std.proofs.Common.{◌≡◌, ℕ, ◌==◌, Bool, true, false, List, [], ◌∷◌, ◌++◌, map, if◌then◌else◌, refl, sym, ap, ◌∙◌, subst, eq-eqb, ne_eqb, append_assoc, append-nil}
use Rattle.std.specs.Prelude.{Option, None, Some}
use Rattle.channel_calls.specs.Moves.{Channel}
use Rattle.channel_calls.specs.declared.ask.ChannelAsk.{ChannelAsk}
use Rattle.channel_calls.specs.declared.reply.Reply.{Reply}
use Rattle.channel_calls.specs.declared.whole.Completed.{Completed}
use Rattle.channel_steps.specs.Configuration.{ActiveCall, sees, unless_ended}
use Rattle.channel_steps.specs.every_run.Ends.{Each}
use Rattle.channel_history.specs.Accounts.{accepted_of, taken_of, messages, of_party, all_accepted, all_taken, asked_in, given_in, of_call, asks_in, brings_in, takes_out, IsAnswered, PartyAccount}
use Rattle.channel_history.proofs.ByViews.{AllDiffer}
use Rattle.channel_history.proofs.Together.{each_on}

-- ---- messages with their parties

module _ {T : Type 0} where
  abbrev pub tagged : ℕ → List T → List (ℕ × T)
  tagged p [] = []
  tagged p (v ∷ vs) = (p, v) ∷ tagged p vs

  pub messages_more : (xs : List (ℕ × T)) (p : ℕ) (vs : List T) → messages (xs ++ tagged p vs) ≡ messages xs ++ vs
  messages_more [] p [] = refl
  messages_more [] p (v ∷ vs) = ap (λ (ms : List T). v ∷ ms) (messages_more [] p vs)
  messages_more (x ∷ xs) p vs = ap (λ (ms : List T). x.1 ∷ ms) (messages_more xs p vs)

  if_more : (b : Bool) (v : T) (l m : List T) → (if b then v ∷ (l ++ m) else (l ++ m)) ≡ (if b then v ∷ l else l) ++ m
  if_more true v l m = refl
  if_more false v l m = refl

  pub party_mine : (xs : List (ℕ × T)) (p : ℕ) (vs : List T) → of_party p (xs ++ tagged p vs) ≡ of_party p xs ++ vs
  party_mine [] p [] = refl
  party_mine [] p (v ∷ vs) =
      ap (λ (b : Bool). if b then v ∷ of_party p (tagged p vs) else of_party p (tagged p vs)) (eq-eqb p p refl) ∙ ap (λ (ms : List T). v ∷ ms) (party_mine [] p vs)
  party_mine (x ∷ xs) p vs =
      ap (λ (ms : List T). if x.0 == p then x.1 ∷ ms else ms) (party_mine xs p vs) ∙ if_more (x.0 == p) x.1 (of_party p xs) vs

  pub party_other : (xs : List (ℕ × T)) (p q : ℕ) (vs : List T) → (p ≡ q → ⊥) → of_party q (xs ++ tagged p vs) ≡ of_party q xs
  party_other [] p q [] n = refl
  party_other [] p q (v ∷ vs) n =
      ap (λ (b : Bool). if b then v ∷ of_party q (tagged p vs) else of_party q (tagged p vs)) (ne_eqb p q n) ∙ party_other [] p q vs n
  party_other (x ∷ xs) p q vs n = ap (λ (ms : List T). if x.0 == q then x.1 ∷ ms else ms) (party_other xs p q vs n)

-- ---- a call more that has ended

module _ {T W : Type 0} where
  accepted_more : (cs : List (ChannelAsk T W × Completed T)) (c : ChannelAsk T W × Completed T) → all_accepted (cs ++ c ∷ []) ≡ all_accepted cs ++ accepted_of c.0 (c.1).reply
  accepted_more [] c = append-nil (accepted_of c.0 (c.1).reply)
  accepted_more (x ∷ xs) c =
      ap (λ (ms : List T). accepted_of x.0 (x.1).reply ++ ms) (accepted_more xs c) ∙ sym (append_assoc (accepted_of x.0 (x.1).reply) (all_accepted xs) (accepted_of c.0 (c.1).reply))

  taken_more : (cs : List (ChannelAsk T W × Completed T)) (c : ChannelAsk T W × Completed T) → all_taken (cs ++ c ∷ []) ≡ all_taken cs ++ taken_of (c.1).reply
  taken_more [] c = append-nil (taken_of (c.1).reply)
  taken_more (x ∷ xs) c =
      ap (λ (ms : List T). taken_of (x.1).reply ++ ms) (taken_more xs c) ∙ sym (append_assoc (taken_of (x.1).reply) (all_taken xs) (taken_of (c.1).reply))

  asked_in_more : (cs : List (ChannelAsk T W × Completed T)) (c : ChannelAsk T W × Completed T) → asked_in (cs ++ c ∷ []) ≡ asked_in cs ++ c.0 ∷ []
  asked_in_more [] c = refl
  asked_in_more (x ∷ xs) c = ap (λ (l : List (ChannelAsk T W)). x.0 ∷ l) (asked_in_more xs c)

  given_in_more : (cs : List (ChannelAsk T W × Completed T)) (c : ChannelAsk T W × Completed T) → given_in (cs ++ c ∷ []) ≡ given_in cs ++ c.1 ∷ []
  given_in_more [] c = refl
  given_in_more (x ∷ xs) c = ap (λ (l : List (Completed T)). x.1 ∷ l) (given_in_more xs c)

-- ---- of a party's call under way

module _ {T W X : Type 0} (f : ActiveCall T W → List X) where
  abbrev Of : ℕ → List (ActiveCall T W) → List X
  Of p us = of_call f p us

  of_none : (p : ℕ) (us : List (ActiveCall T W)) → Each (λ u. u.party ≡ p → ⊥) us → Of p us ≡ []
  of_none p [] h = refl
  of_none p (u ∷ us) h = ap (λ (b : Bool). if b then f u else Of p us) (ne_eqb u.party p h.0) ∙ of_none p us h.1

  -- behind others that are not its own
  of_behind : (p : ℕ) (us vs : List (ActiveCall T W)) → Each (λ u. u.party ≡ p → ⊥) us → Of p (us ++ vs) ≡ Of p vs
  of_behind p [] vs h = refl
  of_behind p (u ∷ us) vs h = ap (λ (b : Bool). if b then f u else Of p (us ++ vs)) (ne_eqb u.party p h.0) ∙ of_behind p us vs h.1

  pub of_first : (p : ℕ) (u : ActiveCall T W) (us : List (ActiveCall T W)) → u.party ≡ p → Of p (u ∷ us) ≡ f u
  of_first p u us e = ap (λ (b : Bool). if b then f u else Of p us) (eq-eqb u.party p e)

  -- another's beginning
  pub of_begun : (p : ℕ) (us : List (ActiveCall T W)) (u : ActiveCall T W) → (u.party ≡ p → ⊥) → Of p (us ++ u ∷ []) ≡ Of p us
  of_begun p [] u n = ap (λ (b : Bool). if b then f u else []) (ne_eqb u.party p n)
  of_begun p (x ∷ xs) u n = ap (λ (l : List X). if x.party == p then f x else l) (of_begun p xs u n)

  module _ (same : (c : Channel T W) (u : ActiveCall T W) → f (sees c u) ≡ f u) where
    of_seen : (c : Channel T W) (p : ℕ) (us : List (ActiveCall T W)) → Of p (map (sees c) us) ≡ Of p us
    of_seen c p [] = refl
    of_seen c p (u ∷ us) = ap (λ (l : List X). if u.party == p then l else Of p (map (sees c) us)) (same c u) ∙ ap (λ (l : List X). if u.party == p then f u else l) (of_seen c p us)

    -- another's step
    pub of_stepped : (c : Channel T W) (p : ℕ) (before : List (ActiveCall T W)) (u v : ActiveCall T W) (r : Option (Reply T)) (behind : List (ActiveCall T W)) → (u.party ≡ p → ⊥) → v.party ≡ u.party
        → Of p (map (sees c) before ++ (unless_ended v r ++ map (sees c) behind)) ≡ Of p (before ++ (u ∷ behind))
    of_stepped c p [] u v None behind n e =
        ap (λ (b : Bool). if b then f v else Of p (map (sees c) behind)) (ne_eqb v.party p (λ k. n (sym e ∙ k))) ∙ of_seen c p behind
        ∙ sym (ap (λ (b : Bool). if b then f u else Of p behind) (ne_eqb u.party p n))
    of_stepped c p [] u v (Some r) behind n e = of_seen c p behind ∙ sym (ap (λ (b : Bool). if b then f u else Of p behind) (ne_eqb u.party p n))
    of_stepped c p (x ∷ xs) u v r behind n e =
        ap (λ (l : List X). if x.party == p then l else Of p (map (sees c) xs ++ (unless_ended v r ++ map (sees c) behind))) (same c x)
        ∙ ap (λ (l : List X). if x.party == p then f x else l) (of_stepped c p xs u v r behind n e)

-- nobody else in a list is of this party
module _ {T W : Type 0} where
  none_seen : (p : ℕ) (c : Channel T W) (us : List (ActiveCall T W)) → Each (λ u. u.party ≡ p → ⊥) us → Each (λ u. u.party ≡ p → ⊥) (map (sees c) us)
  none_seen p c [] h = tt
  none_seen p c (u ∷ us) h = (h.0, none_seen p c us h.1)

  none_before : (before : List (ActiveCall T W)) (u : ActiveCall T W) (behind : List (ActiveCall T W)) → AllDiffer (before ++ (u ∷ behind)) → Each (λ x. x.party ≡ u.party → ⊥) before
  none_before [] u behind h = tt
  none_before (x ∷ xs) u behind h = ((λ e. at xs h.0 (sym e)), none_before xs u behind h.1) where
    at : (ys : List (ActiveCall T W)) → Each (λ y. y.party ≡ x.party → ⊥) (ys ++ (u ∷ behind)) → u.party ≡ x.party → ⊥
    at [] k = k.0
    at (y ∷ ys) k = at ys k.1

  none_behind : (before : List (ActiveCall T W)) (u : ActiveCall T W) (behind : List (ActiveCall T W)) → AllDiffer (before ++ (u ∷ behind)) → Each (λ x. x.party ≡ u.party → ⊥) behind
  none_behind [] u behind h = h.0
  none_behind (x ∷ xs) u behind h = none_behind xs u behind h.1

-- ---- a party's account

module _ {T W : Type 0} (p : ℕ) where
  pub restate : (asked asked' : List (ChannelAsk T W)) (given given' : List (Completed T)) (acc acc' tak tak' : List T) (us us' : List (ActiveCall T W))
      → asked' ≡ asked → given' ≡ given → acc' ≡ acc → tak' ≡ tak → us' ≡ us → PartyAccount p asked given acc tak us → PartyAccount p asked' given' acc' tak' us'
  restate asked asked' given given' acc acc' tak tak' us us' e f g h i a = record {
    calls = a.calls;
    asked_so = e ∙ a.asked_so ∙ ap (λ (vs : List (ActiveCall T W)). asked_in a.calls ++ of_call asks_in p vs) (sym i);
    given_so = f ∙ a.given_so;
    answered = a.answered;
    accepted_so = g ∙ a.accepted_so ∙ ap (λ (vs : List (ActiveCall T W)). all_accepted a.calls ++ of_call brings_in p vs) (sym i);
    taken_so = h ∙ a.taken_so ∙ ap (λ (vs : List (ActiveCall T W)). all_taken a.calls ++ of_call takes_out p vs) (sym i);
  }

  -- its call under way has changed, and nothing else of it
  pub other_calls : (asked : List (ChannelAsk T W)) (given : List (Completed T)) (acc tak : List T) (us us' : List (ActiveCall T W))
      → of_call asks_in p us' ≡ of_call asks_in p us → of_call brings_in p us' ≡ of_call brings_in p us → of_call takes_out p us' ≡ of_call takes_out p us
      → PartyAccount p asked given acc tak us → PartyAccount p asked given acc tak us'
  other_calls asked given acc tak us us' e f g a = record {
    calls = a.calls;
    asked_so = a.asked_so ∙ ap (λ (l : List (ChannelAsk T W)). asked_in a.calls ++ l) (sym e);
    given_so = a.given_so;
    answered = a.answered;
    accepted_so = a.accepted_so ∙ ap (λ (l : List T). all_accepted a.calls ++ l) (sym f);
    taken_so = a.taken_so ∙ ap (λ (l : List T). all_taken a.calls ++ l) (sym g);
  }

  -- it begins a call
  pub begins_one : (asked : List (ChannelAsk T W)) (given : List (Completed T)) (acc tak : List T) (us : List (ActiveCall T W)) (u : ActiveCall T W)
      → Each (λ x. x.party ≡ p → ⊥) us → u.party ≡ p → brings_in u ≡ [] → takes_out u ≡ []
      → PartyAccount p asked given acc tak us → PartyAccount p (asked ++ u.ask ∷ []) given acc tak (us ++ u ∷ [])
  begins_one asked given acc tak us u none mine no_in no_out a = record {
    calls = a.calls;
    asked_so = ap (λ (l : List (ChannelAsk T W)). l ++ u.ask ∷ []) (a.asked_so ∙ ap (λ (l : List (ChannelAsk T W)). asked_in a.calls ++ l) (of_none asks_in p us none) ∙ append-nil (asked_in a.calls))
        ∙ ap (λ (l : List (ChannelAsk T W)). asked_in a.calls ++ l) (sym (of_behind asks_in p us (u ∷ []) none ∙ of_first asks_in p u [] mine));
    given_so = a.given_so;
    answered = a.answered;
    accepted_so = a.accepted_so
        ∙ ap (λ (l : List T). all_accepted a.calls ++ l) (of_none brings_in p us none ∙ sym no_in ∙ sym (of_behind brings_in p us (u ∷ []) none ∙ of_first brings_in p u [] mine));
    taken_so = a.taken_so
        ∙ ap (λ (l : List T). all_taken a.calls ++ l) (of_none takes_out p us none ∙ sym no_out ∙ sym (of_behind takes_out p us (u ∷ []) none ∙ of_first takes_out p u [] mine));
  }

  -- its call makes a step
  module _ (c : Channel T W) (before : List (ActiveCall T W)) (u v : ActiveCall T W) (behind : List (ActiveCall T W)) (differ : AllDiffer (before ++ (u ∷ behind))) (whose : u.party ≡ p) (mine : v.party ≡ u.party) where
    was : {X : Type 0} (f : ActiveCall T W → List X) → of_call f p (before ++ (u ∷ behind)) ≡ f u
    was f =
        of_behind f p before (u ∷ behind) (subst (λ (k : ℕ). Each (λ x. x.party ≡ k → ⊥) before) whose (none_before before u behind differ)) ∙ of_first f p u behind whose

    goes : {X : Type 0} (f : ActiveCall T W → List X) → of_call f p (map (sees c) before ++ (v ∷ map (sees c) behind)) ≡ f v
    goes f =
        of_behind f p (map (sees c) before) (v ∷ map (sees c) behind)
        (none_seen p c before (subst (λ (k : ℕ). Each (λ x. x.party ≡ k → ⊥) before) whose (none_before before u behind differ))) ∙ of_first f p v (map (sees c) behind) (mine ∙ whose)

    ended : {X : Type 0} (f : ActiveCall T W → List X) → of_call f p (map (sees c) before ++ map (sees c) behind) ≡ []
    ended f =
        of_behind f p (map (sees c) before) (map (sees c) behind)
        (none_seen p c before (subst (λ (k : ℕ). Each (λ x. x.party ≡ k → ⊥) before) whose (none_before before u behind differ)))
        ∙ of_none f p (map (sees c) behind) (none_seen p c behind (subst (λ (k : ℕ). Each (λ x. x.party ≡ k → ⊥) behind) whose (none_behind before u behind differ)))

    module _ (asked : List (ChannelAsk T W)) (given : List (Completed T)) (acc tak ins outs : List T) (same : v.ask ≡ u.ask) (brings : brings_in v ≡ brings_in u ++ ins) (takes : takes_out v ≡ takes_out u ++ outs)
        (a : PartyAccount p asked given acc tak (before ++ (u ∷ behind))) where
      acc_now : acc ++ ins ≡ all_accepted a.calls ++ brings_in v
      acc_now =
          ap (λ (l : List T). l ++ ins) (a.accepted_so ∙ ap (λ (l : List T). all_accepted a.calls ++ l) (was brings_in)) ∙ append_assoc (all_accepted a.calls) (brings_in u) ins
          ∙ ap (λ (l : List T). all_accepted a.calls ++ l) (sym brings)

      tak_now : tak ++ outs ≡ all_taken a.calls ++ takes_out v
      tak_now =
          ap (λ (l : List T). l ++ outs) (a.taken_so ∙ ap (λ (l : List T). all_taken a.calls ++ l) (was takes_out)) ∙ append_assoc (all_taken a.calls) (takes_out u) outs
          ∙ ap (λ (l : List T). all_taken a.calls ++ l) (sym takes)

      pub goes_on : PartyAccount p asked given (acc ++ ins) (tak ++ outs) (map (sees c) before ++ (v ∷ map (sees c) behind))
      goes_on = record {
        calls = a.calls;
        asked_so = a.asked_so
            ∙ ap (λ (l : List (ChannelAsk T W)). asked_in a.calls ++ l) (was asks_in ∙ ap (λ (x : ChannelAsk T W). x ∷ []) (sym same) ∙ sym (goes asks_in));
        given_so = a.given_so;
        answered = a.answered;
        accepted_so = acc_now ∙ ap (λ (l : List T). all_accepted a.calls ++ l) (sym (goes brings_in));
        taken_so = tak_now ∙ ap (λ (l : List T). all_taken a.calls ++ l) (sym (goes takes_out));
      }

      pub has_ended : (x : Completed T) → IsAnswered u.ask x → brings_in v ≡ accepted_of u.ask x.reply → takes_out v ≡ taken_of x.reply
          → PartyAccount p asked (given ++ x ∷ []) (acc ++ ins) (tak ++ outs) (map (sees c) before ++ map (sees c) behind)
      has_ended x is row_brings row_takes = record {
        calls = a.calls ++ (u.ask, x) ∷ [];
        asked_so = a.asked_so ∙ ap (λ (l : List (ChannelAsk T W)). asked_in a.calls ++ l) (was asks_in) ∙ sym (asked_in_more a.calls (u.ask, x))
            ∙ sym (append-nil (asked_in (a.calls ++ (u.ask, x) ∷ []))) ∙ ap (λ (l : List (ChannelAsk T W)). asked_in (a.calls ++ (u.ask, x) ∷ []) ++ l) (sym (ended asks_in));
        given_so = ap (λ (l : List (Completed T)). l ++ x ∷ []) a.given_so ∙ sym (given_in_more a.calls (u.ask, x));
        answered = each_on (λ (c : ChannelAsk T W × Completed T). IsAnswered c.0 c.1) a.calls ((u.ask, x) ∷ []) a.answered (is, tt);
        accepted_so = acc_now ∙ ap (λ (l : List T). all_accepted a.calls ++ l) row_brings ∙ sym (accepted_more a.calls (u.ask, x))
            ∙ sym (append-nil (all_accepted (a.calls ++ (u.ask, x) ∷ []))) ∙ ap (λ (l : List T). all_accepted (a.calls ++ (u.ask, x) ∷ []) ++ l) (sym (ended brings_in));
        taken_so = tak_now ∙ ap (λ (l : List T). all_taken a.calls ++ l) row_takes ∙ sym (taken_more a.calls (u.ask, x))
            ∙ sym (append-nil (all_taken (a.calls ++ (u.ask, x) ∷ []))) ∙ ap (λ (l : List T). all_taken (a.calls ++ (u.ask, x) ∷ []) ++ l) (sym (ended takes_out));
      }
