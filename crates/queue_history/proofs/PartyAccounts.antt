-- What each party's calls brought and took, over a run of the queue.
use Rattle.std.proofs.Common.{◌≡◌, ℕ, ◌+◌, ◌==◌, Bool, true, false, List, [], ◌∷◌, ◌++◌, length, map, Option, None, Some, option_to_list, if◌then◌else◌, refl, sym, ap, ◌∙◌, subst, arith, append_assoc, append-nil, length-append}
use Rattle.concurrent_queue.specs.Accounts.{accepted_by, removed_by, accepted_at, accepted_over, removed_over}
use Rattle.concurrent_queue.specs.Bridge.{Event, begins, does, Happening, own, step_of, steps_of, replies_to}
use Rattle.concurrent_queue.specs.Deeds.{Deed}
use Rattle.concurrent_queue.specs.Queue.{Queue}
use Rattle.concurrent_queue.specs.Rows.{IsBegun}
use Rattle.concurrent_queue.specs.Run.{Config, Next, IsRun}
use Rattle.concurrent_queue.specs.Scene.{CallUnderWay, begun, observing, stepped, unless_ended, ContinuesAs, NotUnderWay}
use Rattle.concurrent_queue.specs.declared.call.QueueAsk.{QueueAsk}
use Rattle.concurrent_queue.specs.declared.call.QueueEntry.{QueueEntry}
use Rattle.concurrent_queue.specs.declared.call.QueueMark.{QueueMark}
use Rattle.concurrent_queue.specs.declared.call.QueueReply.{QueueReply}
use Rattle.concurrent_queue.specs.declared.run.QueueStep.{QueueStep}
use Rattle.concurrent_queue.specs.declared.run.QueueStep.TheVariants.{Begin, Step}
use Rattle.concurrent_queue.proofs.Callers.{is_same}
use Rattle.queue_history.specs.Accounted.{brought, taken, brought_by, taken_by, unanswered, MayBring, MayTake, messages, of_party, CallsAddUp}
use Rattle.queue_history.proofs.CallAccounts.{came_in, went_in, came_more, went_more, did, brings, takes, begun_first}

-- ---- lists, of which some are kept

pub apart : (m n : ℕ) → (m ≡ n → ⊥) → (m == n) ≡ false
apart m n f = test (m == n) refl
  where
    test : (b : Bool) → (m == n) ≡ b → (m == n) ≡ false
    test true e = absurd (f (is_same m n e))
    test false e = e

module _ {A : Type 0} where
  abbrev kept : Bool → A → List A → List A
  kept b x xs = if b then x ∷ xs else xs

  kept_append : (b : Bool) (x : A) (xs ys zs : List A) → xs ≡ ys ++ zs → kept b x xs ≡ kept b x ys ++ zs
  kept_append true x xs ys zs e = ap (λ (l : List A). x ∷ l) e
  kept_append false x xs ys zs e = e

  kept_map : (b : Bool) (f : A → A) (x : A) (xs ys : List A) → xs ≡ map f ys → kept b (f x) xs ≡ map f (kept b x ys)
  kept_map true f x xs ys e = ap (λ (l : List A). f x ∷ l) e
  kept_map false f x xs ys e = e

  map_append : (f : A → A) (xs ys : List A) → map f (xs ++ ys) ≡ map f xs ++ map f ys
  map_append f [] ys = refl
  map_append f (x ∷ xs) ys = ap (λ (l : List A). f x ∷ l) (map_append f xs ys)

  -- behind what was there
  on_behind : (l x y z w : List A) → l ≡ x ++ y → w ≡ y ++ z → l ++ z ≡ x ++ w
  on_behind l x y z w e f = ap (λ (m : List A). m ++ z) e ∙ append_assoc x y z ∙ ap (λ (m : List A). x ++ m) (sym f)

  behind_one : (l x y z : List A) → z ≡ x ++ y → (l ++ x) ++ y ≡ l ++ z
  behind_one l x y z e = append_assoc l x y ∙ ap (λ (m : List A). l ++ m) (sym e)

module _ {T : Type 0} where
  -- ---- the messages of a run, each with its party

  abbrev pub tagged : ℕ → List T → List (ℕ × T)
  tagged p [] = []
  tagged p (v ∷ vs) = (p, v) ∷ tagged p vs

  messages_append : (xs ys : List (ℕ × T)) → messages (xs ++ ys) ≡ messages xs ++ messages ys
  messages_append [] ys = refl
  messages_append (x ∷ xs) ys = ap (λ (l : List T). x.1 ∷ l) (messages_append xs ys)

  messages_tagged : (p : ℕ) (vs : List T) → messages (tagged p vs) ≡ vs
  messages_tagged p [] = refl
  messages_tagged p (v ∷ vs) = ap (λ (l : List T). v ∷ l) (messages_tagged p vs)

  party_append : (p : ℕ) (xs ys : List (ℕ × T)) → of_party p (xs ++ ys) ≡ of_party p xs ++ of_party p ys
  party_append p [] ys = refl
  party_append p (x ∷ xs) ys = kept_append (x.0 == p) x.1 (of_party p (xs ++ ys)) (of_party p xs) (of_party p ys) (party_append p xs ys)

  tagged_mine : (p q : ℕ) (vs : List T) → (q == p) ≡ true → of_party p (tagged q vs) ≡ vs
  tagged_mine p q [] e = refl
  tagged_mine p q (v ∷ vs) e = rw e (ap (λ (l : List T). v ∷ l) (tagged_mine p q vs e))

  tagged_other : (p q : ℕ) (vs : List T) → (q == p) ≡ false → of_party p (tagged q vs) ≡ []
  tagged_other p q [] e = refl
  tagged_other p q (v ∷ vs) e = rw e (tagged_other p q vs e)

  abbrev pub came_at : (f : Config T) (s : QueueStep T) (e : QueueEntry T) (g : Config T) → Next f s e g → List (ℕ × T)
  came_at f (Begin p a) e g n = []
  came_at f (Step p) e g n = tagged p (accepted_by e.mark n.0.mine.ask)

  abbrev party_of : QueueStep T → ℕ
  party_of (Begin p a) = p
  party_of (Step p) = p

  abbrev went_at : Config T → QueueStep T → QueueEntry T → List (ℕ × T)
  went_at f s e = tagged (party_of s) (removed_by e.mark f.scene.now.items)

  abbrev pub came : (f : Config T) (ss : List (QueueStep T)) (es : List (QueueEntry T)) (g : Config T) → IsRun f ss es g → List (ℕ × T)
  came f [] [] g r = []
  came f (s ∷ ss) (e ∷ es) g r = came_at f s e r.0 r.1 ++ came r.0 ss es g r.3
  came f _ _ g r = []

  abbrev pub went : (f : Config T) (ss : List (QueueStep T)) (es : List (QueueEntry T)) (g : Config T) → IsRun f ss es g → List (ℕ × T)
  went f [] [] g r = []
  went f (s ∷ ss) (e ∷ es) g r = went_at f s e ++ went r.0 ss es g r.3
  went f _ _ g r = []

  came_messages : (f : Config T) (s : QueueStep T) (e : QueueEntry T) (g : Config T) (n : Next f s e g) → messages (came_at f s e g n) ≡ accepted_at f s e g n
  came_messages f (Begin p a) e g n = refl
  came_messages f (Step p) e g n = messages_tagged p (accepted_by e.mark n.0.mine.ask)

  pub all_came : (f : Config T) (ss : List (QueueStep T)) (es : List (QueueEntry T)) (g : Config T) (r : IsRun f ss es g) → messages (came f ss es g r) ≡ accepted_over f ss es g r
  all_came f [] [] g r = refl
  all_came f [] (e ∷ es) g r = absurd r
  all_came f (s ∷ ss) [] g r = absurd r
  all_came f (s ∷ ss) (e ∷ es) g r =
      messages_append (came_at f s e r.0 r.1) (came r.0 ss es g r.3)
      ∙ ap (λ (l : List T). l ++ messages (came r.0 ss es g r.3)) (came_messages f s e r.0 r.1)
      ∙ ap (λ (l : List T). accepted_at f s e r.0 r.1 ++ l) (all_came r.0 ss es g r.3)

  pub all_went : (f : Config T) (ss : List (QueueStep T)) (es : List (QueueEntry T)) (g : Config T) (r : IsRun f ss es g) → messages (went f ss es g r) ≡ removed_over f ss es g r
  all_went f [] [] g r = refl
  all_went f [] (e ∷ es) g r = absurd r
  all_went f (s ∷ ss) [] g r = absurd r
  all_went f (s ∷ ss) (e ∷ es) g r =
      messages_append (went_at f s e) (went r.0 ss es g r.3)
      ∙ ap (λ (l : List T). l ++ messages (went r.0 ss es g r.3)) (messages_tagged (party_of s) (removed_by e.mark f.scene.now.items))
      ∙ ap (λ (l : List T). removed_by e.mark f.scene.now.items ++ l) (all_went r.0 ss es g r.3)

  -- ---- what calls brought and took that were answered one after another

  brought_more : (asked : List (QueueAsk T)) (replies : List (QueueReply T)) (a : QueueAsk T) (r : QueueReply T) → length asked ≡ length replies
      → brought_by (asked ++ a ∷ []) (replies ++ r ∷ []) ≡ brought_by asked replies ++ brought a r
  brought_more [] [] a r e = append-nil (brought a r)
  brought_more [] (x ∷ replies) a r e = absurd (omega (arith, e))
  brought_more (b ∷ asked) [] a r e = absurd (omega (arith, e))
  brought_more (b ∷ asked) (x ∷ replies) a r e =
      ap (λ (l : List T). brought b x ++ l) (brought_more asked replies a r (omega (arith, e))) ∙ sym (append_assoc (brought b x) (brought_by asked replies) (brought a r))

  as_long : (asked : List (QueueAsk T)) (replies : List (QueueReply T)) (a : QueueAsk T) (r : QueueReply T) → length asked ≡ length replies → length (asked ++ a ∷ []) ≡ length (replies ++ r ∷ [])
  as_long asked replies a r e = length-append asked (a ∷ []) ∙ ap (λ (n : ℕ). n + 1) e ∙ sym (length-append replies (r ∷ []))

  brought_still : (asked : List (QueueAsk T)) (replies : List (QueueReply T)) (a : QueueAsk T) → length asked ≡ length replies → brought_by (asked ++ a ∷ []) replies ≡ brought_by asked replies
  brought_still [] [] a e = refl
  brought_still [] (x ∷ replies) a e = absurd (omega (arith, e))
  brought_still (b ∷ asked) [] a e = absurd (omega (arith, e))
  brought_still (b ∷ asked) (x ∷ replies) a e = ap (λ (l : List T). brought b x ++ l) (brought_still asked replies a (omega (arith, e)))

  taken_more : (replies : List (QueueReply T)) (r : QueueReply T) → taken_by (replies ++ r ∷ []) ≡ taken_by replies ++ taken r
  taken_more [] r = append-nil (taken r)
  taken_more (x ∷ replies) r = ap (λ (l : List T). taken x ++ l) (taken_more replies r) ∙ sym (append_assoc (taken x) (taken_by replies) (taken r))

  pub calls_add_up : CallsAddUp T
  calls_add_up asked replies a r e = (brought_more asked replies a r e, taken_more replies r, as_long asked replies a r e)

  pub none_open : (asked : List (QueueAsk T)) (replies : List (QueueReply T)) → length asked ≡ length replies → unanswered asked replies ≡ []
  none_open [] [] e = refl
  none_open [] (x ∷ replies) e = refl
  none_open (b ∷ asked) [] e = absurd (omega (arith, e))
  none_open (b ∷ asked) (x ∷ replies) e = none_open asked replies (omega (arith, e))

  one_open : (asked : List (QueueAsk T)) (replies : List (QueueReply T)) (a : QueueAsk T) → length asked ≡ length replies → unanswered (asked ++ a ∷ []) replies ≡ a ∷ []
  one_open [] [] a e = refl
  one_open [] (x ∷ replies) a e = absurd (omega (arith, e))
  one_open (b ∷ asked) [] a e = absurd (omega (arith, e))
  one_open (b ∷ asked) (x ∷ replies) a e = one_open asked replies a (omega (arith, e))

  -- ---- a party among the calls under way

  abbrev pub calls_of : ℕ → List (CallUnderWay T) → List (CallUnderWay T)
  calls_of p [] = []
  calls_of p (u ∷ us) = if u.party == p then u ∷ calls_of p us else calls_of p us

  calls_append : (p : ℕ) (us ws : List (CallUnderWay T)) → calls_of p (us ++ ws) ≡ calls_of p us ++ calls_of p ws
  calls_append p [] ws = refl
  calls_append p (u ∷ us) ws = kept_append (u.party == p) u (calls_of p (us ++ ws)) (calls_of p us) (calls_of p ws) (calls_append p us ws)

  calls_seen : (p : ℕ) (q : Queue T) (us : List (CallUnderWay T)) → calls_of p (map (observing q) us) ≡ map (observing q) (calls_of p us)
  calls_seen p q [] = refl
  calls_seen p q (u ∷ us) = kept_map (u.party == p) (observing q) u (calls_of p (map (observing q) us)) (calls_of p us) (calls_seen p q us)

  calls_none : (p : ℕ) (us : List (CallUnderWay T)) → NotUnderWay p us → calls_of p us ≡ []
  calls_none p [] h = refl
  calls_none p (u ∷ us) h = rw (apart u.party p h.0) (calls_none p us h.1)

  call_mine : (p : ℕ) (u : CallUnderWay T) (us : List (CallUnderWay T)) → (u.party == p) ≡ true → calls_of p (u ∷ us) ≡ u ∷ calls_of p us
  call_mine p u us e = rw e refl

  call_other : (p : ℕ) (u : CallUnderWay T) (us : List (CallUnderWay T)) → (u.party == p) ≡ false → calls_of p (u ∷ us) ≡ calls_of p us
  call_other p u us e = rw e refl

  -- a party whose calls under way are these has asked and been answered this, and has brought and taken these messages
  abbrev pub Stands : List (CallUnderWay T) → List (QueueAsk T) → List (QueueReply T) → List T → List T → Type 0
  Stands [] asked replies ins outs = (length asked ≡ length replies) × (ins ≡ brought_by asked replies) × (outs ≡ taken_by replies)
  Stands (u ∷ []) asked replies ins outs =
      (past : List (QueueAsk T)) × (asked ≡ past ++ u.ask ∷ []) × (length past ≡ length replies) × (ins ≡ brought_by past replies ++ came_in u.ask u.marked_steps)
      × (outs ≡ taken_by replies ++ went_in u.marked_steps) × IsBegun u.ask u.marked_steps
  Stands (u ∷ w ∷ us) asked replies ins outs = ⊥

  pub same_stands : (us : List (CallUnderWay T)) (asked asked' : List (QueueAsk T)) (replies replies' : List (QueueReply T)) (ins ins' outs outs' : List T)
      → asked ≡ asked' → replies ≡ replies' → ins ≡ ins' → outs ≡ outs' → Stands us asked replies ins outs → Stands us asked' replies' ins' outs'
  same_stands us asked asked' replies replies' ins ins' outs outs' e f g k h =
      subst (λ (l : List T). Stands us asked' replies' ins' l) k
      (subst (λ (l : List T). Stands us asked' replies' l outs) g
      (subst (λ (l : List (QueueReply T)). Stands us asked' l ins outs) f
      (subst (λ (l : List (QueueAsk T)). Stands us l replies ins outs) e h)))

  seen_stands : (q : Queue T) (us : List (CallUnderWay T)) (asked : List (QueueAsk T)) (replies : List (QueueReply T)) (ins outs : List T)
      → Stands us asked replies ins outs → Stands (map (observing q) us) asked replies ins outs
  seen_stands q [] asked replies ins outs h = h
  seen_stands q (u ∷ []) asked replies ins outs h = h
  seen_stands q (u ∷ w ∷ us) asked replies ins outs h = absurd h

  -- a party has one call under way at most
  alone : (before behind : List (CallUnderWay T)) (u : CallUnderWay T) (asked : List (QueueAsk T)) (replies : List (QueueReply T)) (ins outs : List T)
      → Stands (before ++ u ∷ behind) asked replies ins outs → (before ≡ []) × (behind ≡ []) × Stands (u ∷ []) asked replies ins outs
  alone [] [] u asked replies ins outs h = (refl, refl, h)
  alone [] (w ∷ behind) u asked replies ins outs h = absurd h
  alone (w ∷ []) behind u asked replies ins outs h = absurd h
  alone (w ∷ x ∷ before) behind u asked replies ins outs h = absurd h

  -- those of a party after a step of somebody's call
  parted : (p : ℕ) (q : Queue T) (before behind us : List (CallUnderWay T))
      → calls_of p (map (observing q) before ++ (us ++ map (observing q) behind)) ≡ map (observing q) (calls_of p before) ++ (calls_of p us ++ map (observing q) (calls_of p behind))
  parted p q before behind us =
      calls_append p (map (observing q) before) (us ++ map (observing q) behind)
      ∙ ap (λ (l : List (CallUnderWay T)). l ++ calls_of p (us ++ map (observing q) behind)) (calls_seen p q before)
      ∙ ap (λ (l : List (CallUnderWay T)). map (observing q) (calls_of p before) ++ l) (calls_append p us (map (observing q) behind) ∙ ap (λ (l : List (CallUnderWay T)). calls_of p us ++ l) (calls_seen p q behind))

  around : (us us' : List (CallUnderWay T)) (q : Queue T) (before behind : List (CallUnderWay T)) → before ≡ [] → behind ≡ [] → us' ≡ us → map (observing q) before ++ (us' ++ map (observing q) behind) ≡ us
  around us us' q before behind e f g =
      ap (λ (l : List (CallUnderWay T)). map (observing q) l ++ (us' ++ map (observing q) behind)) e
      ∙ ap (λ (l : List (CallUnderWay T)). us' ++ map (observing q) l) f
      ∙ append-nil us'
      ∙ g

  left_mine : (p : ℕ) (u : CallUnderWay T) (r : Option (QueueReply T)) → (u.party == p) ≡ true → calls_of p (unless_ended u r) ≡ unless_ended u r
  left_mine p u None e = call_mine p u [] e
  left_mine p u (Some r) e = refl

  left_other : (p : ℕ) (u : CallUnderWay T) (r : Option (QueueReply T)) → (u.party == p) ≡ false → calls_of p (unless_ended u r) ≡ []
  left_other p u None e = call_other p u [] e
  left_other p u (Some r) e = refl

  -- ---- one step

  module _ (asked : List (QueueAsk T)) (replies : List (QueueReply T)) (ins outs : List T) where
    -- nothing was done
    same : (us : List (CallUnderWay T)) (a : List (QueueAsk T)) (r : List (QueueReply T)) (i o : List T) → a ≡ [] → r ≡ [] → i ≡ [] → o ≡ [] → Stands us asked replies ins outs
        → Stands us (asked ++ a) (replies ++ r) (ins ++ i) (outs ++ o)
    same us a r i o ea er ei eo h =
        same_stands us asked (asked ++ a) replies (replies ++ r) ins (ins ++ i) outs (outs ++ o)
        (sym (ap (λ (l : List (QueueAsk T)). asked ++ l) ea ∙ append-nil asked))
        (sym (ap (λ (l : List (QueueReply T)). replies ++ l) er ∙ append-nil replies))
        (sym (ap (λ (l : List T). ins ++ l) ei ∙ append-nil ins))
        (sym (ap (λ (l : List T). outs ++ l) eo ∙ append-nil outs))
        h

    -- a call began
    begun_stands : (p : ℕ) (a : QueueAsk T) (q : Queue T) → Stands [] asked replies ins outs → Stands (begun p a q ∷ []) (asked ++ a ∷ []) replies ins outs
    begun_stands p a q h = (asked, refl, h.0, h.1 ∙ sym (append-nil (brought_by asked replies)), h.2 ∙ sym (append-nil (taken_by replies)), begun_first a)

    -- its call made a step
    module _ (u : CallUnderWay T) (k : QueueMark) (q q' : Queue T) (left : ℕ) (others : List (CallUnderWay T)) where
      goes_on : (r : Option (QueueReply T)) → ContinuesAs u (stepped u k q q' left) q others r → Stands (u ∷ []) asked replies ins outs
          → Stands (unless_ended (stepped u k q q' left) r) asked (replies ++ option_to_list r) (ins ++ accepted_by k u.ask) (outs ++ removed_by k q.items)
      goes_on None c (past, is, count, i, o, b) =
          same_stands (stepped u k q q' left ∷ []) asked asked replies (replies ++ []) (ins ++ accepted_by k u.ask) (ins ++ accepted_by k u.ask) (outs ++ removed_by k q.items) (outs ++ removed_by k q.items)
          refl (sym (append-nil replies)) refl refl (
            past,
            is,
            count,
            on_behind ins (brought_by past replies) (came_in u.ask u.marked_steps) (accepted_by k u.ask) (came_in u.ask (stepped u k q q' left).marked_steps) i (came_more q u.seen u.ask u.marked_steps k),
            on_behind outs (taken_by replies) (went_in u.marked_steps) (removed_by k q.items) (went_in (stepped u k q q' left).marked_steps) o (went_more q u.seen u.marked_steps k),
            c.0,
          )
      goes_on (Some r) c (past, is, count, i, o, b) =
          let ended = did (stepped u k q q' left).marked_steps (stepped u k q q' left).seen u.ask r c in (
            ap (λ (l : List (QueueAsk T)). length l) is ∙ as_long past replies u.ask r count,
            on_behind ins (brought_by past replies) (came_in u.ask u.marked_steps) (accepted_by k u.ask) (came_in u.ask (stepped u k q q' left).marked_steps) i (came_more q u.seen u.ask u.marked_steps k)
                ∙ ap (λ (l : List T). brought_by past replies ++ l) ended.0
                ∙ sym (brought_more past replies u.ask r count)
                ∙ ap (λ (l : List (QueueAsk T)). brought_by l (replies ++ r ∷ [])) (sym is),
            on_behind outs (taken_by replies) (went_in u.marked_steps) (removed_by k q.items) (went_in (stepped u k q q' left).marked_steps) o (went_more q u.seen u.marked_steps k)
                ∙ ap (λ (l : List T). taken_by replies ++ l) ended.1
                ∙ sym (taken_more replies r),
          )

  -- ---- what a run's events did to a party

  abbrev pub asks_at : Event T → List (QueueAsk T)
  asks_at (begins a) = a ∷ []
  asks_at (does o) = []

  -- what the calls asked that these events begin
  abbrev pub asked_in : List (Event T) → List (QueueAsk T)
  asked_in [] = []
  asked_in (x ∷ xs) = asks_at x ++ asked_in xs

  module _ (p q : ℕ) (f m : Config T) (e : QueueEntry T) (asked : List (QueueAsk T)) (replies : List (QueueReply T)) (ins outs : List T) where
    abbrev calls : Config T → List (CallUnderWay T)
    calls x = calls_of p x.scene.under_way

    abbrev After : Bool → (y : Event T) → Next f (step_of q y) e m → Type 0
    After b y n =
        Stands (calls m) (asked ++ (if b then asks_at y else [])) (replies ++ (if b then option_to_list e.reply else [])) (ins ++ of_party p (came_at f (step_of q y) e m n))
        (outs ++ of_party p (went_at f (step_of q y) e))

    began : (a : QueueAsk T) (n : Next f (Begin q a) e m) (b : Bool) → (q == p) ≡ b → Stands (calls f) asked replies ins outs → After b (begins a) n
    began a n true is h =
        let new : CallUnderWay T = begun q a f.scene.now in
        let none : calls f ≡ [] = calls_none p f.scene.under_way (subst (λ (k : ℕ). NotUnderWay k f.scene.under_way) (is_same q p is) n.0.free) in
        let now : calls m ≡ new ∷ [] =
        ap (λ (us : List (CallUnderWay T)). calls_of p us) n.0.under_way ∙ calls_append p f.scene.under_way (new ∷ []) ∙ ap (λ (us : List (CallUnderWay T)). us ++ calls_of p (new ∷ [])) none ∙ call_mine p new [] is
        in
        same_stands (calls m) (asked ++ a ∷ []) (asked ++ a ∷ []) replies (replies ++ option_to_list e.reply) ins (ins ++ []) outs (outs ++ of_party p (went_at f (Begin q a) e))
        refl
        (sym (append-nil replies) ∙ ap (λ (x : QueueEntry T). replies ++ option_to_list x.reply) (sym n.0.entry))
        (sym (append-nil ins))
        (sym (append-nil outs) ∙ ap (λ (x : QueueEntry T). outs ++ of_party p (went_at f (Begin q a) x)) (sym n.0.entry))
        (subst (λ (us : List (CallUnderWay T)). Stands us (asked ++ a ∷ []) replies ins outs) (sym now)
        (begun_stands asked replies ins outs q a f.scene.now (subst (λ (us : List (CallUnderWay T)). Stands us asked replies ins outs) none h)))
    began a n false is h =
        let new : CallUnderWay T = begun q a f.scene.now in
        let now : calls m ≡ calls f =
        ap (λ (us : List (CallUnderWay T)). calls_of p us) n.0.under_way ∙ calls_append p f.scene.under_way (new ∷ []) ∙ ap (λ (us : List (CallUnderWay T)). calls f ++ us) (call_other p new [] is) ∙ append-nil (calls f)
        in
        same asked replies ins outs (calls m) [] [] [] (of_party p (went_at f (Begin q a) e)) refl refl refl (ap (λ (x : QueueEntry T). of_party p (went_at f (Begin q a) x)) n.0.entry)
        (subst (λ (us : List (CallUnderWay T)). Stands us asked replies ins outs) (sym now) h)

    went_on : (o : Option (Deed T)) (n : Next f (Step q) e m) (b : Bool) → (q == p) ≡ b → Stands (calls f) asked replies ins outs → After b (does o) n
    went_on o n true is h =
        let s = n.0 in
        let next : CallUnderWay T = stepped s.mine e.mark f.scene.now m.scene.now s.left in
        let mine : (s.mine.party == p) ≡ true = ap (λ (k : ℕ). k == p) s.whose ∙ is in
        let was : calls f ≡ calls_of p s.before ++ s.mine ∷ calls_of p s.behind =
        ap (λ (us : List (CallUnderWay T)). calls_of p us) s.there ∙ calls_append p s.before (s.mine ∷ s.behind) ∙ ap (λ (us : List (CallUnderWay T)). calls_of p s.before ++ us) (call_mine p s.mine s.behind mine)
        in
        let only = alone (calls_of p s.before) (calls_of p s.behind) s.mine asked replies ins outs (subst (λ (us : List (CallUnderWay T)). Stands us asked replies ins outs) was h) in
        let now : calls m ≡ unless_ended next e.reply =
        ap (λ (us : List (CallUnderWay T)). calls_of p us) s.under_way ∙ parted p m.scene.now s.before s.behind (unless_ended next e.reply) ∙ around (unless_ended next e.reply) (calls_of p (unless_ended next e.reply)) m.scene.now (calls_of p s.before) (calls_of p s.behind) only.0 only.1 (left_mine p next e.reply mine)
        in
        same_stands (calls m) asked (asked ++ []) (replies ++ option_to_list e.reply) (replies ++ option_to_list e.reply) (ins ++ accepted_by e.mark s.mine.ask) (ins ++ of_party p (came_at f (Step q) e m n)) (outs ++ removed_by e.mark f.scene.now.items) (outs ++ of_party p (went_at f (Step q) e))
        (sym (append-nil asked))
        refl
        (ap (λ (l : List T). ins ++ l) (sym (tagged_mine p q (accepted_by e.mark s.mine.ask) is)))
        (ap (λ (l : List T). outs ++ l) (sym (tagged_mine p q (removed_by e.mark f.scene.now.items) is)))
        (subst (λ (us : List (CallUnderWay T)). Stands us asked (replies ++ option_to_list e.reply) (ins ++ accepted_by e.mark s.mine.ask) (outs ++ removed_by e.mark f.scene.now.items)) (sym now)
        (goes_on asked replies ins outs s.mine e.mark f.scene.now m.scene.now s.left (s.before ++ s.behind) e.reply s.goes_on only.2))
    went_on o n false is h =
        let s = n.0 in
        let next : CallUnderWay T = stepped s.mine e.mark f.scene.now m.scene.now s.left in
        let other : (s.mine.party == p) ≡ false = ap (λ (k : ℕ). k == p) s.whose ∙ is in
        let was : calls f ≡ calls_of p s.before ++ calls_of p s.behind =
        ap (λ (us : List (CallUnderWay T)). calls_of p us) s.there ∙ calls_append p s.before (s.mine ∷ s.behind) ∙ ap (λ (us : List (CallUnderWay T)). calls_of p s.before ++ us) (call_other p s.mine s.behind other)
        in
        let now : calls m ≡ map (observing m.scene.now) (calls_of p s.before ++ calls_of p s.behind) =
        ap (λ (us : List (CallUnderWay T)). calls_of p us) s.under_way ∙ parted p m.scene.now s.before s.behind (unless_ended next e.reply)
        ∙ ap (λ (us : List (CallUnderWay T)). map (observing m.scene.now) (calls_of p s.before) ++ (us ++ map (observing m.scene.now) (calls_of p s.behind))) (left_other p next e.reply other)
        ∙ sym (map_append (observing m.scene.now) (calls_of p s.before) (calls_of p s.behind))
        in
        same asked replies ins outs (calls m) [] [] (of_party p (came_at f (Step q) e m n)) (of_party p (went_at f (Step q) e)) refl refl (tagged_other p q (accepted_by e.mark s.mine.ask) is) (tagged_other p q (removed_by e.mark f.scene.now.items) is)
        (subst (λ (us : List (CallUnderWay T)). Stands us asked replies ins outs) (sym now)
        (seen_stands m.scene.now (calls_of p s.before ++ calls_of p s.behind) asked replies ins outs (subst (λ (us : List (CallUnderWay T)). Stands us asked replies ins outs) was h)))

    one_step : (y : Event T) (n : Next f (step_of q y) e m) (b : Bool) → (q == p) ≡ b → Stands (calls f) asked replies ins outs → After b y n
    one_step (begins a) n b is h = began a n b is h
    one_step (does o) n b is h = went_on o n b is h

  asked_first : (b : Bool) (x : Event T) (xs : List (Event T)) → asked_in (if b then x ∷ xs else xs) ≡ (if b then asks_at x else []) ++ asked_in xs
  asked_first true x xs = refl
  asked_first false x xs = refl

  replied_first : (b : Bool) (r : List (QueueReply T)) (rs : List (QueueReply T)) → (if b then r ++ rs else rs) ≡ (if b then r else []) ++ rs
  replied_first true r rs = refl
  replied_first false r rs = refl

  -- what a party asked and was answered, and what it brought and took, over a run of these events
  pub along : (p : ℕ) (events : List (Happening T)) (es : List (QueueEntry T)) (f g : Config T) (r : IsRun f (steps_of events) es g) (asked : List (QueueAsk T)) (replies : List (QueueReply T)) (ins outs : List T)
      → Stands (calls_of p f.scene.under_way) asked replies ins outs
      → Stands (calls_of p g.scene.under_way) (asked ++ asked_in (own p events)) (replies ++ replies_to p events es) (ins ++ of_party p (came f (steps_of events) es g r)) (outs ++ of_party p (went f (steps_of events) es g r))
  along p [] [] f g r asked replies ins outs h =
      same asked replies ins outs (calls_of p g.scene.under_way) [] [] [] [] refl refl refl refl (subst (λ (c : Config T). Stands (calls_of p c.scene.under_way) asked replies ins outs) (sym r) h)
  along p [] (e ∷ es) f g r asked replies ins outs h = absurd r
  along p (x ∷ xs) [] f g r asked replies ins outs h = absurd r
  along p (x ∷ xs) (e ∷ es) f g r asked replies ins outs h =
      let m = r.0 in
      let s = step_of x.party x.event in
      let a : List (QueueAsk T) = if x.party == p then asks_at x.event else [] in
      let b : List (QueueReply T) = if x.party == p then option_to_list e.reply else [] in
      let i : List T = of_party p (came_at f s e m r.1) in
      let o : List T = of_party p (went_at f s e) in
      same_stands (calls_of p g.scene.under_way)
      ((asked ++ a) ++ asked_in (own p xs)) (asked ++ asked_in (own p (x ∷ xs)))
      ((replies ++ b) ++ replies_to p xs es) (replies ++ replies_to p (x ∷ xs) (e ∷ es))
      ((ins ++ i) ++ of_party p (came m (steps_of xs) es g r.3)) (ins ++ of_party p (came f (steps_of (x ∷ xs)) (e ∷ es) g r))
      ((outs ++ o) ++ of_party p (went m (steps_of xs) es g r.3)) (outs ++ of_party p (went f (steps_of (x ∷ xs)) (e ∷ es) g r))
      (behind_one asked a (asked_in (own p xs)) (asked_in (own p (x ∷ xs))) (asked_first (x.party == p) x.event (own p xs)))
      (behind_one replies b (replies_to p xs es) (replies_to p (x ∷ xs) (e ∷ es)) (replied_first (x.party == p) (option_to_list e.reply) (replies_to p xs es)))
      (behind_one ins i (of_party p (came m (steps_of xs) es g r.3)) (of_party p (came f (steps_of (x ∷ xs)) (e ∷ es) g r)) (party_append p (came_at f s e m r.1) (came m (steps_of xs) es g r.3)))
      (behind_one outs o (of_party p (went m (steps_of xs) es g r.3)) (of_party p (went f (steps_of (x ∷ xs)) (e ∷ es) g r)) (party_append p (went_at f s e) (went m (steps_of xs) es g r.3)))
      (along p xs es m g r.3 (asked ++ a) (replies ++ b) (ins ++ i) (outs ++ o) (one_step p x.party f m e asked replies ins outs x.event r.1 (x.party == p) refl h))

  -- ---- at the end

  pub brings_at : (us : List (CallUnderWay T)) (asked : List (QueueAsk T)) (replies : List (QueueReply T)) (ins outs : List T) → Stands us asked replies ins outs
      → (more : List T) × (ins ≡ brought_by asked replies ++ more) × MayBring (unanswered asked replies) more
  brings_at [] asked replies ins outs (count, i, o) =
      ([], i ∙ sym (append-nil (brought_by asked replies)), subst (λ (l : List (QueueAsk T)). MayBring l []) (sym (none_open asked replies count)) refl)
  brings_at (u ∷ []) asked replies ins outs (past, is, count, i, o, b) = (
    came_in u.ask u.marked_steps,
    i ∙ ap (λ (l : List T). l ++ came_in u.ask u.marked_steps) (sym (brought_still past replies u.ask count) ∙ ap (λ (l : List (QueueAsk T)). brought_by l replies) (sym is)),
    subst (λ (l : List (QueueAsk T)). MayBring l (came_in u.ask u.marked_steps)) (sym (ap (λ (l : List (QueueAsk T)). unanswered l replies) is ∙ one_open past replies u.ask count)) (brings u.ask u.marked_steps b),
  )
  brings_at (u ∷ w ∷ us) asked replies ins outs h = absurd h

  pub takes_at : (us : List (CallUnderWay T)) (asked : List (QueueAsk T)) (replies : List (QueueReply T)) (ins outs : List T) → Stands us asked replies ins outs
      → (more : List T) × (outs ≡ taken_by replies ++ more) × MayTake (unanswered asked replies) more
  takes_at [] asked replies ins outs (count, i, o) =
      ([], o ∙ sym (append-nil (taken_by replies)), subst (λ (l : List (QueueAsk T)). MayTake l []) (sym (none_open asked replies count)) refl)
  takes_at (u ∷ []) asked replies ins outs (past, is, count, i, o, b) = (
    went_in u.marked_steps,
    o,
    subst (λ (l : List (QueueAsk T)). MayTake l (went_in u.marked_steps)) (sym (ap (λ (l : List (QueueAsk T)). unanswered l replies) is ∙ one_open past replies u.ask count)) (takes u.ask u.marked_steps b),
  )
  takes_at (u ∷ w ∷ us) asked replies ins outs h = absurd h

  -- a call under way is what its party asks and has no answer to
  pub open_at : (before behind : List (CallUnderWay T)) (u : CallUnderWay T) (asked : List (QueueAsk T)) (replies : List (QueueReply T)) (ins outs : List T)
      → Stands (before ++ u ∷ behind) asked replies ins outs → unanswered asked replies ≡ u.ask ∷ []
  open_at before behind u asked replies ins outs h =
      let s = (alone before behind u asked replies ins outs h).2 in
      ap (λ (l : List (QueueAsk T)). unanswered l replies) s.1 ∙ one_open s.0 replies u.ask s.2
