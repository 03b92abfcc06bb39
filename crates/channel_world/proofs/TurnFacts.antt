-- What leaves and what comes in a run, step by step; and with no call under way the state that the configuration at its end is.
use Rattle.std.specs.Prelude.{◌≡◌, ◌+◌, ◌<◌, ◌∷◌, ◌++◌}
use Rattle.channel_world.proofs.Lemmas.{arith, ℕ, zero, suc, List, [], map, length, slice_get, Option, None, Some, Err, refl, sym, ap, ◌∙◌, subst, append-nil, append_assoc, zero-add, suc-add, map-append, Ready, Pending, Channel, ChannelAsk, Reply, Returned, State, Waiter, Row, Keeps, MarkedMoment, EachStep, IsRun, Next, NextConfiguration, end_of, ActiveCall, Configuration, MayFinish, ChannelEntry, ChannelStep, WorldState, none_under_way, view_of, at_rest_is}
use Rattle.channel_world.specs.InTurn.{KeepsItOut, EndsWithItOut, StandsAsItsState, HasItsAccounts, LeaveInTurn, LaterLeavesLater, OfOnePartyInTurn, RefusedIsKeptOut, let_in, let_out, all_let_in, all_let_out, AllKeptOut, left_on, brought_on, accepted_on}
use Rattle.channel_calls.specs.declared.error.Refused.{Refused}
use Rattle.channel_calls.specs.declared.error.TrySendError.{TrySendError}

-- ---- lists

in_front : {A : Type 0} (xs ys : List A) (n : ℕ) → n < length xs → slice_get (xs ++ ys) n ≡ slice_get xs n
in_front [] ys n h = absurd (omega (arith, h))
in_front (x ∷ xs) ys zero h = refl
in_front (x ∷ xs) ys (suc n) h = in_front xs ys n (omega (arith, h))

behind_all : {A : Type 0} (xs ys : List A) (n : ℕ) → slice_get (xs ++ ys) (length xs + n) ≡ slice_get ys n
behind_all [] ys n = ap (λ (m : ℕ). slice_get ys m) (zero-add n)
behind_all (x ∷ xs) ys n = ap (λ (m : ℕ). slice_get (x ∷ xs ++ ys) m) (suc-add (length xs) n) ∙ behind_all xs ys n

module _ {A : Type 0} where
  of_pair : (ms : List (ℕ × A)) (n p : ℕ) (x : A) → slice_get ms n ≡ Some (p, x) → slice_get (map (λ (m : ℕ × A). m.1) ms) n ≡ Some x
  of_pair [] n p x e = cc e
  of_pair (m ∷ ms) zero p x e = let same : m ≡ (p, x) = cc e in ap (λ (y : ℕ × A). Some y.1) same
  of_pair (m ∷ ms) (suc n) p x e = of_pair ms n p x e

unnamed : {A : Type 0} (p : ℕ) (xs : List A) → map (λ (m : ℕ × A). m.1) (map (λ x. (p, x)) xs) ≡ xs
unnamed p [] = refl
unnamed p (x ∷ xs) = ap (λ ys. x ∷ ys) (unnamed p xs)

module _ {T : Type 0} where
  abbrev messages_of : List (ℕ × T) → List T
  messages_of ms = map (λ (m : ℕ × T). m.1) ms

  -- ---- the accounts of a run

  step_accounts : (s : Configuration T Waiter) (x : ChannelStep T Waiter) (e : ChannelEntry T) (names : List Waiter) (t : Configuration T Waiter)
      (n : Next s x e names t)
      → let_out s x e names t n ++ t.now.queue.items ≡ s.now.queue.items ++ messages_of (let_in s x e names t n)
  step_accounts s (ChannelStep.Begin p a) e names t n =
      ap (λ (c : Channel T Waiter). c.queue.items) n.0.now ∙ sym (append-nil s.now.queue.items)
  step_accounts s (ChannelStep.Step p) e names t n = n.held ∙ ap (λ (ms : List T). s.now.queue.items ++ ms) (sym (unnamed p _))

  each_accounts : (s : Configuration T Waiter) (xs : List (ChannelStep T Waiter)) (es : List (ChannelEntry T)) (ns : List (Configuration T Waiter))
      (h : EachStep NextConfiguration s xs es ns)
      → all_let_out s xs es ns h ++ (end_of s ns).now.queue.items ≡ s.now.queue.items ++ messages_of (all_let_in s xs es ns h)
  each_accounts s [] [] [] h = sym (append-nil s.now.queue.items)
  each_accounts s (x ∷ xs) (e ∷ es) (n ∷ ns) h =
      let out = let_out s x e h.0.0 n h.0.1 in
      let into = let_in s x e h.0.0 n h.0.1 in
      let outs = all_let_out n xs es ns h.1 in
      let ins = all_let_in n xs es ns h.1 in
      append_assoc out outs (end_of n ns).now.queue.items
      ∙ (ap (λ (ms : List T). out ++ ms) (each_accounts n xs es ns h.1)
      ∙ (sym (append_assoc out n.now.queue.items (messages_of ins))
      ∙ (ap (λ (ms : List T). ms ++ messages_of ins) (step_accounts s x e h.0.0 n h.0.1)
      ∙ (append_assoc s.now.queue.items (messages_of into) (messages_of ins)
      ∙ ap (λ (ms : List T). s.now.queue.items ++ ms) (sym (map-append (λ (m : ℕ × T). m.1) into ins))))))
  each_accounts s xs es ns h = absurd h

  pub run_accounts : {s t : Configuration T Waiter} {xs : List (ChannelStep T Waiter)} {es : List (ChannelEntry T)} (run : IsRun NextConfiguration s xs es t)
      → left_on run ++ t.now.queue.items ≡ accepted_on run
  run_accounts {s} {t} {xs} {es} run =
      ap (λ (u : Configuration T Waiter). left_on run ++ u.now.queue.items) (sym run.ends) ∙ each_accounts s xs es run.moments run.each

  -- ---- a call that refuses its message

  out_of : (a : ChannelAsk T Waiter) (ds : List (MarkedMoment T Waiter)) (seen : List (Channel T Waiter)) (r : Reply T) (k : Returned T)
      → Row a ds seen r → Keeps a r k → KeepsItOut a ds r k
  out_of (ChannelAsk.TrySend m) ds seen (Reply.TrySend (Err (Refused.Plain (TrySendError.Full v)))) k h keeps = (h.1, h.0)
  out_of (ChannelAsk.TrySend m) ds seen (Reply.TrySend (Err (Refused.Plain (TrySendError.Closed v)))) k h keeps = (h.1, h.0)
  out_of (ChannelAsk.TrySend m) ds seen (Reply.TrySend (Err (Refused.NoMemory v))) k h keeps = (h.1, h.0)
  out_of (ChannelAsk.TrySend m) ds seen (Reply.TrySend (Err (Refused.SerialsUsedUp v))) k h keeps = absurd h
  out_of (ChannelAsk.ForceSend m) ds seen (Reply.ForceSend (Err (Refused.Plain e))) k h keeps = (h.1, h.0)
  out_of (ChannelAsk.ForceSend m) ds seen (Reply.ForceSend (Err (Refused.NoMemory v))) k h keeps = (h.1, h.0)
  out_of (ChannelAsk.ForceSend m) ds seen (Reply.ForceSend (Err (Refused.SerialsUsedUp v))) k h keeps = absurd h
  out_of (ChannelAsk.PollSend m key task) ds seen (Reply.SendPoll (Ready (Err (Refused.Plain e)))) k h keeps = (h.1, h.0)
  out_of (ChannelAsk.PollSend m key task) ds seen (Reply.SendPoll (Ready (Err (Refused.NoMemory u)))) k h keeps =
      (h.0, ap (λ (x : Returned T). x.message) keeps)
  out_of (ChannelAsk.PollSend m key task) ds seen (Reply.SendPoll (Ready (Err (Refused.SerialsUsedUp u)))) k h keeps =
      (h.0, ap (λ (x : Returned T). x.message) keeps)
  out_of (ChannelAsk.PollSend m key task) ds seen (Reply.SendPoll Pending) k h keeps = (h.0, keeps.1)
  out_of (ChannelAsk.RefusePoll line message key) ds seen r k h keeps = (h.0, ap (λ (x : Returned T). x.message) keeps)
  out_of a ds seen r k h keeps = tt

  ends_out : (u : ActiveCall T Waiter) (o : Option (Reply T)) (left : Option (Returned T)) → MayFinish u o left
      → (r : Reply T) → o ≡ Some r → (k : Returned T) × (left ≡ Some k) × KeepsItOut u.ask u.marks r k
  ends_out u None left f r e = absurd (let no : None ≡ Some r = e in cc)
  ends_out u (Some x) left f r e =
      let same : x ≡ r = cc e in
      (f.kept, f.given, subst (λ (y : Reply T). KeepsItOut u.ask u.marks y f.kept) same (out_of u.ask u.marks f.met.1 x f.kept f.met.3 f.keeps))

  step_out : (s : Configuration T Waiter) (x : ChannelStep T Waiter) (e : ChannelEntry T) (names : List Waiter) (t : Configuration T Waiter)
      (n : Next s x e names t) → EndsWithItOut s x e names t n
  step_out s (ChannelStep.Begin p a) e names t n = tt
  step_out s (ChannelStep.Step p) e names t n = ends_out _ e.reply e.kept n.finishes

  each_out : (s : Configuration T Waiter) (xs : List (ChannelStep T Waiter)) (es : List (ChannelEntry T)) (ns : List (Configuration T Waiter))
      (h : EachStep NextConfiguration s xs es ns) → AllKeptOut s xs es ns h
  each_out s [] [] [] h = tt
  each_out s (x ∷ xs) (e ∷ es) (n ∷ ns) h = (step_out s x e h.0.0 n h.0.1, each_out n xs es ns h.1)
  each_out s xs es ns h = absurd h

  -- ---- at rest

  pub stands_as_its_state : (w : WorldState T) → StandsAsItsState (view_of w)
  stands_as_its_state w quiet s stands =
      let same = sym (at_rest_is w s stands.shown quiet) in
      record {
        nobody = none_under_way w s quiet stands.shown;
        messages = ap (λ (x : State T). x.channel.messages) same;
        capacity = ap (λ (x : State T). x.channel.capacity) same;
        closed = ap (λ (x : State T). x.channel.closed) same;
        senders = ap (λ (x : State T). x.channel.senders) same;
        receivers = ap (λ (x : State T). x.channel.receivers) same;
      }

  pub has_its_accounts : (w : WorldState T) → HasItsAccounts (view_of w)
  has_its_accounts w quiet s replies led =
      let state = stands_as_its_state w quiet led.last led.stands in
      ap (λ (ms : List T). left_on led.way.run ++ ms) (sym state.messages) ∙ run_accounts led.way.run

-- ---- the laws

module _ (T : Type 0) where
  pub leave_in_turn : LeaveInTurn T
  leave_in_turn s t xs es run n h =
      sym (in_front (left_on run) t.now.queue.items n h) ∙ ap (λ (ms : List T). slice_get ms n) (run_accounts run)

  pub later_leaves_later : LaterLeavesLater T
  later_leaves_later s t xs es run i j first later less a b h =
      (leave_in_turn s t xs es run i (omega (arith, less, h)) ∙ a, leave_in_turn s t xs es run j h ∙ b)

  pub of_one_party_in_turn : OfOnePartyInTurn T
  of_one_party_in_turn s t xs es run party i j first later less a b h =
      let held = s.now.queue.items in
      let come = map (λ (m : ℕ × T). m.1) (brought_on run) in (
        leave_in_turn s t xs es run (length held + i) (omega (arith, less, h))
            ∙ (behind_all held come i ∙ of_pair (brought_on run) i party first a),
        leave_in_turn s t xs es run (length held + j) h ∙ (behind_all held come j ∙ of_pair (brought_on run) j party later b),
      )

  pub refused_is_kept_out : RefusedIsKeptOut T
  refused_is_kept_out s t xs es run = each_out s xs es run.moments run.each
