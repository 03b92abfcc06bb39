-- A push beside a pop, and what their history accounts for.
use Rattle.std.proofs.Common.{◌≡◌, ◌⊎◌, inl, inr, ℕ, zero, suc, ◌≤◌, ◌==◌, Bool, true, false, List, [], ◌∷◌, ◌++◌, length, Option, None, Some, option_to_list, if◌then◌else◌, refl, sym, ap, ◌∙◌, subst, arith, append_assoc, append-nil}
use mathlib.Core.Option as home
use lib.ListN.{get_elem?}
use Rattle.concurrent_queue.specs.Bridge.{Event, begins, does, Happening, asking, Acts, own, left_under_way}
use Rattle.concurrent_queue.specs.BridgeRow.{push_beside_pop, replies_of_two, TwoCallsMerge}
use Rattle.concurrent_queue.specs.Deeds.{Deed, Notes}
use Rattle.concurrent_queue.specs.Made.{new_cells}
use Rattle.concurrent_queue.specs.Step.{items_in}
use Rattle.concurrent_queue.specs.Walked.{CallMakes}
use Rattle.concurrent_queue.specs.declared.call.QueueAsk.{QueueAsk}
use Rattle.concurrent_queue.specs.declared.call.QueueReply.{QueueReply}
use Rattle.concurrent_queue.specs.declared.cells.QueueForm.{QueueForm}
use Rattle.concurrent_queue.specs.declared.cells.QueueForm.TheVariants.{Bounded}
use Rattle.concurrent_queue.specs.declared.queue_call.QueueCall.{QueueCall}
use Rattle.concurrent_queue.proofs.Callers.{is_same, is_other, itself}
use Rattle.queue_history.specs.Accounted.{brought_by, taken_by, unanswered, of_party, Accounts, HistoriesAreAccounted}
use Rattle.queue_history.specs.AccountedRows.{PushBesidePop}
use Rattle.concurrent_queue.specs.history.History.{Walks}
use Rattle.concurrent_queue.specs.history.Runs.{fresh, moves, standing_in, standing_of, IsQueueHistory}
use Rattle.concurrent_queue.specs.history.Shared.{first_view}
use Rattle.concurrent_queue.specs.declared.history.party.Standing.{Standing}
use Rattle.concurrent_queue.specs.declared.history.rule.View.{View}
use Rattle.queue_history.proofs.Accounted.{Even, asked_so, even_so}
use Rattle.queue_history.proofs.Concluded.{all_brought, all_taken}
use Rattle.queue_history.proofs.PartyAccounts.{asked_in, apart, tagged}

-- ---- whoever acts so walks its machine

module _ {T : Type 0} (form : QueueForm) where
  may_begin : (s : Standing T) (a : QueueAsk T) → s.call ≡ None → (t : Standing T) × moves form s (begins a) t
  may_begin s a e = (_, (e, refl))

  may_go : (s : Standing T) (o : Option (Deed T)) (call next : QueueCall T) (answer : Option (QueueReply T)) → s.call ≡ Some call → CallMakes Notes form None call o next answer
      → (t : Standing T) × moves form s (does o) t × (t.call ≡ left_under_way next answer) × (t.replies ≡ s.replies ++ option_to_list answer)
  may_go s o call next answer e made = (_, (call, next, answer, e, made, refl), refl, refl)

  abbrev WalksOn : Standing T → List (Event T) → List (QueueReply T) → Type 0
  WalksOn s xs replies = (t : Standing T) × Walks moves form s xs t × (t.replies ≡ s.replies ++ replies)

  walks : (xs : List (Event T)) (at : Option (QueueCall T)) (s : Standing T) (replies : List (QueueReply T)) → s.call ≡ at → Acts form at xs replies → WalksOn s xs replies
  walks [] at s replies e h = (s, refl, sym (ap (λ (l : List (QueueReply T)). s.replies ++ l) h ∙ append-nil s.replies))
  walks (begins a ∷ xs) None s replies e h =
      let m = may_begin s a e in
      let rest = walks xs (Some (asking a)) m.0 replies (ap (λ (u : Standing T). u.call) m.1.1) h in
      (rest.0, (m.0, m.1, rest.1), rest.2 ∙ ap (λ (u : Standing T). u.replies ++ replies) m.1.1)
  walks (begins a ∷ xs) (Some call) s replies e h = absurd h
  walks (does o ∷ xs) None s replies e h = absurd h
  walks (does o ∷ xs) (Some call) s replies e (next, None, made, goes) =
      let m = may_go s o call next None e made in
      let rest = walks xs (Some next) m.0 replies m.2 goes in
      (rest.0, (m.0, m.1, rest.1), rest.2 ∙ ap (λ (l : List (QueueReply T)). l ++ replies) (m.3 ∙ append-nil s.replies))
  walks (does o ∷ xs) (Some call) s replies e (next, Some r, made, (more, is, goes)) =
      let m = may_go s o call next (Some r) e made in
      let rest = walks xs None m.0 more m.2 goes in (
        rest.0,
        (m.0, m.1, rest.1),
        rest.2 ∙ ap (λ (l : List (QueueReply T)). l ++ more) m.3 ∙ append_assoc s.replies (r ∷ []) more ∙ ap (λ (l : List (QueueReply T)). s.replies ++ l) (sym is),
      )

-- ---- messages of one party alone

either_way : (m n : ℕ) (A : Type 0) → ((m ≡ n → ⊥) → A) → A ⊎ (m ≡ n)
either_way m n A f = test (m == n) refl
  where
    test : (b : Bool) → (m == n) ≡ b → A ⊎ (m ≡ n)
    test true e = inr (is_same m n e)
    test false e = inl (f (is_other m n e))

module _ {T : Type 0} where
  rest_empty : (b : Bool) (v : T) (vs : List T) → (if b then v ∷ vs else vs) ≡ [] → vs ≡ []
  rest_empty true v vs e = absurd cc
  rest_empty false v vs e = e

  one_tagged : (p : ℕ) (x : ℕ × T) (xs : List (ℕ × T)) (b : Bool) → (x.0 == p) ≡ b → of_party x.0 (x ∷ xs) ≡ [] ⊎ (x.0 ≡ p) → xs ≡ tagged p (of_party p xs) → (x ∷ xs) ≡ tagged p (of_party p (x ∷ xs))
  one_tagged p x xs true f h rest = rw f (ap (λ (n : ℕ). (n, x.1) ∷ xs) (is_same x.0 p f) ∙ ap (λ (l : List (ℕ × T)). (p, x.1) ∷ l) rest)
  one_tagged p x xs false f (inl e) rest = absurd (let g : x.1 ∷ of_party x.0 xs ≡ [] = subst (λ (b : Bool). (if b then x.1 ∷ of_party x.0 xs else of_party x.0 xs) ≡ []) (itself x.0) e in absurd cc)
  one_tagged p x xs false f (inr e) rest = absurd (is_other x.0 p f e)

  all_tagged : (p : ℕ) (xs : List (ℕ × T)) → ((q : ℕ) → (q ≡ p → ⊥) → of_party q xs ≡ []) → xs ≡ tagged p (of_party p xs)
  all_tagged p [] h = refl
  all_tagged p (x ∷ xs) h =
      one_tagged p x xs (x.0 == p) refl (either_way x.0 p (of_party x.0 (x ∷ xs) ≡ []) (h x.0)) (all_tagged p xs (λ q ne. rest_empty (x.0 == q) x.1 (of_party q xs) (h q ne)))

  only_party : (p : ℕ) (xs : List (ℕ × T)) (vs : List T) → of_party p xs ≡ vs → ((q : ℕ) → (q ≡ p → ⊥) → of_party q xs ≡ []) → xs ≡ tagged p vs
  only_party p xs vs e none = subst (λ (l : List T). xs ≡ tagged p l) e (all_tagged p xs none)

-- ---- the history

module _ {T : Type 0} (merge : TwoCallsMerge T) (v : T) where
  abbrev events : List (Happening T)
  events = push_beside_pop v

  walked_two : (p : ℕ) → WalksOn (Bounded 1) fresh (own p events) (replies_of_two v p)
  walked_two p = walks (Bounded 1) (own p events) None fresh (replies_of_two v p) refl ((merge v).0 p)

  abbrev view : ℕ → View T (Standing T)
  view p = record (first_view (walked_two p).0 (Bounded 1)) { who = p }

  abbrev two_views : List (View T (Standing T))
  two_views = view 0 ∷ view 1 ∷ view 2 ∷ []

  is_view : (p : ℕ) (w : View T (Standing T)) → home.some (view p) ≡ home.some w → Walks moves (Bounded 1) fresh (own p events) w.state
  is_view p w e = subst (λ (o : home.Option (View T (Standing T))). Walks moves (Bounded 1) fresh (own p events) (standing_in o)) e (walked_two p).1

  each_two : (p : ℕ) (w : View T (Standing T)) → get_elem? two_views p ≡ home.some w → Walks moves (Bounded 1) fresh (own p events) w.state
  each_two zero w e = is_view 0 w e
  each_two (suc zero) w e = is_view 1 w e
  each_two (suc (suc zero)) w e = is_view 2 w e
  each_two (suc (suc (suc p))) w e = absurd cc

  not_come : (p : ℕ) → 3 ≤ p → own p events ≡ []
  not_come p h =
      let first : (1 == p) ≡ false = apart 1 p (λ e. omega (arith, e, h)) in
      let second : (2 == p) ≡ false = apart 2 p (λ e. omega (arith, e, h)) in
      rw (first, second) refl

  history : IsQueueHistory (Bounded 1) two_views (new_cells (Bounded 1))
  history = record { events = events; order = (merge v).1; each = each_two; apart = not_come }

  -- ---- what it accounts for

  stands_two : (p : ℕ) → ((standing_of two_views p).asked ≡ asked_in (own p events)) × ((standing_of two_views p).replies ≡ replies_of_two v p)
  unfolding history
  stands_two p = (asked_so (Bounded 1) two_views (new_cells (Bounded 1)) history p, replied p)
    where
      replied : (q : ℕ) → (standing_of two_views q).replies ≡ replies_of_two v q
      replied zero = (walked_two 0).2
      replied (suc zero) = (walked_two 1).2
      replied (suc (suc zero)) = (walked_two 2).2
      replied (suc (suc (suc q))) =
          let first : (1 == suc (suc (suc q))) ≡ false = apart 1 (suc (suc (suc q))) (λ e. omega (arith, e)) in
          let second : (2 == suc (suc (suc q))) ≡ false = apart 2 (suc (suc (suc q))) (λ e. omega (arith, e)) in
          rw (first, second) refl

  by_party : (P : ℕ → Type 0) → P 1 → P 2 → ((q : ℕ) → (1 == q) ≡ false → (2 == q) ≡ false → P q) → (q : ℕ) → P q
  by_party P one two others q = test (1 == q) refl (2 == q) refl
    where
      test : (b : Bool) → (1 == q) ≡ b → (d : Bool) → (2 == q) ≡ d → P q
      test true e d f = subst P (is_same 1 q e) one
      test false e true f = subst P (is_same 2 q f) two
      test false e false f = others q e f

  as_many : (q : ℕ) → length (asked_in (own q events)) ≡ length (replies_of_two v q)
  as_many q = by_party (λ p. length (asked_in (own p events)) ≡ length (replies_of_two v p)) refl refl (λ p e f. rw (e, f) refl) q

  over_two : (q : ℕ) → unanswered (asked_in (own q events)) (replies_of_two v q) ≡ []
  over_two q = by_party (λ p. unanswered (asked_in (own p events)) (replies_of_two v p) ≡ []) refl refl (λ p e f. rw (e, f) refl) q

  idle_if : (o : Option (QueueCall T)) (m n : ℕ) → Even (Bounded 1) o m n → m ≡ n → o ≡ None
  idle_if None m n even e = refl
  idle_if (Some call) m n even e = absurd (omega (arith, even, e))

  idle_two : (q : ℕ) → (standing_of two_views q).call ≡ None
  idle_two q =
      let s = standing_of two_views q in
      let here = stands_two q in
      idle_if s.call (length s.asked) (length s.replies) (even_so (Bounded 1) two_views (new_cells (Bounded 1)) history q)
      (ap (λ (l : List (QueueAsk T)). length l) here.0 ∙ as_many q ∙ ap (λ (l : List (QueueReply T)). length l) (sym here.1))

  no_message : items_in (new_cells {T = T} (Bounded 1)) ≡ []
  unfolding items_in
  no_message = refl

  module _ (a : Accounts (Bounded 1) (λ p. standing_of two_views p) (new_cells (Bounded 1))) where
    over_so : (q : ℕ) → unanswered (standing_of two_views q).asked (standing_of two_views q).replies ≡ []
    over_so q =
        ap (λ (l : List (QueueAsk T)). unanswered l (standing_of two_views q).replies) (stands_two q).0
        ∙ ap (λ (l : List (QueueReply T)). unanswered (asked_in (own q events)) l) (stands_two q).1
        ∙ over_two q

    its_accepted : (q : ℕ) → of_party q a.accepted ≡ brought_by (asked_in (own q events)) (replies_of_two v q)
    its_accepted q =
        all_brought (standing_of two_views q) (of_party q a.accepted) (over_so q) (a.each_brought q)
        ∙ ap (λ (l : List (QueueAsk T)). brought_by l (standing_of two_views q).replies) (stands_two q).0
        ∙ ap (λ (l : List (QueueReply T)). brought_by (asked_in (own q events)) l) (stands_two q).1

    its_gone : (q : ℕ) → of_party q a.gone ≡ taken_by (replies_of_two v q)
    its_gone q = all_taken (standing_of two_views q) (of_party q a.gone) (over_so q) (a.each_took q) ∙ ap (λ (l : List (QueueReply T)). taken_by l) (stands_two q).1

    no_other_brought : (q : ℕ) → (q ≡ 1 → ⊥) → brought_by (asked_in (own q events)) (replies_of_two v q) ≡ []
    no_other_brought q =
        by_party (λ p. (p ≡ 1 → ⊥) → brought_by (asked_in (own p events)) (replies_of_two v p) ≡ []) (λ ne. absurd (ne refl)) (λ ne. refl) (λ p e f ne. rw (e, f) refl) q

    no_other_took : (q : ℕ) → (q ≡ 2 → ⊥) → taken_by (replies_of_two v q) ≡ []
    no_other_took q = by_party (λ p. (p ≡ 2 → ⊥) → taken_by (replies_of_two v p) ≡ []) (λ ne. refl) (λ ne. absurd (ne refl)) (λ p e f ne. rw (e, f) refl) q

    accepted_is : a.accepted ≡ (1, v) ∷ []
    accepted_is = only_party 1 a.accepted (v ∷ []) (its_accepted 1) (λ q ne. its_accepted q ∙ no_other_brought q ne)

    gone_is : a.gone ≡ (2, v) ∷ []
    gone_is = only_party 2 a.gone (v ∷ []) (its_gone 2) (λ q ne. its_gone q ∙ no_other_took q ne)

    held_is : a.held ≡ []
    held_is = a.at_rest idle_two ∙ no_message

pub push_beside_pop_accounts : (T : Type 0) → TwoCallsMerge T → HistoriesAreAccounted T → PushBesidePop T
push_beside_pop_accounts T merge accounted v =
    let h = history merge v in
    let law = accounted (Bounded 1) (two_views merge v) (new_cells (Bounded 1)) (omega arith, omega arith) h in
    let a = law.1 (inl refl) in
    (two_views merge v, h, a, accepted_is merge v a, gone_is merge v a, held_is merge v a)
