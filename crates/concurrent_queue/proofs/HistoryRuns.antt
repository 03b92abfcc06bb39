-- One history of a queue's cells is what the promise of its runs asks of parties and cells.
use Rattle.std.proofs.Common.{◌≡◌, ◌≢◌, ℕ, zero, suc, ◌≤◌, ◌⊎◌, inl, inr, ⊎_elim, List, [], ◌∷◌, ◌++◌, length, refl, sym, ap, ◌∙◌, subst, arith, append_assoc, append-nil}
use Rattle.std.specs.Prelude.{Option, None, Some}
use mathlib.Core.Option as home
use lib.ListN.{get_elem?}
use Rattle.concurrent_queue.specs.Bridge.{Event, begins, does, asking, Acts, EventsLead, left_under_way, own, MergesAreRuns}
use Rattle.concurrent_queue.specs.Deeds.{Notes}
use Rattle.concurrent_queue.specs.Touched.{EachTouchesItsOwn}
use Rattle.concurrent_queue.specs.Walked.{CallMakes}
use Rattle.concurrent_queue.specs.declared.call.QueueReply.{QueueReply}
use Rattle.concurrent_queue.specs.declared.cells.QueueForm.{QueueForm}
use Rattle.concurrent_queue.specs.declared.queue_call.QueueCall.{QueueCall}
use Rattle.concurrent_queue.specs.history.History.{Walks}
use Rattle.concurrent_queue.specs.history.Joined.{AllStood}
use Rattle.concurrent_queue.specs.history.Runs.{fresh, after_step, moves, history, standing_in, standing_of, IsQueueHistory, asks_of, AllDid, IsRunWith, HistoriesAreRuns, HistoriesHaveLed, HistoriesTouchTheirOwn}
use Rattle.concurrent_queue.specs.history.Shared.{Shown}
use Rattle.concurrent_queue.specs.declared.history.party.Standing.{Standing}
use Rattle.concurrent_queue.specs.declared.history.rule.View.{View}

in_or_past : {V : Type 0} (l : List V) (p : ℕ) → ((v : V) × (get_elem? l p ≡ home.some v)) ⊎ ((get_elem? l p ≡ home.none) × (length l ≤ p))
in_or_past [] p = inr (refl, omega arith)
in_or_past (x ∷ xs) zero = inl (x, refl)
in_or_past (x ∷ xs) (suc p) = ⊎_elim (λ t. inl t) (λ t. let far = t.1 in inr (t.0, omega arith)) (in_or_past xs p)

or_that : {X : Type 0} → X → Option X → X
or_that d (Some x) = x
or_that d None = d

same_some : {X : Type 0} (x y : X) → Some x ≡ Some y → x ≡ y
unfolding or_that
same_some x y e = ap (or_that x) e

none_some : {X : Type 0} (x : X) → None ≢ Some x
none_some x e = absurd (cc)

module _ {T : Type 0} (form : QueueForm) where
  -- ---- the replies

  abbrev Later : Option (QueueCall T) → List (Event T) → Standing T → Standing T → Type 0
  Later at xs p q = (more : List (QueueReply T)) × (q.replies ≡ p.replies ++ more) × Acts form at xs more

  abbrev Goes : List (Event T) → Standing T → Type 0
  Goes xs q = (at : Option (QueueCall T)) (m : Standing T) → m.call ≡ at → Walks moves form m xs q → Later at xs m q

  answered : (xs : List (Event T)) (q : Standing T) → Goes xs q → (o : _) (p m : Standing T) (call next : QueueCall T) (reply : Option (QueueReply T)) → CallMakes Notes form None call o next reply
      → m ≡ after_step p next reply
      → Walks moves form m xs q → Later (Some call) (does o ∷ xs) p q
  answered xs q go o p m call next None made is w =
      let l = go (Some next) m (ap (λ (s : Standing T). s.call) is) w in
      (l.0, l.1 ∙ ap (λ (s : Standing T). s.replies ++ l.0) is ∙ ap (λ (rs : List (QueueReply T)). rs ++ l.0) (append-nil p.replies), (next, None, made, l.2))
  answered xs q go o p m call next (Some r) made is w =
      let l = go None m (ap (λ (s : Standing T). s.call) is) w in
      (r ∷ l.0, l.1 ∙ ap (λ (s : Standing T). s.replies ++ l.0) is ∙ append_assoc p.replies (r ∷ []) l.0, (next, Some r, made, (l.0, refl, l.2)))

  stepped : (xs : List (Event T)) (q : Standing T) → Goes xs q → (at : Option (QueueCall T)) (x : Event T) (p m : Standing T) → p.call ≡ at → moves form p x m → Walks moves form m xs q → Later at (x ∷ xs) p q
  stepped xs q go None (begins a) p m e h w =
      let l = go (Some (asking a)) m (ap (λ (s : Standing T). s.call) h.1) w in
      (l.0, l.1 ∙ ap (λ (s : Standing T). s.replies ++ l.0) h.1, l.2)
  stepped xs q go None (does o) p m e h w = absurd (none_some h.0 (sym e ∙ h.3))
  stepped xs q go (Some call) (begins a) p m e h w = absurd (none_some call (sym h.0 ∙ e))
  stepped xs q go (Some call) (does o) p m e h w =
      let is : h.0 ≡ call = same_some h.0 call (sym h.3 ∙ e) in
      answered xs q go o p m call h.1 h.2 (subst (λ (k : QueueCall T). CallMakes Notes form None k o h.1 h.2) is h.4) h.5 w

  along : (xs : List (Event T)) (q : Standing T) → Goes xs q
  along [] q at p e w = ([], ap (λ (s : Standing T). s.replies) w ∙ sym (append-nil p.replies), refl)
  along (x ∷ xs) q at p e w = stepped xs q (along xs q) at x p w.0 e w.1 w.2

  -- a party's walk is what its part of a run is asked to be
  walks_act : (xs : List (Event T)) (q : Standing T) → Walks moves form fresh xs q → Acts form None xs q.replies
  walks_act xs q w = let l = along xs q None fresh refl w in subst (λ (rs : List (QueueReply T)). Acts form None xs rs) (sym l.1) l.2

  -- ---- the call under way

  led : (xs : List (Event T)) (q : Standing T) (at : Option (QueueCall T)) (p : Standing T) → p.call ≡ at → Walks moves form p xs q → EventsLead form at xs q.call
  led [] q at p e w = ap (λ (s : Standing T). s.call) w ∙ e
  led (begins a ∷ xs) q None p e w = led xs q (Some (asking a)) w.0 (ap (λ (s : Standing T). s.call) w.1.1) w.2
  led (does o ∷ xs) q None p e w = absurd (none_some w.1.0 (sym e ∙ w.1.3))
  led (begins a ∷ xs) q (Some call) p e w = absurd (none_some call (sym w.1.0 ∙ e))
  led (does o ∷ xs) q (Some call) p e w =
      let h = w.1 in
      let is : h.0 ≡ call = same_some h.0 call (sym h.3 ∙ e) in (
        h.1,
        h.2,
        subst (λ (k : QueueCall T). CallMakes Notes form None k o h.1 h.2) is h.4,
        led xs q (left_under_way h.1 h.2) w.0 (ap (λ (s : Standing T). s.call) h.5) w.2,
      )

  -- ---- of each party, whether it has come or not

  module _ (views : List (View T (Standing T))) (c : _) (h : IsQueueHistory form views c) (p : ℕ) where
    abbrev Stands : Standing T → Type 0
    Stands s = Walks moves form fresh (own p h.events) s

    stands : Stands (standing_of views p)
    stands = ⊎_elim
        (λ (t : (v : View T (Standing T)) × (get_elem? views p ≡ home.some v)). subst (λ (o : home.Option (View T (Standing T))). Stands (standing_in o)) (sym t.1) (h.each p t.0 t.1))
        (λ (t : (get_elem? views p ≡ home.none) × (length views ≤ p)).
        subst (λ (o : home.Option (View T (Standing T))). Stands (standing_in o)) (sym t.0)
        (subst (λ (es : List (Event T)). Walks moves form fresh es fresh) (sym (h.apart p t.1)) refl))
        (in_or_past views p)

pub histories_are_runs : (T : Type 0) → MergesAreRuns T → HistoriesAreRuns T
histories_are_runs T merges form views c has h =
    merges form h.events (λ p. (standing_of views p).replies) c has (λ p. walks_act form (own p h.events) (standing_of views p) (stands form views c h p)) h.order

pub histories_have_led : (T : Type 0) → HistoriesHaveLed T
histories_have_led T form views c has h lasts = record {
  has = has;
  lasts = lasts;
  led = λ p. led form (own p h.events) (standing_of views p) None fresh refl (stands form views c h p);
  order = h.order;
}

pub histories_touch_their_own : (T : Type 0) → EachTouchesItsOwn T → HistoriesTouchTheirOwn T
histories_touch_their_own T own_so form views c has h lasts = own_so form h.events c (λ q. (standing_of views q).call) (histories_have_led T form views c has h lasts)

-- ---- what each party has asked and was answered

module _ {T : Type 0} (form : QueueForm) where
  walks_ask : (xs : List (Event T)) (p q : Standing T) → Walks moves form p xs q → q.asked ≡ p.asked ++ asks_of xs
  walks_ask [] p q w = ap (λ (s : Standing T). s.asked) w ∙ sym (append-nil p.asked)
  walks_ask (begins a ∷ xs) p q (m, h, w) =
      walks_ask xs m q w ∙ (ap (λ (s : Standing T). s.asked ++ asks_of xs) h.1 ∙ append_assoc p.asked (a ∷ []) (asks_of xs))
  walks_ask (does o ∷ xs) p q (m, (call, next, reply, was, made, is), w) = walks_ask xs m q w ∙ ap (λ (s : Standing T). s.asked ++ asks_of xs) is

  module _ (views : List (View T (Standing T))) (c : _) (h : IsQueueHistory form views c) where
    one_did : (p : ℕ) (u : View T (Standing T)) (s : Standing T) → get_elem? views p ≡ home.some u → u.state ≡ s → (asks_of (own p h.events) ≡ s.asked) × ((standing_of views p).replies ≡ s.replies)
    one_did p u s at is = (
      sym (walks_ask (own p h.events) fresh u.state (h.each p u at)) ∙ ap (λ (z : Standing T). z.asked) is,
      ap (λ (o : home.Option (View T (Standing T))). (standing_in o).replies) at ∙ ap (λ (z : Standing T). z.replies) is,
    )

    all_did : (l : List (ℕ × Standing T)) → AllStood views l → AllDid h.events (λ p. (standing_of views p).replies) l
    all_did [] a = tt
    all_did (x ∷ xs) a = (one_did x.0 a.0.0 x.1 a.0.1 a.0.2, all_did xs a.1)

pub runs_with : (T : Type 0) → HistoriesAreRuns T → (v : View T (Standing T)) → Shown history v → IsRunWith v
runs_with T runs v (views, c, t, h, mine, has, stood, once) =
    (views, c, h, runs v.form views c has h, mine, (one_did v.form views c h v.who v v.state mine refl, all_did v.form views c h v.over stood), once)
