-- Events more of one party: what they do to a history.
use Rattle.std.proofs.Common.{◌≡◌, ◌≢◌, ℕ, ◌==◌, Bool, true, false, List, [], ◌∷◌, ◌++◌, map, if◌then◌else◌, refl, sym, ap, ◌∙◌, subst, eq-eqb, ne_eqb, append_assoc, append-nil}
use Rattle.std.specs.Prelude.{None, Some}
use native.Mathlib.Decide.{ℕ_discrete}
use Rattle.concurrent_queue.specs.Contents.{Contents}
use Rattle.concurrent_queue.specs.declared.cells.QueueForm.{QueueForm}
use Rattle.event_listener.specs.Notices.{Woken}
use Rattle.channel_calls.specs.Parts.{Parts, Listeners}
use Rattle.channel_calls.specs.declared.stage.WaitList.{WaitList}
use Rattle.channel_steps.specs.every_run.Bridge.{Act, on_queue, on_wait_lists, on_nothing, Event, does, Happening, own, Changes, InOneOrder}
use Rattle.channel_history.specs.History.{appends, parts_of, LieWithSeats, IsChannelHistory}
use Rattle.channel_history.specs.Party.{nothing, fresh, with_own, standing_of, Leads, TouchesNothing, TouchNothing}
use Rattle.channel_history.specs.declared.party.Standing.{Standing}
use Rattle.channel_history.proofs.PartyFacts.{leads_on, leads_same}

-- these were woken one after another
pub all_woken : {W : Type 0} (before names : List W) → Woken appends before names (before ++ names)
all_woken before [] = append-nil before
all_woken {W} before (w ∷ ws) =
    (before ++ w ∷ [], refl, subst (λ (now : List W). Woken appends (before ++ w ∷ []) ws now) (append_assoc before (w ∷ []) ws) (all_woken (before ++ w ∷ []) ws))

module _ {T W : Type 0} where
  -- ---- whose they are

  abbrev pub all_by : ℕ → List (Event T W) → List (Happening T W)
  all_by p [] = []
  all_by p (e ∷ es) = record { party = p; event = e } ∷ all_by p es

  if_more : (b : Bool) (e : Event T W) (l m : List (Event T W)) → (if b then e ∷ (l ++ m) else (l ++ m)) ≡ ((if b then e ∷ l else l) ++ m)
  if_more true e l m = refl
  if_more false e l m = refl

  own_more : (p : ℕ) (xs ys : List (Happening T W)) → own p (xs ++ ys) ≡ own p xs ++ own p ys
  own_more p [] ys = refl
  own_more p (x ∷ xs) ys = ap (λ (l : List (Event T W)). if x.party == p then x.event ∷ l else l) (own_more p xs ys) ∙ if_more (x.party == p) x.event (own p xs) (own p ys)

  own_mine : (p : ℕ) (es : List (Event T W)) → own p (all_by p es) ≡ es
  own_mine p [] = refl
  own_mine p (e ∷ es) =
      ap (λ (b : Bool). if b then e ∷ own p (all_by p es) else own p (all_by p es)) (eq-eqb p p refl) ∙ ap (λ (l : List (Event T W)). e ∷ l) (own_mine p es)

  own_other : (p q : ℕ) (es : List (Event T W)) → p ≢ q → own q (all_by p es) ≡ []
  own_other p q [] n = refl
  own_other p q (e ∷ es) n =
      ap (λ (b : Bool). if b then e ∷ own q (all_by p es) else own q (all_by p es)) (ne_eqb p q n) ∙ own_other p q es n

  -- ---- in one order

  order_on : (xs ys : List (Happening T W)) (c d e : Parts T W × List W) → InOneOrder appends xs c d → InOneOrder appends ys d e → InOneOrder appends (xs ++ ys) c e
  order_on [] ys c d e a b = subst (λ (x : Parts T W × List W). InOneOrder appends ys x e) a b
  order_on (x ∷ xs) ys c d e (m, h, a) b = (m, h, order_on xs ys m d e a b)

  still : (o : Act T W) (c : Parts T W × List W) → TouchesNothing o → Changes appends (does o) c c
  still on_nothing c h = refl
  still (on_queue None) c h = refl
  still (on_queue (Some d)) c h = absurd h
  still (on_wait_lists d) c h = absurd h

  pub order_still : (p : ℕ) (os : List (Act T W)) (c : Parts T W × List W) → TouchNothing os → InOneOrder appends (all_by p (map does os)) c c
  order_still p [] c h = refl
  order_still p (o ∷ os) c h = (c, still o c h.0, order_still p os c h.1)

  pub order_last : (p : ℕ) (os : List (Act T W)) (o : Act T W) (c d : Parts T W × List W) → TouchNothing os → Changes appends (does o) c d
      → InOneOrder appends (all_by p (map does (os ++ o ∷ []))) c d
  order_last p [] o c d h done = (d, done, refl)
  order_last p (x ∷ xs) o c d h done = (c, still x c h.0, order_last p xs o c d h.1 done)

  -- ---- a history

  module _ (form : QueueForm) (views views' : List (Standing T W)) (c c' : Contents T) (n m n' m' : ℕ) (h : IsChannelHistory form views c n m)
      (p : ℕ) (es : List (Event T W)) (listening : WaitList → Listeners W) (woken : List W) where
    abbrev Stands : ℕ → List (Event T W) → Type 0
    Stands q xs = Leads form fresh xs (standing_of views' q)

    each_now : Leads form (standing_of views p) es (standing_of views' p)
        → ((q : ℕ) → q ≢ p → with_own nothing (standing_of views' q) ≡ with_own nothing (standing_of views q))
        → (q : ℕ) → Dec (q ≡ p) → Stands q (own q (h.events ++ all_by p es))
    each_now mine others q (yes is) =
        subst (λ (k : ℕ). Stands k (own k (h.events ++ all_by p es))) (sym is)
        (subst (λ (xs : List (Event T W)). Stands p xs) (sym (own_more p h.events (all_by p es) ∙ ap (λ (l : List (Event T W)). own p h.events ++ l) (own_mine p es)))
        (leads_on form fresh (standing_of views p) (standing_of views' p) (own p h.events) es (h.each p) mine))
    each_now mine others q (no apart) =
        subst (λ (xs : List (Event T W)). Stands q xs)
        (sym (own_more q h.events (all_by p es) ∙ ap (λ (l : List (Event T W)). own q h.events ++ l) (own_other p q es (λ e. apart (sym e))) ∙ append-nil (own q h.events)))
        (leads_same form (own q h.events) (standing_of views q) (standing_of views' q) (others q apart) (h.each q))

    -- the party makes these events, and nobody else stands elsewhere
    pub goes_on : InOneOrder appends (all_by p es) (parts_of c h.listening n m, h.woken) (parts_of c' listening n' m', woken)
        → Leads form (standing_of views p) es (standing_of views' p)
        → ((q : ℕ) → q ≢ p → with_own nothing (standing_of views' q) ≡ with_own nothing (standing_of views q))
        → LieWithSeats views' listening n' m'
        → IsChannelHistory form views' c' n' m'
    goes_on order mine others lie = record {
      events = h.events ++ all_by p es;
      listening = listening;
      woken = woken;
      order = order_on h.events (all_by p es) _ _ _ h.order order;
      each = λ q. each_now mine others q (ℕ_discrete q p);
      lie = lie;
    }

module _ {T W : Type 0} (form : QueueForm) (views views' : List (Standing T W)) (c : Contents T) (n m : ℕ) (h : IsChannelHistory form views c n m) where
  -- nobody stands elsewhere
  pub moved : ((q : ℕ) → with_own nothing (standing_of views' q) ≡ with_own nothing (standing_of views q)) → LieWithSeats views' h.listening n m
      → IsChannelHistory form views' c n m
  moved bare lie = record {
    events = h.events;
    listening = h.listening;
    woken = h.woken;
    order = h.order;
    each = λ q. leads_same form _ (standing_of views q) (standing_of views' q) (bare q) (h.each q);
    lie = lie;
  }
