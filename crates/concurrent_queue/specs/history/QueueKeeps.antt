-- Each kind of step of a queue's machine keeps its history. It is proved here, and not beside the other proofs, since what an impl says can
-- cite no proof of its own crate.
use Rattle.std.proofs.Common.{◌≡◌, ◌≢◌, ℕ, zero, suc, ◌≤◌, ◌<◌, ◌==◌, Bool, true, false, ◌⊎◌, inl, inr, List, [], ◌∷◌, ◌++◌, length, set, if◌then◌else◌, refl, sym, ap, ◌∙◌, subst, arith, ⊎_elim, eq-eqb, ne_eqb, length-set, append-nil}
use mathlib.Core.Option.{some, some-injective, some-ne-none}
use lib.ListN.{get_elem?}
use Rattle.std.specs.Prelude.{Option, None, Some}
use Rattle.atomic_table.proofs.Lists.{at_set, set_else}
use Rattle.concurrent_queue.specs.Bridge.{Event, Happening, begins, does, left_under_way, own, Changes, InOneOrder}
use Rattle.concurrent_queue.specs.Contents.{Contents}
use Rattle.concurrent_queue.specs.Made.{new_cells}
use Rattle.concurrent_queue.specs.Deeds.{Notes}
use Rattle.concurrent_queue.specs.Walked.{CallMakes}
use Rattle.concurrent_queue.specs.declared.cells.QueueForm.{QueueForm}
use Rattle.concurrent_queue.specs.declared.queue_call.QueueCall.{QueueCall}
use Rattle.concurrent_queue.specs.history.Calls.{CallsMayMove, CallsAreLed}
use Rattle.concurrent_queue.specs.history.History.{Walks, IsHistory}
use Rattle.concurrent_queue.specs.history.Keeps.{KeepsHistory}
use Rattle.concurrent_queue.specs.history.Runs.{fresh, after_step, moves, enters, turns, counts, both, left, parts, calls, history}
use Rattle.concurrent_queue.specs.declared.history.party.Standing.{Standing}
use Rattle.concurrent_queue.specs.declared.history.rule.View.{View}

module _ {T : Type 0} where
  abbrev pub by : ℕ → Event T → Happening T
  by p e = record { party = p; event = e }

  if_more : (b : Bool) (e : Event T) (l m : List (Event T)) → (if b then e ∷ (l ++ m) else (l ++ m)) ≡ ((if b then e ∷ l else l) ++ m)
  if_more true e l m = refl
  if_more false e l m = refl

  own_more : (p : ℕ) (xs ys : List (Happening T)) → own p (xs ++ ys) ≡ own p xs ++ own p ys
  own_more p [] ys = refl
  own_more p (x ∷ xs) ys = ap (λ (l : List (Event T)). if x.party == p then x.event ∷ l else l) (own_more p xs ys) ∙ if_more (x.party == p) x.event (own p xs) (own p ys)

  own_mine : (p : ℕ) (xs : List (Happening T)) (e : Event T) → own p (xs ++ by p e ∷ []) ≡ own p xs ++ e ∷ []
  own_mine p xs e = own_more p xs (by p e ∷ []) ∙ ap (λ (b : Bool). own p xs ++ (if b then e ∷ [] else [])) (eq-eqb p p refl)

  own_other : (p q : ℕ) (xs : List (Happening T)) (e : Event T) → q ≢ p → own p (xs ++ by q e ∷ []) ≡ own p xs
  own_other p q xs e apart = own_more p xs (by q e ∷ []) ∙ (ap (λ (b : Bool). own p xs ++ (if b then e ∷ [] else [])) (ne_eqb q p apart) ∙ append-nil (own p xs))

  order_more : (xs : List (Happening T)) (x : Happening T) (c e f : Contents T) → InOneOrder xs c e → Changes x.event e f → InOneOrder (xs ++ x ∷ []) c f
  order_more [] x c e f o h = (f, subst (λ (y : Contents T). Changes x.event y f) o h, refl)
  order_more (y ∷ ys) x c e f o h = (o.0, o.1, order_more ys x o.0 e f o.2 h)

-- ---- lists of views

module _ {V : Type 0} where
  there : (l : List V) (i : ℕ) (v : V) → get_elem? l i ≡ some v → i < length l
  there [] i v e = absurd (some-ne-none v (sym e))
  there (x ∷ xs) zero v e = omega arith
  there (x ∷ xs) (suc i) v e = let h = there xs i v e in omega arith

  -- where a list that is one longer has something
  pub at_end : (l : List V) (w v : V) (q : ℕ) → get_elem? (l ++ w ∷ []) q ≡ some v → ((q ≡ length l) × (w ≡ v)) ⊎ (get_elem? l q ≡ some v)
  at_end [] w v zero e = inl (refl, some-injective w v e)
  at_end [] w v (suc q) e = absurd (some-ne-none v (sym e))
  at_end (x ∷ xs) w v zero e = inr e
  at_end (x ∷ xs) w v (suc q) e = ⊎_elim (λ (t : (q ≡ length xs) × (w ≡ v)). inl (ap suc t.0, t.1)) (λ (t : get_elem? xs q ≡ some v). inr t) (at_end xs w v q e)

  longer : (l : List V) (w : V) → length (l ++ w ∷ []) ≡ suc (length l)
  longer [] w = refl
  longer (x ∷ xs) w = ap suc (longer xs w)

  last_there : (l : List V) (v : V) → get_elem? (l ++ v ∷ []) (length l) ≡ some v
  last_there [] v = refl
  last_there (x ∷ xs) v = last_there xs v

  last_set : (l : List V) (v w : V) → set (l ++ v ∷ []) (length l) w ≡ l ++ w ∷ []
  last_set [] v w = refl
  last_set (x ∷ xs) v w = ap (λ (ys : List V). x ∷ ys) (last_set xs v w)

module _ {T A : Type 0} (goes : QueueForm → A → Event T → A → Type 0) (form : QueueForm) where
  walks_more : (a b c : A) (es : List (Event T)) (e : Event T) → Walks goes form a es b → goes form b e c → Walks goes form a (es ++ e ∷ []) c
  walks_more a b c [] e w m = (c, subst (λ (y : A). goes form y e c) w m, refl)
  walks_more a b c (x ∷ xs) e w m = (w.0, w.1, walks_more w.0 b c xs e w.2 m)

  module _ (first : A) where
    abbrev H : List (View T A) → Contents T → Type 0
    H = IsHistory goes first form

    -- THE STEP: an event that the cells answer and the party's machine makes
    more : (views : List (View T A)) (p : ℕ) (v w : View T A) (e : Event T) (c d : Contents T) → H views c → get_elem? views p ≡ some v → Changes e c d → goes form v.state e w.state → H (set views p w) d
    more views p v w e c d h at done made = record {
      events = h.events ++ by p e ∷ [];
      order = order_more h.events (by p e) _ c d h.order done;
      each = λ q u f. ⊎_elim
          (λ (t : (q ≡ p) × (w ≡ u)).
          subst (λ (k : ℕ). Walks goes form first (own k (h.events ++ by p e ∷ [])) u.state) (sym t.0)
          (subst (λ (es : List (Event T)). Walks goes form first es u.state) (sym (own_mine p h.events e))
          (subst (λ (y : View T A). Walks goes form first (own p h.events ++ e ∷ []) y.state) t.1
          (walks_more first v.state w.state (own p h.events) e (h.each p v at) made))))
          (λ (t : (q ≢ p) × (get_elem? views q ≡ some u)).
          subst (λ (es : List (Event T)). Walks goes form first es u.state) (sym (own_other q p h.events e (λ z. t.0 (sym z)))) (h.each q u t.1))
          (at_set views p q w u f);
      apart = λ q far.
          let far' : length views ≤ q = subst (λ (n : ℕ). n ≤ q) (length-set views p w) far in
          let near : p < length views = there views p v at in
          let differ : p ≢ q = (λ z. let z' : p ≡ q = z in let x : ℕ = length views in let f : x ≤ q = far' in let n : p < x = near in absurd (omega arith)) in
          own_other q p h.events e differ ∙ h.apart q far';
    }

    -- no event: a view that says no more of where its party stands
    same : (views : List (View T A)) (p : ℕ) (v w : View T A) (c : Contents T) → H views c → get_elem? views p ≡ some v → w.state ≡ v.state → H (set views p w) c
    same views p v w c h at e = record {
      events = h.events;
      order = h.order;
      each = λ q u f. ⊎_elim
          (λ (t : (q ≡ p) × (w ≡ u)).
          subst (λ (k : ℕ). Walks goes form first (own k h.events) u.state) (sym t.0)
          (subst (λ (y : A). Walks goes form first (own p h.events) y) (sym e ∙ ap (λ (y : View T A). y.state) t.1) (h.each p v at)))
          (λ (t : (q ≢ p) × (get_elem? views q ≡ some u)). h.each q u t.1)
          (at_set views p q w u f);
      apart = λ q far. h.apart q (subst (λ (n : ℕ). n ≤ q) (length-set views p w) far);
    }

    -- a seat more, whose party has done nothing
    arrives : (views : List (View T A)) (w : View T A) (c : Contents T) → H views c → w.state ≡ first → H (views ++ w ∷ []) c
    arrives views w c h fresh = record {
      events = h.events;
      order = h.order;
      each = λ q u f. ⊎_elim
          (λ (t : (q ≡ length views) × (w ≡ u)).
          let n : ℕ = length views in let e : q ≡ n = t.0 in let far : n ≤ q = omega arith in
          subst (λ (es : List (Event T)). Walks goes form first es u.state) (sym (h.apart q far)) (ap (λ (y : View T A). y.state) (sym t.1) ∙ fresh))
          (λ (t : get_elem? views q ≡ some u). h.each q u t)
          (at_end views w u q f);
      apart = λ q far.
          let n : ℕ = length views in let l : ℕ = length (views ++ w ∷ []) in let e : l ≡ suc n = longer views w in let f : l ≤ q = far in
          let near : n ≤ q = omega arith in h.apart q near;
    }

    -- a seat more, whose party makes this event, of which the cells notice nothing
    enters_so : (views : List (View T A)) (v w : View T A) (e : Event T) (c : Contents T) → H views c → v.state ≡ first → Changes e c c → goes form v.state e w.state → H (views ++ w ∷ []) c
    enters_so views v w e c h fresh done made =
        subst (λ (l : List (View T A)). H l c) (last_set views v w) (more (views ++ v ∷ []) (length views) v w e c c (arrives views v c h fresh) (last_there views v) done made)

    -- a new table: nobody has done anything
    opens : (v : View T A) → v.state ≡ first → H (v ∷ []) (new_cells form)
    opens v fresh = record {
      events = [];
      order = refl;
      each = λ p u e. first_of p u e;
      apart = λ p far. refl;
    }
      where
        first_of : (p : ℕ) (u : View T A) → get_elem? (v ∷ []) p ≡ some u → u.state ≡ first
        first_of zero u e = ap (λ (y : View T A). y.state) (sym (some-injective v u e)) ∙ fresh
        first_of (suc p) u e = absurd (some-ne-none u (sym e))

-- ---- the queue's own machine

module _ {T : Type 0} where
  comes : (form : QueueForm) (views : List (View T (Standing T))) (c : Contents T) (w : View T (Standing T)) → IsHistory moves fresh form views c → enters form w.state → IsHistory moves fresh form (views ++ w ∷ []) c
  comes form views c w h (inl is) = arrives moves form fresh views w c h is
  comes form views c w h (inr (a, made)) = enters_so moves form fresh views (record w { state = fresh }) w (begins a) c h refl refl made

  pub queue_keeps : KeepsHistory {T = T} {A = Standing T} moves enters turns counts both left parts fresh 0 history
  queue_keeps = record {
    opens = λ form v has is. opens moves form fresh v is;
    same = λ form views c t p v w h at is. same moves form fresh views p v w c h at is;
    arrives = λ form views c t w h goes. comes form views c w h goes;
    more = λ form views c d t p v w o h at done made. more moves form fresh views p v w (does (Some o)) c d h at done made;
    turned = λ form views c t p v w h at made. more moves form fresh views p v w (begins made.0) c c h at refl made.1;
    counts_on = λ form views c t p v w which op h at never small. absurd never;
    joined = λ form views c t p q v w v' w' h at there two is stays.
        same moves form fresh (set views p v') q w w' c (same moves form fresh views p v v' c h at is) (set_else views p q v' two ∙ there) stays;
    parted = λ form views c t p v v' w h at never. absurd never;
  }

  -- ---- a party whose call is under way makes what its call makes next, and goes on as that does

  pub queue_may : CallsMayMove {T = T} {A = Standing T} moves calls
  queue_may form s call next d reply under made = (after_step s next reply, (call, next, reply, under, made, refl))

  or_that : QueueCall T → Option (QueueCall T) → QueueCall T
  or_that c (Some x) = x
  or_that c None = c

  same_call : (x y : QueueCall T) → Some x ≡ Some y → x ≡ y
  unfolding or_that
  same_call x y e = ap (or_that x) e

  pub queue_led : CallsAreLed {T = T} {A = Standing T} moves calls
  queue_led form s t call d under (begun, next, reply, was, made, is) = (
    next,
    reply,
    subst (λ (c : QueueCall T). CallMakes Notes form None c (Some d) next reply) (same_call begun call (sym was ∙ under)) made,
    λ none. ap (λ (z : Standing T). z.call) is ∙ ap (left_under_way next) none,
  )
