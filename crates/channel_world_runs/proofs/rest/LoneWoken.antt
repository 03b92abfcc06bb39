-- A call that was made alone leaves those that were woken in the order in which the model leaves them.
use Rattle.std.specs.Prelude.{◌≡◌, ◌≤◌, ◌+◌, ◌∷◌, ◌++◌, ◌⊎◌}
use Rattle.channel_world_runs.proofs.Lemmas.{arith, List, [], Bool, true, false, not, cond, Option, None, Some, inl, inr, refl, sym, ap, subst, ◌∙◌, false_from_ne_true, filter, filter-append, append_assoc, append-nil, option_map_or, Key, ListenerRef, Outcome, count_append, among_counts, among_self, or_right, same_sound, decided, without_absent, times, same_waiter, is_among, without_waiter, Call, Waiter, Op, Stream, asks, on_return_of, names_begun, all_woken, order_begun, order_settled, WakeOrder, IsAmong, waits, free, status, is_name_pending, names_of, OnReturn, NameTable, order_alone, but_for, NameState, Configuration, WorldInvariant, keeper_in, subject, Admitted, IsBusy, Keeps, Ordered, Quiet, Touches, Sane, held_in, among_is, is_there, is_out, stays_among, in_last, next, all_come}
use Rattle.channel_world_runs.proofs.OwnerCalls.{BeginsSo, begins_so}
use Rattle.channel_world_runs.proofs.OwnerRuns.{inner}
use Rattle.channel_world_runs.proofs.OwnerWoken.{waits_pending, pending_waits}
use Rattle.channel_world_runs.proofs.OwnerSteps.{busy_waits}

-- ---- lists without a name

pub but_append : (k : Option Waiter) (xs ys : List Waiter) → but_for k (xs ++ ys) ≡ but_for k xs ++ but_for k ys
but_append None xs ys = refl
but_append (Some w) xs ys = filter-append (λ v. not (same_waiter w v)) xs ys

-- what is left of all that were woken
pub left_of : (k : Option Waiter) (told : List Waiter)
    → but_for k told ≡ option_map_or (λ (w : Waiter). without_waiter w told) k told
left_of None told = refl
left_of (Some w) told = refl

not_twice : (w : Waiter) (xs ys : List Waiter) → times w (xs ++ w ∷ ys) ≤ 1 → is_among w xs ≡ false
not_twice w xs ys h = false_from_ne_true (is_among w xs) (λ t.
    let one : 1 ≤ times w xs = among_counts w xs t in
    let other : 1 ≤ times w (w ∷ ys) = among_counts w (w ∷ ys) (among_self w ys) in
    let both : times w (xs ++ w ∷ ys) ≡ times w xs + times w (w ∷ ys) = count_append (same_waiter w) xs (w ∷ ys) in
    absurd (omega (arith, h, one, other, both)))

absent : (w : Waiter) (ws : List Waiter) → (IsAmong w ws → ⊥) → without_waiter w ws ≡ ws
absent w ws out = without_absent w ws (false_from_ne_true (is_among w ws) (λ t. out (among_is w ws t)))

-- a test that all pass but this one, if there is one
passing : (k : Option Waiter) (f : Waiter → Bool) (ws : List Waiter) → ((v : Waiter) → is_among v (but_for k ws) ≡ true → f v ≡ true)
    → ((v : Waiter) → k ≡ Some v → f v ≡ false) → filter f ws ≡ but_for k ws
passing None f [] all own = refl
passing None f (x ∷ xs) all own =
    let on = passing None f xs (λ v i. all v (or_right (same_waiter v x) (is_among v xs) i)) own in
    rw (all x (among_self x xs)) (ap (λ (ys : List Waiter). x ∷ ys) on)
passing (Some w) f [] all own = refl
passing (Some w) f (x ∷ xs) all own = elim (decided (same_waiter w x)) [
  | inl t ↦
      let off : f x ≡ false = ap f (sym (same_sound w x t)) ∙ own w refl in
      let on = passing (Some w) f xs (λ v i. all v (rw t i)) own in rw (off, t) on
  | inr t ↦
      let first : f x ≡ true = all x (rw t (among_self x (without_waiter w xs))) in
      let on = passing (Some w) f xs (λ v i. all v (rw t (or_right (same_waiter v x) (is_among v (without_waiter w xs)) i))) own in
      rw (first, t) (ap (λ (ys : List Waiter). x ∷ ys) on)
]

-- ---- those that are woken come last

module _ {T : Type 0} where
  abbrev HavePlaces : NameTable T → WakeOrder → Type 0
  HavePlaces r o = (v : Waiter) → is_name_pending r v ≡ true → IsAmong v o.places

  abbrev wakes : NameTable T → List Waiter → List Waiter
  wakes r ns = filter (is_name_pending r) ns

  abbrev ComeLast : NameTable T → List Waiter → WakeOrder → Type 0
  ComeLast r ns o =
      HavePlaces r o → ((v : Waiter) → times v (o.woken ++ wakes r ns) ≤ 1) → (all_woken r ns o).woken ≡ o.woken ++ wakes r ns

  all_last : (r : NameTable T) (ns : List Waiter) (o : WakeOrder) → ComeLast r ns o
  all_last r [] o places once = sym (append-nil o.woken)
  all_last r (w ∷ ns) o places once = by (is_name_pending r w) (is_among w o.places) refl refl once (λ p. all_last r ns p)
    where
      by : (p b : Bool) → is_name_pending r w ≡ p → is_among w o.places ≡ b
          → ((v : Waiter) → times v (o.woken ++ cond p (w ∷ wakes r ns) (wakes r ns)) ≤ 1)
          → ((o' : WakeOrder) → ComeLast r ns o')
          → (all_woken r ns (next p b w o)).woken ≡ o.woken ++ cond p (w ∷ wakes r ns) (wakes r ns)
      by true true e f once on =
          let same : without_waiter w o.woken ≡ o.woken = without_absent w o.woken (not_twice w o.woken (wakes r ns) (once w)) in
          let then : WakeOrder = next true true w o in
          let joined : then.woken ++ wakes r ns ≡ o.woken ++ w ∷ wakes r ns =
          ap (λ (xs : List Waiter). (xs ++ w ∷ []) ++ wakes r ns) same ∙ append_assoc o.woken (w ∷ []) (wakes r ns) in
          on then (λ v q. in_last w v o.places (places v q))
          (λ v. subst (λ (xs : List Waiter). times v xs ≤ 1) (sym joined) (once v))
          ∙ joined
      by true false e f once on = absurd (let no : true ≡ false = sym (is_there w o.places (places w e)) ∙ f in cc)
      by false b e f once on = on o places once

  -- ---- as a call ends

  settled_same : (e : OnReturn T) (key : Option Key) (o : WakeOrder) → ((w : Waiter) → subject e ≡ Some w → IsAmong w o.woken → ⊥)
      → (order_settled e key o).woken ≡ o.woken
  settled_same (OnReturn.Poll op) None o out = absent (Op op) o.woken (out (Op op) refl)
  settled_same (OnReturn.PollNext receiver) None o out = absent (Stream receiver) o.woken (out (Stream receiver) refl)
  settled_same (OnReturn.Poll op) (Some key) o out = refl
  settled_same (OnReturn.PollNext receiver) (Some key) o out = refl
  settled_same e key o out = refl

  -- ---- any call

  module _ (b : NameState T) (s : Configuration T Waiter) (kept : WorldInvariant b s) (c : Call T) (fine : Admitted b.name_table c) where
    abbrev r : NameTable T
    r = b.name_table

    abbrev begun : NameTable T
    begun = names_begun r c

    abbrev then : WakeOrder
    then = order_begun c b.order

    abbrev own : Option Waiter
    own = keeper_in (names_of r) c

    sane : Sane r
    sane = let o = kept.owned in o.none_amiss

    pending_then : (v : Waiter) → IsAmong v b.order.woken → (h : ListenerRef) × (status r v ≡ waits h)
    pending_then = let w = kept.woken in w.pending

    placed_then : (v : Waiter) (h : ListenerRef) → status r v ≡ waits h → IsAmong v b.order.places
    placed_then v h e = let w = kept.woken in w.placed v (inl (h, e))

    -- How the call begins for those that were woken: the own name is not among them any more. Whoever is pending then has a place,
    -- and any other than the own name that was pending is; the own name isn't, nor the one at which the call works, which wasn't
    -- woken either.
    record Begun : Type 0 where
      pub woken : then.woken ≡ but_for own b.order.woken
      pub places : HavePlaces begun then
      pub others : (v : Waiter) (h : ListenerRef) → status r v ≡ waits h → (own ≡ Some v → ⊥) → is_name_pending begun v ≡ true
      pub off : (v : Waiter) → own ≡ Some v → is_name_pending begun v ≡ false
      pub away : (v : Waiter) → subject (on_return_of r c) ≡ Some v → (is_name_pending begun v ≡ false) × (IsAmong v then.woken → ⊥)

    quiet : Quiet (status r) (status begun) own (on_return_of r c) (asks r c) (order_begun c) → Begun
    quiet k =
        record {
          woken = ap (λ (o : WakeOrder). o.woken) (k.order b.order) ∙ ap (λ (x : Option Waiter). but_for x b.order.woken) (sym k.keeps);
          places = λ v e.
              let h = pending_waits begun v (λ bad. sane v (sym (k.same v) ∙ bad)) e in
              subst (λ (o : WakeOrder). IsAmong v o.places) (sym (k.order b.order)) (placed_then v h.0 (sym (k.same v) ∙ h.1));
          others = λ v h e other. waits_pending begun v h (k.same v ∙ e);
          off = λ v e. absurd (let no : None ≡ Some v = sym k.keeps ∙ e in cc);
          away = λ v e. absurd (let no : None ≡ Some v = sym k.nobody ∙ e in cc);
        }

    touching : Touches (status r) (status begun) own (on_return_of r c) (asks r c) (order_begun c) → Begun
    touching k = record { woken = left k.keeps k.order; places = places; others = others; off = off; away = away }
      where
        now_off : is_name_pending begun k.name ≡ false
        now_off = false_from_ne_true (is_name_pending begun k.name) (λ e.
            let busy : IsBusy (status begun k.name) = subst IsBusy (sym k.sets.there) k.busy in
            let h = pending_waits begun k.name (λ bad. subst IsBusy bad busy) e in
            busy_waits (status begun k.name) h.0 busy h.1)

        not_name : (v : Waiter) → is_name_pending begun v ≡ true → v ≡ k.name → ⊥
        not_name v e same = absurd (let no : true ≡ false = sym e ∙ (ap (is_name_pending begun) same ∙ now_off) in cc)

        -- a name that isn't pending was not woken
        unheld : held_in (status r k.name) ≡ None → IsAmong k.name b.order.woken → ⊥
        unheld none i = let h = pending_then k.name i in absurd (let no : None ≡ Some h.0 = sym none ∙ ap held_in h.1 in cc)

        of_free : status r k.name ≡ free → held_in (status r k.name) ≡ None
        of_free e = ap held_in e

        without : Keeps own k.name (status r k.name) → without_waiter k.name b.order.woken ≡ but_for own b.order.woken
        without (inl e) = ap (λ (x : Option Waiter). but_for x b.order.woken) (sym e)
        without (inr e) = absent k.name b.order.woken (unheld e.1) ∙ ap (λ (x : Option Waiter). but_for x b.order.woken) (sym e.0)

        left : Keeps own k.name (status r k.name) → Ordered k.name (status r k.name) k.now (order_begun c) → then.woken ≡ but_for own b.order.woken
        left keeps (inl x) = ap (λ (o : WakeOrder). o.woken) (x.2 b.order)
            ∙ (sym (absent k.name b.order.woken (unheld (of_free x.0))) ∙ without keeps)
        left keeps (inr (inl x)) = ap (λ (o : WakeOrder). o.woken) (x b.order) ∙ without keeps
        left keeps (inr (inr x)) = ap (λ (o : WakeOrder). o.woken) (x.1 b.order) ∙ without keeps

        stays : (v : Waiter) → (v ≡ k.name → ⊥) → IsAmong v b.order.places
            → Ordered k.name (status r k.name) k.now (order_begun c) → IsAmong v then.places
        stays v other i (inl x) = subst (λ (o : WakeOrder). IsAmong v o.places) (sym (x.2 b.order)) i
        stays v other i (inr (inl x)) =
            subst (λ (o : WakeOrder). IsAmong v o.places) (sym (x b.order)) (inr (stays_among k.name v b.order.places other i))
        stays v other i (inr (inr x)) =
            subst (λ (o : WakeOrder). IsAmong v o.places) (sym (x.1 b.order)) (stays_among k.name v b.order.places other i)

        places : HavePlaces begun then
        places v e =
            let other = not_name v e in
            let same = k.sets.others v other in
            let h = pending_waits begun v (λ bad. sane v (sym same ∙ bad)) e in
            stays v other (placed_then v h.0 (sym same ∙ h.1)) k.order

        -- a name of which the listener isn't kept is another, if it was pending
        apart : (v : Waiter) (h : ListenerRef) → status r v ≡ waits h → (own ≡ Some v → ⊥) → Keeps own k.name (status r k.name)
            → v ≡ k.name → ⊥
        apart v h e other (inl x) same = other (x ∙ ap (λ (w : Waiter). let o : Option Waiter = Some w in o) (sym same))
        apart v h e other (inr x) same =
            absurd (let no : None ≡ Some h = sym x.1 ∙ (ap (λ (w : Waiter). held_in (status r w)) (sym same) ∙ ap held_in e) in cc)

        others : (v : Waiter) (h : ListenerRef) → status r v ≡ waits h → (own ≡ Some v → ⊥) → is_name_pending begun v ≡ true
        others v h e other = waits_pending begun v h (k.sets.others v (apart v h e other k.keeps) ∙ e)

        off : (v : Waiter) → own ≡ Some v → is_name_pending begun v ≡ false
        off v e = by k.keeps
          where
            by : Keeps own k.name (status r k.name) → is_name_pending begun v ≡ false
            by (inl x) = ap (is_name_pending begun) (inner v k.name (sym e ∙ x)) ∙ now_off
            by (inr x) = absurd (let no : None ≡ Some v = sym x.0 ∙ e in cc)

        gone : Keeps own k.name (status r k.name) → IsAmong k.name (but_for own b.order.woken) → ⊥
        gone (inl x) i = is_out k.name b.order.woken (subst (λ (o : Option Waiter). IsAmong k.name (but_for o b.order.woken)) x i)
        gone (inr x) i = unheld x.1 (subst (λ (o : Option Waiter). IsAmong k.name (but_for o b.order.woken)) x.0 i)

        away : (v : Waiter) → subject (on_return_of r c) ≡ Some v → (is_name_pending begun v ≡ false) × (IsAmong v then.woken → ⊥)
        away v e = by k.whose
          where
            by : (subject (on_return_of r c) ≡ None) ⊎ (subject (on_return_of r c) ≡ Some k.name)
                → (is_name_pending begun v ≡ false) × (IsAmong v then.woken → ⊥)
            by (inl none) = absurd (let no : None ≡ Some v = sym none ∙ e in cc)
            by (inr some) =
                let same : v ≡ k.name = inner v k.name (sym e ∙ some) in (
                  ap (is_name_pending begun) same ∙ now_off,
                  λ i. gone k.keeps (subst (λ (ws : List Waiter). IsAmong k.name ws) (left k.keeps k.order)
                      (subst (λ (w : Waiter). IsAmong w then.woken) same i)),
                )

    begins : Begun
    begins = by (begins_so r c sane fine)
      where
        by : BeginsSo r c → Begun
        by (inl k) = quiet k
        by (inr k) = touching k

    -- each that was woken when the call began is woken after it, and then those that it woke, in order, but for its own name
    pub woken_follows : (o : Outcome T Waiter)
        → ((v : Waiter) → is_among v (but_for own o.woken) ≡ true → (h : ListenerRef) × (status r v ≡ waits h))
        → ((v : Waiter) → times v (but_for own (b.order.woken ++ o.woken)) ≤ 1)
        → (order_alone r c o.kept o.woken b.order).woken ≡ but_for own (b.order.woken ++ o.woken)
    woken_follows o named once =
        settled_same (on_return_of r c) o.kept.key (all_woken begun o.woken then) nobody ∙ (last ∙ joined)
      where
        g : Begun
        g = begins

        another : (k : Option Waiter) (v : Waiter) → is_among v (but_for k o.woken) ≡ true → k ≡ Some v → ⊥
        another None v i e = absurd (let no : None ≡ Some v = e in cc)
        another (Some w) v i e = is_out v o.woken
            (subst (λ (x : Waiter). IsAmong v (without_waiter x o.woken)) (inner w v e) (among_is v (without_waiter w o.woken) i))

        those : wakes begun o.woken ≡ but_for own o.woken
        those =
            passing own (is_name_pending begun) o.woken
            (λ v i. let h = named v i in g.others v h.0 h.1 (another own v i)) g.off

        joined : then.woken ++ wakes begun o.woken ≡ but_for own (b.order.woken ++ o.woken)
        joined =
            ap (λ (ws : List Waiter). ws ++ wakes begun o.woken) g.woken
            ∙ (ap (λ (ws : List Waiter). but_for own b.order.woken ++ ws) those ∙ sym (but_append own b.order.woken o.woken))

        last : (all_woken begun o.woken then).woken ≡ then.woken ++ wakes begun o.woken
        last =
            all_last begun o.woken then g.places
            (λ v. subst (λ (ws : List Waiter). times v ws ≤ 1) (sym joined) (once v))

        nobody : (w : Waiter) → subject (on_return_of r c) ≡ Some w → IsAmong w (all_woken begun o.woken then).woken → ⊥
        nobody w e i = by (all_come begun o.woken w then i)
          where
            by : IsAmong w then.woken ⊎ (IsAmong w o.woken × (is_name_pending begun w ≡ true)) → ⊥
            by (inl j) = (g.away w e).1 j
            by (inr (j, p)) = absurd (let no : true ≡ false = sym p ∙ (g.away w e).0 in cc)
