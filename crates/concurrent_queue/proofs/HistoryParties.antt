-- A party comes, turns, is told its number, is joined into another's view, is taken in, or gets some of what another has: each keeps the
-- rule.
use Rattle.std.proofs.Common.{◌≡◌, ◌≢◌, ℕ, inl, inr, ⊎_elim, Bool, true, false, List, [], ◌∷◌, ◌++◌, length, map, set, refl, sym, ap, ◌∙◌, subst}
use Rattle.std.proofs.lemmas.List.{map-append}
use Rattle.std.specs.Prelude.{Option, None, Some, slice_index}
use mathlib.Core.Option as home
use mathlib.Core.Logic.{dite}
use native.Mathlib.Decide.{ℕ_discrete}
use lib.ListN.{get_elem?}
use Rattle.atomic_table.specs.Table.{step, keeps, carried_after, Allows, Enters, Joins, Splits}
use Rattle.atomic_table.proofs.Lists as lists
use Rattle.atomic_table.proofs.Lists.{at_set}
use Rattle.concurrent_queue.specs.Bridge.{Event}
use Rattle.concurrent_queue.specs.machine.Guarded.{IsGuarded}
use Rattle.concurrent_queue.specs.declared.cells.QueueForm.{QueueForm}
use Rattle.concurrent_queue.specs.history.Keeps.{HistoryOf, KeepsHistory}
use Rattle.concurrent_queue.specs.history.QueueKeeps.{at_end}
use Rattle.concurrent_queue.specs.history.Shared as rule
use Rattle.concurrent_queue.specs.history.Shared.{TableState, Seated, contents, going_on, slot_in, slot_out, guarded, flag_at, flag_in, tally_in, IsKept, IsRuled}
use Rattle.concurrent_queue.specs.declared.history.rule.Counter.{Counter}
use Rattle.concurrent_queue.specs.declared.history.rule.CountStep.{CountStep}
use Rattle.concurrent_queue.specs.declared.history.rule.View.{View}
use Rattle.concurrent_queue.proofs.Guarding as guards
use Rattle.concurrent_queue.proofs.HistorySeats as seats
use Rattle.concurrent_queue.proofs.HistorySeats.{IsNamed}
use Rattle.concurrent_queue.proofs.HistorySteps as steps

none_some : {X : Type 0} (x : X) → None ≢ Some x
none_some x e = absurd (cc)

module _ {T A : Type 0} {moves : QueueForm → A → Event T → A → Type 0} {enters : QueueForm → A → Type 0} {turns : QueueForm → A → A → Type 0} {counts : QueueForm → A → A → Counter → CountStep → ℕ → Type 0} {both : A → A → A} {left : A → A} {parts : QueueForm → A → A → A → Type 0} {opened : A} {counted : ℕ} {is_history : HistoryOf T A} (laws : KeepsHistory moves enters turns counts both left parts opened counted is_history) (admits : Type 0) (form : QueueForm) where
  abbrev S : Type 0
  S = TableState T A

  abbrev M : Type 0
  M = Seated T A

  abbrev R : S → Type 0
  R = IsRuled is_history admits form

  abbrev K : S → Type 0
  K = IsKept is_history form

  abbrev H : List (View T A) → List ℕ → List (Option T) → Type 0
  H views ws values = is_history form views (contents form ws values) (tally_in form ws)

  -- ---- a new seat

  -- a seat more, of a party that holds no slot and may act
  comes_in : (s : S) (w : View T A) → R s → IsNamed (length s.views) w → w.form ≡ form → w.held ≡ None → w.over ≡ [] → (w.foreign ≡ true → flag_in form s ≢ 0)
      → ((admits → flag_in form s ≡ 0) → (q : K s) → H (s.views ++ w ∷ []) s.words q.values)
      → R record { words = s.words; homes = s.homes; views = s.views ++ w ∷ [] }
  comes_in s w r who kind holds over strange h = record {
    has = r.has;
    slots = r.slots;
    words = r.words;
    guards = subst (λ (vs : List (Option ℕ)). IsGuarded {T = T} record { words = s.words; homes = s.homes; views = vs })
        (ap (λ (o : Option ℕ). map slot_out s.views ++ o ∷ []) (sym (ap slot_in holds)) ∙ sym (map-append slot_out s.views (w ∷ []))) (guards.sits (guarded s) r.guards);
    seated = seats.seats_more form (flag_in form s) s.views w who kind over strange r.seated;
    kept = λ zero.
        let q = r.kept zero in
        record {
          values = q.values;
          count = q.count;
          at_home = q.at_home;
          away = λ j u l z f held. ⊎_elim
              (λ (t : (j ≡ length s.views) × (w ≡ u)). absurd (none_some (l, z) (sym holds ∙ (ap (λ (y : View T A). y.held) t.1 ∙ held))))
              (λ (t : get_elem? s.views j ≡ home.some u). q.away j u l z t held)
              (at_end s.views w u j f);
          history = h zero q;
        };
  }

  -- what a new seat's view says
  abbrev newcomer : ℕ → A → Bool → View T A
  newcomer n a strange = record { who = n; nameless = false; form = form; state = a; held = None; foreign = strange; over = []; spent = false }

  arrives : (s : S) (a : A) (strange : Bool) → enters form a → (q : K s) → H (s.views ++ newcomer (length s.views) a strange ∷ []) s.words q.values
  arrives s a strange go q = laws.arrives form s.views (contents form s.words q.values) (tally_in form s.words) (newcomer (length s.views) a strange) q.history go

  pub enters_so : (slots k : ℕ) (m0 : M) (a : A) → m0.0.form ≡ form → enters form a → Enters R slots k (λ n w. rule.enters a (step slots k 0 0 home.none) m0 n (w, []))
  enters_so slots k m0 a is go s r wide small = (
    newcomer (length s.views) a false,
    comes_in s (newcomer (length s.views) a false) r (λ _. refl) refl refl refl (λ e. absurd (seats.false_true e)) (λ zero q. arrives s a false go q),
    (refl, (sym is, refl, refl, refl, refl)),
  )

  -- a seat of no call; it is foreign where a foreign call was admitted before
  pub comes_so : (slots k : ℕ) (m0 : M) (a : A) → m0.0.form ≡ form → k ≡ flag_at form → enters form a → Enters R slots k (λ n w. rule.comes a (step slots k 0 0 home.none) m0 n (w, []))
  comes_so slots k m0 a is there go s r wide small =
      let found : slice_index s.words k ≡ flag_in form s = ap (slice_index s.words) there in
      dite (ℕ_discrete (slice_index s.words k) 0)
      (λ zero. (
        newcomer (length s.views) a false,
        comes_in s (newcomer (length s.views) a false) r (λ _. refl) refl refl refl (λ e. absurd (seats.false_true e)) (λ z q. arrives s a false go q),
        ((λ no. absurd (no zero)), refl, (sym is, refl, refl, refl, refl)),
      ))
      (λ some. (
        newcomer (length s.views) a true,
        comes_in s (newcomer (length s.views) a true) r (λ _. refl) refl refl refl (λ e z. some (found ∙ z)) (λ z q. arrives s a true go q),
        ((λ no. refl), refl, (sym is, refl, refl, refl, refl)),
      ))

  -- ---- a seat whose party goes on

  pub turns_so : (slots id k : ℕ) (me : M) (to : A → A) → me.0.spent ≡ false → turns me.0.form me.0.state (to me.0.state) → Allows R slots id me k (λ n. n) (rule.turns to (step slots k 0 0 home.none) me)
  turns_so slots id k me to live go s r wide at small =
      let w : View T A = going_on me.0 (to me.0.state) in (
        w,
        keeps,
        tt,
        steps.by_read laws admits form s id k me.0 w r at (λ z. z) refl (inl refl) refl live refl
            (λ q. laws.turned form s.views (contents form s.words q.values) (tally_in form s.words) id me.0 w q.history at (steps.of_form laws admits form s id me.0 (λ (f : QueueForm). turns f me.0.state w.state) r at go)),
        refl,
      )

  -- where it is said by a relation alone
  pub led_so : (slots id k : ℕ) (me : M) (to : A → A → Type 0) → me.0.spent ≡ false → (a : A) × turns me.0.form me.0.state a × to me.0.state a → Allows R slots id me k (λ n. n) (rule.led_by to (step slots k 0 0 home.none) me)
  led_so slots id k me to live (a, go, so) s r wide at small =
      let done = turns_so slots id k me (λ _. a) live go s r wide at small in
      let after : (done.0, carried_after me.1 done.1) ≡ (going_on me.0 a, me.1) = done.4 in
      (done.0, done.1, done.2, done.3, (subst (λ (m : Seated T A). to me.0.state m.0.state) (sym after) so, after ∙ ap (λ (m : Seated T A). (going_on me.0 m.0.state, me.1)) (sym after)))

  -- a view changes, and its party stands where it stood
  same : (s : S) (id : ℕ) (v w : View T A) → get_elem? s.views id ≡ home.some v → w.state ≡ v.state → (q : K s) → H (set s.views id w) s.words q.values
  same s id v w at is q = laws.same form s.views (contents form s.words q.values) (tally_in form s.words) id v w q.history at is

  -- a seat is told its number
  pub names_so : (slots id k : ℕ) (me : M) → me.0.spent ≡ false → Allows R slots id me k (λ n. n) (rule.names (step slots k 0 0 home.none) me)
  names_so slots id k me live s r wide at small = (
    rule.named_so me.0 id,
    keeps,
    tt,
    steps.by_read laws admits form s id k me.0 (rule.named_so me.0 id) r at (λ _ _. refl) refl (inl refl) refl live refl (same s id me.0 (rule.named_so me.0 id) at refl),
    (id, refl),
  )

  -- ---- two seats

  -- two views change, which hold what they held
  two_change : (s : S) (id other : ℕ) (v w x y : View T A) (r : R s) → get_elem? s.views id ≡ home.some v → get_elem? s.views other ≡ home.some w → other ≢ id → x.held ≡ v.held → y.held ≡ w.held
      → rule.AreSeated form (flag_in form s) (set (set s.views id x) other y) → ((q : K s) → H (set (set s.views id x) other y) s.words q.values)
      → R record { words = s.words; homes = s.homes; views = set (set s.views id x) other y }
  two_change s id other v w x y r at there two holds still seated h =
      let mid : get_elem? (set s.views id x) other ≡ home.some w = lists.set_else s.views id other x two ∙ there in
      let outs : map slot_out (set (set s.views id x) other y) ≡ map slot_out s.views =
      steps.views_same laws admits form (set s.views id x) other w y mid (ap slot_in still) ∙ steps.views_same laws admits form s.views id v x at (ap slot_in holds) in
      record {
        has = r.has;
        slots = r.slots;
        words = r.words;
        guards = subst (λ (vs : List (Option ℕ)). IsGuarded {T = T} record { words = s.words; homes = s.homes; views = vs }) (sym outs) r.guards;
        seated = seated;
        kept = λ zero.
            let q = r.kept zero in
            record {
              values = q.values;
              count = q.count;
              at_home = q.at_home;
              away = λ j u l z f held. ⊎_elim
                  (λ (t : (j ≡ other) × (y ≡ u)). q.away other w l z there (sym still ∙ (ap (λ (o : View T A). o.held) t.1 ∙ held)))
                  (λ (t : (j ≢ other) × (get_elem? (set s.views id x) j ≡ home.some u)). ⊎_elim
                  (λ (p : (j ≡ id) × (x ≡ u)). q.away id v l z at (sym holds ∙ (ap (λ (o : View T A). o.held) p.1 ∙ held)))
                  (λ (p : (j ≢ id) × (get_elem? s.views j ≡ home.some u)). q.away j u l z p.1 held)
                  (at_set s.views id j x u t.1))
                  (at_set (set s.views id x) other j y u f);
              history = h q;
            };
      }

  -- one party is joined into another's view
  pub joins_so : (id other : ℕ) (v w : View T A) → v.spent ≡ false → w.spent ≡ false → w.nameless ≡ false → Joins R id v other w (rule.both_views v w) (rule.spent_view w)
  joins_so id other v w live still named s r at two mid =
      let there : get_elem? s.views other ≡ home.some w = sym (lists.set_else s.views id other (rule.both_views v w) two) ∙ mid in
      two_change s id other v w (rule.both_views v w) (rule.spent_view w) r at there two refl refl (seats.seats_join form (flag_in form s) s.views id other v w at there two live still named r.seated)
      (λ q.
      laws.same form (set s.views id (rule.both_views v w)) (contents form s.words q.values) (tally_in form s.words) other w (rule.spent_view w) (same s id v (rule.both_views v w) at refl q) mid refl)

  -- one is taken in
  pub takes_in_so : (id other : ℕ) (v w : View T A) → v.spent ≡ false → w.spent ≡ false → Joins R id v other w (rule.taking_in both v w) (rule.left_view left w)
  takes_in_so id other v w live still s r at two mid =
      let x : View T A = rule.taking_in both v w in
      let y : View T A = rule.left_view left w in
      let f : ℕ = flag_in form s in
      let there : get_elem? s.views other ≡ home.some w = sym (lists.set_else s.views id other x two) ∙ mid in
      two_change s id other v w x y r at there two refl refl
      (seats.seats_step form f f (set s.views id x) other w y mid (λ z. z) refl (inr refl) still (λ n. n) (λ is. r.seated.admitted other w there is)
      (seats.seats_step form f f s.views id v x at (λ z. z) refl (inl refl) live (λ n. n) (λ is. r.seated.admitted id v at is) r.seated))
      (λ q. laws.joined form s.views (contents form s.words q.values) (tally_in form s.words) id other v w x y q.history at there two refl refl)

  -- some of what a party has goes to a new one
  pub parts_so : (id : ℕ) (v : View T A) (stays goes : A) → v.held ≡ None → v.spent ≡ false → parts v.form v.state stays goes → Splits R id v (going_on v stays) (rule.parted_view v goes)
  parts_so id v stays goes idle live go s r at =
      let x : View T A = going_on v stays in
      let y : View T A = rule.parted_view v goes in
      let f : ℕ = flag_in form s in
      let outs : map slot_out (set s.views id x) ≡ map slot_out s.views = steps.views_same laws admits form s.views id v x at refl in
      record {
        has = r.has;
        slots = r.slots;
        words = r.words;
        guards = subst (λ (vs : List (Option ℕ)). IsGuarded {T = T} record { words = s.words; homes = s.homes; views = vs })
            (ap (λ (l : List (Option ℕ)). l ++ None ∷ []) (sym outs) ∙ sym (map-append slot_out (set s.views id x) (y ∷ []))) (guards.sits (guarded s) r.guards);
        seated = seats.seats_more form f (set s.views id x) y (λ e. absurd (seats.false_true (sym e))) ((r.seated.named id v at).1) refl (λ e. absurd (seats.false_true e))
            (seats.seats_step form f f s.views id v x at (λ z. z) refl (inl refl) live (λ n. n) (λ is. r.seated.admitted id v at is) r.seated);
        kept = λ zero.
            let q = r.kept zero in
            record {
              values = q.values;
              count = q.count;
              at_home = q.at_home;
              away = λ j u l z e held. ⊎_elim
                  (λ (t : (j ≡ length (set s.views id x)) × (y ≡ u)). absurd (none_some (l, z) (ap (λ (o : View T A). o.held) t.1 ∙ held)))
                  (λ (t : get_elem? (set s.views id x) j ≡ home.some u). ⊎_elim
                  (λ (p : (j ≡ id) × (x ≡ u)). q.away id v l z at (ap (λ (o : View T A). o.held) p.1 ∙ held))
                  (λ (p : (j ≢ id) × (get_elem? s.views j ≡ home.some u)). q.away j u l z p.1 held)
                  (at_set s.views id j x u t))
                  (at_end (set s.views id x) y u j e);
              history = laws.parted form s.views (contents form s.words q.values) (tally_in form s.words) id v x y q.history at (steps.of_form laws admits form s id v (λ (o : QueueForm). parts o v.state stays goes) r at go);
            };
      }
