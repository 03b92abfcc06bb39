-- A party comes, turns, is told its number, is joined into another's view, is taken in, or gets some of what another has: each keeps the
-- rule. None of this touches a word, a block or a slot.
use Rattle.std.proofs.Common.{◌≡◌, ◌≢◌, ℕ, ◌⊎◌, inl, inr, ⊎_elim, true, false, List, [], ◌∷◌, ◌++◌, length, set, refl, sym, ap, ◌∙◌, subst}
use Rattle.std.proofs.lemmas.List.{map-set, set-get_or}
use Rattle.std.specs.Prelude.{Option, None, Some, slice_index, slice_index_or}
use mathlib.Core.Option as home
use mathlib.Core.Option.{some-injective}
use mathlib.Core.Logic.{dite}
use native.Mathlib.Decide.{ℕ_discrete}
use lib.ListN.{get_elem?}
use Rattle.atomic_table.proofs.Lists.{at_set, at_map, at_longer, set_else}
use Rattle.growing_table.specs.State as state
use Rattle.growing_table.specs.State.{Me, me, keeps, own, Allows, Enters, Splits, Joins}
use Rattle.concurrent_queue.specs.Bridge.{Event}
use Rattle.concurrent_queue.specs.Contents.{Contents, block_in}
use Rattle.concurrent_queue.specs.declared.cells.QueueForm.{QueueForm}
use Rattle.concurrent_queue.specs.declared.cells.QueueForm.TheVariants.{Unbounded}
use Rattle.concurrent_queue.specs.declared.history.rule.Counter.{Counter}
use Rattle.concurrent_queue.specs.declared.history.rule.CountStep.{CountStep}
use Rattle.concurrent_queue.specs.declared.history.rule.View.{View}
use Rattle.concurrent_queue.specs.history.Keeps.{HistoryOf, KeepsHistory, Tally}
use Rattle.concurrent_queue.specs.history.QueueKeeps.{at_end}
use Rattle.concurrent_queue.specs.history.Shared.{AreSeated, tally_in, going_on, named_so, both_views, spent_view, taking_in, left_view, parted_view}
use Rattle.concurrent_queue.proofs.Guarding.{set_there}
use Rattle.concurrent_queue.proofs.HistorySeats as parties_so
use Rattle.concurrent_queue.proofs.HistorySeats.{false_true, IsNamed, ListsNoMore}
use Rattle.unbounded_cells.specs.Laws.{KeepsBlocks}
use Rattle.unbounded_cells.specs.Rule.{TableState, party, parties, slot_of, slot_in, IsFree, IsWon, KeepsSpares, Cleared, IsKept, IsRuled}
use Rattle.unbounded_cells.specs.SeatTold as told
use Rattle.unbounded_cells.specs.SeatTold.{plain_view, newcomer, with_party, joining, joined_away, taking, taken, parting}
use Rattle.unbounded_cells.specs.Told.{on_with}
use Rattle.unbounded_cells.specs.declared.rule.BlockView.{BlockView}
use Rattle.unbounded_cells.proofs.SeatSteps as seats
use Rattle.unbounded_cells.proofs.SeatSteps.{more_parties}
use Rattle.unbounded_cells.proofs.SpareList.{none_some}
use Rattle.unbounded_cells.proofs.Steps as rule
use Rattle.unbounded_cells.proofs.Steps.{seen_as}

module _ {T A : Type 0} where
  -- in the second list each view is one of the first whose party has gone on, or that of a new seat
  abbrev Came : List (BlockView T A) → ℕ → BlockView T A → Type 0
  Came views j u = ((o : BlockView T A) × (get_elem? views j ≡ home.some o) × (u ≡ with_party o u.party)) ⊎ (u ≡ plain_view u.party)

  -- and each of the first is in the second
  record Changed (old new : List (BlockView T A)) : Type 0 where
    came : (j : ℕ) (u : BlockView T A) → get_elem? new j ≡ home.some u → Came old j u
    stays : (j : ℕ) (o : BlockView T A) → get_elem? old j ≡ home.some o → (u : BlockView T A) × (get_elem? new j ≡ home.some u) × (u ≡ with_party o u.party)

  one_changes : (views : List (BlockView T A)) (id : ℕ) (v : BlockView T A) (p : View T A) → get_elem? views id ≡ home.some v → Changed views (set views id (with_party v p))
  one_changes views id v p at = record {
    came = λ j u e. ⊎_elim
        (λ (t : (j ≡ id) × (with_party v p ≡ u)). inl (v, ap (get_elem? views) t.0 ∙ at, subst (λ (y : BlockView T A). y ≡ with_party v y.party) t.1 refl))
        (λ (t : (j ≢ id) × (get_elem? views j ≡ home.some u)). inl (u, t.1, refl))
        (at_set views id j (with_party v p) u e);
    stays = λ j o e. dite (ℕ_discrete j id)
        (λ same. (
          with_party v p,
          ap (get_elem? (set views id (with_party v p))) same ∙ set_there views id v (with_party v p) at,
          subst (λ (y : BlockView T A). with_party v p ≡ with_party y p) (some-injective v o (sym at ∙ (ap (get_elem? views) (sym same) ∙ e))) refl,
        ))
        (λ apart. (o, set_else views id j (with_party v p) apart ∙ e, refl));
  }

  then_changes : (a b c : List (BlockView T A)) → Changed a b → Changed b c → Changed a c
  then_changes a b c f g = record {
    came = λ j u e. ⊎_elim
        (λ (t : (o : BlockView T A) × (get_elem? b j ≡ home.some o) × (u ≡ with_party o u.party)). ⊎_elim
        (λ (z : (o : BlockView T A) × (get_elem? a j ≡ home.some o) × (t.0 ≡ with_party o t.0.party)). inl (z.0, z.1, t.2 ∙ ap (λ (y : BlockView T A). with_party y u.party) z.2))
        (λ (z : t.0 ≡ plain_view t.0.party). inr (t.2 ∙ ap (λ (y : BlockView T A). with_party y u.party) z))
        (f.came j t.0 t.1))
        (λ (t : u ≡ plain_view u.party). inr t)
        (g.came j u e);
    stays = λ j o e.
        let t = f.stays j o e in
        let z = g.stays j t.0 t.1 in
        (z.0, z.1, z.2 ∙ ap (λ (y : BlockView T A). with_party y z.0.party) t.2);
  }

  one_more : (views : List (BlockView T A)) (p : View T A) → Changed views (views ++ plain_view p ∷ [])
  one_more views p = record {
    came = λ j u e. ⊎_elim
        (λ (t : (j ≡ length views) × (plain_view p ≡ u)). inr (subst (λ (y : BlockView T A). y ≡ plain_view y.party) t.1 refl))
        (λ (t : get_elem? views j ≡ home.some u). inl (u, t, refl))
        (at_end views (plain_view p) u j e);
    stays = λ j o e. (o, at_longer views (plain_view p ∷ []) j o e, refl);
  }

module _ {T A : Type 0} {moves : QueueForm → A → Event T → A → Type 0} {enters : QueueForm → A → Type 0} {turns : QueueForm → A → A → Type 0} {counts : QueueForm → A → A → Counter → CountStep → ℕ → Type 0} {both : A → A → A} {left : A → A} {parts : QueueForm → A → A → A → Type 0} {opened : A} {counted : ℕ} {is_history : HistoryOf T A} (laws : KeepsHistory moves enters turns counts both left parts opened counted is_history)
    {sized : ℕ → List (View T A) → Contents T → Tally → Type 0} (machine : KeepsBlocks moves is_history sized) (admits : Type 0) where
  abbrev Ruled : TableState T A → Type 0
  Ruled = IsRuled moves is_history sized admits

  abbrev Seat : Type 0
  Seat = Me (Option T) (BlockView T A)

  abbrev Slotted : (s : TableState T A) → ℕ → (ℕ × ℕ) → Type 0
  Slotted s j x = (o : BlockView T A) × (get_elem? s.views j ≡ home.some o) × (slot_of o ≡ Some x)

  abbrev Locking : (s : TableState T A) → ℕ → BlockView T A → Type 0
  Locking s j u = (o : BlockView T A) × (get_elem? s.views j ≡ home.some o) × (o.keeper ≡ true) × (u ≡ with_party o u.party)

  -- PARTIES GO ON, come, and are joined; what the table shows stays
  parties_change : (s : TableState T A) (views : List (BlockView T A)) → Ruled s → Changed s.views views → AreSeated Unbounded (slice_index s.words 24) (parties views)
      → ((c : Contents T) → is_history Unbounded (parties s.views) c (tally_in Unbounded s.words) → is_history Unbounded (parties views) c (tally_in Unbounded s.words))
      → Ruled (state.state s.words s.blocks views)
  parties_change s views r change seated goes = record {
    wide = r.wide;
    guards = λ b i h near. ⊎_elim
        (λ (f : IsFree s b i). inl (f.0, f.1, λ j u e z. (let o = slotted j u (b, i) e z in f.2 j o.0 o.1 o.2)))
        (λ (x : IsWon s b i). inr (
          x.0,
          x.1,
          x.2,
          (let k = change.stays x.0 x.3.0 x.3.1 in (k.0, k.1, ap slot_of k.2 ∙ x.3.2)),
          λ j u e z. (let o = slotted j u (b, i) e z in x.4 j o.0 o.1 o.2),
        ))
        (r.guards b i h near);
    there = λ j u b i e z. (let o = slotted j u (b, i) e z in r.there j o.0 b i o.1 o.2);
    seated = seated;
    single = λ j k u y e f a b. (let o = locking j u e a in let p = locking k y f b in r.single j k o.0 p.0 o.1 p.1 o.2 p.2);
    spares = λ j u e is.
        let o = locking j u e is in
        let g = r.spares j o.0 o.1 o.2 in
        subst (λ (y : BlockView T A). KeepsSpares s.words s.blocks y) (sym o.3) (record { top = g.top; link = g.link });
    kept = λ zero. ⊎_elim
        (λ (q : IsKept moves is_history sized s.words s.blocks s.views). rule.decided laws machine admits s.words s.blocks views q.contents q.shown
        (λ j u b i x e held. ⊎_elim
        (λ (t : (o : BlockView T A) × (get_elem? s.views j ≡ home.some o) × (u ≡ with_party o u.party)). q.away j t.0 b i x t.1 (sym (ap (λ (y : BlockView T A). y.held) t.2) ∙ held))
        (λ (t : u ≡ plain_view u.party). absurd (none_some (b, i, x) (sym (ap (λ (y : BlockView T A). y.held) t) ∙ held)))
        (change.came j u e))
        (λ j u e is.
        let o = locking j u e is in
        subst (λ (y : BlockView T A). Cleared s.blocks y) (sym o.3) (q.cleared j o.0 o.1 o.2))
        (goes q.contents q.history))
        (λ far. inr far)
        (r.kept zero);
  }
    where
      slotted : (j : ℕ) (u : BlockView T A) (x : ℕ × ℕ) → get_elem? views j ≡ home.some u → slot_of u ≡ Some x → Slotted s j x
      slotted j u x e z = ⊎_elim
          (λ (t : (o : BlockView T A) × (get_elem? s.views j ≡ home.some o) × (u ≡ with_party o u.party)). (t.0, t.1, sym (ap slot_of t.2) ∙ z))
          (λ (t : u ≡ plain_view u.party). absurd (none_some x (sym (ap slot_of t) ∙ z)))
          (change.came j u e)

      locking : (j : ℕ) (u : BlockView T A) → get_elem? views j ≡ home.some u → u.keeper ≡ true → Locking s j u
      locking j u e is = ⊎_elim
          (λ (t : (o : BlockView T A) × (get_elem? s.views j ≡ home.some o) × (u ≡ with_party o u.party)). (t.0, t.1, sym (ap (λ (y : BlockView T A). y.keeper) t.2) ∙ is, t.2))
          (λ (t : u ≡ plain_view u.party). absurd (false_true (sym (ap (λ (y : BlockView T A). y.keeper) t) ∙ is)))
          (change.came j u e)

  -- one party goes on
  one_goes : (s : TableState T A) (id : ℕ) (v : BlockView T A) (p : View T A) → Ruled s → get_elem? s.views id ≡ home.some v → (IsNamed id v.party → IsNamed id p) → p.form ≡ v.party.form → ListsNoMore p v.party → p.foreign ≡ v.party.foreign → v.party.spent ≡ false
      → ((c : Contents T) → is_history Unbounded (parties s.views) c (tally_in Unbounded s.words) → is_history Unbounded (set (parties s.views) id p) c (tally_in Unbounded s.words))
      → Ruled (state.state s.words s.blocks (set s.views id (with_party v p)))
  one_goes s id v p r at named kind over strange live goes =
      let w = with_party v p in
      let same : parties (set s.views id w) ≡ set (parties s.views) id p = map-set party s.views id w in
      let there = at_map party s.views id v at in
      parties_change s (set s.views id w) r (one_changes s.views id v p at)
      (subst (λ (l : List (View T A)). AreSeated Unbounded (slice_index s.words 24) l) (sym same)
      (parties_so.seats_step Unbounded (slice_index s.words 24) (slice_index s.words 24) (parties s.views) id v.party p there named kind over live (λ n. n) (λ is. r.seated.admitted id v.party there (sym strange ∙ is)) r.seated))
      (λ c h. subst (λ (l : List (View T A)). is_history Unbounded l c (tally_in Unbounded s.words)) (sym same) (goes c h))

  -- in a load of one of the table's own words
  loads : (id k : ℕ) (m : Seat) (w : BlockView T A) (then : ℕ → Seat → Type 0) → ((s : TableState T A) → Ruled s → get_elem? s.views id ≡ home.some m.view → Ruled (state.state s.words s.blocks (set s.views id w))) → ((x : ℕ) → then x (seen_as m w))
      → Allows Ruled id m (own k) (λ x. x) then
  loads id k m w then goes so s r at has small =
      (w, keeps, tt, subst (λ (ws : List ℕ). Ruled (state.state ws s.blocks (set s.views id w))) (sym (set-get_or s.words k 0)) (goes s r at), so (slice_index_or s.words k 0))

  pub turns_so : (id k : ℕ) (m : Seat) (to : A → A) → m.view.party.form ≡ Unbounded → m.view.party.spent ≡ false → turns m.view.party.form m.view.party.state (to m.view.party.state)
      → Allows Ruled id m (own k) (λ x. x) (λ _ m'. m' ≡ me (on_with m.view (to m.view.party.state)) m.hand)
  turns_so id k m to form live go =
      let p = going_on m.view.party (to m.view.party.state) in
      loads id k m (with_party m.view p) (λ _ m'. m' ≡ me (on_with m.view (to m.view.party.state)) m.hand)
      (λ s r at. one_goes s id m.view p r at (λ z. z) refl (inl refl) refl live
      (λ c h. laws.turned Unbounded (parties s.views) c (tally_in Unbounded s.words) id m.view.party p h (at_map party s.views id m.view at) (subst (λ (f : QueueForm). turns f m.view.party.state (to m.view.party.state)) form go)))
      (λ _. refl)

  pub led_so : (id k : ℕ) (m : Seat) (to : A → A → Type 0) → m.view.party.form ≡ Unbounded → m.view.party.spent ≡ false → (a : A) × turns m.view.party.form m.view.party.state a × to m.view.party.state a
      → Allows Ruled id m (own k) (λ x. x) (λ _ m'. to m.view.party.state m'.view.party.state × (m' ≡ me (on_with m.view m'.view.party.state) m.hand))
  led_so id k m to form live (a, go, so) =
      let p = going_on m.view.party a in
      loads id k m (with_party m.view p) (λ _ m'. to m.view.party.state m'.view.party.state × (m' ≡ me (on_with m.view m'.view.party.state) m.hand))
      (λ s r at. one_goes s id m.view p r at (λ z. z) refl (inl refl) refl live
      (λ c h. laws.turned Unbounded (parties s.views) c (tally_in Unbounded s.words) id m.view.party p h (at_map party s.views id m.view at) (subst (λ (f : QueueForm). turns f m.view.party.state a) form go)))
      (λ _. (so, refl))

  pub names_so : (id k : ℕ) (m : Seat) → m.view.party.spent ≡ false
      → Allows Ruled id m (own k) (λ x. x) (λ _ m'. (n : ℕ) × (m' ≡ me (with_party m.view (named_so m.view.party n)) m.hand))
  names_so id k m live =
      let p = named_so m.view.party id in
      loads id k m (with_party m.view p) (λ _ m'. (n : ℕ) × (m' ≡ me (with_party m.view (named_so m.view.party n)) m.hand))
      (λ s r at. one_goes s id m.view p r at (λ _ _. refl) refl (inl refl) refl live
      (λ c h. laws.same Unbounded (parties s.views) c (tally_in Unbounded s.words) id m.view.party p h (at_map party s.views id m.view at) refl))
      (λ _. (id, refl))

  pub enters_so : (k : ℕ) (a : A) → enters Unbounded a → Enters Ruled k (λ _ w. (n : ℕ) × (me {S = Option T} w None ≡ me (newcomer n a) None))
  enters_so k a go s r long small = (let g = seats.enters_so laws machine admits k a go s r long small in (g.0, g.1, (g.2.0, ap (λ (v : BlockView T A). me v None) g.2.1)))

  -- ---- two seats

  two_go : (s : TableState T A) (id other : ℕ) (v w : BlockView T A) (p q : View T A) → Ruled s → get_elem? s.views id ≡ home.some v → other ≢ id → get_elem? (set s.views id (with_party v p)) other ≡ home.some w
      → AreSeated Unbounded (slice_index s.words 24) (set (set (parties s.views) id p) other q)
      → ((c : Contents T) → is_history Unbounded (parties s.views) c (tally_in Unbounded s.words) → is_history Unbounded (set (set (parties s.views) id p) other q) c (tally_in Unbounded s.words))
      → Ruled (state.state s.words s.blocks (set (set s.views id (with_party v p)) other (with_party w q)))
  two_go s id other v w p q r at two mid seated goes =
      let views' = set s.views id (with_party v p) in
      let same : parties (set views' other (with_party w q)) ≡ set (set (parties s.views) id p) other q = map-set party views' other (with_party w q) ∙ ap (λ (l : List (View T A)). set l other q) (map-set party s.views id (with_party v p)) in
      parties_change s (set views' other (with_party w q)) r (then_changes s.views views' (set views' other (with_party w q)) (one_changes s.views id v p at) (one_changes views' other w q mid))
      (subst (λ (l : List (View T A)). AreSeated Unbounded (slice_index s.words 24) l) (sym same) seated)
      (λ c h. subst (λ (l : List (View T A)). is_history Unbounded l c (tally_in Unbounded s.words)) (sym same) (goes c h))

  -- one party is joined into another's view
  pub joins_so : (id other : ℕ) (v w : BlockView T A) → v.party.spent ≡ false → w.party.spent ≡ false → w.party.nameless ≡ false → Joins Ruled id v other w (joining v w) (joined_away w)
  joins_so id other v w live still named s r at two mid =
      let p = both_views v.party w.party in
      let q = spent_view w.party in
      let there : get_elem? s.views other ≡ home.some w = sym (set_else s.views id other (with_party v p) two) ∙ mid in
      let one = at_map party s.views id v at in
      let other_there = at_map party s.views other w there in
      let mid_there : get_elem? (set (parties s.views) id p) other ≡ home.some w.party = set_else (parties s.views) id other p two ∙ other_there in
      two_go s id other v w p q r at two mid
      (parties_so.seats_join Unbounded (slice_index s.words 24) (parties s.views) id other v.party w.party one other_there two live still named r.seated)
      (λ c h. laws.same Unbounded (set (parties s.views) id p) c (tally_in Unbounded s.words) other w.party q (laws.same Unbounded (parties s.views) c (tally_in Unbounded s.words) id v.party p h one refl) mid_there refl)

  -- one is taken in
  pub takes_in_so : (id other : ℕ) (v w : BlockView T A) → v.party.spent ≡ false → w.party.spent ≡ false → Joins Ruled id v other w (taking both v w) (taken left w)
  takes_in_so id other v w live still s r at two mid =
      let p = taking_in both v.party w.party in
      let q = left_view left w.party in
      let f : ℕ = slice_index s.words 24 in
      let there : get_elem? s.views other ≡ home.some w = sym (set_else s.views id other (with_party v p) two) ∙ mid in
      let one = at_map party s.views id v at in
      let other_there = at_map party s.views other w there in
      let mid_there : get_elem? (set (parties s.views) id p) other ≡ home.some w.party = set_else (parties s.views) id other p two ∙ other_there in
      two_go s id other v w p q r at two mid
      (parties_so.seats_step Unbounded f f (set (parties s.views) id p) other w.party q mid_there (λ z. z) refl (inr refl) still (λ n. n) (λ is. r.seated.admitted other w.party other_there is)
      (parties_so.seats_step Unbounded f f (parties s.views) id v.party p one (λ z. z) refl (inl refl) live (λ n. n) (λ is. r.seated.admitted id v.party one is) r.seated))
      (λ c h. laws.joined Unbounded (parties s.views) c (tally_in Unbounded s.words) id other v.party w.party p q h one other_there two refl refl)

  -- some of what a party has goes to a new one
  pub parts_so : (id : ℕ) (v : BlockView T A) (stays goes : A) → v.party.form ≡ Unbounded → v.party.spent ≡ false → parts v.party.form v.party.state stays goes → Splits Ruled id v (on_with v stays) (parting v goes)
  parts_so id v stays goes form live go s r at =
      let p = going_on v.party stays in
      let q = parted_view v.party goes in
      let f : ℕ = slice_index s.words 24 in
      let one = at_map party s.views id v at in
      let views' = set s.views id (with_party v p) in
      let same : parties (views' ++ plain_view q ∷ []) ≡ set (parties s.views) id p ++ q ∷ [] = more_parties views' (plain_view q) ∙ ap (λ (l : List (View T A)). l ++ q ∷ []) (map-set party s.views id (with_party v p)) in
      parties_change s (views' ++ plain_view q ∷ []) r (then_changes s.views views' (views' ++ plain_view q ∷ []) (one_changes s.views id v p at) (one_more views' q))
      (subst (λ (l : List (View T A)). AreSeated Unbounded f l) (sym same)
      (parties_so.seats_more Unbounded f (set (parties s.views) id p) q (λ e. absurd (false_true (sym e))) form refl (λ e. absurd (false_true e))
      (parties_so.seats_step Unbounded f f (parties s.views) id v.party p one (λ z. z) refl (inl refl) live (λ n. n) (λ is. r.seated.admitted id v.party one is) r.seated)))
      (λ c h. subst (λ (l : List (View T A)). is_history Unbounded l c (tally_in Unbounded s.words)) (sym same)
      (laws.parted Unbounded (parties s.views) c (tally_in Unbounded s.words) id v.party p q h one (subst (λ (o : QueueForm). parts o v.party.state stays goes) form go)))
