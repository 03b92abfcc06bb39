-- Seats come, go on, look, and hand on the lock of the spare list, under the rule; and a new table is under it.
use Rattle.std.proofs.Common.{◌≡◌, ◌≢◌, ℕ, zero, suc, ◌<◌, ◌⊎◌, inl, inr, ⊎_elim, true, false, List, [], ◌∷◌, ◌++◌, length, replicate, set, refl, sym, ap, ◌∙◌, subst, arith}
use Rattle.std.proofs.lemmas.List.{map-set, set-get_or}
use Rattle.std.specs.Prelude.{Option, None, Some, slice_index, slice_index_or}
use mathlib.Core.Option as home
use mathlib.Core.Option.{some-injective, some-ne-none}
use lib.ListN.{get_elem?}
use Rattle.atomic_table.proofs.Lists.{at_set, at_map, at_longer, set_else, set_again}
use Rattle.growing_table.specs.State as state
use Rattle.growing_table.specs.State.{Me, me, keeps, own, count, block, home_of, Allows, Enters, Splits, Joins}
use Rattle.concurrent_queue.specs.Bridge.{Event, HasCells}
use Rattle.concurrent_queue.specs.Contents.{Contents, block_in, read, empty_blocks}
use Rattle.concurrent_queue.specs.Made.{new_cells}
use Rattle.concurrent_queue.specs.declared.cells.QueueForm.{QueueForm}
use Rattle.concurrent_queue.specs.declared.cells.QueueForm.TheVariants.{Unbounded}
use Rattle.concurrent_queue.specs.declared.cells.Word.{Word}
use Rattle.concurrent_queue.specs.declared.cells.Word.TheVariants as word
use Rattle.concurrent_queue.specs.declared.history.rule.Counter.{Counter}
use Rattle.concurrent_queue.specs.declared.history.rule.CountStep.{CountStep}
use Rattle.concurrent_queue.specs.declared.history.rule.View.{View}
use Rattle.concurrent_queue.specs.history.Keeps.{HistoryOf, KeepsHistory, Tally}
use Rattle.concurrent_queue.specs.history.Joined.{AllStood, EachOnce, Lists}
use Rattle.concurrent_queue.specs.history.QueueKeeps.{at_end}
use Rattle.concurrent_queue.specs.history.Shared.{AreSeated, Shown, tally_in}
use Rattle.concurrent_queue.proofs.HistorySeats as seats
use Rattle.concurrent_queue.proofs.HistorySeats.{IsNamed}
use Rattle.unbounded_cells.specs.Laws.{KeepsBlocks, Long}
use Rattle.unbounded_cells.specs.Rule.{first_words, Blocks, TableState, IsRoot, root_at, party, parties, slot_in, slot_of, IsFree, IsWon, KeepsSpares, Cleared, IsKept, IsRuled}
use Rattle.unbounded_cells.specs.SeatTold.{newcomer, lock_seat, without_lock, with_lock}
use Rattle.unbounded_cells.specs.Told.{on_with, first_seat}
use Rattle.unbounded_cells.specs.declared.rule.BlockView.{BlockView}
use Rattle.unbounded_cells.proofs.SpareList.{none_some}
use Rattle.unbounded_cells.proofs.Steps as rule
use Rattle.unbounded_cells.proofs.Steps.{seen_as}

module _ {T A : Type 0} where
  pub more_parties : (views : List (BlockView T A)) (w : BlockView T A) → parties (views ++ w ∷ []) ≡ parties views ++ w.party ∷ []
  more_parties [] w = refl
  more_parties (v ∷ views) w = ap (λ (l : List (View T A)). v.party ∷ l) (more_parties views w)

  many_parties : (views : List (BlockView T A)) → length (parties views) ≡ length views
  many_parties [] = refl
  many_parties (v ∷ views) = ap suc (many_parties views)

swapped : {X : Type 0} → (l : List X) (i j : ℕ) (x y : X) → i ≢ j → set (set l i x) j y ≡ set (set l j y) i x
swapped [] i j x y ne = refl
swapped (z ∷ zs) zero zero x y ne = absurd (ne refl)
swapped (z ∷ zs) zero (suc j) x y ne = refl
swapped (z ∷ zs) (suc i) zero x y ne = refl
swapped (z ∷ zs) (suc i) (suc j) x y ne = ap (λ (l : List _). z ∷ l) (swapped zs i j x y (λ e. ne (ap suc e)))

true_false : true ≡ false → ⊥
true_false e = absurd cc

module _ {T A : Type 0} {moves : QueueForm → A → Event T → A → Type 0} {enters : QueueForm → A → Type 0} {turns : QueueForm → A → A → Type 0} {counts : QueueForm → A → A → Counter → CountStep → ℕ → Type 0} {both : A → A → A} {left : A → A} {parts : QueueForm → A → A → A → Type 0} {opened : A} {counted : ℕ} {is_history : HistoryOf T A} (laws : KeepsHistory moves enters turns counts both left parts opened counted is_history)
    {sized : ℕ → List (View T A) → Contents T → Tally → Type 0} (machine : KeepsBlocks moves is_history sized) (admits : Type 0) where
  abbrev Ruled : TableState T A → Type 0
  Ruled = IsRuled moves is_history sized admits

  abbrev Kept : List ℕ → Blocks T → List (BlockView T A) → Type 0
  Kept = IsKept moves is_history sized

  abbrev Seat : Type 0
  Seat = Me (Option T) (BlockView T A)

  -- ---- a seat more

  pub comes : (s : TableState T A) (w : BlockView T A) → Ruled s → IsNamed (length s.views) w.party → w.party.form ≡ Unbounded → w.party.over ≡ [] → w.party.foreign ≡ false → w.held ≡ None → enters Unbounded w.party.state
      → (w.keeper ≡ true → (j : ℕ) (u : BlockView T A) → get_elem? s.views j ≡ home.some u → u.keeper ≡ true → ⊥) → (w.keeper ≡ true → KeepsSpares s.words s.blocks w) → w.cleared ≡ 0
      → Ruled (state.state s.words s.blocks (s.views ++ w ∷ []))
  comes s w r named kind over strange idle go alone owns fresh = record {
    wide = r.wide;
    guards = λ b i h near. ⊎_elim
        (λ (f : IsFree s b i). inl (f.0, f.1, λ j u e z. ⊎_elim (λ (t : (j ≡ length s.views) × (w ≡ u)). none_some (b, i) (sym (ap slot_in idle) ∙ (ap slot_of t.1 ∙ z))) (λ (t : get_elem? s.views j ≡ home.some u). f.2 j u t z) (at_end s.views w u j e)))
        (λ (x : IsWon s b i). inr (
          x.0,
          x.1,
          x.2,
          (x.3.0, at_longer s.views (w ∷ []) x.0 x.3.0 x.3.1, x.3.2),
          λ j u e z. ⊎_elim (λ (t : (j ≡ length s.views) × (w ≡ u)). absurd (none_some (b, i) (sym (ap slot_in idle) ∙ (ap slot_of t.1 ∙ z)))) (λ (t : get_elem? s.views j ≡ home.some u). x.4 j u t z) (at_end s.views w u j e),
        ))
        (r.guards b i h near);
    there = λ j u b i e z. ⊎_elim (λ (t : (j ≡ length s.views) × (w ≡ u)). absurd (none_some (b, i) (sym (ap slot_in idle) ∙ (ap slot_of t.1 ∙ z)))) (λ (t : get_elem? s.views j ≡ home.some u). r.there j u b i t z) (at_end s.views w u j e);
    seated = subst (λ (l : List (View T A)). AreSeated Unbounded (slice_index s.words 24) l) (sym (more_parties s.views w))
        (seats.seats_more Unbounded (slice_index s.words 24) (parties s.views) w.party (subst (λ (n : ℕ). IsNamed n w.party) (sym (many_parties s.views)) named) kind over (λ is. absurd (true_false (sym is ∙ strange))) r.seated);
    single = λ j k u y e f a b. ⊎_elim
        (λ (t : (j ≡ length s.views) × (w ≡ u)). ⊎_elim
        (λ (z : (k ≡ length s.views) × (w ≡ y)). t.0 ∙ sym z.0)
        (λ (z : get_elem? s.views k ≡ home.some y). absurd (alone (ap (λ (o : BlockView T A). o.keeper) t.1 ∙ a) k y z b))
        (at_end s.views w y k f))
        (λ (t : get_elem? s.views j ≡ home.some u). ⊎_elim
        (λ (z : (k ≡ length s.views) × (w ≡ y)). absurd (alone (ap (λ (o : BlockView T A). o.keeper) z.1 ∙ b) j u t a))
        (λ (z : get_elem? s.views k ≡ home.some y). r.single j k u y t z a b)
        (at_end s.views w y k f))
        (at_end s.views w u j e);
    spares = λ j u e is. ⊎_elim
        (λ (t : (j ≡ length s.views) × (w ≡ u)). subst (λ (o : BlockView T A). KeepsSpares s.words s.blocks o) t.1 (owns (ap (λ (o : BlockView T A). o.keeper) t.1 ∙ is)))
        (λ (t : get_elem? s.views j ≡ home.some u). r.spares j u t is)
        (at_end s.views w u j e);
    kept = λ zero. ⊎_elim
        (λ (q : Kept s.words s.blocks s.views). rule.decided laws machine admits s.words s.blocks (s.views ++ w ∷ []) q.contents q.shown
        (λ j u b i x e held. ⊎_elim
        (λ (t : (j ≡ length s.views) × (w ≡ u)). absurd (none_some (b, i, x) (sym idle ∙ (ap (λ (o : BlockView T A). o.held) t.1 ∙ held))))
        (λ (t : get_elem? s.views j ≡ home.some u). q.away j u b i x t held)
        (at_end s.views w u j e))
        (λ j u e is. ⊎_elim
        (λ (t : (j ≡ length s.views) × (w ≡ u)). subst (λ (o : BlockView T A). Cleared s.blocks o) t.1 (λ b i top low near. absurd (let k : ℕ = w.cleared in let f : k ≡ 0 = fresh in let l : i < k = low in omega arith)))
        (λ (t : get_elem? s.views j ≡ home.some u). q.cleared j u t is)
        (at_end s.views w u j e))
        (subst (λ (l : List (View T A)). is_history Unbounded l q.contents (tally_in Unbounded s.words)) (sym (more_parties s.views w))
        (laws.arrives Unbounded (parties s.views) q.contents (tally_in Unbounded s.words) w.party q.history go)))
        (λ far. inr far)
        (r.kept zero);
  }

  -- a new party
  pub enters_so : (i : ℕ) (a : A) → enters Unbounded a → Enters Ruled i (λ _ w. (n : ℕ) × (w ≡ newcomer n a))
  enters_so i a go s r long small = (
    newcomer (length s.views) a,
    comes s (newcomer (length s.views) a) r (λ _. refl) refl refl refl refl go (λ is. absurd (true_false (sym is))) (λ is. absurd (true_false (sym is))) refl,
    (length s.views, refl),
  )

  -- ---- a seat whose view changes, and whose party may go on

  module _ (s : TableState T A) (id : ℕ) (v w : BlockView T A) (r : Ruled s) (at : get_elem? s.views id ≡ home.some v) where
    away_still : w.held ≡ v.held → (q : Kept s.words s.blocks s.views) (j : ℕ) (u : BlockView T A) (b i : ℕ) (x : Option T) → get_elem? (set s.views id w) j ≡ home.some u → u.held ≡ Some (b, i, x) → slice_index_or (block_in q.contents.blocks b).slots i None ≡ x
    away_still same q j u b i x e held = ⊎_elim
        (λ (t : (j ≡ id) × (w ≡ u)). q.away id v b i x at (sym same ∙ (ap (λ (o : BlockView T A). o.held) t.1 ∙ held)))
        (λ (t : (j ≢ id) × (get_elem? s.views j ≡ home.some u)). q.away j u b i x t.1 held)
        (at_set s.views id j w u e)

    cleared_still : (w.keeper ≡ true → Cleared s.blocks w) → (q : Kept s.words s.blocks s.views) (j : ℕ) (u : BlockView T A) → get_elem? (set s.views id w) j ≡ home.some u → u.keeper ≡ true → Cleared s.blocks u
    cleared_still mine q j u e is = ⊎_elim
        (λ (t : (j ≡ id) × (w ≡ u)). subst (λ (o : BlockView T A). Cleared s.blocks o) t.1 (mine (ap (λ (o : BlockView T A). o.keeper) t.1 ∙ is)))
        (λ (t : (j ≢ id) × (get_elem? s.views j ≡ home.some u)). q.cleared j u t.1 is)
        (at_set s.views id j w u e)

  -- a step that touches no cell
  pub turns_so : (id : ℕ) (m : Seat) (a : A) → m.view.party.spent ≡ false → turns Unbounded m.view.party.state a → Allows Ruled id m count (λ x. x) (λ _ m'. m' ≡ seen_as m (on_with m.view a))
  turns_so id m a live go s r at has small =
      let v = m.view in
      let w = on_with v a in (
        w,
        keeps,
        tt,
        rule.ruled laws machine admits s s.words s.blocks id v w r at refl (λ b i near. refl) (λ b. refl) (λ z. z) refl (inl refl) refl live refl (λ z. z) refl
            (λ is. let g = r.spares id v at is in record { top = g.top; link = g.link })
            (λ _ u g. g)
            (λ q. rule.decided laws machine admits s.words s.blocks (set s.views id w) q.contents q.shown (away_still s id v w r at refl q)
            (cleared_still s id v w r at (λ is b i top low near. q.cleared id v at is b i top low near) q)
            (subst (λ (l : List (View T A)). is_history Unbounded l q.contents (tally_in Unbounded s.words)) (sym (map-set party s.views id w))
            (laws.turned Unbounded (parties s.views) q.contents (tally_in Unbounded s.words) id v.party w.party q.history (at_map party s.views id v at) go))),
        refl,
      )

  -- the flag is read, and with it the history, or that there was one as long as there are positions
  pub looks_so : (id : ℕ) (m : Seat) → m.view.party.spent ≡ false → m.view.party.nameless ≡ false
      → Allows Ruled id m (own 24) (λ x. x) (λ found m'. (m' ≡ m) × ((admits → found ≡ 0) → Shown is_history m.view.party ⊎ Long moves is_history sized))
  looks_so id m live named s r at has small =
      let p = at_map party s.views id m.view at in
      let n = r.seated.named id m.view.party p in
      let mine : get_elem? (parties s.views) m.view.party.who ≡ home.some m.view.party = ap (get_elem? (parties s.views)) (n.0 named) ∙ p in
      let stood = r.seated.joined.stood id m.view.party p in (
        m.view,
        keeps,
        tt,
        subst (λ (ws : List ℕ). Ruled (state.state ws s.blocks (set s.views id m.view))) (sym (set-get_or s.words 24 0))
            (subst (λ (vs : List (BlockView T A)). Ruled (state.state s.words s.blocks vs)) (sym (set_again s.views id m.view at)) r),
        (
          refl,
          λ zero. ⊎_elim
              (λ (q : Kept s.words s.blocks s.views). inl (
                parties s.views,
                q.contents,
                tally_in Unbounded s.words,
                subst (λ (f : QueueForm). is_history f (parties s.views) q.contents (tally_in Unbounded s.words)) (sym n.1) q.history,
                mine,
                subst (λ (f : QueueForm). HasCells f) (sym n.1) tt,
                stood,
                (seats.unlisted (parties s.views) m.view.party.who m.view.party mine live m.view.party.over stood, r.seated.joined.once id m.view.party p),
              ))
              (λ far. inr far)
              (r.kept zero),
        ),
      )

  -- ---- the lock of the spare list goes from seat to seat

  -- to a new one
  pub splits_so : (id : ℕ) (v : BlockView T A) (a : A) → v.keeper ≡ true → v.party.spent ≡ false → enters Unbounded a → Splits Ruled id v (without_lock v) (lock_seat a v)
  splits_so id v a keeper live go s r at =
      let w = without_lock v in
      let mine = r.spares id v at keeper in
      let r1 : Ruled (state.state s.words s.blocks (set s.views id w)) =
      rule.ruled laws machine admits s s.words s.blocks id v w r at refl (λ b i near. refl) (λ b. refl) (λ z. z) refl (inl refl) refl live refl (λ is. absurd (true_false (sym is))) refl
      (λ is. absurd (true_false (sym is)))
      (λ _ u g. g)
      (λ q. rule.quiet laws machine admits s.words s.words s.blocks s.blocks s.views q id v w at refl refl q.shown (away_still s id v w r at refl q) (cleared_still s id v w r at (λ is. absurd (true_false (sym is))) q)) in
      comes (state.state s.words s.blocks (set s.views id w)) (lock_seat a v) r1 (λ named. absurd (true_false named)) refl refl refl refl go
      (λ _ j u e is. ⊎_elim
      (λ (t : (j ≡ id) × (w ≡ u)). true_false (sym is ∙ sym (ap (λ (o : BlockView T A). o.keeper) t.1)))
      (λ (t : (j ≢ id) × (get_elem? s.views j ≡ home.some u)). t.0 (r.single j id u v t.1 at is keeper))
      (at_set s.views id j w u e))
      (λ _. record { top = mine.top; link = λ b n e. absurd (none_some (b, n) e) })
      refl

  -- and back to one that acts
  pub joins_so : (id other : ℕ) (v w : BlockView T A) → w.keeper ≡ true → v.party.spent ≡ false → w.party.spent ≡ false → Joins Ruled id v other w (with_lock v w) (without_lock w)
  joins_so id other v w keeper live still s r at two there =
      let x = with_lock v w in
      let y = without_lock w in
      let at_other : get_elem? s.views other ≡ home.some w = sym (set_else s.views id other x two) ∙ there in
      let mine = r.spares other w at_other keeper in
      let s1 : TableState T A = state.state s.words s.blocks (set s.views other y) in
      let r1 : Ruled s1 =
      rule.ruled laws machine admits s s.words s.blocks other w y r at_other refl (λ b i near. refl) (λ b. refl) (λ z. z) refl (inl refl) refl still refl (λ is. absurd (true_false (sym is))) refl
      (λ is. absurd (true_false (sym is)))
      (λ _ u g. g)
      (λ q. rule.quiet laws machine admits s.words s.words s.blocks s.blocks s.views q other w y at_other refl refl q.shown (away_still s other w y r at_other refl q) (cleared_still s other w y r at_other (λ is. absurd (true_false (sym is))) q)) in
      let at1 : get_elem? s1.views id ≡ home.some v = set_else s.views other id y (λ e. two (sym e)) ∙ at in
      let none1 : (j : ℕ) (u : BlockView T A) → get_elem? s1.views j ≡ home.some u → u.keeper ≡ true → ⊥ =
      (λ j u e is. ⊎_elim
      (λ (t : (j ≡ other) × (y ≡ u)). true_false (sym is ∙ sym (ap (λ (o : BlockView T A). o.keeper) t.1)))
      (λ (t : (j ≢ other) × (get_elem? s.views j ≡ home.some u)). t.0 (r.single j other u w t.1 at_other is keeper))
      (at_set s.views other j y u e)) in
      let only : (j : ℕ) (u : BlockView T A) → get_elem? (set s1.views id x) j ≡ home.some u → u.keeper ≡ true → (j ≡ id) × (x ≡ u) =
      (λ j u e is. ⊎_elim
      (λ (t : (j ≡ id) × (x ≡ u)). t)
      (λ (t : (j ≢ id) × (get_elem? s1.views j ≡ home.some u)). absurd (none1 j u t.1 is))
      (at_set s1.views id j x u e)) in
      let r2 : Ruled (state.state s.words s.blocks (set s1.views id x)) = record {
        wide = r1.wide;
        guards = λ b i h near. rule.guarded_so laws machine admits s1 s.words s.blocks id v x at1 refl b i refl refl (r1.guards b i h near);
        there = λ j u b i e z. (let o = rule.was laws machine admits s1 id v x at1 j u refl e in r1.there j o.0 b i o.1 (sym o.2 ∙ z));
        seated = subst (λ (l : List (View T A)). AreSeated Unbounded (slice_index s.words 24) l) (sym (map-set party s1.views id x))
            (seats.seats_step Unbounded (slice_index s.words 24) (slice_index s.words 24) (parties s1.views) id v.party x.party (at_map party s1.views id v at1) (λ z. z) refl (inl refl) live (λ n. n) (λ is. r1.seated.admitted id v.party (at_map party s1.views id v at1) is) r1.seated);
        single = λ j k u z e f a b. (only j u e a).0 ∙ sym (only k z f b).0;
        spares = λ j u e is. subst (λ (o : BlockView T A). KeepsSpares s.words s.blocks o) (only j u e is).1 (record { top = mine.top; link = λ b n f. absurd (none_some (b, n) f) });
        kept = λ zero. ⊎_elim
            (λ (q : Kept s.words s.blocks s1.views). rule.quiet laws machine admits s.words s.words s.blocks s.blocks s1.views q id v x at1 refl refl q.shown (away_still s1 id v x r1 at1 refl q)
            (cleared_still s1 id v x r1 at1 (λ is b i top low near. absurd (let low' : i < 0 = low in omega arith)) q))
            (λ far. inr far)
            (r1.kept zero);
      } in
      subst (λ (vs : List (BlockView T A)). Ruled (state.state s.words s.blocks vs)) (swapped s.views other id y x two) r2

-- ---- a new table

only_one : {X : Type 0} → (x u : X) (j : ℕ) → get_elem? (x ∷ []) j ≡ home.some u → (j ≡ 0) × (x ≡ u)
only_one x u zero e = (refl, some-injective x u e)
only_one x u (suc j) e = absurd (some-ne-none u (sym e))

zero_word : (n : ℕ) (w : Word) → IsRoot w → slice_index_or (first_words n) (root_at w) 0 ≡ 0
zero_word n word.State h = refl
zero_word n word.Head h = refl
zero_word n word.Tail h = refl
zero_word n word.HeadBlock h = refl
zero_word n word.TailBlock h = refl
zero_word n (word.Stamp i) h = absurd h
zero_word n (word.Next b) h = absurd h
zero_word n (word.Reads b) h = absurd h
zero_word n (word.Written b i) h = absurd h

empty_word : (T : Type 0) (w : Word) → IsRoot w → read (empty_blocks {T = T}) w ≡ 0
empty_word T word.State h = refl
empty_word T word.Head h = refl
empty_word T word.Tail h = refl
empty_word T word.HeadBlock h = refl
empty_word T word.TailBlock h = refl
empty_word T (word.Stamp i) h = absurd h
empty_word T (word.Next b) h = absurd h
empty_word T (word.Reads b) h = absurd h
empty_word T (word.Written b i) h = absurd h

module _ {T A : Type 0} {moves : QueueForm → A → Event T → A → Type 0} {enters : QueueForm → A → Type 0} {turns : QueueForm → A → A → Type 0} {counts : QueueForm → A → A → Counter → CountStep → ℕ → Type 0} {both : A → A → A} {left : A → A} {parts : QueueForm → A → A → A → Type 0} {opened : A} {counted : ℕ} {is_history : HistoryOf T A} (laws : KeepsHistory moves enters turns counts both left parts opened counted is_history)
    {sized : ℕ → List (View T A) → Contents T → Tally → Type 0} (machine : KeepsBlocks moves is_history sized) (admits : Type 0) where
  abbrev first : BlockView T A
  first = first_seat opened

  opens_at : IsRuled moves is_history sized admits (state.state (first_words counted) [] (first ∷ []))
  opens_at = record {
    wide = λ b h. absurd (omega arith);
    guards = λ b i h near. absurd (omega arith);
    there = λ j v b i e z. absurd (none_some (b, i) (ap slot_of (only_one first v j e).1 ∙ z));
    seated = record {
      named = λ j v e. (let o = only_one first.party v j e in (subst (λ (u : View T A). IsNamed j u) o.1 (λ _. sym o.0), ap (λ (u : View T A). u.form) (sym o.1)));
      admitted = λ j v e is. absurd (true_false (sym is ∙ sym (ap (λ (u : View T A). u.foreign) (only_one first.party v j e).1)));
      joined = record {
        stood = λ j v e. subst (λ (u : View T A). AllStood (first.party ∷ []) u.over) (only_one first.party v j e).1 tt;
        once = λ j v e. subst (λ (u : View T A). EachOnce u.over) (only_one first.party v j e).1 tt;
        apart = λ j k v u p e f h g. absurd (subst (λ (o : View T A). Lists p o.over) (sym (only_one first.party v j e).1) h);
      };
    };
    single = λ j k v w e f a b. (only_one first v j e).0 ∙ sym (only_one first w k f).0;
    spares = λ j v e is. subst (λ (u : BlockView T A). KeepsSpares (first_words counted) [] u) (only_one first v j e).1 (record { top = refl; link = λ b n f. absurd (none_some (b, n) f) });
    kept = λ zero. rule.decided laws machine admits (first_words counted) [] (first ∷ []) (new_cells Unbounded)
        (record {
          form = refl;
          none = (refl, refl);
          root = λ w h. empty_word T w h ∙ sym (zero_word counted w h);
          blocks = record {
            made = refl;
            used = λ b h z. absurd (omega arith);
            slots = λ b h. absurd (omega arith);
            idle = λ b l. absurd (omega arith);
            near = λ b l. refl;
            once = λ b. omega arith;
          };
          chain = refl;
        })
        (λ j v b i x e held. absurd (none_some (b, i, x) (ap (λ (o : BlockView T A). o.held) (only_one first v j e).1 ∙ held)))
        (λ j v e is b i top low near. absurd (let k : ℕ = v.cleared in let f : k ≡ 0 = sym (ap (λ (o : BlockView T A). o.cleared) (only_one first v j e).1) in let l : i < k = low in omega arith))
        (laws.opens Unbounded first.party tt refl);
  }

  pub opens_so : (words : List ℕ) → words ≡ first_words counted → IsRuled moves is_history sized admits (state.state words [] (first ∷ []))
  opens_so words is = subst (λ (ws : List ℕ). IsRuled moves is_history sized admits (state.state ws [] (first ∷ []))) (sym is) opens_at
