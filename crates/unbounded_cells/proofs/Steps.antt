-- Each kind of step keeps the rule.
use Rattle.std.proofs.Common.{◌≡◌, ◌≢◌, ℕ, ◌+◌, ◌<◌, ◌≤◌, ◌^◌, ◌⊎◌, inl, inr, ⊎_elim, Bool, true, false, List, length, set, refl, sym, ap, ◌∙◌, subst, arith, length-set}
use Rattle.std.proofs.lemmas.Bool.{cases_lt}
use Rattle.std.proofs.lemmas.List.{map-set}
use Rattle.std.specs.Prelude.{Option, None, Some, slice_index, slice_index_or}
use mathlib.Core.Option as home
use mathlib.Core.Logic.{dite}
use native.Mathlib.Decide.{ℕ_discrete}
use lib.ListN.{get_elem?}
use Rattle.atomic_table.proofs.Lists.{at_set, at_map, set_else}
use Rattle.growing_table.specs.State as state
use Rattle.growing_table.specs.State.{Me, me, Act, keeps, takes, gives, own, within, count, block, block_of, home_of, Allows}
use Rattle.concurrent_queue.specs.Bridge.{Event, does}
use Rattle.concurrent_queue.specs.Contents.{Contents, BlockCells, block_in, block_at, with_block}
use Rattle.concurrent_queue.specs.Deeds.{Deed}
use Rattle.concurrent_queue.specs.Effects.{Does}
use Rattle.concurrent_queue.specs.machine.BlocksDenotes.{times}
use Rattle.concurrent_queue.specs.declared.cells.QueueForm.{QueueForm}
use Rattle.concurrent_queue.specs.declared.cells.QueueForm.TheVariants.{Unbounded}
use Rattle.concurrent_queue.specs.declared.history.rule.Counter.{Counter}
use Rattle.concurrent_queue.specs.declared.history.rule.CountStep.{CountStep}
use Rattle.concurrent_queue.specs.declared.history.rule.View.{View}
use Rattle.concurrent_queue.specs.history.Keeps.{HistoryOf, KeepsHistory, Tally}
use Rattle.concurrent_queue.specs.history.Shared.{AreSeated, tally_in}
use Rattle.concurrent_queue.proofs.Guarding.{set_there}
use Rattle.concurrent_queue.proofs.HistorySeats as seats
use Rattle.concurrent_queue.proofs.HistorySeats.{IsNamed, ListsNoMore}
use Rattle.unbounded_cells.specs.Laws.{deed_block, KeepsBlocks, Long}
use Rattle.unbounded_cells.specs.Rule.{Blocks, TableState, inner, WordsShown, IsShown, party, parties, slot_of, IsFree, IsWon, KeepsSpares, Cleared, IsKept, IsRuled}
use Rattle.unbounded_cells.specs.Told as told
use Rattle.unbounded_cells.specs.Told.{on_with}
use Rattle.unbounded_cells.specs.declared.rule.BlockView.{BlockView}
use Rattle.unbounded_cells.proofs.Blocks as blocks

pub or_false : (b : Bool) → (b ≡ true) ⊎ (b ≡ false)
or_false true = inl refl
or_false false = inr refl

-- the seat with a new view
abbrev pub seen_as : {T A : Type 0} → Me (Option T) (BlockView T A) → BlockView T A → Me (Option T) (BlockView T A)
seen_as m w = me w m.hand

module _ {T A : Type 0} {moves : QueueForm → A → Event T → A → Type 0} {enters : QueueForm → A → Type 0} {turns : QueueForm → A → A → Type 0} {counts : QueueForm → A → A → Counter → CountStep → ℕ → Type 0} {both : A → A → A} {left : A → A} {parts : QueueForm → A → A → A → Type 0} {opened : A} {counted : ℕ} {is_history : HistoryOf T A} (laws : KeepsHistory moves enters turns counts both left parts opened counted is_history)
    {sized : ℕ → List (View T A) → Contents T → Tally → Type 0} (machine : KeepsBlocks moves is_history sized) (admits : Type 0) where
  abbrev pub V : Type 0
  V = BlockView T A

  abbrev pub S : Type 0
  S = TableState T A

  abbrev pub M : Type 0
  M = Me (Option T) V

  abbrev pub R : S → Type 0
  R = IsRuled moves is_history sized admits

  abbrev pub K : List ℕ → Blocks T → List V → Type 0
  K = IsKept moves is_history sized

  abbrev pub KeptOrLong : List ℕ → Blocks T → List V → Type 0
  KeptOrLong ws bs views = K ws bs views ⊎ Long moves is_history sized

  abbrev pub Away : List V → Contents T → Type 0
  Away views c = (j : ℕ) (v : V) (b i : ℕ) (x : Option T) → get_elem? views j ≡ home.some v → v.held ≡ Some (b, i, x) → slice_index_or (block_in c.blocks b).slots i None ≡ x

  abbrev pub AllCleared : List V → Blocks T → Type 0
  AllCleared views bs = (j : ℕ) (v : V) → get_elem? views j ≡ home.some v → v.keeper ≡ true → Cleared bs v

  -- ---- the history

  -- one is short, or as long as there are positions
  pub decided : (ws : List ℕ) (bs : Blocks T) (views : List V) (c : Contents T) → IsShown ws bs c → Away views c → AllCleared views bs → is_history Unbounded (parties views) c (tally_in Unbounded ws) → KeptOrLong ws bs views
  decided ws bs views c shown away cleared h =
      let n = machine.measured (parties views) c (tally_in Unbounded ws) h in
      ⊎_elim
      (λ short. inl (record { contents = c; shown = shown; away = away; cleared = cleared; history = h; count = n.0; measured = n.1; short = short }))
      (λ long. inr (parties views, c, tally_in Unbounded ws, n.0, n.1, long))
      (cases_lt n.0 (2 ^ 61))

  -- THE OPERATION: what the machine makes next, where the table shows what it does
  pub by_deed : (ws ws' : List ℕ) (bs bs' : Blocks T) (views : List V) (q : K ws bs views) (id : ℕ) (v w : V) (d : Deed T) (e : Contents T) → get_elem? views id ≡ home.some v → Does d q.contents e → moves Unbounded v.party.state (does (Some d)) w.party.state
      → tally_in Unbounded ws' ≡ tally_in Unbounded ws → IsShown ws' bs' e → Away (set views id w) e → AllCleared (set views id w) bs' → KeptOrLong ws' bs' (set views id w)
  by_deed ws ws' bs bs' views q id v w d e at done made tally shown away cleared =
      decided ws' bs' (set views id w) e shown away cleared
      (subst (λ (t : _). is_history Unbounded (parties (set views id w)) e t) (sym tally)
      (subst (λ (l : List (View T A)). is_history Unbounded l e (tally_in Unbounded ws)) (sym (map-set party views id w))
      (laws.more Unbounded (parties views) q.contents e (tally_in Unbounded ws) id v.party w.party d q.history (at_map party views id v at) done made)))

  -- no operation is made
  pub quiet : (ws ws' : List ℕ) (bs bs' : Blocks T) (views : List V) (q : K ws bs views) (id : ℕ) (v w : V) → get_elem? views id ≡ home.some v → w.party.state ≡ v.party.state
      → tally_in Unbounded ws' ≡ tally_in Unbounded ws → IsShown ws' bs' q.contents → Away (set views id w) q.contents → AllCleared (set views id w) bs' → KeptOrLong ws' bs' (set views id w)
  quiet ws ws' bs bs' views q id v w at same tally shown away cleared =
      decided ws' bs' (set views id w) q.contents shown away cleared
      (subst (λ (t : _). is_history Unbounded (parties (set views id w)) q.contents t) (sym tally)
      (subst (λ (l : List (View T A)). is_history Unbounded l q.contents (tally_in Unbounded ws)) (sym (map-set party views id w))
      (laws.same Unbounded (parties views) q.contents (tally_in Unbounded ws) id v.party w.party q.history (at_map party views id v at) same)))

  -- ---- the seats and the guards, where a view changes and holds what it held

  module _ (s : S) (id : ℕ) (v w : V) (at : get_elem? s.views id ≡ home.some v) where
    pub was : (j : ℕ) (u : V) → slot_of w ≡ slot_of v → get_elem? (set s.views id w) j ≡ home.some u → (o : V) × (get_elem? s.views j ≡ home.some o) × (slot_of u ≡ slot_of o)
    was j u slot e = ⊎_elim
        (λ (t : (j ≡ id) × (w ≡ u)). (v, ap (get_elem? s.views) t.0 ∙ at, subst (λ (y : V). slot_of y ≡ slot_of v) t.1 slot))
        (λ (t : (j ≢ id) × (get_elem? s.views j ≡ home.some u)). (u, t.1, refl))
        (at_set s.views id j w u e)

    pub is_now : (j : ℕ) (o : V) → slot_of w ≡ slot_of v → get_elem? s.views j ≡ home.some o → (u : V) × (get_elem? (set s.views id w) j ≡ home.some u) × (slot_of u ≡ slot_of o)
    is_now j o slot e = dite (ℕ_discrete j id)
        (λ same. (
          w,
          ap (get_elem? (set s.views id w)) same ∙ set_there s.views id v w at,
          slot ∙ ap slot_of (home.some-injective v o (sym at ∙ (ap (get_elem? s.views) (sym same) ∙ e))),
        ))
        (λ apart. (o, set_else s.views id j w apart ∙ e, refl))

  -- all but the guards, which are said to hold
  pub settled : (s : S) (ws' : List ℕ) (bs' : Blocks T) (id : ℕ) (v w : V) (r : R s) → get_elem? s.views id ≡ home.some v
      → ((b : ℕ) → b < length bs' → 31 ≤ length (block bs' b).homes)
      → ((b i : ℕ) → b < length bs' → i < 31 → IsFree (state.state ws' bs' (set s.views id w)) b i ⊎ IsWon (state.state ws' bs' (set s.views id w)) b i)
      → ((j : ℕ) (u : V) (b i : ℕ) → get_elem? (set s.views id w) j ≡ home.some u → slot_of u ≡ Some (b, i) → b < length bs')
      → (IsNamed id v.party → IsNamed id w.party) → w.party.form ≡ v.party.form → ListsNoMore w.party v.party → w.party.foreign ≡ v.party.foreign → v.party.spent ≡ false
      → (w.keeper ≡ true → v.keeper ≡ true) → slice_index ws' 24 ≡ slice_index s.words 24
      → (w.keeper ≡ true → KeepsSpares ws' bs' w) → (v.keeper ≡ false → (u : V) → KeepsSpares s.words s.blocks u → KeepsSpares ws' bs' u)
      → (K s.words s.blocks s.views → KeptOrLong ws' bs' (set s.views id w))
      → R (state.state ws' bs' (set s.views id w))
  settled s ws' bs' id v w r at wide guards there named kind over strange live keeper flag mine theirs kept = record {
    wide = wide;
    guards = guards;
    there = there;
    seated = subst (λ (l : List (View T A)). AreSeated Unbounded (slice_index ws' 24) l) (sym (map-set party s.views id w))
        (seats.seats_step Unbounded (slice_index s.words 24) (slice_index ws' 24) (parties s.views) id v.party w.party (at_map party s.views id v at) named kind over live (λ n e. n (sym flag ∙ e))
        (λ is e. r.seated.admitted id v.party (at_map party s.views id v at) (sym strange ∙ is) (sym flag ∙ e)) r.seated);
    single = λ j k u y e f a b. (let o = kept_by j u e a in let p = kept_by k y f b in r.single j k o.0 p.0 o.1 p.1 o.2 p.2);
    spares = λ j u e is. ⊎_elim
        (λ (t : (j ≡ id) × (w ≡ u)). subst (λ (y : V). KeepsSpares ws' bs' y) t.1 (mine (ap (λ (y : V). y.keeper) t.1 ∙ is)))
        (λ (t : (j ≢ id) × (get_elem? s.views j ≡ home.some u)). ⊎_elim
        (λ (k : v.keeper ≡ true). absurd (t.0 (r.single j id u v t.1 at is k)))
        (λ (k : v.keeper ≡ false). theirs k u (r.spares j u t.1 is))
        (or_false v.keeper))
        (at_set s.views id j w u e);
    kept = λ zero. ⊎_elim kept (λ far. inr far) (r.kept (λ a. sym flag ∙ zero a));
  }
    where
      kept_by : (j : ℕ) (u : V) → get_elem? (set s.views id w) j ≡ home.some u → u.keeper ≡ true → (o : V) × (get_elem? s.views j ≡ home.some o) × (o.keeper ≡ true)
      kept_by j u e is = ⊎_elim
          (λ (t : (j ≡ id) × (w ≡ u)). (v, ap (get_elem? s.views) t.0 ∙ at, keeper (ap (λ (y : V). y.keeper) t.1 ∙ is)))
          (λ (t : (j ≢ id) × (get_elem? s.views j ≡ home.some u)). (u, t.1, is))
          (at_set s.views id j w u e)

  -- a guard says what it said, and its slot is where it was
  pub guarded_so : (s : S) (ws' : List ℕ) (bs' : Blocks T) (id : ℕ) (v w : V) → get_elem? s.views id ≡ home.some v → slot_of w ≡ slot_of v → (b i : ℕ) → inner bs' b i ≡ inner s.blocks b i → home_of bs' b i ≡ home_of s.blocks b i
      → IsFree s b i ⊎ IsWon s b i → IsFree (state.state ws' bs' (set s.views id w)) b i ⊎ IsWon (state.state ws' bs' (set s.views id w)) b i
  guarded_so s ws' bs' id v w at slot b i guard at_home h = ⊎_elim
      (λ (f : IsFree s b i). inl (
        guard ∙ f.0,
        (f.1.0, at_home ∙ f.1.1),
        λ j u e z. (let o = was s id v w at j u slot e in f.2 j o.0 o.1 (sym o.2 ∙ z)),
      ))
      (λ (g : IsWon s b i).
      let u = is_now s id v w at g.0 g.3.0 slot g.3.1 in
      inr (
        g.0,
        guard ∙ g.1,
        at_home ∙ g.2,
        (u.0, u.1, u.2 ∙ g.3.2),
        λ k y e z. (let o = was s id v w at k y slot e in g.4 k o.0 o.1 (sym o.2 ∙ z)),
      ))
      h

  pub ruled : (s : S) (ws' : List ℕ) (bs' : Blocks T) (id : ℕ) (v w : V) (r : R s) → get_elem? s.views id ≡ home.some v
      → length bs' ≡ length s.blocks → ((b i : ℕ) → i < 31 → inner bs' b i ≡ inner s.blocks b i) → ((b : ℕ) → (block bs' b).homes ≡ (block s.blocks b).homes)
      → (IsNamed id v.party → IsNamed id w.party) → w.party.form ≡ v.party.form → ListsNoMore w.party v.party → w.party.foreign ≡ v.party.foreign → v.party.spent ≡ false
      → slot_of w ≡ slot_of v → (w.keeper ≡ true → v.keeper ≡ true) → slice_index ws' 24 ≡ slice_index s.words 24
      → (w.keeper ≡ true → KeepsSpares ws' bs' w) → (v.keeper ≡ false → (u : V) → KeepsSpares s.words s.blocks u → KeepsSpares ws' bs' u)
      → (K s.words s.blocks s.views → KeptOrLong ws' bs' (set s.views id w))
      → R (state.state ws' bs' (set s.views id w))
  ruled s ws' bs' id v w r at long guard homes named kind over strange live slot keeper flag mine theirs kept =
      let back : (b : ℕ) → b < length bs' → b < length s.blocks = (λ b h. subst (λ (k : ℕ). b < k) long h) in
      settled s ws' bs' id v w r at
      (λ b h. subst (λ (l : List (Option (Option T))). 31 ≤ length l) (sym (homes b)) (r.wide b (back b h)))
      (λ b i h near. guarded_so s ws' bs' id v w at slot b i (guard b i near) (ap (λ (l : List (Option (Option T))). slice_index_or l i None) (homes b)) (r.guards b i (back b h) near))
      (λ j u b i e z. (let o = was s id v w at j u slot e in subst (λ (k : ℕ). b < k) (sym long) (r.there j o.0 b i o.1 (sym o.2 ∙ z))))
      named kind over strange live keeper flag mine theirs kept

  -- what is cleared of the first spare block is beside a block in use
  pub unseen : (s : S) (r : R s) (bs' : Blocks T) (n : ℕ) (q : K s.words s.blocks s.views) → times n q.contents.spares ≡ 0 → ((b i : ℕ) → b ≢ n → inner bs' b i ≡ inner s.blocks b i) → (j : ℕ) (g : V) → get_elem? s.views j ≡ home.some g → g.keeper ≡ true
      → Cleared bs' g
  unseen s r bs' n q used other j g there is b i top low few =
      let first = blocks.first_spare s.blocks (slice_index_or s.words 25 0) b q.contents.spares ((r.spares j g there is).top ∙ top) q.shown.chain in
      let ne : b ≢ n = (λ e. let z = subst (λ (k : ℕ). 1 ≤ times k q.contents.spares) e first in let k : ℕ = times n q.contents.spares in let o : 1 ≤ k = z in let p : k ≡ 0 = used in absurd (omega arith)) in
      other b (31 + i) ne ∙ q.cleared j g there is b i top low few

  -- ---- AN OPERATION ON A WORD OF A BLOCK, whichever

  pub by_block : (id n k : ℕ) (m : M) (f : ℕ → ℕ) (d : ℕ → Deed T) (edit : ℕ → BlockCells T → BlockCells T) → 31 ≤ k → k < 34 → m.view.party.spent ≡ false
      → ((x : ℕ) → deed_block (d x) ≡ Some n)
      → ((ws : List ℕ) (y : BlockCells T) → k < length ws → length y.written ≡ 31 → WordsShown ws y → WordsShown (set ws k (f (slice_index_or ws k 0))) (edit (slice_index_or ws k 0) y))
      → ((x : ℕ) (y : BlockCells T) → ((edit x y).slots ≡ y.slots) × (length (edit x y).written ≡ length y.written))
      → ((c : Contents T) (ws : List ℕ) → WordsShown ws (block_at c n) → Does (d (slice_index_or ws k 0)) c (with_block c n (edit (slice_index_or ws k 0) (block_at c n))))
      → ((x : ℕ) → (a : A) × moves Unbounded m.view.party.state (does (Some (d x))) a)
      → Allows R id m (within n k) f (λ x m'. told.Does moves (d x) m m')
  by_block id n k m f d edit behind before live touches words slots effect fits s r at has small =
      let x : ℕ = slice_index_or (block s.blocks n).words k 0 in
      let b = fits x in
      let v = m.view in
      let w = on_with v b.0 in
      let bs' = blocks.with_word s.blocks n k (f x) has.0 in
      let stays : (b' i : ℕ) → i ≢ k → inner bs' b' i ≡ inner s.blocks b' i = (λ b' i ne. blocks.inner_stays s.blocks n k (f x) has.0 b' i (λ _. ne)) in
      let other : (b' i : ℕ) → b' ≢ n → inner bs' b' i ≡ inner s.blocks b' i = (λ b' i ne. blocks.inner_stays s.blocks n k (f x) has.0 b' i (λ e. absurd (ne e))) in
      let link_stays : (b' : ℕ) → inner bs' b' 34 ≡ inner s.blocks b' 34 = (λ b'. stays b' 34 (λ e. let e' : 34 ≡ k = e in absurd (omega arith))) in
      let spares_stay : (u : V) → KeepsSpares s.words s.blocks u → KeepsSpares s.words bs' u = (λ u g. record { top = g.top; link = λ b' y e. link_stays b' ∙ g.link b' y e }) in (
        w,
        keeps,
        tt,
        ruled s s.words bs' id v w r at (length-set s.blocks n _)
            (λ b' i near. stays b' i (λ e. let e' : i ≡ k = e in absurd (omega arith)))
            (blocks.homes_stay s.blocks n k (f x) has.0)
            (λ z. z) refl (inl refl) refl live refl (λ z. z) refl
            (λ is. let g = spares_stay v (r.spares id v at is) in record { top = g.top; link = g.link })
            (λ _ u g. spares_stay u g)
            (λ q.
            let c = q.contents in
            let u = machine.in_use (parties s.views) c (tally_in Unbounded s.words) q.count q.measured q.short id v.party (d x) n (at_map party s.views id v at) (b.0, b.1) (touches x) in
            let y = edit x (block_at c n) in
            let old_words = q.shown.blocks.used n has.0 u.1 in
            let old_slots = q.shown.blocks.slots n has.0 in
            let e = slots x (block_at c n) in
            by_deed s.words s.words s.blocks bs' s.views q id v w (d x) (with_block c n y) at
            (effect c (block s.blocks n).words old_words) b.1 refl
            (record {
              form = q.shown.form;
              none = q.shown.none;
              root = λ g h. blocks.root_stays c (set c.blocks n y) c.spares g h ∙ q.shown.root g h;
              blocks = blocks.set_block s.blocks c.blocks c.spares n (set (block s.blocks n).words k (f x)) (block s.blocks n).homes y q.shown.blocks has.0
                  (λ _. words (block s.blocks n).words (block_at c n) has.1 old_slots.flags old_words)
                  (λ listed. absurd (let z : ℕ = times n c.spares in let o : 1 ≤ z = listed in let p : z ≡ 0 = u.1 in omega arith))
                  (record {
                    wide = ap (λ (l : List (Option T)). length l) e.0 ∙ old_slots.wide;
                    flags = e.1 ∙ old_slots.flags;
                    at_home = λ i g near h. ap (λ (l : List (Option T)). slice_index_or l i None) e.0 ∙ old_slots.at_home i g near h;
                  });
              chain = blocks.chain_stays s.blocks bs' (let l : ℕ = length s.blocks in let l' : ℕ = length bs' in let same : l' ≡ l = length-set s.blocks n _ in let z : l ≤ l' = omega arith in z) c.spares (slice_index_or s.words 25 0) (λ b' _. link_stays b') q.shown.chain;
            })
            (λ j g b' i h there held. ap (λ (l : List (Option T)). slice_index_or l i None) (blocks.slots_stay c.blocks n y u.0 e.0 b') ∙ ⊎_elim
            (λ (t : (j ≡ id) × (w ≡ g)). q.away id v b' i h at (ap (λ (o : V). o.held) t.1 ∙ held))
            (λ (t : (j ≢ id) × (get_elem? s.views j ≡ home.some g)). q.away j g b' i h t.1 held)
            (at_set s.views id j w g there))
            (λ j g there is. ⊎_elim
            (λ (t : (j ≡ id) × (w ≡ g)). subst (λ (o : V). Cleared bs' o) t.1 (unseen s r bs' n q u.1 other id v at (ap (λ (o : V). o.keeper) t.1 ∙ is)))
            (λ (t : (j ≢ id) × (get_elem? s.views j ≡ home.some g)). unseen s r bs' n q u.1 other j g t.1 is)
            (at_set s.views id j w g there))),
        (b.1, refl),
      )
