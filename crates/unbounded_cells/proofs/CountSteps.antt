-- An operation on a counting word keeps the rule.
use Rattle.std.proofs.Common.{◌≡◌, ◌≢◌, ℕ, ◌+◌, ◌-◌, ◌%◌, ◌^◌, ◌==◌, ◌<◌, inl, inr, ⊎_elim, Bool, true, false, if◌then◌else◌, List, length, set, refl, sym, ap, ◌∙◌, subst, arith, get_or-set_other, get_or-set_same}
use Rattle.std.proofs.lemmas.List.{map-set, set-get_or}
use Rattle.std.specs.Prelude.{Option, slice_index, slice_index_or}
use mathlib.Core.Option as home
use mathlib.Core.Logic.{dite}
use native.Mathlib.Decide.{ℕ_discrete}
use lib.ListN.{get_elem?}
use prog.Atomic.{either}
use Rattle.atomic_table.proofs.Lists.{at_set, at_map, set_again}
use Rattle.growing_table.specs.State as state
use Rattle.growing_table.specs.State.{Me, me, keeps, own, step, Allows}
use Rattle.concurrent_queue.specs.Bridge.{Event}
use Rattle.concurrent_queue.specs.Contents.{Contents, block_in}
use Rattle.concurrent_queue.specs.declared.cells.QueueForm.{QueueForm}
use Rattle.concurrent_queue.specs.declared.cells.QueueForm.TheVariants.{Unbounded}
use Rattle.concurrent_queue.specs.declared.cells.Word.{Word}
use Rattle.concurrent_queue.specs.declared.history.rule.Counter.{Counter}
use Rattle.concurrent_queue.specs.declared.history.rule.Counter.TheVariants.{First, Second, Third, Fourth, Fifth, Sixth}
use Rattle.concurrent_queue.specs.declared.history.rule.CountStep.{CountStep}
use Rattle.concurrent_queue.specs.declared.history.rule.CountStep.TheVariants.{Read, Lower, Raise, Set}
use Rattle.concurrent_queue.specs.declared.history.rule.View.{View}
use Rattle.concurrent_queue.specs.history.Keeps.{HistoryOf, KeepsHistory, Tally, counted_after, count_of, with_count}
use Rattle.concurrent_queue.specs.history.Shared.{tally_in, count_at, count_in, counter_at}
use Rattle.unbounded_cells.specs.Laws.{KeepsBlocks}
use Rattle.unbounded_cells.specs.Rule.{Blocks, TableState, IsShown, IsRoot, root_at, parties, party, KeepsSpares, Cleared, IsKept, IsRuled}
use Rattle.unbounded_cells.specs.Told.{on_with}
use Rattle.unbounded_cells.specs.Counts as told
use Rattle.unbounded_cells.specs.declared.rule.BlockView.{BlockView}
use Rattle.unbounded_cells.proofs.SpareList.{top_no_count}
use Rattle.unbounded_cells.proofs.Steps as rule
use Rattle.unbounded_cells.proofs.WordSteps.{root_no_count}

which_at : (which : Counter) → counter_at (count_at Unbounded which) ≡ which
which_at First = refl
which_at Second = refl
which_at Third = refl
which_at Fourth = refl
which_at Fifth = refl
which_at Sixth = refl

flag_no_count : (which : Counter) → 24 ≢ count_at Unbounded which
flag_no_count First e = absurd (omega arith)
flag_no_count Second e = absurd (omega arith)
flag_no_count Third e = absurd (omega arith)
flag_no_count Fourth e = absurd (omega arith)
flag_no_count Fifth e = absurd (omega arith)
flag_no_count Sixth e = absurd (omega arith)

either_if : (b : Bool) (x y : ℕ) → either b x y ≡ (if b then x else y)
either_if true x y = refl
either_if false x y = refl

count_is : (ws : List ℕ) (which : Counter) → count_of which (tally_in Unbounded ws) ≡ count_in Unbounded ws which
count_is ws First = refl
count_is ws Second = refl
count_is ws Third = refl
count_is ws Fourth = refl
count_is ws Fifth = refl
count_is ws Sixth = refl

other_stays : (ws : List ℕ) (x y : Counter) (z : ℕ) → count_at Unbounded y ≢ count_at Unbounded x → slice_index (set ws (count_at Unbounded x) z) (count_at Unbounded y) ≡ slice_index ws (count_at Unbounded y)
other_stays ws x y z apart = get_or-set_other ws (count_at Unbounded x) (count_at Unbounded y) z 0 apart

-- what the counts are after one is written
changed : (ws : List ℕ) (which : Counter) (z : ℕ) → count_at Unbounded which < length ws → tally_in Unbounded (set ws (count_at Unbounded which) z) ≡ with_count which z (tally_in Unbounded ws)
changed ws First z inside = λ k. record {
  first = get_or-set_same ws (count_at Unbounded First) z 0 inside k;
  second = other_stays ws First Second z (λ e. absurd (omega arith)) k;
  third = other_stays ws First Third z (λ e. absurd (omega arith)) k;
  fourth = other_stays ws First Fourth z (λ e. absurd (omega arith)) k;
  fifth = other_stays ws First Fifth z (λ e. absurd (omega arith)) k;
  sixth = other_stays ws First Sixth z (λ e. absurd (omega arith)) k;
}
changed ws Second z inside = λ k. record {
  first = other_stays ws Second First z (λ e. absurd (omega arith)) k;
  second = get_or-set_same ws (count_at Unbounded Second) z 0 inside k;
  third = other_stays ws Second Third z (λ e. absurd (omega arith)) k;
  fourth = other_stays ws Second Fourth z (λ e. absurd (omega arith)) k;
  fifth = other_stays ws Second Fifth z (λ e. absurd (omega arith)) k;
  sixth = other_stays ws Second Sixth z (λ e. absurd (omega arith)) k;
}
changed ws Third z inside = λ k. record {
  first = other_stays ws Third First z (λ e. absurd (omega arith)) k;
  second = other_stays ws Third Second z (λ e. absurd (omega arith)) k;
  third = get_or-set_same ws (count_at Unbounded Third) z 0 inside k;
  fourth = other_stays ws Third Fourth z (λ e. absurd (omega arith)) k;
  fifth = other_stays ws Third Fifth z (λ e. absurd (omega arith)) k;
  sixth = other_stays ws Third Sixth z (λ e. absurd (omega arith)) k;
}
changed ws Fourth z inside = λ k. record {
  first = other_stays ws Fourth First z (λ e. absurd (omega arith)) k;
  second = other_stays ws Fourth Second z (λ e. absurd (omega arith)) k;
  third = other_stays ws Fourth Third z (λ e. absurd (omega arith)) k;
  fourth = get_or-set_same ws (count_at Unbounded Fourth) z 0 inside k;
  fifth = other_stays ws Fourth Fifth z (λ e. absurd (omega arith)) k;
  sixth = other_stays ws Fourth Sixth z (λ e. absurd (omega arith)) k;
}
changed ws Fifth z inside = λ k. record {
  first = other_stays ws Fifth First z (λ e. absurd (omega arith)) k;
  second = other_stays ws Fifth Second z (λ e. absurd (omega arith)) k;
  third = other_stays ws Fifth Third z (λ e. absurd (omega arith)) k;
  fourth = other_stays ws Fifth Fourth z (λ e. absurd (omega arith)) k;
  fifth = get_or-set_same ws (count_at Unbounded Fifth) z 0 inside k;
  sixth = other_stays ws Fifth Sixth z (λ e. absurd (omega arith)) k;
}
changed ws Sixth z inside = λ k. record {
  first = other_stays ws Sixth First z (λ e. absurd (omega arith)) k;
  second = other_stays ws Sixth Second z (λ e. absurd (omega arith)) k;
  third = other_stays ws Sixth Third z (λ e. absurd (omega arith)) k;
  fourth = other_stays ws Sixth Fourth z (λ e. absurd (omega arith)) k;
  fifth = other_stays ws Sixth Fifth z (λ e. absurd (omega arith)) k;
  sixth = get_or-set_same ws (count_at Unbounded Sixth) z 0 inside k;
}

module _ {T A : Type 0} {moves : QueueForm → A → Event T → A → Type 0} {enters : QueueForm → A → Type 0} {turns : QueueForm → A → A → Type 0} {counts : QueueForm → A → A → Counter → CountStep → ℕ → Type 0} {both : A → A → A} {left : A → A} {parts : QueueForm → A → A → A → Type 0} {opened : A} {counted : ℕ} {is_history : HistoryOf T A} (laws : KeepsHistory moves enters turns counts both left parts opened counted is_history)
    {sized : ℕ → List (View T A) → Contents T → Tally → Type 0} (machine : KeepsBlocks moves is_history sized) (admits : Type 0) where
  abbrev Ruled : TableState T A → Type 0
  Ruled = IsRuled moves is_history sized admits

  abbrev Seat : Type 0
  Seat = Me (Option T) (BlockView T A)

  module _ (id k : ℕ) (m : Seat) (which : Counter) (is : k ≡ count_at Unbounded which) (form : m.view.party.form ≡ Unbounded) (live : m.view.party.spent ≡ false) where
    abbrev Counts : CountStep → ℕ → A → Type 0
    Counts op n a = counts m.view.party.form m.view.party.state a which op n

    -- what a machine's operation on a count leaves is under the rule
    after_count : (s : TableState T A) (op : CountStep) (z : ℕ) (a : A) → Ruled s → get_elem? s.views id ≡ home.some m.view → k < length s.words → slice_index_or s.words k 0 < 2 ^ 64 → z ≡ counted_after op (slice_index_or s.words k 0)
        → Counts op (slice_index_or s.words k 0) a → Ruled (state.state (set s.words k z) s.blocks (set s.views id (on_with m.view a)))
    after_count s op z a r at has small does made =
        let v = m.view in
        let w = on_with v a in
        let n : ℕ = slice_index_or s.words k 0 in
        let ws' = set s.words k z in
        let apart : (j : ℕ) → j ≢ count_at Unbounded which → slice_index_or ws' j 0 ≡ slice_index_or s.words j 0 = (λ j ne. get_or-set_other s.words k j z 0 (λ e. ne (e ∙ is))) in
        let spares_stay : (u : BlockView T A) → KeepsSpares s.words s.blocks u → KeepsSpares ws' s.blocks u = (λ u g. record { top = apart 25 (top_no_count which) ∙ g.top; link = g.link }) in
        let at_k : n ≡ count_of which (tally_in Unbounded s.words) = ap (λ (j : ℕ). slice_index_or s.words j 0) is ∙ sym (count_is s.words which) in
        rule.ruled laws machine admits s ws' s.blocks id v w r at refl (λ b i near. refl) (λ b. refl) (λ y. y) refl (inl refl) refl live refl (λ y. y)
        (apart 24 (flag_no_count which))
        (λ owns. let g = spares_stay v (r.spares id v at owns) in record { top = g.top; link = g.link })
        (λ _ u g. spares_stay u g)
        (λ q.
        let c = q.contents in
        let tally : tally_in Unbounded ws' ≡ with_count which (counted_after op (count_of which (tally_in Unbounded s.words))) (tally_in Unbounded s.words) =
        ap (λ (j : ℕ). tally_in Unbounded (set s.words j z)) is ∙ (changed s.words which z (subst (λ (j : ℕ). j < length s.words) is has)
        ∙ ap (λ (x : ℕ). with_count which x (tally_in Unbounded s.words)) (does ∙ ap (counted_after op) at_k)) in
        rule.decided laws machine admits ws' s.blocks (set s.views id w) c
        (record {
          form = q.shown.form;
          none = q.shown.none;
          root = λ g h. q.shown.root g h ∙ sym (apart (root_at g) (root_no_count g h which));
          blocks = q.shown.blocks;
          chain = subst (λ (t : ℕ). Rattle.unbounded_cells.specs.Rule.Chain s.blocks t c.spares) (sym (apart 25 (top_no_count which))) q.shown.chain;
        })
        (λ j u b i x e held. ⊎_elim
        (λ (t : (j ≡ id) × (w ≡ u)). q.away id v b i x at (ap (λ (o : BlockView T A). o.held) t.1 ∙ held))
        (λ (t : (j ≢ id) × (get_elem? s.views j ≡ home.some u)). q.away j u b i x t.1 held)
        (at_set s.views id j w u e))
        (λ j u e owns. ⊎_elim
        (λ (t : (j ≡ id) × (w ≡ u)). subst (λ (o : BlockView T A). Cleared s.blocks o) t.1 (λ b i first low few. q.cleared id v at (ap (λ (o : BlockView T A). o.keeper) t.1 ∙ owns) b i first low few))
        (λ (t : (j ≢ id) × (get_elem? s.views j ≡ home.some u)). q.cleared j u t.1 owns)
        (at_set s.views id j w u e))
        (subst (λ (t : Tally). is_history Unbounded (parties (set s.views id w)) c t) (sym tally)
        (subst (λ (l : List (View T A)). is_history Unbounded l c (with_count which (counted_after op (count_of which (tally_in Unbounded s.words))) (tally_in Unbounded s.words))) (sym (map-set party s.views id w))
        (laws.counts_on Unbounded (parties s.views) c (tally_in Unbounded s.words) id v.party w.party which op q.history (at_map party s.views id v at)
        (subst (λ (x : ℕ). counts Unbounded v.party.state a which op x) at_k (subst (λ (f : QueueForm). counts f v.party.state a which op n) form made))
        (subst (λ (x : ℕ). x < 2 ^ 64) at_k small)))))

    -- AN OPERATION ON A COUNT, whichever
    counted_so : (op : CountStep) (f : ℕ → ℕ) → ((n : ℕ) → f n ≡ counted_after op n) → ((n : ℕ) → (a : A) × Counts op n a)
        → Allows Ruled id m (own k) f (λ n m'. Counts op n m'.view.party.state × (m' ≡ me (on_with m.view m'.view.party.state) m.hand))
    counted_so op f does fits s r at has small =
        let n : ℕ = slice_index_or s.words k 0 in
        let b = fits n in (on_with m.view b.0, keeps, tt, after_count s op (f n) b.0 r at has small (does n) b.1, (b.1, refl))

    tells : (op : CountStep) (f : ℕ → ℕ) → Allows Ruled id m (own k) f (λ n m'. Counts op n m'.view.party.state × (m' ≡ me (on_with m.view m'.view.party.state) m.hand))
        → Allows Ruled id m (own k) f (λ n m'. told.Counted counts op (own k) m n m')
    tells op f h = subst (λ (o : Counter). Allows Ruled id m (own k) f (λ n m'. counts m.view.party.form m.view.party.state m'.view.party.state o op n × (m' ≡ me (on_with m.view m'.view.party.state) m.hand))) (sym (ap counter_at is ∙ which_at which)) h

    pub reads_so : ((n : ℕ) → (a : A) × Counts Read n a) → Allows Ruled id m (own k) (λ n. n) (told.count_reads counts (step (own k) 0 0) m)
    reads_so fits = tells Read (λ n. n) (counted_so Read (λ n. n) (λ n. refl) fits)

    pub lowers_so : ((n : ℕ) → (a : A) × Counts Lower n a) → Allows Ruled id m (own k) (λ n. (n + (2 ^ 64 - 1)) % 2 ^ 64) (told.count_lowers counts (step (own k) (2 ^ 64 - 1) 0) m)
    lowers_so fits = tells Lower (λ n. (n + (2 ^ 64 - 1)) % 2 ^ 64) (counted_so Lower (λ n. (n + (2 ^ 64 - 1)) % 2 ^ 64) (λ n. refl) fits)

    pub raises_so : (from : ℕ) → ((n : ℕ) → (a : A) × Counts (Raise from) n a) → Allows Ruled id m (own k) (λ n. either (n == from) (from + 1) n) (told.count_raises counts (step (own k) from (from + 1)) m)
    raises_so from fits = tells (Raise from) (λ n. either (n == from) (from + 1) n) (counted_so (Raise from) (λ n. either (n == from) (from + 1) n) (λ n. either_if (n == from) (from + 1) n) fits)

    -- a count is set, in a step that leads the party as a relation says
    pub sets_so : (value : ℕ) (to : A → A → Type 0) → (a : A) × ((n : ℕ) → Counts (Set value) n a) × to m.view.party.state a → Allows Ruled id m (own k) (λ _. value) (λ _. told.count_sets to (step (own k) value 0) m value)
    sets_so value to (a, go, so) s r at has small = (
      on_with m.view a,
      keeps,
      tt,
      after_count s (Set value) value a r at has small refl (go (slice_index_or s.words k 0)),
      (so, refl),
    )

    -- where it is 0 the step leads the party so, and elsewhere nowhere
    pub passes_so : (to : A → A → Type 0) → (a : A) × Counts Read 0 a × to m.view.party.state a → Allows Ruled id m (own k) (λ n. n) (told.count_passes to (step (own k) 0 0) m)
    passes_so to (a, go, so) s r at has small = dite (ℕ_discrete (slice_index_or s.words k 0) 0)
        (λ none. (
          on_with m.view a,
          keeps,
          tt,
          after_count s Read (slice_index_or s.words k 0) a r at has small refl (subst (λ (n : ℕ). Counts Read n a) (sym none) go),
          ((λ zero. (so, refl)), λ some. absurd (some none)),
        ))
        (λ some. (
          m.view,
          keeps,
          tt,
          subst (λ (ws : List ℕ). Ruled (state.state ws s.blocks (set s.views id m.view))) (sym (set-get_or s.words k 0)) (subst (λ (vs : List (BlockView T A)). Ruled (state.state s.words s.blocks vs)) (sym (set_again s.views id m.view at)) r),
          ((λ none. absurd (some none)), λ _. refl),
        ))

-- a step that may have led the party on, or nowhere
pub passed_on : {T A : Type 0} → (to : A → A → Type 0) (m : Me (Option T) (BlockView T A)) (found : ℕ) (m' : Me (Option T) (BlockView T A))
    → (found ≡ 0 → to m.view.party.state m'.view.party.state × (m' ≡ me (on_with m.view m'.view.party.state) m.hand)) × (found ≢ 0 → m' ≡ m) → (a : A) × (m' ≡ me (on_with m.view a) m.hand)
passed_on to m found m' h = dite (ℕ_discrete found 0)
    (λ none. (m'.view.party.state, (h.0 none).1))
    (λ some. (m.view.party.state, h.1 some))
