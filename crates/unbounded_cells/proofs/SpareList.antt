-- Each step on the list of spare blocks keeps the rule: what the owner of its lock reads and writes, and the operations that take a block off
-- the list and put one on it.
use Rattle.std.proofs.Common.{◌≡◌, ◌≢◌, ℕ, ◌+◌, ◌<◌, ◌≤◌, ◌^◌, inl, ⊎_elim, true, false, List, [], ◌∷◌, ◌++◌, length, set, refl, sym, ap, ◌∙◌, subst, arith, length-set, get_or-set_other, get_or-set_same}
use Rattle.std.proofs.lemmas.Bool.{cases_lt}
use Rattle.std.proofs.lemmas.List.{set-get_or}
use Rattle.std.proofs.lemmas.Nat.Bits.{bit_at-zero}
use Rattle.std.specs.Int.{bit_at}
use Rattle.std.specs.Prelude.{Option, None, Some, Ok, Err, slice_index_or}
use mathlib.Core.Option as home
use mathlib.Core.Logic.{dite}
use native.Mathlib.Decide.{ℕ_discrete}
use lib.ListN.{get_elem?}
use Rattle.atomic_table.proofs.Lists.{at_set, at_map, set_again}
use Rattle.growing_table.specs.State as state
use Rattle.growing_table.specs.State.{Me, me, Act, keeps, takes, gives, own, within, count, block, block_of, home_of, Allows, Makes}
use Rattle.concurrent_queue.specs.Bridge.{Event, does}
use Rattle.concurrent_queue.specs.Contents.{Contents, BlockCells, blank, block_in, block_at, no_block, with_spare, spare_in, others_of, blocks_with}
use Rattle.concurrent_queue.specs.Deeds as deed
use Rattle.concurrent_queue.specs.Deeds.{Deed}
use Rattle.concurrent_queue.specs.Effects.{Does}
use Rattle.concurrent_queue.specs.machine.BlocksDenotes.{times}
use Rattle.concurrent_queue.specs.declared.cells.QueueForm.{QueueForm}
use Rattle.concurrent_queue.specs.declared.cells.QueueForm.TheVariants.{Unbounded}
use Rattle.concurrent_queue.specs.declared.cells.Word.{Word}
use Rattle.concurrent_queue.specs.declared.cells.Word.TheVariants as word
use Rattle.concurrent_queue.specs.declared.error.NoMemory.{NoMemory}
use Rattle.concurrent_queue.specs.declared.history.rule.Counter.{Counter}
use Rattle.concurrent_queue.specs.declared.history.rule.Counter.TheVariants.{First, Second, Third, Fourth, Fifth, Sixth}
use Rattle.concurrent_queue.specs.declared.history.rule.CountStep.{CountStep}
use Rattle.concurrent_queue.specs.declared.history.rule.View.{View}
use Rattle.concurrent_queue.specs.history.Keeps.{HistoryOf, KeepsHistory, Tally}
use Rattle.concurrent_queue.specs.history.Shared.{tally_in, count_at}
use Rattle.concurrent_queue.proofs.HistorySteps as steps
use Rattle.unbounded_cells.specs.Laws.{KeepsBlocks}
use Rattle.unbounded_cells.specs.Rule.{Blocks, TableState, inner, WordsShown, BlocksShown, Chain, IsRoot, root_at, party, parties, slot_in, KeepsSpares, Cleared, IsKept, IsRuled}
use Rattle.unbounded_cells.specs.SpareTold.{at_top, by_hand}
use Rattle.unbounded_cells.specs.Told.{on_with}
use Rattle.unbounded_cells.specs.declared.rule.BlockView.{BlockView}
use Rattle.unbounded_cells.proofs.Blocks as blocks
use Rattle.unbounded_cells.proofs.Room.{room}
use Rattle.unbounded_cells.proofs.Steps as rule
use Rattle.unbounded_cells.proofs.Steps.{seen_as}

pub top_no_count : (which : Counter) → 25 ≢ count_at Unbounded which
top_no_count First e = absurd (omega arith)
top_no_count Second e = absurd (omega arith)
top_no_count Third e = absurd (omega arith)
top_no_count Fourth e = absurd (omega arith)
top_no_count Fifth e = absurd (omega arith)
top_no_count Sixth e = absurd (omega arith)

pub top_no_root : (w : Word) → IsRoot w → root_at w ≢ 25
top_no_root word.State h e = absurd (omega arith)
top_no_root word.Head h e = absurd (omega arith)
top_no_root word.Tail h e = absurd (omega arith)
top_no_root word.HeadBlock h e = absurd (omega arith)
top_no_root word.TailBlock h e = absurd (omega arith)
top_no_root (word.Stamp i) h e = absurd h
top_no_root (word.Next b) h e = absurd h
top_no_root (word.Reads b) h e = absurd h
top_no_root (word.Written b i) h e = absurd h

pub some_is : {X : Type 0} (x y : X) → Some x ≡ Some y → x ≡ y
some_is x y e = cc

pub pairs : (p q : ℕ × ℕ) → p ≡ q → (p.0 ≡ q.0) × (p.1 ≡ q.1)
pairs p q e = (ap (λ (p : ℕ × ℕ). p.0) e, ap (λ (p : ℕ × ℕ). p.1) e)

pub none_some : {X : Type 0} (x : X) → None ≢ Some x
none_some x e = absurd (cc)

module _ {T : Type 0} where
  pub no_spares : (bs : Blocks T) (top : ℕ) (sp : List ℕ) → top ≡ 0 → Chain bs top sp → sp ≡ []
  no_spares bs top [] e c = refl
  no_spares bs top (y ∷ sp) e c = (let e' : top ≡ 0 = e in let c' : top ≡ y + 1 = c.0 in absurd (omega arith))

  pub blank_words : (bs : Blocks T) (b : ℕ) → ((i : ℕ) → i < 3 → inner bs b (31 + i) ≡ 0) → WordsShown (block bs b).words (blank {T = T})
  blank_words bs b none = record {
    next = sym (none 0 (omega arith));
    reads = sym (none 1 (omega arith));
    written = λ i near. blocks.no_flag i ∙ (sym (bit_at-zero i) ∙ ap (λ (x : ℕ). bit_at x i) (sym (none 2 (omega arith))));
  }

module _ {T A : Type 0} {moves : QueueForm → A → Event T → A → Type 0} {enters : QueueForm → A → Type 0} {turns : QueueForm → A → A → Type 0} {counts : QueueForm → A → A → Counter → CountStep → ℕ → Type 0} {both : A → A → A} {left : A → A} {parts : QueueForm → A → A → A → Type 0} {opened : A} {counted : ℕ} {is_history : HistoryOf T A} (laws : KeepsHistory moves enters turns counts both left parts opened counted is_history)
    {sized : ℕ → List (View T A) → Contents T → Tally → Type 0} (machine : KeepsBlocks moves is_history sized) (admits : Type 0) where
  abbrev Ruled : TableState T A → Type 0
  Ruled = IsRuled moves is_history sized admits

  abbrev Kept : List ℕ → Blocks T → List (BlockView T A) → Type 0
  Kept = IsKept moves is_history sized

  abbrev Seat : Type 0
  Seat = Me (Option T) (BlockView T A)

  -- the blocks and the spare list that an operation leaves, which begins with this
  abbrev pub Leaves : Deed T → ℕ → List ℕ → Blocks T → List (BlockView T A) → (q : Contents T) → Type 0
  Leaves d z ws bs views c =
      (cs : List (BlockCells T)) × (sp : List ℕ) × Does d c (record c { blocks = cs; spares = sp }) × BlocksShown bs cs sp × Chain bs z sp
      × ((b i : ℕ) (x : Option T) → slice_index_or (block_in c.blocks b).slots i None ≡ x → slice_index_or (block_in cs b).slots i None ≡ x)

  pub few : (s : TableState T A) (q : Kept s.words s.blocks s.views) → length q.contents.blocks < 2 ^ 61
  few s q =
      let k : ℕ = length q.contents.blocks in
      let l : ℕ = q.count in
      let e : k ≤ l = machine.few (parties s.views) q.contents (tally_in Unbounded s.words) q.count q.measured in
      let f : l < 2 ^ 61 = q.short in
      let z : k < 2 ^ 61 = omega arith in z

  -- the word of the first spare block is written, by the owner of the lock, in this operation
  by_top : (id z : ℕ) (m : Seat) (f : ℕ → ℕ) (d : Deed T) (a : A) → f m.view.top ≡ z → m.view.keeper ≡ true → m.view.party.spent ≡ false → moves Unbounded m.view.party.state (does (Some d)) a
      → ((s : TableState T A) (r : Ruled s) (q : Kept s.words s.blocks s.views) → get_elem? s.views id ≡ home.some m.view → KeepsSpares s.words s.blocks m.view
      → Leaves d z s.words s.blocks s.views q.contents)
      → Allows Ruled id m (own 25) f (λ _ m'. m' ≡ seen_as m (at_top (on_with m.view a) z))
  by_top id z m f d a new keeper live made by s r at has small =
      let v = m.view in
      let w = at_top (on_with v a) z in
      let z' : ℕ = f (slice_index_or s.words 25 0) in
      let ws' = set s.words 25 z' in
      let mine = r.spares id v at keeper in
      let there : slice_index_or ws' 25 0 ≡ z = get_or-set_same s.words 25 z' 0 has ∙ (ap f mine.top ∙ new) in (
        w,
        keeps,
        tt,
        rule.ruled laws machine admits s ws' s.blocks id v w r at refl (λ b i near. refl) (λ b. refl) (λ y. y) refl (inl refl) refl live refl (λ y. y)
            (get_or-set_other s.words 25 24 z' 0 (λ e. absurd (omega arith)))
            (λ _. record { top = there; link = λ b n e. absurd (none_some (b, n) e) })
            (λ none u g. absurd (let e : true ≡ false = sym keeper ∙ none in cc))
            (λ q.
            let c = q.contents in
            let g = by s r q at mine in
            rule.by_deed laws machine admits s.words ws' s.blocks s.blocks s.views q id v w d (record c { blocks = g.0; spares = g.1 }) at g.2 made
            (steps.tally_stays laws admits Unbounded s.words 25 z' top_no_count)
            (record {
              form = q.shown.form;
              none = q.shown.none;
              root = λ o h. blocks.root_stays c g.0 g.1 o h ∙ (q.shown.root o h ∙ sym (get_or-set_other s.words 25 (root_at o) z' 0 (top_no_root o h)));
              blocks = g.3;
              chain = subst (λ (top : ℕ). Chain s.blocks top g.1) (sym there) g.4;
            })
            (λ j u b i x e held. g.5 b i x (⊎_elim
            (λ (t : (j ≡ id) × (w ≡ u)). q.away id v b i x at (ap (λ (o : BlockView T A). o.held) t.1 ∙ held))
            (λ (t : (j ≢ id) × (get_elem? s.views j ≡ home.some u)). q.away j u b i x t.1 held)
            (at_set s.views id j w u e)))
            (λ j u e is. ⊎_elim
            (λ (t : (j ≡ id) × (w ≡ u)). subst (λ (o : BlockView T A). Cleared s.blocks o) t.1 (λ b i top low near. absurd (let low' : i < 0 = low in omega arith)))
            (λ (t : (j ≢ id) × (get_elem? s.views j ≡ home.some u)). absurd (t.0 (r.single j id u v t.1 at is keeper)))
            (at_set s.views id j w u e))),
        refl,
      )

  -- A BLOCK IS GIVEN BACK, which was linked to the first spare one
  pub retires_so : (id b : ℕ) (m : Seat) (a : A) → m.view.keeper ≡ true → m.view.party.spent ≡ false → m.view.link ≡ Some (b, m.view.top) → moves Unbounded m.view.party.state (does (Some (deed.retired b))) a
      → Allows Ruled id m (own 25) (λ _. b + 1) (λ _ m'. m' ≡ seen_as m (at_top (on_with m.view a) (b + 1)))
  retires_so id b m a keeper live linked made = by_top id (b + 1) m (λ _. b + 1) (deed.retired b) a refl keeper live made
      (λ s r q at mine.
      let c = q.contents in
      let p = at_map party s.views id m.view at in
      let u = machine.in_use (parties s.views) c (tally_in Unbounded s.words) q.count q.measured q.short id m.view.party (deed.retired b) b p (a, made) refl in
      let there : b < length s.blocks = subst (λ (k : ℕ). b < k) q.shown.blocks.made u.0 in
      let wide : length (block_at c b).slots ≡ 31 = (q.shown.blocks.slots b there).wide in
      let none : (i : ℕ) → slice_index_or (block_at c b).slots i None ≡ None = (λ i. ⊎_elim
      (λ near. machine.emptied (parties s.views) c (tally_in Unbounded s.words) q.count q.measured q.short id m.view.party b i p (a, made) near)
      (λ far. blocks.past (block_at c b).slots i None (subst (λ (k : ℕ). k ≤ i) (sym wide) far))
      (cases_lt i 31)) in
      let listed : with_spare c.spares (length c.blocks) b ≡ b ∷ c.spares =
      room (length c.blocks) b c.spares q.shown.blocks.once (λ j l. q.shown.blocks.near j (subst (λ (k : ℕ). k ≤ j) q.shown.blocks.made l)) u.0 u.1 in (
        set c.blocks b blank,
        b ∷ c.spares,
        ap (λ (sp : List ℕ). record c { blocks = set c.blocks b blank; spares = sp }) (sym listed),
        blocks.given s.blocks c.blocks b c.spares q.shown.blocks there u.1 none,
        (refl, there, subst (λ (top : ℕ). Chain s.blocks top c.spares) (sym (mine.link b m.view.top linked ∙ sym mine.top)) q.shown.chain),
        λ j i x e. dite (ℕ_discrete j b)
            (λ same. (let f : slice_index_or (block_in c.blocks b).slots i None ≡ x = subst (λ (k : ℕ). slice_index_or (block_in c.blocks k).slots i None ≡ x) same e in
            subst (λ (k : ℕ). slice_index_or (block_in (set c.blocks b blank) k).slots i None ≡ x) (sym same)
            (ap (λ (y : BlockCells T). slice_index_or y.slots i None) (get_or-set_same c.blocks b blank no_block u.0) ∙ (blocks.blank_slot i ∙ (sym (none i) ∙ f)))))
            (λ ne. ap (λ (y : BlockCells T). slice_index_or y.slots i None) (get_or-set_other c.blocks b j blank no_block ne) ∙ e),
      ))

  module _ (id b n : ℕ) (m : Seat) (keeper : m.view.keeper ≡ true) (top : m.view.top ≡ b + 1) (linked : m.view.link ≡ Some (b, n)) (clear : 3 ≤ m.view.cleared) where
    spare_leaves : (s : TableState T A) (r : Ruled s) (q : Kept s.words s.blocks s.views) → get_elem? s.views id ≡ home.some m.view → KeepsSpares s.words s.blocks m.view → (sp : List ℕ) → q.contents.spares ≡ sp
        → Leaves (deed.spared (Ok b)) n s.words s.blocks s.views q.contents
    spare_leaves s r q at mine [] e = (let z : slice_index_or s.words 25 0 ≡ 0 = subst (λ (l : List ℕ). Chain s.blocks (slice_index_or s.words 25 0) l) e q.shown.chain in let t : slice_index_or s.words 25 0 ≡ b + 1 = mine.top ∙ top in
        let x : ℕ = slice_index_or s.words 25 0 in let z' : x ≡ 0 = z in let t' : x ≡ b + 1 = t in absurd (omega arith))
    spare_leaves s r q at mine (y ∷ rest) e =
        let c = q.contents in
        let chain : Chain s.blocks (slice_index_or s.words 25 0) (y ∷ rest) = subst (λ (l : List ℕ). Chain s.blocks (slice_index_or s.words 25 0) l) e q.shown.chain in
        let first : y ≡ b = (let x : ℕ = slice_index_or s.words 25 0 in let z : x ≡ y + 1 = chain.0 in let t : x ≡ b + 1 = mine.top ∙ top in omega arith) in
        let shown : BlocksShown s.blocks c.blocks (b ∷ rest) = subst (λ (l : List ℕ). BlocksShown s.blocks c.blocks l) (e ∙ ap (λ (k : ℕ). k ∷ rest) first) q.shown.blocks in
        let cleared = q.cleared id m.view at keeper b in
        let words : WordsShown (block s.blocks b).words (blank {T = T}) = blank_words s.blocks b (λ i near. cleared i top (let k : ℕ = m.view.cleared in let c' : 3 ≤ k = clear in let z : i < k = omega arith in z) near) in (
          c.blocks,
          rest,
          (
            sym first ∙ ap (λ (l : List ℕ). spare_in l (length c.blocks)) (sym e),
            ap (λ (l : List ℕ). record c { blocks = blocks_with l c.blocks; spares = others_of l }) (sym e),
            (let k : ℕ = length c.blocks in let f : k < 2 ^ 61 = few s q in let z : k < 2 ^ 64 = omega arith in z),
          ),
          blocks.taken s.blocks c.blocks b rest shown words,
          subst (λ (t : ℕ). Chain s.blocks t rest) (ap (λ (k : ℕ). inner s.blocks k 34) first ∙ mine.link b n linked) chain.2,
          λ j i x f. f,
        )

    -- THE FIRST SPARE BLOCK IS TAKEN, whose words were cleared
    pub takes_spare : (a : A) → m.view.party.spent ≡ false → moves Unbounded m.view.party.state (does (Some (deed.spared (Ok b)))) a
        → Allows Ruled id m (own 25) (λ _. n) (λ _ m'. m' ≡ seen_as m (at_top (on_with m.view a) n))
    takes_spare a live made = by_top id n m (λ _. n) (deed.spared (Ok b)) a refl keeper live made (λ s r q at mine. spare_leaves s r q at mine q.contents.spares refl)

  -- NO BLOCK IS SPARE and there is no memory for a new one, in a load
  pub refuses_spare : (id : ℕ) (m : Seat) (none : NoMemory) (a : A) → m.view.keeper ≡ true → m.view.party.spent ≡ false → m.view.top ≡ 0 → moves Unbounded m.view.party.state (does (Some (deed.spared (Err none)))) a
      → Allows Ruled id m (own 25) (λ x. x) (λ _ m'. m' ≡ seen_as m (at_top (on_with m.view a) 0))
  refuses_spare id m none a keeper live top made = by_top id 0 m (λ x. x) (deed.spared (Err none)) a top keeper live made
      (λ s r q at mine.
      let c = q.contents in
      let zero_top : slice_index_or s.words 25 0 ≡ 0 = mine.top ∙ top in
      let empty : c.spares ≡ [] = no_spares s.blocks (slice_index_or s.words 25 0) c.spares zero_top q.shown.chain in
      (c.blocks, c.spares, (empty, refl), q.shown.blocks, subst (λ (t : ℕ). Chain s.blocks t c.spares) zero_top q.shown.chain, λ j i x e. e))

  -- ---- the owner of the lock reads and writes words of its own

  -- what the table shows stays, and so does the seat
  stays : (s : TableState T A) (id k : ℕ) (v : BlockView T A) → Ruled s → get_elem? s.views id ≡ home.some v → Ruled (state.state (set s.words k (slice_index_or s.words k 0)) s.blocks (set s.views id v))
  stays s id k v r at =
      subst (λ (ws : List ℕ). Ruled (state.state ws s.blocks (set s.views id v))) (sym (set-get_or s.words k 0))
      (subst (λ (vs : List (BlockView T A)). Ruled (state.state s.words s.blocks vs)) (sym (set_again s.views id v at)) r)

  pub reads_top : (id : ℕ) (m : Seat) → m.view.keeper ≡ true → Allows Ruled id m (own 25) (λ x. x) (λ x m'. (m' ≡ m) × (x ≡ m.view.top))
  reads_top id m keeper s r at has small = (m.view, keeps, tt, stays s id 25 m.view r at, (refl, (r.spares id m.view at keeper).top))

  -- it reads or writes a word of a block that the history doesn't see
  module _ (id n k : ℕ) (m : Seat) (f : ℕ → ℕ) (link : ℕ → Option (ℕ × ℕ)) (cleared : ℕ → ℕ) (behind : 31 ≤ k) (keeper : m.view.keeper ≡ true) (live : m.view.party.spent ≡ false) where
    abbrev Handed : (s : TableState T A) → n < length s.blocks → Blocks T
    Handed s there = blocks.with_word s.blocks n k (f (inner s.blocks n k)) there

    by_word : ((s : TableState T A) (there : n < length s.blocks) → k < length (block s.blocks n).words → KeepsSpares s.words s.blocks m.view → (b y : ℕ) → link (inner s.blocks n k) ≡ Some (b, y) → inner (Handed s there) b 34 ≡ y)
        → ((s : TableState T A) (there : n < length s.blocks) → k < length (block s.blocks n).words → Ruled s → (q : Kept s.words s.blocks s.views) → get_elem? s.views id ≡ home.some m.view
        → (times n q.contents.spares ≡ 0 → WordsShown (block s.blocks n).words (block_in q.contents.blocks n) → WordsShown (set (block s.blocks n).words k (f (inner s.blocks n k))) (block_in q.contents.blocks n))
        × ((b : ℕ) → 1 ≤ times b q.contents.spares → inner (Handed s there) b 34 ≡ inner s.blocks b 34) × Cleared (Handed s there) (by_hand m.view (link (inner s.blocks n k)) (cleared (inner s.blocks n k))))
        → Allows Ruled id m (within n k) f (λ x m'. m' ≡ seen_as m (by_hand m.view (link x) (cleared x)))
    by_word linked shows s r at has small =
        let v = m.view in
        let x : ℕ = inner s.blocks n k in
        let w = by_hand v (link x) (cleared x) in
        let bs' = Handed s has.0 in
        let mine = r.spares id v at keeper in (
          w,
          keeps,
          tt,
          rule.ruled laws machine admits s s.words bs' id v w r at (length-set s.blocks n _)
              (λ b i near. blocks.inner_stays s.blocks n k (f x) has.0 b i (λ _ e. absurd (omega arith)))
              (blocks.homes_stay s.blocks n k (f x) has.0)
              (λ z. z) refl (inl refl) refl live refl (λ z. z) refl
              (λ _. record { top = mine.top; link = λ b y e. linked s has.0 has.1 mine b y e })
              (λ none u g. absurd (let e : true ≡ false = sym keeper ∙ none in cc))
              (λ q.
              let g = shows s has.0 has.1 r q at in
              rule.quiet laws machine admits s.words s.words s.blocks bs' s.views q id v w at refl refl
              (record {
                form = q.shown.form;
                none = q.shown.none;
                root = q.shown.root;
                blocks = blocks.set_unseen s.blocks q.contents.blocks q.contents.spares n (set (block s.blocks n).words k (f x)) (block s.blocks n).homes q.shown.blocks has.0 g.0 (q.shown.blocks.slots n has.0);
                chain = blocks.chain_stays s.blocks bs' (let l : ℕ = length s.blocks in let l' : ℕ = length bs' in let same : l' ≡ l = length-set s.blocks n _ in let z : l ≤ l' = omega arith in z) q.contents.spares (slice_index_or s.words 25 0) g.1 q.shown.chain;
              })
              (λ j u b i y e held. ⊎_elim
              (λ (t : (j ≡ id) × (w ≡ u)). q.away id v b i y at (ap (λ (o : BlockView T A). o.held) t.1 ∙ held))
              (λ (t : (j ≢ id) × (get_elem? s.views j ≡ home.some u)). q.away j u b i y t.1 held)
              (at_set s.views id j w u e))
              (λ j u e is. ⊎_elim
              (λ (t : (j ≡ id) × (w ≡ u)). subst (λ (o : BlockView T A). Cleared bs' o) t.1 g.2)
              (λ (t : (j ≢ id) × (get_elem? s.views j ≡ home.some u)). absurd (t.0 (r.single j id u v t.1 at is keeper)))
              (at_set s.views id j w u e))),
          refl,
        )

  -- a word of a block is set to what it holds
  same_inner : (bs : Blocks T) (n k : ℕ) (there : n < length bs) → k < length (block bs n).words → (b i : ℕ) → inner (blocks.with_word bs n k (inner bs n k) there) b i ≡ inner bs b i
  same_inner bs n k there long b i = dite (ℕ_discrete b n)
      (λ e. dite (ℕ_discrete i k)
      (λ e'. subst (λ (j : ℕ). inner (blocks.with_word bs n k (inner bs n k) there) j i ≡ inner bs j i) (sym e)
      (subst (λ (j : ℕ). inner (blocks.with_word bs n k (inner bs n k) there) n j ≡ inner bs n j) (sym e') (blocks.inner_put bs n k (inner bs n k) there long)))
      (λ ne. blocks.inner_stays bs n k (inner bs n k) there b i (λ _. ne)))
      (λ ne. blocks.inner_stays bs n k (inner bs n k) there b i (λ e. absurd (ne e)))

  -- it reads where the spare block behind one is
  pub reads_link : (id n : ℕ) (m : Seat) → m.view.keeper ≡ true → m.view.party.spent ≡ false → Allows Ruled id m (within n 34) (λ x. x) (λ x m'. m' ≡ seen_as m (by_hand m.view (Some (n, x)) m.view.cleared))
  reads_link id n m keeper live = by_word id n 34 m (λ x. x) (λ x. Some (n, x)) (λ _. m.view.cleared) (omega arith) keeper live
      (λ s there long mine b y e.
      let both = pairs (n, inner s.blocks n 34) (b, y) (some_is (n, inner s.blocks n 34) (b, y) e) in
      same_inner s.blocks n 34 there long b 34 ∙ (ap (λ (j : ℕ). inner s.blocks j 34) (sym both.0) ∙ both.1))
      (λ s there long r q at. (
        λ _ g. subst (λ (l : List ℕ). WordsShown l (block_in q.contents.blocks n)) (sym (set-get_or (block s.blocks n).words 34 0)) g,
        λ b l. same_inner s.blocks n 34 there long b 34,
        λ b i top low few. same_inner s.blocks n 34 there long b (31 + i) ∙ q.cleared id m.view at keeper b i top low few,
      ))

  -- it links a block that its party is to give back
  pub writes_link : (id n : ℕ) (m : Seat) (a : A) → m.view.keeper ≡ true → m.view.party.spent ≡ false → moves Unbounded m.view.party.state (does (Some (deed.retired n))) a
      → Allows Ruled id m (within n 34) (λ _. m.view.top) (λ _ m'. m' ≡ seen_as m (by_hand m.view (Some (n, m.view.top)) m.view.cleared))
  writes_link id n m a keeper live may = by_word id n 34 m (λ _. m.view.top) (λ _. Some (n, m.view.top)) (λ _. m.view.cleared) (omega arith) keeper live
      (λ s there long mine b y e.
      let both = pairs (n, m.view.top) (b, y) (some_is (n, m.view.top) (b, y) e) in
      subst (λ (j : ℕ). inner (blocks.with_word s.blocks n 34 m.view.top there) j 34 ≡ y) both.0 (blocks.inner_put s.blocks n 34 m.view.top there long ∙ both.1))
      (λ s there long r q at.
      let u = machine.in_use (parties s.views) q.contents (tally_in Unbounded s.words) q.count q.measured q.short id m.view.party (deed.retired n) n (at_map party s.views id m.view at) (a, may) refl in (
        λ _ g. record {
          next = g.next ∙ sym (get_or-set_other (block s.blocks n).words 34 31 m.view.top 0 (λ e. absurd (omega arith)));
          reads = g.reads ∙ sym (get_or-set_other (block s.blocks n).words 34 32 m.view.top 0 (λ e. absurd (omega arith)));
          written = λ i near. g.written i near ∙ ap (λ (x : ℕ). bit_at x i) (sym (get_or-set_other (block s.blocks n).words 34 33 m.view.top 0 (λ e. absurd (omega arith))));
        },
        λ b l. blocks.inner_stays s.blocks n 34 m.view.top there b 34 (λ e. absurd (let z = subst (λ (j : ℕ). 1 ≤ times j q.contents.spares) e l in let j : ℕ = times n q.contents.spares in let o : 1 ≤ j = z in let p : j ≡ 0 = u.1 in omega arith)),
        λ b i top low few. blocks.inner_stays s.blocks n 34 m.view.top there b (31 + i) (λ _ e. absurd (omega arith)) ∙ q.cleared id m.view at keeper b i top low few,
      ))

  -- IT CLEARS A WORD of the first spare block
  pub clears : (id n j : ℕ) (m : Seat) → m.view.keeper ≡ true → m.view.party.spent ≡ false → j < 3 → m.view.top ≡ n + 1 → m.view.cleared ≡ j
      → Allows Ruled id m (within n (31 + j)) (λ _. 0) (λ _ m'. m' ≡ seen_as m (by_hand m.view m.view.link (j + 1)))
  clears id n j m keeper live near top so_far = by_word id n (31 + j) m (λ _. 0) (λ _. m.view.link) (λ _. j + 1) (omega arith) keeper live
      (λ s there long mine b y e. blocks.inner_stays s.blocks n (31 + j) 0 there b 34 (λ _ e. absurd (omega arith)) ∙ mine.link b y e)
      (λ s there long r q at.
      let first = blocks.first_spare s.blocks (slice_index_or s.words 25 0) n q.contents.spares ((r.spares id m.view at keeper).top ∙ top) q.shown.chain in (
        λ used g. absurd (let z : ℕ = times n q.contents.spares in let o : 1 ≤ z = first in let p : z ≡ 0 = used in omega arith),
        λ b l. blocks.inner_stays s.blocks n (31 + j) 0 there b 34 (λ _ e. absurd (omega arith)),
        λ b i is low few.
            let same : b ≡ n = (let t : ℕ = m.view.top in let x : t ≡ b + 1 = is in let y : t ≡ n + 1 = top in omega arith) in
            dite (ℕ_discrete i j)
            (λ e. ap (λ (z : ℕ). inner (blocks.with_word s.blocks n (31 + j) 0 there) z (31 + i)) same ∙ (ap (λ (z : ℕ). inner (blocks.with_word s.blocks n (31 + j) 0 there) n (31 + z)) e ∙ blocks.inner_put s.blocks n (31 + j) 0 there long))
            (λ ne. blocks.inner_stays s.blocks n (31 + j) 0 there b (31 + i) (λ _ e. ne (omega arith)) ∙ q.cleared id m.view at keeper b i is (let c : ℕ = m.view.cleared in let f : c ≡ j = so_far in let z : i < c = omega arith in z) few),
      ))

  -- ---- A NEW BLOCK

  pub makes_so : (id : ℕ) (m : Seat) → m.view.keeper ≡ true → m.view.party.spent ≡ false → m.view.top ≡ 0 → ((b : ℕ) → (a : A) × moves Unbounded m.view.party.state (does (Some (deed.spared (Ok b)))) a)
      → Makes Ruled 35 None id m (λ b m'. moves Unbounded m.view.party.state (does (Some (deed.spared (Ok b)))) m'.view.party.state × (m' ≡ seen_as m (at_top (on_with m.view m'.view.party.state) 0)))
  makes_so id m keeper live top fits s r at countable =
      let v = m.view in
      let n : ℕ = length s.blocks in
      let a = fits n in
      let w = at_top (on_with v a.0) 0 in
      let bs' = blocks.with_block s.blocks in
      let mine = r.spares id v at keeper in
      let zero_top : slice_index_or s.words 25 0 ≡ 0 = mine.top ∙ top in
      let more : length bs' ≡ n + 1 = blocks.longer s.blocks _ in
      let old_inner : (b i : ℕ) → b < n → inner bs' b i ≡ inner s.blocks b i = (λ b i l. ap (λ (x : state.BlockState (Option T)). slice_index_or x.words i 0) (blocks.old_block s.blocks b l)) in (
        w,
        rule.settled laws machine admits s s.words bs' id v w r at
            (λ b h. ⊎_elim
            (λ l. subst (λ (x : state.BlockState (Option T)). 31 ≤ length x.homes) (sym (blocks.old_block s.blocks b l)) (r.wide b l))
            (λ e. subst (λ (x : state.BlockState (Option T)). 31 ≤ length x.homes) (sym (blocks.new_block s.blocks b e)) (omega arith))
            (blocks.one_of s.blocks b h))
            (λ b i h near. ⊎_elim
            (λ l. rule.guarded_so laws machine admits s s.words bs' id v w at refl b i (old_inner b i l) (ap (λ (x : state.BlockState (Option T)). slice_index_or x.homes i None) (blocks.old_block s.blocks b l)) (r.guards b i l near))
            (λ e. inl (
              blocks.new_word s.blocks b i e,
              (None, blocks.new_home s.blocks b i e near),
              λ j u f z.
                  (let o = rule.was laws machine admits s id v w at j u refl f in
                  let l = r.there j o.0 b i o.1 (sym o.2 ∙ z) in let l' : b < n = l in let e' : b ≡ n = e in absurd (omega arith)),
            ))
            (blocks.one_of s.blocks b h))
            (λ j u b i f z.
            (let o = rule.was laws machine admits s id v w at j u refl f in
            let l = r.there j o.0 b i o.1 (sym o.2 ∙ z) in let k : ℕ = length bs' in let l' : b < n = l in let g : k ≡ n + 1 = more in let y : b < k = omega arith in y))
            (λ z. z) refl (inl refl) refl live (λ z. z) refl
            (λ _. record { top = zero_top; link = λ b y e. absurd (none_some (b, y) e) })
            (λ none u g. absurd (let e : true ≡ false = sym keeper ∙ none in cc))
            (λ q.
            let c = q.contents in
            let empty : c.spares ≡ [] = no_spares s.blocks (slice_index_or s.words 25 0) c.spares zero_top q.shown.chain in
            let e : Contents T = record c { blocks = c.blocks ++ blank ∷ []; spares = [] } in
            let none : BlocksShown s.blocks c.blocks [] = subst (λ (l : List ℕ). BlocksShown s.blocks c.blocks l) empty q.shown.blocks in
            rule.by_deed laws machine admits s.words s.words s.blocks bs' s.views q id v w (deed.spared (Ok n)) e at (
              sym q.shown.blocks.made ∙ ap (λ (l : List ℕ). spare_in l (length c.blocks)) (sym empty),
              ap (λ (l : List ℕ). record c { blocks = blocks_with l c.blocks; spares = others_of l }) (sym empty),
              (let k : ℕ = length c.blocks in let f : k < 2 ^ 61 = few s q in let j : ℕ = length (c.blocks ++ blank ∷ []) in let g : j ≡ k + 1 = blocks.longer c.blocks blank in let z : j < 2 ^ 64 = omega arith in z),
            ) a.1 refl
            (record {
              form = q.shown.form;
              none = q.shown.none;
              root = λ o h. blocks.root_stays c (c.blocks ++ blank ∷ []) [] o h ∙ q.shown.root o h;
              blocks = blocks.added s.blocks c.blocks none;
              chain = zero_top;
            })
            (λ j u b i x f held.
            (let l : b < n = ⊎_elim
            (λ (t : (j ≡ id) × (w ≡ u)). r.there id v b i at (ap slot_in (ap (λ (o : BlockView T A). o.held) t.1 ∙ held)))
            (λ (t : (j ≢ id) × (get_elem? s.views j ≡ home.some u)). r.there j u b i t.1 (ap slot_in held))
            (at_set s.views id j w u f) in
            blocks.slots_remain s.blocks c.blocks q.shown.blocks.made b i x l (⊎_elim
            (λ (t : (j ≡ id) × (w ≡ u)). q.away id v b i x at (ap (λ (o : BlockView T A). o.held) t.1 ∙ held))
            (λ (t : (j ≢ id) × (get_elem? s.views j ≡ home.some u)). q.away j u b i x t.1 held)
            (at_set s.views id j w u f))))
            (λ j u e is. ⊎_elim
            (λ (t : (j ≡ id) × (w ≡ u)). subst (λ (o : BlockView T A). Cleared bs' o) t.1 (λ b i is low near. absurd (let low' : i < 0 = low in omega arith)))
            (λ (t : (j ≢ id) × (get_elem? s.views j ≡ home.some u)). absurd (t.0 (r.single j id u v t.1 at is keeper)))
            (at_set s.views id j w u e))),
        (a.1, refl),
      )
