-- Each operation on a word keeps the rule: one lemma for all words that are whole words of the table, whichever the operation, two for a
-- flag, and one for operations that leave all cells as they are.
use Rattle.std.proofs.Common.{◌≡◌, ◌≢◌, ℕ, zero, suc, ◌+◌, ◌%◌, ◌^◌, ◌<◌, ◌≤◌, ◌⊎◌, inl, inr, ⊎_elim, eqb, Bool, false, if◌then◌else◌, List, length, set, refl, sym, ap, ◌∙◌, subst, arith, eq-eqb, ne_eqb, length-set, get_or-set_other, get_or-set_same, max}
use Rattle.std.proofs.lemmas.Bool.{cases_lt}
use Rattle.std.proofs.lemmas.List.{set-get_or}
use Rattle.std.proofs.lemmas.Nat.Bits.{bit_at_or, bit_at-pow_same, bit_at-pow_other, bit_at-lt}
use Rattle.std.specs.Int.{bit_at}
use Rattle.std.specs.Prelude.{Option, None, Some, Ok, Err, MatchResult, slice_index, slice_index_or, bit_and, bit_or}
use mathlib.Core.Option as home
use mathlib.Core.Logic.{dite}
use native.Mathlib.Decide.{ℕ_discrete}
use lib.ListN.{get_elem?}
use prog.Atomic.{either}
use Rattle.atomic_table.proofs.Lists.{at_set, at_map, set_again}
use Rattle.growing_table.specs.State as state
use Rattle.growing_table.specs.State.{Me, me, Act, keeps, own, within, count, block, block_of, Allows}
use Rattle.concurrent_queue.specs.Bridge.{Event, does}
use Rattle.concurrent_queue.specs.Contents.{Contents, BlockCells, block_in, block_at, with_block, with_next, with_reads, with_written, no_block, read, write}
use Rattle.concurrent_queue.specs.Deeds as deed
use Rattle.concurrent_queue.specs.Deeds.{Deed}
use Rattle.concurrent_queue.specs.Effects.{Does}
use Rattle.concurrent_queue.specs.declared.cells.QueueForm.{QueueForm}
use Rattle.concurrent_queue.specs.declared.cells.QueueForm.TheVariants.{Unbounded}
use Rattle.concurrent_queue.specs.declared.cells.Word.{Word}
use Rattle.concurrent_queue.specs.declared.cells.Word.TheVariants as word
use Rattle.concurrent_queue.specs.declared.history.rule.Counter.{Counter}
use Rattle.concurrent_queue.specs.declared.history.rule.Counter.TheVariants.{First, Second, Third, Fourth, Fifth, Sixth}
use Rattle.concurrent_queue.specs.declared.history.rule.CountStep.{CountStep}
use Rattle.concurrent_queue.specs.declared.history.rule.View.{View}
use Rattle.concurrent_queue.specs.history.Keeps.{HistoryOf, KeepsHistory, Tally}
use Rattle.concurrent_queue.specs.history.Shared.{tally_in, count_at, answer}
use Rattle.concurrent_queue.proofs.HistorySteps as steps
use Rattle.unbounded_cells.specs.Laws.{deed_block, word_block, KeepsBlocks}
use Rattle.unbounded_cells.specs.Rule.{Blocks, TableState, inner, WordsShown, SlotsShown, BlocksShown, IsShown, IsRoot, root_at, party, parties, slot_of, KeepsSpares, Cleared, IsKept, IsRuled}
use Rattle.unbounded_cells.specs.Told as told
use Rattle.unbounded_cells.specs.Told.{on_with}
use Rattle.unbounded_cells.specs.Words.{IsWhole, spot_of, LeavesAll}
use Rattle.unbounded_cells.specs.declared.rule.BlockView.{BlockView}
use Rattle.unbounded_cells.proofs.Blocks as blocks
use Rattle.unbounded_cells.proofs.SpareList.{top_no_root}
use Rattle.unbounded_cells.proofs.Steps as rule
use Rattle.unbounded_cells.proofs.Steps.{seen_as}

root_low : (w : Word) → IsRoot w → (root_at w < 3) ⊎ ((16 ≤ root_at w) × (root_at w < 18))
root_low word.State h = inl (omega arith)
root_low word.Head h = inl (omega arith)
root_low word.HeadBlock h = inl (omega arith)
root_low word.Tail h = inr (omega arith, omega arith)
root_low word.TailBlock h = inr (omega arith, omega arith)
root_low (word.Stamp i) h = absurd h
root_low (word.Next b) h = absurd h
root_low (word.Reads b) h = absurd h
root_low (word.Written b i) h = absurd h

pub root_no_flag : (w : Word) → IsRoot w → 24 ≢ root_at w
root_no_flag w h e = ⊎_elim (λ a. let k : ℕ = root_at w in let a' : k < 3 = a in let e' : 24 ≡ k = e in absurd (omega arith)) (λ a. let k : ℕ = root_at w in let a' : k < 18 = a.1 in let e' : 24 ≡ k = e in absurd (omega arith)) (root_low w h)

not_there : (k n : ℕ) → (k < 3) ⊎ ((16 ≤ k) × (k < 18)) → 3 ≤ n → (n < 16) ⊎ (18 ≤ n) → k ≢ n
not_there k n (inl a) low (inl b) e = omega arith
not_there k n (inl a) low (inr b) e = omega arith
not_there k n (inr a) low (inl b) e = (let x = a.0 in omega arith)
not_there k n (inr a) low (inr b) e = (let x = a.1 in omega arith)

pub root_no_count : (w : Word) → IsRoot w → (which : Counter) → root_at w ≢ count_at Unbounded which
root_no_count w h First = not_there (root_at w) 9 (root_low w h) (omega arith) (inl (omega arith))
root_no_count w h Second = not_there (root_at w) 28 (root_low w h) (omega arith) (inr (omega arith))
root_no_count w h Third = not_there (root_at w) 10 (root_low w h) (omega arith) (inl (omega arith))
root_no_count w h Fourth = not_there (root_at w) 11 (root_low w h) (omega arith) (inl (omega arith))
root_no_count w h Fifth = not_there (root_at w) 12 (root_low w h) (omega arith) (inl (omega arith))
root_no_count w h Sixth = not_there (root_at w) 13 (root_low w h) (omega arith) (inl (omega arith))

module _ {T : Type 0} where
  -- two of the queue's own words are one, or neither is written with the other
  rooted : (g w : Word) → IsRoot g → IsRoot w → (g ≡ w) ⊎ ((root_at g ≢ root_at w) × ((c : Contents T) (x : ℕ) → read (write c w x) g ≡ read c g))
  rooted word.State word.State h k = inl refl
  rooted word.State word.Head h k = inr ((λ e. absurd (omega arith)), λ c x. refl)
  rooted word.State word.Tail h k = inr ((λ e. absurd (omega arith)), λ c x. refl)
  rooted word.State word.HeadBlock h k = inr ((λ e. absurd (omega arith)), λ c x. refl)
  rooted word.State word.TailBlock h k = inr ((λ e. absurd (omega arith)), λ c x. refl)
  rooted word.State (word.Stamp i) h k = absurd k
  rooted word.State (word.Next b) h k = absurd k
  rooted word.State (word.Reads b) h k = absurd k
  rooted word.State (word.Written b i) h k = absurd k
  rooted word.Head word.State h k = inr ((λ e. absurd (omega arith)), λ c x. refl)
  rooted word.Head word.Head h k = inl refl
  rooted word.Head word.Tail h k = inr ((λ e. absurd (omega arith)), λ c x. refl)
  rooted word.Head word.HeadBlock h k = inr ((λ e. absurd (omega arith)), λ c x. refl)
  rooted word.Head word.TailBlock h k = inr ((λ e. absurd (omega arith)), λ c x. refl)
  rooted word.Head (word.Stamp i) h k = absurd k
  rooted word.Head (word.Next b) h k = absurd k
  rooted word.Head (word.Reads b) h k = absurd k
  rooted word.Head (word.Written b i) h k = absurd k
  rooted word.Tail word.State h k = inr ((λ e. absurd (omega arith)), λ c x. refl)
  rooted word.Tail word.Head h k = inr ((λ e. absurd (omega arith)), λ c x. refl)
  rooted word.Tail word.Tail h k = inl refl
  rooted word.Tail word.HeadBlock h k = inr ((λ e. absurd (omega arith)), λ c x. refl)
  rooted word.Tail word.TailBlock h k = inr ((λ e. absurd (omega arith)), λ c x. refl)
  rooted word.Tail (word.Stamp i) h k = absurd k
  rooted word.Tail (word.Next b) h k = absurd k
  rooted word.Tail (word.Reads b) h k = absurd k
  rooted word.Tail (word.Written b i) h k = absurd k
  rooted word.HeadBlock word.State h k = inr ((λ e. absurd (omega arith)), λ c x. refl)
  rooted word.HeadBlock word.Head h k = inr ((λ e. absurd (omega arith)), λ c x. refl)
  rooted word.HeadBlock word.Tail h k = inr ((λ e. absurd (omega arith)), λ c x. refl)
  rooted word.HeadBlock word.HeadBlock h k = inl refl
  rooted word.HeadBlock word.TailBlock h k = inr ((λ e. absurd (omega arith)), λ c x. refl)
  rooted word.HeadBlock (word.Stamp i) h k = absurd k
  rooted word.HeadBlock (word.Next b) h k = absurd k
  rooted word.HeadBlock (word.Reads b) h k = absurd k
  rooted word.HeadBlock (word.Written b i) h k = absurd k
  rooted word.TailBlock word.State h k = inr ((λ e. absurd (omega arith)), λ c x. refl)
  rooted word.TailBlock word.Head h k = inr ((λ e. absurd (omega arith)), λ c x. refl)
  rooted word.TailBlock word.Tail h k = inr ((λ e. absurd (omega arith)), λ c x. refl)
  rooted word.TailBlock word.HeadBlock h k = inr ((λ e. absurd (omega arith)), λ c x. refl)
  rooted word.TailBlock word.TailBlock h k = inl refl
  rooted word.TailBlock (word.Stamp i) h k = absurd k
  rooted word.TailBlock (word.Next b) h k = absurd k
  rooted word.TailBlock (word.Reads b) h k = absurd k
  rooted word.TailBlock (word.Written b i) h k = absurd k
  rooted (word.Stamp j) w h k = absurd h
  rooted (word.Next d) w h k = absurd h
  rooted (word.Reads d) w h k = absurd h
  rooted (word.Written d j) w h k = absurd h

  abbrev SameBlocks : Contents T → Contents T → Type 0
  SameBlocks e c = (e.blocks ≡ c.blocks) × (e.spares ≡ c.spares) × (e.form ≡ c.form) × (e.stamps ≡ c.stamps) × (e.slots ≡ c.slots)

  root_apart : (w : Word) (c : Contents T) (x : ℕ) → IsRoot w → SameBlocks (write c w x) c
  root_apart word.State c x h = (refl, refl, refl, refl, refl)
  root_apart word.Head c x h = (refl, refl, refl, refl, refl)
  root_apart word.Tail c x h = (refl, refl, refl, refl, refl)
  root_apart word.HeadBlock c x h = (refl, refl, refl, refl, refl)
  root_apart word.TailBlock c x h = (refl, refl, refl, refl, refl)
  root_apart (word.Stamp i) c x h = absurd h
  root_apart (word.Next b) c x h = absurd h
  root_apart (word.Reads b) c x h = absurd h
  root_apart (word.Written b i) c x h = absurd h

  -- a word written as it was
  pub write_same : (w : Word) → IsWhole w → (c : Contents T) → write c w (read c w) ≡ c
  write_same word.State h c = refl
  write_same word.Head h c = refl
  write_same word.Tail h c = refl
  write_same word.HeadBlock h c = refl
  write_same word.TailBlock h c = refl
  write_same (word.Next b) h c = ap (λ (l : List (BlockCells T)). record c { blocks = l }) (set-get_or c.blocks b no_block)
  write_same (word.Reads b) h c = ap (λ (l : List (BlockCells T)). record c { blocks = l }) (set-get_or c.blocks b no_block)
  write_same (word.Stamp i) h c = absurd h
  write_same (word.Written b i) h c = absurd h

module _ {T A : Type 0} {moves : QueueForm → A → Event T → A → Type 0} {enters : QueueForm → A → Type 0} {turns : QueueForm → A → A → Type 0} {counts : QueueForm → A → A → Counter → CountStep → ℕ → Type 0} {both : A → A → A} {left : A → A} {parts : QueueForm → A → A → A → Type 0} {opened : A} {counted : ℕ} {is_history : HistoryOf T A} (laws : KeepsHistory moves enters turns counts both left parts opened counted is_history)
    {sized : ℕ → List (View T A) → Contents T → Tally → Type 0} (machine : KeepsBlocks moves is_history sized) (admits : Type 0) where
  abbrev Ruled : TableState T A → Type 0
  Ruled = IsRuled moves is_history sized admits

  abbrev Kept : List ℕ → Blocks T → List (BlockView T A) → Type 0
  Kept = IsKept moves is_history sized

  abbrev Seat : Type 0
  Seat = Me (Option T) (BlockView T A)

  -- ---- one of the queue's own words

  module _ (id : ℕ) (m : Seat) (w : Word) (f : ℕ → ℕ) (d : ℕ → Deed T) (live : m.view.party.spent ≡ false) (effect : (c e : Contents T) → e ≡ write c w (f (read c w)) → Does (d (read c w)) c e) (fits : (x : ℕ) → (a : A) × moves Unbounded m.view.party.state (does (Some (d x))) a) where
    by_root : IsRoot w → Allows Ruled id m (own (root_at w)) f (λ x m'. told.Does moves (d x) m m')
    by_root is s r at has small =
        let k : ℕ = root_at w in
        let x : ℕ = slice_index_or s.words k 0 in
        let b = fits x in
        let v = m.view in
        let u = on_with v b.0 in
        let ws' = set s.words k (f x) in
        let top : slice_index_or ws' 25 0 ≡ slice_index_or s.words 25 0 = get_or-set_other s.words k 25 (f x) 0 (λ e. top_no_root w is (sym e)) in
        let spares_stay : (g : BlockView T A) → KeepsSpares s.words s.blocks g → KeepsSpares ws' s.blocks g = (λ g h. record { top = top ∙ h.top; link = h.link }) in (
          u,
          keeps,
          tt,
          rule.ruled laws machine admits s ws' s.blocks id v u r at refl (λ b i near. refl) (λ b. refl) (λ z. z) refl (inl refl) refl live refl (λ z. z)
              (get_or-set_other s.words k 24 (f x) 0 (root_no_flag w is))
              (λ owns. let g = spares_stay v (r.spares id v at owns) in record { top = g.top; link = g.link })
              (λ _ g h. spares_stay g h)
              (λ q.
              let c = q.contents in
              let there : read c w ≡ x = q.shown.root w is in
              let e : Contents T = write c w (f x) in
              let apart = root_apart w c (f x) is in
              let done : Does (d x) c e = subst (λ (y : ℕ). Does (d y) c (write c w (f y))) there (effect c (write c w (f (read c w))) refl) in
              rule.by_deed laws machine admits s.words ws' s.blocks s.blocks s.views q id v u (d x) e at done b.1
              (steps.tally_stays laws admits Unbounded s.words k (f x) (root_no_count w is))
              (record {
                form = apart.2 ∙ q.shown.form;
                none = (apart.3 ∙ q.shown.none.0, apart.4 ∙ q.shown.none.1);
                root = λ g h. ⊎_elim
                    (λ (same : g ≡ w). subst (λ (o : Word). read e o ≡ slice_index_or ws' (root_at o) 0) (sym same) (blocks.found_again c w (f x) is ∙ sym (get_or-set_same s.words k (f x) 0 has)))
                    (λ (z : (root_at g ≢ root_at w) × ((c : Contents T) (x : ℕ) → read (write c w x) g ≡ read c g)). z.1 c (f x) ∙ (q.shown.root g h ∙ sym (get_or-set_other s.words k (root_at g) (f x) 0 z.0)))
                    (rooted g w h is);
                blocks = subst (λ (l : List (BlockCells T)). BlocksShown s.blocks l e.spares) (sym apart.0) (subst (λ (l : List ℕ). BlocksShown s.blocks c.blocks l) (sym apart.1) q.shown.blocks);
                chain = subst (λ (l : List ℕ). Rattle.unbounded_cells.specs.Rule.Chain s.blocks (slice_index_or ws' 25 0) l) (sym apart.1) (subst (λ (t : ℕ). Rattle.unbounded_cells.specs.Rule.Chain s.blocks t c.spares) (sym top) q.shown.chain);
              })
              (λ j g b i y e1 held. ap (λ (l : List (BlockCells T)). slice_index_or (block_in l b).slots i None) apart.0 ∙ ⊎_elim
              (λ (t : (j ≡ id) × (u ≡ g)). q.away id v b i y at (ap (λ (o : BlockView T A). o.held) t.1 ∙ held))
              (λ (t : (j ≢ id) × (get_elem? s.views j ≡ home.some g)). q.away j g b i y t.1 held)
              (at_set s.views id j u g e1))
              (λ j g e1 owns. ⊎_elim
              (λ (t : (j ≡ id) × (u ≡ g)). subst (λ (o : BlockView T A). Cleared s.blocks o) t.1 (λ b i first low few. q.cleared id v at (ap (λ (o : BlockView T A). o.keeper) t.1 ∙ owns) b i first low few))
              (λ (t : (j ≢ id) × (get_elem? s.views j ≡ home.some g)). q.cleared j g t.1 owns)
              (at_set s.views id j u g e1))),
          (b.1, refl),
        )

    -- ---- a block's

    by_next : (n : ℕ) → w ≡ word.Next n → ((x : ℕ) → deed_block (d x) ≡ Some n) → Allows Ruled id m (within n 31) f (λ x m'. told.Does moves (d x) m m')
    by_next n is touches = rule.by_block laws machine admits id n 31 m f d (λ x y. with_next y (f x)) (omega arith) (omega arith) live touches
        (λ ws y long flags g. record {
          next = sym (get_or-set_same ws 31 (f (slice_index_or ws 31 0)) 0 long);
          reads = g.reads ∙ sym (get_or-set_other ws 31 32 (f (slice_index_or ws 31 0)) 0 (λ e. absurd (omega arith)));
          written = λ i near. g.written i near ∙ ap (λ (z : ℕ). bit_at z i) (sym (get_or-set_other ws 31 33 (f (slice_index_or ws 31 0)) 0 (λ e. absurd (omega arith))));
        })
        (λ x y. (refl, refl))
        (λ c ws g.
        subst (λ (x : ℕ). Does (d x) c (with_block c n (with_next (block_at c n) (f x)))) g.next
        (subst (λ (o : Word). Does (d (read c o)) c (write c o (f (read c o)))) is (effect c (write c w (f (read c w))) refl)))
        fits

    by_reads : (n : ℕ) → w ≡ word.Reads n → ((x : ℕ) → deed_block (d x) ≡ Some n) → Allows Ruled id m (within n 32) f (λ x m'. told.Does moves (d x) m m')
    by_reads n is touches = rule.by_block laws machine admits id n 32 m f d (λ x y. with_reads y (f x)) (omega arith) (omega arith) live touches
        (λ ws y long flags g. record {
          next = g.next ∙ sym (get_or-set_other ws 32 31 (f (slice_index_or ws 32 0)) 0 (λ e. absurd (omega arith)));
          reads = sym (get_or-set_same ws 32 (f (slice_index_or ws 32 0)) 0 long);
          written = λ i near. g.written i near ∙ ap (λ (z : ℕ). bit_at z i) (sym (get_or-set_other ws 32 33 (f (slice_index_or ws 32 0)) 0 (λ e. absurd (omega arith))));
        })
        (λ x y. (refl, refl))
        (λ c ws g.
        subst (λ (x : ℕ). Does (d x) c (with_block c n (with_reads (block_at c n) (f x)))) g.reads
        (subst (λ (o : Word). Does (d (read c o)) c (write c o (f (read c o)))) is (effect c (write c w (f (read c w))) refl)))
        fits

  -- AN OPERATION ON A WHOLE WORD, whichever
  pub by_whole : (id : ℕ) (m : Seat) (w : Word) (f : ℕ → ℕ) (d : ℕ → Deed T) → IsWhole w → m.view.party.spent ≡ false → ((c e : Contents T) → e ≡ write c w (f (read c w)) → Does (d (read c w)) c e) → ((x : ℕ) → (a : A) × moves Unbounded m.view.party.state (does (Some (d x))) a)
      → ((x : ℕ) → deed_block (d x) ≡ word_block w) → Allows Ruled id m (spot_of w) f (λ x m'. told.Does moves (d x) m m')
  by_whole id m word.State f d is live effect fits touches = by_root id m word.State f d live effect fits tt
  by_whole id m word.Head f d is live effect fits touches = by_root id m word.Head f d live effect fits tt
  by_whole id m word.Tail f d is live effect fits touches = by_root id m word.Tail f d live effect fits tt
  by_whole id m word.HeadBlock f d is live effect fits touches = by_root id m word.HeadBlock f d live effect fits tt
  by_whole id m word.TailBlock f d is live effect fits touches = by_root id m word.TailBlock f d live effect fits tt
  by_whole id m (word.Next b) f d is live effect fits touches = by_next id m (word.Next b) f d live effect fits b refl touches
  by_whole id m (word.Reads b) f d is live effect fits touches = by_reads id m (word.Reads b) f d live effect fits b refl touches
  by_whole id m (word.Stamp i) f d is live effect fits touches = absurd is
  by_whole id m (word.Written b i) f d is live effect fits touches = absurd is

  module _ (id : ℕ) (m : Seat) (w : Word) (is : IsWhole w) (live : m.view.party.spent ≡ false) where
    abbrev Fits : (ℕ → Deed T) → Type 0
    Fits d = (x : ℕ) → (a : A) × moves Unbounded m.view.party.state (does (Some (d x))) a

    pub loads_so : Fits (deed.loaded w) → Allows Ruled id m (spot_of w) (λ n. n) (λ n m'. told.Does moves (deed.loaded w n) m m')
    loads_so fits = by_whole id m w (λ n. n) (deed.loaded w) is live (λ c e h. (refl, h ∙ write_same w is c)) fits (λ x. refl)

    pub stores_so : (x : ℕ) → ((a : A) × moves Unbounded m.view.party.state (does (Some (deed.stored w x))) a) → Allows Ruled id m (spot_of w) (λ _. x) (λ _ m'. told.Does moves (deed.stored w x) m m')
    stores_so x fits = by_whole id m w (λ _. x) (λ _. deed.stored w x) is live (λ c e h. h) (λ _. fits) (λ _. refl)

    pub adds_so : (x : ℕ) → Fits (deed.added w x) → Allows Ruled id m (spot_of w) (λ n. (n + x) % 2 ^ 64) (λ n m'. told.Does moves (deed.added w x n) m m')
    adds_so x fits = by_whole id m w (λ n. (n + x) % 2 ^ 64) (deed.added w x) is live (λ c e h. (refl, h)) fits (λ _. refl)

    pub sets_so : (x : ℕ) → Fits (deed.bits_set w x) → Allows Ruled id m (spot_of w) (λ n. bit_or n x) (λ n m'. told.Does moves (deed.bits_set w x n) m m')
    sets_so x fits = by_whole id m w (λ n. bit_or n x) (deed.bits_set w x) is live (λ c e h. (refl, h)) fits (λ _. refl)

    pub keeps_so : (x : ℕ) → Fits (deed.bits_kept w x) → Allows Ruled id m (spot_of w) (λ n. bit_and n x) (λ n m'. told.Does moves (deed.bits_kept w x n) m m')
    keeps_so x fits = by_whole id m w (λ n. bit_and n x) (deed.bits_kept w x) is live (λ c e h. (refl, h)) fits (λ _. refl)

    abbrev Answers : ℕ → ℕ → Contents T → Contents T → Bool → Type 0
    Answers old new c e b = e ≡ write c w (either b new (read c w)) → MatchResult (if b then Ok (read c w) else Err (read c w)) (λ v. (v ≡ old) × (read c w ≡ old) × (e ≡ write c w new)) (λ v. (v ≡ read c w) × (¬ (v ≡ old)) × (e ≡ c))

    exchange_does : (old new : ℕ) (c e : Contents T) → e ≡ write c w (either (eqb (read c w) old) new (read c w)) → Does (deed.exchanged w old new (answer (read c w) old)) c e
    exchange_does old new c e = dite (ℕ_discrete (read c w) old)
        (λ q. subst (Answers old new c e) (sym (eq-eqb (read c w) old q)) (λ h. (q, q, h)))
        (λ ne. subst (Answers old new c e) (sym (ne_eqb (read c w) old ne)) (λ h. (refl, ne, h ∙ write_same w is c)))

    pub exchanges_so : (old new : ℕ) → Fits (λ n. deed.exchanged w old new (answer n old)) → Allows Ruled id m (spot_of w) (λ n. either (eqb n old) new n) (λ n m'. told.Does moves (deed.exchanged w old new (answer n old)) m m')
    exchanges_so old new fits = by_whole id m w (λ n. either (eqb n old) new n) (λ n. deed.exchanged w old new (answer n old)) is live (exchange_does old new) fits (λ _. refl)

  -- ---- a flag

  module _ (id n i : ℕ) (m : Seat) (near : i < 31) (live : m.view.party.spent ≡ false) where
    pub reads_flag : ((x : ℕ) → (a : A) × moves Unbounded m.view.party.state (does (Some (deed.loaded (word.Written n i) x))) a) → Allows Ruled id m (within n 33) (λ x. x) (λ x m'. told.Does moves (deed.loaded (word.Written n i) (bit_at x i)) m m')
    reads_flag fits = rule.by_block laws machine admits id n 33 m (λ x. x) (λ x. deed.loaded (word.Written n i) (bit_at x i)) (λ x y. y) (omega arith) (omega arith) live (λ _. refl)
        (λ ws y long flags g. subst (λ (l : List ℕ). WordsShown l y) (sym (set-get_or ws 33 0)) g)
        (λ x y. (refl, refl))
        (λ c ws g. (sym (g.written i near), ap (λ (l : List (BlockCells T)). record c { blocks = l }) (set-get_or c.blocks n no_block)))
        (λ x. fits (bit_at x i))

    one_most : (x : ℕ) → x < 2 → max x 1 ≡ 1
    one_most zero h = refl
    one_most (suc zero) h = refl
    one_most (suc (suc x)) h = absurd (omega arith)

    with_none : (x : ℕ) → max x 0 ≡ x
    with_none x = omega arith

    pub sets_flag : ((a : A) × moves Unbounded m.view.party.state (does (Some (deed.stored (word.Written n i) 1))) a) → Allows Ruled id m (within n 33) (λ x. bit_or x (2 ^ i)) (λ _ m'. told.Does moves (deed.stored (word.Written n i) 1) m m')
    sets_flag fits = rule.by_block laws machine admits id n 33 m (λ x. bit_or x (2 ^ i)) (λ _. deed.stored (word.Written n i) 1) (λ x y. with_written y i 1) (omega arith) (omega arith) live (λ _. refl)
        (λ ws y long flags g.
        let x : ℕ = slice_index_or ws 33 0 in
        let now : slice_index_or (set ws 33 (bit_or x (2 ^ i))) 33 0 ≡ bit_or x (2 ^ i) = get_or-set_same ws 33 (bit_or x (2 ^ i)) 0 long in
        record {
          next = g.next ∙ sym (get_or-set_other ws 33 31 (bit_or x (2 ^ i)) 0 (λ e. absurd (omega arith)));
          reads = g.reads ∙ sym (get_or-set_other ws 33 32 (bit_or x (2 ^ i)) 0 (λ e. absurd (omega arith)));
          written = λ j low. dite (ℕ_discrete j i)
              (λ e. ap (slice_index (set y.written i 1)) e ∙ (get_or-set_same y.written i 1 0 (subst (λ (l : ℕ). i < l) (sym flags) near)
              ∙ (sym (one_most (bit_at x i) (bit_at-lt x i)) ∙ (ap (max (bit_at x i)) (sym (bit_at-pow_same i)) ∙ (sym (bit_at_or x (2 ^ i) i) ∙ (ap (λ (z : ℕ). bit_at z i) (sym now) ∙ ap (bit_at _) (sym e)))))))
              (λ ne. get_or-set_other y.written i j 1 0 ne ∙ (g.written j low
              ∙ (sym (with_none (bit_at x j)) ∙ (ap (max (bit_at x j)) (sym (bit_at-pow_other i j ne)) ∙ (sym (bit_at_or x (2 ^ i) j) ∙ ap (λ (z : ℕ). bit_at z j) (sym now))))));
        })
        (λ x y. (refl, length-set y.written i 1))
        (λ c ws g. refl)
        (λ _. fits)

  -- ---- AN OPERATION THAT LEAVES ALL CELLS AS THEY ARE, or that no machine makes in a short history

  pub happens : (s : TableState T A) (r : Ruled s) (id : ℕ) (v : BlockView T A) (d : Deed T) (a : A) → get_elem? s.views id ≡ home.some v → v.party.spent ≡ false → moves Unbounded v.party.state (does (Some d)) a
      → ((q : Kept s.words s.blocks s.views) → Does d q.contents q.contents) → Ruled (state.state s.words s.blocks (set s.views id (on_with v a)))
  happens s r id v d a at live made effect =
      let u = on_with v a in
      rule.ruled laws machine admits s s.words s.blocks id v u r at refl (λ b i near. refl) (λ b. refl) (λ z. z) refl (inl refl) refl live refl (λ z. z) refl
      (λ owns. let g = r.spares id v at owns in record { top = g.top; link = g.link })
      (λ _ g h. h)
      (λ q. rule.by_deed laws machine admits s.words s.words s.blocks s.blocks s.views q id v u d q.contents at (effect q) made refl q.shown
      (λ j g b i y e held. ⊎_elim
      (λ (t : (j ≡ id) × (u ≡ g)). q.away id v b i y at (ap (λ (o : BlockView T A). o.held) t.1 ∙ held))
      (λ (t : (j ≢ id) × (get_elem? s.views j ≡ home.some g)). q.away j g b i y t.1 held)
      (at_set s.views id j u g e))
      (λ j g e owns. ⊎_elim
      (λ (t : (j ≡ id) × (u ≡ g)). subst (λ (o : BlockView T A). Cleared s.blocks o) t.1 (λ b i first low few. q.cleared id v at (ap (λ (o : BlockView T A). o.keeper) t.1 ∙ owns) b i first low few))
      (λ (t : (j ≢ id) × (get_elem? s.views j ≡ home.some g)). q.cleared j g t.1 owns)
      (at_set s.views id j u g e)))

  -- on a block that was never made: a short history has no such operation
  pub absent_so : (id n : ℕ) (m : Seat) (d : Deed T) → m.view.party.spent ≡ false → deed_block d ≡ Some n → ((a : A) × moves Unbounded m.view.party.state (does (Some d)) a)
      → Allows Ruled id m count (λ x. x) (λ x m'. (x ≤ n → told.Does moves d m m') × (n < x → m' ≡ m))
  absent_so id n m d live touches fits s r at has small = ⊎_elim
      (λ (l : n < length s.blocks). (
        m.view,
        keeps,
        tt,
        subst (λ (vs : List (BlockView T A)). Ruled (state.state s.words s.blocks vs)) (sym (set_again s.views id m.view at)) r,
        ((λ g. absurd (let x : ℕ = length s.blocks in let l' : n < x = l in let g' : x ≤ n = g in omega arith)), λ _. refl),
      ))
      (λ (g : length s.blocks ≤ n). (
        on_with m.view fits.0,
        keeps,
        tt,
        happens s r id m.view d fits.0 at live fits.1
            (λ q.
            let u = machine.in_use (parties s.views) q.contents (tally_in Unbounded s.words) q.count q.measured q.short id m.view.party d n (at_map party s.views id m.view at) fits touches in
            absurd (let x : ℕ = length s.blocks in let y : ℕ = length q.contents.blocks in let e : y ≡ x = q.shown.blocks.made in let g' : x ≤ n = g in let h : n < y = u.0 in omega arith)),
        ((λ _. (fits.1, refl)), λ l. absurd (let x : ℕ = length s.blocks in let l' : n < x = l in let g' : x ≤ n = g in omega arith)),
      ))
      (cases_lt n (length s.blocks))

  pub happens_so : (id : ℕ) (m : Seat) (d : Deed T) → m.view.party.spent ≡ false → LeavesAll d → ((a : A) × moves Unbounded m.view.party.state (does (Some d)) a) → Allows Ruled id m count (λ x. x) (λ _ m'. told.Does moves d m m')
  happens_so id m d live leaves fits s r at has small = (on_with m.view fits.0, keeps, tt, happens s r id m.view d fits.0 at live fits.1 (λ q. leaves s.words s.blocks q.contents q.shown), (fits.1, refl))

  -- in a load of one of the table's own words
  pub happens_at : (id k : ℕ) (m : Seat) (d : Deed T) → m.view.party.spent ≡ false → LeavesAll d → ((a : A) × moves Unbounded m.view.party.state (does (Some d)) a) → Allows Ruled id m (own k) (λ x. x) (λ _ m'. told.Does moves d m m')
  happens_at id k m d live leaves fits s r at has small = (
    on_with m.view fits.0,
    keeps,
    tt,
    subst (λ (ws : List ℕ). Ruled (state.state ws s.blocks (set s.views id (on_with m.view fits.0)))) (sym (set-get_or s.words k 0))
        (happens s r id m.view d fits.0 at live fits.1 (λ q. leaves s.words s.blocks q.contents q.shown)),
    (fits.1, refl),
  )
