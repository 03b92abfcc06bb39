-- A slot of a block is won with what is done to it, and given back, under the rule.
use Rattle.std.proofs.Common.{◌≡◌, ◌≢◌, ℕ, zero, suc, ◌+◌, ◌<◌, ◌≤◌, ◌⊎◌, inl, inr, ⊎_elim, eqb, false, List, [], ◌∷◌, length, set, refl, sym, ap, ◌∙◌, subst, arith, length-set, get_or-set_other, get_or-set_same}
use Rattle.std.proofs.lemmas.List.{set-get_or}
use Rattle.std.specs.Int.{bit_at}
use Rattle.std.specs.Prelude.{Option, None, Some, Result, Ok, Err, slice_index_or, slice_get}
use mathlib.Core.Option as home
use mathlib.Core.Logic.{dite}
use native.Mathlib.Decide.{ℕ_discrete}
use lib.ListN.{get_elem?}
use prog.Atomic.{either}
use Rattle.atomic_table.proofs.Lists as lists
use Rattle.atomic_table.proofs.Lists.{at_set, at_map, set_else, set_again}
use Rattle.growing_table.specs.State as state
use Rattle.growing_table.specs.State.{BlockState, Me, me, Act, keeps, takes, gives, own, within, block, block_of, home_of, Allows}
use Rattle.concurrent_queue.specs.Bridge.{Event, does}
use Rattle.concurrent_queue.specs.Contents.{Contents, BlockCells, block_in, block_at, with_block, with_slot, no_block, is_vacant}
use Rattle.concurrent_queue.specs.Deeds as deed
use Rattle.concurrent_queue.specs.Deeds.{Deed}
use Rattle.concurrent_queue.specs.Effects.{Does}
use Rattle.concurrent_queue.specs.machine.BlocksDenotes.{times}
use Rattle.concurrent_queue.specs.declared.cells.QueueForm.{QueueForm}
use Rattle.concurrent_queue.specs.declared.cells.QueueForm.TheVariants.{Unbounded}
use Rattle.concurrent_queue.specs.declared.cells.Slot.TheVariants.{In}
use Rattle.concurrent_queue.specs.declared.history.rule.Counter.{Counter}
use Rattle.concurrent_queue.specs.declared.history.rule.CountStep.{CountStep}
use Rattle.concurrent_queue.specs.declared.history.rule.View.{View}
use Rattle.concurrent_queue.specs.history.Keeps.{HistoryOf, KeepsHistory, Tally}
use Rattle.concurrent_queue.specs.history.Shared.{tally_in}
use Rattle.concurrent_queue.proofs.Guarding.{set_there}
use Rattle.unbounded_cells.specs.Laws.{deed_block, KeepsBlocks}
use Rattle.unbounded_cells.specs.Rule.{Homes, Blocks, TableState, inner, WordsShown, SlotsShown, party, parties, slot_in, slot_of, IsFree, IsWon, KeepsSpares, IsKept, IsRuled}
use Rattle.unbounded_cells.specs.Slots.{holds, TakesAt, PutsAt}
use Rattle.unbounded_cells.specs.Told.{on_with}
use Rattle.unbounded_cells.specs.declared.rule.BlockView.{BlockView}
use Rattle.unbounded_cells.proofs.Blocks as blocks
use Rattle.unbounded_cells.proofs.SpareList.{some_is, none_some}
use Rattle.unbounded_cells.proofs.Steps as rule
use Rattle.unbounded_cells.proofs.Steps.{seen_as}

set_set : {X : Type 0} → (l : List X) (i : ℕ) (x y : X) → set (set l i x) i y ≡ set l i y
set_set [] i x y = refl
set_set (z ∷ zs) zero x y = refl
set_set (z ∷ zs) (suc i) x y = ap (λ (l : List _). z ∷ l) (set_set zs i x y)

get_is : {X : Type 0} → (l : List X) (i : ℕ) (d : X) → i < length l → slice_get l i ≡ Some (slice_index_or l i d)
get_is [] i d h = absurd (omega arith)
get_is (x ∷ xs) zero d h = refl
get_is (x ∷ xs) (suc i) d h = get_is xs i d (omega arith)

-- a slot is another one
abbrev pub Apart : ℕ → ℕ → ℕ → ℕ → Type 0
Apart n i b j = b ≡ n → j ≢ i

here_or_apart : (n i b j : ℕ) → ((b ≡ n) × (j ≡ i)) ⊎ Apart n i b j
here_or_apart n i b j = dite (ℕ_discrete b n)
    (λ e. dite (ℕ_discrete j i) (λ f. inl (e, f)) (λ ne. inr (λ _. ne)))
    (λ ne. inr (λ e. absurd (ne e)))

three : {X : Type 0} → (p q : ℕ × ℕ × X) → p ≡ q → (p.0 ≡ q.0) × (p.1 ≡ q.1) × (p.2 ≡ q.2)
three p q e = (ap (λ (x : ℕ × ℕ × _). x.0) e, ap (λ (x : ℕ × ℕ × _). x.1) e, ap (λ (x : ℕ × ℕ × _). x.2) e)

two : (p q : ℕ × ℕ) → p ≡ q → (p.0 ≡ q.0) × (p.1 ≡ q.1)
two p q e = (ap (λ (x : ℕ × ℕ). x.0) e, ap (λ (x : ℕ × ℕ). x.1) e)

module _ {T : Type 0} where
  -- ---- a slot and its guard change

  module _ (bs : Blocks T) (n i g : ℕ) (h : Option (Option T)) (there : n < length bs) where
    abbrev pub with_slots : Blocks T
    with_slots = set bs n (block_of (set (block bs n).words i g) (set (block bs n).homes i h))

    at_n : block with_slots n ≡ block_of (set (block bs n).words i g) (set (block bs n).homes i h)
    at_n = get_or-set_same bs n (block_of (set (block bs n).words i g) (set (block bs n).homes i h)) state.no_block there

    beside_n : (b : ℕ) → b ≢ n → block with_slots b ≡ block bs b
    beside_n b ne = get_or-set_other bs n b (block_of (set (block bs n).words i g) (set (block bs n).homes i h)) state.no_block ne

    pub guard_other : (b j : ℕ) → Apart n i b j → inner with_slots b j ≡ inner bs b j
    guard_other b j apart = dite (ℕ_discrete b n)
        (λ e. subst (λ (k : ℕ). inner with_slots k j ≡ inner bs k j) (sym e) (ap (λ (x : BlockState (Option T)). slice_index_or x.words j 0) at_n ∙ get_or-set_other (block bs n).words i j g 0 (apart e)))
        (λ ne. ap (λ (x : BlockState (Option T)). slice_index_or x.words j 0) (beside_n b ne))

    pub home_other : (b j : ℕ) → Apart n i b j → home_of with_slots b j ≡ home_of bs b j
    home_other b j apart = dite (ℕ_discrete b n)
        (λ e. subst (λ (k : ℕ). home_of with_slots k j ≡ home_of bs k j) (sym e) (ap (λ (x : BlockState (Option T)). slice_index_or x.homes j None) at_n ∙ get_or-set_other (block bs n).homes i j h None (apart e)))
        (λ ne. ap (λ (x : BlockState (Option T)). slice_index_or x.homes j None) (beside_n b ne))

    pub guard_here : i < length (block bs n).words → inner with_slots n i ≡ g
    guard_here long = ap (λ (x : BlockState (Option T)). slice_index_or x.words i 0) at_n ∙ get_or-set_same (block bs n).words i g 0 long

    pub home_here : i < length (block bs n).homes → home_of with_slots n i ≡ h
    home_here long = ap (λ (x : BlockState (Option T)). slice_index_or x.homes i None) at_n ∙ get_or-set_same (block bs n).homes i h None long

    pub still_sized : (b : ℕ) → length (block with_slots b).homes ≡ length (block bs b).homes
    still_sized b = dite (ℕ_discrete b n)
        (λ e. subst (λ (k : ℕ). length (block with_slots k).homes ≡ length (block bs k).homes) (sym e) (ap (λ (x : BlockState (Option T)). length x.homes) at_n ∙ length-set (block bs n).homes i h))
        (λ ne. ap (λ (x : BlockState (Option T)). length x.homes) (beside_n b ne))

    -- the guard is written first, and then the slot goes
    pub in_turn : set (set bs n (block_of (set (block bs n).words i g) (block bs n).homes)) n
        (block_of (block (set bs n (block_of (set (block bs n).words i g) (block bs n).homes)) n).words (set (block (set bs n (block_of (set (block bs n).words i g) (block bs n).homes)) n).homes i h)) ≡ with_slots
    in_turn =
        let x : BlockState (Option T) = block_of (set (block bs n).words i g) (block bs n).homes in
        ap (λ (y : BlockState (Option T)). set (set bs n x) n (block_of y.words (set y.homes i h))) (get_or-set_same bs n x state.no_block there)
        ∙ set_set bs n x (block_of (set (block bs n).words i g) (set (block bs n).homes i h))

  pub words_still : (ws : List ℕ) (i g : ℕ) (x : BlockCells T) → i < 31 → WordsShown ws x → WordsShown (set ws i g) x
  words_still ws i g x near s = record {
    next = s.next ∙ sym (get_or-set_other ws i 31 g 0 (λ e. absurd (omega arith)));
    reads = s.reads ∙ sym (get_or-set_other ws i 32 g 0 (λ e. absurd (omega arith)));
    written = λ j low. s.written j low ∙ ap (λ (y : ℕ). bit_at y j) (sym (get_or-set_other ws i 33 g 0 (λ e. absurd (omega arith))));
  }

  none_at_home : (y : Option T) → None ≡ Some y → ⊥
  none_at_home y e = absurd cc

  pub slot_gone : (hs : Homes T) (i : ℕ) (y : Option T) (x : BlockCells T) → i < length hs → SlotsShown hs x → SlotsShown (set hs i None) (with_slot x i y)
  slot_gone hs i y x long s = record {
    wide = length-set x.slots i y ∙ s.wide;
    flags = s.flags;
    at_home = λ j z near e. dite (ℕ_discrete j i)
        (λ f. absurd (none_at_home z (sym (ap (λ (k : ℕ). slice_index_or (set hs i None) k None) f ∙ get_or-set_same hs i None None long) ∙ e)))
        (λ ne. get_or-set_other x.slots i j y None ne ∙ s.at_home j z near (sym (get_or-set_other hs i j None None ne) ∙ e));
  }

  home_is : (x y : Option T) → Some x ≡ Some y → x ≡ y
  home_is x y e = cc

  pub slot_back : (hs : Homes T) (i : ℕ) (y : Option T) (x : BlockCells T) → i < length hs → slice_index_or x.slots i None ≡ y → SlotsShown hs x → SlotsShown (set hs i (Some y)) x
  slot_back hs i y x long has s = record {
    wide = s.wide;
    flags = s.flags;
    at_home = λ j z near e. dite (ℕ_discrete j i)
        (λ f. ap (λ (k : ℕ). slice_index_or x.slots k None) f ∙ (has ∙ home_is y z (sym (ap (λ (k : ℕ). slice_index_or (set hs i (Some y)) k None) f ∙ get_or-set_same hs i (Some y) None long) ∙ e)))
        (λ ne. s.at_home j z near (sym (get_or-set_other hs i j (Some y) None ne) ∙ e));
  }

  -- a slot of the queue's block changes, and no other
  pub slot_else : (cs : List (BlockCells T)) (n i : ℕ) (y : Option T) → n < length cs → (b j : ℕ) → Apart n i b j
      → slice_index_or (block_in (set cs n (with_slot (block_in cs n) i y)) b).slots j None ≡ slice_index_or (block_in cs b).slots j None
  slot_else cs n i y there b j apart = dite (ℕ_discrete b n)
      (λ e. subst (λ (k : ℕ). slice_index_or (block_in (set cs n (with_slot (block_in cs n) i y)) k).slots j None ≡ slice_index_or (block_in cs k).slots j None) (sym e)
      (ap (λ (x : BlockCells T). slice_index_or x.slots j None) (get_or-set_same cs n (with_slot (block_in cs n) i y) no_block there) ∙ get_or-set_other (block_in cs n).slots i j y None (apart e)))
      (λ ne. ap (λ (x : BlockCells T). slice_index_or x.slots j None) (get_or-set_other cs n b (with_slot (block_in cs n) i y) no_block ne))

  pub slot_here : (cs : List (BlockCells T)) (n i : ℕ) (y : Option T) → n < length cs → i < length (block_in cs n).slots → slice_index_or (block_in (set cs n (with_slot (block_in cs n) i y)) n).slots i None ≡ y
  slot_here cs n i y there long = ap (λ (x : BlockCells T). slice_index_or x.slots i None) (get_or-set_same cs n (with_slot (block_in cs n) i y) no_block there) ∙ get_or-set_same (block_in cs n).slots i y None long

  pub vacant : (l : List (Option T)) (i : ℕ) (x : Option T) → i < length l → slice_index_or l i None ≡ x → is_vacant (slice_get l i) ≡ is_vacant (Some x)
  vacant l i x inside e = ap is_vacant (get_is l i None inside ∙ ap (λ (o : Option T). Some o) e)

module _ {T A : Type 0} {moves : QueueForm → A → Event T → A → Type 0} {enters : QueueForm → A → Type 0} {turns : QueueForm → A → A → Type 0} {counts : QueueForm → A → A → Counter → CountStep → ℕ → Type 0} {both : A → A → A} {left : A → A} {parts : QueueForm → A → A → A → Type 0} {opened : A} {counted : ℕ} {is_history : HistoryOf T A} (laws : KeepsHistory moves enters turns counts both left parts opened counted is_history)
    {sized : ℕ → List (View T A) → Contents T → Tally → Type 0} (machine : KeepsBlocks moves is_history sized) (admits : Type 0) where
  abbrev Ruled : TableState T A → Type 0
  Ruled = IsRuled moves is_history sized admits

  abbrev Kept : List ℕ → Blocks T → List (BlockView T A) → Type 0
  Kept = IsKept moves is_history sized

  abbrev Seat : Type 0
  Seat = Me (Option T) (BlockView T A)

  -- what is so of another slot stays so
  beside : (s : TableState T A) (id n i g : ℕ) (h : Option (Option T)) (v w : BlockView T A) (there : n < length s.blocks) (b j : ℕ) → Apart n i b j → get_elem? s.views id ≡ home.some v → slot_of v ≢ Some (b, j) → slot_of w ≢ Some (b, j)
      → IsFree s b j ⊎ IsWon s b j
      → IsFree (state.state s.words (with_slots s.blocks n i g h there) (set s.views id w)) b j ⊎ IsWon (state.state s.words (with_slots s.blocks n i g h there) (set s.views id w)) b j
  beside s id n i g h v w there b j apart at not_v not_w was =
      let guard = guard_other s.blocks n i g h there b j apart in
      let its_home = home_other s.blocks n i g h there b j apart in
      let before : (k : ℕ) (u : BlockView T A) → get_elem? (set s.views id w) k ≡ home.some u → slot_of u ≡ Some (b, j) → get_elem? s.views k ≡ home.some u =
      (λ k u e z. ⊎_elim (λ (t : (k ≡ id) × (w ≡ u)). absurd (not_w (ap slot_of t.1 ∙ z))) (λ (t : (k ≢ id) × (get_elem? s.views k ≡ home.some u)). t.1) (at_set s.views id k w u e)) in
      ⊎_elim
      (λ (f : IsFree s b j). inl (guard ∙ f.0, (f.1.0, its_home ∙ f.1.1), λ k u e z. f.2 k u (before k u e z) z))
      (λ (x : IsWon s b j). inr (
        x.0,
        guard ∙ x.1,
        its_home ∙ x.2,
        (x.3.0, set_else s.views id x.0 w (λ e. not_v (ap slot_of (home.some-injective v x.3.0 (sym at ∙ (ap (get_elem? s.views) (sym e) ∙ x.3.1))) ∙ x.3.2)) ∙ x.3.1, x.3.2),
        λ k u e z. x.4 k u (before k u e z) z,
      ))
      was

  is_free : (s : TableState T A) (n i : ℕ) → inner s.blocks n i ≡ 0 → IsFree s n i ⊎ IsWon s n i → IsFree s n i
  is_free s n i zero_is h = ⊎_elim (λ f. f) (λ w. let y : ℕ = inner s.blocks n i in let a : y ≡ 1 = w.1 in let b : y ≡ 0 = zero_is in absurd (omega arith)) h

  in_homes : (s : TableState T A) (r : Ruled s) (n i : ℕ) → n < length s.blocks → i < 31 → i < length (block s.blocks n).homes
  in_homes s r n i there near = let l = r.wide n there in let k : ℕ = length (block s.blocks n).homes in let l' : 31 ≤ k = l in let z : i < k = omega arith in z

  -- A SLOT IS WON with this operation: the history has y there from now on
  won : (s : TableState T A) (id n i : ℕ) (m : Seat) (a : A) (d : Deed T) (x y : Option T) (r : Ruled s) → get_elem? s.views id ≡ home.some m.view → (there : n < length s.blocks) → i < length (block s.blocks n).words → i < 31
      → m.view.held ≡ None → m.view.party.spent ≡ false → inner s.blocks n i ≡ 0 → home_of s.blocks n i ≡ Some x → deed_block d ≡ Some n
      → ((c : Contents T) → n < length c.blocks → i < length (block_at c n).slots → slice_index_or (block_at c n).slots i None ≡ x → Does d c (with_block c n (with_slot (block_at c n) i y)))
      → moves Unbounded m.view.party.state (does (Some d)) a
      → Ruled (state.state s.words (with_slots s.blocks n i 1 None there) (set s.views id (holds (on_with m.view a) (Some (n, i, y)))))
  won s id n i m a d x y r at there long near idle live zero_is at_home touches effect made =
      let v = m.view in
      let w = holds (on_with v a) (Some (n, i, y)) in
      let bs' = with_slots s.blocks n i 1 None there in
      let f = is_free s n i zero_is (r.guards n i there near) in
      let same_length : length bs' ≡ length s.blocks = length-set s.blocks n _ in
      let out : slot_of v ≡ None = ap slot_in idle in
      let deep : (b k : ℕ) → 31 ≤ k → inner bs' b k ≡ inner s.blocks b k = (λ b k far. guard_other s.blocks n i 1 None there b k (λ _ e. absurd (omega arith))) in
      let spares_stay : (u : BlockView T A) → KeepsSpares s.words s.blocks u → KeepsSpares s.words bs' u = (λ u g. record { top = g.top; link = λ b z e. deep b 34 (omega arith) ∙ g.link b z e }) in
      rule.settled laws machine admits s s.words bs' id v w r at
      (λ b h. subst (λ (k : ℕ). 31 ≤ k) (sym (still_sized s.blocks n i 1 None there b)) (r.wide b (subst (λ (k : ℕ). b < k) same_length h)))
      (λ b j h low. ⊎_elim
      (λ (t : (b ≡ n) × (j ≡ i)). subst (λ (p : ℕ × ℕ). IsFree (state.state s.words bs' (set s.views id w)) p.0 p.1 ⊎ IsWon (state.state s.words bs' (set s.views id w)) p.0 p.1) (λ k. (sym t.0 k, sym t.1 k)) (inr (
        id,
        guard_here s.blocks n i 1 None there long,
        home_here s.blocks n i 1 None there (in_homes s r n i there near),
        (w, set_there s.views id v w at, refl),
        λ k u e z. ⊎_elim (λ (q : (k ≡ id) × (w ≡ u)). q.0) (λ (q : (k ≢ id) × (get_elem? s.views k ≡ home.some u)). absurd (f.2 k u q.1 z)) (at_set s.views id k w u e),
      )))
      (λ apart. beside s id n i 1 None v w there b j apart at (λ e. none_some (b, j) (sym out ∙ e))
      (λ e. (let p = two (n, i) (b, j) (some_is (n, i) (b, j) e) in apart (sym p.0) (sym p.1))) (r.guards b j (subst (λ (k : ℕ). b < k) same_length h) low))
      (here_or_apart n i b j))
      (λ j u b k e z. subst (λ (l : ℕ). b < l) (sym same_length) (⊎_elim
      (λ (t : (j ≡ id) × (w ≡ u)). (let p = two (n, i) (b, k) (some_is (n, i) (b, k) (ap slot_of t.1 ∙ z)) in subst (λ (l : ℕ). l < length s.blocks) p.0 there))
      (λ (t : (j ≢ id) × (get_elem? s.views j ≡ home.some u)). r.there j u b k t.1 z)
      (at_set s.views id j w u e)))
      (λ z. z) refl (inl refl) refl live (λ z. z) refl
      (λ is. let g = spares_stay v (r.spares id v at is) in record { top = g.top; link = g.link })
      (λ _ u g. spares_stay u g)
      (λ q.
      let c = q.contents in
      let u = machine.in_use (parties s.views) c (tally_in Unbounded s.words) q.count q.measured q.short id v.party d n (at_map party s.views id v at) (a, made) touches in
      let slots = q.shown.blocks.slots n there in
      let inside : i < length (block_at c n).slots = subst (λ (l : ℕ). i < l) (sym slots.wide) near in
      rule.by_deed laws machine admits s.words s.words s.blocks bs' s.views q id v w d (with_block c n (with_slot (block_at c n) i y)) at (effect c u.0 inside (slots.at_home i x near at_home)) made refl
      (record {
        form = q.shown.form;
        none = q.shown.none;
        root = λ g h. blocks.root_stays c (set c.blocks n (with_slot (block_at c n) i y)) c.spares g h ∙ q.shown.root g h;
        blocks = blocks.set_block s.blocks c.blocks c.spares n (set (block s.blocks n).words i 1) (set (block s.blocks n).homes i None) (with_slot (block_at c n) i y) q.shown.blocks there
            (λ used. let g = words_still (block s.blocks n).words i 1 (block_at c n) near (q.shown.blocks.used n there used) in record { next = g.next; reads = g.reads; written = g.written })
            (λ listed. absurd (let z : ℕ = times n c.spares in let o : 1 ≤ z = listed in let p : z ≡ 0 = u.1 in omega arith))
            (slot_gone (block s.blocks n).homes i y (block_at c n) (in_homes s r n i there near) slots);
        chain = blocks.chain_stays s.blocks bs' (let l : ℕ = length s.blocks in let l' : ℕ = length bs' in let e : l' ≡ l = same_length in let z : l ≤ l' = omega arith in z) c.spares (slice_index_or s.words 25 0) (λ b _. deep b 34 (omega arith)) q.shown.chain;
      })
      (λ j g b k z e held. ⊎_elim
      (λ (t : (j ≡ id) × (w ≡ g)).
      let p = three (n, i, y) (b, k, z) (some_is (n, i, y) (b, k, z) (ap (λ (o : BlockView T A). o.held) t.1 ∙ held)) in
      subst (λ (o : ℕ × ℕ). slice_index_or (block_in (set c.blocks n (with_slot (block_at c n) i y)) o.0).slots o.1 None ≡ z) (λ l. (p.0 l, p.1 l)) (slot_here c.blocks n i y u.0 inside ∙ p.2))
      (λ (t : (j ≢ id) × (get_elem? s.views j ≡ home.some g)).
      slot_else c.blocks n i y u.0 b k (λ e1 e2. f.2 j g t.1 (ap slot_in held ∙ ap (λ (o : ℕ × ℕ). Some o) (λ l. (e1 l, e2 l)))) ∙ q.away j g b k z t.1 held)
      (at_set s.views id j w g e))
      (λ j g e is b k top low few. deep b (31 + k) (omega arith) ∙ ⊎_elim
      (λ (t : (j ≡ id) × (w ≡ g)). q.cleared id v at (ap (λ (o : BlockView T A). o.keeper) t.1 ∙ is) b k (ap (λ (o : BlockView T A). o.top) t.1 ∙ top) (subst (λ (o : BlockView T A). k < o.cleared) (sym t.1) low) few)
      (λ (t : (j ≢ id) × (get_elem? s.views j ≡ home.some g)). q.cleared j g t.1 is b k top low few)
      (at_set s.views id j w g e)))

  -- nothing is done
  missed : (s : TableState T A) (id n i : ℕ) (v : BlockView T A) → Ruled s → get_elem? s.views id ≡ home.some v → Ruled (state.state s.words (set s.blocks n (block_of (set (block s.blocks n).words i (inner s.blocks n i)) (block s.blocks n).homes)) (set s.views id v))
  missed s id n i v r at =
      subst (λ (ws : List ℕ). Ruled (state.state s.words (set s.blocks n (block_of ws (block s.blocks n).homes)) (set s.views id v))) (sym (set-get_or (block s.blocks n).words i 0))
      (subst (λ (bs : Blocks T). Ruled (state.state s.words bs (set s.views id v))) (sym (set-get_or s.blocks n state.no_block))
      (subst (λ (vs : List (BlockView T A)). Ruled (state.state s.words s.blocks vs)) (sym (set_again s.views id v at)) r))

  abbrev Goes : TableState T A → ℕ → ℕ → ℕ → Seat → (Seat → Type 0) → ℕ → Type 0
  Goes s id n i m then z = state.Goes Ruled s.words (set s.blocks n (block_of (set (block s.blocks n).words i z) (block s.blocks n).homes)) s.views id m then

  -- it is won with this operation
  won_by : (s : TableState T A) (id n i : ℕ) (m : Seat) (a : A) (d : Deed T) (x y : Option T) (then : Seat → Type 0) (r : Ruled s) → get_elem? s.views id ≡ home.some m.view → n < length s.blocks → i < length (block s.blocks n).words → i < 31
      → m.view.held ≡ None → m.view.party.spent ≡ false → inner s.blocks n i ≡ 0 → home_of s.blocks n i ≡ Some x → deed_block d ≡ Some n
      → ((c : Contents T) → n < length c.blocks → i < length (block_at c n).slots → slice_index_or (block_at c n).slots i None ≡ x → Does d c (with_block c n (with_slot (block_at c n) i y)))
      → moves Unbounded m.view.party.state (does (Some d)) a → then (me (holds (on_with m.view a) (Some (n, i, y))) (Some (n, i, x))) → Goes s id n i m then 1
  won_by s id n i m a d x y then r at there long near idle live zero_is at_home touches effect made told = (
    holds (on_with m.view a) (Some (n, i, y)),
    takes n i x,
    ap (λ (l : Homes T). slice_index_or l i None) (blocks.homes_stay s.blocks n i 1 there n) ∙ at_home,
    subst (λ (bs : Blocks T). Ruled (state.state s.words bs (set s.views id (holds (on_with m.view a) (Some (n, i, y)))))) (sym (in_turn s.blocks n i 1 None there))
        (won s id n i m a d x y r at there long near idle live zero_is at_home touches effect made),
    told,
  )

  -- A MESSAGE IS TAKEN in the step that wins the guard; where another seat has the slot nothing was done
  pub takes_so : (id n i : ℕ) (m : Seat) → i < 31 → m.view.held ≡ None → m.view.party.spent ≡ false → ((o : Option T) → (a : A) × moves Unbounded m.view.party.state (does (Some (deed.did_take (In n i) o))) a)
      → Allows Ruled id m (within n i) (λ y. either (eqb y 0) 1 y) (TakesAt moves n i m)
  takes_so id n i m near idle live fits s r at has small =
      lists.exchanged (inner s.blocks n i) 0 1 (Goes s id n i m (TakesAt moves n i m (inner s.blocks n i)))
      (λ hit.
      let f = is_free s n i hit (r.guards n i has.0 near) in
      let x : Option T = f.1.0 in
      let b = fits x in
      won_by s id n i m b.0 (deed.did_take (In n i) x) x None (TakesAt moves n i m (inner s.blocks n i)) r at has.0 has.1 near idle live hit f.1.1 refl
      (λ c there long e. (sym e, refl)) b.1
      ((λ _. (x, (b.1, refl))), λ miss. absurd (miss hit)))
      (λ miss. (m.view, keeps, tt, missed s id n i m.view r at, ((λ hit. absurd (miss hit)), λ _. refl)))

  -- A MESSAGE IS PUT IN likewise, or handed back
  pub puts_so : (id n i : ℕ) (m : Seat) (v : T) → i < 31 → m.view.held ≡ None → m.view.party.spent ≡ false → ((o : Result Unit T) → (a : A) × moves Unbounded m.view.party.state (does (Some (deed.did_put (In n i) v o))) a)
      → Allows Ruled id m (within n i) (λ y. either (eqb y 0) 1 y) (PutsAt moves n i v m)
  puts_so id n i m v near idle live fits s r at has small =
      lists.exchanged (inner s.blocks n i) 0 1 (Goes s id n i m (PutsAt moves n i v m (inner s.blocks n i)))
      (λ hit. let f = is_free s n i hit (r.guards n i has.0 near) in brought s r at has hit f.1.0 f.1.1)
      (λ miss. (m.view, keeps, tt, missed s id n i m.view r at, ((λ hit. absurd (miss hit)), λ _. refl)))
    where
      brought : (s : TableState T A) (r : Ruled s) → get_elem? s.views id ≡ home.some m.view → state.Has s.words s.blocks (within n i) → inner s.blocks n i ≡ 0 → (x : Option T) → home_of s.blocks n i ≡ Some x
          → Goes s id n i m (PutsAt moves n i v m (inner s.blocks n i)) 1
      brought s r at has hit None there =
          let b = fits (Ok tt) in
          won_by s id n i m b.0 (deed.did_put (In n i) v (Ok tt)) None (Some v) (PutsAt moves n i v m (inner s.blocks n i)) r at has.0 has.1 near idle live hit there refl
          (λ c made long e. (vacant (block_at c n).slots i None long e, refl)) b.1
          ((λ _. (None, (b.1, refl))), λ miss. absurd (miss hit))
      brought s r at has hit (Some y) there =
          let b = fits (Err v) in
          won_by s id n i m b.0 (deed.did_put (In n i) v (Err v)) (Some y) (Some y) (PutsAt moves n i v m (inner s.blocks n i)) r at has.0 has.1 near idle live hit there refl
          (λ c made long e. (
            vacant (block_at c n).slots i (Some y) long e,
            refl,
            (let same : set (block_at c n).slots i (Some y) ≡ (block_at c n).slots = subst (λ (o : Option T). set (block_at c n).slots i o ≡ (block_at c n).slots) e (set-get_or (block_at c n).slots i None) in
                ap (λ (l : List (Option T)). with_block c n (record (block_at c n) { slots = l })) same ∙ ap (λ (l : List (BlockCells T)). record c { blocks = l }) (set-get_or c.blocks n no_block)),
          )) b.1
          ((λ _. (Some y, (b.1, refl))), λ miss. absurd (miss hit))

  -- THE SLOT AND ITS GUARD ARE GIVEN BACK
  pub gives_so : (id n i : ℕ) (m : Seat) (y : Option T) → i < 31 → m.view.held ≡ Some (n, i, y) → m.hand ≡ Some (n, i, y) → m.view.party.spent ≡ false → Allows Ruled id m (within n i) (λ _. 0) (λ _ m'. m' ≡ me (holds m.view None) None)
  gives_so id n i m y near held has_it live s r at has small = (
    holds m.view None,
    gives n i y,
    has_it,
    subst (λ (bs : Blocks T). Ruled (state.state s.words bs (set s.views id (holds m.view None)))) (sym (in_turn s.blocks n i 0 (Some y) has.0)) given,
    refl,
  )
    where
      v : BlockView T A
      v = m.view

      w : BlockView T A
      w = holds m.view None

      bs' : Blocks T
      bs' = with_slots s.blocks n i 0 (Some y) has.0

      same_length : length bs' ≡ length s.blocks
      same_length = length-set s.blocks n _

      out : slot_of v ≡ Some (n, i)
      out = ap slot_in held

      deep : (b k : ℕ) → 31 ≤ k → inner bs' b k ≡ inner s.blocks b k
      deep b k far = guard_other s.blocks n i 0 (Some y) has.0 b k (λ _ e. absurd (omega arith))

      spares_stay : (u : BlockView T A) → KeepsSpares s.words s.blocks u → KeepsSpares s.words bs' u
      spares_stay u g = record { top = g.top; link = λ b z e. deep b 34 (omega arith) ∙ g.link b z e }

      nobody : (k : ℕ) (u : BlockView T A) → get_elem? (set s.views id w) k ≡ home.some u → slot_of u ≢ Some (n, i)
      nobody k u e z = ⊎_elim
          (λ (t : (k ≡ id) × (w ≡ u)). none_some (n, i) (ap slot_of t.1 ∙ z))
          (λ (t : (k ≢ id) × (get_elem? s.views k ≡ home.some u)). ⊎_elim (λ (f : IsFree s n i). f.2 k u t.1 z) (λ (x : IsWon s n i). t.0 (x.4 k u t.1 z ∙ sym (x.4 id v at out))) (r.guards n i has.0 near))
          (at_set s.views id k w u e)

      given : Ruled (state.state s.words bs' (set s.views id w))
      given = rule.settled laws machine admits s s.words bs' id v w r at
          (λ b h. subst (λ (k : ℕ). 31 ≤ k) (sym (still_sized s.blocks n i 0 (Some y) has.0 b)) (r.wide b (subst (λ (k : ℕ). b < k) same_length h)))
          (λ b j h low. ⊎_elim
          (λ (t : (b ≡ n) × (j ≡ i)). subst (λ (p : ℕ × ℕ). IsFree (state.state s.words bs' (set s.views id w)) p.0 p.1 ⊎ IsWon (state.state s.words bs' (set s.views id w)) p.0 p.1) (λ k. (sym t.0 k, sym t.1 k)) (inl (
            guard_here s.blocks n i 0 (Some y) has.0 has.1,
            (y, home_here s.blocks n i 0 (Some y) has.0 (in_homes s r n i has.0 near)),
            nobody,
          )))
          (λ apart. beside s id n i 0 (Some y) v w has.0 b j apart at
          (λ e. (let p = two (n, i) (b, j) (some_is (n, i) (b, j) (sym out ∙ e)) in apart (sym p.0) (sym p.1)))
          (λ e. none_some (b, j) e) (r.guards b j (subst (λ (k : ℕ). b < k) same_length h) low))
          (here_or_apart n i b j))
          (λ j u b k e z. subst (λ (l : ℕ). b < l) (sym same_length) (⊎_elim
          (λ (t : (j ≡ id) × (w ≡ u)). absurd (none_some (b, k) (ap slot_of t.1 ∙ z)))
          (λ (t : (j ≢ id) × (get_elem? s.views j ≡ home.some u)). r.there j u b k t.1 z)
          (at_set s.views id j w u e)))
          (λ z. z) refl (inl refl) refl live (λ z. z) refl
          (λ is. let g = spares_stay v (r.spares id v at is) in record { top = g.top; link = g.link })
          (λ _ u g. spares_stay u g)
          (λ q.
          let c = q.contents in
          rule.quiet laws machine admits s.words s.words s.blocks bs' s.views q id v w at refl refl
          (record {
            form = q.shown.form;
            none = q.shown.none;
            root = q.shown.root;
            blocks = blocks.set_unseen s.blocks c.blocks c.spares n (set (block s.blocks n).words i 0) (set (block s.blocks n).homes i (Some y)) q.shown.blocks has.0
                (λ used g. words_still (block s.blocks n).words i 0 (block_at c n) near g)
                (slot_back (block s.blocks n).homes i y (block_at c n) (in_homes s r n i has.0 near) (q.away id v n i y at held) (q.shown.blocks.slots n has.0));
            chain = blocks.chain_stays s.blocks bs' (let l : ℕ = length s.blocks in let l' : ℕ = length bs' in let e : l' ≡ l = same_length in let z : l ≤ l' = omega arith in z) c.spares (slice_index_or s.words 25 0) (λ b _. deep b 34 (omega arith)) q.shown.chain;
          })
          (λ j g b k z e held'. ⊎_elim
          (λ (t : (j ≡ id) × (w ≡ g)). absurd (none_some (b, k, z) (ap (λ (o : BlockView T A). o.held) t.1 ∙ held')))
          (λ (t : (j ≢ id) × (get_elem? s.views j ≡ home.some g)). q.away j g b k z t.1 held')
          (at_set s.views id j w g e))
          (λ j g e is b k top low few. deep b (31 + k) (omega arith) ∙ ⊎_elim
          (λ (t : (j ≡ id) × (w ≡ g)). q.cleared id v at (ap (λ (o : BlockView T A). o.keeper) t.1 ∙ is) b k (ap (λ (o : BlockView T A). o.top) t.1 ∙ top) (subst (λ (o : BlockView T A). k < o.cleared) (sym t.1) low) few)
          (λ (t : (j ≢ id) × (get_elem? s.views j ≡ home.some g)). q.cleared j g t.1 is b k top low few)
          (at_set s.views id j w g e)))
