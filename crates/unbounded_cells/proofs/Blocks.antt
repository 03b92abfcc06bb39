-- What the table shows of its blocks, where a block changes, comes, is given back or taken again.
use Rattle.std.proofs.lemmas.Bool.Decides.{nat_tests}
use Rattle.std.proofs.Common.{◌==◌, true, false, ◌≡◌, ◌≢◌, ℕ, zero, suc, ◌+◌, ◌<◌, ◌≤◌, ⊎_elim, inl, inr, ◌⊎◌, List, [], ◌∷◌, ◌++◌, length, replicate, get_or, set, refl, sym, ap, ◌∙◌, subst, arith, length-set, get_or-set_other, get_or-set_same}
use Rattle.std.proofs.lemmas.Bool.{cases_lt}
use Rattle.std.proofs.lemmas.List.{set-get_or, get_or-replicate}
use Rattle.std.proofs.lemmas.Nat.Bits.{bit_at-zero}
use Rattle.std.specs.Prelude.{Option, None, Some, slice_index_or}
use mathlib.Core.Logic.{dite}
use native.Mathlib.Decide.{ℕ_discrete}
use Rattle.growing_table.specs.State as state
use Rattle.growing_table.specs.State.{BlockState, block, block_of, home_of}
use Rattle.concurrent_queue.specs.Contents.{Contents, BlockCells, blank, nones, zeros, block_in, no_block, read, write}
use Rattle.concurrent_queue.specs.machine.BlocksCalls.{same}
use Rattle.concurrent_queue.specs.machine.BlocksDenotes.{times}
use Rattle.concurrent_queue.specs.declared.cells.Word.{Word}
use Rattle.concurrent_queue.specs.declared.cells.Word.TheVariants as word
use Rattle.unbounded_cells.specs.Rule.{Homes, Blocks, inner, WordsShown, SlotsShown, BlocksShown, Chain, IsRoot}

pub same_not : (n m : ℕ) → (m ≡ n → ⊥) → same n m ≡ 0
same_not n m ne = let e : (n == m) ≡ false = grind (arith, nat_tests) in rw e refl

pub same_is : (n m : ℕ) → m ≡ n → same n m ≡ 1
same_is n m q = let e : (n == m) ≡ true = grind (arith, nat_tests) in rw e refl

zero_at : (i : ℕ) (l : List ℕ) → (n : ℕ) → l ≡ replicate n 0 → slice_index_or l i 0 ≡ 0
zero_at i l zero e = ap (λ (z : List ℕ). slice_index_or z i 0) e
zero_at zero l (suc n) e = ap (λ (z : List ℕ). slice_index_or z zero 0) e
zero_at (suc i) l (suc n) e = ap (λ (z : List ℕ). slice_index_or z (suc i) 0) e ∙ zero_at i (replicate n 0) n refl

are_zero : zeros ≡ replicate 31 0
unfolding zeros
are_zero = refl

pub no_flag : (i : ℕ) → slice_index_or zeros i 0 ≡ 0
no_flag i = zero_at i zeros 31 are_zero

many_nones : (S : Type 0) → length (nones {T = S}) ≡ 31
unfolding nones
many_nones S = refl

many_zeros : length zeros ≡ 31
unfolding zeros
many_zeros = refl

pub listed : (b : ℕ) (spares : List ℕ) → 1 ≤ times b (b ∷ spares)
listed b spares = let s = same_is b b refl in let k : ℕ = times b spares in let m : ℕ = same b b in let e : m ≡ 1 = s in let z : 1 ≤ m + k = omega arith in z

pub past : {X : Type 0} → (l : List X) (i : ℕ) (d : X) → length l ≤ i → get_or l i d ≡ d
past [] i d h = refl
past (x ∷ xs) zero d h = absurd (omega arith)
past (x ∷ xs) (suc i) d h = past xs i d (omega arith)

pub longer : {X : Type 0} → (l : List X) (x : X) → length (l ++ x ∷ []) ≡ length l + 1
longer [] x = refl
longer (y ∷ ys) x = let e = longer ys x in omega arith

pub before_it : {X : Type 0} → (l : List X) (x d : X) (i : ℕ) → i < length l → get_or (l ++ x ∷ []) i d ≡ get_or l i d
before_it [] x d i h = absurd (omega arith)
before_it (y ∷ ys) x d zero h = refl
before_it (y ∷ ys) x d (suc i) h = before_it ys x d i (omega arith)

pub at_it : {X : Type 0} → (l : List X) (x d : X) (i : ℕ) → i ≡ length l → get_or (l ++ x ∷ []) i d ≡ x
at_it [] x d zero h = refl
at_it [] x d (suc i) h = absurd (omega arith)
at_it (y ∷ ys) x d zero h = absurd (omega arith)
at_it (y ∷ ys) x d (suc i) h = at_it ys x d i (omega arith)

module _ {T : Type 0} where
  -- one block of the table and the same of the queue are put in
  module _ (bs : Blocks T) (cs : List (BlockCells T)) (n : ℕ) (x : BlockState (Option T)) (y : BlockCells T) (there : n < length bs) (long : length cs ≡ length bs) where
    at_table : block (set bs n x) n ≡ x
    at_table = get_or-set_same bs n x state.no_block there

    at_queue : block_in (set cs n y) n ≡ y
    at_queue = get_or-set_same cs n y no_block (let l : ℕ = length cs in let m : ℕ = length bs in let e : l ≡ m = long in let h : n < m = there in let z : n < l = omega arith in z)

    at_two : (P : BlockState (Option T) → BlockCells T → Type 0) (b : ℕ) → (b ≡ n → P x y) → (b ≢ n → P (block bs b) (block_in cs b)) → P (block (set bs n x) b) (block_in (set cs n y) b)
    at_two P b here else_so = dite (ℕ_discrete b n)
        (λ e. subst (λ (k : ℕ). P (block (set bs n x) k) (block_in (set cs n y) k)) (sym e)
        (subst (λ (u : BlockState (Option T)). P u (block_in (set cs n y) n)) (sym at_table)
        (subst (λ (v : BlockCells T). P x v) (sym at_queue) (here e))))
        (λ ne. subst (λ (u : BlockState (Option T)). P u (block_in (set cs n y) b)) (sym (get_or-set_other bs n b x state.no_block ne))
        (subst (λ (v : BlockCells T). P (block bs b) v) (sym (get_or-set_other cs n b y no_block ne)) (else_so ne)))

  -- A BLOCK CHANGES. Where it is in use its words show the queue's, and where it is spare the queue's is blank
  pub set_block : (bs : Blocks T) (cs : List (BlockCells T)) (spares : List ℕ) (n : ℕ) (ws : List ℕ) (hs : Homes T) (y : BlockCells T) → BlocksShown bs cs spares → n < length bs
      → (times n spares ≡ 0 → WordsShown ws y) → (1 ≤ times n spares → y ≡ blank) → SlotsShown hs y → BlocksShown (set bs n (block_of ws hs)) (set cs n y) spares
  set_block bs cs spares n ws hs y s there words idle slots = record {
    made = length-set cs n y ∙ (s.made ∙ sym (length-set bs n (block_of ws hs)));
    used = λ b h z. at_two bs cs n (block_of ws hs) y there s.made (λ u v. WordsShown u.words v) b
        (λ e. words (subst (λ (k : ℕ). times k spares ≡ 0) e z))
        (λ ne. s.used b (subst (λ (k : ℕ). b < k) (length-set bs n (block_of ws hs)) h) z);
    slots = λ b h. at_two bs cs n (block_of ws hs) y there s.made (λ u v. SlotsShown u.homes v) b
        (λ e. slots)
        (λ ne. s.slots b (subst (λ (k : ℕ). b < k) (length-set bs n (block_of ws hs)) h));
    idle = λ b l. at_two bs cs n (block_of ws hs) y there s.made (λ u v. v ≡ blank) b
        (λ e. idle (subst (λ (k : ℕ). 1 ≤ times k spares) e l))
        (λ ne. s.idle b l);
    near = λ b l. s.near b (subst (λ (k : ℕ). k ≤ b) (length-set bs n (block_of ws hs)) l);
    once = s.once;
  }

  -- the table's block changes, and the queue's not
  pub set_unseen : (bs : Blocks T) (cs : List (BlockCells T)) (spares : List ℕ) (n : ℕ) (ws : List ℕ) (hs : Homes T) → BlocksShown bs cs spares → n < length bs
      → (times n spares ≡ 0 → WordsShown (block bs n).words (block_in cs n) → WordsShown ws (block_in cs n)) → SlotsShown hs (block_in cs n) → BlocksShown (set bs n (block_of ws hs)) cs spares
  set_unseen bs cs spares n ws hs s there words slots =
      subst (λ (l : List (BlockCells T)). BlocksShown (set bs n (block_of ws hs)) l spares) (set-get_or cs n no_block)
      (set_block bs cs spares n ws hs (block_in cs n) s there (λ z. words z (s.used n there z)) (s.idle n) slots)

  -- ---- the spare list

  none_at : (i : ℕ) (l : List (Option T)) → (n : ℕ) → l ≡ replicate n None → slice_index_or l i None ≡ None
  none_at i l zero e = ap (λ (z : List (Option T)). slice_index_or z i None) e
  none_at zero l (suc n) e = ap (λ (z : List (Option T)). slice_index_or z zero None) e
  none_at (suc i) l (suc n) e = ap (λ (z : List (Option T)). slice_index_or z (suc i) None) e ∙ none_at i (replicate n None) n refl

  are_none : nones {T = T} ≡ replicate 31 None
  unfolding nones
  are_none = refl

  pub blank_slot : (i : ℕ) → slice_index_or (blank {T = T}).slots i None ≡ None
  blank_slot i = none_at i (blank {T = T}).slots 31 are_none

  pub slots_blank : (hs : Homes T) → ((i : ℕ) (y : Option T) → i < 31 → slice_index_or hs i None ≡ Some y → y ≡ None) → SlotsShown hs blank
  slots_blank hs none = record {
    wide = many_nones T;
    flags = many_zeros;
    at_home = λ i y near e. blank_slot i ∙ sym (none i y near e);
  }

  -- the first spare block is taken, whose words were cleared
  pub taken : (bs : Blocks T) (cs : List (BlockCells T)) (b : ℕ) (spares : List ℕ) → BlocksShown bs cs (b ∷ spares) → WordsShown (block bs b).words (blank {T = T}) → BlocksShown bs cs spares
  taken bs cs b spares s words = record {
    made = s.made;
    used = λ j h z. dite (ℕ_discrete j b)
        (λ e. subst (λ (k : ℕ). WordsShown (block bs k).words (block_in cs k)) (sym e) (subst (λ (y : BlockCells T). WordsShown (block bs b).words y) (sym (s.idle b (listed b spares))) words))
        (λ ne. s.used j h (let n = same_not b j ne in let k : ℕ = times j spares in let m : ℕ = same b j in let e : m ≡ 0 = n in let z' : k ≡ 0 = z in let w : m + k ≡ 0 = omega arith in w));
    slots = s.slots;
    idle = λ j l. s.idle j (let k : ℕ = times j spares in let m : ℕ = same b j in let l' : 1 ≤ k = l in let w : 1 ≤ m + k = omega arith in w);
    near = λ j l. (let f = s.near j l in let k : ℕ = times j spares in let m : ℕ = same b j in let e : m + k ≡ 0 = f in let w : k ≡ 0 = omega arith in w);
    once = λ j. (let f = s.once j in let k : ℕ = times j spares in let m : ℕ = same b j in let e : m + k ≤ 1 = f in let w : k ≤ 1 = omega arith in w);
  }

  -- a block in use is given back, all of whose slots are empty
  pub given : (bs : Blocks T) (cs : List (BlockCells T)) (b : ℕ) (spares : List ℕ) → BlocksShown bs cs spares → b < length bs → times b spares ≡ 0 → ((i : ℕ) → slice_index_or (block_in cs b).slots i None ≡ None)
      → BlocksShown bs (set cs b blank) (b ∷ spares)
  given bs cs b spares s there idle none = record {
    made = length-set cs b blank ∙ s.made;
    used = λ j h z. dite (ℕ_discrete j b)
        (λ e. (let l = listed b spares in let f = subst (λ (k : ℕ). times k (b ∷ spares) ≡ 0) e z in let k : ℕ = times b (b ∷ spares) in let l' : 1 ≤ k = l in let f' : k ≡ 0 = f in absurd (omega arith)))
        (λ ne. subst (λ (y : BlockCells T). WordsShown (block bs j).words y) (sym (get_or-set_other cs b j blank no_block ne)) (s.used j h (rest j z)));
    slots = λ j h. dite (ℕ_discrete j b)
        (λ e. subst (λ (k : ℕ). SlotsShown (block bs k).homes (block_in (set cs b blank) k)) (sym e)
        (subst (λ (y : BlockCells T). SlotsShown (block bs b).homes y) (sym here) (slots_blank (block bs b).homes (λ i y near f. sym ((s.slots b there).at_home i y near f) ∙ none i))))
        (λ ne. subst (λ (y : BlockCells T). SlotsShown (block bs j).homes y) (sym (get_or-set_other cs b j blank no_block ne)) (s.slots j h));
    idle = λ j l. dite (ℕ_discrete j b)
        (λ e. ap (block_in (set cs b blank)) e ∙ here)
        (λ ne. get_or-set_other cs b j blank no_block ne ∙ s.idle j (let n = same_not b j ne in let k : ℕ = times j spares in let m : ℕ = same b j in let e : m ≡ 0 = n in let l' : 1 ≤ m + k = l in let w : 1 ≤ k = omega arith in w));
    near = λ j l.
        (let f = s.near j l in
        let n = same_not b j (λ e. let z : ℕ = length bs in let h : b < z = there in let l' : z ≤ j = l in let e' : j ≡ b = e in absurd (omega arith)) in
        let k : ℕ = times j spares in let m : ℕ = same b j in let e : m ≡ 0 = n in let g : k ≡ 0 = f in let w : m + k ≡ 0 = omega arith in w);
    once = λ j. dite (ℕ_discrete j b)
        (λ e. (let i = same_is b j e in let z = subst (λ (k : ℕ). times k spares ≡ 0) (sym e) idle in let k : ℕ = times j spares in let m : ℕ = same b j in let i' : m ≡ 1 = i in let z' : k ≡ 0 = z in let w : m + k ≤ 1 = omega arith in w))
        (λ ne. (let i = same_not b j ne in let z = s.once j in let k : ℕ = times j spares in let m : ℕ = same b j in let i' : m ≡ 0 = i in let z' : k ≤ 1 = z in let w : m + k ≤ 1 = omega arith in w));
  }
    where
      here : block_in (set cs b blank) b ≡ blank
      here = get_or-set_same cs b blank no_block (subst (λ (k : ℕ). b < k) (sym s.made) there)

      rest : (j : ℕ) → times j (b ∷ spares) ≡ 0 → times j spares ≡ 0
      rest j z = let k : ℕ = times j spares in let m : ℕ = same b j in let e : m + k ≡ 0 = z in let w : k ≡ 0 = omega arith in w

  -- the list stays as it is, whatever else changes
  pub chain_stays : (bs bs' : Blocks T) → length bs ≤ length bs' → (spares : List ℕ) (top : ℕ) → ((b : ℕ) → 1 ≤ times b spares → inner bs' b 34 ≡ inner bs b 34) → Chain bs top spares → Chain bs' top spares
  chain_stays bs bs' longer [] top link c = c
  chain_stays bs bs' longer (b ∷ spares) top link c = (
    c.0,
    (let l : ℕ = length bs in let m : ℕ = length bs' in let h : b < l = c.1 in let g : l ≤ m = longer in let z : b < m = omega arith in z),
    chain_stays bs bs' longer spares (inner bs' b 34)
        (λ j l. link j (let k : ℕ = times j spares in let m : ℕ = same b j in let l' : 1 ≤ k = l in let w : 1 ≤ m + k = omega arith in w))
        (subst (λ (t : ℕ). Chain bs t spares) (sym (link b (listed b spares))) c.2),
  )

  -- ---- the queue's own words

  pub found_again : (c : Contents T) (w : Word) (x : ℕ) → IsRoot w → read (write c w x) w ≡ x
  found_again c word.State x h = refl
  found_again c word.Head x h = refl
  found_again c word.Tail x h = refl
  found_again c word.HeadBlock x h = refl
  found_again c word.TailBlock x h = refl
  found_again c (word.Stamp i) x h = absurd h
  found_again c (word.Next b) x h = absurd h
  found_again c (word.Reads b) x h = absurd h
  found_again c (word.Written b i) x h = absurd h

  -- ---- the words and slots of a block that changes

  module _ (bs : Blocks T) (n k z : ℕ) (there : n < length bs) where
    abbrev pub with_word : Blocks T
    with_word = set bs n (block_of (set (block bs n).words k z) (block bs n).homes)

    pub inner_stays : (b i : ℕ) → (b ≡ n → i ≢ k) → inner with_word b i ≡ inner bs b i
    inner_stays b i apart = dite (ℕ_discrete b n)
        (λ e. subst (λ (j : ℕ). inner with_word j i ≡ inner bs j i) (sym e)
        (ap (λ (x : BlockState (Option T)). slice_index_or x.words i 0) (get_or-set_same bs n (block_of (set (block bs n).words k z) (block bs n).homes) state.no_block there)
        ∙ get_or-set_other (block bs n).words k i z 0 (apart e)))
        (λ ne. ap (λ (x : BlockState (Option T)). slice_index_or x.words i 0) (get_or-set_other bs n b (block_of (set (block bs n).words k z) (block bs n).homes) state.no_block ne))

    pub inner_put : k < length (block bs n).words → inner with_word n k ≡ z
    inner_put long = ap (λ (x : BlockState (Option T)). slice_index_or x.words k 0) (get_or-set_same bs n (block_of (set (block bs n).words k z) (block bs n).homes) state.no_block there) ∙ get_or-set_same (block bs n).words k z 0 long

    pub homes_stay : (b : ℕ) → (block with_word b).homes ≡ (block bs b).homes
    homes_stay b = dite (ℕ_discrete b n)
        (λ e. subst (λ (j : ℕ). (block with_word j).homes ≡ (block bs j).homes) (sym e)
        (ap (λ (x : BlockState (Option T)). x.homes) (get_or-set_same bs n (block_of (set (block bs n).words k z) (block bs n).homes) state.no_block there)))
        (λ ne. ap (λ (x : BlockState (Option T)). x.homes) (get_or-set_other bs n b (block_of (set (block bs n).words k z) (block bs n).homes) state.no_block ne))

  -- the slots of a queue's block whose other cells change
  pub slots_stay : (cs : List (BlockCells T)) (n : ℕ) (y : BlockCells T) → n < length cs → y.slots ≡ (block_in cs n).slots → (b : ℕ) → (block_in (set cs n y) b).slots ≡ (block_in cs b).slots
  slots_stay cs n y there same b = dite (ℕ_discrete b n)
      (λ e. subst (λ (j : ℕ). (block_in (set cs n y) j).slots ≡ (block_in cs j).slots) (sym e) (ap (λ (x : BlockCells T). x.slots) (get_or-set_same cs n y no_block there) ∙ same))
      (λ ne. ap (λ (x : BlockCells T). x.slots) (get_or-set_other cs n b y no_block ne))

  -- the queue's own words, where blocks change
  pub root_stays : (c : Contents T) (l : List (BlockCells T)) (spares : List ℕ) (w : Word) → IsRoot w → read (record c { blocks = l; spares = spares }) w ≡ read c w
  root_stays c l spares word.State h = refl
  root_stays c l spares word.Head h = refl
  root_stays c l spares word.Tail h = refl
  root_stays c l spares word.HeadBlock h = refl
  root_stays c l spares word.TailBlock h = refl
  root_stays c l spares (word.Stamp i) h = absurd h
  root_stays c l spares (word.Next b) h = absurd h
  root_stays c l spares (word.Reads b) h = absurd h
  root_stays c l spares (word.Written b i) h = absurd h

  -- the first spare block is on the list
  pub first_spare : (bs : Blocks T) (top b : ℕ) (spares : List ℕ) → top ≡ b + 1 → Chain bs top spares → 1 ≤ times b spares
  first_spare bs top b [] e c = (let e' : top ≡ b + 1 = e in let c' : top ≡ 0 = c in absurd (omega arith))
  first_spare bs top b (x ∷ spares) e c =
      let e' : top ≡ b + 1 = e in let c' : top ≡ x + 1 = c.0 in let same_one : b ≡ x = omega arith in
      subst (λ (j : ℕ). 1 ≤ times j (x ∷ spares)) (sym same_one) (listed x spares)

  -- ---- one block more

  module _ (bs : Blocks T) where
    abbrev pub with_block : Blocks T
    with_block = bs ++ state.blank 35 None ∷ []

    pub old_block : (b : ℕ) → b < length bs → block with_block b ≡ block bs b
    old_block b h = before_it bs (state.blank 35 None) state.no_block b h

    pub new_block : (b : ℕ) → b ≡ length bs → block with_block b ≡ state.blank 35 None
    new_block b e = at_it bs (state.blank 35 None) state.no_block b e

    pub new_word : (b i : ℕ) → b ≡ length bs → inner with_block b i ≡ 0
    new_word b i e = ap (λ (x : BlockState (Option T)). slice_index_or x.words i 0) (new_block b e) ∙ zero_at i (replicate 35 0) 35 refl

    pub new_home : (b i : ℕ) → b ≡ length bs → i < 31 → home_of with_block b i ≡ Some None
    new_home b i e near = ap (λ (x : BlockState (Option T)). slice_index_or x.homes i None) (new_block b e) ∙ get_or-replicate 35 i (Some None) None (omega arith)

    pub one_of : (b : ℕ) → b < length with_block → (b < length bs) ⊎ (b ≡ length bs)
    one_of b h = ⊎_elim (λ l. inl l) (λ g. inr (let e = longer bs (state.blank 35 None) in let x : ℕ = length bs in let y : ℕ = length with_block in let e' : y ≡ x + 1 = e in let h' : b < y = h in let g' : x ≤ b = g in let z : b ≡ x = omega arith in z)) (cases_lt b (length bs))

    fresh_words : WordsShown (replicate 35 0) (blank {T = T})
    fresh_words = record {
      next = refl;
      reads = refl;
      written = λ i near. no_flag i ∙ sym (bit_at-zero i);
    }

    pub added : (cs : List (BlockCells T)) → BlocksShown bs cs [] → BlocksShown with_block (cs ++ blank ∷ []) []
    added cs s = record {
      made = longer cs blank ∙ (ap (λ (k : ℕ). k + 1) s.made ∙ sym (longer bs (state.blank 35 None)));
      used = λ b h z. ⊎_elim
          (λ l. subst (λ (x : BlockState (Option T)). WordsShown x.words (block_in (cs ++ blank ∷ []) b)) (sym (old_block b l)) (subst (λ (y : BlockCells T). WordsShown (block bs b).words y) (sym (older b l)) (s.used b l z)))
          (λ e. subst (λ (x : BlockState (Option T)). WordsShown x.words (block_in (cs ++ blank ∷ []) b)) (sym (new_block b e)) (subst (λ (y : BlockCells T). WordsShown (replicate 35 0) y) (sym (newer b e)) fresh_words))
          (one_of b h);
      slots = λ b h. ⊎_elim
          (λ l. subst (λ (x : BlockState (Option T)). SlotsShown x.homes (block_in (cs ++ blank ∷ []) b)) (sym (old_block b l)) (subst (λ (y : BlockCells T). SlotsShown (block bs b).homes y) (sym (older b l)) (s.slots b l)))
          (λ e. subst (λ (x : BlockState (Option T)). SlotsShown x.homes (block_in (cs ++ blank ∷ []) b)) (sym (new_block b e)) (subst (λ (y : BlockCells T). SlotsShown (replicate 35 (Some None)) y) (sym (newer b e))
          (slots_blank (replicate 35 (Some None)) (λ i y near f. some_same y None (sym f ∙ get_or-replicate 35 i (Some None) None (omega arith))))))
          (one_of b h);
      idle = λ b l. absurd (omega arith);
      near = λ b l. refl;
      once = λ b. omega arith;
    }
      where
        some_same : (x y : Option T) → Some x ≡ Some y → x ≡ y
        some_same x y e = cc

        older : (b : ℕ) → b < length bs → block_in (cs ++ blank ∷ []) b ≡ block_in cs b
        older b l = before_it cs blank no_block b (subst (λ (k : ℕ). b < k) (sym s.made) l)

        newer : (b : ℕ) → b ≡ length bs → block_in (cs ++ blank ∷ []) b ≡ blank
        newer b e = at_it cs blank no_block b (e ∙ sym s.made)

    pub slots_remain : (cs : List (BlockCells T)) → length cs ≡ length bs → (b i : ℕ) (x : Option T) → b < length bs → slice_index_or (block_in cs b).slots i None ≡ x → slice_index_or (block_in (cs ++ blank ∷ []) b).slots i None ≡ x
    slots_remain cs long b i x h e = ap (λ (y : BlockCells T). slice_index_or y.slots i None) (before_it cs blank no_block b (subst (λ (k : ℕ). b < k) (sym long) h)) ∙ e
