-- What the cells of a queue hold, by the words of its table.
use Rattle.std.proofs.Common.{◌≡◌, ◌≢◌, ℕ, zero, suc, ◌+◌, ◌-◌, ◌<◌, ◌≤◌, ◌⊎◌, inl, inr, Bool, false, nat_lt, if◌then◌else◌, ⊎_elim, eq-eqb, ne_eqb, List, [], ◌∷◌, length, drop, set, refl, sym, ap, ◌∙◌, subst, arith, get_or-set_other, get_or-set_same, get_or-drop, drop-set-lt}
use Rattle.std.proofs.lemmas.List.{length-drop, drop-set-add, set-get_or}
use Rattle.std.proofs.lemmas.Bool.{cases_lt}
use Rattle.std.proofs.lemmas.Bool.Decides.{nat_tests}
use mathlib.Core.Logic.{dite}
use native.Mathlib.Decide.{ℕ_discrete}
use Rattle.std.specs.Prelude.{Option, None, Some, Ok, Err, MatchResult, slice_index, slice_index_or, slice_get}
use Rattle.concurrent_queue.specs.Contents.{Contents, BlockCells, no_contents, read, write, block_in, with_next, with_reads, with_written, with_slot, is_vacant}
use Rattle.concurrent_queue.specs.Deeds.{loaded, stored, exchanged, added, bits_set, bits_kept, did_put, did_take}
use Rattle.concurrent_queue.specs.Places.{place_of, index_of}
use Rattle.concurrent_queue.specs.declared.cells.QueueForm.{QueueForm}
use Rattle.concurrent_queue.specs.declared.cells.Slot.{Slot}
use Rattle.concurrent_queue.specs.declared.cells.Slot.TheVariants.{At, In}
use Rattle.concurrent_queue.specs.declared.cells.Word.{Word}
use Rattle.concurrent_queue.specs.declared.cells.Word.TheVariants.{State, Head, Tail, Stamp, HeadBlock, TailBlock, Next, Reads, Written}
use Rattle.concurrent_queue.specs.declared.history.rule.Counter.{Counter}
use Rattle.concurrent_queue.specs.declared.history.rule.Counter.TheVariants.{First, Second, Third, Fourth, Fifth, Sixth}
use Rattle.concurrent_queue.specs.history.Shared.{slots_of, stamps_of, words_of, offset_of, few_word, own_word, IsOwn, IsAbsent, IsNoSlot, answer, contents, HasSize, LeavesAll}

none_some : {X : Type 0} (x : X) → Some x ≢ None
none_some x e = absurd (cc)

-- where a word lies says which it is
pub named : (form : QueueForm) (w : Word) → IsOwn form w → own_word (index_of (place_of w)) ≡ w
named form State h = refl
named form Head h = refl
named form HeadBlock h = refl
named form Tail h = refl
named form TailBlock h = refl
named form (Stamp i) h =
    let far : nat_lt (32 + i) 32 ≡ false = grind (arith, nat_tests) in
    let same : 32 + i - 32 ≡ i = omega arith in
    ap (λ (b : Bool). if b then few_word (32 + i) else Stamp (32 + i - 32)) far ∙ ap (λ (j : ℕ). Stamp j) same
named form (Next b) h = absurd (none_some b h.0)
named form (Reads b) h = absurd (none_some b h.0)
named form (Written b i) h = absurd (none_some b h.0)

-- and so it does in the table, behind the guards
pub named_behind : (form : QueueForm) (slots k : ℕ) (w : Word) → slots ≡ slots_of form → k ≡ slots_of form + index_of (place_of w) → IsOwn form w → own_word (k - slots) ≡ w
named_behind form slots k w e f h =
    let n : ℕ = slots_of form in
    let i : ℕ = index_of (place_of w) in
    let e' : slots ≡ n = e in
    let f' : k ≡ n + i = f in
    let at : k - slots ≡ i = omega arith in
    ap own_word at ∙ named form w h

-- where none of the queue's own words lies: the counts and the flag
abbrev pub IsSpare : ℕ → Type 0
IsSpare k = (k ≡ 24) ⊎ ((k ≡ 28) ⊎ ((9 ≤ k) × (k < 14)))

pub count_spare : (which : Counter) → IsSpare (offset_of which)
count_spare First = inr (inr (omega arith, omega arith))
count_spare Second = inr (inl refl)
count_spare Third = inr (inr (omega arith, omega arith))
count_spare Fourth = inr (inr (omega arith, omega arith))
count_spare Fifth = inr (inr (omega arith, omega arith))
count_spare Sixth = inr (inr (omega arith, omega arith))

apart_from : (n k : ℕ) → n ≢ 24 → n ≢ 28 → (9 ≤ n → n < 14 → ⊥) → IsSpare k → n ≢ k
apart_from n k a b c (inl e) f = a (f ∙ e)
apart_from n k a b c (inr (inl e)) f = b (f ∙ e)
apart_from n k a b c (inr (inr (l, h))) f = c (omega arith) (omega arith)

spare_small : (k : ℕ) → IsSpare k → k < 32
spare_small k (inl e) = omega arith
spare_small k (inr (inl e)) = omega arith
spare_small k (inr (inr (l, h))) = omega arith

pub not_spare : (form : QueueForm) (w : Word) → IsOwn form w → (k : ℕ) → IsSpare k → index_of (place_of w) ≢ k
not_spare form State h k is = apart_from 0 k (λ e. omega arith) (λ e. omega arith) (λ l h. omega arith) is
not_spare form Head h k is = apart_from 1 k (λ e. omega arith) (λ e. omega arith) (λ l h. omega arith) is
not_spare form HeadBlock h k is = apart_from 2 k (λ e. omega arith) (λ e. omega arith) (λ l h. omega arith) is
not_spare form Tail h k is = apart_from 16 k (λ e. omega arith) (λ e. omega arith) (λ l h. omega arith) is
not_spare form TailBlock h k is = apart_from 17 k (λ e. omega arith) (λ e. omega arith) (λ l h. omega arith) is
not_spare form (Stamp i) h k is = apart_from (32 + i) k (λ e. omega arith) (λ e. omega arith) (λ l h. omega arith) is
not_spare form (Next b) h k is = absurd (none_some b h.0)
not_spare form (Reads b) h k is = absurd (none_some b h.0)
not_spare form (Written b i) h k is = absurd (none_some b h.0)

-- a word lies behind the guards, and where none of these does
pub behind_guards : (form : QueueForm) (w : Word) (k : ℕ) → IsOwn form w → k ≡ slots_of form + index_of (place_of w) → (slots_of form ≤ k) × ((j : ℕ) → IsSpare j → k ≢ slots_of form + j)
behind_guards form w k own is =
    let n : ℕ = slots_of form in
    let i : ℕ = index_of (place_of w) in
    let is' : k ≡ n + i = is in
    let a : n ≤ k = omega arith in
    (a, λ j spare e. not_spare form w own j spare (let e' : k ≡ n + j = e in let z : i ≡ j = omega arith in z))

past : (l : List ℕ) (i : ℕ) → length l ≤ i → slice_index l i ≡ 0
past [] i h = refl
past (x ∷ xs) zero h = absurd (omega arith)
past (x ∷ xs) (suc i) h = past xs i (omega arith)

unset : {X : Type 0} (l : List X) (i : ℕ) (x : X) → length l ≤ i → set l i x ≡ l
unset [] i x h = refl
unset (y ∷ ys) zero x h = absurd (omega arith)
unset (y ∷ ys) (suc i) x h = ap (λ (l : List _). y ∷ l) (unset ys i x (omega arith))

fixed : (form : QueueForm) (i : ℕ) → i < 32 → i < words_of form
fixed form i h = let m : ℕ = stamps_of form in let z : i < 32 + m = omega arith in z

module _ {T : Type 0} (form : QueueForm) where
  abbrev build : ℕ → ℕ → ℕ → ℕ → ℕ → List ℕ → List (Option T) → Contents T
  build s h t hb tb stamps values = record (no_contents form) { state = s; head = h; tail = t; head_block = hb; tail_block = tb; stamps = stamps; slots = values }

  -- a word written as it was
  pub write_same : (w : Word) → IsOwn form w → (c : Contents T) → write c w (read c w) ≡ c
  write_same State h c = refl
  write_same Head h c = refl
  write_same Tail h c = refl
  write_same HeadBlock h c = refl
  write_same TailBlock h c = refl
  write_same (Stamp i) h c = ap (λ (l : List ℕ). record c { stamps = l }) (set-get_or c.stamps i 0)
  write_same (Next b) h c = absurd (none_some b h.0)
  write_same (Reads b) h c = absurd (none_some b h.0)
  write_same (Written b i) h c = absurd (none_some b h.0)

  -- the cells have the queue's size
  pub sized : (words : List ℕ) (values : List (Option T)) → length words ≡ slots_of form + words_of form → length values ≡ slots_of form → HasSize form (contents form words values)
  sized words values long count = record {
    blocks = refl;
    stamps =
        let k : ℕ = slots_of form in
        let m : ℕ = stamps_of form in
        let l : ℕ = length words in
        let e : l ≡ k + (32 + m) = long in
        length-drop (slots_of form + 32) words ∙ (let d : l - (k + 32) ≡ m = omega arith in d);
    slots = count;
  }

  module _ (words : List ℕ) (values : List (Option T)) (x : ℕ) where
    keep : (i j : ℕ) → j ≢ i → slice_index (set words (slots_of form + i) x) (slots_of form + j) ≡ slice_index words (slots_of form + j)
    keep i j ne = get_or-set_other words (slots_of form + i) (slots_of form + j) x 0 (λ e. ne (let k : ℕ = slots_of form in let e' : k + j ≡ k + i = e in omega arith))

    put : (i : ℕ) → slots_of form + i < length words → slice_index (set words (slots_of form + i) x) (slots_of form + i) ≡ x
    put i h = get_or-set_same words (slots_of form + i) x 0 h

    stamps_keep : (i : ℕ) → i < 32 → drop (slots_of form + 32) (set words (slots_of form + i) x) ≡ drop (slots_of form + 32) words
    stamps_keep i h = drop-set-lt (slots_of form + 32) words (slots_of form + i) x (let k : ℕ = slots_of form in let l : k + i < k + 32 = omega arith in l)

    stamps_put : (i : ℕ) → drop (slots_of form + 32) (set words (slots_of form + (32 + i)) x) ≡ set (drop (slots_of form + 32) words) i x
    stamps_put i =
        let e : slots_of form + (32 + i) ≡ slots_of form + 32 + i = (let k : ℕ = slots_of form in let z : k + (32 + i) ≡ k + 32 + i = omega arith in z) in
        ap (λ (j : ℕ). drop (slots_of form + 32) (set words j x)) e ∙ drop-set-add (slots_of form + 32) words i x

    inside : (i : ℕ) → length words ≡ slots_of form + words_of form → i < words_of form → slots_of form + i < length words
    inside i long h =
        let k : ℕ = slots_of form in
        let m : ℕ = words_of form in
        let l : ℕ = length words in
        let e : l ≡ k + m = long in
        let h' : i < m = h in
        let z : k + i < l = omega arith in z

    -- a word of the table is written: so is that word of the queue
    pub written : (w : Word) → IsOwn form w → length words ≡ slots_of form + words_of form → contents form (set words (slots_of form + index_of (place_of w)) x) values ≡ write (contents form words values) w x
    written State h long = λ k. build (put 0 (inside 0 long h.1) k) (keep 0 1 (λ e. omega arith) k) (keep 0 16 (λ e. omega arith) k) (keep 0 2 (λ e. omega arith) k) (keep 0 17 (λ e. omega arith) k) (stamps_keep 0 (omega arith) k) values
    written Head h long = λ k. build (keep 1 0 (λ e. omega arith) k) (put 1 (inside 1 long h.1) k) (keep 1 16 (λ e. omega arith) k) (keep 1 2 (λ e. omega arith) k) (keep 1 17 (λ e. omega arith) k) (stamps_keep 1 (omega arith) k) values
    written Tail h long = λ k. build (keep 16 0 (λ e. omega arith) k) (keep 16 1 (λ e. omega arith) k) (put 16 (inside 16 long h.1) k) (keep 16 2 (λ e. omega arith) k) (keep 16 17 (λ e. omega arith) k) (stamps_keep 16 (omega arith) k) values
    written HeadBlock h long = λ k. build (keep 2 0 (λ e. omega arith) k) (keep 2 1 (λ e. omega arith) k) (keep 2 16 (λ e. omega arith) k) (put 2 (inside 2 long h.1) k) (keep 2 17 (λ e. omega arith) k) (stamps_keep 2 (omega arith) k) values
    written TailBlock h long = λ k. build (keep 17 0 (λ e. omega arith) k) (keep 17 1 (λ e. omega arith) k) (keep 17 16 (λ e. omega arith) k) (keep 17 2 (λ e. omega arith) k) (put 17 (inside 17 long h.1) k) (stamps_keep 17 (omega arith) k) values
    written (Stamp i) h long = λ k. build (keep (32 + i) 0 (λ e. omega arith) k) (keep (32 + i) 1 (λ e. omega arith) k) (keep (32 + i) 16 (λ e. omega arith) k) (keep (32 + i) 2 (λ e. omega arith) k) (keep (32 + i) 17 (λ e. omega arith) k) (stamps_put i k) values
    written (Next b) h long = absurd (none_some b h.0)
    written (Reads b) h long = absurd (none_some b h.0)
    written (Written b i) h long = absurd (none_some b h.0)

    -- a guard is no word of the queue
    guard_keep : (i j : ℕ) → i < slots_of form → slice_index (set words i x) (slots_of form + j) ≡ slice_index words (slots_of form + j)
    guard_keep i j h = get_or-set_other words i (slots_of form + j) x 0 (λ e. let k : ℕ = slots_of form in let e' : k + j ≡ i = e in let h' : i < k = h in absurd (omega arith))

    pub guards_apart : (i : ℕ) → i < slots_of form → contents form (set words i x) values ≡ contents form words values
    guards_apart i h = λ k.
        build (guard_keep i 0 h k) (guard_keep i 1 h k) (guard_keep i 16 h k) (guard_keep i 2 h k) (guard_keep i 17 h k) (drop-set-lt (slots_of form + 32) words i x (let m : ℕ = slots_of form in let h' : i < m = h in let l : i < m + 32 = omega arith in l) k) values

    -- nor is the flag, or a count
    pub spare_apart : (j k : ℕ) → IsSpare j → k ≡ slots_of form + j → contents form (set words k x) values ≡ contents form words values
    spare_apart j k spare is =
        subst (λ (z : ℕ). contents form (set words z x) values ≡ contents form words values) (sym is)
        (λ z. build (keep j 0 (apart_from 0 j (λ e. omega arith) (λ e. omega arith) (λ l h. omega arith) spare) z) (keep j 1 (apart_from 1 j (λ e. omega arith) (λ e. omega arith) (λ l h. omega arith) spare) z)
        (keep j 16 (apart_from 16 j (λ e. omega arith) (λ e. omega arith) (λ l h. omega arith) spare) z) (keep j 2 (apart_from 2 j (λ e. omega arith) (λ e. omega arith) (λ l h. omega arith) spare) z)
        (keep j 17 (apart_from 17 j (λ e. omega arith) (λ e. omega arith) (λ l h. omega arith) spare) z) (stamps_keep j (spare_small j spare) z) values)

  -- what is found there is what the queue has
  pub found : (words : List ℕ) (values : List (Option T)) (w : Word) → IsOwn form w → read (contents form words values) w ≡ slice_index words (slots_of form + index_of (place_of w))
  found words values State h = refl
  found words values Head h = refl
  found words values Tail h = refl
  found words values HeadBlock h = refl
  found words values TailBlock h = refl
  found words values (Stamp i) h =
      get_or-drop (slots_of form + 32) words i 0
      ∙ ap (λ (j : ℕ). slice_index words j) (let k : ℕ = slots_of form in let z : k + 32 + i ≡ k + (32 + i) = omega arith in z)
  found words values (Next b) h = absurd (none_some b h.0)
  found words values (Reads b) h = absurd (none_some b h.0)
  found words values (Written b i) h = absurd (none_some b h.0)

  -- ---- a word that isn't there reads 0 and stays so

  beyond : (c : Contents T) (i : ℕ) → HasSize form c → IsAbsent form (Stamp i) → length c.stamps ≤ i
  beyond c i z h = ⊎_elim
      (λ (l : i < stamps_of form). absurd (h (refl, (let m : ℕ = stamps_of form in let l' : i < m = l in let q : 32 + i < 32 + m = omega arith in q))))
      (λ (g : stamps_of form ≤ i). subst (λ (m : ℕ). m ≤ i) (sym z.stamps) g)
      (cases_lt i (stamps_of form))

  pub absent_read : (w : Word) (c : Contents T) → HasSize form c → IsAbsent form w → 0 ≡ read c w
  absent_read State c z h = absurd (h (refl, fixed form 0 (omega arith)))
  absent_read Head c z h = absurd (h (refl, fixed form 1 (omega arith)))
  absent_read Tail c z h = absurd (h (refl, fixed form 16 (omega arith)))
  absent_read HeadBlock c z h = absurd (h (refl, fixed form 2 (omega arith)))
  absent_read TailBlock c z h = absurd (h (refl, fixed form 17 (omega arith)))
  absent_read (Stamp i) c z h = sym (past c.stamps i (beyond c i z h))
  absent_read (Next b) c z h = ap (λ (bs : List (BlockCells T)). (block_in bs b).next) (sym z.blocks)
  absent_read (Reads b) c z h = ap (λ (bs : List (BlockCells T)). (block_in bs b).reads) (sym z.blocks)
  absent_read (Written b i) c z h = ap (λ (bs : List (BlockCells T)). slice_index (block_in bs b).written i) (sym z.blocks)

  pub absent_write : (w : Word) (x : ℕ) (c : Contents T) → HasSize form c → IsAbsent form w → c ≡ write c w x
  absent_write State x c z h = absurd (h (refl, fixed form 0 (omega arith)))
  absent_write Head x c z h = absurd (h (refl, fixed form 1 (omega arith)))
  absent_write Tail x c z h = absurd (h (refl, fixed form 16 (omega arith)))
  absent_write HeadBlock x c z h = absurd (h (refl, fixed form 2 (omega arith)))
  absent_write TailBlock x c z h = absurd (h (refl, fixed form 17 (omega arith)))
  absent_write (Stamp i) x c z h = ap (λ (l : List ℕ). record c { stamps = l }) (sym (unset c.stamps i x (beyond c i z h)))
  absent_write (Next b) x c z h = ap (λ (l : List (BlockCells T)). record c { blocks = l }) (z.blocks ∙ ap (λ (l : List (BlockCells T)). set l b (with_next (block_in c.blocks b) x)) (sym z.blocks))
  absent_write (Reads b) x c z h = ap (λ (l : List (BlockCells T)). record c { blocks = l }) (z.blocks ∙ ap (λ (l : List (BlockCells T)). set l b (with_reads (block_in c.blocks b) x)) (sym z.blocks))
  absent_write (Written b i) x c z h = ap (λ (l : List (BlockCells T)). record c { blocks = l }) (z.blocks ∙ ap (λ (l : List (BlockCells T)). set l b (with_written (block_in c.blocks b) i x)) (sym z.blocks))

  -- nor does a slot that isn't there hold anything, or take it
  no_slot : (l : List (Option T)) (i : ℕ) → length l ≤ i → (None ≡ slice_index_or l i None) × (slice_get l i ≡ None)
  no_slot [] i h = (refl, refl)
  no_slot (x ∷ xs) zero h = absurd (omega arith)
  no_slot (x ∷ xs) (suc i) h = no_slot xs i (omega arith)

  absent_take : (i : ℕ) → slots_of form ≤ i → LeavesAll {T = T} form (did_take (At i) None)
  absent_take i far c z =
      let f : length c.slots ≤ i = subst (λ (m : ℕ). m ≤ i) (sym z.slots) far in
      ((no_slot c.slots i f).0, ap (λ (l : List (Option T)). record c { slots = l }) (sym (unset c.slots i None f)))

  absent_put : (i : ℕ) (v : T) → slots_of form ≤ i → LeavesAll form (did_put (At i) v (Err v))
  absent_put i v far c z =
      let f : length c.slots ≤ i = subst (λ (m : ℕ). m ≤ i) (sym z.slots) far in
      (ap is_vacant (no_slot c.slots i f).1, refl, refl)

  block_take : (b i : ℕ) → LeavesAll {T = T} form (did_take (In b i) None)
  block_take b i c z = (
    ap (λ (bs : List (BlockCells T)). slice_index_or (block_in bs b).slots i None) (sym z.blocks),
    ap (λ (l : List (BlockCells T)). record c { blocks = l }) (z.blocks ∙ ap (λ (l : List (BlockCells T)). set l b (with_slot (block_in c.blocks b) i None)) (sym z.blocks)),
  )

  block_put : (b i : ℕ) (v : T) → LeavesAll form (did_put (In b i) v (Err v))
  block_put b i v c z = (ap (λ (bs : List (BlockCells T)). is_vacant (slice_get (block_in bs b).slots i)) z.blocks, refl, refl)

  pub none_taken : (at : Slot) → IsNoSlot form at → LeavesAll {T = T} form (did_take at None)
  none_taken (At i) far = absent_take i far
  none_taken (In b i) far = block_take b i

  pub none_put : (at : Slot) (v : T) → IsNoSlot form at → LeavesAll form (did_put at v (Err v))
  none_put (At i) v far = absent_put i v far
  none_put (In b i) v far = block_put b i v

  -- ---- the operations on a word that isn't there

  module _ (w : Word) (h : IsAbsent form w) where
    pub absent_load : LeavesAll {T = T} form (loaded w 0)
    absent_load c z = (absent_read w c z h, refl)

    pub absent_store : (x : ℕ) → LeavesAll {T = T} form (stored w x)
    absent_store x c z = absent_write w x c z h

    pub absent_add : (x : ℕ) → LeavesAll {T = T} form (added w x 0)
    absent_add x c z = (absent_read w c z h, absent_write w _ c z h)

    pub absent_set : (x : ℕ) → LeavesAll {T = T} form (bits_set w x 0)
    absent_set x c z = (absent_read w c z h, absent_write w _ c z h)

    pub absent_keep : (x : ℕ) → LeavesAll {T = T} form (bits_kept w x 0)
    absent_keep x c z = (absent_read w c z h, absent_write w _ c z h)

    abbrev Answers : ℕ → ℕ → Contents T → Bool → Type 0
    Answers x y c b = MatchResult (if b then Ok 0 else Err 0) (λ v. (v ≡ x) × (read c w ≡ x) × (c ≡ write c w y)) (λ v. (v ≡ read c w) × (¬ (v ≡ x)) × (c ≡ c))

    pub absent_exchange : (x y : ℕ) → LeavesAll {T = T} form (exchanged w x y (answer 0 x))
    absent_exchange x y c z = dite (ℕ_discrete 0 x)
        (λ e. subst (Answers x y c) (sym (eq-eqb 0 x e)) (e, sym (absent_read w c z h) ∙ e, absent_write w y c z h))
        (λ ne. subst (Answers x y c) (sym (ne_eqb 0 x ne)) (absent_read w c z h, ne, refl))
