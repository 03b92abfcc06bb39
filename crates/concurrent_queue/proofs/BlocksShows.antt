-- What the cells and the calls of an unbounded queue show of it: its length and its flag by the words, and each message
-- in a slot of its own or still with the call that brought it.
use Rattle.std.proofs.Common.{◌≡◌, ℕ, zero, suc, ◌+◌, ◌-◌, ◌*◌, ◌/◌, ◌%◌, ◌<◌, ◌≤◌, ⊎_elim, Bool, true, false, if◌then◌else◌, ◌==◌, ◌&&◌, not, nat_lt, List, [], ◌∷◌, ◌++◌, length, drop, map, Option, None, Some, option_to_list, slice_get, slice_index_or, refl, sym, ap, ◌∙◌, subst, inl, inr, arith}
use Rattle.std.proofs.lemmas.Bool.{cases_lt, false≢true}
use Rattle.std.proofs.lemmas.Bool.Decides.{nat_tests}
use Rattle.concurrent_queue.specs.Contents.{Contents, block_at, slot_at}
use Rattle.concurrent_queue.specs.Queue.{Queue, Phase, appended, message}
use Rattle.concurrent_queue.specs.machine.Places.{Place, Each}
use Rattle.concurrent_queue.specs.Step.{ShowsBy, LiesBy, IsBrought, HasBrought}
use Rattle.concurrent_queue.specs.machine.Forms.{place_phases}
use Rattle.concurrent_queue.specs.machine.BlocksState.{Blocks, one_if, Duty, fill, link, turn_head, start, owed, position}
use Rattle.concurrent_queue.specs.machine.BlocksCalls as call
use Rattle.concurrent_queue.specs.machine.BlocksCalls.{Act, KnowsBlocks, IsSend, Fills, same, owes}
use Rattle.concurrent_queue.specs.machine.BlocksMoves.{StandsBlocks, BlocksSeat, BlocksMeans, owners}
use Rattle.concurrent_queue.specs.machine.BlocksDenotes.{Denotes, act_of}
use Rattle.concurrent_queue.specs.machine.BlocksForm.{seat_of, IsChain, UnboundedMeans}
use Rattle.concurrent_queue.specs.machine.BlocksWords.{blocks_closed, blocks_length, blocks_counted, blocks_slot, blocks_items, chain_items}
use Rattle.concurrent_queue.specs.declared.call.QueueAsk.TheVariants as ask
use Rattle.concurrent_queue.specs.declared.cells.Slot.{Slot}
use Rattle.concurrent_queue.specs.declared.cells.Slot.TheVariants as slot
use Rattle.concurrent_queue.specs.declared.unbounded.action.UnboundedCall.{UnboundedCall}
use Rattle.concurrent_queue.proofs.BlocksBasics.{by_bool}
use Rattle.concurrent_queue.proofs.BlocksSteps.{by_eq, drop_length, taken_all, taken_full, used_same}
use Rattle.concurrent_queue.proofs.BlocksLater.{same_not, some_there}
use Rattle.concurrent_queue.proofs.BlocksDenote as words_of
use Rattle.concurrent_queue.proofs.BlocksYields.{choose, is_eq, not_eq, eq_is, index_or_get}

some_is : {A : Type 0} {x y : A} → Some x ≡ Some y → x ≡ y
some_is e = cc

none_some : {A : Type 0} {x : A} → None ≡ Some x → ⊥
none_some e = absurd cc

-- lists from an index on
drop_at : {A : Type 0} (xs : List A) (n i : ℕ) → slice_get (drop n xs) i ≡ slice_get xs (n + i)
drop_at xs zero i = ap (slice_get xs) (omega arith)
drop_at [] (suc n) zero = refl
drop_at [] (suc n) (suc i) = refl
drop_at (x ∷ xs) (suc n) i = drop_at xs n i ∙ (let e : suc (n + i) ≡ suc n + i = omega arith in ap (slice_get (x ∷ xs)) e)

drop_here : {A : Type 0} (xs : List A) (n : ℕ) (x : A) → slice_get xs n ≡ Some x → drop n xs ≡ x ∷ drop (n + 1) xs
drop_here [] zero x e = absurd cc
drop_here [] (suc n) x e = absurd cc
drop_here (y ∷ ys) zero x e = ap (λ (z : _). z ∷ ys) (some_is e)
drop_here (y ∷ ys) (suc n) x e = let f : suc (n + 1) ≡ suc n + 1 = omega arith in drop_here ys n x e ∙ ap (λ (k : ℕ). x ∷ drop k (y ∷ ys)) f

drop_all : {A : Type 0} (xs : List A) (n : ℕ) → length xs ≡ n → drop n xs ≡ []
drop_all [] zero e = refl
drop_all [] (suc n) e = refl
drop_all (x ∷ xs) zero e = absurd (omega arith)
drop_all (x ∷ xs) (suc n) e = drop_all xs n (omega arith)

-- which acts fill a cell
module _ {T : Type 0} (r : Blocks T) (n : ℕ) (v : T) (is : slice_get r.all n ≡ Some v) where
  abbrev Brings : Phase T → Type 0
  Brings p = (message p.ask ≡ v ∷ []) × HasBrought p.stage

  brings : (p : Phase T) (w : T) → IsSend p.ask w → p.stage ≡ appended None → slice_get r.all n ≡ Some w → Brings p
  brings p w i e g =
      let same_one : w ≡ v = some_is (sym g ∙ is) in
      (⊎_elim (λ (q : p.ask ≡ ask.Push w). ap message q) (λ (q : p.ask ≡ ask.ForcePush w). ap message q) i ∙ ap (λ (x : T). x ∷ []) same_one, subst HasBrought (sym e) tt)

  its_cell : (m : ℕ) → 1 ≤ same m n → m ≡ n
  its_cell m h = by_eq n m (λ e. sym e) (λ ne. absurd (let z = same_not m n ne in omega arith))

  fills : (m b : ℕ) (x : Option T) (w : T) (p : Phase T) → 1 ≤ same m n → Fills r p w m b x → Brings p
  fills m b x w p h f = brings p w f.0 f.1 (subst (λ (j : ℕ). slice_get r.all j ≡ Some w) (its_cell m h) f.2)

  pub filler : (a : Act T) (p : Phase T) → KnowsBlocks r a p → 1 ≤ owes a (fill n) → Brings p
  filler (call.push w h) p k l = absurd (omega arith)
  filler (call.push_return w h) p k l = absurd (omega arith)
  filler (call.push_look w m h) p k l = absurd (omega arith)
  filler (call.push_make w m) p k l = absurd (omega arith)
  filler (call.push_first w m h) p k l = absurd (omega arith)
  filler (call.push_start w m b) p k l = absurd (omega arith)
  filler (call.push_more w m b) p k l = absurd (omega arith)
  filler (call.push_swap w m b h) p k l = absurd (omega arith)
  filler (call.push_turn w m b h) p k l = fills m b None w p l k.0
  filler (call.push_add w m b h) p k l = fills m b None w p l k.0
  filler (call.push_link w m b h) p k l = fills m b None w p l k.0
  filler (call.push_put w m b h) p k l = fills m b None w p l k.0
  filler (call.push_store m b h) p k l = fills m b (Some k.0) k.0 p l k.1
  filler (call.push_give h) p k l = absurd (omega arith)
  filler call.pop p k l = absurd (omega arith)
  filler (call.pop_look m) p k l = absurd (omega arith)
  filler (call.pop_tail m b) p k l = absurd (omega arith)
  filler (call.pop_swap m b) p k l = absurd (omega arith)
  filler (call.pop_next m b) p k l = absurd (omega arith)
  filler (call.pop_block m b c) p k l = absurd (omega arith)
  filler (call.pop_head m b) p k l = absurd (omega arith)
  filler (call.pop_wait m b) p k l = absurd (omega arith)
  filler (call.pop_take m b) p k l = absurd (omega arith)
  filler (call.pop_count m b d) p k l = absurd (omega arith)
  filler (call.pop_retire m b d) p k l = absurd (omega arith)
  filler call.close p k l = absurd (omega arith)
  filler call.ask_closed p k l = absurd (omega arith)
  filler call.ask_empty p k l = absurd (omega arith)
  filler (call.empty_tail m) p k l = absurd (omega arith)
  filler call.ask_full p k l = absurd (omega arith)
  filler call.ask_len p k l = absurd (omega arith)
  filler (call.len_head t) p k l = absurd (omega arith)
  filler (call.len_tail t h) p k l = absurd (omega arith)
  filler call.ask_capacity p k l = absurd (omega arith)
  filler call.finished p k l = absurd (omega arith)

  -- some call under way fills the cell
  brought : (ps : List (Place (UnboundedCall T) T)) → 1 ≤ owners (fill n) (map seat_of ps) → Each (λ (s : BlocksSeat T). KnowsBlocks r s.act s.phase) (map seat_of ps) → IsBrought (place_phases ps) v
  brought [] h k = absurd (omega arith)
  brought (p ∷ ps) h k = by_eq (owes (act_of p.action.action) (fill n)) 0
      (λ e. inr (brought ps (omega arith) k.1))
      (λ ne. inl (filler (act_of p.action.action) p.phase k.0 (omega arith)))

lt_is : (m n : ℕ) → m < n → nat_lt m n ≡ true
lt_is m n h = grind (arith, nat_tests)

one_of : (b c : Bool) → b ≡ true → c ≡ false → one_if (b && not c) ≡ 1
one_of true false e f = refl
one_of true true e f = absurd (false≢true (sym f))
one_of false c e f = absurd (false≢true e)

two_of : (b c : Bool) → b ≡ true → one_if (b && not c) ≡ 0 → c ≡ true
two_of true true e f = refl
two_of true false e f = absurd (omega arith)
two_of false c e f = absurd (false≢true e)

if_none : (b : Bool) → one_if b ≡ 0 → b ≡ false
if_none false e = refl
if_none true e = absurd (omega arith)

abbrev slot_block : Slot → ℕ
slot_block (slot.At i) = 0
slot_block (slot.In b i) = b

abbrev slot_offset : Slot → ℕ
slot_offset (slot.At i) = 0
slot_offset (slot.In b i) = i

module _ {T : Type 0} (c : Contents T) (q : Queue T) (ps : List (Place (UnboundedCall T) T)) (r : Blocks T) (d : Denotes c r) (means : BlocksMeans r q (map seat_of ps)) where
  st : StandsBlocks r q
  st = means.stands

  counts : length q.items + r.head ≡ r.tail
  counts =
      let s = st.sound in let a = s.all in let o = s.order in
      let len = drop_length r.all r.head (omega arith) in
      let l = ap (λ (xs : List T). length xs) s.items in omega arith

  -- the block of an item that is still in the list is in the chain and alive
  in_chain : (n : ℕ) → n < r.tail → n / 31 < r.last
  in_chain n h =
      let s = st.sound in
      by_bool r.tail_turns
      (λ f. ⊎_elim (λ g. omega arith) (λ g. absurd (omega (arith, g.1))) (s.last f))
      (λ f. let g = s.paged f in let l = s.reach in let a = g.1 in let b = g.2 in omega arith)

  alive : (n : ℕ) → r.head ≤ n → (r.block (n / 31)).retired ≡ false
  alive n h = by_bool (r.block (n / 31)).retired (λ f. f)
      (λ f. absurd (let z = st.sound.retired (n / 31) f in let t = st.sound.reads (n / 31) in let u = taken_all r.head (n / 31) in
      let full = taken_full r.head (n / 31) (omega arith) in omega arith))

  written_slot : (n : ℕ) (v : T) → r.head ≤ n → n < r.tail → slice_get r.all n ≡ Some v → (r.cell n).written ≡ true → slot_at c (slot.In (r.num (n / 31)) (n % 31)) ≡ Some v
  written_slot n v low high e w =
      let x = d.used (n / 31) (in_chain n high) (alive n low) in
      let at : 31 * (n / 31) + n % 31 ≡ n = omega arith in
      index_or_get (block_at c (r.num (n / 31))).slots (n % 31) (Some v) None
      (x.slots (n % 31) (omega arith) ∙ (ap (λ (m : ℕ). Some (r.cell m).slot) at ∙ ap Some (st.sound.full n w low ∙ e)))

  item_there : (i : ℕ) (v : T) → slice_get q.items i ≡ Some v → slice_get r.all (r.head + i) ≡ Some v
  item_there i v e = sym (drop_at r.all r.head i) ∙ (ap (λ (xs : List T). slice_get xs i) (sym st.sound.items) ∙ e)

  below : (xs : List T) (i : ℕ) (v : T) → slice_get xs i ≡ Some v → i < length xs
  below [] i v e = absurd cc
  below (x ∷ xs) zero v e = omega arith
  below (x ∷ xs) (suc i) v e = omega (arith, below xs i v e)

  module _ (chain : List ℕ) (of : IsChain chain r) where
    -- the words name the slot of an item that is still in the list
    slot_is : (i : ℕ) → r.head + i < r.tail → blocks_slot chain c i ≡ slot.In (r.num ((r.head + i) / 31)) ((r.head + i) % 31)
    slot_is i h =
        let n : ℕ = r.head + i in
        let head = words_of.head_number_is c r q.items st.sound d in
        let b : slice_index_or chain (n / 31) 0 ≡ r.num (n / 31) = index_or_get chain (n / 31) (r.num (n / 31)) 0 (of.1 (n / 31) (in_chain n h)) in
        ap (λ (m : ℕ). slot.In (slice_index_or chain ((m + i) / 31) 0) ((m + i) % 31)) head ∙ ap (λ (m : ℕ). slot.In m (n % 31)) b

    pub lies : LiesBy (blocks_slot chain c) c q.items (IsBrought (place_phases ps))
    lies = record {
      apart = λ i j h g f.
          (let n = counts in
          let e : slot.In (r.num ((r.head + i) / 31)) ((r.head + i) % 31) ≡ slot.In (r.num ((r.head + j) / 31)) ((r.head + j) % 31) = sym (slot_is i (omega arith)) ∙ (f ∙ slot_is j (omega arith)) in
          let b : r.num ((r.head + i) / 31) ≡ r.num ((r.head + j) / 31) = ap slot_block e in
          let o : (r.head + i) % 31 ≡ (r.head + j) % 31 = ap slot_offset e in
          let x = st.sound.live ((r.head + i) / 31) (in_chain (r.head + i) (omega arith)) (alive (r.head + i) (omega arith)) in
          let y = st.sound.live ((r.head + j) / 31) (in_chain (r.head + j) (omega arith)) (alive (r.head + j) (omega arith)) in
          let k : (r.head + i) / 31 ≡ (r.head + j) / 31 = used_same ((r.head + i) / 31) ((r.head + j) / 31) (sym x ∙ (ap r.spot b ∙ y)) in
          omega arith);
      there = λ i v e.
          (let n = counts in
          let l = below q.items i v e in
          let is = item_there i v e in
          by_bool (r.cell (r.head + i)).written
          (λ f. inr (brought r (r.head + i) v is ps (let o = means.owners (fill (r.head + i)) in
          let one : owed r (fill (r.head + i)) ≡ 1 = one_of (nat_lt (r.head + i) r.tail) (r.cell (r.head + i)).written (lt_is (r.head + i) r.tail (omega arith)) f in omega arith) means.seats))
          (λ f. inl (ap (slot_at c) (slot_is i (omega arith)) ∙ written_slot (r.head + i) v (omega arith) (omega arith) is f)));
    }

  -- ---- at rest

  none_left : (xs : List (Place (UnboundedCall T) T)) → place_phases xs ≡ [] → xs ≡ []
  none_left [] e = refl
  none_left (x ∷ xs) e = absurd cc

  module _ (rest : ps ≡ []) where
    nothing_owed : (e : Duty) → owed r e ≡ 0
    nothing_owed e = sym (means.owners e) ∙ ap (λ (xs : List (Place (UnboundedCall T) T)). owners e (map seat_of xs)) rest

    all_written : (n : ℕ) → n < r.tail → (r.cell n).written ≡ true
    all_written n h = two_of (nat_lt n r.tail) (r.cell n).written (lt_is n r.tail h) (nothing_owed (fill n))

    all_linked : (k : ℕ) → k < r.tail / 31 → (r.block k).linked ≡ true
    all_linked k h = two_of (nat_lt k (r.tail / 31)) (r.block k).linked (lt_is k (r.tail / 31) h) (nothing_owed (link k))

    head_rests : r.head_turns ≡ false
    head_rests = if_none r.head_turns (nothing_owed turn_head)

    from_here : (k n : ℕ) → r.head ≤ n → n + k ≡ r.tail → chain_items c k (r.num (n / 31)) (n % 31) ≡ drop n r.all
    unfolding chain_items
    from_here zero n low e = let a = st.sound.all in sym (drop_all r.all n (omega arith))
    from_here (suc k) n low e =
        let a = st.sound.all in
        let v = some_there r.all n (omega arith) in
        let here : slot_at c (slot.In (r.num (n / 31)) (n % 31)) ≡ Some v.0 = written_slot n v.0 low (omega arith) v.1 (all_written n (omega arith)) in
        let x = d.used (n / 31) (in_chain n (omega arith)) (alive n low) in
        let rest_is : (if n % 31 == 30 then chain_items c k ((block_at c (r.num (n / 31))).next - 1) 0 else chain_items c k (r.num (n / 31)) (n % 31 + 1)) ≡ drop (n + 1) r.all =
        choose (λ (xs : List T). xs ≡ drop (n + 1) r.all) (n % 31 == 30)
        (λ g. (let ed = is_eq (n % 31) 30 g in
        let l : (r.block (n / 31)).linked ≡ true = all_linked (n / 31) (omega arith) in
        let next : (block_at c (r.num (n / 31))).next ≡ r.num (n / 31 + 1) + 1 = x.next ∙ ap (λ (b : Bool). if b then r.num (n / 31 + 1) + 1 else 0) l in
        let to : (n + 1) / 31 ≡ n / 31 + 1 = omega arith in
        let zero_is : (n + 1) % 31 ≡ 0 = omega arith in
        let b : (block_at c (r.num (n / 31))).next - 1 ≡ r.num ((n + 1) / 31) = (let z = ap r.num to in omega arith) in
        ap (λ (m : ℕ). chain_items c k m 0) b ∙ (ap (chain_items c k (r.num ((n + 1) / 31))) (sym zero_is) ∙ from_here k (n + 1) (omega arith) (omega arith))))
        (λ g. (let ne = not_eq (n % 31) 30 g in
        let lt : n % 31 < 30 = ⊎_elim (λ z. z) (λ z. absurd (ne (omega arith))) (cases_lt (n % 31) 30) in
        let to : n / 31 ≡ (n + 1) / 31 = omega arith in
        let o : n % 31 + 1 ≡ (n + 1) % 31 = omega arith in
        ap (λ (m : ℕ). chain_items c k (r.num m) (n % 31 + 1)) to ∙ (ap (chain_items c k (r.num ((n + 1) / 31))) o ∙ from_here k (n + 1) (omega arith) (omega arith)))) in
        ap (λ (o : Option T). option_to_list o ++ (if n % 31 == 30 then chain_items c k ((block_at c (r.num (n / 31))).next - 1) 0 else chain_items c k (r.num (n / 31)) (n % 31 + 1))) here
        ∙ (ap (λ (xs : List T). v.0 ∷ xs) rest_is ∙ sym (drop_here r.all n v.0 v.1))

    pub rests : q.items ≡ blocks_items c
    unfolding chain_items
    rests =
        let s = st.sound in
        let n = words_of.tail_number_is c r q.items s d in
        let h = words_of.head_number_is c r q.items s d in
        let len : blocks_length c ≡ r.tail - r.head = omega arith in
        let at : c.head ≡ position r.head false = rw head_rests at d.head in
        let o : c.head % 32 ≡ r.head % 31 = omega arith in
        by_eq r.tail r.head
        (λ e. (let z : blocks_length c ≡ 0 = omega arith in
        s.items ∙ (drop_all r.all r.head (let a = s.all in omega arith) ∙ sym (ap (λ (k : ℕ). chain_items c k (c.head_block - 1) (c.head % 32)) z))))
        (λ ne. (let low = s.order in
        let some : 1 ≤ r.last = (let k = in_chain r.head (⊎_elim (λ g. g) (λ g. absurd (ne (omega arith))) (cases_lt r.head r.tail)) in omega arith) in
        let begun : (r.first == 0 && nat_lt 0 r.last) ≡ false = if_none (r.first == 0 && nat_lt 0 r.last) (nothing_owed start) in
        let first : r.first ≡ r.head / 31 + 1 = ⊎_elim (λ g. g) (λ g. absurd (false≢true (sym begun ∙ both_true (r.first == 0) (nat_lt 0 r.last) (eq_is r.first 0 g.0) (lt_is 0 r.last some)))) (s.first head_rests) in
        let b : c.head_block - 1 ≡ r.num (r.head / 31) = ⊎_elim (λ g. absurd (omega (arith, g.0))) (λ g. (let z : r.num (r.first - 1) ≡ r.num (r.head / 31) = ap r.num (omega arith) in let y = g.1 in omega arith)) d.head_block in
        s.items ∙ sym (ap (λ (k : ℕ). chain_items c k (c.head_block - 1) (c.head % 32)) len ∙ (ap (λ (m : ℕ). chain_items c (r.tail - r.head) m (c.head % 32)) b ∙ (ap (chain_items c (r.tail - r.head) (r.num (r.head / 31))) o ∙ from_here (r.tail - r.head) r.head (omega arith) (omega arith))))))
      where
        both_true : (b c : Bool) → b ≡ true → c ≡ true → (b && c) ≡ true
        both_true true true e f = refl
        both_true true false e f = absurd (false≢true f)
        both_true false c e f = absurd (false≢true e)

  pub blocks_show : ShowsBy None (blocks_closed c) (blocks_length c) (blocks_counted c) (blocks_items c) c q (place_phases ps)
  blocks_show =
      let s = st.sound in
      let n = words_of.tail_number_is c r q.items s d in
      let h = words_of.head_number_is c r q.items s d in
      let k = counts in
      record {
        limit = st.capacity;
        flag = words_of.closed_is c r q.items s d ∙ st.closed;
        long = omega arith;
        within = λ cap e. absurd (none_some (sym st.capacity ∙ e));
        balance = let a = st.accepted in let b = st.removed in omega arith;
        numbered = inr ((λ e. none_some (sym st.capacity ∙ e)), n ∙ sym st.accepted);
        at_rest = λ e. (rests (none_left ps e), st.coming);
      }

pub unbounded_shows : {T : Type 0} (chain : List ℕ) (c : Contents T) (q : Queue T) (ps : List (Place (UnboundedCall T) T)) → UnboundedMeans chain c q ps
    → ShowsBy None (blocks_closed c) (blocks_length c) (blocks_counted c) (blocks_items c) c q (place_phases ps)
unbounded_shows chain c q ps m = blocks_show c q ps m.0 m.1 m.2

pub unbounded_lies : {T : Type 0} (chain : List ℕ) (c : Contents T) (q : Queue T) (ps : List (Place (UnboundedCall T) T)) → UnboundedMeans chain c q ps
    → LiesBy (blocks_slot chain c) c q.items (IsBrought (place_phases ps))
unbounded_lies chain c q ps m = lies c q ps m.0 m.1 m.2 chain m.4
