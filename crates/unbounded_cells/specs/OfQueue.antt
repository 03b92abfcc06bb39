-- What a queue's own machine knows of blocks, in a history that is shorter than there are positions. It is proved here, and not beside the
-- other proofs, since what an impl says can cite no proof of its own crate.
use Rattle.std.proofs.Common.{◌≡◌, ℕ, zero, suc, ◌+◌, ◌*◌, ◌/◌, ◌<◌, ◌≤◌, ◌^◌, ◌==◌, ◌&&◌, inl, inr, Bool, true, false, not, List, [], ◌∷◌, ◌++◌, length, replicate, map, refl, sym, ap, ◌∙◌, subst, arith, length-set}
use Rattle.std.proofs.lemmas.Bool.Decides.{nat_tests}
use Rattle.std.specs.Prelude.{Option, None, Some, Ok, Err, slice_index_or, slice_get}
use mathlib.Core.Option as home
use Rattle.concurrent_queue.specs.Bridge.{Event, Happening, begins, does, Changes, InOneOrder}
use Rattle.concurrent_queue.specs.Contents.{Contents, BlockCells, blank, nones, block_at, blocks_with, write, write_slot, slot_at}
use Rattle.concurrent_queue.specs.Deeds as deed
use Rattle.concurrent_queue.specs.Deeds.{Deed, Move, loads, stores, exchanges, adds, sets_bits, keeps_bits, puts, takes, spares, retires, rests, Makes, Notes}
use Rattle.concurrent_queue.specs.Effects.{Does}
use Rattle.concurrent_queue.specs.Queue.{Queue, Phase}
use Rattle.concurrent_queue.specs.Step.{ActiveQueueCall, seat, FitsAt, FitsForm, FitsBy, IsAtBlocks}
use Rattle.concurrent_queue.specs.Touched.{Target, target, touched_block, on_word, on_slot, on_spares, on_block, target_at, IsUnderWayAmong, PartiesAreAmongOthers}
use Rattle.concurrent_queue.specs.Walked.{standing, CallMakes}
use Rattle.concurrent_queue.specs.machine.BlocksCalls as call
use Rattle.concurrent_queue.specs.machine.BlocksCalls.{KnowsBlocks, owes, same}
use Rattle.concurrent_queue.specs.machine.BlocksDenotes.{Denotes, IsIdle, act_of}
use Rattle.concurrent_queue.specs.machine.BlocksForm.{seat_of, UnboundedMeans}
use Rattle.concurrent_queue.specs.machine.BlocksMakes.{blocks_moves}
use Rattle.concurrent_queue.specs.machine.BlocksMoves.{BlocksSeat, owners}
use Rattle.concurrent_queue.specs.machine.BlocksState.{Blocks, SoundBlocks, Duty, retire, one_if, owed, number, held}
use Rattle.concurrent_queue.specs.machine.BlocksWords.{begin}
use Rattle.concurrent_queue.specs.machine.Dispatch.{ring_cap}
use Rattle.concurrent_queue.specs.machine.Places.{Place, Each}
use Rattle.concurrent_queue.specs.machine.RingMoves.{ring_moves}
use Rattle.concurrent_queue.specs.machine.RingWords.{ring_mark}
use Rattle.concurrent_queue.specs.machine.Single.{single_moves}
use Rattle.concurrent_queue.specs.declared.bounded.RingAction.{RingAction}
use Rattle.concurrent_queue.specs.declared.bounded.RingAction.TheVariants as ring
use Rattle.concurrent_queue.specs.declared.call.QueueReply.{QueueReply}
use Rattle.concurrent_queue.specs.declared.cells.QueueForm.{QueueForm}
use Rattle.concurrent_queue.specs.declared.cells.QueueForm.TheVariants.{Bounded, Unbounded}
use Rattle.concurrent_queue.specs.declared.cells.Slot.{Slot}
use Rattle.concurrent_queue.specs.declared.cells.Slot.TheVariants.{At, In}
use Rattle.concurrent_queue.specs.declared.cells.Word.{Word}
use Rattle.concurrent_queue.specs.declared.cells.Word.TheVariants as word
use Rattle.concurrent_queue.specs.declared.history.party.Standing.{Standing}
use Rattle.concurrent_queue.specs.declared.history.rule.View.{View}
use Rattle.concurrent_queue.specs.declared.queue_call.CallState.{CallState}
use Rattle.concurrent_queue.specs.declared.queue_call.CallState.TheVariants as at_state
use Rattle.concurrent_queue.specs.declared.queue_call.QueueCall.{QueueCall}
use Rattle.concurrent_queue.specs.declared.single.SingleAction.{SingleAction}
use Rattle.concurrent_queue.specs.declared.single.SingleAction.TheVariants as single
use Rattle.concurrent_queue.specs.declared.unbounded.action.UnboundedAction.{UnboundedAction}
use Rattle.concurrent_queue.specs.declared.unbounded.action.UnboundedAction.TheVariants as act
use Rattle.concurrent_queue.specs.declared.unbounded.action.UnboundedCall.{UnboundedCall}
use Rattle.concurrent_queue.specs.history.Runs.{fresh, moves, enters, history, standing_in, standing_of, HistoriesTouchTheirOwn}
use Rattle.concurrent_queue.proofs.Among.{parties_are_among_others}
use Rattle.concurrent_queue.proofs.HistoryRuns as runs
use Rattle.concurrent_queue.proofs.ItsOwn.{each_touches_its_own}
use Rattle.concurrent_queue.proofs.StepFacts.{part}
use Rattle.unbounded_cells.specs.Queue.{sized}
use Rattle.unbounded_cells.specs.Laws.{word_block, slot_block, deed_block, word_is_no_flag, flag_is_one, OnFlags, IsNext, KeepsBlocks}

none_is : {X : Type 0} {x : X} → None ≡ Some x → ⊥
none_is e = absurd cc

some_is : {X : Type 0} {x y : X} → Some x ≡ Some y → x ≡ y
some_is e = cc

word_touched : (w : Word) → touched_block (on_word w) ≡ word_block w
word_touched word.State = refl
word_touched word.Head = refl
word_touched word.Tail = refl
word_touched (word.Stamp i) = refl
word_touched word.HeadBlock = refl
word_touched word.TailBlock = refl
word_touched (word.Next b) = refl
word_touched (word.Reads b) = refl
word_touched (word.Written b i) = refl

slot_touched : (at : Slot) → touched_block (on_slot at) ≡ slot_block at
slot_touched (At i) = refl
slot_touched (In b i) = refl

one_is : (b : Bool) → 1 ≤ one_if b → b ≡ true
one_is true h = refl
one_is false h = absurd (omega arith)

is_31 : (x : ℕ) → (x == 31) ≡ true → x ≡ 31
is_31 x e = grind (arith, nat_tests, e)

both_true : (a b : Bool) → (a && b) ≡ true → (a ≡ true) × (b ≡ true)
both_true true b e = (refl, e)
both_true false b e = absurd cc

not_true : (b : Bool) → not b ≡ true → b ≡ false
not_true false e = refl
not_true true e = absurd cc

one_owes : (n : ℕ) → 1 ≤ same n n
one_owes n = (let e : (n == n) ≡ true = grind (arith, nat_tests) in let z : same n n ≡ 1 = rw e refl in omega arith)

-- all slots of a blank block are empty
none_at : {T : Type 0} → (i : ℕ) (l : List (Option T)) → (n : ℕ) → l ≡ replicate n None → slice_index_or l i None ≡ None
none_at i l zero e = ap (λ (z : List (Option _)). slice_index_or z i None) e
none_at zero l (suc n) e = ap (λ (z : List (Option _)). slice_index_or z zero None) e
none_at (suc i) l (suc n) e = ap (λ (z : List (Option _)). slice_index_or z (suc i) None) e ∙ none_at i (replicate n None) n refl

are_none : (T : Type 0) → nones {T = T} ≡ replicate 31 None
unfolding nones
are_none T = refl

blank_slot : {T : Type 0} → (i : ℕ) → slice_index_or (blank {T = T}).slots i None ≡ None
blank_slot {T = T} i = none_at i (blank {T = T}).slots 31 (are_none T)

abbrev given_back : Target → Option ℕ
given_back (on_block b) = Some b
given_back _ = None

-- ---- there are no more blocks than events

module _ {T : Type 0} where
  one_more : (l : List (BlockCells T)) (sp : List ℕ) → length (blocks_with sp l) ≤ length l + 1
  one_more l [] = longer l
    where
      longer : (l : List (BlockCells T)) → length (l ++ blank ∷ []) ≤ length l + 1
      longer [] = omega arith
      longer (x ∷ xs) = let e = longer xs in omega arith
  one_more l (b ∷ sp) = omega arith

  made_by : Contents T → ℕ
  made_by c = length c.blocks

  same_made : (c e : Contents T) (l : List (BlockCells T)) → e.blocks ≡ l → length l ≡ length c.blocks → length e.blocks ≤ length c.blocks + 1
  same_made c e l is long = let a : length e.blocks ≡ length l = ap (λ (z : List (BlockCells T)). length z) is in omega arith

  written_made : (c : Contents T) (w : Word) (x : ℕ) → length (write c w x).blocks ≡ length c.blocks
  written_made c word.State x = refl
  written_made c word.Head x = refl
  written_made c word.Tail x = refl
  written_made c (word.Stamp i) x = refl
  written_made c word.HeadBlock x = refl
  written_made c word.TailBlock x = refl
  written_made c (word.Next b) x = length-set c.blocks b _
  written_made c (word.Reads b) x = length-set c.blocks b _
  written_made c (word.Written b i) x = length-set c.blocks b _

  filled_made : (c : Contents T) (at : Slot) (o : Option T) → length (write_slot c at o).blocks ≡ length c.blocks
  filled_made c (At i) o = refl
  filled_made c (In b i) o = length-set c.blocks b _

  by_contents : (c e f : Contents T) → e ≡ f → length f.blocks ≡ length c.blocks → length e.blocks ≤ length c.blocks + 1
  by_contents c e f is long = same_made c e f.blocks (ap (λ (z : Contents T). z.blocks) is) long

  does_few : (d : Deed T) (c e : Contents T) → Does d c e → length e.blocks ≤ length c.blocks + 1
  does_few (deed.loaded w x) c e h = by_contents c e c h.1 refl
  does_few (deed.stored w x) c e h = by_contents c e (write c w x) h (written_made c w x)
  does_few (deed.exchanged w x y (Ok v)) c e h = by_contents c e (write c w y) h.2 (written_made c w y)
  does_few (deed.exchanged w x y (Err v)) c e h = by_contents c e c h.2 refl
  does_few (deed.added w x o) c e h = by_contents c e _ h.1 (written_made c w _)
  does_few (deed.bits_set w x o) c e h = by_contents c e _ h.1 (written_made c w _)
  does_few (deed.bits_kept w x o) c e h = by_contents c e _ h.1 (written_made c w _)
  does_few (deed.did_put at v (Ok u)) c e h = by_contents c e _ h.1 (filled_made c at (Some v))
  does_few (deed.did_put at v (Err w)) c e h = by_contents c e c h.2 refl
  does_few (deed.did_take at o) c e h = by_contents c e _ h.1 (filled_made c at None)
  does_few (deed.spared (Ok b)) c e h = (let a = ap (λ (z : Contents T). length z.blocks) h.1 in let m = one_more c.blocks c.spares in let x : ℕ = length e.blocks in let y : ℕ = length (blocks_with c.spares c.blocks) in let a' : x ≡ y = a in omega arith)
  does_few (deed.spared (Err r)) c e h = by_contents c e c h.1 refl
  does_few (deed.retired b) c e h = by_contents c e _ h (length-set c.blocks b blank)

  changes_few : (x : Event T) (c e : Contents T) → Changes x c e → length e.blocks ≤ length c.blocks + 1
  changes_few (begins a) c e h = by_contents c e c h refl
  changes_few (does None) c e h = by_contents c e c h refl
  changes_few (does (Some d)) c e h = does_few d c e h

  order_few : (xs : List (Happening T)) (c e : Contents T) → InOneOrder xs c e → length e.blocks ≤ length c.blocks + length xs
  order_few [] c e h = (let a : length e.blocks ≡ length c.blocks = ap (λ (z : Contents T). length z.blocks) h in omega arith)
  order_few (x ∷ xs) c e h = (let a = changes_few x.event c h.0 h.1 in let b = order_few xs h.0 e h.2 in omega arith)

  -- ---- what an operation is made on

  abbrev deed_target : Deed T → Target
  deed_target (deed.loaded w x) = on_word w
  deed_target (deed.stored w x) = on_word w
  deed_target (deed.exchanged w x y o) = on_word w
  deed_target (deed.added w x o) = on_word w
  deed_target (deed.bits_set w x o) = on_word w
  deed_target (deed.bits_kept w x o) = on_word w
  deed_target (deed.did_put at v o) = on_slot at
  deed_target (deed.did_take at o) = on_slot at
  deed_target (deed.spared o) = on_spares
  deed_target (deed.retired b) = on_block b

  deed_touched : (d : Deed T) → touched_block (deed_target d) ≡ deed_block d
  deed_touched (deed.loaded w x) = word_touched w
  deed_touched (deed.stored w x) = word_touched w
  deed_touched (deed.exchanged w x y o) = word_touched w
  deed_touched (deed.added w x o) = word_touched w
  deed_touched (deed.bits_set w x o) = word_touched w
  deed_touched (deed.bits_kept w x o) = word_touched w
  deed_touched (deed.did_put at v o) = slot_touched at
  deed_touched (deed.did_take at o) = slot_touched at
  deed_touched (deed.spared o) = refl
  deed_touched (deed.retired b) = refl

  -- and whether it asks of flags what may be asked
  abbrev AsksFlags : {A : Type 0} → Move T A → Type 0
  AsksFlags (stores w x a) = flag_is_one w x
  AsksFlags (exchanges w x y k) = word_is_no_flag w
  AsksFlags (adds w x k) = word_is_no_flag w
  AsksFlags (sets_bits w x k) = word_is_no_flag w
  AsksFlags (keeps_bits w x k) = word_is_no_flag w
  AsksFlags _ = Unit {0}

  abbrev Fits : Target → Type 0 → Deed T → Type 0
  Fits to asks d = (to ≡ deed_target d) × (asks → OnFlags d)

  fits_so : (to : Target) (asks : Type 0) (d e : Deed T) → Some d ≡ Some e → Fits to asks e → Fits to asks d
  fits_so to asks d e is h = subst (λ (x : Deed T). Fits to asks x) (sym (some_is is)) h

  makes_so : {A : Type 0} → (m : Move T A) (r : A) (d : Deed T) → Makes Notes m None r (Some d) → Fits (target m) (AsksFlags m) d
  makes_so (loads w k) r d h = fits_so (on_word w) (Unit {0}) d (deed.loaded w h.0) h.1 (refl, λ _. tt)
  makes_so (stores w x a) r d h = fits_so (on_word w) (flag_is_one w x) d (deed.stored w x) h.0 (refl, λ z. z)
  makes_so (exchanges w x y k) r d h = fits_so (on_word w) (word_is_no_flag w) d (deed.exchanged w x y h.0) h.1 (refl, λ z. z)
  makes_so (adds w x k) r d h = fits_so (on_word w) (word_is_no_flag w) d (deed.added w x h.0) h.1 (refl, λ z. z)
  makes_so (sets_bits w x k) r d h = fits_so (on_word w) (word_is_no_flag w) d (deed.bits_set w x h.0) h.1 (refl, λ z. z)
  makes_so (keeps_bits w x k) r d h = fits_so (on_word w) (word_is_no_flag w) d (deed.bits_kept w x h.0) h.1 (refl, λ z. z)
  makes_so (puts at v k) r d h = fits_so (on_slot at) (Unit {0}) d (deed.did_put at v h.0) h.1 (refl, λ _. tt)
  makes_so (takes at k) r d h = fits_so (on_slot at) (Unit {0}) d (deed.did_take at h.0) h.1 (refl, λ _. tt)
  makes_so (spares k) r d h = fits_so on_spares (Unit {0}) d (deed.spared h.0) h.1 (refl, λ _. tt)
  makes_so (retires b a) r d h = fits_so (on_block b) (Unit {0}) d (deed.retired b) h.0 (refl, λ _. tt)
  makes_so (rests a) r d h = absurd (none_is (sym h.0))

  blocks_ask : (a : UnboundedAction T) → AsksFlags (blocks_moves a)
  blocks_ask (act.Push v h) = tt
  blocks_ask (act.PushShut v h) = tt
  blocks_ask (act.PushReturn v h) = tt
  blocks_ask (act.PushLook v t h) = tt
  blocks_ask (act.PushMake v t) = tt
  blocks_ask (act.PushFirst v t h) = tt
  blocks_ask (act.PushStart v t b) = tt
  blocks_ask (act.PushMore v t b) = tt
  blocks_ask (act.PushSwap v t b h) = tt
  blocks_ask (act.PushTurn v t b h) = tt
  blocks_ask (act.PushAdd v t b h) = tt
  blocks_ask (act.PushLink v t b h) = tt
  blocks_ask (act.PushPut v t b h) = tt
  blocks_ask (act.PushStore t b h) = refl
  blocks_ask (act.PushGive h) = tt
  blocks_ask act.Pop = tt
  blocks_ask (act.PopLook p) = tt
  blocks_ask (act.PopTail p b) = tt
  blocks_ask (act.PopSwap p b) = tt
  blocks_ask (act.PopNext p b) = tt
  blocks_ask (act.PopBlock p b n) = tt
  blocks_ask (act.PopHead p b) = tt
  blocks_ask (act.PopWait p b) = tt
  blocks_ask (act.PopTake p b) = tt
  blocks_ask (act.PopCount p b d) = tt
  blocks_ask (act.PopRetire p b d) = tt
  blocks_ask act.Close = tt
  blocks_ask act.AskClosed = tt
  blocks_ask act.AskEmpty = tt
  blocks_ask (act.EmptyTail p) = tt
  blocks_ask act.AskFull = tt
  blocks_ask act.AskLen = tt
  blocks_ask (act.LenHead t) = tt
  blocks_ask (act.LenTail t p) = tt
  blocks_ask act.AskCapacity = tt
  blocks_ask act.Finished = tt

  single_asks : (a : SingleAction T) → AsksFlags (single_moves a)
  single_asks (single.Push v) = tt
  single_asks (single.PushPut v) = tt
  single_asks single.PushUnlock = tt
  single_asks (single.Force v y) = tt
  single_asks (single.ForceTake v) = tt
  single_asks (single.ForcePut v o) = tt
  single_asks (single.ForceUnlock o) = tt
  single_asks (single.Pop y) = tt
  single_asks single.PopTake = tt
  single_asks (single.PopUnlock v) = tt
  single_asks single.Close = tt
  single_asks single.IsClosed = tt
  single_asks single.IsEmpty = tt
  single_asks single.IsFull = tt
  single_asks single.Len = tt
  single_asks single.Capacity = tt
  single_asks single.Finished = tt

  ring_asks : (a : RingAction T) → AsksFlags (ring_moves (ring_cap Unbounded) (ring_mark (ring_cap Unbounded)) a)
  ring_asks (ring.Push k v) = tt
  ring_asks (ring.PushShut k v) = tt
  ring_asks (ring.PushStamp k v t) = tt
  ring_asks (ring.PushSwap k v t) = tt
  ring_asks (ring.PushPut k v t) = tt
  ring_asks (ring.PushStore k t) = tt
  ring_asks (ring.PushHead v h) = tt
  ring_asks (ring.ForceHead v h) = tt
  ring_asks (ring.ForceAdd v h) = tt
  ring_asks (ring.ForceTake v h) = tt
  ring_asks (ring.ForcePut v h d) = tt
  ring_asks (ring.ForceStore h d) = tt
  ring_asks ring.Pop = tt
  ring_asks (ring.PopStamp h) = tt
  ring_asks (ring.PopSwap h) = tt
  ring_asks (ring.PopTail h) = tt
  ring_asks (ring.PopTake h) = tt
  ring_asks (ring.PopStore h v) = tt
  ring_asks ring.Close = tt
  ring_asks ring.IsClosed = tt
  ring_asks ring.IsEmpty = tt
  ring_asks (ring.IsEmptyTail h) = tt
  ring_asks ring.IsFull = tt
  ring_asks (ring.IsFullHead t) = tt
  ring_asks ring.Len = tt
  ring_asks (ring.LenHead t b) = tt
  ring_asks (ring.LenTail t b h) = tt
  ring_asks ring.Capacity = tt
  ring_asks ring.Finished = tt

  call_makes : (s : CallState T) (d : Deed T) (next : QueueCall T) (reply : Option (QueueReply T)) → CallMakes Notes Unbounded None (record { state = s; mark = next.mark }) (Some d) next reply
      → (target_at Unbounded (standing Unbounded s) ≡ deed_target d) × OnFlags d
  call_makes (at_state.Asked a) d next reply (x, (p, made, is), e) = (let f = makes_so (blocks_moves (begin a).action) p d made in (f.0, f.1 (blocks_ask (begin a).action)))
  call_makes (at_state.Blocks a) d next reply (x, (p, made, is), e) = (let f = makes_so (blocks_moves a.action) p d made in (f.0, f.1 (blocks_ask a.action)))
  call_makes (at_state.Single a) d next reply (x, made, e) = (let f = makes_so (single_moves a) x d made in (f.0, f.1 (single_asks a)))
  call_makes (at_state.Ring a) d next reply (x, made, e) = (let f = makes_so (ring_moves (ring_cap Unbounded) (ring_mark (ring_cap Unbounded)) a) x d made in (f.0, f.1 (ring_asks a)))
  call_makes at_state.Finished d next reply h = absurd (none_is (sym h.0))

  -- ---- all slots of a block that is given back are empty

  got : (l : List (Option T)) (i : ℕ) (x : Option T) → slice_get l i ≡ Some x → slice_index_or l i None ≡ x
  got [] i x e = absurd cc
  got (y ∷ ys) zero x e = some_is e
  got (y ∷ ys) (suc i) x e = got ys i x e

  module _ (c : Contents T) (r : Blocks T) (items : List T) (s : SoundBlocks r items) (d : Denotes c r) where
    blank_now : (b : ℕ) → r.spot b ≡ held → (i : ℕ) → slot_at c (In b i) ≡ None
    blank_now b e i = ap (λ (x : BlockCells T). slice_index_or x.slots i None) (d.idle b (subst (λ (z : _). IsIdle z) (sym e) tt)) ∙ blank_slot i

    read_now : (n b : ℕ) → call.IsBlockOf r n b → 1 ≤ owed r (retire (n / 31)) → (i : ℕ) → i < 31 → slot_at c (In b i) ≡ None
    read_now n b is owing i near =
        let k : ℕ = n / 31 in
        let both = both_true ((r.block (n / 31)).reads == 31) (not (r.block (n / 31)).retired) (one_is _ owing) in
        let all : (r.block (n / 31)).reads ≡ 31 = is_31 (r.block (n / 31)).reads both.0 in
        let shown = d.used (n / 31) is.0 (not_true (r.block (n / 31)).retired both.1) in
        let same_block : (31 * (n / 31) + i) / 31 ≡ n / 31 = omega arith in
        let none = s.done (31 * (n / 31) + i) (ap (λ (j : ℕ). (r.block j).reads) same_block ∙ all) in
        ap (λ (j : ℕ). slot_at c (In j i)) is.1 ∙ (got (block_at c (r.num (n / 31))).slots i _ (shown.slots i near) ∙ none.1)

    given_empty : (a : UnboundedAction T) (p : Phase T) (b : ℕ) → KnowsBlocks r (act_of a) p → ((e : Duty) → owes (act_of a) e ≤ owed r e) → given_back (target (blocks_moves a)) ≡ Some b → (i : ℕ) → i < 31 → slot_at c (In b i) ≡ None
    given_empty (act.PushReturn v h) p b k o e i near = subst (λ (j : ℕ). slot_at c (In j i) ≡ None) (some_is e) (blank_now h k.2 i)
    given_empty (act.PushGive h) p b k o e i near = subst (λ (j : ℕ). slot_at c (In j i) ≡ None) (some_is e) (blank_now h k.3 i)
    given_empty (act.PopRetire t g v) p b k o e i near =
        let n = number t in subst (λ (j : ℕ). slot_at c (In j i) ≡ None) (some_is e) (read_now n g k.3 (let one = one_owes (n / 31) in let most = o (retire (n / 31)) in omega arith) i near)
    given_empty a p b k o e i near = absurd (none_is e)

  -- one call among all
  its_own : (P : BlocksSeat T → Type 0) (l r : List (Place (UnboundedCall T) T)) (x : Place (UnboundedCall T) T) → Each P (map seat_of (l ++ x ∷ r)) → P (seat_of x)
  its_own P [] r x h = h.0
  its_own P (y ∷ l) r x h = its_own P l r x h.1

  its_part : (e : Duty) (l r : List (Place (UnboundedCall T) T)) (x : Place (UnboundedCall T) T) → owes (seat_of x).act e ≤ owners e (map seat_of (l ++ x ∷ r))
  its_part e [] r x = omega arith
  its_part e (y ∷ l) r x = let h = its_part e l r x in omega arith

  stands_at : (s : CallState T) (x : UnboundedCall T) → IsAtBlocks s x → target_at Unbounded (standing Unbounded s) ≡ target (blocks_moves x.action)
  stands_at (at_state.Asked a) x e = ap (λ (y : UnboundedCall T). target (blocks_moves y.action)) (sym e)
  stands_at (at_state.Blocks y) x e = ap (λ (z : UnboundedCall T). target (blocks_moves z.action)) (sym e)
  stands_at (at_state.Single a) x e = absurd e
  stands_at (at_state.Ring a) x e = absurd e
  stands_at at_state.Finished x e = absurd e

  module _ (chain : List ℕ) (c : Contents T) (q : Queue T) (l r : List (ActiveQueueCall T)) (mine : QueueCall T) (p : Phase T) (b : ℕ) (gives : target_at Unbounded (standing Unbounded mine.state) ≡ on_block b) where
    emptied_fits : FitsBy IsAtBlocks (UnboundedMeans chain c q) (l ++ seat mine p ∷ r) → (i : ℕ) → i < 31 → slot_at c (In b i) ≡ None
    emptied_fits (places, at, means) i near =
        let s = part IsAtBlocks l r (seat mine p) places at in
        let m : UnboundedMeans chain c q (s.left ++ s.mine ∷ s.right) = subst (λ (ps : List (Place (UnboundedCall T) T)). UnboundedMeans chain c q ps) s.there means in
        let all = m.2 in
        given_empty c m.0 q.items all.stands.sound m.1 s.mine.action.action s.mine.phase b (its_own (λ (z : BlocksSeat T). KnowsBlocks m.0 z.act z.phase) s.left s.right s.mine all.seats)
        (λ e. (let x = its_part e s.left s.right s.mine in let y = all.owners e in omega arith))
        (ap given_back (sym (stands_at mine.state s.mine.action s.stands) ∙ gives)) i near

    emptied_by : (f : QueueForm) → f ≡ Unbounded → FitsForm f chain c q (l ++ seat mine p ∷ r) → (i : ℕ) → i < 31 → slot_at c (In b i) ≡ None
    emptied_by (Bounded cap) e h i near = absurd cc
    emptied_by Unbounded e h i near = emptied_fits h i near

  emptied_among : (c : Contents T) (mine : QueueCall T) (others : List (ActiveQueueCall T)) (b : ℕ) → c.form ≡ Unbounded → IsUnderWayAmong c mine others → target_at Unbounded (standing Unbounded mine.state) ≡ on_block b → (i : ℕ) → i < 31 → slot_at c (In b i) ≡ None
  unfolding FitsAt
  emptied_among c mine others b form h gives i near = emptied_by h.chain c h.queue h.before h.behind mine h.phase b gives c.form form h.fits i near

-- ---- what the machine says

module _ (T : Type 0) (own_so : HistoriesTouchTheirOwn T) (among_so : PartiesAreAmongOthers T) where
  call_of : (v : View T (Standing T)) (d : Deed T) → IsNext moves v d → (mine : QueueCall T) × (v.state.call ≡ Some mine) × (target_at Unbounded (standing Unbounded mine.state) ≡ deed_target d) × OnFlags d
  call_of v d (a, (mine, next, reply, under, made, is)) = (let g = call_makes mine.state d next reply made in (mine, under, g.0, g.1))

  pub queue_keeps_blocks : KeepsBlocks {T = T} {A = Standing T} moves history sized
  queue_keeps_blocks = record {
    measured = λ views c t h. (length h.events, (h, refl));
    few = λ views c t n h. (let a : ℕ = length c.blocks in let b : ℕ = length h.0.events in let e : a ≤ 0 + b = order_few h.0.events _ c h.0.order in let f : b ≡ n = h.1 in let z : a ≤ n = omega arith in z);
    in_use = λ views c t n h short p v d b at may touches.
        let g = call_of v d may in
        let under : (standing_of views p).call ≡ Some g.0 = ap (λ (o : home.Option (View T (Standing T))). (standing_in o).call) at ∙ g.1 in
        (own_so Unbounded views c tt h.0 (inr (let k : ℕ = length h.0.events in let s : n < 2 ^ 61 = short in let f : k ≡ n = h.1 in let z : k ≤ 2 ^ 61 = omega arith in z)) p g.0 under).block b (ap touched_block g.2 ∙ (deed_touched d ∙ touches));
    emptied = λ views c t n h short p v b i at may near.
        let g = call_of v (deed.retired b) may in
        let under : (standing_of views p).call ≡ Some g.0 = ap (λ (o : home.Option (View T (Standing T))). (standing_in o).call) at ∙ g.1 in
        let led = runs.histories_have_led T Unbounded views c tt h.0 (inr (let k : ℕ = length h.0.events in let s : n < 2 ^ 61 = short in let f : k ≡ n = h.1 in let z : k ≤ 2 ^ 61 = omega arith in z)) in
        let m = among_so Unbounded h.0.events c (λ q. (standing_of views q).call) led p g.0 under in
        emptied_among c g.0 m.0 b m.1 m.2 g.2 i near;
    flags = λ v d may. (call_of v d may).3;
  }

-- the machine's facts, and that of a party that has done nothing
module _ {T : Type 0} where
  pub queue_blocks : KeepsBlocks {T = T} {A = Standing T} moves history sized
  queue_blocks = queue_keeps_blocks T (runs.histories_touch_their_own T each_touches_its_own) parties_are_among_others

  pub queue_idles : enters {T = T} Unbounded fresh
  queue_idles = inl refl
