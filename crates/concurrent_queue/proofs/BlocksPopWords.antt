-- The steps of a pop, of closing and of the questions on the words are steps on the numbers.
use Rattle.std.proofs.Common.{◌≡◌, ℕ, ◌+◌, ◌-◌, ◌*◌, ◌/◌, ◌%◌, ◌^◌, ◌<◌, ◌≤◌, ⊎_elim, Bool, true, false, if◌then◌else◌, ◌==◌, ◌&&◌, not, List, Option, None, Some, slice_index, bit_or, refl, sym, ap, ◌∙◌, subst, inr, arith}
use Rattle.std.proofs.lemmas.Bool.{cases_lt, false≢true}
use Rattle.std.proofs.Math.Nat.{mod-eq_of_lt, max-eq_right}
use Rattle.std.specs.Int.Bits.{or_step, or_zero_r}
use Rattle.concurrent_queue.specs.Contents.{Contents, block_at, slot_at, with_reads, with_retired}
use Rattle.concurrent_queue.specs.Contents as words
use Rattle.concurrent_queue.specs.Queue.{Phase}
use Rattle.concurrent_queue.specs.machine.BlocksState.{Blocks, Cell, BlockState, SoundBlocks, Spot, spare, held, used, one_if, taken_in, Duty, count, owed, position, number, with_cell, with_block, with_spot}
use Rattle.concurrent_queue.specs.machine.BlocksState as duty
use Rattle.concurrent_queue.specs.machine.BlocksCalls as call
use Rattle.concurrent_queue.specs.machine.BlocksCalls.{KnowsBlocks, owes}
use Rattle.concurrent_queue.specs.machine.BlocksMoves.{Moves, counted, pop_loads, pop_stays, pop_looks_none, pop_looks, pop_empty, pop_shut, pop_back, pop_goes, pop_wins, pop_wins_edge, pop_loses, next_waits, next_found, blocks, heads, wait_waits, wait_found, takes, counts, counts_last, retires, closes, closed_before, tells_closed, empty_loads, empty_tells, empty_denies, tells_full, len_loads, len_looks, len_tells, len_back, tells_capacity, popping, asking}
use Rattle.concurrent_queue.specs.machine.BlocksDenotes.{Denotes, IsBlock, act_of, IsHeadAt}
use Rattle.concurrent_queue.specs.machine.BlocksWords.{load_head, look_head_block, look_tail, swap_head, load_next, store_head_block, store_head, wait_written, take_message, after_take, count_read, retire_block, close_tail, tells, stays, ask_tail, empty_load_head, empty_load_tail, len_load_tail, len_load_head, len_again}
use Rattle.concurrent_queue.specs.declared.call.QueueMark.TheVariants as mark
use Rattle.concurrent_queue.specs.declared.call.QueueReply.TheVariants as reply
use Rattle.concurrent_queue.specs.declared.cells.Slot.TheVariants as slot
use Rattle.concurrent_queue.specs.declared.unbounded.action.UnboundedAction.TheVariants as act
use Rattle.concurrent_queue.proofs.BlocksBasics.{by_bool}
use Rattle.concurrent_queue.proofs.BlocksSteps.{by_eq, pick_here, taken_all}
use Rattle.concurrent_queue.proofs.BlocksDenote as words_of
use Rattle.concurrent_queue.proofs.BlocksRetire as retire
use Rattle.concurrent_queue.proofs.BlocksPushWords.{slot_words}
use Rattle.concurrent_queue.proofs.BlocksYields.{Yields, choose, is_eq, not_eq, named_none, named_some, index_get, index_or_get, head_offset, head_place, shows_none, shows_some}

-- setting the lowest bit
or_one : (t : ℕ) → bit_or t 1 ≡ t / 2 * 2 + 1
or_one t = or_step t 1 ∙ (let z = or_zero_r (t / 2) in let m : t % 2 ≤ 1 = omega arith in let e = max-eq_right m in omega arith)

one_is : (b : Bool) → 1 ≤ one_if b → b ≡ true
one_is false h = absurd (omega arith)
one_is true h = refl

both : (b c : Bool) → (b && c) ≡ true → (b ≡ true) × (c ≡ true)
both false c e = absurd (false≢true e)
both true c e = (refl, e)

unnot : (b : Bool) → not b ≡ true → b ≡ false
unnot false e = refl
unnot true e = absurd (false≢true e)

one_bit : (b : Bool) → (one_if b == 1) ≡ b
one_bit false = refl
one_bit true = refl

module _ {T : Type 0} (c : Contents T) (r : Blocks T) (queue : List T) (s : SoundBlocks r queue) (d : Denotes c r) (u : Phase T) (small : r.tail ≤ 2 ^ 61) where
  pub at-pop : Yields r act.Pop (load_head c)
  at-pop = choose (λ y. Yields r act.Pop (c, y)) (c.head % 32 == 31)
      (λ e. (r, d, popping (pop_stays refl (sym (words_of.head_turns_is c r queue s d) ∙ e)), tt))
      (λ e. (
        r,
        d,
        popping (pop_loads refl (words_of.head_number_is c r queue s d) (sym (words_of.head_turns_is c r queue s d) ∙ e)),
        (let f = sym (words_of.head_turns_is c r queue s d) ∙ e in let p : c.head ≡ position r.head false = rw f at d.head in omega arith),
      ))

  pub at-pop_look : (p : ℕ) → IsHeadAt p → Yields r (act.PopLook p) (look_head_block c p)
  at-pop_look p w = by_eq c.head_block 0
      (λ e. (r, d, subst (λ (b : Option ℕ). Moves r (act_of (act.PopLook p)) r (call.pop_tail (number p) b) mark.Nothing None) (sym (named_none c.head_block e)) (popping (pop_looks_none refl (shows_none c r d r.first c.head_block d.head_block e))), w))
      (λ ne. (let q = shows_some c r d r.first c.head_block d.head_block ne in
      (r, d, subst (λ (b : Option ℕ). Moves r (act_of (act.PopLook p)) r (call.pop_tail (number p) b) mark.Nothing None) (sym (named_some c.head_block (r.num (r.first - 1)) q.1)) (popping (pop_looks refl q.0 refl)), w)))

  tail_same : (p : ℕ) → number (c.tail / 2) ≡ number p → r.tail ≡ number p
  tail_same p e = sym (words_of.tail_number_is c r queue s d) ∙ e

  pub at-pop_tail : (p b : ℕ) → IsHeadAt p → Yields r (act.PopTail p b) (look_tail c p b)
  at-pop_tail p b w = choose (λ y. Yields r (act.PopTail p b) (c, y)) (number (c.tail / 2) == number p)
      (λ e. choose (λ y. Yields r (act.PopTail p b) (c, y)) (c.tail % 2 == 1)
      (λ k. (r, d, popping (pop_shut refl (tail_same p (is_eq (number (c.tail / 2)) (number p) e)) (sym (words_of.closed_is c r queue s d) ∙ k)), tt))
      (λ o. (r, d, popping (pop_empty refl (tail_same p (is_eq (number (c.tail / 2)) (number p) e)) (sym (words_of.closed_is c r queue s d) ∙ o)), tt)))
      (λ e. goes b (λ q. not_eq (number (c.tail / 2)) (number p) e (words_of.tail_number_is c r queue s d ∙ q)))
    where
      goes : (x : ℕ) → (r.tail ≡ number p → ⊥) → Yields r (act.PopTail p x) (c, if x == 0 then stays act.Pop else stays (act.PopSwap p (x - 1)))
      goes x ne = choose (λ y. Yields r (act.PopTail p x) (c, y)) (x == 0)
          (λ e. (r, d, subst (λ (o : Option ℕ). Moves r (call.pop_tail (number p) o) r call.pop mark.Nothing None) (sym (named_none x (is_eq x 0 e))) (popping (pop_back refl ne)), tt))
          (λ e. (let z = not_eq x 0 e in (r, d, subst (λ (o : Option ℕ). Moves r (call.pop_tail (number p) o) r (call.pop_swap (number p) (x - 1)) mark.Nothing None) (sym (named_some x (x - 1) (omega arith))) (popping (pop_goes refl ne)), w)))

  -- the exchange of the head
  head_small : r.head ≤ 2 ^ 61
  head_small = let o = s.order in omega arith

  wins : (p b : ℕ) → IsHeadAt p → c.head ≡ p → (p % 32 ≡ 30 → ⊥) → Yields r (act.PopSwap p b) (record c { head = (p + 1) % 2 ^ 64 }, record { action = act.PopWait p b; mark = mark.Take; ending = None })
  wins p b w e ne =
      let m = words_of.head_met c r queue s d p w e in
      let h = head_small in
      let at = words_of.head_at c r queue s d p w in
      let n = m.1 in
      let low : p + 1 < 2 ^ 64 = omega arith in
      let inner : p % 32 < 30 = ⊎_elim (λ g. g) (λ g. absurd (ne (omega arith))) (cases_lt (p % 32) 30) in (
        record r { head = r.head + 1; head_turns = false },
        words_of.words_only c r queue s d r.all (r.head + 1) false r.tail r.tail_turns r.closed r.first ((p + 1) % 2 ^ 64) c.tail c.head_block (mod-eq_of_lt low ∙ (omega arith)) d.tail d.head_block,
        popping (pop_wins refl n m.0 (λ q. ne (sym (head_offset p w) ∙ q))),
        w,
      )

  wins_edge : (p b : ℕ) → IsHeadAt p → c.head ≡ p → p % 32 ≡ 30 → Yields r (act.PopSwap p b) (record c { head = (p + 1) % 2 ^ 64 }, record { action = act.PopNext p b; mark = mark.Take; ending = None })
  wins_edge p b w e ed =
      let m = words_of.head_met c r queue s d p w e in
      let h = head_small in
      let n = m.1 in
      let low : p + 1 < 2 ^ 64 = omega arith in (
        record r { head = r.head + 1; head_turns = true },
        words_of.words_only c r queue s d r.all (r.head + 1) true r.tail r.tail_turns r.closed r.first ((p + 1) % 2 ^ 64) c.tail c.head_block (mod-eq_of_lt low ∙ (omega arith)) d.tail d.head_block,
        popping (pop_wins_edge refl n m.0 (head_offset p w ∙ ed)),
        w,
      )

  pub at-pop_swap : (p b : ℕ) → IsHeadAt p → Yields r (act.PopSwap p b) (swap_head c p b)
  at-pop_swap p b w = choose (λ y. Yields r (act.PopSwap p b) y) (c.head == p)
      (λ e. choose (λ a. Yields r (act.PopSwap p b) (record c { head = (p + 1) % 2 ^ 64 }, record { action = a; mark = mark.Take; ending = None })) (p % 32 == 30)
      (λ q. wins_edge p b w (is_eq c.head p e) (is_eq (p % 32) 30 q))
      (λ q. wins p b w (is_eq c.head p e) (not_eq (p % 32) 30 q)))
      (λ e. (r, d, popping (pop_loses refl (words_of.head_lost c r queue s d p w (not_eq c.head p e))), tt))

  -- who still counts a read of a block works on a live one
  uncounted : (k : ℕ) → 1 ≤ owed r (count k) → (r.block k).retired ≡ false
  uncounted k mine = let t = taken_all r.head k in by_bool (r.block k).retired (λ f. f) (λ f. absurd (let z = s.retired k f in omega arith))

  pub at-pop_next : (p b : ℕ) → IsHeadAt p → KnowsBlocks r (act_of (act.PopNext p b)) u → 1 ≤ owed r (count (number p / 31)) → Yields r (act.PopNext p b) (load_next c p b)
  at-pop_next p b w f mine =
      let k : ℕ = number p / 31 in
      let it = f.1.4 in
      let x = d.used k it.0 (uncounted k mine) in
      let next : (block_at c b).next ≡ (if (r.block k).linked then r.num (k + 1) + 1 else 0) = subst (λ (z : ℕ). (block_at c z).next ≡ (if (r.block k).linked then r.num (k + 1) + 1 else 0)) (sym it.1) x.next in
      choose (λ y. Yields r (act.PopNext p b) (c, y)) ((block_at c b).next == 0)
      (λ e. (let z = is_eq (block_at c b).next 0 e in
      (r, d, popping (next_waits refl (by_bool (r.block k).linked (λ g. g) (λ g. absurd (let q : (block_at c b).next ≡ r.num (k + 1) + 1 = rw g at next in omega arith)))), w)))
      (λ e. (let z = not_eq (block_at c b).next 0 e in
      let l : (r.block k).linked ≡ true = by_bool (r.block k).linked (λ g. absurd (z (rw g at next))) (λ g. g) in
      let q : (block_at c b).next ≡ r.num (k + 1) + 1 = rw l at next in
      (r, d, popping (next_found refl l (omega arith)), (w, omega arith))))

  pub at-pop_block : (p b n : ℕ) → IsHeadAt p → 1 ≤ n → KnowsBlocks r (act_of (act.PopBlock p b n)) u → Yields r (act.PopBlock p b n) (store_head_block c p b n)
  at-pop_block p b n w some f =
      let e : n ≡ r.num (number p / 31 + 1) + 1 = (let q = f.7 in omega arith) in
      let at : r.num (number p / 31 + 1) ≡ r.num (r.first + 1 - 1) = ap r.num (let q = f.5 in omega arith) in (
        record r { first = r.first + 1 },
        words_of.words_only c r queue s d r.all r.head r.head_turns r.tail r.tail_turns r.closed (r.first + 1) c.head c.tail n d.head d.tail (inr (omega arith, e ∙ ap (λ (z : ℕ). z + 1) at)),
        popping (blocks refl),
        w,
      )

  pub at-pop_head : (p b : ℕ) → IsHeadAt p → KnowsBlocks r (act_of (act.PopHead p b)) u → Yields r (act.PopHead p b) (store_head c p b)
  at-pop_head p b w f =
      let h = head_small in
      let ed : number p % 31 ≡ 30 = f.2 in
      let at : r.head ≡ number p + 1 = f.3 in
      let low : p + 2 < 2 ^ 64 = omega arith in (
        record r { head_turns = false },
        words_of.words_only c r queue s d r.all r.head false r.tail r.tail_turns r.closed r.first ((p + 2) % 2 ^ 64) c.tail c.head_block (mod-eq_of_lt low ∙ (omega arith)) d.tail d.head_block,
        popping (heads refl),
        w,
      )

  pub at-pop_wait : (p b : ℕ) → IsHeadAt p → KnowsBlocks r (act_of (act.PopWait p b)) u → 1 ≤ owed r (count (number p / 31)) → Yields r (act.PopWait p b) (wait_written c p b)
  at-pop_wait p b w f mine =
      let n : ℕ = number p in
      let k : ℕ = number p / 31 in
      let it = f.1.4 in
      let x = d.used k it.0 (uncounted k mine) in
      let here : slice_index (block_at c b).written (p % 32) ≡ one_if (r.cell n).written = subst (λ (z : ℕ). slice_index (block_at c z).written (p % 32) ≡ one_if (r.cell n).written) (sym it.1)
      (index_get (block_at c (r.num k)).written (p % 32) (one_if (r.cell n).written) (x.written (p % 32) w ∙ ap (λ (m : ℕ). Some (one_if (r.cell m).written)) (head_place p w))) in
      let is : (slice_index (block_at c b).written (p % 32) == 1) ≡ (r.cell n).written = ap (λ (z : ℕ). z == 1) here ∙ one_bit (r.cell n).written in
      choose (λ y. Yields r (act.PopWait p b) (c, y)) (slice_index (block_at c b).written (p % 32) == 1)
      (λ e. (r, d, popping (wait_found refl (sym is ∙ e)), w))
      (λ e. (r, d, popping (wait_waits refl (sym is ∙ e)), w))

  pub at-pop_take : (p b : ℕ) → IsHeadAt p → KnowsBlocks r (act_of (act.PopTake p b)) u → 1 ≤ owed r (count (number p / 31)) → Yields r (act.PopTake p b) (take_message c p b)
  at-pop_take p b w f mine =
      let n : ℕ = number p in
      let k : ℕ = number p / 31 in
      let it = f.1.4 in
      let v = f.0 in
      let full : (r.cell n).slot ≡ Some v = f.1.5 f.2 in
      let alive = uncounted k mine in
      let x = d.used k it.0 alive in
      let found : slot_at c (slot.In b (p % 32)) ≡ Some v = subst (λ (z : ℕ). slot_at c (slot.In z (p % 32)) ≡ Some v) (sym it.1)
      (index_or_get (block_at c (r.num k)).slots (p % 32) (Some v) None (x.slots (p % 32) w ∙ (ap (λ (m : ℕ). Some (r.cell m).slot) (head_place p w) ∙ ap Some full))) in
      subst (λ (o : Option T). Yields r (act.PopTake p b) (words.write_slot c (slot.In b (p % 32)) None, stays (after_take p b o))) (sym found)
      (with_cell r n (record { written = true; slot = None }), slot_words c r queue s d u small n (p % 32) b (record { written = true; slot = None }) w (head_place p w) it.0 it.1 alive (sym f.2), popping (takes full refl), w)

  count_block : (k : ℕ) (y : words.BlockCells T) → IsBlock r k y → (r.block k).reads < 31 → IsBlock (counted r k) k (with_reads y ((y.reads + 1) % 2 ^ 64))
  count_block k y b low =
      let blk : BlockState = record { linked = (r.block k).linked; reads = (r.block k).reads + 1; retired = (r.block k).retired } in
      let here = pick_here k k blk (r.block k) refl in
      record {
        next = b.next ∙ sym (ap (λ (z : BlockState). if z.linked then r.num (k + 1) + 1 else 0) here);
        reads = (let e = b.reads in mod-eq_of_lt (omega arith) ∙ (ap (λ (z : ℕ). z + 1) e ∙ sym (ap (λ (z : BlockState). z.reads) here)));
        written = b.written;
        slots = b.slots;
      }

  pub at-pop_count : (p b : ℕ) (v : T) → IsHeadAt p → KnowsBlocks r (act_of (act.PopCount p b v)) u → 1 ≤ owed r (count (number p / 31)) → Yields r (act.PopCount p b v) (count_read c p b v)
  at-pop_count p b v w f mine =
      let k : ℕ = number p / 31 in
      let it = f.3 in
      let alive = uncounted k mine in
      let x = d.used k it.0 alive in
      let t = taken_all r.head k in
      let low : (r.block k).reads < 31 = omega arith in
      let blk : BlockState = record { linked = (r.block k).linked; reads = (r.block k).reads + 1; retired = (r.block k).retired } in
      let left : Denotes (words.with_block c b (with_reads (block_at c b) (((block_at c b).reads + 1) % 2 ^ 64))) (counted r k) =
      subst (λ (z : ℕ). Denotes (words.with_block c z (with_reads (block_at c z) (((block_at c z).reads + 1) % 2 ^ 64))) (counted r k)) (sym it.1)
      (retire.block_words c r queue s d k it.0 alive blk (with_reads (block_at c (r.num k)) (((block_at c (r.num k)).reads + 1) % 2 ^ 64)) alive (count_block k (block_at c (r.num k)) x low)) in
      let reads : (block_at c b).reads ≡ (r.block k).reads = subst (λ (z : ℕ). (block_at c z).reads ≡ (r.block k).reads) (sym it.1) x.reads in
      choose (λ y. Yields r (act.PopCount p b v) (words.with_block c b (with_reads (block_at c b) (((block_at c b).reads + 1) % 2 ^ 64)), y)) ((block_at c b).reads == 30)
      (λ e. (counted r k, left, popping (counts_last refl (sym reads ∙ is_eq (block_at c b).reads 30 e)), w))
      (λ e. (counted r k, left, popping (counts refl (λ q. not_eq (block_at c b).reads 30 e (reads ∙ q))), tt))

  pub at-pop_retire : (p b : ℕ) (v : T) → IsHeadAt p → KnowsBlocks r (act_of (act.PopRetire p b v)) u → 1 ≤ owed r (duty.retire (number p / 31)) → Yields r (act.PopRetire p b v) (retire_block c b v)
  at-pop_retire p b v w f mine =
      let k : ℕ = number p / 31 in
      let it = f.3 in
      let q = both ((r.block k).reads == 31) (not (r.block k).retired) (one_is ((r.block k).reads == 31 && not (r.block k).retired) mine) in
      let alive = unnot (r.block k).retired q.1 in
      let at : r.spot b ≡ used k = ap r.spot it.1 ∙ s.live k it.0 alive in
      let shut : BlockState = record { linked = (r.block k).linked; reads = 31; retired = true } in
      (with_spot (with_block r k shut) b spare, retire.retire_words c r queue s d k b at shut refl, popping (retires refl), tt)

  -- closing, and the questions
  shut_same : r.closed ≡ true → bit_or c.tail 1 ≡ c.tail
  shut_same k = let e = is_eq (c.tail % 2) 1 (words_of.closed_is c r queue s d ∙ k) in let o = or_one c.tail in omega arith

  shut_now : r.closed ≡ false → bit_or c.tail 1 ≡ 2 * position r.tail r.tail_turns + 1
  shut_now k = let e : c.tail ≡ 2 * position r.tail r.tail_turns + 0 = rw k at d.tail in let o = or_one c.tail in omega arith

  pub at-close : Yields r act.Close (close_tail c)
  at-close = choose (λ y. Yields r act.Close (record c { tail = bit_or c.tail 1 }, y)) (c.tail % 2 == 1)
      (λ e. (let k = sym (words_of.closed_is c r queue s d) ∙ e in
      (r, subst (λ (t : ℕ). Denotes (record c { tail = t }) r) (sym (shut_same k)) d, asking (closed_before refl k), tt)))
      (λ e. (let k = sym (words_of.closed_is c r queue s d) ∙ e in
      (record r { closed = true }, words_of.words_only c r queue s d r.all r.head r.head_turns r.tail r.tail_turns true r.first c.head (bit_or c.tail 1) c.head_block d.head (shut_now k) d.head_block, asking (closes refl k), tt)))

  pub at-ask_closed : Yields r act.AskClosed (ask_tail c)
  at-ask_closed = (r, d, asking (tells_closed refl (sym (words_of.closed_is c r queue s d))), tt)

  pub at-ask_empty : Yields r act.AskEmpty (empty_load_head c)
  at-ask_empty = (r, d, asking (empty_loads refl (words_of.head_number_is c r queue s d)), tt)

  pub at-empty_tail : (p : ℕ) → Yields r (act.EmptyTail p) (empty_load_tail c p)
  at-empty_tail p = by_bool (number (c.tail / 2) == number p)
      (λ e. subst (λ (b : Bool). Yields r (act.EmptyTail p) (c, tells (reply.Flag b))) (sym e) (r, d, asking (empty_denies refl (λ q. not_eq (number (c.tail / 2)) (number p) e (words_of.tail_number_is c r queue s d ∙ q))), tt))
      (λ e. subst (λ (b : Bool). Yields r (act.EmptyTail p) (c, tells (reply.Flag b))) (sym e) (r, d, asking (empty_tells refl (tail_same p (is_eq (number (c.tail / 2)) (number p) e))), tt))

  pub at-ask_full : Yields r act.AskFull (c, tells (reply.Flag false))
  at-ask_full = (r, d, asking (tells_full refl), tt)

  pub at-ask_len : Yields r act.AskLen (len_load_tail c)
  at-ask_len = (r, d, asking (len_loads refl d.tail), tt)

  pub at-len_head : (t : ℕ) → Yields r (act.LenHead t) (len_load_head c t)
  at-len_head t = (r, d, asking (len_looks refl (words_of.head_number_is c r queue s d)), tt)

  pub at-len_tail : (t p : ℕ) → Yields r (act.LenTail t p) (len_again c t p)
  at-len_tail t p = choose (λ y. Yields r (act.LenTail t p) (c, y)) (c.tail == t)
      (λ e. (r, d, asking (len_tells refl (sym d.tail ∙ is_eq c.tail t e) refl), tt))
      (λ e. (r, d, asking (len_back refl (λ q. not_eq c.tail t e (d.tail ∙ q))), tt))

  pub at-ask_capacity : Yields r act.AskCapacity (c, tells (reply.Cap None))
  at-ask_capacity = (r, d, asking (tells_capacity refl), tt)
