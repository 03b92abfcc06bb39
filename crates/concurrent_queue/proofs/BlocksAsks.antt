-- Closing an unbounded queue, and its questions.
use Rattle.std.proofs.Common.{◌≡◌, ℕ, ◌+◌, ◌-◌, ◌*◌, ◌/◌, ◌%◌, ◌≤◌, ⊎_elim, Bool, true, false, List, [], length, Option, None, Some, refl, sym, ap, ◌∙◌, arith}
use Rattle.std.proofs.lemmas.Bool.{cases_lt}
use Rattle.concurrent_queue.specs.machine.BlocksState.{Blocks, SoundBlocks, Duty, fill, take, count, retire, link, turn_tail, turn_head, start, keep, owed, one_if, position, number, tail_word}
use Rattle.concurrent_queue.specs.machine.BlocksCalls.{close, ask_closed, ask_empty, empty_tail, ask_full, ask_len, len_head, len_tail, ask_capacity, finished, KnowsBlocks, owes}
use Rattle.concurrent_queue.specs.machine.BlocksMoves.{StandsBlocks, BlocksKept}
use Rattle.concurrent_queue.specs.Queue.{Queue, Phase, trying, read, measured, is_filled, is_full_at}
use Rattle.concurrent_queue.specs.declared.call.QueueMark.TheVariants as mark
use Rattle.concurrent_queue.specs.declared.call.QueueReply.TheVariants as reply
use Rattle.concurrent_queue.specs.declared.unbounded.ending.Ending.TheVariants as ending
use Rattle.concurrent_queue.proofs.BlocksBasics.{by_bool}
use Rattle.concurrent_queue.proofs.BlocksSteps.{drop_length, close_keeps}
use Rattle.concurrent_queue.proofs.BlocksLater.{later_close}
use Rattle.concurrent_queue.proofs.BlocksPhases as phase
use Rattle.concurrent_queue.proofs.BlocksKeeps as keep

-- the number of a position is the number that it stands for
pub number_rest : (n : ℕ) → number (position n false) ≡ n
number_rest n = omega arith

pub number_turn : (n : ℕ) → 31 ≤ n → n % 31 ≡ 0 → number (position n true) ≡ n
number_turn n h e = omega arith

pub half : (p : ℕ) (b : Bool) → (2 * p + one_if b) / 2 ≡ p
half p false = omega arith
half p true = omega arith

module _ {T : Type 0} (r : Blocks T) (now : Queue T) (s : SoundBlocks r now.items) (st : StandsBlocks r now) (u : Phase T) where
  pub tail_number : number (tail_word r / 2) ≡ r.tail
  tail_number =
      let h = half (position r.tail r.tail_turns) r.closed in
      ap number h ∙ by_bool r.tail_turns (λ f. rw f (number_rest r.tail)) (λ f. rw f (number_turn r.tail (s.paged f).1 (s.paged f).2))

  pub items_count : length now.items + r.head ≡ r.tail
  items_count =
      let q = s.all in let o = s.order in
      let len = drop_length r.all r.head (omega arith) in
      let l = ap (λ (xs : List T). length xs) s.items in omega arith

  no_items : r.tail ≤ r.head → now.items ≡ []
  no_items h = keep.nil_of now.items (omega (arith, items_count, h))

  unfilled : is_filled now ≡ false
  unfilled = ap (λ (c : Option ℕ). is_full_at c now.items) st.capacity

  close_owners : (d : Duty) → owes {T = T} finished d + owed r d ≡ owes {T = T} close d + owed (record r { closed = true }) d
  close_owners (fill n) = refl
  close_owners (take n) = refl
  close_owners (count n) = refl
  close_owners (retire n) = refl
  close_owners (link n) = refl
  close_owners turn_tail = refl
  close_owners turn_head = refl
  close_owners start = refl
  close_owners (keep b) = refl

  pub at-closes : (r' : Blocks T) → r' ≡ record r { closed = true } → r.closed ≡ false → KnowsBlocks r close u → BlocksKept r now close u r' finished mark.Close (Some (ending.Replied (reply.Close true)))
  at-closes r' e c k = rw e (record {
    stands = record { sound = close_keeps r now.items s; closed = refl; accepted = st.accepted; removed = st.removed; coming = st.coming; capacity = st.capacity };
    owners = close_owners;
    others = later_close r now.items s close;
    leaves = (phase.close_answers now u.ask u.stage k.1.0 k.0 k.1.1 (sym st.closed ∙ c), refl);
  })

  pub at-closed_before : (r' : Blocks T) → r' ≡ r → r.closed ≡ true → KnowsBlocks r close u → BlocksKept r now close u r' finished mark.Nothing (Some (ending.Replied (reply.Close false)))
  at-closed_before r' e c k = keep.quiet r now s st u close r' finished _ e (λ d. refl) (phase.closed_answers now u.ask u.stage k.1.0 k.0 k.1.1 (sym st.closed ∙ c), refl)

  pub at-tells_closed : (b : Bool) (r' : Blocks T) → r' ≡ r → r.closed ≡ b → KnowsBlocks r ask_closed u → BlocksKept r now ask_closed u r' finished mark.Nothing (Some (ending.Replied (reply.Flag b)))
  at-tells_closed b r' e c k = keep.quiet r now s st u ask_closed r' finished _ e (λ d. refl) (phase.is_closed_answers now u.ask u.stage k.1.0 b k.0 k.1.1 (sym st.closed ∙ c), refl)

  pub at-empty_loads : (n : ℕ) (r' : Blocks T) → r' ≡ r → n ≡ r.head → KnowsBlocks r ask_empty u → BlocksKept r now ask_empty u r' (empty_tail n) mark.Nothing None
  at-empty_loads n r' e h k = keep.quiet r now s st u ask_empty r' (empty_tail n) None e (λ d. refl)
      (record { ask = u.ask; stage = read n }, phase.empty_reads now u.ask u.stage k.1.0 n k.0 k.1.1 (h ∙ sym st.removed), (k.0, refl, omega arith))

  pub at-empty_tells : (n : ℕ) (r' : Blocks T) → r' ≡ r → r.tail ≡ n → KnowsBlocks r (empty_tail n) u → BlocksKept r now (empty_tail n) u r' finished mark.Nothing (Some (ending.Replied (reply.Flag true)))
  at-empty_tells n r' e t k = keep.quiet r now s st u (empty_tail n) r' finished _ e (λ d. refl) (phase.is_empty_answers now u.ask u.stage n k.0 k.1 (no_items (omega (arith, t, k.2))), refl)

  pub at-empty_denies : (n : ℕ) (r' : Blocks T) → r' ≡ r → (r.tail ≡ n → ⊥) → KnowsBlocks r (empty_tail n) u → BlocksKept r now (empty_tail n) u r' finished mark.Nothing (Some (ending.Replied (reply.Flag false)))
  at-empty_denies n r' e t k = keep.quiet r now s st u (empty_tail n) r' finished _ e (λ d. refl)
      (phase.not_empty_answers now u.ask u.stage n k.0 k.1 (let o = s.order in let a = st.accepted in let h = k.2 in ⊎_elim (λ g. omega arith) (λ g. absurd (t (omega arith))) (cases_lt n r.tail)), refl)

  pub at-tells_full : (r' : Blocks T) → r' ≡ r → KnowsBlocks r ask_full u → BlocksKept r now ask_full u r' finished mark.Nothing (Some (ending.Replied (reply.Flag false)))
  at-tells_full r' e k = keep.quiet r now s st u ask_full r' finished _ e (λ d. refl) (phase.is_full_answers now u.ask u.stage k.1.0 k.0 k.1.1 unfilled, refl)

  pub at-tells_capacity : (r' : Blocks T) → r' ≡ r → KnowsBlocks r ask_capacity u → BlocksKept r now ask_capacity u r' finished mark.Nothing (Some (ending.Replied (reply.Cap None)))
  at-tells_capacity r' e k = keep.quiet r now s st u ask_capacity r' finished _ e (λ d. refl) (phase.capacity_answers now u.ask u.stage k.1.0 k.0 k.1.1 st.capacity, refl)

  -- the length: the tail, then the head, then the tail again
  pub at-len_loads : (t : ℕ) (r' : Blocks T) → r' ≡ r → t ≡ tail_word r → KnowsBlocks r ask_len u → BlocksKept r now ask_len u r' (len_head t) mark.Nothing None
  at-len_loads t r' e h k =
      let n : number (t / 2) ≡ r.tail = ap (λ (w : ℕ). number (w / 2)) h ∙ tail_number in
      keep.quiet r now s st u ask_len r' (len_head t) None e (λ d. refl)
      (record { ask = u.ask; stage = read (number (t / 2)) }, phase.len_reads now u.ask u.stage k.1.0 (number (t / 2)) k.0 k.1.1 (n ∙ sym st.accepted), (k.0, refl, omega (arith, n)))

  pub at-len_looks : (t h : ℕ) (r' : Blocks T) → r' ≡ r → h ≡ r.head → KnowsBlocks r (len_head t) u → BlocksKept r now (len_head t) u r' (len_tail t h) mark.Nothing None
  at-len_looks t h r' e q k =
      let c = items_count in
      keep.quiet r now s st u (len_head t) r' (len_tail t h) None e (λ d. refl)
      (record { ask = u.ask; stage = measured (number (t / 2)) (length now.items) }, phase.len_measures now u.ask u.stage (number (t / 2)) k.0 k.1, (length now.items, k.0, refl, omega (arith, c, q, k.2), omega (arith, c, q)))

  pub at-len_tells : (t h m : ℕ) (r' : Blocks T) → r' ≡ r → tail_word r ≡ t → m ≡ number (t / 2) - h → KnowsBlocks r (len_tail t h) u → BlocksKept r now (len_tail t h) u r' finished mark.Nothing (Some (ending.Replied (reply.Count m)))
  at-len_tells t h m r' e w q k =
      let n : number (t / 2) ≡ r.tail = ap (λ (x : ℕ). number (x / 2)) (sym w) ∙ tail_number in
      keep.quiet r now s st u (len_tail t h) r' finished _ e (λ d. refl) (phase.len_answers now u.ask u.stage (number (t / 2)) k.0 m k.1 k.2 (omega (arith, q, n, k.3, k.4)) (st.accepted ∙ sym n), refl)

  pub at-len_back : (t h : ℕ) (r' : Blocks T) → r' ≡ r → KnowsBlocks r (len_tail t h) u → BlocksKept r now (len_tail t h) u r' ask_len mark.Nothing None
  at-len_back t h r' e k = keep.quiet r now s st u (len_tail t h) r' ask_len None e (λ d. refl) (record { ask = u.ask; stage = trying false }, phase.len_returns now u.ask u.stage (number (t / 2)) k.0 k.1 k.2, (k.1, (false, refl)))
