-- Each step of a call of an unbounded queue brings it nearer to its reply, where no other call owes anything.
use Rattle.std.proofs.Common.{◌≡◌, ℕ, ◌+◌, ◌/◌, ◌%◌, ◌<◌, ◌≤◌, ⊎_elim, Bool, true, false, ◌==◌, ◌||◌, ◌&&◌, not, nat_lt, List, Option, None, MatchOption, refl, sym, ap, ◌∙◌, arith}
use Rattle.std.proofs.lemmas.Bool.{false≢true}
use Rattle.std.proofs.lemmas.Bool.Decides.{nat_tests}
use Rattle.concurrent_queue.specs.machine.BlocksState.{Blocks, SoundBlocks, one_if, fill, link, turn_tail, turn_head, start, tail_word}
use Rattle.concurrent_queue.specs.machine.BlocksCalls.{Act, push, push_return, push_look, push_make, push_first, push_start, push_more, push_swap, push_turn, push_add, push_link, push_put, push_store, push_give, pop, pop_look, pop_tail, pop_swap, pop_next, pop_block, pop_head, pop_wait, pop_take, pop_count, pop_retire, close, ask_closed, ask_empty, empty_tail, ask_full, ask_len, len_head, len_tail, ask_capacity, finished, KnowsBlocks, owes}
use Rattle.concurrent_queue.specs.machine.BlocksMoves.{Moves, push_opens, push_stays, push_shut, push_shut_held, push_returns, look_none, look_none_held, look_more, look_ready, makes, makes_more, refused, refused_more, first_wins, first_loses, starts, starts_more, swap_wins, swap_wins_edge, swap_loses, turns, adds, links, puts, stores, stores_held, gives, pop_loads, pop_stays, pop_looks_none, pop_looks, pop_empty, pop_shut, pop_back, pop_goes, pop_wins, pop_wins_edge, pop_loses, next_waits, next_found, blocks, heads, wait_waits, wait_found, takes, counts, counts_last, retires, closes, closed_before, tells_closed, empty_loads, empty_tells, empty_denies, tells_full, len_loads, len_looks, len_tells, len_back, tells_capacity, seeking, bringing, popping, asking}
use Rattle.concurrent_queue.specs.machine.BlocksLeft.{tail_moved, head_moved, left, Quiet}
use Rattle.concurrent_queue.specs.Queue.{Phase}
use Rattle.concurrent_queue.specs.declared.call.QueueMark.{QueueMark}
use Rattle.concurrent_queue.specs.declared.unbounded.ending.Ending.{Ending}
use Rattle.concurrent_queue.proofs.BlocksSteps.{by_eq}
use Rattle.concurrent_queue.proofs.BlocksBasics.{by_bool}

ones : (b c : Bool) → b ≡ true → c ≡ true → one_if (b && c) ≡ 0 → ⊥
ones true true e f g = absurd (omega arith)
ones true false e f g = false≢true f
ones false c e f g = false≢true e

module _ {T : Type 0} (r : Blocks T) (queue : List T) (s : SoundBlocks r queue) (u : Phase T) where
  at_tail : (n : ℕ) → n ≡ r.tail → r.closed ≡ false → r.tail_turns ≡ false → tail_moved r n ≡ false
  at_tail n e c o = let q : (r.tail == n) ≡ true = grind (arith, nat_tests) in rw (q, c, o) refl

  off_tail : (n : ℕ) → (r.tail ≡ n → r.closed ≡ false → r.tail_turns ≡ false → ⊥) → tail_moved r n ≡ true
  off_tail n ne = by_eq r.tail n
      (λ e. let q : (r.tail == n) ≡ true = grind (arith, nat_tests) in by_bool r.closed (λ c. by_bool r.tail_turns (λ o. absurd (ne e c o)) (λ o. rw (q, c, o) refl)) (λ c. rw (q, c) refl))
      (λ z. let q : (r.tail == n) ≡ false = grind (arith, nat_tests) in rw q refl)

  at_head : (n : ℕ) → n ≡ r.head → r.head_turns ≡ false → head_moved r n ≡ false
  at_head n e o = let q : (r.head == n) ≡ true = grind (arith, nat_tests) in rw (q, o) refl

  off_head : (n : ℕ) → (r.head ≡ n → r.head_turns ≡ false → ⊥) → head_moved r n ≡ true
  off_head n ne = by_eq r.head n
      (λ e. let q : (r.head == n) ≡ true = grind (arith, nat_tests) in by_bool r.head_turns (λ o. absurd (ne e o)) (λ o. rw (q, o) refl))
      (λ z. let q : (r.head == n) ≡ false = grind (arith, nat_tests) in rw q refl)

  on_tail : (t : ℕ) → t ≡ tail_word r → not (tail_word r == t) ≡ false
  on_tail t e = let q : (tail_word r == t) ≡ true = grind (arith, nat_tests) in rw q refl

  past_tail : (t : ℕ) → (tail_word r ≡ t → ⊥) → not (tail_word r == t) ≡ true
  past_tail t ne = let q : (tail_word r == t) ≡ false = grind (arith, nat_tests) in rw q refl

  or_no : (b : Bool) → (b || false) ≡ b
  or_no false = refl
  or_no true = refl

  or_yes : (b : Bool) → (b || true) ≡ true
  or_yes false = refl
  or_yes true = refl

  push_turns : (h : Option ℕ) → Rattle.concurrent_queue.specs.machine.BlocksCalls.holding h turn_tail ≡ 0
  push_turns h = refl

  -- a page at rest, since nobody else turns it
  no_tail_turn : (a : Act T) → Quiet r a → owes a turn_tail ≡ 0 → r.tail_turns ≡ false
  no_tail_turn a q z = by_bool r.tail_turns (λ f. f) (λ f. absurd (let g : one_if true ≡ owes a turn_tail = rw f at q turn_tail refl in omega arith))

  no_head_turn : (a : Act T) → Quiet r a → owes a turn_head ≡ 0 → r.head_turns ≡ false
  no_head_turn a q z = by_bool r.head_turns (λ f. f) (λ f. absurd (let g : one_if true ≡ owes a turn_head = rw f at q turn_head refl in omega arith))

  -- where items are there, the first head_block is stored
  stored : (n : ℕ) → Quiet r (pop_tail n None) → (r.tail ≡ n → ⊥) → r.head ≡ n → (r.first ≡ 0 → ⊥)
  stored n q ne e z =
      let rest = no_tail_turn (pop_tail n None) q refl in
      let o = s.order in
      let more : 1 ≤ r.last = ⊎_elim (λ h. omega arith) (λ h. absurd (ne (omega (arith, h.1)))) (s.last rest) in
      let a : (r.first == 0) ≡ true = grind (arith, nat_tests) in
      let b : nat_lt 0 r.last ≡ true = grind (arith, nat_tests) in
      ones (r.first == 0) (nat_lt 0 r.last) a b (q start refl)

  linked_by_now : (n b : ℕ) → Quiet r (pop_next n b) → n % 31 ≡ 30 → r.head ≡ n + 1 → (r.block (n / 31)).linked ≡ false → ⊥
  linked_by_now n b q ed h l =
      let o = s.order in
      let low : n / 31 < r.tail / 31 = omega arith in
      let a : nat_lt (n / 31) (r.tail / 31) ≡ true = grind (arith, nat_tests) in
      ones (nat_lt (n / 31) (r.tail / 31)) (not (r.block (n / 31)).linked) a (ap not l) (q (link (n / 31)) refl)

  written_by_now : (n b : ℕ) → Quiet r (pop_wait n b) → n < r.head → (r.cell n).written ≡ false → ⊥
  written_by_now n b q h w =
      let o = s.order in
      let a : nat_lt n r.tail ≡ true = grind (arith, nat_tests) in
      ones (nat_lt n r.tail) (not (r.cell n).written) a (ap not w) (q (fill n) refl)

  zero_last : r.last ≡ 0 → (r.last == 0) ≡ true
  zero_last z = grind (arith, nat_tests)

  some_last : (r.last ≡ 0 → ⊥) → (r.last == 0) ≡ false
  some_last z = grind (arith, nat_tests)

  zero_first : r.first ≡ 0 → (r.first == 0) ≡ true
  zero_first z = grind (arith, nat_tests)

  some_first : (r.first ≡ 0 → ⊥) → (r.first == 0) ≡ false
  some_first z = grind (arith, nat_tests)

  pub nearer : {a : Act T} {r' : Blocks T} {a' : Act T} {k : QueueMark} {x : Option (Ending T)} → Moves r a r' a' k x → KnowsBlocks r a u → Quiet r a → MatchOption x (left r' a' < left r a) (λ y. Unit {0})
  nearer (seeking (push_opens {n = n} e c t o)) f q = rw (e, at_tail n t c o) (omega arith)
  nearer (seeking (push_stays {v = v} {h = h} e o)) f q = absurd (false≢true (sym (no_tail_turn (push v h) q (push_turns h)) ∙ o))
  nearer (seeking (push_shut e c)) f q = tt
  nearer (seeking (push_shut_held e c)) f q = omega arith
  nearer (seeking (push_returns e)) f q = tt
  nearer (seeking (look_none {n = n} e z)) f q = rw (e, zero_last z, or_no (tail_moved r n)) (omega arith)
  nearer (seeking (look_none_held {n = n} e z)) f q = rw (e, zero_last z, or_no (tail_moved r n)) (omega arith)
  nearer (seeking (look_more e l b)) f q = rw e (omega arith)
  nearer (seeking (look_ready e l b)) f q = rw e (omega arith)
  nearer (seeking (makes e free)) f q = rw e (omega arith)
  nearer (seeking (makes_more e free)) f q = rw e (omega arith)
  nearer (seeking (refused e)) f q = tt
  nearer (seeking (refused_more e)) f q = tt
  nearer (seeking (first_wins {n = n} e z)) f q = rw (e, zero_last z, or_no (tail_moved r n)) (omega arith)
  nearer (seeking (first_loses {n = n} e z)) f q = rw (some_last z, or_yes (tail_moved r n)) (omega arith)
  nearer (seeking (starts e)) f q = rw e (omega arith)
  nearer (seeking (starts_more e)) f q = rw e (omega arith)
  nearer (seeking (swap_wins e t o c ne)) f q = omega arith
  nearer (seeking (swap_wins_edge e t o c ed)) f q = omega arith
  nearer (seeking (swap_loses {v = v} {n = n} {b = b} {h = h} e ne)) f q = rw (off_tail n ne) (omega arith)
  nearer (bringing (turns e)) f q = omega arith
  nearer (bringing (adds e)) f q = omega arith
  nearer (bringing (links e)) f q = omega arith
  nearer (bringing (puts e)) f q = omega arith
  nearer (bringing (stores e)) f q = tt
  nearer (bringing (stores_held e)) f q = omega arith
  nearer (bringing (gives e)) f q = tt
  nearer (popping (pop_loads {n = n} e t o)) f q = rw (e, at_head n t o) (omega arith)
  nearer (popping (pop_stays e o)) f q = absurd (false≢true (sym (no_head_turn pop q refl) ∙ o))
  nearer (popping (pop_looks_none {n = n} e z)) f q = rw (e, zero_first z, or_no (head_moved r n)) (omega arith)
  nearer (popping (pop_looks e l b)) f q = rw e (omega arith)
  nearer (popping (pop_empty e t c)) f q = tt
  nearer (popping (pop_shut e t c)) f q = tt
  nearer (popping (pop_back {n = n} e ne)) f q = by_eq r.head n
      (λ h. rw (some_first (stored n q ne h), or_yes (head_moved r n)) (omega arith))
      (λ h. rw (off_head n (λ e o. h e)) (omega arith))
  nearer (popping (pop_goes e ne)) f q = rw e (omega arith)
  nearer (popping (pop_wins e t o ne)) f q = omega arith
  nearer (popping (pop_wins_edge e t o ed)) f q = omega arith
  nearer (popping (pop_loses {n = n} {b = b} e ne)) f q = rw (off_head n ne) (omega arith)
  nearer (popping (next_waits {n = n} {b = b} e l)) f q = absurd (linked_by_now n b q f.2 f.3 l)
  nearer (popping (next_found e l c)) f q = omega arith
  nearer (popping (blocks e)) f q = omega arith
  nearer (popping (heads e)) f q = omega arith
  nearer (popping (wait_waits {n = n} {b = b} e w)) f q = absurd (written_by_now n b q f.1.3 w)
  nearer (popping (wait_found e w)) f q = omega arith
  nearer (popping (takes x e)) f q = omega arith
  nearer (popping (counts e ne)) f q = tt
  nearer (popping (counts_last e z)) f q = omega arith
  nearer (popping (retires e)) f q = tt
  nearer (asking (closes e c)) f q = tt
  nearer (asking (closed_before e c)) f q = tt
  nearer (asking (tells_closed e c)) f q = tt
  nearer (asking (empty_loads e h)) f q = omega arith
  nearer (asking (empty_tells e h)) f q = tt
  nearer (asking (empty_denies e h)) f q = tt
  nearer (asking (tells_full e)) f q = tt
  nearer (asking (len_loads {t = t} e h)) f q = rw (e, on_tail t h) (omega arith)
  nearer (asking (len_looks e h)) f q = rw e (omega arith)
  nearer (asking (len_tells e w m)) f q = tt
  nearer (asking (len_back {t = t} e ne)) f q = rw (past_tail t ne) (omega arith)
  nearer (asking (tells_capacity e)) f q = tt
