-- What a call of an unbounded queue knows outlasts a step of another: the one lemma for all steps.
use Rattle.std.proofs.Common.{◌≡◌, ℕ, ◌+◌, ◌/◌, ◌<◌, ◌≤◌, ⊎_elim, Bool, true, false, ◌==◌, List, Option, None, Some, refl, sym, ap, ◌∙◌, arith}
use Rattle.std.proofs.lemmas.Bool.Decides.{nat_tests}
use Rattle.concurrent_queue.specs.machine.BlocksState.{Blocks, Cell, SoundBlocks, one_if, Duty, fill, take, turn_tail, turn_head, start, keep, owed}
use Rattle.concurrent_queue.specs.machine.BlocksCalls.{Act, push, push_return, push_look, push_make, push_first, push_start, push_more, push_swap, push_turn, push_add, push_link, push_put, push_store, push_give, pop, pop_look, pop_tail, pop_swap, pop_next, pop_block, pop_head, pop_wait, pop_take, pop_count, pop_retire, close, ask_closed, ask_empty, empty_tail, ask_full, ask_len, len_head, len_tail, ask_capacity, finished, Holds, AtTail, TailBlock, AtHead, HeadBlock, IsBlockOf, Fills, Takes, KnowsBlocks, same, owes}
use Rattle.concurrent_queue.specs.machine.BlocksMoves.{Later}
use Rattle.concurrent_queue.specs.Queue.{Phase}

pub eq_self : (n : ℕ) → (n == n) ≡ true
eq_self n = grind (arith, nat_tests)

pub same_self : (n : ℕ) → same n n ≡ 1
same_self n = rw (eq_self n) refl

pub at_most_one : (b : Bool) → one_if b ≤ 1
at_most_one false = omega arith
at_most_one true = omega arith

pub quit : (b : Bool) (x y : ℕ) → x + y ≤ one_if b → x ≡ 1 → y ≡ 0
quit b x y h e = omega (arith, h, at_most_one b)

module _ {T : Type 0} (r : Blocks T) (items : List T) (s : SoundBlocks r items) (r' : Blocks T) (a : Act T) (l : Later r r' a) where
  at_tail : (n : ℕ) → AtTail r n → AtTail r' n
  at_tail n k = (omega (arith, k.0, l.tail), λ e. (let here : r.tail ≡ n = omega (arith, k.0, l.tail) in l.tail_rests (e ∙ sym here) (k.1 here)))

  at_head : (n : ℕ) → AtHead r n → AtHead r' n
  at_head n k = (omega (arith, k.0, l.head), λ e. (let here : r.head ≡ n = omega (arith, k.0, l.head) in l.head_rests (e ∙ sym here) (k.1 here)))

  -- the tail's block has its ordinal in the chain
  pub tail_in : (n : ℕ) → r.tail ≡ n → r.tail_turns ≡ false → 1 ≤ r.last → n / 31 < r.last
  tail_in n e o some = ⊎_elim (λ h. omega arith) (λ h. absurd (omega (arith, h.0))) (s.last o)

  pub head_in : (n : ℕ) → r.head ≡ n → r.head_turns ≡ false → 1 ≤ r.first → n / 31 < r.last
  head_in n e o some = ⊎_elim (λ h. let q = s.inside in omega arith) (λ h. absurd (omega (arith, h.0))) (s.first o)

  tail_block : (n b : ℕ) → AtTail r n → TailBlock r n b → TailBlock r' n b
  tail_block n b k t = (omega (arith, t.0, l.last), λ e. (let here : r.tail ≡ n = omega (arith, k.0, l.tail) in t.1 here ∙ sym (l.num (n / 31) (tail_in n here (k.1 here) t.0))))

  head_block : (n b : ℕ) → AtHead r n → HeadBlock r n b → HeadBlock r' n b
  head_block n b k t = (omega (arith, t.0, l.first), λ e. (let here : r.head ≡ n = omega (arith, k.0, l.head) in t.1 here ∙ sym (l.num (n / 31) (head_in n here (k.1 here) t.0))))

  block_of : (n b : ℕ) → IsBlockOf r n b → IsBlockOf r' n b
  block_of n b k = (omega (arith, k.0, l.last), k.1 ∙ sym (l.num (n / 31) k.0))

  fills : (u : Phase T) (v : T) (n b : ℕ) (x : Option T) → owes a (fill n) ≡ 0 → Fills r u v n b x → Fills r' u v n b x
  fills u v n b x free f =
      let c = l.unwritten n free f.5 in
      (f.0, f.1, l.all n v f.2, omega (arith, f.3, l.tail), block_of n b f.4, ap (λ (y : Cell T). y.written) c ∙ f.5, ap (λ (y : Cell T). y.slot) c ∙ f.6)

  takes : (u : Phase T) (n b : ℕ) (d : T) → owes a (take n) ≡ 0 → Takes r u n b d → Takes r' u n b d
  takes u n b d free f = (f.0, f.1, l.all n d f.2, omega (arith, f.3, l.head), block_of n b f.4, l.filled n d free f.2 f.5)

  holding_keeps : (h : Option ℕ) → ((b : ℕ) → h ≡ Some b → owes a (keep b) ≡ 0) → Holds r h → Holds r' h
  holding_keeps None free k = tt
  holding_keeps (Some b) free k = l.holds b (free b refl) k

  no_keep : (q : Act T) (b : ℕ) → ((d : Duty) → owes q d + owes a d ≤ owed r d) → owes q (keep b) ≡ 1 → owes a (keep b) ≡ 0
  no_keep q b ne e = quit _ _ _ (ne (keep b)) e

  no_fill : (q : Act T) (n : ℕ) → ((d : Duty) → owes q d + owes a d ≤ owed r d) → owes q (fill n) ≡ 1 → owes a (fill n) ≡ 0
  no_fill q n ne e = quit _ _ _ (ne (fill n)) e

  no_take : (q : Act T) (n : ℕ) → ((d : Duty) → owes q d + owes a d ≤ owed r d) → owes q (take n) ≡ 1 → owes a (take n) ≡ 0
  no_take q n ne e = quit _ _ _ (ne (take n)) e

  no_turn : (q : Act T) → ((d : Duty) → owes q d + owes a d ≤ owed r d) → owes q turn_tail ≡ 1 → owes a turn_tail ≡ 0
  no_turn q ne e = quit _ _ _ (ne turn_tail) e

  no_turn_head : (q : Act T) → ((d : Duty) → owes q d + owes a d ≤ owed r d) → owes q turn_head ≡ 1 → owes a turn_head ≡ 0
  no_turn_head q ne e = quit _ _ _ (ne turn_head) e

  its_block : (h : Option ℕ) (b : ℕ) → h ≡ Some b → Rattle.concurrent_queue.specs.machine.BlocksCalls.holds h b ≡ 1
  its_block h b e = rw e (same_self b)

  pub later_keeps : (q : Act T) (u : Phase T) → ((d : Duty) → owes q d + owes a d ≤ owed r d) → KnowsBlocks r q u → KnowsBlocks r' q u
  later_keeps (push v h) u ne k = (k.0, k.1, holding_keeps h (λ b e. no_keep (push v h) b ne (its_block h b e)) k.2)
  later_keeps (push_return v h) u ne k = (k.0, k.1, l.holds h (no_keep (push_return v h) h ne (same_self h)) k.2, l.shut k.3)
  later_keeps (push_look v n h) u ne k = (k.0, k.1, holding_keeps h (λ b e. no_keep (push_look v n h) b ne (its_block h b e)) k.2, at_tail n k.3)
  later_keeps (push_make v n) u ne k = (k.0, k.1, at_tail n k.2)
  later_keeps (push_first v n h) u ne k = (k.0, k.1, l.holds h (no_keep (push_first v n h) h ne (same_self h)) k.2, at_tail n k.3)
  later_keeps (push_start v n b) u ne k = (k.0, k.1, at_tail n k.2, tail_block n b k.2 k.3, l.starts (quit _ _ _ (ne start) refl) (omega (arith, k.3.0)) k.4, k.5 ∙ sym (l.num 0 (omega (arith, k.3.0))))
  later_keeps (push_more v n b) u ne k = (k.0, k.1, at_tail n k.2, tail_block n b k.2 k.3)
  later_keeps (push_swap v n b h) u ne k = (k.0, k.1, holding_keeps h (λ x e. no_keep (push_swap v n b h) x ne (its_block h x e)) k.2, at_tail n k.3, tail_block n b k.3 k.4)
  later_keeps (push_turn v n b h) u ne k =
      let t = l.tail_turns (no_turn (push_turn v n b h) ne refl) k.4 in
      (fills u v n b None (no_fill (push_turn v n b h) n ne (same_self n)) k.0, l.holds h (no_keep (push_turn v n b h) h ne (same_self h)) k.1, k.2, t.0 ∙ k.3, t.1, t.2 ∙ k.5)
  later_keeps (push_add v n b h) u ne k =
      let t = l.tail_turns (no_turn (push_add v n b h) ne refl) k.3 in
      (fills u v n b None (no_fill (push_add v n b h) n ne (same_self n)) k.0, k.1, t.0 ∙ k.2, t.1, t.2 ∙ k.4, k.5 ∙ sym (l.num (n / 31 + 1) (omega (arith, k.4))))
  later_keeps (push_link v n b h) u ne k =
      (fills u v n b None (no_fill (push_link v n b h) n ne (same_self n)) k.0, k.1, omega (arith, k.2, l.last), k.3 ∙ sym (l.num (n / 31 + 1) k.2))
  later_keeps (push_put v n b h) u ne k =
      (fills u v n b None (no_fill (push_put v n b h) n ne (same_self n)) k.0, holding_keeps h (λ x e. no_keep (push_put v n b h) x ne (its_block h x e)) k.1)
  later_keeps (push_store n b h) u ne k =
      (k.0, fills u k.0 n b (Some k.0) (no_fill (push_store n b h) n ne (same_self n)) k.1, holding_keeps h (λ x e. no_keep (push_store n b h) x ne (its_block h x e)) k.2)
  later_keeps (push_give h) u ne k = (k.0, k.1, k.2, l.holds h (no_keep (push_give h) h ne (same_self h)) k.3)
  later_keeps pop u ne k = k
  later_keeps (pop_look n) u ne k = (k.0, k.1, at_head n k.2)
  later_keeps (pop_tail n None) u ne k = (k.0, k.1, at_head n k.2)
  later_keeps (pop_tail n (Some b)) u ne k = (k.0, k.1, at_head n k.2, head_block n b k.2 k.3)
  later_keeps (pop_swap n b) u ne k = (k.0, k.1, at_head n k.2, head_block n b k.2 k.3, omega (arith, k.4, l.tail))
  later_keeps (pop_next n b) u ne k =
      let t = l.head_turns (no_turn_head (pop_next n b) ne refl) k.4 in
      (k.0, takes u n b k.0 (no_take (pop_next n b) n ne (same_self n)) k.1, k.2, t.0 ∙ k.3, t.1, t.2 ∙ k.5)
  later_keeps (pop_block n b c) u ne k =
      let t = l.head_turns (no_turn_head (pop_block n b c) ne refl) k.4 in
      (k.0, takes u n b k.0 (no_take (pop_block n b c) n ne (same_self n)) k.1, k.2, t.0 ∙ k.3, t.1, t.2 ∙ k.5, omega (arith, k.6, l.last), k.7 ∙ sym (l.num (n / 31 + 1) k.6))
  later_keeps (pop_head n b) u ne k =
      let t = l.head_turns (no_turn_head (pop_head n b) ne refl) k.4 in
      (k.0, takes u n b k.0 (no_take (pop_head n b) n ne (same_self n)) k.1, k.2, t.0 ∙ k.3, t.1, t.2 ∙ k.5)
  later_keeps (pop_wait n b) u ne k = (k.0, takes u n b k.0 (no_take (pop_wait n b) n ne (same_self n)) k.1)
  later_keeps (pop_take n b) u ne k = (k.0, takes u n b k.0 (no_take (pop_take n b) n ne (same_self n)) k.1, l.written n k.2)
  later_keeps (pop_count n b d) u ne k = (k.0, k.1, omega (arith, k.2, l.head), block_of n b k.3)
  later_keeps (pop_retire n b d) u ne k = (k.0, k.1, omega (arith, k.2, l.head), block_of n b k.3)
  later_keeps close u ne k = k
  later_keeps ask_closed u ne k = k
  later_keeps ask_empty u ne k = k
  later_keeps (empty_tail n) u ne k = (k.0, k.1, omega (arith, k.2, l.head))
  later_keeps ask_full u ne k = k
  later_keeps ask_len u ne k = k
  later_keeps (len_head t) u ne k = (k.0, k.1, omega (arith, k.2, l.tail))
  later_keeps (len_tail t h) u ne k = (k.0, k.1, k.2, k.3, omega (arith, k.4, l.tail))
  later_keeps ask_capacity u ne k = k
  later_keeps finished u ne k = k
