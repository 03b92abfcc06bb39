-- Every step of an unbounded queue's call keeps what the queue means.
use Rattle.std.proofs.Common.{◌≡◌, ℕ, ◌-◌, ◌/◌, ◌<◌, ◌≤◌, ⊎_elim, true, Option, None, Some, refl, sym, ap, ◌∙◌, subst, arith}
use Rattle.std.proofs.lemmas.Bool.{cases_lt}
use Rattle.concurrent_queue.specs.machine.BlocksState.{Blocks, SoundBlocks, held, Duty, fill, take, count, retire, link, turn_tail, turn_head, start, keep, owed, with_spot}
use Rattle.concurrent_queue.specs.machine.BlocksCalls.{Act, push, push_return, push_look, push_make, push_first, push_more, push_swap, push_give, pop, pop_look, pop_tail, pop_swap, pop_next, pop_wait, pop_take, finished, AtTail, TailBlock, AtHead, HeadBlock, KnowsBlocks, holding, owes}
use Rattle.concurrent_queue.specs.machine.BlocksMoves.{Moves, push_opens, push_stays, push_shut, push_shut_held, push_returns, look_none, look_none_held, look_more, look_ready, makes, makes_more, refused, refused_more, first_wins, first_loses, starts, starts_more, swap_wins, swap_wins_edge, swap_loses, turns, adds, links, puts, stores, stores_held, gives, pop_loads, pop_stays, pop_looks_none, pop_looks, pop_empty, pop_shut, pop_back, pop_goes, pop_wins, pop_wins_edge, pop_loses, next_waits, next_found, blocks, heads, wait_waits, wait_found, takes, counts, counts_last, retires, closes, closed_before, tells_closed, empty_loads, empty_tells, empty_denies, tells_full, len_loads, len_looks, len_tells, len_back, tells_capacity, StandsBlocks, BlocksKept, seeking, bringing, popping, asking}
use Rattle.concurrent_queue.specs.Queue.{Queue, Phase, trying, seen_after}
use Rattle.concurrent_queue.proofs.BlocksKeeps as keep
use Rattle.concurrent_queue.proofs.BlocksAsks as asks
use Rattle.concurrent_queue.proofs.BlocksPhases as phase
use Rattle.concurrent_queue.proofs.Refusing.{open_refuses}
use Rattle.concurrent_queue.proofs.BlocksSteps.{by_eq, pick_here, taken_all}
use Rattle.concurrent_queue.proofs.BlocksLater.{same_is}
use Rattle.concurrent_queue.proofs.BlocksOthers.{same_self}
use Rattle.concurrent_queue.specs.declared.call.QueueMark.{QueueMark}
use Rattle.concurrent_queue.specs.declared.unbounded.ending.Ending.{Ending}

holding_none : (d : Duty) → holding None d ≡ 0
holding_none (fill n) = refl
holding_none (take n) = refl
holding_none (count n) = refl
holding_none (retire n) = refl
holding_none (link n) = refl
holding_none turn_tail = refl
holding_none turn_head = refl
holding_none start = refl
holding_none (keep b) = refl

module _ {T : Type 0} (r : Blocks T) (now : Queue T) (s : SoundBlocks r now.items) (st : StandsBlocks r now) (u : Phase T) where
  -- the block that tail_block shows is the tail's, if the tail is still where it was read
  shown : (n b : ℕ) → AtTail r n → 1 ≤ r.last → b ≡ r.num (r.last - 1) → TailBlock r n b
  shown n b k l e = (l, λ t. e ∙ ap r.num (⊎_elim (λ h. omega arith) (λ h. absurd (omega (arith, h.0))) (s.last (k.1 t))))

  shown_head : (n b : ℕ) → AtHead r n → 1 ≤ r.first → b ≡ r.num (r.first - 1) → HeadBlock r n b
  shown_head n b k l e = (l, λ t. e ∙ ap r.num (⊎_elim (λ h. omega arith) (λ h. absurd (omega (arith, h.0))) (s.first (k.1 t))))

  got : (h : ℕ) → (with_spot r h held).spot h ≡ held
  got h = pick_here h h held (r.spot h) refl

  one_left : (n m : ℕ) → m / 31 ≡ n / 31 → (r.block (n / 31)).reads ≡ 30 → 1 ≤ owed r (count (n / 31)) → owed r (count (m / 31)) ≡ 1
  one_left n m q z mine = let t = taken_all r.head (n / 31) in subst (λ (k : ℕ). owed r (count k) ≡ 1) (sym q) (omega (arith, mine, t))

  below : (n : ℕ) → n ≤ r.head → (r.tail ≡ n → ⊥) → n < r.tail
  below n h ne = let o = s.order in by_eq r.tail n (λ e. absurd (ne e)) (λ z. ⊎_elim (λ g. g) (λ g. absurd (z (omega arith))) (cases_lt n r.tail))

  pub blocks_keeps : {a : Act T} {r' : Blocks T} {a' : Act T} {k : QueueMark} {x : Option (Ending T)} → Moves r a r' a' k x → KnowsBlocks r a u → ((d : Duty) → owes a d ≤ owed r d)
      → ((m : ℕ) → owes a (count (m / 31)) ≡ 1 → owes a (take m) ≡ 0 → owed r (count (m / 31)) ≡ 1 → owed r (take m) ≡ 0) → BlocksKept r now a u r' a' k x
  blocks_keeps (seeking (push_opens {v = v} {h = h} {n = n} {r' = r'} e c t o)) f mine dry = keep.quiet r now s st u (push v h) r' (push_look v n h) None e (λ d. refl) (keep.still r now s st u f.1.0, keep.send_goes r now s st u v f.0 f.1, (f.0, ap trying (open_refuses f.1.0 now (sym st.closed ∙ c) st.capacity), f.2, (omega arith, λ g. o)))
  blocks_keeps (seeking (push_stays {v = v} {h = h} {r' = r'} e z)) f mine dry = keep.quiet r now s st u (push v h) r' (push v h) None e (λ d. refl) (keep.still r now s st u f.1.0, keep.send_goes r now s st u v f.0 f.1, (f.0, (seen_after f.1.0 now, refl), f.2))
  blocks_keeps (seeking (push_shut {v = v} {r' = r'} e c)) f mine dry = keep.quiet r now s st u (push v None) r' finished _ e (λ d. sym (holding_none d)) (phase.shut_answers now u.ask u.stage v f.1.0 f.0 f.1.1 (sym st.closed ∙ c), refl)
  blocks_keeps (seeking (push_shut_held {v = v} {h = h} {r' = r'} e c)) f mine dry = keep.quiet r now s st u (push v (Some h)) r' (push_return v h) None e (λ d. refl) (keep.still r now s st u f.1.0, keep.send_goes r now s st u v f.0 f.1, (f.0, (seen_after f.1.0 now, refl), f.2, c))
  blocks_keeps (seeking (push_returns {v = v} {h = h} {r' = r'} e)) f mine dry = keep.at-gives r now s st u (push_return v h) h _ r' e (λ d. refl) f.2 (phase.shut_answers now u.ask u.stage v f.1.0 f.0 f.1.1 (sym st.closed ∙ f.3))
  blocks_keeps (seeking (look_none {v = v} {n = n} {r' = r'} e z)) f mine dry = keep.quiet r now s st u (push_look v n None) r' (push_make v n) None e (λ d. sym (holding_none d)) (keep.still r now s st u true, keep.send_goes r now s st u v f.0 (true, f.1), (f.0, refl, f.3))
  blocks_keeps (seeking (look_none_held {v = v} {n = n} {h = h} {r' = r'} e z)) f mine dry = keep.quiet r now s st u (push_look v n (Some h)) r' (push_first v n h) None e (λ d. refl) (keep.still r now s st u true, keep.send_goes r now s st u v f.0 (true, f.1), (f.0, refl, f.2, f.3))
  blocks_keeps (seeking (look_more {v = v} {n = n} {b = b} {r' = r'} e l q)) f mine dry = keep.quiet r now s st u (push_look v n None) r' (push_more v n b) None e (λ d. sym (holding_none d)) (keep.still r now s st u true, keep.send_goes r now s st u v f.0 (true, f.1), (f.0, refl, f.3, shown n b f.3 l q))
  blocks_keeps (seeking (look_ready {v = v} {n = n} {b = b} {h = h} {r' = r'} e l q)) f mine dry = keep.quiet r now s st u (push_look v n h) r' (push_swap v n b h) None e (λ d. refl) (keep.still r now s st u true, keep.send_goes r now s st u v f.0 (true, f.1), (f.0, (true, refl), f.2, f.3, shown n b f.3 l q))
  blocks_keeps (seeking (makes {v = v} {n = n} {h = h} {r' = r'} e free)) f mine dry = keep.at-makes r now s st u (push_make v n) (push_first v n h) h r' e free (λ d. refl) (λ d. refl) (keep.still r now s st u true, keep.send_goes r now s st u v f.0 (true, f.1), (f.0, refl, got h, f.2))
  blocks_keeps (seeking (makes_more {v = v} {n = n} {b = b} {h = h} {r' = r'} e free)) f mine dry = keep.at-makes r now s st u (push_more v n b) (push_swap v n b (Some h)) h r' e free (λ d. refl) (λ d. refl) (keep.still r now s st u true, keep.send_goes r now s st u v f.0 (true, f.1), (f.0, (true, refl), got h, f.2, f.3))
  blocks_keeps (seeking (refused {v = v} {n = n} {r' = r'} e)) f mine dry = keep.quiet r now s st u (push_make v n) r' finished _ e (λ d. refl) (phase.refused_answers now u.ask u.stage v f.0 f.1 st.capacity, refl)
  blocks_keeps (seeking (refused_more {v = v} {n = n} {b = b} {r' = r'} e)) f mine dry = keep.quiet r now s st u (push_more v n b) r' finished _ e (λ d. refl) (phase.refused_answers now u.ask u.stage v f.0 f.1 st.capacity, refl)
  blocks_keeps (seeking (first_wins {v = v} {n = n} {h = h} {r' = r'} e z)) f mine dry = keep.at-first_wins r now s st u v n h r' e z f
  blocks_keeps (seeking (first_loses {v = v} {n = n} {h = h} {r' = r'} e z)) f mine dry = keep.quiet r now s st u (push_first v n h) r' (push v (Some h)) None e (λ d. refl) (keep.still r now s st u true, keep.send_goes r now s st u v f.0 (true, f.1), (f.0, (true, refl), f.2))
  blocks_keeps (seeking (starts {v = v} {n = n} {b = b} {r' = r'} e)) f mine dry = keep.at-starts r now s st u v n b r' (push_swap v n b None) e holding_none f (keep.still r now s st u true, keep.send_goes r now s st u v f.0 (true, f.1), (f.0, (true, refl), tt, f.2, f.3))
  blocks_keeps (seeking (starts_more {v = v} {n = n} {b = b} {r' = r'} e)) f mine dry = keep.at-starts r now s st u v n b r' (push_more v n b) e (λ d. refl) f (keep.still r now s st u true, keep.send_goes r now s st u v f.0 (true, f.1), (f.0, refl, f.2, f.3))
  blocks_keeps (seeking (swap_wins {v = v} {n = n} {b = b} {h = h} {r' = r'} e t o c ne)) f mine dry = keep.at-swap_wins r now s st u v n b h r' e t o c ne f
  blocks_keeps (seeking (swap_wins_edge {v = v} {n = n} {b = b} {h = h} {r' = r'} e t o c ed)) f mine dry = keep.at-swap_wins_edge r now s st u v n b h r' e t o c ed f
  blocks_keeps (seeking (swap_loses {v = v} {n = n} {b = b} {h = h} {r' = r'} e z)) f mine dry = keep.quiet r now s st u (push_swap v n b h) r' (push v h) None e (λ d. refl) (keep.still r now s st u f.1.0, keep.send_goes r now s st u v f.0 f.1, (f.0, (seen_after f.1.0 now, refl), f.2))
  blocks_keeps (bringing (turns {v = v} {n = n} {b = b} {h = h} {r' = r'} e)) f mine dry = keep.at-turns r now s st u v n b h r' e f
  blocks_keeps (bringing (adds {v = v} {n = n} {b = b} {h = h} {r' = r'} e)) f mine dry = keep.at-adds r now s st u v n b h r' e f
  blocks_keeps (bringing (links {v = v} {n = n} {b = b} {h = h} {r' = r'} e)) f mine dry = keep.at-links r now s st u v n b h r' e (let q = same_self (n / 31) in let m = mine (link (n / 31)) in omega arith) f
  blocks_keeps (bringing (puts {v = v} {n = n} {b = b} {h = h} {r' = r'} e)) f mine dry = keep.at-puts r now s st u v n b h r' e f
  blocks_keeps (bringing (stores {n = n} {b = b} {r' = r'} e)) f mine dry = keep.at-stores r now s st u n b None r' finished _ e (λ d. sym (holding_none d)) f (phase.sent_answers now u.ask u.stage f.0 f.1.0 f.1.1, refl)
  blocks_keeps (bringing (stores_held {n = n} {b = b} {h = h} {r' = r'} e)) f mine dry = keep.at-stores r now s st u n b (Some h) r' (push_give h) None e (λ d. refl) f (u, keep.sent_goes r now s st u f.0 f.1.0 f.1.1, (f.0, f.1.0, f.1.1, f.2))
  blocks_keeps (bringing (gives {h = h} {r' = r'} e)) f mine dry = keep.at-gives r now s st u (push_give h) h _ r' e (λ d. refl) f.3 (phase.sent_answers now u.ask u.stage f.0 f.1 f.2)
  blocks_keeps (popping (pop_loads {n = n} {r' = r'} e t o)) f mine dry = keep.quiet r now s st u pop r' (pop_look n) None e (λ d. refl) (keep.still r now s st u f.1.0, keep.pop_goes r now s st u f.0 f.1, (f.0, (seen_after f.1.0 now, refl), (omega arith, λ g. o)))
  blocks_keeps (popping (pop_stays {r' = r'} e z)) f mine dry = keep.quiet r now s st u pop r' pop None e (λ d. refl) (keep.still r now s st u f.1.0, keep.pop_goes r now s st u f.0 f.1, (f.0, (seen_after f.1.0 now, refl)))
  blocks_keeps (popping (pop_looks_none {n = n} {r' = r'} e z)) f mine dry = keep.quiet r now s st u (pop_look n) r' (pop_tail n None) None e (λ d. refl) (keep.still r now s st u f.1.0, keep.pop_goes r now s st u f.0 f.1, (f.0, (seen_after f.1.0 now, refl), f.2))
  blocks_keeps (popping (pop_looks {n = n} {b = b} {r' = r'} e l q)) f mine dry = keep.quiet r now s st u (pop_look n) r' (pop_tail n (Some b)) None e (λ d. refl) (keep.still r now s st u f.1.0, keep.pop_goes r now s st u f.0 f.1, (f.0, (seen_after f.1.0 now, refl), f.2, shown_head n b f.2 l q))
  blocks_keeps (popping (pop_empty {n = n} {b = None} {r' = r'} e t c)) f mine dry = keep.at-pop_empty r now s st u n None r' e t c f.2.0 f.0 f.1
  blocks_keeps (popping (pop_empty {n = n} {b = Some b} {r' = r'} e t c)) f mine dry = keep.at-pop_empty r now s st u n (Some b) r' e t c f.2.0 f.0 f.1
  blocks_keeps (popping (pop_shut {n = n} {b = None} {r' = r'} e t c)) f mine dry = keep.at-pop_shut r now s st u n None r' e t c f.2.0 f.0 f.1
  blocks_keeps (popping (pop_shut {n = n} {b = Some b} {r' = r'} e t c)) f mine dry = keep.at-pop_shut r now s st u n (Some b) r' e t c f.2.0 f.0 f.1
  blocks_keeps (popping (pop_back {n = n} {r' = r'} e z)) f mine dry = keep.quiet r now s st u (pop_tail n None) r' pop None e (λ d. refl) (keep.still r now s st u f.1.0, keep.pop_goes r now s st u f.0 f.1, (f.0, (seen_after f.1.0 now, refl)))
  blocks_keeps (popping (pop_goes {n = n} {b = b} {r' = r'} e ne)) f mine dry = keep.quiet r now s st u (pop_tail n (Some b)) r' (pop_swap n b) None e (λ d. refl) (keep.still r now s st u f.1.0, keep.pop_goes r now s st u f.0 f.1, (f.0, (seen_after f.1.0 now, refl), f.2, f.3, below n f.2.0 ne))
  blocks_keeps (popping (pop_wins {n = n} {b = b} {r' = r'} e t o ne)) f mine dry = keep.at-pop_wins r now s st u n b r' e t o ne f
  blocks_keeps (popping (pop_wins_edge {n = n} {b = b} {r' = r'} e t o ed)) f mine dry = keep.at-pop_wins_edge r now s st u n b r' e t o ed f
  blocks_keeps (popping (pop_loses {n = n} {b = b} {r' = r'} e z)) f mine dry = keep.quiet r now s st u (pop_swap n b) r' pop None e (λ d. refl) (keep.still r now s st u f.1.0, keep.pop_goes r now s st u f.0 f.1, (f.0, (seen_after f.1.0 now, refl)))
  blocks_keeps (popping (next_waits {n = n} {b = b} {r' = r'} e z)) f mine dry = keep.quiet r now s st u (pop_next n b) r' (pop_next n b) None e (λ d. refl) (u, keep.took_goes r now s st u f.0 f.1.0 f.1.1, f)
  blocks_keeps (popping (next_found {n = n} {b = b} {c = c} {r' = r'} e l q)) f mine dry = keep.at-next_found r now s st u n b c r' e l q f
  blocks_keeps (popping (blocks {n = n} {b = b} {c = c} {r' = r'} e)) f mine dry = keep.at-blocks r now s st u n b c r' e f
  blocks_keeps (popping (heads {n = n} {b = b} {r' = r'} e)) f mine dry = keep.at-heads r now s st u n b r' e f
  blocks_keeps (popping (wait_waits {n = n} {b = b} {r' = r'} e z)) f mine dry = keep.quiet r now s st u (pop_wait n b) r' (pop_wait n b) None e (λ d. refl) (u, keep.took_goes r now s st u f.0 f.1.0 f.1.1, f)
  blocks_keeps (popping (wait_found {n = n} {b = b} {r' = r'} e w)) f mine dry = keep.quiet r now s st u (pop_wait n b) r' (pop_take n b) None e (λ d. refl) (u, keep.took_goes r now s st u f.0 f.1.0 f.1.1, (f.0, f.1, w))
  blocks_keeps (popping (takes {n = n} {b = b} {d = d} {r' = r'} x e)) f mine dry = keep.at-takes r now s st u n b d r' x e (let q = same_self (n / 31) in let m = mine (count (n / 31)) in omega arith) f
  blocks_keeps (popping (counts {n = n} {b = b} {d = d} {r' = r'} e ne)) f mine dry = keep.at-counts r now s st u n b d r' e ne (let q = same_self (n / 31) in let m = mine (count (n / 31)) in omega arith) f
  blocks_keeps (popping (counts_last {n = n} {b = b} {d = d} {r' = r'} e z)) f mine dry =
      let one : 1 ≤ owed r (count (n / 31)) = (let q = same_self (n / 31) in let m = mine (count (n / 31)) in omega arith) in
      keep.at-counts_last r now s st u n b d r' e z one (λ m q. dry m (same_is (n / 31) (m / 31) q) refl (one_left n m q z one)) f
  blocks_keeps (popping (retires {n = n} {b = b} {d = d} {r' = r'} e)) f mine dry = keep.at-retires r now s st u n b d r' e (let q = same_self (n / 31) in let m = mine (retire (n / 31)) in omega arith) f
  blocks_keeps (asking (closes {r' = r'} e c)) f mine dry = asks.at-closes r now s st u r' e c f
  blocks_keeps (asking (closed_before {r' = r'} e c)) f mine dry = asks.at-closed_before r now s st u r' e c f
  blocks_keeps (asking (tells_closed {b = b} {r' = r'} e c)) f mine dry = asks.at-tells_closed r now s st u b r' e c f
  blocks_keeps (asking (empty_loads {n = n} {r' = r'} e h)) f mine dry = asks.at-empty_loads r now s st u n r' e h f
  blocks_keeps (asking (empty_tells {n = n} {r' = r'} e t)) f mine dry = asks.at-empty_tells r now s st u n r' e t f
  blocks_keeps (asking (empty_denies {n = n} {r' = r'} e t)) f mine dry = asks.at-empty_denies r now s st u n r' e t f
  blocks_keeps (asking (tells_full {r' = r'} e)) f mine dry = asks.at-tells_full r now s st u r' e f
  blocks_keeps (asking (len_loads {t = t} {r' = r'} e h)) f mine dry = asks.at-len_loads r now s st u t r' e h f
  blocks_keeps (asking (len_looks {t = t} {h = h} {r' = r'} e q)) f mine dry = asks.at-len_looks r now s st u t h r' e q f
  blocks_keeps (asking (len_tells {t = t} {h = h} {m = m} {r' = r'} e w q)) f mine dry = asks.at-len_tells r now s st u t h m r' e w q f
  blocks_keeps (asking (len_back {t = t} {h = h} {r' = r'} e ne)) f mine dry = asks.at-len_back r now s st u t h r' e f
  blocks_keeps (asking (tells_capacity {r' = r'} e)) f mine dry = asks.at-tells_capacity r now s st u r' e f
