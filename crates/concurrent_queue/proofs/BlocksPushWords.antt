-- The steps of a push on the words are steps on the numbers.
use Rattle.std.proofs.Common.{◌≡◌, ℕ, ◌+◌, ◌-◌, ◌*◌, ◌/◌, ◌%◌, ◌^◌, ◌<◌, ◌≤◌, ⊎_elim, true, false, if◌then◌else◌, ◌==◌, nat_le, List, Option, None, Some, slice_get, slice_set, refl, sym, ap, ◌∙◌, subst, inr, arith}
use Rattle.std.proofs.lemmas.Bool.{false≢true}
use Rattle.std.proofs.lemmas.Bool.Decides.{nat_tests}
use Rattle.std.proofs.Math.Nat.{mod-eq_of_lt}
use Rattle.concurrent_queue.specs.Contents.{Contents, block_at, is_vacant, can_put, with_slot, without_spare, spare_of}
use Rattle.concurrent_queue.specs.Contents as words
use Rattle.concurrent_queue.specs.Queue.{Phase}
use Rattle.concurrent_queue.specs.machine.BlocksState.{Blocks, Cell, BlockState, SoundBlocks, spare, held, one_if, position, number, with_cell, with_block, with_spot, chained}
use Rattle.concurrent_queue.specs.machine.BlocksCalls.{KnowsBlocks}
use Rattle.concurrent_queue.specs.machine.BlocksMoves.{extended, push_opens, push_stays, push_shut, push_shut_held, push_returns, look_none, look_none_held, look_more, look_ready, makes, makes_more, refused, refused_more, first_wins, first_loses, starts, starts_more, swap_loses, turns, adds, links, puts, stores, stores_held, gives, seeking, bringing}
use Rattle.concurrent_queue.specs.machine.BlocksDenotes.{Denotes, IsBlock, act_of, IsTailAt, IsProper}
use Rattle.concurrent_queue.specs.machine.BlocksWords.{Step, load_tail, when_shut, give_back, look_tail_block, look_first, look_with, Obtains, swap_first, start_head, swap_tail, after_swap, turn_tail_block, add_tail, link_next, put_message, store_written, give_spare}
use Rattle.concurrent_queue.specs.declared.call.QueueMark.TheVariants as mark
use Rattle.concurrent_queue.specs.declared.cells.Slot.TheVariants as slot
use Rattle.concurrent_queue.specs.declared.unbounded.action.UnboundedAction.TheVariants as act
use Rattle.concurrent_queue.proofs.BlocksBasics.{by_bool}
use Rattle.concurrent_queue.proofs.BlocksSteps.{by_eq, pick_here, pick_other}
use Rattle.concurrent_queue.proofs.BlocksDenote as words_of
use Rattle.concurrent_queue.proofs.BlocksRetire as retire
use Rattle.concurrent_queue.proofs.BlocksYields.{Yields, choose, is_eq, not_eq, some_none, set_get, set_get_other, tail_offset, tail_place, shows_none, shows_some, chain_word}

module _ {T : Type 0} (c : Contents T) (r : Blocks T) (queue : List T) (s : SoundBlocks r queue) (d : Denotes c r) (u : Phase T) (small : r.tail ≤ 2 ^ 61) where
  shut_case : (v : T) (h : Option ℕ) → r.closed ≡ true → Yields r (act.Push v h) (c, when_shut v h)
  shut_case v None k = (r, d, seeking (push_shut refl k), tt)
  shut_case v (Some h) k = (r, d, seeking (push_shut_held refl k), tt)

  tail_open : r.closed ≡ false → r.tail_turns ≡ false → IsTailAt c.tail
  tail_open o f = let e : c.tail ≡ 2 * position r.tail false + 0 = rw (f, o) at d.tail in (omega arith, omega arith)

  half_small : c.tail / 2 < 9223372036854775744
  half_small = let h = words_of.half_is c r queue s d in by_bool r.tail_turns
      (λ f. let p : c.tail / 2 ≡ position r.tail false = rw f at h in omega arith)
      (λ f. let p : c.tail / 2 ≡ position r.tail true = rw f at h in omega arith)

  not_ended : nat_le 9223372036854775744 (c.tail / 2) ≡ false
  not_ended = let h = half_small in grind (arith, nat_tests)

  pub at-push : (v : T) (h : Option ℕ) → Yields r (act.Push v h) (load_tail c v h)
  at-push v h = choose (λ y. Yields r (act.Push v h) (c, y)) (c.tail % 2 == 1)
      (λ e. shut_case v h (sym (words_of.closed_is c r queue s d) ∙ e))
      (λ e. choose (λ y. Yields r (act.Push v h) (c, y)) (nat_le 9223372036854775744 (c.tail / 2))
      (λ big. absurd (false≢true (sym not_ended ∙ big)))
      (λ low. choose (λ y. Yields r (act.Push v h) (c, y)) (c.tail / 2 % 32 == 31)
      (λ t. (r, d, seeking (push_stays refl (sym (words_of.tail_turns_is c r queue s d) ∙ t)), tt))
      (λ t. (let o = sym (words_of.closed_is c r queue s d) ∙ e in let f = sym (words_of.tail_turns_is c r queue s d) ∙ t in
      (r, d, seeking (push_opens refl o (words_of.tail_number_is c r queue s d) f), tail_open o f)))))

  pub at-push_return : (v : T) (h : ℕ) → KnowsBlocks r (act_of (act.PushReturn v h)) u → Yields r (act.PushReturn v h) (give_back c v h)
  at-push_return v h f = (with_spot r h spare, retire.give_words c r d h f.2 queue s, seeking (push_returns refl), tt)

  look_first_case : (v : T) (t : ℕ) (h : Option ℕ) → IsTailAt t → r.last ≡ 0 → Yields r (act.PushLook v t h) (c, look_first v t h)
  look_first_case v t None w z = (r, d, seeking (look_none refl z), w)
  look_first_case v t (Some h) w z = (r, d, seeking (look_none_held refl z), w)

  look_with_case : (v : T) (t b : ℕ) (h : Option ℕ) → IsTailAt t → 1 ≤ r.last → b ≡ r.num (r.last - 1) → Yields r (act.PushLook v t h) (c, look_with v t b h)
  look_with_case v t b (Some h) w l e = (r, d, seeking (look_ready refl l e), (w, λ g q. some_none q))
  look_with_case v t b None w l e = choose (λ y. Yields r (act.PushLook v t None) (c, y)) (t / 2 % 32 == 30)
      (λ g. (r, d, seeking (look_more refl l e), w))
      (λ g. (r, d, seeking (look_ready refl l e), (w, λ q z. not_eq (t / 2 % 32) 30 g q)))

  pub at-push_look : (v : T) (t : ℕ) (h : Option ℕ) → IsTailAt t → Yields r (act.PushLook v t h) (look_tail_block c v t h)
  at-push_look v t h w = choose (λ y. Yields r (act.PushLook v t h) (c, y)) (c.tail_block == 0)
      (λ e. look_first_case v t h w (shows_none c r d r.last c.tail_block d.tail_block (is_eq c.tail_block 0 e)))
      (λ e. (let q = shows_some c r d r.last c.tail_block d.tail_block (not_eq c.tail_block 0 e) in look_with_case v t (c.tail_block - 1) h w q.0 (let g = q.1 in omega arith)))

  pub at-push_make : (v : T) (t : ℕ) (x : Step T) → IsTailAt t → Obtains c v (λ h. act.PushFirst v t h) x → Yields r (act.PushMake v t) x
  at-push_make v t x w o = ⊎_elim
      (λ g. (let y = retire.spare_words c r queue s d g.1 in subst (λ (z : Step T). Yields r (act.PushMake v t) z) (sym g.0) (with_spot r (spare_of c) held, y.0, seeking (makes refl y.1), w)))
      (λ g. subst (λ (z : Step T). Yields r (act.PushMake v t) z) (sym g.1) (r, d, seeking (refused refl), tt)) o

  pub at-push_more : (v : T) (t b : ℕ) (x : Step T) → IsTailAt t → Obtains c v (λ h. act.PushSwap v t b (Some h)) x → Yields r (act.PushMore v t b) x
  at-push_more v t b x w o = ⊎_elim
      (λ g. (let y = retire.spare_words c r queue s d g.1 in subst (λ (z : Step T). Yields r (act.PushMore v t b) z) (sym g.0) (with_spot r (spare_of c) held, y.0, seeking (makes_more refl y.1), (w, λ e q. some_none q))))
      (λ g. subst (λ (z : Step T). Yields r (act.PushMore v t b) z) (sym g.1) (r, d, seeking (refused_more refl), tt)) o

  none_yet : r.last ≡ 0 → r.tail ≡ 0
  none_yet z = by_bool r.tail_turns (λ o. ⊎_elim (λ g. absurd (omega (arith, g))) (λ g. g.1) (s.last o)) (λ o. absurd (let p = (s.paged o).0 in omega arith))

  pub at-push_first : (v : T) (t h : ℕ) → IsTailAt t → KnowsBlocks r (act_of (act.PushFirst v t h)) u → Yields r (act.PushFirst v t h) (swap_first c v t h)
  at-push_first v t h w f = choose (λ y. Yields r (act.PushFirst v t h) y) (c.tail_block == 0)
      (λ e. (let z = shows_none c r d r.last c.tail_block d.tail_block (is_eq c.tail_block 0 e) in
      (chained r h, words_of.chain_words c r queue s d h f.2 (let n = none_yet z in omega arith), seeking (first_wins refl z), w)))
      (λ e. (r, d, seeking (first_loses refl (λ z. ⊎_elim (λ g. not_eq c.tail_block 0 e g.1) (λ g. omega (arith, g.0)) d.tail_block)), tt))

  abbrev begun : Blocks T
  begun = record r { first = 1 }

  start_case : (v : T) (t b : ℕ) → IsTailAt t → Denotes (record c { head_block = (b + 1) % 2 ^ 64 }) begun → Yields r (act.PushStart v t b) (record c { head_block = (b + 1) % 2 ^ 64 }, look_with v t b None)
  start_case v t b w x = choose (λ y. Yields r (act.PushStart v t b) (record c { head_block = (b + 1) % 2 ^ 64 }, y)) (t / 2 % 32 == 30)
      (λ g. (begun, x, seeking (starts_more refl), w))
      (λ g. (begun, x, seeking (starts refl), (w, λ q z. not_eq (t / 2 % 32) 30 g q)))

  pub at-push_start : (v : T) (t b : ℕ) → IsTailAt t → KnowsBlocks r (act_of (act.PushStart v t b)) u → Yields r (act.PushStart v t b) (start_head c v t b)
  at-push_start v t b w f =
      let l = f.3.0 in
      start_case v t b w (words_of.words_only c r queue s d r.all r.head r.head_turns r.tail r.tail_turns r.closed 1 c.head c.tail ((b + 1) % 2 ^ 64) d.head d.tail
      (inr (omega arith, chain_word c r d 0 b (omega arith) f.5 ∙ ap (λ (x : ℕ). x + 1) f.5)))

  -- the exchange of the tail
  within : (t : ℕ) → IsTailAt t → r.tail ≡ number (t / 2) → 2 * position (number (t / 2)) false + 2 < 2 ^ 64
  within t w e = let b = w.1 in omega arith

  pub wins_at : (v : T) (t b : ℕ) (h : Option ℕ) → IsTailAt t → c.tail ≡ t → (t / 2 % 32 ≡ 30 → ⊥) → Yields r (act.PushSwap v t b h) (record c { tail = (t + 2) % 2 ^ 64 }, record { action = act.PushPut v t b h; mark = mark.Append; ending = None })
  wins_at v t b h w e ne =
      let m = words_of.tail_met c r queue s d t w e in
      let at = words_of.tail_at c r queue s d t w in
      let o = tail_offset t w in
      let y = words_of.wins_words c r queue s d v (number (t / 2)) b h (within t w m.2) (λ q. ne (sym o ∙ q)) (e ∙ at) in
      (extended r v false, subst (λ (z : ℕ). Denotes (record c { tail = (z + 2) % 2 ^ 64 }) (extended r v false)) (sym at) y.0, y.1, w)

  pub wins_edge_at : (v : T) (t b h : ℕ) → IsTailAt t → c.tail ≡ t → t / 2 % 32 ≡ 30 → Yields r (act.PushSwap v t b (Some h)) (record c { tail = (t + 2) % 2 ^ 64 }, record { action = act.PushTurn v t b h; mark = mark.Append; ending = None })
  wins_edge_at v t b h w e ed =
      let m = words_of.tail_met c r queue s d t w e in
      let at = words_of.tail_at c r queue s d t w in
      let o = tail_offset t w in
      let y = words_of.wins_edge_words c r queue s d v (number (t / 2)) b h (within t w m.2) (o ∙ ed) (e ∙ at) in
      (extended r v true, subst (λ (z : ℕ). Denotes (record c { tail = (z + 2) % 2 ^ 64 }) (extended r v true)) (sym at) y.0, y.1, w)

  swap_case : (v : T) (t b : ℕ) (h : Option ℕ) → IsTailAt t → (t / 2 % 32 ≡ 30 → (h ≡ None → ⊥)) → c.tail ≡ t → Yields r (act.PushSwap v t b h) (record c { tail = (t + 2) % 2 ^ 64 }, record { action = after_swap v t b h; mark = mark.Append; ending = None })
  swap_case v t b None w g e = wins_at v t b None w e (λ q. g q refl)
  swap_case v t b (Some h) w g e = choose (λ a. Yields r (act.PushSwap v t b (Some h)) (record c { tail = (t + 2) % 2 ^ 64 }, record { action = a; mark = mark.Append; ending = None })) (t / 2 % 32 == 30)
      (λ q. wins_edge_at v t b h w e (is_eq (t / 2 % 32) 30 q))
      (λ q. wins_at v t b (Some h) w e (not_eq (t / 2 % 32) 30 q))

  pub at-push_swap : (v : T) (t b : ℕ) (h : Option ℕ) → IsProper (act.PushSwap v t b h) → Yields r (act.PushSwap v t b h) (swap_tail c v t b h)
  at-push_swap v t b h w = choose (λ y. Yields r (act.PushSwap v t b h) y) (c.tail == t)
      (λ e. swap_case v t b h w.0 w.1 (is_eq c.tail t e))
      (λ e. (r, d, seeking (swap_loses refl (words_of.tail_lost c r queue s d t w.0 (not_eq c.tail t e))), tt))

  -- the page turn
  pub at-push_turn : (v : T) (t b h : ℕ) → IsTailAt t → KnowsBlocks r (act_of (act.PushTurn v t b h)) u → Yields r (act.PushTurn v t b h) (turn_tail_block c v t b h)
  at-push_turn v t b h w f = (chained r h, words_of.chain_words c r queue s d h f.1 (omega (arith, f.2, f.3, f.5)), bringing (turns refl), w)

  pub at-push_add : (v : T) (t b h : ℕ) → IsTailAt t → KnowsBlocks r (act_of (act.PushAdd v t b h)) u → Yields r (act.PushAdd v t b h) (add_tail c v t b h)
  at-push_add v t b h w f =
      let e : c.tail ≡ 2 * position r.tail true + one_if r.closed = rw f.3 at d.tail in
      let g = s.paged f.3 in
      let step : c.tail + 2 ≡ 2 * position r.tail false + one_if r.closed = (let x = g.1 in let y = g.2 in omega arith) in
      let low : one_if r.closed ≤ 1 = (by_bool r.closed (λ o. rw o (omega arith)) (λ o. rw o (omega arith))) in (
        record r { tail_turns = false },
        words_of.words_only c r queue s d r.all r.head r.head_turns r.tail false r.closed r.first c.head ((c.tail + 2) % 2 ^ 64) c.head_block d.head
            (mod-eq_of_lt (omega (arith, step, low)) ∙ step) d.head_block,
        bringing (adds refl),
        w,
      )

  -- a call that fills a cell works on a live block
  unread : (n : ℕ) → (r.cell n).written ≡ false → (r.block (n / 31)).retired ≡ false
  unread n w = by_bool (r.block (n / 31)).retired (λ f. f) (λ f. absurd (false≢true (sym w ∙ (s.done n (s.retired (n / 31) f)).0)))

  abbrev link_to : ℕ → BlockState
  link_to k = record { linked = true; reads = (r.block k).reads; retired = (r.block k).retired }

  pub at-push_link : (v : T) (t b h : ℕ) → IsTailAt t → KnowsBlocks r (act_of (act.PushLink v t b h)) u → Yields r (act.PushLink v t b h) (link_next c v t b h)
  at-push_link v t b h w f =
      let k : ℕ = number (t / 2) / 31 in
      let fill = f.0 in
      let alive = unread (number (t / 2)) fill.5 in
      let x = d.used k fill.4.0 alive in
      let y : words.BlockCells T = words.with_next (block_at c (r.num k)) ((h + 1) % 2 ^ 64) in
      let here = pick_here k k (link_to k) (r.block k) refl in
      let is : IsBlock (with_block r k (link_to k)) k y = record {
        next = chain_word c r d (k + 1) h f.2 f.3 ∙ (ap (λ (z : ℕ). z + 1) f.3 ∙ sym (ap (λ (z : BlockState). if z.linked then r.num (k + 1) + 1 else 0) here));
        reads = x.reads ∙ sym (ap (λ (z : BlockState). z.reads) here);
        written = x.written;
        slots = x.slots;
      } in
      (with_block r k (link_to k), subst (λ (z : ℕ). Denotes (words.with_block c z (words.with_next (block_at c z) ((h + 1) % 2 ^ 64))) (with_block r k (link_to k))) (sym fill.4.1) (retire.block_words c r queue s d k fill.4.0 alive (link_to k) y alive is), bringing (links refl), w)

  -- the message is put
  cell_at : (n i : ℕ) (x : Cell T) → 31 * (n / 31) + i ≡ n → (with_cell r n x).cell (31 * (n / 31) + i) ≡ x
  cell_at n i x e = pick_here (31 * (n / 31) + i) n x (r.cell (31 * (n / 31) + i)) e

  cell_off : (n i j : ℕ) (x : Cell T) → 31 * (n / 31) + i ≡ n → (j ≡ i → ⊥) → (with_cell r n x).cell (31 * (n / 31) + j) ≡ r.cell (31 * (n / 31) + j)
  cell_off n i j x e ne = pick_other (31 * (n / 31) + j) n x (r.cell (31 * (n / 31) + j)) (λ q. ne (omega arith))

  slot_block : (n i : ℕ) (x : Cell T) (y : words.BlockCells T) → i < 31 → 31 * (n / 31) + i ≡ n → IsBlock r (n / 31) y → x.written ≡ (r.cell n).written → IsBlock (with_cell r n x) (n / 31) (with_slot y i x.slot)
  slot_block n i x y low e b w = record {
    next = b.next;
    reads = b.reads;
    written = λ j l. b.written j l ∙ ap Some (ap one_if (by_eq j i
        (λ q. ap (λ (m : ℕ). (r.cell m).written) (ap (λ (z : ℕ). 31 * (n / 31) + z) q ∙ e) ∙ (sym w ∙ sym (ap (λ (z : Cell T). z.written) (cell_at n j x (ap (λ (z : ℕ). 31 * (n / 31) + z) q ∙ e)))))
        (λ ne. sym (ap (λ (z : Cell T). z.written) (cell_off n i j x e ne)))));
    slots = λ j l. by_eq j i
        (λ q. subst (λ (m : ℕ). slice_get (slice_set y.slots i x.slot) m ≡ Some ((with_cell r n x).cell (31 * (n / 31) + m)).slot) (sym q)
        (set_get y.slots i x.slot _ (b.slots i low) ∙ sym (ap (λ (z : Cell T). Some z.slot) (cell_at n i x e))))
        (λ ne. set_get_other y.slots i j x.slot ne ∙ (b.slots j l ∙ sym (ap (λ (z : Cell T). Some z.slot) (cell_off n i j x e ne))));
  }

  pub slot_words : (n i b : ℕ) (x : Cell T) → i < 31 → 31 * (n / 31) + i ≡ n → n / 31 < r.last → b ≡ r.num (n / 31) → (r.block (n / 31)).retired ≡ false → x.written ≡ (r.cell n).written → Denotes (words.write_slot c (slot.In b i) x.slot) (with_cell r n x)
  slot_words n i b x low e l q alive w = subst (λ (z : ℕ). Denotes (words.write_slot c (slot.In z i) x.slot) (with_cell r n x)) (sym q)
      (retire.cell_words c r queue s d n l alive x (with_slot (block_at c (r.num (n / 31))) i x.slot) (slot_block n i x (block_at c (r.num (n / 31))) low e (d.used (n / 31) l alive) w))

  vacant_at : (n i b : ℕ) → i < 31 → 31 * (n / 31) + i ≡ n → n / 31 < r.last → b ≡ r.num (n / 31) → (r.block (n / 31)).retired ≡ false → (r.cell n).slot ≡ None → can_put c (slot.In b i) ≡ true
  vacant_at n i b low e l q alive none = subst (λ (z : ℕ). can_put c (slot.In z i) ≡ true) (sym q)
      (ap is_vacant ((d.used (n / 31) l alive).slots i low ∙ ap Some (ap (λ (m : ℕ). (r.cell m).slot) e ∙ none)))

  pub at-push_put : (v : T) (t b : ℕ) (h : Option ℕ) → IsTailAt t → KnowsBlocks r (act_of (act.PushPut v t b h)) u → Yields r (act.PushPut v t b h) (put_message c v t b h)
  at-push_put v t b h w f =
      let n : ℕ = number (t / 2) in
      let fill = f.0 in
      let alive = unread n fill.5 in
      choose (λ y. Yields r (act.PushPut v t b h) y) (can_put c (slot.In b (t / 2 % 32)))
      (λ e. (with_cell r n (record { written = false; slot = Some v }), slot_words n (t / 2 % 32) b (record { written = false; slot = Some v }) w.1 (tail_place t w) fill.4.0 fill.4.1 alive (sym fill.5), bringing (puts refl), w))
      (λ e. absurd (false≢true (sym e ∙ vacant_at n (t / 2 % 32) b w.1 (tail_place t w) fill.4.0 fill.4.1 alive fill.6)))

  abbrev stored : ℕ → Cell T
  stored n = record { written = true; slot = (r.cell n).slot }

  store_block : (n i : ℕ) (y : words.BlockCells T) → i < 31 → 31 * (n / 31) + i ≡ n → IsBlock r (n / 31) y → IsBlock (with_cell r n (stored n)) (n / 31) (words.with_written y i 1)
  store_block n i y low e b = record {
    next = b.next;
    reads = b.reads;
    written = λ j l. by_eq j i
        (λ q. subst (λ (m : ℕ). slice_get (slice_set y.written i 1) m ≡ Some (one_if ((with_cell r n (stored n)).cell (31 * (n / 31) + m)).written)) (sym q)
        (set_get y.written i 1 _ (b.written i low) ∙ sym (ap (λ (z : Cell T). Some (one_if z.written)) (cell_at n i (stored n) e))))
        (λ ne. set_get_other y.written i j 1 ne ∙ (b.written j l ∙ sym (ap (λ (z : Cell T). Some (one_if z.written)) (cell_off n i j (stored n) e ne))));
    slots = λ j l. b.slots j l ∙ ap Some (by_eq j i
        (λ q. ap (λ (m : ℕ). (r.cell m).slot) (ap (λ (z : ℕ). 31 * (n / 31) + z) q ∙ e) ∙ sym (ap (λ (z : Cell T). z.slot) (cell_at n j (stored n) (ap (λ (z : ℕ). 31 * (n / 31) + z) q ∙ e))))
        (λ ne. sym (ap (λ (z : Cell T). z.slot) (cell_off n i j (stored n) e ne))));
  }

  store_words : (n i b : ℕ) → i < 31 → 31 * (n / 31) + i ≡ n → n / 31 < r.last → b ≡ r.num (n / 31) → (r.block (n / 31)).retired ≡ false → Denotes (words.with_block c b (words.with_written (block_at c b) i 1)) (with_cell r n (stored n))
  store_words n i b low e l q alive = subst (λ (z : ℕ). Denotes (words.with_block c z (words.with_written (block_at c z) i 1)) (with_cell r n (stored n))) (sym q)
      (retire.cell_words c r queue s d n l alive (stored n) (words.with_written (block_at c (r.num (n / 31))) i 1) (store_block n i (block_at c (r.num (n / 31))) low e (d.used (n / 31) l alive)))

  pub at-push_store : (t b : ℕ) (h : Option ℕ) → IsTailAt t → KnowsBlocks r (act_of {T = T} (act.PushStore t b h)) u → Yields r (act.PushStore t b h) (store_written c t b h)
  at-push_store t b None w f =
      let n : ℕ = number (t / 2) in
      let fill = f.1 in
      (with_cell r n (stored n), store_words n (t / 2 % 32) b w.1 (tail_place t w) fill.4.0 fill.4.1 (unread n fill.5), bringing (stores refl), tt)
  at-push_store t b (Some h) w f =
      let n : ℕ = number (t / 2) in
      let fill = f.1 in
      (with_cell r n (stored n), store_words n (t / 2 % 32) b w.1 (tail_place t w) fill.4.0 fill.4.1 (unread n fill.5), bringing (stores_held refl), tt)

  pub at-push_give : (h : ℕ) → KnowsBlocks r (act_of {T = T} (act.PushGive h)) u → Yields r (act.PushGive h) (give_spare c h)
  at-push_give h f = (with_spot r h spare, retire.give_words c r d h f.3 queue s, bringing (gives refl), tt)
