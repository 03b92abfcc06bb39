-- Each step of an unbounded queue's call keeps what the queue means.
use Rattle.std.proofs.Common.{◌≡◌, ℕ, ◌+◌, ◌-◌, ◌/◌, ◌%◌, ◌<◌, ◌≤◌, ⊎_elim, Bool, true, false, if◌then◌else◌, ◌==◌, ◌&&◌, not, nat_lt, List, [], ◌∷◌, ◌++◌, length, drop, Option, None, Some, Ok, Err, slice_get, MatchOption, refl, sym, ap, ◌∙◌, subst, inl, inr, arith}
use Rattle.std.proofs.lemmas.Bool.{false≢true}
use Rattle.std.proofs.lemmas.Bool.Decides.{nat_tests}
use Rattle.concurrent_queue.specs.machine.BlocksState.{Blocks, Cell, BlockState, SoundBlocks, Spot, unmade, spare, held, used, taken_in, one_if, is_held, is_none, Duty, fill, take, count, retire, link, turn_tail, turn_head, start, keep, owed, with_cell, with_block, with_spot, chained}
use Rattle.concurrent_queue.specs.machine.BlocksCalls.{Act, push_first, push_start, push_swap, push_turn, push_add, push_link, push_put, push_store, pop_tail, pop_swap, pop_next, pop_block, pop_head, pop_wait, pop_take, pop_count, pop_retire, finished, TailBlock, HeadBlock, IsBlockOf, IsSend, IsTry, Fills, Takes, KnowsBlocks, same, holding, owes}
use Rattle.concurrent_queue.specs.machine.BlocksMoves.{StandsBlocks, BlocksKept, IsFree, extended, answer}
use Rattle.concurrent_queue.specs.Queue.{Queue, Phase, trying, appended, taken, message, after, seen_after, is_filled, is_full_at, Continues, Answers}
use Rattle.concurrent_queue.specs.declared.call.QueueAsk.TheVariants as ask
use Rattle.concurrent_queue.proofs.BlocksBasics.{get_end, front, by_bool}
use Rattle.concurrent_queue.proofs.BlocksSteps as step
use Rattle.concurrent_queue.proofs.BlocksPhases as phase
use Rattle.concurrent_queue.proofs.BlocksSteps.{by_eq, pick_other, pick_here, drop_get, drop_length, taken_step, taken_all, taken_full}
use Rattle.concurrent_queue.proofs.BlocksLater as later
use Rattle.concurrent_queue.proofs.BlocksLater.{account, same_not, same_is, fill_append, link_append, link_within, take_next}
use Rattle.concurrent_queue.proofs.BlocksOthers.{same_self}
use Rattle.concurrent_queue.specs.declared.call.QueueMark.TheVariants as mark
use Rattle.concurrent_queue.specs.declared.call.QueueReply.TheVariants as reply
use Rattle.concurrent_queue.specs.declared.unbounded.ending.Ending.{Ending}
use Rattle.concurrent_queue.specs.declared.unbounded.ending.Ending.TheVariants as ending
use Rattle.concurrent_queue.specs.declared.error.PopError.TheVariants as pop_error

pub nil_of : {A : Type 0} (xs : List A) → length xs ≡ 0 → xs ≡ []
nil_of [] e = refl
nil_of (x ∷ xs) e = absurd (omega arith)

not_held : Spot → Type 0
not_held x = is_held x ≡ false

is_none_is : {A : Type 0} (x : Option A) → is_none x ≡ true → x ≡ None
is_none_is None e = refl
is_none_is (Some y) e = absurd (false≢true e)

neither : (b : Bool) → one_if (true && not b) ≡ 0 → b ≡ true
neither true e = refl
neither false e = absurd (omega arith)

module _ {T : Type 0} (r : Blocks T) (now : Queue T) (s : SoundBlocks r now.items) (st : StandsBlocks r now) (u : Phase T) where
  -- a step without a mark leaves the queue as it is
  pub unmarked : {r' : Blocks T} → SoundBlocks r' now.items → r'.closed ≡ r.closed → r'.tail ≡ r.tail → r'.head ≡ r.head → StandsBlocks r' now
  unmarked x c t h = record { sound = x; closed = c ∙ st.closed; accepted = st.accepted ∙ sym t; removed = st.removed ∙ sym h; coming = st.coming; capacity = st.capacity }

  abbrev Leaves : Blocks T → Act T → Option (Ending T) → Type 0
  Leaves r' a' x = MatchOption x ((p' : Phase T) × Continues now u mark.Nothing p' × KnowsBlocks r' a' p') (λ y. Answers now u mark.Nothing (answer u.ask y) × (a' ≡ finished))

  -- nothing changes but what the call knows
  pub quiet : (a : Act T) (r' : Blocks T) (a' : Act T) (x : Option (Ending T)) → r' ≡ r → ((d : Duty) → owes a' d ≡ owes a d) → Leaves r a' x → BlocksKept r now a u r' a' mark.Nothing x
  quiet a r' a' x e o l = rw e (record {
    stands = st;
    owners = λ d. rw (o d) refl;
    others = later.later_none r now.items s a;
    leaves = l;
  })

  -- the call goes on with its try
  abbrev pub still : Bool → Phase T
  still seen = record { ask = u.ask; stage = trying (seen_after seen now) }

  pub send_goes : (v : T) → IsSend u.ask v → (t : IsTry u) → Continues now u mark.Nothing (still t.0)
  send_goes v i t = phase.send_goes now u.ask u.stage v t.0 i t.1

  pub pop_goes : u.ask ≡ ask.Pop → (t : IsTry u) → Continues now u mark.Nothing (still t.0)
  pop_goes e t = phase.pop_goes now u.ask u.stage t.0 e t.1

  pub sent_goes : (v : T) → IsSend u.ask v → u.stage ≡ appended None → Continues now u mark.Nothing u
  sent_goes v i t = phase.sent_goes now u.ask u.stage v i t

  pub took_goes : (d : T) → u.ask ≡ ask.Pop → u.stage ≡ taken d → Continues now u mark.Nothing u
  took_goes d e t = phase.took_goes now u.ask u.stage d e t

  tail_there : (n : ℕ) → r.tail ≡ n → r.tail_turns ≡ false → 1 ≤ r.last → n / 31 < r.last
  tail_there n e o some = ⊎_elim (λ h. omega arith) (λ h. absurd (omega (arith, h.0))) (s.last o)

  head_there : (n : ℕ) → r.head ≡ n → r.head_turns ≡ false → 1 ≤ r.first → n / 31 < r.last
  head_there n e o some = ⊎_elim (λ h. let q = s.inside in omega arith) (λ h. absurd (omega (arith, h.0))) (s.first o)

  -- the push that wins the tail
  pub its_message : (v : T) → IsSend u.ask v → message u.ask ≡ v ∷ []
  its_message v i = ⊎_elim (λ e. ap message e) (λ e. ap message e) i

  pushed_sound : (v : T) (edge : Bool) → IsSend u.ask v → r.tail_turns ≡ false → 1 ≤ r.last → (edge ≡ false → r.tail % 31 ≡ 30 → ⊥) → (edge ≡ true → r.tail % 31 ≡ 30) → SoundBlocks (extended r v edge) (now.items ++ message u.ask)
  pushed_sound v edge w o some low high = subst (λ (xs : List T). SoundBlocks (extended r v edge) (now.items ++ xs)) (sym (its_message v w)) (step.append_keeps r now.items s v edge o some low high)

  pushed_stands : (v : T) (edge : Bool) (seen : Bool) → u.stage ≡ trying seen → SoundBlocks (extended r v edge) (now.items ++ message u.ask) → StandsBlocks (extended r v edge) (after u mark.Append now)
  pushed_stands v edge seen t x = record {
    sound = x;
    closed = st.closed;
    accepted = ap (λ (n : ℕ). n + 1) st.accepted;
    removed = st.removed;
    coming = rw t st.coming;
    capacity = st.capacity;
  }

  abbrev sent_phase : Phase T
  sent_phase = record { ask = u.ask; stage = appended None }

  not_filled : is_filled now ≡ false
  not_filled = ap (λ (c : Option ℕ). is_full_at c now.items) st.capacity

  push_wins : (v : T) → IsSend u.ask v → IsTry u → r.closed ≡ false → Continues now u mark.Append sent_phase
  push_wins v i t c = phase.append_goes now u.ask u.stage v t.0 i t.1 (sym st.closed ∙ c) not_filled

  pushed_fills : (v : T) (edge : Bool) (n b : ℕ) → IsSend u.ask v → r.tail ≡ n → r.tail_turns ≡ false → TailBlock r n b → Fills (extended r v edge) sent_phase v n b None
  pushed_fills v edge n b w t o k =
      let f = s.fresh n (omega arith) in
      let e : length r.all ≡ n = let q = s.all in omega arith in
      (w, refl, subst (λ (j : ℕ). slice_get (r.all ++ v ∷ []) j ≡ Some v) e (get_end r.all v), omega arith, (tail_there n t o k.0, k.1 t), f.0, f.1)

  swap_owners : (v : T) (n b : ℕ) (h : Option ℕ) → r.tail ≡ n → r.tail_turns ≡ false → (n % 31 ≡ 30 → ⊥) → (d : Duty) → owes (push_put v n b h) d + owed r d ≡ owes (push_swap v n b h) d + owed (extended r v false) d
  swap_owners v n b h t o ne (fill m) = let q : same n m ≡ same r.tail m = ap (λ (j : ℕ). same j m) (sym t) in omega (arith, fill_append r now.items s m, q)
  swap_owners v n b h t o ne (take m) = refl
  swap_owners v n b h t o ne (count k) = refl
  swap_owners v n b h t o ne (retire k) = refl
  swap_owners v n b h t o ne (link k) = rw (link_within r now.items s k (λ g. ne (omega arith))) refl
  swap_owners v n b h t o ne turn_tail = rw o refl
  swap_owners v n b h t o ne turn_head = refl
  swap_owners v n b h t o ne start = refl
  swap_owners v n b h t o ne (keep x) = refl

  pub at-swap_wins : (v : T) (n b : ℕ) (h : Option ℕ) (r' : Blocks T) → r' ≡ extended r v false → r.tail ≡ n → r.tail_turns ≡ false → r.closed ≡ false → (n % 31 ≡ 30 → ⊥)
      → KnowsBlocks r (push_swap v n b h) u → BlocksKept r now (push_swap v n b h) u r' (push_put v n b h) mark.Append None
  at-swap_wins v n b h r' e t o c ne k = rw e (record {
    stands = pushed_stands v false k.1.0 k.1.1 (pushed_sound v false k.0 o k.4.0 (λ q g. ne (omega arith)) (λ q. absurd (false≢true q)));
    owners = swap_owners v n b h t o ne;
    others = later.later_append r now.items s (push_swap v n b h) v false o;
    leaves = (sent_phase, push_wins v k.0 k.1 c, (pushed_fills v false n b k.0 t o k.4, k.2));
  })

  edge_owners : (v : T) (n b h : ℕ) → r.tail ≡ n → r.tail_turns ≡ false → n % 31 ≡ 30 → (d : Duty) → owes (push_turn v n b h) d + owed r d ≡ owes (push_swap v n b (Some h)) d + owed (extended r v true) d
  edge_owners v n b h t o ed (fill m) = let q : same n m ≡ same r.tail m = ap (λ (j : ℕ). same j m) (sym t) in omega (arith, fill_append r now.items s m, q)
  edge_owners v n b h t o ed (take m) = refl
  edge_owners v n b h t o ed (count k) = refl
  edge_owners v n b h t o ed (retire k) = refl
  edge_owners v n b h t o ed (link k) = let q : same (n / 31) k ≡ same (r.tail / 31) k = ap (λ (j : ℕ). same (j / 31) k) (sym t) in omega (arith, link_append r now.items s k (omega arith), q)
  edge_owners v n b h t o ed turn_tail = rw o refl
  edge_owners v n b h t o ed turn_head = refl
  edge_owners v n b h t o ed start = refl
  edge_owners v n b h t o ed (keep x) = refl

  pub at-swap_wins_edge : (v : T) (n b h : ℕ) (r' : Blocks T) → r' ≡ extended r v true → r.tail ≡ n → r.tail_turns ≡ false → r.closed ≡ false → n % 31 ≡ 30
      → KnowsBlocks r (push_swap v n b (Some h)) u → BlocksKept r now (push_swap v n b (Some h)) u r' (push_turn v n b h) mark.Append None
  at-swap_wins_edge v n b h r' e t o c ed k =
      let l : r.last ≡ n / 31 + 1 = ⊎_elim (λ g. omega arith) (λ g. absurd (omega (arith, g.0, k.4.0))) (s.last o) in
      rw e (record {
        stands = pushed_stands v true k.1.0 k.1.1 (pushed_sound v true k.0 o k.4.0 (λ q g. absurd (false≢true (sym q))) (λ q. omega arith));
        owners = edge_owners v n b h t o ed;
        others = later.later_append r now.items s (push_swap v n b (Some h)) v true o;
        leaves = (sent_phase, push_wins v k.0 k.1 c, (pushed_fills v true n b k.0 t o k.4, k.2, ed, omega arith, refl, l));
      })

  -- the winner of the last place: it stores tail_block, ends the tail's turn and links its block to the next
  spot_moves : (h : ℕ) (x : Spot) → r.spot h ≡ held → is_held x ≡ false → (m : ℕ) → 0 + one_if (is_held (r.spot m)) ≡ same h m + one_if (is_held (if m == h then x else r.spot m))
  spot_moves h x e f = account r.spot h x (λ m y. one_if (is_held y)) (λ m. 0) (same h) (rw (e, f, same_self h) refl) (λ m ne. sym (same_not h m ne))

  spot_taken : (h : ℕ) → is_held (r.spot h) ≡ false → (m : ℕ) → same h m + one_if (is_held (r.spot m)) ≡ 0 + one_if (is_held (if m == h then held else r.spot m))
  spot_taken h e = account r.spot h held (λ m y. one_if (is_held y)) (same h) (λ m. 0) (rw (e, same_self h) refl) (λ m ne. same_not h m ne)

  turn_owners : (v : T) (n b h : ℕ) → r.spot h ≡ held → 1 ≤ r.last → (d : Duty) → owes (push_add v n b h) d + owed r d ≡ owes (push_turn v n b h) d + owed (chained r h) d
  turn_owners v n b h e some (fill m) = refl
  turn_owners v n b h e some (take m) = refl
  turn_owners v n b h e some (count k) = refl
  turn_owners v n b h e some (retire k) = refl
  turn_owners v n b h e some (link k) = refl
  turn_owners v n b h e some turn_tail = refl
  turn_owners v n b h e some turn_head = refl
  turn_owners v n b h e some start = let p : nat_lt 0 r.last ≡ true = grind (arith, nat_tests) in let q : nat_lt 0 (r.last + 1) ≡ true = grind (arith, nat_tests) in rw (p, q) refl
  turn_owners v n b h e some (keep x) = spot_moves h (used r.last) e refl x

  chain_block : (n b h : ℕ) → IsBlockOf r n b → IsBlockOf (chained r h) n b
  chain_block n b h k = (omega (arith, k.0), k.1 ∙ sym (pick_other (n / 31) r.last h (r.num (n / 31)) (λ q. omega (arith, k.0))))

  pub at-turns : (v : T) (n b h : ℕ) (r' : Blocks T) → r' ≡ chained r h → KnowsBlocks r (push_turn v n b h) u → BlocksKept r now (push_turn v n b h) u r' (push_add v n b h) mark.Nothing None
  at-turns v n b h r' e k =
      let f = k.0 in
      rw e (record {
        stands = unmarked (step.chain_keeps r now.items s h k.1 (inl (k.4, omega (arith, k.2, k.3, k.5)))) refl refl refl;
        owners = turn_owners v n b h k.1 (omega (arith, k.5));
        others = later.later_chain r now.items s (push_turn v n b h) h (same_self h) (λ o. refl) (λ g q. q);
        leaves = (u, sent_goes v f.0 f.1, ((f.0, f.1, f.2, f.3, chain_block n b h f.4, f.5, f.6), k.2, k.3, k.4, omega (arith, k.5), sym (pick_here (n / 31 + 1) r.last h (r.num (n / 31 + 1)) (omega (arith, k.5)))));
      })

  add_owners : (v : T) (n b h : ℕ) → r.tail_turns ≡ true → (d : Duty) → owes (push_link v n b h) d + owed r d ≡ owes (push_add v n b h) d + owed (record r { tail_turns = false }) d
  add_owners v n b h o (fill m) = refl
  add_owners v n b h o (take m) = refl
  add_owners v n b h o (count k) = refl
  add_owners v n b h o (retire k) = refl
  add_owners v n b h o (link k) = refl
  add_owners v n b h o turn_tail = rw o refl
  add_owners v n b h o turn_head = refl
  add_owners v n b h o start = refl
  add_owners v n b h o (keep x) = refl

  pub at-adds : (v : T) (n b h : ℕ) (r' : Blocks T) → r' ≡ record r { tail_turns = false } → KnowsBlocks r (push_add v n b h) u → BlocksKept r now (push_add v n b h) u r' (push_link v n b h) mark.Nothing None
  at-adds v n b h r' e k = rw e (record {
    stands = unmarked (step.tail_rests r now.items s (omega (arith, k.1, k.2, k.4))) refl refl refl;
    owners = add_owners v n b h k.3;
    others = later.later_tail_rests r now.items s (push_add v n b h) refl;
    leaves = (u, sent_goes v k.0.0 k.0.1, (k.0, k.1, omega (arith, k.4), k.5));
  })

  abbrev link_to : ℕ → BlockState
  link_to k = record { linked = true; reads = (r.block k).reads; retired = (r.block k).retired }

  at_one : (b : Bool) → 1 ≤ one_if b → b ≡ true
  at_one false h = absurd (omega arith)
  at_one true h = refl

  both : (b c : Bool) → (b && c) ≡ true → (b ≡ true) × (c ≡ true)
  both false c e = absurd (false≢true e)
  both true c e = (refl, e)

  unnot : (b : Bool) → not b ≡ true → b ≡ false
  unnot false e = refl
  unnot true e = absurd (false≢true e)

  link_open : (n : ℕ) → 1 ≤ owed r (link (n / 31)) → (nat_lt (n / 31) (r.tail / 31) ≡ true) × ((r.block (n / 31)).linked ≡ false)
  link_open n mine =
      let g = at_one (nat_lt (n / 31) (r.tail / 31) && not (r.block (n / 31)).linked) mine in
      let p = both (nat_lt (n / 31) (r.tail / 31)) (not (r.block (n / 31)).linked) g in
      (p.0, unnot (r.block (n / 31)).linked p.1)

  link_owners : (v : T) (n b h : ℕ) → 1 ≤ owed r (link (n / 31)) → (d : Duty) → owes (push_put v n b None) d + owed r d ≡ owes (push_link v n b h) d + owed (with_block r (n / 31) (link_to (n / 31))) d
  link_owners v n b h mine (fill m) = refl
  link_owners v n b h mine (take m) = refl
  link_owners v n b h mine (count k) = account r.block (n / 31) (link_to (n / 31)) (λ j y. taken_in r.head j - y.reads) (λ j. 0) (λ j. 0) refl (λ m ne. refl) k
  link_owners v n b h mine (retire k) = account r.block (n / 31) (link_to (n / 31)) (λ j y. one_if (y.reads == 31 && not y.retired)) (λ j. 0) (λ j. 0) refl (λ m ne. refl) k
  link_owners v n b h mine (link k) = account r.block (n / 31) (link_to (n / 31)) (λ j y. one_if (nat_lt j (r.tail / 31) && not y.linked)) (λ j. 0) (same (n / 31))
      (let p = link_open n mine in rw (p.0, p.1, same_self (n / 31)) refl) (λ m ne. sym (same_not (n / 31) m ne)) k
  link_owners v n b h mine turn_tail = refl
  link_owners v n b h mine turn_head = refl
  link_owners v n b h mine start = refl
  link_owners v n b h mine (keep x) = refl

  pub at-links : (v : T) (n b h : ℕ) (r' : Blocks T) → r' ≡ with_block r (n / 31) (link_to (n / 31)) → 1 ≤ owed r (link (n / 31)) → KnowsBlocks r (push_link v n b h) u → BlocksKept r now (push_link v n b h) u r' (push_put v n b None) mark.Nothing None
  at-links v n b h r' e mine k =
      let p = (link_open n mine).0 in
      let low : n / 31 < r.tail / 31 = grind (arith, nat_tests) in
      rw e (record {
        stands = unmarked (step.block_keeps r now.items s (n / 31) (link_to (n / 31)) ((λ h. absurd (omega arith)), (λ h. k.2), s.reads (n / 31), (λ m q h. s.done m (ap (λ (j : ℕ). (r.block j).reads) q ∙ h)), s.retired (n / 31), (λ h. h))) refl refl refl;
        owners = link_owners v n b h mine;
        others = later.later_block r now.items s (push_link v n b h) (n / 31) (link_to (n / 31));
        leaves = (u, sent_goes v k.0.0 k.0.1, (k.0, tt));
      })

  -- the push puts its message, and stores that it is written
  unread : (n : ℕ) → (r.cell n).written ≡ false → (r.block (n / 31)).reads ≡ 31 → ⊥
  unread n w full = false≢true (sym w ∙ (s.done n full).0)

  put_owners : (v : T) (n b : ℕ) (h : Option ℕ) → (r.cell n).written ≡ false → (d : Duty) → owes {T = T} (push_store n b h) d + owed r d ≡ owes (push_put v n b h) d + owed (with_cell r n (record { written = false; slot = Some v })) d
  put_owners v n b h w (fill m) = account r.cell n (record { written = false; slot = Some v }) (λ j y. one_if (nat_lt j r.tail && not y.written)) (same n) (same n) (rw w refl) (λ m ne. refl) m
  put_owners v n b h w (take m) = account r.cell n (record { written = false; slot = Some v }) (λ j y. one_if (nat_lt j r.head && not (y.written && is_none y.slot))) (λ j. 0) (λ j. 0) (rw w refl) (λ m ne. refl) m
  put_owners v n b h w (count k) = refl
  put_owners v n b h w (retire k) = refl
  put_owners v n b h w (link k) = refl
  put_owners v n b h w turn_tail = refl
  put_owners v n b h w turn_head = refl
  put_owners v n b h w start = refl
  put_owners v n b h w (keep x) = refl

  pub at-puts : (v : T) (n b : ℕ) (h : Option ℕ) (r' : Blocks T) → r' ≡ with_cell r n (record { written = false; slot = Some v }) → KnowsBlocks r (push_put v n b h) u → BlocksKept r now (push_put v n b h) u r' (push_store n b h) mark.Nothing None
  at-puts v n b h r' e k =
      let f = k.0 in
      let c : Cell T = record { written = false; slot = Some v } in
      let here = step.cell_here r now.items s n c n refl in
      rw e (record {
        stands = unmarked (step.cell_keeps r now.items s n c (f.3, (λ w. absurd (false≢true w)), (λ full. absurd (unread n f.5 full)))) refl refl refl;
        owners = put_owners v n b h f.5;
        others = later.later_cell r now.items s (push_put v n b h) n c (λ w. absurd (false≢true (sym f.5 ∙ w))) (λ z w. absurd (let q = same_self n in omega arith)) (λ d z i o w. absurd (false≢true w));
        leaves = (u, sent_goes v f.0 f.1, (v, (f.0, f.1, f.2, f.3, f.4, ap (λ (x : Cell T). x.written) here, ap (λ (x : Cell T). x.slot) here), k.1));
      })

  abbrev store_to : ℕ → Cell T
  store_to n = record { written = true; slot = (r.cell n).slot }

  store_fill : (n m : ℕ) → (r.cell n).written ≡ false → n < r.tail → 0 + one_if (nat_lt m r.tail && not (r.cell m).written) ≡ same n m + one_if (nat_lt m r.tail && not ((with_cell r n (store_to n)).cell m).written)
  store_fill n m w b = let q : nat_lt n r.tail ≡ true = grind (arith, nat_tests) in account r.cell n (store_to n) (λ j y. one_if (nat_lt j r.tail && not y.written)) (λ j. 0) (same n) (rw (w, q, same_self n) refl) (λ m ne. sym (same_not n m ne)) m

  store_take : (n m : ℕ) (v : T) → (r.cell n).written ≡ false → (r.cell n).slot ≡ Some v → 0 + one_if (nat_lt m r.head && not ((r.cell m).written && is_none (r.cell m).slot)) ≡ 0 + one_if (nat_lt m r.head && not (((with_cell r n (store_to n)).cell m).written && is_none ((with_cell r n (store_to n)).cell m).slot))
  store_take n m v w x = account r.cell n (store_to n) (λ j y. one_if (nat_lt j r.head && not (y.written && is_none y.slot))) (λ j. 0) (λ j. 0) (rw (w, x) refl) (λ m ne. refl) m

  store_owners : (n b : ℕ) (h : Option ℕ) (v : T) (a' : Act T) → ((d : Duty) → owes a' d ≡ holding h d) → (r.cell n).written ≡ false → (r.cell n).slot ≡ Some v → n < r.tail → (d : Duty) → owes a' d + owed r d ≡ owes {T = T} (push_store n b h) d + owed (with_cell r n (store_to n)) d
  store_owners n b h v a' o w x t (fill m) = rw (o (fill m)) (store_fill n m w t)
  store_owners n b h v a' o w x t (take m) = rw (o (take m)) (store_take n m v w x)
  store_owners n b h v a' o w x t (count k) = rw (o (count k)) refl
  store_owners n b h v a' o w x t (retire k) = rw (o (retire k)) refl
  store_owners n b h v a' o w x t (link k) = rw (o (link k)) refl
  store_owners n b h v a' o w x t turn_tail = rw (o turn_tail) refl
  store_owners n b h v a' o w x t turn_head = rw (o turn_head) refl
  store_owners n b h v a' o w x t start = rw (o start) refl
  store_owners n b h v a' o w x t (keep y) = rw (o (keep y)) refl

  pub at-stores : (n b : ℕ) (h : Option ℕ) (r' : Blocks T) (a' : Act T) (x : Option (Ending T)) → r' ≡ with_cell r n (store_to n) → ((d : Duty) → owes a' d ≡ holding h d) → (k : KnowsBlocks r (push_store n b h) u)
      → Leaves (with_cell r n (store_to n)) a' x → BlocksKept r now (push_store n b h) u r' a' mark.Nothing x
  at-stores n b h r' a' x e o k l =
      let f = k.1 in
      rw e (record {
        stands = unmarked (step.cell_keeps r now.items s n (store_to n) (f.3, (λ w g. f.6 ∙ sym f.2), (λ full. absurd (unread n f.5 full)))) refl refl refl;
        owners = store_owners n b h k.0 a' o f.5 f.6 f.3;
        others = later.later_cell r now.items s (push_store n b h) n (store_to n) (λ w. refl) (λ z w. absurd (let q = same_self n in omega arith)) (λ d z i old w. f.6 ∙ (sym f.2 ∙ i));
        leaves = l;
      })

  -- a block is given back, or got
  give_owners : (a : Act T) (h : ℕ) → ((d : Duty) → owes a d ≡ holding (Some h) d) → r.spot h ≡ held → (d : Duty) → owes {T = T} finished d + owed r d ≡ owes a d + owed (with_spot r h spare) d
  give_owners a h o e (fill m) = rw (o (fill m)) refl
  give_owners a h o e (take m) = rw (o (take m)) refl
  give_owners a h o e (count k) = rw (o (count k)) refl
  give_owners a h o e (retire k) = rw (o (retire k)) refl
  give_owners a h o e (link k) = rw (o (link k)) refl
  give_owners a h o e turn_tail = rw (o turn_tail) refl
  give_owners a h o e turn_head = rw (o turn_head) refl
  give_owners a h o e start = rw (o start) refl
  give_owners a h o e (keep x) = rw (o (keep x)) (spot_moves h spare e refl x)

  pub at-gives : (a : Act T) (h : ℕ) (y : Ending T) (r' : Blocks T) → r' ≡ with_spot r h spare → ((d : Duty) → owes a d ≡ holding (Some h) d) → r.spot h ≡ held → Answers now u mark.Nothing (answer u.ask y)
      → BlocksKept r now a u r' finished mark.Nothing (Some y)
  at-gives a h y r' e o there l = rw e (record {
    stands = unmarked (step.spot_keeps r now.items s h spare (λ k q. absurd (step.held_used k (sym there ∙ q)))) refl refl refl;
    owners = give_owners a h o there;
    others = later.later_spot r now.items s a h spare (λ b f g q. let z = o (keep h) in let c = same_self h in let p = ap (λ (j : ℕ). owes a (keep j)) q in omega arith);
    leaves = (l, refl);
  })

  make_owners : (a a' : Act T) (h : ℕ) → ((d : Duty) → owes a d ≡ 0) → ((d : Duty) → owes a' d ≡ holding (Some h) d) → is_held (r.spot h) ≡ false → (d : Duty) → owes a' d + owed r d ≡ owes a d + owed (with_spot r h held) d
  make_owners a a' h z o e (fill m) = rw (o (fill m), z (fill m)) refl
  make_owners a a' h z o e (take m) = rw (o (take m), z (take m)) refl
  make_owners a a' h z o e (count k) = rw (o (count k), z (count k)) refl
  make_owners a a' h z o e (retire k) = rw (o (retire k), z (retire k)) refl
  make_owners a a' h z o e (link k) = rw (o (link k), z (link k)) refl
  make_owners a a' h z o e turn_tail = rw (o turn_tail, z turn_tail) refl
  make_owners a a' h z o e turn_head = rw (o turn_head, z turn_head) refl
  make_owners a a' h z o e start = rw (o start, z start) refl
  make_owners a a' h z o e (keep x) = rw (o (keep x), z (keep x)) (spot_taken h e x)

  free_not : (x : Spot) → IsFree x → (is_held x ≡ false) × ((k : ℕ) → x ≡ used k → ⊥)
  free_not unmade f = (refl, λ k q. absurd cc)
  free_not spare f = (refl, λ k q. absurd cc)
  free_not held f = absurd f
  free_not (used k) f = absurd f

  pub at-makes : (a a' : Act T) (h : ℕ) (r' : Blocks T) → r' ≡ with_spot r h held → IsFree (r.spot h) → ((d : Duty) → owes a d ≡ 0) → ((d : Duty) → owes a' d ≡ holding (Some h) d)
      → Leaves (with_spot r h held) a' None → BlocksKept r now a u r' a' mark.Nothing None
  at-makes a a' h r' e free z o l =
      let f = free_not (r.spot h) free in
      rw e (record {
        stands = unmarked (step.spot_keeps r now.items s h held f.1) refl refl refl;
        owners = make_owners a a' h z o f.0;
        others = later.later_spot r now.items s a h held (λ b q g i. false≢true (sym f.0 ∙ ap is_held (ap r.spot (sym i) ∙ g)));
        leaves = l;
      })

  -- the first block of all
  first_owners : (v : T) (n h : ℕ) → r.spot h ≡ held → r.last ≡ 0 → r.first ≡ 0 → (d : Duty) → owes (push_start v n h) d + owed r d ≡ owes (push_first v n h) d + owed (chained r h) d
  first_owners v n h e z f (fill m) = refl
  first_owners v n h e z f (take m) = refl
  first_owners v n h e z f (count k) = refl
  first_owners v n h e z f (retire k) = refl
  first_owners v n h e z f (link k) = refl
  first_owners v n h e z f turn_tail = refl
  first_owners v n h e z f turn_head = refl
  first_owners v n h e z f start = rw (z, f) refl
  first_owners v n h e z f (keep x) = spot_moves h (used r.last) e refl x

  pub at-first_wins : (v : T) (n h : ℕ) (r' : Blocks T) → r' ≡ chained r h → r.last ≡ 0 → KnowsBlocks r (push_first v n h) u → BlocksKept r now (push_first v n h) u r' (push_start v n h) mark.Nothing None
  at-first_wins v n h r' e z k =
      let f : r.first ≡ 0 = let q = s.inside in omega arith in
      let rest : r.tail_turns ≡ true → ⊥ = λ o. (let q = s.paged o in omega arith) in
      let o : r.tail_turns ≡ false = by_bool r.tail_turns (λ q. q) (λ q. absurd (rest q)) in
      let none : r.tail ≡ 0 = ⊎_elim (λ g. absurd (omega arith)) (λ g. g.1) (s.last o) in
      rw e (record {
        stands = unmarked (step.chain_keeps r now.items s h k.2 (inr (o, z, none))) refl refl refl;
        owners = first_owners v n h k.2 z f;
        others = later.later_chain r now.items s (push_first v n h) h (same_self h) (λ q. absurd (rest q)) (λ g q. q);
        leaves = (still true, send_goes v k.0 (true, k.1), (k.0, refl, k.3, (omega arith, λ t. sym (pick_here (n / 31) r.last h (r.num (n / 31)) (omega (arith, k.3.0)))), f, sym (pick_here 0 r.last h (r.num 0) (omega arith))));
      })

  start_owners : (v : T) (n b : ℕ) (a' : Act T) → ((d : Duty) → owes a' d ≡ 0) → r.first ≡ 0 → 1 ≤ r.last → (d : Duty) → owes a' d + owed r d ≡ owes (push_start v n b) d + owed (record r { first = 1 }) d
  start_owners v n b a' o f l (fill m) = rw (o (fill m)) refl
  start_owners v n b a' o f l (take m) = rw (o (take m)) refl
  start_owners v n b a' o f l (count k) = rw (o (count k)) refl
  start_owners v n b a' o f l (retire k) = rw (o (retire k)) refl
  start_owners v n b a' o f l (link k) = rw (o (link k)) refl
  start_owners v n b a' o f l turn_tail = rw (o turn_tail) refl
  start_owners v n b a' o f l turn_head = rw (o turn_head) refl
  start_owners v n b a' o f l start = let p : nat_lt 0 r.last ≡ true = grind (arith, nat_tests) in rw (o start, f, p) refl
  start_owners v n b a' o f l (keep x) = rw (o (keep x)) refl

  pub at-starts : (v : T) (n b : ℕ) (r' : Blocks T) (a' : Act T) → r' ≡ record r { first = 1 } → ((d : Duty) → owes a' d ≡ 0) → KnowsBlocks r (push_start v n b) u → Leaves (record r { first = 1 }) a' None
      → BlocksKept r now (push_start v n b) u r' a' mark.Nothing None
  at-starts v n b r' a' e o k l =
      let ht : r.head_turns ≡ true → ⊥ = λ q. (let g = s.turned q in omega (arith, g.2, k.4)) in
      let hf : r.head_turns ≡ false = by_bool r.head_turns (λ q. q) (λ q. absurd (ht q)) in
      let none : r.head ≡ 0 = ⊎_elim (λ g. absurd (omega (arith, g, k.4))) (λ g. g.1) (s.first hf) in
      rw e (record {
        stands = unmarked (step.first_moves r now.items s 1 k.3.0 (λ q. omega arith) (omega arith) (omega arith)) refl refl refl;
        owners = start_owners v n b a' o k.4 k.3.0;
        others = later.later_first r now.items s (push_start v n b) 1 (omega (arith, k.4)) (λ q. absurd (ht q)) (λ q. refl);
        leaves = l;
      })

  -- the pop that wins the head
  abbrev took_phase : T → Phase T
  took_phase d = record { ask = u.ask; stage = taken d }

  popped_took : (n b : ℕ) → u.ask ≡ ask.Pop → IsTry u → r.head ≡ n → r.head_turns ≡ false → n < r.tail → HeadBlock r n b → (edge : Bool)
      → (d : T) × Continues now u mark.Take (took_phase d) × Takes (record r { head = r.head + 1; head_turns = edge }) (took_phase d) n b d
  popped_took n b w ds t o more k edge =
      let q = s.all in
      let len = drop_length r.all r.head (omega arith) in
      let f = front now.items (let l = ap (λ (xs : List T). length xs) s.items in omega arith) in
      let is : slice_get r.all n ≡ Some f.0 = subst (λ (j : ℕ). slice_get r.all j ≡ Some f.0) t (drop_get r.all r.head f.0 f.1 (sym s.items ∙ f.2)) in
      (f.0, phase.take_goes now u.ask u.stage f.0 ds.0 w ds.1 (f.1, f.2), (w, refl, is, omega arith, (head_there n t o k.0, k.1 t), λ g. s.full n g (omega arith) ∙ is))

  popped_stands : (edge : Bool) → SoundBlocks (record r { head = r.head + 1; head_turns = edge }) (drop 1 now.items) → StandsBlocks (record r { head = r.head + 1; head_turns = edge }) (after u mark.Take now)
  popped_stands edge x = record {
    sound = x;
    closed = st.closed;
    accepted = st.accepted;
    removed = ap (λ (n : ℕ). n + 1) st.removed;
    coming = st.coming;
    capacity = st.capacity;
  }

  pop_owners : (n b : ℕ) → r.head ≡ n → r.head_turns ≡ false → n < r.tail → (d : Duty) → owes {T = T} (pop_wait n b) d + owed r d ≡ owes {T = T} (pop_swap n b) d + owed (record r { head = r.head + 1; head_turns = false }) d
  pop_owners n b t o more (fill m) = refl
  pop_owners n b t o more (take m) = let q : same n m ≡ same r.head m = ap (λ (j : ℕ). same j m) (sym t) in omega (arith, take_next r now.items s m (omega arith), q)
  pop_owners n b t o more (count k) = let q : same (n / 31) k ≡ same (r.head / 31) k = ap (λ (j : ℕ). same (j / 31) k) (sym t) in let p = taken_step r.head k in let l = s.reads k in omega (arith, p, q, l)
  pop_owners n b t o more (retire k) = refl
  pop_owners n b t o more (link k) = refl
  pop_owners n b t o more turn_tail = refl
  pop_owners n b t o more turn_head = rw o refl
  pop_owners n b t o more start = refl
  pop_owners n b t o more (keep x) = refl

  pub at-pop_wins : (n b : ℕ) (r' : Blocks T) → r' ≡ record r { head = r.head + 1; head_turns = false } → r.head ≡ n → r.head_turns ≡ false → (n % 31 ≡ 30 → ⊥) → KnowsBlocks r (pop_swap n b) u → BlocksKept r now (pop_swap n b) u r' (pop_wait n b) mark.Take None
  at-pop_wins n b r' e t o ne k = rw e (record {
    stands = popped_stands false (step.take_keeps r now.items s false o k.3.0 (omega (arith, k.4)) (λ q g. ne (omega arith)) (λ q. absurd (false≢true q)));
    owners = pop_owners n b t o k.4;
    others = later.later_take r now.items s (pop_swap n b) false o;
    leaves = (let d = popped_took n b k.0 k.1 t o k.4 k.3 false in (took_phase d.0, d.1, (d.0, d.2)));
  })

  pop_edge_owners : (n b : ℕ) → r.head ≡ n → r.head_turns ≡ false → n < r.tail → (d : Duty) → owes {T = T} (pop_next n b) d + owed r d ≡ owes {T = T} (pop_swap n b) d + owed (record r { head = r.head + 1; head_turns = true }) d
  pop_edge_owners n b t o more (fill m) = refl
  pop_edge_owners n b t o more (take m) = let q : same n m ≡ same r.head m = ap (λ (j : ℕ). same j m) (sym t) in omega (arith, take_next r now.items s m (omega arith), q)
  pop_edge_owners n b t o more (count k) = let q : same (n / 31) k ≡ same (r.head / 31) k = ap (λ (j : ℕ). same (j / 31) k) (sym t) in let p = taken_step r.head k in let l = s.reads k in omega (arith, p, q, l)
  pop_edge_owners n b t o more (retire k) = refl
  pop_edge_owners n b t o more (link k) = refl
  pop_edge_owners n b t o more turn_tail = refl
  pop_edge_owners n b t o more turn_head = rw o refl
  pop_edge_owners n b t o more start = refl
  pop_edge_owners n b t o more (keep x) = refl

  pub at-pop_wins_edge : (n b : ℕ) (r' : Blocks T) → r' ≡ record r { head = r.head + 1; head_turns = true } → r.head ≡ n → r.head_turns ≡ false → n % 31 ≡ 30 → KnowsBlocks r (pop_swap n b) u → BlocksKept r now (pop_swap n b) u r' (pop_next n b) mark.Take None
  at-pop_wins_edge n b r' e t o ed k =
      let d = popped_took n b k.0 k.1 t o k.4 k.3 true in
      rw e (record {
        stands = popped_stands true (step.take_keeps r now.items s true o k.3.0 (omega (arith, k.4)) (λ q. absurd (false≢true (sym q))) (λ q. omega arith));
        owners = pop_edge_owners n b t o k.4;
        others = later.later_take r now.items s (pop_swap n b) true o;
        leaves = (took_phase d.0, d.1, (d.0, d.2, ed, omega arith, refl, ⊎_elim (λ g. omega arith) (λ g. absurd (omega (arith, g.0, k.3.0))) (s.first o)));
      })

  -- it goes on to the next block
  pub at-next_found : (n b c : ℕ) (r' : Blocks T) → r' ≡ r → (r.block (n / 31)).linked ≡ true → c ≡ r.num (n / 31 + 1) → KnowsBlocks r (pop_next n b) u → BlocksKept r now (pop_next n b) u r' (pop_block n b c) mark.Nothing None
  at-next_found n b c r' e l q k = quiet (pop_next n b) r' (pop_block n b c) None e (λ d. refl) (u, took_goes k.0 k.1.0 k.1.1, (k.0, k.1, k.2, k.3, k.4, k.5, s.linked (n / 31) l, q))

  block_owners : (n b c : ℕ) → 1 ≤ r.first → (d : Duty) → owes {T = T} (pop_head n b) d + owed r d ≡ owes {T = T} (pop_block n b c) d + owed (record r { first = r.first + 1 }) d
  block_owners n b c f (fill m) = refl
  block_owners n b c f (take m) = refl
  block_owners n b c f (count k) = refl
  block_owners n b c f (retire k) = refl
  block_owners n b c f (link k) = refl
  block_owners n b c f turn_tail = refl
  block_owners n b c f turn_head = refl
  block_owners n b c f start = let p : (r.first == 0) ≡ false = grind (arith, nat_tests) in let q : (r.first + 1 == 0) ≡ false = grind (arith, nat_tests) in rw (p, q) refl
  block_owners n b c f (keep x) = refl

  pub at-blocks : (n b c : ℕ) (r' : Blocks T) → r' ≡ record r { first = r.first + 1 } → KnowsBlocks r (pop_block n b c) u → BlocksKept r now (pop_block n b c) u r' (pop_head n b) mark.Nothing None
  at-blocks n b c r' e k = rw e (record {
    stands = unmarked (step.first_moves r now.items s (r.first + 1) (omega (arith, k.5, k.6)) (λ q. absurd (false≢true (sym q ∙ k.4))) (omega (arith, k.2, k.3, k.5)) (omega arith)) refl refl refl;
    owners = block_owners n b c (omega (arith, k.5));
    others = later.later_first r now.items s (pop_block n b c) (r.first + 1) (omega arith) (λ q. refl) (λ q. absurd (omega (arith, k.5)));
    leaves = (u, took_goes k.0 k.1.0 k.1.1, (k.0, k.1, k.2, k.3, k.4, omega (arith, k.5)));
  })

  head_owners : (n b : ℕ) → r.head_turns ≡ true → (d : Duty) → owes {T = T} (pop_wait n b) d + owed r d ≡ owes {T = T} (pop_head n b) d + owed (record r { head_turns = false }) d
  head_owners n b o (fill m) = refl
  head_owners n b o (take m) = refl
  head_owners n b o (count k) = refl
  head_owners n b o (retire k) = refl
  head_owners n b o (link k) = refl
  head_owners n b o turn_tail = refl
  head_owners n b o turn_head = rw o refl
  head_owners n b o start = refl
  head_owners n b o (keep x) = refl

  pub at-heads : (n b : ℕ) (r' : Blocks T) → r' ≡ record r { head_turns = false } → KnowsBlocks r (pop_head n b) u → BlocksKept r now (pop_head n b) u r' (pop_wait n b) mark.Nothing None
  at-heads n b r' e k = rw e (record {
    stands = unmarked (step.head_rests r now.items s (omega (arith, k.2, k.3, k.5))) refl refl refl;
    owners = head_owners n b k.4;
    others = later.later_head_rests r now.items s (pop_head n b) refl;
    leaves = (u, took_goes k.0 k.1.0 k.1.1, (k.0, k.1));
  })

  -- it takes the message, counts its read, and the last reader retires the block
  take_owners : (n b : ℕ) (d : T) → (r.cell n).written ≡ true → (r.cell n).slot ≡ Some d → n < r.head → (e : Duty) → owes (pop_count n b d) e + owed r e ≡ owes {T = T} (pop_take n b) e + owed (with_cell r n (record { written = true; slot = None })) e
  take_owners n b d w x h (fill m) = account r.cell n (record { written = true; slot = None }) (λ j y. one_if (nat_lt j r.tail && not y.written)) (λ j. 0) (λ j. 0) (rw w refl) (λ m ne. refl) m
  take_owners n b d w x h (take m) =
      let q : nat_lt n r.head ≡ true = grind (arith, nat_tests) in
      account r.cell n (record { written = true; slot = None }) (λ j y. one_if (nat_lt j r.head && not (y.written && is_none y.slot))) (λ j. 0) (same n) (rw (w, x, q, same_self n) refl) (λ m ne. sym (same_not n m ne)) m
  take_owners n b d w x h (count k) = refl
  take_owners n b d w x h (retire k) = refl
  take_owners n b d w x h (link k) = refl
  take_owners n b d w x h turn_tail = refl
  take_owners n b d w x h turn_head = refl
  take_owners n b d w x h start = refl
  take_owners n b d w x h (keep y) = refl

  some_same : {x y : T} → Some x ≡ Some y → x ≡ y
  some_same e = cc

  pub at-takes : (n b : ℕ) (d : T) (r' : Blocks T) → (r.cell n).slot ≡ Some d → r' ≡ with_cell r n (record { written = true; slot = None }) → 1 ≤ owed r (count (n / 31)) → KnowsBlocks r (pop_take n b) u → BlocksKept r now (pop_take n b) u r' (pop_count n b d) mark.Nothing None
  at-takes n b d r' x e mine k =
      let f = k.1 in
      let same_d : k.0 ≡ d = some_same (sym (f.5 k.2) ∙ x) in
      rw e (record {
        stands = unmarked (step.cell_keeps r now.items s n (record { written = true; slot = None }) (let q = s.order in omega (arith, f.3), (λ w g. absurd (omega (arith, f.3))), (λ full. (refl, refl)))) refl refl refl;
        owners = take_owners n b d k.2 x f.3;
        others = later.later_cell r now.items s (pop_take n b) n (record { written = true; slot = None }) (λ w. refl) (λ z w. absurd (false≢true (sym w ∙ k.2))) (λ y z i old w. absurd (let q = same_self n in omega arith));
        leaves = (u, took_goes k.0 f.0 f.1, (f.0, subst (λ (z : T). u.stage ≡ taken z) same_d f.1, f.3, f.4));
      })

  abbrev more : ℕ → BlockState
  more k = record { linked = (r.block k).linked; reads = (r.block k).reads + 1; retired = (r.block k).retired }

  count_count : (n : ℕ) → 1 ≤ owed r (count (n / 31)) → (k : ℕ) → 0 + (taken_in r.head k - (r.block k).reads) ≡ same (n / 31) k + (taken_in r.head k - ((with_block r (n / 31) (more (n / 31))).block k).reads)
  count_count n mine = account r.block (n / 31) (more (n / 31)) (λ j y. taken_in r.head j - y.reads) (λ j. 0) (same (n / 31)) (let q = same_self (n / 31) in omega (arith, mine, q)) (λ m ne. sym (same_not (n / 31) m ne))

  not_full : (k : ℕ) → 1 ≤ owed r (count k) → ((r.block k).reads == 31) ≡ false
  not_full k mine = let t = taken_all r.head k in let l : (r.block k).reads < 31 = omega (arith, mine, t) in grind (arith, nat_tests)

  not_retired : (k : ℕ) → ((r.block k).reads ≡ 31 → ⊥) → (r.block k).retired ≡ false
  not_retired k ne = by_bool (r.block k).retired (λ q. q) (λ q. absurd (ne (s.retired k q)))

  count_owners : (n b : ℕ) (d : T) → 1 ≤ owed r (count (n / 31)) → ((r.block (n / 31)).reads ≡ 30 → ⊥) → (e : Duty) → owes {T = T} finished e + owed r e ≡ owes (pop_count n b d) e + owed (with_block r (n / 31) (more (n / 31))) e
  count_owners n b d mine ne (fill m) = refl
  count_owners n b d mine ne (take m) = refl
  count_owners n b d mine ne (count k) = count_count n mine k
  count_owners n b d mine ne (retire k) =
      let q : ((r.block (n / 31)).reads + 1 == 31) ≡ false = by_eq (r.block (n / 31)).reads 30 (λ z. absurd (ne z)) (λ z. grind (arith, nat_tests)) in
      account r.block (n / 31) (more (n / 31)) (λ j y. one_if (y.reads == 31 && not y.retired)) (λ j. 0) (λ j. 0) (rw (not_full (n / 31) mine, q) refl) (λ m z. refl) k
  count_owners n b d mine ne (link k) = account r.block (n / 31) (more (n / 31)) (λ j y. one_if (nat_lt j (r.tail / 31) && not y.linked)) (λ j. 0) (λ j. 0) refl (λ m z. refl) k
  count_owners n b d mine ne turn_tail = refl
  count_owners n b d mine ne turn_head = refl
  count_owners n b d mine ne start = refl
  count_owners n b d mine ne (keep x) = refl

  last_owners : (n b : ℕ) (d : T) → 1 ≤ owed r (count (n / 31)) → (r.block (n / 31)).reads ≡ 30 → (e : Duty) → owes (pop_retire n b d) e + owed r e ≡ owes (pop_count n b d) e + owed (with_block r (n / 31) (more (n / 31))) e
  last_owners n b d mine z (fill m) = refl
  last_owners n b d mine z (take m) = refl
  last_owners n b d mine z (count k) = count_count n mine k
  last_owners n b d mine z (retire k) =
      let f = not_retired (n / 31) (λ q. omega arith) in
      account r.block (n / 31) (more (n / 31)) (λ j y. one_if (y.reads == 31 && not y.retired)) (same (n / 31)) (λ j. 0) (rw (z, f, same_self (n / 31)) refl) (λ m ne. same_not (n / 31) m ne) k
  last_owners n b d mine z (link k) = account r.block (n / 31) (more (n / 31)) (λ j y. one_if (nat_lt j (r.tail / 31) && not y.linked)) (λ j. 0) (λ j. 0) refl (λ m z. refl) k
  last_owners n b d mine z turn_tail = refl
  last_owners n b d mine z turn_head = refl
  last_owners n b d mine z start = refl
  last_owners n b d mine z (keep x) = refl

  pub at-counts : (n b : ℕ) (d : T) (r' : Blocks T) → r' ≡ with_block r (n / 31) (more (n / 31)) → ((r.block (n / 31)).reads ≡ 30 → ⊥) → 1 ≤ owed r (count (n / 31)) → KnowsBlocks r (pop_count n b d) u → BlocksKept r now (pop_count n b d) u r' finished mark.Nothing (Some (ending.Replied (reply.Pop (Ok d))))
  at-counts n b d r' e ne mine k =
      let t = taken_all r.head (n / 31) in
      let f = not_retired (n / 31) (λ q. omega (arith, mine, t)) in
      rw e (record {
        stands = unmarked (step.block_keeps r now.items s (n / 31) (more (n / 31)) (s.unlinked (n / 31), s.linked (n / 31), omega (arith, mine), (λ m q h. absurd (ne (omega arith))), (λ h. absurd (false≢true (sym f ∙ h))), (λ h. h))) refl refl refl;
        owners = count_owners n b d mine ne;
        others = later.later_block r now.items s (pop_count n b d) (n / 31) (more (n / 31));
        leaves = (phase.took_answers now u.ask u.stage d k.0 k.1, refl);
      })

  gone : (m : ℕ) → m < r.head → owed r (take m) ≡ 0 → ((r.cell m).written ≡ true) × ((r.cell m).slot ≡ None)
  gone m h z =
      let q : nat_lt m r.head ≡ true = grind (arith, nat_tests) in
      let y : one_if (true && not ((r.cell m).written && is_none (r.cell m).slot)) ≡ 0 = subst (λ (b : Bool). one_if (b && not ((r.cell m).written && is_none (r.cell m).slot)) ≡ 0) q z in
      let g = both (r.cell m).written (is_none (r.cell m).slot) (neither _ y) in (g.0, is_none_is (r.cell m).slot g.1)

  -- the last read: all the block's messages are taken, as no other call still has to take one
  pub at-counts_last : (n b : ℕ) (d : T) (r' : Blocks T) → r' ≡ with_block r (n / 31) (more (n / 31)) → (r.block (n / 31)).reads ≡ 30 → 1 ≤ owed r (count (n / 31)) → ((m : ℕ) → m / 31 ≡ n / 31 → owed r (take m) ≡ 0)
      → KnowsBlocks r (pop_count n b d) u → BlocksKept r now (pop_count n b d) u r' (pop_retire n b d) mark.Nothing None
  at-counts_last n b d r' e z mine drained k =
      let t = taken_all r.head (n / 31) in
      let f = not_retired (n / 31) (λ q. omega arith) in
      let low = taken_full r.head (n / 31) (omega (arith, mine, t)) in
      rw e (record {
        stands = unmarked (step.block_keeps r now.items s (n / 31) (more (n / 31)) (s.unlinked (n / 31), s.linked (n / 31), omega (arith, mine), (λ m q h. gone m (omega (arith, low, q)) (drained m q)), (λ h. absurd (false≢true (sym f ∙ h))), (λ h. h))) refl refl refl;
        owners = last_owners n b d mine z;
        others = later.later_block r now.items s (pop_count n b d) (n / 31) (more (n / 31));
        leaves = (u, took_goes d k.0 k.1, (k.0, k.1, k.2, k.3));
      })

  abbrev shut : ℕ → BlockState
  shut k = record { linked = (r.block k).linked; reads = 31; retired = true }

  retire_owners : (n b : ℕ) (d : T) → (r.block (n / 31)).reads ≡ 31 → (r.block (n / 31)).retired ≡ false → r.spot b ≡ used (n / 31) → (e : Duty) → owes {T = T} finished e + owed r e ≡ owes (pop_retire n b d) e + owed (with_spot (with_block r (n / 31) (shut (n / 31))) b spare) e
  retire_owners n b d z f x (fill m) = refl
  retire_owners n b d z f x (take m) = refl
  retire_owners n b d z f x (count k) = account r.block (n / 31) (shut (n / 31)) (λ j y. taken_in r.head j - y.reads) (λ j. 0) (λ j. 0) (rw z refl) (λ m ne. refl) k
  retire_owners n b d z f x (retire k) = account r.block (n / 31) (shut (n / 31)) (λ j y. one_if (y.reads == 31 && not y.retired)) (λ j. 0) (same (n / 31)) (rw (z, f, same_self (n / 31)) refl) (λ m ne. sym (same_not (n / 31) m ne)) k
  retire_owners n b d z f x (link k) = account r.block (n / 31) (shut (n / 31)) (λ j y. one_if (nat_lt j (r.tail / 31) && not y.linked)) (λ j. 0) (λ j. 0) refl (λ m z. refl) k
  retire_owners n b d z f x turn_tail = refl
  retire_owners n b d z f x turn_head = refl
  retire_owners n b d z f x start = refl
  retire_owners n b d z f x (keep y) = account r.spot b spare (λ j w. one_if (is_held w)) (λ j. 0) (λ j. 0) (rw x refl) (λ m ne. refl) y

  pub at-retires : (n b : ℕ) (d : T) (r' : Blocks T) → r' ≡ with_spot (with_block r (n / 31) (shut (n / 31))) b spare → 1 ≤ owed r (retire (n / 31)) → KnowsBlocks r (pop_retire n b d) u → BlocksKept r now (pop_retire n b d) u r' finished mark.Nothing (Some (ending.Replied (reply.Pop (Ok d))))
  at-retires n b d r' e mine k =
      let p = both ((r.block (n / 31)).reads == 31) (not (r.block (n / 31)).retired) (at_one ((r.block (n / 31)).reads == 31 && not (r.block (n / 31)).retired) mine) in
      let f = unnot (r.block (n / 31)).retired p.1 in
      let q = p.0 in
      let z : (r.block (n / 31)).reads ≡ 31 = grind (arith, nat_tests) in
      let x : r.spot b ≡ used (n / 31) = ap r.spot k.3.1 ∙ s.live (n / 31) k.3.0 f in
      rw e (record {
        stands = unmarked (subst (λ (j : ℕ). SoundBlocks (with_spot (with_block r (n / 31) (shut (n / 31))) j spare) now.items) (sym k.3.1) (step.retire_keeps r now.items s (n / 31) (r.block (n / 31)).linked refl k.3.0 f z)) refl refl refl;
        owners = retire_owners n b d z f x;
        others = later.later_retire r now.items s (pop_retire n b d) (n / 31) (shut (n / 31)) b (λ g. step.held_used (n / 31) (sym g ∙ x));
        leaves = (phase.took_answers now u.ask u.stage d k.0 k.1, refl);
      })

  -- the refusals of a pop: its tail and head are the queue's
  now_empty : (n : ℕ) → n ≤ r.head → r.tail ≡ n → now.items ≡ []
  now_empty n h t =
      let q = s.all in let o = s.order in
      let len = drop_length r.all r.head (omega arith) in
      nil_of now.items (let l = ap (λ (xs : List T). length xs) s.items in omega arith)

  pub at-pop_empty : (n : ℕ) (b : Option ℕ) (r' : Blocks T) → r' ≡ r → r.tail ≡ n → r.closed ≡ false → n ≤ r.head → u.ask ≡ ask.Pop → IsTry u → BlocksKept r now (pop_tail n b) u r' finished mark.Nothing (Some (ending.Replied (reply.Pop (Err pop_error.Empty))))
  at-pop_empty n b r' e t c h w ds = quiet (pop_tail n b) r' finished _ e (λ d. refl) (phase.empty_answers now u.ask u.stage ds.0 w ds.1 (sym st.closed ∙ c) (now_empty n h t) st.coming, refl)

  pub at-pop_shut : (n : ℕ) (b : Option ℕ) (r' : Blocks T) → r' ≡ r → r.tail ≡ n → r.closed ≡ true → n ≤ r.head → u.ask ≡ ask.Pop → IsTry u → BlocksKept r now (pop_tail n b) u r' finished mark.Nothing (Some (ending.Replied (reply.Pop (Err pop_error.Closed))))
  at-pop_shut n b r' e t c h w ds = quiet (pop_tail n b) r' finished _ e (λ d. refl) (phase.drained_answers now u.ask u.stage ds.0 w ds.1 (sym st.closed ∙ c) (now_empty n h t) st.coming, refl)
