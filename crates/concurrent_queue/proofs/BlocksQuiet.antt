-- Where no other call has a mark, and an item was taken before or no other call is under way, no other call is waited for.
use Rattle.std.proofs.Common.{◌≡◌, ℕ, ◌<◌, ◌≤◌, ◌⊎◌, ⊎_elim, Bool, true, false, ◌==◌, List, [], ◌∷◌, ◌++◌, Option, None, Some, MatchOption, refl, sym, ap, arith}
use Rattle.std.proofs.lemmas.Bool.{false≢true}
use Rattle.std.proofs.lemmas.Bool.Decides.{nat_tests}
use Rattle.concurrent_queue.specs.machine.BlocksState.{Blocks, SoundBlocks, Duty, fill, take, count, retire, link, turn_tail, turn_head, start, keep, owed}
use Rattle.concurrent_queue.specs.machine.BlocksCalls.{Act, push, push_return, push_look, push_make, push_first, push_start, push_more, push_swap, push_turn, push_add, push_link, push_put, push_store, push_give, pop, pop_look, pop_tail, pop_swap, pop_next, pop_block, pop_head, pop_wait, pop_take, pop_count, pop_retire, close, ask_closed, ask_empty, empty_tail, ask_full, ask_len, len_head, len_tail, ask_capacity, finished, KnowsBlocks, owes, holding}
use Rattle.concurrent_queue.specs.machine.BlocksMoves.{Moves, BlocksSeat, BlocksMeans, owners}
use Rattle.concurrent_queue.specs.machine.Places.{Each}
use Rattle.concurrent_queue.specs.Step.{IsQuiet}
use Rattle.concurrent_queue.specs.machine.BlocksLeft.{left, is_keep}
use Rattle.concurrent_queue.specs.Queue.{Queue, Phase, Stage, trying, displaced, appended, taken, read, measured}
use Rattle.concurrent_queue.specs.declared.call.QueueMark.{QueueMark}
use Rattle.concurrent_queue.specs.declared.unbounded.ending.Ending.{Ending}
use Rattle.concurrent_queue.proofs.BlocksBasics.{by_bool}
use Rattle.concurrent_queue.proofs.BlocksNearer.{nearer}
use Rattle.concurrent_queue.proofs.BlocksTheorem.{seat_at, its_owners, knows, Each-out}

abbrev is_start : Duty → Bool
is_start start = true
is_start _ = false

unappended : {T : Type 0} (x : Stage T) (o : Option T) → IsQuiet x → x ≡ appended o → ⊥
unappended (trying seen) o h e = absurd cc
unappended (read n) o h e = absurd cc
unappended (measured n k) o h e = absurd cc
unappended (displaced d) o h e = h
unappended (appended d) o h e = h
unappended (taken d) o h e = h

untaken : {T : Type 0} (x : Stage T) (d : T) → IsQuiet x → x ≡ taken d → ⊥
untaken (trying seen) o h e = absurd cc
untaken (read n) o h e = absurd cc
untaken (measured n k) o h e = absurd cc
untaken (displaced d) o h e = h
untaken (appended d) o h e = h
untaken (taken d) o h e = h

holding_rest : (h : Option ℕ) (d : Duty) → is_keep d ≡ false → holding h d ≡ 0
holding_rest h (fill n) e = refl
holding_rest h (take n) e = refl
holding_rest h (count n) e = refl
holding_rest h (retire n) e = refl
holding_rest h (link n) e = refl
holding_rest h turn_tail e = refl
holding_rest h turn_head e = refl
holding_rest h start e = refl
holding_rest h (keep b) e = absurd (false≢true (sym e))

starting_rest : (d : Duty) → is_start d ≡ false → Rattle.concurrent_queue.specs.machine.BlocksCalls.starting d ≡ 0
starting_rest (fill n) e = refl
starting_rest (take n) e = refl
starting_rest (count n) e = refl
starting_rest (retire n) e = refl
starting_rest (link n) e = refl
starting_rest turn_tail e = refl
starting_rest turn_head e = refl
starting_rest start e = absurd (false≢true (sym e))
starting_rest (keep b) e = refl

-- a call without a mark owes nothing but a held block and the first head_block
idle_owes : {T : Type 0} (r : Blocks T) (a : Act T) (u : Phase T) → KnowsBlocks r a u → IsQuiet u.stage → (d : Duty) → is_keep d ≡ false → is_start d ≡ false → owes a d ≡ 0
idle_owes r (push v h) u k e d f g = holding_rest h d f
idle_owes r (push_return v h) u k e d f g = holding_rest (Some h) d f
idle_owes r (push_look v n h) u k e d f g = holding_rest h d f
idle_owes r (push_make v n) u k e d f g = refl
idle_owes r (push_first v n h) u k e d f g = holding_rest (Some h) d f
idle_owes r (push_start v n b) u k e d f g = starting_rest d g
idle_owes r (push_more v n b) u k e d f g = refl
idle_owes r (push_swap v n b h) u k e d f g = holding_rest h d f
idle_owes r (push_turn v n b h) u k e d f g = absurd (unappended u.stage None e k.0.1)
idle_owes r (push_add v n b h) u k e d f g = absurd (unappended u.stage None e k.0.1)
idle_owes r (push_link v n b h) u k e d f g = absurd (unappended u.stage None e k.0.1)
idle_owes r (push_put v n b h) u k e d f g = absurd (unappended u.stage None e k.0.1)
idle_owes r (push_store n b h) u k e d f g = absurd (unappended u.stage None e k.1.1)
idle_owes r (push_give h) u k e d f g = holding_rest (Some h) d f
idle_owes r pop u k e d f g = refl
idle_owes r (pop_look n) u k e d f g = refl
idle_owes r (pop_tail n b) u k e d f g = refl
idle_owes r (pop_swap n b) u k e d f g = refl
idle_owes r (pop_next n b) u k e d f g = absurd (untaken u.stage k.0 e k.1.1)
idle_owes r (pop_block n b c) u k e d f g = absurd (untaken u.stage k.0 e k.1.1)
idle_owes r (pop_head n b) u k e d f g = absurd (untaken u.stage k.0 e k.1.1)
idle_owes r (pop_wait n b) u k e d f g = absurd (untaken u.stage k.0 e k.1.1)
idle_owes r (pop_take n b) u k e d f g = absurd (untaken u.stage k.0 e k.1.1)
idle_owes r (pop_count n b x) u k e d f g = absurd (untaken u.stage x e k.1)
idle_owes r (pop_retire n b x) u k e d f g = absurd (untaken u.stage x e k.1)
idle_owes r close u k e d f g = refl
idle_owes r ask_closed u k e d f g = refl
idle_owes r ask_empty u k e d f g = refl
idle_owes r (empty_tail n) u k e d f g = refl
idle_owes r ask_full u k e d f g = refl
idle_owes r ask_len u k e d f g = refl
idle_owes r (len_head t) u k e d f g = refl
idle_owes r (len_tail t h) u k e d f g = refl
idle_owes r ask_capacity u k e d f g = refl
idle_owes r finished u k e d f g = refl

-- the others owe nothing
none_owe : {T : Type 0} (d : Duty) (ps : List (BlocksSeat T)) → Each (λ (q : BlocksSeat T). owes q.act d ≡ 0) ps → owners d ps ≡ 0
none_owe d [] all = refl
none_owe d (p ∷ ps) all = omega (arith, all.0, none_owe d ps all.1)

-- after a first taking the first head_block is stored
started : {T : Type 0} (r : Blocks T) (queue : List T) → SoundBlocks r queue → 1 ≤ r.head → owed r start ≡ 0
started r queue s h =
    let some : 1 ≤ r.first = by_bool r.head_turns (λ f. ⊎_elim (λ g. omega arith) (λ g. absurd (omega (arith, g.1))) (s.first f)) (λ f. (s.turned f).2) in
    let a : (r.first == 0) ≡ false = grind (arith, nat_tests) in
    rw a refl

pub left_small : {T : Type 0} (r : Blocks T) (a : Act T) → left r a < 64
left_small r (push v h) = omega arith
left_small r (push_return v h) = omega arith
left_small r (push_look v n h) = grind arith
left_small r (push_make v n) = grind arith
left_small r (push_first v n h) = grind arith
left_small r (push_start v n b) = grind arith
left_small r (push_more v n b) = grind arith
left_small r (push_swap v n b h) = grind arith
left_small r (push_turn v n b h) = omega arith
left_small r (push_add v n b h) = omega arith
left_small r (push_link v n b h) = omega arith
left_small r (push_put v n b h) = omega arith
left_small r (push_store n b h) = omega arith
left_small r (push_give h) = omega arith
left_small r pop = omega arith
left_small r (pop_look n) = grind arith
left_small r (pop_tail n None) = grind arith
left_small r (pop_tail n (Some b)) = grind arith
left_small r (pop_swap n b) = grind arith
left_small r (pop_next n b) = omega arith
left_small r (pop_block n b c) = omega arith
left_small r (pop_head n b) = omega arith
left_small r (pop_wait n b) = omega arith
left_small r (pop_take n b) = omega arith
left_small r (pop_count n b d) = omega arith
left_small r (pop_retire n b d) = omega arith
left_small r close = omega arith
left_small r ask_closed = omega arith
left_small r ask_empty = omega arith
left_small r (empty_tail n) = omega arith
left_small r ask_full = omega arith
left_small r ask_len = omega arith
left_small r (len_head t) = grind arith
left_small r (len_tail t h) = grind arith
left_small r ask_capacity = omega arith
left_small r finished = omega arith

module _ {T : Type 0} (r : Blocks T) (q : Queue T) (l r2 : List (BlocksSeat T)) (a : Act T) (p : Phase T) (means : BlocksMeans r q (l ++ seat_at a p ∷ r2)) where
  abbrev pub SeatsQuiet : Type 0
  SeatsQuiet = Each (λ (s : BlocksSeat T). IsQuiet s.phase.stage) (l ++ r2)

  owe_not : (d : Duty) → is_keep d ≡ false → is_start d ≡ false → (ps : List (BlocksSeat T)) → Each (λ (s : BlocksSeat T). KnowsBlocks r s.act s.phase) ps → Each (λ (s : BlocksSeat T). IsQuiet s.phase.stage) ps → owners d ps ≡ 0
  owe_not d f g [] k e = refl
  owe_not d f g (s ∷ ps) k e = let here = idle_owes r s.act s.phase k.0 e.0 d f g in omega (arith, here, owe_not d f g ps k.1 e.1)

  others_know : Each (λ (s : BlocksSeat T). KnowsBlocks r s.act s.phase) (l ++ r2)
  others_know = Each-out (λ (s : BlocksSeat T). KnowsBlocks r s.act s.phase) l r2 (seat_at a p) means.seats

  only_its : SeatsQuiet → (d : Duty) → is_keep d ≡ false → is_start d ≡ false → owed r d ≡ owes a d
  only_its e d f g = let i = its_owners r q l r2 a p means d in let o = owe_not d f g (l ++ r2) others_know e in omega arith

  start_owes : (1 ≤ r.head) ⊎ (l ++ r2 ≡ []) → owed r start ≡ owes a start
  start_owes or = let i = its_owners r q l r2 a p means start in ⊎_elim
      (λ h. let z = started r q.items means.stands.sound h in omega arith)
      (λ h. let o = ap (λ (ps : List (BlocksSeat T)). owners start ps) h in omega arith) or

  quiet : SeatsQuiet → (1 ≤ r.head) ⊎ (l ++ r2 ≡ []) → (d : Duty) → is_keep d ≡ false → owed r d ≡ owes a d
  quiet e or start f = start_owes or
  quiet e or (fill n) f = only_its e (fill n) refl refl
  quiet e or (take n) f = only_its e (take n) refl refl
  quiet e or (count n) f = only_its e (count n) refl refl
  quiet e or (retire n) f = only_its e (retire n) refl refl
  quiet e or (link n) f = only_its e (link n) refl refl
  quiet e or turn_tail f = only_its e turn_tail refl refl
  quiet e or turn_head f = only_its e turn_head refl refl
  quiet e or (keep b) f = absurd (false≢true (sym f))

  -- where no other call has a mark, and an item was taken before or no other call is under way, each step replies or leaves fewer steps, at most 64
  pub blocks_ends : SeatsQuiet → (1 ≤ r.head) ⊎ (l ++ r2 ≡ []) → {r' : Blocks T} {a' : Act T} {m : QueueMark} {x : Option (Ending T)} → Moves r a r' a' m x → MatchOption x (left r' a' < left r a) (λ y. Unit {0})
  blocks_ends e or move = nearer r q.items means.stands.sound p move (knows r q l r2 a p means) (quiet e or)
