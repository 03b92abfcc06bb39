-- The theorem of an unbounded queue's step: one call among all that are under way.
use Rattle.std.proofs.Common.{◌≡◌, ℕ, ◌+◌, ◌/◌, ◌≤◌, List, [], ◌∷◌, ◌++◌, Option, None, Some, MatchOption, sym, ap, ◌∙◌, arith}
use Rattle.concurrent_queue.specs.machine.BlocksState.{Blocks, Duty, take, count, owed}
use Rattle.concurrent_queue.specs.machine.BlocksCalls.{Act, push, push_return, push_look, push_make, push_first, push_start, push_more, push_swap, push_turn, push_add, push_link, push_put, push_store, push_give, pop, pop_look, pop_tail, pop_swap, pop_next, pop_block, pop_head, pop_wait, pop_take, pop_count, pop_retire, close, ask_closed, ask_empty, empty_tail, ask_full, ask_len, len_head, len_tail, ask_capacity, finished, KnowsBlocks, same, owes}
use Rattle.concurrent_queue.specs.machine.BlocksMoves.{Moves, Later, BlocksKept, BlocksSeat, BlocksMeans, owners, answer}
use Rattle.concurrent_queue.specs.machine.Places.{Each}
use Rattle.concurrent_queue.specs.Queue.{Queue, Phase, after, Continues, Answers}
use Rattle.concurrent_queue.proofs.BlocksSteps.{by_eq}
use Rattle.concurrent_queue.proofs.BlocksLater.{same_is, same_not}
use Rattle.concurrent_queue.proofs.BlocksOthers.{later_keeps}
use Rattle.concurrent_queue.proofs.BlocksDispatch.{blocks_keeps}
use Rattle.concurrent_queue.specs.declared.call.QueueMark.{QueueMark}
use Rattle.concurrent_queue.specs.declared.unbounded.ending.Ending.{Ending}

-- one among many
pub Each-in : {A : Type 0} (P : A → Type 0) (l r : List A) (x : A) → Each P (l ++ x ∷ r) → P x
Each-in P [] r x h = h.0
Each-in P (y ∷ l) r x h = Each-in P l r x h.1

pub Each-out : {A : Type 0} (P : A → Type 0) (l r : List A) (x : A) → Each P (l ++ x ∷ r) → Each P (l ++ r)
Each-out P [] r x h = h.1
Each-out P (y ∷ l) r x h = (h.0, Each-out P l r x h.1)

pub Each-with : {A : Type 0} (P : A → Type 0) (l r : List A) (x : A) → P x → Each P (l ++ r) → Each P (l ++ x ∷ r)
Each-with P [] r x p h = (p, h)
Each-with P (y ∷ l) r x p h = (h.0, Each-with P l r x p h.1)

module _ {T : Type 0} (d : Duty) where
  pub owners_with : (l r : List (BlocksSeat T)) (x : BlocksSeat T) → owners d (l ++ x ∷ r) ≡ owners d (l ++ r) + owes x.act d
  owners_with [] r x = omega arith
  owners_with (p ∷ l) r x = omega (arith, owners_with l r x)

-- the others' knowledge, each of them owing with this call no more than all owe
module _ {T : Type 0} (P Q : BlocksSeat T → Type 0) (a : Act T) (most : Duty → ℕ) (other : (s : BlocksSeat T) → P s → ((d : Duty) → owes s.act d + owes a d ≤ most d) → Q s) where
  pub all_others : (ps : List (BlocksSeat T)) → ((d : Duty) → owners d ps + owes a d ≤ most d) → Each P ps → Each Q ps
  all_others [] h all = tt
  all_others (p ∷ ps) h all = (other p all.0 (λ d. omega (arith, h d)), all_others ps (λ d. omega (arith, h d)) all.1)

-- who still takes from a block hasn't counted its read there
same_below : (n m : ℕ) → same n m ≤ same (n / 31) (m / 31)
same_below n m = by_eq m n (λ e. let q = same_is n m e in let p = same_is (n / 31) (m / 31) (ap (λ (j : ℕ). j / 31) e) in omega arith) (λ ne. let q = same_not n m ne in omega arith)

takes_count : {T : Type 0} (m : ℕ) (a : Act T) → owes a (take m) ≤ owes a (count (m / 31))
takes_count m (push v h) = omega arith
takes_count m (push_return v h) = omega arith
takes_count m (push_look v n h) = omega arith
takes_count m (push_make v n) = omega arith
takes_count m (push_first v n h) = omega arith
takes_count m (push_start v n b) = omega arith
takes_count m (push_more v n b) = omega arith
takes_count m (push_swap v n b h) = omega arith
takes_count m (push_turn v n b h) = omega arith
takes_count m (push_add v n b h) = omega arith
takes_count m (push_link v n b h) = omega arith
takes_count m (push_put v n b h) = omega arith
takes_count m (push_store n b h) = omega arith
takes_count m (push_give h) = omega arith
takes_count m pop = omega arith
takes_count m (pop_look n) = omega arith
takes_count m (pop_tail n b) = omega arith
takes_count m (pop_swap n b) = omega arith
takes_count m (pop_next n b) = same_below n m
takes_count m (pop_block n b c) = same_below n m
takes_count m (pop_head n b) = same_below n m
takes_count m (pop_wait n b) = same_below n m
takes_count m (pop_take n b) = same_below n m
takes_count m (pop_count n b d) = omega arith
takes_count m (pop_retire n b d) = omega arith
takes_count m close = omega arith
takes_count m ask_closed = omega arith
takes_count m ask_empty = omega arith
takes_count m (empty_tail n) = omega arith
takes_count m ask_full = omega arith
takes_count m ask_len = omega arith
takes_count m (len_head t) = omega arith
takes_count m (len_tail t h) = omega arith
takes_count m ask_capacity = omega arith
takes_count m finished = omega arith

takers : {T : Type 0} (m : ℕ) (ps : List (BlocksSeat T)) → owners (take m) ps ≤ owners (count (m / 31)) ps
takers m [] = omega arith
takers m (p ∷ ps) = omega (arith, takers m ps, takes_count m p.act)

abbrev pub seat_at : {T : Type 0} → Act T → Phase T → BlocksSeat T
seat_at a p = record { act = a; phase = p }

-- what a step of one call leaves: it goes on or ends, and the queue and the calls under way mean the queue after its mark
abbrev pub Advances : {T : Type 0} → Blocks T → Queue T → Phase T → List (BlocksSeat T) → List (BlocksSeat T) → Act T → QueueMark → Option (Ending T) → Type 0
Advances {T} r' q p left right a' m x = MatchOption x
    ((p' : Phase T) × Continues q p m p' × BlocksMeans r' (after p m q) (left ++ seat_at a' p' ∷ right))
    (λ y. Answers q p m (answer p.ask y) × BlocksMeans r' (after p m q) (left ++ right))

module _ {T : Type 0} (r : Blocks T) (q : Queue T) (left right : List (BlocksSeat T)) (a : Act T) (p : Phase T) (means : BlocksMeans r q (left ++ seat_at a p ∷ right)) where
  pub its_owners : (d : Duty) → owners d (left ++ right) + owes a d ≡ owed r d
  its_owners d = sym (owners_with d left right (seat_at a p)) ∙ means.owners d

  -- no other call still takes from the block, if this one counts the only read that is left
  dry : (m : ℕ) → owes a (count (m / 31)) ≡ 1 → owes a (take m) ≡ 0 → owed r (count (m / 31)) ≡ 1 → owed r (take m) ≡ 0
  dry m c t one = omega (arith, takers m (left ++ right), its_owners (take m), its_owners (count (m / 31)), c, t, one)

  mine : (d : Duty) → owes a d ≤ owed r d
  mine d = omega (arith, its_owners d)

  pub knows : KnowsBlocks r a p
  knows = Each-in (λ (s : BlocksSeat T). KnowsBlocks r s.act s.phase) left right (seat_at a p) means.seats

  still_know : {r' : Blocks T} → Later r r' a → Each (λ (s : BlocksSeat T). KnowsBlocks r' s.act s.phase) (left ++ right)
  still_know {r'} l = all_others (λ (s : BlocksSeat T). KnowsBlocks r s.act s.phase) (λ (s : BlocksSeat T). KnowsBlocks r' s.act s.phase) a (λ d. owed r d)
      (λ s k ne. later_keeps r q.items means.stands.sound r' a l s.act s.phase ne k) (left ++ right) (λ d. omega (arith, its_owners d))
      (Each-out (λ (s : BlocksSeat T). KnowsBlocks r s.act s.phase) left right (seat_at a p) means.seats)

  kept_means : {r' : Blocks T} {a' : Act T} {m : QueueMark} (x : Option (Ending T)) → BlocksKept r q a p r' a' m x → Advances r' q p left right a' m x
  kept_means {r'} {a'} {m} None f =
      let p' = f.leaves.0 in (
        p',
        f.leaves.1,
        record {
          stands = f.stands;
          owners = λ d. (let w = owners_with d left right (seat_at a' p') in let o = f.owners d in let i = its_owners d in omega arith);
          seats = Each-with (λ (s : BlocksSeat T). KnowsBlocks r' s.act s.phase) left right (seat_at a' p') f.leaves.2 (still_know f.others);
        },
      )
  kept_means {r'} {a'} {m} (Some y) f = (
    f.leaves.0,
    record {
      stands = f.stands;
      owners = λ d. (let e : owes a' d ≡ 0 = ap (λ (z : Act T). owes z d) f.leaves.1 in let o = f.owners d in let i = its_owners d in omega arith);
      seats = still_know f.others;
    },
  )

  -- a step of one call leaves a queue that means the queue after its mark, and its reply is one that the call may give
  pub blocks_advances : {r' : Blocks T} {a' : Act T} {m : QueueMark} {x : Option (Ending T)} → Moves r a r' a' m x → Advances r' q p left right a' m x
  blocks_advances {r'} {a'} {m} {x} move = kept_means x (blocks_keeps r q means.stands.sound means.stands p move knows mine dry)
