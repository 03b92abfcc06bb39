-- A step of an unbounded queue's call on its cells: one cell, the same form, a move on the numbers, and the rank.
use Rattle.std.proofs.Common.{◌≡◌, ℕ, ◌+◌, ◌-◌, ◌/◌, ◌%◌, ◌^◌, ◌≤◌, ⊎_elim, true, false, ◌==◌, not, List, Option, None, Some, bit_or, refl, sym, ap, ◌∙◌, subst, inl, inr, arith}
use Rattle.concurrent_queue.specs.Contents.{Contents, write, write_slot, without_spare, with_retired, block_at, can_put}
use Rattle.concurrent_queue.specs.Queue.{Phase}
use Rattle.concurrent_queue.specs.Step.{OneCell}
use Rattle.concurrent_queue.specs.machine.BlocksState.{Blocks, SoundBlocks, Duty, count, owed, number, tail_word}
use Rattle.concurrent_queue.specs.machine.BlocksState as duty
use Rattle.concurrent_queue.specs.machine.BlocksCalls.{KnowsBlocks, owes}
use Rattle.concurrent_queue.specs.machine.BlocksDenotes.{Denotes, Shows, act_of, IsTailAt, IsHeadAt, IsProper}
use Rattle.concurrent_queue.specs.machine.BlocksLeft as left
use Rattle.concurrent_queue.specs.machine.BlocksLeft.{unbounded_rank}
use Rattle.concurrent_queue.specs.machine.BlocksWords.{Step, IsUnboundedStep, Obtains}
use Rattle.concurrent_queue.specs.declared.cells.Word.{Word}
use Rattle.concurrent_queue.specs.declared.cells.Word.TheVariants as word
use Rattle.concurrent_queue.specs.declared.cells.Slot.TheVariants as slot
use Rattle.concurrent_queue.specs.declared.unbounded.action.UnboundedAction.{UnboundedAction}
use Rattle.concurrent_queue.specs.declared.unbounded.action.UnboundedAction.TheVariants as act
use Rattle.concurrent_queue.proofs.BlocksBasics.{by_bool}
use Rattle.concurrent_queue.proofs.BlocksSteps.{by_eq}
use Rattle.concurrent_queue.proofs.BlocksOthers.{same_self}
use Rattle.concurrent_queue.proofs.BlocksDenote as words_of
use Rattle.concurrent_queue.proofs.BlocksPushWords as pushes
use Rattle.concurrent_queue.proofs.BlocksPopWords as pops
use Rattle.concurrent_queue.proofs.BlocksYields.{Yields, choose, eq_is, eq_not, named_none, named_some}

module _ {T : Type 0} where
  -- ---- at most one cell, and the same form

  abbrev pub IsSmall : Contents T → Contents T → Type 0
  IsSmall c d = OneCell c d × (d.form ≡ c.form)

  same_cells : (c : Contents T) → IsSmall c c
  unfolding OneCell
  same_cells c = (inl refl, refl)

  word_form : (c : Contents T) (w : Word) (x : ℕ) → (write c w x).form ≡ c.form
  word_form c word.State x = refl
  word_form c word.Head x = refl
  word_form c word.Tail x = refl
  word_form c (word.Stamp i) x = refl
  word_form c word.HeadBlock x = refl
  word_form c word.TailBlock x = refl
  word_form c (word.Next b) x = refl
  word_form c (word.Reads b) x = refl
  word_form c (word.Written b i) x = refl

  one_word : (c : Contents T) (w : Word) (x : ℕ) → IsSmall c (write c w x)
  unfolding OneCell
  one_word c w x = (inr (inl (w, x, refl)), word_form c w x)

  one_slot : (c : Contents T) (b i : ℕ) (o : Option T) → IsSmall c (write_slot c (slot.In b i) o)
  unfolding OneCell
  one_slot c b i o = (inr (inr (inl (slot.In b i, o, refl))), refl)

  one_spare : (c : Contents T) → IsSmall c (without_spare c)
  unfolding OneCell
  one_spare c = (inr (inr (inr (inl refl))), refl)

  one_retired : (c : Contents T) (b : ℕ) → IsSmall c (with_retired c b)
  unfolding OneCell
  one_retired c b = (inr (inr (inr (inr (b, refl)))), refl)

  abbrev Small : Contents T → Step T → Type 0
  Small c x = IsSmall c x.0

  obtains_small : (c : Contents T) (v : T) (next : ℕ → UnboundedAction T) (x : Step T) → Obtains c v next x → Small c x
  obtains_small c v next x o = ⊎_elim (λ g. subst (Small c) (sym g.0) (one_spare c)) (λ g. subst (Small c) (sym g.1) (same_cells c)) o

  pub small_step : (c : Contents T) (a : UnboundedAction T) (x : Step T) → IsUnboundedStep c a x → Small c x
  small_step c (act.Push v h) x e = subst (Small c) (sym e) (same_cells c)
  small_step c (act.PushShut v h) x e = subst (Small c) (sym e) (one_word c word.Tail (bit_or c.tail 1))
  small_step c (act.PushReturn v h) x e = subst (Small c) (sym e) (one_retired c h)
  small_step c (act.PushLook v t h) x e = subst (Small c) (sym e) (same_cells c)
  small_step c (act.PushMake v t) x e = obtains_small c v (λ h. act.PushFirst v t h) x e
  small_step c (act.PushFirst v t h) x e = subst (Small c) (sym e) (choose (λ (y : Step T). Small c y) (c.tail_block == 0) (λ g. one_word c word.TailBlock ((h + 1) % 2 ^ 64)) (λ g. same_cells c))
  small_step c (act.PushStart v t b) x e = subst (Small c) (sym e) (one_word c word.HeadBlock ((b + 1) % 2 ^ 64))
  small_step c (act.PushMore v t b) x e = obtains_small c v (λ h. act.PushSwap v t b (Some h)) x e
  small_step c (act.PushSwap v t b h) x e = subst (Small c) (sym e) (choose (λ (y : Step T). Small c y) (c.tail == t) (λ g. one_word c word.Tail ((t + 2) % 2 ^ 64)) (λ g. same_cells c))
  small_step c (act.PushTurn v t b h) x e = subst (Small c) (sym e) (one_word c word.TailBlock ((h + 1) % 2 ^ 64))
  small_step c (act.PushAdd v t b h) x e = subst (Small c) (sym e) (one_word c word.Tail ((c.tail + 2) % 2 ^ 64))
  small_step c (act.PushLink v t b h) x e = subst (Small c) (sym e) (one_word c (word.Next b) ((h + 1) % 2 ^ 64))
  small_step c (act.PushPut v t b h) x e = subst (Small c) (sym e) (choose (λ (y : Step T). Small c y) (can_put c (slot.In b (t / 2 % 32))) (λ g. one_slot c b (t / 2 % 32) (Some v)) (λ g. same_cells c))
  small_step c (act.PushStore t b h) x e = subst (Small c) (sym e) (one_word c (word.Written b (t / 2 % 32)) 1)
  small_step c (act.PushGive h) x e = subst (Small c) (sym e) (one_retired c h)
  small_step c act.Pop x e = subst (Small c) (sym e) (same_cells c)
  small_step c (act.PopLook p) x e = subst (Small c) (sym e) (same_cells c)
  small_step c (act.PopTail p b) x e = subst (Small c) (sym e) (same_cells c)
  small_step c (act.PopSwap p b) x e = subst (Small c) (sym e) (choose (λ (y : Step T). Small c y) (c.head == p) (λ g. one_word c word.Head ((p + 1) % 2 ^ 64)) (λ g. same_cells c))
  small_step c (act.PopNext p b) x e = subst (Small c) (sym e) (same_cells c)
  small_step c (act.PopBlock p b n) x e = subst (Small c) (sym e) (one_word c word.HeadBlock n)
  small_step c (act.PopHead p b) x e = subst (Small c) (sym e) (one_word c word.Head ((p + 2) % 2 ^ 64))
  small_step c (act.PopWait p b) x e = subst (Small c) (sym e) (same_cells c)
  small_step c (act.PopTake p b) x e = subst (Small c) (sym e) (one_slot c b (p % 32) None)
  small_step c (act.PopCount p b d) x e = subst (Small c) (sym e) (one_word c (word.Reads b) (((block_at c b).reads + 1) % 2 ^ 64))
  small_step c (act.PopRetire p b d) x e = subst (Small c) (sym e) (one_retired c b)
  small_step c act.Close x e = subst (Small c) (sym e) (one_word c word.Tail (bit_or c.tail 1))
  small_step c act.AskClosed x e = subst (Small c) (sym e) (same_cells c)
  small_step c act.AskEmpty x e = subst (Small c) (sym e) (same_cells c)
  small_step c (act.EmptyTail p) x e = subst (Small c) (sym e) (same_cells c)
  small_step c act.AskFull x e = subst (Small c) (sym e) (same_cells c)
  small_step c act.AskLen x e = subst (Small c) (sym e) (same_cells c)
  small_step c (act.LenHead t) x e = subst (Small c) (sym e) (same_cells c)
  small_step c (act.LenTail t p) x e = subst (Small c) (sym e) (same_cells c)
  small_step c act.AskCapacity x e = subst (Small c) (sym e) (same_cells c)
  small_step c act.Finished x e = subst (Small c) (sym e) (same_cells c)

module _ {T : Type 0} (c : Contents T) (r : Blocks T) (queue : List T) (s : SoundBlocks r queue) (d : Denotes c r) (u : Phase T) (small : r.tail ≤ 2 ^ 61) where
  counts_its : (a : UnboundedAction T) (k : ℕ) → ((e : Duty) → owes (act_of a) e ≤ owed r e) → owes (act_of a) (count k) ≡ 1 → 1 ≤ owed r (count k)
  counts_its a k mine e = let m = mine (count k) in omega arith

  -- each step on the words is a step on the numbers
  pub yields : (a : UnboundedAction T) (x : Step T) → IsProper a → KnowsBlocks r (act_of a) u → ((e : Duty) → owes (act_of a) e ≤ owed r e) → IsUnboundedStep c a x → Yields r a x
  yields (act.Push v h) x w f mine e = subst (Yields r (act.Push v h)) (sym e) (pushes.at-push c r queue s d u small v h)
  yields (act.PushShut v h) x w f mine e = absurd w
  yields (act.PushReturn v h) x w f mine e = subst (Yields r (act.PushReturn v h)) (sym e) (pushes.at-push_return c r queue s d u small v h f)
  yields (act.PushLook v t h) x w f mine e = subst (Yields r (act.PushLook v t h)) (sym e) (pushes.at-push_look c r queue s d u small v t h w)
  yields (act.PushMake v t) x w f mine e = pushes.at-push_make c r queue s d u small v t x w e
  yields (act.PushFirst v t h) x w f mine e = subst (Yields r (act.PushFirst v t h)) (sym e) (pushes.at-push_first c r queue s d u small v t h w f)
  yields (act.PushStart v t b) x w f mine e = subst (Yields r (act.PushStart v t b)) (sym e) (pushes.at-push_start c r queue s d u small v t b w f)
  yields (act.PushMore v t b) x w f mine e = pushes.at-push_more c r queue s d u small v t b x w e
  yields (act.PushSwap v t b h) x w f mine e = subst (Yields r (act.PushSwap v t b h)) (sym e) (pushes.at-push_swap c r queue s d u small v t b h w)
  yields (act.PushTurn v t b h) x w f mine e = subst (Yields r (act.PushTurn v t b h)) (sym e) (pushes.at-push_turn c r queue s d u small v t b h w f)
  yields (act.PushAdd v t b h) x w f mine e = subst (Yields r (act.PushAdd v t b h)) (sym e) (pushes.at-push_add c r queue s d u small v t b h w f)
  yields (act.PushLink v t b h) x w f mine e = subst (Yields r (act.PushLink v t b h)) (sym e) (pushes.at-push_link c r queue s d u small v t b h w f)
  yields (act.PushPut v t b h) x w f mine e = subst (Yields r (act.PushPut v t b h)) (sym e) (pushes.at-push_put c r queue s d u small v t b h w f)
  yields (act.PushStore t b h) x w f mine e = subst (Yields r (act.PushStore t b h)) (sym e) (pushes.at-push_store c r queue s d u small t b h w f)
  yields (act.PushGive h) x w f mine e = subst (Yields r (act.PushGive h)) (sym e) (pushes.at-push_give c r queue s d u small h f)
  yields act.Pop x w f mine e = subst (Yields r act.Pop) (sym e) (pops.at-pop c r queue s d u small)
  yields (act.PopLook p) x w f mine e = subst (Yields r (act.PopLook p)) (sym e) (pops.at-pop_look c r queue s d u small p w)
  yields (act.PopTail p b) x w f mine e = subst (Yields r (act.PopTail p b)) (sym e) (pops.at-pop_tail c r queue s d u small p b w)
  yields (act.PopSwap p b) x w f mine e = subst (Yields r (act.PopSwap p b)) (sym e) (pops.at-pop_swap c r queue s d u small p b w)
  yields (act.PopNext p b) x w f mine e = subst (Yields r (act.PopNext p b)) (sym e) (pops.at-pop_next c r queue s d u small p b w f (counts_its (act.PopNext p b) (number p / 31) mine (same_self (number p / 31))))
  yields (act.PopBlock p b n) x w f mine e = subst (Yields r (act.PopBlock p b n)) (sym e) (pops.at-pop_block c r queue s d u small p b n w.0 w.1 f)
  yields (act.PopHead p b) x w f mine e = subst (Yields r (act.PopHead p b)) (sym e) (pops.at-pop_head c r queue s d u small p b w f)
  yields (act.PopWait p b) x w f mine e = subst (Yields r (act.PopWait p b)) (sym e) (pops.at-pop_wait c r queue s d u small p b w f (counts_its (act.PopWait p b) (number p / 31) mine (same_self (number p / 31))))
  yields (act.PopTake p b) x w f mine e = subst (Yields r (act.PopTake p b)) (sym e) (pops.at-pop_take c r queue s d u small p b w f (counts_its (act.PopTake p b) (number p / 31) mine (same_self (number p / 31))))
  yields (act.PopCount p b v) x w f mine e = subst (Yields r (act.PopCount p b v)) (sym e) (pops.at-pop_count c r queue s d u small p b v w f (counts_its (act.PopCount p b v) (number p / 31) mine (same_self (number p / 31))))
  yields (act.PopRetire p b v) x w f mine e = subst (Yields r (act.PopRetire p b v)) (sym e) (pops.at-pop_retire c r queue s d u small p b v w f (let m = mine (duty.retire (number p / 31)) in let o = same_self (number p / 31) in omega arith))
  yields act.Close x w f mine e = subst (Yields r act.Close) (sym e) (pops.at-close c r queue s d u small)
  yields act.AskClosed x w f mine e = subst (Yields r act.AskClosed) (sym e) (pops.at-ask_closed c r queue s d u small)
  yields act.AskEmpty x w f mine e = subst (Yields r act.AskEmpty) (sym e) (pops.at-ask_empty c r queue s d u small)
  yields (act.EmptyTail p) x w f mine e = subst (Yields r (act.EmptyTail p)) (sym e) (pops.at-empty_tail c r queue s d u small p)
  yields act.AskFull x w f mine e = subst (Yields r act.AskFull) (sym e) (pops.at-ask_full c r queue s d u small)
  yields act.AskLen x w f mine e = subst (Yields r act.AskLen) (sym e) (pops.at-ask_len c r queue s d u small)
  yields (act.LenHead t) x w f mine e = subst (Yields r (act.LenHead t)) (sym e) (pops.at-len_head c r queue s d u small t)
  yields (act.LenTail t p) x w f mine e = subst (Yields r (act.LenTail t p)) (sym e) (pops.at-len_tail c r queue s d u small t p)
  yields act.AskCapacity x w f mine e = subst (Yields r act.AskCapacity) (sym e) (pops.at-ask_capacity c r queue s d u small)
  yields act.Finished x w f mine e = absurd f

-- ---- the rank by the words is the rank by the numbers

module _ {T : Type 0} (c : Contents T) (r : Blocks T) (queue : List T) (s : SoundBlocks r queue) (d : Denotes c r) where
  same_tail : (t : ℕ) → IsTailAt t → not (c.tail == t) ≡ left.tail_moved r (number (t / 2))
  same_tail t w = by_eq c.tail t
      (λ e. (let m = words_of.tail_met c r queue s d t w e in rw (eq_is c.tail t e, m.0, m.1, eq_is r.tail (number (t / 2)) m.2) refl))
      (λ ne. (let l = words_of.tail_lost c r queue s d t w ne in rw (eq_not c.tail t ne) (sym (moved l))))
    where
      moved : (r.tail ≡ number (t / 2) → r.closed ≡ false → r.tail_turns ≡ false → ⊥) → left.tail_moved r (number (t / 2)) ≡ true
      moved l = by_eq r.tail (number (t / 2))
          (λ e. by_bool r.closed (λ o. by_bool r.tail_turns (λ f. absurd (l e o f)) (λ f. rw (eq_is r.tail (number (t / 2)) e, o, f) refl)) (λ o. rw (eq_is r.tail (number (t / 2)) e, o) refl))
          (λ ne. rw (eq_not r.tail (number (t / 2)) ne) refl)

  same_head : (p : ℕ) → IsHeadAt p → not (c.head == p) ≡ left.head_moved r (number p)
  same_head p w = by_eq c.head p
      (λ e. (let m = words_of.head_met c r queue s d p w e in rw (eq_is c.head p e, m.0, eq_is r.head (number p) m.1) refl))
      (λ ne. (let l = words_of.head_lost c r queue s d p w ne in rw (eq_not c.head p ne) (sym (moved l))))
    where
      moved : (r.head ≡ number p → r.head_turns ≡ false → ⊥) → left.head_moved r (number p) ≡ true
      moved l = by_eq r.head (number p)
          (λ e. by_bool r.head_turns (λ f. absurd (l e f)) (λ f. rw (eq_is r.head (number p) e, f) refl))
          (λ ne. rw (eq_not r.head (number p) ne) refl)

  same_none : (f w : ℕ) → Shows r f w → (w == 0) ≡ (f == 0)
  same_none f w h = ⊎_elim (λ g. eq_is w 0 g.1 ∙ sym (eq_is f 0 g.0)) (λ g. eq_not w 0 (λ q. omega (arith, g.1)) ∙ sym (eq_not f 0 (λ q. omega (arith, g.0)))) h

  same_word : (t : ℕ) → not (c.tail == t) ≡ not (tail_word r == t)
  same_word t = ap (λ (w : ℕ). not (w == t)) d.tail

  pub rank_is : (a : UnboundedAction T) → IsProper a → unbounded_rank c a ≡ left.left r (act_of a)
  rank_is (act.Push v h) w = refl
  rank_is (act.PushShut v h) w = absurd w
  rank_is (act.PushReturn v h) w = refl
  rank_is (act.PushLook v t h) w = rw (same_tail t w) refl
  rank_is (act.PushMake v t) w = rw (same_tail t w, same_none r.last c.tail_block d.tail_block) refl
  rank_is (act.PushFirst v t h) w = rw (same_tail t w, same_none r.last c.tail_block d.tail_block) refl
  rank_is (act.PushStart v t b) w = rw (same_tail t w) refl
  rank_is (act.PushMore v t b) w = rw (same_tail t w) refl
  rank_is (act.PushSwap v t b h) w = rw (same_tail t w.0) refl
  rank_is (act.PushTurn v t b h) w = refl
  rank_is (act.PushAdd v t b h) w = refl
  rank_is (act.PushLink v t b h) w = refl
  rank_is (act.PushPut v t b h) w = refl
  rank_is (act.PushStore t b h) w = refl
  rank_is (act.PushGive h) w = refl
  rank_is act.Pop w = refl
  rank_is (act.PopLook p) w = rw (same_head p w) refl
  rank_is (act.PopTail p b) w = by_eq b 0
      (λ e. rw (named_none b e, same_head p w, same_none r.first c.head_block d.head_block) refl)
      (λ ne. rw (named_some b (b - 1) (omega arith), same_head p w) refl)
  rank_is (act.PopSwap p b) w = rw (same_head p w) refl
  rank_is (act.PopNext p b) w = refl
  rank_is (act.PopBlock p b n) w = refl
  rank_is (act.PopHead p b) w = refl
  rank_is (act.PopWait p b) w = refl
  rank_is (act.PopTake p b) w = refl
  rank_is (act.PopCount p b v) w = refl
  rank_is (act.PopRetire p b v) w = refl
  rank_is act.Close w = refl
  rank_is act.AskClosed w = refl
  rank_is act.AskEmpty w = refl
  rank_is (act.EmptyTail p) w = refl
  rank_is act.AskFull w = refl
  rank_is act.AskLen w = refl
  rank_is (act.LenHead t) w = rw (same_word t) refl
  rank_is (act.LenTail t p) w = rw (same_word t) refl
  rank_is act.AskCapacity w = refl
  rank_is act.Finished w = refl
