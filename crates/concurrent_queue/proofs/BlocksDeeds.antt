-- The operations of the fast paths of a push and of a pop over blocks are those of their machine, whatever they are answered.
use Rattle.std.proofs.Common.{◌≡◌, ℕ, ◌+◌, ◌-◌, ◌/◌, ◌%◌, ◌^◌, ◌==◌, ◌<◌, ◌≤◌, Bool, true, false, nat_le, if◌then◌else◌, None, Some, Option, Result, Ok, Err, is_err, refl, sym, subst, arith}
use Rattle.std.proofs.lemmas.Bool.Decides.{nat_tests}
use Rattle.concurrent_queue.specs.Deeds.{Deed, loaded, stored, exchanged, added, did_put, did_take, spared, retired}
use Rattle.concurrent_queue.specs.machine.FastPath.{IsStep, PushesOnEnd, PopsOnEnd}
use Rattle.concurrent_queue.specs.machine.BlocksMakes.{ProgressMakes, ActionMakes}
use Rattle.concurrent_queue.specs.machine.BlocksState.{number}
use Rattle.concurrent_queue.specs.machine.BlocksWords.{stays, finishes, tells, after_tail, after_tail_block, after_swap, after_head, after_pop_tail, after_pop_swap, after_next, after_written, after_read}
use Rattle.concurrent_queue.specs.declared.call.QueueMark.{QueueMark}
use Rattle.concurrent_queue.specs.declared.call.QueueMark.TheVariants.{Nothing, Append, Take}
use Rattle.concurrent_queue.specs.declared.call.QueueReply.TheVariants as reply
use Rattle.concurrent_queue.specs.declared.cells.Slot.TheVariants.{In}
use Rattle.concurrent_queue.specs.declared.cells.Word.TheVariants.{Head, Tail, HeadBlock, TailBlock, Next, Reads, Written}
use Rattle.concurrent_queue.specs.declared.error.NoMemory.{NoMemory}
use Rattle.concurrent_queue.specs.declared.error.PopError.{PopError}
use Rattle.concurrent_queue.specs.declared.error.PopError.TheVariants as pop_error
use Rattle.concurrent_queue.specs.declared.error.PushError.TheVariants as push_error
use Rattle.concurrent_queue.specs.declared.unbounded.action.Progress.{Progress}
use Rattle.concurrent_queue.specs.declared.unbounded.action.UnboundedAction.{UnboundedAction}
use Rattle.concurrent_queue.specs.declared.unbounded.action.UnboundedAction.TheVariants as act
use Rattle.concurrent_queue.specs.declared.unbounded.ending.Ending.TheVariants as ending
use Rattle.concurrent_queue.proofs.BlocksYields.{eq_is, eq_not}

far : (n : ℕ) → 9223372036854775744 ≤ n → nat_le 9223372036854775744 n ≡ true
far n more = grind (arith, nat_tests, more)

near : (n : ℕ) → n < 9223372036854775744 → nat_le 9223372036854775744 n ≡ false
near n less = grind (arith, nat_tests, less)

module _ {T S : Type 0} (did : Deed T → S → S → Type 0) (s t : S) where
  abbrev going : UnboundedAction T → QueueMark → Progress T
  going a m = record { action = a; mark = m; ending = None }

  goes : (a b : UnboundedAction T) (m : QueueMark) → ProgressMakes did s a t (going b m) → IsStep (ActionMakes did) s a t b
  goes a b m made = (m, (going b m, made, refl))

  -- ---- a push

  module _ (v : T) (x : ℕ) where
    module _ (deed : did (loaded Tail x) s t) where
      pub tail_closed : x % 2 ≡ 1 → PushesOnEnd (ActionMakes did) s (act.Push v None) (Ok (Err (push_error.Closed v))) t
      tail_closed shut =
          let e : (x % 2 == 1) ≡ true = eq_is _ _ shut in
          let g : finishes (ending.Closed v) ≡ after_tail v None x = rw e refl in
          (0, (s, act.Push v None, act.Finished, Nothing, (refl, refl), (finishes (ending.Closed v), (x, deed, g), refl)))

      module _ (unshut : x % 2 ≡ 1 → ⊥) where
        open_ : (x % 2 == 1) ≡ false
        open_ = eq_not _ _ unshut

        pub positions_end : 9223372036854775744 ≤ x / 2 → IsStep (ActionMakes did) s (act.Push v None) t (act.PushShut v None)
        positions_end more =
            let e : nat_le 9223372036854775744 (x / 2) ≡ true = far _ more in
            let g : stays (act.PushShut v None) ≡ after_tail v None x = rw (open_, e) refl in
            goes (act.Push v None) (act.PushShut v None) Nothing (x, deed, g)

        module _ (room : x / 2 < 9223372036854775744) where
          pub between_blocks : x / 2 % 32 ≡ 31 → IsStep (ActionMakes did) s (act.Push v None) t (act.Push v None)
          between_blocks turns =
              let e : (x / 2 % 32 == 31) ≡ true = eq_is _ _ turns in
              let g : stays (act.Push v None) ≡ after_tail v None x = rw (open_, near _ room, e) refl in
              goes (act.Push v None) (act.Push v None) Nothing (x, deed, g)

          pub tail_loaded : (x / 2 % 32 ≡ 31 → ⊥) → IsStep (ActionMakes did) s (act.Push v None) t (act.PushLook v x None)
          tail_loaded rests =
              let e : (x / 2 % 32 == 31) ≡ false = eq_not _ _ rests in
              let g : stays (act.PushLook v x None) ≡ after_tail v None x = rw (open_, near _ room, e) refl in
              goes (act.Push v None) (act.PushLook v x None) Nothing (x, deed, g)

    module _ (w : ℕ) (deed : did (loaded TailBlock w) s t) where
      pub no_block : w ≡ 0 → IsStep (ActionMakes did) s (act.PushLook v x None) t (act.PushMake v x)
      no_block none =
          let e : (w == 0) ≡ true = eq_is _ _ none in
          let g : stays (act.PushMake v x) ≡ after_tail_block v x None w = rw e refl in
          goes (act.PushLook v x None) (act.PushMake v x) Nothing (w, deed, g)

      module _ (there : w ≡ 0 → ⊥) where
        pub block_found : (x / 2 % 32 ≡ 30 → ⊥) → IsStep (ActionMakes did) s (act.PushLook v x None) t (act.PushSwap v x (w - 1) None)
        block_found midst =
            let e : (w == 0) ≡ false = eq_not _ _ there in
            let e1 : (x / 2 % 32 == 30) ≡ false = eq_not _ _ midst in
            let g : stays (act.PushSwap v x (w - 1) None) ≡ after_tail_block v x None w = rw (e, e1) refl in
            goes (act.PushLook v x None) (act.PushSwap v x (w - 1) None) Nothing (w, deed, g)

        pub last_found : x / 2 % 32 ≡ 30 → IsStep (ActionMakes did) s (act.PushLook v x None) t (act.PushMore v x (w - 1))
        last_found last =
            let e : (w == 0) ≡ false = eq_not _ _ there in
            let e1 : (x / 2 % 32 == 30) ≡ true = eq_is _ _ last in
            let g : stays (act.PushMore v x (w - 1)) ≡ after_tail_block v x None w = rw (e, e1) refl in
            goes (act.PushLook v x None) (act.PushMore v x (w - 1)) Nothing (w, deed, g)

    module _ (b : ℕ) where
      pub block_got : (h : ℕ) → did (spared (Ok h)) s t → IsStep (ActionMakes did) s (act.PushMore v x b) t (act.PushSwap v x b (Some h))
      block_got h deed = goes (act.PushMore v x b) (act.PushSwap v x b (Some h)) Nothing (Ok h, deed, refl)

      pub block_refused : (e : NoMemory) → did (spared (Err e)) s t → PushesOnEnd (ActionMakes did) s (act.PushMore v x b) (Ok (Err (push_error.NoMemory v))) t
      block_refused e deed = (0, (s, act.PushMore v x b, act.Finished, Nothing, (refl, refl), (finishes (ending.NoMemory v), (Err e, deed, refl), refl)))

      pub place_won : (o : Result ℕ ℕ) → is_err o ≡ false → did (exchanged Tail x ((x + 2) % 2 ^ 64) o) s t → IsStep (ActionMakes did) s (act.PushSwap v x b None) t (act.PushPut v x b None)
      place_won (Ok w) e deed = goes (act.PushSwap v x b None) (act.PushPut v x b None) Append (Ok w, deed, refl)
      place_won (Err w) e deed = absurd cc

      pub last_won : (h : ℕ) → x / 2 % 32 ≡ 30 → (o : Result ℕ ℕ) → is_err o ≡ false → did (exchanged Tail x ((x + 2) % 2 ^ 64) o) s t → IsStep (ActionMakes did) s (act.PushSwap v x b (Some h)) t (act.PushTurn v x b h)
      last_won h last (Ok w) e deed =
          let e1 : (x / 2 % 32 == 30) ≡ true = eq_is _ _ last in
          let g : going (act.PushTurn v x b h) Append ≡ going (after_swap v x b (Some h)) Append = rw e1 refl in
          goes (act.PushSwap v x b (Some h)) (act.PushTurn v x b h) Append (Ok w, deed, g)
      last_won h last (Err w) e deed = absurd cc

      pub place_lost : (h : Option ℕ) (o : Result ℕ ℕ) → is_err o ≡ true → did (exchanged Tail x ((x + 2) % 2 ^ 64) o) s t → IsStep (ActionMakes did) s (act.PushSwap v x b h) t (act.Push v h)
      place_lost h (Ok w) e deed = absurd cc
      place_lost h (Err w) e deed = goes (act.PushSwap v x b h) (act.Push v h) Nothing (Err w, deed, refl)

      pub turned : (h : ℕ) → did (stored TailBlock ((h + 1) % 2 ^ 64)) s t → IsStep (ActionMakes did) s (act.PushTurn v x b h) t (act.PushAdd v x b h)
      turned h deed = goes (act.PushTurn v x b h) (act.PushAdd v x b h) Nothing (deed, refl)

      pub tail_moved : (h w : ℕ) → did (added Tail 2 w) s t → IsStep (ActionMakes did) s (act.PushAdd v x b h) t (act.PushLink v x b h)
      tail_moved h w deed = goes (act.PushAdd v x b h) (act.PushLink v x b h) Nothing (w, deed, refl)

      pub linked : (h : ℕ) → did (stored (Next b) ((h + 1) % 2 ^ 64)) s t → IsStep (ActionMakes did) s (act.PushLink v x b h) t (act.PushPut v x b None)
      linked h deed = goes (act.PushLink v x b h) (act.PushPut v x b None) Nothing (deed, refl)

      module _ (i : ℕ) (offset : x / 2 % 32 ≡ i) where
        pub message_put : (u : Unit {0}) → did (did_put (In b i) v (Ok u)) s t → IsStep (ActionMakes did) s (act.PushPut v x b None) t (act.PushStore x b None)
        message_put u deed =
            let d : did (did_put (In b (x / 2 % 32)) v (Ok u)) s t = subst (λ (n : ℕ). did (did_put (In b n) v (Ok u)) s t) (sym offset) deed in
            goes (act.PushPut v x b None) (act.PushStore x b None) Nothing (Ok u, d, refl)

        pub slot_not_yet : (w : T) → did (did_put (In b i) v (Err w)) s t → IsStep (ActionMakes did) s (act.PushPut v x b None) t (act.PushPut w x b None)
        slot_not_yet w deed =
            let d : did (did_put (In b (x / 2 % 32)) v (Err w)) s t = subst (λ (n : ℕ). did (did_put (In b n) v (Err w)) s t) (sym offset) deed in
            goes (act.PushPut v x b None) (act.PushPut w x b None) Nothing (Err w, d, refl)

  pub push_ends : (x b i : ℕ) → x / 2 % 32 ≡ i → did (stored (Written b i) 1) s t → PushesOnEnd (ActionMakes did) s (act.PushStore x b None) (Ok (Ok tt)) t
  push_ends x b i offset deed =
      let d : did (stored (Written b (x / 2 % 32)) 1) s t = subst (λ (n : ℕ). did (stored (Written b n) 1) s t) (sym offset) deed in
      (0, (s, act.PushStore x b None, act.Finished, Nothing, (refl, refl), (finishes ending.Sent, (d, refl), refl)))

  -- ---- a pop

  module _ (p : ℕ) where
    module _ (deed : did (loaded Head p) s t) where
      pub head_turns : p % 32 ≡ 31 → IsStep (ActionMakes did) s act.Pop t act.Pop
      head_turns turns =
          let e : (p % 32 == 31) ≡ true = eq_is _ _ turns in
          let g : stays {T = T} act.Pop ≡ after_head p = rw e refl in
          goes act.Pop act.Pop Nothing (p, deed, g)

      pub head_loaded : (p % 32 ≡ 31 → ⊥) → IsStep (ActionMakes did) s act.Pop t (act.PopLook p)
      head_loaded rests =
          let e : (p % 32 == 31) ≡ false = eq_not _ _ rests in
          let g : stays {T = T} (act.PopLook p) ≡ after_head p = rw e refl in
          goes act.Pop (act.PopLook p) Nothing (p, deed, g)

    pub head_block : (w : ℕ) → did (loaded HeadBlock w) s t → IsStep (ActionMakes did) s (act.PopLook p) t (act.PopTail p w)
    head_block w deed = goes (act.PopLook p) (act.PopTail p w) Nothing (w, deed, refl)

    module _ (w x : ℕ) (deed : did (loaded Tail x) s t) where
      module _ (more : number (x / 2) ≡ number p → ⊥) where
        not_last : (number (x / 2) == number p) ≡ false
        not_last = eq_not _ _ more

        pub message_there : (w ≡ 0 → ⊥) → IsStep (ActionMakes did) s (act.PopTail p w) t (act.PopSwap p (w - 1))
        message_there there =
            let e : (w == 0) ≡ false = eq_not _ _ there in
            let g : stays {T = T} (act.PopSwap p (w - 1)) ≡ after_pop_tail p w x = rw (not_last, e) refl in
            goes (act.PopTail p w) (act.PopSwap p (w - 1)) Nothing (x, deed, g)

        pub block_not_there : w ≡ 0 → IsStep (ActionMakes did) s (act.PopTail p w) t act.Pop
        block_not_there none =
            let e : (w == 0) ≡ true = eq_is _ _ none in
            let g : stays {T = T} act.Pop ≡ after_pop_tail p w x = rw (not_last, e) refl in
            goes (act.PopTail p w) act.Pop Nothing (x, deed, g)

      says : (shut : Bool) → (x % 2 == 1) ≡ shut → number (x / 2) ≡ number p → PopsOnEnd (ActionMakes did) s (act.PopTail p w) (Ok (Err (if shut then pop_error.Closed else pop_error.Empty))) t
      says true shut at_tail =
          let e : (number (x / 2) == number p) ≡ true = eq_is _ _ at_tail in
          let g : tells {T = T} (reply.Pop (Err pop_error.Closed)) ≡ after_pop_tail p w x = rw (e, shut) refl in
          (0, (s, act.PopTail p w, act.Finished, Nothing, (refl, refl), (tells (reply.Pop (Err pop_error.Closed)), (x, deed, g), refl)))
      says false shut at_tail =
          let e : (number (x / 2) == number p) ≡ true = eq_is _ _ at_tail in
          let g : tells {T = T} (reply.Pop (Err pop_error.Empty)) ≡ after_pop_tail p w x = rw (e, shut) refl in
          (0, (s, act.PopTail p w, act.Finished, Nothing, (refl, refl), (tells (reply.Pop (Err pop_error.Empty)), (x, deed, g), refl)))

      pub nothing_there : (e : PopError) → number (x / 2) ≡ number p → e ≡ (if x % 2 == 1 then pop_error.Closed else pop_error.Empty) → PopsOnEnd (ActionMakes did) s (act.PopTail p w) (Ok (Err e)) t
      nothing_there e at_tail said = subst (λ (z : PopError). PopsOnEnd (ActionMakes did) s (act.PopTail p w) (Ok (Err z)) t) (sym said) (says (x % 2 == 1) refl at_tail)

    module _ (b : ℕ) where
      pub message_won : (p % 32 ≡ 30 → ⊥) → (o : Result ℕ ℕ) → is_err o ≡ false → did (exchanged Head p ((p + 1) % 2 ^ 64) o) s t → IsStep (ActionMakes did) s (act.PopSwap p b) t (act.PopWait p b)
      message_won midst (Ok w) e deed =
          let e1 : (p % 32 == 30) ≡ false = eq_not _ _ midst in
          let g : going (act.PopWait p b) Take ≡ going (after_pop_swap p b) Take = rw e1 refl in
          goes (act.PopSwap p b) (act.PopWait p b) Take (Ok w, deed, g)
      message_won midst (Err w) e deed = absurd cc

      pub last_taken : p % 32 ≡ 30 → (o : Result ℕ ℕ) → is_err o ≡ false → did (exchanged Head p ((p + 1) % 2 ^ 64) o) s t → IsStep (ActionMakes did) s (act.PopSwap p b) t (act.PopNext p b)
      last_taken last (Ok w) e deed =
          let e1 : (p % 32 == 30) ≡ true = eq_is _ _ last in
          let g : going (act.PopNext p b) Take ≡ going (after_pop_swap p b) Take = rw e1 refl in
          goes (act.PopSwap p b) (act.PopNext p b) Take (Ok w, deed, g)
      last_taken last (Err w) e deed = absurd cc

      pub message_lost : (o : Result ℕ ℕ) → is_err o ≡ true → did (exchanged Head p ((p + 1) % 2 ^ 64) o) s t → IsStep (ActionMakes did) s (act.PopSwap p b) t act.Pop
      message_lost (Ok w) e deed = absurd cc
      message_lost (Err w) e deed = goes (act.PopSwap p b) act.Pop Nothing (Err w, deed, refl)

      module _ (w : ℕ) (deed : did (loaded (Next b) w) s t) where
        pub next_not_yet : w ≡ 0 → IsStep (ActionMakes did) s (act.PopNext p b) t (act.PopNext p b)
        next_not_yet none =
            let e : (w == 0) ≡ true = eq_is _ _ none in
            let g : stays {T = T} (act.PopNext p b) ≡ after_next p b w = rw e refl in
            goes (act.PopNext p b) (act.PopNext p b) Nothing (w, deed, g)

        pub next_found : (w ≡ 0 → ⊥) → IsStep (ActionMakes did) s (act.PopNext p b) t (act.PopBlock p b w)
        next_found there =
            let e : (w == 0) ≡ false = eq_not _ _ there in
            let g : stays {T = T} (act.PopBlock p b w) ≡ after_next p b w = rw e refl in
            goes (act.PopNext p b) (act.PopBlock p b w) Nothing (w, deed, g)

      pub block_left : (w : ℕ) → did (stored HeadBlock w) s t → IsStep (ActionMakes did) s (act.PopBlock p b w) t (act.PopHead p b)
      block_left w deed = goes (act.PopBlock p b w) (act.PopHead p b) Nothing (deed, refl)

      pub head_moved : did (stored Head ((p + 2) % 2 ^ 64)) s t → IsStep (ActionMakes did) s (act.PopHead p b) t (act.PopWait p b)
      head_moved deed = goes (act.PopHead p b) (act.PopWait p b) Nothing (deed, refl)

      module _ (w : ℕ) (deed : did (loaded (Written b (p % 32)) w) s t) where
        pub written_found : w ≡ 1 → IsStep (ActionMakes did) s (act.PopWait p b) t (act.PopTake p b)
        written_found is =
            let e : (w == 1) ≡ true = eq_is _ _ is in
            let g : stays {T = T} (act.PopTake p b) ≡ after_written p b w = rw e refl in
            goes (act.PopWait p b) (act.PopTake p b) Nothing (w, deed, g)

        pub not_written : (w ≡ 1 → ⊥) → IsStep (ActionMakes did) s (act.PopWait p b) t (act.PopWait p b)
        not_written isnt =
            let e : (w == 1) ≡ false = eq_not _ _ isnt in
            let g : stays {T = T} (act.PopWait p b) ≡ after_written p b w = rw e refl in
            goes (act.PopWait p b) (act.PopWait p b) Nothing (w, deed, g)

      pub message_out : (v : T) → did (did_take (In b (p % 32)) (Some v)) s t → IsStep (ActionMakes did) s (act.PopTake p b) t (act.PopCount p b v)
      message_out v deed = goes (act.PopTake p b) (act.PopCount p b v) Nothing (Some v, deed, refl)

      pub not_yet : did (did_take (In b (p % 32)) None) s t → IsStep (ActionMakes did) s (act.PopTake p b) t (act.PopTake p b)
      not_yet deed = goes (act.PopTake p b) (act.PopTake p b) Nothing (None, deed, refl)

      module _ (v : T) (w : ℕ) (deed : did (added (Reads b) 1 w) s t) where
        pub read_counted : (w ≡ 30 → ⊥) → PopsOnEnd (ActionMakes did) s (act.PopCount p b v) (Ok (Ok v)) t
        read_counted more =
            let e : (w == 30) ≡ false = eq_not _ _ more in
            let g : tells (reply.Pop (Ok v)) ≡ after_read p b v w = rw e refl in
            (0, (s, act.PopCount p b v, act.Finished, Nothing, (refl, refl), (tells (reply.Pop (Ok v)), (w, deed, g), refl)))

        pub last_counted : w ≡ 30 → IsStep (ActionMakes did) s (act.PopCount p b v) t (act.PopRetire p b v)
        last_counted last =
            let e : (w == 30) ≡ true = eq_is _ _ last in
            let g : stays (act.PopRetire p b v) ≡ after_read p b v w = rw e refl in
            goes (act.PopCount p b v) (act.PopRetire p b v) Nothing (w, deed, g)

      pub block_retired : (v : T) → did (retired b) s t → PopsOnEnd (ActionMakes did) s (act.PopRetire p b v) (Ok (Ok v)) t
      block_retired v deed = (0, (s, act.PopRetire p b v, act.Finished, Nothing, (refl, refl), (tells (reply.Pop (Ok v)), (deed, refl), refl)))
