-- What a push and a pop of one slot answer where their exchange is lost.
use Rattle.std.proofs.Common.{◌≡◌, ℕ, ◌==◌, true, false, Err, refl, arith, bit_and, ap}
use Rattle.std.proofs.lemmas.Bool.Decides.{nat_tests}
use Rattle.concurrent_queue.specs.machine.Single.{finishes, after_push, after_pop, clear}
use Rattle.concurrent_queue.specs.declared.call.QueueReply.TheVariants as reply
use Rattle.concurrent_queue.specs.declared.error.PopError.TheVariants as pop_error
use Rattle.concurrent_queue.specs.declared.error.PushError.TheVariants as push_error

set : (n : ℕ) → (n ≡ 0 → ⊥) → (n == 0) ≡ false
set n some = grind (arith, nat_tests, some)

unset : (n : ℕ) → n ≡ 0 → (n == 0) ≡ true
unset n none = ap (λ (m : ℕ). m == 0) none

module _ {T : Type 0} (w : ℕ) where
  pub push_shut : (v : T) → (bit_and w 4 ≡ 0 → ⊥) → finishes (reply.Push (Err (push_error.Closed v))) ≡ after_push v (Err w)
  push_shut v shut = let e : clear w 4 ≡ false = set _ shut in rw e refl

  pub push_full : (v : T) → bit_and w 4 ≡ 0 → (bit_and w 2 ≡ 0 → ⊥) → finishes (reply.Push (Err (push_error.Full v))) ≡ after_push v (Err w)
  push_full v open_ full = let e : clear w 4 ≡ true = unset _ open_ in let f : clear w 2 ≡ false = set _ full in rw (e, f) refl

  pub pop_shut : bit_and w 2 ≡ 0 → (bit_and w 4 ≡ 0 → ⊥) → finishes {T = T} (reply.Pop (Err pop_error.Closed)) ≡ after_pop (Err w)
  pop_shut none shut = let e : clear w 4 ≡ false = set _ shut in let f : clear w 2 ≡ true = unset _ none in rw (e, f) refl

  pub pop_empty : bit_and w 2 ≡ 0 → bit_and w 4 ≡ 0 → finishes {T = T} (reply.Pop (Err pop_error.Empty)) ≡ after_pop (Err w)
  pop_empty none open_ = let e : clear w 4 ≡ true = unset _ open_ in let f : clear w 2 ≡ true = unset _ none in rw (e, f) refl
