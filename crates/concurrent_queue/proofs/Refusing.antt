-- What it says of a queue that it may refuse a message.
use Rattle.std.proofs.Common.{◌≡◌, ℕ, Bool, true, false, List, Option, None, Some, if◌then◌else◌, refl}
use Rattle.concurrent_queue.specs.Queue.{Queue, IsOpen, is_full_at, may_refuse_at, may_refuse, seen_after}

open_if : (b x : Bool) → (if b then false else x) ≡ true → b ≡ false
open_if false x e = refl
open_if true x e = absurd cc

module _ {T : Type 0} where
  -- it is open
  pub refuses_open : (q : Queue T) → may_refuse q ≡ true → IsOpen q
  refuses_open q e = open_if q.closed (may_refuse_at q.capacity q.items) e

  -- a full one may refuse
  pub full_refuses : (cap : Option ℕ) (xs : List T) → is_full_at cap xs ≡ true → may_refuse_at cap xs ≡ true
  full_refuses None xs e = refl
  full_refuses (Some n) xs e = e

  -- and so may an open one that has no bound
  pub open_refuses : (seen : Bool) (q : Queue T) → IsOpen q → q.capacity ≡ None → seen_after seen q ≡ true
  open_refuses true q e f = refl
  open_refuses false q e f = rw (e, f) refl
