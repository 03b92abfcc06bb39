-- A closable list of one owner, whose calls are made one at a time.
use Rattle.std.specs.Prelude.{◌≡◌, ℕ, Bool, true, false, List, [], ◌∷◌, ◌++◌, Option, None, Some, Result, Ok, Err}
use Rattle.concurrent_queue.specs.Queue.{is_full_at}
use Rattle.concurrent_queue.specs.declared.error.PushError.{PushError}
use Rattle.concurrent_queue.specs.declared.error.PushError.TheVariants as push_error
use Rattle.concurrent_queue.specs.declared.error.ForcePushError.{ForcePushError}
use Rattle.concurrent_queue.specs.declared.error.ForcePushError.TheVariants as force_error
use Rattle.concurrent_queue.specs.declared.error.PopError.{PopError}
use Rattle.concurrent_queue.specs.declared.error.PopError.TheVariants as pop_error

-- what a queue of one owner holds: its messages, oldest first, whether it is closed, and how many fit
pub record Held (T : Type 0) : Type 0 where
  pub items : List T
  pub closed : Bool
  pub capacity : Option ℕ

module _ {T : Type 0} where
  abbrev pub is_full : Held T → Bool
  is_full m = is_full_at m.capacity m.items

  abbrev pub with_items : Held T → List T → Held T
  with_items m items = record m { items = items }

  -- m, closed
  abbrev pub shut : Held T → Held T
  shut m = record m { closed = true }

  -- what a push gives, and what it leaves of m
  abbrev pub PushGives : Held T → T → Held T → Result Unit (PushError T) → Type 0
  PushGives m v n (Ok u) = (m.closed ≡ false) × (is_full m ≡ false) × (n ≡ with_items m (m.items ++ v ∷ []))
  PushGives m v n (Err (push_error.Full w)) = (m.closed ≡ false) × (is_full m ≡ true) × (w ≡ v) × (n ≡ m)
  PushGives m v n (Err (push_error.Closed w)) = (m.closed ≡ true) × (w ≡ v) × (n ≡ m)
  PushGives m v n (Err (push_error.NoMemory w)) = (m.closed ≡ false) × (m.capacity ≡ None) × (w ≡ v) × (n ≡ m)

  abbrev pub ForceGives : Held T → T → Held T → Result (Option T) (ForcePushError T) → Type 0
  ForceGives m v n (Ok None) = (m.closed ≡ false) × (is_full m ≡ false) × (n ≡ with_items m (m.items ++ v ∷ []))
  ForceGives m v n (Ok (Some d)) =
      (rest : List T) × (m.closed ≡ false) × (is_full m ≡ true) × (m.items ≡ d ∷ rest) × (n ≡ with_items m (rest ++ v ∷ []))
  ForceGives m v n (Err (force_error.Closed w)) = (m.closed ≡ true) × (w ≡ v) × (n ≡ m)
  ForceGives m v n (Err (force_error.NoMemory w)) = (m.closed ≡ false) × (m.capacity ≡ None) × (w ≡ v) × (n ≡ m)

  abbrev pub PopGives : Held T → Held T → Result T PopError → Type 0
  PopGives m n (Ok v) = (m.items ≡ v ∷ n.items) × (n ≡ with_items m n.items)
  PopGives m n (Err pop_error.Empty) = (m.closed ≡ false) × (m.items ≡ []) × (n ≡ m)
  PopGives m n (Err pop_error.Closed) = (m.closed ≡ true) × (m.items ≡ []) × (n ≡ m)
