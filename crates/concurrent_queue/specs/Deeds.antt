-- What is done to the cells of a queue by one operation, with what it answered; and a step of a machine as one operation with
-- what follows each answer. Nothing here speaks of what the cells hold, so it is said of cells that threads share as well.
use Rattle.std.specs.Prelude.{◌≡◌, ℕ, Bool, true, false, Option, Some, Result, Ok, Err}
use Rattle.concurrent_queue.specs.declared.cells.Slot.{Slot}
use Rattle.concurrent_queue.specs.declared.cells.Word.{Word}
use Rattle.concurrent_queue.specs.declared.error.NoMemory.{NoMemory}

-- an operation on a cell, and its answer
pub data Deed (T : Type 0) : Type 0 where
  loaded : Word → ℕ → Deed T
  stored : Word → ℕ → Deed T
  exchanged : Word → ℕ → ℕ → Result ℕ ℕ → Deed T
  added : Word → ℕ → ℕ → Deed T
  bits_set : Word → ℕ → ℕ → Deed T
  bits_kept : Word → ℕ → ℕ → Deed T
  did_put : Slot → T → Result Unit T → Deed T
  did_take : Slot → Option T → Deed T
  spared : Result ℕ NoMemory → Deed T
  retired : ℕ → Deed T

-- a slot takes a message, or returns it
abbrev pub put_answer : {T : Type 0} → T → Bool → Result Unit T
put_answer v true = Ok tt
put_answer v false = Err v

-- the operation that an action makes, and what follows each answer
pub data Move (T A : Type 0) : Type 0 where
  loads : Word → (ℕ → A) → Move T A
  stores : Word → ℕ → A → Move T A
  exchanges : Word → ℕ → ℕ → (Result ℕ ℕ → A) → Move T A
  adds : Word → ℕ → (ℕ → A) → Move T A
  sets_bits : Word → ℕ → (ℕ → A) → Move T A
  keeps_bits : Word → ℕ → (ℕ → A) → Move T A
  puts : Slot → T → (Result Unit T → A) → Move T A
  takes : Slot → (Option T → A) → Move T A
  spares : (Result ℕ NoMemory → A) → Move T A
  retires : ℕ → A → Move T A
  rests : A → Move T A

-- the operation is made, from the one state of the cells to the other, and r is what follows its answer
module _ {T S : Type 0} (did : Deed T → S → S → Type 0) where
  abbrev pub Makes : {A : Type 0} → Move T A → S → A → S → Type 0
  Makes (loads w k) s r t = (x : ℕ) × did (loaded w x) s t × (r ≡ k x)
  Makes (stores w x a) s r t = did (stored w x) s t × (r ≡ a)
  Makes (exchanges w x y k) s r t = (o : Result ℕ ℕ) × did (exchanged w x y o) s t × (r ≡ k o)
  Makes (adds w x k) s r t = (o : ℕ) × did (added w x o) s t × (r ≡ k o)
  Makes (sets_bits w x k) s r t = (o : ℕ) × did (bits_set w x o) s t × (r ≡ k o)
  Makes (keeps_bits w x k) s r t = (o : ℕ) × did (bits_kept w x o) s t × (r ≡ k o)
  Makes (puts at v k) s r t = (o : Result Unit T) × did (did_put at v o) s t × (r ≡ k o)
  Makes (takes at k) s r t = (o : Option T) × did (did_take at o) s t × (r ≡ k o)
  Makes (spares k) s r t = (o : Result ℕ NoMemory) × did (spared o) s t × (r ≡ k o)
  Makes (retires b a) s r t = did (retired b) s t × (r ≡ a)
  Makes (rests a) s r t = (t ≡ s) × (r ≡ a)

-- what is known of cells between two operations: nothing but the last operation, with its answer
abbrev pub Notes : {T : Type 0} → Deed T → Option (Deed T) → Option (Deed T) → Type 0
Notes d before after = after ≡ Some d

-- whatever it answers, the operation may be made
module _ {T S : Type 0} (may : Deed T → S → Type 0) where
  abbrev pub Ready : {A : Type 0} → Move T A → S → Type 0
  Ready (loads w k) s = (x : ℕ) → may (loaded w x) s
  Ready (stores w x a) s = may (stored w x) s
  Ready (exchanges w x y k) s = (o : Result ℕ ℕ) → may (exchanged w x y o) s
  Ready (adds w x k) s = (o : ℕ) → may (added w x o) s
  Ready (sets_bits w x k) s = (o : ℕ) → may (bits_set w x o) s
  Ready (keeps_bits w x k) s = (o : ℕ) → may (bits_kept w x o) s
  Ready (puts at v k) s = (o : Result Unit T) → may (did_put at v o) s
  Ready (takes at k) s = (o : Option T) → may (did_take at o) s
  Ready (spares k) s = (o : Result ℕ NoMemory) → may (spared o) s
  Ready (retires b a) s = may (retired b) s
  Ready (rests a) s = Unit {0}
