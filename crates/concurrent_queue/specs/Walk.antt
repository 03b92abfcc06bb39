-- Walking a queue of one owner.
use Rattle.std.specs.Prelude.{◌≡◌, [], ◌∷◌, Option, MatchOption}
use Rattle.std.specs.Borrow.{MutBor}
use Rattle.concurrent_queue.specs.Alone.{Held, with_items}
use Rattle.concurrent_queue.specs.declared.exclusive.ExclusiveIter.{ExclusiveIter}

module _ {T : Type 0} where
  -- the queue that the iterator walks, which is borrowed for as long
  abbrev pub walked : ExclusiveIter T → MutBor (Held T)
  walked s = s.queue

  -- the next item is the oldest message, which leaves; None comes if there is none, and nothing is changed
  abbrev pub NextGives : Held T → Option T → Held T → Type 0
  NextGives m r n = MatchOption r ((m.items ≡ []) × (n ≡ m)) (λ v. (m.items ≡ v ∷ n.items) × (n ≡ with_items m n.items))

  -- a call of `next` goes on walking the same queue
  abbrev pub WalksOn : ExclusiveIter T → Option T → ExclusiveIter T → Type 0
  WalksOn s r t = ((walked t).ghost_name ≡ (walked s).ghost_name) × NextGives (walked s).now r (walked t).now
