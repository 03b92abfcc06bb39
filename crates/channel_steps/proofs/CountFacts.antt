-- How a step changes the number of messages, by its mark.
use Rattle.std.proofs.Common.{arith, ◌≡◌, ◌+◌, ◌^◌, ◌<◌, length, Option}
use Rattle.channel_steps.proofs.Words.{Queue, Phase, after, QueueMark, mark_of_queue, Channel, Effect, Moves, Mark, Reply, Stage, IsBalanced, counted, brought_in, taken_out}
use Rattle.concurrent_queue.specs.declared.call.QueueMark.TheVariants as queue
use Rattle.channel_calls.specs.declared.mark.Mark.TheVariants as mark
use Rattle.channel_steps.specs.every_run.Ends.{IsStill}
use Rattle.channel_steps.proofs.QueueFacts.{moves_by}

module _ {T : Type 0} where
  pub record Moved (q : Queue T) (m : Mark) (q' : Queue T) : Type 0 where
    pub accepted : q'.accepted ≡ q.accepted + brought_in m
    pub removed : q'.removed ≡ q.removed + taken_out m

  marked : (f : Phase T) (m : QueueMark) (q : Queue T) → Moved q (mark_of_queue m) (after f m q)
  marked f queue.Nothing q = record { accepted = omega arith; removed = omega arith }
  marked f m q = record { accepted = omega arith; removed = omega arith }

  still_moved : (q : Queue T) (m : Mark) → IsStill m → Moved q m q
  still_moved q mark.Append h = absurd h
  still_moved q mark.Take h = absurd h
  still_moved q mark.TakeDisplaced h = absurd h
  still_moved q mark.Replace h = absurd h
  still_moved q m h = record { accepted = omega arith; removed = omega arith }

module _ {T W : Type 0} where
  pub moved_by : (c : Channel T W) (at : Stage (Phase T) T W) (e : Effect T W) (r : Option (Reply T)) (s : Stage (Phase T) T W)
      → Moves c at e r s → Moved c.queue e.mark e.channel.queue
  moved_by c at e r s h =
      moves_by c at (λ m q. Moved c.queue m q) (λ f y m is says. marked f m c.queue) (λ m still. still_moved c.queue m still) e r s h

module _ {T : Type 0} where
  -- those that were there and came in are those that are there and went out
  pub balance_moved : (q : Queue T) (m : Mark) (q' : Queue T) → Moved q m q' → IsBalanced q → IsBalanced q'
      → length q'.items + taken_out m ≡ length q.items + brought_in m
  balance_moved q m q' h a b = omega (arith, a, b, h.accepted, h.removed)

  -- the messages after a step are counted by its mark
  pub messages_counted : (q : Queue T) (m : Mark) (q' : Queue T) → Moved q m q' → IsBalanced q → IsBalanced q'
      → q.accepted < 2 ^ 62 → counted (length q.items) m ≡ length q'.items
  messages_counted q m q' h a b low = by m h.accepted h.removed where
    by : (m : Mark) → q'.accepted ≡ q.accepted + brought_in m → q'.removed ≡ q.removed + taken_out m
        → counted (length q.items) m ≡ length q'.items
    by mark.Append e f = omega (arith, a, b, low, e, f)
    by m e f = omega (arith, a, b, low, e, f)
