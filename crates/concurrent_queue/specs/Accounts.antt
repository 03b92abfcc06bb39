-- What came into a queue over a run, and what left it.
use Rattle.std.specs.Prelude.{◌≡◌, List, [], ◌∷◌, ◌++◌, take}
use Rattle.concurrent_queue.specs.Queue.{message}
use Rattle.concurrent_queue.specs.Run.{Config, Next, IsRun}
use Rattle.concurrent_queue.specs.declared.call.QueueAsk.{QueueAsk}
use Rattle.concurrent_queue.specs.declared.call.QueueMark.{QueueMark}
use Rattle.concurrent_queue.specs.declared.call.QueueMark.TheVariants.{Append, Take, TakeDisplaced, Replace}
use Rattle.concurrent_queue.specs.declared.call.QueueEntry.{QueueEntry}
use Rattle.concurrent_queue.specs.declared.run.QueueStep.{QueueStep}
use Rattle.concurrent_queue.specs.declared.run.QueueStep.TheVariants.{Begin, Step}

module _ {T : Type 0} where
  -- the message that a step of a call with this mark brings in
  abbrev pub accepted_by : QueueMark → QueueAsk T → List T
  accepted_by Append a = message a
  accepted_by Replace a = message a
  accepted_by _ a = []

  -- the message that such a step takes out of a queue that holds these
  abbrev pub removed_by : QueueMark → List T → List T
  removed_by Take items = take 1 items
  removed_by TakeDisplaced items = take 1 items
  removed_by Replace items = take 1 items
  removed_by _ items = []

  abbrev pub accepted_at : (f : Config T) (s : QueueStep T) (e : QueueEntry T) (g : Config T) → Next f s e g → List T
  accepted_at f (Begin p a) e g n = []
  accepted_at f (Step p) e g n = accepted_by e.mark n.0.mine.ask

  -- the messages that were accepted in a run, in order
  abbrev pub accepted_over : (f : Config T) (ss : List (QueueStep T)) (es : List (QueueEntry T)) (g : Config T) → IsRun f ss es g → List T
  accepted_over f [] [] g r = []
  accepted_over f (s ∷ ss) (e ∷ es) g r = accepted_at f s e r.0 r.1 ++ accepted_over r.0 ss es g r.3
  accepted_over f _ _ g r = []

  -- the messages that were removed in a run, in order
  abbrev pub removed_over : (f : Config T) (ss : List (QueueStep T)) (es : List (QueueEntry T)) (g : Config T) → IsRun f ss es g → List T
  removed_over f [] [] g r = []
  removed_over f (s ∷ ss) (e ∷ es) g r = removed_by e.mark f.scene.now.items ++ removed_over r.0 ss es g r.3
  removed_over f _ _ g r = []

-- in every run, what was removed followed by what is held is what was held at the start followed by what was accepted, in
-- order
abbrev pub NothingIsLost : Type 0 → Type 0
NothingIsLost T =
    (f : Config T) (steps : List (QueueStep T)) (trace : List (QueueEntry T)) (g : Config T) (run : IsRun f steps trace g)
    → removed_over f steps trace g run ++ g.scene.now.items ≡ f.scene.now.items ++ accepted_over f steps trace g run
