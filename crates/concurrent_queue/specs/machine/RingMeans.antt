-- One step of one call of a ring, and what it leaves to the others.
use Rattle.std.specs.Prelude.{◌≡◌, ℕ, ◌+◌, ◌*◌, ◌%◌, ◌<◌, ◌≤◌, true, List, Option, Some, MatchOption, map, slice_get, if◌then◌else◌}
use Rattle.concurrent_queue.specs.Contents.{Contents}
use Rattle.concurrent_queue.specs.machine.Positions.{pos}
use Rattle.concurrent_queue.specs.Queue.{Queue, Phase, after, Continues, Answers}
use Rattle.concurrent_queue.specs.machine.Places.{Place, Each, sum}
use Rattle.concurrent_queue.specs.machine.RingState.{Ring, SoundRing, IsShown, reach}
use Rattle.concurrent_queue.specs.machine.RingCalls.{KnowsRing, Duty, hold, bring, owes, owed, IsDuty, placed}
use Rattle.concurrent_queue.specs.declared.call.QueueMark.{QueueMark}
use Rattle.concurrent_queue.specs.declared.call.QueueReply.{QueueReply}
use Rattle.concurrent_queue.specs.declared.bounded.RingAction.{RingAction}
use Rattle.concurrent_queue.specs.declared.bounded.RingAction.TheVariants as act

module _ {T : Type 0} where
  -- what every other call may rely on when a call at the action a has made a step
  pub record Later (cap : ℕ) (r : Ring T) (a : RingAction T) (r' : Ring T) : Type 0 where
    pub all : (n : ℕ) (v : T) → slice_get r.all n ≡ Some v → slice_get r'.all n ≡ Some v
    pub tail : r.tail ≤ r'.tail
    pub head : r.head ≤ r'.head
    pub round : (i : ℕ) → (r.at i).round ≤ (r'.at i).round
    pub written : (i : ℕ) → (r'.at i).round ≡ (r.at i).round → (r.at i).written ≡ true → (r'.at i).written ≡ true
    pub place : (i : ℕ) → owes cap a (hold i) ≡ 0 → r'.at i ≡ r.at i
    pub behind : (n : ℕ) → owes cap a (hold (n % cap)) ≡ 0 → (r.at (n % cap)).round ≡ n → n < r.head → reach r ≤ n + cap → reach r' ≤ n + cap
    pub coming : owes cap a bring ≡ 0 → r.coming ≡ true → (r'.coming ≡ true) × (r'.tail ≡ r.tail)

  -- a step of a call at a, in the phase p, leaves a ring and an action that mean what its mark says
  pub record Kept (cap : ℕ) (r : Ring T) (q : Queue T) (a : RingAction T) (p : Phase T) (r' : Ring T) (a' : RingAction T) (k : QueueMark) (x : Option (QueueReply T)) : Type 0 where
    pub sound : SoundRing cap r'
    pub shown : IsShown cap r' (after p k q)
    pub owners : (d : Duty) → IsDuty cap d → owes cap a' d + owed r d ≡ owes cap a d + owed r' d
    pub later : Later cap r a r'
    pub leaves : MatchOption x ((p' : Phase T) × Continues q p k p' × KnowsRing cap r' a' p') (λ y. Answers q p k y × (a' ≡ act.Finished))

  -- what the words and slots of a ring stand for, where the mark is m
  pub record Denotes (cap m : ℕ) (c : Contents T) (r : Ring T) : Type 0 where
    pub head : c.head ≡ pos cap (2 * m) r.head
    pub tail : c.tail ≡ pos cap (2 * m) r.tail + (if r.closed then m else 0)
    pub stamps : (i : ℕ) → i < cap → slice_get c.stamps i ≡ Some (pos cap (2 * m) (r.at i).round + (if (r.at i).written then 1 else 0))
    pub slots : (i : ℕ) → i < cap → slice_get c.slots i ≡ Some (r.at i).slot

  -- a call under way, by the numbers of messages, as the code has it
  abbrev pub place_at : (ℕ → ℕ) → Place (RingAction T) T → Place (RingAction T) T
  place_at at x = record { action = placed at x.action; phase = x.phase }

  -- the cells and the calls under way mean the queue q
  pub record RingMeans (cap m : ℕ) (c : Contents T) (q : Queue T) (places : List (Place (RingAction T) T)) : Type 0 where
    pub ring : Ring T
    pub calls : List (Place (RingAction T) T)
    pub positions : places ≡ map (place_at (pos cap (2 * m))) calls
    pub denotes : Denotes cap m c ring
    pub sound : SoundRing cap ring
    pub shown : IsShown cap ring q
    pub owners : (d : Duty) → IsDuty cap d → sum (λ a. owes cap a d) calls ≡ owed ring d
    pub knows : Each (λ (x : Place (RingAction T) T). KnowsRing cap ring x.action x.phase) calls
