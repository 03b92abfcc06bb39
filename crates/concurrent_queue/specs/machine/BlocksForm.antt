-- What the cells and the calls of an unbounded queue mean.
use Rattle.std.specs.Prelude.{◌≡◌, ℕ, ◌<◌, List, length, map, Some, slice_get}
use Rattle.concurrent_queue.specs.Contents.{Contents}
use Rattle.concurrent_queue.specs.Queue.{Queue}
use Rattle.concurrent_queue.specs.machine.Places.{Place, Each}
use Rattle.concurrent_queue.specs.machine.BlocksState.{Blocks}
use Rattle.concurrent_queue.specs.machine.BlocksMoves.{BlocksSeat, BlocksMeans, is_force}
use Rattle.concurrent_queue.specs.machine.BlocksDenotes.{Denotes, act_of, IsProper}
use Rattle.concurrent_queue.specs.declared.unbounded.action.UnboundedCall.{UnboundedCall}

module _ {T : Type 0} where
  abbrev pub seat_of : Place (UnboundedCall T) T → BlocksSeat T
  seat_of p = record { act = act_of p.action.action; phase = p.phase }

  -- the words that a call goes by are such as the queue has, and it answers as it was asked
  abbrev pub IsFit : Place (UnboundedCall T) T → Type 0
  IsFit p = IsProper p.action.action × (p.action.displacing ≡ is_force p.phase.ask)

  -- these are the blocks of the chain, in order, those too that were given back
  abbrev pub IsChain : List ℕ → Blocks T → Type 0
  IsChain chain r = (length chain ≡ r.last) × ((k : ℕ) → k < r.last → slice_get chain k ≡ Some (r.num k))

  -- the cells stand for numbers of items and blocks, which mean the queue with the calls under way
  abbrev pub UnboundedMeans : List ℕ → Contents T → Queue T → List (Place (UnboundedCall T) T) → Type 0
  UnboundedMeans chain c q ps = (r : Blocks T) × Denotes c r × BlocksMeans r q (map seat_of ps) × Each IsFit ps × IsChain chain r
