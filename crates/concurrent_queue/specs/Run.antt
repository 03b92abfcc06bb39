-- Runs of a closable queue: what may follow from steps of many calls in any order.
use Rattle.std.specs.Prelude.{◌≡◌, ℕ, ◌+◌, ◌≤◌, ◌^◌, List, [], ◌∷◌, ◌++◌, length, Option, Some, MatchOption, ◌⊎◌}
use Rattle.concurrent_queue.specs.Contents.{Contents}
use Rattle.concurrent_queue.specs.Capacity.{capacity_of}
use Rattle.concurrent_queue.specs.Scene.{Scene, CallUnderWay, Begins, PartySteps, NotUnderWay, IsUnderWay, Reads, new_scene}
use Rattle.concurrent_queue.specs.Step.{OneCell, chain_after}
use Rattle.concurrent_queue.specs.Made.{new_cells}
use Rattle.concurrent_queue.specs.declared.call.QueueEntry.{QueueEntry}
use Rattle.concurrent_queue.specs.declared.call.QueueMark.{QueueMark}
use Rattle.concurrent_queue.specs.declared.call.QueueMark.TheVariants.{Append, Replace}
use Rattle.concurrent_queue.specs.declared.cells.QueueForm.{QueueForm}
use Rattle.concurrent_queue.specs.declared.run.QueueStep.{QueueStep}
use Rattle.concurrent_queue.specs.declared.run.QueueStep.TheVariants.{Begin, Step}
use Rattle.concurrent_queue.specs.declared.run.QueueRefusal.{QueueRefusal}
use Rattle.concurrent_queue.specs.declared.run.QueueRefusal.TheVariants.{Busy, Idle, NoMemory}
use Rattle.concurrent_queue.specs.declared.run.Stopped.{Stopped}

-- a queue at one moment, with its cells and, if it is unbounded, with the blocks that it has used, in order
pub record Config (T : Type 0) : Type 0 where
  pub cells : Contents T
  pub chain : List ℕ
  pub scene : Scene T

abbrev pub one_if_accepted : QueueMark → ℕ
one_if_accepted Append = 1
one_if_accepted Replace = 1
one_if_accepted _ = 0

module _ {T : Type 0} where
  -- one entry of a run. A call begins without touching a cell, and a step touches at most one
  abbrev pub Next : Config T → QueueStep T → QueueEntry T → Config T → Type 0
  Next f (Begin p a) e g = Begins f.scene p a e g.scene × (g.cells ≡ f.cells) × (g.chain ≡ f.chain)
  Next f (Step p) e g = PartySteps f.scene p e g.scene × OneCell f.cells g.cells × (g.chain ≡ chain_after f.chain f.cells g.cells)

  -- these steps, one after another, with these entries; at each moment the cells show the scene
  abbrev pub IsRun : Config T → List (QueueStep T) → List (QueueEntry T) → Config T → Type 0
  IsRun f [] [] g = g ≡ f
  IsRun f (s ∷ ss) (e ∷ es) g = (m : Config T) × Next f s e m × Reads m.chain m.cells m.scene × IsRun m ss es g
  IsRun f _ _ g = ⊥

  -- how many messages were accepted
  abbrev pub accepted_in : List (QueueEntry T) → ℕ
  accepted_in [] = 0
  accepted_in (e ∷ es) = one_if_accepted e.mark + accepted_in es

  -- no more were accepted than there are positions; a queue of one slot counts none
  abbrev pub IsCounted : QueueForm → List (QueueEntry T) → Type 0
  IsCounted form trace = (capacity_of form ≡ Some 1) ⊎ (accepted_in trace ≤ 2 ^ 61)

  -- why the next step may be refused: want of memory refuses only a step that is neither busy nor idle
  abbrev pub MayRefuse : List (CallUnderWay T) → List (QueueStep T) → QueueRefusal → Type 0
  MayRefuse us (Begin p a ∷ steps) Busy = IsUnderWay p us
  MayRefuse us (Step p ∷ steps) Idle = NotUnderWay p us
  MayRefuse us (Begin p a ∷ steps) NoMemory = NotUnderWay p us
  MayRefuse us (Step p ∷ steps) NoMemory = IsUnderWay p us
  MayRefuse us _ why = ⊥

  abbrev pub opened_config : Contents T → QueueForm → Config T
  opened_config cells form = record { cells = cells; chain = []; scene = new_scene (capacity_of form) }

  -- what was done is a run of the queue from its opening: the first cells are those of a new queue of this form
  pub record Ran (form : QueueForm) (made left : List (QueueStep T)) (trace : List (QueueEntry T)) (stopped : Option Stopped) : Type 0 where
    pub last : Config T
    pub opened : Reads [] (new_cells {T = T} form) (new_scene (capacity_of form))
    pub run : IsRun (opened_config (new_cells form) form) made trace last
    pub refused : MatchOption stopped (Unit {0}) (λ s. MayRefuse last.scene.under_way left s.why)

  -- a run of the first steps of a list, up to the end or to one that is refused and stays in front
  pub record RanTo (form : QueueForm) (steps left : List (QueueStep T)) (trace : List (QueueEntry T)) (stopped : Option Stopped) : Type 0 where
    pub made : List (QueueStep T)
    pub first : steps ≡ made ++ left
    pub entries : length trace ≡ length made
    pub ended : MatchOption stopped (left ≡ []) (λ s. s.place ≡ length made)
    pub run : IsCounted form trace → Ran form made left trace stopped

  -- there was no memory for the cells
  abbrev pub HasNoCells : List (QueueStep T) → List (QueueStep T) → List (QueueEntry T) → Option Stopped → Type 0
  HasNoCells steps left trace stopped = (left ≡ steps) × (trace ≡ []) × (stopped ≡ Some (record { place = 0; why = NoMemory }))
