-- What each form of queue delivers, over its own actions; the contract of a step and of runs follows from it.
use Rattle.std.specs.Prelude.{◌≡◌, ℕ, ◌<◌, Bool, List, ◌∷◌, ◌++◌, map, Option, MatchOption}
use Rattle.concurrent_queue.specs.Contents.{Contents}
use Rattle.concurrent_queue.specs.Queue.{Queue, Phase, asked, after, Continues, Answers, IsInRange}
use Rattle.concurrent_queue.specs.machine.Places.{Place}
use Rattle.concurrent_queue.specs.Step.{OneCell, PhasesQuiet, ShowsBy, LiesBy, IsBrought, chain_after}
use Rattle.concurrent_queue.specs.declared.call.QueueAsk.{QueueAsk}
use Rattle.concurrent_queue.specs.declared.call.Stepped.{Stepped}
use Rattle.concurrent_queue.specs.declared.cells.Slot.{Slot}

module _ {A T : Type 0} where
  abbrev pub place : A → Phase T → Place A T
  place a p = record { action = a; phase = p }

  abbrev pub place_phase : Place A T → Phase T
  place_phase x = x.phase

  abbrev pub place_phases : List (Place A T) → List (Phase T)
  place_phases xs = map place_phase xs

  -- by what the cells and the calls' actions mean, and by how many steps a call still needs
  module _ (means : Contents T → Queue T → List (Place A T) → Type 0) (left : Contents T → A → ℕ) where
    -- what one step of a call at a leaves
    pub record FormStep (c : Contents T) (a : A) (p : Phase T) (d : Contents T) (s : Stepped A T) (q : Queue T) (l r : List (Place A T)) : Type 0 where
      pub same_form : d.form ≡ c.form
      pub one_cell : OneCell c d
      pub effect : MatchOption s.reply
          ((p' : Phase T) × Continues q p s.mark p' × means d (after p s.mark q) (l ++ place s.action p' ∷ r))
          (λ x. Answers q p s.mark x × means d (after p s.mark q) (l ++ r))
      pub ends : PhasesQuiet q (place_phases (l ++ r)) → MatchOption s.reply (left d s.action < left c a) (λ x. Unit {0})

    -- a new call may come in anywhere
    abbrev pub FormStarts : (QueueAsk T → A) → Type 0
    FormStarts start =
        (c : Contents T) (q : Queue T) (a : QueueAsk T) (l r : List (Place A T)) → means c q (l ++ r) → means c q (l ++ place (start a) (asked a) ∷ r)

    -- no call needs more than 63 steps
    abbrev pub FormRanks : Type 0
    FormRanks = (c : Contents T) (q : Queue T) (a : A) (p : Phase T) (l r : List (Place A T)) → means c q (l ++ place a p ∷ r) → left c a < 64

    -- what the words give, by these readings
    abbrev pub FormShows : Option ℕ → (Contents T → Bool) → (Contents T → ℕ) → (Contents T → ℕ) → (Contents T → List T) → Type 0
    FormShows capacity closed count counted held =
        (c : Contents T) (q : Queue T) (places : List (Place A T)) → means c q places → ShowsBy capacity (closed c) (count c) (counted c) (held c) c q (place_phases places)

    -- each message lies in the slot that the words name, or is with its call
    abbrev pub FormLies : (Contents T → ℕ → Slot) → Type 0
    FormLies slot = (c : Contents T) (q : Queue T) (places : List (Place A T)) → means c q places → LiesBy (slot c) c q.items (IsBrought (place_phases places))

  -- each step of the machine is one of the contract, over the blocks that were used before it
  abbrev pub FormSteps : (List ℕ → Contents T → Queue T → List (Place A T) → Type 0) → (Contents T → A → ℕ) → (Contents T → A → Contents T → Stepped A T → Type 0) → Type 0
  FormSteps means left step =
      (chain : List ℕ) (c : Contents T) (a : A) (d : Contents T) (s : Stepped A T) (q : Queue T) (p : Phase T) (l r : List (Place A T))
      → step c a d s → IsInRange q → means chain c q (l ++ place a p ∷ r) → FormStep (means (chain_after chain c d)) left c a p d s q l r
