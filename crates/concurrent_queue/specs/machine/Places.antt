-- Lists of calls under way.
use Rattle.std.specs.Prelude.{ℕ, ◌+◌, List, [], ◌∷◌}
use Rattle.concurrent_queue.specs.Queue.{Phase}

-- a call under way, by its next action in the form of its queue and by how far it has come
pub record Place (A T : Type 0) : Type 0 where
  pub action : A
  pub phase : Phase T

-- it holds of each
abbrev pub Each : {X : Type 0} → (X → Type 0) → List X → Type 0
Each P [] = Unit {0}
Each P (x ∷ xs) = P x × Each P xs

-- how often something is held or owed by the calls together
abbrev pub sum : {A T : Type 0} → (A → ℕ) → List (Place A T) → ℕ
sum f [] = 0
sum f (p ∷ ps) = f p.action + sum f ps
