-- How many more steps of its own the call of a party makes at most, if the others are quiet.
use Rattle.std.specs.Prelude.{◌==◌, ◌∷◌, if◌then◌else◌}
use Rattle.channel_world_runs.specs.Words.{ℕ, List, [], Parts, Waiter, party_left, most_wanted, ActiveCall, Party}

module _ {T : Type 0} where
  -- the calls under way but that of this party
  abbrev pub calls_of_others : ℕ → List (ActiveCall T Waiter) → List (ActiveCall T Waiter)
  calls_of_others p [] = []
  calls_of_others p (u ∷ us) = if u.party == p then us else u ∷ calls_of_others p us

  -- how many messages the call of this party may take more than one
  abbrev pub wanted_of : ℕ → List (ActiveCall T Waiter) → ℕ
  wanted_of p [] = 0
  wanted_of p (u ∷ us) = if u.party == p then most_wanted u.ask else wanted_of p us

  -- the steps that are left to the call of this party; none where it has none under way
  abbrev pub left_of : ℕ → Parts T Waiter → List (Party T Waiter) → ℕ
  left_of p parts [] = 0
  left_of p parts (x ∷ xs) = if x.id == p then party_left parts x else left_of p parts xs
