-- The calls under way by name, and what the names see of them.
use Rattle.std.specs.Prelude.{◌≡◌}
use Rattle.channel_world_runs.specs.Words.{ℕ, List, slice_get, Some, CallUnderWay, OnReturn}

-- a party with a call under way, and what that has to write back
pub record Agent (T : Type 0) : Type 0 where
  pub party : ℕ
  pub on_return : OnReturn T

module _ {T : Type 0} where
  abbrev pub agent_of : CallUnderWay T → Agent T
  agent_of c = record { party = c.party.id; on_return = c.on_return }

  -- the k-th call under way is this party's
  abbrev pub IsCallOf : ℕ → List (CallUnderWay T) → ℕ → Type 0
  IsCallOf p calls k = (c : CallUnderWay T) × (slice_get calls k ≡ Some c) × (c.party.id ≡ p)
