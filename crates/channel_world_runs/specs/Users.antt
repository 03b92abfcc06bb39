-- How many calls use each handle, and how many operations borrow it.
use Rattle.std.specs.Prelude.{◌≡◌, ◌+◌, ◌≤◌, ◌∷◌}
use Rattle.channel_world_runs.specs.Words.{ℕ, nat_eq, cond, List, [], length, Some, at, HandleId, OnReturn, HandleEntry}
use Rattle.channel_world_runs.specs.Run.{NameState}
use Rattle.channel_world_runs.specs.Calls.{Agent}

-- one where this is the handle
abbrev pub one : ℕ → HandleId → ℕ
one name handle = cond (nat_eq name handle.0) 1 0

module _ {T : Type 0} where
  -- how often a call gives back the handle of this name at its end
  abbrev pub times_used : ℕ → OnReturn T → ℕ
  times_used name (OnReturn.Leave handle) = one name handle
  times_used name (OnReturn.LeaveBoth a b) = one name a + one name b
  times_used name (OnReturn.PollNext receiver) = one name receiver
  times_used name (OnReturn.New from new kind) = one name from
  times_used name e = 0

  abbrev pub all_uses : ℕ → List (Agent T) → ℕ
  all_uses name [] = 0
  all_uses name (a ∷ more) = times_used name a.on_return + all_uses name more

  -- no handle is used by more than the calls under way that give it back, nor borrowed by more than one for each name of an
  -- operation that was ever taken
  abbrev pub FewUsers : NameState T → Type 0
  FewUsers b =
      (name : ℕ) (h : HandleEntry) → at name b.name_table.handles ≡ Some h
      → (h.users ≤ all_uses name b.agents) × (h.handle.borrowers ≤ length b.name_table.operations)
