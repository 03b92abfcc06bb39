-- Which names are polled, by which calls.
use Rattle.std.specs.Prelude.{◌≡◌}
use Rattle.channel_world_runs.specs.Words.{Some, WaitList, Waiter}
use Rattle.channel_world_runs.specs.Owners.{IsAmong, polled, status, subject}
use Rattle.channel_world_runs.specs.Run.{NameState}
use Rattle.channel_world_runs.specs.Calls.{Agent}

module _ {T : Type 0} where
  -- a party at work works at this name
  abbrev pub IsWorkedAt : Waiter → NameState T → Type 0
  IsWorkedAt w b = (a : Agent T) × IsAmong a b.agents × (subject a.on_return ≡ Some w)

  -- where a poll of a name is under way, a party at work works there
  abbrev pub PolledAtWork : NameState T → Type 0
  PolledAtWork b = (w : Waiter) (line : WaitList) → status b.name_table w ≡ polled line → IsWorkedAt w b
