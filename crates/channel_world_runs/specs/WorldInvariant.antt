-- All that every step keeps of those that wait.
use Rattle.std.specs.Prelude.{◌≡◌}
use Rattle.channel_world_runs.specs.Words.{false, List, Waiter, ActiveCall, Configuration}
use Rattle.channel_steps.specs.every_run.Sound.{WakeInvariant}
use Rattle.channel_steps.specs.Answers.{asks_first}
use Rattle.channel_world_runs.specs.Counted.{Counted}
use Rattle.channel_world_runs.specs.OwnerPolled.{PolledAtWork}
use Rattle.channel_world_runs.specs.OwnerWoken.{WokenSound}
use Rattle.channel_world_runs.specs.Owners.{All, Owned}
use Rattle.channel_world_runs.specs.Run.{NameState}
use Rattle.channel_world_runs.specs.Users.{FewUsers}

module _ {T : Type 0} where
  -- none of these calls asks a listener before it tries, but a stream's
  abbrev pub AllTry : List (ActiveCall T Waiter) → Type 0
  AllTry us = All (λ (u : ActiveCall T Waiter). asks_first u.ask ≡ false) us

  -- Each listener has its owner; each that was woken is told, and each that may be has a place; none that waits is forgotten; where a poll
  -- of a name is under way, a party works there; no handle is used by more than use it; the counts count the strong handles; and no call
  -- by names asks a listener before it tries.
  pub record WorldInvariant (b : NameState T) (s : Configuration T Waiter) : Type 0 where
    pub owned : Owned b s
    pub woken : WokenSound b s
    pub sound : WakeInvariant s
    pub polled : PolledAtWork b
    pub users : FewUsers b
    pub counted : Counted b s
    pub tries : AllTry s.under_way

  -- all of this but the last: it is kept also where a poll asks its listener first
  pub record NamesKept (b : NameState T) (s : Configuration T Waiter) : Type 0 where
    pub owned : Owned b s
    pub woken : WokenSound b s
    pub sound : WakeInvariant s
    pub polled : PolledAtWork b
    pub users : FewUsers b
    pub counted : Counted b s
