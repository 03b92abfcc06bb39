-- A poll of one that is pending and was woken, made alone, as settling makes it.
use Rattle.std.specs.Prelude.{◌≡◌, ◌++◌}
use Rattle.channel_world_runs.specs.Words.{true, List, Reply, is_among, poll_of, Waiter}
use Rattle.channel_world_runs.specs.declared.world_state.WorldState.{WorldState}
use Rattle.channel_world_runs.specs.Lone.{CallsAlone}

module _ {T : Type 0} where
  -- w is pending and was woken
  abbrev pub IsWoken : Waiter → WorldState T → Type 0
  IsWoken w f = is_among w f.order.woken ≡ true

  -- w was polled alone, and those that the poll woke stand after the names before
  pub record PollsAlone (w : Waiter) (old : WorldState T) (before : List Waiter) (x : Reply T) (after : List Waiter) (new : WorldState T) : Type 0 where
    pub woken : List Waiter
    pub names : after ≡ before ++ woken
    pub called : CallsAlone (poll_of w) old x woken new
