-- What a channel shows that has come to rest.
use Rattle.std.specs.Prelude.{◌≡◌}
use Rattle.channel_world_runs.specs.Words.{[], None, tasks_of, Outcome, Alone, AwakeIn, refusal, State, Call, Waiter, Configuration}
use Rattle.channel_world_runs.specs.WorldInvariant.{WorldInvariant}
use Rattle.channel_world_runs.specs.NameTable.{names_of, held_of}
use Rattle.channel_world_runs.specs.Run.{NameState}
use Rattle.channel_world_runs.specs.refinement.Asked.{asked_in}
use Rattle.channel_world_runs.specs.refinement.Over.{Matches}
use Rattle.channel_world_runs.specs.refinement.Refines.{Refines}

module _ {T : Type 0} where
  -- the state of the model: the names as they live, those that wait in the order of each list, and the woken in the order of
  -- their waking
  abbrev pub state_at : NameState T → Configuration T Waiter → State T
  state_at b s = record {
    channel = record {
      messages = s.now.queue.items;
      capacity = s.now.queue.capacity;
      closed = s.now.queue.closed;
      senders = s.now.wait_lists.senders;
      receivers = s.now.wait_lists.receivers;
    };
    names = names_of b.name_table;
    waiting = record {
      sends = tasks_of s.now.wait_lists.sends.waiting;
      receives = tasks_of s.now.wait_lists.receives.waiting;
      streams = tasks_of s.now.wait_lists.streams.waiting;
      closings = tasks_of s.now.wait_lists.closings.waiting;
      woken = b.order.woken;
    };
  }

  -- The channel shows this state with the listeners that its names hold, and nobody is left asleep there. Each call made alone
  -- from there, which the model doesn't refuse, does what the model allows of it.
  pub record IsWorld (b : NameState T) (s : Configuration T Waiter) : Type 0 where
    pub shows : Refines (held_of b.name_table) s.now (state_at b s)
    pub awake : AwakeIn (state_at b s)
    pub calls :
        (c : Call T) (o : Outcome T Waiter)
        → refusal (state_at b s) c ≡ None → Alone (asked_in (held_of b.name_table) (state_at b s) c) s.now o
        → Matches (held_of b.name_table) (state_at b s) c o

-- A channel with no call under way shows such a state, however it came about, wherever what every step keeps of those that wait
-- is kept.
abbrev pub RestIsAWorld : Type 0 → Type 0
RestIsAWorld T = (b : NameState T) (s : Configuration T Waiter) → WorldInvariant b s → s.under_way ≡ [] → IsWorld b s
