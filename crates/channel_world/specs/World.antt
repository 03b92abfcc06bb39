-- What a world is while no call is under way: a state of the model.
use Rattle.std.specs.Prelude.{◌+◌}
use Rattle.channel_world.specs.Words.{ℕ, List, length, capacity_of, Parts, WaitLists, ModelChannel, Waiting, State, Call, Waiter, names_of, WorldState}
use Rattle.concurrent_queue.specs.Step.{items_in, closed_in}
use Rattle.event_listener.specs.Lists.{tasks_of}
use Rattle.channel_world_runs.specs.WorldState.{parts_in}

-- those that wait in each list, and the woken
abbrev pub waiting_in : WaitLists Waiter → List Waiter → Waiting
waiting_in r woken = record {
  sends = tasks_of r.sends.waiting;
  receives = tasks_of r.receives.waiting;
  streams = tasks_of r.streams.waiting;
  closings = tasks_of r.closings.waiting;
  woken = woken;
}

-- how many wait untold
abbrev pub untold_count : Waiting → ℕ
untold_count l = length l.sends + length l.receives + length l.streams + length l.closings

module _ {T : Type 0} where
  -- what the cells, the lists and the counts of a channel say
  abbrev pub channel_of : Parts T Waiter → ModelChannel T
  channel_of p = record {
    messages = items_in p.cells;
    capacity = capacity_of p.cells.form;
    closed = closed_in p.cells;
    senders = p.wait_lists.senders;
    receivers = p.wait_lists.receivers;
  }

  -- The state of a world with no call under way. While calls are made one at a time this is all that a world is.
  abbrev pub at_rest : WorldState T → State T
  at_rest f = record {
    channel = channel_of (parts_in f);
    names = names_of f.name_table;
    waiting = waiting_in (parts_in f).wait_lists f.order.woken;
  }

  -- how many a call may wake at most
  abbrev pub most_woken : Call T → Waiting → ℕ
  most_woken (Call.Close handle) l = untold_count l
  most_woken (Call.Drop handle) l = untold_count l
  most_woken (Call.RecvMany receiver limit) l = length l.sends
  most_woken c l = 2 + length l.streams
