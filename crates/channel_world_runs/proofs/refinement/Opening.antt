-- A channel that was just opened shows the start.
use Rattle.channel_world_runs.proofs.Words.{ℕ, [], Option, refl, Channel, new_channel, line_at, State, start, Waiter, Sends, Refines, ShowsLines, start_awake}
use Rattle.channel_world_runs.specs.refinement.Opening.{nothing_held, OpeningIsOver}

module _ (T : Type 0) (capacity : Option ℕ) where
  abbrev channel : Channel T Waiter
  channel = new_channel capacity

  abbrev s : State T
  s = start capacity

  lines : ShowsLines (line_at s.names) nothing_held s.channel.closed channel.wait_lists s.waiting
  lines Sends = record { untold = tt; told = ([], tt, λ w. refl) }
  lines x = record { untold = tt; told = ([], tt, λ w. refl) }

  pub starts : Refines nothing_held channel s
  starts = record {
    messages = refl;
    closed = refl;
    capacity = refl;
    senders = refl;
    receivers = refl;
    lines = lines;
    keys = record {
      holds = λ w key e. cc e;
      apart = λ line v w key k1 k2 e1 e2. cc e1;
    };
  }

pub opening_over : (T : Type 0) → OpeningIsOver T
opening_over T capacity = (starts T capacity, start_awake T capacity)
