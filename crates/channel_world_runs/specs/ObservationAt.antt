-- What a moment shows of those that are pending, and of the calls under way that are responsible for them.
use Rattle.std.specs.Prelude.{◌+◌, ◌∷◌}
use Rattle.channel_world_runs.specs.Words.{ℕ, List, [], length, count_by, Waiter, ActiveCall, Configuration, Telling, takings}
use Rattle.channel_world_runs.specs.Activity.{role_of, any_close}
use Rattle.channel_world_runs.specs.Owed.{Observation, is_sending, is_receiving}
use Rattle.channel_world_runs.specs.Run.{NameState}

-- nothing, once the call has told somebody
abbrev pub unless_told : List Telling → ℕ → ℕ
unless_told [] n = n
unless_told (t ∷ ts) n = 0

module _ {T : Type 0} where
  -- the places that a call has freed by taking messages, while it has told nobody of them
  abbrev pub freed_by : ActiveCall T Waiter → ℕ
  freed_by u = unless_told u.told (takings u.marks)

  abbrev pub all_freed : List (ActiveCall T Waiter) → ℕ
  all_freed [] = 0
  all_freed (u ∷ us) = freed_by u + all_freed us

  -- with these names, and with this channel and its calls under way
  abbrev pub observation_at : NameState T → Configuration T Waiter → Observation T
  observation_at b s = record {
    name_table = b.name_table;
    woken = b.order.woken;
    messages = length s.now.queue.items;
    capacity = s.now.queue.capacity;
    closed = s.now.queue.closed;
    sending = count_by (λ (u : ActiveCall T Waiter). is_sending (role_of u.ask)) s.under_way;
    receiving = count_by (λ (u : ActiveCall T Waiter). is_receiving (role_of u.ask)) s.under_way;
    closers = count_by (λ (u : ActiveCall T Waiter). any_close u.marks) s.under_way;
    freed = all_freed s.under_way;
  }
