-- What is owed, said of a configuration: that is proved first, and of the world by it.
use Rattle.std.specs.Prelude.{◌≡◌, ◌+◌, ◌≤◌, ◌⊎◌}
use Rattle.channel_world_runs.proofs.Words.{ℕ, Bool, true, [], length, count_by, ChannelAsk, WaitList, Sends, Receives, Streams, Waiter, Open, Shut, ActiveCall, Configuration, HasClosed, HasPlaces, role_of, IsUnwoken, woken_on, AnyOf, NameState, all_freed}
use Rattle.channel_world_runs.specs.Owed as world

module _ {T : Type 0} where
  abbrev pub is_sending : ChannelAsk T Waiter → Bool
  is_sending a = world.is_sending (role_of a)

  abbrev pub is_receiving : ChannelAsk T Waiter → Bool
  is_receiving a = world.is_receiving (role_of a)

  -- the sending and the receiving calls under way
  abbrev pub at_it : Configuration T Waiter → ℕ
  at_it s =
      count_by (λ (u : ActiveCall T Waiter). is_sending u.ask) s.under_way
      + count_by (λ (u : ActiveCall T Waiter). is_receiving u.ask) s.under_way

  -- the sending calls under way, and the places that calls under way have freed and not announced yet
  abbrev pub to_send : Configuration T Waiter → ℕ
  to_send s = count_by (λ (u : ActiveCall T Waiter). is_sending u.ask) s.under_way + all_freed s.under_way

  -- the four lines
  pub record OwedIn (b : NameState T) (s : Configuration T Waiter) : Type 0 where
    pub receives :
        (w : Waiter) → IsUnwoken Receives w b.name_table b.order.woken
        → length s.now.queue.items ≤ woken_on Receives b.name_table b.order.woken + at_it s
    pub sends :
        (w : Waiter) → IsUnwoken Sends w b.name_table b.order.woken → Open s.now
        → HasPlaces s.now.queue.capacity (length s.now.queue.items + (woken_on Sends b.name_table b.order.woken + to_send s))
    pub streams :
        (w : Waiter) → IsUnwoken Streams w b.name_table b.order.woken
        → (s.now.queue.items ≡ []) ⊎ AnyOf (λ u. is_sending u.ask ≡ true) s.under_way
    pub closing :
        (line : WaitList) (w : Waiter) → IsUnwoken line w b.name_table b.order.woken → Shut s.now → AnyOf (λ u. HasClosed u.marks) s.under_way
