-- The wake-ups owed to those that are pending and were not woken since their last poll, of a world as it is.
use Rattle.std.specs.Prelude.{◌≡◌, ◌+◌, ◌≤◌, ◌<◌, ◌∷◌}
use Rattle.channel_world_runs.specs.Words.{ℕ, Bool, true, false, List, [], Option, count_by, Key, WaitList, Sends, Receives, Streams, Stage, Working, Leave, is_line, line_at, Waiter, Activity, Role, Sending, Receiving, CallUnderWay, NameTable}
use Rattle.concurrent_queue.specs.declared.queue_call.QueueCall.{QueueCall}
use Rattle.channel_steps.specs.every_run.Sends.{HasPlaces}
use Rattle.channel_world_runs.specs.NameTable.{names_of}
use Rattle.channel_world_runs.specs.Owners.{IsAmong, waits, status}

-- ---- the calls under way

abbrev pub is_sending : Role → Bool
is_sending Sending = true
is_sending r = false

abbrev pub is_receiving : Role → Bool
is_receiving Receiving = true
is_receiving r = false

module _ {T : Type 0} where
  -- a call that has nothing left but to drop its listener has announced the places that it has freed
  abbrev pub unannounced : Stage (QueueCall T) T Waiter → Activity → ℕ
  unannounced (Working (Leave x)) d = 0
  unannounced at d = d.taken

  abbrev pub all_unannounced : List (CallUnderWay T) → ℕ
  all_unannounced [] = 0
  all_unannounced (c ∷ cs) = unannounced c.party.call.stage c.activity + all_unannounced cs

-- ---- what is owed

-- What a world shows at a moment: what lives under which name, which were woken, how many messages it holds, at most so many, and whether
-- it is closed; and of the calls under way how many are sending and how many receiving, how many have closed it, and how many places they
-- have freed by taking messages and not announced yet to the waiting sends.
pub record Observation (T : Type 0) : Type 0 where
  pub name_table : NameTable T
  pub woken : List Waiter
  pub messages : ℕ
  pub capacity : Option ℕ
  pub closed : Bool
  pub sending : ℕ
  pub receiving : ℕ
  pub closers : ℕ
  pub freed : ℕ

module _ {T : Type 0} where
  -- how many of these, which were woken, belong to this line
  abbrev pub woken_on : WaitList → NameTable T → List Waiter → ℕ
  woken_on line r woken = count_by (λ w. is_line line (line_at (names_of r) w)) woken

  -- it is pending on this line, and is none of these, which were woken
  abbrev pub IsUnwoken : WaitList → Waiter → NameTable T → List Waiter → Type 0
  IsUnwoken line name r woken = (key : Key) × (status r name ≡ waits (record { line = line; key = key })) × (IsAmong name woken → ⊥)

  -- If one is pending that was not woken since its last poll: of a receive, there are no more messages than woken pending
  -- receives, and sending and receiving calls under way; of a send, where the channel is open, it has a bound, and no more places
  -- than messages, woken pending sends, sending calls under way, and places that were freed and not announced yet; of a stream,
  -- if there is a message, a sending call is under way; of any, where the channel is closed, the call that closed it is under
  -- way.
  pub record Owed (w : Observation T) : Type 0 where
    pub receives : (name : Waiter) → IsUnwoken Receives name w.name_table w.woken → w.messages ≤ woken_on Receives w.name_table w.woken + (w.sending + w.receiving)
    pub sends : (name : Waiter) → IsUnwoken Sends name w.name_table w.woken → w.closed ≡ false
        → HasPlaces w.capacity (w.messages + (woken_on Sends w.name_table w.woken + (w.sending + w.freed)))
    pub streams : (name : Waiter) → IsUnwoken Streams name w.name_table w.woken → 0 < w.messages → 0 < w.sending
    pub closing : (line : WaitList) (name : Waiter) → IsUnwoken line name w.name_table w.woken → w.closed ≡ true → 0 < w.closers
