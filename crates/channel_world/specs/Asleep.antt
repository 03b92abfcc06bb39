-- Which names sleep in a world, pending and not woken since the last poll, and what is responsible for them: calls under way or not.
use Rattle.std.specs.Prelude.{◌≡◌, ◌+◌, ◌<◌, ◌≤◌}
use Rattle.channel_world.specs.Words.{ℕ, true, false, [], length, Option, None, Some, WaitList, Sends, Receives, Streams, NobodyIsLeft, untold, Waiter, IsUnwoken, woken_on, stands_pending, how_many}
use Rattle.channel_steps.specs.every_run.Sends.{HasPlaces}
use Rattle.channel_world.specs.Kinds.{pending_on_line}
use Rattle.channel_world.specs.View.{names_in, woken_in, messages_in, capacity_in, is_closed, calls_in, taken_in, at_rest, observation_of, IsQuiet, WorldView}

-- one more message fits: always, if there is no bound
abbrev pub HasAPlace : Option ℕ → ℕ → Type 0
HasAPlace None held = Unit {0}
HasAPlace (Some capacity) held = held < capacity

module _ {T : Type 0} where
  -- how many are pending, and how many of these were woken
  abbrev pub pending_in : WorldView T → ℕ
  pending_in w = how_many stands_pending (names_in w)

  abbrev pub woken_among : WorldView T → ℕ
  woken_among w = length (woken_in w)

  -- nobody sleeps on this line
  pub record NobodySleeps (line : WaitList) (w : WorldView T) : Type 0 where
    pub none : (name : Waiter) → IsUnwoken line name (names_in w) (woken_in w) → ⊥

  -- ---- what is responsible for those that sleep, in the numbers that a world tells

  -- if a receive sleeps there are no more messages than woken ones and calls under way
  abbrev pub ReceivesAreAnswered : WorldView T → Type 0
  ReceivesAreAnswered w = (name : Waiter) → IsUnwoken Receives name (names_in w) (woken_in w) → messages_in w ≤ woken_among w + calls_in w

  -- if a send sleeps on an open channel it has a bound, and no more places than messages, woken ones, calls under way, and places
  -- that such calls have freed and not announced yet
  abbrev pub SendsAreAnswered : WorldView T → Type 0
  SendsAreAnswered w =
      (name : Waiter) → IsUnwoken Sends name (names_in w) (woken_in w) → is_closed w ≡ false
      → HasPlaces (capacity_in w) (messages_in w + (woken_among w + (calls_in w + (observation_of w).freed)))

  -- if a stream sleeps beside a message a call is under way
  abbrev pub StreamsAreAnswered : WorldView T → Type 0
  StreamsAreAnswered w = (name : Waiter) → IsUnwoken Streams name (names_in w) (woken_in w) → 0 < messages_in w → 0 < calls_in w

  -- and if anybody sleeps on a closed channel
  abbrev pub ClosingIsAnswered : WorldView T → Type 0
  ClosingIsAnswered w =
      (line : WaitList) (name : Waiter) → IsUnwoken line name (names_in w) (woken_in w) → is_closed w ≡ true → 0 < calls_in w

  -- ---- by kind, in the numbers that a world tells of it

  -- no receive sleeps where more messages are held than receives are woken and calls sending or receiving,
  abbrev pub NoReceiveSleeps : WorldView T → Type 0
  NoReceiveSleeps w =
      woken_on Receives (names_in w) (woken_in w) + ((observation_of w).sending + (observation_of w).receiving) < messages_in w → NobodySleeps Receives w

  -- no send on an open channel where more fits than messages, woken sends, sending calls, and messages that calls have taken
  abbrev pub NoSendSleeps : WorldView T → Type 0
  NoSendSleeps w =
      is_closed w ≡ false
      → HasAPlace (capacity_in w) (messages_in w + (woken_on Sends (names_in w) (woken_in w) + ((observation_of w).sending + taken_in w)))
      → NobodySleeps Sends w

  -- no stream beside a message if no call is sending,
  abbrev pub NoStreamSleeps : WorldView T → Type 0
  NoStreamSleeps w = (observation_of w).sending ≡ 0 → 0 < messages_in w → NobodySleeps Streams w

  -- nobody on a closed channel if no call has closed it,
  abbrev pub NobodySleepsWhereClosed : WorldView T → Type 0
  NobodySleepsWhereClosed w = (observation_of w).closers ≡ 0 → is_closed w ≡ true → (line : WaitList) → NobodySleeps line w

  -- and nobody on a line of which as many are woken as are pending
  abbrev pub ALineIsAwake : WorldView T → Type 0
  ALineIsAwake w = (line : WaitList) → pending_on_line line (names_in w) ≡ woken_on line (names_in w) (woken_in w) → NobodySleeps line w

  -- ---- with no call under way

  -- if nobody is woken no receive sleeps beside a message,
  abbrev pub NoReceiveSleepsBesideAMessage : WorldView T → Type 0
  NoReceiveSleepsBesideAMessage w = calls_in w ≡ 0 → woken_among w ≡ 0 → 0 < messages_in w → NobodySleeps Receives w

  -- no stream, woken or not who else,
  abbrev pub NoStreamSleepsBesideAMessage : WorldView T → Type 0
  NoStreamSleepsBesideAMessage w = calls_in w ≡ 0 → 0 < messages_in w → NobodySleeps Streams w

  -- no send on an open channel beside a free place,
  abbrev pub NoSendSleepsBesideAPlace : WorldView T → Type 0
  NoSendSleepsBesideAPlace w =
      calls_in w ≡ 0 → woken_among w ≡ 0 → is_closed w ≡ false
      → HasAPlace (capacity_in w) (messages_in w) → NobodySleeps Sends w

  -- and nobody on a closed one
  abbrev pub NobodySleepsOnAClosed : WorldView T → Type 0
  NobodySleepsOnAClosed w = calls_in w ≡ 0 → is_closed w ≡ true → (line : WaitList) → NobodySleeps line w

  -- if as many are woken as are pending, nobody sleeps
  abbrev pub AllAreAwake : WorldView T → Type 0
  AllAreAwake w = pending_in w ≡ woken_among w → (line : WaitList) → NobodySleeps line w

  -- ---- the state that it is then: the names that a message, a free place or a closing lets go on

  -- if it holds a message no receive is pending
  abbrev pub NoReceivePendsBesideAMessage : WorldView T → Type 0
  NoReceivePendsBesideAMessage w = 0 < messages_in w → (at_rest w).waiting.receives ≡ []

  -- nor a stream
  abbrev pub NoStreamPendsBesideAMessage : WorldView T → Type 0
  NoStreamPendsBesideAMessage w = 0 < messages_in w → (at_rest w).waiting.streams ≡ []

  -- if it is open and one more message fits, no send is pending
  abbrev pub NoSendPendsBesideAPlace : WorldView T → Type 0
  NoSendPendsBesideAPlace w =
      (at_rest w).channel.closed ≡ false → HasAPlace (at_rest w).channel.capacity (messages_in w) → (at_rest w).waiting.sends ≡ []

  -- if it is closed nobody is pending
  abbrev pub NobodyPendsOnAClosed : WorldView T → Type 0
  NobodyPendsOnAClosed w = (at_rest w).channel.closed ≡ true → (line : WaitList) → untold line (at_rest w).waiting ≡ []

  -- beside one that was not woken no message, free place or closing for which no woken one is responsible
  abbrev pub NobodyIsLeftAtRest : WorldView T → Type 0
  NobodyIsLeftAtRest w = IsQuiet w → NobodyIsLeft (at_rest w)

  -- so if nobody is woken no receive, no stream and no send is pending that could go on
  abbrev pub NoReceiveIsLeft : WorldView T → Type 0
  NoReceiveIsLeft w = IsQuiet w → woken_among w ≡ 0 → NoReceivePendsBesideAMessage w

  abbrev pub NoStreamIsLeft : WorldView T → Type 0
  NoStreamIsLeft w = IsQuiet w → NoStreamPendsBesideAMessage w

  abbrev pub NoSendIsLeft : WorldView T → Type 0
  NoSendIsLeft w = IsQuiet w → woken_among w ≡ 0 → NoSendPendsBesideAPlace w

  -- and nobody on a closed channel
  abbrev pub NobodyIsLeftOnAClosed : WorldView T → Type 0
  NobodyIsLeftOnAClosed w = IsQuiet w → NobodyPendsOnAClosed w
