-- What settling answers, and the room that it takes.
use Rattle.std.specs.Prelude.{◌≡◌, ◌+◌, ◌-◌, ◌*◌, ◌≤◌, ◌++◌, if◌then◌else◌}
use Rattle.channel_world.specs.Words.{ℕ, min, List, length, map, true, false, list_any, option_map_or, wants_growth, Reply, WaitList, Sends, Receives, Streams, Answer, ModelChannel, woken_of_line, is_among, untold, Answers, poll_of, SettlesTo, State, Waiter, Settled}
use Rattle.channel_steps.specs.solo.Ample.{lacks_memory}
use Rattle.channel_world_runs.specs.Positions.{accepted_by, brings}
use Rattle.channel_world_model.specs.Awake.{AwakeIn}
use Rattle.channel_world.specs.View.{WorldView, at_rest, names_in, HasPositions}

module _ {T : Type 0} where
  -- the polls of a settling, each with its name and its reply, in order
  abbrev pub polls_in : List (Settled T) → List (Waiter × Reply T)
  polls_in polls = map (λ (p : Settled T). (p.name, p.reply)) polls

  -- no poll of these was refused memory
  abbrev pub NoneLackedMemory : List (Settled T) → Type 0
  NoneLackedMemory polls = list_any (λ (p : Settled T). lacks_memory p.reply) polls ≡ false

  -- ---- room

  -- one was polled, and those that the poll woke stand after the names before
  pub record Polls (w : Waiter) (s : State T) (before : List Waiter) (x : Reply T) (after : List Waiter) (t : State T) : Type 0 where
    pub woken : List Waiter
    pub names : after ≡ before ++ woken
    pub answers : Answers s (poll_of w) (record { after = t; reply = x; woken = woken })

module _ {T : Type 0} where
  -- how many are pending on this line: they stand untold in it, or were woken
  abbrev pub pending_on : WaitList → State T → ℕ
  pending_on line s = length (untold line s.waiting) + woken_of_line line s

  -- Settling makes no more polls: one for each that is woken, and for each that is pending as many as it may wake when it leaves: a send
  -- all streams and two more, a receive two, a stream one, and a wait for the closing nobody.
  abbrev pub most_polls : State T → ℕ
  most_polls s =
      length s.waiting.woken + (pending_on Sends s * (pending_on Streams s + 2) + 2 * pending_on Receives s + pending_on Streams s)

module _ {T : Type 0} where
  -- How many messages come in at most, if so many sends are pending, and so many who take a message each: none into a closed
  -- channel; with a bound no more than places are free, and than are freed.
  abbrev pub most_in : ModelChannel T → ℕ → ℕ → ℕ
  most_in c sends takers =
      if c.closed then 0 else option_map_or (λ capacity. min sends ((capacity - length c.messages) + takers)) c.capacity sends

  -- settling accepts no more messages
  abbrev pub most_accepted : State T → ℕ
  most_accepted s = most_in s.channel (pending_on Sends s) (pending_on Receives s + pending_on Streams s)

  -- If somebody is woken the queue has positions for the messages that come in. If nobody is, nobody is polled.
  abbrev pub HasPositionsToSettle : WorldView T → Type 0
  HasPositionsToSettle w = (name : Waiter) → is_among name (at_rest w).waiting.woken ≡ true → HasPositions (most_accepted (at_rest w)) w

  -- however a poll is answered, the queue has a position for the message that it brings in, if it does
  abbrev pub PollHasPosition : Waiter → WorldView T → Type 0
  PollHasPosition name w =
      (a : Answer T) → Answers (at_rest w) (poll_of name) a → HasPositions (accepted_by (brings (names_in w) (poll_of name)) a.reply) w

-- However it is answered, settling makes no more polls than that, from whatever state in which nobody is left asleep.
abbrev pub SettlingIsShort : Type 0 → Type 0
SettlingIsShort T = (s t : State T) (ps : List (Waiter × Reply T)) → AwakeIn s → SettlesTo s ps t → length ps ≤ most_polls s

-- no poll of these was refused memory or serials
abbrev pub AreAmple : List (Settled ℕ) → Type 0
AreAmple polls = list_any (λ (p : Settled ℕ). wants_growth p.reply) polls ≡ false
