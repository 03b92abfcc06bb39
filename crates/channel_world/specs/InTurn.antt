-- What leaves and what comes in any run from one configuration to another, by lists of steps, lists of calls and settlings in turn: message
-- by message, each with the party whose call brought it; in which order they leave, and what becomes of a refused one.
use Rattle.std.specs.Prelude.{◌≡◌, ◌+◌, ◌<◌, ◌∷◌, ◌++◌}
use Rattle.channel_world.specs.Words.{ℕ, List, [], map, length, slice_get, Some, Err, ChannelAsk, Reply, Returned, State, Waiter, MarkedMoment, with_marked, EachStep, IsRun, Next, NextConfiguration, Configuration, came_by, gone_by, ChannelEntry, ChannelStep}
use Rattle.futures.specs.declared.task.Poll.TheVariants.{Ready, Pending}
use Rattle.channel_calls.specs.Errors.{unsent, handed_back, try_handed_back}
use Rattle.channel_world.specs.View.{at_rest, IsQuiet, StandsIn, Led, WorldView}
use Rattle.channel_calls.specs.declared.error.Refused.{Refused}

module _ {T : Type 0} where
  -- ---- one step

  -- what it lets in, with the party whose call brought it
  abbrev pub let_in : (s : Configuration T Waiter) (x : ChannelStep T Waiter) (e : ChannelEntry T) (names : List Waiter) (t : Configuration T Waiter)
      → Next s x e names t → List (ℕ × T)
  let_in s (ChannelStep.Begin p a) e names t n = []
  let_in s (ChannelStep.Step p) e names t n = map (λ m. (p, m)) (came_by e.mark n.mine.ask)

  -- what it takes out
  abbrev pub let_out : (s : Configuration T Waiter) (x : ChannelStep T Waiter) (e : ChannelEntry T) (names : List Waiter) (t : Configuration T Waiter)
      → Next s x e names t → List T
  let_out s (ChannelStep.Begin p a) e names t n = []
  let_out s (ChannelStep.Step p) e names t n = gone_by e.mark s.now.queue.items

  -- A call that asks this and refuses its message with this reply, or goes on waiting with it, has made no mark, so it let nothing
  -- in; and the message is returned, or left to its operation.
  abbrev pub KeepsItOut : ChannelAsk T Waiter → List (MarkedMoment T Waiter) → Reply T → Returned T → Type 0
  KeepsItOut (ChannelAsk.TrySend m) ds (Reply.TrySend (Err e)) k = (ds ≡ []) × (try_handed_back e ≡ m)
  KeepsItOut (ChannelAsk.ForceSend m) ds (Reply.ForceSend (Err e)) k = (ds ≡ []) × (handed_back e ≡ m)
  KeepsItOut (ChannelAsk.PollSend m key task) ds (Reply.SendPoll (Ready (Err (Refused.Plain e)))) k = (ds ≡ []) × (unsent e ≡ m)
  KeepsItOut (ChannelAsk.PollSend m key task) ds (Reply.SendPoll (Ready (Err (Refused.NoMemory u)))) k = (ds ≡ []) × (k.message ≡ Some m)
  KeepsItOut (ChannelAsk.PollSend m key task) ds (Reply.SendPoll (Ready (Err (Refused.SerialsUsedUp u)))) k = (ds ≡ []) × (k.message ≡ Some m)
  KeepsItOut (ChannelAsk.PollSend m key task) ds (Reply.SendPoll Pending) k = (ds ≡ []) × (k.message ≡ Some m)
  KeepsItOut (ChannelAsk.RefusePoll line message key) ds r k = (ds ≡ []) × (k.message ≡ message)
  KeepsItOut a ds r k = Unit {0}

  -- so it is of a step that ends its call
  abbrev pub EndsWithItOut : (s : Configuration T Waiter) (x : ChannelStep T Waiter) (e : ChannelEntry T) (names : List Waiter) (t : Configuration T Waiter)
      → Next s x e names t → Type 0
  EndsWithItOut s (ChannelStep.Begin p a) e names t n = Unit {0}
  EndsWithItOut s (ChannelStep.Step p) e names t n =
      (r : Reply T) → e.reply ≡ Some r
      → (k : Returned T) × (e.kept ≡ Some k) × KeepsItOut n.mine.ask (with_marked n.mine.marks e.mark s.now n.mine.seen) r k

  -- ---- a run: what all of its steps let in, what they take out, and that each refused send is kept out

  abbrev pub all_let_in : (s : Configuration T Waiter) (xs : List (ChannelStep T Waiter)) (es : List (ChannelEntry T)) (ns : List (Configuration T Waiter))
      → EachStep NextConfiguration s xs es ns → List (ℕ × T)
  all_let_in s (x ∷ xs) (e ∷ es) (n ∷ ns) h = let_in s x e h.0.0 n h.0.1 ++ all_let_in n xs es ns h.1
  all_let_in s xs es ns h = []

  abbrev pub all_let_out : (s : Configuration T Waiter) (xs : List (ChannelStep T Waiter)) (es : List (ChannelEntry T)) (ns : List (Configuration T Waiter))
      → EachStep NextConfiguration s xs es ns → List T
  all_let_out s (x ∷ xs) (e ∷ es) (n ∷ ns) h = let_out s x e h.0.0 n h.0.1 ++ all_let_out n xs es ns h.1
  all_let_out s xs es ns h = []

  abbrev pub AllKeptOut : (s : Configuration T Waiter) (xs : List (ChannelStep T Waiter)) (es : List (ChannelEntry T)) (ns : List (Configuration T Waiter))
      → EachStep NextConfiguration s xs es ns → Type 0
  AllKeptOut s (x ∷ xs) (e ∷ es) (n ∷ ns) h = EndsWithItOut s x e h.0.0 n h.0.1 × AllKeptOut n xs es ns h.1
  AllKeptOut s xs es ns h = Unit {0}

  module _ {s t : Configuration T Waiter} {xs : List (ChannelStep T Waiter)} {es : List (ChannelEntry T)} where
    -- What came on it, in the order of its steps, each with the party whose call brought it. A party has one call under way at a time, so
    -- of what one party brought the order is also that of its calls.
    abbrev pub brought_on : IsRun NextConfiguration s xs es t → List (ℕ × T)
    brought_on run = all_let_in s xs es run.moments run.each

    -- what left, in order
    abbrev pub left_on : IsRun NextConfiguration s xs es t → List T
    left_on run = all_let_out s xs es run.moments run.each

    -- what was held at first, and after it what came
    abbrev pub accepted_on : IsRun NextConfiguration s xs es t → List T
    accepted_on run = s.now.queue.items ++ map (λ (m : ℕ × T). m.1) (brought_on run)

    -- each refused send of it
    abbrev pub EachKeepsItOut : IsRun NextConfiguration s xs es t → Type 0
    EachKeepsItOut run = AllKeptOut s xs es run.moments run.each

  -- ---- at rest

  -- with no call under way a configuration is the state of the model
  pub record IsStateOf (s : Configuration T Waiter) (t : State T) : Type 0 where
    pub nobody : s.under_way ≡ []
    pub messages : s.now.queue.items ≡ t.channel.messages
    pub capacity : s.now.queue.capacity ≡ t.channel.capacity
    pub closed : s.now.queue.closed ≡ t.channel.closed
    pub senders : s.now.wait_lists.senders ≡ t.channel.senders
    pub receivers : s.now.wait_lists.receivers ≡ t.channel.receivers

  -- so is each in which the world stands
  abbrev pub StandsAsItsState : WorldView T → Type 0
  StandsAsItsState w = IsQuiet w → (s : Configuration T Waiter) → StandsIn w s → IsStateOf s (at_rest w)

  -- what left since a configuration, followed by the messages of the state, is what it held followed by what came
  abbrev pub HasItsAccounts : WorldView T → Type 0
  HasItsAccounts w =
      IsQuiet w → (s : Configuration T Waiter) (replies : List (Reply T)) (led : Led s replies w)
      → left_on led.way.run ++ (at_rest w).channel.messages ≡ accepted_on led.way.run

-- What leaves as the n-th is what was held or came as the n-th.
abbrev pub LeaveInTurn : Type 0 → Type 0
LeaveInTurn T =
    (s t : Configuration T Waiter) (steps : List (ChannelStep T Waiter)) (trace : List (ChannelEntry T)) (run : IsRun NextConfiguration s steps trace t)
    (n : ℕ) → n < length (left_on run) → slice_get (left_on run) n ≡ slice_get (accepted_on run) n

-- So of two messages of which one was held or came later, it has left only where the other one has, and that as an earlier one.
abbrev pub LaterLeavesLater : Type 0 → Type 0
LaterLeavesLater T =
    (s t : Configuration T Waiter) (steps : List (ChannelStep T Waiter)) (trace : List (ChannelEntry T)) (run : IsRun NextConfiguration s steps trace t)
    (i j : ℕ) (first later : T) → i < j → slice_get (accepted_on run) i ≡ Some first → slice_get (accepted_on run) j ≡ Some later
    → j < length (left_on run) → (slice_get (left_on run) i ≡ Some first) × (slice_get (left_on run) j ≡ Some later)

-- Of two messages that one party brought, as by successive calls of its own, the later has left only where the first has, and each has
-- left as the one that it came as, behind all that was held at first: so the first as an earlier one.
abbrev pub OfOnePartyInTurn : Type 0 → Type 0
OfOnePartyInTurn T =
    (s t : Configuration T Waiter) (steps : List (ChannelStep T Waiter)) (trace : List (ChannelEntry T)) (run : IsRun NextConfiguration s steps trace t)
    (party i j : ℕ) (first later : T) → i < j → slice_get (brought_on run) i ≡ Some (party, first)
    → slice_get (brought_on run) j ≡ Some (party, later) → length s.now.queue.items + j < length (left_on run)
    → (slice_get (left_on run) (length s.now.queue.items + i) ≡ Some first)
    × (slice_get (left_on run) (length s.now.queue.items + j) ≡ Some later)

-- No refused send lets its message in.
abbrev pub RefusedIsKeptOut : Type 0 → Type 0
RefusedIsKeptOut T =
    (s t : Configuration T Waiter) (steps : List (ChannelStep T Waiter)) (trace : List (ChannelEntry T)) (run : IsRun NextConfiguration s steps trace t)
    → EachKeepsItOut run
