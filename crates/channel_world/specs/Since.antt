-- Laws of all replies that were given on the way from a configuration, by runs of steps, lists of calls and settlings in turn.
use Rattle.std.specs.Prelude.{◌≡◌, ◌+◌, ◌≤◌, ◌∷◌, ◌++◌}
use Rattle.channel_world.specs.Words.{ℕ, cond, true, List, [], Option, None, Some, Reply, Each, Waiter, new_configuration, ActiveCall, Configuration, tally}
use Rattle.channel_steps.specs.every_run.Bounds.{SaysFull, AllOf, one_if_closed}
use Rattle.channel_world_runs.specs.Activity.{any_close}
use Rattle.channel_world.specs.Carried.{LeadsTo}
use Rattle.channel_world.specs.View.{at_rest, IsQuiet, Stands, Led, WorldView}

module _ {T : Type 0} where
  -- how many of these replies say that they closed the channel
  abbrev pub closings_among : List (Reply T) → ℕ
  closings_among [] = 0
  closings_among (r ∷ rs) = one_if_closed (Some r) + closings_among rs

  -- how many of the calls under way have closed it, and are yet to say so or to end otherwise
  abbrev pub closers_in : Configuration T Waiter → ℕ
  closers_in s = tally (λ (u : ActiveCall T Waiter). any_close u.marks) s.under_way

  -- how many replies may yet say so: one for each of those, and one more while it is open
  abbrev pub closings_left : Configuration T Waiter → ℕ
  closings_left s = closers_in s + cond s.now.queue.closed 0 1

  -- none of these replies refuses a message since the channel is full
  abbrev pub NoneSaysFull : List (Reply T) → Type 0
  NoneSaysFull [] = Unit {0}
  NoneSaysFull (r ∷ rs) = (SaysFull r → ⊥) × NoneSaysFull rs

  -- a configuration without a bound, in which no call under way has seen one
  pub record HasNoBound (s : Configuration T Waiter) : Type 0 where
    pub now : s.now.queue.capacity ≡ None
    pub seen : Each (λ (u : ActiveCall T Waiter). AllOf None u.seen) s.under_way

  -- ---- of what is done to a world, since whatever opening it came from

  -- of all replies since then, with these, at most one says that it closed the channel
  pub record ClosesOnceWith (world : WorldView T) (replies : List (Reply T)) : Type 0 where
    pub since : (capacity : Option ℕ) (before : List (Reply T)) → Led (new_configuration capacity) before world
        → closings_among (before ++ replies) ≤ 1

  -- of all since one without a bound, with these, none says that it is full
  pub record IsNeverFullWith (world : WorldView T) (replies : List (Reply T)) : Type 0 where
    pub since : (before : List (Reply T)) → Led (new_configuration None) before world → NoneSaysFull (before ++ replies)

-- of all replies on the way to this world
module _ {T : Type 0} (world : WorldView T) where
  -- Since the opening at most one says that it closed the channel.
  abbrev pub ClosesOnce : Type 0
  ClosesOnce = (capacity : Option ℕ) (replies : List (Reply T)) → Led (new_configuration capacity) replies world → closings_among replies ≤ 1

  -- So of those that led here from whatever world, with all that were given before.
  abbrev pub ClosesOnceToHere : Type 0
  ClosesOnceToHere = (a : WorldView T) (replies : List (Reply T)) → LeadsTo a replies world → ClosesOnceWith a replies

  -- From whatever configuration no more say so than may yet: one at most, if no call under way has closed it, and none, where it is
  -- closed too.
  abbrev pub ClosesWhatIsLeft : Type 0
  ClosesWhatIsLeft = (s : Configuration T Waiter) (replies : List (Reply T)) → Led s replies world → closings_among replies ≤ closings_left s

  -- So from whatever world with no call under way: one at most,
  abbrev pub ClosesOnceFromRest : Type 0
  ClosesOnceFromRest =
      (a : WorldView T) (replies : List (Reply T)) → Stands a → IsQuiet a → LeadsTo a replies world → closings_among replies ≤ 1

  -- and none, if it is closed.
  abbrev pub NoneClosesAgain : Type 0
  NoneClosesAgain =
      (a : WorldView T) (replies : List (Reply T)) → Stands a → IsQuiet a → (at_rest a).channel.closed ≡ true → LeadsTo a replies world
      → closings_among replies ≡ 0

  -- Since an opening without a bound none says that the channel is full,
  abbrev pub IsNeverFull : Type 0
  IsNeverFull = (replies : List (Reply T)) → Led (new_configuration None) replies world → NoneSaysFull replies

  -- so of those that led here from whatever world, with all that were given before;
  abbrev pub IsNeverFullToHere : Type 0
  IsNeverFullToHere = (a : WorldView T) (replies : List (Reply T)) → LeadsTo a replies world → IsNeverFullWith a replies

  -- nor from whatever configuration without a bound.
  abbrev pub IsNeverFullSince : Type 0
  IsNeverFullSince = (s : Configuration T Waiter) (replies : List (Reply T)) → HasNoBound s → Led s replies world → NoneSaysFull replies

  -- So from whatever world with no call under way that has none.
  abbrev pub IsNeverFullFromRest : Type 0
  IsNeverFullFromRest =
      (a : WorldView T) (replies : List (Reply T)) → Stands a → IsQuiet a → (at_rest a).channel.capacity ≡ None → LeadsTo a replies world
      → NoneSaysFull replies
