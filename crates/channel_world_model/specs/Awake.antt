-- What is true of a world between two calls: which names wait, where, and that none is left asleep.
use Rattle.std.specs.Prelude.{◌≡◌, ◌⊎◌, ◌≤◌, ◌+◌}
use Rattle.channel_world_model.specs.Words.{ℕ, List, [], length, Bool, true, false, Option, None, Some, IsSome, filter, Waiter, WaitList, Sends, Receives}
use Rattle.channel_world_model.specs.Lines.{Waiting, same_waiter, is_among, untold}
use Rattle.channel_world_model.specs.Laws.{count_of, free_places, line_at}
use Rattle.channel_world_model.specs.State.{State}

-- the line that a pending name belongs to
abbrev pub Kind : Type 0
Kind = Waiter → Option WaitList

-- if somebody of the line is untold, at least n of it are woken
abbrev pub Enough : Kind → WaitList → ℕ → Waiting → Type 0
Enough k line n l = (untold line l ≡ []) ⊎ (n ≤ count_of k line l.woken)

-- how often a name stands in a list
abbrev pub times : Waiter → List Waiter → ℕ
times w ws = length (filter (same_waiter w) ws)

abbrev pub times_in : Waiter → Waiting → ℕ
times_in w l = times w l.sends + times w l.receives + times w l.streams + times w l.closings + times w l.woken

-- each untold name stands in its own line, each woken one belongs to some line, and none stands twice
pub record Placed (k : Kind) (l : Waiting) : Type 0 where
  pub lines : (line : WaitList) (w : Waiter) → is_among w (untold line l) ≡ true → k w ≡ Some line
  pub wakes : (w : Waiter) → is_among w l.woken ≡ true → IsSome (k w)
  pub once : (w : Waiter) → times_in w l ≤ 1

pub record Awake (k : Kind) (capacity : Option ℕ) (closed : Bool) (n : ℕ) (l : Waiting) : Type 0 where
  pub placed : Placed k l
  pub receives : Enough k Receives n l
  pub sends : closed ≡ false → Enough k Sends (free_places capacity n) l
  pub unbounded : capacity ≡ None → l.sends ≡ []
  pub streams : (l.streams ≡ []) ⊎ (n ≡ 0)
  pub opened : closed ≡ true → (line : WaitList) → untold line l ≡ []

-- of a whole state: a name that waits belongs to the line of its live operation, a finished send to none
abbrev pub AwakeIn : {T : Type 0} → State T → Type 0
AwakeIn s = Awake (line_at s.names) s.channel.capacity s.channel.closed (length s.channel.messages) s.waiting
