-- What contracts see of an event and of a listener, and what its calls say of the sections that they made.
use Rattle.std.specs.Prelude.{◌≡◌, ◌⊎◌, ◌↔◌, ◌-◌, ℕ, Bool, true, false, is_none, Result, Option, None, Some, Ok, Err}
use Rattle.std.specs.Duration.{as_nanos}
use Rattle.std.specs.Time.{instant_nanos}
use Rattle.std.specs.declared.time.Duration.{Duration}
use Rattle.std.specs.declared.time.Instant.{Instant}
use Rattle.futures.specs.declared.task.waker.Waker.{Waker}
use Rattle.event_listener.specs.Sections.{Section, OnSome, OnEvents, listens, polls, arms, parks, looks, leaves, removes}
use Rattle.event_listener.specs.declared.error.ListenError.{ListenError}
use Rattle.event_listener.specs.declared.error.ListenError.TheVariants.{NoMemory}
use Rattle.event_listener.specs.declared.key.Key.{Key}
use Rattle.event_listener.specs.declared.listener.PollFault.{PollFault}
use Rattle.event_listener.specs.declared.listener.PollFault.TheVariants.{NeverInserted}

-- the identity of an event, and the name of the lock that keeps its list, which no other lock has
pub record EventView : Type 0 where
  pub number : ℕ
  pub lock : ℕ

-- the identity of a listener's event, the seal of the list, the name of the cell of its task, and its key there until it has given its tag
pub record Listening : Type 0 where
  pub event : ℕ
  pub list : ℕ
  pub cell : ℕ
  pub key : Option Key

-- what it may give as a future: that it has given its tag, exactly where it has
abbrev pub GivesTag : {T : Type 0} → Listening → Result T PollFault → Type 0
GivesTag l given = (given ≡ Err NeverInserted) ↔ (is_none l.key ≡ true)

-- what is left of the time, where the clock read so at the beginning and so later; nothing where it couldn't be read
abbrev pub time_left : Option Instant → Option Instant → Duration → ℕ
time_left (Some begun) (Some now) timeout = as_nanos timeout - (instant_nanos now - instant_nanos begun)
time_left (Some begun) None timeout = 0
time_left None now timeout = 0

-- the time up to a moment, where the clock reads so
abbrev pub time_until : Option Instant → Instant → ℕ
time_until (Some now) deadline = instant_nanos deadline - instant_nanos now
time_until None deadline = 0

module _ (read : Option Instant → Type 0) (read_again : Option Instant → Option Instant → Type 0) (slept : ℕ → Option Duration → Type 0) where
  -- the clock was asked twice, and the thread slept on this parker for what was left then, if anything was
  pub record Lapsed (parker : ℕ) (timeout : Duration) : Type 0 where
    pub begun : Option Instant
    pub begun_read : read begun
    pub later : Option Instant
    pub later_read : read_again begun later
    pub left : Duration
    pub left_is : as_nanos left ≡ time_left begun later timeout
    pub slept_so : (as_nanos left ≡ 0) ⊎ slept parker (Some left)

module _ {T L : Type 0} (did : ℕ → Section T → L → L → Type 0) where
  -- a new listener stands in the list, added with its own task
  abbrev pub Listened : Listening → Type 0
  Listened l = (key : Key) × (l.key ≡ Some key) × OnSome did l.list (listens l.cell (Ok key))

  -- nobody was added: memory was refused, or a section on the list that was seen in the lock of the event refused
  abbrev pub RefusesToListen : (ℕ → ℕ → Type 0) → Type 0 → ℕ → ListenError → Type 0
  RefusesToListen holds refused event error = (refused × (error ≡ NoMemory)) ⊎ ((cell : ℕ) × OnEvents did holds event (listens cell (Err error)))

  -- a poll with this waker looked at the listener, and found this
  abbrev pub Polled : Listening → Waker → Option T → Type 0
  Polled l waker tag = (key : Key) × (l.key ≡ Some key) × OnSome did l.list (polls key l.cell waker tag)

  -- a poll as a future did
  abbrev pub Armed : Listening → Option T → Type 0
  Armed l tag = (key : Key) × (l.key ≡ Some key) × OnSome did l.list (arms key l.cell tag)

  -- it was taken off, where it was on the list: whether it was told, and was to pass its notification on
  abbrev pub LeftSo : Listening → Bool → Bool → Type 0
  LeftSo l pass_on told = ((l.key ≡ None) × (told ≡ false)) ⊎ ((key : Key) × (l.key ≡ Some key) × OnSome did l.list (removes key pass_on told))

  module _ (slept : ℕ → Option Duration → Type 0) where
    -- the listener found its tag when it registered with the thread's parker, or the thread slept on that one and then found the tag
    abbrev pub Waited : Listening → T → Type 0
    Waited l tag =
        (key : Key) × (l.key ≡ Some key) × (parker : ℕ)
        × (OnSome did l.list (parks key parker (Some tag))
        ⊎ (OnSome did l.list (parks key parker None) × slept parker None × OnSome did l.list (looks key parker (Some tag))))

  module _ (read : Option Instant → Type 0) (read_again : Option Instant → Option Instant → Type 0) (slept : ℕ → Option Duration → Type 0) where
    -- the same with a limit: it found its tag when it registered, or the time went by, and it left with what it found then
    abbrev pub WaitedFor : Listening → Duration → Option T → Type 0
    WaitedFor l timeout found =
        (key : Key) × (l.key ≡ Some key) × (parker : ℕ)
        × (((tag : T) × (found ≡ Some tag) × OnSome did l.list (parks key parker (Some tag)))
        ⊎ (OnSome did l.list (parks key parker None) × Lapsed read read_again slept parker timeout × OnSome did l.list (leaves key timeout found)))

    -- the same with a moment up to which it waits, for as long as the clock says
    abbrev pub WaitedUntil : Listening → Instant → Option T → Type 0
    WaitedUntil l deadline found =
        (now : Option Instant) × read now × (timeout : Duration) × (as_nanos timeout ≡ time_until now deadline) × WaitedFor l timeout found
