-- What a ring means, by the numbers of its messages: how far it has come, and how far each slot has.
use Rattle.std.specs.Prelude.{◌≡◌, ℕ, ◌+◌, ◌%◌, ◌<◌, ◌≤◌, Bool, true, false, List, length, drop, Option, None, Some, slice_get, if◌then◌else◌, nat_lt, ◌==◌}
use Rattle.concurrent_queue.specs.Queue.{Queue}

-- a slot with its stamp: the number that the stamp stands for, whether that message is in, and what the slot holds
pub record SlotState (T : Type 0) : Type 0 where
  pub round : ℕ
  pub written : Bool
  pub slot : Option T

-- every message ever appended; how many were removed and appended; whether it is closed; whether a displacing push is
-- between its taking and its appending; and the places by their indices
pub record Ring (T : Type 0) : Type 0 where
  pub all : List T
  pub head : ℕ
  pub tail : ℕ
  pub closed : Bool
  pub coming : Bool
  pub at : ℕ → SlotState T

module _ {T : Type 0} where
  -- the place of the n-th message
  abbrev pub the_place : ℕ → Ring T → ℕ → SlotState T
  the_place cap r n = r.at (n % cap)

  -- whether a call holds the place: it is being filled, or emptied after its message left the list
  abbrev pub busy : Ring T → ℕ → Bool
  busy r i = if (r.at i).written then nat_lt (r.at i).round r.head else nat_lt (r.at i).round r.tail

  -- the tail as it is once a message on its way has come
  abbrev pub reach : Ring T → ℕ
  reach r = r.tail + (if r.coming then 1 else 0)

  abbrev pub with_place : Ring T → ℕ → SlotState T → Ring T
  with_place r i p = record r { at = λ j. if j == i then p else r.at j }

  -- what holds of a ring at every moment
  pub record SoundRing (cap : ℕ) (r : Ring T) : Type 0 where
    pub all : length r.all ≡ r.tail
    pub order : r.head ≤ r.tail
    pub room : r.tail ≤ r.head + cap
    -- a place stands for numbers of its own index alone
    pub index : (i : ℕ) → i < cap → (r.at i).round % cap ≡ i
    -- it waits for a message that is not appended yet
    pub free : (i : ℕ) → i < cap → (r.at i).written ≡ false → r.tail ≤ (r.at i).round → ((r.at i).slot ≡ None) × ((r.at i).round < r.head + cap)
    -- its message was appended and is not in yet: no pop passes it
    pub filling : (i : ℕ) → i < cap → (r.at i).written ≡ false → (r.at i).round < r.tail → r.head ≤ (r.at i).round
    -- it has its message
    pub full : (i : ℕ) → i < cap → (r.at i).written ≡ true → r.head ≤ (r.at i).round → ((r.at i).round < r.tail) × ((r.at i).slot ≡ slice_get r.all (r.at i).round)
    -- its message has left the list: no pop passes the one a lap later
    pub used : (i : ℕ) → i < cap → (r.at i).written ≡ true → (r.at i).round < r.head → r.head ≤ (r.at i).round + cap
    -- a displacing push made room at the tail, where its own message will come
    pub coming : r.coming ≡ true → (r.tail < r.head + cap) × (cap ≤ r.tail) × ((the_place cap r r.tail).round + cap ≡ r.tail) × ((the_place cap r r.tail).written ≡ true)

  -- the queue that a ring shows
  pub record IsShown (cap : ℕ) (r : Ring T) (q : Queue T) : Type 0 where
    pub items : q.items ≡ drop r.head r.all
    pub closed : q.closed ≡ r.closed
    pub coming : q.coming ≡ r.coming
    pub accepted : q.accepted ≡ r.tail
    pub removed : q.removed ≡ r.head
    pub capacity : q.capacity ≡ Some cap
