-- A record of calls, replayed from an empty list.
use Rattle.std.specs.Prelude.{◌≡◌, ℕ, ◌+◌, ◌≤◌, List, [], ◌∷◌, ◌++◌, length, Option, Some, None, Ok}
use Rattle.event_listener.specs.declared.calls.Registered.{Registered}
use Rattle.event_listener.specs.declared.calls.Registered.TheVariants as registered
use Rattle.event_listener.specs.declared.recorded.RecordedCall.{RecordedCall}
use Rattle.event_listener.specs.declared.recorded.RecordedCall.TheVariants.{Listened, Registered as Registering, Polled, Removed, Notified}
use Rattle.event_listener.specs.Lists.{Lists, serial_of, kind_of, listened, registration, register_answer, polled, poll_answer, removed, remove_answer, notified}
use Rattle.event_listener.specs.Runs.{tags_given, tags_answer}

-- what a registration found: the tag of a told listener, or one that waits
abbrev pub found : {T : Type 0} → Option T → Registered T
found None = registered.Waiting
found (Some tag) = registered.Told tag

-- the tag that a registration found
abbrev pub tag_found : {T : Type 0} → Registered T → Option T
tag_found registered.Waiting = None
tag_found (registered.Told tag) = Some tag

module _ {T W : Type 0} where
  -- the lists of an event without listeners
  abbrev pub nobody : Lists T W
  nobody = record { told = []; waiting = [] }

  -- how many are listed
  abbrev pub total_of : Lists T W → ℕ
  total_of lists = length lists.told + length lists.waiting

  -- what a recorded call makes of the lists
  abbrev pub after : RecordedCall T W → Lists T W → Lists T W
  after (Listened key) lists = listened key lists
  after (Registering key task tag) lists = registration key task lists
  after (Polled key tag) lists = polled key lists
  after (Removed key pass_on told) lists = removed key pass_on lists
  after (Notified count additional tags answer) lists = notified additional (tags_given additional count tags.items lists) lists

  -- how many listeners were added, with a recorded call
  abbrev pub added : RecordedCall T W → ℕ → ℕ
  added (Listened key) serials = serials + 1
  added (Registering key task tag) serials = serials
  added (Polled key tag) serials = serials
  added (Removed key pass_on told) serials = serials
  added (Notified count additional tags answer) serials = serials

  -- Its answer is what the call answers at these lists. A new listener's key has the serial that comes after all that
  -- were given: so no key comes back, neither of a listed one nor of one that left.
  abbrev pub IsAnswered : RecordedCall T W → ℕ → Lists T W → Type 0
  IsAnswered (Listened key) serials lists = (kind_of lists key ≡ None) × (serial_of key ≡ serials)
  IsAnswered (Registering key task tag) serials lists = register_answer key lists ≡ Ok (found tag)
  IsAnswered (Polled key tag) serials lists = poll_answer key lists ≡ Ok (Some tag)
  IsAnswered (Removed key pass_on told) serials lists = remove_answer key lists ≡ Ok told
  IsAnswered (Notified count additional tags answer) serials lists = tags_answer additional count tags.items lists ≡ answer

  -- these calls, one after another, lead from the first lists and serials to the last, each with its own answer
  abbrev pub Replays : Lists T W → ℕ → List (RecordedCall T W) → Lists T W → ℕ → Type 0
  Replays first serials [] last end = (last ≡ first) × (end ≡ serials)
  Replays first serials (call ∷ calls) last end = IsAnswered call serials first × Replays (after call first) (added call serials) calls last end

  -- the record replays, and has room for the end of each listener
  pub record IsKept (calls : List (RecordedCall T W)) (count capacity : ℕ) (lists : Lists T W) (serials : ℕ) : Type 0 where
    pub replays : Replays nobody 0 calls lists serials
    pub room : count + total_of lists ≤ capacity

-- a list with its record, and how many listeners were ever added
pub record RecordView (T W : Type 0) : Type 0 where
  pub calls : List (RecordedCall T W)
  pub lists : Lists T W
  pub serials : ℕ

-- the call was made, and recorded last
abbrev pub recorded : {T W : Type 0} → RecordedCall T W → RecordView T W → RecordView T W
recorded call view = record { calls = view.calls ++ call ∷ []; lists = after call view.lists; serials = added call view.serials }
