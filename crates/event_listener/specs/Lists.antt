-- The two lists of a list of listeners, and what each call does to them.
use Rattle.std.specs.Prelude.{◌≡◌, ℕ, ◌-◌, ◌^◌, ◌==◌, ◌&&◌, min, Bool, true, false, if◌then◌else◌, List, [], ◌∷◌, ◌++◌, length, take, drop, Option, Some, None, is_some, Result, Ok, Err}
use Rattle.std.specs.Option.{option_to_list}
use Rattle.std.specs.Map.{lookup, remove_entry, set_value}
use Rattle.event_listener.specs.declared.key.Key.{Key}
use Rattle.event_listener.specs.declared.error.NotifyError.{NotifyError}
use Rattle.event_listener.specs.declared.error.UnknownListener.{UnknownListener}
use Rattle.event_listener.specs.declared.calls.Registered.{Registered}
use Rattle.event_listener.specs.declared.calls.Registered.TheVariants as registered
use Rattle.event_listener.specs.declared.error.ListenError.{ListenError}
use Rattle.event_listener.specs.declared.error.ListenError.TheVariants.{NoMemory, SerialsUsedUp}

-- whether a notification is for so many more, however many are told already, or for so many in all
abbrev pub IsAdditional : Type 0
IsAdditional = Bool

-- whether the notification of a told listener that is removed goes on to another
abbrev pub PassesOn : Type 0
PassesOn = Bool

-- how a listener was told, and its tag
pub record Notice (T : Type 0) : Type 0 where
  pub additional : IsAdditional
  pub tag : T

-- the told listeners and the waiting ones, each in the order of listening
pub record Lists (T W : Type 0) : Type 0 where
  pub told : List (Key × Notice T)
  pub waiting : List (Key × Option W)

-- The lists, the visits of the last call to nodes of others, the serials given, and the room for more listeners. The
-- looks are all reads and writes of nodes that any call ever made, of its own node too, modulo 2 ^ 64.
pub record ListView (T W : Type 0) : Type 0 where
  pub lists : Lists T W
  pub visits : ℕ
  pub serials : ℕ
  pub room : ℕ
  pub looks : ℕ

-- which of a list's listeners, in the order of listening, a key names
abbrev pub serial_of : Key → ℕ
serial_of key = key.serial

abbrev pub same_key : Key → Key → Bool
same_key a b = (a.slot == b.slot) && (a.serial == b.serial)

-- the tasks of these listeners
abbrev pub tasks_of : {W : Type 0} → List (Key × Option W) → List W
tasks_of [] = []
tasks_of (w ∷ ws) = option_to_list w.1 ++ tasks_of ws

-- how many a notification told
abbrev pub told_by : Result ℕ NotifyError → ℕ
told_by (Ok told) = told
told_by (Err e) = e.told

module _ {T W : Type 0} where
  abbrev pub told_as : Lists T W → Key → Option (Notice T)
  told_as lists key = lookup (same_key key) lists.told

  abbrev pub waits_as : Lists T W → Key → Option (Option W)
  waits_as lists key = lookup (same_key key) lists.waiting

  -- whether the key is listed, and then whether it is told
  abbrev pub kind_of : Lists T W → Key → Option Bool
  kind_of lists key = if is_some (told_as lists key) then Some true else (if is_some (waits_as lists key) then Some false else None)

  abbrev pub listened : Key → Lists T W → Lists T W
  listened key lists = record lists { waiting = lists.waiting ++ (key, None) ∷ [] }

  -- the same with a task from the beginning, if there is one
  abbrev pub listened_with : Option W → Key → Lists T W → Lists T W
  listened_with task key lists = record lists { waiting = lists.waiting ++ (key, task) ∷ [] }

  abbrev pub without : Key → Lists T W → Lists T W
  without key lists = record { told = remove_entry (same_key key) lists.told; waiting = remove_entry (same_key key) lists.waiting }

  abbrev pub with_task : Key → W → Lists T W → Lists T W
  with_task key task lists = record lists { waiting = set_value (same_key key) lists.waiting (Some task) }

  -- these waiting listeners told, each with its tag
  abbrev pub told_with : IsAdditional → List (Key × Option W) → List T → List (Key × Notice T)
  told_with additional (w ∷ ws) (t ∷ ts) = (w.0, record { additional = additional; tag = t }) ∷ told_with additional ws ts
  told_with additional ws ts = []

  -- how many a notification for n moves
  abbrev pub moved : IsAdditional → ℕ → Lists T W → ℕ
  moved additional n lists = min (if additional then n else n - length lists.told) (length lists.waiting)

  -- the first waiting ones told with these tags
  abbrev pub notified : IsAdditional → List T → Lists T W → Lists T W
  notified additional tags lists = record {
    told = lists.told ++ told_with additional (take (length tags) lists.waiting) tags;
    waiting = drop (length tags) lists.waiting;
  }

  -- memory is refused only without room, and serials only once all are given
  abbrev pub IsListenRefusal : ListView T W → ListenError → Type 0
  IsListenRefusal view NoMemory = view.room ≡ 0
  IsListenRefusal view SerialsUsedUp = view.serials ≡ 2 ^ 64 - 1

  -- a registration
  abbrev pub register_answer : Key → Lists T W → Result (Registered T) UnknownListener
  register_answer key lists = elim (told_as lists key) [ Some notice ↦ Ok (registered.Told notice.tag) | None ↦ (if is_some (waits_as lists key) then Ok registered.Waiting else Err (record {})) ]

  abbrev pub registration : Key → W → Lists T W → Lists T W
  registration key task lists = if is_some (told_as lists key) then without key lists else (if is_some (waits_as lists key) then with_task key task lists else lists)

  -- a poll
  abbrev pub poll_answer : Key → Lists T W → Result (Option T) UnknownListener
  poll_answer key lists = elim (told_as lists key) [ Some notice ↦ Ok (Some notice.tag) | None ↦ (if is_some (waits_as lists key) then Ok None else Err (record {})) ]

  -- the tag of a told listener
  abbrev pub tag_told : Key → Lists T W → Option T
  tag_told key lists = elim (told_as lists key) [ Some notice ↦ Some notice.tag | None ↦ None ]

  abbrev pub polled : Key → Lists T W → Lists T W
  polled key lists = if is_some (told_as lists key) then without key lists else lists

  -- a removal, which may pass a notification on
  abbrev pub remove_answer : Key → Lists T W → Result Bool UnknownListener
  remove_answer key lists = elim (kind_of lists key) [ Some told ↦ Ok told | None ↦ Err (record {}) ]

  abbrev pub passed : Notice T → Lists T W → Lists T W
  passed notice lists = notified notice.additional (take (moved notice.additional 1 lists) (notice.tag ∷ [])) lists

  abbrev pub passed_wakes : Notice T → Lists T W → List W
  passed_wakes notice lists = tasks_of (take (moved notice.additional 1 lists) lists.waiting)

  abbrev pub removed : Key → PassesOn → Lists T W → Lists T W
  removed key pass_on lists = elim (told_as lists key) [ Some notice ↦ (if pass_on then passed notice (without key lists) else without key lists) | None ↦ (if is_some (waits_as lists key) then without key lists else lists) ]

  abbrev pub removed_wakes : Key → PassesOn → Lists T W → List W
  removed_wakes key pass_on lists = elim (told_as lists key) [ Some notice ↦ (if pass_on then passed_wakes notice (without key lists) else []) | None ↦ [] ]
