-- What a channel has beside its queue: four lists of listeners and two counts of handles.
use Rattle.std.specs.Prelude.{◌≡◌, ℕ, zero, suc, ◌-◌, ◌^◌, ◌==◌, ◌&&◌, nat_lt, Bool, true, false, List, [], ◌++◌, map, not, Option, None, Some}
use Rattle.concurrent_queue.specs.Contents.{Contents}
use Rattle.event_listener.specs.Lists.{Lists, kind_of, told_with, tasks_of, passed, passed_wakes}
use Rattle.event_listener.specs.declared.key.Key.{Key}
use Rattle.channel_calls.specs.declared.stage.Telling.{Telling}
use Rattle.channel_calls.specs.declared.stage.Telling.TheVariants.{One, More, All}
use Rattle.channel_calls.specs.declared.stage.WaitList.{WaitList}
use Rattle.channel_calls.specs.declared.stage.WaitList.TheVariants.{Sends, Receives, Streams, Closings}
use Rattle.channel_calls.specs.declared.stage.Side.{Side}
use Rattle.channel_calls.specs.declared.stage.Side.TheVariants.{Senders, Receivers}

-- the told and the waiting listeners of one list, which get no tags
abbrev pub Listeners : Type 0 → Type 0
Listeners W = Lists Unit W

-- the lists and the counts
pub record WaitLists (W : Type 0) : Type 0 where
  pub sends : Listeners W
  pub receives : Listeners W
  pub streams : Listeners W
  pub closings : Listeners W
  pub senders : ℕ
  pub receivers : ℕ

-- what a queue's cells hold, with the lists and the counts
pub record Parts (T W : Type 0) : Type 0 where
  pub cells : Contents T
  pub wait_lists : WaitLists W

module _ {T W : Type 0} where
  abbrev pub with_cells : Contents T → Parts T W → Parts T W
  with_cells cells p = record p { cells = cells }

  abbrev pub with_wait_lists : WaitLists W → Parts T W → Parts T W
  with_wait_lists wait_lists p = record p { wait_lists = wait_lists }

module _ {W : Type 0} where
  abbrev pub nobody_listens : Listeners W
  nobody_listens = record { told = []; waiting = [] }

  -- one handle of each kind, and no listeners
  abbrev pub new_wait_lists : WaitLists W
  new_wait_lists =
      record { sends = nobody_listens; receives = nobody_listens; streams = nobody_listens; closings = nobody_listens; senders = 1; receivers = 1 }

  abbrev pub listeners : WaitList → WaitLists W → Listeners W
  listeners Sends a = a.sends
  listeners Receives a = a.receives
  listeners Streams a = a.streams
  listeners Closings a = a.closings

  abbrev pub with_listeners : WaitList → Listeners W → WaitLists W → WaitLists W
  with_listeners Sends l a = record a { sends = l }
  with_listeners Receives l a = record a { receives = l }
  with_listeners Streams l a = record a { streams = l }
  with_listeners Closings l a = record a { closings = l }

  abbrev pub count : Side → WaitLists W → ℕ
  count Senders a = a.senders
  count Receivers a = a.receivers

  abbrev pub with_count : Side → ℕ → WaitLists W → WaitLists W
  with_count Senders n a = record a { senders = n }
  with_count Receivers n a = record a { receivers = n }

  -- whether a count is this, and can be raised by one
  abbrev pub is_raised : Side → ℕ → WaitLists W → Bool
  is_raised side n a = (count side a == n) && nat_lt n (2 ^ 64 - 1)

  -- one more waiting listener is told, however many are told already
  abbrev pub told_one : Listeners W → Listeners W
  told_one l = passed (record { additional = true; tag = tt }) l

  abbrev pub told_one_wakes : Listeners W → List W
  told_one_wakes l = passed_wakes (record { additional = true; tag = tt }) l

  -- so many more are told, one after another
  abbrev pub told_more : ℕ → Listeners W → Listeners W
  told_more zero l = l
  told_more (suc n) l = told_more n (told_one l)

  abbrev pub told_more_wakes : ℕ → Listeners W → List W
  told_more_wakes zero l = []
  told_more_wakes (suc n) l = told_one_wakes l ++ told_more_wakes n (told_one l)

  -- all that wait are told
  abbrev pub told_all : Listeners W → Listeners W
  told_all l = record { told = l.told ++ told_with false l.waiting (map (λ w. tt) l.waiting); waiting = [] }

  abbrev pub told_all_wakes : Listeners W → List W
  told_all_wakes l = tasks_of l.waiting

  abbrev pub told_as : Telling → Listeners W → Listeners W
  told_as One l = told_one l
  told_as (More n) l = told_more n l
  told_as All l = told_all l

  abbrev pub told_as_wakes : Telling → Listeners W → List W
  told_as_wakes One l = told_one_wakes l
  told_as_wakes (More n) l = told_more_wakes n l
  told_as_wakes All l = told_all_wakes l

  -- whether this listener waits
  abbrev pub waits : Key → Listeners W → Bool
  waits key l = elim (kind_of l key) [ Some told ↦ not told | None ↦ false ]

  -- a waiting listener keeps the task; the task of any other comes back
  abbrev pub Registers : Listeners W → Key → W → Option W → Type 0
  Registers l key task None = waits key l ≡ true
  Registers l key task (Some w) = (w ≡ task) × (waits key l ≡ false)
