-- Other tasks put for the tasks of a channel's calls and lists. No step of a machine and no cell looks at a task, or compares two. So
-- of whatever carries tasks this is it with others in their place, by a function; all else stays.
use Rattle.std.specs.Prelude.{List, [], ◌∷◌, map, Option}
use Rattle.std.specs.Option.{option_map}
use Rattle.event_listener.specs.declared.key.Key.{Key}
use Rattle.channel_calls.specs.Deeds.{Deed, stepped, inserted, registered, taken_off, told, counted, lowered, raised}
use Rattle.channel_calls.specs.Parts.{Parts, Listeners, WaitLists}
use Rattle.channel_calls.specs.declared.ask.ChannelAsk.{ChannelAsk}
use Rattle.channel_calls.specs.declared.ask.ChannelAsk.TheVariants as ask
use Rattle.channel_calls.specs.declared.stage.Purpose.{Purpose}
use Rattle.channel_calls.specs.declared.stage.Purpose.TheVariants as purpose
use Rattle.channel_calls.specs.declared.stage.Stage.{Stage}
use Rattle.channel_calls.specs.declared.stage.Stage.TheVariants.{Trying, Working, Finished}
use Rattle.channel_calls.specs.declared.stage.NextStep.{NextStep}
use Rattle.channel_calls.specs.declared.stage.NextStep.TheVariants.{Tries, Works, Ends}
use Rattle.channel_calls.specs.declared.stage.ListStep.{ListStep}
use Rattle.channel_calls.specs.declared.stage.ListStep.TheVariants as work
use Rattle.channel_steps.specs.every_run.Bridge.{Act, on_queue, on_wait_lists, on_nothing, Event, begins, does, Happening}

-- ---- the cells

module _ {W V : Type 0} (put : W → V) where
  -- a listener with its task, and one without a task
  abbrev pub listener_by : Key × Option W → Key × Option V
  listener_by l = (l.0, option_map put l.1)

  abbrev pub listeners_by : Listeners W → Listeners V
  listeners_by l = record { told = l.told; waiting = map listener_by l.waiting }

  abbrev pub wait_lists_by : WaitLists W → WaitLists V
  wait_lists_by a =
      record {
        sends = listeners_by a.sends;
        receives = listeners_by a.receives;
        streams = listeners_by a.streams;
        closings = listeners_by a.closings;
        senders = a.senders;
        receivers = a.receivers;
      }

module _ {T W V : Type 0} (put : W → V) where
  abbrev pub parts_by : Parts T W → Parts T V
  parts_by p = record { cells = p.cells; wait_lists = wait_lists_by put p.wait_lists }

  -- ---- what is done to them; also those that are told to have been woken are others then

  abbrev pub deed_by : Deed T W → Deed T V
  deed_by (stepped call after r) = stepped call after r
  deed_by (inserted line r) = inserted line r
  deed_by (registered line key task r) = registered line key (put task) (option_map put r)
  deed_by (taken_off line key names) = taken_off line key (map put names)
  deed_by (told line telling names) = told line telling (map put names)
  deed_by (counted side n) = counted side n
  deed_by (lowered side n) = lowered side n
  deed_by (raised side n b) = raised side n b

  abbrev pub act_by : Act T W → Act T V
  act_by (on_queue o) = on_queue o
  act_by (on_wait_lists d) = on_wait_lists (deed_by d)
  act_by on_nothing = on_nothing

  -- ---- calls

  abbrev pub ask_by : ChannelAsk T W → ChannelAsk T V
  ask_by (ask.TrySend m) = ask.TrySend m
  ask_by (ask.ForceSend m) = ask.ForceSend m
  ask_by ask.TryRecv = ask.TryRecv
  ask_by (ask.RecvMany n) = ask.RecvMany n
  ask_by ask.Close = ask.Close
  ask_by (ask.PollSend m l task) = ask.PollSend m l (put task)
  ask_by ask.PollFinishedSend = ask.PollFinishedSend
  ask_by (ask.PollRecv l task) = ask.PollRecv l (put task)
  ask_by (ask.PollClosed key task) = ask.PollClosed key (put task)
  ask_by (ask.PollNext key task) = ask.PollNext key (put task)
  ask_by (ask.RefusePoll line message key) = ask.RefusePoll line message key
  ask_by (ask.GiveUp line message key) = ask.GiveUp line message key
  ask_by ask.DropSender = ask.DropSender
  ask_by (ask.DropReceiver key) = ask.DropReceiver key
  ask_by (ask.CloneHandle side) = ask.CloneHandle side
  ask_by (ask.Upgrade side) = ask.Upgrade side
  ask_by (ask.HandleCount side) = ask.HandleCount side
  ask_by ask.IsClosed = ask.IsClosed
  ask_by ask.IsEmpty = ask.IsEmpty
  ask_by ask.IsFull = ask.IsFull
  ask_by ask.Len = ask.Len
  ask_by ask.Capacity = ask.Capacity
  ask_by ask.IsTerminated = ask.IsTerminated
  ask_by (ask.SendIsTerminated b) = ask.SendIsTerminated b
  ask_by (ask.SameChannel b) = ask.SameChannel b
  ask_by ask.Make = ask.Make
  ask_by ask.DropWeak = ask.DropWeak

  abbrev pub aim_by : Purpose T W → Purpose T V
  aim_by purpose.TrySend = purpose.TrySend
  aim_by purpose.ForceSend = purpose.ForceSend
  aim_by purpose.TryRecv = purpose.TryRecv
  aim_by (purpose.RecvMany g) = purpose.RecvMany g
  aim_by (purpose.Poll line key task) = purpose.Poll line key (put task)
  aim_by (purpose.Close c) = purpose.Close c
  aim_by purpose.Ask = purpose.Ask
  aim_by purpose.IsTerminated = purpose.IsTerminated
  aim_by (purpose.Upgrade side) = purpose.Upgrade side

  abbrev pub work_by : ListStep T W → ListStep T V
  work_by (work.TellReceive e) = work.TellReceive e
  work_by (work.TellStreams e) = work.TellStreams e
  work_by (work.TellSend e) = work.TellSend e
  work_by (work.TellSends n e) = work.TellSends n e
  work_by (work.TakeRoom n) = work.TakeRoom n
  work_by (work.TellAll line c) = work.TellAll line c
  work_by (work.Insert w task) = work.Insert w (put task)
  work_by (work.Register w key task) = work.Register w key (put task)
  work_by (work.Leave e) = work.Leave e
  work_by (work.Lower side key) = work.Lower side key
  work_by (work.Count side) = work.Count side
  work_by (work.Load side making) = work.Load side making
  work_by (work.Raise side n making) = work.Raise side n making

  abbrev pub turn_by : NextStep T W → NextStep T V
  turn_by (Tries x a) = Tries x (aim_by a)
  turn_by (Works w) = Works (work_by w)
  turn_by (Ends r kept) = Ends r kept

  abbrev pub stage_by : {Q : Type 0} → Stage Q T W → Stage Q T V
  stage_by (Trying q a) = Trying q (aim_by a)
  stage_by (Working w) = Working (work_by w)
  stage_by (Finished kept) = Finished kept

  -- ---- events

  abbrev pub event_by : Event T W → Event T V
  event_by (begins a) = begins (ask_by a)
  event_by (does o) = does (act_by o)

  abbrev pub happening_by : Happening T W → Happening T V
  happening_by x = record { party = x.party; event = event_by x.event }

  abbrev pub all_by : List (Happening T W) → List (Happening T V)
  all_by [] = []
  all_by (x ∷ xs) = happening_by x ∷ all_by xs
