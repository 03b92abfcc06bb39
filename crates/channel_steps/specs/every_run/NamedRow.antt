-- A merge of three calls over one slot: two wait for the closing, and the third closes. The two may have one task, as two waits of one
-- thread have; with names they are two.
use Rattle.std.specs.Prelude.{◌≡◌, ℕ, ◌==◌, true, false, List, [], ◌∷◌, ◌++◌, length, None, Some, Ok, if◌then◌else◌}
use Rattle.concurrent_queue.specs.Deeds.{loaded, bits_set}
use Rattle.concurrent_queue.specs.declared.cells.QueueForm.TheVariants.{Bounded}
use Rattle.concurrent_queue.specs.declared.cells.Word.TheVariants.{State}
use Rattle.concurrent_queue.specs.machine.Single.{set_state}
use Rattle.event_listener.specs.Lists.{Notice}
use Rattle.event_listener.specs.declared.key.Key.{Key}
use Rattle.futures.specs.declared.task.Poll.TheVariants.{Pending}
use Rattle.channel_calls.specs.Deeds.{inserted, registered, told}
use Rattle.channel_calls.specs.Parts.{Parts, Listeners, new_wait_lists, with_listeners}
use Rattle.channel_calls.specs.Turns.{leaving, nothing_kept}
use Rattle.channel_calls.specs.declared.ask.ChannelAsk.{ChannelAsk}
use Rattle.channel_calls.specs.declared.ask.ChannelAsk.TheVariants.{PollClosed, Close}
use Rattle.channel_calls.specs.declared.reply.Reply.TheVariants.{ClosedPoll, Closed}
use Rattle.channel_calls.specs.declared.stage.Telling.TheVariants.{All}
use Rattle.channel_calls.specs.declared.stage.WaitList.TheVariants.{Sends, Receives, Streams, Closings}
use Rattle.channel_calls.specs.declared.whole.Completed.{Completed}
use Rattle.channel_steps.specs.every_run.Bridge.{begins, does, on_queue, on_wait_lists, Happening, Acts, own, opened_parts, InOneOrder, LastsFor}
use Rattle.channel_steps.specs.every_run.Named.{IsBehind, task_of}

abbrev pub first_key : Key
first_key = record { slot = 0; serial = 0 }

abbrev pub second_key : Key
second_key = record { slot = 1; serial = 1 }

-- both listeners are told by the closing
abbrev pub told_by_closing : Key → Key × Notice Unit
told_by_closing key = (key, record { additional = false; tag = tt })

abbrev pub both_told : {W : Type 0} → Listeners W
both_told = record { told = told_by_closing first_key ∷ told_by_closing second_key ∷ []; waiting = [] }

module _ {T W : Type 0} where
  -- one wait: the channel is open, it listens, the channel is open still, and its listener gets the task
  abbrev pub waits_once : ℕ → Key → W → List (Happening T W)
  waits_once p key task =
      record { party = p; event = begins (PollClosed None task) }
      ∷ record { party = p; event = does (on_queue (Some (loaded State 0))) }
      ∷ record { party = p; event = does (on_wait_lists (inserted Closings (Ok key))) }
      ∷ record { party = p; event = does (on_queue (Some (loaded State 0))) }
      ∷ record { party = p; event = does (on_wait_lists (registered Closings key task None)) }
      ∷ []

  -- the closing, which wakes these
  abbrev pub one_close : ℕ → List W → List (Happening T W)
  one_close p woken =
      record { party = p; event = begins Close }
      ∷ record { party = p; event = does (on_queue (Some (bits_set State 4 0))) }
      ∷ record { party = p; event = does (on_wait_lists (told Sends All [])) }
      ∷ record { party = p; event = does (on_wait_lists (told Receives All [])) }
      ∷ record { party = p; event = does (on_wait_lists (told Streams All [])) }
      ∷ record { party = p; event = does (on_wait_lists (told Closings All woken)) }
      ∷ []

  abbrev pub two_are_told : W → W → List (Happening T W)
  two_are_told one other = waits_once 1 first_key one ++ (waits_once 2 second_key other ++ one_close 3 (one ∷ other ∷ []))

  -- what they ask
  abbrev pub two_wait : W → W → List (ChannelAsk T W)
  two_wait one other = PollClosed None one ∷ PollClosed None other ∷ Close ∷ []

  -- the channel is closed then
  abbrev pub parts_of_two : Parts T W
  parts_of_two =
      let new : Parts T W = opened_parts (Bounded 1) in
      record { cells = set_state new.cells 4; wait_lists = with_listeners Closings both_told new_wait_lists }

module _ {T : Type 0} where
  abbrev pub pends_on : Key → List (Completed T)
  pends_on key = record { reply = ClosedPoll Pending; kept = leaving (Some key) None } ∷ []

  abbrev pub has_closed : List (Completed T)
  has_closed = record { reply = Closed true; kept = nothing_kept } ∷ []

  abbrev pub given_to_three : ℕ → List (Completed T)
  given_to_three p = if 1 == p then pends_on first_key else (if 2 == p then pends_on second_key else (if 3 == p then has_closed else []))

-- it is a merge as `MergesAreRuns` asks it, whether the tasks are one or two
abbrev pub TwoWaitsMerge : (T W S : Type 0) → (S → W → S → Type 0) → Type 0
TwoWaitsMerge T W S wakes =
    (one other : W) (sink middle woken : S) → wakes sink one middle → wakes middle other woken
    → (let events : List (Happening T W) = two_are_told one other in LastsFor (length events) (Bounded 1))
    × ((p : ℕ) → Acts {T = T} {W = W} (Bounded 1) None (own p (two_are_told one other)) (given_to_three p))
    × InOneOrder {T = T} wakes (two_are_told one other) (opened_parts (Bounded 1), sink) (parts_of_two, woken)

-- If it is one task, and each wait has a name beside it, the merge behind has both names: the closing wakes the one, and then the
-- other.
abbrev pub OneTaskHasTwoNames : (T W V S : Type 0) → (S → W → S → Type 0) → Type 0
OneTaskHasTwoNames T W V S wakes =
    (task : W) (one other : V) (sink middle woken : S) → wakes sink task middle → wakes middle task woken
    → (b : IsBehind {T = T} {V = W} task_of wakes (Bounded 1) (two_are_told task task) given_to_three sink parts_of_two woken (two_wait (task, one) (task, other)))
    × (b.behind ≡ two_are_told (task, one) (task, other))
