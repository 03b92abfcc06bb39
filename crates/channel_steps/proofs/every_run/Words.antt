-- The words that the proofs of this crate cite, its own and those of the crates below, passed on from one place. Declares nothing.
pub use Rattle.channel_calls.specs.Answered.{answered_next, asked_next, closed_next, closing_next, forced_next, gathered_next, polled_next, receive_next, received_next, send_next, sent_next, several_next, short_next, stream_next, terminated_next, upgraded_next}
pub use Rattle.channel_calls.specs.Asks.{asks_listener, first, is_refused, kept_by}
pub use Rattle.channel_calls.specs.Blocks.{AnswersAtFirst, Listens, Looks, Round, Rounds, SleepsOn, Wakens, at_once, not_yet, poll_woken, still_waits, waiting_of}
pub use Rattle.channel_calls.specs.Deeds.{Deed, Done, counted, inserted, lowered, raised, registered, stepped, taken_off, told, woken_by}
pub use Rattle.channel_calls.specs.Effects.{Does, OnList}
pub use Rattle.channel_calls.specs.Marks.{down, mark_of_queue, up}
pub use Rattle.channel_calls.specs.Moves.{Channel, Effect, Inserts, IsChannelStep, IsNewCall, Moves, Turned, Worked, leaves, listens, lowers, on_count, on_line, phase, queued, raises, registers, removes, seats, tells_all, tells_more, tells_one, untouched}
pub use Rattle.channel_calls.specs.Parts.{Listeners, Parts, Registers, WaitLists, count, is_raised, listeners, new_wait_lists, nobody_listens, told_all, told_all_wakes, told_as as told_whom, told_as_wakes, told_more, told_more_wakes, told_one, told_one_wakes, waits, with_count, with_listeners, with_wait_lists}
pub use Rattle.channel_calls.specs.Several.{Gathered, with_last}
pub use Rattle.channel_calls.specs.Turns.{TakesRoom, again, closer_ending, counted_next, dropper, ends_by, inserted_next, leaving, line_of, loaded_next, lowered_next, message_of, most, nothing_kept, pends_by, raised_next, refused_next, refused_reply, registered_next, room_next, roomless, told_all_next}
pub use Rattle.channel_calls.specs.Walks.{ChannelMakes, Heard, Leads, Leaves, Marked, Takes, Walked, WalkedFrom, WorkMakes}
pub use Rattle.channel_calls.specs.declared.ask.ChannelAsk.{ChannelAsk}
pub use Rattle.channel_calls.specs.declared.ask.ChannelAsk.TheVariants.{Capacity, CloneHandle, DropReceiver, DropSender, DropWeak, ForceSend, GiveUp, HandleCount, IsClosed, IsEmpty, IsFull, IsTerminated, Len, Make, PollClosed, PollFinishedSend, PollNext, PollRecv, PollSend, RecvMany, RefusePoll, SameChannel, SendIsTerminated, TryRecv, TrySend, Upgrade}
pub use Rattle.channel_calls.specs.declared.ask.Loan.{Loan}
pub use Rattle.channel_calls.specs.declared.blocked.Blocked.{Blocked}
pub use Rattle.channel_calls.specs.declared.blocked.Blocked.TheVariants.{Receive, Send}
pub use Rattle.channel_calls.specs.declared.error.RecvError.{RecvError}
pub use Rattle.channel_calls.specs.declared.error.TryRecvError.{TryRecvError}
pub use Rattle.channel_calls.specs.declared.mark.Mark.{Mark}
pub use Rattle.channel_calls.specs.declared.mark.Mark.TheVariants.{Append, Close, ReceiverDown, ReceiverUp, Replace, SenderDown, SenderUp, Take, TakeDisplaced}
pub use Rattle.channel_calls.specs.declared.reply.Reply.{Reply}
pub use Rattle.channel_calls.specs.declared.reply.Reply.TheVariants.{Made}
pub use Rattle.channel_calls.specs.declared.stage.Purpose.{Purpose}
pub use Rattle.channel_calls.specs.declared.stage.Closer.{Closer}
pub use Rattle.channel_calls.specs.declared.stage.Ending.{Ending}
pub use Rattle.channel_calls.specs.declared.stage.ListenerRef.{ListenerRef}
pub use Rattle.channel_calls.specs.declared.stage.Returned.{Returned}
pub use Rattle.channel_calls.specs.declared.stage.Telling.{Telling as Whom}
pub use Rattle.channel_calls.specs.declared.stage.Telling.TheVariants.{All, More, One}
pub use Rattle.channel_calls.specs.declared.stage.WaitList.{WaitList}
pub use Rattle.channel_calls.specs.declared.stage.WaitList.TheVariants.{Closings, Receives, Sends, Streams}
pub use Rattle.channel_calls.specs.declared.stage.Making.{Making}
pub use Rattle.channel_calls.specs.declared.stage.Making.TheVariants.{Clone}
pub use Rattle.channel_calls.specs.declared.stage.Side.{Side}
pub use Rattle.channel_calls.specs.declared.stage.Side.TheVariants.{Receivers, Senders}
pub use Rattle.channel_calls.specs.declared.stage.Stage.{Stage}
pub use Rattle.channel_calls.specs.declared.stage.Stage.TheVariants.{Finished, Trying, Working}
pub use Rattle.channel_calls.specs.declared.stage.NextStep.{NextStep}
pub use Rattle.channel_calls.specs.declared.stage.NextStep.TheVariants.{Ends, Tries, Works}
pub use Rattle.channel_calls.specs.declared.stage.Waiting.{Waiting}
pub use Rattle.channel_calls.specs.declared.stage.ListStep.{ListStep}
pub use Rattle.channel_calls.specs.declared.stage.ListStep.TheVariants.{Count, Insert, Leave, Load, Lower, Raise, Register, TakeRoom, TellAll, TellReceive, TellSend, TellSends, TellStreams}
pub use Rattle.channel_steps.specs.every_run.Amounts.{AreOwed, HoldsListener, PendingAreOwed, is_trying, is_trying_anew, total}
pub use Rattle.channel_steps.specs.every_run.Bounds.{AllOf, BoundSound, BoundsStay, EachRunClosesOnce, EachUnboundedRunIsNeverFull, IsDisplacing, IsWithinBound, NeverOverfull, NoneFull, SaysFull, closings_in, one_if_closed}
pub use Rattle.channel_calls.specs.declared.whole.Completed.{Completed}
pub use Rattle.channel_steps.specs.every_run.Bridge.{Act, Acts, Along, Changes, Event, Happening, InOneOrder, LastsFor, MergeMoment, MergesAreRuns, NextMoment, Notes, QueueIsWalked, StandsAct, WalksAct, begins, given_by, given_to, just_opened, on_nothing, on_queue, on_wait_lists, opened_parts, own, step_of, steps_of}
pub use Rattle.channel_steps.specs.every_run.BridgeBlocks.{BlocksInCalls, InCalls, IsLeft, PollsInTurn, Rested, Rests, first_poll, poll_refused}
pub use Rattle.channel_steps.specs.every_run.BridgeEnd.{NewCallsGiveNothing, NoMessageAfter}
pub use Rattle.channel_steps.specs.every_run.BridgeHeadline.{MergeBeginSays, MergeCallSays, MergeMomentSays, MergeStepSays, MergeWorkSays, MergesKeepTheHeadline}
pub use Rattle.channel_steps.specs.every_run.BridgeMoments.{FewStepsLeft, MergeEndsInARow, OthersQuietAt, left_to, steps_in_a_row}
pub use Rattle.channel_steps.specs.every_run.BridgeRow.{TwoClonesMerge, both_made, given_made, parts_of_three, two_clones}
pub use Rattle.channel_steps.specs.every_run.Chained.{AreBlocks, ChainBy, IsInState, Links, NamesTheHead, SomeCall, Turns, TurnsTheHead, first_named, pair_linked}
pub use Rattle.channel_steps.specs.every_run.Closed.{ClosingIsForGood, MayStillDo, within}
pub use Rattle.channel_steps.specs.every_run.Closings.{AnswersClosed, ClosingIsOwed, ClosingSound, ClosingStaysOwed, EachRunOwesTheClosing, HasClosed, HasNoCauseToWait, HasToTell, LooksAgain, PendingIsOwedTheClosing, place}
pub use Rattle.channel_steps.specs.every_run.EndSays.{EndSays}
pub use Rattle.channel_steps.specs.every_run.Ends.{EndIsForGood, EndIsKnown, GetsNothing, GivesMessage, IsIdle, IsStill, KnowsTheEnd, NothingComesAfterTheEnd, Replies, SaysTheEnd, StaysOver}
pub use Rattle.channel_steps.specs.every_run.Marked.{AddUp, brought_by, plain}
pub use Rattle.channel_steps.specs.every_run.Marks.{AreMarksOf, AreTakings, BeginsItsMarks, marks_of}
pub use Rattle.channel_steps.specs.every_run.Named.{DidSo, MergesHaveAnyTasks, NamedMergesKeepTheHeadline, TasksMayTellMore, WakesFor, WakesNamed, WakesSo, WalksHaveAnyTasks, asks_of, name_of, step_asking, steps_asking, task_of, with_asked}
pub use Rattle.channel_steps.specs.every_run.NamedRow.{OneTaskHasTwoNames, TwoWaitsMerge, first_key, given_to_three, has_closed, one_close, parts_of_two, pends_on, second_key, two_are_told, waits_once}
pub use Rattle.channel_steps.specs.every_run.Notices.{AnyTold, EachTold, IsOneByOne, MayBeTold, TellingsAlwaysFit, TellingsSound, TellingsStayFit, told_of}
pub use Rattle.channel_steps.specs.every_run.Over.{AllSpent, EndSound, IsLate, StillDeeds}
pub use Rattle.channel_steps.specs.every_run.Put.{puts_blocks, puts_by, puts_ring, puts_single}
pub use Rattle.channel_steps.specs.every_run.Receives.{MessagesAreFew, NoReceiveIsForgotten, ReceivesSound, ReceivesStayOwed, counts_for_receives, has_appended, is_to_tell_receive}
pub use Rattle.channel_steps.specs.every_run.Sends.{HasPlaces, NoSendIsForgotten, PlacesAreFew, SendsSound, SendsStayOwed, counts_for_sends, has_displaced, has_taken, is_to_tell_send}
pub use Rattle.channel_steps.specs.every_run.Sound.{WakeInvariant}
pub use Rattle.channel_steps.specs.every_run.Streams.{AnswersFor, HasAppended, HasInHand, IsBringing, IsSending, NoStreamIsForgotten, PendingStreamsAreOwed, StreamsAreOwed, StreamsSound, StreamsStayOwed}
pub use Rattle.channel_steps.specs.every_run.Tasks.{act_by, aim_by, all_by, ask_by, deed_by, event_by, listener_by, listeners_by, parts_by, wait_lists_by, stage_by, turn_by, work_by}
pub use Rattle.channel_steps.specs.every_run.Unlisted.{NoSendListens, SendsUnlisted}
pub use Rattle.channel_steps.specs.every_run.Waits.{Any, Apart, IsIn, WaitApart, Waits}
pub use Rattle.channel_steps.specs.every_run.Words.{HasLetIn, IsAtQueue, IsWith, IsWithOne, WordsSay}
pub use Rattle.channel_calls.specs.Model.{ModelChannel}
pub use Rattle.channel_steps.specs.Answers.{CapacityRow, CloneRow, CloseRow, ClosedPollRow, CountRow, FlagRow, ForceSendRow, NextRow, RecvPollRow, Row, SendPollRow, SeveralRow, TerminatedRow, TryRecvRow, TrySendRow, UpgradeRow}
pub use Rattle.channel_steps.specs.Known.{Answered, HasTaken, IsFor, StageAt, ToldAt, TriesAt, TriesFor, TryAt, WorkAt, all_from}
pub use Rattle.channel_steps.specs.Left.{all_left, most_left}
pub use Rattle.channel_steps.specs.Moments.{Appended, ClosedIt, CountRaised, Crowded, Displaced, Dropped, LeftLast, MadeRoom, MarkedMoment, Once, Open, Replaced, Shut, Spent, Took, TookAll, Upgraded, is_empty, with_marked}
pub use Rattle.channel_steps.specs.Run.{Begins, EachStep, HasBegun, HasRange, IsRun, Next, NextConfiguration, Touches, call_begun, end_of, new_configuration}
pub use Rattle.channel_steps.specs.Configuration.{AllKnown, Finishes, HasParty, Known, MayFinish, MayHave, OthersQuiet, Represents, Configuration, ActiveCallWitness, Steps, StepsAt, ActiveCall, after_step, all_seats, blocks_after, brought, came_by, does, gone_by, left_by, sees, active_call_of, unless_ended, wanted_at}
pub use Rattle.channel_steps.specs.Tellings.{Telling, all_of, more_of, one_of, owed_besides, owed_for, owed_takings, takings}
pub use Rattle.channel_steps.specs.declared.party.Entry.{Entry}
pub use Rattle.channel_steps.specs.declared.party.Party.{Party}
pub use Rattle.channel_steps.specs.declared.run.Step.{Step}
pub use Rattle.concurrent_queue.specs.Capacity.{capacity_of}
pub use Rattle.concurrent_queue.specs.Contents.{Contents, block_at, slot_at}
pub use Rattle.concurrent_queue.specs.Deeds.{bits_set, loaded}
pub use Rattle.concurrent_queue.specs.Made.{IsNew, new_cells}
pub use Rattle.concurrent_queue.specs.Queue.{Answers, AnswersForce, AnswersPop, AnswersPush, AnswersShut, AnswersTo, Continues, ContinuesBy, ContinuesForce, ContinuesPop, ContinuesPush, IsDrained, IsInRange, IsOldest, IsOpen, IsShut, Phase, Queue, after, appended, asked, displaced, is_displaced, is_filled, is_full_at, marked, may_refuse_at, measured, message, read, seen_after, taken, trying}
pub use Rattle.concurrent_queue.specs.Step.{AreAt, FitsForm, FitsRing, FitsSlot, HasBrought, IsAtBlocks, IsAtRing, IsAtSingle, ActiveQueueCall, closed_in, items_in, length_in, phases, slot_by}
pub use Rattle.concurrent_queue.specs.Walked.{StateMakes}
pub use Rattle.concurrent_queue.specs.declared.bounded.RingAction.{RingAction}
pub use Rattle.concurrent_queue.specs.declared.bounded.WhenFull.{WhenFull}
pub use Rattle.concurrent_queue.specs.declared.bounded.WhenFull.TheVariants.{Displace, Refuse}
pub use Rattle.concurrent_queue.specs.declared.call.QueueAsk.{QueueAsk}
pub use Rattle.concurrent_queue.specs.declared.call.QueueMark.{QueueMark}
pub use Rattle.concurrent_queue.specs.declared.call.QueueMark.TheVariants.{Nothing}
pub use Rattle.concurrent_queue.specs.declared.call.QueueReply.{QueueReply}
pub use Rattle.concurrent_queue.specs.declared.call.QueueReply.TheVariants.{Cap, Flag, Force, Pop, Push}
pub use Rattle.concurrent_queue.specs.declared.cells.QueueForm.{QueueForm}
pub use Rattle.concurrent_queue.specs.declared.cells.QueueForm.TheVariants.{Bounded, Unbounded}
pub use Rattle.concurrent_queue.specs.declared.cells.Slot.{Slot}
pub use Rattle.concurrent_queue.specs.declared.cells.Slot.TheVariants.{At, In}
pub use Rattle.concurrent_queue.specs.declared.cells.Word.TheVariants.{State}
pub use Rattle.concurrent_queue.specs.declared.queue_call.CallState.{CallState}
pub use Rattle.concurrent_queue.specs.declared.queue_call.CallState.TheVariants.{Asked, Blocks, Ring, Single}
pub use Rattle.concurrent_queue.specs.declared.queue_call.QueueCall.{QueueCall}
pub use Rattle.concurrent_queue.specs.declared.single.SingleAction.{SingleAction}
pub use Rattle.concurrent_queue.specs.declared.unbounded.action.UnboundedAction.{UnboundedAction}
pub use Rattle.concurrent_queue.specs.declared.unbounded.action.UnboundedCall.{UnboundedCall}
pub use Rattle.concurrent_queue.specs.machine.BlocksCalls.{Fills, KnowsBlocks, owes, same}
pub use Rattle.concurrent_queue.specs.machine.BlocksDenotes.{Denotes, IsProper, IsTailAt, act_of}
pub use Rattle.concurrent_queue.specs.machine.BlocksForm.{IsChain, IsFit, seat_of}
pub use Rattle.concurrent_queue.specs.machine.BlocksMoves.{BlocksMeans, BlocksSeat, owners}
pub use Rattle.concurrent_queue.specs.machine.BlocksState.{Duty, SoundBlocks, fill, link, number, one_if, owed, position, start, taken_in, turn_head, turn_tail}
pub use Rattle.concurrent_queue.specs.machine.BlocksWords.{begin, blocks_slot}
pub use Rattle.concurrent_queue.specs.machine.Places.{Each, Place, sum}
pub use Rattle.concurrent_queue.specs.machine.Positions.{pos}
pub use Rattle.concurrent_queue.specs.machine.RingCalls.{KnowsRing, ask_of, at_stage, hold, placed}
pub use Rattle.concurrent_queue.specs.machine.RingMeans.{RingMeans, place_at}
pub use Rattle.concurrent_queue.specs.machine.RingReadings.{number_of, ring_slot}
pub use Rattle.concurrent_queue.specs.machine.RingState.{SlotState, SoundRing, busy, reach}
pub use Rattle.concurrent_queue.specs.machine.RingWords.{index, ring_mark, ring_start}
pub use Rattle.concurrent_queue.specs.machine.Single.{finishes, set_state}
pub use Rattle.concurrent_queue.specs.machine.SingleState.{KnowsSingle, Means, SingleMeans, holders, holds}
pub use Rattle.event_listener.specs.Lists.{Lists, Notice, kind_of, listened, moved, notified, passed, passed_wakes, registration, removed, removed_wakes, same_key, tasks_of, told_as, told_with, waits_as, with_task, without}
pub use Rattle.event_listener.specs.Notices.{Woken}
pub use Rattle.event_listener.specs.declared.error.ListenError.{ListenError}
pub use Rattle.event_listener.specs.declared.key.Key.{Key}
pub use Rattle.futures.specs.declared.task.Poll.TheVariants.{Pending, Ready}
