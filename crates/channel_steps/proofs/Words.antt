-- The words that the proofs of this crate cite, its own and those of the crates below, passed on from one place. Declares nothing.
pub use Rattle.channel_calls.specs.Answered.{answered_next, asked_next, closed_next, closing_next, forced_next, gathered_next, hands_out, over, polled_next, receive_next, received_next, send_next, sent_next, several_next, short_next, stream_next, terminated_next, upgraded_next}
pub use Rattle.channel_calls.specs.Asks.{asks_listener, first, kept_by}
pub use Rattle.channel_calls.specs.Marks.{down, mark_of_queue, up}
pub use Rattle.channel_calls.specs.Moves.{Channel, Effect, Hastens, IsChannelStep, IsNewCall, IsStepOver, IsTaken, Made, Moves, OnePlace, TakesRoomFor, Tried, Turned, Worked, channel, leaves, on_count, phase, seats, untouched}
pub use Rattle.channel_calls.specs.Parts.{Listeners, Parts, WaitLists, count, is_raised, listeners, new_wait_lists, told_one_wakes, waits, with_listeners}
pub use Rattle.channel_calls.specs.Several.{Gathered, with_last}
pub use Rattle.channel_calls.specs.Turns.{again, closer_ending, counted_next, dropper, ends_by, leaving, line_of, loaded_next, lowered_next, most, nothing_kept, pends_by, raised_next, refused_next, room_next, roomless, told_all_next, unlistened}
pub use Rattle.channel_calls.specs.declared.ask.ChannelAsk.{ChannelAsk}
pub use Rattle.channel_calls.specs.declared.ask.Loan.{Loan}
pub use Rattle.channel_calls.specs.declared.call.ChannelCall.{ChannelCall}
pub use Rattle.channel_calls.specs.declared.error.TryRecvError.{TryRecvError}
pub use Rattle.channel_calls.specs.declared.mark.Mark.{Mark}
pub use Rattle.channel_calls.specs.declared.reply.Reply.{Reply}
pub use Rattle.channel_calls.specs.declared.stage.Purpose.{Purpose}
pub use Rattle.channel_calls.specs.declared.stage.Closer.{Closer}
pub use Rattle.channel_calls.specs.declared.stage.Ending.{Ending}
pub use Rattle.channel_calls.specs.declared.stage.ListenerRef.{ListenerRef}
pub use Rattle.channel_calls.specs.declared.stage.Returned.{Returned}
pub use Rattle.channel_calls.specs.declared.stage.WaitList.{WaitList}
pub use Rattle.channel_calls.specs.declared.stage.WaitList.TheVariants.{Closings, Receives, Sends, Streams}
pub use Rattle.channel_calls.specs.declared.stage.Making.{Making}
pub use Rattle.channel_calls.specs.declared.stage.Side.{Side}
pub use Rattle.channel_calls.specs.declared.stage.Side.TheVariants.{Receivers, Senders}
pub use Rattle.channel_calls.specs.declared.stage.Stage.{Stage}
pub use Rattle.channel_calls.specs.declared.stage.Stage.TheVariants.{Finished, Trying, Working}
pub use Rattle.channel_calls.specs.declared.stage.NextStep.{NextStep}
pub use Rattle.channel_calls.specs.declared.stage.NextStep.TheVariants.{Ends, Tries, Works}
pub use Rattle.channel_calls.specs.declared.stage.Waiting.{Waiting}
pub use Rattle.channel_calls.specs.declared.stage.ListStep.{ListStep}
pub use Rattle.channel_calls.specs.declared.stage.ListStep.TheVariants.{Count, Insert, Leave, Load, Lower, Raise, Register, TakeRoom, TellAll, TellReceive, TellSend, TellSends, TellStreams}
pub use Rattle.channel_steps.specs.Answers.{Keeps, Met, Row, SeveralRow, WaitsFor, asks_first}
pub use Rattle.channel_steps.specs.Count.{brought_in, counted, taken_out}
pub use Rattle.channel_steps.specs.Known.{Answered, AreBehind, HasTaken, IsDropOf, IsFor, IsQuick, Makes, MayRaise, StageAt, ToldAt, TriesAt, TriesFor, TryAt, WorkAt, all_from, left_to_tell, left_to_try, quick_left_to_work, quick_steps_left, to_tell}
pub use Rattle.channel_steps.specs.Left.{all_left, left_after_try, left_at, left_to_work, listening_try, most_left, most_wanted, one_try, party_left, steps_left, told_try}
pub use Rattle.channel_steps.specs.Moments.{Appended, Crowded, Displaced, Drained, HasMessage, HasRoom, LeftLast, MadeRoom, MarkedMoment, Once, Open, RanOut, Refuses, Replaced, Shut, Took, TookAll, is_empty, with_marked}
pub use Rattle.channel_steps.specs.Run.{EachStep, HasBegun, HasRange, IsRun, Next, call_begun, end_of, new_configuration}
pub use Rattle.channel_steps.specs.Configuration.{AllKnown, AreIdle, EndsInTime, Finishes, IsBalanced, Known, MayFinish, MayHave, OthersQuiet, Represents, Configuration, ActiveCallWitness, PartySteps, Steps, StepsAt, StepsNearer, ActiveCall, after_step, all_seats, blocks_after, brought, came_by, does, gone_by, left_by, parties_in, seats_of, sees, active_call_of, unless_answered, unless_ended, wanted_at}
pub use Rattle.channel_steps.specs.Start.{EachConfigurationTellsQuiet, IsQuietOrNot}
pub use Rattle.channel_steps.specs.Tellings.{Telling, WokenBy, all_of, dropping, more_of, one_of, owed, owed_besides, owed_for, owed_takings, takings, telling, with_taking}
pub use Rattle.channel_steps.specs.declared.party.Entry.{Entry}
pub use Rattle.channel_steps.specs.declared.party.Party.{Party}
pub use Rattle.channel_steps.specs.declared.run.Step.{Step}
pub use Rattle.concurrent_queue.specs.Capacity.{capacity_of}
pub use Rattle.concurrent_queue.specs.Contents.{Contents}
pub use Rattle.concurrent_queue.specs.Made.{IsNew}
pub use Rattle.concurrent_queue.specs.Queue.{Answers, AnswersCapacity, AnswersClose, AnswersEmpty, AnswersForce, AnswersFull, AnswersLen, AnswersPop, AnswersPush, AnswersShut, AnswersTo, Continues, ContinuesBy, ContinuesForce, ContinuesPop, ContinuesPush, IsInRange, IsOldest, IsOpen, Phase, Queue, after, appended, asked, displaced, is_displaced, is_filled, is_full_at, marked, may_refuse_at, measured, message, opened, read, seen_after, taken, trying}
pub use Rattle.concurrent_queue.specs.Step.{AllQuiet, Fits, FitsForm, IsQuiet, PhasesQuiet, ActiveQueueCall, chain_after, phases}
pub use Rattle.concurrent_queue.specs.declared.call.QueueAsk.{QueueAsk}
pub use Rattle.concurrent_queue.specs.declared.call.QueueMark.{QueueMark}
pub use Rattle.concurrent_queue.specs.declared.call.QueueMark.TheVariants.{Append, Close, Nothing, Replace, Take, TakeDisplaced}
pub use Rattle.concurrent_queue.specs.declared.call.QueueReply.{QueueReply}
pub use Rattle.concurrent_queue.specs.declared.call.QueueReply.TheVariants.{Cap, Flag, Force, Pop, Push}
pub use Rattle.concurrent_queue.specs.declared.cells.QueueForm.{QueueForm}
pub use Rattle.concurrent_queue.specs.declared.cells.QueueForm.TheVariants.{Bounded, Unbounded}
pub use Rattle.concurrent_queue.specs.declared.queue_call.QueueCall.{QueueCall}
pub use Rattle.event_listener.specs.Lists.{kind_of, listened, same_key, told_as, waits_as}
pub use Rattle.event_listener.specs.declared.error.ListenError.{ListenError}
pub use Rattle.event_listener.specs.declared.key.Key.{Key}
pub use Rattle.futures.specs.declared.task.Poll.TheVariants.{Ready}
