-- The names that most files here cite, passed on from one place.
pub use Rattle.std.proofs.Common.{◌≡◌, ℕ, ◌+◌, ◌*◌, ◌<◌, ◌≤◌, List, [], ◌∷◌, ◌++◌, append_assoc, Option, None, Some, ◌⊎◌, inl, inr, refl, sym, ap, ◌∙◌, subst, arith, cond, Bool, true, false, if◌then◌else◌, not, Result, Ok, Err, is_some, zero, suc, drop, ◌==◌, ◌&&◌, length, append-nil, take, map, ◌-◌, ◌^◌, nat_lt}
pub use Rattle.std.proofs.lemmas.Bool.Decides.{nat_tests}
pub use Rattle.concurrent_queue.proofs.Interface.{shows, IsIdle, Comes, Does, does, Finds, ranks, did}
pub use Rattle.concurrent_queue.specs.Contents.{Contents}
pub use Rattle.concurrent_queue.specs.Queue.{Queue, Phase, asked, after, Continues, Answers, IsInRange, is_filled, is_full_at, marked}
pub use Rattle.concurrent_queue.specs.Step.{Fits, rank, IsQueueStep, mark_of, ActiveQueueCall, FitsAt}
pub use Rattle.concurrent_queue.specs.declared.call.QueueAsk.{QueueAsk}
pub use Rattle.concurrent_queue.specs.declared.call.QueueMark.{QueueMark}
pub use Rattle.concurrent_queue.specs.declared.call.QueueReply.{QueueReply}
pub use Rattle.concurrent_queue.specs.declared.queue_call.QueueCall.{QueueCall}
pub use Rattle.event_listener.specs.Lists.{kind_of, listened, told_as, waits_as, same_key}
pub use Rattle.event_listener.specs.Notices.{Woken}
pub use Rattle.event_listener.specs.declared.error.ListenError.{ListenError}
pub use Rattle.event_listener.specs.declared.key.Key.{Key}
pub use Rattle.channel_steps.specs.solo.Alone.{Outcome, Alone, after_waking, answers, Where, ends, receives_by, says_only, WaitsOrGoesOn, ListensOrIsRefused, PollsFor, PollsSend, PollsReceive, AsksListener, over_queue, taken, of_message, of_room, of_rooms, of_closing, receives_these, receives_several, ReceivesSeveral, closes, RegistersOrGoesOn, PollsStream, PollsClosing, drops, clones}
pub use Rattle.channel_steps.specs.solo.Run.{HasNextPosition, IsAtRest, AnsweredAlone, AnswersAlone}
pub use Rattle.channel_calls.specs.Answered.{answered_next, over, sent_next, forced_next, received_next, gathered_next, short_next, several_next, send_next, receive_next, stream_next, closing_next, closed_next, asked_next, terminated_next, upgraded_next, polled_next}
pub use Rattle.channel_calls.specs.Asks.{kept_by, asks_listener, first}
pub use Rattle.channel_calls.specs.Deeds.{inserted, registered, Done}
pub use Rattle.channel_calls.specs.Moves.{Channel, Effect, channel, Turned, Tried, seats, phase, IsTaken, Hastens, Made, IsStepOver, listens, registers, IsNewCall, IsChannelStep, tells_all, raises, Moves, Worked, TakesRoomFor, tells_one, tells_more, leaves, lowers, untouched, on_count}
pub use Rattle.channel_calls.specs.Parts.{Parts, WaitLists, Listeners, listeners, with_listeners, waits, is_raised, count}
pub use Rattle.channel_calls.specs.Plain.{parts_of, rooms_of, DoesPlain}
pub use Rattle.channel_calls.specs.Several.{Gathered, with_last}
pub use Rattle.channel_calls.specs.Turns.{line_of, leaving, pending_reply, refused_reply, ends_by, again, inserted_next, registered_next, says, ask_of, refused_next, closer_ending, message_of, nothing_kept, most, pends_by, unlistened, dropper, told_all_next, room_next, roomless, lowered_next, counted_next, loaded_next, raised_next}
pub use Rattle.channel_calls.specs.Walks.{Takes, Heard, WorkMakes, ChannelMakes}
pub use Rattle.channel_calls.specs.declared.ask.ChannelAsk.{ChannelAsk}
pub use Rattle.channel_calls.specs.declared.ask.ChannelAsk.TheVariants.{PollSend, PollRecv, PollClosed, PollNext, TrySend, ForceSend, TryRecv, RecvMany, Close, PollFinishedSend, RefusePoll, GiveUp, DropSender, DropReceiver, CloneHandle, Upgrade, HandleCount, IsClosed, IsEmpty, IsFull, Len, Capacity, IsTerminated, SendIsTerminated, SameChannel, Make, DropWeak}
pub use Rattle.channel_calls.specs.declared.call.ChannelCall.{ChannelCall}
pub use Rattle.channel_calls.specs.declared.error.TryRecvError.{TryRecvError}
pub use Rattle.channel_calls.specs.declared.mark.Mark.{Mark}
pub use Rattle.channel_calls.specs.declared.mark.Mark.TheVariants.{Nothing}
pub use Rattle.channel_calls.specs.declared.plain.PlainChannel.{PlainChannel}
pub use Rattle.channel_calls.specs.declared.reply.Reply.{Reply}
pub use Rattle.channel_calls.specs.declared.stage.Purpose.{Purpose}
pub use Rattle.channel_calls.specs.declared.stage.Closer.{Closer}
pub use Rattle.channel_calls.specs.declared.stage.Ending.{Ending}
pub use Rattle.channel_calls.specs.declared.stage.ListenerRef.{ListenerRef}
pub use Rattle.channel_calls.specs.declared.stage.Returned.{Returned}
pub use Rattle.channel_calls.specs.declared.stage.WaitList.{WaitList}
pub use Rattle.channel_calls.specs.declared.stage.WaitList.TheVariants.{Sends, Receives, Streams, Closings}
pub use Rattle.channel_calls.specs.declared.stage.Making.{Making}
pub use Rattle.channel_calls.specs.declared.stage.Side.{Side}
pub use Rattle.channel_calls.specs.declared.stage.Stage.{Stage}
pub use Rattle.channel_calls.specs.declared.stage.Stage.TheVariants.{Trying, Working, Finished}
pub use Rattle.channel_calls.specs.declared.stage.NextStep.{NextStep}
pub use Rattle.channel_calls.specs.declared.stage.NextStep.TheVariants.{Tries, Works, Ends}
pub use Rattle.channel_calls.specs.declared.stage.Waiting.{Waiting}
pub use Rattle.channel_calls.specs.declared.stage.ListStep.{ListStep}
pub use Rattle.channel_calls.specs.declared.stage.ListStep.TheVariants.{TellReceive, TellStreams, TellSend, Insert, Register, Leave, TellSends, TakeRoom, TellAll, Lower, Count, Load, Raise}
pub use Rattle.channel_steps.proofs.Interface.{fresh_waits, same_line, end_on, run_none, known_next, fits_after, none_after, after_lone, lone_goes, lone_ends, messages_counted, messages_moved}
pub use Rattle.channel_steps.specs.Count.{counted, brought_in, taken_out}
pub use Rattle.channel_steps.specs.Left.{steps_left}
