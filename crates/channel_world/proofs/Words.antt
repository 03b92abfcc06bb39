-- The names that most files here cite, passed on from one place.
pub use Rattle.std.proofs.Common.{IsTrue, Iter, add-one, option_and_then, replicate}
pub use Rattle.std.proofs.Math.Nat.{mul-le-mul, suc-add, suc-mul, zero-add}
pub use Rattle.std.proofs.lemmas.Bool.{eqb-false, ltb-false, ltb-true}
pub use Rattle.std.proofs.lemmas.List.{length-drop, replicate_more}
pub use Rattle.std.proofs.lemmas.List.Sums.{count_by-le-length}
pub use Rattle.std.proofs.lemmas.Option.{slice_get_past}
pub use Rattle.std.specs.Fmt.{decimal}
pub use Rattle.std.specs.Io.KnownBytes.{Appends, Consumes}
pub use Rattle.std.specs.Option.{SomeIff}
pub use Rattle.std.specs.Result.{result_ok, result_unwrap_or}
pub use Rattle.std.specs.Slice.Iter.{iter_rest, iter_steps}
pub use Rattle.std.specs.declared.snapshot.Snapshot.{Snapshot}
pub use Rattle.concurrent_queue.specs.declared.queue_call.QueueCall.{QueueCall}
pub use Rattle.channel_calls.specs.declared.mark.Mark.TheVariants.{Nothing}
pub use Rattle.channel_steps.proofs.Interface.{each_says, run_entries, run_on, run_so}
pub use Rattle.channel_steps.proofs.every_run.MarkedFacts.{both_add, came_is, none_adds, step_marked}
pub use Rattle.channel_steps.specs.Answers.{Met, Row}
pub use Rattle.channel_steps.specs.Configuration.{MayFinish}
pub use Rattle.channel_steps.specs.Moments.{ClosedIt, Dropped}
pub use Rattle.channel_world_model.proofs.Counting.{among_append, count_all, count_end, count_gone, count_gone_one, count_news}
pub use Rattle.channel_world_model.proofs.LawSteps.{Kept, no_line, opened_kept, set_here, step_good}
pub use Rattle.channel_world_model.proofs.RunLemmas.{GoesOn, goes_on_by, goes_on_empty, run_ends, run_ends_full, stop_at_end, stop_in_front}
pub use Rattle.channel_world_model.proofs.Settle.{at_rest as settled_rest, few_passed, first_one, first_there, front_stays, not_untold, settle_ends, settle_more, settling_ends, woken_next}
pub use Rattle.channel_world_model.proofs.Shapes.{Shape, shape_of}
pub use Rattle.channel_world_model.proofs.Words.{AllByRecursion, MayStop, NobodyGoesOn, Runs, Settles, appended, are_alike, drop_one, found_in, strong_handles, take-append-drop}
pub use Rattle.channel_world_model.specs.declared.space.Space.TheVariants.{Open, Shut, Filled}
pub use Rattle.channel_world_model.specs.declared.call.Call.TheVariants.{Poll, PollRefused, TryClone}
pub use Rattle.channel_world_language.specs.Asked.{call_of, handle_of, is_given_before, is_known, lives, of_handle, used, with_given}
pub use Rattle.channel_world_language.specs.Command.{Command, settle}
pub use Rattle.channel_world_language.specs.Said.{said, said_line}
pub use Rattle.channel_world_language.specs.Table.{Table, named_in}
pub use Rattle.channel_world_language.specs.Text.{parted}
pub use Rattle.channel_world_language.specs.Words.{Name, lines_of}
pub use Rattle.channel_world_runs.proofs.Interface.{few_in, leads_nowhere, leads_on, led_further, names_owed_at, no_agents, none_before, none_of, none_under_way, owed_at, ran_leads, stands_led, tries_at}
pub use Rattle.channel_world_runs.proofs.LoneFacts.{call_leads, leads_whatever, no_parties}
pub use Rattle.channel_world_runs.proofs.NoLonger.{no_longer}
pub use Rattle.channel_world_runs.proofs.OwedCounts.{count_first, one_if}
pub use Rattle.channel_world_runs.proofs.OwnerOrderNames.{among_is}
pub use Rattle.channel_world_runs.proofs.OwnerWoken.{waits_pending}
pub use Rattle.channel_world_runs.proofs.Words.{ActiveCallWitness, AllKnown, Alone, AreUntold, AwakeIn, Bor, BringsWithin, CallsAlone, Channel, Close, Closings, Count, Directory, FewLeft, Finished, FitsAt, HasPositions, IfOk, Insert, IsQuiet, IsWorld, Keeps, Key, KeysHeld, Kind, Lack, LeadsBy, Leave, ListenerRef, Load, LoneCallsAnswer, Lower, Mark, Names, NamesKept, OnOk, Outcome, Pending, Phase, Placed, PollsAnswer, Purpose, Queue, Raise, RanTo, Ready, RefusalsAgree, Register, RestIsAWorld, Shown, Stage, Stands, StandsIn, StepIsMade, Steps, TakeRoom, TellAll, TellReceive, TellSend, TellSends, TellStreams, Trying, WakesAtMost, WokenSound, Working, WorldInvariant, absent_counts, accepted_by, accepted_in, active_call_of, after_news, agents_of, all_seats, all_unannounced, among_counts, among_self, ap, append-nil, append_assoc, arith, at, brings, calls_in, came_in, channel_step, closed_in, count_append, count_of, decided, drop, dropped, end_of, eq-eqb, eqb-true, filter, first, found, found_name, free, free_places, gone, held_of, inl, inr, is_err, is_full, is_last_of, is_line, is_receiving, is_sending, is_stream, is_strong, key_of, keys_of, left_after, left_in, length-append, length-filter, length-map, line_at, line_of_operation, line_refl, listeners, listening_first, live_on, lookup, map-append, memory, moment_of, name_state_alone, name_state_ended, name_state_of, nat_eq, nat_tests, ne_eqb, nobody_under_way, none_left, observation_of, option_map, option_to_list, or_right, or_true, parties_of, parts_in, passed_on, phase, poll_asked, poll_awake, refusal_asked, refusal_beside, refused, rules, same_number, same_side, same_sound, same_waiter, serials, set_elsewhere, slice_get_read, space_of, standing, state_at, strong_lives, subst, sym, take_all, times, times_in, told_after, told_by, told_by_rooms, unannounced, unlike_handles, vec_capacity, vec_len, waits_in, with_messages, with_operation_changed, with_woken, without_waiter, ◌∙◌}
pub use Rattle.channel_world_runs.specs.declared.calls.CallUnderWay.{CallUnderWay}
pub use Rattle.channel_world_model.specs.declared.news.News.TheVariants.{Closing, Message, NextIn, Room}
pub use Rattle.channel_world_model.specs.declared.name.Handle.{Handle}
pub use Rattle.channel_world_runs.specs.declared.names.HandleEntry.{HandleEntry}
pub use Rattle.channel_world_model.specs.declared.name.HandleId.{HandleId}
pub use Rattle.channel_world_model.specs.declared.name.HandleKind.{HandleKind}
pub use Rattle.channel_world_model.specs.declared.news.News.{News}
pub use Rattle.channel_world_model.specs.declared.name.OpId.{OpId}
pub use Rattle.channel_world_model.specs.declared.name.Operation.{Operation}
pub use Rattle.channel_world_runs.specs.declared.names.OperationEntry.{OperationEntry}
pub use Rattle.channel_world_runs.specs.declared.names.PollState.{PollState}
pub use Rattle.channel_world_model.specs.declared.name.HandleKind.TheVariants.{Receiver, Sender, WeakReceiver, WeakSender}
pub use Rattle.channel_world_runs.proofs.WorldStateFacts.{new_stands, no_calls, ran_none}
pub use Rattle.channel_world_runs.proofs.rest.Woken.{none_twice_times}
pub use Rattle.channel_world_runs.specs.Apart.{AreApart}
pub use Rattle.channel_world_runs.specs.Pending.{operation_stands, stream_stands}
pub use Rattle.channel_world_runs.specs.Runs.{Holds}
pub use Rattle.channel_world_runs.specs.Settle.{PollsAlone}
pub use Rattle.channel_world_runs.specs.WorldState.{IsJustOpened, TellsQuiet, messages_in}
pub use Rattle.channel_world.specs.Account.{AccountView, account_of, replied_by, replied_so_far}
pub use Rattle.channel_world.specs.Added.{Adds, Extends}
pub use Rattle.channel_world.specs.Asleep.{ALineIsAwake, AllAreAwake, ClosingIsAnswered, HasAPlace, NoReceiveIsLeft, NoReceivePendsBesideAMessage, NoReceiveSleeps, NoReceiveSleepsBesideAMessage, NoSendIsLeft, NoSendPendsBesideAPlace, NoSendSleeps, NoSendSleepsBesideAPlace, NoStreamIsLeft, NoStreamPendsBesideAMessage, NoStreamSleeps, NoStreamSleepsBesideAMessage, NobodyIsLeftAtRest, NobodyIsLeftOnAClosed, NobodySleepsOnAClosed, NobodySleepsWhereClosed, ReceivesAreAnswered, SendsAreAnswered, StreamsAreAnswered, woken_among}
pub use Rattle.channel_world.specs.Carried.{LeadsTo, polls_replied, replied_in}
pub use Rattle.channel_world.specs.Counts.{AreByDrops, CountsAtRest, CountsLive, Drops, IsByDrops, OpenHasBoth, live, strong_kind}
pub use Rattle.channel_world.specs.Kinds.{all_names, is_pending_on, operation_stance, pending_on_line, stream_stance, takings_of}
pub use Rattle.channel_world.specs.Marked.{all_brought, all_taken, brought_at, message_brought}
pub use Rattle.channel_world.specs.MergesByNames.{BeginByNames, MergesByNamesAreRuns, NamedMoment, NamedStep, SaysByNames, first_name_state}
pub use Rattle.channel_world.specs.Numbers.{CallsAtRest, MessagesAtRest, PendingAtRest, WokenAtRest}
pub use Rattle.channel_world.specs.Output.{AppendsFront, IsReadEnd, IsText, WritesScript, WritesText, last_lines, late_line, text_of_lines}
pub use Rattle.channel_world.specs.PartyRun.{AreSilent, EndsWithAnswer, IsRefused, StepsOnce, refused_of, steps_asked}
pub use Rattle.channel_world.specs.RecordReplay.{IsHistory, MadeAsSaid, RecordView, Replays}
pub use Rattle.channel_world.specs.RecordSeat.{SeatView, amount_of, call_weight, calls_of, numbers_of, sum_below}
pub use Rattle.channel_world.specs.Recording.{IsRecording, RecordingView}
pub use Rattle.channel_world.specs.Script.{Obeyed, Script, ScriptScene, checked, ending, first_scene, followed, obeyed, opened, readable, replying_first, script, script_of_lines, settled, settles, waiting_count, why_refused}
pub use Rattle.channel_world.specs.Sentences.{BeginSays, CallSays, MomentSays, StepSays, WorkSays}
pub use Rattle.channel_world.specs.Settled.{AreAmple, NoneLackedMemory, Polls, SettlingIsShort, most_accepted, most_in, most_polls, pending_on, polls_in}
pub use Rattle.channel_world.specs.Staged.{scene_of}
pub use Rattle.channel_world.specs.StepsLeft.{EndInARow, EndInFront, OthersQuietOf, in_a_row}
pub use Rattle.channel_world.specs.View.{LeadsOn, WorldView, count_in, to_close, to_lower, view_of}
pub use Rattle.channel_world.specs.Words.{ActiveCall, AddUp, All, Answer, Answers, Bool, Call, Capacity, ChannelAsk, ChannelEntry, ChannelStep, Configuration, Done, Each, EachStep, Entry, Err, Fault, IfSome, IsAmong, IsNameStateOf, IsRun, IsStepOf, IsUnwoken, Language, LeftLast, List, MarkedMoment, MayRefuseStep, Memory, MergeMoment, ModelChannel, Moment, NameState, NameStatus, NameTable, Next, NextConfiguration, NobodyIsLeft, None, Ok, Op, Option, Owed, Parts, PartyId, Receipt, Receivers, Receives, Replies, Reply, Result, Returned, SaysTheEnd, ScriptEnd, Senders, Sends, Settled, SettlesTo, Side, Some, Spent, State, Step, Stopped, StopsAt, Stream, Streams, Unreadable, WaitList, WaitLists, Waiter, Waiting, WorldRefusal, WorldState, [], answer, asks, begin_refusal, brought, brought_by, brought_by_call, call_begun, came_by, capacity_of, codes, cond, count, count_by, does, false, gone_by, how_many, is_among, is_closing, is_lowering, is_none, is_some, just_opened, length, list_all, list_any, map, min, name_state_begun, names_of, nat_lt, new_configuration, not, operation_status, option_map_or, pending_count, poll_of, refl, refusal, removed_by, reply_text, same_line, sees, sends_after, settle_text, slice_get, stands_pending, start, status, status_by, step_refusal, steps_of, stream_status, suc, take, tally, today, true, unless_ended, untold, waits, wakes_text, wants_growth, with_marked, woken_of_line, woken_on, zero, ℕ}
pub use Rattle.channel_world.specs.World.{at_rest, most_woken, untold_count}
pub use Rattle.channel_world.specs.declared.account.Past.{Past, Then, the_lemmas}
pub use Rattle.concurrent_queue.proofs.Interface.{shows}
