-- The names that most files here cite, passed on from one place.
pub use Rattle.std.proofs.Common.{Bor, IfOk, OnErr, OnOk, is_err, rules, slice_set}
pub use Rattle.std.proofs.lemmas.Bool.{cond-false as chosen_no, eq-eqb, eqb-true, ne_eqb}
pub use Rattle.std.proofs.lemmas.Grind.{common_steps}
pub use Rattle.std.proofs.lemmas.Iterator.Consumers.{YieldsList-from_filter, YieldsList-from_rest, YieldsList-from_shown, count_from_yields_List}
pub use Rattle.std.proofs.lemmas.List.{length-map, map-append, map-set}
pub use Rattle.std.proofs.lemmas.List.Sums.{length-filter, sum_by-cons}
pub use Rattle.std.proofs.lemmas.Map.{keys-set_value, length-set_value, lookup-set_value}
pub use Rattle.std.proofs.lemmas.Map.Steps.{set_value_same}
pub use Rattle.std.proofs.lemmas.Option.{get_or_from_slice_get, slice_get_read, slice_get_within}
pub use Rattle.std.proofs.lemmas.Slice.Zip.{AllZip-long}
pub use Rattle.std.specs.Bool.{then_some}
pub use Rattle.std.specs.Global.{Vec}
pub use Rattle.std.specs.List.{sum_by}
pub use Rattle.std.specs.Option.{ok_or}
pub use Rattle.futures.specs.declared.task.Poll.{Poll}
pub use Rattle.lru.specs.LruCache.{LruCache, demoted, put_entries}
pub use Rattle.concurrent_queue.proofs.Interface.{shows}
pub use Rattle.concurrent_queue.specs.Capacity.{capacity_of}
pub use Rattle.concurrent_queue.specs.Queue.{AnswersClose, AnswersPop, AnswersPush, AnswersShut, AnswersTo, Continues, ContinuesBy, IsInRange, Queue, after, appended, asked, is_displaced, is_filled, is_full_at, marked, measured, read, taken}
pub use Rattle.concurrent_queue.specs.Step.{FitsAt, closed_in}
pub use Rattle.concurrent_queue.specs.declared.call.QueueAsk.{QueueAsk}
pub use Rattle.concurrent_queue.specs.declared.call.QueueMark.{QueueMark}
pub use Rattle.concurrent_queue.specs.declared.call.QueueMark.TheVariants.{TakeDisplaced}
pub use Rattle.concurrent_queue.specs.declared.call.QueueReply.{QueueReply}
pub use Rattle.concurrent_queue.specs.declared.error.ForcePushError.{ForcePushError}
pub use Rattle.concurrent_queue.specs.declared.error.PopError.{PopError}
pub use Rattle.concurrent_queue.specs.declared.error.PushError.{PushError}
pub use Rattle.event_listener.specs.Lists.{kind_of, listened, moved, notified, passed, passed_wakes, registration, removed, removed_wakes, same_key, told_as, told_with, waits_as, with_task, without}
pub use Rattle.channel_calls.specs.Answered.{answered_next, asked_next, closed_next, closing_next, forced_next, gathered_next, over, polled_next, receive_next, received_next, send_next, sent_next, several_next, short_next, stream_next, terminated_next, upgraded_next}
pub use Rattle.channel_calls.specs.Asks.{asks_listener, gives_up, is_refused, lent}
pub use Rattle.channel_calls.specs.Marks.{down, is_made, mark_of_queue, up}
pub use Rattle.channel_calls.specs.Model.{ModelChannel as PlainChannel}
pub use Rattle.channel_calls.specs.Moves.{Effect, Inserts, Moves, TakesRoomFor, Tried, Turned, Worked, leaves, listens, lowers, on_count, on_line, phase, queued, raises, registers, tells_all, tells_more, tells_one, untouched}
pub use Rattle.channel_calls.specs.Parts.{is_raised, told_all, told_all_wakes, told_more, told_more_wakes, told_one, told_one_wakes, with_count, with_listeners}
pub use Rattle.channel_calls.specs.Plain.{parts_of}
pub use Rattle.channel_calls.specs.Several.{Gathered, with_last}
pub use Rattle.channel_calls.specs.Turns.{again, closer_ending, counted_next, dropper, ends_by, leaving, loaded_next, lowered_next, message_of, most, pending_reply, pends_by, raised_next, refused_next, refused_reply, room_next, roomless, says, told_all_next, unlistened}
pub use Rattle.channel_calls.specs.declared.mark.Mark.{Mark}
pub use Rattle.channel_calls.specs.declared.mark.Mark.TheVariants.{Append, Close, Replace, Take}
pub use Rattle.channel_calls.specs.declared.stage.Ending.{Ending}
pub use Rattle.channel_calls.specs.declared.stage.ListStep.TheVariants.{Count, TakeRoom}
pub use Rattle.channel_calls.specs.declared.stage.Making.{Making}
pub use Rattle.channel_calls.specs.declared.stage.NextStep.{NextStep}
pub use Rattle.channel_calls.specs.declared.stage.NextStep.TheVariants.{Ends, Tries, Works}
pub use Rattle.channel_calls.specs.declared.stage.Side.{Side}
pub use Rattle.channel_calls.specs.declared.stage.Waiting.{Waiting as WaitingStep}
pub use Rattle.channel_steps.proofs.Interface.{after-set, blocks_begun, few_left, get-map, get-set, hold_still, map-after, messages_counted, messages_moved, run_keeps, run_none, run_on, run_so, set-same}
pub use Rattle.channel_steps.specs.Answers.{Keeps, PollKeeps, asks_first}
pub use Rattle.channel_steps.specs.Configuration.{ActiveCallWitness, AllKnown, IsBalanced, Known, PartySteps, Steps, StepsAt, StepsNearer, active_call_of, after_step, all_seats, brought, came_by, does, gone_by, left_by, parties_in, sees, unless_ended, wanted_at}
pub use Rattle.channel_steps.specs.Count.{brought_in, counted, taken_out}
pub use Rattle.channel_steps.specs.Known.{HasTaken, IsFor, StageAt, ToldAt, TriesFor, TryAt}
pub use Rattle.channel_steps.specs.Moments.{Shut, TookAll, with_marked}
pub use Rattle.channel_steps.specs.Run.{Begins, EachStep, PartyBegins, call_begun, end_of}
pub use Rattle.channel_steps.specs.Tellings.{WokenBy, all_of, dropping, more_of, one_of, owed_besides, owed_for, owed_takings, telling, with_taking}
pub use Rattle.channel_steps.specs.declared.party.Entry.{Entry as ChannelEntry}
pub use Rattle.channel_steps.specs.every_run.Amounts.{HoldsListener, is_trying, is_trying_anew, total}
pub use Rattle.channel_steps.specs.every_run.Closings.{AnswersClosed, HasClosed, LooksAgain}
pub use Rattle.channel_steps.specs.every_run.Notices.{EachTold, MayBeTold, told_of}
pub use Rattle.channel_steps.specs.every_run.Receives.{MessagesAreFew, counts_for_receives, has_appended, is_to_tell_receive}
pub use Rattle.channel_steps.specs.every_run.Sends.{HasPlaces, PlacesAreFew, counts_for_sends, has_displaced, has_taken, is_on_its_way, is_to_tell_send}
pub use Rattle.channel_steps.specs.every_run.Sound.{WakeInvariant}
pub use Rattle.channel_steps.specs.every_run.Streams.{AnswersFor, HasInHand, IsSending}
pub use Rattle.channel_steps.specs.every_run.Waits.{IsIn}
pub use Rattle.channel_steps.specs.solo.Alone.{AsksListener, ListensOrIsRefused, MayLackRoom, PollsClosing, PollsFor, PollsReceive, PollsSend, PollsStream, ReceivesSeveral, WaitsOrGoesOn, Where, answers, clones, closes, drops, ends, force_sends, of_closing, of_message, of_room, over_queue, receives, receives_by, receives_several, receives_these, replaced, says_only, sends, upgrades, with_appended}
pub use Rattle.channel_steps.specs.solo.Configurations.{EndsWith, LoneRun, steps_by, woken_by_steps}
pub use Rattle.channel_world_model.proofs.Awake.{awake_without_stream, empty_gone, empty_news, left_nowhere, line_refl, line_sound, placed_gone, placed_news, times_gone_self, times_news}
pub use Rattle.channel_world_model.proofs.Counting.{absent_counts, among_counts, among_drop, among_self, among_take, count_append, count_without_other}
pub use Rattle.channel_world_model.proofs.DirectoryLemmas.{at_seen, no_value, nothing_to_end, set_absent, set_twice, taken_seen}
pub use Rattle.channel_world_model.proofs.Interface.{awake_after, start_awake}
pub use Rattle.channel_world_model.proofs.LawSteps.{found_name, poll_awake, second_reason, set_elsewhere, untaken}
pub use Rattle.channel_world_model.proofs.WaiterLemmas.{derived_is, entry_is, first_apart, keys_without, left_among, none_left, rest_apart, same_number, same_refl, same_sound, same_symm, untold_gone, without_absent}
pub use Rattle.channel_world_model.proofs.Words.{Answer, Awake, Enough, Found, IfSome, IsSome, Lack, Pending, Placed, Ready, after_leaving, after_news, after_rooms, after_telling, answer_without, ap, append-nil, append_assoc, arith, clone_answer, closed_poll_answer, count_of, decided, displacing, downgrade_answer, drop_answer, dropped, false_from_ne_true, filter-append, first, force_send_answer, found, free_places, give_up_answer, given_up, gone, inl, inr, is_full, is_stream, left_after, length-append, lent_once_more, line_of_operation, lookup_entry, made, memory, nat_eq_equiv, nat_tests, new_answer, news_without_one, next_answer, next_not_polled, none_ever, none_yet, not_held, not_polled, not_standing, one_more, option_or, or_false, or_right, or_true, passed_on, pending, poll_answer, poll_next_answer, poll_refused_answer, recv_many_answer, recv_not_polled, recv_poll_answer, refl, refused, remove_entry, replying, same_line, send_not_polled, send_poll_answer, serials, set_value, shut, slice_index_or, space_of, spent, standing, strong_of, subst, suc, sym, take, take_all, told_after, told_by, try_recv_answer, try_send_answer, upgrade_answer, upgrade_to, used_once_less, waits_in, weak_of, with_channel, with_messages, with_names, with_waiting, without_one, zero, ◌∙◌}
pub use Rattle.channel_world_model.specs.declared.news.News.TheVariants.{Closing, Message, NextIn, Nothing, Room}
pub use Rattle.channel_world_model.specs.declared.space.Space.TheVariants.{Filled}
pub use Rattle.channel_world_model.specs.declared.refusal.WorldRefusal.TheVariants.{NameTaken, OpUnderWay, WrongKind}
pub use Rattle.channel_world_model.specs.declared.news.News.{News}
pub use Rattle.channel_world_model.specs.declared.name.HandleKind.TheVariants.{Receiver, Sender, WeakReceiver, WeakSender}
pub use Rattle.channel_world_model.specs.declared.space.Space.{Space}
pub use Rattle.channel_world_model.specs.Answer.{finished, is_finished}
pub use Rattle.channel_world_model.specs.Asked.{drop_asked, giving_up_asked, keeper_in, poll_asked, refusal_asked, stream_of}
pub use Rattle.channel_world_model.specs.Lines.{all_told, told_by_rooms, with_untold}
pub use Rattle.channel_world_model.specs.Refusal.{borrowed_handle, handle_fits, nobody_under_way, planned_refusal, taking_refusal, through_refusal, unfit_handle, unfit_operation, unfit_send, unlike_handles}
pub use Rattle.channel_world_model.specs.declared.plan.Wanted.TheVariants.{Any}
pub use Rattle.channel_world_model.specs.Words.{ListenError, Refused, TryRecvError, TrySendError}
pub use Rattle.channel_world_model.specs.declared.plan.Wanted.{Wanted}
pub use Rattle.channel_world_model.specs.declared.run.Done.{Done as Answered}
pub use Rattle.channel_world_runs.specs.Activity.{activity_after, activity_begun, activity_of, any_close, is_close, role_of}
pub use Rattle.channel_world_runs.specs.AskedBy.{IsOrListens, IsStepOf, listening_first}
pub use Rattle.channel_world_runs.specs.Bookkeeping.{BeginsByName, Starts, asks, handed_over_by, handle_named, installed, leave_handle_of, lent_by, lent_to_poll, mint_asked, names_begun, names_planned, new_from, new_message, on_return_of, operation_named, restored, returns, unpolled, with_operation, written_back}
pub use Rattle.channel_world_runs.specs.Calls.{Agent, agent_of}
pub use Rattle.channel_world_runs.specs.Counted.{Counted, CountsSide, is_closing, is_last_of, is_lowering, is_raising, is_strong, live_on, makes_strong, same_side, strong_lives, tally}
pub use Rattle.channel_world_runs.specs.Left.{calls_of_others, left_of, wanted_of}
pub use Rattle.channel_world_runs.specs.Lone.{BringsWithin, CallsAlone, FinishesAlone, WakesAtMost, name_state_alone, names_alone, order_alone}
pub use Rattle.channel_world_runs.specs.NameTable.{borrowed_more, first_name_table, handed_over, has_finished, held_of, is_at_work, is_done, is_name_pending, is_polled, key_of, names_of, poll_state_with, unused, used_less, used_more, with_borrowed, with_given_back, with_handed_over, with_handle, with_lent, with_poll_state}
pub use Rattle.channel_world_runs.specs.ObservationAt.{all_freed, freed_by, observation_at, unless_told}
pub use Rattle.channel_world_runs.specs.Order.{WakeOrder, all_woken, kept_place, marked_places, no_places, order_begun, order_settled, placed, rested, without_place, woken_last}
pub use Rattle.channel_world_runs.specs.Owed.{IsUnwoken, Observation, Owed, all_unannounced, is_receiving, is_sending, unannounced, woken_on}
pub use Rattle.channel_world_runs.specs.OwnerWoken.{IsAway, IsMarked, IsOwn, IsTold, NeedsPlace, NoneWorks, WokenSound}
pub use Rattle.channel_world_runs.specs.Owners.{AgentFits, All, AllDiffer, AnyOf, Bears, Differ, Holder, HoldsIn, IsAmong, IsListed, NameStatus, NoneListedTwice, NoneTwice, Owned, Suits, Together, WaitsToWake, calling, closer_holds, free, holding, invalid, keys, line_asked, named, no_stream_status, operation_status, polled, purpose_holds, purpose_task, rests, retired, send_status, status, status_by, status_on, stream_status, subject, task_at, wait_of, waits, work_holds, work_task}
pub use Rattle.channel_world_runs.specs.Positions.{accepted_by, brings, came_in, is_one_place, yet, yet_in, yet_tried, yet_worked}
pub use Rattle.channel_world_runs.specs.Reaches.{Reaches, replies_in, replies_of, reply_of}
pub use Rattle.channel_world_runs.specs.Refusal.{again_planned, begin_refusal, step_refusal, takes_again, under_way_in}
pub use Rattle.channel_world_runs.specs.Run.{IsNameStateOf, MayRefuseStep, MayStopAt, NameState, StepIsMade, StopsAt, channel_step, name_state_begun, name_state_ended, with_woken}
pub use Rattle.channel_world_runs.specs.Runs.{ComesNearer, FewLeft, LeadsBy, Moment, RanTo, accepted_in, left_in, moment_of}
pub use Rattle.channel_world_runs.specs.Users.{FewUsers, all_uses, one, times_used}
pub use Rattle.channel_world_runs.specs.Woken.{Hears}
pub use Rattle.channel_world_runs.specs.Words.{Accounts, ActiveCall, Activity, AllZip, Alone, Answers, AwakeIn, Begun, Bool, Busy, Call, CallUnderWay, Channel, ChannelAsk, ChannelStep, Closer, Closings, Configuration, Directory, Entry, Err, Finished, Handle, HandleEntry, HandleId, HandleKind, Idle, Insert, IsPolled, IsRun, Key, KeysHeld, Kind, Leave, List, ListStep, ListenerRef, Listeners, Load, Lower, MarkedMoment, NameTable, Names, Next, NextConfiguration, None, Notice, Ok, OnReturn, Op, OpId, Open, Operation, OperationEntry, Option, OthersQuiet, Outcome, Parts, Party, Phase, Plan, PollState, Purpose, Raise, Receivers, Receives, Register, Reply, Represents, Rests, Result, Returned, Senders, Sends, Some, Stage, State, Step, Stream, Streams, TellAll, TellReceive, TellSend, TellSends, TellStreams, Telling, Trying, UnderWay, WaitList, WaitLists, Waiter, Waiting, Waits, Working, WorldRefusal, [], all_left, at, blocks_after, borrowed_by, clone_asked, cond, count, count_by, displaced, drop, false, filter, held_on, is_among, is_line, is_some, is_taken, keys_of, kin, left_at, length, line_at, line_of, list_any, listeners, lookup, map, min, most_left, most_wanted, nat_eq, nat_lt, new_channel, new_configuration, not, nothing_kept, option_map, option_map_or, option_to_list, own_message, party_left, plan_of, poll_of, refusal, refusal_beside, remove, same_waiter, slice_get, start, takings, tasks_of, times, times_in, true, trying, untold, unwrap_or, upgrade_asked, vec_capacity, vec_len, with_changed, with_handles, with_message, with_new, with_new_operation, with_operation_changed, with_spent, without_name, without_waiter, ℕ}
pub use Rattle.channel_world_runs.specs.declared.world_state.WorldState.{WorldState}
pub use Rattle.channel_world_runs.specs.WorldInvariant.{AllTry, NamesKept, WorldInvariant}
pub use Rattle.channel_world_runs.specs.WorldState.{AreCounted, HasOnePlace, HasPosition, HasPositions, IsQuiet, IsSame, LeadsByStep, LeadsOn, Led, LedByStep, Shown, Stands, StandsIn, activities_of, agents_of, calls_in, lefts_in, name_state_of, observation_of, parties_of, parts_in}
pub use Rattle.channel_world_runs.specs.declared.step.PartyId.{PartyId}
pub use Rattle.channel_world_runs.specs.declared.woken.Woken.{Woken as Sink}
pub use Rattle.channel_world_runs.specs.refinement.Asked.{asked_in, keeper}
pub use Rattle.channel_world_runs.specs.refinement.Over.{CallsAreOver, Matches, given_up_names, held_after, kind_at, made_names, names_after, polled_names, refused_names}
pub use Rattle.channel_world_runs.specs.refinement.Refines.{AreSame, AreTold, AreToldInTurn, AreUntold, IsToldSo, KeysFit, Refines, ShowsLine, ShowsLines, ShowsTold, ShowsUntold, list_of, with_held}
pub use Rattle.channel_world_runs.specs.rest.Lone.{LoneCallsAnswer, NonePolled, PollsAnswer, RefusalsAgree, but_for}
pub use Rattle.channel_world_runs.specs.rest.Rest.{IsWorld, RestIsAWorld, state_at}
