-- The lemmas that the files above most of them cite, passed on with the names of `Words` from one place.
pub use Rattle.channel_world_runs.proofs.Words.{ActiveCall, ActiveCallWitness, Activity, Agent, AgentFits, All, AllDiffer, AllKnown, AllTry, AllZip, AllZip-long, Alone, Answer, Answered, Answers, AnswersClosed, AnswersFor, Any, AnyOf, Append, AreCounted, AreSame, AreTold, AreToldInTurn, AreUntold, Awake, AwakeIn, Bears, Begins, BeginsByName, Begun, Bool, BringsWithin, Busy, Call, CallUnderWay, CallsAlone, CallsAreOver, Channel, ChannelAsk, ChannelEntry, ChannelStep, Close, Closer, Closing, Closings, ComesNearer, Configuration, Continues, Count, Counted, CountsSide, Differ, Directory, EachStep, EachTold, Effect, Ending, Ends, EndsWith, Enough, Entry, Err, FewLeft, FewUsers, Filled, Finished, FinishesAlone, FitsAt, Found, Handle, HandleEntry, HandleId, HandleKind, HasClosed, HasInHand, HasOnePlace, HasPlaces, HasPosition, HasPositions, HasTaken, Hears, Holder, HoldsIn, HoldsListener, Idle, IfOk, Insert, Inserts, IsAmong, IsAway, IsBalanced, IsFor, IsIn, IsInRange, IsListed, IsMarked, IsNameStateOf, IsOrListens, IsOwn, IsPolled, IsQuiet, IsRun, IsSame, IsSending, IsSome, IsStepOf, IsTold, IsToldSo, IsUnwoken, IsWorld, Key, KeysFit, KeysHeld, Kind, Known, Lack, LeadsBy, LeadsByStep, LeadsOn, Leave, Led, LedByStep, List, ListStep, ListenError, ListenerRef, Listeners, Load, LoneCallsAnswer, LoneRun, LooksAgain, Lower, LruCache, Making, Mark, MarkedMoment, Matches, MayBeTold, MayLackRoom, MayRefuseStep, MayStopAt, Message, MessagesAreFew, Moment, Moves, NameState, NameStatus, NameTable, Names, NamesKept, NeedsPlace, News, Next, NextConfiguration, NextIn, NextStep, None, NoneListedTwice, NonePolled, NoneTwice, NoneWorks, Nothing, Notice, Observation, Ok, OnErr, OnReturn, Op, OpId, Open, Operation, OperationEntry, Option, OthersQuiet, Outcome, Owed, Owned, Parts, Party, PartyBegins, PartyId, PartySteps, Phase, Placed, PlacesAreFew, PlainChannel, Plan, Poll, PollState, PollsAnswer, PollsClosing, PollsFor, PollsReceive, PollsSend, PollsStream, Purpose, Queue, QueueAsk, QueueReply, Raise, RanTo, Reaches, Receiver, Receivers, Receives, ReceivesSeveral, Refines, RefusalsAgree, Refused, Register, Replace, Reply, Represents, RestIsAWorld, Rests, Result, Returned, Room, Sender, Senders, Sends, Shown, ShowsLine, ShowsLines, ShowsUntold, Shut, Side, Sink, Some, Space, Stage, StageAt, Stands, StandsIn, State, Step, StepIsMade, Steps, StepsAt, StepsNearer, StopsAt, Stream, Streams, Suits, TakeRoom, TakesRoomFor, TellAll, TellReceive, TellSend, TellSends, TellStreams, Telling, Together, ToldAt, TookAll, Tries, TryAt, TryRecvError, TrySendError, Trying, Turned, UnderWay, Vec, WaitList, WaitLists, Waiter, Waiting, WaitingStep, Waits, WaitsOrGoesOn, WaitsToWake, WakeInvariant, WakeOrder, WakesAtMost, Wanted, WeakReceiver, WeakSender, Where, WokenSound, Worked, Working, Works, WorldInvariant, WorldRefusal, WorldState, [], absent_counts, accepted_by, accepted_in, active_call_of, activities_of, activity_after, activity_begun, activity_of, after-set, after_leaving, after_news, after_rooms, after_step, after_telling, again, agent_of, agents_of, all_freed, all_left, all_of, all_seats, all_told, all_unannounced, all_uses, all_woken, among_counts, among_self, among_take, answer_without, answered_next, answers, any_close, ap, append-nil, append_assoc, appended, arith, asked_in, asks, asks_first, at, at_seen, awake_after, awake_without_stream, begin_refusal, blocks_after, blocks_begun, borrowed_by, borrowed_more, brings, brought, brought_in, but_for, call_begun as begun_active_call, calling, calls_in, calls_of_others, capacity_of, channel_step, chosen_no, clone_answer, clone_asked, closed_in, closed_poll_answer, closer_ending, closes, common_steps, cond, count, count_append, count_by, count_of, counted, counts_for_receives, counts_for_sends, decided, demoted, derived_is, displaced, displacing, does, down, downgrade_answer, drop, drop_answer, drop_asked, dropped, dropper, dropping, drops, empty_gone, empty_news, end_of, ends, ends_by, entry_is, eq-eqb, false, false_from_ne_true, few_left, filter, filter-append, finished, first, first_apart, first_name_table, force_send_answer, force_sends, found, found_name, free, free_places, freed_by, get-map, get-set, give_up_answer, given_up, given_up_names, gives_up, giving_up_asked, gone, handed_over, handed_over_by, handle_fits, handle_named, has_appended, has_displaced, has_finished, has_taken, held_after, held_of, held_on, hold_still, holding, inl, inr, installed, invalid, is_among, is_at_work, is_close, is_closing, is_done, is_filled, is_finished, is_full, is_full_at, is_line, is_lowering, is_made, is_name_pending, is_on_its_way, is_one_place, is_polled, is_raised, is_raising, is_receiving, is_refused, is_sending, is_some, is_stream, is_strong, is_taken, is_to_tell_receive, is_to_tell_send, is_trying, is_trying_anew, keeper, keeper_in, key_of, keys, keys_of, keys_without, kin, kind_at, kind_of, leave_handle_of, leaves, leaving, left_after, left_among, left_at, left_by, left_in, left_nowhere, left_of, lefts_in, length, length-append, length-map, length-set_value, lent_by, lent_once_more, lent_to_poll, line_asked, line_at, line_of, line_of_operation, line_refl, line_sound, list_any, list_of, listened, listeners, listens, live_on, loaded_next, lookup, lookup_entry, lowered_next, lowers, made, made_names, makes_strong, map, map-after, map-append, marked_places, memory, messages_counted, messages_moved, min, moment_of, more_of, most_left, most_wanted, moved, name_state_alone, name_state_begun, name_state_ended, name_state_of, named, names_after, names_alone, names_begun, names_of, names_planned, nat_eq, nat_eq_equiv, nat_lt, nat_tests, ne_eqb, new_answer, new_configuration, new_from, new_message, news_without_one, next_answer, next_not_polled, no_places, no_stream_status, nobody_under_way, none_ever, none_left, none_yet, not, not_held, not_polled, not_standing, nothing_kept, nothing_to_end, notified, observation_at, observation_of, of_closing, of_message, of_room, on_count, on_line, on_return_of, one, one_of, operation_named, operation_status, option_map, option_map_or, option_to_list, or_false, or_right, or_true, order_alone, order_begun, order_settled, over, over_queue, owed_besides, owed_for, owed_takings, own_message, parties_in, parties_of, parts_in, parts_of, party_left, passed, passed_on, passed_wakes, pending, pends_by, phase, placed, placed_gone, placed_news, plan_of, poll_answer, poll_asked, poll_awake, poll_next_answer, poll_of, poll_refused_answer, poll_state_with, polled, polled_names, put_entries, queued, raised_next, receives, receives_by, receives_several, receives_these, recv_many_answer, recv_not_polled, recv_poll_answer, refl, refusal, refusal_asked, refusal_beside, refused, refused_names, refused_reply, registers, registration, remove, remove_entry, removed, removed_wakes, reply_of, replying, rest_apart, rested, restored, rests, retired, returns, role_of, room_next, roomless, rules, run_none, run_on, same_key, same_line, same_number, same_refl, same_side, same_sound, same_symm, same_waiter, says, says_only, second_reason, sees, send_not_polled, send_poll_answer, sends, serials, set_elsewhere, set_value, set_value_same, shows, shut, slice_get, slice_get_read, slice_get_within, slice_index_or, slice_set, space_of, standing, state_at, status, status_by, status_on, step_refusal, steps_by, stream_of, stream_status, strong_lives, strong_of, subject, subst, suc, sum_by-cons, sym, take, take_all, taken, taken_out, takings, tally, task_at, tasks_of, telling, tells_all, tells_one, times, times_gone_self, times_in, times_news, times_used, told_after, told_all, told_all_next, told_all_wakes, told_as, told_by, told_by_rooms, told_more, told_more_wakes, told_of, told_one, told_one_wakes, told_with, total, true, try_recv_answer, try_send_answer, trying, unannounced, under_way_in, unless_ended, unless_told, unlistened, unpolled, untaken, untold, untold_gone, untouched, unused, unwrap_or, up, upgrade_answer, upgrade_asked, used_less, used_more, used_once_less, vec_capacity, vec_len, wait_of, waits, waits_as, waits_in, wanted_at, wanted_of, weak_of, with_borrowed, with_changed, with_channel, with_count, with_given_back, with_handed_over, with_handle, with_held, with_lent, with_listeners, with_marked, with_message, with_messages, with_new, with_new_operation, with_operation, with_operation_changed, with_poll_state, with_spent, with_taking, with_task, with_untold, with_waiting, with_woken, without as unlisted, without_absent, without_name, without_one, without_place, without_waiter, woken_by_steps, woken_last, woken_on, work_holds, work_task, written_back, yet_in, zero, ℕ, ◌∙◌}
pub use Rattle.channel_world_runs.proofs.AccountFacts.{accounts_both, next_accounts, no_accounts, run_accounts}
pub use Rattle.channel_world_runs.proofs.AskFacts.{of_cloned, of_given_up, of_polls, of_refused, of_upgraded}
pub use Rattle.channel_world_runs.proofs.AskStarts.{Starts, ask_holds, asks_lowering, asks_raising, holds_same, line_held, line_waits, lowering_same, raising_same, starts, waits_same}
pub use Rattle.channel_world_runs.proofs.BeginFacts.{handle_is, mints, operation_is}
pub use Rattle.channel_world_runs.proofs.CallFacts.{agents_kept, none_read}
pub use Rattle.channel_world_runs.proofs.CountNames.{bit, borrowed_live, handed_over_live, lent_live, poll_state_live, settled_live, spent_live, without_live}
pub use Rattle.channel_world_runs.proofs.OwedConfigurations.{OwedIn, at_it, to_send}
pub use Rattle.channel_world_runs.proofs.OwnerBegins.{Admitted, IsBusy, IsFitting, IsLoose, Keeps, Ordered, Quiet, Sane, Touches, admitted, find, held_in, held_is, key_is, loose_is, op_is, polls, polls_with, seen_is}
pub use Rattle.channel_world_runs.proofs.OwnerEnds.{Comes, IsCalm, IsLeft, Settles, carries, settles}
pub use Rattle.channel_world_runs.proofs.OwnerKeys.{IsGone, at_most_one, few, kind_none, on, one_tag, removed_as, removed_names, same_many, units}
pub use Rattle.channel_world_runs.proofs.OwnerLists.{among_left, among_of, among_right, key_stays, none_parts, same_is, same_self}
pub use Rattle.channel_world_runs.proofs.OwnerNames.{Same, Sets, borrowed_same, differ, handed_over_same, handle_changed, handle_entry_status, handle_none, handle_set, handle_spent, lent_same, number_or, op_set, op_spent, op_status, own_number, same_both, set_other, set_there, sets_same, waiter_or}
pub use Rattle.channel_world_runs.proofs.OwnerOrderNames.{Begins as BeginsOrder, all_come, all_once, all_placed, all_stay, all_there, among_is, begins_placed, begins_removed, begins_same, in_last, is_out, is_there, next, settled_back, settled_keeps, settled_once, settled_places, settled_woken, stays_among}
pub use Rattle.channel_world_runs.proofs.OwnerTurns.{Has, MayBear, Stays, answered_has, ends_has, loaded_has, lowered_has, raised_has, room_has, told_all_has}
pub use Rattle.channel_world_runs.proofs.PlaceFacts.{brought_most, came_most, counted_alone, no_message}
pub use Rattle.channel_world_runs.proofs.PositionFacts.{begin_brings, step_brings, yet_most}
pub use Rattle.channel_world_runs.proofs.ReachesFacts.{lone_way, no_way, ways_on}
pub use Rattle.channel_world_runs.proofs.RefusalLemmas.{handle_there, handle_through, operation_at, polling_seen}
pub use Rattle.channel_world_runs.proofs.ResultFacts.{ok_where_some, on_ok, value_is}
pub use Rattle.channel_world_runs.proofs.ShownFacts.{balanced_in, capacity_is, has_position, in_range, one_slot}
pub use Rattle.channel_world_runs.proofs.WokenFacts.{all_heard, drop_front, few_woken, room_stays}
pub use Rattle.channel_world_runs.proofs.refinement.Entries.{OnlyHolder, none_told, none_untold, some_told, tasks_are, told_closed, told_found, told_holds, told_missed, told_without, untold_first, untold_found, untold_missed, untold_without, zip_append}
pub use Rattle.channel_world_runs.proofs.refinement.Handles.{clones_so, kind_of_side, renames, same_count, same_kinds, shows_count, shows_handles, upgrades_so}
pub use Rattle.channel_world_runs.proofs.refinement.Matching.{matching, shows_again, shows_moved}
pub use Rattle.channel_world_runs.proofs.refinement.Names.{AllOf, among_its_line, among_of_line, not_of_line, of_line_without}
pub use Rattle.channel_world_runs.proofs.refinement.Standing.{Nowhere, away_holds_none, gone_nowhere, keyless_nowhere, keys_gone, kindless_nowhere, nowhere_gone, nowhere_keyless, rekeyed_lines, rekinded_keys, rekinded_lines, same_of, times_of_line, times_untold, with_other, with_own}
pub use Rattle.channel_world_runs.proofs.refinement.Telling.{Lined, all_are_told, closing_is, first_tasks, lined_all, lined_next, message_is, next_line, next_other, one_told, one_woken, others_woken, quiet_line, replaced, unmoved}
pub use Rattle.channel_world_runs.proofs.rest.LoneDirectory.{changed_at, changed_none, changed_some, changed_twice, same_put_back, views_changed, views_kept, views_set}
pub use Rattle.channel_world_runs.proofs.rest.Names.{Pends, holds_it, line_is, pends, same_held}
