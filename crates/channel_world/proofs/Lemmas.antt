-- The lemmas that the files above most of them cite, passed on with the names of `Words` from one place.
pub use Rattle.channel_world.proofs.Words.{ALineIsAwake, AccountView, ActiveCall, ActiveCallWitness, AddUp, AllAreAwake, AllByRecursion, Alone, Answer, Answers, AreAmple, AreApart, AreByDrops, AreSilent, AreUntold, AwakeIn, BeginByNames, BeginSays, Bool, BringsWithin, Call, CallSays, CallUnderWay, CallsAlone, CallsAtRest, Capacity, Channel, ChannelAsk, ChannelEntry, ChannelStep, Close, ClosedIt, ClosingIsAnswered, Closings, Configuration, CountsAtRest, CountsLive, Directory, Done, Each, EachStep, EndInFront, EndsWithAnswer, Entry, Err, Filled, Finished, Handle, HandleEntry, HandleId, HandleKind, HasAPlace, HasPositions, Holds, IfOk, IfSome, IsAmong, IsQuiet, IsRecording, IsRefused, IsRun, IsTrue, IsUnwoken, IsWorld, Keeps, Key, KeysHeld, Kind, LeadsBy, LeadsOn, LeadsTo, Leave, List, ListenerRef, LoneCallsAnswer, Lower, MadeAsSaid, Mark, MarkedMoment, MayFinish, MayStop, Memory, Message, MessagesAtRest, ModelChannel, Moment, MomentSays, NameState, NameStatus, NameTable, Names, News, Next, NextConfiguration, NoReceiveIsLeft, NoReceivePendsBesideAMessage, NoReceiveSleeps, NoReceiveSleepsBesideAMessage, NoSendIsLeft, NoSendPendsBesideAPlace, NoSendSleeps, NoSendSleepsBesideAPlace, NoStreamIsLeft, NoStreamPendsBesideAMessage, NoStreamSleeps, NoStreamSleepsBesideAMessage, NobodyGoesOn, NobodyIsLeftAtRest, NobodyIsLeftOnAClosed, NobodySleepsOnAClosed, NobodySleepsWhereClosed, None, NoneLackedMemory, Nothing, Obeyed, Ok, Op, OpId, Open, OpenHasBoth, Operation, OperationEntry, Option, Outcome, Owed, Parts, PartyId, Past, Pending, PendingAtRest, Phase, Placed, PollState, Polls, PollsAlone, PollsAnswer, Purpose, QueueCall, RanTo, Ready, Receipt, Receiver, Receivers, Receives, ReceivesAreAnswered, RecordingView, RefusalsAgree, Replies, Reply, RestIsAWorld, Result, Returned, Room, Row, SaysTheEnd, Script, ScriptScene, SeatView, Sender, Senders, Sends, SendsAreAnswered, Settled, Settles, SettlesTo, SettlingIsShort, Shape, Shown, Shut, Side, Snapshot, Some, Spent, Stage, Stands, StandsIn, State, Step, StepSays, Steps, StepsOnce, Stopped, StopsAt, Stream, Streams, StreamsAreAnswered, Table, TellsQuiet, Then, Trying, Unreadable, WaitList, WaitLists, Waiter, Waiting, WakesAtMost, WeakReceiver, WeakSender, WokenAtRest, WokenSound, WorkSays, Working, WorldInvariant, WorldRefusal, WorldState, WorldView, [], absent_counts, accepted_by, accepted_in, account_of, active_call_of, after_news, agents_of, all_brought, all_names, all_seats, all_taken, all_unannounced, among_append, among_counts, among_is, answer, ap, append-nil, append_assoc, appended, are_alike, arith, asks, at, at_rest, begin_refusal, brings, call_begun, call_leads, calls_in, calls_of, came_in, capacity_of, channel_step, closed_in, codes, cond, count, count_all, count_append, count_by, count_by-le-length, count_end, count_first, count_gone, count_gone_one, count_in, count_news, count_of, decided, decimal, does, drop, each_says, end_of, ending, eqb-false, eqb-true, false, few_in, few_passed, filter, first, first_name_state, first_one, first_scene, first_there, followed, found, found_in, found_name, free, free_places, front_stays, goes_on_by, goes_on_empty, gone, held_of, how_many, inl, inr, is_among, is_closing, is_full, is_given_before, is_line, is_lowering, is_pending_on, is_receiving, is_sending, is_some, is_strong, iter_rest, just_opened, key_of, keys_of, late_line, leads_nowhere, leads_on, leads_whatever, led_further, left_after, left_in, length, length-append, length-filter, length-map, line_at, line_of_operation, line_refl, lines_of, list_any, listeners, live, live_on, lookup, ltb-false, ltb-true, map, map-append, messages_in, min, moment_of, most_accepted, most_in, most_polls, most_woken, name_state_alone, name_state_of, names_of, nat_eq, nat_lt, nat_tests, new_configuration, new_stands, no_agents, no_calls, no_line, no_longer, no_parties, none_left, none_twice_times, none_under_way, not_untold, numbers_of, observation_of, one_if, opened, operation_stance, operation_stands, operation_status, option_map, option_map_or, option_to_list, or_true, owed_at, parted, parties_of, parts_in, passed_on, pending_count, pending_on, pending_on_line, phase, poll_awake, poll_of, polls_in, polls_replied, ran_leads, ran_none, readable, refl, refusal, refused_of, replied_by, replied_so_far, reply_text, replying_first, rules, run_ends, run_ends_full, run_so, said, said_line, same_line, same_sound, same_waiter, scene_of, sees, set_elsewhere, set_here, settle_ends, settle_more, settle_text, settled, settled_rest, settles, settling_ends, shape_of, shows, slice_get, slice_get_read, space_of, standing, stands_led, stands_pending, state_at, status, status_by, step_marked, stop_at_end, stop_in_front, stream_stance, stream_stands, stream_status, strong_kind, strong_lives, subst, suc, suc-add, sum_below, sym, take, take_all, takings_of, tally, the_lemmas, times, times_in, to_close, to_lower, today, told_after, told_by, tries_at, true, unannounced, unless_ended, untold, untold_count, vec_capacity, vec_len, view_of, waiting_count, waits, waits_pending, wakes_text, wants_growth, with_given, with_marked, with_messages, with_operation_changed, woken_among, woken_next, woken_of_line, woken_on, zero, zero-add, ℕ, ◌∙◌}
pub use Rattle.channel_world.proofs.CountedCalls.{counted}
pub use Rattle.channel_world.proofs.Few.{few_woken}
pub use Rattle.channel_world.proofs.FewListed.{few_listed, lists_nothing}
pub use Rattle.channel_world.proofs.GrowthLemmas.{is_ample}
pub use Rattle.channel_world.proofs.Leading.{leads_answered, leads_polled, leads_same, leads_still, holds_what_fits}
pub use Rattle.channel_world.proofs.MergeNames.{merges_by_names_are_runs}
pub use Rattle.channel_world.proofs.MergeRow.{begins_by_names, two_clones_by_names}
pub use Rattle.channel_world.proofs.Opening.{at_rest_is, opened_is, inside_is, world_state_of}
pub use Rattle.channel_world.proofs.PartyFacts.{Ended, answer_ends, ended_refused, ended_well, first_of, none_made, none_written, not_silent, once_silent, one_made, party_more, silent_ends, silent_more, some_written, all_made, all_used_up, calls_made, calls_used_up, place_is}
pub use Rattle.channel_world.proofs.RecordLemmas.{calls_snoc, in_order, made_so, nobody_left, none_counted, numbers_snoc, one_recorded, still_recording, sum_is_small, sum_next, told_apart}
pub use Rattle.channel_world.proofs.ScriptLemmas.{GoesOn, followed_more, goes_on, goes_on_first, is_done, opened_fits, refused, stays, stays_by, IsWritten, late_fault, more_written, script_known, script_read, text_of_read, text_unread}
pub use Rattle.channel_world.proofs.Tasks.{closes_nothing, few_tasks, just_it, no_less}
pub use Rattle.channel_world.proofs.Weights.{all_streams, by_one, by_receive, by_send, by_stream, count_more, count_on, fewer_kinds, no_more, on, weight}
