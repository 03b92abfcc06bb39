-- The names that most files here cite, passed on from one place.
pub use Rattle.std.proofs.Common.{ap, append-nil, append_assoc, arith, cond, inl, inr, length-append, map, slice_index_or, subst, sym, ◌∙◌}
pub use Rattle.std.proofs.lemmas.Bool.{cases_Bool as decided, cond-false, cond-true as chosen_yes, cond_both, false_from_ne_true, or_cases as or_true, or_left, or_parts as or_false, or_right}
pub use Rattle.std.proofs.lemmas.Bool.Decides.{nat_tests}
pub use Rattle.std.proofs.lemmas.Cmp.{nat_eq_equiv}
pub use Rattle.std.proofs.lemmas.List.{length-take, take-append-drop, take_all}
pub use Rattle.std.proofs.lemmas.List.Elements.{filter-append}
pub use Rattle.std.specs.List.{AllByRecursion}
pub use Rattle.std.specs.Map.{keys_of, lookup_entry, remove_entry}
pub use Rattle.std.specs.Option.{option_map}
pub use Rattle.channel_world_model.specs.Answer.{Answer, Found, after_leaving, after_telling, answer, clone_answer, close_answer, closed_poll_answer, displacing, downgrade_answer, drop_answer, drop_one, dropped, first, force_send_answer, found, found_in, give_up_answer, given_up, made, new_answer, news_without_one, next_answer, none_ever, none_yet, one_more, pending, poll_answer, poll_next_answer, poll_refused_answer, recv_many_answer, recv_poll_answer, replying, send_poll_answer, shut, space_of, spent, strong_handles, strong_of, telling_rooms, try_recv_answer, try_send_answer, upgrade_answer, upgrade_to, weak_of, with_strong_handles, without_one}
pub use Rattle.channel_world_model.specs.Awake.{Awake, AwakeIn, Enough, Kind, Placed, times, times_in}
pub use Rattle.channel_world_model.specs.Bounds.{EachDone, says_closed, says_full}
pub use Rattle.channel_world_model.specs.Handles.{HandlesAreCounted, UpgradesAsOpen, is_of, live_of}
pub use Rattle.channel_world_model.specs.Laws.{NobodyIsLeft, accepted, brought_by_call, count_of, free_places, is_line, line_at, line_of_operation, removed, removed_by, same_line, sends_after}
pub use Rattle.channel_world_model.specs.Lines.{Waiting, after_news, after_rooms, at_end, gone, is_among, is_stream, left_after, nobody, passed_on, same_waiter, standing, told_after, told_by, untold, without_waiter}
pub use Rattle.channel_world_model.specs.Names.{Directory, Names, at, borrowed_by, is_taken, lent_once_more, own_message, used_once_less, waits_in, with_changed, with_new, with_new_operation, without_name}
pub use Rattle.channel_world_model.specs.Refusal.{are_alike, refusal}
pub use Rattle.channel_world_model.specs.Refused.{Answers, Lack, answer_without, memory, next_not_polled, not_held, not_listening, not_polled, not_received, not_standing, recv_not_polled, refused, send_not_polled, serials}
pub use Rattle.channel_world_model.specs.Run.{MayBeDone, MayStop, Runs, Stops}
pub use Rattle.channel_world_model.specs.Settling.{NobodyGoesOn, Settles, SettlesTo, pairs, pending_count, poll_of, polls_left}
pub use Rattle.channel_world_model.specs.State.{State, start, with_channel, with_names, with_waiting}
pub use Rattle.channel_world_model.specs.Words.{Bool, Call, Closing, Closings, Done, Err, Filled, Handle, HandleId, HandleKind, IfSome, IsSome, List, Message, ModelChannel, NameTaken, News, NextIn, NoMemory, None, Nothing, Ok, Op, OpId, Open, Operation, Option, Pending, Ready, Receiver, Receives, Reply, Room, Sender, Sends, Shut, Some, Space, Stream, Streams, WaitList, Waiter, WeakReceiver, WeakSender, WorldRefusal, [], appended, drop, false, filter, is_full, is_none, is_some, length, list_any, lookup, nat_eq, nat_lt, not, option_map_or, option_or, option_to_list, refl, set_value, slice_get, suc, take, true, with_messages, zero, ℕ}
