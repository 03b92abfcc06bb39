-- The names from below that most files here cite, passed on from one place.
pub use Rattle.std.specs.Coded.{Coded, code_by, coded_list, coded×}
pub use Rattle.std.specs.List.{list_all, repeat}
pub use Rattle.std.specs.Prelude.{codes, ◌/◌}
pub use Rattle.concurrent_queue.specs.Capacity.{capacity_of}
pub use Rattle.concurrent_queue.specs.declared.cells.QueueForm.{QueueForm}
pub use Rattle.channel_calls.specs.declared.ask.ChannelAsk.TheVariants.{CloneHandle, DropReceiver, DropSender}
pub use Rattle.channel_calls.specs.declared.stage.Side.{Side}
pub use Rattle.channel_calls.specs.declared.whole.Completed.{Completed}
pub use Rattle.channel_steps.specs.Configuration.{EndsInTime, brought, came_by, does, gone_by, sees, unless_ended}
pub use Rattle.channel_steps.specs.Moments.{LeftLast, Shut, Spent, with_marked}
pub use Rattle.channel_steps.specs.Run.{EachStep, call_begun}
pub use Rattle.channel_steps.specs.declared.party.Entry.{Entry as ChannelEntry}
pub use Rattle.channel_steps.specs.every_run.Bridge.{Happening, MergeMoment, just_opened, steps_of}
pub use Rattle.channel_steps.specs.every_run.BridgeHeadline.{KeepsTheHeadline}
pub use Rattle.channel_steps.specs.every_run.BridgeRow.{two_clones}
pub use Rattle.channel_steps.specs.every_run.Ends.{Each, GivesMessage, IsStill, Replies, SaysTheEnd}
pub use Rattle.channel_steps.specs.every_run.Marked.{AddUp, brought_by, marked, plain}
pub use Rattle.channel_world_model.specs.Answer.{Answer, answer}
pub use Rattle.channel_world_model.specs.Laws.{NobodyIsLeft, brought_by_call, removed_by, same_line, sends_after, woken_of_line}
pub use Rattle.channel_world_model.specs.Settling.{SettlesTo, pending_count}
pub use Rattle.channel_world_model.specs.Words.{IfSome, ModelChannel, is_none, option_or, refl, suc, take, zero}
pub use Rattle.channel_world_model.specs.declared.run.Stopped.{Stopped}
pub use Rattle.channel_world_language.specs.Language.{Language, today}
pub use Rattle.channel_world_language.specs.Text.{refused_text, reply_text, settle_text, wakes_text, wants_growth}
pub use Rattle.channel_world_runs.specs.AskedBy.{IsOrListens, IsStepOf}
pub use Rattle.channel_world_runs.specs.Bookkeeping.{asks}
pub use Rattle.channel_world_runs.specs.Counted.{is_closing, is_lowering, tally}
pub use Rattle.channel_world_runs.specs.Left.{calls_of_others, left_of, wanted_of}
pub use Rattle.channel_world_runs.specs.NameTable.{first_name_table, names_of}
pub use Rattle.channel_world_runs.specs.ObservationAt.{observation_at}
pub use Rattle.channel_world_runs.specs.Owed.{IsUnwoken, Observation, Owed, woken_on}
pub use Rattle.channel_world_runs.specs.Owners.{All, IsAmong, NameStatus, operation_status, status, status_by, stream_status, waits}
pub use Rattle.channel_world_runs.specs.Pending.{how_many, stands_pending}
pub use Rattle.channel_world_runs.specs.Refusal.{begin_refusal, step_refusal}
pub use Rattle.channel_world_runs.specs.Run.{IsNameStateAfter, IsNameStateOf, MayRefuseStep, NameState, StopsAt, name_state_begun}
pub use Rattle.channel_world_runs.specs.Runs.{Moment}
pub use Rattle.channel_world_runs.specs.Words.{ActiveCall, Answers, Bool, ChannelAsk, ChannelStep, Configuration, Err, IsRun, List, MarkedMoment, Next, NextConfiguration, None, Ok, Option, OthersQuiet, Parts, Receivers, Receives, Reply, Result, Returned, Senders, Sends, Some, State, Streams, WaitList, WaitLists, Waiting, [], blocks_after, cond, count, count_by, false, is_among, is_some, length, list_any, map, min, most_left, nat_lt, new_configuration, not, option_map_or, poll_of, refusal, slice_get, start, true, untold, ℕ}
pub use Rattle.channel_world_model.specs.declared.call.Call.{Call}
pub use Rattle.channel_world_runs.specs.declared.step.Entry.{Entry}
pub use Rattle.channel_world_runs.specs.declared.name_table.NameTable.{NameTable}
pub use Rattle.channel_world_model.specs.declared.name.Waiter.TheVariants.{Op, Stream}
pub use Rattle.channel_world_runs.specs.declared.step.Step.{Step}
pub use Rattle.channel_world_model.specs.declared.name.Waiter.{Waiter}
pub use Rattle.channel_world_model.specs.declared.refusal.WorldRefusal.{WorldRefusal}
pub use Rattle.channel_world_runs.specs.declared.world_state.WorldState.{WorldState}
pub use Rattle.channel_world_runs.specs.declared.step.PartyId.{PartyId}
pub use Rattle.channel_world.specs.declared.recorded.receipt.Receipt.{Receipt}
pub use Rattle.channel_world.specs.declared.script.end.ScriptEnd.{ScriptEnd}
pub use Rattle.channel_world.specs.declared.script.end.ScriptEnd.TheVariants.{Capacity, Done, Fault, Memory, Unreadable}
pub use Rattle.channel_world.specs.declared.settle.Settled.{Settled}
