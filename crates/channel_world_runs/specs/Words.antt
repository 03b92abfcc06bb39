-- The names from below that most files here cite, passed on from one place.
pub use Rattle.std.specs.List.{AllZip, count_by, remove}
pub use Rattle.std.specs.Map.{keys_of}
pub use Rattle.std.specs.Option.{option_map}
pub use Rattle.std.specs.Prelude.{Result, cond, map, min, unwrap_or, vec_capacity, vec_len}
pub use Rattle.concurrent_queue.specs.Queue.{Phase, displaced, trying}
pub use Rattle.event_listener.specs.Lists.{Notice, tasks_of}
pub use Rattle.event_listener.specs.declared.key.Key.{Key}
pub use Rattle.channel_calls.specs.Moves.{Channel, new_channel}
pub use Rattle.channel_calls.specs.Parts.{Listeners, Parts, WaitLists, count, listeners}
pub use Rattle.channel_calls.specs.Turns.{held_on, line_of, nothing_kept}
pub use Rattle.channel_calls.specs.declared.ask.ChannelAsk.{ChannelAsk}
pub use Rattle.channel_calls.specs.declared.stage.Closer.{Closer}
pub use Rattle.channel_calls.specs.declared.stage.ListStep.{ListStep}
pub use Rattle.channel_calls.specs.declared.stage.ListStep.TheVariants.{Insert, Leave, Load, Lower, Raise, Register, TellAll, TellReceive, TellSend, TellSends, TellStreams}
pub use Rattle.channel_calls.specs.declared.stage.ListenerRef.{ListenerRef}
pub use Rattle.channel_calls.specs.declared.stage.Purpose.{Purpose}
pub use Rattle.channel_calls.specs.declared.stage.Returned.{Returned}
pub use Rattle.channel_calls.specs.declared.stage.Side.TheVariants.{Receivers, Senders}
pub use Rattle.channel_calls.specs.declared.stage.Stage.{Stage}
pub use Rattle.channel_calls.specs.declared.stage.Stage.TheVariants.{Finished, Trying, Working}
pub use Rattle.channel_steps.specs.Configuration.{ActiveCall, Configuration, OthersQuiet, Represents, blocks_after}
pub use Rattle.channel_steps.specs.Left.{all_left, left_at, most_left, most_wanted, party_left}
pub use Rattle.channel_steps.specs.Moments.{MarkedMoment, Open}
pub use Rattle.channel_steps.specs.Run.{Accounts, IsRun, Next, NextConfiguration, Touches, new_configuration}
pub use Rattle.channel_steps.specs.Tellings.{Telling, takings}
pub use Rattle.channel_steps.specs.declared.party.Party.{Party}
pub use Rattle.channel_steps.specs.declared.run.Step.{Step as ChannelStep}
pub use Rattle.channel_steps.specs.solo.Alone.{Alone, Outcome}
pub use Rattle.channel_world_model.specs.Asked.{KeysHeld, asked, clone_asked, upgrade_asked}
pub use Rattle.channel_world_model.specs.Awake.{AwakeIn, Kind, times, times_in}
pub use Rattle.channel_world_model.specs.Laws.{is_line, line_at}
pub use Rattle.channel_world_model.specs.Lines.{Waiting, is_among, same_waiter, untold, without_waiter}
pub use Rattle.channel_world_model.specs.Names.{Directory, Names, at, borrowed_by, is_taken, new_operation, own_message, with_changed, with_handles, with_message, with_new, with_new_operation, with_operation_changed, with_spent, without_name, without_operation}
pub use Rattle.channel_world_model.specs.Plan.{kin, plan_of}
pub use Rattle.channel_world_model.specs.Refusal.{UnderWay, refusal, refusal_beside}
pub use Rattle.channel_world_model.specs.Refused.{Answers}
pub use Rattle.channel_world_model.specs.Settling.{poll_of}
pub use Rattle.channel_world_model.specs.State.{State, start}
pub use Rattle.channel_world_model.specs.Words.{Bool, Closings, Err, List, None, Ok, Option, Receives, Reply, Sends, Some, Streams, WaitList, [], drop, false, filter, is_some, length, list_any, lookup, nat_eq, nat_lt, not, option_map_or, option_to_list, slice_get, true, ℕ}
pub use Rattle.channel_world_model.specs.declared.call.Call.{Call}
pub use Rattle.channel_world_model.specs.declared.run.Done.{Done}
pub use Rattle.channel_world_model.specs.declared.name.Handle.{Handle}
pub use Rattle.channel_world_model.specs.declared.name.HandleId.{HandleId}
pub use Rattle.channel_world_model.specs.declared.name.HandleKind.{HandleKind}
pub use Rattle.channel_world_model.specs.declared.name.Waiter.TheVariants.{Op, Stream}
pub use Rattle.channel_world_model.specs.declared.name.OpId.{OpId}
pub use Rattle.channel_world_model.specs.declared.name.Operation.{Operation}
pub use Rattle.channel_world_model.specs.declared.plan.Plan.{Plan}
pub use Rattle.channel_world_model.specs.declared.name.Waiter.{Waiter}
pub use Rattle.channel_world_model.specs.declared.refusal.WorldRefusal.{WorldRefusal}
pub use Rattle.channel_world_model.specs.declared.refusal.WorldRefusal.TheVariants.{Busy, Idle, NoMemory}
pub use Rattle.channel_world_runs.specs.declared.activity.Activity.{Activity}
pub use Rattle.channel_world_runs.specs.declared.activity.Role.{Role}
pub use Rattle.channel_world_runs.specs.declared.activity.Role.TheVariants.{Other, Receiving, Sending}
pub use Rattle.channel_world_runs.specs.declared.beginning.Begun.{Begun}
pub use Rattle.channel_world_runs.specs.declared.calls.CallUnderWay.{CallUnderWay}
pub use Rattle.channel_world_runs.specs.declared.name_table.NameTable.{NameTable}
pub use Rattle.channel_world_runs.specs.declared.names.HandleEntry.{HandleEntry}
pub use Rattle.channel_world_runs.specs.declared.names.OnReturn.{OnReturn}
pub use Rattle.channel_world_runs.specs.declared.names.OperationEntry.{OperationEntry}
pub use Rattle.channel_world_runs.specs.declared.names.PollState.{PollState}
pub use Rattle.channel_world_runs.specs.declared.names.PollState.TheVariants.{IsPolled, Rests, Waits}
pub use Rattle.channel_world_runs.specs.declared.step.Entry.{Entry}
pub use Rattle.channel_world_runs.specs.declared.step.Step.{Step}
