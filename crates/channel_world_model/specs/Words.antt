-- The names from below that most files here cite, passed on from one place.
pub use Rattle.std.specs.List.{filter, list_any}
pub use Rattle.std.specs.Map.{lookup, set_value}
pub use Rattle.std.specs.Option.{option_map_or, option_or, option_to_list}
pub use Rattle.std.specs.Prelude.{Bool, Err, IfSome, IsSome, List, None, Ok, Option, Some, [], drop, false, if◌then◌else◌, is_none, is_some, length, nat_eq, nat_lt, not, refl, slice_get, suc, take, true, zero, ℕ, ◌&&◌, ◌*◌, ◌++◌, ◌+◌, ◌-◌, ◌<◌, ◌==◌, ◌^◌, ◌||◌, ◌∷◌, ◌≡◌, ◌≤◌, ◌⊎◌}
pub use Rattle.futures.specs.declared.task.Poll.TheVariants.{Pending, Ready}
pub use Rattle.event_listener.specs.declared.error.ListenError.{ListenError}
pub use Rattle.channel_calls.specs.Errors.{handed_back, try_handed_back, unsent, was_full}
pub use Rattle.channel_calls.specs.Model.{ModelChannel, appended, is_full, opened_model, with_messages}
pub use Rattle.channel_calls.specs.declared.error.Refused.{Refused}
pub use Rattle.channel_calls.specs.declared.error.Refused.TheVariants.{NoMemory, Plain, SerialsUsedUp}
pub use Rattle.channel_calls.specs.declared.error.TryRecvError.{TryRecvError}
pub use Rattle.channel_calls.specs.declared.error.TrySendError.{TrySendError}
pub use Rattle.channel_calls.specs.declared.reply.Reply.{Reply}
pub use Rattle.channel_calls.specs.declared.stage.WaitList.{WaitList}
pub use Rattle.channel_calls.specs.declared.stage.WaitList.TheVariants.{Closings, Receives, Sends, Streams}
pub use Rattle.channel_world_model.specs.declared.call.Call.{Call}
pub use Rattle.channel_world_model.specs.declared.name.Handle.{Handle}
pub use Rattle.channel_world_model.specs.declared.name.HandleId.{HandleId}
pub use Rattle.channel_world_model.specs.declared.name.HandleKind.{HandleKind}
pub use Rattle.channel_world_model.specs.declared.name.HandleKind.TheVariants.{Receiver, Sender, WeakReceiver, WeakSender}
pub use Rattle.channel_world_model.specs.declared.name.OpId.{OpId}
pub use Rattle.channel_world_model.specs.declared.name.Operation.{Operation}
pub use Rattle.channel_world_model.specs.declared.name.OperationKind.{OperationKind}
pub use Rattle.channel_world_model.specs.declared.name.Waiter.{Waiter}
pub use Rattle.channel_world_model.specs.declared.name.Waiter.TheVariants.{Op, Stream}
pub use Rattle.channel_world_model.specs.declared.news.News.{News}
pub use Rattle.channel_world_model.specs.declared.news.News.TheVariants.{Closing, Message, NextIn, Nothing, Room}
pub use Rattle.channel_world_model.specs.declared.plan.Plan.{Plan}
pub use Rattle.channel_world_model.specs.declared.plan.Plan.TheVariants.{Asks, Drops, GivesUp, Makes, Mints, Polls, Through, ThroughBoth}
pub use Rattle.channel_world_model.specs.declared.plan.Wanted.TheVariants.{Any, Strong, Weak}
pub use Rattle.channel_world_model.specs.declared.refusal.WorldRefusal.{WorldRefusal}
pub use Rattle.channel_world_model.specs.declared.refusal.WorldRefusal.TheVariants.{Borrowed, NameTaken, OpUnderWay, UnknownName, WrongKind}
pub use Rattle.channel_world_model.specs.declared.run.Done.{Done}
pub use Rattle.channel_world_model.specs.declared.space.Space.{Space}
pub use Rattle.channel_world_model.specs.declared.space.Space.TheVariants.{Filled, Open, Shut}
