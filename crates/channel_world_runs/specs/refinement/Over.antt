-- A call of a channel that is alone does what the model says of the same call.
use Rattle.std.specs.Prelude.{◌≡◌, ◌++◌}
use Rattle.channel_world_runs.specs.Words.{List, Option, None, Some, option_map, option_map_or, Key, Channel, Reply, Outcome, Alone, AwakeIn, without_waiter, Names, at, with_new, with_spent, with_handles, with_new_operation, with_operation_changed, without_operation, refusal, Answers, State, Call, Handle, HandleId, HandleKind, OpId, Operation, Waiter, KeysHeld}
use Rattle.channel_world_model.specs.Answer.{Answer, weak_of, strong_of}
use Rattle.channel_world_model.specs.Names as names
use Rattle.channel_world_runs.specs.refinement.Asked.{asked_in, keeper}
use Rattle.channel_world_runs.specs.refinement.Refines.{Refines, with_held}

module _ {T : Type 0} where
  -- ---- what becomes of the names

  -- a send has the message that its poll left to it
  abbrev pub polled_names : OpId → Option (Operation T) → Option T → Names T → Names T
  polled_names op (Some (Operation.Send handle (Some m))) left names = with_operation_changed op (Operation.Send handle left) names
  polled_names op operation left names = names

  abbrev pub refused_names : OpId → Option (Operation T) → Option T → Names T → Names T
  refused_names op (Some (Operation.Send handle msg)) left names = with_operation_changed op (Operation.Send handle left) names
  refused_names op operation left names = names

  abbrev pub given_up_names : OpId → Option (Operation T) → Names T → Names T
  given_up_names op (Some operation) names = without_operation op operation names
  given_up_names op None names = names

  -- the new name is taken; a handle of this kind lives under it, if it was made
  abbrev pub made_names : HandleId → Option HandleKind → Reply T → Names T → Names T
  made_names new (Some kind) Reply.Made names = with_handles (with_new new.0 (record { kind = kind; borrowers = 0 }) names.handles) names
  made_names new kind r names = with_handles (with_spent new.0 names.handles) names

  abbrev pub kind_at : HandleId → Names T → Option HandleKind
  kind_at handle names = option_map (λ (h : Handle). h.kind) (at handle.0 names.handles)

  abbrev pub names_after : State T → Call T → Outcome T Waiter → Names T
  names_after s (Call.NewSend op sender msg) o = with_new_operation op (Operation.Send sender (Some msg)) s.names
  names_after s (Call.NewRecv op receiver) o = with_new_operation op (Operation.Receive receiver) s.names
  names_after s (Call.NewClosed op sender) o = with_new_operation op (Operation.Closing sender) s.names
  names_after s (Call.Poll op) o = polled_names op (at op.0 s.names.operations) o.kept.message s.names
  names_after s (Call.PollRefused op) o = refused_names op (at op.0 s.names.operations) o.kept.message s.names
  names_after s (Call.GiveUp op) o = given_up_names op (at op.0 s.names.operations) s.names
  names_after s (Call.Drop handle) o = with_handles (names.without_name handle.0 s.names.handles) s.names
  names_after s (Call.TryClone handle new) o = made_names new (kind_at handle s.names) o.reply s.names
  names_after s (Call.Downgrade handle new) o = made_names new (option_map weak_of (kind_at handle s.names)) o.reply s.names
  names_after s (Call.Upgrade weak new) o = made_names new (option_map strong_of (kind_at weak s.names)) o.reply s.names
  names_after s c o = s.names

  -- ---- and of those that wait

  -- the keys held after a call that left this one to its keeper
  abbrev pub held_after : State T → Call T → Option Key → KeysHeld → KeysHeld
  held_after s c key held = option_map_or (λ (w : Waiter). with_held w key held) (keeper s c) held

  -- those woken are told after all that were before; a call's own operation or stream is told no more
  abbrev pub woken_after : State T → Call T → Outcome T Waiter → List Waiter
  woken_after s c o = let told = s.waiting.woken ++ o.woken in option_map_or (λ (w : Waiter). without_waiter w told) (keeper s c) told

  -- what the channel answered, the names that it woke, in order, and what it is now, are as the model may answer this call; the names and
  -- those that are told are then these
  pub record Matches (held : KeysHeld) (s : State T) (c : Call T) (o : Outcome T Waiter) : Type 0 where
    pub answer : Answer T
    pub allowed : Answers s c answer
    pub reply : o.reply ≡ answer.reply
    pub woken : o.woken ≡ answer.woken
    pub shows : Refines (held_after s c o.kept.key held) o.channel answer.after
    pub names : answer.after.names ≡ names_after s c o
    pub told : answer.after.waiting.woken ≡ woken_after s c o

-- From any channel that shows a state in which nobody is left asleep, all that a call may do alone the model allows, if it
-- doesn't refuse the call.
abbrev pub CallsAreOver : Type 0 → Type 0
CallsAreOver T =
    (c : Call T) (held : KeysHeld) (channel : Channel T Waiter) (s : State T) (o : Outcome T Waiter)
    → refusal s c ≡ None → Refines held channel s → AwakeIn s → Alone (asked_in held s c) channel o → Matches held s c o
