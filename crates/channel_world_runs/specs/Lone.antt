-- A call made alone, from its beginning to its end, by names.
use Rattle.std.specs.Prelude.{◌≡◌, ◌≤◌, ◌+◌, ◌-◌, ◌^◌}
use Rattle.channel_world_runs.specs.Words.{ℕ, min, Bool, false, List, [], drop, length, Reply, Returned, Outcome, Alone, Call, Waiter, Done, Configuration, Begun, NameTable}
use Rattle.channel_world_runs.specs.declared.world_state.WorldState.{WorldState}
use Rattle.std.specs.Global.{Vec}
use Rattle.channel_steps.specs.solo.Ample.{lacks_memory, HasNode}
use Rattle.channel_steps.specs.solo.Configurations.{LoneRun, RunsInConfigurations}
use Rattle.channel_world_runs.specs.Bookkeeping.{asks, on_return_of, names_begun, written_back}
use Rattle.channel_world_runs.specs.WorldState.{name_state_of, parts_in, HasPositions, Shown}
use Rattle.channel_world_runs.specs.WorldInvariant.{WorldInvariant}
use Rattle.channel_world_runs.specs.Order.{WakeOrder, all_woken, order_begun, order_settled}
use Rattle.channel_world_runs.specs.Positions.{accepted_by, brings}
use Rattle.channel_world_runs.specs.Run.{NameState}
use Rattle.channel_world_runs.specs.Woken.{Hears}

module _ {T : Type 0} where
  -- the names after a call that gave this reply and left this
  abbrev pub names_alone : NameTable T → Call T → Reply T → Returned T → NameTable T
  names_alone r c x kept = written_back (on_return_of r c) x kept (names_begun r c)

  -- and the order of waking, where it woke these
  abbrev pub order_alone : NameTable T → Call T → Returned T → List Waiter → WakeOrder → WakeOrder
  order_alone r c kept names order = order_settled (on_return_of r c) kept.key (all_woken (names_begun r c) names (order_begun c order))

  -- the name state after it; nobody is at work
  abbrev pub name_state_alone : NameState T → Call T → Outcome T Waiter → NameState T
  name_state_alone b c o = record {
    name_table = names_alone b.name_table c o.reply o.kept;
    order = order_alone b.name_table c o.kept o.woken b.order;
    agents = [];
  }

  -- A call was made alone, from a configuration that was shown: it asked what it asks given the names and the listeners held, its steps led
  -- from configuration to configuration, its outcome is one of a lone call, and the names after it are what the bookkeeping makes of it.
  pub record Called (c : Call T) (old : WorldState T) (x : Reply T) (names : List Waiter) (new : WorldState T)
      (s : Configuration T Waiter) : Type 0 where
    pub outcome : Outcome T Waiter
    pub after : Configuration T Waiter
    pub alone : Alone (asks old.name_table c) s.now outcome
    pub reply : x ≡ outcome.reply
    pub woken : names ≡ outcome.woken
    pub run : LoneRun s 0 (asks old.name_table c) outcome after
    pub now : after.now ≡ outcome.channel
    pub shown : Shown new after
    pub name_state : name_state_of new ≡ name_state_alone (name_state_of old) c outcome

  -- A call that has begun was made to its end with no other under way: those that it woke stand after the names before, and it has
  -- written back what it had to.
  pub record FinishesAlone (begun : Begun T) (may_bring : Bool) (before : Vec Waiter) (old : WorldState T) (d : Done T) (new : WorldState T) : Type 0 where
    pub kept : Returned T
    pub run : RunsInConfigurations Hears begun.ask (parts_in old) (record { names = before }) old.messages (record { reply = d.reply; kept = kept }) (parts_in new) (record { names = d.woken }) new.messages
    pub ample : HasNode begun.ask (parts_in old) → lacks_memory d.reply ≡ false
    pub name_table : new.name_table ≡ written_back begun.on_return d.reply kept old.name_table
    pub order : new.order ≡ order_settled begun.on_return kept.key (all_woken old.name_table (drop (length before.items) d.woken.items) old.order)
    pub accepted : new.accepted ≡ min (old.accepted + accepted_by may_bring d.reply) (2 ^ 64 - 1)
    pub calls : new.calls ≡ old.calls
    pub place : new.has_one_place ≡ old.has_one_place

  -- in each configuration that is shown and in which all is kept
  abbrev pub CallsAlone : Call T → WorldState T → Reply T → List Waiter → WorldState T → Type 0
  CallsAlone c old x names new = (s : Configuration T Waiter) → Shown old s → WorldInvariant (name_state_of old) s → Called c old x names new s

  -- a call made alone wakes no more than so many
  abbrev pub WakesAtMost : ℕ → Call T → WorldState T → Type 0
  WakesAtMost room c f =
      (s : Configuration T Waiter) (o : Outcome T Waiter) → Shown f s → WorldInvariant (name_state_of f) s
      → Alone (asks f.name_table c) s.now o → length o.woken ≤ room

  -- a call made alone has a position of the queue for the message that it brings in, if it does
  abbrev pub BringsWithin : Call T → WorldState T → Type 0
  BringsWithin c f =
      (s : Configuration T Waiter) (o : Outcome T Waiter) → Shown f s → WorldInvariant (name_state_of f) s
      → Alone (asks f.name_table c) s.now o → HasPositions (accepted_by (brings f.name_table c) o.reply) f
