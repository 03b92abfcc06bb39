-- A call that is made alone on a channel at rest: what it leaves is what the model says.
use Rattle.std.specs.Prelude.{◌≡◌}
use Rattle.channel_world_runs.specs.Words.{true, List, [], Option, None, Some, WaitList, Outcome, Alone, NameTable, is_among, without_waiter, Answers, poll_of, Call, Waiter, Configuration}
use Rattle.channel_world_runs.specs.Bookkeeping.{asks}
use Rattle.channel_world_runs.specs.WorldInvariant.{WorldInvariant}
use Rattle.channel_world_runs.specs.Lone.{name_state_alone}
use Rattle.channel_world_runs.specs.Owners.{polled, status}
use Rattle.channel_world_runs.specs.Refusal.{begin_refusal}
use Rattle.channel_world_runs.specs.Run.{NameState}
use Rattle.channel_world_model.specs.Refusal as model
use Rattle.channel_world_runs.specs.rest.Rest.{state_at}

-- the names, without one if there is one
abbrev pub but_for : Option Waiter → List Waiter → List Waiter
but_for None ws = ws
but_for (Some w) ws = without_waiter w ws

module _ {T : Type 0} where
  -- no poll is under way
  abbrev pub NonePolled : NameTable T → Type 0
  NonePolled r = (w : Waiter) (line : WaitList) → status r w ≡ polled line → ⊥

-- if nobody is at work, the model refuses what is refused by names, for the same reason
abbrev pub RefusalsAgree : Type 0 → Type 0
RefusalsAgree T =
    (b : NameState T) (s : Configuration T Waiter) (c : Call T) → WorldInvariant b s → b.agents ≡ []
    → begin_refusal b.name_table c ≡ model.refusal (state_at b s) c

-- If nobody is at work, a call that is not refused and is made alone answers as the model may; the names, the order of waking
-- and the channel after it are the model's state after it.
abbrev pub LoneCallsAnswer : Type 0 → Type 0
LoneCallsAnswer T =
    (b : NameState T) (s t : Configuration T Waiter) (c : Call T) (o : Outcome T Waiter)
    → WorldInvariant b s → b.agents ≡ [] → s.under_way ≡ [] → begin_refusal b.name_table c ≡ None
    → Alone (asks b.name_table c) s.now o → t.now ≡ o.channel
    → Answers (state_at b s) c (record { after = state_at (name_state_alone b c o) t; reply = o.reply; woken = o.woken })

-- With no call under way, each name that is pending and was woken may be polled alone, a stream also while a live operation borrows its
-- receiver: the poll answers as the model may, and the names, the order of waking and the channel after it are the model's state
-- after it.
abbrev pub PollsAnswer : Type 0 → Type 0
PollsAnswer T =
    (b : NameState T) (s t : Configuration T Waiter) (w : Waiter) (o : Outcome T Waiter)
    → WorldInvariant b s → b.agents ≡ [] → s.under_way ≡ [] → is_among w b.order.woken ≡ true
    → Alone (asks b.name_table (poll_of w)) s.now o → t.now ≡ o.channel
    → Answers (state_at b s) (poll_of w)
    (record { woken = o.woken; after = state_at (name_state_alone b (poll_of w) o) t; reply = o.reply })
