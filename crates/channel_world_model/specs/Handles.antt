-- What the counts of a channel count, and when an upgrade gives a handle: over all runs of calls, one at a time.
use Rattle.std.specs.Prelude.{◌≡◌, ◌⊎◌, ◌≤◌, ◌<◌, ◌-◌, ◌^◌}
use Rattle.channel_world_model.specs.Words.{ℕ, List, length, Bool, true, false, Option, None, Some, IfSome, filter, ModelChannel, Call, Reply, Handle, HandleId, HandleKind, Sender, Receiver, WorldRefusal, Done}
use Rattle.channel_world_model.specs.Answer.{strong_handles, strong_of}
use Rattle.channel_world_model.specs.Names.{Directory, at}
use Rattle.channel_world_model.specs.Refusal.{are_alike}
use Rattle.channel_world_model.specs.Run.{MayBeDone, Runs}
use Rattle.channel_world_model.specs.State.{State, start}

-- ---- counts

-- whether a strong handle of this side lives there
abbrev pub is_of : HandleKind → Option Handle → Bool
is_of side None = false
is_of side (Some h) = are_alike side h.kind

-- how many strong handles of this side live
abbrev pub live_of : HandleKind → Directory Handle → ℕ
live_of side handles = length (filter (λ (e : ℕ × Option Handle). is_of side e.1) handles)

-- A count is the number of live strong handles of its side, and while the channel is open each side has one.
pub record HandlesAreCounted {T : Type 0} (channel : ModelChannel T) (handles : Directory Handle) : Type 0 where
  pub senders : channel.senders ≡ live_of Sender handles
  pub receivers : channel.receivers ≡ live_of Receiver handles
  pub sending : channel.closed ≡ false → 1 ≤ channel.senders
  pub receiving : channel.closed ≡ false → 1 ≤ channel.receivers

abbrev pub CountsAreHandles : Type 0 → Type 0
CountsAreHandles T =
    (capacity : Option ℕ) (calls rest : List (Call T)) (done : List (Done T)) (why : Option WorldRefusal) (world : State T)
    → Runs (start capacity) calls done why rest world
    → HandlesAreCounted world.channel world.names.handles

-- ---- upgrades

-- What an upgrade of this weak handle answers: a handle where the channel is open, and none if it is closed. On an open one
-- only the limit stands against it: more than half of all numbers of handles of its side.
pub record UpgradesAsOpen {T : Type 0} (s : State T) (weak : HandleId) (r : Reply T) : Type 0 where
  pub closed : s.channel.closed ≡ true → r ≡ Reply.NotMade
  pub opened : s.channel.closed ≡ false → (r ≡ Reply.Made) ⊎ (r ≡ Reply.TooMany)
  pub limit : r ≡ Reply.TooMany → IfSome (at weak.0 s.names.handles) (λ h. 2 ^ 63 - 1 < strong_handles (strong_of h.kind) s.channel)

abbrev pub UpgradesWhileOpen : Type 0 → Type 0
UpgradesWhileOpen T =
    (capacity : Option ℕ) (calls rest : List (Call T)) (done : List (Done T)) (why : Option WorldRefusal) (world after : State T)
    (weak new : HandleId) (upgraded : Done T)
    → Runs (start capacity) calls done why rest world
    → MayBeDone world (Call.Upgrade weak new) upgraded after
    → UpgradesAsOpen world weak upgraded.reply
