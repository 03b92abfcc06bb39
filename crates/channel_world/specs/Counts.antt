-- What the counts of a world count, calls under way or not.
use Rattle.std.specs.Prelude.{◌≡◌, ◌⊎◌, ◌+◌, ◌≤◌}
use Rattle.channel_world.specs.Words.{ℕ, true, false, [], ChannelAsk, DropSender, DropReceiver, Side, Senders, Receivers, Waiter, LeftLast, ActiveCall, Configuration, is_lowering, is_closing, All, names_of}
use Rattle.channel_world_model.specs.Handles.{live_of, HandlesAreCounted}
use Rattle.channel_world_model.specs.declared.name.HandleKind.{HandleKind}
use Rattle.channel_world_model.specs.declared.name.HandleKind.TheVariants.{Sender, Receiver}
use Rattle.channel_world.specs.View.{names_in, is_closed, count_in, to_lower, to_close, at_rest, IsQuiet, StandsIn, WorldView}

-- the strong handles of a side
abbrev pub strong_kind : Side → HandleKind
strong_kind Senders = Sender
strong_kind Receivers = Receiver

module _ {T : Type 0} where
  -- how many strong handles of this side live under the names of the world
  abbrev pub live : Side → WorldView T → ℕ
  live side w = live_of (strong_kind side) (names_of (names_in w)).handles

  -- A count is the number of live strong handles of its side, with those whose drops under way are to lower it yet.
  abbrev pub CountsLive : WorldView T → Type 0
  CountsLive w = (side : Side) → count_in side w ≡ live side w + to_lower side w

  -- On an open channel a count is one at least, or the drop of the last handle is at closing the channel.
  abbrev pub OpenHasBoth : WorldView T → Type 0
  OpenHasBoth w = is_closed w ≡ false → (side : Side) → (1 ≤ count_in side w) ⊎ (1 ≤ to_close side w)

  -- ---- which calls those are

  -- it drops a strong handle of this side
  abbrev pub Drops : Side → ChannelAsk T Waiter → Type 0
  Drops Senders DropSender = Unit {0}
  Drops Receivers (DropReceiver key) = Unit {0}
  Drops side a = ⊥

  -- Of a call under way: it is to lower the count of a side where it drops a handle of that side and has no mark yet, and only
  -- there; and it is at closing only where it drops one and its one mark is that which lowered the count from one.
  pub record IsByDrops (side : Side) (u : ActiveCall T Waiter) : Type 0 where
    pub lowers : is_lowering side u.at ≡ true → Drops side u.ask × (u.marks ≡ [])
    pub all : Drops side u.ask → u.marks ≡ [] → is_lowering side u.at ≡ true
    pub closes : is_closing side u.at ≡ true → Drops side u.ask × LeftLast side u.marks u.seen

  -- so it is of each, in each configuration in which the world stands
  abbrev pub AreByDrops : WorldView T → Type 0
  AreByDrops w = (s : Configuration T Waiter) → StandsIn w s → (side : Side) → All (λ (u : ActiveCall T Waiter). IsByDrops side u) s.under_way

  -- ---- at rest

  -- With no call under way a count is the number of live strong handles of its side, and on an open channel each is one at least.
  abbrev pub CountsAtRest : WorldView T → Type 0
  CountsAtRest w = IsQuiet w → HandlesAreCounted (at_rest w).channel (at_rest w).names.handles
