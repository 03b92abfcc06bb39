-- What a party of a merge asks, where its call is one by names.
use Rattle.std.specs.Prelude.{◌≡◌, ◌⊎◌}
use Rattle.channel_world_runs.specs.Words.{true, ChannelAsk, Waiter, ChannelStep, NameTable, Step}
use Rattle.channel_world_runs.specs.Bookkeeping.{asks}

module _ {T W : Type 0} where
  -- the same poll of a send or a receive, which asks its listener before it tries, as a call that blocks does once it has woken; any
  -- other call as it is
  abbrev pub listening_first : ChannelAsk T W → ChannelAsk T W
  listening_first (ChannelAsk.PollSend m l task) = ChannelAsk.PollSend m (record l { asks_first = true }) task
  listening_first (ChannelAsk.PollRecv l task) = ChannelAsk.PollRecv (record l { asks_first = true }) task
  listening_first a = a

  -- it is this, or this with its listener asked first
  abbrev pub IsOrListens : ChannelAsk T W → ChannelAsk T W → Type 0
  IsOrListens x a = (a ≡ x) ⊎ (a ≡ listening_first x)

module _ {T : Type 0} where
  -- what a step by names is to the channel of a merge: a call asks what it asks given the names and the listeners held at this
  -- moment, or this with its listener asked first
  abbrev pub IsStepOf : NameTable T → Step T → ChannelStep T Waiter → Type 0
  IsStepOf r (Step.Begin p c) y = (a : ChannelAsk T Waiter) × IsOrListens (asks r c) a × (y ≡ ChannelStep.Begin p.0 a)
  IsStepOf r (Step.Step p) y = y ≡ ChannelStep.Step p.0
