-- What a call asks of the channel in a state of the model, and the name that keeps the listener that it leaves.
use Rattle.channel_world_runs.specs.Words.{Option, ChannelAsk, KeysHeld, State, Call, Waiter}
use Rattle.channel_world_model.specs.Asked as names

module _ {T : Type 0} where
  abbrev pub asked_in : KeysHeld → State T → Call T → ChannelAsk T Waiter
  asked_in held s c = names.asked held s.names c

  abbrev pub keeper : State T → Call T → Option Waiter
  keeper s c = names.keeper_in s.names c
