-- A way from one configuration to another: a run of steps of any parties, of which only what they reply is told.
use Rattle.std.specs.Prelude.{◌≡◌, ◌∷◌, ◌++◌}
use Rattle.channel_world_runs.specs.Words.{List, [], Result, Ok, Err, option_to_list, Reply, Waiter, Done, IsRun, NextConfiguration, Configuration, ChannelStep, Entry}
use Rattle.channel_steps.specs.declared.party.Entry.{Entry as ChannelEntry}

module _ {T : Type 0} where
  -- what the entries of a run of the channel's steps reply, in order
  abbrev pub replies_of : List (ChannelEntry T) → List (Reply T)
  replies_of [] = []
  replies_of (e ∷ es) = option_to_list e.reply ++ replies_of es

  -- a run from s to t on which just these replies are given
  pub record Reaches (s : Configuration T Waiter) (replies : List (Reply T)) (t : Configuration T Waiter) : Type 0 where
    pub steps : List (ChannelStep T Waiter)
    pub trace : List (ChannelEntry T)
    pub run : IsRun NextConfiguration s steps trace t
    pub given : replies_of trace ≡ replies

  -- what the entries of a run by names reply, in order
  abbrev pub replies_in : List (Entry T) → List (Reply T)
  replies_in [] = []
  replies_in (e ∷ es) = option_to_list e.reply ++ replies_in es

  -- what a call replied, if it was made
  abbrev pub reply_of : {X : Type 0} → Result (Done T) X → List (Reply T)
  reply_of (Ok d) = d.reply ∷ []
  reply_of (Err x) = []
