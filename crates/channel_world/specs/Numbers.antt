-- The numbers that a world tells, with no call under way: those of its state.
use Rattle.std.specs.Prelude.{◌≡◌}
use Rattle.channel_world.specs.Words.{length, pending_count, stands_pending, how_many}
use Rattle.channel_world.specs.View.{names_in, woken_in, messages_in, calls_in, at_rest, IsQuiet, WorldView}

module _ {T : Type 0} where
  -- the messages that it tells are as many as its list has
  abbrev pub MessagesAtRest : WorldView T → Type 0
  MessagesAtRest w = IsQuiet w → messages_in w ≡ length (at_rest w).channel.messages

  -- those that are pending are as many as stand untold in its four lines and in the order of its woken ones
  abbrev pub PendingAtRest : WorldView T → Type 0
  PendingAtRest w = IsQuiet w → how_many stands_pending (names_in w) ≡ pending_count (at_rest w).waiting

  -- and those of them who were woken as many as stand in that order
  abbrev pub WokenAtRest : WorldView T → Type 0
  WokenAtRest w = IsQuiet w → length (woken_in w) ≡ length (at_rest w).waiting.woken

  -- no call is under way just where it tells that none is
  pub record CallsAtRest (w : WorldView T) : Type 0 where
    pub none : calls_in w ≡ 0 → IsQuiet w
    pub quiet : IsQuiet w → calls_in w ≡ 0
