-- Histories with calls in them, by which the laws are tried. In a channel that was just opened a new party asks how many senders there
-- are, and is told one; or it clones a sender, and drops it again.
use Rattle.std.specs.Prelude.{◌≡◌, [], ◌∷◌, ◌++◌, None}
use Rattle.concurrent_queue.specs.Made.{new_cells}
use Rattle.concurrent_queue.specs.declared.cells.QueueForm.{QueueForm}
use Rattle.event_listener.specs.Lists.{ListView}
use Rattle.channel_calls.specs.Parts.{nobody_listens}
use Rattle.channel_calls.specs.Turns.{nothing_kept}
use Rattle.channel_calls.specs.declared.ask.ChannelAsk.TheVariants.{HandleCount, CloneHandle, DropSender}
use Rattle.channel_calls.specs.declared.reply.Reply.TheVariants.{Count, Made}
use Rattle.channel_calls.specs.declared.reply.Reply.TheVariants as reply
use Rattle.channel_calls.specs.declared.stage.Side.TheVariants.{Senders}
use Rattle.channel_history.specs.History.{IsChannelHistory}
use Rattle.channel_history.specs.Keeps.{opening}
use Rattle.channel_history.specs.Party.{nothing}
use Rattle.channel_history.specs.declared.party.Standing.{Standing}

module _ {T W : Type 0} where
  abbrev pub has_counted : Standing T W
  has_counted = record { asked = HandleCount Senders ∷ []; stage = None; given = record { reply = Count 1; kept = nothing_kept } ∷ []; own = nothing }

abbrev pub OneSenderIsCounted : Type 0 → Type 0 → Type 0
OneSenderIsCounted T W =
    (form : QueueForm) (l : ListView Unit W) → l.lists ≡ nobody_listens → IsChannelHistory {T = T} form (opening l ++ has_counted ∷ []) (new_cells form) 1 1

module _ {T W : Type 0} where
  abbrev pub has_cloned : Standing T W
  has_cloned = record {
    asked = CloneHandle Senders ∷ [];
    stage = None;
    given = record { reply = Made; kept = nothing_kept } ∷ [];
    own = record nothing { handles = Senders ∷ [] };
  }

  abbrev pub has_dropped : Standing T W
  has_dropped = record {
    asked = CloneHandle Senders ∷ DropSender ∷ [];
    stage = None;
    given = record { reply = Made; kept = nothing_kept } ∷ record { reply = reply.Unit; kept = nothing_kept } ∷ [];
    own = nothing;
  }

pub record ASenderIsClonedAndDropped (T W : Type 0) : Type 0 where
  pub cloned : (form : QueueForm) (l : ListView Unit W) → l.lists ≡ nobody_listens → IsChannelHistory {T = T} form (opening l ++ has_cloned ∷ []) (new_cells form) 2 1
  pub dropped : (form : QueueForm) (l : ListView Unit W) → l.lists ≡ nobody_listens → IsChannelHistory {T = T} form (opening l ++ has_dropped ∷ []) (new_cells form) 1 1
