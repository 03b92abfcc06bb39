-- What a call has done when it ends, and what it leaves.
use Rattle.std.specs.Prelude.{◌≡◌, Option, Some}
use Rattle.channel_calls.specs.declared.reply.Reply.{Reply}
use Rattle.channel_calls.specs.declared.stage.Returned.{Returned}
use Rattle.channel_steps.specs.Answers.{Keeps, Met}
use Rattle.channel_steps.specs.Configuration.{ActiveCall}
use Rattle.channel_steps.specs.Tellings.{owed}

module _ {T W : Type 0} where
  -- a call that ends with this reply, and leaves this to its operation
  pub record EndSays (u : ActiveCall T W) (r : Reply T) (left : Option (Returned T)) : Type 0 where
    -- it has the marks that its reply's row names, and found what the row says at moments of its own
    pub row : Met u.ask u.marks u.seen r
    -- all that its marks owe was told, in order, once each
    pub told : u.told ≡ owed u.marks
    -- a pending one keeps its listener and its message, any other nothing; a reply for memory or serials leaves the message, and by
    -- its row the call made no mark
    pub kept : Returned T
    pub leaves : left ≡ Some kept
    pub keeps : Keeps u.ask r kept
