-- What a call's machine does by one relation it does by any other by which its deed was done.
use Rattle.std.proofs.Common.{◌≡◌, Option, None, Some}
use Rattle.concurrent_queue.specs.declared.queue_call.QueueCall.{QueueCall}
use Rattle.channel_calls.specs.Deeds.{Deed, taken_off}
use Rattle.channel_calls.specs.Walks.{Leaves, WorkMakes, ChannelMakes}
use Rattle.channel_calls.specs.declared.mark.Mark.{Mark}
use Rattle.channel_calls.specs.declared.reply.Reply.{Reply}
use Rattle.channel_calls.specs.declared.stage.ListenerRef.{ListenerRef}
use Rattle.channel_calls.specs.declared.stage.Stage.{Stage}
use Rattle.channel_calls.specs.declared.stage.Stage.TheVariants.{Trying, Working, Finished}
use Rattle.channel_calls.specs.declared.stage.ListStep.{ListStep}
use Rattle.channel_calls.specs.declared.stage.ListStep.TheVariants.{TellReceive, TellStreams, TellSend, TellSends, TakeRoom, TellAll, Insert, Register, Leave, Lower, Count, Load, Raise}

module _ {T W X Y : Type 0} (did : Deed T W → X → X → Type 0) (does : Deed T W → Y → Y → Type 0) (s t : X) (u v : Y) (deed : (d : Deed T W) → did d s t → does d u v) (none : t ≡ s → v ≡ u) where
  left : (held : Option ListenerRef) → Leaves did held s t → Leaves does held u v
  left None h = none h
  left (Some held) (names, h) = (names, deed (taken_off held.line held.key names) h)

  module _ (m : Mark) (next : Stage (QueueCall T) T W) (r : Option (Reply T)) where
    worked : (w : ListStep T W) → WorkMakes did w s t m next r → WorkMakes does w u v m next r
    worked (TellReceive e) (names, h, x) = (names, deed _ h, x)
    worked (TellStreams e) (names, h, x) = (names, deed _ h, x)
    worked (TellSend e) (names, h, x) = (names, deed _ h, x)
    worked (TellSends n e) (names, h, x) = (names, deed _ h, x)
    worked (TakeRoom n) (turn, h, room, x) = (turn, none h, room, x)
    worked (TellAll line c) (names, h, x) = (names, deed _ h, x)
    worked (Insert w task) (o, h, x) = (o, deed _ h, x)
    worked (Register w key task) (o, h, x) = (o, deed _ h, x)
    worked (Leave e) (h, x) = (left e.held h, x)
    worked (Lower side key) (n, h, x) = (n, deed _ h, x)
    worked (Count side) (n, h, x) = (n, deed _ h, x)
    worked (Load side making) (n, h, x) = (n, deed _ h, x)
    worked (Raise side n making) (b, h, x) = (b, deed _ h, x)

    pub carried : (at : Stage (QueueCall T) T W) → ChannelMakes did at s t m next r → ChannelMakes does at u v m next r
    carried (Trying call purpose) (after, o, h, e, x) = (after, o, deed _ h, e, x)
    carried (Working w) h = worked w h
    carried (Finished kept) (h, e, f, n) = (none h, e, f, n)
