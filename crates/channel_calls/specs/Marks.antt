-- What a step does to the channel that callers see, as its queue says it.
use Rattle.std.specs.Prelude.{Bool, true, false, Option, Some}
use Rattle.concurrent_queue.specs.declared.call.QueueMark.{QueueMark}
use Rattle.concurrent_queue.specs.declared.call.QueueMark.TheVariants as queue
use Rattle.channel_calls.specs.declared.mark.Mark.{Mark}
use Rattle.channel_calls.specs.declared.mark.Mark.TheVariants.{Nothing, Append, Take, TakeDisplaced, Replace, Close, SenderUp, SenderDown, ReceiverUp, ReceiverDown}
use Rattle.channel_calls.specs.declared.reply.Reply.{Reply}
use Rattle.channel_calls.specs.declared.reply.Reply.TheVariants.{Made}
use Rattle.channel_calls.specs.declared.stage.Side.{Side}
use Rattle.channel_calls.specs.declared.stage.Side.TheVariants.{Senders, Receivers}

-- the same mark of the channel's queue
abbrev pub mark_of_queue : QueueMark → Mark
mark_of_queue queue.Nothing = Nothing
mark_of_queue queue.Append = Append
mark_of_queue queue.Take = Take
mark_of_queue queue.TakeDisplaced = TakeDisplaced
mark_of_queue queue.Replace = Replace
mark_of_queue queue.Close = Close

-- one handle more, or one fewer
abbrev pub up : Side → Mark
up Senders = SenderUp
up Receivers = ReceiverUp

abbrev pub down : Side → Mark
down Senders = SenderDown
down Receivers = ReceiverDown

-- whether one handle more is counted
abbrev pub is_up : Mark → Bool
is_up SenderUp = true
is_up ReceiverUp = true
is_up _ = false

-- whether it is answered that a handle was made
abbrev pub is_made : {T : Type 0} → Option (Reply T) → Bool
is_made (Some Made) = true
is_made _ = false
