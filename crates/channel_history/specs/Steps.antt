-- How a party goes on, step by step, as its call's machine does.
use Rattle.std.specs.Prelude.{◌≡◌, [], ◌∷◌, ◌++◌, Option, None, Some}
use Rattle.concurrent_queue.specs.declared.cells.QueueForm.{QueueForm}
use Rattle.concurrent_queue.specs.declared.queue_call.QueueCall.{QueueCall}
use Rattle.channel_calls.specs.Asks.{first, kept_by}
use Rattle.channel_calls.specs.Walks.{Takes, ChannelMakes}
use Rattle.channel_calls.specs.declared.ask.ChannelAsk.{ChannelAsk}
use Rattle.channel_calls.specs.declared.mark.Mark.{Mark}
use Rattle.channel_calls.specs.declared.reply.Reply.{Reply}
use Rattle.channel_calls.specs.declared.stage.Stage.{Stage}
use Rattle.channel_steps.specs.every_run.Bridge.{Act, on_nothing, Notes}
use Rattle.channel_history.specs.Party.{with_own, TouchesNothing, Begins, Makes, Ends}
use Rattle.channel_history.specs.declared.party.Belongings.{Belongings}
use Rattle.channel_history.specs.declared.party.Standing.{Standing}

module _ {T W : Type 0} where
  -- a party that has begun a call, which stands at this stage
  abbrev pub begun : Standing T W → ChannelAsk T W → Stage (QueueCall T) T W → Standing T W
  begun s ask at = record s { asked = s.asked ++ ask ∷ []; stage = Some at }

  -- a party whose call has made a step, and goes on at this stage or has answered this
  abbrev pub stepped : Standing T W → Stage (QueueCall T) T W → Option (Reply T) → Standing T W
  stepped s next None = record s { stage = Some next }
  stepped s next (Some r) = record s { stage = None; given = s.given ++ record { reply = r; kept = kept_by next } ∷ [] }

  -- a party's call, which stands at a stage, makes this step, by which the party is left so
  abbrev pub Steps : QueueForm → Standing T W → Act T W → Standing T W → Type 0
  Steps form s o t =
      (at : Stage (QueueCall T) T W) × (m : Mark) × (next : Stage (QueueCall T) T W) × (answer : Option (Reply T))
      × (s.stage ≡ Some at) × ChannelMakes (Notes form) at on_nothing o m next answer × (t ≡ stepped s next answer)

-- a party without a call begins one at its first stage; a call's act is its next step, or comes after steps that touch nothing; and a
-- call has ended, or ends by such steps
pub record PartiesGoOn (T W : Type 0) : Type 0 where
  pub begins : (form : QueueForm) (s : Standing T W) (ask : ChannelAsk T W) (at : Stage (QueueCall T) T W) → s.stage ≡ None → Takes (first ask) at None → Begins form s ask (begun s ask at)
  pub makes : (form : QueueForm) (s t : Standing T W) (o : Act T W) → Steps form s o t → Makes form s o t
  pub later : (form : QueueForm) (s t u : Standing T W) (q o : Act T W) → TouchesNothing q → Steps form s q t → Makes form t o u → Makes form s o u
  -- what is left with its seat is no part of it
  pub leaves : (form : QueueForm) (s t : Standing T W) (o : Act T W) (own : Belongings W) → Makes form s o t → Makes form s o (with_own own t)
  pub ended : (form : QueueForm) (s : Standing T W) → s.stage ≡ None → Ends form s s
  pub ends : (form : QueueForm) (s t u : Standing T W) (q : Act T W) → TouchesNothing q → Steps form s q t → Ends form t u → Ends form s u
