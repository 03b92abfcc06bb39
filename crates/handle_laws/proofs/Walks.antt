-- That what a trace saw of steps of a queue's call is a walk, as the laws of merges ask it of cells of any kind.
use Rattle.std.proofs.Common.{Option, None, Some}
use Rattle.concurrent_queue.specs.Deeds as cell
use Rattle.concurrent_queue.specs.declared.call.QueueReply.{QueueReply}
use Rattle.concurrent_queue.specs.declared.cells.QueueForm.{QueueForm}
use Rattle.concurrent_queue.specs.declared.queue_call.QueueCall.{QueueCall}
use Rattle.channel_calls.specs.Deeds.{Deed}
use Rattle.channel_steps.specs.every_run.Bridge.{QueueWalks}
use Rattle.async_channel.specs.Saw.{Saw, SawSteps}
use Rattle.channel_steps.proofs.every_run.BridgeWalks as bridge
use Rattle.handle_laws.specs.Events.{WalksAct, SawRested, RestedAct, StandsAct}

module _ {T W X : Type 0} (did : cell.Deed T → X → X → Type 0) (form : QueueForm) (saw : Deed T W → X → X → Type 0) where
  pub walks : (call next : QueueCall T) (answer : Option (QueueReply T)) (s t : X) → SawSteps did form call s next answer t → QueueWalks saw did form call s next answer t
  walks call next None s t h = h
  walks call next (Some r) s t h = h

pub walks_act : {T W X : Type 0} (did : cell.Deed T → X → X → Type 0) (shown : Deed T W → X → X → Type 0) → WalksAct did shown
walks_act did shown form ask s r kept t walked = bridge.walks_act (Saw did shown form) did form ask s t r kept (walks did form (Saw did shown form)) walked

pub rested_act : {T W X : Type 0} (did : cell.Deed T → X → X → Type 0) (shown : Deed T W → X → X → Type 0) (parked : Option W → X → X → Type 0) (slept : X → X → Type 0) → RestedAct did shown parked slept
rested_act did shown parked slept form ask s r kept t walked =
    bridge.walks_act (SawRested did shown parked slept form) did form ask s t r kept (walks did form (SawRested did shown parked slept form)) walked

pub stands_act : {T W X : Type 0} (did : cell.Deed T → X → X → Type 0) (shown : Deed T W → X → X → Type 0) (parked : Option W → X → X → Type 0) (slept : X → X → Type 0) → StandsAct did shown parked slept
stands_act did shown parked slept form ask a b n s t takes path =
    bridge.stands_act (SawRested did shown parked slept form) did form ask a b n s t (walks did form (SawRested did shown parked slept form)) takes path
