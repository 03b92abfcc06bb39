use Rattle.std.proofs.Common.{ap, ◌∙◌, refl, sym}
use Rattle.concurrent_queue.specs.Memory.{memory_form}
use Rattle.concurrent_queue.specs.SharedQueue.{form_in}
use Rattle.concurrent_queue.specs.declared.call.QueueAsk.TheVariants as ask
use Rattle.concurrent_queue.specs.declared.call.QueueReply.TheVariants as reply
use Rattle.concurrent_queue.specs.declared.queue_call.CallState.TheVariants.{Asked}
use Rattle.concurrent_queue.proofs.Traces.{walked_here}
use Rattle.concurrent_queue.proofs.shared.queue.ConcurrentQueue.pop_seen.Goals as goal

pub returns-in-Ruled : goal.returns-in-Ruled
returns-in-Ruled g c =
    record {
      walked = walked_here g.S.Trace.did (form_in c.args.self.now) _ c.args.trace c.args.trace (sym (ap memory_form c.in-Ruled.is) ∙ c.args.self.now.fits) refl (Asked ask.Pop) (reply.Pop c.pop.result.0) c.pop.result.1 c.pop.ensures.walked;
    }

pub returns-in-Endless : goal.returns-in-Endless
returns-in-Endless g c =
    record {
      walked = walked_here g.S.Trace.did (form_in c.args.self.now) _ c.args.trace c.args.trace (sym (ap memory_form c.in-Endless.is) ∙ c.args.self.now.fits) refl (Asked ask.Pop) (reply.Pop c.pop-in-Endless.result.0) c.pop-in-Endless.result.1 c.pop-in-Endless.ensures.walked;
    }
