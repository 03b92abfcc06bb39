use Rattle.std.proofs.Common.{Ok, ap, sym, ◌∙◌, arith}
use Rattle.event_listener.specs.declared.recorded.RecordedCall.TheVariants.{Polled}
use Rattle.event_listener.specs.Replay.{total_of}
use Rattle.event_listener.proofs.ReplayLemmas.{kept, gone-polled}
use Rattle.event_listener.proofs.recording.Recording.poll.Goals as goal

pub invariant_of-self : goal.invariant_of-self
invariant_of-self g c =
    let lists = c.self.inside.list.lists in
    let gone = gone-polled c.args.key lists c.in-Ok-Some.tag (sym c.in-Ok-Some.ensures.answer ∙ ap Ok c.in-Ok-Some.field-0-is) in
    let made = c.in-Ok-Some.ensures.lists in
    let total = ap total_of made in
    kept _ _ _ lists _ c.self.invariant (Polled c.args.key c.in-Ok-Some.tag) _ _ _ c.poll.new.self.lists c.poll.new.self.serials (sym c.in-Ok-Some.ensures.answer ∙ ap Ok c.in-Ok-Some.field-0-is) made c.in-Ok-Some.ensures.serials c.push_reserved.ensures.items
    (omega (arith, gone, total, c.self.invariant.room, c.push_reserved.ensures.len, c.push_reserved.ensures.capacity))
