use Rattle.std.proofs.Common.{◌∷◌, [], Ok, ap, ◌∙◌, length, length-append, arith}
use Rattle.event_listener.specs.declared.recorded.RecordedCall.TheVariants.{Polled}
use Rattle.event_listener.proofs.counted.CountedRecords.poll.Goals as goal

pub invariant_of-self : goal.invariant_of-self
invariant_of-self g c =
    let made = c.in-Ok-Some.ensures.recorded c.in-Ok-Some.tag (ap Ok c.in-Ok-Some.field-0-is) in
    let grown = ap (λ view. length view.calls) made ∙ length-append c.self.inside.recording.calls (Polled c.args.key c.in-Ok-Some.tag ∷ []) in
    omega (arith, grown, c.add.ensures.total, c.self.invariant)
