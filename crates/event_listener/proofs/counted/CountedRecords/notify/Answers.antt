use Rattle.std.proofs.Common.{refl, sym, [], arith}
use Rattle.std.proofs.lemmas.Bool.Decides.{nat_tests}
use Rattle.event_listener.proofs.counted.CountedRecords.notify.Goals as goal

pub returns-then-told_somebody-clause-did : goal.returns-then-told_somebody-clause-did
returns-then-told_somebody-clause-did g c =
    let made = c.notify-answer.ensures in
    let entry = made.recorded (grind (arith, nat_tests)) in
    rw (sym c.self.view_is) (
      entry.0.items,
      _,
      (refl, (λ told. (entry.0, refl, entry.1)), made.unchanged),
      (entry.2.rest, entry.2.drawn),
      made.woken,
    )

pub returns-else-told_somebody-clause-did : goal.returns-else-told_somebody-clause-did
returns-else-told_somebody-clause-did g c =
    let made = c.notify-answer.ensures in
    rw (sym c.self.view_is) (
      [],
      _,
      (refl, (λ told. absurd (grind (arith, nat_tests))), made.unchanged),
      (c.args.notice, refl),
      made.woken,
    )
