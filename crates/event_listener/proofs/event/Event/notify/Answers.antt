use Rattle.std.proofs.Common.{ℕ, inl, subst}
use Rattle.event_listener.proofs.event.Event.notify.Goals as goal

pub returns-in-Some : goal.returns-in-Some
returns-in-Some g c =
    let steps = g.L.Steps in
    let told = c.notify.ensures in
    let list = c.in-Some.turn.step.seal.now.id in
    record {
      tells = (
        c.into_notification-notice.result,
        c.into_notification-notice.ensures,
        inl (told.0, (list, subst (λ (lock : ℕ). steps.holds lock list) c.begin.ensures c.in-Some.ensures.held, told.1)),
      );
    }
