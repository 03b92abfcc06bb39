use Rattle.event_listener.proofs.SectionLemmas.{answers_so, tells_so}
use Rattle.event_listener.proofs.TellingLemmas.{moved-at-most}
use Rattle.event_listener.proofs.steps.ListTaskSteps.notify.Goals as goal

pub returns : goal.returns
returns g c =
    let told = c.notify.ensures.notified in
    let by = answers_so g.N.Notification.gives _ told.tags told.rest c.notify.result told.answer in (
      record { many = _; at_most = moved-at-most _ _ _; tags = told.tags; rest = told.rest; drawn = told.drawn; answer = told.answer },
      (by, tells_so _ _ _ _ told.tags c.notify.result by told.lists c.notify.ensures.serials c.notify.ensures.room c.notify.ensures.visits),
    )
