use Rattle.std.proofs.Common.{refl, ap, ◌∙◌}
use Rattle.event_listener.specs.Sections.{tag_given}
use Rattle.event_listener.specs.declared.waking.Task.TheVariants.{Parked}
use Rattle.event_listener.proofs.steps.ListTaskSteps.park.Goals as goal

pub returns : goal.returns
returns g c = (
  c.tag_given.ensures ∙ ap (λ answer. tag_given answer) c.register.ensures.answer,
  Parked c.args.parker,
  refl,
  search c,
)
