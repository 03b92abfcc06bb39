use Rattle.std.proofs.Common.{refl}
use Rattle.event_listener.specs.declared.waking.Task.TheVariants.{Polled}
use Rattle.event_listener.proofs.SectionLemmas.{added_with}
use Rattle.event_listener.proofs.steps.ListTaskSteps.listen.Goals as goal

pub returns : goal.returns
returns g c =
    let e = c.insert_with.ensures in
    added_with c.args.self.now c.insert_with.new.self (Polled c.args.cell) _ refl c.insert_with.result e.lists e.serial e.serials e.unknown e.room e.visits e.unchanged e.unchanged_serials e.kept_room e.why
