-- From the parts of a channel that was just opened.
use Rattle.channel_world.proofs.Lemmas.{refl, capacity_of, new_configuration, new_stands, no_calls, opened_is}
use Rattle.channel_world.proofs.world.World.open.Goals as goal

pub returns-clause-shown : goal.returns-clause-shown
returns-clause-shown g c =
    let o = c.in-Ok.ensures in
    record { stands = new_stands c.in-Ok.world_state (capacity_of c.args.form) o.shown o.name_state; name_state = o.name_state }

pub returns-clause-open : goal.returns-clause-open
returns-clause-open g c =
    let f = c.in-Ok.world_state in
    let quiet = no_calls f (new_configuration (capacity_of c.args.form)) refl c.in-Ok.ensures.shown in
    opened_is f (capacity_of c.args.form) (returns-clause-shown g c) quiet
