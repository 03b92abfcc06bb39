use Rattle.channel_world_runs.proofs.Lemmas.{None, Some, refl}
use Rattle.channel_world_runs.proofs.BeginFacts.{gives_up}
use Rattle.channel_world_runs.proofs.name_table.NameTable.give_up.Goals as goal

pub returns-in_default : goal.returns-in_default
returns-in_default g c = rw c.new.ensures (gives_up c.args.self.now c.args.op None c.in_default.ensures.found _ _ (refl, refl, rw c.in_default.ensures.rest refl))

pub returns : goal.returns
returns g c =
    rw c.new-2.ensures (gives_up c.args.self.now c.args.op (Some c.in-Some.entry) c.in-Some.ensures.found _ _
    (rw (c.waits_in-waits_in.ensures, c.into_message-message.ensures, c.key.ensures) refl, rw c.handle-handle.ensures refl, rw (c.hand_over.ensures, c.handle-handle.ensures, c.in-Some.ensures.rest) refl))
