use Rattle.channel_world_runs.proofs.Lemmas.{arith, Some, common_steps, handle_is}
use Rattle.channel_world_runs.proofs.name_table.NameTable.mint.Goals as goal

pub returns-clause-some : goal.returns-clause-some
returns-clause-some g c =
    let seen = handle_is c.args.self.now c.args.from (Some c.in_ok-seen.field-0.now) c.in_ok-seen.ensures in
    grind (arith, common_steps, seen)
