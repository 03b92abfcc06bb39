use Rattle.channel_world_runs.proofs.Lemmas.{None, Some, operation_is}
use Rattle.channel_world_runs.proofs.name_table.NameTable.lend_operation.Goals as goal

pub returns-in_default-clause-operation : goal.returns-in_default-clause-operation
returns-in_default-clause-operation g c = operation_is c.args.self.now c.args.op None c.in_default.ensures.found

pub returns-clause-operation : goal.returns-clause-operation
returns-clause-operation g c = operation_is c.args.self.now c.args.op (Some c.in-Some.entry) c.in-Some.ensures.found
