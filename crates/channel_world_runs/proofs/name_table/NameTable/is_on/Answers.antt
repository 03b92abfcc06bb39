-- It is asked of the operation that lives under the name.
use Rattle.std.specs.Prelude.{◌≡◌}
use Rattle.channel_world_runs.proofs.Lemmas.{Option, None, Some, sym, ap, ◌∙◌, option_map, WaitList, is_line, line_at, line_of_operation, at, OpId, Operation, Waiter, Op, names_of, NameTable, OperationEntry, operation_is}
use Rattle.channel_world_runs.proofs.name_table.NameTable.is_on.Goals as goal

line_is : {T : Type 0} (r : NameTable T) (line : WaitList) (w : Waiter) (op : OpId) (o : Option (OperationEntry T)) → o ≡ at op.0 r.operations → w ≡ Op op
    → is_line line (line_of_operation (option_map (λ (x : OperationEntry T). x.operation) o)) ≡ is_line line (line_at (names_of r) w)
line_is {T} r line w op o e whose =
    ap (λ (x : Option (Operation T)). is_line line (line_of_operation x)) (operation_is r op o e)
    ∙ sym (ap (λ (v : Waiter). is_line line (line_at (names_of r) v)) whose)

pub returns-in-Some : goal.returns-in-Some
returns-in-Some g c =
    c.is_on.ensures ∙ line_is c.args.self.now c.args.line c.args.name c.in-Op.op (Some c.in-Some.entry.now) c.in-Some.ensures c.in-Op.is

pub returns-in-None : goal.returns-in-None
returns-in-None g c = line_is c.args.self.now c.args.line c.args.name c.in-Op.op None c.in-None.ensures c.in-Op.is
