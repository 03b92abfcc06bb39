use Rattle.std.proofs.Common.{sym, ◌∙◌}
use Rattle.waybill.proofs.Steps.{sends}
use Rattle.waybill.proofs.bill.bill.Goals as goal

pub split_seat-requires : goal.split_seat-requires
split_seat-requires g c = (c.pass.invariant.0 ∙ sym c.office.invariant.0, c.office.invariant.1, sends _ _ _ c.pass.invariant.3)
