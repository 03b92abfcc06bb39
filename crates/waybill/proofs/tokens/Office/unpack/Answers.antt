use Rattle.std.proofs.Common.{sym, ap, ◌∙◌}
use Rattle.waybill.proofs.Steps.{receives}
use Rattle.waybill.proofs.tokens.Office.unpack.Goals as goal

pub join_seat-requires : goal.join_seat-requires
join_seat-requires g c = (c.pass.invariant.0 ∙ sym c.self.invariant.0, c.parcel.invariant.0 ∙ sym c.self.invariant.0, ap (λ m. m.1) c.parcel.invariant.1, c.self.invariant.1, receives _ _ _ _ c.pass.invariant.3)
