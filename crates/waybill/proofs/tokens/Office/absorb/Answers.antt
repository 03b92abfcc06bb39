use Rattle.std.proofs.Common.{sym, ◌∙◌}
use Rattle.waybill.proofs.Steps.{receives}
use Rattle.waybill.proofs.tokens.Office.absorb.Goals as goal

pub join_seat-requires : goal.join_seat-requires
join_seat-requires g c = (c.pass.invariant.0 ∙ sym c.self.invariant.0, c.other.invariant.0 ∙ sym c.self.invariant.0, c.other.invariant.1, c.self.invariant.1, receives _ _ _ _ c.pass.invariant.3)
