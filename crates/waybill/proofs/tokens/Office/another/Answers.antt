use Rattle.std.proofs.Common.{sym, ◌∙◌, subst, ◌<◌}
use Rattle.waybill.proofs.Steps.{halves}
use Rattle.waybill.proofs.tokens.Office.another.Goals as goal

pub split_seat-seat-requires : goal.split_seat-seat-requires
split_seat-seat-requires g c = (c.pass.invariant.0 ∙ sym c.self.invariant.0, c.self.invariant.1, halves _ _ (subst (λ a. 1 < a.parts) (sym c.pass.view_is) c.requires))
