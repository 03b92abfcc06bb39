use Rattle.waybill.proofs.Turns.{packed_pass}
use Rattle.waybill.proofs.source.Source.pack.Goals as goal

pub invariant_of-self : goal.invariant_of-self
invariant_of-self g c = packed_pass _ _ _ _ _ c.self.invariant.0 c.self.invariant.1 c.pack.ensures.sent
