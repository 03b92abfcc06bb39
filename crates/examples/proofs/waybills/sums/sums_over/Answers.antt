use Rattle.std.proofs.Common.{rules}
use Rattle.waybill.proofs.Parts.{same_sums}
use Rattle.examples.proofs.waybills.sums.sums_over.Goals as goal

pub returns : goal.returns
returns g c = λ same. same_sums _ _ c.args.first.now c.args.second.now _ _ _ _ _ _ c.learn.ensures.settled (search rules) (search rules) c.into_parts-pass.ensures.count c.into_parts-pass_too.ensures.count c.into_parts-pass.ensures.total c.into_parts-pass_too.ensures.total same
