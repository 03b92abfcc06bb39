use Rattle.std.proofs.Common.{rules, sym, ◌∙◌}
use Rattle.waybill.proofs.Steps.{looks, part_of, settles}
use Rattle.waybill.proofs.tokens.Office.learn.Goals as goal

pub load-requires : goal.load-requires
load-requires g c = (c.pass.invariant.0 ∙ sym c.self.invariant.0, c.self.invariant.1, looks _ _ _ _)

pub returns-clause-most : goal.returns-clause-most
returns-clause-most g c = part_of _ _ c.args.pass.now.returned (search rules)

pub returns-clause-settled : goal.returns-clause-settled
returns-clause-settled g c = settles _ _ c.args.pass.now.returned (search rules)
