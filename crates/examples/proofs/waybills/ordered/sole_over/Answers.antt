use Rattle.std.proofs.Common.{rules, [], ◌∷◌}
use Rattle.waybill.proofs.Order.{are_beginnings}
use Rattle.examples.proofs.waybills.ordered.sole_over.Goals as goal

pub returns : goal.returns
returns g c = are_beginnings _ _ c.in_ok-pass.got.items (c.args.all.0.now ∷ c.args.all.1.now ∷ []) c.learn.ensures.most (search rules) (search rules) (search rules)
