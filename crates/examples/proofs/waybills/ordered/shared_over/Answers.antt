use Rattle.std.proofs.Common.{rules, [], ◌∷◌}
use Rattle.waybill.proofs.Order.{are_in_order}
use Rattle.examples.proofs.waybills.ordered.shared_over.Goals as goal

pub returns : goal.returns
returns g c = let all = c.args.all.0.now ∷ c.args.all.1.now ∷ [] in let one = c.in_ok-pass.got.items in let other = c.in_ok-pass_too.got_too.items in record {
  one = are_in_order _ _ [] one other all c.learn.ensures.most (search rules) (search rules) (search rules);
  other = are_in_order _ _ one other [] all c.learn.ensures.most (search rules) (search rules) (search rules);
}
