use Rattle.std.proofs.Common.{arith, ◌∙◌, ap}
use Rattle.keyed_lock_tests.proofs.Steps.{find}
use Rattle.keyed_lock_tests.proofs.lists.Lists.look.Goals as goal

pub load-mark-requires : goal.load-mark-requires
load-mark-requires g c =
    let lists = c.args.self.now in
    (c.take-listed.ensures.keeps.0 ∙ ap (λ t. t.table_id) lists.one_table, omega (arith, c.requires, lists.two), find _ _ _ _ _ c.requires c.take-listed.ensures.keeps.1)

pub returns : goal.returns
returns g c = let items = c.take-listed.result.0.items in
    omega (arith, c.len-length.ensures, items.ok.0, c.load-mark.ensures.2.1 _ (ap (λ m. m.0) c.take-listed.ensures.keeps.1))
