-- Nothing is noted.
use Rattle.channel_world.proofs.AccountFacts.{begun}
use Rattle.channel_world.proofs.account.Account.of.Goals as goal

pub invariant_of-result : goal.invariant_of-result
invariant_of-result g c = begun c.args.world.now _ _ _ c.of.ensures c.of-2.ensures c.of-3.ensures
