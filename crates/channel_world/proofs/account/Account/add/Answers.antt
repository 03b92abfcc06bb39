-- What is noted led on.
use Rattle.std.specs.Prelude.{◌≡◌}
use Rattle.channel_world.proofs.Lemmas.{subst, Snapshot, Past, Then}
use Rattle.channel_world.proofs.AccountFacts.{gone_on}
use Rattle.channel_world.proofs.account.Account.add.Goals as goal

pub invariant_of-self : goal.invariant_of-self
invariant_of-self g c =
    let kept = subst (λ (p : Snapshot (Past g.row.T.Denot)). c.of-2.result.value ≡ Then p c.args.deed) c.replace-before.ensures.value c.of-2.ensures in
    gone_on _ _ c.args.world.now _ _ _ c.args.deed c.args.self.now c.self.invariant c.self.view_is c.requires.leads kept c.of-3.ensures
