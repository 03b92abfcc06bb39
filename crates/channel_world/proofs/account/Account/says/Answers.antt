-- From the laws of all replies.
use Rattle.channel_world.proofs.Lemmas.{subst, AccountView, LeadsTo, world_state_of}
use Rattle.channel_world.proofs.SinceFacts.{closes_once_to_here, is_never_full_to_here}
use Rattle.channel_world.proofs.account.Account.says.Goals as goal

pub returns-clause-closes_once : goal.returns-clause-closes_once
returns-clause-closes_once g c =
    let led = subst (λ (a : AccountView g.row.T.Denot). LeadsTo a.since a.replies a.until) c.self.view_is c.self.invariant in
    closes_once_to_here (world_state_of c.args.self.now.until) _ _ led

pub returns-clause-never_full : goal.returns-clause-never_full
returns-clause-never_full g c =
    let led = subst (λ (a : AccountView g.row.T.Denot). LeadsTo a.since a.replies a.until) c.self.view_is c.self.invariant in
    is_never_full_to_here (world_state_of c.args.self.now.until) _ _ led
