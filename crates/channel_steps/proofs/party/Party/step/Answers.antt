use Rattle.std.proofs.Common.{refl}
use Rattle.channel_calls.proofs.Interface.{exact_step}
use Rattle.channel_steps.proofs.ConfigurationFacts.{party_steps}
use Rattle.channel_steps.proofs.party.Party.step.Goals as goal

pub returns-clause-steps : goal.returns-clause-steps
returns-clause-steps g c known =
    let cells = g.C.ChannelCells in
    party_steps g.S.Wakes.wakes _ _ _ _ _ _ _ refl
    (exact_step cells.did cells.parts (cells.exact known) g.S.Wakes.wakes _ _ _ _ _ _ _ c.args.self.now.call.stage c.step.ensures.deed)
