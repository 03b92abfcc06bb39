use Rattle.std.proofs.Common.{[], ◌∷◌, ◌++◌, ℕ, ap, ◌∙◌}
use Rattle.channel_steps.specs.Configuration.{parties_in}
use Rattle.channel_steps.proofs.ConfigurationFacts.{map-round}
use Rattle.channel_steps.proofs.party.begin.Goals as goal

pub returns-clause-begins : goal.returns-clause-begins
returns-clause-begins g c = rw c.push_reserved.ensures.items (c.new.ensures.begins c.args.parties.now.items)

pub returns-clause-parties : goal.returns-clause-parties
returns-clause-parties g c =
    rw c.push_reserved.ensures.items
    (map-round _ c.args.parties.now.items _ ∙ ap (λ (n : ℕ). parties_in c.args.parties.now.items ++ n ∷ []) c.new.ensures.id)
