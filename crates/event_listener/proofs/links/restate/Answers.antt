use Rattle.std.proofs.Common.{refl}
use Rattle.event_listener.specs.Chain.{node_after, node_before}
use Rattle.event_listener.proofs.WriteLemmas.{kept_by_write, after-kept, before-kept}
use Rattle.event_listener.proofs.links.restate.Goals as goal

pub returns-clause-after : goal.returns-clause-after
returns-clause-after g c = λ ends.
    after-kept ends c.args.nodes.now.slab c.restate.new.self.slab
    (kept_by_write node_after (λ node. record node { state = c.args.state }) (λ _. refl) c.args.nodes.now.slab c.restate.new.self.slab c.args.at c.requires.present c.restate.ensures.node)

pub returns-clause-before : goal.returns-clause-before
returns-clause-before g c = λ ends.
    before-kept ends c.args.nodes.now.slab c.restate.new.self.slab
    (kept_by_write node_before (λ node. record node { state = c.args.state }) (λ _. refl) c.args.nodes.now.slab c.restate.new.self.slab c.args.at c.requires.present c.restate.ensures.node)
