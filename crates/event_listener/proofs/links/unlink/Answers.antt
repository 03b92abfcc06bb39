use Rattle.std.proofs.Common.{ap, ◌∙◌}
use Rattle.event_listener.specs.Chain.{after_of, before_of, node_after, node_before}
use Rattle.event_listener.proofs.WriteLemmas.{Unlinks-by, after-others, before-others, after-same_first, before-same_last}
use Rattle.event_listener.proofs.links.unlink.Goals as goal

pub returns-clause-links : goal.returns-clause-links
returns-clause-links g c =
    Unlinks-by (after_of c.args.ends.now c.args.nodes.now.slab) (before_of c.args.ends.now c.args.nodes.now.slab)
    (after_of c.args.ends.now c.take-node.new.self.slab) (before_of c.args.ends.now c.take-node.new.self.slab)
    (after_of c.set_after.new.ends c.set_after.new.nodes.slab) (before_of c.set_after.new.ends c.set_after.new.nodes.slab)
    (after_of c.set_before.new.ends c.set_before.new.nodes.slab) (before_of c.set_before.new.ends c.set_before.new.nodes.slab)
    c.args.at c.take-node.result.before c.take-node.result.after (ap node_before c.take-node.ensures.node) (ap node_after c.take-node.ensures.node)
    (after-others c.args.ends.now c.args.nodes.now.slab c.take-node.new.self.slab c.args.at c.take-node.ensures.others)
    (before-others c.args.ends.now c.args.nodes.now.slab c.take-node.new.self.slab c.args.at c.take-node.ensures.others)
    c.set_after.ensures.after c.set_after.ensures.others (λ x. before-same_last c.args.ends.now c.set_after.new.ends c.set_after.new.nodes.slab x c.set_after.ensures.last ∙ c.set_after.ensures.before c.args.ends.now x)
    (λ x. after-same_first c.set_after.new.ends c.set_before.new.ends c.set_before.new.nodes.slab x c.set_before.ensures.first ∙ c.set_before.ensures.after c.set_after.new.ends x) c.set_before.ensures.before c.set_before.ensures.others
