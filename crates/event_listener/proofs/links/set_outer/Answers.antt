use Rattle.std.proofs.Common.{refl, ap, ◌∙◌}
use Rattle.event_listener.specs.Chain.{node_after, node_before}
use Rattle.event_listener.proofs.WriteLemmas.{changes, kept_by_write, present-kept, after-kept, before-kept, after-others, before-others, Stays-joined}
use Rattle.event_listener.proofs.links.set_outer.Goals as goal

pub returns-else-first-last-clause-before : goal.returns-else-first-last-clause-before
returns-else-first-last-clause-before g c = λ e.
    let here = changes (λ node. record node { before = c.args.before }) c.args.nodes.now.slab c.set_before.new.self.slab c.args.first c.requires.first_present c.set_before.ensures.node in
    let there = present-kept (λ node. record node { before = c.args.before }) c.args.nodes.now.slab c.set_before.new.self.slab c.args.first c.requires.first_present c.set_before.ensures.node c.args.last c.requires.last_present in
    kept_by_write node_before (λ node. record node { after = c.args.after }) (λ _. refl) c.set_before.new.self.slab c.set_after.new.self.slab c.args.last there c.set_after.ensures.node c.args.first
    ∙ ap node_before here.now

pub returns-else-first-last-clause-before_others : goal.returns-else-first-last-clause-before_others
returns-else-first-last-clause-before_others g c = λ e x ne.
    let here = changes (λ node. record node { before = c.args.before }) c.args.nodes.now.slab c.set_before.new.self.slab c.args.first c.requires.first_present c.set_before.ensures.node in
    let there = present-kept (λ node. record node { before = c.args.before }) c.args.nodes.now.slab c.set_before.new.self.slab c.args.first c.requires.first_present c.set_before.ensures.node c.args.last c.requires.last_present in
    before-kept e c.set_before.new.self.slab c.set_after.new.self.slab (kept_by_write node_before (λ node. record node { after = c.args.after }) (λ _. refl) c.set_before.new.self.slab c.set_after.new.self.slab c.args.last there c.set_after.ensures.node) x
    ∙ before-others e c.args.nodes.now.slab c.set_before.new.self.slab c.args.first here.others x ne

pub returns-else-first-last-clause-after_others : goal.returns-else-first-last-clause-after_others
returns-else-first-last-clause-after_others g c = λ e x ne.
    let there = present-kept (λ node. record node { before = c.args.before }) c.args.nodes.now.slab c.set_before.new.self.slab c.args.first c.requires.first_present c.set_before.ensures.node c.args.last c.requires.last_present in
    let last = changes (λ node. record node { after = c.args.after }) c.set_before.new.self.slab c.set_after.new.self.slab c.args.last there c.set_after.ensures.node in
    after-others e c.set_before.new.self.slab c.set_after.new.self.slab c.args.last last.others x ne
    ∙ after-kept e c.args.nodes.now.slab c.set_before.new.self.slab (kept_by_write node_after (λ node. record node { before = c.args.before }) (λ _. refl) c.args.nodes.now.slab c.set_before.new.self.slab c.args.first c.requires.first_present c.set_before.ensures.node) x

pub returns-else-first-last-clause-stays : goal.returns-else-first-last-clause-stays
returns-else-first-last-clause-stays g c = Stays-joined c.set_before.ensures.stays c.set_after.ensures.stays
