use Rattle.std.proofs.Common.{refl, sym, ap, ◌∙◌}
use Rattle.slab.specs.Slab.{get}
use Rattle.event_listener.specs.declared.node.Nodes.{Nodes}
use Rattle.event_listener.specs.Nodes.{found}
use Rattle.event_listener.specs.Lists.{ListView}
use Rattle.event_listener.proofs.InsideLemmas.{found-entry, kind-inside, looked}
use Rattle.event_listener.proofs.LeftLemmas.{left-kept}
use Rattle.event_listener.proofs.list.List.begin.Goals as goal

pub invariant_of-self : goal.invariant_of-self
invariant_of-self g c =
    (looked c.self.inside
    (record { nodes = c.find.new.self; told = c.self.inside.told; waiting = c.self.inside.waiting; told_count = c.self.inside.told_count; serials = c.self.inside.serials })
    c.self.invariant (ap (λ (n : Nodes _ _). n.slab) (c.find.ensures.rest) ∙ ap (λ (n : Nodes _ _). n.slab) c.start.ensures) refl refl refl refl).sound

pub returns-clause-answer : goal.returns-clause-answer
returns-clause-answer g c =
    c.find.ensures.answer ∙ ap (λ (n : Nodes _ _). found (get n.slab c.args.key.slot) c.args.key.serial) c.start.ensures
    ∙ found-entry _ c.args.key.serial ∙ sym (kind-inside c.self.inside c.self.invariant _ c.self.view_is c.args.key)

pub returns-clause-lists : goal.returns-clause-lists
returns-clause-lists g c =
    (looked c.self.inside
    (record { nodes = c.find.new.self; told = c.self.inside.told; waiting = c.self.inside.waiting; told_count = c.self.inside.told_count; serials = c.self.inside.serials })
    c.self.invariant (ap (λ (n : Nodes _ _). n.slab) (c.find.ensures.rest) ∙ ap (λ (n : Nodes _ _). n.slab) c.start.ensures) refl refl refl refl).lists ∙ ap (λ (v : ListView _ _). v.lists) c.self.view_is

pub returns-clause-left : goal.returns-clause-left
returns-clause-left g c = left-kept (returns-clause-lists g c) (ap (λ (v : ListView _ _). v.serials) c.self.view_is)
