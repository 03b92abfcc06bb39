use Rattle.std.proofs.Common.{refl, ap, ◌∙◌, ◌≡◌, arith}
use Rattle.slab.specs.Slab.{slab_len}
use Rattle.event_listener.specs.declared.node.Nodes.{Nodes}
use Rattle.event_listener.specs.Lists.{ListView}
use Rattle.event_listener.proofs.InsideLemmas.{kept}
use Rattle.event_listener.proofs.LeftLemmas.{left-kept}
use Rattle.event_listener.proofs.list.List.reserve.Goals as goal

pub invariant_of-self : goal.invariant_of-self
invariant_of-self g c =
    let n : slab_len c.reserve.new.self.slab ≡ slab_len c.self.inside.nodes.slab = ap (λ (n : Nodes _ _). slab_len n.slab) c.reserve.ensures.rest in
    (kept c.self.inside
    (record { nodes = c.reserve.new.self; told = c.self.inside.told; waiting = c.self.inside.waiting; told_count = c.self.inside.told_count; serials = c.self.inside.serials })
    c.self.invariant (ap (λ (n : Nodes _ _). n.slab.slots) c.reserve.ensures.rest) refl refl refl refl (omega (arith, c.self.invariant.2.within, c.reserve.ensures.grows)) c.reserve.ensures.fits).sound

pub returns-clause-lists : goal.returns-clause-lists
returns-clause-lists g c =
    let n : slab_len c.reserve.new.self.slab ≡ slab_len c.self.inside.nodes.slab = ap (λ (n : Nodes _ _). slab_len n.slab) c.reserve.ensures.rest in
    (kept c.self.inside
    (record { nodes = c.reserve.new.self; told = c.self.inside.told; waiting = c.self.inside.waiting; told_count = c.self.inside.told_count; serials = c.self.inside.serials })
    c.self.invariant (ap (λ (n : Nodes _ _). n.slab.slots) c.reserve.ensures.rest) refl refl refl refl (omega (arith, c.self.invariant.2.within, c.reserve.ensures.grows)) c.reserve.ensures.fits).lists ∙ ap (λ (v : ListView _ _). v.lists) c.self.view_is

pub returns-clause-left : goal.returns-clause-left
returns-clause-left g c = left-kept (returns-clause-lists g c) (ap (λ (v : ListView _ _). v.serials) c.self.view_is)
