use Rattle.std.proofs.Common.{refl, ap, ◌∙◌}
use Rattle.event_listener.specs.declared.node.Nodes.{Nodes}
use Rattle.event_listener.specs.Inside.{shown}
use Rattle.event_listener.specs.Lists.{ListView}
use Rattle.event_listener.proofs.InsideLemmas.{kept}
use Rattle.event_listener.proofs.list.List.start.Goals as goal

pub invariant_of-self : goal.invariant_of-self
invariant_of-self g c =
    (kept c.self.inside
    (record { nodes = c.start.new.self; told = c.self.inside.told; waiting = c.self.inside.waiting; told_count = c.self.inside.told_count; serials = c.self.inside.serials })
    c.self.invariant (ap (λ (n : Nodes _ _). n.slab.slots) c.start.ensures) refl refl refl refl (rw c.start.ensures c.self.invariant.2.within) (rw c.start.ensures c.self.invariant.2.fits)).sound

pub returns : goal.returns
returns g c =
    ap (λ (n : Nodes _ _). shown (record { nodes = n; told = c.self.inside.told; waiting = c.self.inside.waiting; told_count = c.self.inside.told_count; serials = c.self.inside.serials })) c.start.ensures
    ∙ ap (λ (v : ListView _ _). record v { visits = 0 }) c.self.view_is
