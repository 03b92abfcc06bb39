use Rattle.std.proofs.Common.{◌+◌, refl, ap, ◌∙◌}
use Rattle.slab.specs.Slab.{Slab}
use Rattle.event_listener.specs.declared.node.Nodes.{Nodes}
use Rattle.event_listener.specs.Lists.{ListView}
use Rattle.event_listener.proofs.InsideLemmas.{kept, inserted, last-present}
use Rattle.event_listener.proofs.LeftLemmas.{left-kept, left-listened}
use Rattle.event_listener.proofs.list.List.insert_with.Goals as goal

pub invariant_of-self : goal.invariant_of-self
invariant_of-self g c =
    (kept c.self.inside
    (record { nodes = c.start.new.self; told = c.self.inside.told; waiting = c.self.inside.waiting; told_count = c.self.inside.told_count; serials = c.self.inside.serials })
    c.self.invariant (ap (λ (n : Nodes _ _). n.slab.slots) c.start.ensures) refl refl refl refl (rw c.start.ensures c.self.invariant.2.within) (rw c.start.ensures c.self.invariant.2.fits)).sound

pub link_last-requires : goal.link_last-requires
link_last-requires g c = record { live = last-present c.self.inside c.self.invariant }

pub invariant_of-self-in-Err : goal.invariant_of-self-in-Err
invariant_of-self-in-Err g c =
    (kept c.self.inside
    (record { nodes = c.link_last.new.nodes; told = c.self.inside.told; waiting = c.link_last.new.ends; told_count = c.self.inside.told_count; serials = c.self.inside.serials })
    c.self.invariant (ap (λ (s : Slab _). s.slots) c.in-Err.ensures.err) refl c.in-Err.ensures.err_ends refl refl c.in-Err.ensures.within c.in-Err.ensures.fits).sound

pub invariant_of-self-in-Ok : goal.invariant_of-self-in-Ok
invariant_of-self-in-Ok g c =
    (inserted c.self.inside
    (record { nodes = c.link_last.new.nodes; told = c.self.inside.told; waiting = c.link_last.new.ends; told_count = c.self.inside.told_count; serials = c.self.inside.serials + 1 })
    c.self.invariant c.args.self.now c.self.view_is c.args.task c.in-Ok.slot c.in-Ok.ensures.absent c.in-Ok.ensures.links c.in-Ok.ensures.made c.in-Ok.ensures.others c.in-Ok.ensures.len c.in-Ok.ensures.within c.in-Ok.ensures.fits refl refl refl).sound

pub returns-in-Ok-clause-lists : goal.returns-in-Ok-clause-lists
returns-in-Ok-clause-lists g c =
    (inserted c.self.inside
    (record { nodes = c.link_last.new.nodes; told = c.self.inside.told; waiting = c.link_last.new.ends; told_count = c.self.inside.told_count; serials = c.self.inside.serials + 1 })
    c.self.invariant c.args.self.now c.self.view_is c.args.task c.in-Ok.slot c.in-Ok.ensures.absent c.in-Ok.ensures.links c.in-Ok.ensures.made c.in-Ok.ensures.others c.in-Ok.ensures.len c.in-Ok.ensures.within c.in-Ok.ensures.fits refl refl refl).lists

pub returns-in-Ok-clause-unknown : goal.returns-in-Ok-clause-unknown
returns-in-Ok-clause-unknown g c =
    (inserted c.self.inside
    (record { nodes = c.link_last.new.nodes; told = c.self.inside.told; waiting = c.link_last.new.ends; told_count = c.self.inside.told_count; serials = c.self.inside.serials + 1 })
    c.self.invariant c.args.self.now c.self.view_is c.args.task c.in-Ok.slot c.in-Ok.ensures.absent c.in-Ok.ensures.links c.in-Ok.ensures.made c.in-Ok.ensures.others c.in-Ok.ensures.len c.in-Ok.ensures.within c.in-Ok.ensures.fits refl refl refl).unknown

pub returns-in-Err-clause-unchanged : goal.returns-in-Err-clause-unchanged
returns-in-Err-clause-unchanged g c =
    (kept c.self.inside
    (record { nodes = c.link_last.new.nodes; told = c.self.inside.told; waiting = c.link_last.new.ends; told_count = c.self.inside.told_count; serials = c.self.inside.serials })
    c.self.invariant (ap (λ (s : Slab _). s.slots) c.in-Err.ensures.err) refl c.in-Err.ensures.err_ends refl refl c.in-Err.ensures.within c.in-Err.ensures.fits).lists ∙ ap (λ (v : ListView _ _). v.lists) c.self.view_is

pub returns-then-self-clause-unchanged : goal.returns-then-self-clause-unchanged
returns-then-self-clause-unchanged g c =
    (kept c.self.inside
    (record { nodes = c.start.new.self; told = c.self.inside.told; waiting = c.self.inside.waiting; told_count = c.self.inside.told_count; serials = c.self.inside.serials })
    c.self.invariant (ap (λ (n : Nodes _ _). n.slab.slots) c.start.ensures) refl refl refl refl (rw c.start.ensures c.self.invariant.2.within) (rw c.start.ensures c.self.invariant.2.fits)).lists ∙ ap (λ (v : ListView _ _). v.lists) c.self.view_is

pub returns-then-self-clause-left : goal.returns-then-self-clause-left
returns-then-self-clause-left g c = left-kept (returns-then-self-clause-unchanged g c) (ap (λ (v : ListView _ _). v.serials) c.self.view_is)

pub returns-in-Ok-clause-left : goal.returns-in-Ok-clause-left
returns-in-Ok-clause-left g c =
    left-listened c.args.task (record { slot = c.in-Ok.slot; serial = c.self.inside.serials }) (returns-in-Ok-clause-lists g c) (ap (λ (v : ListView _ _). v.serials) c.self.view_is) (ap (λ (v : ListView _ _). v.serials + 1) c.self.view_is)

pub returns-in-Err-clause-left : goal.returns-in-Err-clause-left
returns-in-Err-clause-left g c = left-kept (returns-in-Err-clause-unchanged g c) (ap (λ (v : ListView _ _). v.serials) c.self.view_is)
