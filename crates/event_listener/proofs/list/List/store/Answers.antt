use Rattle.std.proofs.Common.{inl, inr, refl, sym, ap, ◌∙◌}
use Rattle.event_listener.specs.Lists.{ListView}
use Rattle.event_listener.proofs.InsideLemmas.{found-entry, kind-inside, is-waiting, begun}
use Rattle.event_listener.proofs.LeftLemmas.{left-kept, left-with_task}
use Rattle.event_listener.proofs.list.List.store.Goals as goal

pub returns-clause-answer : goal.returns-clause-answer
returns-clause-answer g c =
    c.store.ensures.answer ∙ found-entry _ c.args.key.serial ∙ sym (kind-inside c.self.inside c.self.invariant _ c.self.view_is c.args.key)

pub invariant_of-self : goal.invariant_of-self
invariant_of-self g c =
    (begun c.self.inside
    (record { nodes = c.store.new.self; told = c.self.inside.told; waiting = c.self.inside.waiting; told_count = c.self.inside.told_count; serials = c.self.inside.serials })
    c.self.invariant c.args.self.now c.self.view_is c.args.key c.args.task c.store.result
    (returns-clause-answer g c)
    c.store.ensures.stored c.store.ensures.kept c.store.ensures.len c.store.ensures.capacity refl refl refl refl).sound

pub returns-clause-stored : goal.returns-clause-stored
returns-clause-stored g c =
    (begun c.self.inside
    (record { nodes = c.store.new.self; told = c.self.inside.told; waiting = c.self.inside.waiting; told_count = c.self.inside.told_count; serials = c.self.inside.serials })
    c.self.invariant c.args.self.now c.self.view_is c.args.key c.args.task c.store.result
    (returns-clause-answer g c)
    c.store.ensures.stored c.store.ensures.kept c.store.ensures.len c.store.ensures.capacity refl refl refl refl).stored

pub returns-clause-kept : goal.returns-clause-kept
returns-clause-kept g c =
    (begun c.self.inside
    (record { nodes = c.store.new.self; told = c.self.inside.told; waiting = c.self.inside.waiting; told_count = c.self.inside.told_count; serials = c.self.inside.serials })
    c.self.invariant c.args.self.now c.self.view_is c.args.key c.args.task c.store.result
    (returns-clause-answer g c)
    c.store.ensures.stored c.store.ensures.kept c.store.ensures.len c.store.ensures.capacity refl refl refl refl).kept

pub returns-clause-left : goal.returns-clause-left
returns-clause-left g c =
    elim (is-waiting c.store.result) [
      | inl q ↦ left-with_task c.args.key c.args.task (returns-clause-stored g c q) (ap (λ (v : ListView _ _). v.serials) c.self.view_is)
      | inr ne ↦ left-kept (returns-clause-kept g c ne) (ap (λ (v : ListView _ _). v.serials) c.self.view_is)
    ]
