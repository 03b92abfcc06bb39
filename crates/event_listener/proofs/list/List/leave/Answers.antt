use Rattle.std.proofs.Common.{◌-◌, ◌+◌, ◌≡◌, Some, refl, ap, ◌∙◌, arith}
use Rattle.std.specs.Prelude.{is_some}
use Rattle.event_listener.specs.Lists.{ListView}
use Rattle.event_listener.proofs.InsideLemmas.{left-told, left-waiting, present, told-beside, waiting-beside, told-counted, in-order}
use Rattle.event_listener.proofs.LeftLemmas.{off-list, left-without}
use Rattle.event_listener.proofs.list.List.leave.Goals as goal

pub unlink-state-requires-clause-present : goal.unlink-state-requires-clause-present
unlink-state-requires-clause-present g c =
    present c.self.inside c.self.invariant c.args.self.now c.self.view_is c.args.key (ap is_some c.requires)

pub unlink-state-requires-clause-beside : goal.unlink-state-requires-clause-beside
unlink-state-requires-clause-beside g c =
    told-beside c.self.inside c.self.invariant c.args.self.now c.self.view_is c.args.key (ap is_some c.requires) (c.requires ∙ ap Some c.if-told.true)

pub unlink-requires-clause-present : goal.unlink-requires-clause-present
unlink-requires-clause-present g c =
    present c.self.inside c.self.invariant c.args.self.now c.self.view_is c.args.key (ap is_some c.requires)

pub unlink-requires-clause-beside : goal.unlink-requires-clause-beside
unlink-requires-clause-beside g c =
    waiting-beside c.self.inside c.self.invariant c.args.self.now c.self.view_is c.args.key (ap is_some c.requires) (c.requires ∙ ap Some c.if-told.false)

pub overflow_sub-self : goal.overflow_sub-self
overflow_sub-self g c =
    told-counted c.self.inside c.self.invariant c.args.self.now c.self.view_is c.args.key (ap is_some c.requires) (c.requires ∙ ap Some c.if-told.true)

pub invariant_of-self : goal.invariant_of-self
invariant_of-self g c =
    let h = told-counted c.self.inside c.self.invariant c.args.self.now c.self.view_is c.args.key (ap is_some c.requires) (c.requires ∙ ap Some c.if-told.true) in
    let n : (c.self.inside.told_count - 1) + 1 ≡ c.self.inside.told_count = omega (arith, h) in
    (left-told c.self.inside c.self.invariant c.args.self.now c.self.view_is c.args.key (ap is_some c.requires) (c.requires ∙ ap Some c.if-told.true)
    (record { nodes = c.unlink-state.new.nodes; told = c.unlink-state.new.ends; waiting = c.self.inside.waiting; told_count = c.self.inside.told_count - 1; serials = c.self.inside.serials })
    c.unlink-state.result refl c.unlink-state.ensures.links c.unlink-state.ensures.gone c.unlink-state.ensures.others c.unlink-state.ensures.state c.unlink-state.ensures.len c.unlink-state.ensures.capacity n refl).sound

pub returns-then-told-clause-lists : goal.returns-then-told-clause-lists
returns-then-told-clause-lists g c =
    let h = told-counted c.self.inside c.self.invariant c.args.self.now c.self.view_is c.args.key (ap is_some c.requires) (c.requires ∙ ap Some c.if-told.true) in
    let n : (c.self.inside.told_count - 1) + 1 ≡ c.self.inside.told_count = omega (arith, h) in
    (left-told c.self.inside c.self.invariant c.args.self.now c.self.view_is c.args.key (ap is_some c.requires) (c.requires ∙ ap Some c.if-told.true)
    (record { nodes = c.unlink-state.new.nodes; told = c.unlink-state.new.ends; waiting = c.self.inside.waiting; told_count = c.self.inside.told_count - 1; serials = c.self.inside.serials })
    c.unlink-state.result refl c.unlink-state.ensures.links c.unlink-state.ensures.gone c.unlink-state.ensures.others c.unlink-state.ensures.state c.unlink-state.ensures.len c.unlink-state.ensures.capacity n refl).lists

pub returns-then-told-clause-state : goal.returns-then-told-clause-state
returns-then-told-clause-state g c =
    let h = told-counted c.self.inside c.self.invariant c.args.self.now c.self.view_is c.args.key (ap is_some c.requires) (c.requires ∙ ap Some c.if-told.true) in
    let n : (c.self.inside.told_count - 1) + 1 ≡ c.self.inside.told_count = omega (arith, h) in
    (left-told c.self.inside c.self.invariant c.args.self.now c.self.view_is c.args.key (ap is_some c.requires) (c.requires ∙ ap Some c.if-told.true)
    (record { nodes = c.unlink-state.new.nodes; told = c.unlink-state.new.ends; waiting = c.self.inside.waiting; told_count = c.self.inside.told_count - 1; serials = c.self.inside.serials })
    c.unlink-state.result refl c.unlink-state.ensures.links c.unlink-state.ensures.gone c.unlink-state.ensures.others c.unlink-state.ensures.state c.unlink-state.ensures.len c.unlink-state.ensures.capacity n refl).state

pub returns-then-told-clause-off : goal.returns-then-told-clause-off
returns-then-told-clause-off g c =
    off-list c.args.self.now _ c.args.key (in-order c.self.inside c.self.invariant c.args.self.now c.self.view_is) (ap is_some c.requires) (returns-then-told-clause-lists g c) (ap (λ (v : ListView _ _). v.serials) c.self.view_is)

pub returns-then-told-clause-left : goal.returns-then-told-clause-left
returns-then-told-clause-left g c =
    left-without c.args.key (returns-then-told-clause-lists g c) (ap (λ (v : ListView _ _). v.serials) c.self.view_is)

pub invariant_of-self-else-told : goal.invariant_of-self-else-told
invariant_of-self-else-told g c =
    (left-waiting c.self.inside c.self.invariant c.args.self.now c.self.view_is c.args.key (ap is_some c.requires) (c.requires ∙ ap Some c.if-told.false)
    (record { nodes = c.unlink.new.nodes; told = c.self.inside.told; waiting = c.unlink.new.ends; told_count = c.self.inside.told_count; serials = c.self.inside.serials })
    c.unlink.result refl c.unlink.ensures.links c.unlink.ensures.gone c.unlink.ensures.others c.unlink.ensures.state c.unlink.ensures.len c.unlink.ensures.capacity refl refl).sound

pub returns-else-told-clause-lists : goal.returns-else-told-clause-lists
returns-else-told-clause-lists g c =
    (left-waiting c.self.inside c.self.invariant c.args.self.now c.self.view_is c.args.key (ap is_some c.requires) (c.requires ∙ ap Some c.if-told.false)
    (record { nodes = c.unlink.new.nodes; told = c.self.inside.told; waiting = c.unlink.new.ends; told_count = c.self.inside.told_count; serials = c.self.inside.serials })
    c.unlink.result refl c.unlink.ensures.links c.unlink.ensures.gone c.unlink.ensures.others c.unlink.ensures.state c.unlink.ensures.len c.unlink.ensures.capacity refl refl).lists

pub returns-else-told-clause-state : goal.returns-else-told-clause-state
returns-else-told-clause-state g c =
    (left-waiting c.self.inside c.self.invariant c.args.self.now c.self.view_is c.args.key (ap is_some c.requires) (c.requires ∙ ap Some c.if-told.false)
    (record { nodes = c.unlink.new.nodes; told = c.self.inside.told; waiting = c.unlink.new.ends; told_count = c.self.inside.told_count; serials = c.self.inside.serials })
    c.unlink.result refl c.unlink.ensures.links c.unlink.ensures.gone c.unlink.ensures.others c.unlink.ensures.state c.unlink.ensures.len c.unlink.ensures.capacity refl refl).state

pub returns-else-told-clause-off : goal.returns-else-told-clause-off
returns-else-told-clause-off g c =
    off-list c.args.self.now _ c.args.key (in-order c.self.inside c.self.invariant c.args.self.now c.self.view_is) (ap is_some c.requires) (returns-else-told-clause-lists g c) (ap (λ (v : ListView _ _). v.serials) c.self.view_is)

pub returns-else-told-clause-left : goal.returns-else-told-clause-left
returns-else-told-clause-left g c =
    left-without c.args.key (returns-else-told-clause-lists g c) (ap (λ (v : ListView _ _). v.serials) c.self.view_is)
