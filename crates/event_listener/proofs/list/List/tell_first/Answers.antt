use Rattle.std.proofs.Common.{◌+◌, [], ◌∷◌, refl, ap, arith, ◌∙◌, take}
use Rattle.std.specs.Option.{option_to_list}
use Rattle.event_listener.specs.Lists.{Lists, ListView, notified, tasks_of}
use Rattle.event_listener.proofs.InsideLemmas.{underway, told-more, told-fits, ended, run-live, next-present, first-there, in-order}
use Rattle.event_listener.proofs.LeftLemmas.{left-notified}
use Rattle.event_listener.proofs.list.List.tell_first.Goals as goal

pub unreachable-requires : goal.unreachable-requires
unreachable-requires g c = first-there c.self.inside c.self.invariant c.args.self.now c.self.view_is c.requires.waiting c.in_default.not-Some

pub restate-was-requires : goal.restate-was-requires
restate-was-requires g c =
    let begun = underway c.self.inside c.self.invariant c.args.self.now c.self.view_is 1 c.requires.waiting in
    record { present = next-present c.in-Some.at begun.0 c.in-Some.is }

pub move_run-requires : goal.move_run-requires
move_run-requires g c =
    let begun = underway c.self.inside c.self.invariant c.args.self.now c.self.view_is 1 c.requires.waiting in
    let more = told-more begun.0 (record { nodes = c.restate-was.new.nodes; told = c.self.inside.told; waiting = c.self.inside.waiting; told_count = c.self.inside.told_count; serials = c.self.inside.serials }) c.in-Some.at c.args.additional c.args.tag c.restate-was.result.0 c.restate-was.result.1 c.in-Some.is (record { after = c.restate-was.ensures.after; before = c.restate-was.ensures.before; now = c.restate-was.ensures.entry; others = c.restate-was.ensures.others; len = c.restate-was.ensures.stays.len; capacity = c.restate-was.ensures.stays.capacity; told = refl; waiting = refl; serials = refl }) (c.restate-was.ensures.next c.self.inside.waiting) refl c.restate-was.ensures.was in
    let live = run-live more.underway in
    record { first_present = live.0; last_present = live.1; next_present = live.2; told_present = live.3 }

pub overflow_add-self : goal.overflow_add-self
overflow_add-self g c =
    let begun = underway c.self.inside c.self.invariant c.args.self.now c.self.view_is 1 c.requires.waiting in
    let more = told-more begun.0 (record { nodes = c.restate-was.new.nodes; told = c.self.inside.told; waiting = c.self.inside.waiting; told_count = c.self.inside.told_count; serials = c.self.inside.serials }) c.in-Some.at c.args.additional c.args.tag c.restate-was.result.0 c.restate-was.result.1 c.in-Some.is (record { after = c.restate-was.ensures.after; before = c.restate-was.ensures.before; now = c.restate-was.ensures.entry; others = c.restate-was.ensures.others; len = c.restate-was.ensures.stays.len; capacity = c.restate-was.ensures.stays.capacity; told = refl; waiting = refl; serials = refl }) (c.restate-was.ensures.next c.self.inside.waiting) refl c.restate-was.ensures.was in
    let f = told-fits more.underway in
    omega (arith, f)

pub invariant_of-self : goal.invariant_of-self
invariant_of-self g c =
    let begun = underway c.self.inside c.self.invariant c.args.self.now c.self.view_is 1 c.requires.waiting in
    let more = told-more begun.0 (record { nodes = c.restate-was.new.nodes; told = c.self.inside.told; waiting = c.self.inside.waiting; told_count = c.self.inside.told_count; serials = c.self.inside.serials }) c.in-Some.at c.args.additional c.args.tag c.restate-was.result.0 c.restate-was.result.1 c.in-Some.is (record { after = c.restate-was.ensures.after; before = c.restate-was.ensures.before; now = c.restate-was.ensures.entry; others = c.restate-was.ensures.others; len = c.restate-was.ensures.stays.len; capacity = c.restate-was.ensures.stays.capacity; told = refl; waiting = refl; serials = refl }) (c.restate-was.ensures.next c.self.inside.waiting) refl c.restate-was.ensures.was in
    let end = ended more.underway (record { nodes = c.move_run.new.nodes; told = c.move_run.new.told; waiting = c.move_run.new.waiting; told_count = c.self.inside.told_count + 1; serials = c.self.inside.serials }) c.args.self.now (in-order c.self.inside c.self.invariant c.args.self.now c.self.view_is) c.args.additional (c.args.tag ∷ []) (more.lists ∙ ap (notified c.args.additional (c.args.tag ∷ [])) begun.1) (ap (λ (v : ListView _ _). v.serials) c.self.view_is) c.move_run.ensures.chains c.move_run.ensures.entries c.move_run.ensures.stays.len c.move_run.ensures.stays.capacity refl refl in
    end.sound

pub returns-clause-lists : goal.returns-clause-lists
returns-clause-lists g c =
    let begun = underway c.self.inside c.self.invariant c.args.self.now c.self.view_is 1 c.requires.waiting in
    let more = told-more begun.0 (record { nodes = c.restate-was.new.nodes; told = c.self.inside.told; waiting = c.self.inside.waiting; told_count = c.self.inside.told_count; serials = c.self.inside.serials }) c.in-Some.at c.args.additional c.args.tag c.restate-was.result.0 c.restate-was.result.1 c.in-Some.is (record { after = c.restate-was.ensures.after; before = c.restate-was.ensures.before; now = c.restate-was.ensures.entry; others = c.restate-was.ensures.others; len = c.restate-was.ensures.stays.len; capacity = c.restate-was.ensures.stays.capacity; told = refl; waiting = refl; serials = refl }) (c.restate-was.ensures.next c.self.inside.waiting) refl c.restate-was.ensures.was in
    let end = ended more.underway (record { nodes = c.move_run.new.nodes; told = c.move_run.new.told; waiting = c.move_run.new.waiting; told_count = c.self.inside.told_count + 1; serials = c.self.inside.serials }) c.args.self.now (in-order c.self.inside c.self.invariant c.args.self.now c.self.view_is) c.args.additional (c.args.tag ∷ []) (more.lists ∙ ap (notified c.args.additional (c.args.tag ∷ [])) begun.1) (ap (λ (v : ListView _ _). v.serials) c.self.view_is) c.move_run.ensures.chains c.move_run.ensures.entries c.move_run.ensures.stays.len c.move_run.ensures.stays.capacity refl refl in
    end.lists

pub returns-clause-task : goal.returns-clause-task
returns-clause-task g c =
    let begun = underway c.self.inside c.self.invariant c.args.self.now c.self.view_is 1 c.requires.waiting in
    let more = told-more begun.0 (record { nodes = c.restate-was.new.nodes; told = c.self.inside.told; waiting = c.self.inside.waiting; told_count = c.self.inside.told_count; serials = c.self.inside.serials }) c.in-Some.at c.args.additional c.args.tag c.restate-was.result.0 c.restate-was.result.1 c.in-Some.is (record { after = c.restate-was.ensures.after; before = c.restate-was.ensures.before; now = c.restate-was.ensures.entry; others = c.restate-was.ensures.others; len = c.restate-was.ensures.stays.len; capacity = c.restate-was.ensures.stays.capacity; told = refl; waiting = refl; serials = refl }) (c.restate-was.ensures.next c.self.inside.waiting) refl c.restate-was.ensures.was in
    ap option_to_list (c.task_of.ensures more.task more.was) ∙ more.wakes
    ∙ ap (λ (l : Lists _ _). tasks_of (take 1 l.waiting)) begun.1

pub returns-clause-left : goal.returns-clause-left
returns-clause-left g c = left-notified c.args.additional (c.args.tag ∷ []) (returns-clause-lists g c) (ap (λ (v : ListView _ _). v.serials) c.self.view_is)

pub returns-clause-visits : goal.returns-clause-visits
returns-clause-visits g c =
    let one = c.move_run.ensures.one c.in-Some.is in
    let v = ap (λ (v : ListView _ _). v.visits) c.self.view_is in
    omega (arith, one.visits, c.restate-was.ensures.stays.visits, v)

pub returns-clause-looks : goal.returns-clause-looks
returns-clause-looks g c =
    let one = c.move_run.ensures.one c.in-Some.is in
    let v = ap (λ (v : ListView _ _). v.looks) c.self.view_is in
    omega (arith, one.looks, c.restate-was.ensures.stays.looks, v)
