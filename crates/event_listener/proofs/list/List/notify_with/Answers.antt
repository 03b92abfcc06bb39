use Rattle.std.proofs.Common.{◌*◌, ◌≤◌, subst}
use Rattle.event_listener.proofs.RunLemmas.{handed-out}
use Rattle.event_listener.proofs.list.List.notify_with.Goals as goal

pub returns-clause-answer : goal.returns-clause-answer
returns-clause-answer g c =
    (handed-out g.S.Wakes.wakes c.args.additional c.args.count (record { count = c.args.count; additional = c.args.additional; tags = c.args.tags }) c.args.self.now.lists c.notify.new.self.lists c.args.sink.now c.notify.new.sink c.notify.result c.notify.ensures.notified).answer

pub returns-clause-lists : goal.returns-clause-lists
returns-clause-lists g c =
    (handed-out g.S.Wakes.wakes c.args.additional c.args.count (record { count = c.args.count; additional = c.args.additional; tags = c.args.tags }) c.args.self.now.lists c.notify.new.self.lists c.args.sink.now c.notify.new.sink c.notify.result c.notify.ensures.notified).lists

pub returns-clause-woken : goal.returns-clause-woken
returns-clause-woken g c =
    (handed-out g.S.Wakes.wakes c.args.additional c.args.count (record { count = c.args.count; additional = c.args.additional; tags = c.args.tags }) c.args.self.now.lists c.notify.new.self.lists c.args.sink.now c.notify.new.sink c.notify.result c.notify.ensures.notified).woken

pub returns-clause-visits : goal.returns-clause-visits
returns-clause-visits g c =
    subst (λ n. c.notify.new.self.visits ≤ 5 * n) (handed-out g.S.Wakes.wakes c.args.additional c.args.count (record { count = c.args.count; additional = c.args.additional; tags = c.args.tags }) c.args.self.now.lists c.notify.new.self.lists c.args.sink.now c.notify.new.sink c.notify.result c.notify.ensures.notified).told c.notify.ensures.visits
