use Rattle.std.proofs.Common.{◌≡◌, ◌+◌, ◌-◌, ◌*◌, ◌≤◌, [], refl, sym, ap, subst, ◌∙◌, arith, take}
use Rattle.std.specs.Option.{option_to_list}
use Rattle.event_listener.specs.declared.node.Nodes.{Nodes}
use Rattle.event_listener.specs.Lists.{ListView, tasks_of}
use Rattle.event_listener.specs.Notices.{Woken}
use Rattle.event_listener.proofs.InsideLemmas.{under, underway, told-more, told-fits, ended, run-cost, run-live, next-present, next-there, in-order}
use Rattle.event_listener.proofs.NoticeLemmas.{Sofar-more, refused, notified-none}
use Rattle.event_listener.proofs.LeftLemmas.{left-notified}
use Rattle.event_listener.proofs.list.List.tell.Goals.{in-Some-task_of, in_default-task_of}
use Rattle.event_listener.proofs.list.List.tell.Goals as goal

pub loop-i-init : goal.loop-i-init
loop-i-init g c =
    let begun = underway c.self.inside c.self.invariant c.args.self.now c.self.view_is c.args.many c.requires.waiting in
    let visits = ap (λ (v : ListView _ _). v.visits) c.self.view_is in
    let looks = ap (λ (v : ListView _ _). v.looks) c.self.view_is in
    record {
      underway = begun.0;
      sofar = record { tags = []; count = refl; drawn = refl; lists = begun.1 ∙ sym (notified-none c.args.additional c.args.self.now.lists); woken = refl };
      can = c.requires.can_give;
      visits = omega (arith, visits);
      looks = omega (arith, looks);
      serials = ap (λ (v : ListView _ _). v.serials) c.self.view_is;
      room = ap (λ (v : ListView _ _). v.room) c.self.view_is;
    }

pub unreachable-requires : goal.unreachable-requires
unreachable-requires g c = next-there c.loop-i.invariant.underway c.loop-i-test.true c.in_default.not-Some

pub restate-was-requires : goal.restate-was-requires
restate-was-requires g c = record { present = next-present c.in-Some.at c.loop-i.invariant.underway c.in-Some.is }

pub loop-i-preserved : goal.loop-i-preserved
loop-i-preserved g c =
    let more = told-more c.loop-i.invariant.underway (record { nodes = c.restate-was.new.nodes; told = c.loop-i.self-inside.told; waiting = c.loop-i.self-inside.waiting; told_count = c.loop-i.self-inside.told_count; serials = c.loop-i.self-inside.serials }) c.in-Some.at c.args.additional c.in-Ok.tag c.restate-was.result.0 c.restate-was.result.1 c.in-Some.is (record { after = c.restate-was.ensures.after; before = c.restate-was.ensures.before; now = c.restate-was.ensures.entry; others = c.restate-was.ensures.others; len = c.restate-was.ensures.stays.len; capacity = c.restate-was.ensures.stays.capacity; told = refl; waiting = refl; serials = refl }) (c.restate-was.ensures.next c.loop-i.self-inside.waiting) refl c.restate-was.ensures.was in
    let task = c.task_of.ensures more.task more.was in
    let wk : Woken g.S.Wakes.wakes c.loop-i.sink (tasks_of (take 1 (under c.loop-i.invariant.underway).waiting)) c.match-task_of.sink =
    elim c.match-task_of.branch [
      | in-Some-task_of w ↦ subst (λ r. Woken g.S.Wakes.wakes c.loop-i.sink r c.match-task_of.sink) (ap option_to_list (sym w.in-Some-task_of.is ∙ task) ∙ more.wakes) (c.match-task_of.sink, rw w.sink-is w.wake.ensures, refl)
      | in_default-task_of w ↦ subst (λ r. Woken g.S.Wakes.wakes c.loop-i.sink r c.match-task_of.sink) (ap option_to_list (sym w.in_default-task_of.is ∙ task) ∙ more.wakes) w.sink-is
    ] in
    record {
      underway = more.underway;
      sofar = Sofar-more g.N.Notification.gives g.S.Wakes.wakes c.args.additional c.loop-i.i c.args.notice c.loop-i.notice c.next_tag.new.self c.args.self.now.lists (under c.loop-i.invariant.underway) (under more.underway) c.args.sink.now c.loop-i.sink c.match-task_of.sink c.in-Ok.tag c.loop-i.invariant.sofar c.in-Ok.ensures.gives more.lists wk;
      can = c.next_tag.ensures.again;
      visits = omega (arith, c.restate-was.ensures.stays.visits, c.loop-i.invariant.visits);
      looks = omega (arith, c.restate-was.ensures.stays.looks, c.loop-i.invariant.looks);
      serials = c.loop-i.invariant.serials;
      room = (λ i. c.restate-was.ensures.stays.capacity i - c.restate-was.ensures.stays.len i) ∙ c.loop-i.invariant.room;
    }

pub move_run-requires : goal.move_run-requires
move_run-requires g c =
    let live = run-live c.loop-i.invariant.underway in
    record { first_present = live.0; last_present = live.1; next_present = next-present c.in-Some.at c.loop-i.invariant.underway c.in-Some.is; told_present = live.3 }

pub overflow_add-self : goal.overflow_add-self
overflow_add-self g c = let f = told-fits c.loop-i.invariant.underway in omega (arith, f)

pub invariant_of-self : goal.invariant_of-self
invariant_of-self g c =
    let end = ended c.loop-i.invariant.underway (record { nodes = c.move_run.new.nodes; told = c.move_run.new.told; waiting = c.move_run.new.waiting; told_count = c.loop-i.self-inside.told_count + c.loop-i.i; serials = c.loop-i.self-inside.serials }) c.args.self.now (in-order c.self.inside c.self.invariant c.args.self.now c.self.view_is) c.args.additional c.loop-i.invariant.sofar.tags c.loop-i.invariant.sofar.lists c.loop-i.invariant.serials (λ ks front back le ne h. c.move_run.ensures.chains ks front back le (sym c.in-Some.is ∙ ne) h) c.move_run.ensures.entries c.move_run.ensures.stays.len c.move_run.ensures.stays.capacity refl refl in
    end.sound

pub returns-in_default-next_tag-clause-left : goal.returns-in_default-next_tag-clause-left
returns-in_default-next_tag-clause-left g c =
    let end = ended c.loop-i.invariant.underway (record { nodes = c.move_run.new.nodes; told = c.move_run.new.told; waiting = c.move_run.new.waiting; told_count = c.loop-i.self-inside.told_count + c.loop-i.i; serials = c.loop-i.self-inside.serials }) c.args.self.now (in-order c.self.inside c.self.invariant c.args.self.now c.self.view_is) c.args.additional c.loop-i.invariant.sofar.tags c.loop-i.invariant.sofar.lists c.loop-i.invariant.serials (λ ks front back le ne h. c.move_run.ensures.chains ks front back le (sym c.in-Some.is ∙ ne) h) c.move_run.ensures.entries c.move_run.ensures.stays.len c.move_run.ensures.stays.capacity refl refl in
    left-notified c.args.additional c.loop-i.invariant.sofar.tags end.lists c.loop-i.invariant.serials

pub returns-in_default-next_tag-clause-room : goal.returns-in_default-next_tag-clause-room
returns-in_default-next_tag-clause-room g c = (λ i. c.move_run.ensures.stays.capacity i - c.move_run.ensures.stays.len i) ∙ c.loop-i.invariant.room

pub returns-in_default-next_tag-clause-visits : goal.returns-in_default-next_tag-clause-visits
returns-in_default-next_tag-clause-visits g c =
    run-cost c.loop-i.invariant.underway c.loop-i.self-inside.nodes.last c.move_run.new.nodes.last c.args.self.now.visits (λ q. ap (λ (n : Nodes _ _). n.last) (c.move_run.ensures.none q)) (λ q. (c.move_run.ensures.one q).visits) c.move_run.ensures.stays.visits c.loop-i.invariant.visits

pub returns-in_default-next_tag-clause-looks : goal.returns-in_default-next_tag-clause-looks
returns-in_default-next_tag-clause-looks g c =
    run-cost c.loop-i.invariant.underway c.loop-i.self-inside.nodes.looks c.move_run.new.nodes.looks c.args.self.now.looks (λ q. ap (λ (n : Nodes _ _). n.looks) (c.move_run.ensures.none q)) (λ q. (c.move_run.ensures.one q).looks) c.move_run.ensures.stays.looks c.loop-i.invariant.looks

pub move_run-requires-2 : goal.move_run-requires-2
move_run-requires-2 g c =
    let live = run-live c.loop-i.invariant.underway in
    record { first_present = live.0; last_present = live.1; next_present = live.2; told_present = live.3 }

pub overflow_add-self-2 : goal.overflow_add-self-2
overflow_add-self-2 g c = let f = told-fits c.loop-i.invariant.underway in omega (arith, f)

pub invariant_of-self-2 : goal.invariant_of-self-2
invariant_of-self-2 g c =
    let all : c.loop-i.i ≡ c.args.many = omega (arith, c.loop-i-test.false) in
    let end = ended c.loop-i.invariant.underway (record { nodes = c.move_run-2.new.nodes; told = c.move_run-2.new.told; waiting = c.move_run-2.new.waiting; told_count = c.loop-i.self-inside.told_count + c.args.many; serials = c.loop-i.self-inside.serials }) c.args.self.now (in-order c.self.inside c.self.invariant c.args.self.now c.self.view_is) c.args.additional c.loop-i.invariant.sofar.tags c.loop-i.invariant.sofar.lists c.loop-i.invariant.serials c.move_run-2.ensures.chains c.move_run-2.ensures.entries c.move_run-2.ensures.stays.len c.move_run-2.ensures.stays.capacity (ap (λ n. c.loop-i.self-inside.told_count + n) (sym all)) refl in
    end.sound

pub returns-clause-left : goal.returns-clause-left
returns-clause-left g c =
    let all : c.loop-i.i ≡ c.args.many = omega (arith, c.loop-i-test.false) in
    let end = ended c.loop-i.invariant.underway (record { nodes = c.move_run-2.new.nodes; told = c.move_run-2.new.told; waiting = c.move_run-2.new.waiting; told_count = c.loop-i.self-inside.told_count + c.args.many; serials = c.loop-i.self-inside.serials }) c.args.self.now (in-order c.self.inside c.self.invariant c.args.self.now c.self.view_is) c.args.additional c.loop-i.invariant.sofar.tags c.loop-i.invariant.sofar.lists c.loop-i.invariant.serials c.move_run-2.ensures.chains c.move_run-2.ensures.entries c.move_run-2.ensures.stays.len c.move_run-2.ensures.stays.capacity (ap (λ n. c.loop-i.self-inside.told_count + n) (sym all)) refl in
    left-notified c.args.additional c.loop-i.invariant.sofar.tags end.lists c.loop-i.invariant.serials

pub returns-clause-room : goal.returns-clause-room
returns-clause-room g c = (λ i. c.move_run-2.ensures.stays.capacity i - c.move_run-2.ensures.stays.len i) ∙ c.loop-i.invariant.room

pub returns-clause-visits : goal.returns-clause-visits
returns-clause-visits g c =
    let all : c.loop-i.i ≡ c.args.many = omega (arith, c.loop-i-test.false) in subst (λ n. c.move_run-2.new.nodes.last ≤ c.args.self.now.visits + 5 * n) all (run-cost c.loop-i.invariant.underway c.loop-i.self-inside.nodes.last c.move_run-2.new.nodes.last c.args.self.now.visits (λ q. ap (λ (n : Nodes _ _). n.last) (c.move_run-2.ensures.none q)) (λ q. (c.move_run-2.ensures.one q).visits) c.move_run-2.ensures.stays.visits c.loop-i.invariant.visits)

pub returns-clause-looks : goal.returns-clause-looks
returns-clause-looks g c =
    let all : c.loop-i.i ≡ c.args.many = omega (arith, c.loop-i-test.false) in subst (λ n. c.move_run-2.new.nodes.looks ≤ c.args.self.now.looks + 5 * n) all (run-cost c.loop-i.invariant.underway c.loop-i.self-inside.nodes.looks c.move_run-2.new.nodes.looks c.args.self.now.looks (λ q. ap (λ (n : Nodes _ _). n.looks) (c.move_run-2.ensures.none q)) (λ q. (c.move_run-2.ensures.one q).looks) c.move_run-2.ensures.stays.looks c.loop-i.invariant.looks)

pub returns-in_default-next_tag-clause-notified : goal.returns-in_default-next_tag-clause-notified
returns-in_default-next_tag-clause-notified g c =
    let end = ended c.loop-i.invariant.underway (record { nodes = c.move_run.new.nodes; told = c.move_run.new.told; waiting = c.move_run.new.waiting; told_count = c.loop-i.self-inside.told_count + c.loop-i.i; serials = c.loop-i.self-inside.serials }) c.args.self.now (in-order c.self.inside c.self.invariant c.args.self.now c.self.view_is) c.args.additional c.loop-i.invariant.sofar.tags c.loop-i.invariant.sofar.lists c.loop-i.invariant.serials (λ ks front back le ne h. c.move_run.ensures.chains ks front back le (sym c.in-Some.is ∙ ne) h) c.move_run.ensures.entries c.move_run.ensures.stays.len c.move_run.ensures.stays.capacity refl refl in
    let lt = c.loop-i-test.true in
    let no = refused g.N.Notification.gives c.loop-i.notice c.next_tag.new.self c.next_tag.result c.in_default-next_tag.not-Ok c.next_tag.ensures.gives in
    record {
      tags = c.loop-i.invariant.sofar.tags;
      rest = c.loop-i.notice;
      drawn = c.loop-i.invariant.sofar.drawn;
      lists = end.lists;
      woken = c.loop-i.invariant.sofar.woken;
      answer = (sym c.loop-i.invariant.sofar.count, omega (arith, c.loop-i.invariant.sofar.count, lt), no.0, c.next_tag.new.self, no.1);
    }

pub returns-clause-notified : goal.returns-clause-notified
returns-clause-notified g c =
    let all : c.loop-i.i ≡ c.args.many = omega (arith, c.loop-i-test.false) in
    let end = ended c.loop-i.invariant.underway (record { nodes = c.move_run-2.new.nodes; told = c.move_run-2.new.told; waiting = c.move_run-2.new.waiting; told_count = c.loop-i.self-inside.told_count + c.args.many; serials = c.loop-i.self-inside.serials }) c.args.self.now (in-order c.self.inside c.self.invariant c.args.self.now c.self.view_is) c.args.additional c.loop-i.invariant.sofar.tags c.loop-i.invariant.sofar.lists c.loop-i.invariant.serials c.move_run-2.ensures.chains c.move_run-2.ensures.entries c.move_run-2.ensures.stays.len c.move_run-2.ensures.stays.capacity (ap (λ n. c.loop-i.self-inside.told_count + n) (sym all)) refl in
    record {
      tags = c.loop-i.invariant.sofar.tags;
      rest = c.loop-i.notice;
      drawn = c.loop-i.invariant.sofar.drawn;
      lists = end.lists;
      woken = c.loop-i.invariant.sofar.woken;
      answer = (refl, c.loop-i.invariant.sofar.count ∙ all);
    }
