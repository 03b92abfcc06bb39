use Rattle.std.proofs.Common.{◌≡◌, ◌+◌, ◌-◌, ◌*◌, ◌≤◌}
use Rattle.slab.specs.Slab.{slab_len}
use Rattle.event_listener.proofs.InsideLemmas.{Underway, under}
use Rattle.event_listener.proofs.NoticeLemmas.{Sofar}
use Rattle.event_listener.proofs.list.List.tell.Given as goal

abbrev pub invariant-loop-i : goal.invariant-loop-i
invariant-loop-i g l =
    record {
      underway : Underway l.self-inside l.i l.many l.last l.next;
      sofar : Sofar g.N.Notification.gives g.S.Wakes.wakes l.additional l.i l.fn.notice l.notice l.fn.self.lists (under underway) l.fn.sink l.sink;
      can : g.N.Notification.can_give l.notice;
      visits : l.self-inside.nodes.last ≤ l.fn.self.visits + 2 * l.i;
      looks : l.self-inside.nodes.looks ≤ l.fn.self.looks + 2 * l.i;
      serials : l.self-inside.serials ≡ l.fn.self.serials;
      room : l.self-inside.nodes.slab.capacity - slab_len l.self-inside.nodes.slab ≡ l.fn.self.room;
    }
