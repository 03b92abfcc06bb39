use Rattle.std.proofs.Common.{◌≡◌, ◌≤◌, vec_len}
use Rattle.std.specs.Vec.{vec_capacity}
use Rattle.std.specs.VecDeque.{deque_len, deque_capacity}
use Rattle.event_listener.specs.Notices.{Draws}
use Rattle.event_listener.proofs.recording.draw.Given as goal

abbrev pub invariant-loop : goal.invariant-loop
invariant-loop g l =
    record {
      can : g.N.Notification.can_give l.notice;
      drawn : Draws g.N.Notification.gives l.fn.notice l.tags.items l.notice;
      same : l.given.items ≡ l.tags.items;
      count : vec_len l.tags ≡ l.counter;
      counted : deque_len l.given ≡ l.counter;
      room : l.many ≤ vec_capacity l.tags;
      given_room : l.many ≤ deque_capacity l.given;
    }
