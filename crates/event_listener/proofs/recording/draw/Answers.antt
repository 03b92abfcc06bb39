use Rattle.std.proofs.Common.{List, inr, sym, subst, arith, rules}
use Rattle.event_listener.specs.Notices.{Draws}
use Rattle.event_listener.proofs.NoticeLemmas.{Draws-more}
use Rattle.event_listener.proofs.recording.draw.Goals as goal

pub returns-in_default-next_tag-clause-first : goal.returns-in_default-next_tag-clause-first
returns-in_default-next_tag-clause-first g c =
    let count = c.loop.invariant.count in
    let long = c.loop.tags.ok.0 in
    let here = c.loop-test.true in
    record {
      rest = c.loop.notice;
      drawn = c.loop.invariant.drawn;
      all = inr (omega (arith, count, long, here), c.in_default-next_tag.field-0, c.next_tag.new.self, c.in_default-next_tag.ensures.gives);
    }

pub loop-preserved : goal.loop-preserved
loop-preserved g c =
    let i = c.loop.invariant in
    record {
      can = c.next_tag.ensures.again;
      drawn = subst (λ (ts : List g.row.N-Tag.Denot). Draws g.N.Notification.gives c.args.notice.now ts c.next_tag.new.self)
          (sym c.push_reserved.ensures.items)
          (Draws-more g.N.Notification.gives c.args.notice.now c.loop.tags.items c.loop.notice c.in-Ok.tag c.next_tag.new.self i.drawn c.in-Ok.ensures.gives);
      same = search rules;
      count = search rules;
      counted = search rules;
      room = search rules;
      given_room = search rules;
    }
