use Rattle.std.proofs.Common.{refl, sym, subst}
use Rattle.event_listener.specs.Runs.{Makes}
use Rattle.event_listener.specs.declared.run.ListReply.TheVariants as reply
use Rattle.event_listener.proofs.list.List.make.Goals as goal

pub returns-in-Reserve : goal.returns-in-Reserve
returns-in-Reserve g c =
    subst (λ call. Makes g.S.Wakes.wakes c.args.replies.now.items call (reply.Reserve c.reserve.result) c.args.self.now c.args.sink.now c.reserve.new.self c.args.sink.now) (sym c.in-Reserve.is) (
      c.reserve.result,
      refl,
      record {
        lists_are = c.reserve.ensures.lists;
        serials_are = c.reserve.ensures.serials;
        kept_room = c.reserve.ensures.kept_room;
        room = c.reserve.ensures.room;
        succeeds = c.reserve.ensures.succeeds;
        visits = c.reserve.ensures.visits;
      },
      refl,
    )
