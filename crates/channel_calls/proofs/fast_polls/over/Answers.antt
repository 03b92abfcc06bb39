use Rattle.std.proofs.Common.{Option, subst}
use Rattle.channel_calls.specs.Walks.{Takes}
use Rattle.channel_calls.specs.Replies.{FollowsTurn}
use Rattle.channel_calls.specs.declared.reply.Reply.{Reply}
use Rattle.channel_calls.proofs.fast_polls.over.Goals as goal

pub returns-in-None : goal.returns-in-None
returns-in-None g c =
    let s = c.takes-stage.result.stage in
    record {
      goes = (
        subst (λ (o : Option (Reply g.row.T.Denot)). Takes c.args.turn s o) c.in-None.is c.takes-stage.ensures.goes,
        λ b. subst (λ (o : Option (Reply g.row.T.Denot)). FollowsTurn b c.args.turn s o) c.in-None.is (c.takes-stage.ensures.follows b),
      );
    }
