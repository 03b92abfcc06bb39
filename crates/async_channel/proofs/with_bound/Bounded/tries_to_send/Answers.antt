use Rattle.std.proofs.Common.{◌≡◌, Err, ap, inl, refl, sym}
use Rattle.channel_calls.specs.declared.error.Refused.TheVariants.{Plain}
use Rattle.channel_calls.specs.declared.error.TrySendError.TheVariants.{Full}
use Rattle.channel_calls.specs.declared.reply.Reply.TheVariants as reply
use Rattle.async_channel.proofs.Parties.{found_none, found_call, sent_tried}
use Rattle.async_channel.proofs.with_bound.Bounded.tries_to_send.Goals as goal

pub returns-in-Ok : goal.returns-in-Ok
returns-in-Ok g c = (
  sent_tried _ _ c.args.message c.in-Ok.over c.try_send-sent.result.0 c.try_send-sent.result.1 c.try_send-sent.ensures.called c.in-Ok.ensures.over,
  c.try_send-sent.ensures.rests,
  c.in-Ok.ensures.back _ c.args.message c.try_send-sent.ensures.refused,
)

pub returns-in-Err : goal.returns-in-Err
returns-in-Err g c = (
  c.in-Err.ensures.back _ c.args.message c.try_send-sent.ensures.refused,
  c.try_send-sent.ensures.called.1,
  c.try_send-sent.ensures.rests,
  found_call (reply.TrySend c.try_send-sent.result.0) (reply.TrySend (Err (Plain (Full c.in-Err.back)))) c.try_send-sent.result.1 (found_none _) c.try_send-sent.ensures.called (inl refl) (ap (λ x. reply.TrySend x) c.in-Err.ensures.over) tt,
)
