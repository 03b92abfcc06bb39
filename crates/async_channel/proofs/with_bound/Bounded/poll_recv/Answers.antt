use Rattle.std.proofs.Common.{rules, ◌≡◌, ap}
use Rattle.channel_calls.specs.Calls.{recv_ask}
use Rattle.channel_cells.specs.Channel.{standing_of}
use Rattle.async_channel.specs.Parties.{party_of}
use Rattle.async_channel.proofs.Parties.{polled_kept}
use Rattle.async_channel.proofs.with_bound.Bounded.poll_recv.Goals as goal

pub returns-clause-called : goal.returns-clause-called
returns-clause-called g c =
    let same : standing_of c.take-seat.result.0 ≡ party_of c.args.waits.now.seat = search rules in
    let is : c.take-seat.result.1 ≡ c.args.waits.now.key = search rules in
    let left : c.rest.new.self.key ≡ c.poll_recv-polled.result.1.key = search rules in
    (c.poll_recv-polled.result.1.message, polled_kept recv_ask _ _ _ _ _ c.arm-task.result _ c.poll_recv-polled.result.1 c.poll_recv-polled.result.2 _ _ same is left (ap (λ x. party_of x) c.rest.ensures.0) c.poll_recv-polled.ensures.called)
