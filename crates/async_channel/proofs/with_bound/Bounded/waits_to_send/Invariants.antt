use Rattle.std.specs.Prelude.{◌≡◌, []}
use Rattle.channel_calls.specs.declared.stage.WaitList.TheVariants.{Sends}
use Rattle.channel_cells.specs.Channel.{id_of, seat_table, standing_of}
use Rattle.channel_history.specs.CallEnds.{Rests}
use Rattle.channel_history.specs.InHand.{listed_on}
use Rattle.async_channel.specs.Called.{HasOnlyFound, SendsThis}
use Rattle.async_channel.proofs.with_bound.Bounded.waits_to_send.Given as goal

-- its party's calls so far found nothing, and the message is the one that was handed in
abbrev pub invariant-loop : goal.invariant-loop
invariant-loop g l =
    (seat_table l.seat ≡ id_of l.fn.self.table) × Rests [] (listed_on Sends l.key) (standing_of l.seat) × HasOnlyFound (SendsThis l.fn.message) (standing_of l.fn.seat) (standing_of l.seat) × (l.message ≡ l.fn.message)
