use Rattle.std.specs.Prelude.{◌≡◌, ◌+◌, ◌-◌, ◌*◌, ◌^◌, ◌≤◌}
use Rattle.channel_world.proofs.Words.{vec_len, amount_of, calls_of, numbers_of}
use Rattle.channel_world.proofs.recorded.recording.Recording.finish.Given as goal

-- the parts and the amounts of the seats that are left, with those that were gathered; and each of these has a number of 32 bits
abbrev pub invariant-loop-seat : goal.invariant-loop-seat
invariant-loop-seat g l = record {
  parts : l.all.parts + vec_len l.seats ≡ l.self-inside.left + vec_len l.fn.seats;
  within : l.all.parts ≤ g.L.Ledger.parts;
  amounts : l.all.amount + amount_of (numbers_of l.seats.items) (calls_of l.seats.items)
      ≡ amount_of (numbers_of l.fn.seats.items) (calls_of l.fn.seats.items);
  small : numbers_of l.fn.seats.items + (2 ^ 32 - 1) * vec_len l.seats ≤ numbers_of l.seats.items + (2 ^ 32 - 1) * vec_len l.fn.seats;
}

abbrev pub decreases-loop-seat : goal.decreases-loop-seat
decreases-loop-seat g l = goal.left-loop-seat g l
