use Rattle.std.proofs.Common.{arith}
use Rattle.concurrent_queue.proofs.Guards.{sits}
use Rattle.concurrent_queue.proofs.shared.table.SharedTable.seat.Goals as goal

pub load_new_seat-requires : goal.load_new_seat-requires
load_new_seat-requires g c = (omega (arith, c.args.self.now.wide, c.slot_count-slots.ensures), sits _ _)
