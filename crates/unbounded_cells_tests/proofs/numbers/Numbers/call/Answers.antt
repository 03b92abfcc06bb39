use Rattle.unbounded_cells.specs.Seated.{party_of}
use Rattle.unbounded_cells.proofs.CallsEnd.{begun_stands, cells_call_ends}
use Rattle.concurrent_queue.specs.history.Runs.{fresh}
use Rattle.unbounded_cells_tests.proofs.numbers.Numbers.call.Goals as goal

pub complete-reply-requires : goal.complete-reply-requires
complete-reply-requires g c =
    let b = c.begin-cells.ensures in
    record { stands = begun_stands (party_of c.begin-cells.result.seat.seat).form (party_of c.begin-cells.result.seat.seat).state c.args.ask fresh b.form b.begun c.new.result.state c.new.ensures.asked }

pub rest-idle-requires : goal.rest-idle-requires
rest-idle-requires g c =
    let b = c.begin-cells.ensures in
    record { rests = (cells_call_ends c.args.ask c.requires c.new.result c.new.ensures.asked fresh c.begin-cells.result c.complete-reply.new.cells c.complete-reply.result b.form b.begun c.complete-reply.ensures.walked).2 }
