use Rattle.std.specs.Prelude.{◌≡◌, ℕ}
use Rattle.concurrent_queue.specs.declared.cells.QueueForm.{QueueForm}
use Rattle.channel_calls.specs.Blocks.{Looks}
use Rattle.channel_calls.specs.Deeds.{Done}
use Rattle.channel_calls.proofs.blocking.looks.Given as goal

-- the looks made so far led here, and the call is the one that was handed in
abbrev pub invariant-loop : goal.invariant-loop
invariant-loop g l =
    ((n : ℕ) × Looks (Done g.C.ChannelCells.did g.S.Wakes.wakes) n l.fn.call (l.initial.cells, l.initial.sink) (l.cells, l.sink))
    × ((f : QueueForm) → g.C.ChannelCells.has_form l.initial.cells f → g.C.ChannelCells.has_form l.cells f)
    × (l.call ≡ l.fn.call)
