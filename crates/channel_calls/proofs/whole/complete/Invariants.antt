use Rattle.std.specs.Prelude.{ℕ, Option}
use Rattle.concurrent_queue.specs.declared.cells.QueueForm.{QueueForm}
use Rattle.channel_calls.specs.Deeds.{Done}
use Rattle.channel_calls.specs.Replies.{MayEnd}
use Rattle.channel_calls.specs.Walks.{Leads}
use Rattle.channel_calls.specs.declared.reply.Reply.{Reply}
use Rattle.channel_calls.proofs.whole.complete.Given as goal

-- the steps made so far led here, where the cells stand, and what the call may still answer it might have answered at first
abbrev pub invariant-loop : goal.invariant-loop
invariant-loop g l =
    ((n : ℕ) × Leads (Done g.C.ChannelCells.did g.S.Wakes.wakes) n (l.initial.cells, l.initial.sink) l.fn.call.stage (l.cells, l.sink) l.stage)
    × ((f : QueueForm) → g.C.ChannelCells.has_form l.initial.cells f → g.C.ChannelCells.has_form l.cells f)
    × ((f : QueueForm) → g.C.ChannelCells.has_form l.initial.cells f → (r : Reply g.row.T.Denot) (m : Option g.row.T.Denot) → MayEnd f l.stage r m → MayEnd f l.fn.call.stage r m)
    × g.C.ChannelCells.stands l.stage l.cells
