use Rattle.std.specs.Prelude.{◌≡◌, ℕ, suc, ◌+◌, List, ◌++◌, length}
use Rattle.std.specs.Vec.{vec_len, vec_capacity, vec_ptr}
use Rattle.concurrent_queue.specs.Replies.{MayCall, MayPop}
use Rattle.concurrent_queue.specs.declared.call.QueueReply.{QueueReply}
use Rattle.concurrent_queue.specs.declared.cells.QueueForm.{QueueForm}
use Rattle.channel_calls.specs.Deeds.{Done}
use Rattle.channel_calls.specs.Filling.{room_in}
use Rattle.channel_calls.proofs.Gathering.{Gathers}
use Rattle.channel_calls.proofs.filling.recv_many_into.Given as goal

-- these were taken so far and stand behind what was there, in the same block; so many more fit after the next one; the steps made so far
-- led here; and the call is still a pop
abbrev pub invariant-loop : goal.invariant-loop
invariant-loop g l =
    (taken : List g.row.T.Denot) × (more : ℕ)
    × ((l.into.items ≡ l.initial.into.items ++ taken) × (vec_len l.into ≡ vec_len l.initial.into + length taken) × (vec_len l.into + suc more ≡ vec_capacity l.into)
    × (vec_capacity l.into ≡ vec_capacity l.initial.into) × (vec_ptr l.into ≡ vec_ptr l.initial.into) × (l.before ≡ vec_len l.initial.into))
    × Gathers (Done g.C.ChannelCells.did g.S.Wakes.wakes) (room_in l.initial.into) (l.initial.cells, l.initial.sink) l.call taken more (l.cells, l.sink)
    × ((f : QueueForm) → g.C.ChannelCells.has_form l.initial.cells f → g.C.ChannelCells.has_form l.cells f)
    × ((f : QueueForm) → g.C.ChannelCells.has_form l.initial.cells f → (y : QueueReply g.row.T.Denot) → MayCall f l.call.state y → MayPop y)
