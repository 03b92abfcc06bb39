-- A call of the queue that a call of the channel makes whole, over the cells of the seat whose view it goes by.
use Rattle.std.proofs.Common.{◌≡◌, ◌∙◌, inl, refl, sym, subst}
use Rattle.std.specs.Prelude.{Option, None, Some}
use Rattle.concurrent_queue.specs.Replies.{MayCall}
use Rattle.concurrent_queue.specs.Walked.{standing, Walked}
use Rattle.concurrent_queue.specs.declared.call.QueueReply.{QueueReply}
use Rattle.concurrent_queue.specs.declared.cells.QueueForm.{QueueForm}
use Rattle.concurrent_queue.specs.declared.history.cells.HistoryCells.{HistoryCells}
use Rattle.concurrent_queue.specs.declared.queue_call.QueueCall.{QueueCall}
use Rattle.concurrent_queue.specs.history.Calls.{HasMade, StandsAt}
use Rattle.channel_calls.specs.Deeds.{stepped}
use Rattle.channel_history.specs.Cells.{May, Did}
use Rattle.channel_history.specs.QueueCells.{calls, moves}
use Rattle.channel_history.specs.declared.party.Standing.{Standing}
use Rattle.channel_history.proofs.QueueCells.{queue_calls_move, cells_call_done}
use Rattle.channel_cells.specs.declared.machine.OfChannel.{OfChannel}

module _ {T W : Type 0} where
  abbrev form_at : HistoryCells T (Standing T W) OfChannel → QueueForm
  form_at c = c.seat.seat.me.0.form

  abbrev state_at : HistoryCells T (Standing T W) OfChannel → Standing T W
  state_at c = c.seat.seat.me.0.state

  abbrev IsSameSeat : HistoryCells T (Standing T W) OfChannel → HistoryCells T (Standing T W) OfChannel → Type 0
  IsSameSeat a b = (b.seat.seat.table_id ≡ a.seat.seat.table_id) × (b.seat.seat.me.0.who ≡ a.seat.seat.me.0.who) × (b.seat.seat.me.0.over ≡ a.seat.seat.me.0.over)

  -- this call may be stepped, whatever that leads to
  abbrev MayStep : QueueForm → Standing T W → QueueCall T → Type 0
  MayStep form s call = (after : QueueCall T) (o : Option (QueueReply T)) → May form (stepped call after o) s

  -- where it may, the cells stand at its first step
  pub stands_whole : (form : QueueForm) (s : Standing T W) (call whole : QueueCall T) → whole ≡ call → MayStep form s call → StandsAt (moves {T = T} {W = W}) (calls {T = T} {W = W}) form s (standing form whole.state)
  stands_whole form s call whole is may =
      let (purpose, stands) = (queue_calls_move T W).allowed form s call call None (may call None) in
      let within = (queue_calls_move T W).within form s call purpose stands in
      subst (λ (z : QueueCall T). StandsAt (moves {T = T} {W = W}) (calls {T = T} {W = W}) form s (standing form z.state)) (sym is) (within.1.2, inl (call, within, refl))

  -- and once it was made up to its answer, this is one step of the call of the channel
  pub did_whole : (a b : HistoryCells T (Standing T W) OfChannel) (call whole after : QueueCall T) (x : QueueReply T) → whole ≡ call → MayStep (form_at a) (state_at a) call → MayCall (form_at a) whole.state x
      → Walked (HasMade (moves {T = T} {W = W}) form_at state_at IsSameSeat) (form_at a) whole a x b
      → Did (form_at a) (stepped call after (Some x)) (state_at a) (state_at b) × (form_at b ≡ form_at a) × IsSameSeat a b
  did_whole a b call whole after x is may answers walked =
      let (purpose, stands) = (queue_calls_move T W).allowed (form_at a) (state_at a) call call None (may call None) in
      cells_call_done form_at state_at IsSameSeat (λ c. (refl, refl, refl)) (λ c d e p q. (q.0 ∙ p.0, q.1 ∙ p.1, q.2 ∙ p.2)) (HasMade (moves {T = T} {W = W}) form_at state_at IsSameSeat) (λ d c e made. made) call after purpose x a b stands
      (subst (λ (z : QueueCall T). MayCall (form_at a) z.state x) is answers)
      (subst (λ (z : QueueCall T). Walked (HasMade (moves {T = T} {W = W}) form_at state_at IsSameSeat) (form_at a) z a x b) is walked)
