use Rattle.std.proofs.Common.{◌≡◌, Some, Result, Ok, Err, ℕ, MatchResult, refl, []}
use Rattle.std.specs.Global.{Vec}
use Rattle.channel_calls.specs.Asks.{first}
use Rattle.channel_calls.specs.Deeds.{Deed, Done}
use Rattle.channel_calls.specs.Walks.{WalkedTo}
use Rattle.channel_calls.specs.declared.ask.ChannelAsk.TheVariants as ask
use Rattle.channel_calls.specs.declared.error.Refused.{Refused}
use Rattle.channel_calls.specs.declared.error.TryRecvError.{TryRecvError}
use Rattle.channel_calls.specs.declared.reply.Reply.TheVariants as reply
use Rattle.channel_history.proofs.Cells.{CellsDid}
use Rattle.channel_cells.specs.Calls.{many_reply}
use Rattle.channel_cells.specs.Cells.{view_of, form_in, IsSameParty}
use Rattle.channel_cells.proofs.Calling.{begins_here, cells_may_end, cells_called}
use Rattle.channel_cells.specs.Channel.{standing_of}
use Rattle.channel_history.specs.InHand.{kept_on}
use Rattle.event_listener.specs.declared.key.Key.{Key}
use Rattle.channel_cells.proofs.Leaving.{may_ask_of, called_rests}
use Rattle.channel_cells.proofs.channel.ChannelTable.recv_many.Goals as goal

many : {T W X : Type 0} (did : Deed T W → X → X → Type 0) (n : ℕ) (s t : X) (r : Result (Vec T) (Refused TryRecvError Unit))
    → MatchResult r (λ messages. WalkedTo did (first (ask.RecvMany n)) s (reply.RecvMany (Ok messages.items)) t) (λ e. WalkedTo did (first (ask.RecvMany n)) s (reply.RecvMany (Err e)) t)
    → WalkedTo did (first (ask.RecvMany n)) s (many_reply r) t
many did n s t (Ok messages) h = h
many did n s t (Err e) h = h

many_keeps : {T : Type 0} (r : Result (Vec T) (Refused TryRecvError Unit)) (k : Key) → kept_on (many_reply r) (Some k) ≡ []
many_keeps (Ok messages) k = refl
many_keeps (Err e) k = refl

pub begin_on-cells-requires-clause-asks : goal.begin_on-cells-requires-clause-asks
begin_on-cells-requires-clause-asks g c = may_ask_of c.args.self.now (standing_of c.args.seat) (ask.RecvMany c.args.limit) tt c.requires.rests

pub recv_many-received-requires : goal.recv_many-received-requires
recv_many-received-requires g c = record { form = (_, refl); stands = begins_here c.begin_on-cells.ensures.begun }

pub end-seat-requires : goal.end-seat-requires
end-seat-requires g c =
    let wakes = g.S.Wakes.wakes in
    let r = c.recv_many-received in
    let d = many (Done (CellsDid form_in view_of IsSameParty) wakes) c.args.limit (c.begin_on-cells.result, c.args.sink.now) (r.new.cells, r.new.sink) r.result r.ensures.deeds in
    record { ended = cells_may_end wakes _ _ _ c.begin_on-cells.ensures.begun d }

pub returns : goal.returns
returns g c =
    let wakes = g.S.Wakes.wakes in
    let r = c.recv_many-received in
    let d = many (Done (CellsDid form_in view_of IsSameParty) wakes) c.args.limit (c.begin_on-cells.result, c.args.sink.now) (r.new.cells, r.new.sink) r.result r.ensures.deeds in
    let e = c.end-seat.ensures in
    record { called = cells_called wakes _ _ _ c.begin_on-cells.ensures.begun d c.end-seat.result e.ended e.table; rests = called_rests c.end-seat.result (cells_called wakes _ _ _ c.begin_on-cells.ensures.begun d c.end-seat.result e.ended e.table) refl (many_keeps c.recv_many-received.result); most = r.ensures.most }
