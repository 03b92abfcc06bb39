use Rattle.std.proofs.Common.{◌≡◌, Some, ℕ, ◌-◌, List, ◌++◌, length, drop, Result, Ok, Err, refl, sym, ap, ◌∙◌, subst, append-nil, arith, []}
use Rattle.std.proofs.Math.Seq.{drop-append_seam}
use Rattle.std.proofs.lemmas.List.{length-append}
use Rattle.channel_calls.specs.Asks.{first}
use Rattle.channel_calls.specs.Deeds.{Deed, Done}
use Rattle.channel_calls.specs.Filling.{room_in, StandsBehind, Fills}
use Rattle.channel_calls.specs.Walks.{WalkedTo}
use Rattle.channel_calls.specs.declared.ask.ChannelAsk.TheVariants as ask
use Rattle.channel_calls.specs.declared.error.TryRecvError.{TryRecvError}
use Rattle.channel_calls.specs.declared.reply.Reply.TheVariants as reply
use Rattle.channel_history.proofs.Cells.{CellsDid}
use Rattle.channel_cells.specs.Calls.{filled_reply}
use Rattle.channel_cells.specs.Cells.{view_of, form_in, IsSameParty}
use Rattle.channel_cells.proofs.Calling.{begins_here, cells_may_end, cells_called}
use Rattle.channel_cells.specs.Channel.{standing_of}
use Rattle.channel_history.specs.InHand.{kept_on}
use Rattle.event_listener.specs.declared.key.Key.{Key}
use Rattle.channel_cells.proofs.Leaving.{may_ask_of, called_rests}
use Rattle.channel_cells.proofs.channel.ChannelTable.recv_many_into.Goals as goal

-- what was put behind a list is the last of it
last_of : {T : Type 0} (before taken after : List T) (n : ℕ) → after ≡ before ++ taken → n ≡ length taken → taken ≡ drop (length after - n) after
last_of {T} before taken after n is count =
    let sum = ap (λ (l : List T). length l) is ∙ length-append before taken in
    let at : length after - n ≡ length before = omega (arith, sum, count) in
    sym (drop-append_seam before taken) ∙ (ap (λ (l : List T). drop (length before) l) (sym is) ∙ ap (λ (k : ℕ). drop k after) (sym at))

module _ {T W X : Type 0} (did : Deed T W → X → X → Type 0) (room : ℕ) (s t : X) where
  filled : (r : Result ℕ TryRecvError) (before after : List T) → Fills did room before s r after t → WalkedTo did (first (ask.RecvMany room)) s (filled_reply r after) t
  filled (Ok n) before after (taken, is, (count, walked)) =
      subst (λ (l : List T). WalkedTo did (first (ask.RecvMany room)) s (reply.RecvMany (Ok l)) t) (last_of before taken after n is count) walked
  filled (Err e) before after (taken, is, (none, walked)) = walked

  behind : (r : Result ℕ TryRecvError) (before after : List T) → Fills did room before s r after t → StandsBehind before r after
  behind (Ok n) before after (taken, is, (count, walked)) = (taken, is, count)
  behind (Err e) before after (taken, is, (none, walked)) = is ∙ (ap (λ (l : List T). before ++ l) none ∙ append-nil before)

filled_keeps : {T : Type 0} (r : Result ℕ TryRecvError) (after : List T) (k : Key) → kept_on (filled_reply r after) (Some k) ≡ []
filled_keeps (Ok n) after k = refl
filled_keeps (Err e) after k = refl

pub begin_on-cells-requires-clause-asks : goal.begin_on-cells-requires-clause-asks
begin_on-cells-requires-clause-asks g c = may_ask_of c.args.self.now (standing_of c.args.seat) (ask.RecvMany (room_in c.args.into.now)) tt c.requires.rests

pub recv_many_into-received-requires : goal.recv_many_into-received-requires
recv_many_into-received-requires g c = record { form = (_, refl); stands = begins_here c.begin_on-cells.ensures.begun }

pub end-seat-requires : goal.end-seat-requires
end-seat-requires g c =
    let wakes = g.S.Wakes.wakes in
    let r = c.recv_many_into-received in
    let into = c.args.into.now in
    let d = filled (Done (CellsDid form_in view_of IsSameParty) wakes) (room_in into) (c.begin_on-cells.result, c.args.sink.now) (r.new.cells, r.new.sink) r.result into.items r.new.into.items r.ensures.deeds in
    record { ended = cells_may_end wakes _ _ _ c.begin_on-cells.ensures.begun d }

pub returns : goal.returns
returns g c =
    let wakes = g.S.Wakes.wakes in
    let r = c.recv_many_into-received in
    let into = c.args.into.now in
    let did = Done (CellsDid form_in view_of IsSameParty) wakes in
    let d = filled did (room_in into) (c.begin_on-cells.result, c.args.sink.now) (r.new.cells, r.new.sink) r.result into.items r.new.into.items r.ensures.deeds in
    let e = c.end-seat.ensures in
    record {
      called = cells_called wakes _ _ _ c.begin_on-cells.ensures.begun d c.end-seat.result e.ended e.table;
      rests = called_rests c.end-seat.result (cells_called wakes _ _ _ c.begin_on-cells.ensures.begun d c.end-seat.result e.ended e.table) refl (filled_keeps c.recv_many_into-received.result c.recv_many_into-received.new.into.items);
      taken = behind did (room_in into) (c.begin_on-cells.result, c.args.sink.now) (r.new.cells, r.new.sink) r.result into.items r.new.into.items r.ensures.deeds;
      most = r.ensures.most;
      room = r.ensures.room;
      in_place = r.ensures.in_place;
    }
