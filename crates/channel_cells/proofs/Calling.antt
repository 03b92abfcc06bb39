-- A call from its beginning to its end, over cells that go by the view of its seat. It is said once of all calls: each shows with it that
-- its cells stand where its machine begins, that it may end, and what its seat says since.
use Rattle.std.proofs.Common.{◌≡◌, ◌∙◌, refl, sym, subst}
use Rattle.concurrent_queue.specs.declared.cells.QueueForm.{QueueForm}
use Rattle.concurrent_queue.specs.declared.history.seats.IdleSeat.{IdleSeat}
use Rattle.atomic_table.specs.Seated.{TableId}
use Rattle.channel_calls.specs.Asks.{first}
use Rattle.channel_calls.specs.Deeds.{Done}
use Rattle.channel_calls.specs.Stands.{BeginsHere}
use Rattle.channel_calls.specs.Walks.{WalkedFrom, WalkedTo}
use Rattle.channel_calls.specs.declared.ask.ChannelAsk.{ChannelAsk}
use Rattle.channel_calls.specs.declared.reply.Reply.{Reply}
use Rattle.channel_calls.specs.declared.stage.Returned.{Returned}
use Rattle.channel_calls.specs.declared.whole.Completed.{Completed}
use Rattle.channel_history.specs.CallEnds.{EndsSo, HasEnded}
use Rattle.channel_history.specs.Cells.{Stands}
use Rattle.channel_history.specs.WholeCalls.{MayAsk, asked_by, HasAnswered}
use Rattle.channel_history.specs.declared.party.Standing.{Standing}
use Rattle.channel_history.proofs.CallEnds.{answered_ends, ended_so}
use Rattle.channel_history.proofs.Cells.{CellsDid}
use Rattle.channel_history.proofs.WholeCalls.{calls_go_by_their_views, cells_end, sinks_end}
use Rattle.channel_cells.specs.Calls.{HasBegun, HasCalled, HasPolled}
use Rattle.channel_cells.specs.Cells.{view_of, form_in, table_in, IsSameParty}
use Rattle.channel_cells.specs.Channel.{id_of, seat_table, standing_of}
use Rattle.channel_cells.specs.Words.{words_view, words_form, words_table, IsSameTable}
use Rattle.channel_cells.specs.declared.cells.CallCells.{CallCells}
use Rattle.channel_cells.specs.declared.channel.ChannelTable.{ChannelTable}
use Rattle.channel_cells.specs.declared.questions.CallWords.{CallWords}

module _ {T W : Type 0} where
  -- the machine has answered this to a party that stood so and asked this, and left that: so its seat's view says now
  pub record HasReplied (channel : ChannelTable T W) (s : Standing T W) (a : ChannelAsk T W) (r : Reply T) (kept : Returned T) (f : QueueForm) (id : TableId) (now : Standing T W) : Type 0 where
    pub answered : HasAnswered f s a r kept now
    pub table : id ≡ id_of channel

  module _ {channel : ChannelTable T W} {s : Standing T W} {a : ChannelAsk T W} where
    -- ---- the beginning

    -- cells stand where the machine of the call begins
    pub begins_here : {form : QueueForm} {table : TableId} {now : Standing T W} → HasBegun channel s a form table now → BeginsHere (Stands form) (first a) now
    begins_here {form = form} b at takes =
        subst (λ (v : Standing T W). Stands form at v) (sym b.begun)
        (subst (λ (f : QueueForm). Stands f at (asked_by s a)) (sym b.form) (((calls_go_by_their_views T W Unit).begins _ s a b.may).stands at takes))

    may_here : {form : QueueForm} {table : TableId} {now : Standing T W} → HasBegun channel s a form table now → MayAsk form s a
    may_here b = subst (λ (f : QueueForm). MayAsk f s a) (sym b.form) b.may

    -- ---- the answer

    -- over the cells of a call, which wakes others on its way
    pub cells_reply : {R S : Type 0} (wakes : S → W → S → Type 0) (c e : CallCells T W R × S) (r : Reply T) (kept : Returned T) → HasBegun channel s a (form_in c.0) (table_in c.0) (view_of c.0)
        → WalkedFrom (Done (CellsDid form_in view_of IsSameParty) wakes) (first a) c r kept e → HasReplied channel s a r kept (form_in e.0) (table_in e.0) (view_of e.0)
    cells_reply wakes c e r kept b walked =
        let end = sinks_end form_in view_of IsSameParty (λ x. (refl, refl, refl)) (λ x y z p q. (q.0 ∙ p.0, q.1 ∙ p.1, q.2 ∙ p.2)) wakes s a c e r kept (may_here b) b.begun walked in
        record { answered = subst (λ (f : QueueForm). HasAnswered f s a r kept (view_of e.0)) (sym end.1.0) end.0; table = end.1.1.0 ∙ b.table }

    -- and over the words of a question
    pub words_reply : (c e : CallWords T W) (r : Reply T) (kept : Returned T) → HasBegun channel s a (words_form c) (words_table c) (words_view c)
        → WalkedFrom (CellsDid words_form words_view IsSameTable) (first a) c r kept e → HasReplied channel s a r kept (words_form e) (words_table e) (words_view e)
    words_reply c e r kept b walked =
        let end = cells_end words_form words_view IsSameTable (λ x. refl) (λ x y z p q. q ∙ p) s a c e r kept (may_here b) b.begun walked in
        record { answered = subst (λ (f : QueueForm). HasAnswered f s a r kept (words_view e)) (sym end.1.0) end.0; table = end.1.1 ∙ b.table }

    -- ---- the end

    module _ {r : Reply T} {kept : Returned T} {form : QueueForm} {table : TableId} {now : Standing T W} (h : HasReplied channel s a r kept form table now) where
      -- the call ends, of which only the answer is told
      pub may_end : HasEnded form (λ (c : Completed T). c.reply ≡ r) now
      may_end = answered_ends form s a r kept now h.answered (λ (c : Completed T). c.reply ≡ r) refl

      pub has_called : (seat : IdleSeat T (Standing T W)) → EndsSo form (λ (c : Completed T). c.reply ≡ r) now (standing_of seat) → seat_table seat ≡ table → HasCalled (id_of channel) s a r seat
      has_called seat e same = (kept, same ∙ h.table, ended_so form s a r kept now h.answered (λ (c : Completed T). c.reply ≡ r) refl (standing_of seat) e)

      -- and of which it is told as well what it left to its operation
      pub may_end_so : HasEnded form (λ (c : Completed T). c ≡ record { reply = r; kept = kept }) now
      may_end_so = answered_ends form s a r kept now h.answered (λ (c : Completed T). c ≡ record { reply = r; kept = kept }) refl

      pub has_polled : (seat : IdleSeat T (Standing T W)) → EndsSo form (λ (c : Completed T). c ≡ record { reply = r; kept = kept }) now (standing_of seat) → seat_table seat ≡ table
          → HasPolled (id_of channel) s a r kept seat
      has_polled seat e same = (same ∙ h.table, ended_so form s a r kept now h.answered (λ (c : Completed T). c ≡ record { reply = r; kept = kept }) refl (standing_of seat) e)

    -- of a call that no operation makes
    module _ {R S : Type 0} (wakes : S → W → S → Type 0) (c e : CallCells T W R × S) (r : Reply T) (b : HasBegun channel s a (form_in c.0) (table_in c.0) (view_of c.0))
        (d : WalkedTo (Done (CellsDid form_in view_of IsSameParty) wakes) (first a) c r e) where
      pub cells_may_end : HasEnded (form_in e.0) (λ (x : Completed T). x.reply ≡ r) (view_of e.0)
      cells_may_end = may_end (cells_reply wakes c e r d.0 b d.1)

      pub cells_called : (seat : IdleSeat T (Standing T W)) → EndsSo (form_in e.0) (λ (x : Completed T). x.reply ≡ r) (view_of e.0) (standing_of seat) → seat_table seat ≡ table_in e.0 → HasCalled (id_of channel) s a r seat
      cells_called = has_called (cells_reply wakes c e r d.0 b d.1)

    -- and of a question over its words
    module _ (c e : CallWords T W) (r : Reply T) (b : HasBegun channel s a (words_form c) (words_table c) (words_view c)) (d : WalkedTo (CellsDid words_form words_view IsSameTable) (first a) c r e) where
      pub words_may_end : HasEnded (words_form e) (λ (x : Completed T). x.reply ≡ r) (words_view e)
      words_may_end = may_end (words_reply c e r d.0 b d.1)

      pub words_called : (seat : IdleSeat T (Standing T W)) → EndsSo (words_form e) (λ (x : Completed T). x.reply ≡ r) (words_view e) (standing_of seat) → seat_table seat ≡ words_table e → HasCalled (id_of channel) s a r seat
      words_called = has_called (words_reply c e r d.0 b d.1)
