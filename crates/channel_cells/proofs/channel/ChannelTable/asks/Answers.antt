use Rattle.std.proofs.Common.{sym, ap, ◌∙◌, subst}
use Rattle.concurrent_queue.specs.declared.cells.QueueForm.{QueueForm}
use Rattle.channel_history.specs.Machine.{turns}
use Rattle.channel_history.specs.WholeCalls.{MayAsk, asked_by}
use Rattle.channel_history.specs.declared.party.Standing.{Standing}
use Rattle.channel_history.proofs.CallEnds.{begins_turn}
use Rattle.channel_cells.specs.Channel.{standing_of}
use Rattle.channel_cells.proofs.channel.ChannelTable.asks.Goals as goal

pub turn-requires : goal.turn-requires
turn-requires g c =
    let went = c.go_on-seat.ensures in
    let may = subst (λ (f : QueueForm). MayAsk f (standing_of c.args.seat) g.E.Asks.ask) (sym went.form) c.requires.asks in
    record {
      next = subst (λ (s : Standing g.row.T.Denot g.row.W.Denot). turns c.go_on-seat.result.seat.me.0.form s (asked_by s g.E.Asks.ask)) (sym (ap (λ x. x.me.0.state) went.same))
          (begins_turn c.go_on-seat.result.seat.me.0.form (standing_of c.args.seat) g.E.Asks.ask may);
    }

pub returns : goal.returns
returns g c =
    let went = c.go_on-seat.ensures in
    let turned = c.turn.ensures in
    record {
      begun = record {
        may = c.requires.asks;
        begun = turned.made ∙ ap (λ x. asked_by x.me.0.state g.E.Asks.ask) went.same;
        form = turned.same.2 ∙ went.form;
        table = turned.same.0 ∙ (ap (λ x. x.table_id) went.same ∙ c.requires.same);
      };
    }
