use Rattle.std.proofs.Common.{◌≡◌, ◌∙◌, Result, sym, subst}
use Rattle.std.specs.Prelude.{IfErr}
use Rattle.channel_calls.specs.declared.error.HandleError.{HandleError}
use Rattle.channel_calls.specs.declared.error.HandleError.TheVariants.{TooMany}
use Rattle.channel_calls.specs.declared.raised.Raised.{Raised}
use Rattle.channel_cells.specs.Channel.{id_of}
use Rattle.async_channel.specs.Parties.{Seat}
use Rattle.async_channel.proofs.Parties.{cloned_so, not_cloned_so}
use Rattle.async_channel.proofs.with_bound.Bounded.clone_handle.Goals as goal

pub returns-in-Ok-clause-cloned : goal.returns-in-Ok-clause-cloned
returns-in-Ok-clause-cloned g c =
    let made = c.clone_handle-made in
    let called = made.ensures.called in
    cloned_so g.S.Trace-1.called (id_of c.args.self.now.table) g.K.Kind.side (Unit {0}) tt tt called.0 _ made.result.1 c.new_seat.ensures.new called.1 (sym c.in-Ok.is ∙ called.2) c.part_handle.ensures.told

pub returns-in-Err-clause-cloned : goal.returns-in-Err-clause-cloned
returns-in-Err-clause-cloned g c =
    let made = c.clone_handle-made in
    let called = made.ensures.called in
    let reason : c.in-Err.error ≡ TooMany = subst (λ (x : Result (Unit {0}) HandleError). IfErr x (λ e. e ≡ TooMany)) c.in-Err.is made.ensures.reason in
    not_cloned_so g.S.Trace-1.called (id_of c.args.self.now.table) g.K.Kind.side (Raised g.row.K.Denot × Seat g.row.T.Denot) c.in-Err.error called.0 _ made.result.1 reason c.new_seat.ensures.new c.tell.ensures called.1 (sym c.in-Err.is ∙ called.2)
