use Rattle.std.proofs.Common.{rules, ◌≡◌, ◌∙◌, Option, None, Some, Result, Ok, sym, subst}
use Rattle.std.specs.Prelude.{IfErr}
use Rattle.channel_calls.specs.declared.error.HandleError.{HandleError}
use Rattle.channel_calls.specs.declared.error.HandleError.TheVariants.{TooMany}
use Rattle.channel_calls.specs.declared.raised.Raised.{Raised}
use Rattle.channel_cells.specs.Channel.{id_of}
use Rattle.async_channel.specs.Parties.{Seat}
use Rattle.async_channel.proofs.Parties.{nobody_so, not_upgraded_so, upgraded_so}
use Rattle.async_channel.proofs.with_bound.Bounded.upgrade.Goals as goal

pub returns-in-Ok-Some-clause-upgraded : goal.returns-in-Ok-Some-clause-upgraded
returns-in-Ok-Some-clause-upgraded g c =
    let made = c.upgrade-made in
    let called = made.ensures.called in
    let some : made.result.0 ≡ Ok (Some c.in-Ok-Some.raised) = search rules in
    upgraded_so g.S.Trace-1.called (id_of c.args.self.now.table) g.K.Kind.side (Unit {0}) tt tt called.0 _ made.result.1 c.new_seat.ensures.new called.1 (sym some ∙ called.2) c.part_handle.ensures.told

pub returns-in-Ok-None-clause-upgraded : goal.returns-in-Ok-None-clause-upgraded
returns-in-Ok-None-clause-upgraded g c =
    let made = c.upgrade-made in
    let called = made.ensures.called in
    let nothing : made.result.0 ≡ Ok None = search rules in
    nobody_so g.S.Trace-1.called (id_of c.args.self.now.table) g.K.Kind.side (Unit {0}) called.0 _ made.result.1 c.new_seat.ensures.new c.tell.ensures called.1 (sym nothing ∙ called.2)

pub returns-in-Err-clause-upgraded : goal.returns-in-Err-clause-upgraded
returns-in-Err-clause-upgraded g c =
    let made = c.upgrade-made in
    let called = made.ensures.called in
    let reason : c.in-Err.error ≡ TooMany = subst (λ (x : Result (Option (Unit {0})) HandleError). IfErr x (λ e. e ≡ TooMany)) c.in-Err.is made.ensures.reason in
    not_upgraded_so g.S.Trace-1.called (id_of c.args.self.now.table) g.K.Kind.side (Raised g.row.K.Denot × Seat g.row.T.Denot) c.in-Err.error called.0 _ made.result.1 reason c.new_seat.ensures.new c.tell-in-Err.ensures called.1 (sym c.in-Err.is ∙ called.2)
