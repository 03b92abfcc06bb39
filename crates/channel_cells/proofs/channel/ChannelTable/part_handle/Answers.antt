use Rattle.std.proofs.Common.{[], ◌∷◌, sym, subst}
use Rattle.channel_calls.specs.declared.stage.Side.{Side}
use Rattle.channel_history.specs.CallEnds.{Rests}
use Rattle.channel_cells.proofs.Opening.{gives_own}
use Rattle.channel_cells.proofs.channel.ChannelTable.part_handle.Goals as goal

pub part-handle-requires-clause-parts : goal.part-handle-requires-clause-parts
part-handle-requires-clause-parts g c =
    let seat = c.go_on-seat.result.seat in
    gives_own seat.me.0.form (c.side.result ∷ []) seat.me.0.state (
    subst (λ (k : Side). Rests (k ∷ []) [] seat.me.0.state) (sym c.side.ensures) (
    subst (λ x. Rests (g.K.Kind.side ∷ []) [] x.me.0.state) (sym c.go_on-seat.ensures.same) c.requires.handle))
