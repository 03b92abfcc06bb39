use Rattle.std.proofs.Common.{[], ◌∷◌}
use Rattle.channel_calls.specs.declared.stage.Side.TheVariants.{Senders, Receivers}
use Rattle.channel_history.specs.Party.{nothing}
use Rattle.channel_cells.proofs.Opening.{new_parts}
use Rattle.channel_cells.proofs.channel.opening.part_receiver.Goals as goal

pub part-requires-clause-parts : goal.part-requires-clause-parts
part-requires-clause-parts g c =
    let s = c.args.seat.now.seat.me.0 in
    new_parts s.form (record nothing { handles = Senders ∷ [] }) (record nothing { handles = Receivers ∷ [] }) s.state c.requires.both
