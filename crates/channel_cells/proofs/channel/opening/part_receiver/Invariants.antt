use Rattle.std.proofs.Common.{[], ◌∷◌}
use Rattle.channel_calls.specs.declared.stage.Side.TheVariants.{Senders, Receivers}
use Rattle.channel_cells.specs.Lists.{with_handles}
use Rattle.channel_cells.proofs.channel.opening.part_receiver.Given as goal

abbrev pub ghosts-part : goal.ghosts-part
ghosts-part g a = record { stays = λ s. with_handles (Senders ∷ []); goes = λ s. with_handles (Receivers ∷ []) }
