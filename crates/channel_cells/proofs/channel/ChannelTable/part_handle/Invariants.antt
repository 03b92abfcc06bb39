use Rattle.std.proofs.Common.{[], ◌∷◌}
use Rattle.channel_history.specs.Machine.{left}
use Rattle.channel_cells.specs.Lists.{with_handles}
use Rattle.channel_cells.proofs.channel.ChannelTable.part_handle.Given as goal

abbrev pub ghosts-part : goal.ghosts-part
ghosts-part g a = record { stays = λ s. left s; goes = λ s. with_handles (a._about.now ∷ []) }
