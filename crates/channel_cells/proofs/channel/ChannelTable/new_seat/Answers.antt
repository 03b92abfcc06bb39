use Rattle.std.proofs.Common.{inl, refl}
use Rattle.channel_cells.proofs.channel.ChannelTable.new_seat.Goals as goal

pub enter-requires : goal.enter-requires
enter-requires g c = record { enters = inl refl }
