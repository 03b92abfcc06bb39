use Rattle.std.proofs.Common.{ap, ◌∙◌}
use Rattle.channel_cells.proofs.channel.ChannelTable.open.Goals as goal

pub part_list-closings-requires : goal.part_list-closings-requires
part_list-closings-requires g c = record { empty = c.in_ok-closings.ensures.empty; last = ap (λ s. s.me.0.state) c.go_on-seat.ensures.same ∙ c.in_ok-table.ensures.first.0 }
