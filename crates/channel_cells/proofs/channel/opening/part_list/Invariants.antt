use Rattle.channel_history.specs.Machine.{new_list, with_list}
use Rattle.channel_cells.specs.Lists.{index_of, opening_at}
use Rattle.channel_cells.proofs.channel.opening.part_list.Given as goal

abbrev pub ghosts-part : goal.ghosts-part
ghosts-part g a = record { stays = λ s. opening_at (index_of a._about.now); goes = λ s. with_list a._about.now new_list }
