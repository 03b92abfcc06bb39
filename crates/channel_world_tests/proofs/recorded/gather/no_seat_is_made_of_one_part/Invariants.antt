use Rattle.channel_world_tests.proofs.recorded.gather.no_seat_is_made_of_one_part.Given as goal

abbrev pub ghosts-nobody : goal.ghosts-nobody
ghosts-nobody g a = record { name = a.blank.name; parts = a.blank.parts }
