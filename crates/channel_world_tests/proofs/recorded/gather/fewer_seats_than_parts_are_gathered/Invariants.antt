use Rattle.channel_world_tests.proofs.recorded.gather.fewer_seats_than_parts_are_gathered.Given as goal

abbrev pub ghosts-two_of_four : goal.ghosts-two_of_four
ghosts-two_of_four g a = record { name = a.blank.name; parts = a.blank.parts }
