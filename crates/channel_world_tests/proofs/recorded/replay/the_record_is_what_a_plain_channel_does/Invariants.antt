use Rattle.channel_world_tests.proofs.recorded.replay.the_record_is_what_a_plain_channel_does.Given as goal

abbrev pub ghosts-three : goal.ghosts-three
ghosts-three g a = record { name = a.blank.name; parts = a.blank.parts }
