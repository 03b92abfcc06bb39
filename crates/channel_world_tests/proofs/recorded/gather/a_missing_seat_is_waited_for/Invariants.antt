use Rattle.channel_world_tests.proofs.recorded.gather.a_missing_seat_is_waited_for.Given as goal

abbrev pub ghosts-gather : goal.ghosts-gather
ghosts-gather g a = record { name = a.blank.name; parts = a.blank.parts }
