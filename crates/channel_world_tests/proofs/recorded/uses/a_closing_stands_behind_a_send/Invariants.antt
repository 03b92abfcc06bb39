use Rattle.channel_world_tests.proofs.recorded.uses.a_closing_stands_behind_a_send.Given as goal

abbrev pub ghosts-close_second : goal.ghosts-close_second
ghosts-close_second g a = record { name = a.blank.name; parts = a.blank.parts }
