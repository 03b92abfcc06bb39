use Rattle.channel_world_tests.proofs.recorded.refused.a_refused_call_leaves_no_entry.Given as goal

abbrev pub ghosts-refuse : goal.ghosts-refuse
ghosts-refuse g a = record { name = a.blank.name; parts = a.blank.parts }
