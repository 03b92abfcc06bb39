use Rattle.channel_world_tests.proofs.recorded.uses.the_record_has_as_many_entries_as_were_counted.Given as goal

abbrev pub ghosts-both : goal.ghosts-both
ghosts-both g a = record { name = a.blank.name; parts = a.blank.parts }
