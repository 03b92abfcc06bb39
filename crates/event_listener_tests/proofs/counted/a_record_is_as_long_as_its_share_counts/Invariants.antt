use Rattle.event_listener_tests.proofs.counted.a_record_is_as_long_as_its_share_counts.Given as goal

abbrev pub ghosts-come_and_leave : goal.ghosts-come_and_leave
ghosts-come_and_leave g a = record { name = a.blank.name; parts = a.blank.parts }
