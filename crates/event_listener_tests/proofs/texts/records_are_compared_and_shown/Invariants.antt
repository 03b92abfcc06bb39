use Rattle.event_listener_tests.proofs.texts.records_are_compared_and_shown.Given as goal

abbrev pub ghosts-recorded_insertion : goal.ghosts-recorded_insertion
ghosts-recorded_insertion g a = record { name = a.blank.name; parts = a.blank.parts }
