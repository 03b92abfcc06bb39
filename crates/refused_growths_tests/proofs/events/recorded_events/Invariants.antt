use Rattle.refused_growths_tests.proofs.events.recorded_events.Given as goal

abbrev pub ghosts-record_all : goal.ghosts-record_all
ghosts-record_all g a = record { name = a.blank.name; parts = a.blank.parts }
