use Rattle.refused_growths_tests.proofs.records.recorded_channels.Given as goal

abbrev pub ghosts-pass : goal.ghosts-pass
ghosts-pass g a = record { name = a.blank.name; parts = a.blank.parts }
