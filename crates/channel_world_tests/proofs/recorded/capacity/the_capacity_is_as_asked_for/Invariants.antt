use Rattle.channel_world_tests.proofs.recorded.capacity.the_capacity_is_as_asked_for.Given as goal

abbrev pub ghosts-bounded : goal.ghosts-bounded
ghosts-bounded g a = record { name = a.blank.name; parts = a.blank.parts }

abbrev pub ghosts-unbounded : goal.ghosts-unbounded
ghosts-unbounded g a = record { name = a.blank.name; parts = a.blank.parts }
