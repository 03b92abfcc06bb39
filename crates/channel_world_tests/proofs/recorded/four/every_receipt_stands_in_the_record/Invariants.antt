use Rattle.channel_world_tests.proofs.recorded.four.every_receipt_stands_in_the_record.Given as goal

abbrev pub ghosts-four : goal.ghosts-four
ghosts-four g a = record { name = a.blank.name; parts = a.blank.parts }
