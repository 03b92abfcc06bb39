use Rattle.channel_world_tests.proofs.recorded.talk.each_hears_the_others_word.Given as goal

abbrev pub ghosts-talk-L-Ledger : goal.ghosts-talk-L-Ledger
ghosts-talk-L-Ledger g a = record { name = a.first.name; parts = a.first.parts }

abbrev pub ghosts-talk-M-Ledger : goal.ghosts-talk-M-Ledger
ghosts-talk-M-Ledger g a = record { name = a.second.name; parts = a.second.parts }
