use Rattle.examples.proofs.waybills.ordered.shared.Given as goal

abbrev pub ghosts-shared_in : goal.ghosts-shared_in
ghosts-shared_in g a = record { table = a.opened }
