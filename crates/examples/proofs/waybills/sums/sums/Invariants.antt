use Rattle.examples.proofs.waybills.sums.sums.Given as goal

abbrev pub ghosts-sums_in : goal.ghosts-sums_in
ghosts-sums_in g a = record { table = a.opened }
