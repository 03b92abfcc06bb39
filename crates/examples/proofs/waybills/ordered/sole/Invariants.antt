use Rattle.examples.proofs.waybills.ordered.sole.Given as goal

abbrev pub ghosts-sole_in : goal.ghosts-sole_in
ghosts-sole_in g a = record { table = a.opened }
