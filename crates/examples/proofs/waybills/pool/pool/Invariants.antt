use Rattle.examples.proofs.waybills.pool.pool.Given as goal

abbrev pub ghosts-pool_in-B-Room : goal.ghosts-pool_in-B-Room
ghosts-pool_in-B-Room g a = record { table = a.jobs }

abbrev pub ghosts-pool_in-C-Room : goal.ghosts-pool_in-C-Room
ghosts-pool_in-C-Room g a = record { table = a.results }
