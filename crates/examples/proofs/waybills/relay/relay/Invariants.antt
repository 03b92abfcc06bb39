use Rattle.examples.proofs.waybills.relay.relay.Given as goal

abbrev pub ghosts-relay_in : goal.ghosts-relay_in
ghosts-relay_in g a = record { table = a.opened }
