use Rattle.examples.proofs.waybills.handles.each_way.Given as goal

abbrev pub ghosts-each_way_in : goal.ghosts-each_way_in
ghosts-each_way_in g a = record { table = a.opened }
