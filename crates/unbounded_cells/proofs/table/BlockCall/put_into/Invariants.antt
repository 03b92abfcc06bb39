use Rattle.unbounded_cells.proofs.table.BlockCall.put_into.Given as goal

abbrev pub ghosts-win_to_put : goal.ghosts-win_to_put
ghosts-win_to_put g a = record { brought = a._brought.now }
