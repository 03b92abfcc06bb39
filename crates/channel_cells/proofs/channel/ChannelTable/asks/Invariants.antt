use Rattle.channel_history.specs.WholeCalls.{asked_by}
use Rattle.channel_cells.proofs.channel.ChannelTable.asks.Given as goal

abbrev pub ghosts-turn : goal.ghosts-turn
ghosts-turn g a = record { to = λ s. asked_by s g.E.Asks.ask }
