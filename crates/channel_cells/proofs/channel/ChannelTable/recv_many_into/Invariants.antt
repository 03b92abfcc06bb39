use Rattle.std.specs.Prelude.{◌≡◌}
use Rattle.channel_calls.specs.declared.ask.ChannelAsk.TheVariants as ask
use Rattle.channel_calls.specs.Filling.{room_in}
use Rattle.channel_cells.specs.Calls.{filled_reply}
use Rattle.channel_cells.proofs.channel.ChannelTable.recv_many_into.Given as goal

abbrev pub ghosts-begin_on : goal.ghosts-begin_on
ghosts-begin_on g a = record { ask = ask.RecvMany (room_in a.about.now) }

abbrev pub ghosts-end : goal.ghosts-end
ghosts-end g a = record { gave = λ c. c.reply ≡ filled_reply a.about.now a.and.now.items }
