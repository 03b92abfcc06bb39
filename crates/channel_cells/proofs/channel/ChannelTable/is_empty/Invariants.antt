use Rattle.std.specs.Prelude.{◌≡◌}
use Rattle.channel_calls.specs.declared.ask.ChannelAsk.TheVariants as ask
use Rattle.channel_calls.specs.declared.reply.Reply.TheVariants as reply
use Rattle.channel_cells.proofs.channel.ChannelTable.is_empty.Given as goal

abbrev pub ghosts-asks : goal.ghosts-asks
ghosts-asks g a = record { ask = ask.IsEmpty }

abbrev pub ghosts-end : goal.ghosts-end
ghosts-end g a = record { gave = λ c. c.reply ≡ reply.Flag a.about.now }
