use Rattle.std.specs.Prelude.{◌≡◌}
use Rattle.channel_calls.specs.declared.ask.ChannelAsk.TheVariants as ask
use Rattle.channel_calls.specs.declared.reply.Reply.TheVariants as reply
use Rattle.channel_cells.proofs.channel.ChannelTable.force_send.Given as goal

abbrev pub ghosts-begin_on : goal.ghosts-begin_on
ghosts-begin_on g a = record { ask = ask.ForceSend a.about.now }

abbrev pub ghosts-end : goal.ghosts-end
ghosts-end g a = record { gave = λ c. c.reply ≡ reply.ForceSend a.about.now }
