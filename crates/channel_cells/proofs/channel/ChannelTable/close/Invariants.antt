use Rattle.std.specs.Prelude.{◌≡◌}
use Rattle.channel_calls.specs.declared.reply.Reply.TheVariants as reply
use Rattle.channel_cells.proofs.channel.ChannelTable.close.Given as goal

abbrev pub ghosts-end : goal.ghosts-end
ghosts-end g a = record { gave = λ c. c.reply ≡ reply.Closed a.about.now }
