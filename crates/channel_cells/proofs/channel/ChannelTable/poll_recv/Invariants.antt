use Rattle.std.specs.Prelude.{◌≡◌}
use Rattle.channel_calls.specs.Calls.{recv_ask}
use Rattle.channel_calls.specs.declared.reply.Reply.TheVariants as reply
use Rattle.channel_cells.proofs.channel.ChannelTable.poll_recv.Given as goal

abbrev pub ghosts-begin_on : goal.ghosts-begin_on
ghosts-begin_on g a = record { ask = recv_ask a.about.now.0 a.about.now.1.now }

abbrev pub ghosts-end : goal.ghosts-end
ghosts-end g a = record { gave = λ c. c ≡ record { reply = reply.RecvPoll a.about.now; kept = a.and.now } }
