use Rattle.std.specs.Prelude.{◌≡◌}
use Rattle.channel_calls.specs.Calls.{upgraded_answer}
use Rattle.channel_calls.specs.declared.ask.ChannelAsk.TheVariants as ask
use Rattle.channel_cells.specs.Cells.{view_of, form_in}
use Rattle.channel_cells.proofs.Leaving.{AnsweredLike}
use Rattle.channel_cells.proofs.channel.ChannelTable.upgrade.Given as goal

abbrev pub ghosts-begin_on : goal.ghosts-begin_on
ghosts-begin_on g a = record { ask = ask.Upgrade g.K.Kind.side }

abbrev pub ghosts-end : goal.ghosts-end
ghosts-end g a = record { gave = AnsweredLike (λ c. a.about.now ≡ upgraded_answer c.reply) (form_in a.self) (ask.Upgrade g.K.Kind.side) (view_of a.self) }
