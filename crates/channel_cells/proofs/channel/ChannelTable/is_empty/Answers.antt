use Rattle.std.proofs.Common.{refl}
use Rattle.channel_cells.proofs.Calling.{begins_here, words_may_end, words_called}
use Rattle.channel_calls.specs.declared.ask.ChannelAsk.TheVariants as ask
use Rattle.channel_cells.specs.Channel.{standing_of}
use Rattle.channel_cells.proofs.Leaving.{may_ask_of, called_rests}
use Rattle.channel_cells.proofs.channel.ChannelTable.is_empty.Goals as goal

pub asks-words-requires-clause-asks : goal.asks-words-requires-clause-asks
asks-words-requires-clause-asks g c = may_ask_of c.args.self.now (standing_of c.args.seat) (ask.IsEmpty) tt c.requires.rests

pub is_empty-empty-requires : goal.is_empty-empty-requires
is_empty-empty-requires g c = record { form = (_, refl); stands = begins_here c.asks-words.ensures.begun }

pub end-seat-requires : goal.end-seat-requires
end-seat-requires g c = record { ended = words_may_end _ _ _ c.asks-words.ensures.begun c.is_empty-empty.ensures.deeds }

pub returns : goal.returns
returns g c =
    let e = c.end-seat.ensures in
    record { called = words_called _ _ _ c.asks-words.ensures.begun c.is_empty-empty.ensures.deeds c.end-seat.result e.ended e.table; rests = called_rests c.end-seat.result (words_called _ _ _ c.asks-words.ensures.begun c.is_empty-empty.ensures.deeds c.end-seat.result e.ended e.table) refl (λ k. refl) }
