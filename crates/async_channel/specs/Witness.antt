-- What a client says of a witness: of the party whose calls on a channel with a bound it stands for.
use Rattle.std.specs.Prelude.{◌≡◌, List, [], ◌∷◌, Some}
use Rattle.event_listener.specs.declared.waking.Task.{Task}
use Rattle.channel_calls.specs.declared.ask.ChannelAsk.{ChannelAsk}
use Rattle.channel_calls.specs.declared.reply.Reply.{Reply}
use Rattle.channel_calls.specs.declared.stage.Returned.{Returned}
use Rattle.channel_calls.specs.declared.whole.Completed.{Completed}
use Rattle.channel_cells.specs.Channel.{seat_table, standing_of, view_in}
use Rattle.channel_cells.specs.Look as look
use Rattle.channel_cells.specs.Over as over
use Rattle.channel_history.specs.CallEnds.{HasGiven, Rests}
use Rattle.channel_history.specs.Party.{fresh}
use Rattle.channel_history.specs.declared.party.Standing.{Standing}
use Rattle.async_channel.specs.Handles.{Handle}
use Rattle.async_channel.specs.Parties.{Seat}

module _ {T : Type 0} where
  -- it is of this channel
  abbrev pub IsOf : Handle → Seat T → Type 0
  IsOf channel witness = channel.table ≡ Some (seat_table witness)

  -- its party may make a call: none is under way, and it has no handle and no listener
  abbrev pub MayCall : Seat T → Type 0
  MayCall witness = Rests [] [] (standing_of witness)

  -- a party that stood so has made these calls since, one after another, and was answered this by each
  abbrev pub MadeSince : Standing T Task → List (ChannelAsk T Task × Reply T) → Standing T Task → Type 0
  MadeSince before [] now = now ≡ before
  MadeSince before (call ∷ calls) now =
      (between : Standing T Task) × (kept : Returned T) × HasGiven (λ (c : Completed T). c.reply ≡ call.1) before call.0 call.1 kept between × MadeSince between calls now

  -- its party has made these calls and no others
  abbrev pub HasMade : List (ChannelAsk T Task × Reply T) → Seat T → Type 0
  HasMade calls witness = MadeSince fresh calls (standing_of witness)

  -- there is one history of all that was done to its channel, in which what its party asked and was answered stands, and what each party
  -- did whose witness was joined into it
  abbrev pub IsTold : Seat T → Type 0
  IsTold witness = look.IsTold (view_in witness)

  -- and its channel is at its end: all that was accepted was taken, in order, and nothing is held or in flight
  abbrev pub IsOver : Seat T → Type 0
  IsOver witness = over.IsOver (view_in witness)
