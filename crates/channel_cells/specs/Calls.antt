-- How a call begins, and what it says of its party: what it asked, what it was answered, and what lies with its seat since.
use Rattle.std.specs.Prelude.{◌≡◌, ℕ, ◌-◌, List, length, drop, Result, Ok, Err}
use Rattle.std.specs.Global.{Vec}
use Rattle.concurrent_queue.specs.declared.cells.QueueForm.{QueueForm}
use Rattle.concurrent_queue.specs.declared.history.seats.IdleSeat.{IdleSeat}
use Rattle.channel_calls.specs.declared.ask.ChannelAsk.{ChannelAsk}
use Rattle.channel_calls.specs.declared.error.Refused.{Refused}
use Rattle.channel_calls.specs.declared.error.Refused.TheVariants.{Plain}
use Rattle.channel_calls.specs.declared.error.TryRecvError.{TryRecvError}
use Rattle.channel_calls.specs.declared.reply.Reply.{Reply}
use Rattle.channel_calls.specs.declared.reply.Reply.TheVariants as reply
use Rattle.channel_calls.specs.declared.stage.Returned.{Returned}
use Rattle.channel_calls.specs.declared.whole.Completed.{Completed}
use Rattle.channel_history.specs.CallEnds.{HasGiven}
use Rattle.channel_history.specs.WholeCalls.{MayAsk, asked_by}
use Rattle.channel_history.specs.declared.party.Standing.{Standing}
use Rattle.atomic_table.specs.Seated.{TableId}
use Rattle.channel_cells.specs.Channel.{form_of, id_of, seat_table, standing_of}
use Rattle.channel_cells.specs.declared.channel.ChannelTable.{ChannelTable}

-- the reply of a receive of several messages into a list of its own
abbrev pub many_reply : {T : Type 0} → Result (Vec T) (Refused TryRecvError Unit) → Reply T
many_reply (Ok messages) = reply.RecvMany (Ok messages.items)
many_reply (Err e) = reply.RecvMany (Err e)

-- and of one into room that was there, behind other messages: how many it took, which are the last of those that are there now
abbrev pub filled_reply : {T : Type 0} → Result ℕ TryRecvError → List T → Reply T
filled_reply (Ok n) there = reply.RecvMany (Ok (drop (length there - n) there))
filled_reply (Err e) there = reply.RecvMany (Err (Plain e))

module _ {T W : Type 0} where
  -- a party that stood so, and might ask this, has begun to: by the view of its call's seat it stands so now, on a queue of this form, and
  -- its table is this one, which is that of the channel
  pub record HasBegun (channel : ChannelTable T W) (before : Standing T W) (a : ChannelAsk T W) (f : QueueForm) (id : TableId) (now : Standing T W) : Type 0 where
    pub may : MayAsk (form_of channel) before a
    pub begun : now ≡ asked_by before a
    pub form : f ≡ form_of channel
    pub table : id ≡ id_of channel

  -- the party of this seat, which stood so before, has made this call on the channel of this table. It answered this and left that to its
  -- operation: the party has asked and was given it behind all that it had asked and been given, and with its seat lies what the call left
  -- and what it made
  abbrev pub HasPolled : TableId → Standing T W → ChannelAsk T W → Reply T → Returned T → IdleSeat T (Standing T W) → Type 0
  HasPolled table before a r kept seat = (seat_table seat ≡ table) × HasGiven (λ (c : Completed T). c ≡ record { reply = r; kept = kept }) before a r kept (standing_of seat)

  -- the same of a call that no operation makes, whatever it left
  abbrev pub HasCalled : TableId → Standing T W → ChannelAsk T W → Reply T → IdleSeat T (Standing T W) → Type 0
  HasCalled table before a r seat = (kept : Returned T) × (seat_table seat ≡ table) × HasGiven (λ (c : Completed T). c.reply ≡ r) before a r kept (standing_of seat)
