-- The parts of a channel of one owner, and what each deed does to it.
use Rattle.concurrent_queue.specs.Plain.{contents_of}
use Rattle.concurrent_queue.specs.declared.cells.QueueForm.{QueueForm}
use Rattle.channel_calls.specs.Deeds.{Deed}
use Rattle.channel_calls.specs.Effects.{Does}
use Rattle.channel_calls.specs.Parts.{Parts}
use Rattle.channel_calls.specs.Rooms.{Rooms, KeepsRoom}
use Rattle.channel_calls.specs.declared.plain.PlainChannel.{PlainChannel}

abbrev pub parts_of : {T W : Type 0} → PlainChannel T W → Parts T W
parts_of c =
    record {
      cells = contents_of c.cells;
      wait_lists = record { sends = c.sends.lists; receives = c.receives.lists; streams = c.streams.lists; closings = c.closings.lists; senders = c.senders; receivers = c.receivers };
    }

-- which form its queue has
abbrev pub form_of : {T W : Type 0} → PlainChannel T W → QueueForm
form_of c = (contents_of c.cells).form

-- how many listeners more each of its lists takes with no more memory
abbrev pub rooms_of : {T W : Type 0} → PlainChannel T W → Rooms
rooms_of c = record { sends = c.sends.room; receives = c.receives.room; streams = c.streams.room; closings = c.closings.room }

-- to its parts, and to the room of its lists
abbrev pub DoesPlain : {T W : Type 0} → Deed T W → PlainChannel T W → PlainChannel T W → Type 0
DoesPlain d a b = Does d (parts_of a) (parts_of b) × KeepsRoom d (parts_of a).wait_lists (rooms_of a) (rooms_of b)
