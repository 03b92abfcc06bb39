-- What the cells of a channel may require of their deeds: each is the one that the call's machine does next. Cells of one owner require
-- nothing; those of calls whose deeds are to be one history require just this.
use Rattle.std.specs.Prelude.{◌≡◌, Option, None, Some}
use Rattle.concurrent_queue.specs.declared.queue_call.QueueCall.{QueueCall}
use Rattle.channel_calls.specs.Deeds.{Deed}
use Rattle.channel_calls.specs.Walks.{Takes, ChannelMakes}
use Rattle.channel_calls.specs.declared.mark.Mark.{Mark}
use Rattle.channel_calls.specs.declared.reply.Reply.{Reply}
use Rattle.channel_calls.specs.declared.stage.NextStep.{NextStep}
use Rattle.channel_calls.specs.declared.stage.Stage.{Stage}

module _ {T W : Type 0} where
  -- what is known of cells between two deeds: nothing but the last one, with its answer
  abbrev pub NotesDeed : Deed T W → Option (Deed T W) → Option (Deed T W) → Type 0
  NotesDeed d before after = after ≡ Some d

  -- a call at this stage does this deed next, and by this answer it stands there then
  abbrev pub NextDeed : Stage (QueueCall T) T W → Deed T W → Stage (QueueCall T) T W → Type 0
  NextDeed at d next = (m : Mark) × (r : Option (Reply T)) × ChannelMakes NotesDeed at None (Some d) m next r

  -- or its step does no deed
  abbrev pub NoDeed : Stage (QueueCall T) T W → Stage (QueueCall T) T W → Type 0
  NoDeed at next = (m : Mark) × (r : Option (Reply T)) × ChannelMakes NotesDeed at None None m next r

module _ {T W S : Type 0} (stands : Stage (QueueCall T) T W → S → Type 0) where
  -- cells stand where a call begins with this turn
  abbrev pub BeginsHere : NextStep T W → S → Type 0
  BeginsHere turn s = (at : Stage (QueueCall T) T W) → Takes turn at None → stands at s

  -- where a call stands, what it does next may be done, whatever it answers
  abbrev pub MayGoOn : (Deed T W → S → Type 0) → Type 0
  MayGoOn may = (at next : Stage (QueueCall T) T W) (s : S) (d : Deed T W) → stands at s → NextDeed at d next → may d s

  -- and once it is done the call stands where its machine goes by the answer
  abbrev pub GoesOn : (Deed T W → S → S → Type 0) → Type 0
  GoesOn did = (at next : Stage (QueueCall T) T W) (s t : S) (d : Deed T W) → stands at s → did d s t → NextDeed at d next → stands next t

  -- a step that does no deed needs nothing of the cells
  abbrev pub StaysOn : Type 0
  StaysOn = (at next : Stage (QueueCall T) T W) (s : S) → stands at s → NoDeed at next → stands next s

  -- each deed may be done, wherever a call stands
  abbrev pub AllowsAll : (Deed T W → S → Type 0) → Type 0
  AllowsAll may = ((at : Stage (QueueCall T) T W) (s : S) → stands at s) × ((d : Deed T W) (s : S) → may d s)
