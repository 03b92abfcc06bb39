-- What a lock keeps: a world with its record, and the parts of the ledger that no seat has.
use Rattle.std.specs.Prelude.{◌≡◌, ◌+◌, ◌-◌, ◌^◌, ◌<◌, ◌≤◌}
use Rattle.channel_world.specs.Words.{ℕ, List, Option, Some, State, start, Call, Receipt}
use Rattle.channel_world_model.specs.Run.{MayStop}
use Rattle.channel_world.specs.RecordReplay.{Replays}
use Rattle.channel_world.specs.RecordSeat.{amount_of, sum_below}
use Rattle.channel_world.specs.declared.recorded.error.RecordError.{RecordError}
use Rattle.channel_world.specs.declared.recorded.error.RecordError.TheVariants.{World, NoRoom}

pub record RecordingView (T : Type 0) : Type 0 where
  -- the capacity with which the channel was opened, and the channel as it stands
  pub capacity : Option ℕ
  pub state : State T
  pub entries : List (Receipt T)
  -- how many seats were made, and how many parts of the ledger no seat has
  pub seats : ℕ
  pub parts : ℕ

-- one seat more has one part
abbrev pub with_seat : {T : Type 0} → RecordingView T → RecordingView T
with_seat v = record v { seats = v.seats + 1; parts = v.parts - 1 }

module _ {T : Type 0} where
  -- The record leads from a channel opened with the capacity to the world as it stands. The ledger counts its entries, and the numbers of
  -- the seats that were made, from 0 on: all of it is the seats', of which each has one part.
  pub record IsRecording (v : RecordingView T) (count total parts amount all : ℕ) : Type 0 where
    pub replays : Replays 0 (start v.capacity) v.entries v.state
    pub counted : total ≡ amount_of (sum_below v.seats) count
    pub idle : amount ≡ 0
    pub parts_left : parts ≡ v.parts
    pub one_each : v.parts + v.seats ≡ all
    pub numbered : v.seats ≤ 2 ^ 32
    -- the last part stays
    pub kept : 0 < v.seats → 0 < v.parts

  -- the call that was not made
  abbrev pub call_in : RecordError T → Call T
  call_in (World why call) = call
  call_in (NoRoom call) = call

  -- The world may refuse the call so. Room for its entry and its receipt may be refused to any call.
  abbrev pub MayRefuseRecorded : State T → RecordError T → Type 0
  MayRefuseRecorded s (World why call) = MayStop s call (Some why)
  MayRefuseRecorded s (NoRoom call) = Unit {0}
