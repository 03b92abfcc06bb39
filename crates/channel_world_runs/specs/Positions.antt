-- Messages that are accepted, and those that calls under way may yet bring.
use Rattle.std.specs.Prelude.{◌+◌, ◌==◌, ◌∷◌}
use Rattle.channel_world_runs.specs.Words.{ℕ, Bool, true, false, List, [], Option, None, Some, is_some, Ok, option_map_or, Phase, trying, displaced, Reply, Stage, Trying, Working, Finished, ListStep, Insert, Register, at, own_message, Call, ActiveCall, OperationEntry, NameTable}
use Rattle.futures.specs.declared.task.Poll.TheVariants.{Ready}
use Rattle.concurrent_queue.specs.Queue as queue
use Rattle.concurrent_queue.specs.declared.call.QueueAsk.{QueueAsk}
use Rattle.channel_calls.specs.declared.stage.Waiting.{Waiting}

-- whether a queue of this capacity has one place alone: it counts no positions
abbrev pub is_one_place : Option ℕ → Bool
is_one_place None = false
is_one_place (Some n) = n == 1

-- ---- by the stage of a call

module _ {T : Type 0} where
  -- a push that was not made yet, and a displacing one whose message is on its way
  abbrev pub yet_tried : QueueAsk T → queue.Stage T → ℕ
  yet_tried (QueueAsk.Push v) (trying b) = 1
  yet_tried (QueueAsk.ForcePush v) (trying b) = 1
  yet_tried (QueueAsk.ForcePush v) (displaced d) = 1
  yet_tried a s = 0

module _ {T W : Type 0} where
  -- a poll of a send that listens tries once more
  abbrev pub yet_worked : ListStep T W → ℕ
  yet_worked (Insert (Waiting.Send v) task) = 1
  yet_worked (Register (Waiting.Send v) key task) = 1
  yet_worked w = 0

  -- how many messages a call at this stage may yet bring
  abbrev pub yet : Stage (Phase T) T W → ℕ
  yet (Trying f purpose) = yet_tried f.ask f.stage
  yet (Working w) = yet_worked w
  yet (Finished kept) = 0

  -- all these calls
  abbrev pub yet_in : List (ActiveCall T W) → ℕ
  yet_in [] = 0
  yet_in (u ∷ us) = yet u.at + yet_in us

-- ---- by names

module _ {T : Type 0} where
  -- whether a call may bring a message
  abbrev pub brings : NameTable T → Call T → Bool
  brings r (Call.TrySend sender m) = true
  brings r (Call.ForceSend sender m) = true
  brings r (Call.Poll op) = option_map_or (λ (o : OperationEntry T). is_some (own_message o.operation)) (at op.0 r.operations) false
  brings r c = false

  -- how many a call has brought in that may bring one, by its reply
  abbrev pub came_in : Reply T → ℕ
  came_in (Reply.TrySend (Ok u)) = 1
  came_in (Reply.ForceSend (Ok d)) = 1
  came_in (Reply.SendPoll (Ready (Ok u))) = 1
  came_in x = 0

  -- one that brings none has brought none in
  abbrev pub accepted_by : Bool → Reply T → ℕ
  accepted_by true x = came_in x
  accepted_by false x = 0
