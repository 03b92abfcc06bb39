-- A step of one call of a queue among all that are under way.
use Rattle.std.specs.Prelude.{◌≡◌, ℕ, ◌+◌, ◌-◌, ◌^◌, ◌<◌, ◌≤◌, ◌⊎◌, ◌==◌, not, Bool, true, false, List, [], ◌∷◌, ◌++◌, length, map, Option, None, Some, slice_get, MatchOption, option_to_list, if◌then◌else◌}
use Rattle.concurrent_queue.specs.Contents.{Contents, write, write_slot, slot_at, without_spare, with_retired}
use Rattle.concurrent_queue.specs.Queue.{Queue, Stage, trying, appended, read, measured, Phase, asked, message, after, Continues, Answers, IsInRange}
use Rattle.concurrent_queue.specs.machine.Places.{Place}
use Rattle.concurrent_queue.specs.machine.Single.{start, clear}
use Rattle.concurrent_queue.specs.machine.SingleState.{SingleMeans, single_rank}
use Rattle.concurrent_queue.specs.machine.RingWords.{ring_mark, ring_start}
use Rattle.concurrent_queue.specs.machine.RingMeans.{RingMeans}
use Rattle.concurrent_queue.specs.machine.RingRank.{ring_rank}
use Rattle.concurrent_queue.specs.machine.RingReadings.{ring_closed, ring_counted, ring_length, ring_slot, ring_held}
use Rattle.concurrent_queue.specs.machine.BlocksForm.{UnboundedMeans}
use Rattle.concurrent_queue.specs.machine.BlocksWords.{begin, blocks_closed, blocks_length, blocks_counted, blocks_slot, blocks_items}
use Rattle.concurrent_queue.specs.machine.BlocksLeft.{blocks_rank}
use Rattle.concurrent_queue.specs.Capacity.{capacity_of}
use Rattle.concurrent_queue.specs.declared.call.QueueAsk.{QueueAsk}
use Rattle.concurrent_queue.specs.declared.call.QueueMark.{QueueMark}
use Rattle.concurrent_queue.specs.declared.call.QueueReply.{QueueReply}
use Rattle.concurrent_queue.specs.declared.cells.QueueForm.{QueueForm}
use Rattle.concurrent_queue.specs.declared.cells.QueueForm.TheVariants.{Bounded, Unbounded}
use Rattle.concurrent_queue.specs.declared.cells.Word.{Word}
use Rattle.concurrent_queue.specs.declared.cells.Slot.{Slot}
use Rattle.concurrent_queue.specs.declared.cells.Slot.TheVariants.{At}
use Rattle.concurrent_queue.specs.declared.single.SingleAction.{SingleAction}
use Rattle.concurrent_queue.specs.declared.bounded.RingAction.{RingAction}
use Rattle.concurrent_queue.specs.declared.unbounded.action.UnboundedCall.{UnboundedCall}
use Rattle.concurrent_queue.specs.declared.queue_call.CallState.{CallState}
use Rattle.concurrent_queue.specs.declared.queue_call.CallState.TheVariants.{Asked, Single, Ring, Blocks}
use Rattle.concurrent_queue.specs.declared.queue_call.QueueCall.{QueueCall}

-- a call under way, and how far it has come
pub record ActiveQueueCall (T : Type 0) : Type 0 where
  pub call : QueueCall T
  pub phase : Phase T

module _ {T : Type 0} where
  abbrev pub seat : QueueCall T → Phase T → ActiveQueueCall T
  seat call p = record { call = call; phase = p }

  -- what the last step of a call did
  abbrev pub mark_of : QueueCall T → QueueMark
  mark_of call = call.mark

  -- ---- what the cells and the calls under way mean, by the form of the queue

  -- the actions of a form at which calls stand, a call that has made no step standing at its first
  module _ {A : Type 0} (at : CallState T → A → Type 0) where
    abbrev pub AreAt : List (ActiveQueueCall T) → List (Place A T) → Type 0
    AreAt [] [] = Unit {0}
    AreAt (s ∷ ss) (p ∷ ps) = (at s.call.state p.action × (s.phase ≡ p.phase)) × AreAt ss ps
    AreAt _ _ = ⊥

    abbrev pub FitsBy : (List (Place A T) → Type 0) → List (ActiveQueueCall T) → Type 0
    FitsBy means seats = (places : List (Place A T)) × AreAt seats places × means places

  abbrev pub IsAtSingle : CallState T → SingleAction T → Type 0
  IsAtSingle (Asked a) x = x ≡ start a
  IsAtSingle (Single y) x = x ≡ y
  IsAtSingle _ x = ⊥

  abbrev pub IsAtRing : CallState T → RingAction T → Type 0
  IsAtRing (Asked a) x = x ≡ ring_start a
  IsAtRing (Ring y) x = x ≡ y
  IsAtRing _ x = ⊥

  -- one slot
  pub record FitsSlot (cap : ℕ) (c : Contents T) (q : Queue T) (seats : List (ActiveQueueCall T)) : Type 0 where
    pub one : cap ≡ 1
    pub calls : FitsBy IsAtSingle (SingleMeans c q) seats

  -- a ring
  pub record FitsRing (cap : ℕ) (c : Contents T) (q : Queue T) (seats : List (ActiveQueueCall T)) : Type 0 where
    pub two : 2 ≤ cap
    pub most : cap ≤ 2 ^ 58
    pub calls : FitsBy IsAtRing (RingMeans cap (ring_mark cap) c q) seats

  abbrev pub IsAtBlocks : CallState T → UnboundedCall T → Type 0
  IsAtBlocks (Asked a) x = x ≡ begin a
  IsAtBlocks (Blocks y) x = x ≡ y
  IsAtBlocks _ x = ⊥

  -- the blocks that an unbounded queue has used, in order, are those that the tail's block word has named: so they are after
  -- a step that leaves d. A bounded queue has none
  abbrev pub chain_after : List ℕ → Contents T → Contents T → List ℕ
  chain_after chain c d = if c.tail_block == d.tail_block then chain else chain ++ (d.tail_block - 1) ∷ []

  abbrev pub FitsForm : QueueForm → List ℕ → Contents T → Queue T → List (ActiveQueueCall T) → Type 0
  FitsForm (Bounded cap) chain c q seats = FitsSlot cap c q seats ⊎ FitsRing cap c q seats
  FitsForm Unbounded chain c q seats = FitsBy IsAtBlocks (UnboundedMeans chain c q) seats

  -- the cells and the calls under way mean this queue, which has used these blocks. Callers do not open it
  unfoldable pub FitsAt : List ℕ → Contents T → Queue T → List (ActiveQueueCall T) → Type 0
  FitsAt chain c q seats = FitsForm c.form chain c q seats

  -- whichever blocks it has used
  abbrev pub Fits : Contents T → Queue T → List (ActiveQueueCall T) → Type 0
  Fits c q seats = (chain : List ℕ) × FitsAt chain c q seats

  -- ---- what the words give

  abbrev pub single_closed : Contents T → Bool
  single_closed c = not (clear c.state 4)

  abbrev pub single_length : Contents T → ℕ
  single_length c = if clear c.state 2 then 0 else 1

  -- whether the words say that the queue is closed
  abbrev pub closed_by : QueueForm → Contents T → Bool
  closed_by (Bounded cap) c = if cap == 1 then single_closed c else ring_closed (ring_mark cap) c
  closed_by Unbounded c = blocks_closed c

  unfoldable pub closed_in : Contents T → Bool
  closed_in c = closed_by c.form c

  -- how many messages the words say that it holds
  abbrev pub length_by : QueueForm → Contents T → ℕ
  length_by (Bounded cap) c = if cap == 1 then single_length c else ring_length cap (ring_mark cap) c
  length_by Unbounded c = blocks_length c

  unfoldable pub length_in : Contents T → ℕ
  length_in c = length_by c.form c

  -- how many positions the words say were used; one slot has none
  abbrev pub counted_by : QueueForm → Contents T → ℕ
  counted_by (Bounded cap) c = if cap == 1 then 0 else ring_counted cap (ring_mark cap) c
  counted_by Unbounded c = blocks_counted c

  unfoldable pub counted_in : Contents T → ℕ
  counted_in c = counted_by c.form c

  -- the slot that the words name for the i-th message, oldest first
  abbrev pub slot_by : QueueForm → List ℕ → Contents T → ℕ → Slot
  slot_by (Bounded cap) chain c i = if cap == 1 then At 0 else ring_slot cap (ring_mark cap) c i
  slot_by Unbounded chain c i = blocks_slot chain c i

  unfoldable pub slot_in : List ℕ → Contents T → ℕ → Slot
  slot_in chain c i = slot_by c.form chain c i

  -- the messages that the slots hold, if no call is under way
  abbrev pub items_by : QueueForm → Contents T → List T
  items_by (Bounded cap) c = if cap == 1 then option_to_list (slot_at c (At 0)) else ring_held cap (ring_mark cap) c
  items_by Unbounded c = blocks_items c

  unfoldable pub items_in : Contents T → List T
  items_in c = items_by c.form c

  -- whether a call at this stage has brought its message
  abbrev pub HasBrought : Stage T → Type 0
  HasBrought (appended o) = Unit {0}
  HasBrought _ = ⊥

  -- a call under way has brought this message
  abbrev pub IsBrought : List (Phase T) → T → Type 0
  IsBrought [] v = ⊥
  IsBrought (p ∷ ps) v = ((message p.ask ≡ v ∷ []) × HasBrought p.stage) ⊎ IsBrought ps v

  -- no two messages have one slot, and each lies in its own or is still with the call that brought it
  pub record LiesBy (slot : ℕ → Slot) (c : Contents T) (items : List T) (brought : T → Type 0) : Type 0 where
    pub apart : (i j : ℕ) → i < length items → j < length items → slot i ≡ slot j → i ≡ j
    pub there : (i : ℕ) (v : T) → slice_get items i ≡ Some v → (slot_at c (slot i) ≡ Some v) ⊎ brought v

  abbrev pub Lies : List ℕ → Contents T → List T → (T → Type 0) → Type 0
  Lies chain c items brought = LiesBy (slot_in chain c) c items brought

  -- what cells and calls that mean a queue show of it: by its words it is closed or not, holds so many messages, has used so
  -- many positions, and holds these messages if no call is under way
  pub record ShowsBy (capacity : Option ℕ) (closed : Bool) (count counted : ℕ) (held : List T) (c : Contents T) (q : Queue T) (calls : List (Phase T)) : Type 0 where
    pub limit : q.capacity ≡ capacity
    pub flag : closed ≡ q.closed
    pub long : count ≡ length q.items
    pub within : (cap : ℕ) → q.capacity ≡ Some cap → length q.items ≤ cap
    pub balance : length q.items + q.removed ≡ q.accepted
    pub numbered : ((q.capacity ≡ Some 1) × (counted ≡ 0)) ⊎ ((q.capacity ≡ Some 1 → ⊥) × (counted ≡ q.accepted))
    pub at_rest : calls ≡ [] → (q.items ≡ held) × (q.coming ≡ false)

  abbrev pub Shows : Contents T → Queue T → List (Phase T) → Type 0
  Shows c q calls = ShowsBy (capacity_of c.form) (closed_in c) (length_in c) (counted_in c) (items_in c) c q calls

  -- ---- a step

  -- at most one word, or one slot, or the spare list with the block that enters it, leaves it or is made
  unfoldable pub OneCell : Contents T → Contents T → Type 0
  OneCell c d =
      (d ≡ c)
      ⊎ (((w : Word) × (x : ℕ) × (d ≡ write c w x))
      ⊎ (((s : Slot) × (o : Option T) × (d ≡ write_slot c s o))
      ⊎ ((d ≡ without_spare c)
      ⊎ ((b : ℕ) × (d ≡ with_retired c b)))))

  -- a call with no mark but Nothing
  abbrev pub IsQuiet : Stage T → Type 0
  IsQuiet (trying seen) = Unit {0}
  IsQuiet (read n) = Unit {0}
  IsQuiet (measured n k) = Unit {0}
  IsQuiet _ = ⊥

  abbrev pub AllQuiet : List (Phase T) → Type 0
  AllQuiet [] = Unit {0}
  AllQuiet (p ∷ ps) = IsQuiet p.stage × AllQuiet ps

  -- these other calls are quiet: none has a mark, and an unbounded queue has had its first removal or there is no
  -- other call at all
  abbrev pub PhasesQuiet : Queue T → List (Phase T) → Type 0
  PhasesQuiet q others = AllQuiet others × (q.capacity ≡ None → (0 < q.removed) ⊎ (others ≡ []))

  abbrev pub phase_of : ActiveQueueCall T → Phase T
  phase_of s = s.phase

  abbrev pub phases : List (ActiveQueueCall T) → List (Phase T)
  phases seats = map phase_of seats

  -- how many steps a call still needs at most, if the others are quiet
  abbrev pub rank_first : Bool → ℕ → Contents T → QueueAsk T → ℕ
  rank_first true m c a = single_rank c (start a)
  rank_first false m c a = ring_rank m c (ring_start a)

  abbrev pub rank_bounded : ℕ → Contents T → CallState T → ℕ
  rank_bounded cap c (Asked a) = rank_first (cap == 1) (ring_mark cap) c a
  rank_bounded cap c (Single a) = single_rank c a
  rank_bounded cap c (Ring a) = ring_rank (ring_mark cap) c a
  rank_bounded cap c _ = 0

  abbrev pub rank_blocks : Contents T → CallState T → ℕ
  rank_blocks c (Asked a) = blocks_rank c (begin a)
  rank_blocks c (Blocks a) = blocks_rank c a
  rank_blocks c _ = 0

  abbrev pub rank_by : QueueForm → Contents T → CallState T → ℕ
  rank_by (Bounded cap) c s = rank_bounded cap c s
  rank_by Unbounded c s = rank_blocks c s

  unfoldable pub rank : Contents T → QueueCall T → ℕ
  rank c call = rank_by c.form c call.state

  -- a new call may come in among any others, at any place in their list
  abbrev pub Starts : QueueCall T → QueueAsk T → Type 0
  Starts call a =
      (chain : List ℕ) (c : Contents T) (q : Queue T) (l r : List (ActiveQueueCall T)) → FitsAt chain c q (l ++ r) → FitsAt chain c q (l ++ seat call (asked a) ∷ r)

  -- what a step of the call p leaves, whatever the other calls are: it does what its mark says, and goes on or answers
  pub record StepLeaves (chain : List ℕ) (c : Contents T) (before : QueueCall T) (p : Phase T) (d : Contents T) (call : QueueCall T) (reply : Option (QueueReply T)) (q : Queue T) (l r : List (ActiveQueueCall T)) : Type 0 where
    pub one_cell : OneCell c d
    pub effect : MatchOption reply
        ((p' : Phase T) × Continues q p call.mark p' × FitsAt (chain_after chain c d) d (after p call.mark q) (l ++ seat call p' ∷ r))
        (λ x. Answers q p call.mark x × FitsAt (chain_after chain c d) d (after p call.mark q) (l ++ r))
    pub ends : PhasesQuiet q (phases (l ++ r)) → MatchOption reply (rank d call < rank c before) (λ x. Unit {0})

  abbrev pub IsQueueStep : Contents T → QueueCall T → Contents T → QueueCall T → Option (QueueReply T) → Type 0
  IsQueueStep c before d call reply =
      (chain : List ℕ) (q : Queue T) (p : Phase T) (l r : List (ActiveQueueCall T)) → IsInRange q → FitsAt chain c q (l ++ seat before p ∷ r) → StepLeaves chain c before p d call reply q l r
