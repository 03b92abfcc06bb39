-- A closable queue with calls under way, seen without its cells, and what one entry of a run does.
use Rattle.std.specs.Prelude.{◌≡◌, ℕ, ◌<◌, Bool, true, false, List, [], ◌∷◌, ◌++◌, length, map, Option, None, Some, ◌⊎◌}
use Rattle.concurrent_queue.specs.Contents.{Contents}
use Rattle.concurrent_queue.specs.Queue.{Queue, message, marked, opened}
use Rattle.concurrent_queue.specs.Rows.{MarkedStep, MayAnswer, IsBegun}
use Rattle.concurrent_queue.specs.Step.{Lies, closed_in, length_in}
use Rattle.concurrent_queue.specs.declared.call.QueueAsk.{QueueAsk}
use Rattle.concurrent_queue.specs.declared.call.QueueMark.{QueueMark}
use Rattle.concurrent_queue.specs.declared.call.QueueMark.TheVariants.{Nothing, Append, TakeDisplaced, Replace}
use Rattle.concurrent_queue.specs.declared.call.QueueReply.{QueueReply}
use Rattle.concurrent_queue.specs.declared.call.QueueEntry.{QueueEntry}

-- a call under way: whose it is, what it asks, its marks, oldest first, the moments since it began, newest first, and how
-- many silent steps it has left at most, if nothing else is done and the others are quiet
pub record CallUnderWay (T : Type 0) : Type 0 where
  pub party : ℕ
  pub ask : QueueAsk T
  pub marked_steps : List (MarkedStep T)
  pub seen : List (Queue T)
  pub left : ℕ

-- a queue with its calls under way, in the order in which they began
pub record Scene (T : Type 0) : Type 0 where
  pub now : Queue T
  pub under_way : List (CallUnderWay T)

module _ {T : Type 0} where
  -- whether a call took a message out to make room
  abbrev pub makes_room : List (MarkedStep T) → Bool
  makes_room [] = false
  makes_room (d ∷ ds) = elim d.mark [ TakeDisplaced ↦ true | _ ↦ makes_room ds ]

  -- whether a call brought its message
  abbrev pub has_brought : List (MarkedStep T) → Bool
  has_brought [] = false
  has_brought (d ∷ ds) = elim d.mark [ Append ↦ true | Replace ↦ true | _ ↦ has_brought ds ]

  -- the marks of a call after a step
  abbrev pub with_mark : List (MarkedStep T) → QueueMark → Queue T → List (Queue T) → List (MarkedStep T)
  with_mark ds Nothing q seen = ds
  with_mark ds mark q seen = ds ++ record { mark = mark; before = q; seen = seen } ∷ []

  abbrev pub begun : ℕ → QueueAsk T → Queue T → CallUnderWay T
  begun p a q = record { party = p; ask = a; marked_steps = []; seen = q ∷ []; left = 63 }

  -- another's step gives a call a new moment, and its bound anew
  abbrev pub observing : Queue T → CallUnderWay T → CallUnderWay T
  observing q u = record u { seen = q ∷ u.seen; left = 63 }

  -- a call after a step of its own over the queue q, which left q'
  abbrev pub stepped : CallUnderWay T → QueueMark → Queue T → Queue T → ℕ → CallUnderWay T
  stepped u mark q q' left = record u { marked_steps = with_mark u.marked_steps mark q u.seen; seen = q' ∷ u.seen; left = left }

  -- no call has a mark
  abbrev pub AllIdle : List (CallUnderWay T) → Type 0
  AllIdle [] = Unit {0}
  AllIdle (u ∷ us) = (u.marked_steps ≡ []) × AllIdle us

  -- these others are quiet: none has a mark, and an unbounded queue has had its first removal or there is no other
  abbrev pub OthersQuiet : Queue T → List (CallUnderWay T) → Type 0
  OthersQuiet q others = AllIdle others × (q.capacity ≡ None → (0 < q.removed) ⊎ (others ≡ []))

  -- the call that made a step: it has done a beginning of what some reply needs, and if nobody held it up it has fewer
  -- silent steps left; or its reply is one that it may give, and it is gone
  abbrev pub ContinuesAs : CallUnderWay T → CallUnderWay T → Queue T → List (CallUnderWay T) → Option (QueueReply T) → Type 0
  ContinuesAs u u' q others None = IsBegun u'.ask u'.marked_steps × (u'.left < 64) × (OthersQuiet q others → u'.left < u.left)
  ContinuesAs u u' q others (Some r) = MayAnswer u'.ask u'.marked_steps u'.seen r

  abbrev pub unless_ended : CallUnderWay T → Option (QueueReply T) → List (CallUnderWay T)
  unless_ended u None = u ∷ []
  unless_ended u (Some r) = []

  -- a party with a call under way makes a step of it: the queue is changed by the mark alone
  pub record PartySteps (s : Scene T) (p : ℕ) (e : QueueEntry T) (t : Scene T) : Type 0 where
    pub before : List (CallUnderWay T)
    pub mine : CallUnderWay T
    pub behind : List (CallUnderWay T)
    pub left : ℕ
    pub there : s.under_way ≡ before ++ mine ∷ behind
    pub whose : mine.party ≡ p
    pub now : t.now ≡ marked mine.ask (makes_room mine.marked_steps) e.mark s.now
    pub goes_on : ContinuesAs mine (stepped mine e.mark s.now t.now left) s.now (before ++ behind) e.reply
    pub under_way : t.under_way ≡ map (observing t.now) before ++ (unless_ended (stepped mine e.mark s.now t.now left) e.reply ++ map (observing t.now) behind)

  -- this party has no call under way
  abbrev pub NotUnderWay : ℕ → List (CallUnderWay T) → Type 0
  NotUnderWay p [] = Unit {0}
  NotUnderWay p (u ∷ us) = (u.party ≡ p → ⊥) × NotUnderWay p us

  -- this party has one
  abbrev pub IsUnderWay : ℕ → List (CallUnderWay T) → Type 0
  IsUnderWay p [] = ⊥
  IsUnderWay p (u ∷ us) = (u.party ≡ p) ⊎ IsUnderWay p us

  -- a party that has no call under way begins one; nothing else is changed
  pub record Begins (s : Scene T) (p : ℕ) (a : QueueAsk T) (e : QueueEntry T) (t : Scene T) : Type 0 where
    pub entry : e ≡ record { mark = Nothing; reply = None }
    pub free : NotUnderWay p s.under_way
    pub now : t.now ≡ s.now
    pub under_way : t.under_way ≡ s.under_way ++ begun p a s.now ∷ []

  -- a call under way has brought this message
  abbrev pub IsBroughtBy : List (CallUnderWay T) → T → Type 0
  IsBroughtBy [] v = ⊥
  IsBroughtBy (u ∷ us) v = ((message u.ask ≡ v ∷ []) × (has_brought u.marked_steps ≡ true)) ⊎ IsBroughtBy us v

  -- what the cells of a queue that has used these blocks show of a scene: the flag and the length by the words, and each
  -- message in the slot that the words name or with its call
  pub record Reads (chain : List ℕ) (c : Contents T) (s : Scene T) : Type 0 where
    pub flag : closed_in c ≡ s.now.closed
    pub long : length_in c ≡ length s.now.items
    pub lies : Lies chain c s.now.items (IsBroughtBy s.under_way)

  abbrev pub new_scene : Option ℕ → Scene T
  new_scene capacity = record { now = opened capacity; under_way = [] }
