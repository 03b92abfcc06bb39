-- What a call may answer, whatever its cells hold: a reply of its own kind, and a refused message is its own. Over cells that
-- threads share this is all that is known of a step.
use Rattle.std.specs.Prelude.{◌≡◌, ℕ, Bool, true, false, Option, None, Some, IfErr, MatchOption, MatchResult}
use Rattle.concurrent_queue.specs.machine.BlocksMoves.{answer_as}
use Rattle.concurrent_queue.specs.machine.Dispatch.{ring_cap}
use Rattle.concurrent_queue.specs.machine.RingWords.{cap_of}
use Rattle.concurrent_queue.specs.machine.RingCalls.{ask_of}
use Rattle.concurrent_queue.specs.declared.call.QueueAsk.{QueueAsk}
use Rattle.concurrent_queue.specs.declared.call.QueueAsk.TheVariants as ask
use Rattle.concurrent_queue.specs.declared.call.QueueReply.{QueueReply}
use Rattle.concurrent_queue.specs.declared.call.QueueReply.TheVariants as reply
use Rattle.concurrent_queue.specs.declared.call.Stepped.{Stepped}
use Rattle.concurrent_queue.specs.declared.error.PushError.{PushError}
use Rattle.concurrent_queue.specs.declared.error.PushError.TheVariants as push_error
use Rattle.concurrent_queue.specs.declared.error.ForcePushError.{ForcePushError}
use Rattle.concurrent_queue.specs.declared.error.ForcePushError.TheVariants as force_error
use Rattle.concurrent_queue.specs.declared.cells.QueueForm.{QueueForm}
use Rattle.concurrent_queue.specs.declared.cells.QueueForm.TheVariants.{Bounded, Unbounded}
use Rattle.concurrent_queue.specs.declared.single.SingleAction.{SingleAction}
use Rattle.concurrent_queue.specs.declared.single.SingleAction.TheVariants as single
use Rattle.concurrent_queue.specs.declared.bounded.WhenFull.{WhenFull}
use Rattle.concurrent_queue.specs.declared.bounded.RingAction.{RingAction}
use Rattle.concurrent_queue.specs.declared.bounded.RingAction.TheVariants as ring
use Rattle.concurrent_queue.specs.declared.unbounded.ending.Ending.{Ending}
use Rattle.concurrent_queue.specs.declared.unbounded.ending.Ending.TheVariants.{Sent, Closed, NoMemory, Replied}
use Rattle.concurrent_queue.specs.declared.unbounded.action.UnboundedAction.{UnboundedAction}
use Rattle.concurrent_queue.specs.declared.unbounded.action.UnboundedAction.TheVariants as blocks
use Rattle.concurrent_queue.specs.declared.unbounded.action.UnboundedCall.{UnboundedCall}
use Rattle.concurrent_queue.specs.declared.unbounded.action.Progress.{Progress}
use Rattle.concurrent_queue.specs.declared.queue_call.CallState.{CallState}
use Rattle.concurrent_queue.specs.declared.queue_call.CallState.TheVariants as state
use Rattle.concurrent_queue.specs.declared.queue_call.QueueCall.{QueueCall}

abbrev pub is_bounded : QueueForm → Bool
is_bounded (Bounded cap) = true
is_bounded Unbounded = false

-- how many messages fit into a queue of this form, if there is a bound: no ring has more than 2^58 slots
abbrev pub room_of : QueueForm → Option ℕ
room_of (Bounded cap) = Some (cap_of cap)
room_of Unbounded = None

-- what may still be answered after a step might have been answered before it, and so might what it answers; and so long as
-- closing and questions are not answered, they come nearer to it
-- Over all steps of a call this gives that a refused message is the caller's own.
module _ {A R : Type 0} where
  abbrev pub FollowsBy : (A → R → Type 0) → (A → Type 0) → (A → Type 0) → A → A → Option R → Type 0
  FollowsBy may last soon a a' answer =
      MatchOption answer (((r : R) → may a' r → may a r) × (last a → ⊥) × (soon a → last a')) (λ r. may a r)

  -- the same where the cells say what may be answered; after a step it no longer matters of which form they are
  abbrev pub FollowsIn : {F : Type 0} → (F → A → R → Type 0) → (A → Type 0) → (A → Type 0) → F → A → A → Option R → Type 0
  FollowsIn {F} may last soon form a a' answer =
      MatchOption answer (((f : F) (r : R) → may f a' r → may form a r) × (last a → ⊥) × (soon a → last a')) (λ r. may form a r)

-- what is still known of what a call under way was asked: the whole of it; all but the message, which it has put down; or
-- nothing any more, since it is over
pub data StillAsked (T : Type 0) : Type 0 where
  whole : QueueAsk T → StillAsked T
  all_but_message : (T → QueueAsk T) → StillAsked T
  no_more : StillAsked T

module _ {T : Type 0} where
  -- a refused push hands its message back; only a bounded queue is full, and only an unbounded one is out of memory
  abbrev pub HandsBack : Bool → T → PushError T → Type 0
  HandsBack bounded v (push_error.Full w) = (w ≡ v) × (bounded ≡ true)
  HandsBack bounded v (push_error.Closed w) = w ≡ v
  HandsBack bounded v (push_error.NoMemory w) = (w ≡ v) × (bounded ≡ false)

  abbrev pub HandsForceBack : Bool → T → ForcePushError T → Type 0
  HandsForceBack bounded v (force_error.Closed w) = w ≡ v
  HandsForceBack bounded v (force_error.NoMemory w) = (w ≡ v) × (bounded ≡ false)

  -- ---- the replies that may be given to each question; an unbounded queue displaces nothing and is never full

  abbrev pub MayPush : Bool → T → QueueReply T → Type 0
  MayPush bounded v (reply.Push r) = IfErr r (λ e. HandsBack bounded v e)
  MayPush bounded v _ = ⊥

  abbrev pub MayForce : Bool → T → QueueReply T → Type 0
  MayForce bounded v (reply.Force r) = MatchResult r (λ o. bounded ≡ false → o ≡ None) (λ e. HandsForceBack bounded v e)
  MayForce bounded v _ = ⊥

  abbrev pub MayPop : QueueReply T → Type 0
  MayPop (reply.Pop r) = Unit {0}
  MayPop _ = ⊥

  abbrev pub MayClose : QueueReply T → Type 0
  MayClose (reply.Close b) = Unit {0}
  MayClose _ = ⊥

  abbrev pub MayFlag : QueueReply T → Type 0
  MayFlag (reply.Flag b) = Unit {0}
  MayFlag _ = ⊥

  abbrev pub MayFull : Bool → QueueReply T → Type 0
  MayFull bounded (reply.Flag b) = bounded ≡ false → b ≡ false
  MayFull bounded _ = ⊥

  abbrev pub MayCount : QueueReply T → Type 0
  MayCount (reply.Count n) = Unit {0}
  MayCount _ = ⊥

  abbrev pub MayCap : Option ℕ → QueueReply T → Type 0
  MayCap room (reply.Cap c) = c ≡ room
  MayCap room _ = ⊥

  -- by what was asked of a queue with a bound or none, and with room for so many
  abbrev pub MayReply : Bool → Option ℕ → QueueAsk T → QueueReply T → Type 0
  MayReply bounded room (ask.Push v) r = MayPush bounded v r
  MayReply bounded room (ask.ForcePush v) r = MayForce bounded v r
  MayReply bounded room ask.Pop r = MayPop r
  MayReply bounded room ask.Close r = MayClose r
  MayReply bounded room ask.IsClosed r = MayFlag r
  MayReply bounded room ask.IsEmpty r = MayFlag r
  MayReply bounded room ask.IsFull r = MayFull bounded r
  MayReply bounded room ask.Len r = MayCount r
  MayReply bounded room ask.Capacity r = MayCap room r

  -- of a queue of this form
  abbrev pub MayAnswer : QueueForm → QueueAsk T → QueueReply T → Type 0
  MayAnswer form a r = MayReply (is_bounded form) (room_of form) a r

  -- ---- what a call under way was asked, in each form

  -- one slot
  abbrev pub single_asked : SingleAction T → StillAsked T
  single_asked (single.Push v) = whole (ask.Push v)
  single_asked (single.PushPut v) = whole (ask.Push v)
  single_asked single.PushUnlock = all_but_message (λ v. ask.Push v)
  single_asked (single.Force v x) = whole (ask.ForcePush v)
  single_asked (single.ForceTake v) = whole (ask.ForcePush v)
  single_asked (single.ForcePut v o) = whole (ask.ForcePush v)
  single_asked (single.ForceUnlock o) = all_but_message (λ v. ask.ForcePush v)
  single_asked (single.Pop x) = whole ask.Pop
  single_asked single.PopTake = whole ask.Pop
  single_asked (single.PopUnlock v) = whole ask.Pop
  single_asked single.Close = whole ask.Close
  single_asked single.IsClosed = whole ask.IsClosed
  single_asked single.IsEmpty = whole ask.IsEmpty
  single_asked single.IsFull = whole ask.IsFull
  single_asked single.Len = whole ask.Len
  single_asked single.Capacity = whole ask.Capacity
  single_asked single.Finished = no_more

  -- a ring: closing and the questions
  abbrev pub ring_question : RingAction T → StillAsked T
  ring_question ring.Close = whole ask.Close
  ring_question ring.IsClosed = whole ask.IsClosed
  ring_question ring.IsEmpty = whole ask.IsEmpty
  ring_question (ring.IsEmptyTail h) = whole ask.IsEmpty
  ring_question ring.IsFull = whole ask.IsFull
  ring_question (ring.IsFullHead t) = whole ask.IsFull
  ring_question ring.Len = whole ask.Len
  ring_question (ring.LenHead t m) = whole ask.Len
  ring_question (ring.LenTail t m h) = whole ask.Len
  ring_question ring.Capacity = whole ask.Capacity
  ring_question _ = no_more

  -- a ring
  abbrev pub ring_asked : RingAction T → StillAsked T
  ring_asked (ring.Push w v) = whole (ask_of w v)
  ring_asked (ring.PushShut w v) = whole (ask_of w v)
  ring_asked (ring.PushStamp w v t) = whole (ask_of w v)
  ring_asked (ring.PushSwap w v t) = whole (ask_of w v)
  ring_asked (ring.PushPut w v t) = whole (ask_of w v)
  ring_asked (ring.PushStore w t) = all_but_message (λ v. ask_of w v)
  ring_asked (ring.PushHead v h) = whole (ask.Push v)
  ring_asked (ring.ForceHead v h) = whole (ask.ForcePush v)
  ring_asked (ring.ForceAdd v h) = whole (ask.ForcePush v)
  ring_asked (ring.ForceTake v h) = whole (ask.ForcePush v)
  ring_asked (ring.ForcePut v h o) = whole (ask.ForcePush v)
  ring_asked (ring.ForceStore h o) = all_but_message (λ v. ask.ForcePush v)
  ring_asked ring.Pop = whole ask.Pop
  ring_asked (ring.PopStamp h) = whole ask.Pop
  ring_asked (ring.PopSwap h) = whole ask.Pop
  ring_asked (ring.PopTail h) = whole ask.Pop
  ring_asked (ring.PopTake h) = whole ask.Pop
  ring_asked (ring.PopStore h v) = whole ask.Pop
  ring_asked a = ring_question a

  -- blocks: popping, closing and the questions
  abbrev pub blocks_question : UnboundedAction T → StillAsked T
  blocks_question blocks.Pop = whole ask.Pop
  blocks_question (blocks.PopLook h) = whole ask.Pop
  blocks_question (blocks.PopTail h b) = whole ask.Pop
  blocks_question (blocks.PopSwap h b) = whole ask.Pop
  blocks_question (blocks.PopNext h b) = whole ask.Pop
  blocks_question (blocks.PopBlock h b n) = whole ask.Pop
  blocks_question (blocks.PopHead h b) = whole ask.Pop
  blocks_question (blocks.PopWait h b) = whole ask.Pop
  blocks_question (blocks.PopTake h b) = whole ask.Pop
  blocks_question (blocks.PopCount h b v) = whole ask.Pop
  blocks_question (blocks.PopRetire h b v) = whole ask.Pop
  blocks_question blocks.Close = whole ask.Close
  blocks_question blocks.AskClosed = whole ask.IsClosed
  blocks_question blocks.AskEmpty = whole ask.IsEmpty
  blocks_question (blocks.EmptyTail h) = whole ask.IsEmpty
  blocks_question blocks.AskFull = whole ask.IsFull
  blocks_question blocks.AskLen = whole ask.Len
  blocks_question (blocks.LenHead t) = whole ask.Len
  blocks_question (blocks.LenTail t h) = whole ask.Len
  blocks_question blocks.AskCapacity = whole ask.Capacity
  blocks_question _ = no_more

  -- blocks; a displacing push has nothing to displace here, and goes the way of a push
  abbrev pub blocks_asked : UnboundedAction T → StillAsked T
  blocks_asked (blocks.Push v h) = whole (ask.Push v)
  blocks_asked (blocks.PushShut v h) = whole (ask.Push v)
  blocks_asked (blocks.PushReturn v h) = whole (ask.Push v)
  blocks_asked (blocks.PushLook v t h) = whole (ask.Push v)
  blocks_asked (blocks.PushMake v t) = whole (ask.Push v)
  blocks_asked (blocks.PushFirst v t h) = whole (ask.Push v)
  blocks_asked (blocks.PushStart v t b) = whole (ask.Push v)
  blocks_asked (blocks.PushMore v t b) = whole (ask.Push v)
  blocks_asked (blocks.PushSwap v t b h) = whole (ask.Push v)
  blocks_asked (blocks.PushTurn v t b n) = whole (ask.Push v)
  blocks_asked (blocks.PushAdd v t b n) = whole (ask.Push v)
  blocks_asked (blocks.PushLink v t b n) = whole (ask.Push v)
  blocks_asked (blocks.PushPut v t b h) = whole (ask.Push v)
  blocks_asked (blocks.PushStore t b h) = all_but_message (λ v. ask.Push v)
  blocks_asked (blocks.PushGive h) = all_but_message (λ v. ask.Push v)
  blocks_asked a = blocks_question a

  -- ---- the replies that follow

  -- a call that has put its message down can't return it: its reply is right for each message
  abbrev pub MayStill : Bool → Option ℕ → StillAsked T → QueueReply T → Type 0
  MayStill bounded room (whole a) r = MayReply bounded room a r
  MayStill bounded room (all_but_message a) r = (v : T) → MayReply bounded room (a v) r
  MayStill bounded room no_more r = ⊥

  abbrev pub MaySingle : SingleAction T → QueueReply T → Type 0
  MaySingle a r = MayStill true (Some 1) (single_asked a) r

  -- of a ring of so many slots
  abbrev pub MayRing : ℕ → RingAction T → QueueReply T → Type 0
  MayRing cap a r = MayStill true (Some cap) (ring_asked a) r

  -- to a push into any ring
  abbrev pub MaySend : WhenFull → T → QueueReply T → Type 0
  MaySend w v r = (cap : ℕ) → MayReply true (Some cap) (ask_of w v) r

  -- how a push into an unbounded queue may end, and how a call that answers there
  abbrev pub Sends : T → Ending T → Type 0
  Sends v Sent = Unit {0}
  Sends v (Closed w) = w ≡ v
  Sends v (NoMemory w) = w ≡ v
  Sends v (Replied r) = ⊥

  abbrev pub Tells : QueueAsk T → Ending T → Type 0
  Tells a (Replied r) = MayAnswer Unbounded a r
  Tells a _ = ⊥

  abbrev pub EndsWhole : QueueAsk T → Ending T → Type 0
  EndsWhole (ask.Push v) e = Sends v e
  EndsWhole (ask.ForcePush v) e = Sends v e
  EndsWhole a e = Tells a e

  abbrev pub EndsStill : StillAsked T → Ending T → Type 0
  EndsStill (whole a) e = EndsWhole a e
  EndsStill (all_but_message a) e = (v : T) → EndsWhole (a v) e
  EndsStill no_more e = ⊥

  abbrev pub MayEnd : UnboundedAction T → Ending T → Type 0
  MayEnd a e = EndsStill (blocks_asked a) e

  abbrev pub MayBlocks : UnboundedCall T → QueueReply T → Type 0
  MayBlocks call r = (e : Ending T) × MayEnd call.action e × (r ≡ answer_as call.displacing e)

  -- the call has made no step, and asks this
  abbrev pub IsAsking : QueueCall T → QueueAsk T → Type 0
  IsAsking call a = call.state ≡ state.Asked a

  abbrev pub MayCall : QueueForm → CallState T → QueueReply T → Type 0
  MayCall form (state.Asked a) r = MayAnswer form a r
  MayCall form (state.Single a) r = MaySingle a r
  MayCall form (state.Ring a) r = MayRing (ring_cap form) a r
  MayCall form (state.Blocks c) r = MayBlocks c r
  MayCall form state.Finished r = ⊥

  -- ---- closing and the questions but for the length, which are answered at their second step at the latest

  -- the next step answers
  abbrev pub IsLastSingle : SingleAction T → Type 0
  IsLastSingle single.Close = Unit {0}
  IsLastSingle single.IsClosed = Unit {0}
  IsLastSingle single.IsEmpty = Unit {0}
  IsLastSingle single.IsFull = Unit {0}
  IsLastSingle single.Capacity = Unit {0}
  IsLastSingle _ = ⊥

  abbrev pub IsLastRing : RingAction T → Type 0
  IsLastRing ring.Close = Unit {0}
  IsLastRing ring.IsClosed = Unit {0}
  IsLastRing (ring.IsEmptyTail h) = Unit {0}
  IsLastRing (ring.IsFullHead t) = Unit {0}
  IsLastRing ring.Capacity = Unit {0}
  IsLastRing _ = ⊥

  abbrev pub IsLastBlocks : UnboundedAction T → Type 0
  IsLastBlocks blocks.Close = Unit {0}
  IsLastBlocks blocks.AskClosed = Unit {0}
  IsLastBlocks (blocks.EmptyTail h) = Unit {0}
  IsLastBlocks blocks.AskFull = Unit {0}
  IsLastBlocks blocks.AskCapacity = Unit {0}
  IsLastBlocks _ = ⊥

  abbrev pub IsLast : CallState T → Type 0
  IsLast (state.Single a) = IsLastSingle a
  IsLast (state.Ring a) = IsLastRing a
  IsLast (state.Blocks c) = IsLastBlocks c.action
  IsLast _ = ⊥

  -- the next step but one answers, if not the next
  abbrev pub IsSoonSingle : SingleAction T → Type 0
  IsSoonSingle a = ⊥

  abbrev pub IsSoonRing : RingAction T → Type 0
  IsSoonRing ring.IsEmpty = Unit {0}
  IsSoonRing ring.IsFull = Unit {0}
  IsSoonRing _ = ⊥

  abbrev pub IsSoonBlocks : UnboundedAction T → Type 0
  IsSoonBlocks blocks.AskEmpty = Unit {0}
  IsSoonBlocks _ = ⊥

  abbrev pub AsksWords : QueueAsk T → Type 0
  AsksWords ask.Close = Unit {0}
  AsksWords ask.IsClosed = Unit {0}
  AsksWords ask.IsEmpty = Unit {0}
  AsksWords ask.IsFull = Unit {0}
  AsksWords ask.Capacity = Unit {0}
  AsksWords _ = ⊥

  abbrev pub IsSoon : CallState T → Type 0
  IsSoon (state.Asked a) = AsksWords a
  IsSoon (state.Single a) = IsSoonSingle a
  IsSoon (state.Ring a) = IsSoonRing a
  IsSoon (state.Blocks c) = IsSoonBlocks c.action
  IsSoon state.Finished = ⊥

  -- ---- a step

  abbrev pub SingleFollows : SingleAction T → Stepped (SingleAction T) T → Type 0
  SingleFollows a s = FollowsBy MaySingle IsLastSingle IsSoonSingle a s.action s.reply

  abbrev pub RingFollows : ℕ → RingAction T → Stepped (RingAction T) T → Type 0
  RingFollows cap a s = FollowsIn MayRing IsLastRing IsSoonRing cap a s.action s.reply

  abbrev pub EndFollows : UnboundedAction T → Progress T → Type 0
  EndFollows a p = FollowsBy MayEnd IsLastBlocks IsSoonBlocks a p.action p.ending

  abbrev pub BlocksFollows : UnboundedCall T → Stepped (UnboundedCall T) T → Type 0
  BlocksFollows c s = FollowsBy MayBlocks (λ x. IsLastBlocks x.action) (λ x. IsSoonBlocks x.action) c s.action s.reply

  abbrev pub StateFollows : QueueForm → CallState T → CallState T → Option (QueueReply T) → Type 0
  StateFollows form a a' answer = FollowsIn MayCall IsLast IsSoon form a a' answer

  abbrev pub Follows : QueueForm → QueueCall T → QueueCall T → Option (QueueReply T) → Type 0
  Follows form call call' answer = StateFollows form call.state call'.state answer
