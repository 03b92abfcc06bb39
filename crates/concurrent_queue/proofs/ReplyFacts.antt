-- What a step of one form's machine may answer, in the words of all calls.
use Rattle.std.proofs.Common.{◌≡◌, ℕ, Bool, true, false, Option, None, Some, refl, subst, sym}
use Rattle.concurrent_queue.specs.machine.Dispatch.{in_single, in_ring, in_blocks, ring_cap}
use Rattle.concurrent_queue.specs.declared.call.Stepped.{Stepped}
use Rattle.concurrent_queue.specs.declared.cells.QueueForm.{QueueForm}
use Rattle.concurrent_queue.specs.declared.cells.QueueForm.TheVariants.{Bounded, Unbounded}
use Rattle.concurrent_queue.specs.machine.RingWords.{cap_of, ring_start}
use Rattle.concurrent_queue.specs.machine.Single.{start}
use Rattle.concurrent_queue.specs.machine.BlocksMoves.{answer_as}
use Rattle.concurrent_queue.specs.machine.BlocksWords.{begin, reply_of}
use Rattle.concurrent_queue.specs.Replies.{MayAnswer, MaySingle, MayRing, MayEnd, MayBlocks, Tells, Sends, FollowsBy, FollowsIn, SingleFollows, RingFollows, BlocksFollows, StateFollows, IsLastSingle, IsSoonSingle, IsLastRing, IsSoonRing, IsLastBlocks, IsSoonBlocks, AsksWords}
use Rattle.concurrent_queue.specs.declared.call.QueueAsk.{QueueAsk}
use Rattle.concurrent_queue.specs.declared.call.QueueAsk.TheVariants as ask
use Rattle.concurrent_queue.specs.declared.call.QueueReply.{QueueReply}
use Rattle.concurrent_queue.specs.declared.bounded.RingAction.{RingAction}
use Rattle.concurrent_queue.specs.declared.single.SingleAction.{SingleAction}
use Rattle.concurrent_queue.specs.declared.unbounded.ending.Ending.{Ending}
use Rattle.concurrent_queue.specs.declared.unbounded.ending.Ending.TheVariants as ending
use Rattle.concurrent_queue.specs.declared.unbounded.action.UnboundedAction.{UnboundedAction}
use Rattle.concurrent_queue.specs.declared.unbounded.action.UnboundedCall.{UnboundedCall}
use Rattle.concurrent_queue.specs.declared.queue_call.CallState.{CallState}
use Rattle.concurrent_queue.specs.declared.queue_call.CallState.TheVariants as state

module _ {T : Type 0} where
  abbrev pub call : Bool → UnboundedAction T → UnboundedCall T
  call d a = record { displacing = d; action = a }

  -- how a call ends says what it answers
  pub blocks_follow : (d : Bool) (a a' : UnboundedAction T) (o : Option (Ending T)) → FollowsBy MayEnd IsLastBlocks IsSoonBlocks a a' o
      → FollowsBy MayBlocks (λ x. IsLastBlocks x.action) (λ x. IsSoonBlocks x.action) (call d a) (call d a') (reply_of d o)
  blocks_follow d a a' None h = ((λ r m. (m.0, h.0 m.0 m.1, m.2)), h.1, h.2)
  blocks_follow d a a' (Some e) h = (e, h, refl)

  -- ---- the first action of a call may answer what was asked

  may_single : (a : QueueAsk T) (r : QueueReply T) → MaySingle (start a) r → MayAnswer (Bounded 1) a r
  may_single (ask.Push v) r h = h
  may_single (ask.ForcePush v) r h = h
  may_single ask.Pop r h = h
  may_single ask.Close r h = h
  may_single ask.IsClosed r h = h
  may_single ask.IsEmpty r h = h
  may_single ask.IsFull r h = h
  may_single ask.Len r h = h
  may_single ask.Capacity r h = h

  soon_single : (a : QueueAsk T) (P : Type 0) → (IsLastSingle (start a) → ⊥) → AsksWords a → P
  soon_single (ask.Push v) P last h = absurd h
  soon_single (ask.ForcePush v) P last h = absurd h
  soon_single ask.Pop P last h = absurd h
  soon_single ask.Close P last h = absurd (last h)
  soon_single ask.IsClosed P last h = absurd (last h)
  soon_single ask.IsEmpty P last h = absurd (last h)
  soon_single ask.IsFull P last h = absurd (last h)
  soon_single ask.Len P last h = absurd h
  soon_single ask.Capacity P last h = absurd (last h)

  single_first : (a : QueueAsk T) (a' : SingleAction T) (o : Option (QueueReply T)) → FollowsBy MaySingle IsLastSingle IsSoonSingle (start a) a' o → StateFollows (Bounded 1) (state.Asked a) (state.Single a') o
  single_first a a' None h = ((λ f r m. may_single a r (h.0 r m)), (λ x. x), soon_single a (IsLastSingle a') h.1)
  single_first a a' (Some r) h = may_single a r h

  may_ring : (cap : ℕ) (a : QueueAsk T) (r : QueueReply T) → MayRing (cap_of cap) (ring_start a) r → MayAnswer (Bounded cap) a r
  may_ring cap (ask.Push v) r h = h
  may_ring cap (ask.ForcePush v) r h = h
  may_ring cap ask.Pop r h = h
  may_ring cap ask.Close r h = h
  may_ring cap ask.IsClosed r h = h
  may_ring cap ask.IsEmpty r h = h
  may_ring cap ask.IsFull r h = h
  may_ring cap ask.Len r h = h
  may_ring cap ask.Capacity r h = h

  soon_ring : (a : QueueAsk T) (P : Type 0) → (IsLastRing (ring_start a) → ⊥) → (IsSoonRing (ring_start a) → P) → AsksWords a → P
  soon_ring (ask.Push v) P last soon h = absurd h
  soon_ring (ask.ForcePush v) P last soon h = absurd h
  soon_ring ask.Pop P last soon h = absurd h
  soon_ring ask.Close P last soon h = absurd (last h)
  soon_ring ask.IsClosed P last soon h = absurd (last h)
  soon_ring ask.IsEmpty P last soon h = soon h
  soon_ring ask.IsFull P last soon h = soon h
  soon_ring ask.Len P last soon h = absurd h
  soon_ring ask.Capacity P last soon h = absurd (last h)

  pub ring_first : (cap : ℕ) (a : QueueAsk T) (a' : RingAction T) (o : Option (QueueReply T)) → FollowsIn MayRing IsLastRing IsSoonRing (cap_of cap) (ring_start a) a' o → StateFollows (Bounded cap) (state.Asked a) (state.Ring a') o
  ring_first cap a a' None h = ((λ f r m. may_ring cap a r (h.0 (ring_cap f) r m)), (λ x. x), soon_ring a (IsLastRing a') h.1 h.2)
  ring_first cap a a' (Some r) h = may_ring cap a r h

  may_send : (v : T) (e : Ending T) → Sends v e → MayAnswer Unbounded (ask.Push v) (answer_as false e)
  may_send v ending.Sent h = tt
  may_send v (ending.Closed w) h = h
  may_send v (ending.NoMemory w) h = (h, refl)
  may_send v (ending.Replied r) h = absurd h

  may_force : (v : T) (e : Ending T) → Sends v e → MayAnswer Unbounded (ask.ForcePush v) (answer_as true e)
  may_force v ending.Sent h = λ _. refl
  may_force v (ending.Closed w) h = h
  may_force v (ending.NoMemory w) h = (h, refl)
  may_force v (ending.Replied r) h = absurd h

  may_tell : (a : QueueAsk T) (e : Ending T) → Tells a e → MayAnswer Unbounded a (answer_as false e)
  may_tell a ending.Sent h = absurd h
  may_tell a (ending.Closed w) h = absurd h
  may_tell a (ending.NoMemory w) h = absurd h
  may_tell a (ending.Replied r) h = h

  may_end : (a : QueueAsk T) (e : Ending T) → MayEnd (begin a).action e → MayAnswer Unbounded a (answer_as (begin a).displacing e)
  may_end (ask.Push v) e h = may_send v e h
  may_end (ask.ForcePush v) e h = may_force v e h
  may_end ask.Pop e h = may_tell ask.Pop e h
  may_end ask.Close e h = may_tell ask.Close e h
  may_end ask.IsClosed e h = may_tell ask.IsClosed e h
  may_end ask.IsEmpty e h = may_tell ask.IsEmpty e h
  may_end ask.IsFull e h = may_tell ask.IsFull e h
  may_end ask.Len e h = may_tell ask.Len e h
  may_end ask.Capacity e h = may_tell ask.Capacity e h

  may_blocks : (a : QueueAsk T) (r : QueueReply T) → MayBlocks (begin a) r → MayAnswer Unbounded a r
  may_blocks a r (e, m, same) = subst (MayAnswer Unbounded a) (sym same) (may_end a e m)

  soon_blocks : (a : QueueAsk T) (P : Type 0) → (IsLastBlocks (begin a).action → ⊥) → (IsSoonBlocks (begin a).action → P) → AsksWords a → P
  soon_blocks (ask.Push v) P last soon h = absurd h
  soon_blocks (ask.ForcePush v) P last soon h = absurd h
  soon_blocks ask.Pop P last soon h = absurd h
  soon_blocks ask.Close P last soon h = absurd (last h)
  soon_blocks ask.IsClosed P last soon h = absurd (last h)
  soon_blocks ask.IsEmpty P last soon h = soon h
  soon_blocks ask.IsFull P last soon h = absurd (last h)
  soon_blocks ask.Len P last soon h = absurd h
  soon_blocks ask.Capacity P last soon h = absurd (last h)

  pub blocks_first : (a : QueueAsk T) (c : UnboundedCall T) (o : Option (QueueReply T)) → FollowsBy MayBlocks (λ x. IsLastBlocks x.action) (λ x. IsSoonBlocks x.action) (begin a) c o → StateFollows Unbounded (state.Asked a) (state.Blocks c) o
  blocks_first a c None h = ((λ b r m. may_blocks a r (h.0 r m)), (λ x. x), soon_blocks a (IsLastBlocks c.action) h.1 h.2)
  blocks_first a c (Some r) h = may_blocks a r h

  -- ---- the same in the words of all calls

  pub single_wrapped : (f : QueueForm) (a : QueueAsk T) (first : SingleAction T) (s : Stepped (SingleAction T) T) (w : Stepped (CallState T) T)
      → f ≡ Bounded 1 → first ≡ start a → w ≡ in_single s → SingleFollows first s → StateFollows f (state.Asked a) w.action w.reply
  single_wrapped f a first s w form begins wraps h =
      subst (λ (x : QueueForm). StateFollows x (state.Asked a) w.action w.reply) (sym form)
      (subst (λ (x : Stepped (CallState T) T). StateFollows (Bounded 1) (state.Asked a) x.action x.reply) (sym wraps)
      (single_first a s.action s.reply (subst (λ (x : SingleAction T). SingleFollows x s) begins h)))

  pub ring_wrapped : (f : QueueForm) (cap : ℕ) (a : QueueAsk T) (first : RingAction T) (s : Stepped (RingAction T) T) (w : Stepped (CallState T) T)
      → f ≡ Bounded cap → first ≡ ring_start a → w ≡ in_ring s → RingFollows (ring_cap f) first s → StateFollows f (state.Asked a) w.action w.reply
  ring_wrapped f cap a first s w form begins wraps h =
      subst (λ (x : QueueForm). StateFollows x (state.Asked a) w.action w.reply) (sym form)
      (subst (λ (x : Stepped (CallState T) T). StateFollows (Bounded cap) (state.Asked a) x.action x.reply) (sym wraps)
      (ring_first cap a s.action s.reply (subst (λ (x : RingAction T). RingFollows (cap_of cap) x s) begins (subst (λ (x : QueueForm). RingFollows (ring_cap x) first s) form h))))

  pub blocks_wrapped : (f : QueueForm) (a : QueueAsk T) (first : UnboundedCall T) (s : Stepped (UnboundedCall T) T) (w : Stepped (CallState T) T)
      → f ≡ Unbounded → first ≡ begin a → w ≡ in_blocks s → BlocksFollows first s → StateFollows f (state.Asked a) w.action w.reply
  blocks_wrapped f a first s w form begins wraps h =
      subst (λ (x : QueueForm). StateFollows x (state.Asked a) w.action w.reply) (sym form)
      (subst (λ (x : Stepped (CallState T) T). StateFollows Unbounded (state.Asked a) x.action x.reply) (sym wraps)
      (blocks_first a s.action s.reply (subst (λ (x : UnboundedCall T). BlocksFollows x s) begins h)))

  blocks_later : (form : QueueForm) (x x' : UnboundedCall T) (o : Option (QueueReply T)) → FollowsBy MayBlocks (λ y. IsLastBlocks y.action) (λ y. IsSoonBlocks y.action) x x' o → StateFollows form (state.Blocks x) (state.Blocks x') o
  blocks_later form x x' None h = ((λ b r m. h.0 r m), h.1, h.2)
  blocks_later form x x' (Some r) h = h

  pub blocks_still : (form : QueueForm) (at : CallState T) (x : UnboundedCall T) (s : Stepped (UnboundedCall T) T) (w : Stepped (CallState T) T)
      → at ≡ state.Blocks x → w ≡ in_blocks s → BlocksFollows x s → StateFollows form at w.action w.reply
  blocks_still form at x s w same wraps h =
      subst (λ (y : CallState T). StateFollows form y w.action w.reply) (sym same)
      (subst (λ (y : Stepped (CallState T) T). StateFollows form (state.Blocks x) y.action y.reply) (sym wraps) (blocks_later form x s.action s.reply h))
