-- The steps of a receive of several that has got its room, from what each pop answered.
use Rattle.std.proofs.Common.{arith, ◌≡◌, ℕ, zero, suc, ◌+◌, List, [], ◌∷◌, ◌++◌, length, None, Some, Ok, Err, ◌<◌, inl, inr, refl, sym, subst}
use Rattle.concurrent_queue.specs.Replies.{IsAsking}
use Rattle.concurrent_queue.specs.Step.{Starts, mark_of}
use Rattle.concurrent_queue.specs.declared.call.QueueAsk.TheVariants as queue_ask
use Rattle.concurrent_queue.specs.declared.call.QueueReply.{QueueReply}
use Rattle.concurrent_queue.specs.declared.call.QueueReply.TheVariants.{Pop}
use Rattle.concurrent_queue.specs.declared.queue_call.QueueCall.{QueueCall}
use Rattle.channel_calls.specs.Answered.{several_next, hands_out}
use Rattle.channel_calls.specs.Asks.{first}
use Rattle.channel_calls.specs.Deeds.{Deed, stepped, told}
use Rattle.channel_calls.specs.Filling.{popped_as}
use Rattle.channel_calls.specs.Marks.{mark_of_queue}
use Rattle.channel_calls.specs.Several.{Gathered, gathering}
use Rattle.channel_calls.specs.Turns.{says, nothing_kept, room_next, roomless}
use Rattle.channel_calls.specs.Walks.{Takes, Leads, WalkedTo}
use Rattle.channel_calls.specs.declared.ask.ChannelAsk.TheVariants as ask
use Rattle.channel_calls.specs.declared.error.Refused.TheVariants.{Plain, NoMemory}
use Rattle.channel_calls.specs.declared.error.TryRecvError.{TryRecvError}
use Rattle.channel_calls.specs.declared.error.TryRecvError.TheVariants as try_recv_error
use Rattle.channel_calls.specs.declared.mark.Mark.TheVariants.{Nothing}
use Rattle.channel_calls.specs.declared.reply.Reply.TheVariants as reply
use Rattle.channel_calls.specs.declared.stage.Purpose.TheVariants as purpose
use Rattle.channel_calls.specs.declared.stage.Telling.TheVariants.{More}
use Rattle.channel_calls.specs.declared.stage.WaitList.TheVariants.{Sends}
use Rattle.channel_calls.specs.declared.stage.Stage.{Stage}
use Rattle.channel_calls.specs.declared.stage.Stage.TheVariants.{Trying, Working, Finished}
use Rattle.channel_calls.specs.declared.stage.NextStep.{NextStep}
use Rattle.channel_calls.specs.declared.stage.NextStep.TheVariants.{Ends}
use Rattle.channel_calls.specs.declared.stage.ListStep.TheVariants.{TakeRoom, TellSends}
use Rattle.channel_calls.proofs.Walking.{leads_on}

module _ {T : Type 0} where
  abbrev pub with_these : List T → ℕ → Gathered T
  with_these taken more = record { taken = taken; more = more }

module _ {T W : Type 0} where
  -- what is answered where there is no further message
  abbrev refusal : TryRecvError → NextStep T W
  refusal e = Ends (reply.RecvMany (Err (Plain e))) nothing_kept

  -- none was taken, or some were
  pub ends_empty : (e : TryRecvError) (taken : List T) (more : ℕ) → length taken ≡ 0 → several_next (popped_as (Err e)) (with_these taken more) ≡ refusal e
  ends_empty try_recv_error.Empty [] more none = refl
  ends_empty try_recv_error.Closed [] more none = refl
  ends_empty e (v ∷ vs) more none = absurd (omega (arith, none))

  pub ends_short : (e : TryRecvError) (taken : List T) (more : ℕ) → (length taken ≡ 0 → ⊥) → several_next (popped_as (Err e)) (with_these taken more) ≡ hands_out {W = W} taken
  ends_short e [] more some = absurd (some refl)
  ends_short try_recv_error.Empty (v ∷ vs) more some = refl
  ends_short try_recv_error.Closed (v ∷ vs) more some = refl

  -- the last one that is wanted
  pub ends_full : (v : T) (taken : List T) (more : ℕ) → more ≡ 0 → several_next (Pop (Ok v)) (with_these taken more) ≡ hands_out {W = W} (taken ++ v ∷ [])
  ends_full v taken zero none = refl
  ends_full v taken (suc more) none = absurd (omega (arith, none))

-- ---- numbers
pub none_of : {A : Type 0} (xs : List A) → length xs ≡ 0 → xs ≡ []
none_of [] e = refl
none_of (x ∷ xs) e = absurd (omega (arith, e))

pub one_longer : {A : Type 0} (xs : List A) (x : A) → length (xs ++ x ∷ []) ≡ length xs + 1
one_longer [] x = refl
one_longer (y ∷ xs) x = let h = one_longer xs x in omega (arith, h)

pub fewer : (more : ℕ) → (more ≡ 0 → ⊥) → (k : ℕ) × (more ≡ suc k)
fewer zero some = absurd (some refl)
fewer (suc k) some = (k, refl)

module _ {T W X : Type 0} (did : Deed T W → X → X → Type 0) where
  -- the steps of a receive of so many up to here: it has these, may take so many more after the next one, and tries for that by this call
  abbrev pub Gathers : ℕ → X → QueueCall T → List T → ℕ → X → Type 0
  Gathers room s call taken more t = (n : ℕ) × Leads did n s (Working (TakeRoom room)) t (Trying call (purpose.RecvMany (with_these taken more)))

  pub none_wanted : (s : X) → WalkedTo did (first (ask.RecvMany 0)) s (reply.RecvMany (Ok [])) s
  none_wanted s = (nothing_kept, (Working (TakeRoom 0), (refl, refl), (0, s, Working (TakeRoom 0), Nothing, Finished nothing_kept, (refl, refl), (room_next 0, refl, inl refl, (refl, (refl, refl))), refl)))

  -- memory is refused at the first step
  pub none_had : (n : ℕ) → 0 < n → (s : X) → WalkedTo did (first (ask.RecvMany n)) s (reply.RecvMany (Err (NoMemory tt))) s
  none_had n some s = (nothing_kept, (Working (TakeRoom n), (refl, refl), (0, s, Working (TakeRoom n), Nothing, Finished nothing_kept, (refl, refl), (roomless, refl, inr (some, refl), (refl, (refl, refl))), refl)))

  pub begins : (more : ℕ) (s : X) (call : QueueCall T) → Starts call queue_ask.Pop → IsAsking call queue_ask.Pop → Gathers (suc more) s call [] more s
  begins more s call starts asks =
      (1, (s, Trying call (purpose.RecvMany (gathering more)), Nothing, (room_next (suc more), refl, inl refl, (refl, (call, starts, asks, refl, refl))), (refl, refl)))

  module _ (room : ℕ) (s : X) (call after : QueueCall T) (taken : List T) (t u : X) where
    pub goes_on : (more : ℕ) → Gathers room s call taken more t → did (stepped call after None) t u → Gathers room s after taken more u
    goes_on more (n, leads) deed =
        let g = with_these taken more in
        (suc n, leads_on did n s (Working (TakeRoom room)) t (Trying call (purpose.RecvMany g)) (mark_of_queue (mark_of after)) u (Trying after (purpose.RecvMany g)) leads (after, None, deed, refl, (refl, refl)))

    -- it has taken one, and tries for the next
    pub takes : (more : ℕ) → Gathers room s call taken (suc more) t → (v : T) → did (stepped call after (Some (Pop (Ok v)))) t u
        → (next : QueueCall T) → Starts next queue_ask.Pop → IsAsking next queue_ask.Pop → Gathers room s next (taken ++ v ∷ []) more u
    takes more (n, leads) v deed next starts asks =
        let g = with_these taken (suc more) in
        let g' = with_these (taken ++ v ∷ []) more in
        (suc n, leads_on did n s (Working (TakeRoom room)) t (Trying call (purpose.RecvMany g)) (mark_of_queue (mark_of after)) u (Trying next (purpose.RecvMany g')) leads (after, Some (Pop (Ok v)), deed, refl, (next, starts, asks, refl, refl)))

    module _ (more : ℕ) (gathers : Gathers room s call taken more t) (y : QueueReply T) (deed : did (stepped call after (Some y)) t u) where
      -- the answer is the last one: what was taken is handed out
      pub hands : (vs : List T) → several_next y (with_these taken more) ≡ hands_out {W = W} vs → (names : List W) (w : X) → did (told Sends (More (length vs)) names) u w
          → WalkedTo did (first (ask.RecvMany room)) s (reply.RecvMany (Ok vs)) w
      hands vs e names w heard =
          let g = with_these taken more in
          let tells : Stage (QueueCall T) T W = Working (TellSends (length vs) (says (reply.RecvMany (Ok vs)))) in
          let turn : Takes (several_next y g) tells None = subst (λ (z : NextStep T W). Takes z tells None) (sym e) (refl, refl) in
          let leads = leads_on did gathers.0 s (Working (TakeRoom room)) t (Trying call (purpose.RecvMany g)) (mark_of_queue (mark_of after)) u tells gathers.1 (after, Some y, deed, refl, turn) in
          (nothing_kept, (Working (TakeRoom room), (refl, refl), (suc gathers.0, u, tells, Nothing, Finished nothing_kept, leads, (names, heard, (refl, (refl, refl))), refl)))

      -- or nothing was taken
      pub finds_none : (e : TryRecvError) → several_next y (with_these taken more) ≡ refusal {W = W} e → WalkedTo did (first (ask.RecvMany room)) s (reply.RecvMany (Err (Plain e))) u
      finds_none e is =
          let g = with_these taken more in
          let turn : Takes (several_next y g) (Finished nothing_kept) (Some (reply.RecvMany (Err (Plain e)))) = subst (λ (z : NextStep T W). Takes z (Finished nothing_kept) (Some (reply.RecvMany (Err (Plain e))))) (sym is) (refl, refl) in
          (nothing_kept, (Working (TakeRoom room), (refl, refl), (gathers.0, t, Trying call (purpose.RecvMany g), mark_of_queue (mark_of after), Finished nothing_kept, gathers.1, (after, Some y, deed, refl, turn), refl)))
