-- How many messages there are after a step of the queue's call, and what the call counts for by its turn.
use Rattle.std.proofs.Common.{◌≡◌, ℕ, ◌+◌, ◌≤◌, [], ◌∷◌, ◌++◌, length, drop, Option, None, Some, refl, ap, ◌∙◌, arith, length-append}
use Rattle.channel_steps.proofs.every_run.Words.{Queue, Phase, trying, displaced, appended, taken, asked, marked, is_displaced, ContinuesPush, ContinuesForce, ContinuesPop, ContinuesBy, AnswersTo, QueueAsk, QueueMark, Nothing, QueueReply, Key, Turned, ChannelAsk, Reply, WaitList, Stage, Trying, Working, NextStep, Tries, Works, Ends, is_trying, is_trying_anew, has_appended, has_taken, has_displaced}
use Rattle.concurrent_queue.specs.Queue as queue
use Rattle.concurrent_queue.specs.declared.call.QueueAsk.TheVariants as ask
use Rattle.concurrent_queue.specs.declared.call.QueueMark.TheVariants.{Append, Take, TakeDisplaced, Replace}
use Rattle.channel_calls.specs.declared.stage.Purpose.TheVariants as purpose
use Rattle.channel_steps.proofs.Interface.{answered_by}
use Rattle.channel_steps.proofs.QueueFacts.{one_fewer}
use Rattle.channel_steps.proofs.SuitFacts.{IsPush, MayTake}
use Rattle.channel_steps.proofs.every_run.TotalFacts.{left_over}

module _ {T : Type 0} where
  -- how many messages there are after a step
  abbrev pub number : QueueAsk T → queue.Stage T → QueueMark → Queue T → ℕ
  number a s m q = length (marked a (is_displaced s) m q).items

  -- ---- pushes

  one_appended : (q : Queue T) (v : T) → length (q.items ++ v ∷ []) ≡ length q.items + 1
  one_appended q v = length-append q.items (v ∷ [])

  one_replaced : (q : Queue T) (v : T) → length (drop 1 q.items ++ v ∷ []) ≡ length (drop 1 q.items) + 1
  one_replaced q v = length-append (drop 1 q.items) (v ∷ [])

  module _ (q : Queue T) (v : T) where
    -- who brings a message has it in from then on
    abbrev Brings : QueueAsk T → QueueMark → queue.Stage T → queue.Stage T → Type 0
    Brings a m s t = (number a s m q + has_appended s ≤ length q.items + has_appended t) × (has_appended s ≤ has_appended t)

    pub push_brings : (m : QueueMark) (s t : queue.Stage T) → ContinuesPush q m s t → Brings (ask.Push v) m s t
    push_brings Nothing (trying b) t g = let k = ap has_appended g in (omega (arith, k), omega arith)
    push_brings Nothing (appended None) t g = let k = ap has_appended g in (omega (arith, k), omega (arith, k))
    push_brings Append (trying b) t g = let k = ap has_appended g.2 in let n = one_appended q v in (omega (arith, k, n), omega arith)
    push_brings m s t g = absurd g

    pub push_fills : (m : QueueMark) (s t : queue.Stage T) → ContinuesPush q m s t
        → (length q.items + is_trying s ≤ number (ask.Push v) s m q + is_trying t)
        × (length q.items ≤ number (ask.Push v) s m q)
    push_fills Nothing (trying b) t g = let k = ap is_trying g in (omega (arith, k), omega arith)
    push_fills Nothing (appended None) t g = let k = ap is_trying g in (omega (arith, k), omega arith)
    push_fills Append (trying b) t g = let n = one_appended q v in (omega (arith, n), omega (arith, n))
    push_fills m s t g = absurd g

    pub force_brings : (m : QueueMark) (s t : queue.Stage T) → ContinuesForce q m s t → Brings (ask.ForcePush v) m s t
    force_brings Nothing (trying b) t g = let k = ap has_appended g in (omega (arith, k), omega arith)
    force_brings Nothing (displaced d) t g = let k = ap has_appended g in (omega (arith, k), omega arith)
    force_brings Nothing (appended o) t g = let k = ap has_appended g in (omega (arith, k), omega (arith, k))
    force_brings Append (trying b) t g = let k = ap has_appended g.2 in let n = one_appended q v in (omega (arith, k, n), omega arith)
    force_brings Append (displaced d) t g = let k = ap has_appended g.2 in let n = one_appended q v in (omega (arith, k, n), omega arith)
    force_brings Replace (trying b) t g =
        let k = ap has_appended g.5 in
        let n = one_replaced q v in
        let f = one_fewer q g.0 g.1 in
        (omega (arith, k, n, f), omega arith)
    force_brings TakeDisplaced (trying b) t g = let f = one_fewer q g.0 g.1 in (omega (arith, f), omega arith)
    force_brings m s t g = absurd g

    pub force_fills : (m : QueueMark) (s t : queue.Stage T) → ContinuesForce q m s t
        → length q.items + has_displaced s ≤ number (ask.ForcePush v) s m q + has_displaced t
    force_fills Nothing (trying b) t g = let k = ap has_displaced g in omega (arith, k)
    force_fills Nothing (displaced d) t g = let k = ap has_displaced g in omega (arith, k)
    force_fills Nothing (appended o) t g = let k = ap has_displaced g in omega (arith, k)
    force_fills Append (trying b) t g = let n = one_appended q v in omega (arith, n)
    force_fills Append (displaced d) t g = let n = one_appended q v in omega (arith, n)
    force_fills Replace (trying b) t g =
        let n = one_replaced q v in
        let f = one_fewer q g.0 g.1 in
        omega (arith, n, f)
    force_fills TakeDisplaced (trying b) t g = let k = ap has_displaced g.5 in let f = one_fewer q g.0 g.1 in omega (arith, k, f)
    force_fills m s t g = absurd g

  -- ---- pops

  module _ (q : Queue T) where
    pub pop_takes : (m : QueueMark) (s t : queue.Stage T) → ContinuesPop q m s t
        → (number ask.Pop s m q + is_trying s ≤ length q.items + is_trying t) × (number ask.Pop s m q ≤ length q.items)
    pop_takes Nothing (trying b) t g = let k = ap is_trying g in (omega (arith, k), omega arith)
    pop_takes Nothing (taken v) t g = let k = ap is_trying g in (omega (arith, k), omega arith)
    pop_takes Take (trying b) t g = let f = one_fewer q g.0 g.1 in (omega (arith, f), omega (arith, f))
    pop_takes m s t g = absurd g

    pub pop_frees : (m : QueueMark) (s t : queue.Stage T) → ContinuesPop q m s t
        → length q.items + has_taken s ≤ number ask.Pop s m q + has_taken t
    pop_frees Nothing (trying b) t g = let k = ap has_taken g in omega (arith, k)
    pop_frees Nothing (taken v) t g = let k = ap has_taken g in omega (arith, k)
    pop_frees Take (trying b) t g = let k = ap has_taken g.2 in let f = one_fewer q g.0 g.1 in omega (arith, k, f)
    pop_frees m s t g = absurd g

    -- ---- any call

    -- who pushes nothing brings nothing
    pub goes_no_more : (a : QueueAsk T) (m : QueueMark) (s t : queue.Stage T) → (IsPush a → ⊥) → ContinuesBy q a m s t
        → number a s m q ≤ length q.items
    goes_no_more (ask.Push v) m s t never g = absurd (never tt)
    goes_no_more (ask.ForcePush v) m s t never g = absurd (never tt)
    goes_no_more ask.Pop m s t never g = let k = pop_takes m s t g in k.1
    goes_no_more ask.IsEmpty Nothing s t never g = omega arith
    goes_no_more ask.IsFull Nothing s t never g = omega arith
    goes_no_more ask.Len Nothing s t never g = omega arith
    goes_no_more a m s t never g = absurd g

    -- who may take none takes none
    pub goes_no_fewer : (a : QueueAsk T) (m : QueueMark) (s t : queue.Stage T) → (MayTake a → ⊥) → ContinuesBy q a m s t
        → length q.items ≤ number a s m q
    goes_no_fewer (ask.Push v) m s t never g = let k = push_fills q v m s t g in k.1
    goes_no_fewer (ask.ForcePush v) m s t never g = absurd (never tt)
    goes_no_fewer ask.Pop m s t never g = absurd (never tt)
    goes_no_fewer ask.IsEmpty Nothing s t never g = omega arith
    goes_no_fewer ask.IsFull Nothing s t never g = omega arith
    goes_no_fewer ask.Len Nothing s t never g = omega arith
    goes_no_fewer a m s t never g = absurd g

    -- no answer brings or takes one
    pub answers_same_number : (a : QueueAsk T) (m : QueueMark) (r : QueueReply T) (s : queue.Stage T) → AnswersTo q a m r s → number a s m q ≡ length q.items
    answers_same_number a m r s h = answered_by q (λ z. number a s z q ≡ length q.items) refl (λ was. refl) a m r s h

module _ {T W : Type 0} where
  -- a poll's try counts for one at most
  pub anew_at_most : (f : Phase T) (line : WaitList) (key : Option Key) (task : W)
      → is_trying_anew (let at : Stage (Phase T) T W = Trying f (purpose.Poll line key task) in at) ≤ is_trying f.stage
  anew_at_most f line None task = omega arith
  anew_at_most f line (Some k) task = omega arith

  module _ (weigh : ChannelAsk T W → Stage (Phase T) T W → ℕ) (x : ChannelAsk T W) where
    -- what a call counts for once it has taken this turn
    abbrev pub weigh_turn : NextStep T W → ℕ
    weigh_turn (Tries a y) = weigh x (Trying (asked a) y)
    weigh_turn (Works w) = weigh x (Working w)
    weigh_turn (Ends y kept) = 0

    left_as : (r r' : Option (Reply T)) (s s' : Stage (Phase T) T W) → r ≡ r' → s ≡ s'
        → left_over weigh x r s ≡ left_over weigh x r' s'
    left_as r r' s s' e f =
        ap (λ (z : Option (Reply T)). left_over weigh x z s) e ∙ ap (λ (z : Stage (Phase T) T W). left_over weigh x r' z) f

    pub turned_weighs : (turn : NextStep T W) (r : Option (Reply T)) (s : Stage (Phase T) T W) → Turned turn r s
        → left_over weigh x r s ≡ weigh_turn turn
    turned_weighs (Tries a y) r s t = left_as r None s (Trying (asked a) y) t.0 t.1
    turned_weighs (Works w) r s t = left_as r None s (Working w) t.0 t.1
    turned_weighs (Ends y kept) r s t = ap (λ (z : Option (Reply T)). left_over weigh x z s) t.0
