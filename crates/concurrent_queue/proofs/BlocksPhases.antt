-- What a call of an unbounded queue may do and answer, by what it asked and how far it has come.
use Rattle.std.proofs.Common.{◌≡◌, ℕ, ◌<◌, ⊎_elim, Bool, true, false, [], length, None, Ok, Err, refl, sym, ap, subst}
use Rattle.concurrent_queue.specs.Queue.{Queue, Stage, Phase, trying, appended, taken, read, measured, seen_after, is_filled, IsOldest, Continues, Answers}
use Rattle.concurrent_queue.specs.declared.call.QueueAsk.{QueueAsk}
use Rattle.concurrent_queue.specs.declared.call.QueueAsk.TheVariants as ask
use Rattle.concurrent_queue.specs.machine.BlocksCalls.{IsSend}
use Rattle.concurrent_queue.specs.machine.BlocksMoves.{answer}
use Rattle.concurrent_queue.specs.declared.call.QueueMark.TheVariants as mark
use Rattle.concurrent_queue.specs.declared.call.QueueReply.TheVariants as reply
use Rattle.concurrent_queue.specs.declared.error.PopError.TheVariants as pop_error
use Rattle.concurrent_queue.specs.declared.unbounded.ending.Ending.{Ending}
use Rattle.concurrent_queue.specs.declared.unbounded.ending.Ending.TheVariants as ending

module _ {T : Type 0} where
  abbrev pub at : QueueAsk T → Stage T → Phase T
  at a x = record { ask = a; stage = x }

  pub at_both : (P : QueueAsk T → Stage T → Type 0) {a b : QueueAsk T} {x y : Stage T} → a ≡ b → x ≡ y → P b y → P a x
  at_both P {a} {b} {x} {y} e f h = subst (λ (c : QueueAsk T). P c x) (sym e) (subst (λ (z : Stage T). P b z) (sym f) h)

  abbrev pub Still : Queue T → Bool → QueueAsk T → Stage T → Type 0
  Still q seen a x = Continues q (at a x) mark.Nothing (at a (trying (seen_after seen q)))

  pub send_goes : (q : Queue T) (a : QueueAsk T) (x : Stage T) (v : T) (seen : Bool) → IsSend a v → x ≡ trying seen → Still q seen a x
  send_goes q a x v seen i f = ⊎_elim (λ e. at_both (Still q seen) e f (refl, refl)) (λ e. at_both (Still q seen) e f (refl, refl)) i

  pub pop_goes : (q : Queue T) (a : QueueAsk T) (x : Stage T) (seen : Bool) → a ≡ ask.Pop → x ≡ trying seen → Still q seen a x
  pop_goes q a x seen e f = at_both (Still q seen) e f (refl, refl)

  abbrev Rests : Queue T → QueueAsk T → Stage T → Type 0
  Rests q a x = Continues q (at a x) mark.Nothing (at a x)

  pub sent_goes : (q : Queue T) (a : QueueAsk T) (x : Stage T) (v : T) → IsSend a v → x ≡ appended None → Rests q a x
  sent_goes q a x v i f = ⊎_elim (λ e. at_both (Rests q) e f (refl, refl)) (λ e. at_both (Rests q) e f (refl, refl)) i

  pub took_goes : (q : Queue T) (a : QueueAsk T) (x : Stage T) (d : T) → a ≡ ask.Pop → x ≡ taken d → Rests q a x
  took_goes q a x d e f = at_both (Rests q) e f (refl, refl)

  abbrev Ends : Queue T → Ending T → QueueAsk T → Stage T → Type 0
  Ends q y a x = Answers q (at a x) mark.Nothing (answer a y)

  pub sent_answers : (q : Queue T) (a : QueueAsk T) (x : Stage T) (v : T) → IsSend a v → x ≡ appended None → Ends q ending.Sent a x
  sent_answers q a x v i f = ⊎_elim (λ e. at_both (Ends q ending.Sent) e f tt) (λ e. at_both (Ends q ending.Sent) e f refl) i

  pub shut_answers : (q : Queue T) (a : QueueAsk T) (x : Stage T) (v : T) (seen : Bool) → IsSend a v → x ≡ trying seen → q.closed ≡ true → Ends q (ending.Closed v) a x
  shut_answers q a x v seen i f c = ⊎_elim (λ e. at_both (Ends q (ending.Closed v)) e f (refl, c)) (λ e. at_both (Ends q (ending.Closed v)) e f (refl, c)) i

  pub refused_answers : (q : Queue T) (a : QueueAsk T) (x : Stage T) (v : T) → IsSend a v → x ≡ trying true → q.capacity ≡ None → Ends q (ending.NoMemory v) a x
  refused_answers q a x v i f c = ⊎_elim (λ e. at_both (Ends q (ending.NoMemory v)) e f (refl, c, refl)) (λ e. at_both (Ends q (ending.NoMemory v)) e f (refl, c, refl)) i

  pub took_answers : (q : Queue T) (a : QueueAsk T) (x : Stage T) (d : T) → a ≡ ask.Pop → x ≡ taken d → Ends q (ending.Replied (reply.Pop (Ok d))) a x
  took_answers q a x d e f = at_both (Ends q (ending.Replied (reply.Pop (Ok d)))) e f refl

  pub empty_answers : (q : Queue T) (a : QueueAsk T) (x : Stage T) (seen : Bool) → a ≡ ask.Pop → x ≡ trying seen → q.closed ≡ false → q.items ≡ [] → q.coming ≡ false → Ends q (ending.Replied (reply.Pop (Err pop_error.Empty))) a x
  empty_answers q a x seen e f c i n = at_both (Ends q (ending.Replied (reply.Pop (Err pop_error.Empty)))) e f (c, (i, n))

  pub drained_answers : (q : Queue T) (a : QueueAsk T) (x : Stage T) (seen : Bool) → a ≡ ask.Pop → x ≡ trying seen → q.closed ≡ true → q.items ≡ [] → q.coming ≡ false → Ends q (ending.Replied (reply.Pop (Err pop_error.Closed))) a x
  drained_answers q a x seen e f c i n = at_both (Ends q (ending.Replied (reply.Pop (Err pop_error.Closed)))) e f (c, (i, n))

  abbrev Appends : Queue T → QueueAsk T → Stage T → Type 0
  Appends q a x = Continues q (at a x) mark.Append (at a (appended None))

  pub append_goes : (q : Queue T) (a : QueueAsk T) (x : Stage T) (v : T) (seen : Bool) → IsSend a v → x ≡ trying seen → q.closed ≡ false → is_filled q ≡ false → Appends q a x
  append_goes q a x v seen i f c n = ⊎_elim (λ e. at_both (Appends q) e f (refl, (c, n, refl))) (λ e. at_both (Appends q) e f (refl, (c, n, refl))) i

  abbrev Takes : Queue T → T → QueueAsk T → Stage T → Type 0
  Takes q d a x = Continues q (at a x) mark.Take (at a (taken d))

  pub take_goes : (q : Queue T) (a : QueueAsk T) (x : Stage T) (d : T) (seen : Bool) → a ≡ ask.Pop → x ≡ trying seen → IsOldest d q → Takes q d a x
  take_goes q a x d seen e f o = at_both (Takes q d) e f (refl, (d, o, refl))

  -- close and the questions
  pub close_answers : (q : Queue T) (a : QueueAsk T) (x : Stage T) (seen : Bool) → a ≡ ask.Close → x ≡ trying seen → q.closed ≡ false → Answers q (at a x) mark.Close (answer a (ending.Replied (reply.Close true)))
  close_answers q a x seen e f c = at_both (λ b y. Answers q (at b y) mark.Close (answer b (ending.Replied (reply.Close true)))) e f c

  pub closed_answers : (q : Queue T) (a : QueueAsk T) (x : Stage T) (seen : Bool) → a ≡ ask.Close → x ≡ trying seen → q.closed ≡ true → Ends q (ending.Replied (reply.Close false)) a x
  closed_answers q a x seen e f c = at_both (Ends q (ending.Replied (reply.Close false))) e f c

  pub is_closed_answers : (q : Queue T) (a : QueueAsk T) (x : Stage T) (seen b : Bool) → a ≡ ask.IsClosed → x ≡ trying seen → q.closed ≡ b → Ends q (ending.Replied (reply.Flag b)) a x
  is_closed_answers q a x seen b e f c = at_both (Ends q (ending.Replied (reply.Flag b))) e f c

  pub is_full_answers : (q : Queue T) (a : QueueAsk T) (x : Stage T) (seen : Bool) → a ≡ ask.IsFull → x ≡ trying seen → is_filled q ≡ false → Ends q (ending.Replied (reply.Flag false)) a x
  is_full_answers q a x seen e f c = at_both (Ends q (ending.Replied (reply.Flag false))) e f c

  pub capacity_answers : (q : Queue T) (a : QueueAsk T) (x : Stage T) (seen : Bool) → a ≡ ask.Capacity → x ≡ trying seen → q.capacity ≡ None → Ends q (ending.Replied (reply.Cap None)) a x
  capacity_answers q a x seen e f c = at_both (Ends q (ending.Replied (reply.Cap None))) e f (sym c)

  pub empty_reads : (q : Queue T) (a : QueueAsk T) (x : Stage T) (seen : Bool) (n : ℕ) → a ≡ ask.IsEmpty → x ≡ trying seen → n ≡ q.removed → Continues q (at a x) mark.Nothing (at a (read n))
  empty_reads q a x seen n e f g = at_both (λ b y. Continues q (at b y) mark.Nothing (at b (read n))) e f (refl, ap read g)

  pub is_empty_answers : (q : Queue T) (a : QueueAsk T) (x : Stage T) (n : ℕ) → a ≡ ask.IsEmpty → x ≡ read n → q.items ≡ [] → Ends q (ending.Replied (reply.Flag true)) a x
  is_empty_answers q a x n e f i = at_both (Ends q (ending.Replied (reply.Flag true))) e f i

  pub not_empty_answers : (q : Queue T) (a : QueueAsk T) (x : Stage T) (n : ℕ) → a ≡ ask.IsEmpty → x ≡ read n → n < q.accepted → Ends q (ending.Replied (reply.Flag false)) a x
  not_empty_answers q a x n e f i = at_both (Ends q (ending.Replied (reply.Flag false))) e f i

  pub len_reads : (q : Queue T) (a : QueueAsk T) (x : Stage T) (seen : Bool) (n : ℕ) → a ≡ ask.Len → x ≡ trying seen → n ≡ q.accepted → Continues q (at a x) mark.Nothing (at a (read n))
  len_reads q a x seen n e f g = at_both (λ b y. Continues q (at b y) mark.Nothing (at b (read n))) e f (refl, ap read g)

  pub len_measures : (q : Queue T) (a : QueueAsk T) (x : Stage T) (n : ℕ) → a ≡ ask.Len → x ≡ read n → Continues q (at a x) mark.Nothing (at a (measured n (length q.items)))
  len_measures q a x n e f = at_both (λ b y. Continues q (at b y) mark.Nothing (at b (measured n (length q.items)))) e f (refl, refl)

  pub len_returns : (q : Queue T) (a : QueueAsk T) (x : Stage T) (n k : ℕ) → a ≡ ask.Len → x ≡ measured n k → Continues q (at a x) mark.Nothing (at a (trying false))
  len_returns q a x n k e f = at_both (λ b y. Continues q (at b y) mark.Nothing (at b (trying false))) e f (refl, refl)

  pub len_answers : (q : Queue T) (a : QueueAsk T) (x : Stage T) (n k m : ℕ) → a ≡ ask.Len → x ≡ measured n k → m ≡ k → q.accepted ≡ n → Ends q (ending.Replied (reply.Count m)) a x
  len_answers q a x n k m e f g h = at_both (Ends q (ending.Replied (reply.Count m))) e f (g, h)
