-- Each step pays for what it closes, as those count it who wait on a closed channel: it is open, or a call is to tell their list.
use Rattle.std.proofs.Common.{⊎_elim, ◌≡◌, ℕ, ◌-◌, ◌≤◌, Bool, true, false, if◌then◌else◌, List, Option, None, Some, Ok, Err, ◌⊎◌, inl, inr, refl, sym, ap, ◌∙◌, subst, arith}
use Rattle.channel_steps.proofs.every_run.Words.{Queue, Phase, trying, appended, taken, marked, is_displaced, IsOpen, IsShut, ContinuesPush, ContinuesPop, ContinuesBy, AnswersPush, AnswersPop, AnswersTo, QueueAsk, QueueMark, Nothing, QueueReply, Key, answered_next, polled_next, Channel, Effect, queued, tells_all, Turned, Moves, told_all_next, ChannelAsk, Reply, Purpose, Closer, WaitList, Sends, Receives, Streams, Closings, Stage, Trying, Working, Finished, NextStep, Works, ListStep, TellSend, TellAll, Leave, TriesFor, StageAt, MarkedMoment, Open, Shut, ActiveCall, may_refuse_at, seen_after, AnswersShut, place, HasClosed, HasNoCauseToWait, HasToTell, LooksAgain, Waits, WaitApart}
use Rattle.concurrent_queue.specs.Queue as queue
use Rattle.concurrent_queue.specs.declared.call.QueueAsk.TheVariants as ask
use Rattle.concurrent_queue.specs.declared.call.QueueMark.TheVariants.{Append, Take, Close}
use Rattle.concurrent_queue.specs.declared.call.QueueReply.TheVariants as answer
use Rattle.concurrent_queue.specs.declared.error.PopError.TheVariants as pop_error
use Rattle.concurrent_queue.specs.declared.error.PushError.TheVariants as push_error
use Rattle.channel_calls.specs.declared.stage.Purpose.TheVariants as purpose
use Rattle.channel_steps.proofs.Interface.{answer_marks}
use Rattle.channel_steps.proofs.every_run.AllOwed.{FreeOrTold, free_more}
use Rattle.channel_steps.proofs.SuitFacts.{IsClose, closes_by}
use Rattle.channel_steps.proofs.every_run.AskFacts.{How, poll_asks, held_by, leaves_next, has_left}
use Rattle.channel_steps.proofs.MoveFacts.{worked_spares}
use Rattle.channel_steps.proofs.every_run.ListMoves.{Tries}
use Rattle.channel_steps.proofs.every_run.NumberMoves.{weigh_turn, turned_weighs}
use Rattle.channel_steps.proofs.every_run.Owed.{Pays, GoesOnOr, Ledger}
use Rattle.channel_steps.proofs.every_run.TotalFacts.{left_over}

module _ {T : Type 0} where
  -- ---- the queue's call

  -- a step that goes on closes nothing
  never_closes : (q : Queue T) (a : QueueAsk T) (s t : queue.Stage T) → ContinuesBy q a Close s t → ⊥
  never_closes q (ask.Push v) s t g = g
  never_closes q a s t g = g

  open_on : (q : Queue T) (a : QueueAsk T) (b : Bool) (m : QueueMark) (s t : queue.Stage T) → ContinuesBy q a m s t → IsOpen q → IsOpen (marked a b m q)
  open_on q a b Close s t g h = absurd (never_closes q a s t g)
  open_on q a b m s t g h = h

  module _ (q : Queue T) (shut : IsShut q) where
    not_open : IsOpen q → ⊥
    not_open e = absurd (let never : true ≡ false = sym shut ∙ e in cc)

    -- a try of a closed queue finds it open at no step
    never_seen : (b : Bool) → b ≡ false → seen_after b q ≡ false
    never_seen b e =
        ap (λ (x : Bool). seen_after x q) e ∙ ap (λ (x : Bool). if x then false else may_refuse_at q.capacity q.items) shut

    never_refused : (b : Bool) → b ≡ false → seen_after b q ≡ true → ⊥
    never_refused b e h = absurd (let never : true ≡ false = sym h ∙ never_seen b e in cc)

    found_as : (s t : queue.Stage T) → t ≡ s → HasNoCauseToWait s → HasNoCauseToWait t
    found_as s t e h = subst (λ (x : queue.Stage T). HasNoCauseToWait x) (sym e) h

    push_looks : (m : QueueMark) (s t : queue.Stage T) → ContinuesPush q m s t → HasNoCauseToWait s → HasNoCauseToWait t
    push_looks Nothing (trying b) t g h = found_as (trying (seen_after b q)) t g (never_seen b h)
    push_looks Append (trying b) t g h = absurd (not_open g.0)
    push_looks Nothing (taken v) t g h = absurd g
    push_looks Append (taken v) t g h = absurd g
    push_looks m (trying b) t g h = absurd g
    push_looks m (taken v) t g h = absurd g
    push_looks m s t g h = absurd h

    pop_looks : (m : QueueMark) (s t : queue.Stage T) → ContinuesPop q m s t → HasNoCauseToWait s → HasNoCauseToWait t
    pop_looks Nothing (trying b) t g h = found_as (trying (seen_after b q)) t g (never_seen b h)
    pop_looks Nothing (taken v) t g h = found_as (taken v) t g tt
    pop_looks Take (trying b) t g h = found_as (taken g.0) t g.2 tt
    pop_looks Take (taken v) t g h = absurd g
    pop_looks m (trying b) t g h = absurd g
    pop_looks m (taken v) t g h = absurd g
    pop_looks m s t g h = absurd h

module _ {T W : Type 0} where
  -- ---- the poll of one that waits, on a closed channel

  -- it drops its listener at the end
  abbrev Drops : WaitList → Key → NextStep T W → Type 0
  Drops line key (Works (TellSend x)) = x.held ≡ Some (held_by line key)
  Drops line key (Works (Leave x)) = x.held ≡ Some (held_by line key)
  Drops line key turn = ⊥

  -- it goes on, and has found no cause to wait
  abbrev pub StillLooks : WaitList → Key → Option (Reply T) → Stage (Phase T) T W → Type 0
  StillLooks line key r s = (r ≡ None) × LooksAgain line key s

  looks_at : (line : WaitList) (key : Key) (at : Stage (Phase T) T W) (r : Option (Reply T)) (s : Stage (Phase T) T W) → LooksAgain line key at → (r ≡ None) × (s ≡ at) → StillLooks line key r s
  looks_at line key at r s h t = (t.0, subst (λ (z : Stage (Phase T) T W). LooksAgain line key z) (sym t.1) h)

  turned_drops : (line : WaitList) (key : Key) (turn : NextStep T W) (r : Option (Reply T)) (s : Stage (Phase T) T W) → Drops line key turn → Turned turn r s → StillLooks line key r s
  turned_drops line key (Works (TellSend x)) r s h t = looks_at line key (Working (TellSend x)) r s h t
  turned_drops line key (Works (Leave x)) r s h t = looks_at line key (Working (Leave x)) r s h t
  turned_drops line key turn r s h t = absurd h

  module _ (q : Queue T) (shut : IsShut q) (k : Key) (task : W) where
    push_drops : (v : T) (m : QueueMark) (reply : QueueReply T) (s : queue.Stage T) → AnswersPush q v m reply s → HasNoCauseToWait s → Drops Sends k (polled_next Sends reply (Some k) task)
    push_drops v Nothing (answer.Push (Ok u)) (appended None) h n = absurd n
    push_drops v Nothing (answer.Push (Err (push_error.Full w))) (trying b) h n = absurd (never_refused q shut b n h.2)
    push_drops v Nothing (answer.Push (Err (push_error.Closed w))) (trying b) h n = refl
    push_drops v Nothing (answer.Push (Err (push_error.NoMemory w))) (trying b) h n = absurd (never_refused q shut b n h.2)
    push_drops v m reply s h n = absurd h

    pop_drops : (m : QueueMark) (reply : QueueReply T) (s : queue.Stage T) → AnswersPop q m reply s → Drops Receives k (polled_next Receives reply (Some k) task) × Drops Streams k (polled_next Streams reply (Some k) task)
    pop_drops Nothing (answer.Pop (Ok w)) (taken v) h = (refl, refl)
    pop_drops Nothing (answer.Pop (Err pop_error.Empty)) (trying b) h = absurd (not_open q shut h.0)
    pop_drops Nothing (answer.Pop (Err pop_error.Closed)) (trying b) h = (refl, refl)
    pop_drops m reply s h = absurd h

    ask_drops : (m : QueueMark) (reply : QueueReply T) (s : queue.Stage T) → AnswersShut q m reply s → Drops Closings k (polled_next Closings reply (Some k) task)
    ask_drops Nothing (answer.Flag true) (trying b) h = refl
    ask_drops Nothing (answer.Flag false) (trying b) h = absurd (not_open q shut h)
    ask_drops m reply s h = absurd h

  -- it goes on so, or drops its listener
  module _ (q : Queue T) (shut : IsShut q) (x : ChannelAsk T W) (k : Key) (task : W) (a : QueueAsk T) (ds : List (MarkedMoment T W)) (seen : List (Channel T W)) where
    looks_on : (line : WaitList) (m : QueueMark) (s t : queue.Stage T) → TriesFor x (purpose.Poll line (Some k) task) a ds seen → ContinuesBy q a m s t → HasNoCauseToWait s → HasNoCauseToWait t
    looks_on Sends m s t h g n = let p = poll_asks x Sends (Some k) task a ds seen h in push_looks q shut m s t (subst (λ (z : QueueAsk T). ContinuesBy q z m s t) p.1 g) n
    looks_on Receives m s t h g n = pop_looks q shut m s t (subst (λ (z : QueueAsk T). ContinuesBy q z m s t) (poll_asks x Receives (Some k) task a ds seen h) g) n
    looks_on Streams m s t h g n = pop_looks q shut m s t (subst (λ (z : QueueAsk T). ContinuesBy q z m s t) (poll_asks x Streams (Some k) task a ds seen h) g) n
    looks_on Closings m s t h g n = absurd (subst (λ (z : QueueAsk T). ContinuesBy q z m s t) (poll_asks x Closings (Some k) task a ds seen h) g)

    drops : (line : WaitList) (m : QueueMark) (reply : QueueReply T) (s : queue.Stage T) → TriesFor x (purpose.Poll line (Some k) task) a ds seen → AnswersTo q a m reply s → HasNoCauseToWait s → Drops line k (polled_next line reply (Some k) task)
    drops Sends m reply s h g n =
        let p = poll_asks x Sends (Some k) task a ds seen h in push_drops q shut k task p.0 m reply s (subst (λ (z : QueueAsk T). AnswersTo q z m reply s) p.1 g) n
    drops Receives m reply s h g n = let d = pop_drops q shut k task m reply s (subst (λ (z : QueueAsk T). AnswersTo q z m reply s) (poll_asks x Receives (Some k) task a ds seen h) g) in d.0
    drops Streams m reply s h g n = let d = pop_drops q shut k task m reply s (subst (λ (z : QueueAsk T). AnswersTo q z m reply s) (poll_asks x Streams (Some k) task a ds seen h) g) in d.1
    drops Closings m reply s h g n = ask_drops q shut k task m reply s (subst (λ (z : QueueAsk T). AnswersTo q z m reply s) (poll_asks x Closings (Some k) task a ds seen h) g)

  polls_on : (c : Channel T W) (x : ChannelAsk T W) (f : Phase T) (line : WaitList) (k : Key) (task : W) (m : QueueMark) (ds : List (MarkedMoment T W)) (seen : List (Channel T W)) (r : Option (Reply T)) (s : Stage (Phase T) T W)
      → Shut c → TriesFor x (purpose.Poll line (Some k) task) f.ask ds seen → HasNoCauseToWait f.stage → How c f (purpose.Poll line (Some k) task) m r s → StillLooks line k r s
  polls_on c x f line k task m ds seen r s shut h n (inl (f', goes, none, there)) =
      (none, subst (λ (z : Stage (Phase T) T W). LooksAgain line k z) (sym there) (refl, refl, looks_on c.queue shut x k task f.ask ds seen line m f.stage f'.stage h goes.1 n))
  polls_on c x f line k task m ds seen r s shut h n (inr (reply, ans, turned)) =
      turned_drops line k (polled_next line reply (Some k) task) r s (drops c.queue shut x k task f.ask ds seen line m reply f.stage h ans n) turned

  pub looks_goes : (c : Channel T W) (x : ChannelAsk T W) (at : Stage (Phase T) T W) (ds : List (MarkedMoment T W)) (seen : List (Channel T W)) (e : Effect T W) (r : Option (Reply T)) (s : Stage (Phase T) T W) (line : WaitList) (key : Key)
      → StageAt c x at ds seen → Moves c at e r s → Shut c → LooksAgain line key at → WaitApart line c → Waits line key e.channel → StillLooks line key r s
  looks_goes c x (Trying f (purpose.Poll at (Some k) task)) ds seen e r s line key st g shut h apart w =
      let on = polls_on c x f at k task g.mark ds seen r s shut st.0 h.2 g.how in
      (on.0, subst (λ (l : WaitList). LooksAgain l key s) h.0 (subst (λ (z : Key). LooksAgain at z s) h.1 on.1))
  looks_goes c x (Working (TellSend z)) ds seen e r s line key st g shut h apart w =
      looks_at line key (Working (Leave z)) r s h (leaves_next z z.held (held_by line key) r s h g.1)
  looks_goes c x (Working (Leave z)) ds seen e r s line key st g shut h apart w = absurd (has_left line key c z.held e h g.0 apart w)
  looks_goes c x at ds seen e r s line key st g shut h apart w = absurd h

  pub newcomer_looks : (c : Channel T W) (e : Effect T W) (r : Option (Reply T)) (s : Stage (Phase T) T W) (line : WaitList) (key : Key) → Tries line c e r s key → StillLooks line key r s
  newcomer_looks c e r s line key (w, task, at, turned) =
      (turned.0, subst (λ (z : Stage (Phase T) T W). LooksAgain line key z) (sym turned.1) (at, refl, refl))

  -- ---- the closing

  pub nobody_left : (line : WaitList) (key : Key) (c : Channel T W) → Waits line key (let e : Effect T W = tells_all line c in e.channel) → ⊥
  nobody_left Sends key c w = w
  nobody_left line key c w = w

module _ {T W : Type 0} (line : WaitList) where
  -- 1 for a closing that has this list to tell
  abbrev pub counts_for_closing : ChannelAsk T W → Stage (Phase T) T W → ℕ
  counts_for_closing x (Working (TellAll next closer)) = 1 - (place next - place line)
  counts_for_closing x at = 0

  pub tell_counts : (x : ChannelAsk T W) (at : Stage (Phase T) T W)
      → (HasToTell line at → 1 ≤ counts_for_closing x at) × (1 ≤ counts_for_closing x at → HasToTell line at)
  tell_counts x (Working (TellAll next closer)) = (λ h. omega (arith, h), λ h. omega (arith, h))
  tell_counts x at = (λ h. absurd h, λ h. absurd (omega (arith, h)))

  abbrev pub TellsIt : ActiveCall T W → Type 0
  TellsIt u = HasClosed u.marks × HasToTell line u.at

  -- the channel is open, or so many closings have the list to tell
  abbrev pub OpenOrTold : Channel T W → ℕ → Type 0
  OpenOrTold c n = FreeOrTold Open TellsIt (LooksAgain line) counts_for_closing c n

  abbrev Paid : Channel T W → ChannelAsk T W → Stage (Phase T) T W → Effect T W → Option (Reply T) → Stage (Phase T) T W → Type 0
  Paid c x at e r s = Pays line OpenOrTold counts_for_closing (LooksAgain line) (λ z. ⊥) c x at e r s

  -- a call that has closed tells all lists next
  tells_first : (x : ChannelAsk T W) (y : Purpose T W) → IsClose y → 1 ≤ weigh_turn counts_for_closing x (answered_next y (let r : QueueReply T = answer.Close true in r))
  tells_first x (purpose.Close closer) h = omega arith
  tells_first x y h = absurd h

  tried_pays : (c : Channel T W) (x : ChannelAsk T W) (f : Phase T) (y : Purpose T W) (m : QueueMark) (ds : List (MarkedMoment T W)) (seen : List (Channel T W)) (r : Option (Reply T)) (s : Stage (Phase T) T W)
      → TriesFor x y f.ask ds seen → How c f y m r s → Paid c x (Trying f y) (queued f m c) r s
  tried_pays c x f y m ds seen r s h how n (inr some) = inr (omega (arith, some))
  tried_pays c x f y m ds seen r s h (inl (f', goes, none, there)) n (inl unshut) =
      inl (open_on c.queue f.ask (is_displaced f.stage) m f.stage f'.stage goes.1 unshut)
  tried_pays c x f y m ds seen r s h (inr (reply, ans, turned)) n (inl unshut) =
      ⊎_elim
      (λ none. inl (subst (λ (z : QueueMark). IsOpen (marked f.ask (is_displaced f.stage) z c.queue)) (sym none) unshut))
      (λ k. let first = tells_first x y (closes_by x y ds seen (subst (λ (a : QueueAsk T). TriesFor x y a ds seen) k.1 h)) in
      let now = turned_weighs counts_for_closing x (answered_next y (answer.Close true)) r s (subst (λ (z : QueueReply T). Turned (answered_next y z) r s) k.2 turned) in
      inr (omega (arith, first, now)))
      (answer_marks c.queue f.ask m reply f.stage ans)

module _ {T W : Type 0} where
  -- a closing tells one list after another
  next_told : (line at : WaitList) (closer : Closer) (x : ChannelAsk T W) → (line ≡ at) ⊎ (1 - (place at - place line) ≤ weigh_turn (counts_for_closing line) x (told_all_next at closer))
  next_told Sends Sends closer x = inl refl
  next_told Receives Receives closer x = inl refl
  next_told Streams Streams closer x = inl refl
  next_told Closings Closings closer x = inl refl
  next_told line at closer x = inr (omega arith)

module _ {T W : Type 0} (line : WaitList) where
  works_on : (c : Channel T W) (x : ChannelAsk T W) (w : ListStep T W) (e : Effect T W) (r : Option (Reply T)) (s : Stage (Phase T) T W) (key : Key) → Moves c (Working w) e r s → Waits line key e.channel
      → counts_for_closing line x (Working w) ≤ left_over (counts_for_closing line) x r s
  works_on c x (TellAll at closer) e r s key g w =
      ⊎_elim
      (λ same. absurd (nobody_left at key c (subst (λ (z : WaitList). Waits z key (let e : Effect T W = tells_all at c in e.channel)) same
      (subst (λ (z : Effect T W). Waits line key z.channel) g.0 w))))
      (λ on. let now = turned_weighs (counts_for_closing line) x (told_all_next at closer) r s g.1 in omega (arith, on, now))
      (next_told line at closer x)
  works_on c x z e r s key g w = omega arith

  closing_pays : (c : Channel T W) (x : ChannelAsk T W) (at : Stage (Phase T) T W) (ds : List (MarkedMoment T W)) (seen : List (Channel T W)) (e : Effect T W) (r : Option (Reply T)) (s : Stage (Phase T) T W) (key : Key)
      → StageAt c x at ds seen → Moves c at e r s → Waits line key e.channel → Paid line c x at e r s
  closing_pays c x (Trying f y) ds seen e r s key st g w n enough =
      subst (λ (z : Effect T W). Paid line c x (Trying f y) z r s) (sym g.effect) (tried_pays line c x f y g.mark ds seen r s st.0 g.how) n enough
  closing_pays c x (Working z) ds seen e r s key st g w n (inl unshut) = let same = worked_spares c z e r s g in inl (subst (λ (q : Queue T). IsOpen q) (sym same.0) unshut)
  closing_pays c x (Working z) ds seen e r s key st g w n (inr some) = let on = works_on c x z e r s key g w in inr (omega (arith, some, on))
  closing_pays c x (Finished kept) ds seen e r s key st g w n enough = absurd st

  -- a poll that looks again does so where the channel is closed; else it is open still, or closed by then
  keeps_looking : (c : Channel T W) (x : ChannelAsk T W) (at : Stage (Phase T) T W) (ds : List (MarkedMoment T W)) (seen : List (Channel T W)) (e : Effect T W) (r : Option (Reply T)) (s : Stage (Phase T) T W) (key : Key)
      → StageAt c x at ds seen → Moves c at e r s → Waits line key e.channel → WaitApart line c → LooksAgain line key at
      → GoesOnOr line (OpenOrTold line) (counts_for_closing line) (LooksAgain line) (λ z. ⊥) key x e r s
  keeps_looking c x at ds seen e r s key st g w apart h = by c.queue.closed refl
    where
      by : (b : Bool) → c.queue.closed ≡ b → GoesOnOr line (OpenOrTold line) (counts_for_closing line) (LooksAgain line) (λ z. ⊥) key x e r s
      by true shut = inl (looks_goes c x at ds seen e r s line key st g shut h apart w)
      by false unshut = inr (λ n. closing_pays c x at ds seen e r s key st g w n (inl unshut))

  pub closing_ledger : Ledger {T = T} {W = W} line (OpenOrTold line) (counts_for_closing line) (LooksAgain line) (λ z. ⊥)
  closing_ledger =
      record {
        more = free_more Open (TellsIt line) (LooksAgain line) (counts_for_closing line);
        comes = λ c e r s key h. newcomer_looks c e r s line key h;
        keeps = keeps_looking;
        pays = λ c x at ds seen e r s key st g w. inl (closing_pays c x at ds seen e r s key st g w);
      }
