-- Over a run a queue never holds more than fits, and one close at most closes it: by what each mark of a call says of the
-- moment before it.
use Rattle.std.proofs.Common.{◌≡◌, ℕ, ◌+◌, ◌<◌, ◌≤◌, Bool, true, false, List, [], ◌∷◌, ◌++◌, length, drop, map, Option, None, Some, Ok, Err, ⊎_elim, inl, inr, refl, sym, ap, ◌∙◌, subst, arith, length-append}
use Rattle.std.proofs.lemmas.Bool.{cases_lt}
use Rattle.concurrent_queue.specs.Contents.{Contents}
use Rattle.concurrent_queue.specs.Capacity.{capacity_of}
use Rattle.concurrent_queue.specs.Queue.{Queue, is_filled, is_full_at, IsOpen, IsOldest, message, marked}
use Rattle.concurrent_queue.specs.Rows.{MarkedStep, Appended, Took, Replaced, MadeRoom, Displaced, Closing, MayAnswer, IsBegun}
use Rattle.concurrent_queue.specs.Scene.{CallUnderWay, begun, observing, stepped, makes_room, with_mark, ContinuesAs, unless_ended}
use Rattle.concurrent_queue.specs.Run.{Config, Next, IsRun, opened_config}
use Rattle.concurrent_queue.specs.Bounds.{one_if_closed, closings_in}
use Rattle.concurrent_queue.specs.declared.call.QueueAsk.{QueueAsk}
use Rattle.concurrent_queue.specs.declared.call.QueueAsk.TheVariants as ask
use Rattle.concurrent_queue.specs.declared.call.QueueEntry.{QueueEntry}
use Rattle.concurrent_queue.specs.declared.call.QueueMark.{QueueMark}
use Rattle.concurrent_queue.specs.declared.call.QueueMark.TheVariants.{Nothing, Append, Take, TakeDisplaced, Replace, Close}
use Rattle.concurrent_queue.specs.declared.call.QueueReply.{QueueReply}
use Rattle.concurrent_queue.specs.declared.call.QueueReply.TheVariants as reply
use Rattle.concurrent_queue.specs.declared.cells.QueueForm.{QueueForm}
use Rattle.concurrent_queue.specs.declared.error.PushError.TheVariants as push_error
use Rattle.concurrent_queue.specs.declared.error.ForcePushError.TheVariants as force_error
use Rattle.concurrent_queue.specs.declared.error.PopError.TheVariants as pop_error
use Rattle.concurrent_queue.specs.declared.run.QueueStep.{QueueStep}
use Rattle.concurrent_queue.specs.declared.run.QueueStep.TheVariants.{Begin, Step}
use Rattle.concurrent_queue.proofs.BlocksYields.{not_eq}
use Rattle.concurrent_queue.proofs.Lone.{same_limit}

-- how many closes may still answer true
abbrev closable : Bool → ℕ
closable true = 0
closable false = 1

module _ {T : Type 0} where
  -- what a mark says of the queue just before it
  abbrev Says : QueueMark → Queue T → Type 0
  Says Append q = is_filled q ≡ false
  Says Replace q = (v : T) × IsOldest v q
  Says m q = Unit {0}

  abbrev SaysSo : MarkedStep T → Type 0
  SaysSo d = Says d.mark d.before

  -- ---- the last of a call's marks

  appended_says : (ds : List (MarkedStep T)) (d : MarkedStep T) → Appended (ds ++ d ∷ []) → SaysSo d
  appended_says [] d h = subst (λ (m : QueueMark). Says m d.before) (sym h.0) h.2
  appended_says (x ∷ []) d h = absurd h
  appended_says (x ∷ y ∷ ds) d h = absurd h

  took_says : (ds : List (MarkedStep T)) (d : MarkedStep T) (v : T) → Took (ds ++ d ∷ []) v → SaysSo d
  took_says [] d v h = subst (λ (m : QueueMark). Says m d.before) (sym h.0) tt
  took_says (x ∷ []) d v h = absurd h
  took_says (x ∷ y ∷ ds) d v h = absurd h

  replaced_says : (ds : List (MarkedStep T)) (d : MarkedStep T) (v : T) → Replaced (ds ++ d ∷ []) v → SaysSo d
  replaced_says [] d v h = subst (λ (m : QueueMark). Says m d.before) (sym h.0) (v, h.3)
  replaced_says (x ∷ []) d v h = absurd h
  replaced_says (x ∷ y ∷ ds) d v h = absurd h

  made_room_says : (ds : List (MarkedStep T)) (d : MarkedStep T) (v : T) → MadeRoom (ds ++ d ∷ []) v → SaysSo d
  made_room_says [] d v h = subst (λ (m : QueueMark). Says m d.before) (sym h.0) tt
  made_room_says (x ∷ []) d v h = absurd h
  made_room_says (x ∷ y ∷ ds) d v h = absurd h

  displaced_says : (ds : List (MarkedStep T)) (d : MarkedStep T) (v : T) → Displaced (ds ++ d ∷ []) v → SaysSo d
  displaced_says [] d v h = absurd h
  displaced_says (x ∷ []) d v h = subst (λ (m : QueueMark). Says m d.before) (sym h.1) h.2
  displaced_says (x ∷ y ∷ []) d v h = absurd h
  displaced_says (x ∷ y ∷ z ∷ ds) d v h = absurd h

  closing_says : (ds : List (MarkedStep T)) (d : MarkedStep T) → Closing (ds ++ d ∷ []) → SaysSo d
  closing_says [] d h = subst (λ (m : QueueMark). Says m d.before) (sym h.0) tt
  closing_says (x ∷ []) d h = absurd h
  closing_says (x ∷ y ∷ ds) d h = absurd h

  none_says : (ds : List (MarkedStep T)) (d : MarkedStep T) → ds ++ d ∷ [] ≡ [] → SaysSo d
  none_says [] d h = absurd cc
  none_says (x ∷ ds) d h = absurd cc

  begun_says : (a : QueueAsk T) (ds : List (MarkedStep T)) (d : MarkedStep T) → IsBegun a (ds ++ d ∷ []) → SaysSo d
  begun_says (ask.Push v) ds d h = ⊎_elim (none_says ds d) (appended_says ds d) h
  begun_says (ask.ForcePush v) ds d (inl h) = none_says ds d h
  begun_says (ask.ForcePush v) ds d (inr (inl h)) = appended_says ds d h
  begun_says (ask.ForcePush v) ds d (inr (inr (inl h))) = replaced_says ds d h.0 h.1
  begun_says (ask.ForcePush v) ds d (inr (inr (inr (inl h)))) = made_room_says ds d h.0 h.1
  begun_says (ask.ForcePush v) ds d (inr (inr (inr (inr h)))) = displaced_says ds d h.0 h.1
  begun_says ask.Pop ds d (inl h) = none_says ds d h
  begun_says ask.Pop ds d (inr h) = took_says ds d h.0 h.1
  begun_says ask.Close ds d h = none_says ds d h
  begun_says ask.IsClosed ds d h = none_says ds d h
  begun_says ask.IsEmpty ds d h = none_says ds d h
  begun_says ask.IsFull ds d h = none_says ds d h
  begun_says ask.Len ds d h = none_says ds d h
  begun_says ask.Capacity ds d h = none_says ds d h

  answer_says : (a : QueueAsk T) (ds : List (MarkedStep T)) (d : MarkedStep T) (seen : List (Queue T)) (r : QueueReply T) → MayAnswer a (ds ++ d ∷ []) seen r → SaysSo d
  answer_says (ask.Push v) ds d seen (reply.Push (Ok u)) h = appended_says ds d h
  answer_says (ask.Push v) ds d seen (reply.Push (Err (push_error.Full w))) h = none_says ds d h.1
  answer_says (ask.Push v) ds d seen (reply.Push (Err (push_error.Closed w))) h = none_says ds d h.1
  answer_says (ask.Push v) ds d seen (reply.Push (Err (push_error.NoMemory w))) h = none_says ds d h.1
  answer_says (ask.ForcePush v) ds d seen (reply.Force (Ok None)) h = appended_says ds d h
  answer_says (ask.ForcePush v) ds d seen (reply.Force (Ok (Some w))) h = ⊎_elim (replaced_says ds d w) (displaced_says ds d w) h
  answer_says (ask.ForcePush v) ds d seen (reply.Force (Err (force_error.Closed w))) h = none_says ds d h.1
  answer_says (ask.ForcePush v) ds d seen (reply.Force (Err (force_error.NoMemory w))) h = none_says ds d h.1
  answer_says ask.Pop ds d seen (reply.Pop (Ok v)) h = took_says ds d v h
  answer_says ask.Pop ds d seen (reply.Pop (Err pop_error.Empty)) h = none_says ds d h.0
  answer_says ask.Pop ds d seen (reply.Pop (Err pop_error.Closed)) h = none_says ds d h.0
  answer_says ask.Close ds d seen (reply.Close true) h = closing_says ds d h
  answer_says ask.Close ds d seen (reply.Close false) h = none_says ds d h.0
  answer_says ask.IsClosed ds d seen (reply.Flag b) h = none_says ds d h.0
  answer_says ask.IsEmpty ds d seen (reply.Flag b) h = none_says ds d h.0
  answer_says ask.IsFull ds d seen (reply.Flag b) h = none_says ds d h.0
  answer_says ask.Len ds d seen (reply.Count n) h = none_says ds d h.0
  answer_says ask.Capacity ds d seen (reply.Cap c) h = none_says ds d h.0
  answer_says a ds d seen r h = absurd h

  -- the mark of a step says of the queue just before it what it says in the rows
  goes_says : (u : CallUnderWay T) (m : QueueMark) (q q' : Queue T) (left : ℕ) (others : List (CallUnderWay T)) (r : Option (QueueReply T)) → ContinuesAs u (stepped u m q q' left) q others r → Says m q
  goes_says u Append q q' left others None h = begun_says u.ask u.marked_steps (record { mark = Append; before = q; seen = u.seen }) h.0
  goes_says u Append q q' left others (Some x) h = answer_says u.ask u.marked_steps (record { mark = Append; before = q; seen = u.seen }) (q' ∷ u.seen) x h
  goes_says u Replace q q' left others None h = begun_says u.ask u.marked_steps (record { mark = Replace; before = q; seen = u.seen }) h.0
  goes_says u Replace q q' left others (Some x) h = answer_says u.ask u.marked_steps (record { mark = Replace; before = q; seen = u.seen }) (q' ∷ u.seen) x h
  goes_says u Nothing q q' left others r h = tt
  goes_says u Take q q' left others r h = tt
  goes_says u TakeDisplaced q q' left others r h = tt
  goes_says u Close q q' left others r h = tt

  -- ---- the length

  one_at_most : (a : QueueAsk T) → length (message a) ≤ 1
  one_at_most (ask.Push v) = omega arith
  one_at_most (ask.ForcePush v) = omega arith
  one_at_most ask.Pop = omega arith
  one_at_most ask.Close = omega arith
  one_at_most ask.IsClosed = omega arith
  one_at_most ask.IsEmpty = omega arith
  one_at_most ask.IsFull = omega arith
  one_at_most ask.Len = omega arith
  one_at_most ask.Capacity = omega arith

  no_longer : (xs : List T) → length (drop 1 xs) ≤ length xs
  no_longer [] = omega arith
  no_longer (x ∷ xs) = omega arith

  has_room : (q : Queue T) (cap : ℕ) → q.capacity ≡ Some cap → is_filled q ≡ false → length q.items ≡ cap → ⊥
  has_room q cap limit e full = not_eq (length q.items) cap (subst (λ (c : Option ℕ). is_full_at c q.items ≡ false) limit e) full

  fits_after : (a : QueueAsk T) (b : Bool) (m : QueueMark) (q : Queue T) (cap : ℕ) → Says m q → q.capacity ≡ Some cap → length q.items ≤ cap → length (marked a b m q).items ≤ cap
  fits_after a b Nothing q cap says limit h = h
  fits_after a b Append q cap says limit h =
      let k = length-append q.items (message a) in let one = one_at_most a in
      ⊎_elim (λ (low : length q.items < cap). omega arith) (λ (high : cap ≤ length q.items). absurd (has_room q cap limit says (omega arith))) (cases_lt (length q.items) cap)
  fits_after a b Take q cap says limit h = let k = no_longer q.items in omega arith
  fits_after a b TakeDisplaced q cap says limit h = let k = no_longer q.items in omega arith
  fits_after a b Replace q cap says limit h =
      let k = length-append (drop 1 q.items) (message a) in let one = one_at_most a in
      let n : length q.items ≡ length (says.0 ∷ says.1.0) = ap length says.1.1 in
      let l : length (drop 1 q.items) ≡ length says.1.0 = ap (λ (xs : List T). length (drop 1 xs)) says.1.1 in omega arith
  fits_after a b Close q cap says limit h = h

  -- a queue of this capacity, with no more than fit
  abbrev Fits : ℕ → Queue T → Type 0
  Fits cap q = (q.capacity ≡ Some cap) × (length q.items ≤ cap)

  next_fits : (cap : ℕ) (f : Config T) (s : QueueStep T) (e : QueueEntry T) (g : Config T) → Next f s e g → Fits cap f.scene.now → Fits cap g.scene.now
  next_fits cap f (Begin p a) e g n h = subst (λ (q : Queue T). Fits cap q) (sym n.0.now) h
  next_fits cap f (Step p) e g n h =
      let s = n.0 in
      let u = s.mine in
      let says = goes_says u e.mark f.scene.now g.scene.now s.left (s.before ++ s.behind) e.reply s.goes_on in
      subst (λ (q : Queue T). Fits cap q) (sym s.now)
      (same_limit u.ask (makes_room u.marked_steps) e.mark f.scene.now ∙ h.0, fits_after u.ask (makes_room u.marked_steps) e.mark f.scene.now cap says h.0 h.1)

  run_fits : (cap : ℕ) (f : Config T) (ss : List (QueueStep T)) (es : List (QueueEntry T)) (g : Config T) → IsRun f ss es g → Fits cap f.scene.now → Fits cap g.scene.now
  run_fits cap f [] [] g r h = subst (λ (x : Config T). Fits cap x.scene.now) (sym r) h
  run_fits cap f [] (e ∷ es) g r h = absurd r
  run_fits cap f (s ∷ ss) [] g r h = absurd r
  run_fits cap f (s ∷ ss) (e ∷ es) g r h = run_fits cap r.0 ss es g r.3 (next_fits cap f s e r.0 r.1 h)

  pub never_overfull : (form : QueueForm) (start : Contents T) (made : List (QueueStep T)) (trace : List (QueueEntry T)) (f : Config T) → IsRun (opened_config start form) made trace f
      → (cap : ℕ) → capacity_of form ≡ Some cap → length f.scene.now.items ≤ cap
  never_overfull form start made trace f run cap limit = (run_fits cap (opened_config start form) made trace f run (limit, omega arith)).1

  -- ---- closes that answer true

  -- each call has done a beginning of what some reply needs
  abbrev AllBegun : List (CallUnderWay T) → Type 0
  AllBegun [] = Unit {0}
  AllBegun (u ∷ us) = IsBegun u.ask u.marked_steps × AllBegun us

  new_begun : (a : QueueAsk T) → IsBegun a []
  new_begun (ask.Push v) = inl refl
  new_begun (ask.ForcePush v) = inl refl
  new_begun ask.Pop = inl refl
  new_begun ask.Close = refl
  new_begun ask.IsClosed = refl
  new_begun ask.IsEmpty = refl
  new_begun ask.IsFull = refl
  new_begun ask.Len = refl
  new_begun ask.Capacity = refl

  begun_sees : (q : Queue T) (us : List (CallUnderWay T)) → AllBegun us → AllBegun (map (observing q) us)
  begun_sees q [] h = tt
  begun_sees q (u ∷ us) h = (h.0, begun_sees q us h.1)

  begun_join : (us vs : List (CallUnderWay T)) → AllBegun us → AllBegun vs → AllBegun (us ++ vs)
  begun_join [] vs h g = g
  begun_join (u ∷ us) vs h g = (h.0, begun_join us vs h.1 g)

  begun_before : (us vs : List (CallUnderWay T)) → AllBegun (us ++ vs) → AllBegun us
  begun_before [] vs h = tt
  begun_before (u ∷ us) vs h = (h.0, begun_before us vs h.1)

  begun_behind : (us vs : List (CallUnderWay T)) → AllBegun (us ++ vs) → AllBegun vs
  begun_behind [] vs h = h
  begun_behind (u ∷ us) vs h = begun_behind us vs h.1

  begun_ended : (u u' : CallUnderWay T) (q : Queue T) (others : List (CallUnderWay T)) (r : Option (QueueReply T)) → ContinuesAs u u' q others r → AllBegun (unless_ended u' r)
  begun_ended u u' q others None h = (h.0, tt)
  begun_ended u u' q others (Some x) h = tt

  next_begun : (f : Config T) (s : QueueStep T) (e : QueueEntry T) (g : Config T) → Next f s e g → AllBegun f.scene.under_way → AllBegun g.scene.under_way
  next_begun f (Begin p a) e g n h =
      subst (λ (us : List (CallUnderWay T)). AllBegun us) (sym n.0.under_way) (begun_join f.scene.under_way (begun p a f.scene.now ∷ []) h (new_begun a, tt))
  next_begun f (Step p) e g n h =
      let s = n.0 in
      let x : CallUnderWay T = stepped s.mine e.mark f.scene.now g.scene.now s.left in
      let all : AllBegun (s.before ++ s.mine ∷ s.behind) = subst (λ (us : List (CallUnderWay T)). AllBegun us) s.there h in
      subst (λ (us : List (CallUnderWay T)). AllBegun us) (sym s.under_way)
      (begun_join (map (observing g.scene.now) s.before) (unless_ended x e.reply ++ map (observing g.scene.now) s.behind) (begun_sees g.scene.now s.before (begun_before s.before (s.mine ∷ s.behind) all))
      (begun_join (unless_ended x e.reply) (map (observing g.scene.now) s.behind) (begun_ended s.mine x f.scene.now (s.before ++ s.behind) e.reply s.goes_on)
      (begun_sees g.scene.now s.behind (begun_behind s.before (s.mine ∷ s.behind) all).1)))

  stays_shut : (a : QueueAsk T) (b : Bool) (m : QueueMark) (q : Queue T) → closable (marked a b m q).closed ≤ closable q.closed
  stays_shut a b Nothing q = omega arith
  stays_shut a b Append q = omega arith
  stays_shut a b Take q = omega arith
  stays_shut a b TakeDisplaced q = omega arith
  stays_shut a b Replace q = omega arith
  stays_shut a b Close q = omega arith

  closed_here : (m : QueueMark) (q : Queue T) (seen : List (Queue T)) → Closing (with_mark [] m q seen) → (m ≡ Close) × IsOpen q
  closed_here Nothing q seen h = absurd h
  closed_here Append q seen h = h
  closed_here Take q seen h = h
  closed_here TakeDisplaced q seen h = h
  closed_here Replace q seen h = h
  closed_here Close q seen h = h

  -- a close that answers true closes an open queue at this very step
  closes_it : (a : QueueAsk T) (ds : List (MarkedStep T)) (m : QueueMark) (q : Queue T) (seen now : List (Queue T)) → IsBegun a ds → MayAnswer a (with_mark ds m q seen) now (reply.Close true) → (m ≡ Close) × IsOpen q
  closes_it ask.Close ds m q seen now idle h = closed_here m q seen (subst (λ (es : List (MarkedStep T)). Closing (with_mark es m q seen)) idle h)
  closes_it (ask.Push v) ds m q seen now idle h = absurd h
  closes_it (ask.ForcePush v) ds m q seen now idle h = absurd h
  closes_it ask.Pop ds m q seen now idle h = absurd h
  closes_it ask.IsClosed ds m q seen now idle h = absurd h
  closes_it ask.IsEmpty ds m q seen now idle h = absurd h
  closes_it ask.IsFull ds m q seen now idle h = absurd h
  closes_it ask.Len ds m q seen now idle h = absurd h
  closes_it ask.Capacity ds m q seen now idle h = absurd h

  one_less : (a : QueueAsk T) (b : Bool) (m : QueueMark) (q : Queue T) → m ≡ Close → IsOpen q → 1 + closable (marked a b m q).closed ≤ closable q.closed
  one_less a b m q e unshut = rw (e, unshut) (omega arith)

  step_closes : (u : CallUnderWay T) (b : Bool) (m : QueueMark) (q q' : Queue T) (left : ℕ) (others : List (CallUnderWay T)) (r : Option (QueueReply T)) → IsBegun u.ask u.marked_steps → ContinuesAs u (stepped u m q q' left) q others r
      → one_if_closed r + closable (marked u.ask b m q).closed ≤ closable q.closed
  step_closes u b m q q' left others None idle h = let s = stays_shut u.ask b m q in omega arith
  step_closes u b m q q' left others (Some (reply.Close true)) idle h =
      let c = closes_it u.ask u.marked_steps m q u.seen (q' ∷ u.seen) idle h in one_less u.ask b m q c.0 c.1
  step_closes u b m q q' left others (Some (reply.Close false)) idle h = let s = stays_shut u.ask b m q in omega arith
  step_closes u b m q q' left others (Some (reply.Push x)) idle h = let s = stays_shut u.ask b m q in omega arith
  step_closes u b m q q' left others (Some (reply.Force x)) idle h = let s = stays_shut u.ask b m q in omega arith
  step_closes u b m q q' left others (Some (reply.Pop x)) idle h = let s = stays_shut u.ask b m q in omega arith
  step_closes u b m q q' left others (Some (reply.Flag x)) idle h = let s = stays_shut u.ask b m q in omega arith
  step_closes u b m q q' left others (Some (reply.Count x)) idle h = let s = stays_shut u.ask b m q in omega arith
  step_closes u b m q q' left others (Some (reply.Cap x)) idle h = let s = stays_shut u.ask b m q in omega arith

  next_closes : (f : Config T) (s : QueueStep T) (e : QueueEntry T) (g : Config T) → Next f s e g → AllBegun f.scene.under_way → one_if_closed e.reply + closable g.scene.now.closed ≤ closable f.scene.now.closed
  next_closes f (Begin p a) e g n h =
      let none : one_if_closed e.reply ≡ 0 = ap (λ (x : QueueEntry T). one_if_closed x.reply) n.0.entry in
      let same : closable g.scene.now.closed ≡ closable f.scene.now.closed = ap (λ (q : Queue T). closable q.closed) n.0.now in omega arith
  next_closes f (Step p) e g n h =
      let s = n.0 in
      let all : AllBegun (s.before ++ s.mine ∷ s.behind) = subst (λ (us : List (CallUnderWay T)). AllBegun us) s.there h in
      subst (λ (q : Queue T). one_if_closed e.reply + closable q.closed ≤ closable f.scene.now.closed) (sym s.now)
      (step_closes s.mine (makes_room s.mine.marked_steps) e.mark f.scene.now g.scene.now s.left (s.before ++ s.behind) e.reply (begun_behind s.before (s.mine ∷ s.behind) all).0 s.goes_on)

  run_closes : (f : Config T) (ss : List (QueueStep T)) (es : List (QueueEntry T)) (g : Config T) → IsRun f ss es g → AllBegun f.scene.under_way → closings_in es ≤ closable f.scene.now.closed
  run_closes f [] [] g r h = omega arith
  run_closes f [] (e ∷ es) g r h = absurd r
  run_closes f (s ∷ ss) [] g r h = absurd r
  run_closes f (s ∷ ss) (e ∷ es) g r h =
      let now = next_closes f s e r.0 r.1 h in let rest = run_closes r.0 ss es g r.3 (next_begun f s e r.0 r.1 h) in omega arith

  pub closes_once : (form : QueueForm) (start : Contents T) (made : List (QueueStep T)) (trace : List (QueueEntry T)) (f : Config T) → IsRun (opened_config start form) made trace f
      → closings_in trace ≤ 1
  closes_once form start made trace f run = run_closes (opened_config start form) made trace f run tt
