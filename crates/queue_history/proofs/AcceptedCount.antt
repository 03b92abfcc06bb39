-- How many messages were accepted in a run.
use Rattle.std.proofs.Common.{◌≡◌, ℕ, suc, ◌+◌, Bool, true, false, inl, inr, List, [], ◌∷◌, ◌++◌, length, Option, None, Some, Ok, Err, refl, sym, ap, ◌∙◌, subst, arith, length-append}
use Rattle.concurrent_queue.specs.Accounts.{accepted_by}
use Rattle.concurrent_queue.specs.Queue.{Queue, message, marked}
use Rattle.concurrent_queue.specs.Rows.{MarkedStep, Took, Closing, MayAnswer, IsBegun}
use Rattle.concurrent_queue.specs.Run.{Config, Next, IsRun, one_if_accepted}
use Rattle.concurrent_queue.specs.Scene.{CallUnderWay, with_mark, stepped, ContinuesAs}
use Rattle.concurrent_queue.specs.declared.call.QueueAsk.{QueueAsk}
use Rattle.concurrent_queue.specs.declared.call.QueueAsk.TheVariants as ask
use Rattle.concurrent_queue.specs.declared.call.QueueEntry.{QueueEntry}
use Rattle.concurrent_queue.specs.declared.call.QueueMark.{QueueMark}
use Rattle.concurrent_queue.specs.declared.call.QueueMark.TheVariants.{Nothing, Append, Take, TakeDisplaced, Replace, Close}
use Rattle.concurrent_queue.specs.declared.call.QueueReply.{QueueReply}
use Rattle.concurrent_queue.specs.declared.call.QueueReply.TheVariants as reply
use Rattle.concurrent_queue.specs.declared.error.PopError.TheVariants as pop_error
use Rattle.concurrent_queue.specs.declared.run.QueueStep.{QueueStep}
use Rattle.concurrent_queue.specs.declared.run.QueueStep.TheVariants.{Begin, Step}
use Rattle.queue_history.proofs.CallAccounts.{is_unmarked}
use Rattle.queue_history.proofs.PartyAccounts.{came, came_at, tagged}

module _ {T : Type 0} where
  -- ---- what a mark does to the count

  marked_capacity : (a : QueueAsk T) (b : Bool) (k : QueueMark) (q : Queue T) → (marked a b k q).capacity ≡ q.capacity
  marked_capacity a b Nothing q = refl
  marked_capacity a b Append q = refl
  marked_capacity a b Take q = refl
  marked_capacity a b TakeDisplaced q = refl
  marked_capacity a b Replace q = refl
  marked_capacity a b Close q = refl

  marked_accepted : (a : QueueAsk T) (b : Bool) (k : QueueMark) (q : Queue T) → (marked a b k q).accepted ≡ q.accepted + one_if_accepted k
  marked_accepted a b Nothing q = omega arith
  marked_accepted a b Append q = refl
  marked_accepted a b Take q = omega arith
  marked_accepted a b TakeDisplaced q = omega arith
  marked_accepted a b Replace q = refl
  marked_accepted a b Close q = omega arith

  -- ---- a call that accepts a message brings one

  module _ (x : MarkedStep T) (one : one_if_accepted x.mark ≡ 1) where
    not_marked : (k : QueueMark) → one_if_accepted k ≡ 0 → x.mark ≡ k → ⊥
    not_marked k none e = (let f : 1 ≡ 0 = sym one ∙ ap (λ (m : QueueMark). one_if_accepted m) e ∙ none in omega (arith, f))

    some_mark : (ds : List (MarkedStep T)) → ds ++ x ∷ [] ≡ [] → ⊥
    some_mark [] e = absurd cc
    some_mark (d ∷ ds) e = absurd cc

    took_not : (ds : List (MarkedStep T)) (v : T) → Took (ds ++ x ∷ []) v → ⊥
    took_not [] v h = not_marked Take refl h.0
    took_not (d ∷ []) v h = h
    took_not (d ∷ e ∷ ds) v h = h

    closing_not : (ds : List (MarkedStep T)) → Closing (ds ++ x ∷ []) → ⊥
    closing_not [] h = not_marked Close refl h.0
    closing_not (d ∷ []) h = h
    closing_not (d ∷ e ∷ ds) h = h

    module _ (ds : List (MarkedStep T)) where
      begun_brings : (a : QueueAsk T) → IsBegun a (ds ++ x ∷ []) → length (message a) ≡ 1
      begun_brings (ask.Push v) h = refl
      begun_brings (ask.ForcePush v) h = refl
      begun_brings ask.Pop (inl e) = absurd (some_mark ds e)
      begun_brings ask.Pop (inr (v, h)) = absurd (took_not ds v h)
      begun_brings ask.Close e = absurd (some_mark ds e)
      begun_brings ask.IsClosed e = absurd (some_mark ds e)
      begun_brings ask.IsEmpty e = absurd (some_mark ds e)
      begun_brings ask.IsFull e = absurd (some_mark ds e)
      begun_brings ask.Len e = absurd (some_mark ds e)
      begun_brings ask.Capacity e = absurd (some_mark ds e)

      module _ (seen : List (Queue T)) where
        pop_not : (r : QueueReply T) → MayAnswer ask.Pop (ds ++ x ∷ []) seen r → ⊥
        pop_not (reply.Pop (Ok v)) h = took_not ds v h
        pop_not (reply.Pop (Err pop_error.Empty)) h = some_mark ds h.0
        pop_not (reply.Pop (Err pop_error.Closed)) h = some_mark ds h.0
        pop_not (reply.Push y) h = h
        pop_not (reply.Force y) h = h
        pop_not (reply.Close y) h = h
        pop_not (reply.Flag y) h = h
        pop_not (reply.Count y) h = h
        pop_not (reply.Cap y) h = h

        close_not : (r : QueueReply T) → MayAnswer ask.Close (ds ++ x ∷ []) seen r → ⊥
        close_not (reply.Close true) h = closing_not ds h
        close_not (reply.Close false) h = some_mark ds h.0
        close_not (reply.Push y) h = h
        close_not (reply.Force y) h = h
        close_not (reply.Pop y) h = h
        close_not (reply.Flag y) h = h
        close_not (reply.Count y) h = h
        close_not (reply.Cap y) h = h

        answer_brings : (a : QueueAsk T) (r : QueueReply T) → MayAnswer a (ds ++ x ∷ []) seen r → length (message a) ≡ 1
        answer_brings (ask.Push v) r h = refl
        answer_brings (ask.ForcePush v) r h = refl
        answer_brings ask.Pop r h = absurd (pop_not r h)
        answer_brings ask.Close r h = absurd (close_not r h)
        answer_brings ask.IsClosed r h = absurd (some_mark ds (is_unmarked (ds ++ x ∷ []) seen ask.IsClosed r tt h))
        answer_brings ask.IsEmpty r h = absurd (some_mark ds (is_unmarked (ds ++ x ∷ []) seen ask.IsEmpty r tt h))
        answer_brings ask.IsFull r h = absurd (some_mark ds (is_unmarked (ds ++ x ∷ []) seen ask.IsFull r tt h))
        answer_brings ask.Len r h = absurd (some_mark ds (is_unmarked (ds ++ x ∷ []) seen ask.Len r tt h))
        answer_brings ask.Capacity r h = absurd (some_mark ds (is_unmarked (ds ++ x ∷ []) seen ask.Capacity r tt h))

  module _ (u : CallUnderWay T) (q q' : Queue T) (left : ℕ) (others : List (CallUnderWay T)) where
    abbrev step_by : QueueMark → MarkedStep T
    step_by k = record { mark = k; before = q; seen = u.seen }

    one_message : (r : Option (QueueReply T)) (k : QueueMark) → one_if_accepted k ≡ 1 → with_mark u.marked_steps k q u.seen ≡ u.marked_steps ++ step_by k ∷ [] → ContinuesAs u (stepped u k q q' left) q others r → length (message u.ask) ≡ 1
    one_message None k one is c = begun_brings (step_by k) one u.marked_steps u.ask (subst (λ (ds : List (MarkedStep T)). IsBegun u.ask ds) is c.0)
    one_message (Some r) k one is c = answer_brings (step_by k) one u.marked_steps (stepped u k q q' left).seen u.ask r (subst (λ (ds : List (MarkedStep T)). MayAnswer u.ask ds (stepped u k q q' left).seen r) is c)

    count_of : (k : QueueMark) (r : Option (QueueReply T)) → ContinuesAs u (stepped u k q q' left) q others r → length (accepted_by k u.ask) ≡ one_if_accepted k
    count_of Nothing r c = refl
    count_of Append r c = one_message r Append refl refl c
    count_of Take r c = refl
    count_of TakeDisplaced r c = refl
    count_of Replace r c = one_message r Replace refl refl c
    count_of Close r c = refl

  tagged_length : (p : ℕ) (vs : List T) → length (tagged p vs) ≡ length vs
  tagged_length p [] = refl
  tagged_length p (v ∷ vs) = ap (λ (n : ℕ). suc n) (tagged_length p vs)

  -- ---- over a run

  abbrev Grows : Queue T → Queue T → ℕ → Type 0
  Grows q q' n = (q'.capacity ≡ q.capacity) × (q'.accepted ≡ q.accepted + n)

  one_grows : (f : Config T) (s : QueueStep T) (e : QueueEntry T) (g : Config T) (n : Next f s e g) → Grows f.scene.now g.scene.now (length (came_at f s e g n))
  one_grows f (Begin p a) e g n = (ap (λ (q : Queue T). q.capacity) n.0.now, ap (λ (q : Queue T). q.accepted) n.0.now ∙ none f.scene.now.accepted)
    where
      none : (k : ℕ) → k ≡ k + 0
      none k = omega arith
  one_grows f (Step p) e g n =
      let s = n.0 in (
        ap (λ (q : Queue T). q.capacity) s.now ∙ marked_capacity s.mine.ask _ e.mark f.scene.now,
        ap (λ (q : Queue T). q.accepted) s.now ∙ marked_accepted s.mine.ask _ e.mark f.scene.now
            ∙ ap (λ (k : ℕ). f.scene.now.accepted + k) (sym (tagged_length p (accepted_by e.mark s.mine.ask) ∙ count_of s.mine f.scene.now g.scene.now s.left (s.before ++ s.behind) e.mark e.reply s.goes_on)),
      )

  -- the queue counts the messages that were accepted
  pub grown : (f : Config T) (ss : List (QueueStep T)) (es : List (QueueEntry T)) (g : Config T) (r : IsRun f ss es g) → Grows f.scene.now g.scene.now (length (came f ss es g r))
  grown f [] [] g r = (ap (λ (c : Config T). c.scene.now.capacity) r, ap (λ (c : Config T). c.scene.now.accepted) r ∙ none f.scene.now.accepted)
    where
      none : (k : ℕ) → k ≡ k + 0
      none k = omega arith
  grown f [] (e ∷ es) g r = absurd r
  grown f (s ∷ ss) [] g r = absurd r
  grown f (s ∷ ss) (e ∷ es) g r =
      let m = r.0 in
      let here = one_grows f s e m r.1 in
      let rest = grown m ss es g r.3 in (
        rest.0 ∙ here.0,
        sum g.scene.now.accepted m.scene.now.accepted f.scene.now.accepted (length (came_at f s e m r.1)) (length (came m ss es g r.3)) (length (came f (s ∷ ss) (e ∷ es) g r)) rest.1 here.1
            (length-append (came_at f s e m r.1) (came m ss es g r.3)),
      )
    where
      sum : (x y z i j k : ℕ) → x ≡ y + j → y ≡ z + i → k ≡ i + j → x ≡ z + k
      sum x y z i j k e1 e2 e3 = omega (arith, e1, e2, e3)
