-- Over a run nothing is lost and nothing is made.
use Rattle.std.proofs.Common.{◌≡◌, Bool, List, [], ◌∷◌, ◌++◌, take, drop, refl, sym, ap, ◌∙◌}
use Rattle.std.proofs.lemmas.List.{append_assoc, append-nil, take-append-drop}
use Rattle.concurrent_queue.specs.Queue.{Queue, message, marked}
use Rattle.concurrent_queue.specs.Run.{Config, Next, IsRun}
use Rattle.concurrent_queue.specs.Accounts.{accepted_by, removed_by, accepted_at, accepted_over, removed_over}
use Rattle.concurrent_queue.specs.declared.call.QueueAsk.{QueueAsk}
use Rattle.concurrent_queue.specs.declared.call.QueueMark.{QueueMark}
use Rattle.concurrent_queue.specs.declared.call.QueueMark.TheVariants.{Nothing, Append, Take, TakeDisplaced, Replace, Close}
use Rattle.concurrent_queue.specs.declared.call.QueueEntry.{QueueEntry}
use Rattle.concurrent_queue.specs.declared.run.QueueStep.{QueueStep}
use Rattle.concurrent_queue.specs.declared.run.QueueStep.TheVariants.{Begin, Step}

module _ {T : Type 0} where
  taken : (items : List T) → take 1 items ++ drop 1 items ≡ items ++ []
  taken items = take-append-drop 1 items ∙ sym (append-nil items)

  marked_items : (a : QueueAsk T) (b : Bool) (k : QueueMark) (q : Queue T) → removed_by k q.items ++ (marked a b k q).items ≡ q.items ++ accepted_by k a
  marked_items a b Nothing q = sym (append-nil q.items)
  marked_items a b Append q = refl
  marked_items a b Take q = taken q.items
  marked_items a b TakeDisplaced q = taken q.items
  marked_items a b Replace q = sym (append_assoc (take 1 q.items) (drop 1 q.items) (message a)) ∙ ap (λ (xs : List T). xs ++ message a) (take-append-drop 1 q.items)
  marked_items a b Close q = sym (append-nil q.items)

  one_step : (f : Config T) (s : QueueStep T) (e : QueueEntry T) (g : Config T) (n : Next f s e g) → removed_by e.mark f.scene.now.items ++ g.scene.now.items ≡ f.scene.now.items ++ accepted_at f s e g n
  one_step f (Begin p a) e g n =
      let items = f.scene.now.items in
      ap (λ (x : QueueEntry T). removed_by x.mark items ++ g.scene.now.items) n.0.entry ∙ ap (λ (q : Queue T). q.items) n.0.now ∙ sym (append-nil items)
  one_step f (Step p) e g n =
      ap (λ (q : Queue T). removed_by e.mark f.scene.now.items ++ q.items) n.0.now ∙ marked_items n.0.mine.ask _ e.mark f.scene.now

  -- what was removed followed by what is held is what was held followed by what was accepted
  pub accounts : (f : Config T) (ss : List (QueueStep T)) (es : List (QueueEntry T)) (g : Config T) (r : IsRun f ss es g) → removed_over f ss es g r ++ g.scene.now.items ≡ f.scene.now.items ++ accepted_over f ss es g r
  accounts f [] [] g r = ap (λ (x : Config T). x.scene.now.items) r ∙ sym (append-nil f.scene.now.items)
  accounts f [] (e ∷ es) g r = absurd r
  accounts f (s ∷ ss) [] g r = absurd r
  accounts f (s ∷ ss) (e ∷ es) g r =
      let m = r.0 in
      let out : List T = removed_by e.mark f.scene.now.items in
      let out' : List T = removed_over m ss es g r.3 in
      let new : List T = accepted_at f s e m r.1 in
      let new' : List T = accepted_over m ss es g r.3 in
      append_assoc out out' g.scene.now.items
      ∙ ap (λ (xs : List T). out ++ xs) (accounts m ss es g r.3)
      ∙ sym (append_assoc out m.scene.now.items new')
      ∙ ap (λ (xs : List T). xs ++ new') (one_step f s e m r.1)
      ∙ append_assoc f.scene.now.items new new'
