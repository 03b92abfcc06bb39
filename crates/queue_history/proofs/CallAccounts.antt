-- What the marks of one call brought and took, by what it asked and was answered.
use Rattle.std.proofs.Common.{◌≡◌, Bool, true, false, inl, inr, List, [], ◌∷◌, ◌++◌, take, None, Some, Ok, Err, refl, sym, ap, ◌∙◌, append_assoc, append-nil}
use Rattle.concurrent_queue.specs.Accounts.{accepted_by, removed_by}
use Rattle.concurrent_queue.specs.Queue.{Queue, IsOldest, message, is_filled}
use Rattle.concurrent_queue.specs.Rows.{MarkedStep, Appended, Took, Replaced, MadeRoom, Displaced, Closing, FlagAnswer, LenAnswer, CapacityAnswer, is_closed, is_empty, MayAnswer, IsBegun}
use Rattle.concurrent_queue.specs.Scene.{with_mark}
use Rattle.concurrent_queue.specs.declared.call.QueueAsk.{QueueAsk}
use Rattle.concurrent_queue.specs.declared.call.QueueAsk.TheVariants as ask
use Rattle.concurrent_queue.specs.declared.call.QueueMark.{QueueMark}
use Rattle.concurrent_queue.specs.declared.call.QueueMark.TheVariants.{Nothing, Append, Take, TakeDisplaced, Replace, Close}
use Rattle.concurrent_queue.specs.declared.call.QueueReply.{QueueReply}
use Rattle.concurrent_queue.specs.declared.call.QueueReply.TheVariants as reply
use Rattle.concurrent_queue.specs.declared.error.PushError.TheVariants as push_error
use Rattle.concurrent_queue.specs.declared.error.ForcePushError.TheVariants as force_error
use Rattle.concurrent_queue.specs.declared.error.PopError.TheVariants as pop_error
use Rattle.queue_history.specs.Accounted.{brought, taken, MayBring, MayTake}

module _ {T : Type 0} where
  -- the messages that these marks of a call brought, and those that they took
  abbrev pub came_in : QueueAsk T → List (MarkedStep T) → List T
  came_in a [] = []
  came_in a (d ∷ ds) = accepted_by d.mark a ++ came_in a ds

  abbrev pub went_in : List (MarkedStep T) → List T
  went_in [] = []
  went_in (d ∷ ds) = removed_by d.mark d.before.items ++ went_in ds

  -- ---- one mark more

  came_append : (a : QueueAsk T) (ds es : List (MarkedStep T)) → came_in a (ds ++ es) ≡ came_in a ds ++ came_in a es
  came_append a [] es = refl
  came_append a (d ∷ ds) es = ap (λ (l : List T). accepted_by d.mark a ++ l) (came_append a ds es) ∙ sym (append_assoc (accepted_by d.mark a) (came_in a ds) (came_in a es))

  went_append : (ds es : List (MarkedStep T)) → went_in (ds ++ es) ≡ went_in ds ++ went_in es
  went_append [] es = refl
  went_append (d ∷ ds) es = ap (λ (l : List T). removed_by d.mark d.before.items ++ l) (went_append ds es) ∙ sym (append_assoc (removed_by d.mark d.before.items) (went_in ds) (went_in es))

  module _ (q : Queue T) (seen : List (Queue T)) where
    abbrev marked_step : QueueMark → MarkedStep T
    marked_step k = record { mark = k; before = q; seen = seen }

    one_came : (a : QueueAsk T) (ds : List (MarkedStep T)) (k : QueueMark) → came_in a (ds ++ marked_step k ∷ []) ≡ came_in a ds ++ accepted_by k a
    one_came a ds k = came_append a ds (marked_step k ∷ []) ∙ ap (λ (l : List T). came_in a ds ++ l) (append-nil (accepted_by k a))

    one_went : (ds : List (MarkedStep T)) (k : QueueMark) → went_in (ds ++ marked_step k ∷ []) ≡ went_in ds ++ removed_by k q.items
    one_went ds k = went_append ds (marked_step k ∷ []) ∙ ap (λ (l : List T). went_in ds ++ l) (append-nil (removed_by k q.items))

    pub came_more : (a : QueueAsk T) (ds : List (MarkedStep T)) (k : QueueMark) → came_in a (with_mark ds k q seen) ≡ came_in a ds ++ accepted_by k a
    came_more a ds Nothing = sym (append-nil (came_in a ds))
    came_more a ds Append = one_came a ds Append
    came_more a ds Take = one_came a ds Take
    came_more a ds TakeDisplaced = one_came a ds TakeDisplaced
    came_more a ds Replace = one_came a ds Replace
    came_more a ds Close = one_came a ds Close

    pub went_more : (ds : List (MarkedStep T)) (k : QueueMark) → went_in (with_mark ds k q seen) ≡ went_in ds ++ removed_by k q.items
    went_more ds Nothing = sym (append-nil (went_in ds))
    went_more ds Append = one_went ds Append
    went_more ds Take = one_went ds Take
    went_more ds TakeDisplaced = one_went ds TakeDisplaced
    went_more ds Replace = one_went ds Replace
    went_more ds Close = one_went ds Close

  -- ---- the marks that replies need

  none_came : (a : QueueAsk T) (ds : List (MarkedStep T)) → ds ≡ [] → came_in a ds ≡ []
  none_came a ds e = ap (λ (l : List (MarkedStep T)). came_in a l) e

  none_went : (ds : List (MarkedStep T)) → ds ≡ [] → went_in ds ≡ []
  none_went ds e = ap (λ (l : List (MarkedStep T)). went_in l) e

  -- one mark
  came_by : (a : QueueAsk T) (d : MarkedStep T) (k : QueueMark) → d.mark ≡ k → came_in a (d ∷ []) ≡ accepted_by k a
  came_by a d k e = append-nil (accepted_by d.mark a) ∙ ap (λ (m : QueueMark). accepted_by m a) e

  went_by : (d : MarkedStep T) (k : QueueMark) → d.mark ≡ k → went_in (d ∷ []) ≡ removed_by k d.before.items
  went_by d k e = append-nil (removed_by d.mark d.before.items) ∙ ap (λ (m : QueueMark). removed_by m d.before.items) e

  first_is : (q : Queue T) (v : T) → IsOldest v q → take 1 q.items ≡ v ∷ []
  first_is q v h = ap (λ (l : List T). take 1 l) h.1

  appended_came : (a : QueueAsk T) (ds : List (MarkedStep T)) → Appended ds → came_in a ds ≡ message a
  appended_came a [] h = absurd h
  appended_came a (d ∷ []) h = came_by a d Append h.0
  appended_came a (d ∷ e ∷ ds) h = absurd h

  appended_went : (ds : List (MarkedStep T)) → Appended ds → went_in ds ≡ []
  appended_went [] h = absurd h
  appended_went (d ∷ []) h = went_by d Append h.0
  appended_went (d ∷ e ∷ ds) h = absurd h

  took_came : (a : QueueAsk T) (ds : List (MarkedStep T)) (v : T) → Took ds v → came_in a ds ≡ []
  took_came a [] v h = absurd h
  took_came a (d ∷ []) v h = came_by a d Take h.0
  took_came a (d ∷ e ∷ ds) v h = absurd h

  took_went : (ds : List (MarkedStep T)) (v : T) → Took ds v → went_in ds ≡ v ∷ []
  took_went [] v h = absurd h
  took_went (d ∷ []) v h = went_by d Take h.0 ∙ first_is d.before v h.1
  took_went (d ∷ e ∷ ds) v h = absurd h

  replaced_came : (a : QueueAsk T) (ds : List (MarkedStep T)) (v : T) → Replaced ds v → came_in a ds ≡ message a
  replaced_came a [] v h = absurd h
  replaced_came a (d ∷ []) v h = came_by a d Replace h.0
  replaced_came a (d ∷ e ∷ ds) v h = absurd h

  replaced_went : (ds : List (MarkedStep T)) (v : T) → Replaced ds v → went_in ds ≡ v ∷ []
  replaced_went [] v h = absurd h
  replaced_went (d ∷ []) v h = went_by d Replace h.0 ∙ first_is d.before v h.3
  replaced_went (d ∷ e ∷ ds) v h = absurd h

  made_room_came : (a : QueueAsk T) (ds : List (MarkedStep T)) (v : T) → MadeRoom ds v → came_in a ds ≡ []
  made_room_came a [] v h = absurd h
  made_room_came a (d ∷ []) v h = came_by a d TakeDisplaced h.0
  made_room_came a (d ∷ e ∷ ds) v h = absurd h

  made_room_went : (ds : List (MarkedStep T)) (v : T) → MadeRoom ds v → went_in ds ≡ v ∷ []
  made_room_went [] v h = absurd h
  made_room_went (d ∷ []) v h = went_by d TakeDisplaced h.0 ∙ first_is d.before v h.3
  made_room_went (d ∷ e ∷ ds) v h = absurd h

  displaced_came : (a : QueueAsk T) (ds : List (MarkedStep T)) (v : T) → Displaced ds v → came_in a ds ≡ message a
  displaced_came a [] v h = absurd h
  displaced_came a (d ∷ []) v h = absurd h
  displaced_came a (d ∷ e ∷ []) v h = came_append a (d ∷ []) (e ∷ []) ∙ ap (λ (l : List T). l ++ came_in a (e ∷ [])) (made_room_came a (d ∷ []) v h.0) ∙ came_by a e Append h.1
  displaced_came a (d ∷ e ∷ f ∷ ds) v h = absurd h

  displaced_went : (ds : List (MarkedStep T)) (v : T) → Displaced ds v → went_in ds ≡ v ∷ []
  displaced_went [] v h = absurd h
  displaced_went (d ∷ []) v h = absurd h
  displaced_went (d ∷ e ∷ []) v h = went_append (d ∷ []) (e ∷ []) ∙ ap (λ (l : List T). went_in (d ∷ []) ++ l) (went_by e Append h.1) ∙ append-nil (went_in (d ∷ [])) ∙ made_room_went (d ∷ []) v h.0
  displaced_went (d ∷ e ∷ f ∷ ds) v h = absurd h

  closing_came : (a : QueueAsk T) (ds : List (MarkedStep T)) → Closing ds → came_in a ds ≡ []
  closing_came a [] h = absurd h
  closing_came a (d ∷ []) h = came_by a d Close h.0
  closing_came a (d ∷ e ∷ ds) h = absurd h

  closing_went : (ds : List (MarkedStep T)) → Closing ds → went_in ds ≡ []
  closing_went [] h = absurd h
  closing_went (d ∷ []) h = went_by d Close h.0
  closing_went (d ∷ e ∷ ds) h = absurd h

  -- ---- what a call that was answered brought and took

  abbrev pub Did : QueueAsk T → List (MarkedStep T) → QueueReply T → Type 0
  Did a ds r = (came_in a ds ≡ brought a r) × (went_in ds ≡ taken r)

  module _ (ds : List (MarkedStep T)) (seen : List (Queue T)) where
    push_did : (v : T) (r : QueueReply T) → MayAnswer (ask.Push v) ds seen r → Did (ask.Push v) ds r
    push_did v (reply.Push (Ok u)) h = (appended_came (ask.Push v) ds h, appended_went ds h)
    push_did v (reply.Push (Err (push_error.Full w))) h = (none_came (ask.Push v) ds h.1, none_went ds h.1)
    push_did v (reply.Push (Err (push_error.Closed w))) h = (none_came (ask.Push v) ds h.1, none_went ds h.1)
    push_did v (reply.Push (Err (push_error.NoMemory w))) h = (none_came (ask.Push v) ds h.1, none_went ds h.1)
    push_did v (reply.Force x) h = absurd h
    push_did v (reply.Pop x) h = absurd h
    push_did v (reply.Close x) h = absurd h
    push_did v (reply.Flag x) h = absurd h
    push_did v (reply.Count x) h = absurd h
    push_did v (reply.Cap x) h = absurd h

    force_did : (v : T) (r : QueueReply T) → MayAnswer (ask.ForcePush v) ds seen r → Did (ask.ForcePush v) ds r
    force_did v (reply.Force (Ok None)) h = (appended_came (ask.ForcePush v) ds h, appended_went ds h)
    force_did v (reply.Force (Ok (Some d))) (inl h) = (replaced_came (ask.ForcePush v) ds d h, replaced_went ds d h)
    force_did v (reply.Force (Ok (Some d))) (inr h) = (displaced_came (ask.ForcePush v) ds d h, displaced_went ds d h)
    force_did v (reply.Force (Err (force_error.Closed w))) h = (none_came (ask.ForcePush v) ds h.1, none_went ds h.1)
    force_did v (reply.Force (Err (force_error.NoMemory w))) h = (none_came (ask.ForcePush v) ds h.1, none_went ds h.1)
    force_did v (reply.Push x) h = absurd h
    force_did v (reply.Pop x) h = absurd h
    force_did v (reply.Close x) h = absurd h
    force_did v (reply.Flag x) h = absurd h
    force_did v (reply.Count x) h = absurd h
    force_did v (reply.Cap x) h = absurd h

    pop_did : (r : QueueReply T) → MayAnswer ask.Pop ds seen r → Did ask.Pop ds r
    pop_did (reply.Pop (Ok v)) h = (took_came ask.Pop ds v h, took_went ds v h)
    pop_did (reply.Pop (Err pop_error.Empty)) h = (none_came ask.Pop ds h.0, none_went ds h.0)
    pop_did (reply.Pop (Err pop_error.Closed)) h = (none_came ask.Pop ds h.0, none_went ds h.0)
    pop_did (reply.Push x) h = absurd h
    pop_did (reply.Force x) h = absurd h
    pop_did (reply.Close x) h = absurd h
    pop_did (reply.Flag x) h = absurd h
    pop_did (reply.Count x) h = absurd h
    pop_did (reply.Cap x) h = absurd h

    close_did : (r : QueueReply T) → MayAnswer ask.Close ds seen r → Did ask.Close ds r
    close_did (reply.Close true) h = (closing_came ask.Close ds h, closing_went ds h)
    close_did (reply.Close false) h = (none_came ask.Close ds h.0, none_went ds h.0)
    close_did (reply.Push x) h = absurd h
    close_did (reply.Force x) h = absurd h
    close_did (reply.Pop x) h = absurd h
    close_did (reply.Flag x) h = absurd h
    close_did (reply.Count x) h = absurd h
    close_did (reply.Cap x) h = absurd h

    -- a question has no mark, and its answer brings no message
    abbrev IsQuestion : QueueReply T → Type 0
    IsQuestion r = (ds ≡ []) × (taken r ≡ [])

    flag_asks : (test : Queue T → Bool) (r : QueueReply T) → FlagAnswer test ds seen r → IsQuestion r
    flag_asks test (reply.Flag b) h = (h.0, refl)
    flag_asks test (reply.Push x) h = absurd h
    flag_asks test (reply.Force x) h = absurd h
    flag_asks test (reply.Pop x) h = absurd h
    flag_asks test (reply.Close x) h = absurd h
    flag_asks test (reply.Count x) h = absurd h
    flag_asks test (reply.Cap x) h = absurd h

    length_asks : (r : QueueReply T) → LenAnswer ds seen r → IsQuestion r
    length_asks (reply.Count n) h = (h.0, refl)
    length_asks (reply.Push x) h = absurd h
    length_asks (reply.Force x) h = absurd h
    length_asks (reply.Pop x) h = absurd h
    length_asks (reply.Close x) h = absurd h
    length_asks (reply.Flag x) h = absurd h
    length_asks (reply.Cap x) h = absurd h

    capacity_asks : (r : QueueReply T) → CapacityAnswer ds seen r → IsQuestion r
    capacity_asks (reply.Cap c) h = (h.0, refl)
    capacity_asks (reply.Push x) h = absurd h
    capacity_asks (reply.Force x) h = absurd h
    capacity_asks (reply.Pop x) h = absurd h
    capacity_asks (reply.Close x) h = absurd h
    capacity_asks (reply.Flag x) h = absurd h
    capacity_asks (reply.Count x) h = absurd h

    abbrev IsAsked : QueueAsk T → Type 0
    IsAsked ask.IsClosed = Unit {0}
    IsAsked ask.IsEmpty = Unit {0}
    IsAsked ask.IsFull = Unit {0}
    IsAsked ask.Len = Unit {0}
    IsAsked ask.Capacity = Unit {0}
    IsAsked _ = ⊥

    is_question : (a : QueueAsk T) (r : QueueReply T) → IsAsked a → MayAnswer a ds seen r → IsQuestion r
    is_question (ask.Push v) r asks h = absurd asks
    is_question (ask.ForcePush v) r asks h = absurd asks
    is_question ask.Pop r asks h = absurd asks
    is_question ask.Close r asks h = absurd asks
    is_question ask.IsClosed r asks h = flag_asks is_closed r h
    is_question ask.IsEmpty r asks h = flag_asks is_empty r h
    is_question ask.IsFull r asks h = flag_asks (λ m. is_filled m) r h
    is_question ask.Len r asks h = length_asks r h
    is_question ask.Capacity r asks h = capacity_asks r h

    pub is_unmarked : (a : QueueAsk T) (r : QueueReply T) → IsAsked a → MayAnswer a ds seen r → ds ≡ []
    is_unmarked a r asks h = (is_question a r asks h).0

    question_did : (a : QueueAsk T) (r : QueueReply T) → brought a r ≡ [] → IsQuestion r → Did a ds r
    question_did a r e h = (none_came a ds h.0 ∙ sym e, none_went ds h.0 ∙ sym h.1)

    -- what a call's marks brought and took its answer says
    pub did : (a : QueueAsk T) (r : QueueReply T) → MayAnswer a ds seen r → Did a ds r
    did (ask.Push v) r h = push_did v r h
    did (ask.ForcePush v) r h = force_did v r h
    did ask.Pop r h = pop_did r h
    did ask.Close r h = close_did r h
    did ask.IsClosed r h = question_did ask.IsClosed r refl (is_question ask.IsClosed r tt h)
    did ask.IsEmpty r h = question_did ask.IsEmpty r refl (is_question ask.IsEmpty r tt h)
    did ask.IsFull r h = question_did ask.IsFull r refl (is_question ask.IsFull r tt h)
    did ask.Len r h = question_did ask.Len r refl (is_question ask.Len r tt h)
    did ask.Capacity r h = question_did ask.Capacity r refl (is_question ask.Capacity r tt h)

  -- ---- what a call under way has brought and taken

  unmarked_brings : (a : QueueAsk T) (ds : List (MarkedStep T)) → ds ≡ [] → MayBring (a ∷ []) (came_in a ds)
  unmarked_brings a ds e = inl (none_came a ds e)

  pub brings : (a : QueueAsk T) (ds : List (MarkedStep T)) → IsBegun a ds → MayBring (a ∷ []) (came_in a ds)
  brings (ask.Push v) ds (inl h) = unmarked_brings (ask.Push v) ds h
  brings (ask.Push v) ds (inr h) = inr (appended_came (ask.Push v) ds h)
  brings (ask.ForcePush v) ds (inl h) = unmarked_brings (ask.ForcePush v) ds h
  brings (ask.ForcePush v) ds (inr (inl h)) = inr (appended_came (ask.ForcePush v) ds h)
  brings (ask.ForcePush v) ds (inr (inr (inl (d, h)))) = inr (replaced_came (ask.ForcePush v) ds d h)
  brings (ask.ForcePush v) ds (inr (inr (inr (inl (d, h))))) = inl (made_room_came (ask.ForcePush v) ds d h)
  brings (ask.ForcePush v) ds (inr (inr (inr (inr (d, h))))) = inr (displaced_came (ask.ForcePush v) ds d h)
  brings ask.Pop ds (inl h) = unmarked_brings ask.Pop ds h
  brings ask.Pop ds (inr (v, h)) = inl (took_came ask.Pop ds v h)
  brings ask.Close ds h = unmarked_brings ask.Close ds h
  brings ask.IsClosed ds h = unmarked_brings ask.IsClosed ds h
  brings ask.IsEmpty ds h = unmarked_brings ask.IsEmpty ds h
  brings ask.IsFull ds h = unmarked_brings ask.IsFull ds h
  brings ask.Len ds h = unmarked_brings ask.Len ds h
  brings ask.Capacity ds h = unmarked_brings ask.Capacity ds h

  pub takes : (a : QueueAsk T) (ds : List (MarkedStep T)) → IsBegun a ds → MayTake (a ∷ []) (went_in ds)
  takes (ask.Push v) ds (inl h) = none_went ds h
  takes (ask.Push v) ds (inr h) = appended_went ds h
  takes (ask.ForcePush v) ds (inl h) = inl (none_went ds h)
  takes (ask.ForcePush v) ds (inr (inl h)) = inl (appended_went ds h)
  takes (ask.ForcePush v) ds (inr (inr (inl (d, h)))) = inr (d, replaced_went ds d h)
  takes (ask.ForcePush v) ds (inr (inr (inr (inl (d, h))))) = inr (d, made_room_went ds d h)
  takes (ask.ForcePush v) ds (inr (inr (inr (inr (d, h))))) = inr (d, displaced_went ds d h)
  takes ask.Pop ds (inl h) = inl (none_went ds h)
  takes ask.Pop ds (inr (v, h)) = inr (v, took_went ds v h)
  takes ask.Close ds h = none_went ds h
  takes ask.IsClosed ds h = none_went ds h
  takes ask.IsEmpty ds h = none_went ds h
  takes ask.IsFull ds h = none_went ds h
  takes ask.Len ds h = none_went ds h
  takes ask.Capacity ds h = none_went ds h

  -- a call that has made no step has done a beginning of some reply
  pub begun_first : (a : QueueAsk T) → IsBegun a []
  begun_first (ask.Push v) = inl refl
  begun_first (ask.ForcePush v) = inl refl
  begun_first ask.Pop = inl refl
  begun_first ask.Close = refl
  begun_first ask.IsClosed = refl
  begun_first ask.IsEmpty = refl
  begun_first ask.IsFull = refl
  begun_first ask.Len = refl
  begun_first ask.Capacity = refl
