-- One that tells all of a list has closed the channel, and it is closed.
use Rattle.std.proofs.Common.{◌≡◌, ℕ, zero, suc, List, [], ◌∷◌, ◌++◌, Option, ◌⊎◌, ⊎_elim, inl, inr, refl, subst}
use Rattle.channel_steps.proofs.every_run.Words.{Phase, QueueMark, mark_of_queue, Channel, Effect, Moves, Mark, Append, Replace, Close, Reply, Closer, WaitList, Sends, Receives, Streams, Closings, Stage, Working, TellAll, ToldAt, MarkedMoment, with_marked, Shut, Telling, all_from, one_of, more_of, all_of, owed_for, owed_takings, takings, owed_besides, HasClosed, HasToTell, IsStill, Queue, after, IsShut}
use Rattle.concurrent_queue.specs.declared.call.QueueMark.TheVariants as queue
use Rattle.channel_calls.specs.declared.mark.Mark.TheVariants.{Nothing}
use Rattle.channel_steps.specs.Tellings.{owed}
use Rattle.channel_steps.proofs.QueueFacts.{moves_by}

-- ---- tellings

module _ (x : Telling) where
  abbrev IsAmong : List Telling → Type 0
  IsAmong [] = ⊥
  IsAmong (y ∷ ys) = (y ≡ x) ⊎ IsAmong ys

  among_right : (xs ys : List Telling) → IsAmong ys → IsAmong (xs ++ ys)
  among_right [] ys h = h
  among_right (y ∷ xs) ys h = inr (among_right xs ys h)

  among_either : (xs ys : List Telling) → IsAmong (xs ++ ys) → IsAmong xs ⊎ IsAmong ys
  among_either [] ys h = inr h
  among_either (y ∷ xs) ys (inl h) = inl (inl h)
  among_either (y ∷ xs) ys (inr h) = ⊎_elim (λ k. inl (inr k)) (λ k. inr k) (among_either xs ys h)

-- a closing tells those last who wait for it
closings_last : (line : WaitList) → IsAmong (all_of Closings) (all_from line)
closings_last Sends = inr (inr (inr (inl refl)))
closings_last Receives = inr (inr (inl refl))
closings_last Streams = inr (inl refl)
closings_last Closings = inl refl

-- takings do not
takings_owe : (n : ℕ) → IsAmong (all_of Closings) (owed_takings n) → ⊥
takings_owe zero h = h
takings_owe (suc n) (inl e) = absurd (let never : more_of (suc n) Sends ≡ all_of Closings = e in cc)
takings_owe (suc n) (inr h) = h

-- and nothing else does
closing_owes : (m : Mark) → IsAmong (all_of Closings) (owed_for m) → m ≡ Close
closing_owes Append (inl e) = absurd (let never : one_of Receives ≡ all_of Closings = e in cc)
closing_owes Append (inr (inl e)) = absurd (let never : all_of Streams ≡ all_of Closings = e in cc)
closing_owes Append (inr (inr h)) = absurd h
closing_owes Replace (inl e) = absurd (let never : one_of Receives ≡ all_of Closings = e in cc)
closing_owes Replace (inr (inl e)) = absurd (let never : all_of Streams ≡ all_of Closings = e in cc)
closing_owes Replace (inr (inr h)) = absurd h
closing_owes Close h = refl
closing_owes m h = absurd h

module _ {T : Type 0} where
  queue_closes : (q : Queue T) (f : Phase T) (m : QueueMark) → mark_of_queue m ≡ Close → IsShut (after f m q)
  queue_closes q f queue.Close h = refl
  queue_closes q f queue.Nothing h = absurd (let never : Nothing ≡ Close = h in cc)
  queue_closes q f w h = absurd cc

module _ {T W : Type 0} where
  has_besides : (ds : List (MarkedMoment T W)) → IsAmong (all_of Closings) (owed_besides ds) → HasClosed ds
  has_besides [] h = absurd h
  has_besides (d ∷ ds) h =
      ⊎_elim (λ k. inl (closing_owes d.mark k)) (λ k. inr (has_besides ds k)) (among_either (all_of Closings) (owed_for d.mark) (owed_besides ds) h)

  has_owed : (ds : List (MarkedMoment T W)) → IsAmong (all_of Closings) (owed ds) → HasClosed ds
  has_owed ds h =
      ⊎_elim (λ k. absurd (takings_owe (takings ds) k)) (λ k. has_besides ds k)
      (among_either (all_of Closings) (owed_takings (takings ds)) (owed_besides ds) h)

  -- one that tells all of a list has closed the channel
  pub teller_has_closed : (told : List Telling) (line : WaitList) (closer : Closer) (ds : List (MarkedMoment T W))
      → ToldAt told (let at : Stage (Phase T) T W = Working (TellAll line closer) in at) ds → HasClosed ds
  teller_has_closed told line closer ds h =
      has_owed ds (subst (λ (ts : List Telling). IsAmong (all_of Closings) ts) h
      (among_right (all_of Closings) told (all_from line) (closings_last line)))

  pub told_has_closed : (line : WaitList) (told : List Telling) (at : Stage (Phase T) T W) (ds : List (MarkedMoment T W)) → ToldAt told at ds → HasToTell line at → HasClosed ds
  told_has_closed line told (Working (TellAll next closer)) ds h tells = teller_has_closed told next closer ds h
  told_has_closed line told at ds h tells = absurd tells

  -- ---- marks

  had_or_last : (ds : List (MarkedMoment T W)) (d : MarkedMoment T W) → HasClosed (ds ++ d ∷ []) → HasClosed ds ⊎ (d.mark ≡ Close)
  had_or_last [] d (inl h) = inr h
  had_or_last [] d (inr h) = absurd h
  had_or_last (x ∷ ds) d (inl h) = inl (inl h)
  had_or_last (x ∷ ds) d (inr h) = ⊎_elim (λ k. inl (inr k)) (λ k. inr k) (had_or_last ds d h)

  -- a call that has closed after its step had so before, or the step did
  pub closed_before : (ds : List (MarkedMoment T W)) (m : Mark) (c : Channel T W) (seen : List (Channel T W))
      → HasClosed (with_marked ds m c seen) → HasClosed ds ⊎ (m ≡ Close)
  closed_before ds Nothing c seen h = inl h
  closed_before ds m c seen h = had_or_last ds (record { mark = m; before = c; seen = seen }) h

  -- where a step closes the channel it is closed
  pub close_shuts : (c : Channel T W) (at : Stage (Phase T) T W) (e : Effect T W) (r : Option (Reply T))
      (s : Stage (Phase T) T W) → Moves c at e r s → e.mark ≡ Close → Shut e.channel
  close_shuts c at e r s g closes =
      moves_by c at (λ m q. m ≡ Close → IsShut q) (λ f y m is says. queue_closes c.queue f m) (λ m still is. absurd (subst IsStill is still)) e r s g closes
