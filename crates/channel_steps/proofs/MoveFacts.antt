-- What every step of a call leaves as it is, and where it ends.
use Rattle.std.proofs.Common.{◌≡◌, List, ℕ, suc, ◌+◌, ◌≤◌, [], Bool, true, false, if◌then◌else◌, Option, None, Some, ⊎_elim, inl, inr, refl, sym, ap, ◌∙◌, subst, arith}
use Rattle.channel_steps.proofs.Words.{Queue, Phase, IsInRange, QueueCall, Reply, ListenerRef, Returned, Side, Senders, Receivers, Mark, Stage, Trying, Working, Finished, NextStep, Tries, Works, Ends, ListStep, Insert, Leave, Lower, Raise, kept_by, up, down, is_raised, Channel, Effect, untouched, on_count, leaves, Turned, Worked, Moves, seats, phase, HasRange, ChannelAsk, gone_by, came_by}
use Rattle.channel_calls.specs.declared.mark.Mark.TheVariants as mark
use Rattle.channel_steps.specs.every_run.Ends.{IsStill}
use Rattle.channel_steps.proofs.LeftFacts.{work_lessens}
use Rattle.channel_steps.proofs.StageFacts.{phase_end}

other_up : (side : Side) → IsStill (up side)
other_up Senders = tt
other_up Receivers = tt

other_down : (side : Side) → IsStill (down side)
other_down Senders = tt
other_down Receivers = tt

-- ---- marks that leave the queue as it is

module _ {T : Type 0} where
  pub nothing_gone : (m : Mark) (items : List T) → IsStill m → gone_by m items ≡ []
  nothing_gone mark.Take items h = absurd h
  nothing_gone mark.TakeDisplaced items h = absurd h
  nothing_gone mark.Replace items h = absurd h
  nothing_gone m items h = refl

module _ {T W : Type 0} where
  pub nothing_came : (m : Mark) (x : ChannelAsk T W) → IsStill m → came_by m x ≡ []
  nothing_came mark.Append x h = absurd h
  nothing_came mark.Replace x h = absurd h
  nothing_came m x h = refl

  -- a step on a list or a count leaves the queue as it is, and has no mark but of a count
  abbrev pub Spares : Channel T W → Effect T W → Type 0
  Spares c e = (e.channel.queue ≡ c.queue) × IsStill e.mark

  spares_as : (c : Channel T W) (e e' : Effect T W) → e ≡ e' → Spares c e' → Spares c e
  spares_as c e e' same h = subst (λ (x : Effect T W). Spares c x) (sym same) h

  leaves_spares : (h : Option ListenerRef) (c : Channel T W) → Spares c (leaves h c)
  leaves_spares None c = (refl, tt)
  leaves_spares (Some h) c = (refl, tt)

  raises_spares : (b : Bool) (side : Side) (n : ℕ) (c : Channel T W) → Spares c (if b then on_count side (n + 1) (up side) c else untouched c)
  raises_spares true side n c = (refl, other_up side)
  raises_spares false side n c = (refl, tt)

  pub worked_spares : (c : Channel T W) (w : ListStep T W) (e : Effect T W) (r : Option (Reply T)) (s : Stage (Phase T) T W) → Worked c w e r s → Spares c e
  worked_spares c (Insert w task) e r s (inl h) = spares_as c e _ h.2 (refl, tt)
  worked_spares c (Insert w task) e r s (inr h) = spares_as c e _ h.1 (refl, tt)
  worked_spares c (Leave x) e r s h = spares_as c e _ h.0 (leaves_spares x.held c)
  worked_spares c (Lower side key) e r s h = spares_as c e _ h.0 (refl, other_down side)
  worked_spares c (Raise side n making) e r s h = spares_as c e _ h.0 (raises_spares (is_raised side n c.wait_lists) side n c)
  worked_spares c w e r s h = spares_as c e _ h.0 (refl, tt)

  -- ---- where a call ends

  turned_ends : (turn : NextStep T W) (y : Reply T) (s : Stage (Phase T) T W) → Turned turn (Some y) s → (kept : Returned T) × (s ≡ Finished kept)
  turned_ends (Tries x purpose) y s h = absurd (let no : Some y ≡ None = h.0 in cc)
  turned_ends (Works w) y s h = absurd (let no : Some y ≡ None = h.0 in cc)
  turned_ends (Ends x kept) y s h = (kept, h.1)

  moves_end : (c : Channel T W) (at : Stage (Phase T) T W) (e : Effect T W) (y : Reply T) (s : Stage (Phase T) T W) → Moves c at e (Some y) s → (kept : Returned T) × (s ≡ Finished kept)
  moves_end c (Trying f purpose) e y s h =
      ⊎_elim (λ k. absurd (let no : Some y ≡ None = k.2 in cc)) (λ k. turned_ends _ y s k.2) h.how
  moves_end c (Working w) e y s h = let b = work_lessens c e (Some y) s w h in turned_ends b.turn y s b.turned
  moves_end c (Finished kept) e y s h = absurd (let no : Some y ≡ None = h.1 in cc)

  pub kept_at : (f : Phase T) (s : Stage (QueueCall T) T W) (kept : Returned T) → phase f s ≡ Finished kept → kept_by s ≡ kept
  kept_at f s kept e = ap (λ (z : Stage (QueueCall T) T W). kept_by z) (phase_end f kept s e)

  -- a call that has answered has no call of the queue under way
  pub answered_alone : (c : Channel T W) (at : Stage (Phase T) T W) (e : Effect T W) (y : Reply T) (f : Phase T) (s : Stage (QueueCall T) T W) → Moves c at e (Some y) (phase f s) → seats f s ≡ []
  answered_alone c at e y f s h = let k = moves_end c at e y (phase f s) h in ap (λ (z : Stage (QueueCall T) T W). seats f z) (phase_end f k.0 s k.1)

module _ {T : Type 0} where
  pub in_range : (n : ℕ) (q : Queue T) → HasRange n q → IsInRange q
  in_range n q (inl h) = inl h
  in_range n q (inr h) = inr (omega arith)

  pub range_grows : (n : ℕ) (q q' : Queue T) → q'.capacity ≡ q.capacity → q'.accepted ≤ q.accepted + 1 → HasRange (suc n) q → HasRange n q'
  range_grows n q q' e k (inl h) = inl (e ∙ h)
  range_grows n q q' e k (inr h) = inr (omega arith)
