-- What is known of a call once it has taken its turn.
use Rattle.std.proofs.Common.{◌≡◌, true, false, List, [], ◌∷◌, ◌++◌, Option, None, Some, sym, ap, ◌∙◌, subst, append-nil}
use Rattle.channel_steps.proofs.Words.{Phase, trying, Channel, Turned, leaving, ends_by, again, ChannelAsk, Reply, Ending, ListenerRef, Returned, Stage, Finished, NextStep, Tries, Works, Ends, Waiting, Leave, Key, MarkedMoment, Keeps, Met, TriesFor, TriesAt, IsFor, Answered, WorkAt, StageAt, to_tell, ToldAt, Telling, owed}
use Rattle.channel_calls.specs.declared.ask.ChannelAsk.TheVariants as channel
use Rattle.channel_calls.specs.declared.stage.Waiting.TheVariants as waiting

module _ {T W : Type 0} where
  module _ (c : Channel T W) (x : ChannelAsk T W) (told : List Telling) (ds : List (MarkedMoment T W)) (seen : List (Channel T W)) where
    -- what is known of a call that takes this turn
    abbrev pub TurnAt : NextStep T W → Type 0
    TurnAt (Tries a purpose) = (TriesFor x purpose a ds seen × TriesAt c purpose a (trying false) ds seen) × (told ≡ [])
    TurnAt (Works w) = WorkAt x w ds seen × (told ++ to_tell w ≡ owed ds)
    TurnAt (Ends y kept) = (Met x ds seen y × Keeps x y kept) × (told ++ [] ≡ owed ds)

    -- and of it at its stage, or at its end
    abbrev pub After : Option (Reply T) → Stage (Phase T) T W → Type 0
    After None s = StageAt c x s ds seen × ToldAt told s ds
    After (Some y) s = (kept : Returned T) × (s ≡ Finished kept) × Met x ds seen y × Keeps x y kept × (told ≡ owed ds)

    pub turned_at : (turn : NextStep T W) (r : Option (Reply T)) (s : Stage (Phase T) T W) → Turned turn r s → TurnAt turn → After r s
    turned_at (Tries a purpose) None s h k =
        subst (λ (z : Stage (Phase T) T W). StageAt c x z ds seen × ToldAt told z ds) (sym h.1) k
    turned_at (Tries a purpose) (Some y) s h k = absurd (let no : Some y ≡ None = h.0 in cc)
    turned_at (Works w) None s h k =
        subst (λ (z : Stage (Phase T) T W). StageAt c x z ds seen × ToldAt told z ds) (sym h.1) k
    turned_at (Works w) (Some y) s h k = absurd (let no : Some y ≡ None = h.0 in cc)
    turned_at (Ends y kept) None s h k = absurd (let no : None ≡ Some y = h.0 in cc)
    turned_at (Ends y kept) (Some z) s h k =
        let same : Some z ≡ Some y = h.0 in
        let e : z ≡ y = cc in
        (kept, h.1, subst (λ (v : Reply T). Met x ds seen v) (sym e) k.0.0, subst (λ (v : Reply T). Keeps x v kept) (sym e) k.0.1, sym (append-nil told) ∙ k.1)

    held_or_not : (e : Ending T) (o : Option ListenerRef) → Answered x e ds seen → told ++ [] ≡ owed ds
        → TurnAt (elim o [ None ↦ Ends e.reply (leaving None e.message) | Some held ↦ Works (Leave e) ])
    held_or_not e None h k = (h, k)
    held_or_not e (Some held) h k = (h, k)

    -- the answer is fixed: it is given, or a listener is dropped first
    pub ended : (e : Ending T) → Answered x e ds seen → told ++ [] ≡ owed ds → TurnAt (ends_by e)
    ended e h k = held_or_not e e.held h k

  -- and stays met
  pub met_more : (c : Channel T W) (x : ChannelAsk T W) (ds : List (MarkedMoment T W)) (seen : List (Channel T W)) (y : Reply T) → Met x ds seen y → Met x ds (c ∷ seen) y
  met_more c x ds seen y h = (c ∷ h.0, h.1, ap (λ (cs : List (Channel T W)). c ∷ cs) h.2, h.3)

  -- a call with no marks has told nobody, and owes nothing
  pub owes_nothing : (ds : List (MarkedMoment T W)) → ds ≡ [] → let none : List Telling = [] in none ≡ owed ds
  owes_nothing ds e = ap (λ (xs : List (MarkedMoment T W)). owed xs) (sym e)

  pub told_nobody : (told : List Telling) (ds : List (MarkedMoment T W)) → told ++ [] ≡ owed ds → ds ≡ [] → told ≡ []
  told_nobody told ds h e = sym (append-nil told) ∙ h ∙ sym (owes_nothing ds e)

  -- a poll tries once more
  pub tries_again : (c : Channel T W) (told : List Telling) (ds : List (MarkedMoment T W)) (seen : List (Channel T W)) (x : ChannelAsk T W) (w : Waiting T) (key : Option Key) (task : W)
      → IsFor x w → ds ≡ [] → told ≡ [] → TurnAt c x told ds seen (again w key task)
  tries_again c told ds seen (channel.PollSend m k t) (waiting.Send v) key task h e n = ((h, (e, λ no. absurd (let z : false ≡ true = no in cc))), n)
  tries_again c told ds seen (channel.PollRecv k t) waiting.Receive key task h e n = ((tt, e), n)
  tries_again c told ds seen (channel.PollNext k t) waiting.Stream key task h e n = ((tt, e), n)
  tries_again c told ds seen (channel.PollClosed k t) waiting.Closing key task h e n = ((tt, e), n)
  tries_again c told ds seen x w key task h e n = absurd h
