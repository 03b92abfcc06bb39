-- Those who wait on a closed channel, over runs.
use Rattle.std.proofs.Common.{◌≡◌, ℕ, Bool, true, false, List, Option, ◌⊎◌, ⊎_elim, inl, inr, refl, sym, ◌∙◌}
use Rattle.channel_steps.proofs.every_run.Words.{Key, WaitList, Sends, Open, Shut, Next, new_configuration, Configuration, Entry, Step, HasClosed, HasToTell, LooksAgain, ClosingIsOwed, PendingIsOwedTheClosing, AnswersClosed, ClosingSound, ClosingStaysOwed, EachRunOwesTheClosing, WaitApart, Any}
use Rattle.channel_steps.proofs.Interface.{known_next}
use Rattle.channel_steps.proofs.every_run.AllOwed.{as_counts, as_calls}
use Rattle.channel_steps.proofs.every_run.AnyFacts.{any_but}
use Rattle.channel_steps.proofs.every_run.ClosingMoves.{counts_for_closing, tell_counts, TellsIt, OpenOrTold, closing_ledger}
use Rattle.channel_steps.proofs.every_run.ListMoves.{apart_next}
use Rattle.channel_steps.proofs.every_run.NoticeMoves.{told_has_closed}
use Rattle.channel_steps.proofs.every_run.Owed.{owed_next}
use Rattle.channel_steps.proofs.every_run.RunFacts.{kept_long}

module _ {T W : Type 0} where
  module _ (line : WaitList) (s : Configuration T W) (key : Key) where
    abbrev IsAnswered : Type 0
    IsAnswered = Any (AnswersClosed line key) s.under_way

    -- if it is closed a call is responsible for the waiting one; so it is open, or one is responsible
    open_or : (Shut s.now → IsAnswered) → Open s.now ⊎ IsAnswered
    open_or f = by s.now.queue.closed refl
      where
        by : (b : Bool) → s.now.queue.closed ≡ b → Open s.now ⊎ IsAnswered
        by true shut = inr (f shut)
        by false unshut = inl unshut

  pub sound_next : (s : Configuration T W) (x : Step T W) (e : Entry T) (names : List W) (t : Configuration T W) → Next s x e names t → ClosingSound s → ClosingSound t
  sound_next s x e names t n sound =
      let k = known_next s x e names t n sound.known sound.balanced in
      record {
        known = k.0;
        balanced = k.1;
        apart = λ line. apart_next line s x e names t n (sound.apart line);
        owed = λ line key shut w. ⊎_elim (λ unshut. absurd (let never : true ≡ false = sym shut ∙ unshut in cc)) (λ h. h) (as_calls Open (TellsIt line) (LooksAgain line) (counts_for_closing line) t key (λ u known h. let k = tell_counts line u.ask u.at in let tells = k.1 h in (told_has_closed line u.told u.at u.marks known.tells tells, tells)) k.0
            (owed_next line (OpenOrTold line) (counts_for_closing line) (LooksAgain line) (λ c. ⊥) (closing_ledger line) s x e names t n sound.known (sound.apart line) (λ d. absurd d)
            (λ key w. as_counts Open (TellsIt line) (LooksAgain line) (counts_for_closing line) s key (λ u h. let k = tell_counts line u.ask u.at in k.0 h.1)
            (open_or line s key (λ shut. sound.owed line key shut w))) key w));
      }

module _ (T W : Type 0) where
  pub new_apart : (cap : Option ℕ) (line : WaitList) → WaitApart line (let s : Configuration T W = new_configuration cap in s.now)
  new_apart cap Sends = tt
  new_apart cap line = tt

module _ {T W : Type 0} where
  pub new_sound : (cap : Option ℕ) → ClosingSound (new_configuration {T = T} {W = W} cap)
  new_sound cap = record { known = tt; balanced = refl; apart = new_apart T W cap; owed = λ line key shut w. absurd cc }

  pub pending_owed : (s : Configuration T W) → ClosingIsOwed s → PendingIsOwedTheClosing s
  pending_owed s owed line key shut w none =
      any_but (λ u. HasClosed u.marks × HasToTell line u.at) (λ u. LooksAgain line key u.at) s.under_way (owed line key shut w) none

module _ (T W : Type 0) where
  pub closing_stays_owed : ClosingStaysOwed T W
  closing_stays_owed s t steps trace h run = kept_long ClosingSound sound_next s t steps trace h run

  pub nobody_misses_the_closing : EachRunOwesTheClosing T W
  nobody_misses_the_closing cap t steps trace run = let h = closing_stays_owed (new_configuration cap) t steps trace (new_sound cap) run in (h.owed, pending_owed t h.owed)
