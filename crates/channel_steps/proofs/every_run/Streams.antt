-- Waiting streams over runs.
use Rattle.std.proofs.Common.{ℕ, List, Option, ⊎_elim, inl, inr, refl}
use Rattle.channel_steps.proofs.every_run.Words.{Streams, Next, new_configuration, Configuration, Entry, Step, IsSending, IsBringing, HasInHand, PendingStreamsAreOwed, StreamsAreOwed, StreamsSound, StreamsStayOwed, NoStreamIsForgotten}
use Rattle.channel_steps.proofs.Interface.{known_next}
use Rattle.channel_steps.proofs.every_run.AllOwed.{as_counts, as_calls}
use Rattle.channel_steps.proofs.every_run.AnyFacts.{any_but}
use Rattle.channel_steps.proofs.every_run.ListMoves.{apart_next}
use Rattle.channel_steps.proofs.every_run.Owed.{owed_next}
use Rattle.channel_steps.proofs.every_run.RunFacts.{kept_long}
use Rattle.channel_steps.proofs.every_run.StreamMoves.{counts_for_streams, tells_counts, NoMessages, Tells, NoneOrTold, stream_ledger}

module _ {T W : Type 0} where
  pub sound_next : (s : Configuration T W) (x : Step T W) (e : Entry T) (names : List W) (t : Configuration T W) → Next s x e names t → StreamsSound s → StreamsSound t
  sound_next s x e names t n sound =
      let k = known_next s x e names t n sound.known sound.balanced in
      record {
        known = k.0;
        balanced = k.1;
        apart = apart_next Streams s x e names t n sound.apart;
        owed = λ key w. as_calls NoMessages Tells HasInHand counts_for_streams t key (λ u h. let k = tells_counts u.ask u.at in k.1) k.0
            (owed_next Streams NoneOrTold counts_for_streams HasInHand (λ c. ⊥) stream_ledger s x e names t n sound.known sound.apart (λ d. absurd d)
            (λ key w. as_counts NoMessages Tells HasInHand counts_for_streams s key (λ u. let k = tells_counts u.ask u.at in k.0) (sound.owed key w)) key w);
      }

  pub new_sound : (cap : Option ℕ) → StreamsSound (new_configuration {T = T} {W = W} cap)
  new_sound cap = record { known = tt; balanced = refl; apart = tt; owed = λ key w. inl refl }

  pub pending_owed : (s : Configuration T W) → StreamsAreOwed s → PendingStreamsAreOwed s
  pending_owed s owed key w none =
      ⊎_elim (λ h. inl h)
      (λ h. inr (any_but (λ u. IsSending u.ask × IsBringing u.at) (λ u. HasInHand key u.at) s.under_way h none)) (owed key w)

module _ (T W : Type 0) where
  pub streams_stay_owed : StreamsStayOwed T W
  streams_stay_owed s t steps trace h run = kept_long StreamsSound sound_next s t steps trace h run

  pub no_stream_is_forgotten : NoStreamIsForgotten T W
  no_stream_is_forgotten cap t steps trace run = let h = streams_stay_owed (new_configuration cap) t steps trace (new_sound cap) run in (h.owed, pending_owed t h.owed)
