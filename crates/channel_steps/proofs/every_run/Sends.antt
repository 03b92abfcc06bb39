-- Waiting sends over runs.
use Rattle.std.proofs.Common.{ℕ, List, Option}
use Rattle.channel_steps.proofs.every_run.Words.{Sends, Next, new_configuration, Configuration, Entry, Step, HoldsListener, counts_for_sends, PlacesAreFew, SendsSound, SendsStayOwed, NoSendIsForgotten}
use Rattle.channel_steps.proofs.every_run.Notices.{tellings_next, tellings_new}
use Rattle.channel_steps.proofs.every_run.RunFacts.{kept_long}
use Rattle.channel_steps.proofs.every_run.Owed.{pending_owed}
use Rattle.channel_steps.proofs.every_run.PayMoves.{OneByDefault, one_next}
use Rattle.channel_steps.proofs.every_run.SendMoves.{send_ledger}

module _ {T W : Type 0} where
  pub sends_next : (s : Configuration T W) (x : Step T W) (e : Entry T) (names : List W) (t : Configuration T W) → Next s x e names t
      → SendsSound s → SendsSound t
  sends_next s x e names t n sound =
      record {
        tellings = tellings_next s x e names t n sound.tellings;
        owed = one_next Sends tt PlacesAreFew counts_for_sends send_ledger s x e names t n sound.tellings sound.owed;
      }

  pub sends_new : (cap : Option ℕ) → SendsSound (new_configuration {T = T} {W = W} cap)
  sends_new cap = record { tellings = tellings_new cap; owed = λ key w. absurd w }

module _ (T W : Type 0) where
  pub sends_stay_owed : SendsStayOwed T W
  sends_stay_owed s t steps trace h run = kept_long SendsSound sends_next s t steps trace h run

  pub no_send_is_forgotten : NoSendIsForgotten T W
  no_send_is_forgotten cap t steps trace run =
      let h = sends_stay_owed (new_configuration cap) t steps trace (sends_new cap) run in
      (h.owed, pending_owed Sends PlacesAreFew counts_for_sends (HoldsListener Sends) (OneByDefault Sends tt PlacesAreFew counts_for_sends) t h.owed)
