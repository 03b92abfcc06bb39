-- Waiting receives over runs.
use Rattle.std.proofs.Common.{ℕ, List, Option}
use Rattle.channel_steps.proofs.every_run.Words.{Receives, Next, new_configuration, Configuration, Entry, Step, HoldsListener, counts_for_receives, MessagesAreFew, ReceivesSound, ReceivesStayOwed, NoReceiveIsForgotten}
use Rattle.channel_steps.proofs.every_run.Notices.{tellings_next, tellings_new}
use Rattle.channel_steps.proofs.every_run.RunFacts.{kept_long}
use Rattle.channel_steps.proofs.every_run.Owed.{pending_owed}
use Rattle.channel_steps.proofs.every_run.PayMoves.{OneByDefault, one_next}
use Rattle.channel_steps.proofs.every_run.ReceiveMoves.{receive_ledger}

module _ {T W : Type 0} where
  pub receives_next : (s : Configuration T W) (x : Step T W) (e : Entry T) (names : List W) (t : Configuration T W) → Next s x e names t
      → ReceivesSound s → ReceivesSound t
  receives_next s x e names t n sound =
      record {
        tellings = tellings_next s x e names t n sound.tellings;
        owed = one_next Receives tt MessagesAreFew counts_for_receives receive_ledger s x e names t n sound.tellings sound.owed;
      }

  pub receives_new : (cap : Option ℕ) → ReceivesSound (new_configuration {T = T} {W = W} cap)
  receives_new cap = record { tellings = tellings_new cap; owed = λ key w. absurd w }

module _ (T W : Type 0) where
  pub receives_stay_owed : ReceivesStayOwed T W
  receives_stay_owed s t steps trace h run = kept_long ReceivesSound receives_next s t steps trace h run

  pub no_receive_is_forgotten : NoReceiveIsForgotten T W
  no_receive_is_forgotten cap t steps trace run =
      let h = receives_stay_owed (new_configuration cap) t steps trace (receives_new cap) run in
      (h.owed, pending_owed Receives MessagesAreFew counts_for_receives (HoldsListener Receives) (OneByDefault Receives tt MessagesAreFew counts_for_receives) t h.owed)
