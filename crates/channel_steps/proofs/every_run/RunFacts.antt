-- What every entry of a run keeps, a run keeps.
use Rattle.std.proofs.Common.{List}
use Rattle.channel_steps.proofs.every_run.Words.{Next, IsRun, NextConfiguration, Configuration, Entry, Step}
use Rattle.channel_steps.proofs.Interface.{run_keeps}

module _ {T W : Type 0} (P : Configuration T W → Type 0)
    (each : (s : Configuration T W) (x : Step T W) (e : Entry T) (names : List W) (t : Configuration T W) → Next s x e names t → P s → P t)
  where
    pub kept_long : (s t : Configuration T W) (xs : List (Step T W)) (es : List (Entry T)) → P s → IsRun NextConfiguration s xs es t → P t
    kept_long s t xs es h run = run_keeps NextConfiguration P (λ a x e b n k. each a x e n.0 b n.1 k) s xs es t run h
