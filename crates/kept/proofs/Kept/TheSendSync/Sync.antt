use denote.RattleType.{RattleType}
use denote.Param.Send.{IsSend, IsSync, part_keyless}
use Rattle.kept.specs.contracts.Kept.{the_row}
use Rattle.kept.proofs.Kept.TheSendSync.Send.{send}

-- a `&` has fractions of the whole value, and no way to the value
pub sync : (X : RattleType) → IsSend X → IsSync (the_row X)
sync X s = record { shared = λ d b o κ q. part_keyless (the_row X) (send X s) q d b o }
