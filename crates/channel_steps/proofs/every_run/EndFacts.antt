-- What a call says at its end.
use Rattle.std.proofs.Common.{Option, None, Some}
use Rattle.std.specs.Prelude.{IfSome}
use Rattle.channel_steps.proofs.every_run.Words.{Reply, Returned, ActiveCall, MayFinish, Finishes, EndSays}

module _ {T W : Type 0} where
  end_says : (u : ActiveCall T W) (r : Reply T) (left : Option (Returned T)) → Finishes u r left → EndSays u r left
  end_says u r left f = record {
    row = f.met;
    told = f.all_told;
    kept = f.kept;
    leaves = f.given;
    keeps = f.keeps;
  }

  pub may_end : (u : ActiveCall T W) (r : Option (Reply T)) (left : Option (Returned T)) → MayFinish u r left → IfSome r (λ x. EndSays u x left)
  may_end u None left f = tt
  may_end u (Some r) left f = end_says u r left f
