-- A seat through several steps.
use Rattle.std.proofs.Common.{◌∙◌}
use Rattle.growing_table.specs.Seats.{Follows}
use Rattle.growing_table.specs.declared.seat.GrowingSeat.{GrowingSeat}

pub follows_on : {T V H : Type 0} → (a b c : GrowingSeat T V H) → Follows a b → Follows b c → Follows a c
follows_on a b c f g = ((g.0.0 ∙ f.0.0, g.0.1 ∙ f.0.1, g.0.2 ∙ f.0.2, g.0.3 ∙ f.0.3, λ k p h. g.0.4 k p (f.0.4 k p h)), g.1 ∙ f.1)
