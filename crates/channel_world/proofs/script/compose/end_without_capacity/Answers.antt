use Rattle.std.specs.Prelude.{◌++◌, ◌∷◌}
use Rattle.channel_world.proofs.Lemmas.{[], codes, refl, append_assoc, ending, Capacity, refused, stays_by}
use Rattle.channel_world.proofs.script.compose.end_without_capacity.Goals as goal

pub returns-in_err-add_line : goal.returns-in_err-add_line
returns-in_err-add_line c =
    refused (ending Capacity) c.from_residual.result c.args.out.now.items c.add_line.new.out.items c.from_residual.ensures.0
    (stays_by (ending Capacity) c.args.out.now.items c.add_line.new.out.items c.in_err-add_line.ensures.err)

pub returns : goal.returns
returns c = (codes "capacity must be positive" ++ 10 ∷ [], simp append_assoc at c.in_ok-add_line.ensures.ok, (refl, refl))
