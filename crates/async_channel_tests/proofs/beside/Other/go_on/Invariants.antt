use Rattle.std.specs.Prelude.{◌≡◌}
use Rattle.channel_calls.specs.Plain.{form_of}
use Rattle.async_channel_tests.proofs.beside.Other.go_on.Given as goal

abbrev pub invariant-steps : goal.invariant-steps
invariant-steps l = form_of l.cells.channel ≡ form_of l.initial.cells.channel
