use Rattle.std.proofs.Common.{◌≡◌, ◌<◌, ◌^◌, drop}
use Rattle.channel_world_language.specs.Words.{value_after}
use Rattle.channel_world_language.proofs.words.number.Given as goal

abbrev pub invariant-loop-digit : goal.invariant-loop-digit
invariant-loop-digit l = record { value : value_after 0 l.digits ≡ value_after l.value (drop l.digit-index l.digits); fits : l.value < 2 ^ 64 }
