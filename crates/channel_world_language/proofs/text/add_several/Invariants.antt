use Rattle.std.proofs.Common.{◌≡◌, ◌++◌, ◌∷◌, take, codes}
use Rattle.std.specs.Fmt.{decimal}
use Rattle.std.specs.List.{flat_map}
use Rattle.channel_world_language.proofs.text.add_several.Given as goal

abbrev pub invariant-loop-message : goal.invariant-loop-message
invariant-loop-message l = l.line.items ≡ l.fn.line.items ++ codes "ok" ++ flat_map (λ m. 32 ∷ decimal m) (take l.message-index l.messages)
