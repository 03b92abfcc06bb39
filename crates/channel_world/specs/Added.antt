-- What a script, or the rest of one, adds to the output.
use Rattle.std.specs.Prelude.{◌≡◌, ◌++◌}
use Rattle.channel_world.specs.Words.{ℕ, List, take, ScriptEnd, Memory, Fault}
use Rattle.channel_world.specs.Script.{Script}
use Rattle.channel_world.specs.Output.{text_of_lines, text_of_script}

-- its text; if memory was refused, some of its reply lines
abbrev pub Adds : Script → ScriptEnd → List ℕ → Type 0
Adds script Memory text = (k : ℕ) × (text ≡ text_of_lines (take k script.replies))
Adds script Fault text = ⊥
Adds script end text = (end ≡ script.end) × (text ≡ text_of_script script)

-- the output old has become new
abbrev pub Extends : Script → ScriptEnd → List ℕ → List ℕ → Type 0
Extends script end old new = (added : List ℕ) × (new ≡ old ++ added) × Adds script end added
