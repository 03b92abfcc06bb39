-- What a script may write.
use Rattle.std.specs.Prelude.{◌≡◌, ◌⊎◌, ◌∷◌, ◌++◌}
use Rattle.channel_world.specs.Words.{ℕ, List, [], take, codes, Option, ScriptEnd, Done, Unreadable, Capacity, Memory, Fault}
use Rattle.std.specs.Fmt.{decimal}
use Rattle.std.specs.Io.KnownBytes.{Appends}
use Rattle.channel_world.specs.Script.{Script, script}

-- every line ends with a line feed
abbrev pub text_of_lines : List (List ℕ) → List ℕ
text_of_lines [] = []
text_of_lines (line ∷ lines) = line ++ 10 ∷ text_of_lines lines

-- the line after the reply lines
abbrev pub last_lines : ScriptEnd → List (List ℕ)
last_lines Done = []
last_lines (Unreadable n) = (codes "line " ++ decimal n ++ codes ": can't be read") ∷ []
last_lines Capacity = codes "capacity must be positive" ∷ []
last_lines Memory = codes "want of memory" ∷ []
last_lines Fault = codes "read fault" ∷ []

abbrev pub text_of_script : Script → List ℕ
text_of_script s = text_of_lines (s.replies ++ last_lines s.end)

-- The text for this input and this end: that of the script; if memory was refused, some of its reply lines, and
-- nothing past them but the last line; where the reading failed, the last line alone.
abbrev pub IsText : List ℕ → ScriptEnd → List ℕ → Type 0
IsText input Memory text = (k : ℕ) × (text ≡ text_of_lines (take k (script input).replies ++ last_lines Memory))
IsText input Fault text = text ≡ text_of_lines (last_lines Fault)
IsText input end text = (end ≡ (script input).end) × (text ≡ text_of_script (script input))

-- out stands at the front of text
abbrev pub IsFrontOf : List ℕ → List ℕ → Type 0
IsFrontOf out text = (rest : List ℕ) × (text ≡ out ++ rest)

-- known bytes grow by a front of the text
abbrev pub AppendsFront : Option (List ℕ) → Option (List ℕ) → List ℕ → Type 0
AppendsFront old new text = (out : List ℕ) × Appends old new out × IsFrontOf out text

-- how a script ends that was not read
abbrev pub IsReadEnd : ScriptEnd → Type 0
IsReadEnd Memory = Unit {0}
IsReadEnd Fault = Unit {0}
IsReadEnd end = ⊥

-- the last line that stands in no composed text
abbrev pub late_line : ScriptEnd → List ℕ
late_line Memory = text_of_lines (last_lines Memory)
late_line Fault = text_of_lines (last_lines Fault)
late_line end = []

-- A text is written whole, and the script ends as it was to; or a front of it, and then there was a fault.
abbrev pub WritesText : List ℕ → ScriptEnd → ScriptEnd → Option (List ℕ) → Option (List ℕ) → Type 0
WritesText text meant end old new = ((end ≡ meant) × Appends old new text) ⊎ ((end ≡ Fault) × AppendsFront old new text)

-- what a writer holds grows by a text for this input, or by a front of one
abbrev pub WritesScript : List ℕ → ScriptEnd → Option (List ℕ) → Option (List ℕ) → Type 0
WritesScript input end old new = (meant : ScriptEnd) × (text : List ℕ) × IsText input meant text × WritesText text meant end old new

abbrev pub status_of : ScriptEnd → ℕ
status_of Done = 0
status_of (Unreadable n) = 2
status_of Capacity = 3
status_of Memory = 4
status_of Fault = 5
